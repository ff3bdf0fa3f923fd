-- `printing::put_centre` meets its contract, by the two cases of the answer: a centre or none.
use Prim.Native.Nat.{ℕ, ◌+◌, ◌-◌, ◌*◌}
use mathlib.Core.Path.{◌≡◌, refl, ap, sym, ◌∙◌}
use mathlib.Core.List.{List, [], ◌∷◌, ◌++◌, append_assoc}
use native.Mathlib.Omega.{arith}
use borrow.Author.Rules.{rules}
use borrow.Rule.Slice.PartMut.{put_mid}
use lib.ListN.{length, take, drop}
use lib.Seq.{drop-drop}
use Rattle.centroid.specs.declared.CentroidRefusal.{CentroidRefusal}
use Rattle.centroid.specs.declared.CentroidRefusal.TheVariants.{OutsideLimits, NoArea}
use Rattle.centroid.specs.Centroid.{refused, outline_centroid_call}
use Rattle.centroid.specs.Answers.{centroid_number}
use Rattle.decimals.specs.Decimal.{field}
use Rattle.decimals.specs.Buffer.{field_room, overwritten, Written}
use Rattle.decimals.proofs.BufferLaws.{none_yet}
use Rattle.decimals.proofs.FieldLaws.{and_field}
use Rattle.printing.specs.Output.{centre_text}
use Rattle.printing.proofs.put_centre.Goals as goal

-- ---- the answer is not a centre

no_centre_lem : (r : CentroidRefusal) → centre_text (refused (centroid_number r)) ≡ 9 ∷ 45 ∷ 9 ∷ 45 ∷ []
unfolding centre_text
no_centre_lem OutsideLimits = refl
no_centre_lem NoArea = refl

-- Four bytes are copied over those at `at`.
copied : (o text : List ℕ) (at k : ℕ) → length text ≡ k → Written o at text (put_mid at (at + k - at) o text) (at + k)
unfolding overwritten
copied o text at k e = let size : at + k - at ≡ k = omega arith in rw size (record { buffer = rw e (ap (λ l. take at o ++ (text ++ l)) (drop-drop k at o) ∙ sym (append_assoc (take at o) text (drop (at + k) o))); end = rw e refl })

pub returns-in_default : goal.returns-in_default
returns-in_default c =
    let missing : centre_text (outline_centroid_call c.args.t) ≡ 9 ∷ 45 ∷ 9 ∷ 45 ∷ [] = ap centre_text (sym c.in_default.ensures) ∙ no_centre_lem c.in_default.field-0 in
    rw missing (rw c.copy_from_slice.ensures.after (copied c.args.out.now (9 ∷ 45 ∷ 9 ∷ 45 ∷ []) c.args.at 4 refl))

-- ---- the answer is a centre

pub returns : goal.returns
unfolding centre_text
returns c =
    let none = none_yet c.args.out.now c.args.at (2 * field_room) c.requires in
    let one = and_field field_room none c.in-Ok.centre.x (search rules) c.put_field-a.ensures in
    let both = (and_field 0 one c.in-Ok.centre.y (search rules) c.put_field.ensures).written in
    let found : field c.in-Ok.centre.x ++ field c.in-Ok.centre.y ≡ centre_text (outline_centroid_call c.args.t) = ap centre_text c.in-Ok.ensures in
    rw found at both
