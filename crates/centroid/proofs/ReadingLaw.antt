-- The reading of an answer is one to one, so the promises of this crate leave one answer only: the reading gives the answer back.
use mathlib.Core.Path.{◌≡◌, refl, sym, ◌∙◌, ap}
use mathlib.Core.Bool.{cond}
use lib.Dec.{eqb}
use Rattle.std.specs.Prelude.{Result, Ok, Err}
use Rattle.centroid.specs.declared.Centre.{Centre}
use Rattle.centroid.specs.declared.CentroidRefusal.{CentroidRefusal}
use Rattle.centroid.specs.declared.CentroidRefusal.TheVariants.{OutsideLimits, NoArea}
use Rattle.centroid.specs.Centroid.{CentroidOutcome}
use Rattle.centroid.specs.Answers.{reading}

answer : CentroidOutcome → Result Centre CentroidRefusal
answer o = cond (eqb o.number 0) (Ok (record { x = o.x; y = o.y })) (cond (eqb o.number 11) (Err OutsideLimits) (Err NoArea))

answer_of_reading : (a : Result Centre CentroidRefusal) → answer (reading a) ≡ a
unfolding answer
answer_of_reading (Ok c) = refl
answer_of_reading (Err OutsideLimits) = refl
answer_of_reading (Err NoArea) = refl

pub reading_one_to_one : (a b : Result Centre CentroidRefusal) → reading a ≡ reading b → a ≡ b
reading_one_to_one a b e = sym (answer_of_reading a) ∙ ap answer e ∙ answer_of_reading b
