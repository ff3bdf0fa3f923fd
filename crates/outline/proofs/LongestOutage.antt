-- The longest outage that a walk keeps is the greatest, and there is one such float; and what begin, end and abandon do with it, by the cases of each call.
use mathlib.Core.Path.{◌≡◌, refl, sym, ◌∙◌, ap, subst}
use mathlib.Core.Bool.{Bool, true, false, not, cond, true≢false}
use mathlib.Core.List.Memᴰ
use mathlib.Core.List.{List, [], ◌∷◌, Memᴰ}
use mathlib.Core.Logic.{◌≢◌, ◌⊎◌, inl, inr}
use Prim.Native.Nat.{ℕ}
use lib.Dec.{T}
use borrow.Author.Tests.{eqb-false}
use lib.Ieee.{Float, binary32, lt, fits}
use Rattle.receiver.specs.Floats.{plus_zero}
use Rattle.receiver.proofs.FloatOrder.{lt_trans, lt_irrefl, no_less, same_place}
use Rattle.outline.specs.declared.Walk.{Walk}
use Rattle.outline.specs.declared.Sheet.{Sheet}
use Rattle.outline.specs.WalkCalls.{opened, closed, impossible_walk, refused_walk, begin_call, abandon_call}
use Rattle.outline.specs.EntryCalls.{longer}
use Rattle.outline.specs.CallLists.{end, number_of, walk_after, longest_after, reached}
use Rattle.outline.specs.LongestOutage.{Greatest, LongestOutage, OutageAtEnd, OutageCleared}
use Rattle.outline.proofs.CallCases as Case
use Rattle.outline.proofs.Refusals.{walk_unchanged, end_unchanged}
use Rattle.outline.proofs.WalkedOutline.{walked-outline}

-- ---- the greatest of some

-- What the first is not less than, the greatest is not less than.
beside_first : {first : Float} {more : List Float} {x : Float} → Greatest first more x → (o : Float) → lt first o ≡ false → lt x o ≡ false
beside_first {first} {x = x} g o h = elim g.one_of [ inl e ↦ ap (λ y. lt y o) e ∙ h | inr m ↦ no_less first x o m.0 h ]

-- One more before the others: the longer of it and the first stands for both.
one_before : (kept o : Float) (os : List Float) (x : Float) → Greatest (longer kept o) os x → Greatest kept (o ∷ os) x
unfolding longer
one_before kept o os x = go (lt kept o) refl
  where
    none-greater : (b : Bool) → Greatest (cond b o kept) os x → lt x o ≡ false → (y : Float) → Memᴰ y (o ∷ os) → lt x y ≡ false
    none-greater b g h y m = elim (Memᴰ.cases_cons m) [ inl e ↦ ap (lt x) e ∙ h | inr k ↦ g.none-greater y k ]

    go : (b : Bool) → lt kept o ≡ b → Greatest (cond b o kept) os x → Greatest kept (o ∷ os) x
    go true e g =
        record {
          one_of = elim g.one_of [ inl f ↦ inr (ap (lt kept) f ∙ e, Memᴰ.head f) | inr m ↦ inr (lt_trans kept o x e m.0, Memᴰ.tail m.1) ];
          none-greater = none-greater true g (beside_first g o (lt_irrefl o));
        }
    go false e g =
        record {
          one_of = elim g.one_of [ inl f ↦ inl f | inr m ↦ inr (m.0, Memᴰ.tail m.1) ];
          none-greater = none-greater false g (beside_first g o e);
        }

pub greatest_after : (kept : Float) (os : List Float) → Greatest kept os (longest_after kept os)
unfolding longest_after
greatest_after kept [] = record { one_of = inl refl; none-greater = λ o m. absurd (Memᴰ.not-nil m) }
greatest_after kept (o ∷ os) = one_before kept o os (longest_after (longer kept o) os) (greatest_after (longer kept o) os)

-- No other float of 32 bits is the greatest.
pub greatest_unique : (os : List Float) (x y : Float) → T (fits binary32 x) → T (fits binary32 y) → Greatest plus_zero os x → Greatest plus_zero os y → x ≡ y
greatest_unique os x y p q g h = go g.one_of h.one_of
  where
    above : (z o : Float) → z ≡ plus_zero → lt plus_zero o ≡ true → lt z o ≡ false → ⊥
    above z o e l n = true≢false (sym l ∙ ap (λ y. lt y o) (sym e) ∙ n)

    go : (x ≡ plus_zero) ⊎ ((lt plus_zero x ≡ true) × Memᴰ x os) → (y ≡ plus_zero) ⊎ ((lt plus_zero y ≡ true) × Memᴰ y os) → x ≡ y
    go (inl e) (inl f) = e ∙ sym f
    go (inl e) (inr m) = absurd (above x y e m.0 (g.none-greater y m.1))
    go (inr l) (inl f) = absurd (above y x f l.0 (h.none-greater x l.1))
    go (inr l) (inr m) = same_place x y p q l.0 m.0 (g.none-greater y m.1) (h.none-greater x l.1)

-- ---- a walk that calls have made

pub longest_outage : LongestOutage
longest_outage k o = let w = (walked-outline k).is_walk o in subst (Greatest plus_zero (reached k).ring.outages) (sym (ap (λ (w : Walk). w.outage) w)) (greatest_after plus_zero (reached k).ring.outages)

-- ---- begin, end and abandon

pub outage-at-end : (w : Walk) (s : Sheet) → OutageAtEnd w s
unfolding number_of walk_after
outage-at-end w s =
    record {
      answered = λ z. ap (λ e. e.outage) (Case.end-accepted w s z).1;
      left = λ z. ap (λ e. e.walk.outage) (Case.end-accepted w s z).1;
      refused = λ n. (end_unchanged w s n).1;
      kept = λ n. ap (λ (w : Walk). w.outage) (walk_unchanged w (end s) n);
    }

-- An accepted begin or abandon, b being the test behind 28, and n its refusal.
cleared : (w left : Walk) (n : ℕ) → n ≢ 0 → left.outage ≡ plus_zero → (a b : Bool) → (let r = cond a (refused_walk 28 w) (cond b (refused_walk n w) (record { number = 0; walk = left })) in r.number ≡ 0 → r.walk.outage ≡ plus_zero)
cleared w left n h e true b z = absurd (eqb-false 28 0 refl z)
cleared w left n h e false true z = absurd (h z)
cleared w left n h e false false z = e

pub outage_cleared : (w : Walk) → OutageCleared w
unfolding begin_call abandon_call
outage_cleared w =
    record {
      begun = λ k. cleared w (opened k) 22 (eqb-false 22 0 refl) refl (impossible_walk w) w.is_open;
      abandoned = cleared w closed 21 (eqb-false 21 0 refl) refl (impossible_walk w) (not w.is_open);
    }
