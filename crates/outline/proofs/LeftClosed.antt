-- A walk that calls leave closed is the one handed in, or the closed walk.
use mathlib.Core.Path.{◌≡◌, refl, sym, ◌∙◌}
use mathlib.Core.Bool.{true, true≢false}
use mathlib.Core.List.{List, [], ◌∷◌}
use mathlib.Core.Logic.{◌⊎◌, inl, inr}
use Prim.Native.Nat.{ℕ}
use lib.Dec.{eqb}
use Rattle.integers.proofs.Cases.{by_cond}
use Rattle.outline.specs.declared.Position.{Position}
use Rattle.outline.specs.declared.Walk.{Walk}
use Rattle.outline.specs.WalkCalls.{closed, extended}
use Rattle.outline.specs.CallLists.{Call, number_of, walk_after, Trace, next, after, reached}
use Rattle.outline.specs.WalkedOutline.{LeftClosed}
use Rattle.outline.proofs.CallCases as Case

-- Open, or one of the two.
abbrev OpenOr : Walk → Walk → Type 0
OpenOr start w = (w.is_open ≡ true) ⊎ ((w ≡ start) ⊎ (w ≡ closed))

extended_open : (w : Walk) (p : Position) → (extended w p).is_open ≡ true
unfolding extended
extended_open w p = by_cond (λ (v : Walk). v.is_open ≡ true) (eqb w.count 0) (λ _. refl) (λ _. refl)

call_keeps : (start w : Walk) (c : Call) → OpenOr start w → OpenOr start (walk_after w c)
call_keeps start w c s = go (number_of w c) (walk_after w c) (Case.call_case w c)
  where
    taken : (c : Call) (left : Walk) → Case.Taken w c left → OpenOr start left
    taken c left (Case.begun k o) = inl refl
    taken c left (Case.extends p h) = inl (extended_open w p)
    taken c left (Case.fixes f h) = inl (extended_open w _)
    taken c left (Case.takes_outage seconds h) = inl refl
    taken c left (Case.ends sheet h) = inr (inr refl)
    taken c left (Case.abandoned o) = inr (inr refl)

    go : (n : ℕ) (left : Walk) → Case.CallCase w c n left → OpenOr start left
    go n left (Case.refused m h) = s
    go n left (Case.accepted h) = taken c left h

calls_keep : (start : Walk) (calls : List Call) (r : Trace) → OpenOr start r.walk → OpenOr start (after r calls).walk
unfolding after next
calls_keep start [] r s = s
calls_keep start (c ∷ calls) r s = calls_keep start calls (next r c) (call_keeps start r.walk c s)

pub left-closed : LeftClosed
left-closed k e = go (calls_keep k.start k.calls _ (inr (inl refl)))
  where
    go : OpenOr k.start (reached k).walk → ((reached k).walk ≡ k.start) ⊎ ((reached k).walk ≡ closed)
    go (inl o) = absurd (true≢false (sym o ∙ e))
    go (inr h) = h
