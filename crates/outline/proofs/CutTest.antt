-- Which cuts can be made: those of a piece that exists, between two positions in it that are at least two apart round it; and no others.
use mathlib.Core.Path.{◌≡◌, refl}
use mathlib.Core.Bool.{Bool, true, false, not, ◌&&◌}
use mathlib.Core.List.{List, []}
use mathlib.Core.Logic.{◌≢◌}
use Prim.Native.Nat.{ℕ, suc, ◌+◌, ◌-◌, ◌<◌, ◌≤◌}
use native.Mathlib.Omega.{arith}
use lib.Dec.{ltb, eqb}
use lib.ListN.{length, get_or}
use borrow.Author.Tests.{ltb-true, lt-ltb, eqb-true, eqb-false, ne_eqb, not-true}
use Rattle.outline.specs.Pieces.{Piece, Cut, lower, higher, neighbours, can_cut}
use Rattle.integers.proofs.Flags.{or_left, or_right, and_left, and_right}

pub record Made (c : Cut) (p : Piece) : Type 0 where
  pub apart : suc (lower c) < higher c
  pub inside : higher c < length p
  pub rest : 3 ≤ (length p - higher c) + suc (lower c)

-- Not neighbours over the closing edge.
enough-left : (n l h : ℕ) → suc l < h → h < n → (eqb l 0 && eqb (suc h) n) ≡ false → 3 ≤ (n - h) + suc l
enough-left n l h g k e = go (eqb l 0) refl e
  where
    go : (b : Bool) → eqb l 0 ≡ b → (b && eqb (suc h) n) ≡ false → 3 ≤ (n - h) + suc l
    go true f e = let ne = eqb-false (suc h) n e in omega arith
    go false f e = let ne = eqb-false l 0 f in omega arith

pub made : (pieces : List Piece) (c : Cut) → can_cut pieces c ≡ true → (c.piece < length pieces) × Made c (get_or pieces c.piece [])
unfolding can_cut neighbours
made pieces c e =
    let n = length (get_or pieces c.piece []) in
    let exists = ltb c.piece (length pieces) in
    let one = ltb c.one n in
    let other = ltb c.other n in
    let distinct = not (eqb c.one c.other) in
    let e4 = and_left (exists && one && other && distinct) (not (neighbours n c)) e in
    let e3 = and_left (exists && one && other) distinct e4 in
    let e2 = and_left (exists && one) other e3 in
    let h_one : c.one < n = ltb-true c.one n (and_right exists one e2) in
    let h_other : c.other < n = ltb-true c.other n (and_right (exists && one) other e3) in
    let h-distinct = eqb-false c.one c.other (not-true (eqb c.one c.other) (and_right (exists && one && other) distinct e4)) in
    let beside = eqb (suc (lower c)) (higher c) in
    let closing = eqb (lower c) 0 && eqb (suc (higher c)) n in
    let apart-test = not-true (neighbours n c) (and_right (exists && one && other && distinct) (not (neighbours n c)) e) in
    let h-beside = eqb-false (suc (lower c)) (higher c) (or_left beside closing apart-test) in
    let h_apart : suc (lower c) < higher c = omega arith in
    let h_inside : higher c < n = omega arith in (
      ltb-true c.piece (length pieces) (and_left exists one e2),
      record { apart = h_apart; inside = h_inside; rest = enough-left n (lower c) (higher c) h_apart h_inside (or_right beside closing apart-test) },
    )

-- The other way round, by the two positions as they are named: the piece exists, both lie in it, they differ, neither follows the other, and they are not first and last.
pub can_cut_lem : (pieces : List Piece) (c : Cut) → (let n = length (get_or pieces c.piece []) in c.piece < length pieces → c.one < n → c.other < n → c.one ≢ c.other → suc c.one ≢ c.other → suc c.other ≢ c.one → (c.one ≡ 0 → suc c.other ≢ n) → (c.other ≡ 0 → suc c.one ≢ n) → can_cut pieces c ≡ true)
unfolding can_cut neighbours
can_cut_lem pieces c exists one other distinct after before first last =
    let n = length (get_or pieces c.piece []) in
    let apart : suc (lower c) ≢ higher c = λ e. omega arith in
    rw (lt-ltb c.piece (length pieces) exists, lt-ltb c.one n one, lt-ltb c.other n other, ne_eqb c.one c.other distinct, ne_eqb (suc (lower c)) (higher c) apart, not_closing (eqb (lower c) 0) refl)
  where
    ends : (b : Bool) → eqb c.one 0 ≡ b → lower c ≡ 0 → suc (higher c) ≢ length (get_or pieces c.piece [])
    ends true e l h = let z = eqb-true c.one 0 e in first z (omega arith)
    ends false e l h = let z = eqb-false c.one 0 e in last (omega arith) (omega arith)

    not_closing : (b : Bool) → eqb (lower c) 0 ≡ b → (b && eqb (suc (higher c)) (length (get_or pieces c.piece []))) ≡ false
    not_closing true e = ne_eqb (suc (higher c)) (length (get_or pieces c.piece [])) (ends (eqb c.one 0) refl (eqb-true (lower c) 0 e))
    not_closing false e = refl
