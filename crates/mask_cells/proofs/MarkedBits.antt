-- A cell is marked by the bit of its column in the words of its row.
use mathlib.Core.Path.{◌≡◌, ap₂}
use Prim.Native.Nat.{◌+◌, ◌*◌, ◌/◌, ◌%◌}
use native.Mathlib.Omega.{arith}
use lib.Dec.{eqb}
use lib.ListN.{get_or}
use Rattle.word_runs.specs.Bits.{bit}
use Rattle.mask_cells.specs.MaskCells.{is_marked}
use Rattle.mask_cells.specs.MaskLaws.{MarkedBits}

pub marked_bits : MarkedBits
unfolding is_marked
marked_bits ws y w h i l =
    let word : 16 * y + (64 * w + i) / 64 ≡ 16 * y + w = omega arith in
    let place : (64 * w + i) % 64 ≡ i = omega arith in
    ap₂ (λ k j. eqb (bit (get_or ws k 0) j) 1) word place
