-- Masks of document 02, CR 1, for the program that runs them.
use Rattle.std.specs.Prelude.{ℕ, zero, suc, ◌+◌, ◌^◌, List, [], ◌∷◌, ◌++◌}

-- n words alike.
abbrev pub words : ℕ → ℕ → List ℕ
words zero w = []
words (suc n) w = w ∷ words n w

-- Row 0: bits 0 and 63 of word 0, bits 0 and 1 of word 1, bit 63 of word 15. Row 1: bit 0 of word 0.
abbrev pub four_runs : List ℕ
four_runs = (2 ^ 63 + 1) ∷ 3 ∷ words 13 0 ++ (2 ^ 63) ∷ 1 ∷ words 15 0

-- Every other cell of eight rows, which are 4,096 runs; then bit 0 of word 0 of row 8.
abbrev pub one_run_more : List ℕ
one_run_more = words 128 6148914691236517205 ++ 1 ∷ words 15 0
