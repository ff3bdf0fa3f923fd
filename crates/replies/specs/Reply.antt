-- How an outcome of document 01 or 02 reaches a caller in another language, which has no records of ours: as one number and a buffer that the caller lends. Ours;
-- the papers have the outcomes alone.
use Rattle.std.specs.Prelude.{ℕ, cond, List, ◌++◌, ltb, ℤ, length, drop}

-- The number that the call answers, and the whole buffer afterwards.
pub record Reply : Type 0 where
  pub number : ℕ
  pub buffer : List ℤ

-- The answer where the buffer has fewer entries than there are values. No refusal of document 01 or 02 has this number.
abbrev pub short_buffer : ℕ
short_buffer = 100

-- The values stand at the front of the buffer, and what lies behind them stays. A short buffer stays as it was.
unfoldable pub reply : ℕ → List ℤ → List ℤ → Reply
reply number values buffer =
    cond (ltb (length buffer) (length values))
    (record { number = short_buffer; buffer = buffer })
    (record { number = number; buffer = values ++ drop (length values) buffer })
