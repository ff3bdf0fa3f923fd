-- Calls that are drawn, as second/worked_entries.py draws them.
use Rattle.std.specs.Prelude.{ℕ, ◌+◌, ◌*◌, ◌%◌, min, cond, leb, eqb, Float}
use Rattle.receiver.specs.declared.Entry.TheVariants.{Fix, Outage}
use Rattle.outline.specs.declared.Kind.TheVariants.{Island, Hole}
use Rattle.worked_entries.specs.declared.calls.Call.TheVariants.{Entry, Begin, End}
use Rattle.worked_entries.specs.declared.calls.Call.{Call}
use Rattle.worked_entries.specs.declared.calls.Held.{Held}
use Rattle.worked_entries.specs.declared.draws.Drawn.{Drawn}
use Rattle.worked_entries.specs.BitFloats.{float_of}
use Rattle.worked_entries.specs.Calls.{carried_out}

-- Each state is the one before times 48,271, modulo 2,147,483,647, and is a draw too.
abbrev pub next_draw : ℕ → ℕ
next_draw s = s * 48271 % 2147483647

-- The bits of a float without its sign, of two draws. The first modulo 8 says what it is: with 0 infinity; with 1 the second draw itself, but infinity if that is past it; with
-- 2 zero; else 512 and as many patterns more as the second draw modulo 2^24.
unfoldable pub drawn_size : ℕ → ℕ → ℕ
drawn_size kind draw =
    cond (eqb (kind % 8) 0) 0x7F800000
    (cond (eqb (kind % 8) 1) (min draw 0x7F800000)
    (cond (eqb (kind % 8) 2) 0
    (0x44000000 + draw % 0x1000000)))

-- Kind, size and sign of a float; an odd draw for the sign makes it negative.
abbrev pub of_three_draws : ℕ → ℕ → ℕ → Drawn Float
of_three_draws kind draw sign = record { value = float_of (drawn_size kind draw + sign % 2 * 0x80000000); state = sign }

-- The float of the next three draws.
unfoldable pub drawn_float : ℕ → Drawn Float
drawn_float s = of_three_draws (next_draw s) (next_draw (next_draw s)) (next_draw (next_draw (next_draw s)))

-- A fix of two floats, east first.
abbrev pub fix_of_floats : Drawn Float → Drawn Float → Drawn Call
fix_of_floats east north = record { value = Entry (Fix (record { east = east.value; north = north.value })); state = north.state }

-- The same of the next six draws.
unfoldable pub drawn_fix : ℕ → Drawn Call
drawn_fix s = fix_of_floats (drawn_float s) (drawn_float (drawn_float s).state)

-- An outage of one float, of the next three draws.
unfoldable pub drawn_outage : ℕ → Drawn Call
drawn_outage s = record { value = Entry (Outage (drawn_float s).value); state = (drawn_float s).state }

-- A begin, of a hole if the draw is odd.
abbrev pub begin_of_draw : ℕ → Drawn Call
begin_of_draw draw = record { value = Begin (cond (eqb (draw % 2) 1) Hole Island); state = draw }

-- The begin of the next draw.
unfoldable pub drawn_begin : ℕ → Drawn Call
drawn_begin s = begin_of_draw (next_draw s)

-- The call by a draw modulo 16: 0 to 8 a fix, 9 to 13 an outage, 14 a begin, 15 an end. What else it needs is drawn next.
abbrev pub call_of_draw : ℕ → Drawn Call
call_of_draw draw =
    cond (leb (draw % 16) 8) (drawn_fix draw)
    (cond (leb (draw % 16) 13) (drawn_outage draw)
    (cond (eqb (draw % 16) 14) (drawn_begin draw)
    (record { value = End; state = draw })))

-- The call of the next draws.
unfoldable pub drawn_call : ℕ → Drawn Call
drawn_call s = call_of_draw (next_draw s)

-- What a drawn call leaves to the one after it.
abbrev pub left_by : Drawn Call → Drawn Held → Drawn Held
left_by d g = record { value = record { walk = (carried_out d.value g.value).walk; sheet = (carried_out d.value g.value).sheet }; state = d.state }

-- The same of the call that is drawn next.
unfoldable pub after_call : Drawn Held → Drawn Held
after_call g = left_by (drawn_call g.state) g
