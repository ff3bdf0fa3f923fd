-- The line at a place by the bytes that the code reads there: one law for each return of `second`, `point_form`, `hole_form` and `whole_form`.
use Prim.Native.Nat.{ℕ, ◌+◌, ◌<◌, ◌≤◌}
use mathlib.Core.Path.{◌≡◌, refl, sym, ap, ◌∙◌}
use mathlib.Core.List.{List, [], ◌∷◌}
use native.Mathlib.Omega.{arith}
use lib.IntN.{ℤ}
use lib.ListN.{length, drop, get_or}
use lib.Seq.{drop-drop}
use Rattle.outline.specs.declared.Kind.TheVariants.{Hole}
use Rattle.text_numbers.specs.Numbers.{Number, number, number_of}
use Rattle.parsing.specs.Grammar.{Form, begin, point, point_of, form_of}
use Rattle.parsing.specs.ReadForm.{Front, no_form, formed}
use Rattle.parsing.specs.private.Parts.{number_token, number_at, second_form, line_front}
use Rattle.text_numbers.specs.declared.NumberAt.{NumberAt}
use Rattle.parsing.proofs.Tokens.{token_size}
use Rattle.newlines.proofs.Newlines.{byte_at}
use Rattle.std.specs.Prelude.{None, Some}
use Rattle.parsing.proofs.Fronts.{number-none, number_some, y-ends, y_goes_on, y-malformed, past_x, x-malformed, x_no_tab, p_no_tab, p_line, long_line, one_byte_line}
use Rattle.parsing.proofs.HoleLines.{no_h_line, long_hole_line, hole_line}
use Rattle.parsing.proofs.NumberReads.{four_bytes}

-- Where the number behind the tab at `at` ends.
abbrev number_end : List ℕ → ℕ → ℕ
number_end s at = at + 1 + length (number_token (drop (at + 1) s))

module _ (s : List ℕ) (at : ℕ) where
  -- What stands from `at` on, by its first byte.
  begins : (f : List ℕ → Form) (b : ℕ) → at < length s → get_or s at 0 ≡ b → line_front f (drop at s) at ≡ line_front f (b ∷ drop (at + 1) s) at
  begins f b h e = ap (λ (l : List ℕ). line_front f l at) (byte_at s at h ∙ ap (λ (c : ℕ). c ∷ drop (at + 1) s) e)

  pub second_no_tab : (n : Number) → at < length s → (get_or s at 0 ≡ 9 → ⊥) → no_form ≡ line_front (second_form n) (drop at s) at
  second_no_tab n h t = sym (begins (second_form n) (get_or s at 0) h refl ∙ x_no_tab n (get_or s at 0) (drop (at + 1) s) at t)

  pub point_no_tab : at < length s → (get_or s at 0 ≡ 9 → ⊥) → no_form ≡ line_front (λ bs. form_of (80 ∷ bs)) (drop at s) at
  point_no_tab h t = sym (begins (λ bs. form_of (80 ∷ bs)) (get_or s at 0) h refl ∙ p_no_tab (get_or s at 0) (drop (at + 1) s) at t)

  pub after_p : at < length s → get_or s at 0 ≡ 80 → line_front (λ bs. form_of (80 ∷ bs)) (drop (at + 1) s) (at + 1) ≡ line_front form_of (drop at s) at
  after_p h e = sym (begins form_of 80 h e ∙ p_line (drop (at + 1) s) at)

-- A tab at `at`, with room for a number behind it.
module _ (s : List ℕ) (at : ℕ) (room : at + 7 ≤ length s) (tab : get_or s at 0 ≡ 9) where
  tab_within : at < length s
  tab_within = omega (arith, room)

  in_line : number_end s at < length s
  in_line = omega (arith, room, token_size (drop (at + 1) s))

  behind : drop (length (number_token (drop (at + 1) s))) (drop (at + 1) s) ≡ get_or s (number_end s at) 0 ∷ drop (number_end s at + 1) s
  behind = drop-drop (length (number_token (drop (at + 1) s))) (at + 1) s ∙ byte_at s (number_end s at) in_line

  -- There is none.
  pub second-malformed : (n : Number) → None ≡ number_at (drop (at + 1) s) → no_form ≡ line_front (second_form n) (drop at s) at
  second-malformed n h = sym (begins s at (second_form n) 9 tab_within tab ∙ y-malformed (drop (at + 1) s) at behind n (number-none (drop (at + 1) s) h))

  pub point-malformed-x : None ≡ number_at (drop (at + 1) s) → no_form ≡ line_front (λ bs. form_of (80 ∷ bs)) (drop at s) at
  point-malformed-x h = sym (begins s at (λ bs. form_of (80 ∷ bs)) 9 tab_within tab ∙ x-malformed (drop (at + 1) s) at behind (number-none (drop (at + 1) s) h))

-- A tab at `at`, and the number r behind it.
pub record TabNumber (s : List ℕ) (at : ℕ) (r : NumberAt ℤ) : Type 0 where
  pub room : at + 7 ≤ length s
  pub tab : get_or s at 0 ≡ 9
  pub number_is : Some r ≡ number_at (drop (at + 1) s)

module _ {s : List ℕ} {at : ℕ} {r : NumberAt ℤ} (t : TabNumber s at r) where
  within : at < length s
  within = tab_within s at t.room t.tab

  past : drop (length (number_token (drop (at + 1) s))) (drop (at + 1) s) ≡ get_or s (number_end s at) 0 ∷ drop (number_end s at + 1) s
  past = behind s at t.room t.tab

  token_length : length (number_token (drop (at + 1) s)) ≡ r.size
  token_length = (number_some (drop (at + 1) s) r t.number_is).size

  token_value : number_of (number_token (drop (at + 1) s)) ≡ number r.value
  token_value = (number_some (drop (at + 1) s) r t.number_is).value

  pub size_small : r.size ≤ 5
  size_small = omega (arith, token_length, token_size (drop (at + 1) s))

  pub second_goes_on : (n : Number) → (get_or s (at + 1 + r.size) 0 ≡ 10 → ⊥) → no_form ≡ line_front (second_form n) (drop at s) at
  second_goes_on n k = sym (begins s at (second_form n) 9 within t.tab ∙ y_goes_on (drop (at + 1) s) at past n (λ q. k (ap (λ (i : ℕ). get_or s (at + 1 + i) 0) (sym token_length) ∙ q)))

  pub second-ends : (x : ℤ) → get_or s (at + 1 + r.size) 0 ≡ 10 → ◌≡◌ {A = Front} (record { form = point x r.value; next = at + 1 + r.size + 1 }) (line_front (second_form (number x)) (drop at s) at)
  unfolding formed point_of
  second-ends x k =
      sym (begins s at (second_form (number x)) 9 within t.tab
      ∙ (y-ends (drop (at + 1) s) at past (number x) (ap (λ (i : ℕ). get_or s (at + 1 + i) 0) token_length ∙ k)
      ∙ (ap (λ (q : Number). formed (point_of (number x) q) (number_end s at + 1)) token_value
      ∙ ap (λ (i : ℕ). formed (point x r.value) (at + 1 + i + 1)) token_length)))

  pub point_rest : line_front (second_form (number r.value)) (drop (at + 1 + r.size) s) (at + 1 + r.size) ≡ line_front (λ bs. form_of (80 ∷ bs)) (drop at s) at
  point_rest =
      sym (begins s at (λ bs. form_of (80 ∷ bs)) 9 within t.tab
      ∙ (past_x (drop (at + 1) s) at past
      ∙ (ap (λ (l : List ℕ). line_front (second_form (number_of (number_token (drop (at + 1) s)))) l (number_end s at)) (sym (byte_at s (number_end s at) (in_line s at t.room t.tab)))
      ∙ (ap (λ (q : Number). line_front (second_form q) (drop (number_end s at) s) (number_end s at)) token_value
      ∙ ap (λ (i : ℕ). line_front (second_form (number r.value)) (drop (at + 1 + i) s) (at + 1 + i)) token_length))))

-- The first four bytes.
module _ (s : List ℕ) (at : ℕ) (room : at + 4 ≤ length s) where
  four-first : (b c d e : ℕ) → get_or s at 0 ≡ b → get_or s (at + 1) 0 ≡ c → get_or s (at + 2) 0 ≡ d → get_or s (at + 3) 0 ≡ e → line_front form_of (drop at s) at ≡ line_front form_of (b ∷ c ∷ d ∷ e ∷ drop (at + 4) s) at
  four-first b c d e h i j k = rw (four_bytes s at room, h, i, j, k)

  pub too_long : (get_or s (at + 1) 0 ≡ 9 → (get_or s at 0 ≡ 80 → ⊥) × (get_or s at 0 ≡ 66 → ⊥)) → (get_or s (at + 1) 0 ≡ 10 → ⊥) → no_form ≡ line_front form_of (drop at s) at
  too_long h k =
      let b = get_or s at 0 in
      let c = get_or s (at + 1) 0 in
      let d = get_or s (at + 2) 0 in
      let e = get_or s (at + 3) 0 in
      sym (four-first b c d e refl refl refl refl ∙ long_line b c (d ∷ e ∷ drop (at + 4) s) at h k)

  pub one_byte : get_or s (at + 1) 0 ≡ 10 → formed (form_of (get_or s at 0 ∷ [])) (at + 2) ≡ line_front form_of (drop at s) at
  one_byte newline =
      let b = get_or s at 0 in
      let d = get_or s (at + 2) 0 in
      let e = get_or s (at + 3) 0 in
      sym (four-first b 10 d e refl newline refl refl ∙ one_byte_line b (d ∷ e ∷ drop (at + 4) s) at)

  module _ (b : get_or s at 0 ≡ 66) (tab : get_or s (at + 1) 0 ≡ 9) where
    pub hole_no_h : (get_or s (at + 2) 0 ≡ 72 → ⊥) → no_form ≡ line_front form_of (drop at s) at
    hole_no_h k = let d = get_or s (at + 2) 0 in let e = get_or s (at + 3) 0 in sym (four-first 66 9 d e b tab refl refl ∙ no_h_line d (e ∷ drop (at + 4) s) at k)

    pub hole_goes_on : get_or s (at + 2) 0 ≡ 72 → (get_or s (at + 3) 0 ≡ 10 → ⊥) → no_form ≡ line_front form_of (drop at s) at
    hole_goes_on h k = let e = get_or s (at + 3) 0 in sym (four-first 66 9 72 e b tab h refl ∙ long_hole_line e (drop (at + 4) s) at k)

    pub hole-ends : get_or s (at + 2) 0 ≡ 72 → get_or s (at + 3) 0 ≡ 10 → ◌≡◌ {A = Front} (record { form = begin Hole; next = at + 4 }) (line_front form_of (drop at s) at)
    unfolding formed
    hole-ends h newline = sym (four-first 66 9 72 10 b tab h newline ∙ hole_line (drop (at + 4) s) at)
