-- The form of a point's line, number by number: after P and a tab come the bytes of x and what follows them; after x a tab, the bytes of y and the end.
use Prim.Native.Nat.{ℕ, suc, ◌≤◌}
use mathlib.Core.Path.{◌≡◌, refl, sym, ap, ◌∙◌}
use mathlib.Core.Bool.{Bool, true, false, cond}
use mathlib.Core.List.{List, [], ◌∷◌, ◌++◌, append-nil}
use native.Mathlib.Omega.{arith}
use lib.Dec.{ltb, eqb}
use lib.ListN.{length, length-append}
use borrow.Author.Tests.{eqb-true, eqb-false, ne_eqb, ltb-true}
use Rattle.text_numbers.specs.Numbers.{Number, number, malformed, number_of}
use Rattle.parsing.specs.Grammar.{fields, with_first, other, is_byte, letter_of, point_of, form_of_fields, form_of}
use Rattle.parsing.specs.private.Parts.{after_x, second_form}
use Rattle.text_numbers.proofs.LeadingDigits.{cond_same, number_long}
use Rattle.parsing.proofs.Tokens.{Plain}

-- ---- fields

-- A line's fields: there is one at least.
pub record Separated (bs : List ℕ) : Type 0 where
  pub first : List ℕ
  pub more : List (List ℕ)
  pub fields_are : fields bs ≡ first ∷ more

pub separated : (bs : List ℕ) → Separated bs
unfolding fields with_first
separated [] = record { first = []; more = []; fields_are = refl }
separated (b ∷ bs) = go (separated bs) (eqb b 9) refl
  where
    go : Separated bs → (t : Bool) → eqb b 9 ≡ t → Separated (b ∷ bs)
    go p true e = record { first = []; more = fields bs; fields_are = rw e }
    go p false e = record { first = b ∷ p.first; more = p.more; fields_are = rw (e, p.fields_are) }

pub fields-none : fields [] ≡ [] ∷ []
unfolding fields
fields-none = refl

pub fields_tab : (bs : List ℕ) → fields (9 ∷ bs) ≡ [] ∷ fields bs
unfolding fields
fields_tab bs = refl

pub fields_byte : (b : ℕ) (bs f : List ℕ) (fs : List (List ℕ)) → (b ≡ 9 → ⊥) → fields bs ≡ f ∷ fs → fields (b ∷ bs) ≡ (b ∷ f) ∷ fs
unfolding fields with_first
fields_byte b bs f fs h e = rw (ne_eqb b 9 h, e)

pub fields_join : (ps bs f : List ℕ) (fs : List (List ℕ)) → Plain ps → fields bs ≡ f ∷ fs → fields (ps ++ bs) ≡ (ps ++ f) ∷ fs
unfolding Plain
fields_join [] bs f fs p e = e
fields_join (b ∷ ps) bs f fs p e = fields_byte b (ps ++ bs) (ps ++ f) fs p.0 (fields_join ps bs f fs p.2 e)

-- A line that is one field is that field.
one_field : (bs f : List ℕ) → fields bs ≡ f ∷ [] → length f ≡ length bs
unfolding fields with_first
one_field [] f e = let k : [] ≡ f = cc in ap length (sym k)
one_field (b ∷ bs) f e = go (separated bs) (one_field bs) (eqb b 9) refl
  where
    go : (p : Separated bs) → ((g : List ℕ) → fields bs ≡ g ∷ [] → length g ≡ length bs) → (t : Bool) → eqb b 9 ≡ t → length f ≡ suc (length bs)
    go p i true q = let h : [] ∷ fields bs ≡ f ∷ [] = rw q at e in let k : p.first ∷ p.more ≡ [] = cc p.fields_are in let z : ◌≡◌ {A = ℕ} 0 1 = cc in absurd (omega arith)
    go p i false q =
        let h : (b ∷ p.first) ∷ p.more ≡ f ∷ [] = rw (q, p.fields_are) at e in
        let m : p.more ≡ [] = cc in
        let k : b ∷ p.first ≡ f = cc in
        let j : length p.first ≡ length bs = i p.first (p.fields_are ∙ ap (λ (m : List (List ℕ)). p.first ∷ m) m) in
        omega (arith, ap length k)

-- ---- what is no form whatever follows

pub point-malformed : (n : Number) → point_of n malformed ≡ other
unfolding point_of
point-malformed (number x) = refl
point-malformed malformed = refl

pub malformed-point : (n : Number) → point_of malformed n ≡ other
unfolding point_of
malformed-point n = refl

-- A line over 32 bytes is no exception where the fields have no form.
pub no_form_lem : (bs : List ℕ) → form_of_fields (fields bs) ≡ other → form_of bs ≡ other
unfolding form_of
no_form_lem bs h = rw h (cond_same (ltb 32 (length bs)) other)

-- A first field of two bytes or more, or of one that is neither P nor B, has a letter's form at most; with more fields none.
not_first : (f g : List ℕ) (fs : List (List ℕ)) → is_byte 80 f ≡ false → is_byte 66 f ≡ false → form_of_fields (f ∷ g ∷ fs) ≡ other
unfolding form_of_fields
not_first f g [] h k = rw k
not_first f g (y ∷ []) h k = rw h
not_first f g (y ∷ z ∷ fs) h k = refl

long_field : (a b : ℕ) (f : List ℕ) (fs : List (List ℕ)) → form_of_fields ((a ∷ b ∷ f) ∷ fs) ≡ other
unfolding form_of_fields letter_of is_byte
long_field a b f [] = refl
long_field a b f (g ∷ fs) = not_first (a ∷ b ∷ f) g fs refl refl

-- Two bytes or more, and not P or B with a tab behind it: none of the forms.
pub second_byte : (a b : ℕ) (bs : List ℕ) → (b ≡ 9 → (a ≡ 80 → ⊥) × (a ≡ 66 → ⊥)) → form_of (a ∷ b ∷ bs) ≡ other
unfolding is_byte
second_byte a b bs h = no_form_lem (a ∷ b ∷ bs) (go (separated bs) (eqb a 9) refl (eqb b 9) refl)
  where
    go : (p : Separated bs) (t : Bool) → eqb a 9 ≡ t → (u : Bool) → eqb b 9 ≡ u → form_of_fields (fields (a ∷ b ∷ bs)) ≡ other
    go p true e u d = rw (eqb-true a 9 e, fields_tab (b ∷ bs), (separated (b ∷ bs)).fields_are) (not_first [] (separated (b ∷ bs)).first (separated (b ∷ bs)).more refl refl)
    go p false e true d = rw (eqb-true b 9 d, fields_byte a (9 ∷ bs) [] (fields bs) (eqb-false a 9 e) (fields_tab bs), p.fields_are) (not_first (a ∷ []) p.first p.more (ne_eqb a 80 (h (eqb-true b 9 d)).0) (ne_eqb a 66 (h (eqb-true b 9 d)).1))
    go p false e false d = rw (fields_byte a (b ∷ bs) (b ∷ p.first) p.more (eqb-false a 9 e) (fields_byte b bs p.first p.more (eqb-false b 9 d) p.fields_are)) (long_field a b p.first p.more)

-- ---- x

module _ (ps : List ℕ) (plain : Plain ps) where
  point-fields : (bs f : List ℕ) (fs : List (List ℕ)) → fields bs ≡ f ∷ fs → fields (80 ∷ 9 ∷ ps ++ bs) ≡ (80 ∷ []) ∷ (ps ++ f) ∷ fs
  point-fields bs f fs e = fields_byte 80 (9 ∷ ps ++ bs) [] ((ps ++ f) ∷ fs) (λ k. omega arith) (fields_tab (ps ++ bs) ∙ ap (λ (l : List (List ℕ)). [] ∷ l) (fields_join ps bs f fs plain e))

  -- The line ends with x.
  pub x_alone : form_of (80 ∷ 9 ∷ ps ++ []) ≡ other
  unfolding form_of_fields is_byte
  x_alone = no_form_lem (80 ∷ 9 ∷ ps ++ []) (rw (point-fields [] [] [] fields-none))

  -- x goes on with a byte that makes it malformed.
  pub x-over : (e : ℕ) (bs : List ℕ) → (e ≡ 9 → ⊥) → ((u : List ℕ) → number_of (ps ++ e ∷ u) ≡ malformed) → form_of (80 ∷ 9 ∷ ps ++ e ∷ bs) ≡ other
  unfolding form_of_fields is_byte
  x-over e bs h over = no_form_lem (80 ∷ 9 ∷ ps ++ e ∷ bs) (rw (point-fields (e ∷ bs) (e ∷ (separated bs).first) (separated bs).more (fields_byte e bs (separated bs).first (separated bs).more h (separated bs).fields_are)) (go (separated bs).more))
    where
      go : (fs : List (List ℕ)) → form_of_fields ((80 ∷ []) ∷ (ps ++ e ∷ (separated bs).first) ∷ fs) ≡ other
      go [] = refl
      go (y ∷ []) = rw (over (separated bs).first) (malformed-point (number_of y))
      go (y ∷ z ∷ fs) = refl

  -- x ends with a tab: the form is that of the rest.
  pub x_tab : (bs : List ℕ) → length ps ≤ 5 → form_of (80 ∷ 9 ∷ ps ++ 9 ∷ bs) ≡ second_form (number_of ps) (9 ∷ bs)
  unfolding form_of form_of_fields is_byte second_form after_x
  x_tab bs size = rw (point-fields (9 ∷ bs) [] (fields bs) (fields_tab bs), append-nil, fields_tab bs) (go (fields bs) refl (ltb 32 (length (80 ∷ 9 ∷ ps ++ 9 ∷ bs))) refl)
    where
      go : (fs : List (List ℕ)) → fields bs ≡ fs → (t : Bool) → ltb 32 (length (80 ∷ 9 ∷ ps ++ 9 ∷ bs)) ≡ t → cond t other (form_of_fields ((80 ∷ []) ∷ ps ∷ fs)) ≡ after_x (number_of ps) ([] ∷ fs)
      go [] e true k = refl
      go [] e false k = refl
      go (y ∷ []) e true k = rw (number_long y (omega (arith, one_field bs y e, ltb-true 32 (length (80 ∷ 9 ∷ ps ++ 9 ∷ bs)) k, length-append ps (9 ∷ bs)))) (sym (point-malformed (number_of ps)))
      go (y ∷ []) e false k = refl
      go (y ∷ z ∷ fs) e true k = refl
      go (y ∷ z ∷ fs) e false k = refl

-- ---- after x

-- What follows x is no tab.
pub rest_no_tab : (n : Number) (e : ℕ) (bs : List ℕ) → (e ≡ 9 → ⊥) → second_form n (e ∷ bs) ≡ other
unfolding second_form after_x
rest_no_tab n e bs h = rw (fields_byte e bs (separated bs).first (separated bs).more h (separated bs).fields_are) (go (separated bs).more)
  where
    go : (fs : List (List ℕ)) → after_x n ((e ∷ (separated bs).first) ∷ fs) ≡ other
    go [] = refl
    go (y ∷ []) = refl
    go (y ∷ z ∷ fs) = refl

pub rest_none : (n : Number) → second_form n [] ≡ other
unfolding second_form after_x fields
rest_none n = refl

module _ (n : Number) (ps : List ℕ) (plain : Plain ps) where
  rest_fields : (bs f : List ℕ) (fs : List (List ℕ)) → fields bs ≡ f ∷ fs → fields (9 ∷ ps ++ bs) ≡ [] ∷ (ps ++ f) ∷ fs
  rest_fields bs f fs e = fields_tab (ps ++ bs) ∙ ap (λ (l : List (List ℕ)). [] ∷ l) (fields_join ps bs f fs plain e)

  -- The line ends with y.
  pub y_alone : second_form n (9 ∷ ps ++ []) ≡ point_of n (number_of ps)
  unfolding second_form after_x
  y_alone = rw (rest_fields [] [] [] fields-none, append-nil)

  -- A byte follows y.
  pub y-over : (e : ℕ) (bs : List ℕ) → ((u : List ℕ) → number_of (ps ++ e ∷ u) ≡ malformed) → second_form n (9 ∷ ps ++ e ∷ bs) ≡ other
  unfolding second_form after_x
  y-over e bs over = go (eqb e 9) refl
    where
      more : (fs : List (List ℕ)) → after_x n ([] ∷ (ps ++ e ∷ (separated bs).first) ∷ fs) ≡ other
      more [] = rw (over (separated bs).first) (point-malformed n)
      more (y ∷ fs) = refl

      go : (t : Bool) → eqb e 9 ≡ t → after_x n (fields (9 ∷ ps ++ e ∷ bs)) ≡ other
      go true k = rw (eqb-true e 9 k, rest_fields (9 ∷ bs) [] (fields bs) (fields_tab bs), (separated bs).fields_are)
      go false k = rw (rest_fields (e ∷ bs) (e ∷ (separated bs).first) (separated bs).more (fields_byte e bs (separated bs).first (separated bs).more (eqb-false e 9 k) (separated bs).fields_are)) (more (separated bs).more)
