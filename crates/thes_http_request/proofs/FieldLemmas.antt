-- Proves how header fields are looked up by name, and how a length is parsed.
use Rattle.std.proofs.lemmas.Grind.{common_steps}
use Rattle.std.proofs.Common.{◌≡◌, ◌∙◌, sym, ap, subst, refl, ℕ, suc, ◌+◌, ◌≤◌, ◌<◌, ◌^◌, ◌||◌, ◌&&◌, Bool, true, false}
use Rattle.std.proofs.Common.{not, cond, List, [], ◌∷◌, length, drop, map, Ok, Err, arith, rules, get_or}
use Rattle.std.specs.Prelude.{filter, is_some, MatchOption, Option, Some, None}
use Rattle.std.specs.List.{list_any, list_all, position_or_len}
use Rattle.std.specs.Char.{is_ascii_digit}
use Rattle.std.specs.Str.{IsUtf8}
use Rattle.std.specs.Str.Parse.{AllDigits, IsNumeral, digits_value, without_leading_plus}
use Rattle.std.specs.Int.{IsInRange}
use Rattle.std.proofs.lemmas.Str.{IsUtf8-from_ascii, digit_value_digit}
use Rattle.std.proofs.lemmas.Str.Parse.{digit_at, without_leading_plus_none}
use Rattle.std.proofs.lemmas.Bool.{le-leb, lt-leb, leb-true, and_parts}
use Rattle.std.proofs.lemmas.Fmt.{IsAscii-from_digits}
use Rattle.httparse.specs.declared.spans.HeaderSpan.{HeaderSpan}
use Rattle.thes_http_request.specs.declared.problem.Problem.TheVariants.{BadHead, NoLength, TooLong}
use Rattle.thes_http_request.specs.Fields.{is_named, has_field, values_of, is_length, length_of, length_in}

module _ {X Y : Type 0} (p : Y → Bool) (f : X → Y) where
  any_step : (b t : Bool) (n l : ℕ) → (n < l → t ≡ true) → cond (not b) (1 + n) 0 < 1 + l → (b || t) ≡ true
  any_step b t n l ih h = grind (arith, common_steps)

  -- If the search finds an element, some element passes.
  pub any_found : (xs : List X) → position_or_len (λ x. p (f x)) xs < length xs → list_any p (map f xs) ≡ true
  any_found [] h = absurd (omega (arith, h))
  any_found (x ∷ xs) h = grind (arith, common_steps, any_step, any_found xs)

  none_step : (b t : Bool) (n l : ℕ) → (n ≡ l → t ≡ false) → cond (not b) (1 + n) 0 ≡ 1 + l → (b || t) ≡ false
  none_step b t n l ih h = grind (arith, common_steps)

  -- If the search finds no element, none passes.
  pub any_none : (xs : List X) → position_or_len (λ x. p (f x)) xs ≡ length xs → list_any p (map f xs) ≡ false
  any_none [] h = refl
  any_none (x ∷ xs) h = grind (arith, common_steps, none_step, any_none xs)

module _ {Y : Type 0} (p : Y → Bool) where
  skip_step : (b : Bool) (y : Y) (t : Bool) (ys : List Y) → (b || t) ≡ false → (t ≡ false → ys ≡ [])
      → cond b (y ∷ ys) ys ≡ []
  skip_step b y t ys h ih = grind (arith, common_steps)

  pub filter_none : (ys : List Y) → list_any p ys ≡ false → filter p ys ≡ []
  filter_none [] h = refl
  filter_none (y ∷ ys) h = skip_step (p y) y (list_any p ys) (filter p ys) h (filter_none ys)

-- The empty spans that a look-up beyond the last field returns.
abbrev pub no_spans : HeaderSpan
no_spans = record { name = record { start = 0; end = 0 }; value = record { start = 0; end = 0 } }

after_one : (n : ℕ) → 1 + n + 1 ≡ suc (n + 1)
after_one n = omega arith

one_more : (n : ℕ) → suc n ≡ 1 + n
one_more n = omega arith

-- The values of the fields with a name are found from the first such field on.
module _ {X Y : Type 0} (p : Y → Bool) (f : X → Y) (g : Y → List ℕ) where
  pub no_value : (xs : List X) → position_or_len (λ x. p (f x)) xs ≡ length xs → map g (filter p (map f xs)) ≡ []
  no_value xs h = ap (map g) (filter_none p (map f xs) (any_none p f xs h))

  next_none : (x : X) (xs : List X) (n : ℕ) (t : Bool) → list_any p (map f (drop (1 + n + 1) (x ∷ xs))) ≡ t
      → list_any p (map f (drop (n + 1) xs)) ≡ t
  next_none x xs n t h = subst (λ k. list_any p (map f (drop k (x ∷ xs))) ≡ t) (after_one n) h

  next_at : (x : X) (xs : List X) (n : ℕ) (d : X) → map g (filter p (map f xs)) ≡ g (f (get_or xs n d)) ∷ []
      → map g (filter p (map f xs)) ≡ g (f (get_or (x ∷ xs) (1 + n) d)) ∷ []
  next_at x xs n d h = subst (λ k. map g (filter p (map f xs)) ≡ g (f (get_or (x ∷ xs) k d)) ∷ []) (one_more n) h

  value_step : (b : Bool) (x : X) (xs : List X) (n : ℕ) (d : X)
      → (n < length xs → list_any p (map f (drop (n + 1) xs)) ≡ false → map g (filter p (map f xs))
      ≡ g (f (get_or xs n d)) ∷ [])
      → cond (not b) (1 + n) 0 < 1 + length xs → list_any p (map f (drop (cond (not b) (1 + n) 0 + 1) (x ∷ xs))) ≡ false
      → map g (cond b (f x ∷ filter p (map f xs)) (filter p (map f xs)))
      ≡ g (f (get_or (x ∷ xs) (cond (not b) (1 + n) 0) d)) ∷ []
  value_step true x xs n d ih l h = ap (λ t. map g (f x ∷ t)) (filter_none p (map f xs) h)
  value_step false x xs n d ih l h = next_at x xs n d (ih (omega (arith, l)) (next_none x xs n false h))

  -- There is exactly one value if no later field has the name.
  pub one_value : (xs : List X) (d : X) → position_or_len (λ x. p (f x)) xs < length xs
      → list_any p (map f (drop (position_or_len (λ x. p (f x)) xs + 1) xs)) ≡ false
      → map g (filter p (map f xs)) ≡ g (f (get_or xs (position_or_len (λ x. p (f x)) xs) d)) ∷ []
  one_value [] d l h = absurd (omega (arith, l))
  one_value (x ∷ xs) d l h = grind (arith, common_steps, value_step, one_value xs d)

  -- Two fields with the name give `BadHead`.
  second_step : (b t : Bool) (y : Y) (ys : List Y) (a : List ℕ) (limit : ℕ)
      → (t ≡ true → length_in limit (a ∷ map g ys) ≡ Err BadHead) → (b || t) ≡ true
      → length_in limit (a ∷ map g (cond b (y ∷ ys) ys)) ≡ Err BadHead
  second_step b t y ys a limit ih h = grind (arith, common_steps)

  second_value : (a : List ℕ) (limit : ℕ) (ys : List Y) → list_any p ys ≡ true
      → length_in limit (a ∷ map g (filter p ys)) ≡ Err BadHead
  second_value a limit [] h = absurd (search (rules, h))
  second_value a limit (y ∷ ys) h = grind (arith, common_steps, second_step, second_value a limit ys)

  values_step : (b : Bool) (x : X) (xs : List X) (n : ℕ) (limit : ℕ)
      → (n < length xs → list_any p (map f (drop (n + 1) xs)) ≡ true → length_in limit (map g (filter p (map f xs)))
      ≡ Err BadHead)
      → cond (not b) (1 + n) 0 < 1 + length xs → list_any p (map f (drop (cond (not b) (1 + n) 0 + 1) (x ∷ xs))) ≡ true
      → length_in limit (map g (cond b (f x ∷ filter p (map f xs)) (filter p (map f xs)))) ≡ Err BadHead
  values_step b x xs n limit ih l h = grind (arith, common_steps, second_value, next_none)

  pub many_values : (xs : List X) (limit : ℕ) → position_or_len (λ x. p (f x)) xs < length xs
      → list_any p (map f (drop (position_or_len (λ x. p (f x)) xs + 1) xs)) ≡ true
      → length_in limit (map g (filter p (map f xs))) ≡ Err BadHead
  many_values [] limit l h = absurd (omega (arith, l))
  many_values (x ∷ xs) limit l h = grind (arith, common_steps, values_step, many_values xs limit)

digits_parts : (c : ℕ) (cs : List ℕ) → (is_ascii_digit c && list_all is_ascii_digit cs) ≡ true → IsInRange 48 57 c
    × (list_all is_ascii_digit cs ≡ true)
digits_parts c cs h = grind (arith, common_steps, and_parts, leb-true)

pub digits_of : (ds : List ℕ) → list_all is_ascii_digit ds ≡ true → AllDigits 10 ds
digits_of [] h = tt
digits_of (c ∷ cs) h = let k = digits_parts c cs h in (omega (arith, digit_value_digit c k.0), digits_of cs k.1)

length_parts : (text : List ℕ) → is_length text ≡ true → (0 < length text) × (list_all is_ascii_digit text ≡ true)
length_parts text h = grind (arith, common_steps, and_parts)

pub length_numeral : (text : List ℕ) → is_length text ≡ true → IsNumeral 10 text
length_numeral text h = let k = length_parts text h in (k.0, digits_of text k.1)

pub length_utf8 : (text : List ℕ) → is_length text ≡ true → IsUtf8 text
length_utf8 text h = IsUtf8-from_ascii text (IsAscii-from_digits text (length_numeral text h).1)

pub length_sign : (text : List ℕ) → is_length text ≡ true → without_leading_plus text ≡ text
length_sign text h = without_leading_plus_none text (λ e. let d = digit_at text 0 (length_numeral text h).1
    (length_numeral text h).0 in omega (arith, d.0, d.1, e))

pub length_bad : (limit : ℕ) (text : List ℕ) → is_length text ≡ false → length_of limit text ≡ Err BadHead
unfolding length_of
length_bad limit text h = rw h refl

pub length_fits : (limit : ℕ) (text : List ℕ) → is_length text ≡ true → digits_value 10 text ≤ limit
    → length_of limit text ≡ Ok (digits_value 10 text)
unfolding length_of
length_fits limit text h l = rw (h, le-leb (digits_value 10 text) limit l) refl

pub length_long : (limit : ℕ) (text : List ℕ) → is_length text ≡ true → limit < digits_value 10 text
    → length_of limit text ≡ Err TooLong
unfolding length_of
length_long limit text h l = rw (h, lt-leb (digits_value 10 text) limit l) refl

-- The condition under which `parse` accepts the digits of a text.
abbrev IsParsed : List ℕ → Type 0
IsParsed digits = IsNumeral 10 (without_leading_plus digits) × (digits_value 10 (without_leading_plus digits) < 2 ^ 32)

module _ (limit : ℕ) (text digits : List ℕ) (h : is_length text ≡ true) (same : digits ≡ text) where
  no_sign : without_leading_plus digits ≡ text
  no_sign = ap without_leading_plus same ∙ length_sign text h

  value_is : (n : ℕ) → IsParsed digits × (n ≡ digits_value 10 (without_leading_plus digits)) → n ≡ digits_value 10 text
  value_is n read = read.1 ∙ ap (digits_value 10) no_sign

  pub length_read : (n : ℕ) → IsParsed digits × (n ≡ digits_value 10 (without_leading_plus digits)) → n ≤ limit
      → length_of limit text ≡ Ok n
  length_read n read l = let e = value_is n read in length_fits limit text h (omega (arith, e, l))
      ∙ ap (λ k. Ok k) (sym e)

  pub length_over : (n : ℕ) → IsParsed digits × (n ≡ digits_value 10 (without_leading_plus digits)) → limit < n
      → length_of limit text ≡ Err TooLong
  length_over n read l = let e = value_is n read in length_long limit text h (omega (arith, e, l))

  not_small : ¬ (IsParsed digits) → ¬ (digits_value 10 text < 2 ^ 32)
  not_small unread l = unread (subst (λ (t : List ℕ). IsNumeral 10 t × (digits_value 10 t < 2 ^ 32)) (sym no_sign)
      (length_numeral text h, l))

  pub length_unread : ¬ (IsParsed digits) → limit < 2 ^ 32 → length_of limit text ≡ Err TooLong
  length_unread unread l = let k = not_small unread in length_long limit text h (omega (arith, k, l))

-- The length of the body, if no field has the name, if several have it, and if exactly one has it.
module _ {X : Type 0} (name : List ℕ) (f : X → List ℕ × List ℕ) (xs : List X) where
  abbrev first : ℕ
  first = position_or_len (λ x. is_named name (f x)) xs

  pub found_field : (r : Option ℕ) (b : Bool) → b ≡ is_some r → MatchOption r (first ≡ length xs)
      (λ at. (first ≡ at) × (at < length xs)) → b ≡ has_field name (map f xs)
  unfolding has_field
  found_field None b e m = e ∙ sym (any_none (is_named name) f xs m)
  found_field (Some at) b e m = e ∙ sym (any_found (is_named name) f xs (omega (arith, m.0, m.1)))

  pub no_length : (limit : ℕ) → first ≡ length xs → length_in limit (values_of name (map f xs)) ≡ Err NoLength
  unfolding values_of
  no_length limit m = ap (length_in limit) (no_value (is_named name) f (λ field. field.1) xs m)

  pub many_fields_refused : (limit at : ℕ) → first ≡ at → at < length xs → has_field name (map f (drop (at + 1) xs))
      ≡ true → length_in limit (values_of name (map f xs)) ≡ Err BadHead
  unfolding values_of has_field
  many_fields_refused limit at e l h = many_values (is_named name) f (λ field. field.1) xs limit (omega (arith, e, l))
      (rw e h)

  pub one_field_length : (limit at : ℕ) (d : X) → first ≡ at → at < length xs
      → has_field name (map f (drop (at + 1) xs)) ≡ false → length_in limit (values_of name (map f xs))
      ≡ length_of limit (f (get_or xs at d)).1
  unfolding values_of has_field
  one_field_length limit at d e l h =
      ap (length_in limit) (one_value (is_named name) f (λ field. field.1) xs d (omega (arith, e, l)) (rw e h))
      ∙ rw e refl
