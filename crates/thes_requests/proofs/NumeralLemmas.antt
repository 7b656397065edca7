-- Proves the value of a numeral that has only digits.
use Rattle.std.proofs.Common.{arith, ◌≡◌, ◌∙◌, sym, ap, refl, ℕ, ◌+◌, ◌*◌, ◌%◌, ◌^◌, ◌<◌, ◌≤◌}
use Rattle.std.proofs.Common.{List, [], length, get_or, take, false, Some, append-nil, lt-ltb, ne_eqb, length-take}
use Rattle.std.specs.Char.{digit_value}
use Rattle.std.specs.Str.Parse.{digits_value, AllDigits, IsNumeral}
use Rattle.std.proofs.lemmas.Int.Digits.{digits_more, digits_value_more}
use Rattle.std.proofs.lemmas.Str.Parse.{digit_at}
use Rattle.fast_float.specs.Text.{Parts, scan, IsWellFormed}
use Rattle.fast_float.proofs.DigitsLemmas.{is_digit}
use Rattle.fast_float.proofs.Rows.{short_fits}
use Rattle.fast_float.proofs.Writing.{scan-text_of}
use Rattle.serde_json.specs.Data.{unsigned}
use Rattle.serde_json.specs.Read.{number_of}

-- If a byte minus that of the digit `0`, modulo 256, is at most 9, the difference is the value of the byte as a digit.
digit_is : (x : ℕ) → x < 256 → (x + 208) % 256 ≤ 9 → (x + 208) % 256 ≡ digit_value x
digit_is x byte small = omega (arith, (is_digit x (omega arith) (omega arith)).1)

-- With one more digit, if there are at most 19, the number is still the value of the digits, and fits into 64 bits.
pub one_more : (bs : List ℕ) (i number digit : ℕ) → i < length bs → length bs ≤ 19
    → AllDigits 10 (take i bs) × (number ≡ digits_value 10 (take i bs)) → get_or bs i 0 < 256
    → digit ≡ (get_or bs i 0 + 208) % 256 → digit ≤ 9
    → AllDigits 10 (take (i + 1) bs) × (number * 10 + digit ≡ digits_value 10 (take (i + 1) bs))
    × (number * 10 + digit < 2 ^ 64)
one_more bs i number digit inside short before byte is small =
    let same : digit ≡ digit_value (get_or bs i 0) = is ∙ digit_is _ byte (omega arith) in
    let digits = digits_more 10 bs i inside before.0 (omega arith) in
    let value : number * 10 + digit ≡ digits_value 10 (take (i + 1) bs) =
    omega (arith, before.1, digits_value_more 10 bs i inside) in
    (digits, value, omega (arith, short_fits _ digits (omega (arith, length-take (i + 1) bs))))

abbrev integer_parts : List ℕ → Parts
integer_parts bs =
    record {
      whole = bs;
      point = false;
      fraction = [];
      exponent_negative = false;
      exponent = [];
      len = length bs;
    }

well_formed : (bs : List ℕ) → AllDigits 10 bs → IsWellFormed (integer_parts bs)
well_formed bs digits =
    record {
      whole_digits = digits;
      fraction_digits = tt;
      exponent_digits = tt;
      no_point = λ _. refl;
      no_exponent = λ _. refl;
      len_is = ap length (sym (append-nil bs));
    }

scan-digits : (bs : List ℕ) → AllDigits 10 bs → scan bs ≡ integer_parts bs
scan-digits bs digits = ap scan (sym (append-nil bs)) ∙ scan-text_of (integer_parts bs) (well_formed bs digits)

-- At most 19 digits alone are read as an unsigned integer.
pub number_of-digits : (bs : List ℕ) (number : ℕ) → IsNumeral 10 bs × (length bs ≤ 19) → number ≡ digits_value 10 bs
    → Some (unsigned number) ≡ number_of bs
unfolding number_of
number_of-digits bs number few is =
    let first = digit_at bs 0 few.0.1 few.0.0 in
    rw (
      is,
      ne_eqb (get_or bs 0 0) 45 (λ e. omega arith),
      scan-digits bs few.0.1,
      lt-ltb 0 (length bs) few.0.0,
      append-nil bs,
      lt-ltb (digits_value 10 bs) (2 ^ 64) (short_fits bs few.0.1 few.1),
    ) refl
