-- A language tag is split at its hyphens, and is also a tag in lower case.
use Rattle.std.proofs.lemmas.Grind.{common_steps}
use Rattle.std.specs.Prelude.{IsTrue, MatchBool, ◌≡◌, ℕ, ◌≤◌, ◌<◌, ◌==◌, ◌↔◌, Bool, true, false, cond, List, [], ◌∷◌}
use Rattle.std.specs.Prelude.{length, map, All, refl}
use Rattle.std.specs.Char.{IsAsciiAlphabetic, IsAsciiAlphanumeric, to_ascii_lowercase}
use Rattle.std.specs.List.{AllWithin, HoldsAt, slice_split, onto_first, position_or_len, before_first, after_first}
use Rattle.std.proofs.Common.{arith, rules, subst}
use Rattle.std.proofs.Math.ListN.{length-map}
use Rattle.std.proofs.lemmas.Bool.Decides.{nat_tests}
use Rattle.std.proofs.lemmas.List.Elements.{All-map}
use Rattle.std.proofs.lemmas.List.Splits.{slice_split_none, slice_split_first}
use Rattle.std.proofs.lemmas.List.Sums.{fails_before_first}
use Rattle.std.proofs.lemmas.Str.Ascii.{lowercase-lowercase}
use Rattle.thes_base.specs.Forms.{IsTagPart, AreTagParts, IsTag, HasStoredForm, stored_text}

abbrev is_hyphen : ℕ → Bool
is_hyphen b = b == 45

-- A text without a hyphen is a tag exactly when it is one part of letters.
pub whole_tag : (text : List ℕ) → length text ≤ 35 → position_or_len is_hyphen text ≡ length text → IsTag text
    ↔ IsTagPart IsAsciiAlphabetic text
whole_tag text short none = grind (arith, common_steps, fails_before_first, slice_split_none)

-- A text with a hyphen is a tag exactly when the part before the first hyphen is of letters, and all further parts are
-- of letters and digits.
pub cut_tag : (text first rest : List ℕ) → length text ≤ 35 → position_or_len is_hyphen text < length text → first
    ≡ before_first is_hyphen text → rest ≡ after_first is_hyphen text → IsTag text
    ↔ (IsTagPart IsAsciiAlphabetic first × All (IsTagPart IsAsciiAlphanumeric) (slice_split is_hyphen rest))
cut_tag text first rest short found front back =
    let cut : slice_split is_hyphen text ≡ first ∷ slice_split is_hyphen rest =
    rw (front, back) (slice_split_first is_hyphen text 0 found) in
    (λ tag. subst AreTagParts cut tag.parts, λ parts. record { short = short; parts = rw cut parts })

-- A change of bytes that keeps the separators commutes with splitting.
slice_split-map : (p : ℕ → Bool) (f : ℕ → ℕ) → ((x : ℕ) → p (f x) ≡ p x) → (xs : List ℕ) → slice_split p (map f xs)
    ≡ map (map f) (slice_split p xs)
slice_split-map p f same [] = refl
slice_split-map p f same (x ∷ xs) = rw (same x, slice_split-map p f same xs) (at_head (p x) (slice_split p xs)) where
  at_head : (b : Bool) (parts : List (List ℕ)) → cond b ([] ∷ map (map f) parts)
      (onto_first (f x) (map (map f) parts)) ≡ map (map f) (cond b ([] ∷ parts) (onto_first x parts))
  at_head true parts = refl
  at_head false [] = refl
  at_head false (part ∷ parts) = refl

lower_part : (Is : ℕ → Type 0) → ((b : ℕ) → Is b → Is (to_ascii_lowercase b)) → (part : List ℕ) → IsTagPart Is part
    → IsTagPart Is (map to_ascii_lowercase part)
lower_part Is keeps part of = record {
  least = rw length-map of.least;
  short = rw length-map of.short;
  each =
      All-map Is to_ascii_lowercase part (λ k d below. keeps _ (of.each k d below));
}

lower_letter : (b : ℕ) → IsAsciiAlphabetic b → IsAsciiAlphabetic (to_ascii_lowercase b)
lower_letter b is = grind (arith, nat_tests)

lower_alphanumeric : (b : ℕ) → IsAsciiAlphanumeric b → IsAsciiAlphanumeric (to_ascii_lowercase b)
lower_alphanumeric b is = grind (arith, nat_tests)

lower_hyphen : (b : ℕ) → is_hyphen (to_ascii_lowercase b) ≡ is_hyphen b
lower_hyphen b = grind (arith, nat_tests)

lower_parts : (parts : List (List ℕ)) → AreTagParts parts → AreTagParts (map (map to_ascii_lowercase) parts)
lower_parts [] none = none
lower_parts (first ∷ rest) (letters, others) = (
  lower_part IsAsciiAlphabetic lower_letter first letters,
  All-map (IsTagPart IsAsciiAlphanumeric)
      (map to_ascii_lowercase) rest (λ k d below. lower_part IsAsciiAlphanumeric lower_alphanumeric _
      (others k d below)),
)

lower_tag : (text : List ℕ) → IsTag text → IsTag (map to_ascii_lowercase text)
lower_tag text tag = grind (arith, common_steps, length-map, lower_hyphen, lower_parts, slice_split-map)

lower_twice : (xs : List ℕ) → map to_ascii_lowercase (map to_ascii_lowercase xs) ≡ map to_ascii_lowercase xs
lower_twice [] = refl
lower_twice (x ∷ xs) = rw (lowercase-lowercase x, lower_twice xs) refl

-- The lower case of a tag is a tag in its stored spelling.
pub kept_tag : (text : List ℕ) → IsTag text → HasStoredForm IsTag true (stored_text true text)
kept_tag text tag = record { form = lower_tag text tag; stays = lower_twice text }

-- A loop that stops at the first part that fails returns true exactly when all parts pass.
pub all_or_one_fails : {X : Type 0} (P : X → Type 0) (r : Bool) (xs : List X)
    → MatchBool r (AllWithin P xs 0 (length xs)) ((k : ℕ) × (k < length xs) × HoldsAt (λ x. ¬ P x) xs k) → IsTrue r
    ↔ All P xs
all_or_one_fails P true xs every = (λ _ k d below. every k d (omega arith) below, λ _. search rules)
all_or_one_fails P false [] (k, below, fails) = absurd (omega arith)
all_or_one_fails P false (x ∷ xs) (k, below, fails) =
    (λ no. absurd (search rules), λ every. absurd (fails x (every k x below)))
