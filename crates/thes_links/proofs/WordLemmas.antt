-- Words after bits are set, and marks as bits in words.
use Rattle.std.proofs.Common.{◌≡◌, inl, inr, ◌*◌, ◌^◌, ◌/◌, ◌%◌, ◌<◌, ◌||◌, ℕ, List, Bool, true, false, nat_eq}
use Rattle.std.proofs.Common.{refl, sym, ap, ◌∙◌, arith, w64, if◌then◌else◌}
use Rattle.std.specs.Bool.{MatchBool}
use Rattle.std.specs.Int.{bit_at}
use Rattle.std.specs.Int.RustNames.{bit_or}
use Rattle.std.proofs.lemmas.Bool.{cases_eq, false_from_ne_true}
use Rattle.std.proofs.lemmas.Bool.Decides.{Decides-eqb}
use Rattle.std.proofs.lemmas.Nat.{div-add-mod'}
use Rattle.std.proofs.lemmas.Nat.Bits.{bit_at_set_same, bit_at_set_other}
use Rattle.thes_links.specs.Words.{word_at, HasBitsSet}
use Rattle.thes_links.specs.NodeSet.{mark_at, HasSharedBit}

pub tested_one : (b : Bool) (v : ℕ) → MatchBool b (v ≡ 1) (v ≡ 1 → ⊥) → b ≡ nat_eq v 1
tested_one true v one = sym ((Decides-eqb v 1).1 one)
tested_one false v other = sym (false_from_ne_true (nat_eq v 1) (λ e. other ((Decides-eqb v 1).0 e)))

module _ (old new : List ℕ) (n bits : ℕ) (set : HasBitsSet old new n bits) where
  pub word_same : (m : ℕ) → m ≡ n → word_at new m ≡ bit_or (word_at old m) bits
  word_same m same = set m ∙ ap (λ b. if b then bit_or (word_at old m) bits else word_at old m)
      ((Decides-eqb m n).1 same)

  pub word_other : (m : ℕ) → (m ≡ n → ⊥) → word_at new m ≡ word_at old m
  word_other m other = set m ∙ ap (λ b. if b then bit_or (word_at old m) bits else word_at old m)
      (false_from_ne_true (nat_eq m n) (λ e. other ((Decides-eqb m n).0 e)))

-- Assumes that the bit of n is set: the new marks are the old ones with n marked.
module _ (old new : List ℕ) (n : ℕ) (set : HasBitsSet old new (n / 64) (1 * 2 ^ (n % 64) % 2 ^ 64)) where
  within : n % 64 < 64
  within = omega arith

  unmarked : (m : ℕ) → (m ≡ n → ⊥) → bit_at (word_at new (m / 64)) (m % 64) ≡ bit_at (word_at old (m / 64)) (m % 64)
      → mark_at new m ≡ (nat_eq m n || mark_at old m)
  unmarked m other same =
      ap (λ (v : ℕ). nat_eq v 1) same
      ∙ ap (λ b. b || mark_at old m) (sym (false_from_ne_true (nat_eq m n) (λ e. other ((Decides-eqb m n).0 e))))

  pub marked_more : (m : ℕ) → mark_at new m ≡ (nat_eq m n || mark_at old m)
  marked_more m = elim (cases_eq m n) [
    | inl same ↦ ap (λ (v : ℕ). nat_eq v 1) (now m same) ∙ ap (λ b. b || mark_at old m) (sym ((Decides-eqb m n).1 same))
    | inr other ↦ unmarked m other (elsewhere m other)
  ]
    where
      now : (m : ℕ) → m ≡ n → bit_at (word_at new (m / 64)) (m % 64) ≡ 1
      now m same =
          ap (λ (k : ℕ). bit_at (word_at new (k / 64)) (k % 64)) same
          ∙ ap (λ (w : ℕ). bit_at w (n % 64))
          (word_same old new (n / 64) (1 * 2 ^ (n % 64) % 2 ^ 64) set (n / 64) refl)
          ∙ bit_at_set_same w64 (word_at old (n / 64)) (n % 64) within

      elsewhere : (m : ℕ) → (m ≡ n → ⊥)
          → bit_at (word_at new (m / 64)) (m % 64) ≡ bit_at (word_at old (m / 64)) (m % 64)
      elsewhere m other = elim (cases_eq (m / 64) (n / 64)) [
        | inl same ↦ ap (λ (w : ℕ). bit_at w (m % 64))
            (word_same old new (n / 64) (1 * 2 ^ (n % 64) % 2 ^ 64) set (m / 64) same
            ∙ ap (λ (k : ℕ). bit_or (word_at old k) (1 * 2 ^ (n % 64) % 2 ^ 64)) refl)
            ∙ bit_at_set_other w64 (word_at old (m / 64)) (n % 64) within (m % 64)
            (λ e. other (omega (arith, same, e, div-add-mod' m 64, div-add-mod' n 64)))
        | inr apart ↦ ap (λ (w : ℕ). bit_at w (m % 64))
            (word_other old new (n / 64) (1 * 2 ^ (n % 64) % 2 ^ 64) set (m / 64) apart)
      ]

-- Assumes that the bit of k is set in a word: the new word has this bit, and all bits that were set before.
module _ (word k : ℕ) where
  abbrev word_with_bit : ℕ
  word_with_bit = bit_or word (1 * 2 ^ (k % 64) % 2 ^ 64)

  bit_below : k % 64 < 64
  bit_below = omega arith

  pub shared_bit_new : (n : ℕ) → k ≡ n → HasSharedBit word_with_bit n
  shared_bit_new n same = ap (λ (j : ℕ). bit_at word_with_bit (j % 64)) (sym same)
      ∙ bit_at_set_same w64 word (k % 64) bit_below

  pub shared_bit_old : (m : ℕ) → HasSharedBit word m → HasSharedBit word_with_bit m
  shared_bit_old m has = elim (cases_eq (m % 64) (k % 64)) [
    | inl same ↦ ap (bit_at word_with_bit) same ∙ bit_at_set_same w64 word (k % 64) bit_below
    | inr other ↦ bit_at_set_other w64 word (k % 64) bit_below (m % 64) (λ e. other (omega (arith, e))) ∙ has
  ]
