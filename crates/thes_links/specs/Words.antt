-- Bits in a list of 64-bit words.
use Rattle.std.specs.Prelude.{◌≡◌, ℕ, List, get_or, nat_eq, if◌then◌else◌, bit_or}
use Rattle.std.specs.Int.{bit_at}

-- The word at index n; 0 past the end.
abbrev pub word_at : List ℕ → ℕ → ℕ
word_at words n = get_or words n 0

-- Bit j is set in the word at index n.
abbrev pub HasBit : List ℕ → (n j : ℕ) → Type 0
HasBit words n j = bit_at (word_at words n) j ≡ 1

-- The new words are the old ones with these bits set in the word at index n.
abbrev pub HasBitsSet : (old new : List ℕ) → (n bits : ℕ) → Type 0
HasBitsSet old new n bits =
    (m : ℕ) → word_at new m ≡ (if nat_eq m n then bit_or (word_at old m) bits else word_at old m)
