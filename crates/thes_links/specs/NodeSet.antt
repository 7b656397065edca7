-- The nodes that a search has met, as a list and, if they are many, also as marks by number.
use Rattle.std.specs.Prelude.{◌≡◌, ◌<◌, ◌||◌, ◌/◌, ◌%◌, ℕ, Bool, List, Contains, length, nat_eq}
use Rattle.std.specs.Int.{bit_at}
use Rattle.std.specs.List.{list_any}
use Rattle.thes_links.specs.Words.{word_at}

-- Whether node n is marked: its bit is set in the words, each of which has the bits of 64 nodes. Nodes past the end
-- aren't marked.
abbrev pub mark_at : List ℕ → ℕ → Bool
mark_at marks n = nat_eq (bit_at (word_at marks (n / 64)) (n % 64)) 1

-- The marked numbers are exactly the nodes of the list.
abbrev pub AreMarked : (nodes marks : List ℕ) → Type 0
AreMarked nodes marks = (n : ℕ) → mark_at marks n ≡ list_any (nat_eq n) nodes

-- The new marks are the old ones with n marked.
abbrev pub IsOneMore : (old new : List ℕ) → ℕ → Type 0
IsOneMore old new n = (m : ℕ) → mark_at new m ≡ (nat_eq m n || mark_at old m)

-- The marked numbers are exactly the nodes of the list, if it has more than 16. The marks of other lists are arbitrary.
abbrev pub IsNodeSet : (nodes marks : List ℕ) → Type 0
IsNodeSet nodes marks = 16 < length nodes → AreMarked nodes marks

-- The bit of the number is set in the word; numbers that are equal modulo 64 share it.
abbrev pub HasSharedBit : (word n : ℕ) → Type 0
HasSharedBit word n = bit_at word (n % 64) ≡ 1

-- The bits of all nodes of the list are set in the word.
abbrev pub HasSharedBits : (nodes : List ℕ) (word : ℕ) → Type 0
HasSharedBits nodes word = (n : ℕ) → Contains nodes n → HasSharedBit word n
