-- The positions that an index has under each key.
use Rattle.std.specs.Prelude.{◌≡◌, ◌≢◌, ◌⊎◌, ℕ, List, Some, nat_eq}
use Rattle.std.specs.BTreeMap as tree
use Rattle.std.specs.HashMap as hash
use Rattle.std.specs.Cmp.Lexicographic.{slice_cmp}
use Rattle.std.specs.Hash.FoldHasher.{initial, write, finish}
use Rattle.std.specs.Ordering.{nat_cmp}
use Rattle.thes_store.specs.declared.keys.Keys.{Keys}

-- The 64-bit digest of a key. Different keys may have the same digest.
unfoldable pub digest_of : List ℕ → ℕ
digest_of key = finish (write initial key)

-- The index has this position under the key's digest or under its text.
abbrev pub KeyHasPosition : Keys → List ℕ → ℕ → Type 0
KeyHasPosition x key position = (hash.get nat_eq x.numbers (digest_of key) ≡ Some position)
    ⊎ (tree.get (slice_cmp nat_cmp) x.rest key ≡ Some position)

-- The new map has each position that the old one has, under the same digest.
abbrev pub KeepsDigests : {S : Type 0} → hash.HashMap ℕ ℕ S → hash.HashMap ℕ ℕ S → Type 0
KeepsDigests old new = (n position : ℕ) → hash.get nat_eq old n ≡ Some position → hash.get nat_eq new n ≡ Some position

-- Under each key other than this one, the new index has each position that the old one has.
abbrev pub KeepsOtherKeys : List ℕ → Keys → Keys → Type 0
KeepsOtherKeys key old new = (other : List ℕ) (position : ℕ) → other ≢ key → KeyHasPosition old other position
    → KeyHasPosition new other position
