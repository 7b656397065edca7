-- Inserting a position under one key keeps the positions under all other keys.
use Rattle.std.proofs.Common.{arith, ◌≡◌, ℕ, List}
use Rattle.std.proofs.lemmas.Grind.{common_steps}
use Rattle.std.specs.Prelude.{Some}
use Rattle.std.specs.Ordering.{nat_cmp}
use Rattle.std.specs.Cmp.Lexicographic.{slice_cmp}
use Rattle.std.specs.BTreeMap.{BTreeMap, UpdatesBy, get}
use Rattle.std.proofs.lemmas.Map.Text.{is_eq-slice_cmp}
use Rattle.std.proofs.lemmas.Slice.Eq.{bytes_eq-Decides}
use Rattle.thes_store.specs.declared.keys.Keys.{Keys}
use Rattle.thes_store.specs.Keys.{KeepsDigests, KeepsOtherKeys}

get_others : (old new : BTreeMap (List ℕ) ℕ) (key : List ℕ) (n : ℕ) → UpdatesBy (slice_cmp nat_cmp)
    (slice_cmp nat_cmp key) old new (Some n) → (q : List ℕ) → (key ≡ q → ⊥) → get (slice_cmp nat_cmp) new q
    ≡ get (slice_cmp nat_cmp) old q
get_others old new key n updates q apart = grind (arith, common_steps, is_eq-slice_cmp, bytes_eq-Decides)

-- Inserting a key by its text keeps the positions under all other keys.
pub kept_by_text : (old new : Keys) (key copy : List ℕ) (n : ℕ) → KeepsDigests old.numbers new.numbers → copy ≡ key
    → UpdatesBy (slice_cmp nat_cmp) (slice_cmp nat_cmp copy) old.rest new.rest (Some n) → KeepsOtherKeys key old new
kept_by_text old new key copy n keeps same updates = grind (arith, common_steps, get_others)
