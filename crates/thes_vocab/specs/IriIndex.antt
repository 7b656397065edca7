-- The IRIs of outside concepts, as a map from their numbers and a map back.
use Rattle.std.specs.Prelude.{◌≡◌, ℕ, List, Some}
use Rattle.std.specs.Ordering.{nat_cmp}
use Rattle.std.specs.Cmp.Lexicographic.{slice_cmp}
use Rattle.std.specs.FinMap as dict
use Rattle.std.specs.BTreeMap.{BTreeMap, get}
use Rattle.thes_base.specs.Resources.{Iris}

-- The map from numbers to IRIs with these entries.
abbrev pub iris_in : List (ℕ × List ℕ) → Iris
iris_in entries = dict.from_entries entries

-- The two maps, from numbers to IRIs and from IRIs to numbers, are inverse to each other.
pub record AreInverse (iris : Iris) (numbers : BTreeMap (List ℕ) ℕ) : Type 0 where
  pub number : (n : ℕ) (iri : List ℕ) → dict.get iris n ≡ Some iri → get (slice_cmp nat_cmp) numbers iri ≡ Some n
  pub iri : (n : ℕ) (iri : List ℕ) → get (slice_cmp nat_cmp) numbers iri ≡ Some n → dict.get iris n ≡ Some iri
