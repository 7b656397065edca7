-- The orders of mappings and of typed links by name are total, and entries that compare equal are equal.
use Rattle.std.proofs.Common.{◌≡◌, ℕ, List, [], ◌∷◌, refl}
use Rattle.std.specs.Prelude.{find, Some}
use Rattle.std.specs.Str.{bytes_eq}
use Rattle.std.specs.Ordering.{nat_cmp}
use Rattle.std.specs.Cmp.{IsTotalOrder, nat_cmp_total}
use Rattle.std.specs.Cmp.Lexicographic.{slice_cmp}
use Rattle.std.specs.FinSet.{IsAntisymmetric}
use Rattle.std.proofs.lemmas.Cmp.{then_total, on_total, nat_list_cmp_total}
use Rattle.std.proofs.lemmas.Map.Lookups.{exact_unsigned, exact_bytes, exact_pairs}
use Rattle.thes_base.specs.declared.data.LinkKind.{LinkKind}
use Rattle.thes_base.specs.declared.data.LinkKind.TheVariants as link
use Rattle.thes_base.specs.declared.data.TypedKind.{TypedKind}
use Rattle.thes_base.specs.declared.data.TypedKind.TheVariants as typed
use Rattle.thes_base.specs.Links.{link_kinds}
use Rattle.thes_base.specs.KindNames.{link_kind_name, typed_kind_name}
use Rattle.thes_base.specs.Views.{kind_name_cmp, mapping_cmp, typed_cmp}
use Rattle.thes_base.proofs.InjectiveCodeLemmas.{one_to_one}

module _ {K : Type 0} (word : K → List ℕ) where
  word_total : IsTotalOrder (kind_name_cmp word)
  word_total = then_total (on_total (λ (m : K × ℕ). word m.0) nat_list_cmp_total)
      (on_total (λ (m : K × ℕ). m.1) nat_cmp_total)

  word_exact : ((j k : K) → word j ≡ word k → j ≡ k) → IsAntisymmetric (kind_name_cmp word)
  word_exact same x y e = exact_pairs (λ j k. slice_cmp nat_cmp (word j) (word k)) nat_cmp
      (λ j k tied. same j k (exact_bytes _ _ tied)) exact_unsigned x y e

link_found : (k : LinkKind) → find (λ j. bytes_eq (link_kind_name k) (link_kind_name j)) link_kinds ≡ Some k
link_found link.Broader = refl
link_found _ = refl

-- The kinds of typed links in the order of their names.
typed_kinds : List TypedKind
typed_kinds =
    typed.BroaderGeneric ∷ typed.BroaderInstantial ∷ typed.BroaderPartitive
    ∷ typed.NarrowerGeneric ∷ typed.NarrowerInstantial ∷ typed.NarrowerPartitive ∷ []

typed_found : (k : TypedKind) → find (λ j. bytes_eq (typed_kind_name k) (typed_kind_name j)) typed_kinds ≡ Some k
unfolding typed_kinds
typed_found typed.BroaderGeneric = refl
typed_found _ = refl

pub same_link_word : (j k : LinkKind) → link_kind_name j ≡ link_kind_name k → j ≡ k
same_link_word = one_to_one link_kind_name (λ w. find (λ j. bytes_eq w (link_kind_name j)) link_kinds) link_found

pub same_typed_word : (j k : TypedKind) → typed_kind_name j ≡ typed_kind_name k → j ≡ k
same_typed_word = one_to_one typed_kind_name (λ w. find (λ j. bytes_eq w (typed_kind_name j)) typed_kinds) typed_found

pub mapping_total : IsTotalOrder mapping_cmp
mapping_total = word_total link_kind_name

pub mapping_exact : IsAntisymmetric mapping_cmp
mapping_exact = word_exact link_kind_name same_link_word

pub typed_total : IsTotalOrder typed_cmp
typed_total = word_total typed_kind_name

pub typed_exact : IsAntisymmetric typed_cmp
typed_exact = word_exact typed_kind_name same_typed_word
