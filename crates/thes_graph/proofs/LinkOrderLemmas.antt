-- The orders that `cmp` computes for links, sides and typed kinds are the defined ones, and are total and
-- antisymmetric.
use Rattle.std.proofs.lemmas.Grind.{common_steps}
use Rattle.std.proofs.Common.{◌≡◌, ℕ, List, refl, sym, ap, subst, Equal, arith}
use Rattle.std.specs.List.Sorted.{IsStrictlySortedBy}
use Rattle.std.specs.BTreeSet.{insert_key}
use Rattle.std.specs.Cmp.Lexicographic.{slice_cmp}
use Rattle.std.specs.Ordering.{nat_cmp, ordering_then}
use Rattle.std.specs.Cmp.{IsTotalOrder, nat_cmp_total}
use Rattle.std.specs.FinSet.{IsAntisymmetric}
use Rattle.std.specs.declared.cmp.Ordering.{Ordering}
use Rattle.std.proofs.lemmas.Cmp.{then_total, on_total}
use Rattle.std.proofs.lemmas.Map.Lookups.{exact_pairs}
use Rattle.thes_base.specs.declared.data.Link.{Link}
use Rattle.thes_base.specs.declared.data.LinkKind.{LinkKind}
use Rattle.thes_base.specs.declared.data.LinkKind.TheVariants.{Broader}
use Rattle.thes_base.specs.declared.data.TypedKind.{TypedKind}
use Rattle.thes_base.specs.declared.data.TypedKind.TheVariants as typed
use Rattle.thes_base.specs.contracts.data.TypedKindOrd.TheImpl as typed_kind
use Rattle.thes_base.specs.KindNames.{typed_kind_name}
use Rattle.thes_base.specs.Views.{typed_cmp}
use Rattle.thes_base.specs.contracts.data.LinkKindOrd.TheImpl as kind
use Rattle.thes_base.specs.contracts.data.LinkOrd.TheImpl as link
use Rattle.thes_base.specs.Links.{link_cmp, link_kind_no}
use Rattle.thes_base.proofs.LinkSetLemmas.{links_total, links_exact}
use Rattle.thes_links.specs.declared.side.Side.{Side}
use Rattle.thes_links.specs.declared.side.Side.TheVariants.{Up, Sideways, Alike, Down, Other}
use Rattle.thes_graph.specs.declared.sided_links.SidedLink.{SidedLink}
use Rattle.thes_links.specs.contracts.side.SideOrd.TheImpl as side
use Rattle.thes_graph.specs.contracts.sided_links.SidedLinkOrd.TheImpl as sided_link
use Rattle.thes_links.specs.Side.{side_no}
use Rattle.thes_graph.specs.SidedLinks.{sided_link_cmp}

same_kinds : (j k : LinkKind) → kind.ghosts.cmp j k ≡ nat_cmp (link_kind_no j) (link_kind_no k)
same_kinds Broader Broader = refl
same_kinds Broader _ = refl
same_kinds _ Broader = refl
same_kinds _ _ = refl

abbrev pub derived_link_cmp : Link → Link → Ordering
derived_link_cmp = link.ghosts.cmp

pub derived_link_cmp_is : derived_link_cmp ≡ link_cmp
derived_link_cmp_is = λ i x y. ordering_then (same_kinds x.kind y.kind i)
    (ordering_then (nat_cmp x.a y.a) (nat_cmp x.b y.b))

same_sides : (j k : Side) → side.ghosts.cmp j k ≡ nat_cmp (side_no j) (side_no k)
same_sides Up Up = refl
same_sides Up _ = refl
same_sides _ Up = refl
same_sides _ _ = refl

abbrev pub derived_sided_cmp : SidedLink → SidedLink → Ordering
derived_sided_cmp = sided_link.ghosts.cmp

pub derived_sided_cmp_is : derived_sided_cmp ≡ sided_link_cmp
derived_sided_cmp_is = λ i x y. ordering_then (same_sides x.side y.side i) (derived_link_cmp_is i x.link y.link)

pub sided_links_total : IsTotalOrder sided_link_cmp
sided_links_total = then_total (on_total (λ (s : SidedLink). side_no s.side) nat_cmp_total)
    (on_total (λ (s : SidedLink). s.link) links_total)

same_side : (j k : Side) → nat_cmp (side_no j) (side_no k) ≡ Equal → j ≡ k
same_side Up Up e = refl
same_side Sideways Sideways e = refl
same_side Alike Alike e = refl
same_side Down Down e = refl
same_side Other Other e = refl
same_side _ _ e = cc

pub sided_links_exact : IsAntisymmetric sided_link_cmp
sided_links_exact x y e = grind (arith, common_steps, exact_pairs, links_exact, same_side)

same_words : (j k : TypedKind) → typed_kind.ghosts.cmp j k ≡ slice_cmp nat_cmp (typed_kind_name j) (typed_kind_name k)
same_words typed.BroaderGeneric typed.BroaderGeneric = refl
same_words typed.BroaderGeneric _ = refl
same_words _ typed.BroaderGeneric = refl
same_words _ _ = refl

abbrev derived_typed_cmp : TypedKind × ℕ → TypedKind × ℕ → Ordering
derived_typed_cmp x y = ordering_then (typed_kind.ghosts.cmp x.0 y.0) (nat_cmp x.1 y.1)

derived_typed_cmp_is : derived_typed_cmp ≡ typed_cmp
derived_typed_cmp_is = λ i x y. ordering_then (same_words x.0 y.0 i) (nat_cmp x.1 y.1)

pub typed_inserted : (found : List (TypedKind × ℕ)) (p : TypedKind × ℕ) → insert_key derived_typed_cmp found p
    ≡ insert_key typed_cmp found p
typed_inserted found p = ap (λ cmp. insert_key cmp found p) derived_typed_cmp_is

pub typed_rises : (found : List (TypedKind × ℕ)) → IsStrictlySortedBy typed_cmp found
    → IsStrictlySortedBy derived_typed_cmp found
typed_rises found rises = let P : (TypedKind × ℕ → TypedKind × ℕ → Ordering) → Type 0 =
    λ cmp. IsStrictlySortedBy cmp found in subst P (sym derived_typed_cmp_is) rises
