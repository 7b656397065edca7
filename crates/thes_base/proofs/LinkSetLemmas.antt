-- The members of a set of links after a change.
use Rattle.std.proofs.lemmas.Grind.{common_steps}
use Rattle.std.proofs.Common.{arith}
use Rattle.std.proofs.Common.{◌≡◌, ◌⊎◌, inl, inr, ℕ, refl, sym, subst, Bool, true, false, not, ◌||◌, Equal}
use Rattle.std.specs.Prelude.{◌==◌, filter, Some}
use Rattle.std.specs.Ordering.{nat_cmp}
use Rattle.std.specs.Cmp.{IsTotalOrder, nat_cmp_total}
use Rattle.std.proofs.lemmas.Bool.{eqb-false, not-true, not_from_false, or_parts, or_from, ne_eqb}
use Rattle.std.proofs.lemmas.Cmp.{then_total, on_total}
use Rattle.std.proofs.lemmas.Map.Lookups.{exact_unsigned, exact_pairs}
use Rattle.std.specs.FinSet.{IsAntisymmetric, insert, items, retain}
use Rattle.thes_base.specs.declared.data.Link.{Link}
use Rattle.thes_base.specs.declared.data.LinkKind.{LinkKind}
use Rattle.thes_base.specs.declared.data.LinkKind.TheVariants.{Broader}
use Rattle.thes_base.specs.Resources.{entry_at}
use Rattle.thes_base.specs.Links.{Links, link_cmp, link_kinds, link_kind_no, Holds, normal_form, redirect}
use Rattle.thes_base.specs.Links.{redirect_link, links_after_merge, links_after_deprecation, IsHeldAfterMerge}
use Rattle.thes_base.specs.Links.{IsHeldAfterDeprecation}
use Rattle.thes_base.proofs.InjectiveCodeLemmas.{one_to_one}
use Rattle.thes_base.proofs.ListMemberLemmas.{Contains-map, Contains-from_map, Contains-filter, Contains-from_filter}
use Rattle.thes_base.proofs.SetMemberLemmas.{inserted_cases, from_list_of, from_list_has, items_of, items_has}
use Rattle.thes_base.proofs.SetMemberLemmas.{retained_from, retained_to}

pub links_total : IsTotalOrder link_cmp
links_total =
    then_total (on_total (λ (l : Link). link_kind_no l.kind) nat_cmp_total)
    (then_total (on_total (λ (l : Link). l.a) nat_cmp_total) (on_total (λ (l : Link). l.b) nat_cmp_total))

-- In the list of kinds of links, each is at the position of its number.
kind_found : (k : LinkKind) → entry_at link_kinds (link_kind_no k) ≡ Some k
kind_found Broader = refl
kind_found _ = refl

pub same_kind : (j k : LinkKind) → link_kind_no j ≡ link_kind_no k → j ≡ k
same_kind = one_to_one link_kind_no (entry_at link_kinds) kind_found

exact_kinds : (j k : LinkKind) → nat_cmp (link_kind_no j) (link_kind_no k) ≡ Equal → j ≡ k
exact_kinds j k e = same_kind j k (exact_unsigned _ _ e)

-- Links that compare equal are equal.
pub links_exact : IsAntisymmetric link_cmp
links_exact x y e = grind (arith, common_steps, exact_kinds, exact_pairs, exact_unsigned)

-- A link after an insertion is the inserted one or an old one.
pub link_inserted_cases : (links : Links) (l m : Link) → Holds (insert links l) m → (m ≡ l) ⊎ Holds links m
link_inserted_cases = inserted_cases links_total links_exact

-- A retained link is an old one that passes the test.
pub link_retained : (links : Links) (test : Link → Bool) (m : Link) → Holds (retain links test) m → Holds links m
    × (test m ≡ true)
link_retained = retained_from links_total links_exact

-- A link is held after a merge exactly when it is the normal form of a link held before, redirected, whose ends stay
-- different.
module _ (is_outside : ℕ → Bool) (source target : ℕ) (links : Links) where
  abbrev stays : Link → Bool
  stays l = not (redirect source target l.a == redirect source target l.b)

  abbrev becomes : Link → Link
  becomes l = normal_form is_outside (redirect_link source target l)

  pub contracted_from : (m : Link) → Holds (links_after_merge is_outside source target links) m
      → IsHeldAfterMerge is_outside source target links m
  contracted_from m held =
      let made = Contains-from_map becomes (filter stays (items links)) m
      (from_list_of links_total links_exact _ m held) in
      let kept = Contains-from_filter stays (items links) made.0 made.1 in
      (made.0, items_of links_total links_exact links made.0 kept.0, eqb-false _ _ (not-true _ kept.1), sym made.2)

  pub contracted_to : (m : Link) → IsHeldAfterMerge is_outside source target links m
      → Holds (links_after_merge is_outside source target links) m
  contracted_to m (l, held, two, is) =
      let kept = Contains-filter stays (items links) l (items_has links_total links_exact links l held)
      (not_from_false _ (ne_eqb _ _ two)) in
      subst (Holds (links_after_merge is_outside source target links)) (sym is)
      (from_list_has links_total links_exact _ (becomes l) (Contains-map becomes (filter stays (items links)) l kept))

-- A link is held after a deprecation exactly when it was held before and the concept is neither of its ends.
module _ (n : ℕ) (links : Links) where
  abbrev away : Link → Bool
  away l = not (l.a == n || l.b == n)

  pub without_node_from : (m : Link) → Holds (links_after_deprecation n links) m → IsHeldAfterDeprecation n links m
  without_node_from m held =
      (kept.0, λ at. elim at [ inl a ↦ eqb-false m.a n ends.0 a | inr b ↦ eqb-false m.b n ends.1 b ])
    where
      kept : Holds links m × (away m ≡ true)
      kept = retained_from links_total links_exact links away m held

      ends : ((m.a == n) ≡ false) × ((m.b == n) ≡ false)
      ends = or_parts (m.a == n) (m.b == n) (not-true _ kept.1)

  pub without_node_to : (m : Link) → IsHeldAfterDeprecation n links m → Holds (links_after_deprecation n links) m
  without_node_to m (held, off) =
      retained_to links_total links_exact links away m held
      (not_from_false _ (or_from (m.a == n) (m.b == n) (ne_eqb m.a n (λ a. off (inl a)))
      (ne_eqb m.b n (λ b. off (inr b)))))
