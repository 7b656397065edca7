-- The tables link and hier encode one set of links.
use Rattle.std.proofs.lemmas.Grind.{common_steps}
use Rattle.std.proofs.Common.{arith, ◌≡◌, ◌⊎◌, List, ◌++◌, map, sym, ap, ◌∙◌, subst, inl, inr}
use Rattle.std.proofs.lemmas.Option.{same_Some}
use Rattle.std.specs.Prelude.{Option, None, Some}
use Rattle.thes_base.specs.declared.data.Link.{Link}
use Rattle.thes_base.specs.Links.{Links, Holds}
use Rattle.thes_base.proofs.LinkSetLemmas.{links_total, links_exact}
use Rattle.thes_base.proofs.SetMemberLemmas.{same_members}
use Rattle.thes_tables.specs.declared.rows.HierRow.{HierRow}
use Rattle.thes_tables.specs.declared.rows.HierType.{HierType}
use Rattle.thes_tables.specs.Tables.{IsIn, AreDistinct, IsUnsortedListing, IsLinkOf, IsHierOf, hier_link, hier_type}
use Rattle.thes_tables.specs.Changes.{hier_row}
use Rattle.thes_tables.proofs.RowSetLemmas.{in_append, append_left, append_right, in_map, map_in}
use Rattle.thes_tables.proofs.LinkRowLemmas.{type_back, link_of_hier_row}
use Rattle.thes_load_rules.specs.Rules.{EachRow, links_of}
use Rattle.thes_load_rules.proofs.RowListLemmas.{row_of, in_set}

-- A row of table hier is determined by the link that it encodes.
pub hier_link_one : (x y : HierRow) → hier_link x ≡ hier_link y → x ≡ y
hier_link_one x y e = grind (arith, common_steps, type_back, same_Some)

no_type : (row : HierRow) (l : Link) → l ≡ hier_link row → hier_type l.kind ≡ None → ⊥
no_type row l e none = let both = sym none ∙ ap (λ (x : Link). hier_type x.kind) e ∙ type_back row.typ in absurd (cc)

module _ (K : List Link) (H : List HierRow) where
  pub held_cases : (l : Link) → Holds (links_of K H) l → IsIn l K
      ⊎ ((row : HierRow) × IsIn row H × (l ≡ hier_link row))
  held_cases l h = elim (in_append l K (map hier_link H) (row_of links_total links_exact (K ++ map hier_link H) l h)) [
    | inl plain ↦ inl plain
    | inr typed ↦ inr (in_map hier_link l H typed)
  ]

  pub link_held : (l : Link) → IsIn l K → Holds (links_of K H) l
  link_held l h = in_set links_total links_exact _ l (append_left l K (map hier_link H) h)

  pub hier_held : (row : HierRow) → IsIn row H → Holds (links_of K H) (hier_link row)
  hier_held row h = in_set links_total links_exact _ (hier_link row) (append_right (hier_link row) K (map hier_link H)
      (map_in hier_link row H h))

  pub link_lists : EachRow (λ l. hier_type l.kind ≡ None) K → AreDistinct K
      → IsUnsortedListing (IsLinkOf (links_of K H)) K
  link_lists kinds once = grind (arith, common_steps, link_held, held_cases, no_type)

  pub hier_lists : EachRow (λ l. hier_type l.kind ≡ None) K → AreDistinct H
      → IsUnsortedListing (IsHierOf (links_of K H)) H
  hier_lists kinds once = record {
    sound = hier_held;
    complete = λ row h. elim (held_cases (hier_link row) h) [
      | inl plain ↦ absurd (no_type row (hier_link row) (λ i. hier_link row) (kinds (hier_link row) plain))
      | inr typed ↦ subst (λ x. IsIn x H) (sym (hier_link_one row typed.0 typed.2)) typed.1
    ];
    once = once;
  }

  -- If the tables link and hier list the links of a set, they encode exactly that set.
  pub same_links : (links : Links) → IsUnsortedListing (IsLinkOf links) K → IsUnsortedListing (IsHierOf links) H
      → links_of K H ≡ links
  same_links links plain typed = same_members links_total links_exact _ _ to from
    where
      to : (l : Link) → Holds (links_of K H) l → Holds links l
      to l h = grind (arith, common_steps, held_cases)

      from : (l : Link) → Holds links l → Holds (links_of K H) l
      from l h = go (hier_type l.kind) (λ i. hier_type l.kind)
        where
          go : (o : Option HierType) → hier_type l.kind ≡ o → Holds (links_of K H) l
          go None e = link_held l (plain.complete l (h, e))
          go (Some typ) e = subst (Holds (links_of K H)) (link_of_hier_row l typ e) (hier_held (hier_row typ l)
              (typed.complete (hier_row typ l) (subst (Holds links) (sym (link_of_hier_row l typ e)) h)))
