-- The law of the migration from version 1 of the schema to version 2.
use Rattle.std.proofs.lemmas.Grind.{common_steps}
use Rattle.std.proofs.Common.{arith, inl, inr, ◌≡◌, ◌≤◌, ◌↔◌, ℕ, List, [], ◌∷◌, map, filter, Bool, true, not}
use Rattle.std.proofs.Common.{◌==◌, Option, None, Some, refl, sym, ap, subst, ◌∙◌}
use Rattle.std.proofs.lemmas.Bool.{cases_Bool}
use Rattle.thes_base.specs.declared.data.Link.{Link}
use Rattle.thes_base.specs.declared.data.LinkKind.{LinkKind}
use Rattle.thes_base.specs.declared.data.LinkKind.TheVariants as kinds
use Rattle.thes_base.specs.Links.{Links, Holds, link_kind_no}
use Rattle.thes_base.specs.State.{State}
use Rattle.thes_tables.specs.declared.rows.HierRow.{HierRow}
use Rattle.thes_tables.specs.declared.rows.HierType.{HierType}
use Rattle.thes_tables.specs.declared.rows.HierType.TheVariants as ht
use Rattle.thes_tables.specs.Tables.{Tables, IsIn, AreDistinct, IsUnsortedListing, IsRowsOf, IsHierOf, IsLinkOf}
use Rattle.thes_tables.specs.Tables.{hier_link, hier_kind, hier_type}
use Rattle.thes_tables.specs.Changes.{hier_row}
use Rattle.thes_tables.proofs.LinkRowLemmas.{link_of_hier_row}
use Rattle.thes_tables.proofs.RowSetLemmas.{in_filter, filter_in, in_map, map_in, lists_filter, once_map}
use Rattle.thes_tables.specs.OldRows.{is_broader, untyped_row, tables_after_migration, IsOldRowsOf}

once_unmap : {A B : Type 0} (f : A → B) (xs : List A) → AreDistinct (map f xs) → AreDistinct xs
once_unmap f [] once = tt
once_unmap f (x ∷ xs) once = (λ h. once.0 (map_in f x xs h), once_unmap f xs once.1)

once_parts : {A : Type 0} (test : A → Bool) (xs : List A) → AreDistinct (filter test xs)
    → AreDistinct (filter (λ x. not (test x)) xs) → AreDistinct xs
once_parts test [] those others = tt
once_parts {A} test (x ∷ xs) those others = grind (arith, common_steps, once_parts test xs, filter_in)

-- The kind of link with number 1 is `Broader`.
broader_kind : (kind : LinkKind) → (link_kind_no kind == 1) ≡ true → kind ≡ kinds.Broader
broader_kind kind e = grind (arith, common_steps)

-- A kind that isn't hierarchical has a number from 2 to 8, so version 1 has it too.
plain_kind : (kind : LinkKind) → hier_type kind ≡ None → (not (link_kind_no kind == 1) ≡ true) × (link_kind_no kind ≤ 8)
plain_kind kind e = grind (arith, common_steps)

-- A kind of version 1 whose number isn't 1 isn't hierarchical.
old_plain : (kind : LinkKind) → link_kind_no kind ≤ 8 → not (link_kind_no kind == 1) ≡ true → hier_type kind ≡ None
old_plain kind le e = grind (arith, common_steps)

-- If the kind of link for a type of hierarchical relationship is one of version 1, the type is `Untyped`.
old_type : (typ : HierType) → link_kind_no (hier_kind typ) ≤ 8 → typ ≡ ht.Untyped
old_type typ le = grind (arith, common_steps)

-- The row of table hier for a link of kind broader encodes it.
untyped_tells : (l : Link) → is_broader l ≡ true → hier_link (untyped_row l) ≡ l
untyped_tells l e = λ i. record { kind = sym (broader_kind l.kind e) i; a = l.a; b = l.b }

untyped_one : (x y : Link) → is_broader x ≡ true → is_broader y ≡ true → untyped_row x ≡ untyped_row y → x ≡ y
untyped_one x y ex ey e = sym (untyped_tells x ex) ∙ ap hier_link e ∙ untyped_tells y ey

-- An untyped row is the row of the link that it encodes.
untyped_back : (row : HierRow) → row.typ ≡ ht.Untyped → row ≡ untyped_row (hier_link row)
untyped_back row e = λ i. record { a = row.a; b = row.b; typ = e i }

typed_broader : (row : HierRow) → row.typ ≡ ht.Untyped → is_broader (hier_link row) ≡ true
typed_broader row e = ap (λ typ. link_kind_no (hier_kind typ) == 1) e

module _ (links : Links) (ls : List Link) where
  abbrev links_not_broader : List Link
  links_not_broader = filter (λ l. not (is_broader l)) ls

  abbrev rows_of_broader : List HierRow
  rows_of_broader = map untyped_row (filter is_broader ls)

  module _ (are : IsUnsortedListing (Holds links) ls) (old : (l : Link) → Holds links l → link_kind_no l.kind ≤ 8) where
    links_renewed : IsUnsortedListing (IsLinkOf links) links_not_broader
    links_renewed = lists_filter (λ l. not (is_broader l)) ls (λ l h. (h.0, (plain_kind l.kind h.1).0))
        (λ l h e. (h, old_plain l.kind (old l h) e)) are

    -- After the migration, table hier has exactly the links of kind broader.
    hier_renewed : IsUnsortedListing (IsHierOf links) rows_of_broader
    hier_renewed = record {
      sound = λ row h.
          let at = in_map untyped_row row (filter is_broader ls) h in
          let l = in_filter is_broader at.0 ls at.1 in
          subst (Holds links) (sym (ap hier_link at.2 ∙ untyped_tells at.0 l.1)) (are.sound at.0 l.0);
      complete = λ row h.
          let typ = old_type row.typ (old (hier_link row) h) in
          subst (λ r. IsIn r rows_of_broader) (sym (untyped_back row typ))
          (map_in untyped_row (hier_link row) (filter is_broader ls)
          (filter_in is_broader (hier_link row) ls (are.complete (hier_link row) h) (typed_broader row typ)));
      once = once_map untyped_row (filter is_broader ls)
          (λ x y hx hy. untyped_one x y (in_filter is_broader x ls hx).1 (in_filter is_broader y ls hy).1)
          (lists_filter {Less = λ l. Holds links l × (is_broader l ≡ true)} is_broader ls (λ l h. h)
          (λ l h e. (h, e)) are).once;
    }

  module _ (link : IsUnsortedListing (IsLinkOf links) links_not_broader)
      (hier : IsUnsortedListing (IsHierOf links) rows_of_broader) where
    -- Each link of the state is a row of the old table link, and of a kind of version 1.
    in_table_link : (l : Link) → Holds links l → IsIn l ls × (link_kind_no l.kind ≤ 8)
    in_table_link l h = go (hier_type l.kind) refl
      where
        go : (o : Option HierType) → hier_type l.kind ≡ o → IsIn l ls × (link_kind_no l.kind ≤ 8)
        go None e = ((in_filter (λ x. not (is_broader x)) l ls (link.complete l (h, e))).0, (plain_kind l.kind e).1)
        go (Some typ) e =
            let at = in_map untyped_row (hier_row typ l) (filter is_broader ls)
            (hier.complete (hier_row typ l) (subst (Holds links) (sym (link_of_hier_row l typ e)) h)) in
            let there = in_filter is_broader at.0 ls at.1 in
            let same : l ≡ at.0 = sym (link_of_hier_row l typ e) ∙ ap hier_link at.2 ∙ untyped_tells at.0 there.1 in
            let kind : l.kind ≡ kinds.Broader = ap (λ (x : Link). x.kind) same ∙ broader_kind at.0.kind there.1 in
            (subst (λ x. IsIn x ls) (sym same) there.0, subst (λ k. link_kind_no k ≤ 8) (sym kind) (omega arith))

    -- Each row of the old table link is a link of the state.
    member_is_held : (l : Link) → IsIn l ls → Holds links l
    member_is_held l h = elim (cases_Bool (is_broader l)) [
      | inl is ↦ subst (Holds links) (untyped_tells l is)
          (hier.sound (untyped_row l) (map_in untyped_row l (filter is_broader ls) (filter_in is_broader l ls h is)))
      | inr not_so ↦ (link.sound l (filter_in (λ x. not (is_broader x)) l ls h (ap not not_so))).0
    ]

    links_were : IsUnsortedListing (Holds links) ls
    links_were = grind (arith, common_steps, member_is_held, in_table_link, once_parts, once_unmap)

-- Tables encode a state in version 1 exactly when the migrated tables encode it in version 2.
pub migration_law : (base : List ℕ) (s : State) (t : Tables) → IsOldRowsOf base s t
    ↔ IsRowsOf base s (tables_after_migration t)
migration_law base s t = (
  λ old. grind (
    arith,
    common_steps,
    links_renewed s.links t.link old.link old.kinds,
    hier_renewed s.links t.link old.link old.kinds,
  ),
  λ new. grind (arith, common_steps, links_were s.links t.link new.link new.hier, in_table_link),
)
