-- The tables link and hier after insertions and deletions of links.
use Rattle.std.proofs.lemmas.Grind.{common_steps}
use Rattle.std.proofs.Common.{arith, ◌≡◌, ◌⊎◌, ℕ, List, [], ◌∷◌, ◌++◌, refl, sym, ap, ◌∙◌, subst, inl, inr, false}
use Rattle.std.proofs.Common.{not, map}
use Rattle.std.proofs.lemmas.Option.{same_Some}
use Rattle.std.specs.Prelude.{Option, None, Some}
use Rattle.std.specs.Ordering.{eq_by_cmp, is_eq}
use Rattle.std.specs.Cmp.{tied_itself}
use Rattle.std.specs.FinSet as set
use Rattle.thes_base.specs.declared.data.Link.{Link}
use Rattle.thes_base.specs.declared.data.LinkKind.{LinkKind}
use Rattle.thes_base.specs.Links.{Links, Holds, link_cmp}
use Rattle.thes_base.specs.State.{State}
use Rattle.thes_base.proofs.LinkSetLemmas.{links_total, links_exact}
use Rattle.thes_tables.specs.declared.rows.HierRow.{HierRow}
use Rattle.thes_tables.specs.declared.rows.HierType.{HierType}
use Rattle.thes_tables.specs.declared.change.Change.{Change}
use Rattle.thes_tables.specs.declared.change.Change.TheVariants as change
use Rattle.thes_tables.specs.Tables.{Tables, IsRowsOf, IsUnsortedListing, IsHierOf, IsLinkOf, hier_kind, hier_link}
use Rattle.thes_tables.specs.Tables.{hier_type}
use Rattle.thes_tables.specs.Rows.{tables_after_change, tables_after_delta, DeltaFits, ChangeFits}
use Rattle.thes_tables.specs.Changes.{hier_row, add_link, drop_link, missing_items, without_elements, links_to_remove}
use Rattle.std.proofs.lemmas.Bool.{cases_Bool, not-true, not_from_false}
use Rattle.thes_base.proofs.SetMemberLemmas.{inserted_cases, inserted_kept, inserted_new, removed_cases, removed_kept}
use Rattle.thes_tables.proofs.RowSetLemmas.{clash, equal_of_tie, set_with_list, Absent, coming_same, coming_absent}
use Rattle.thes_tables.proofs.RowSetLemmas.{Present, leaving_present, held_item}
use Rattle.thes_tables.proofs.RowSetLemmas.{turn_into, lists_push, lists_filter, lists_drop, lists_same}
use Rattle.thes_tables.proofs.DeltaAppendLemmas.{all_append, fit_append}

pub type_back : (typ : HierType) → hier_type (hier_kind typ) ≡ Some typ
type_back typ = grind (arith, common_steps)

-- The type of a hierarchical kind of link leads back to that kind.
kind_back : (kind : LinkKind) (typ : HierType) → hier_type kind ≡ Some typ → hier_kind typ ≡ kind
kind_back kind typ e = grind (arith, common_steps, same_Some)

-- The row of a hierarchical link encodes it, and no other row does.
pub link_of_hier_row : (l : Link) (typ : HierType) → hier_type l.kind ≡ Some typ → hier_link (hier_row typ l) ≡ l
link_of_hier_row l typ e = λ i. record { kind = kind_back l.kind typ e i; a = l.a; b = l.b }

only_row : (l : Link) (typ : HierType) (row : HierRow) → hier_type l.kind ≡ Some typ → hier_link row ≡ l → row
    ≡ hier_row typ l
only_row l typ row e same = grind (arith, common_steps, type_back, same_Some)

-- No row of table hier encodes a link that isn't hierarchical.
no_hier_row : (l : Link) (row : HierRow) → hier_type l.kind ≡ None → hier_link row ≡ l → ⊥
no_hier_row l row none same = let e = sym (type_back row.typ) ∙ ap (λ (x : Link). hier_type x.kind) same ∙ none in
    absurd (cc)

-- The tables link and hier encode the links.
pub record LinkRows (links : Links) (t : Tables) : Type 0 where
  pub link : IsUnsortedListing (IsLinkOf links) t.link
  pub hier : IsUnsortedListing (IsHierOf links) t.hier

pub link_rows_of_tables : {base : List ℕ} {s : State} {t : Tables} → IsRowsOf base s t → LinkRows s.links t
link_rows_of_tables is = record { link = is.link; hier = is.hier }

-- Assumes that one link is inserted.
module _ (l : Link) (links : Links) (t : Tables) where
  abbrev more : Links
  more = set.insert links l

  more_cases : (q : Link) → Holds more q → (q ≡ l) ⊎ Holds links q
  more_cases q h = inserted_cases links_total links_exact links l q h

  more_kept : (q : Link) → Holds links q → Holds more q
  more_kept q h = inserted_kept links_total links_exact links l q h

  more_new : Holds more l
  more_new = inserted_new links_total links_exact links l

  -- After the insertion of a link that isn't hierarchical into table link, the tables encode the links with this one.
  link_plain : hier_type l.kind ≡ None → set.contains links l ≡ false → LinkRows links t
      → LinkRows more (record t { link = t.link ++ l ∷ [] })
  link_plain none out are = record {
    link = lists_push t.link l (λ h. clash (set.contains links l) h.0 out)
        (λ q h. elim (more_cases q h.0) [ inl e ↦ inl e | inr old ↦ inr (old, h.1) ]) (more_new, none)
        (λ q h. (more_kept q h.0, h.1)) are.link;
    hier = lists_same t.hier (λ row h. more_kept (hier_link row) h)
        (λ row h. elim (more_cases (hier_link row) h) [ inl e ↦ absurd (no_hier_row l row none e) | inr old ↦ old ])
        are.hier;
  }

  -- After the insertion of a hierarchical link into table hier, the tables encode the links with this one.
  link_hier : (typ : HierType) → hier_type l.kind ≡ Some typ → set.contains links l ≡ false → LinkRows links t
      → LinkRows more (record t { hier = t.hier ++ hier_row typ l ∷ [] })
  link_hier typ e out are = record {
    link = lists_same t.link (λ q h. (more_kept q h.0, h.1))
        (λ q h. elim (more_cases q h.0) [ inl same ↦ absurd (other q same h.1) | inr old ↦ (old, h.1) ]) are.link;
    hier = lists_push t.hier (hier_row typ l)
        (λ h. clash (set.contains links l) (subst (Holds links) (link_of_hier_row l typ e) h) out)
        (λ row h. elim (more_cases (hier_link row) h) [
          | inl same ↦ inl (only_row l typ row e same)
          | inr old ↦ inr old
        ]) (subst (Holds more) (sym (link_of_hier_row l typ e)) more_new)
        (λ row h. more_kept (hier_link row) h) are.hier;
  }
    where
      other : (q : Link) → q ≡ l → hier_type q.kind ≡ None → ⊥
      other q same none = let both = sym none ∙ ap (λ (x : Link). hier_type x.kind) same ∙ e in absurd (cc)

  pub link_in : set.contains links l ≡ false → LinkRows links t → LinkRows more (tables_after_change (add_link l) t)
  link_in out are = grind (arith, common_steps, link_plain, link_hier)

  pub link_fits : set.contains links l ≡ false → LinkRows links t → ChangeFits (add_link l) t
  link_fits out are = go (hier_type l.kind) refl
    where
      go : (o : Option HierType) → hier_type l.kind ≡ o
          → ChangeFits (elim o [ None ↦ change.AddLink l | Some typ ↦ change.AddHier (hier_row typ l) ]) t
      go None e = λ h. clash (set.contains links l) (are.link.sound l h).0 out
      go (Some typ) e =
          λ h. clash (set.contains links l) (subst (Holds links) (link_of_hier_row l typ e)
          (are.hier.sound (hier_row typ l) h)) out

-- Assumes that one link is deleted.
module _ (l : Link) (links : Links) (t : Tables) where
  abbrev less : Links
  less = set.remove links l

  less_cases : (q : Link) → Holds less q → (q ≡ l → ⊥) × Holds links q
  less_cases q h = removed_cases links_total links_exact links l q h

  less_kept : (q : Link) → (q ≡ l → ⊥) → Holds links q → Holds less q
  less_kept q ne h = removed_kept links_total links_exact links l q ne h

  -- After the deletion of a link that isn't hierarchical from table link, the tables encode the links without this one.
  drop_plain : hier_type l.kind ≡ None → LinkRows links t → LinkRows less (tables_after_change (change.DropLink l) t)
  drop_plain none are = record {
    link = lists_drop links_total links_exact t.link l (λ q h. let c = less_cases q h.0 in (c.0, (c.1, h.1)))
        (λ q ne h. (less_kept q ne h.0, h.1)) are.link;
    hier = lists_same t.hier (λ row h. less_kept (hier_link row) (no_hier_row l row none) h)
        (λ row h. (less_cases (hier_link row) h).1) are.hier;
  }

  -- After the deletion of a hierarchical link from table hier, the tables encode the links without this one.
  drop_hier : (typ : HierType) → hier_type l.kind ≡ Some typ → LinkRows links t
      → LinkRows less (tables_after_change (change.DropHier (hier_row typ l)) t)
  drop_hier typ e are = record {
    link = lists_same t.link (λ q h. (less_kept q (other q h.1) h.0, h.1)) (λ q h. ((less_cases q h.0).1, h.1))
        are.link;
    hier = lists_filter (λ x. not (eq_by_cmp link_cmp (hier_link x) (hier_link (hier_row typ l)))) t.hier
        (λ row h. let c = less_cases (hier_link row) h in (
          c.1,
          not_from_false _ (elim (cases_Bool (eq_by_cmp link_cmp (hier_link row) (hier_link (hier_row typ l)))) [
            | inl same ↦ absurd (c.0 (equal_of_tie links_total links_exact _ _ same ∙ link_of_hier_row l typ e))
            | inr ne ↦ ne
          ]),
        )) (λ row h passes. less_kept (hier_link row)
        (λ same. clash (eq_by_cmp link_cmp (hier_link row) (hier_link (hier_row typ l)))
        (ap (eq_by_cmp link_cmp (hier_link row)) (link_of_hier_row l typ e ∙ sym same)
        ∙ ap is_eq (tied_itself links_total (hier_link row))) (not-true _ passes)) h) are.hier;
  }
    where
      other : (q : Link) → hier_type q.kind ≡ None → q ≡ l → ⊥
      other q none same = let both = sym none ∙ ap (λ (x : Link). hier_type x.kind) same ∙ e in absurd (cc)

  pub link_out : LinkRows links t → LinkRows less (tables_after_change (drop_link l) t)
  link_out are = grind (arith, common_steps, drop_plain, drop_hier)

abbrev pub with_link_tables : Tables → Tables → Tables
with_link_tables t u = record t { link = u.link; hier = u.hier }

pub added_only : (l : Link) (t : Tables) → tables_after_change (add_link l) t
    ≡ with_link_tables t (tables_after_change (add_link l) t)
added_only l t = grind (arith, common_steps)

pub dropped_only : (l : Link) (t : Tables) → tables_after_change (drop_link l) t
    ≡ with_link_tables t (tables_after_change (drop_link l) t)
dropped_only l t = grind (arith, common_steps)

pub drop_fits : (l : Link) (links : Links) (t : Tables) → Holds links l → LinkRows links t → ChangeFits (drop_link l) t
drop_fits l links t held are = go (hier_type l.kind) refl
  where
    go : (o : Option HierType) → hier_type l.kind ≡ o
        → ChangeFits (elim o [ None ↦ change.DropLink l | Some typ ↦ change.DropHier (hier_row typ l) ]) t
    go None e = are.link.complete l (held, e)
    go (Some typ) e =
        are.hier.complete (hier_row typ l) (subst (Holds links) (sym (link_of_hier_row l typ e)) held)

all_added_only : (ls : List Link) (t : Tables) → tables_after_delta (map add_link ls) t
    ≡ with_link_tables t (tables_after_delta (map add_link ls) t)
all_added_only [] t = refl
all_added_only (l ∷ ls) t = all_added_only ls (tables_after_change (add_link l) t)
    ∙ ap (λ u. with_link_tables u (tables_after_delta (map add_link ls) (tables_after_change (add_link l) t)))
    (added_only l t)

all_dropped_only : (ls : List Link) (t : Tables) → tables_after_delta (map drop_link ls) t
    ≡ with_link_tables t (tables_after_delta (map drop_link ls) t)
all_dropped_only [] t = refl
all_dropped_only (l ∷ ls) t = all_dropped_only ls (tables_after_change (drop_link l) t)
    ∙ ap (λ u. with_link_tables u (tables_after_delta (map drop_link ls) (tables_after_change (drop_link l) t)))
    (dropped_only l t)

added_rows : (ls : List Link) (links : Links) (t : Tables) → Absent links_total links_exact ls links
    → LinkRows links t → LinkRows (set_with_list links_total links_exact ls links)
    (tables_after_delta (map add_link ls) t)
added_rows [] links t a are = are
added_rows (l ∷ ls) links t a are = added_rows ls (set.insert links l) (tables_after_change (add_link l) t) a.1
    (link_in l links t a.0 are)

added_fit : (ls : List Link) (links : Links) (t : Tables) → Absent links_total links_exact ls links → LinkRows links t
    → DeltaFits (map add_link ls) t
added_fit [] links t a are = tt
added_fit (l ∷ ls) links t a are = (
  link_fits l links t a.0 are,
  added_fit ls (set.insert links l) (tables_after_change (add_link l) t) a.1 (link_in l links t a.0 are),
)

dropped_rows : (ls : List Link) (links : Links) (t : Tables) → LinkRows links t → LinkRows (without_elements ls links)
    (tables_after_delta (map drop_link ls) t)
dropped_rows [] links t are = are
dropped_rows (l ∷ ls) links t are = dropped_rows ls (set.remove links l) (tables_after_change (drop_link l) t)
    (link_out l links t are)

dropped_fit : (ls : List Link) (links : Links) (t : Tables) → Present links_total links_exact ls links
    → LinkRows links t → DeltaFits (map drop_link ls) t
dropped_fit [] links t p are = tt
dropped_fit (l ∷ ls) links t p are = (
  drop_fits l links t p.0 are,
  dropped_fit ls (set.remove links l) (tables_after_change (drop_link l) t) p.1 (link_out l links t are),
)

abbrev pub drops_then_adds : List Link → List Link → List Change
drops_then_adds go come = map drop_link go ++ map add_link come

module _ (old new : Links) (go come : List Link) (absent_all : Absent links_total links_exact come
    (without_elements go old)) (same : set_with_list links_total links_exact come (without_elements go old) ≡ new)
    (t : Tables) where
  abbrev tables_after_drops : Tables
  tables_after_drops = tables_after_delta (map drop_link go) t

  split_drops_and_adds : tables_after_delta (drops_then_adds go come) t ≡ tables_after_delta (map add_link come)
      tables_after_drops
  split_drops_and_adds = all_append (map drop_link go) (map add_link come) t

  pub drops_then_adds_only : tables_after_delta (drops_then_adds go come) t
      ≡ with_link_tables t (tables_after_delta (drops_then_adds go come) t)
  drops_then_adds_only = grind (arith, common_steps, split_drops_and_adds, all_added_only, all_dropped_only)

  pub drops_then_adds_rows : LinkRows old t → LinkRows new (tables_after_delta (drops_then_adds go come) t)
  drops_then_adds_rows are = subst (LinkRows new) (sym split_drops_and_adds)
      (subst (λ x. LinkRows x (tables_after_delta (map add_link come) tables_after_drops)) same
      (added_rows come (without_elements go old) tables_after_drops absent_all (dropped_rows go old t are)))

  pub drops_then_adds_fit : Present links_total links_exact go old → LinkRows old t
      → DeltaFits (drops_then_adds go come) t
  drops_then_adds_fit present are = fit_append (map drop_link go) (map add_link come) t (dropped_fit go old t present are)
      (added_fit come (without_elements go old) tables_after_drops absent_all (dropped_rows go old t are))

-- Assumes the deletions and insertions that turn one set of links into another.
module _ (old new : Links) where
  abbrev links_kept : Links
  links_kept = without_elements (links_to_remove old new) old

  pub links_to_remove_present : Present links_total links_exact (links_to_remove old new) old
  links_to_remove_present = leaving_present links_total links_exact (set.items old) old new
      (λ q h out. held_item links_total links_exact old q h)

  abbrev pub links_to_add : List Link
  links_to_add = missing_items links_kept (set.items new)

  pub links_to_add_absent : Absent links_total links_exact links_to_add links_kept
  links_to_add_absent = coming_absent links_total links_exact (set.items new) links_kept

  pub links_to_add_suffice : set_with_list links_total links_exact links_to_add links_kept ≡ new
  links_to_add_suffice = coming_same links_total links_exact (set.items new) links_kept
      ∙ turn_into links_total links_exact old new
