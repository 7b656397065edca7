-- Proves what is found by the queries that check the outcome of a commit.
use Rattle.std.proofs.lemmas.Grind.{common_steps}
use Rattle.std.proofs.Common.{arith, ◌≡◌, ◌∙◌, ℕ, pos, List, [], ◌∷◌, ◌==◌, ◌&&◌, map, filter, codes, Bool, not, length}
use Rattle.std.proofs.Common.{refl, sym, ap}
use Rattle.std.specs.List.{list_any, list_all}
use Rattle.std.specs.Ordering.{eq_by_cmp}
use Rattle.sqlite.specs.declared.types.Value.TheVariants.{Int}
use Rattle.sqlite.specs.Order.{Row}
use Rattle.sqlite.specs.Term.{Term, lit, col, holds}
use Rattle.sqlite.specs.Query.{output}
use Rattle.sqlite.specs.Listing.{understood}
use Rattle.sqlite.specs.State.{State}
use Rattle.sqlite_tied.specs.Compute.{everything}
use Rattle.thes_base.specs.declared.data.Resource.{Resource}
use Rattle.thes_base.specs.declared.data.Link.{Link}
use Rattle.thes_base.specs.Labels.{Label, label_cmp}
use Rattle.thes_base.specs.Links.{link_cmp, link_kind_no}
use Rattle.thes_tables.specs.declared.cells.Cell.{Cell}
use Rattle.thes_tables.specs.declared.rows.HierRow.{HierRow}
use Rattle.thes_tables.specs.declared.rows.PostingRow.{PostingRow}
use Rattle.thes_tables.specs.declared.rows.MoveRow.{MoveRow}
use Rattle.thes_tables.specs.Tables.{Tables, hier_link}
use Rattle.thes_tables.specs.Cells.{number_cell}
use Rattle.thes_sql.specs.Additions.{IsStoreSchema}
use Rattle.thes_sql.specs.StoredRows.{Keeps, AreKeyed, AreHidden, values, hidden_row, numbered_from, stored_resource}
use Rattle.thes_sql.specs.StoredRows.{stored_outside, stored_posting, stored_move, label_values, link_values, hier_values}
use Rattle.thes_sql.specs.Queries.{IsQuery}
use Rattle.thes_sql.specs.Traces.{IsAnswered, has_resource, has_dead, has_outside, has_posting, has_withdrawn, has_move}
use Rattle.thes_sql.specs.Traces.{is_same_hier}
use Rattle.thes_sql.proofs.StatementTextLemmas.{equal_terms, number_filter, label_filter, link_filter}
use Rattle.thes_sql.proofs.WhereLemmas.{same_ints, by_resource, by_number, by_label, by_link, by_hier}
use Rattle.thes_sql.proofs.SelectLemmas.{IsQueryText, ordered_query, query_rows}

-- The list of the rows that pass has an element exactly if some row passes.
some_passes : {X : Type 0} (cells : X → List Cell) (p : X → Bool) (xs : List X)
    → not (length (map values (map cells (filter p xs))) == 0) ≡ list_any p xs
some_passes cells p [] = refl
some_passes cells p (x ∷ xs) = grind (arith, common_steps, some_passes cells p xs)

any_in_map : {X Y : Type 0} (f : X → Y) (p : Y → Bool) (xs : List X)
    → list_any (λ x. p (f x)) xs ≡ list_any p (map f xs)
any_in_map f p [] = refl
any_in_map f p (x ∷ xs) = grind (arith, common_steps, any_in_map f p xs)

module _ {X : Type 0} (num : X → ℕ) (stored : X → Row) (cells : X → List Cell) (tree : ℕ) (project : List Term)
    (params : Row) (filters : List Term) (p : X → Bool)
    (test : (x : X) → list_all (holds (params ∷ stored x ∷ [])) filters ≡ p x)
    (shows : (x : X) → output (ordered_query tree filters project) (params ∷ stored x ∷ []) ≡
    (Int (pos (num x)) ∷ [], values (cells x))) where
  -- The query returns at least one row exactly if some row passes the test.
  some_row : (text : List ℕ) → IsQueryText text (ordered_query tree filters project) → (old new : State) (xs : List X)
      (found : Bool) → IsStoreSchema old.now.schema → AreKeyed stored num xs (old.now.trees tree)
      → IsAnswered text params old new found → found ≡ list_any p xs
  some_row text is old new xs found has held (out, shown, same) =
      same ∙ ap (λ (l : List Row). not (length l == 0))
      (query_rows num stored cells tree project params filters p test shows text is old new xs out has held shown)
      ∙ some_passes cells p xs

-- As above, for a table whose rowids the database chose.
module _ {A : Type 0} (of : A → Row) (cells : ℕ × A → List Cell) (tree : ℕ) (project : List Term) (params : Row)
    (filters : List Term) (p : A → Bool)
    (test : (x : ℕ × A) → list_all (holds (params ∷ hidden_row of x ∷ [])) filters ≡ p x.1)
    (shows : (x : ℕ × A) → output (ordered_query tree filters project) (params ∷ hidden_row of x ∷ []) ≡
    (Int (pos x.0) ∷ [], values (cells x))) where
  some_hidden : (text : List ℕ) → IsQueryText text (ordered_query tree filters project)
      → (old new : State) (xs : List A) (found : Bool) → IsStoreSchema old.now.schema
      → AreHidden of xs (old.now.trees tree) → IsAnswered text params old new found → found ≡ list_any p xs
  some_hidden text is old new xs found has held answered =
      some_row (λ (x : ℕ × A). x.0) (hidden_row of) cells tree project params filters (λ x. p x.1) test shows text is
      old new held.given found has held.held answered
      ∙ any_in_map (λ (x : ℕ × A). x.1) p held.given ∙ ap (list_any p) held.same

abbrev pub label_row_text : List ℕ
label_row_text =
    codes "SELECT owner FROM label WHERE owner = ?1 AND kind = ?2 AND tag = ?3 AND text = ?4 ORDER BY rowid"

pub label_row_is_query : IsQuery label_row_text
unfolding everything
label_row_is_query = refl

label_row_is : IsQueryText label_row_text (ordered_query 4 label_filter (col 1 1 ∷ []))
unfolding understood everything
label_row_is added = (_, refl, refl, (refl, refl))

pub label_found : (l : Label) (old new : State) (found : Bool) (t : Tables) → Keeps old.now t
    → IsAnswered label_row_text (label_values l) old new found
    → found ≡ list_any (λ x. eq_by_cmp label_cmp x l) t.label
label_found l old new found t keeps =
    some_hidden label_values (λ x. number_cell x.1.owner ∷ []) 4 (col 1 1 ∷ []) (label_values l) label_filter
    (λ x. eq_by_cmp label_cmp x l) (by_label l) (λ x. refl) label_row_text label_row_is old new t.label found
    keeps.schema keeps.hold.label

abbrev pub link_row_text : List ℕ
link_row_text = codes "SELECT kind FROM link WHERE kind = ?1 AND a = ?2 AND b = ?3 ORDER BY rowid"

pub link_row_is_query : IsQuery link_row_text
unfolding everything
link_row_is_query = refl

link_row_is : IsQueryText link_row_text (ordered_query 6 link_filter (col 1 1 ∷ []))
unfolding understood everything
link_row_is added = (_, refl, refl, (refl, refl))

pub link_found : (l : Link) (old new : State) (found : Bool) (t : Tables) → Keeps old.now t
    → IsAnswered link_row_text (link_values l) old new found → found ≡ list_any (λ x. eq_by_cmp link_cmp x l) t.link
link_found l old new found t keeps =
    some_hidden link_values (λ x. number_cell (link_kind_no x.1.kind) ∷ []) 6 (col 1 1 ∷ []) (link_values l) link_filter
    (λ x. eq_by_cmp link_cmp x l) (by_link l) (λ x. refl) link_row_text link_row_is old new t.link found keeps.schema
    keeps.hold.link

abbrev pub hier_row_text : List ℕ
hier_row_text = codes "SELECT a FROM hier WHERE a = ?1 AND b = ?2 AND typ = ?3 ORDER BY rowid"

pub hier_row_is_query : IsQuery hier_row_text
unfolding everything
hier_row_is_query = refl

hier_row_is : IsQueryText hier_row_text (ordered_query 11 link_filter (col 1 1 ∷ []))
unfolding understood everything
hier_row_is added = (_, refl, refl, (refl, refl))

pub hier_found : (l : HierRow) (old new : State) (found : Bool) (t : Tables) → Keeps old.now t
    → IsAnswered hier_row_text (hier_values l) old new found → found ≡ list_any (λ x. is_same_hier x l) t.hier
hier_found l old new found t keeps =
    some_hidden hier_values (λ x. number_cell x.1.a ∷ []) 11 (col 1 1 ∷ []) (hier_values l) link_filter
    (λ x. is_same_hier x l) (by_hier l) (λ x. refl) hier_row_text hier_row_is old new t.hier found keeps.schema
    keeps.hold.hier

abbrev pub resource_row_text : List ℕ
resource_row_text = codes "SELECT num FROM resource WHERE num = ?1 ORDER BY num"

pub resource_row_is_query : IsQuery resource_row_text
unfolding everything
resource_row_is_query = refl

resource_row_is : IsQueryText resource_row_text (ordered_query 1 number_filter (col 1 0 ∷ []))
unfolding understood everything
resource_row_is added = (_, refl, refl, (refl, refl))

pub resource_found : (n : ℕ) (old new : State) (found : Bool) (t : Tables) → Keeps old.now t
    → IsAnswered resource_row_text (Int (pos n) ∷ []) old new found → found ≡ has_resource n t
resource_found n old new found t keeps =
    some_row (λ (x : ℕ × Resource). x.0) stored_resource (λ x. number_cell x.0 ∷ []) 1 (col 1 0 ∷ []) (Int (pos n) ∷ [])
    number_filter (λ x. x.0 == n) (by_resource [] n) (λ x. refl) resource_row_text resource_row_is old new
    (numbered_from 1 t.resource) found keeps.schema keeps.hold.resource

abbrev dead_filter : List Term
dead_filter = equal_terms (col 1 0) (col 0 0) ∷ equal_terms (col 1 4) (lit (Int (pos 0))) ∷ []

by_dead : (n : ℕ) (x : ℕ × Resource) → list_all (holds ((Int (pos n) ∷ []) ∷ stored_resource x ∷ [])) dead_filter
    ≡ (x.0 == n && not x.1.live)
by_dead n x = grind (arith, common_steps, same_ints)

abbrev pub dead_row_text : List ℕ
dead_row_text = codes "SELECT num FROM resource WHERE num = ?1 AND live = 0 ORDER BY num"

pub dead_row_is_query : IsQuery dead_row_text
unfolding everything
dead_row_is_query = refl

dead_row_is : IsQueryText dead_row_text (ordered_query 1 dead_filter (col 1 0 ∷ []))
unfolding understood everything
dead_row_is added = (_, refl, refl, (refl, refl))

pub dead_found : (n : ℕ) (old new : State) (found : Bool) (t : Tables) → Keeps old.now t
    → IsAnswered dead_row_text (Int (pos n) ∷ []) old new found → found ≡ has_dead n t
dead_found n old new found t keeps =
    some_row (λ (x : ℕ × Resource). x.0) stored_resource (λ x. number_cell x.0 ∷ []) 1 (col 1 0 ∷ []) (Int (pos n) ∷ [])
    dead_filter (λ x. x.0 == n && not x.1.live) (by_dead n) (λ x. refl) dead_row_text dead_row_is old new
    (numbered_from 1 t.resource) found keeps.schema keeps.hold.resource

by_outside : (n : ℕ) (x : ℕ × List ℕ) → list_all (holds ((Int (pos n) ∷ []) ∷ stored_outside x ∷ [])) number_filter
    ≡ (x.0 == n)
by_outside n x = grind (arith, common_steps, same_ints)

abbrev pub outside_row_text : List ℕ
outside_row_text = codes "SELECT num FROM outside WHERE num = ?1 ORDER BY num"

pub outside_row_is_query : IsQuery outside_row_text
unfolding everything
outside_row_is_query = refl

outside_row_is : IsQueryText outside_row_text (ordered_query 2 number_filter (col 1 0 ∷ []))
unfolding understood everything
outside_row_is added = (_, refl, refl, (refl, refl))

pub outside_found : (n : ℕ) (old new : State) (found : Bool) (t : Tables) → Keeps old.now t
    → IsAnswered outside_row_text (Int (pos n) ∷ []) old new found → found ≡ has_outside n t
outside_found n old new found t keeps =
    some_row (λ (x : ℕ × List ℕ). x.0) stored_outside (λ x. number_cell x.0 ∷ []) 2 (col 1 0 ∷ []) (Int (pos n) ∷ [])
    number_filter (λ x. x.0 == n) (by_outside n) (λ x. refl) outside_row_text outside_row_is old new t.outside found
    keeps.schema keeps.hold.outside

-- A query for the number of a posting returns a row exactly if some posting passes the test of its filters.
posting_found_by : (text : List ℕ) (n : ℕ) (filters : List Term) (p : PostingRow → Bool)
    → ((x : PostingRow) → list_all (holds ((Int (pos n) ∷ []) ∷ stored_posting x ∷ [])) filters ≡ p x)
    → IsQueryText text (ordered_query 8 filters (col 1 0 ∷ []))
    → (old new : State) (found : Bool) (t : Tables) → Keeps old.now t
    → IsAnswered text (Int (pos n) ∷ []) old new found → found ≡ list_any p t.posting
posting_found_by text n filters p test is old new found t keeps =
    some_row (λ (x : PostingRow). x.number) stored_posting (λ (x : PostingRow). number_cell x.number ∷ []) 8
    (col 1 0 ∷ []) (Int (pos n) ∷ []) filters p test (λ x. refl) text is old new t.posting found keeps.schema
    keeps.hold.posting

abbrev pub posting_row_text : List ℕ
posting_row_text = codes "SELECT num FROM posting WHERE num = ?1 ORDER BY num"

pub posting_row_is_query : IsQuery posting_row_text
unfolding everything
posting_row_is_query = refl

posting_row_is : IsQueryText posting_row_text (ordered_query 8 number_filter (col 1 0 ∷ []))
unfolding understood everything
posting_row_is added = (_, refl, refl, (refl, refl))

pub posting_found : (n : ℕ) (old new : State) (found : Bool) (t : Tables) → Keeps old.now t
    → IsAnswered posting_row_text (Int (pos n) ∷ []) old new found → found ≡ has_posting n t
posting_found n = posting_found_by posting_row_text n number_filter (λ x. x.number == n) (by_number [] n) posting_row_is

abbrev withdrawn_filter : List Term
withdrawn_filter = equal_terms (col 1 0) (col 0 0) ∷ equal_terms (col 1 6) (lit (Int (pos 1))) ∷ []

by_withdrawn : (n : ℕ) (x : PostingRow) → list_all (holds ((Int (pos n) ∷ []) ∷ stored_posting x ∷ [])) withdrawn_filter
    ≡ (x.number == n && x.withdrawn)
by_withdrawn n x = grind (arith, common_steps, same_ints)

abbrev pub withdrawn_row_text : List ℕ
withdrawn_row_text = codes "SELECT num FROM posting WHERE num = ?1 AND withdrawn = 1 ORDER BY num"

pub withdrawn_row_is_query : IsQuery withdrawn_row_text
unfolding everything
withdrawn_row_is_query = refl

withdrawn_row_is : IsQueryText withdrawn_row_text (ordered_query 8 withdrawn_filter (col 1 0 ∷ []))
unfolding understood everything
withdrawn_row_is added = (_, refl, refl, (refl, refl))

pub withdrawn_found : (n : ℕ) (old new : State) (found : Bool) (t : Tables) → Keeps old.now t
    → IsAnswered withdrawn_row_text (Int (pos n) ∷ []) old new found → found ≡ has_withdrawn n t
withdrawn_found n = posting_found_by withdrawn_row_text n withdrawn_filter (λ x. x.number == n && x.withdrawn)
    (by_withdrawn n) withdrawn_row_is

by_move : (n : ℕ) (x : MoveRow) → list_all (holds ((Int (pos n) ∷ []) ∷ stored_move x ∷ [])) number_filter
    ≡ (x.number == n)
by_move n x = grind (arith, common_steps, same_ints)

abbrev pub move_row_text : List ℕ
move_row_text = codes "SELECT num FROM move WHERE num = ?1 ORDER BY num"

pub move_row_is_query : IsQuery move_row_text
unfolding everything
move_row_is_query = refl

move_row_is : IsQueryText move_row_text (ordered_query 10 number_filter (col 1 0 ∷ []))
unfolding understood everything
move_row_is added = (_, refl, refl, (refl, refl))

pub move_found : (n : ℕ) (old new : State) (found : Bool) (t : Tables) → Keeps old.now t
    → IsAnswered move_row_text (Int (pos n) ∷ []) old new found → found ≡ has_move n t
move_found n old new found t keeps =
    some_row (λ (x : MoveRow). x.number) stored_move (λ (x : MoveRow). number_cell x.number ∷ []) 10 (col 1 0 ∷ [])
    (Int (pos n) ∷ []) number_filter (λ x. x.number == n) (by_move n) (λ x. refl) move_row_text move_row_is old new
    t.move found keeps.schema keeps.hold.move
