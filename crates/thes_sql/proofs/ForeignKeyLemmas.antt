-- Proves that a write to a table of a store leaves the store's other tables unchanged, even if foreign keys of a user's
-- tables cause further edits.
use Rattle.std.proofs.Common.{arith, ◌≡◌, ◌≢◌, ◌⊎◌, inl, inr, ℕ, ℤ, zero, suc, ◌+◌, List, [], ◌∷◌, ◌++◌, slice_get, Bool, true, false}
use Rattle.std.proofs.Common.{Option, Some, None, Ok, nat_lt, ◌==◌, length, if◌then◌else◌, refl, sym, ap, subst, ◌∙◌}
use Rattle.std.proofs.lemmas.Grind.{common_steps}
use Rattle.std.proofs.lemmas.Bool.{cases_Bool}
use Rattle.std.specs.List.{AllByRecursion, filter_map, cons_option}
use Rattle.sqlite.specs.Order.{Row}
use Rattle.sqlite.specs.Schema.{Schema}
use Rattle.sqlite.specs.Table.{Table}
use Rattle.sqlite.specs.Tree.{Trees}
use Rattle.sqlite_catalog.specs.Change.{KeepsRows}
use Rattle.sqlite_rules.specs.Action.{Work, pairs, works, work_by, work_for, deed_for, max_depth, refuses}
use Rattle.sqlite_rules.specs.Action.{action_edit, Leads, Acts, ActsOn, Goes, Writes}
use Rattle.sqlite_rules.specs.declared.action.Deed.{Deed}
use Rattle.sqlite_rules.specs.Edit.{Edit, taken_by, are_fresh, left_by, edited}
use Rattle.sqlite_schema.specs.Rules.{ParentKey, parent_key}
use Rattle.sqlite_schema.specs.declared.schema.Keys.{Keys}
use Rattle.sqlite_schema.specs.declared.schema.Keys.TheVariants.{Enforced}
use Rattle.sqlite_schema.specs.declared.schema.Reference.{Reference}
use Rattle.sqlite_trees.proofs.ListLemmas.{all-append, all-flat_map, all-slice_get}
use Rattle.thes_tables.specs.Tables.{IsIn}
use Rattle.thes_sql.specs.Additions.{Additions, store_tables, schema_with, IsApart, IsApartFrom, IsUserTable}
use Rattle.thes_sql.specs.Additions.{LeavesUserTables}

-- An element of a list is at the same position when more elements follow the list.
pub get_first : {A : Type 0} (xs more : List A) (i : ℕ) (x : A) → slice_get xs i ≡ Some x → slice_get (xs ++ more) i
    ≡ Some x
get_first [] more i x is = absurd (cc)
get_first (y ∷ xs) more zero x is = is
get_first (y ∷ xs) more (suc i) x is = get_first xs more i x is

first_all : {A : Type 0} (P : A → Type 0) (xs more : List A) → AllByRecursion P (xs ++ more) → AllByRecursion P xs
first_all P [] more all = tt
first_all P (x ∷ xs) more all = (all.0, first_all P xs more all.1)

rest_all : {A : Type 0} (P : A → Type 0) (xs more : List A) → AllByRecursion P (xs ++ more) → AllByRecursion P more
rest_all P [] more all = all
rest_all P (x ∷ xs) more all = rest_all P xs more all.1

all_at : {A : Type 0} (P : A → Type 0) (xs : List A) (x : A) → IsIn x xs → AllByRecursion P xs → P x
all_at P [] x h all = absurd h
all_at {A} P (y ∷ xs) x (inl e) all = let Q : A → Type 0 = P in subst Q (sym e) all.0
all_at P (y ∷ xs) x (inr h) all = all_at P xs x h all.1

last_all : {A : Type 0} (P : A → Type 0) (xs : List A) (y : A) → AllByRecursion P (xs ++ y ∷ []) → P y
last_all P [] y all = all.0
last_all P (x ∷ xs) y all = last_all P xs y all.1

pub kept_twice : (tables : List Table) (start mid next : Trees) → KeepsRows tables start mid
    → KeepsRows tables mid next → KeepsRows tables start next
kept_twice [] start mid next a b = tt
kept_twice (t ∷ tables) start mid next a b = (b.0 ∙ a.0, kept_twice tables start mid next a.1 b.1)

kept_same : (tables : List Table) (db : Trees) → KeepsRows tables db db
kept_same [] db = tt
kept_same (t ∷ tables) db = (refl, kept_same tables db)

-- An edit of a tree that none of the tables is stored in leaves their rows unchanged.
kept_apart : (tree : ℕ) (tables : List Table) (db next : Trees)
    → AllByRecursion (λ (t : Table). t.tree ≢ tree) tables
    → AllByRecursion (λ (t : Table). t.tree ≢ tree → next t.tree ≡ db t.tree) tables → KeepsRows tables db next
kept_apart tree [] db next apart same = tt
kept_apart tree (t ∷ tables) db next apart same = (same.0 apart.0, kept_apart tree tables db next apart.1 same.1)

-- The trees of a store's tables are unchanged, except perhaps the one with this number.
abbrev pub LeavesOtherTables : ℕ → Trees → Trees → Type 0
LeavesOtherTables tree old new = AllByRecursion (λ (t : Table). t.tree ≢ tree → new t.tree ≡ old t.tree) store_tables

others_then : (tree : ℕ) (tables : List Table) (start mid next : Trees)
    → AllByRecursion (λ (t : Table). t.tree ≢ tree → mid t.tree ≡ start t.tree) tables → KeepsRows tables mid next
    → AllByRecursion (λ (t : Table). t.tree ≢ tree → next t.tree ≡ start t.tree) tables
others_then tree [] start mid next same kept = tt
others_then tree (t ∷ tables) start mid next same kept =
    ((λ other. kept.0 ∙ same.0 other), others_then tree tables start mid next same.1 kept.1)

-- An edit of one table of a store with this schema was applied. The store's other tables are unchanged, and so are a
-- user's that no foreign key's action changes.
pub record EditsTable (schema : Schema) (old : Trees) (edit : Edit) (new : Trees) : Type 0 where
  pub fresh : are_fresh (left_by old edit) edit.news ≡ true
  pub rows : new edit.table.tree ≡ edited old edit
  pub others : LeavesOtherTables edit.table.tree old new
  pub users : LeavesUserTables schema old new

-- A write to the table changes no other table of a store.
abbrev pub WritesOnlyItself : Schema → Table → Type 0
WritesOnlyItself schema table = (db next : Trees) (edit : Edit) → edit.table ≡ table
    → Writes schema Enforced db edit (Ok next) → EditsTable schema db edit next

-- The table has no foreign keys, or is stored apart from these tables.
abbrev IsHarmless : List Table → Table → Type 0
IsHarmless own c = (c.references ≡ []) ⊎ IsApartFrom own c

-- Assumes tables that are to be kept.
module _ (own : List Table) where
  -- The table that a foreign key's action changes is stored apart from those tables.
  abbrev ActsApart : Work → Type 0
  ActsApart w = IsApartFrom own w.child

  abbrev MaybeApart : Option Work → Type 0
  MaybeApart None = Unit {0}
  MaybeApart (Some w) = ActsApart w

  maybe_if : (b : Bool) (w : Work) → ActsApart w → MaybeApart (if b then Some w else None)
  maybe_if true w apart = apart
  maybe_if false w apart = tt

  work_apart : (depth tree : ℕ) (moves : List (Row × Row)) (child : Table) (ref : Reference) (deed : Option Deed)
      (key : Option ParentKey) → IsApartFrom own child → MaybeApart (work_by depth tree moves child ref deed key)
  work_apart depth tree moves child ref None key apart = tt
  work_apart depth tree moves child ref (Some deed) None apart = tt
  work_apart depth tree moves child ref (Some deed) (Some key) apart = maybe_if _ _ apart

  one_more : (o : Option Work) (ws : List Work) → MaybeApart o → AllByRecursion ActsApart ws
      → AllByRecursion ActsApart (cons_option o ws)
  one_more None ws apart all = all
  one_more (Some w) ws apart all = (apart, all)

  works_of_child : {X : Type 0} (f : X → Option Work) → ((x : X) → MaybeApart (f x)) → (xs : List X)
      → AllByRecursion ActsApart (filter_map f xs)
  works_of_child f apart [] = tt
  works_of_child f apart (x ∷ xs) = one_more (f x) (filter_map f xs) (apart x) (works_of_child f apart xs)

-- Assumes tables of a store with additions, which no foreign key's action changes.
module _ (added : Additions) (own : List Table)
    (within : (P : Table → Type 0) → AllByRecursion P (store_tables ++ added.tables) → AllByRecursion P own)
    (harmless : AllByRecursion (IsHarmless own) added.tables) (keys : Keys) where
  abbrev schema : Schema
  schema = schema_with added

  abbrev works_for : ℕ → ℕ → List Row → List Row → Table → List Work
  works_for depth tree olds news child = filter_map (work_for schema keys depth tree olds news child) child.references

  works_of_apart : (depth tree : ℕ) (olds news : List Row) (tables : List Table)
      → AllByRecursion (IsHarmless own) tables
      → AllByRecursion (λ child. AllByRecursion (ActsApart own) (works_for depth tree olds news child)) tables
  works_of_apart depth tree olds news [] all = tt
  works_of_apart depth tree olds news (child ∷ tables) all = (
    elim all.0 [
      | inl none ↦ subst (λ refs. AllByRecursion (ActsApart own)
          (filter_map (work_for schema keys depth tree olds news child) refs)) (sym none) tt
      | inr apart ↦ works_of_child own (work_for schema keys depth tree olds news child)
          (λ ref. work_apart own depth tree (pairs olds news) child ref (deed_for keys (length news == 0) ref)
          (parent_key schema.tables ref) apart)
          child.references
    ],
    works_of_apart depth tree olds news tables all.1,
  )

  -- The tables of a store have no foreign keys, so no foreign key's action changes them.
  works_apart : (depth tree : ℕ) (olds news : List Row)
      → AllByRecursion (ActsApart own) (works schema keys depth tree olds news)
  works_apart depth tree olds news = all-flat_map (ActsApart own) (works_for depth tree olds news) added.tables
      (works_of_apart depth tree olds news added.tables harmless)

  -- Running the actions on the stack and those that they cause, `n` in all, leaves the rows of the tables unchanged.
  abbrev KeepStore : ℕ → Type 0
  KeepStore n = (db next : Trees) (stack : List Work) → AllByRecursion (ActsApart own) stack
      → Leads schema keys n db stack (Ok next) → KeepsRows own db next

  edited_apart : (n : ℕ) → KeepStore n → (db next : Trees) (edit : Edit) (depth : ℕ) (below : List Work)
      → IsApartFrom own edit.table → AllByRecursion (ActsApart own) below
      → Goes schema keys (Leads schema keys n) db edit depth below (Ok next) → KeepsRows own db next
  edited_apart n rest db next edit depth below is all (inl refused) = absurd (let e = refused.2 in cc)
  edited_apart n rest db next edit depth below is all (inr (inl big)) = absurd (let e = big.3 in cc)
  edited_apart n rest db next edit depth below is all (inr (inr went)) =
      kept_twice own db went.0 next
      (kept_apart edit.table.tree own db went.0 is
      (within (λ (t : Table). t.tree ≢ edit.table.tree → went.0 t.tree ≡ db t.tree) went.1.tables))
      (rest went.0 next (below ++ works schema keys depth edit.table.tree (taken_by db edit) edit.news)
      (all-append (ActsApart own) below (works schema keys depth edit.table.tree (taken_by db edit) edit.news) all
      (works_apart depth edit.table.tree (taken_by db edit) edit.news)) went.2)

  acted_on : (n : ℕ) → KeepStore n → (db next : Trees) (below : List Work) (w : Work)
      → AllByRecursion (ActsApart own) below → ActsApart own w → (ids : List ℤ)
      → ActsOn schema keys (Leads schema keys n) db w below (Ok next) ids → KeepsRows own db next
  acted_on n rest db next below w all is [] h = rest db next below all h
  acted_on n rest db next below w all is (id ∷ ids) h = elim (cases_Bool (refuses w.deed)) [
    | inl refused ↦ absurd (let e = rw refused at h in cc)
    | inr allowed ↦ edited_apart n rest db next (action_edit db w (id ∷ ids)) (w.depth + 1) below is all
        (rw allowed at h)
  ]

  acted : (n : ℕ) → KeepStore n → (db next : Trees) (below : List Work) (w : Work)
      → AllByRecursion (ActsApart own) below → ActsApart own w
      → Acts schema keys (Leads schema keys n) db w below (Ok next) → KeepsRows own db next
  acted n rest db next below w all is h = elim (cases_Bool (nat_lt w.depth max_depth)) [
    | inl shallow ↦ let it = rw shallow at h in acted_on n rest db next below w all is it.0 it.2
    | inr deep ↦ absurd (let e = rw deep at h in cc)
  ]

  settled : (n : ℕ) → KeepStore n
  settled zero db next stack all h =
      let same : db ≡ next = (let e = h.1 in cc) in subst (KeepsRows own db) same (kept_same own db)
  settled (suc n) db next stack all h =
      let parts = subst (AllByRecursion (ActsApart own)) h.2 all in
      acted n (settled n) db next h.0 h.1 (first_all (ActsApart own) h.0 (h.1 ∷ []) parts)
      (last_all (ActsApart own) h.0 h.1 parts) h.3

  -- A write to another table leaves the tables unchanged.
  others_kept : (db next : Trees) (edit : Edit) → Writes schema keys db edit (Ok next)
      → AllByRecursion (λ (t : Table). t.tree ≢ edit.table.tree → next t.tree ≡ db t.tree) own
  others_kept db next edit (inl refused) = absurd (let e = refused.2 in cc)
  others_kept db next edit (inr (inl big)) = absurd (let e = big.3 in cc)
  others_kept db next edit (inr (inr went)) =
      others_then edit.table.tree own db went.0 next
      (within (λ (t : Table). t.tree ≢ edit.table.tree → went.0 t.tree ≡ db t.tree) went.1.tables)
      (settled went.2.0 went.0 next (works schema keys 0 edit.table.tree (taken_by db edit) edit.news)
      (works_apart 0 edit.table.tree (taken_by db edit) edit.news) went.2.1)

harmless_apart : (own tables : List Table) → AllByRecursion (IsApartFrom own) tables
    → AllByRecursion (IsHarmless own) tables
harmless_apart own [] all = tt
harmless_apart own (t ∷ tables) all = (inr all.0, harmless_apart own tables all.1)

harmless_unbound : (t : Table) (tables : List Table)
    → AllByRecursion (λ (c : Table). (c.references ≡ []) ⊎ (t.tree ≢ c.tree)) tables
    → AllByRecursion (IsHarmless (t ∷ [])) tables
harmless_unbound t [] all = tt
harmless_unbound t (c ∷ tables) all =
    (elim all.0 [ inl none ↦ inl none | inr apart ↦ inr (apart, tt) ], harmless_unbound t tables all.1)

module _ (added : Additions) (apart : AllByRecursion IsApart added.tables) (keys : Keys) where
  abbrev whole : Schema
  whole = schema_with added

  -- A write to a table of a store changes none of the user's tables that no foreign key's action changes.
  users_kept : (at : ℕ) (db next : Trees) (edit : Edit) → slice_get store_tables at ≡ Some edit.table
      → Writes whole keys db edit (Ok next) → LeavesUserTables whole db next
  users_kept at db next edit is h = record {
    same = λ t user.
        (others_kept added (t ∷ []) (λ P all. (all_at P whole.tables t user.is_there all, tt))
        (harmless_unbound t added.tables
        (rest_all (λ (c : Table). (c.references ≡ []) ⊎ (t.tree ≢ c.tree)) store_tables added.tables user.unbound))
        keys db next edit h).0
        (λ same. all-slice_get (λ (own : Table). own.tree ≢ t.tree) store_tables at edit.table is user.apart
        (sym same));
  }

  edited_once : (at : ℕ) (db next : Trees) (edit : Edit) → slice_get store_tables at ≡ Some edit.table
      → Writes whole keys db edit (Ok next) → EditsTable whole db edit next
  edited_once at db next edit is (inl refused) = absurd (let e = refused.2 in cc)
  edited_once at db next edit is (inr (inl big)) = absurd (let e = big.3 in cc)
  edited_once at db next edit is (inr (inr went)) =
      let mid = went.0 in
      let within : (P : Table → Type 0) → AllByRecursion P (store_tables ++ added.tables)
      → AllByRecursion P store_tables = λ P all. first_all P store_tables added.tables all in
      let harmless = harmless_apart store_tables added.tables apart in
      let kept = settled added store_tables within harmless keys went.2.0 mid next
      (works whole keys 0 edit.table.tree (taken_by db edit) edit.news)
      (works_apart added store_tables within harmless keys 0 edit.table.tree (taken_by db edit) edit.news) went.2.1 in
      record {
        fresh = went.1.fresh;
        rows = all-slice_get (λ (t : Table). next t.tree ≡ mid t.tree) store_tables at edit.table is kept ∙ went.1.rows;
        others = others_then edit.table.tree store_tables db mid next
            (first_all (λ (t : Table). t.tree ≢ edit.table.tree → mid t.tree ≡ db t.tree) store_tables added.tables
            went.1.tables) kept;
        users = users_kept at db next edit is (inr (inr went));
      }

-- A write to a table of a store changes no other table of the store, whatever additions the schema has.
pub writes_alone : (added : Additions) → AllByRecursion IsApart added.tables → (at : ℕ) (table : Table)
    → slice_get store_tables at ≡ Some table → WritesOnlyItself (schema_with added) table
writes_alone added apart at table is db next edit same h =
    edited_once added apart Enforced at db next edit (is ∙ ap (λ (t : Table). Some t) (sym same)) h
