-- Proves that one change shows whether all were made.
use Rattle.std.proofs.lemmas.Grind.{common_steps}
use Rattle.std.proofs.Common.{arith, ◌≡◌, ◌↔◌, inl, inr, ◌∙◌, ℕ, zero, suc, ◌==◌, ◌&&◌, ◌||◌, ◌+◌, Bool, true, false, not, cond}
use Rattle.std.proofs.Common.{List, [], ◌∷◌, ◌++◌, length, map, filter, Option, None, Some, IsTrue}
use Rattle.std.proofs.Common.{refl, sym, ap, subst, is_eq}
use Rattle.std.proofs.lemmas.Bool.{false_from_ne_true}
use Rattle.std.proofs.lemmas.Map.Views.{any-filter_same}
use Rattle.std.specs.Cmp.{tied_itself}
use Rattle.std.specs.List.{list_any, find}
use Rattle.std.specs.Ordering.{eq_by_cmp}
use Rattle.sqlite.specs.Effect.{Database}
use Rattle.thes_base.specs.declared.data.Resource.{Resource}
use Rattle.thes_base.specs.declared.data.Link.{Link}
use Rattle.thes_base.specs.Labels.{Label, label_cmp}
use Rattle.thes_base.specs.Links.{link_cmp}
use Rattle.thes_base.specs.Changes.{resource_after_death, resources_after_death}
use Rattle.thes_base.proofs.LabelSetLemmas.{labels_total, labels_exact}
use Rattle.thes_base.proofs.LinkSetLemmas.{links_total, links_exact}
use Rattle.thes_tables.specs.declared.change.Change.{Change}
use Rattle.thes_tables.specs.declared.change.Change.TheVariants as change
use Rattle.thes_tables.specs.declared.rows.HierRow.{HierRow}
use Rattle.thes_tables.specs.declared.rows.HierType.{HierType}
use Rattle.thes_tables.specs.declared.rows.PostingRow.{PostingRow}
use Rattle.thes_tables.specs.Rows.{tables_after_change, tables_after_delta, with_posting, row_after_withdrawal, row_at_place}
use Rattle.thes_tables.specs.Rows.{row_after_move_all}
use Rattle.thes_tables.specs.Tables.{Tables, IsIn, hier_link, hier_kind}
use Rattle.thes_tables.proofs.RowSetLemmas.{equal_of_tie}
use Rattle.thes_sql.specs.StoredRows.{Keeps, numbered_from}
use Rattle.thes_sql.specs.Traces.{ListedRow, is_same_hier, row_of, has_row, shows_change, has_resource, has_dead}
use Rattle.thes_sql.specs.Traces.{has_outside, has_posting, has_withdrawn, has_move}
use Rattle.thes_sql.proofs.NumberedChangeLemmas.{change_if_at_number, dead_is, list_changed_at}
use Rattle.thes_sqlite.specs.CommitEvidence.{inserts_for_good, marks_for_good, sets_places, is_equal_row, are_same}
use Rattle.thes_sqlite.specs.CommitEvidence.{turns, last_turning, evidence, HaveSameRows, IsRightAnswer}
use Rattle.thes_sqlite.proofs.FittingEffectLemmas.{HasEffect, HaveEffect, fitting_effect, numbered_before}
use Rattle.thes_sqlite.proofs.RowEqualityLemmas.{label_exact, label_itself, link_exact, link_itself, hier_exact, hier_itself}

-- Rows that are there for good.

any_after_map : {X : Type 0} (p : X → Bool) (f : X → X) → ((x : X) → p x ≡ true → p (f x) ≡ true) → (xs : List X)
    → list_any p xs ≡ true → list_any p (map f xs) ≡ true
any_after_map p f keeps [] h = h
any_after_map p f keeps (x ∷ xs) h = grind (arith, common_steps, keeps, any_after_map p f keeps xs)

any_after_push : {X : Type 0} (p : X → Bool) (xs ys : List X) → list_any p xs ≡ true → list_any p (xs ++ ys) ≡ true
any_after_push p [] ys h = absurd (cc)
any_after_push p (x ∷ xs) ys h = grind (arith, common_steps, any_after_push p xs ys)

any_after_number : {X : Type 0} (p : ℕ × X → Bool) (n : ℕ) (xs ys : List X) → list_any p (numbered_from n xs) ≡ true
    → list_any p (numbered_from n (xs ++ ys)) ≡ true
any_after_number p n [] ys h = absurd (cc)
any_after_number p n (x ∷ xs) ys h = grind (arith, common_steps, any_after_number p (n + 1) xs ys)

any_after_set : {X : Type 0} (p : X → Bool) (f : X → X) → ((x : X) → p x ≡ true → p (f x) ≡ true) → (i : ℕ)
    (xs : List X) → list_any p xs ≡ true → list_any p (list_changed_at f i xs) ≡ true
any_after_set p f keeps i [] h = h
any_after_set p f keeps zero (x ∷ xs) h = grind (arith, common_steps, keeps)
any_after_set p f keeps (suc i) (x ∷ xs) h = grind (arith, common_steps, any_after_set p f keeps i xs)

any_after_change : (p : PostingRow → Bool) (f : PostingRow → PostingRow)
    → ((x : PostingRow) → p x ≡ true → p (f x) ≡ true) → (n : ℕ) (xs : List PostingRow) → list_any p xs ≡ true
    → list_any p (with_posting f n xs) ≡ true
any_after_change p f keeps zero xs h = h
any_after_change p f keeps (suc n) xs h = let kept = any_after_set p f keeps n xs h in grind (arith, common_steps)

any_after_death : (p : ℕ × Resource → Bool) (by : Option ℕ)
    → ((x : ℕ × Resource) → p x ≡ true → p (x.0, resource_after_death by x.1) ≡ true) → (n : ℕ) (rs : List Resource)
    → list_any p (numbered_from 1 rs) ≡ true → list_any p (numbered_from 1 (resources_after_death n by rs)) ≡ true
any_after_death p by keeps n rs h =
    subst (λ (rows : List (ℕ × Resource)). list_any p rows ≡ true) (sym (dead_is n by rs))
    (any_after_map p (change_if_at_number (resource_after_death by) n) kept (numbered_from 1 rs) h)
  where
    kept : (x : ℕ × Resource) → p x ≡ true → p (change_if_at_number (resource_after_death by) n x) ≡ true
    kept x here = grind (arith, common_steps, keeps)

resource_stays : (n : ℕ) (d : Change) (t : Tables) → has_resource n t ≡ true
    → has_resource n (tables_after_change d t) ≡ true
resource_stays n (change.AddResource m r) t h = any_after_number _ 1 t.resource (r ∷ []) h
resource_stays n (change.Retire m) t h = any_after_death (λ x. x.0 == n) None (λ x here. here) m t.resource h
resource_stays n (change.Replace m by) t h = any_after_death (λ x. x.0 == n) (Some by) (λ x here. here) m t.resource h
resource_stays n _ t h = h

dead_kept : (n : ℕ) (by : Option ℕ) (x : ℕ × Resource) → (x.0 == n && not x.1.live) ≡ true
    → (x.0 == n && not (resource_after_death by x.1).live) ≡ true
dead_kept n by x here = grind (arith, common_steps)

dead_stays : (n : ℕ) (d : Change) (t : Tables) → has_dead n t ≡ true → has_dead n (tables_after_change d t) ≡ true
dead_stays n (change.AddResource m r) t h = any_after_number _ 1 t.resource (r ∷ []) h
dead_stays n (change.Retire m) t h =
    any_after_death (λ x. x.0 == n && not x.1.live) None (dead_kept n None) m t.resource h
dead_stays n (change.Replace m by) t h =
    any_after_death (λ x. x.0 == n && not x.1.live) (Some by) (dead_kept n (Some by)) m t.resource h
dead_stays n _ t h = h

outside_stays : (n : ℕ) (d : Change) (t : Tables)
    → has_outside n t ≡ true → has_outside n (tables_after_change d t) ≡ true
outside_stays n (change.AddOutside m iri) t h = any_after_push _ t.outside ((m, iri) ∷ []) h
outside_stays n _ t h = h

move_stays : (n : ℕ) (d : Change) (t : Tables) → has_move n t ≡ true → has_move n (tables_after_change d t) ≡ true
move_stays n (change.AddMove row) t h = any_after_push _ t.move (row ∷ []) h
move_stays n _ t h = h

-- A property of postings that no change takes away.
module _ (p : PostingRow → Bool) (mark : (x : PostingRow) → p x ≡ true → p (row_after_withdrawal x) ≡ true)
    (turn : (place : ℕ) (x : PostingRow) → p x ≡ true → p (row_at_place place x) ≡ true) where
  move_keeps : (source target : ℕ) (x : PostingRow) → p x ≡ true → p (row_after_move_all source target x) ≡ true
  move_keeps source target x here = grind (arith, common_steps, turn)

  posting_property_stays : (d : Change) (t : Tables) → list_any p t.posting ≡ true
      → list_any p (tables_after_change d t).posting ≡ true
  posting_property_stays (change.AddPosting row) t h = any_after_push p t.posting (row ∷ []) h
  posting_property_stays (change.Withdraw m) t h = any_after_change p row_after_withdrawal mark m t.posting h
  posting_property_stays (change.SetPlace m place) t h =
      any_after_change p (row_at_place place) (turn place) m t.posting h
  posting_property_stays (change.MoveAll source target) t h =
      any_after_map p (row_after_move_all source target) (move_keeps source target) t.posting h
  posting_property_stays _ t h = h

posting_stays : (n : ℕ) (d : Change) (t : Tables)
    → has_posting n t ≡ true → has_posting n (tables_after_change d t) ≡ true
posting_stays n = posting_property_stays (λ x. x.number == n) (λ x here. here) (λ place x here. here)

withdrawn_stays : (n : ℕ) (d : Change) (t : Tables) → has_withdrawn n t ≡ true
    → has_withdrawn n (tables_after_change d t) ≡ true
withdrawn_stays n = posting_property_stays (λ x. x.number == n && x.withdrawn) marked (λ place x here. here)
  where
    marked : (x : PostingRow) → (x.number == n && x.withdrawn) ≡ true → (x.number == n && true) ≡ true
    marked x here = grind (arith, common_steps)

abbrev is_for_good : Change → Bool
is_for_good c = inserts_for_good c || marks_for_good c

-- No change takes away what an insertion or a mark for good leaves.
stays_shown : (c d : Change) (t : Tables) → is_for_good c ≡ true → shows_change c t ≡ true
    → shows_change c (tables_after_change d t) ≡ true
stays_shown (change.AddResource n r) d t good h = resource_stays n d t h
stays_shown (change.Retire n) d t good h = dead_stays n d t h
stays_shown (change.Replace n by) d t good h = dead_stays n d t h
stays_shown (change.AddOutside n iri) d t good h = outside_stays n d t h
stays_shown (change.AddPosting row) d t good h = posting_stays row.number d t h
stays_shown (change.Withdraw n) d t good h = withdrawn_stays n d t h
stays_shown (change.AddMove row) d t good h = move_stays row.number d t h
stays_shown _ d t good h = absurd (cc)

stays_shown_after : (c : Change) (changes : List Change) (t : Tables) → is_for_good c ≡ true → shows_change c t ≡ true
    → shows_change c (tables_after_delta changes t) ≡ true
stays_shown_after c [] t good h = h
stays_shown_after c (d ∷ changes) t good h =
    stays_shown_after c changes (tables_after_change d t) good (stays_shown c d t good h)

good_effect : (c : Change) (t : Tables) → is_for_good c ≡ true → HasEffect c t
    → (shows_change c t ≡ false) × (shows_change c (tables_after_change c t) ≡ true)
good_effect (change.SetPlace n place) t good h = absurd (cc)
good_effect (change.MoveAll source target) t good h = absurd (cc)
good_effect _ t good h = h

-- The change is shown by the tables with all changes, and not by those without.
pub record ShowsApart (c : Change) (changes : List Change) (t : Tables) : Type 0 where
  pub with_none : shows_change c t ≡ false
  pub with_all : shows_change c (tables_after_delta changes t) ≡ true

good_apart : (c : Change) (changes : List Change) (t : Tables) → is_for_good c ≡ true → IsIn c changes
    → HaveEffect changes t → ShowsApart c changes t
good_apart c [] t good h does = absurd h
good_apart c (d ∷ changes) t good (inl same) does =
    let own = good_effect c t good (subst (λ (e : Change). HasEffect e t) (sym same) does.0) in record {
      with_none = own.0;
      with_all = stays_shown_after c changes (tables_after_change d t) good
          (subst (λ (e : Change). shows_change c (tables_after_change e t) ≡ true) same own.1);
    }
good_apart c (d ∷ changes) t good (inr rest) does =
    let later = good_apart c changes (tables_after_change d t) good rest does.1 in record {
      with_none = false_from_ne_true (shows_change c t)
          (λ here. let there : shows_change c (tables_after_change d t) ≡ true = stays_shown c d t good here in
          let gone : shows_change c (tables_after_change d t) ≡ false = later.with_none in cc);
      with_all = later.with_all;
    }

found_in : (p : Change → Bool) (changes : List Change) (c : Change) → find p changes ≡ Some c
    → IsIn c changes × (p c ≡ true)
found_in p [] c h = absurd (cc)
found_in p (d ∷ changes) c h = go (found_in p changes c) (p d) refl
  where
    go : (find p changes ≡ Some c → IsIn c changes × (p c ≡ true)) → (b : Bool) → p d ≡ b
        → IsIn c (d ∷ changes) × (p c ≡ true)
    go later true is =
        let same : d ≡ c = grind (arith, common_steps) in
        (inl (sym same), subst (λ (e : Change). p e ≡ true) same is)
    go later false is =
        let rest : find p changes ≡ Some c = grind (arith, common_steps) in (inr (later rest).0, (later rest).1)

-- Rows that may be deleted.

module _ {K : Type 0} (eq : K → K → Bool) (exact : (x y : K) → eq x y ≡ true → x ≡ y) (itself : (x : K) → eq x x ≡ true)
  where
    abbrev has : K → List K → Bool
    has x rows = list_any (λ k. eq k x) rows

    has_pushed : (x m : K) (rows : List K) → has x (rows ++ m ∷ []) ≡ (has x rows || eq m x)
    has_pushed x m [] = grind (arith, common_steps)
    has_pushed x m (k ∷ rows) = grind (arith, common_steps, has_pushed x m rows)

    added : (x m : K) (rows : List K) → has m rows ≡ false
        → has x (rows ++ m ∷ []) ≡ cond (eq m x) (not (has x rows)) (has x rows)
    added x m rows new = go (eq m x) refl
      where
        go : (b : Bool) → eq m x ≡ b → has x (rows ++ m ∷ []) ≡ cond b (not (has x rows)) (has x rows)
        go true is =
            let absent : has x rows ≡ false = subst (λ (k : K). has k rows ≡ false) (exact m x is) new in
            let pushed = has_pushed x m rows in grind (arith, common_steps)
        go false is = let pushed = has_pushed x m rows in grind (arith, common_steps)

    dropped : (x m : K) (rows : List K) → not (has m rows) ≡ false
        → has x (filter (λ k. not (eq k m)) rows) ≡ cond (eq m x) (not (has x rows)) (has x rows)
    dropped x m rows there = go (eq m x) refl
      where
        gone : eq m x ≡ true → (k : K) → eq k x ≡ true → not (eq k m) ≡ false
        gone is k here =
            let same : k ≡ m = exact k x here ∙ sym (exact m x is) in
            ap not (subst (λ (z : K). eq k z ≡ true) same (itself k))

        left : eq m x ≡ false → (k : K) → eq k x ≡ true → not (eq k m) ≡ true
        left is k here = ap not (false_from_ne_true (eq k m) (λ also.
            let same : m ≡ x = sym (exact k m also) ∙ exact k x here in
            let equal : eq m x ≡ true = subst (λ (z : K). eq m z ≡ true) same (itself m) in cc))

        go : (b : Bool) → eq m x ≡ b → has x (filter (λ k. not (eq k m)) rows) ≡ cond b (not (has x rows)) (has x rows)
        go true is =
            let absent = any-filter_same (λ k. eq k x) (λ k. not (eq k m)) false (gone is) rows in
            let present : not (has x rows) ≡ false = subst (λ (k : K). not (has k rows) ≡ false) (exact m x is) there in
            grind (arith, common_steps)
        go false is = any-filter_same (λ k. eq k x) (λ k. not (eq k m)) true (left is) rows

-- A change that inserts or deletes the row reverses whether the row is there; no other change affects that.
flips : (row : Option ListedRow) (d : Change) (t : Tables) → HasEffect d t
    → has_row row (tables_after_change d t) ≡ cond (are_same (row_of d) row) (not (has_row row t)) (has_row row t)
flips (Some (inl l)) (change.AddLabel m) t h =
    added (eq_by_cmp label_cmp) label_exact label_itself l m t.label h.0
flips (Some (inl l)) (change.DropLabel m) t h =
    dropped (eq_by_cmp label_cmp) label_exact label_itself l m t.label h.0
flips (Some (inr (inl l))) (change.AddLink m) t h =
    added (eq_by_cmp link_cmp) link_exact link_itself l m t.link h.0
flips (Some (inr (inl l))) (change.DropLink m) t h =
    dropped (eq_by_cmp link_cmp) link_exact link_itself l m t.link h.0
flips (Some (inr (inr l))) (change.AddHier m) t h = added is_same_hier hier_exact hier_itself l m t.hier h.0
flips (Some (inr (inr l))) (change.DropHier m) t h = dropped is_same_hier hier_exact hier_itself l m t.hier h.0
flips None _ t h = grind (arith, common_steps)
flips (Some (inl l)) _ t h = refl
flips (Some (inr (inl l))) _ t h = refl
flips (Some (inr (inr l))) _ t h = refl

two_turns : (s u l : Bool) → cond u (not (cond s (not l) l)) (cond s (not l) l) ≡ cond (cond s (not u) u) (not l) l
two_turns true true true = refl
two_turns true true false = refl
two_turns true false true = refl
two_turns true false false = refl
two_turns false true true = refl
two_turns false true false = refl
two_turns false false true = refl
two_turns false false false = refl

-- A row that the changes insert or delete an odd number of times is there afterwards exactly if it wasn't before.
turned : (row : Option ListedRow) (changes : List Change) (t : Tables) → HaveEffect changes t
    → has_row row (tables_after_delta changes t) ≡ cond (turns changes row) (not (has_row row t)) (has_row row t)
turned row [] t does = refl
turned row (d ∷ changes) t does =
    turned row changes (tables_after_change d t) does.1
    ∙ ap (λ b. cond (turns changes row) (not b) b) (flips row d t does.0)
    ∙ two_turns (are_same (row_of d) row) (turns changes row) (has_row row t)

same_row : (a b : ListedRow) → is_equal_row a b ≡ true → a ≡ b
same_row (inl a) (inl b) e = ap inl (label_exact a b e)
same_row (inr (inl a)) (inr (inl b)) e = ap (λ (l : Link). inr (inl l)) (link_exact a b e)
same_row (inr (inr a)) (inr (inr b)) e = ap (λ (r : HierRow). inr (inr r)) (hier_exact a b e)
same_row (inl a) (inr (inl b)) e = absurd (cc)
same_row (inl a) (inr (inr b)) e = absurd (cc)
same_row (inr (inl a)) (inl b) e = absurd (cc)
same_row (inr (inr a)) (inl b) e = absurd (cc)
same_row (inr (inl a)) (inr (inr b)) e = absurd (cc)
same_row (inr (inr a)) (inr (inl b)) e = absurd (cc)

equal_rows : (a b : Option ListedRow) → are_same a b ≡ true → a ≡ b
equal_rows (Some a) (Some b) e = ap (λ (r : ListedRow). Some r) (same_row a b e)
equal_rows None b e = absurd (cc)
equal_rows (Some a) None e = absurd (cc)

never_none : (changes : List Change) → turns changes None ≡ false
never_none [] = refl
never_none (d ∷ changes) = grind (arith, common_steps, never_none changes)

-- If the whole list turns a row, and `rest` has no change of a row that the whole list turns, `rest` doesn't turn it.
turns_no_more : (all rest : List Change) (row : Option ListedRow) → turns all row ≡ true → last_turning all rest ≡ None
    → turns rest row ≡ false
turns_no_more all [] row odd none = refl
turns_no_more all (d ∷ rest) row odd none = go (turns_no_more all rest row odd) (last_turning all rest) refl
    (turns all (row_of d)) refl (are_same (row_of d) row) refl
  where
    go : (last_turning all rest ≡ None → turns rest row ≡ false) → (o : Option Change) → last_turning all rest ≡ o
        → (b : Bool) → turns all (row_of d) ≡ b → (s : Bool) → are_same (row_of d) row ≡ s
        → turns (d ∷ rest) row ≡ false
    go later (Some e) is b odd_here s same = absurd (grind (arith, common_steps))
    go later None is true odd_here s same = absurd (grind (arith, common_steps))
    go later None is false odd_here true same =
        let equal = ap (turns all) (equal_rows (row_of d) row same) in absurd (cc)
    go later None is false odd_here false same = let rest_even = later is in grind (arith, common_steps)

-- Whether tables show a change of a row depends only on whether they have the row.
shows_row : (c : Change) → (row : ListedRow) → row_of c ≡ Some row → (t u : Tables)
    → has_row (row_of c) u ≡ has_row (row_of c) t → shows_change c u ≡ shows_change c t
shows_row (change.AddLabel l) row is t u same = same
shows_row (change.DropLabel l) row is t u same = ap not same
shows_row (change.AddLink l) row is t u same = same
shows_row (change.DropLink l) row is t u same = ap not same
shows_row (change.AddHier l) row is t u same = same
shows_row (change.DropHier l) row is t u same = ap not same
shows_row _ row is t u same = absurd (cc)

shows_turn : (c : Change) → (row : ListedRow) → row_of c ≡ Some row → (t u : Tables)
    → has_row (row_of c) u ≡ not (has_row (row_of c) t) → shows_change c u ≡ true → shows_change c t ≡ false
shows_turn (change.AddLabel l) row is t u turn shown = grind (arith, common_steps)
shows_turn (change.DropLabel l) row is t u turn shown = grind (arith, common_steps)
shows_turn (change.AddLink l) row is t u turn shown = grind (arith, common_steps)
shows_turn (change.DropLink l) row is t u turn shown = grind (arith, common_steps)
shows_turn (change.AddHier l) row is t u turn shown = grind (arith, common_steps)
shows_turn (change.DropHier l) row is t u turn shown = grind (arith, common_steps)
shows_turn _ row is t u turn shown = absurd (cc)

row_effect : (c : Change) → (row : ListedRow) → row_of c ≡ Some row → (t : Tables) → HasEffect c t
    → shows_change c (tables_after_change c t) ≡ true
row_effect (change.SetPlace n place) row is t h = absurd (cc)
row_effect (change.MoveAll source target) row is t h = absurd (cc)
row_effect _ row is t h = h.1

-- The last change of a row that turns is shown by the tables after all changes.
last_shown : (all rest : List Change) (t : Tables) (c : Change) → HaveEffect rest t → last_turning all rest ≡ Some c
    → (turns all (row_of c) ≡ true) × (shows_change c (tables_after_delta rest t) ≡ true)
last_shown all [] t c does h = absurd (cc)
last_shown all (d ∷ rest) t c does h = go (last_shown all rest (tables_after_change d t) c does.1)
    (last_turning all rest) refl (turns all (row_of d)) refl (row_of d) refl
  where
    go : (last_turning all rest ≡ Some c → (turns all (row_of c) ≡ true)
        × (shows_change c (tables_after_delta rest (tables_after_change d t)) ≡ true))
        → (o : Option Change) → last_turning all rest ≡ o → (b : Bool) → turns all (row_of d) ≡ b
        → (r : Option ListedRow) → row_of d ≡ r
        → (turns all (row_of c) ≡ true) × (shows_change c (tables_after_delta (d ∷ rest) t) ≡ true)
    go later (Some e) is b odd r row =
        let last : last_turning all rest ≡ Some c = grind (arith, common_steps) in later last
    go later None is false odd r row = absurd (grind (arith, common_steps))
    go later None is true odd None row =
        let never : turns all (row_of d) ≡ false = ap (turns all) row ∙ never_none all in absurd (cc)
    go later None is true odd (Some listed) row =
        let same : d ≡ c = grind (arith, common_steps) in
        let mid = tables_after_change d t in
        let stays : has_row (row_of d) (tables_after_delta rest mid) ≡ has_row (row_of d) mid =
        turned (row_of d) rest mid does.1
        ∙ ap (λ b. cond b (not (has_row (row_of d) mid)) (has_row (row_of d) mid))
        (turns_no_more all rest (row_of d) odd is) in
        let shown : shows_change d (tables_after_delta rest mid) ≡ true =
        shows_row d listed row mid (tables_after_delta rest mid) stays ∙ row_effect d listed row t does.0 in
        subst (λ (e : Change). (turns all (row_of e) ≡ true)
        × (shows_change e (tables_after_delta (d ∷ rest) t) ≡ true)) same (odd, shown)

some_row : (changes : List Change) (r : Option ListedRow) → turns changes r ≡ true
    → (row : ListedRow) × (r ≡ Some row)
some_row changes (Some row) odd = (row, refl)
some_row changes None odd = let never = never_none changes in absurd (cc)

last_apart : (changes : List Change) (t : Tables) (c : Change) → HaveEffect changes t
    → last_turning changes changes ≡ Some c → ShowsApart c changes t
last_apart changes t c does h =
    let last = last_shown changes changes t c does h in
    let row = some_row changes (row_of c) last.0 in record {
      with_none = shows_turn c row.0 row.1 t (tables_after_delta changes t)
          (turned (row_of c) changes t does
          ∙ ap (λ b. cond b (not (has_row (row_of c) t)) (has_row (row_of c) t)) last.0) last.1;
      with_all = last.1;
    }

good_insert : (c : Change) → inserts_for_good c ≡ true → is_for_good c ≡ true
good_insert c h = grind (arith, common_steps)

good_mark : (c : Change) → marks_for_good c ≡ true → is_for_good c ≡ true
good_mark c h = grind (arith, common_steps)

-- The chosen change is shown by the tables with all changes, and not by those without.
evidence_decides : (changes : List Change) (t : Tables) (c : Change) → HaveEffect changes t → evidence changes ≡ Some c
    → ShowsApart c changes t
evidence_decides changes t c does h = go (find inserts_for_good changes) refl (find marks_for_good changes) refl
  where
    go : (o : Option Change) → find inserts_for_good changes ≡ o → (p : Option Change) → find marks_for_good changes ≡ p
        → ShowsApart c changes t
    go (Some d) is p other =
        let same : find inserts_for_good changes ≡ Some c = grind (arith, common_steps) in
        let found = found_in inserts_for_good changes c same in
        good_apart c changes t (good_insert c found.1) found.0 does
    go None is (Some d) other =
        let same : find marks_for_good changes ≡ Some c = grind (arith, common_steps) in
        let found = found_in marks_for_good changes c same in
        good_apart c changes t (good_mark c found.1) found.0 does
    go None is None other =
        let last : last_turning changes changes ≡ Some c = grind (arith, common_steps) in
        last_apart changes t c does last

-- Changes of which none shows whether all were made.

not_found : (p : Change → Bool) (d : Change) (changes : List Change) → find p (d ∷ changes) ≡ None
    → (p d ≡ false) × (find p changes ≡ None)
not_found p d changes h = go (p d) refl
  where
    go : (b : Bool) → p d ≡ b → (p d ≡ false) × (find p changes ≡ None)
    go true is = absurd (grind (arith, common_steps))
    go false is = (is, grind (arith, common_steps))

-- The tables other than label, link and hier are the same.
pub record KeepsOthers (t u : Tables) : Type 0 where
  pub same_base : u.base ≡ t.base
  pub same_resource : u.resource ≡ t.resource
  pub same_outside : u.outside ≡ t.outside
  pub same_posting : u.posting ≡ t.posting
  pub same_move : u.move ≡ t.move

others_same : (d : Change) (t : Tables) → inserts_for_good d ≡ false → marks_for_good d ≡ false → sets_places d ≡ false
    → KeepsOthers t (tables_after_change d t)
others_same d t no_insert no_mark no_place = grind (arith, common_steps)

others_kept : (changes : List Change) (t : Tables) → find inserts_for_good changes ≡ None
    → find marks_for_good changes ≡ None → list_any sets_places changes ≡ false
    → KeepsOthers t (tables_after_delta changes t)
others_kept [] t a b c =
    record {
      same_base = refl;
      same_resource = refl;
      same_outside = refl;
      same_posting = refl;
      same_move = refl;
    }
others_kept (d ∷ changes) t a b c =
    let insert = not_found inserts_for_good d changes a in
    let mark = not_found marks_for_good d changes b in
    let place : sets_places d ≡ false = grind (arith, common_steps) in
    let places : list_any sets_places changes ≡ false = grind (arith, common_steps) in
    let one = others_same d t insert.0 mark.0 place in
    let rest = others_kept changes (tables_after_change d t) insert.1 mark.1 places in record {
      same_base = rest.same_base ∙ one.same_base;
      same_resource = rest.same_resource ∙ one.same_resource;
      same_outside = rest.same_outside ∙ one.same_outside;
      same_posting = rest.same_posting ∙ one.same_posting;
      same_move = rest.same_move ∙ one.same_move;
    }

-- If no change shows whether all were made, the rows are the same before and after.
same_without_evidence : (changes : List Change) (t : Tables) → HaveEffect changes t → evidence changes ≡ None
    → list_any sets_places changes ≡ false → HaveSameRows t (tables_after_delta changes t)
same_without_evidence changes t does h places =
    go (find inserts_for_good changes) refl (find marks_for_good changes) refl (last_turning changes changes) refl
  where
    go : (o : Option Change) → find inserts_for_good changes ≡ o → (p : Option Change) → find marks_for_good changes ≡ p
        → (q : Option Change) → last_turning changes changes ≡ q → HaveSameRows t (tables_after_delta changes t)
    go (Some d) a p b q c = absurd (grind (arith, common_steps))
    go None a (Some d) b q c = absurd (grind (arith, common_steps))
    go None a None b (Some d) c = absurd (grind (arith, common_steps))
    go None a None b None c =
        let others = others_kept changes t a b places in
        let even : (row : Option ListedRow) → turns changes row ≡ false =
        λ row. false_from_ne_true (turns changes row)
        (λ odd. let none : turns changes row ≡ false = turns_no_more changes changes row odd c in cc) in record {
          same_base = others.same_base;
          same_resource = others.same_resource;
          same_outside = others.same_outside;
          same_rows = λ row. turned row changes t does
              ∙ ap (λ b. cond b (not (has_row row t)) (has_row row t)) (even row);
          same_posting = others.same_posting;
          same_move = others.same_move;
        }

-- The answers of `has_changes`.

pub right_answer_by_change : (changes : List Change) (db : Database) (c : Change) (found : Bool)
    → evidence changes ≡ Some c
    → ((t : Tables) → Keeps db t → found ≡ shows_change c t) → IsRightAnswer changes db (Some found)
right_answer_by_change changes db c found is shows = record {
  with_none = λ t fits keeps said.
      let does = fitting_effect changes t keeps.hold.numbered fits in
      let apart = evidence_decides changes t c does is in
      let shown = shows t keeps in
      let never = apart.with_none in
      absurd (let yes : found ≡ true = grind (arith, common_steps) in cc);
  with_all = λ t fits keeps said.
      let does = fitting_effect changes t (numbered_before changes t fits keeps.hold.numbered) fits in
      let apart = evidence_decides changes t c does is in
      let shown = shows (tables_after_delta changes t) keeps in
      let always = apart.with_all in
      absurd (let no : found ≡ false = grind (arith, common_steps) in cc);
}

pub right_without_answer : (changes : List Change) (db : Database) → IsRightAnswer changes db None
right_without_answer changes db =
    record {
      with_none = λ t fits keeps said. absurd (cc);
      with_all = λ t fits keeps said. absurd (cc);
    }

pub right_answer_without_evidence : (changes : List Change) (db : Database) → evidence changes ≡ None
    → list_any sets_places changes ≡ false → IsRightAnswer changes db (Some (not (length changes == 0)))
right_answer_without_evidence changes db is places = record {
  with_none = λ t fits keeps said.
      same_without_evidence changes t (fitting_effect changes t keeps.hold.numbered fits) is places;
  with_all = λ t fits keeps said. empty changes said;
}
  where
    empty : (cs : List Change) → Some (not (length cs == 0)) ≡ Some false → cs ≡ []
    empty [] e = refl
    empty (c ∷ cs) e = absurd (grind (arith, common_steps))

-- The tests in the code of whether two rows are the same decide as the comparisons of the definitions do.

decided : (r b : Bool) (P : Type 0) → (IsTrue r ↔ P) → (b ≡ true → P) → (P → b ≡ true) → r ≡ b
decided true b P test from to = sym (to (test.0 refl))
decided false b P test from to =
    sym (false_from_ne_true b (λ here. let never : false ≡ true = test.1 (from here) in absurd (cc)))

pub label_decided : (r : Bool) (a b : Label) → (IsTrue r ↔ (a ≡ b)) → r ≡ eq_by_cmp label_cmp a b
label_decided r a b test = decided r (eq_by_cmp label_cmp a b) (a ≡ b) test (label_exact a b)
    (λ same. subst (λ (x : Label). eq_by_cmp label_cmp a x ≡ true) same (label_itself a))
