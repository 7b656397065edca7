-- Proves that changes which fit the tables of a store have an effect.
use Rattle.std.proofs.lemmas.Grind.{common_steps}
use Rattle.std.proofs.Common.{arith, ◌≡◌, inl, inr, ◌∙◌, ℕ, zero, suc, ◌==◌, ◌&&◌, ◌+◌, ◌<◌, ◌≤◌, Bool, true, false, not}
use Rattle.std.proofs.Common.{List, [], ◌∷◌, ◌++◌, length, map, filter, Option, None, Some, refl, sym, ap, subst}
use Rattle.std.specs.Prelude.{slice_get}
use Rattle.std.specs.List.{list_any}
use Rattle.thes_base.specs.declared.data.Resource.{Resource}
use Rattle.thes_base.specs.Resources.{IsLive}
use Rattle.thes_base.specs.Changes.{resource_after_death, resources_after_death}
use Rattle.thes_tables.specs.declared.change.Change.{Change}
use Rattle.thes_tables.specs.declared.change.Change.TheVariants as change
use Rattle.thes_tables.specs.declared.rows.PostingRow.{PostingRow}
use Rattle.thes_tables.specs.Rows.{tables_after_change, tables_after_delta, ChangeFits, DeltaFits, with_posting}
use Rattle.thes_tables.specs.Rows.{row_after_withdrawal, row_at_place, row_after_move_all}
use Rattle.thes_tables.specs.Tables.{Tables, IsIn}
use Rattle.thes_tables.proofs.RowSetLemmas.{in_filter, clash}
use Rattle.thes_sql.specs.StoredRows.{ArePostingsNumbered, numbered_from}
use Rattle.thes_sql.specs.Traces.{has_dead, shows_change}
use Rattle.thes_sql.proofs.NumberedChangeLemmas.{change_if_at_number, change_if_number, dead_is, list_changed_at}
use Rattle.thes_sql.proofs.NumberedChangeLemmas.{posting_is}
use Rattle.thes_sqlite.proofs.RowEqualityLemmas.{label_itself, link_itself, hier_itself, label_exact, link_exact}
use Rattle.thes_sqlite.proofs.RowEqualityLemmas.{hier_exact}

-- The change has an effect: the tables after it show it, and those before it don't; a change of places always counts as
-- having an effect.
abbrev pub HasEffect : Change → Tables → Type 0
HasEffect (change.SetPlace n place) t = Unit {0}
HasEffect (change.MoveAll source target) t = Unit {0}
HasEffect c t = (shows_change c t ≡ false) × (shows_change c (tables_after_change c t) ≡ true)

-- Each change of the list has an effect on the tables that the changes before it leave.
abbrev pub HaveEffect : List Change → Tables → Type 0
HaveEffect [] t = Unit {0}
HaveEffect (c ∷ changes) t = HasEffect c t × HaveEffect changes (tables_after_change c t)

-- Elements of a list with a property.

any_none : {X : Type 0} (p : X → Bool) (xs : List X) → ((x : X) → IsIn x xs → p x ≡ true → ⊥) → list_any p xs ≡ false
any_none p [] none = refl
any_none p (x ∷ xs) none = go (p x) refl (any_none p xs (λ y h. none y (inr h)))
  where
    go : (b : Bool) → p x ≡ b → list_any p xs ≡ false → list_any p (x ∷ xs) ≡ false
    go true is rest = absurd (none x (inl refl) is)
    go false is rest = grind (arith, common_steps)

any_some : {X : Type 0} (p : X → Bool) (x : X) (xs : List X) → IsIn x xs → p x ≡ true → list_any p xs ≡ true
any_some p x [] h here = absurd h
any_some p x (y ∷ xs) h here = grind (arith, common_steps, any_some p x xs)

any_last : {X : Type 0} (p : X → Bool) (xs : List X) (x : X) → p x ≡ true → list_any p (xs ++ x ∷ []) ≡ true
any_last p [] x here = grind (arith, common_steps)
any_last p (y ∷ xs) x here = grind (arith, common_steps, any_last p xs x)

-- Resources, by their positions.

any_at_end : (p : ℕ × Resource → Bool) (first : ℕ) (rs : List Resource) (r : Resource) → p (first + length rs, r) ≡ true
    → list_any p (numbered_from first (rs ++ r ∷ [])) ≡ true
any_at_end p first [] r here = grind (arith, common_steps)
any_at_end p first (x ∷ rs) r here = grind (arith, common_steps, any_at_end p (first + 1) rs r)

none_above : (first n : ℕ) (rs : List Resource) → first + length rs ≤ n
    → list_any (λ (row : ℕ × Resource). row.0 == n) (numbered_from first rs) ≡ false
none_above first n [] most = refl
none_above first n (r ∷ rs) most = grind (arith, common_steps, none_above (first + 1) n rs)

none_dead_below : (first n : ℕ) (rs : List Resource) → n < first
    → list_any (λ (row : ℕ × Resource). row.0 == n && not row.1.live) (numbered_from first rs) ≡ false
none_dead_below first n [] lt = refl
none_dead_below first n (r ∷ rs) lt = grind (arith, common_steps, none_dead_below (first + 1) n rs)

live_at : (i first : ℕ) (rs : List Resource) (r : Resource) → slice_get rs i ≡ Some r → r.live ≡ true
    → list_any (λ (row : ℕ × Resource). row.0 == first + i && not row.1.live) (numbered_from first rs) ≡ false
live_at i first [] r at live = absurd (cc)
live_at zero first (x ∷ rs) r at live =
    let rest = none_dead_below (first + 1) (first + 0) rs (omega arith) in grind (arith, common_steps)
live_at (suc i) first (x ∷ rs) r at live = grind (arith, common_steps, live_at i (first + 1) rs r)

dead_at : (by : Option ℕ) (i first : ℕ) (rs : List Resource) (r : Resource) → slice_get rs i ≡ Some r
    → list_any (λ (row : ℕ × Resource). row.0 == first + i && not row.1.live)
    (map (change_if_at_number (resource_after_death by) (first + i)) (numbered_from first rs)) ≡ true
dead_at by i first [] r at = absurd (cc)
dead_at by zero first (x ∷ rs) r at = grind (arith, common_steps)
dead_at by (suc i) first (x ∷ rs) r at = grind (arith, common_steps, dead_at by i (first + 1) rs r)

live_shown : (n : ℕ) (t : Tables) → IsLive t.resource n → has_dead n t ≡ false
live_shown zero t live = absurd (let at = live.1 in cc)
live_shown (suc n) t live = let none = live_at n 1 t.resource live.0 live.1 live.2 in grind (arith, common_steps)

dead_shown : (by : Option ℕ) (n : ℕ) (rs : List Resource) → IsLive rs n
    → list_any (λ (row : ℕ × Resource). row.0 == n && not row.1.live) (numbered_from 1 (resources_after_death n by rs))
    ≡ true
dead_shown by zero rs live = absurd (let at = live.1 in cc)
dead_shown by (suc n) rs live =
    let some = dead_at by n 1 rs live.0 live.1 in
    let same = dead_is (suc n) by rs in
    grind (arith, common_steps)

-- Postings, by their numbers.

no_posting_above : (first n : ℕ) (rows : List PostingRow) → ArePostingsNumbered first rows → first + length rows ≤ n
    → list_any (λ (x : PostingRow). x.number == n) rows ≡ false
no_posting_above first n [] num most = refl
no_posting_above first n (r ∷ rows) num most = grind (arith, common_steps, no_posting_above (first + 1) n rows num.1)

none_withdrawn_below : (first n : ℕ) (rows : List PostingRow) → ArePostingsNumbered first rows → n < first
    → list_any (λ (x : PostingRow). x.number == n && x.withdrawn) rows ≡ false
none_withdrawn_below first n [] num lt = refl
none_withdrawn_below first n (r ∷ rows) num lt =
    grind (arith, common_steps, none_withdrawn_below (first + 1) n rows num.1)

standing_at : (i first : ℕ) (rows : List PostingRow) (row : PostingRow) → ArePostingsNumbered first rows
    → slice_get rows i ≡ Some row → row.withdrawn ≡ false
    → list_any (λ (x : PostingRow). x.number == first + i && x.withdrawn) rows ≡ false
standing_at i first [] row num at stands = absurd (cc)
standing_at zero first (x ∷ rows) row num at stands =
    let rest = none_withdrawn_below (first + 1) (first + 0) rows num.1 (omega arith) in grind (arith, common_steps)
standing_at (suc i) first (x ∷ rows) row num at stands =
    grind (arith, common_steps, standing_at i (first + 1) rows row num.1)

withdrawn_at : (i first : ℕ) (rows : List PostingRow) (row : PostingRow) → ArePostingsNumbered first rows
    → slice_get rows i ≡ Some row
    → list_any (λ (x : PostingRow). x.number == first + i && x.withdrawn)
    (map (change_if_number row_after_withdrawal (first + i)) rows) ≡ true
withdrawn_at i first [] row num at = absurd (cc)
withdrawn_at zero first (x ∷ rows) row num at = grind (arith, common_steps)
withdrawn_at (suc i) first (x ∷ rows) row num at =
    grind (arith, common_steps, withdrawn_at i (first + 1) rows row num.1)

withdrawal_effect : (n : ℕ) (t : Tables) → ArePostingsNumbered 1 t.posting → ChangeFits (change.Withdraw n) t
    → HasEffect (change.Withdraw n) t
withdrawal_effect zero t num fits = absurd (let at = fits.1 in cc)
withdrawal_effect (suc n) t num fits =
    let before = standing_at n 1 t.posting fits.0 num fits.1 fits.2 in
    let after = withdrawn_at n 1 t.posting fits.0 num fits.1 in
    let same = posting_is row_after_withdrawal (suc n) t.posting num in
    (grind (arith, common_steps), grind (arith, common_steps))

-- Rows that may be deleted.

module _ {K : Type 0} (eq : K → K → Bool) (exact : (x y : K) → eq x y ≡ true → x ≡ y) (itself : (x : K) → eq x x ≡ true)
  where
    lacks : (x : K) (rows : List K) → (IsIn x rows → ⊥) → list_any (λ k. eq k x) rows ≡ false
    lacks x rows new = any_none (λ k. eq k x) rows
        (λ k h same. new (let Q : K → Type 0 = λ z. IsIn z rows in subst Q (exact k x same) h))

    has_it : (x : K) (rows : List K) → IsIn x rows → list_any (λ k. eq k x) rows ≡ true
    has_it x rows h = any_some (λ k. eq k x) x rows h (itself x)

    gone : (x : K) (rows : List K) → list_any (λ k. eq k x) (filter (λ k. not (eq k x)) rows) ≡ false
    gone x rows = any_none (λ k. eq k x) (filter (λ k. not (eq k x)) rows) (λ k h same.
        let passes : not (eq k x) ≡ true = (in_filter (λ z. not (eq z x)) k rows h).1 in cc)

    insert_effect : (x : K) (rows : List K) → (IsIn x rows → ⊥)
        → (list_any (λ k. eq k x) rows ≡ false) × (list_any (λ k. eq k x) (rows ++ x ∷ []) ≡ true)
    insert_effect x rows new = (lacks x rows new, any_last (λ k. eq k x) rows x (itself x))

    delete_effect : (x : K) (rows : List K) → IsIn x rows
        → (not (list_any (λ k. eq k x) rows) ≡ false)
        × (not (list_any (λ k. eq k x) (filter (λ k. not (eq k x)) rows)) ≡ true)
    delete_effect x rows there = (ap not (has_it x rows there), ap not (gone x rows))

-- Rows with numbers of their own.

module _ {K : Type 0} (num : K → ℕ) where
  numbered_effect : (x : K) (rows : List K) → ((other : K) → IsIn other rows → num other < num x)
      → (list_any (λ k. num k == num x) rows ≡ false) × (list_any (λ k. num k == num x) (rows ++ x ∷ []) ≡ true)
  numbered_effect x rows below = (
    any_none (λ k. num k == num x) rows
        (λ k h same. let lt = below k h in grind (arith, common_steps)),
    any_last (λ k. num k == num x) rows x (grind (arith, common_steps)),
  )

effect_of : (c : Change) (t : Tables) → ArePostingsNumbered 1 t.posting → ChangeFits c t → HasEffect c t
effect_of (change.AddResource n r) t num fits = (
  none_above 1 n t.resource (omega (arith, fits)),
  any_at_end (λ row. row.0 == n) 1 t.resource r (grind (arith, common_steps)),
)
effect_of (change.Retire n) t num fits = (live_shown n t fits, dead_shown None n t.resource fits)
effect_of (change.Replace n by) t num fits = (live_shown n t fits, dead_shown (Some by) n t.resource fits)
effect_of (change.AddOutside n iri) t num fits =
    numbered_effect (λ (row : ℕ × List ℕ). row.0) (n, iri) t.outside fits
effect_of (change.AddLabel l) t num fits = insert_effect _ label_exact label_itself l t.label fits
effect_of (change.DropLabel l) t num fits = delete_effect _ label_exact label_itself l t.label fits
effect_of (change.AddLink l) t num fits = insert_effect _ link_exact link_itself l t.link fits
effect_of (change.DropLink l) t num fits = delete_effect _ link_exact link_itself l t.link fits
effect_of (change.AddHier row) t num fits = insert_effect _ hier_exact hier_itself row t.hier fits
effect_of (change.DropHier row) t num fits = delete_effect _ hier_exact hier_itself row t.hier fits
effect_of (change.AddPosting row) t num fits = (
  no_posting_above 1 row.number t.posting num (let e = fits.0 in omega (arith, e)),
  any_last (λ (x : PostingRow). x.number == row.number) t.posting row (grind (arith, common_steps)),
)
effect_of (change.Withdraw n) t num fits = withdrawal_effect n t num fits
effect_of (change.SetPlace n place) t num fits = tt
effect_of (change.MoveAll source target) t num fits = tt
effect_of (change.AddMove row) t num fits = numbered_effect _ row t.move fits

-- Changes that fit keep postings numbered from 1, and only from such postings do they lead to such.

abbrev numbers : List PostingRow → List ℕ
numbers rows = map (λ (row : PostingRow). row.number) rows

numbered_by : (first : ℕ) (xs ys : List PostingRow) → numbers xs ≡ numbers ys → ArePostingsNumbered first xs
    → ArePostingsNumbered first ys
numbered_by first xs [] same num = tt
numbered_by first [] (y ∷ ys) same num = absurd (cc)
numbered_by first (x ∷ xs) (y ∷ ys) same num = grind (arith, common_steps, numbered_by (first + 1) xs ys)

numbered_push : (first : ℕ) (rows : List PostingRow) (row : PostingRow) → row.number ≡ first + length rows
    → ArePostingsNumbered first rows → ArePostingsNumbered first (rows ++ row ∷ [])
numbered_push first [] row is num = (let e = is in omega (arith, e), tt)
numbered_push first (r ∷ rows) row is num =
    (num.0, numbered_push (first + 1) rows row (let e = is in omega (arith, e)) num.1)

numbered_before_push : (first : ℕ) (rows : List PostingRow) (row : PostingRow)
    → ArePostingsNumbered first (rows ++ row ∷ []) → ArePostingsNumbered first rows
numbered_before_push first [] row num = tt
numbered_before_push first (r ∷ rows) row num = (num.0, numbered_before_push (first + 1) rows row num.1)

module _ (f : PostingRow → PostingRow) (keeps : (x : PostingRow) → (f x).number ≡ x.number) where
  numbers_at : (i : ℕ) (rows : List PostingRow) → numbers (list_changed_at f i rows) ≡ numbers rows
  numbers_at i [] = refl
  numbers_at zero (x ∷ rows) = ap (λ n. n ∷ numbers rows) (keeps x)
  numbers_at (suc i) (x ∷ rows) = grind (arith, common_steps, numbers_at i rows)

  numbers_with : (n : ℕ) (rows : List PostingRow) → numbers (with_posting f n rows) ≡ numbers rows
  numbers_with zero rows = refl
  numbers_with (suc n) rows = let same = numbers_at n rows in grind (arith, common_steps)

numbers_moved : (source target : ℕ) (rows : List PostingRow)
    → numbers (map (row_after_move_all source target) rows) ≡ numbers rows
numbers_moved source target [] = refl
numbers_moved source target (x ∷ rows) = grind (arith, common_steps, numbers_moved source target rows)

-- Both before and after the change the postings are numbered from 1, or neither.
pub record KeepsNumbers (t u : Tables) : Type 0 where
  pub on : ArePostingsNumbered 1 t.posting → ArePostingsNumbered 1 u.posting
  pub back : ArePostingsNumbered 1 u.posting → ArePostingsNumbered 1 t.posting

by_numbers : (t u : Tables) → numbers u.posting ≡ numbers t.posting → KeepsNumbers t u
by_numbers t u same = record {
  on = numbered_by 1 t.posting u.posting (sym same);
  back = numbered_by 1 u.posting t.posting same;
}

numbers_kept : (c : Change) (t : Tables) → ChangeFits c t → KeepsNumbers t (tables_after_change c t)
numbers_kept (change.AddPosting row) t fits = record {
  on = numbered_push 1 t.posting row (let e = fits.0 in omega (arith, e));
  back = numbered_before_push 1 t.posting row;
}
numbers_kept (change.Withdraw n) t fits = by_numbers t _ (numbers_with row_after_withdrawal (λ x. refl) n t.posting)
numbers_kept (change.SetPlace n place) t fits =
    by_numbers t _ (numbers_with (row_at_place place) (λ x. refl) n t.posting)
numbers_kept (change.MoveAll source target) t fits = by_numbers t _ (numbers_moved source target t.posting)
numbers_kept _ t fits = by_numbers t _ refl

pub numbered_before : (changes : List Change) (t : Tables) → DeltaFits changes t
    → ArePostingsNumbered 1 (tables_after_delta changes t).posting → ArePostingsNumbered 1 t.posting
numbered_before [] t fits num = num
numbered_before (c ∷ changes) t fits num =
    (numbers_kept c t fits.0).back (numbered_before changes (tables_after_change c t) fits.1 num)

-- Changes that fit tables whose postings are numbered have an effect.
pub fitting_effect : (changes : List Change) (t : Tables) → ArePostingsNumbered 1 t.posting → DeltaFits changes t
    → HaveEffect changes t
fitting_effect [] t num fits = tt
fitting_effect (c ∷ changes) t num fits = (
  effect_of c t num fits.0,
  fitting_effect changes (tables_after_change c t) ((numbers_kept c t fits.0).on num) fits.1,
)
