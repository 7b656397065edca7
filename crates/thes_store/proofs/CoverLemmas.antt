-- The indexes have each row of the tables after each change of a commit.
use Rattle.std.proofs.lemmas.Grind.{common_steps}
use Rattle.std.proofs.Common.{◌≡◌, ◌⊎◌, ◌+◌, ◌-◌, ◌<◌, ◌≤◌, ◌∙◌, inl, inr, ℕ, zero, suc, List, [], ◌∷◌, length, map}
use Rattle.std.proofs.Common.{take, get_or, refl, sym, ap, subst, arith, length-append}
use Rattle.std.specs.Prelude.{Option, None, Some, Result, slice_get, slice_set}
use Rattle.std.specs.declared.alloc.AllocError.{AllocError}
use Rattle.std.proofs.lemmas.Bool.{cases_eq}
use Rattle.std.proofs.lemmas.Option.{same_Some}
use Rattle.std.proofs.lemmas.List.{take_all}
use Rattle.thes_base.specs.Resources.{entry_at, set_entry_at}
use Rattle.thes_base.proofs.NumberedLemmas.{push_cases, set_cases, numbered_bound}
use Rattle.thes_tables.specs.declared.change.Change.{Change}
use Rattle.thes_tables.specs.declared.change.Change.TheVariants as change
use Rattle.thes_tables.specs.declared.rows.PostingRow.{PostingRow}
use Rattle.thes_tables.specs.Tables.{Tables, IsIn}
use Rattle.thes_tables.specs.Rows.{tables_after_change, tables_after_delta, with_posting, row_after_withdrawal}
use Rattle.thes_tables.specs.Rows.{row_at_place, row_after_move_all, ChangeFits, DeltaFits}
use Rattle.thes_tables.proofs.RowSetLemmas.{append_left, map_in}
use Rattle.thes_tables.proofs.DeltaAppendLemmas.{all_append}
use Rattle.thes_store.proofs.IndexPositionLemmas.{take_one}
use Rattle.thes_store.specs.declared.posting_indexes.PostingIndexes.{PostingIndexes}
use Rattle.thes_store.specs.PositionSets.{HasPosition}
use Rattle.thes_store.specs.Keys.{KeyHasPosition}
use Rattle.thes_store.specs.Covers.{Covers, CoversAll, CoversBoth, IndexesByPlace, IndexesGrow, IsOtherKey}
use Rattle.thes_store.specs.Covers.{CoversChange, added_move_count}

-- After one row is changed, each row of the list is an old one, or the changed one under its old number.
with_cases : (f : PostingRow → PostingRow) (n : ℕ) (rows : List PostingRow) (m : ℕ) (y : PostingRow)
    → entry_at (with_posting f n rows) m ≡ Some y
    → (row : PostingRow) × (entry_at rows m ≡ Some row) × ((y ≡ row) ⊎ ((m ≡ n) × (y ≡ f row)))
with_cases f n rows m y e = go (entry_at rows n) refl e
  where
    go : (o : Option PostingRow) → entry_at rows n ≡ o
        → entry_at (elim o [ None ↦ rows | Some row ↦ set_entry_at rows n (f row) ]) m ≡ Some y
        → (row : PostingRow) × (entry_at rows m ≡ Some row) × ((y ≡ row) ⊎ ((m ≡ n) × (y ≡ f row)))
    go None at e = (y, e, inl refl)
    go (Some row) at e = elim (set_cases rows (f row) y n m (numbered_bound rows n row at).0 e) [
      | inl here ↦ (row, ap (entry_at rows) here.0 ∙ at, inr here)
      | inr other ↦ (y, other.1, inl refl)
    ]

map_cases : {A B : Type 0} (f : A → B) (xs : List A) (m : ℕ) (y : B) → entry_at (map f xs) m ≡ Some y → (x : A)
    × (entry_at xs m ≡ Some x) × (y ≡ f x)
map_cases f xs zero y e = absurd (cc)
map_cases f [] (suc m) y e = absurd (cc)
map_cases f (x ∷ xs) (suc zero) y e = (x, refl, sym (same_Some _ _ e))
map_cases f (x ∷ xs) (suc (suc m)) y e = map_cases f xs (suc m) y e

-- A bulk move changes a row's place from the source to the target, or leaves the place unchanged.
moved_cases : (source target : ℕ) (row : PostingRow)
    → ((row.place ≡ source) × ((row_after_move_all source target row).place ≡ target))
    ⊎ ((row_after_move_all source target row).place ≡ row.place)
moved_cases source target row = grind (arith, common_steps)

moved_key : (source target : ℕ) (row : PostingRow) → (row_after_move_all source target row).key ≡ row.key
moved_key source target row = grind (arith, common_steps)

abbrev KeyIs : PostingIndexes → List ℕ → ℕ → Type 0
KeyIs x key i = KeyHasPosition x.keys key i

-- The indexes have each row after one posting is changed, if they have that posting under its new place.
covers_after_posting_change : (x : PostingIndexes) (t : Tables) (f : PostingRow → PostingRow) (n : ℕ)
    → ((row : PostingRow) → (f row).key ≡ row.key)
    → ((i : ℕ) (row : PostingRow) → suc i ≡ n → HasPosition x.standing row.place i
    → HasPosition x.standing (f row).place i)
    → Covers x t → Covers x (record t { posting = with_posting f n t.posting })
covers_after_posting_change x t f n key place covers =
    record {
      keys = λ i y e. let r = with_cases f n t.posting (suc i) y e in grind (arith, common_steps);
      standing = λ i y e. let r = with_cases f n t.posting (suc i) y e in grind (arith, common_steps);
      moves = covers.moves;
    }

-- The indexes have each row after a bulk move, if they have the moved postings under the target.
covers_after_move : (x : PostingIndexes) (t : Tables) (source target : ℕ)
    → ((i : ℕ) (row : PostingRow) → slice_get t.posting i ≡ Some row → row.place ≡ source
    → HasPosition x.standing target
    i) → Covers x t → Covers x (record t { posting = map (row_after_move_all source target) t.posting })
covers_after_move x t source target along covers =
    record {
      keys = λ i y e. let r = map_cases (row_after_move_all source target) t.posting (suc i) y e in
          grind (arith, common_steps, moved_key);
      standing = λ i y e. let r = map_cases (row_after_move_all source target) t.posting (suc i) y e in
          grind (arith, common_steps, moved_cases);
      moves = covers.moves;
    }

-- The indexes have each row of the tables after a change, if they had each row before it and have the postings and
-- moves of the change.
pub covers_after_change : (x : PostingIndexes) (c : Change) (t : Tables) (step : ℕ) → length t.move ≡ step
    → CoversChange x c t step → Covers x t → Covers x (tables_after_change c t)
covers_after_change x (change.AddPosting row) t step len reached covers = record {
  keys = λ i y e. let p = push_cases t.posting row y (suc i) e in grind (arith, common_steps);
  standing = λ i y e. let p = push_cases t.posting row y (suc i) e in grind (arith, common_steps);
  moves = covers.moves;
}
covers_after_change x (change.Withdraw n) t step len reached covers =
    covers_after_posting_change x t row_after_withdrawal n (λ row. refl) (λ i row e at. at) covers
covers_after_change x (change.SetPlace n place) t step len reached covers =
    covers_after_posting_change x t (row_at_place place) n (λ row. refl)
    (λ i row e at. subst (HasPosition x.standing place) (let s : n - 1 ≡ i = omega (arith, e) in s) reached) covers
covers_after_change x (change.MoveAll source target) t step len reached covers =
    covers_after_move x t source target reached covers
covers_after_change x (change.AddMove row) t step len reached covers = record {
  keys = covers.keys;
  standing = covers.standing;
  moves = λ i y e. let p = push_cases t.move row y (suc i) e in grind (arith, common_steps);
}
covers_after_change x c t step len reached covers =
    record { keys = covers.keys; standing = covers.standing; moves = covers.moves }

set_in : (xs : List PostingRow) (k : ℕ) (row r y : PostingRow) → slice_get xs k ≡ Some r → y.key ≡ r.key → IsIn row xs
    → (z : PostingRow) × IsIn z (slice_set xs k y) × (z.key ≡ row.key)
set_in [] k row r y at key h = absurd h
set_in (x ∷ xs) zero row r y at key (inl same) =
    (y, inl refl, key ∙ ap (λ (z : PostingRow). z.key) (sym (same_Some _ _ at) ∙ sym same))
set_in (x ∷ xs) zero row r y at key (inr later) = (row, inr later, refl)
set_in (x ∷ xs) (suc k) row r y at key (inl same) = (row, inl same, refl)
set_in (x ∷ xs) (suc k) row r y at key (inr later) = let z = set_in xs k row r y at key later in (z.0, inr z.1, z.2)

with_in : (f : PostingRow → PostingRow) (n : ℕ) (rows : List PostingRow) (row : PostingRow)
    → ((r : PostingRow) → (f r).key ≡ r.key) → IsIn row rows → (z : PostingRow) × IsIn z (with_posting f n rows)
    × (z.key ≡ row.key)
with_in f zero rows row key h = (row, h, refl)
with_in f (suc n) rows row key h = go (slice_get rows n) refl
  where
    go : (o : Option PostingRow) → slice_get rows n ≡ o → (z : PostingRow)
        × IsIn z (elim o [ None ↦ rows | Some r ↦ slice_set rows (suc n - 1) (f r) ]) × (z.key ≡ row.key)
    go None at = (row, h, refl)
    go (Some r) at = set_in rows (suc n - 1) row r (f r) (ap (slice_get rows) (let e : suc n - 1 ≡ n = omega arith in
        e) ∙ at) (key r) h

-- After a change, the table still has a posting with each key that it had.
key_stays : (c : Change) (t : Tables) (row : PostingRow) → IsIn row t.posting → (z : PostingRow)
    × IsIn z (tables_after_change c t).posting × (z.key ≡ row.key)
key_stays (change.AddPosting r) t row h = (row, append_left row t.posting (r ∷ []) h, refl)
key_stays (change.Withdraw n) t row h = with_in row_after_withdrawal n t.posting row (λ r. refl) h
key_stays (change.SetPlace n place) t row h = with_in (row_at_place place) n t.posting row (λ r. refl) h
key_stays (change.MoveAll source target) t row h = (
  row_after_move_all source target row,
  map_in (row_after_move_all source target) row t.posting h,
  moved_key source target row,
)
key_stays c t row h = (row, h, refl)

keys_stay : (changes : List Change) (t : Tables) (row : PostingRow) → IsIn row t.posting → (z : PostingRow)
    × IsIn z (tables_after_delta changes t).posting × (z.key ≡ row.key)
keys_stay [] t row h = (row, h, refl)
keys_stay (c ∷ changes) t row h =
    let y = key_stays c t row h in
    let z = keys_stay changes (tables_after_change c t) y.0 y.1 in
    (z.0, z.1, z.2 ∙ y.2)

-- A change that fits the tables doesn't insert the key of one of their postings.
other_key : (c : Change) (t : Tables) (row : PostingRow) → ChangeFits c t → IsIn row t.posting → IsOtherKey c row.key
other_key (change.AddPosting r) t row fits h = fits.1 row h
other_key c t row fits h = tt

pub get_in : (xs : List PostingRow) (i : ℕ) (row : PostingRow) → slice_get xs i ≡ Some row → IsIn row xs
get_in [] i row e = absurd (cc)
get_in (x ∷ xs) zero row e = inl (sym (same_Some _ _ e))
get_in (x ∷ xs) (suc i) row e = inr (get_in xs i row e)

covers_after_growth : (c : Change) (old new : PostingIndexes) (t : Tables) → IndexesGrow c old new
    → ((row : PostingRow) → IsIn row t.posting → IsOtherKey c row.key) → Covers old t → Covers new t
covers_after_growth c old new t grows apart covers = record {
  keys = λ i row e. grows.keys row.key i (apart row (get_in t.posting i row e)) (covers.keys i row e);
  standing = λ i row e. grows.standing row.place i (covers.standing i row e);
  moves = λ i row e. grows.moves row.posting i (covers.moves i row e);
}

fit_at : (changes : List Change) (i : ℕ) (c : Change) (t : Tables) → i < length changes → c ≡ get_or changes i c
    → DeltaFits changes t → ChangeFits c (tables_after_delta (take i changes) t)
fit_at [] i c t lt e fits = absurd (omega arith)
fit_at (x ∷ changes) zero c t lt e fits = subst (λ y. ChangeFits y t) (sym e) fits.0
fit_at (x ∷ changes) (suc i) c t lt e fits = fit_at changes i c (tables_after_change x t) (omega arith) e fits.1

-- The state of the loop after the first i changes: the indexes have each row of the tables before and after these
-- changes, and each posting under its place in between.
pub record SoFar (x : PostingIndexes) (changes : List Change) (i : ℕ) (t : Tables) (step : ℕ) : Type 0 where
  pub first : Covers x t
  pub last : Covers x (tables_after_delta (take i changes) t)
  pub standing : (k : ℕ) → k ≤ i → IndexesByPlace x.standing (tables_after_delta (take k changes) t).posting
  pub moves : length (tables_after_delta (take i changes) t).move ≡ step

pub so_far_begins : (x : PostingIndexes) (changes : List Change) (t : Tables) (moves : ℕ) → length t.move ≡ moves
    → Covers x t → SoFar x changes 0 t moves
so_far_begins x changes t moves len covers = grind (arith, common_steps)

-- A change appends `added_move_count` moves.
moves_grow : (c : Change) (t : Tables) → length (tables_after_change c t).move ≡ length t.move + added_move_count c
moves_grow (change.AddMove r) t = length-append t.move (r ∷ [])
moves_grow c t = omega arith

-- A change appends at most one move.
pub moves_few : (c : Change) → added_move_count c ≤ 1
moves_few (change.AddMove r) = omega arith
moves_few c = omega arith

pub covers_when_stopped : (old new : PostingIndexes) (changes : List Change) (i : ℕ) (c : Change) (t : Tables)
    (step : ℕ) → i < length changes → c ≡ get_or changes i c → DeltaFits changes t → SoFar old changes i t step
    → IndexesGrow c old new → Covers new t
covers_when_stopped old new changes i c t step lt is fits so_far grows =
    let s = tables_after_delta (take i changes) t in
    covers_after_growth c old new t grows (λ row h. let z = keys_stay (take i changes) t row h in
    subst (IsOtherKey c) z.2 (other_key c s z.0 (fit_at changes i c t lt is fits) z.1)) so_far.first

-- One iteration of the loop keeps its state.
pub so_far_continues : (old new : PostingIndexes) (changes : List Change) (i : ℕ) (c : Change) (t : Tables)
    (step next : ℕ) → i < length changes → c ≡ get_or changes i c → DeltaFits changes t → SoFar old changes i t step
    → IndexesGrow c old new → ((s : Tables) → ChangeFits c s → Covers old s → CoversChange new c s step)
    → next ≡ step + added_move_count c → SoFar new changes (i + 1) t next
so_far_continues old new changes i c t step next lt is fits so_far grows reaches next_is =
    let s = tables_after_delta (take i changes) t in
    let fit = fit_at changes i c t lt is fits in
    let done : tables_after_delta (take (i + 1) changes) t ≡ tables_after_change c s =
    ap (λ (l : List Change). tables_after_delta l t) (take_one changes i c lt is) ∙ all_append (take i changes)
    (c ∷ []) t in
    let more = moves_grow c s in
    let before = so_far.moves in
    let last =
    subst (Covers new) (sym done) (covers_after_change new c s step so_far.moves (reaches s fit so_far.last)
    (covers_after_growth c old new s grows (λ row h. other_key c s row fit h) so_far.last)) in
    record {
      first = covers_when_stopped old new changes i c t step lt is fits so_far grows;
      last = last;
      standing = λ k least. elim (cases_eq k (i + 1)) [
        | inl now ↦ subst (λ n. IndexesByPlace new.standing (tables_after_delta (take n changes) t).posting) (sym now)
            last.standing
        | inr apart ↦ λ j row at. grows.standing row.place j (so_far.standing k (omega (arith, least, apart)) j row at)
      ];
      moves = ap (λ (u : Tables). length u.move) done ∙ more ∙ ap (λ n. n + added_move_count c) before ∙ sym next_is;
    }

pub so_far_ends : (x : PostingIndexes) (changes : List Change) (i : ℕ) (t : Tables) (step : ℕ) → length changes ≤ i
    → SoFar x changes i t step → CoversAll x changes t
so_far_ends x changes i t step all so_far = grind (arith, common_steps, take_all)

-- The result of `cover_all` in a commit holds for the tables that the caller sees: reserving memory leaves these
-- unchanged.
pub covers_both : (x y : PostingIndexes) (changes given : List Change) (moves : ℕ) (room inside seen : Tables)
    (result : Result (Unit {0}) AllocError) → ((t : Tables) → DeltaFits given t → length t.move ≡ moves → Covers x t
    → CoversBoth y given t result)
    → given ≡ changes → room ≡ inside → inside ≡ seen → DeltaFits changes seen → length room.move ≡ moves
    → Covers x inside → CoversBoth y given room result
covers_both x y changes given moves room inside seen result both same roomy view fits len covers =
    grind (arith, common_steps)
