-- Proves that the facts queried from the storage are those of the histories of the state.
use Rattle.std.proofs.lemmas.Grind.{common_steps}
use Rattle.std.proofs.Common.{◌≡◌, ℕ, zero, suc, List, [], ◌∷◌, ◌++◌, refl, sym, ap, subst, ◌∙◌, inl, inr, map, arith}
use Rattle.std.specs.Prelude.{Option, None, Some, Result, Ok, slice_get, filter}
use Rattle.std.proofs.lemmas.List.{map-append}
use Rattle.std.proofs.lemmas.Option.{same_Some}
use Rattle.thes_base.specs.declared.data.History.{History}
use Rattle.thes_base.specs.declared.fault.Fault.{Fault}
use Rattle.thes_base.specs.declared.request.Command.{Command}
use Rattle.thes_base.specs.declared.request.Command.TheVariants as request
use Rattle.thes_base.specs.Legal.{IsLegalState}
use Rattle.thes_base.specs.Postings.{is_assigned_to}
use Rattle.thes_base.specs.Resources.{entry_at}
use Rattle.thes_base.specs.State.{State}
use Rattle.thes_tables.specs.declared.rows.PostingRow.{PostingRow}
use Rattle.thes_tables.specs.Cells.{Raw}
use Rattle.thes_tables.specs.Tables.{IsIn, posting_row}
use Rattle.thes_core.specs.declared.facts.Facts.{Facts}
use Rattle.thes_core.specs.Facts.{AreFacts, IsRowOfKey, posting_row_at, assigned_posting_numbers}
use Rattle.thes_store.specs.Reading.{IsPostingOfKey, assigned_posting_rows, row_number, assigned_row_numbers}
use Rattle.thes_store.specs.Storage.{KeepsStorage, QueryFrame, StorageView}
use Rattle.thes_store.proofs.StorageLemmas.{kept_after}
use Rattle.thes_office.specs.QueryFrames.{RowInTables, RowsInTables}
use Rattle.thes_office.specs.TablesOfState.{TablesOfState}

-- Each row of the posting table is that of a history.
in_rows : (hs : List History) (row : PostingRow) → IsIn row (map posting_row hs) → (i : ℕ) × (h : History)
    × (slice_get hs i ≡ Some h) × (row ≡ posting_row h)
in_rows [] row has = absurd has
in_rows (h ∷ hs) row (inl same) = (0, h, refl, same)
in_rows (h ∷ hs) row (inr later) = let r = in_rows hs row later in (suc r.0, r.1, r.2, r.3)

-- The posting table has the row of each history.
row_in : (hs : List History) (i : ℕ) (h : History) → slice_get hs i ≡ Some h → IsIn (posting_row h) (map posting_row hs)
row_in [] i h at = absurd (cc)
row_in (g ∷ hs) zero h at = inl (ap posting_row (same_Some _ _ (sym at)))
row_in (g ∷ hs) (suc i) h at = inr (row_in hs i h at)

-- The row found for a key is that of its history.
pub found_key : (base : List ℕ) (s : State) (rows : List PostingRow) (key : List ℕ) (found : Option PostingRow)
    → IsLegalState base s → rows ≡ map posting_row s.histories → IsPostingOfKey key rows found
    → IsRowOfKey key s.histories
    found
found_key base s rows key (Some row) legal is f =
    let has = f.0 in
    let of_key = f.1 in
    let r = in_rows s.histories row (subst (IsIn row) is has) in
    let number : r.1.number ≡ suc r.0 = (legal.postings.sound (suc r.0) r.1 r.2).number in
    (r.1, (ap (entry_at s.histories) number ∙ r.2, ap (λ (x : PostingRow). x.key) (sym r.3) ∙ of_key), r.3)
found_key base s rows key None legal is never = grind (arith, common_steps, row_in)

-- The rows of the postings assigned to a concept are those of the histories assigned to it.
pub assigned_rows : (concept : ℕ) (hs : List History) → assigned_posting_rows concept (map posting_row hs)
    ≡ map posting_row (filter (is_assigned_to concept) hs)
assigned_rows concept [] = refl
assigned_rows concept (h ∷ hs) = grind (arith, common_steps, assigned_rows concept hs)

numbers_of : (hs : List History) → map row_number (map posting_row hs) ≡ map (λ (h : History). h.number) hs
numbers_of [] = refl
numbers_of (h ∷ hs) = ap (λ (l : List ℕ). h.number ∷ l) (numbers_of hs)

-- The numbers of the rows assigned to a concept are those of the histories assigned to it.
pub assigned_numbers : (concept : ℕ) (rows : List PostingRow) (hs : List History) → rows ≡ map posting_row hs
    → assigned_row_numbers concept rows ≡ assigned_posting_numbers concept hs
assigned_numbers concept rows hs is = ap (assigned_row_numbers concept) is
    ∙ ap (map row_number) (assigned_rows concept hs) ∙ numbers_of (filter (is_assigned_to concept) hs)

-- The rows found so far, while postings are queried in order.
pub record RowsReadSoFar (old now : StorageView)
    (ns : List ℕ) (told : List (Option PostingRow)) : Type 0 where
  pub keeps : KeepsStorage old now
  pub rows_are_read : now.is_up → RowsInTables old.rows ns told

-- A query for one more posting appends its row to the rows found.
pub rows_read_more : (old mid new : StorageView)
    (ns more : List ℕ) (told last : List (Option PostingRow)) (n : ℕ) (row : Option PostingRow)
    → RowsReadSoFar old mid ns told
    → QueryFrame mid new (let x : Result (Option PostingRow) Fault = Ok row in x)
    → (new.is_up → RowInTables mid.rows n row) → more ≡ ns ++ n ∷ [] → last ≡ told ++ row ∷ []
    → RowsReadSoFar old new more last
rows_read_more old mid new ns more told last n row t asks one grown pushed = record {
  keeps = kept_after old mid new t.keeps row asks;
  rows_are_read = λ up base s x.
      let here = one up base s (subst (λ (r : Raw). TablesOfState r base s) (sym (t.keeps.same (asks.was up))) x) in
      let before = t.rows_are_read (asks.was up) base s x in
      pushed ∙ (λ i. before i ++ here i ∷ []) ∙ sym (map-append (posting_row_at s.histories) ns (n ∷ []))
      ∙ ap (map (posting_row_at s.histories)) (sym grown);
}

-- For each kind of request that needs facts, the facts queried are those of the histories.
module _ (hs : List History) (command : Command) where
  pub facts_of_post : (key rec : List ℕ) (concept : ℕ) (facts : Facts) → command ≡ request.Post key rec concept
      → IsRowOfKey key hs facts.known → facts.named_postings.items ≡ [] → facts.standing.items ≡ []
      → AreFacts command hs facts
  facts_of_post key rec concept facts is known named_postings standing = grind (arith, common_steps)

  pub facts_of_withdraw : (posting : ℕ) (facts : Facts) → command ≡ request.Withdraw posting → facts.known ≡ None
      → facts.named_postings.items ≡ map (posting_row_at hs) (posting ∷ []) → facts.standing.items ≡ []
      → AreFacts command hs facts
  facts_of_withdraw posting facts is known named_postings standing = grind (arith, common_steps)

  pub facts_split : (source : ℕ) (tag text postings : List ℕ) (facts : Facts) → command ≡ request.Split source tag
      text postings → facts.known ≡ None → facts.named_postings.items ≡ map (posting_row_at hs) postings
      → facts.standing.items ≡ [] → AreFacts command hs facts
  facts_split source tag text postings facts is known named_postings standing = grind (arith, common_steps)

  pub facts_of_merge : (source target : ℕ) (facts : Facts) → command ≡ request.Merge source target → facts.known
      ≡ None → facts.named_postings.items ≡ [] → facts.standing.items ≡ assigned_posting_numbers source hs
      → AreFacts command hs facts
  facts_of_merge source target facts is known named_postings standing = grind (arith, common_steps)
