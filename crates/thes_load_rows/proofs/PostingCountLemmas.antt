-- The counts of the rows of table posting are those of the histories.
use Rattle.std.proofs.lemmas.Grind.{common_steps}
use Rattle.std.proofs.Common.{◌≡◌, ℕ, length, List, [], ◌∷◌, ◌++◌, map, refl, sym, ap, ◌∙◌, arith}
use Rattle.std.proofs.Common.{Bool, cond, not, ◌&&◌, eqb, length-append}
use Rattle.std.specs.Prelude.{count_by}
use Rattle.std.proofs.lemmas.List.Sums.{sum_by_push, sum_by-cons}
use Rattle.std.proofs.lemmas.List.{length-map}
use Rattle.thes_base.specs.declared.data.Resource.{Resource}
use Rattle.thes_base.specs.declared.data.History.{History}
use Rattle.thes_base.specs.Postings.{is_assigned_to}
use Rattle.thes_tables.specs.declared.rows.PostingRow.{PostingRow}
use Rattle.thes_tables.specs.declared.rows.MoveRow.{MoveRow}
use Rattle.thes_tables.specs.Tables.{is_assigned_row}
use Rattle.thes_post.specs.PostingCounts.{PostingCounts, ArePostingCounts, CountsAfterLoad}
use Rattle.thes_load_rules.specs.Rules.{EachRow, PostingRule, MoveRule, history_of}
use Rattle.thes_load_rules.proofs.LoadedStateLemmas.{row_count_of_moves}
use Rattle.thes_load_rows.specs.PostingCounts.{AreCountsOfRows}

abbrev number_of : Bool → ℕ
number_of b = cond b 1 0

-- After one more row is counted, the counts are those of the rows so far and that row.
pub sums_push : (rows : List PostingRow) (p : PostingRow) (old new : PostingCounts) → AreCountsOfRows rows old
    → CountsAfterLoad p.place p.withdrawn old new → AreCountsOfRows (rows ++ p ∷ []) new
sums_push rows p old new are told = grind (arith, common_steps, length-append, sum_by_push)

same_count : (P : History → Bool) (Q : PostingRow → Bool) (history : PostingRow → History) (rows : List PostingRow)
    → EachRow (λ row. P (history row) ≡ Q row) rows → count_by P (map history rows) ≡ count_by Q rows
same_count P Q history [] each = refl
same_count P Q history (x ∷ rows) each = grind (arith, common_steps, sum_by-cons, same_count P Q history rows)

module _ (rs : List Resource) (postings : List PostingRow) (moves : List MoveRow) (rule : PostingRule rs postings)
    (all : MoveRule rs postings moves) where
  abbrev hs : List History
  hs = map (history_of moves) postings

  pub sums_of_histories : (posting_counts : PostingCounts) (taken : ℕ) → AreCountsOfRows postings posting_counts
      → length moves ≡ taken → ArePostingCounts hs (record posting_counts { moves = taken })
  sums_of_histories posting_counts taken are count = record {
    standing = λ n. are.standing n ∙ sym (same_count (is_assigned_to n) (is_assigned_row n) (history_of moves)
        postings (λ row h. ap (λ k. not row.withdrawn && eqb k n) (all.places row h)));
    accepted = are.accepted ∙ sym (length-map postings (history_of moves));
    withdrawn = are.withdrawn ∙ sym (same_count (λ h. h.withdrawn) (λ row. row.withdrawn) (history_of moves) postings
        (λ row h. refl));
    moves = sym count ∙ row_count_of_moves rs postings moves rule all;
  }
