-- The outcomes of a posting file's rows, as lines and as counts.
use Rattle.std.specs.Prelude.{◌≡◌, ◌≤◌, ◌+◌, ℕ, Bool, true, false, List, [], ◌∷◌, ◌++◌, codes, decimal, count_by, length}
use Rattle.std.specs.Prelude.{filter_map, Option, None, Some, vec_len, vec_capacity}
use Rattle.thes_base.specs.declared.request.Answer.{Answer}
use Rattle.thes_base.specs.declared.request.Answer.TheVariants as reply
use Rattle.thes_base.specs.declared.request.Command.{Command}
use Rattle.thes_base.specs.declared.request.Command.TheVariants as request
use Rattle.thes_base.specs.declared.fault.FormFault.{FormFault}
use Rattle.thes_base.specs.FaultNames.{form_code, refusal_code}
use Rattle.thes_posting_files.specs.declared.csv_row.CsvRow.{CsvRow}
use Rattle.thes_posting_files.specs.declared.csv_row.CsvRow.TheVariants as row
use Rattle.thes_posting_files.specs.declared.outcome.Outcome.{Outcome}
use Rattle.thes_posting_files.specs.declared.outcome.Outcome.TheVariants as outcome
use Rattle.thes_posting_files.specs.declared.report.Counts.{Counts}
use Rattle.thes_posting_files.specs.declared.report.Report.{Report}

-- The request of a row that is a posting; None for any other row.
abbrev pub post_in : CsvRow → Option Command
post_in (row.Post key rec concept) = Some (request.Post key rec concept)
post_in (row.Bad fault) = None

-- The requests of the rows that are postings, in order.
abbrev pub posts_of : List CsvRow → List Command
posts_of rows = filter_map post_in rows

-- The fault of a row that isn't a posting; None for a posting.
abbrev pub fault_of_row : CsvRow → Option FormFault
fault_of_row (row.Post key rec concept) = None
fault_of_row (row.Bad fault) = Some fault

-- The outcomes of rows, given the fault of each row (None for a posting) and the answers to the postings, in order. The
-- outcomes end before the first posting without an answer.
abbrev pub outcomes_of : List (Option FormFault) → List Answer → List Outcome
outcomes_of [] answers = []
outcomes_of (Some fault ∷ faults) answers = outcome.Bad fault ∷ outcomes_of faults answers
outcomes_of (None ∷ faults) [] = []
outcomes_of (None ∷ faults) (answer ∷ answers) = outcome.Reply answer ∷ outcomes_of faults answers

-- The answer in the outcome of a row; None if the outcome is a fault, since the row isn't a posting.
abbrev pub answer_in : Outcome → Option Answer
answer_in (outcome.Reply answer) = Some answer
answer_in (outcome.Bad fault) = None

-- The answers in the outcomes, in order.
abbrev pub answers_of : List Outcome → List Answer
answers_of outcomes = filter_map answer_in outcomes

-- The outcome is of the row's kind: an answer for a posting, and the row's own fault for any other row.
abbrev pub IsOutcome : CsvRow → Outcome → Type 0
IsOutcome (row.Post key rec concept) (outcome.Reply answer) = Unit {0}
IsOutcome (row.Post key rec concept) (outcome.Bad fault) = ⊥
IsOutcome (row.Bad fault) (outcome.Reply answer) = ⊥
IsOutcome (row.Bad fault) (outcome.Bad f) = f ≡ fault

-- The keyword of an outcome: `new`, `again`, or the name of a refusal or of a form fault; empty for
-- an answer that a post never has.
abbrev pub outcome_word : Outcome → List ℕ
outcome_word (outcome.Reply (reply.Number n)) = codes "new"
outcome_word (outcome.Reply (reply.Again n)) = codes "again"
outcome_word (outcome.Reply (reply.No refusal)) = (refusal_code refusal).name
outcome_word (outcome.Reply _) = []
outcome_word (outcome.Bad fault) = (form_code fault).name

-- The number of the posting that the row added or repeats; None for any other row.
abbrev pub outcome_number : Outcome → Option ℕ
outcome_number (outcome.Reply (reply.Number n)) = Some n
outcome_number (outcome.Reply (reply.Again n)) = Some n
outcome_number _ = None

-- The number in decimal, or an empty text if there is none.
abbrev pub number_text : Option ℕ → List ℕ
number_text None = []
number_text (Some n) = decimal n

-- The line of an outcome: the row's number, the keyword, and the posting's number or nothing,
-- separated by commas.
abbrev pub outcome_line : ℕ → Outcome → List ℕ
outcome_line n o = decimal n ++ codes "," ++ outcome_word o ++ codes "," ++ number_text (outcome_number o) ++ codes "\n"

-- The lines of the outcomes of consecutive rows, from row `n` on.
abbrev pub outcome_lines : ℕ → List Outcome → List ℕ
outcome_lines n [] = []
outcome_lines n (o ∷ outcomes) = outcome_line n o ++ outcome_lines (n + 1) outcomes

-- The text of a report: its heading, and the lines of all outcomes.
abbrev pub outcomes_text : List Outcome → List ℕ
outcomes_text outcomes = codes "row,outcome,number\n" ++ outcome_lines 1 outcomes

-- The counts of no rows.
abbrev pub no_counts : Counts
no_counts = record { posted = 0; again = 0; refused = 0 }

-- Whether the row added a posting.
abbrev pub is_new : Outcome → Bool
is_new (outcome.Reply (reply.Number n)) = true
is_new _ = false

-- Whether the row repeats a posting.
abbrev pub is_again : Outcome → Bool
is_again (outcome.Reply (reply.Again n)) = true
is_again _ = false

-- Whether the row neither added nor repeats a posting.
abbrev pub is_refused : Outcome → Bool
is_refused (outcome.Reply (reply.Number n)) = false
is_refused (outcome.Reply (reply.Again n)) = false
is_refused _ = true

-- The numbers of rows by outcome.
abbrev pub counts_of : List Outcome → Counts
counts_of outcomes = record {
  posted = count_by is_new outcomes;
  again = count_by is_again outcomes;
  refused =
      count_by is_refused outcomes;
}

-- The number of all rows counted.
abbrev pub row_count : Counts → ℕ
row_count counts = counts.posted + counts.again + counts.refused

-- The report has the text and the counts of these outcomes.
pub record ReportsOutcomes (outcomes : List Outcome) (report : Report) : Type 0 where
  pub text : report.text.items ≡ outcomes_text outcomes
  pub counts : report.counts ≡ counts_of outcomes

-- The lines and counts of these outcomes are added to the report, whatever text it had before.
abbrev pub AddsOutcomes : List Outcome → Report → Report → Type 0
AddsOutcomes outcomes old new =
    (earlier : List Outcome) → old.counts ≡ counts_of earlier → (new.counts ≡ counts_of (earlier ++ outcomes))
    × (new.text.items ≡ old.text.items ++ outcome_lines (1 + length earlier) outcomes)

-- The outcome of one row, whose line has at most `most` bytes, is added to the report, and the row is counted.
pub record AddsRow (most : ℕ) (outcome : Outcome) (old new : Report) : Type 0 where
  pub outcomes : AddsOutcomes (outcome ∷ []) old new
  pub rows : row_count new.counts ≡ row_count old.counts + 1
  pub size : vec_len new.text ≤ vec_len old.text + most
  pub capacity : vec_capacity old.text ≤ vec_capacity new.text

-- The report has no text, not even the heading, and counts no rows.
pub record IsBlankReport (report : Report) : Type 0 where
  pub text : report.text.items ≡ []
  pub counts : report.counts ≡ no_counts
