-- The answers to a posting file that is imported twice.
use Rattle.std.specs.Prelude.{◌≡◌, List}
use Rattle.std.specs.List.{AllZip}
use Rattle.thes_base.specs.declared.data.Limits.{Limits}
use Rattle.thes_base.specs.declared.request.Answer.{Answer}
use Rattle.thes_base.specs.declared.request.Answer.TheVariants as reply
use Rattle.thes_tables.specs.Cells.{Raw}
use Rattle.thes_posting_files.specs.declared.csv_row.CsvRow.{CsvRow}
use Rattle.thes_office.specs.Office.{ChangesNothing}
use Rattle.thes_import.specs.Imports.{PerformsRows}
use Rattle.thes_posting_files.specs.Outcomes.{IsOutcome}
use Rattle.thes_posting_files.specs.declared.outcome.Outcome.{Outcome}
use Rattle.thes_posting_files.specs.declared.outcome.Outcome.TheVariants as outcome

-- The second answer to a post: `Again` with the posting's number if the first answer has one, and
-- else an answer that changes nothing.
abbrev pub IsAnswerAgain : Answer → Answer → Type 0
IsAnswerAgain (reply.Number n) b = b ≡ reply.Again n
IsAnswerAgain (reply.Again n) b = b ≡ reply.Again n
IsAnswerAgain a b = ChangesNothing b

-- The second outcome of a row; a row that isn't a posting has the same fault.
abbrev pub IsAgain : Outcome → Outcome → Type 0
IsAgain (outcome.Reply a) (outcome.Reply b) = IsAnswerAgain a b
IsAgain (outcome.Bad f) (outcome.Bad g) = g ≡ f
IsAgain o p = ⊥

-- A file that is imported twice, with no other request between, changes no table the second time; each row accepted the
-- first time is answered with the same posting's number.
abbrev pub ImportsAgain : Type 0
ImportsAgain =
    (limits : Limits) (old mid new : Raw) (rows : List CsvRow) (first second : List Outcome)
    → AllZip IsOutcome rows first → PerformsRows limits old rows first mid
    → AllZip IsOutcome rows second → PerformsRows limits mid rows second new
    → AllZip IsAgain first second × (new ≡ mid)
