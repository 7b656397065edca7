-- The facts about postings that the check of a plan's request needs.
use Rattle.std.specs.Prelude.{◌≡◌, ℕ, List, map}
use Rattle.thes_base.specs.Legal.{IsLegalState}
use Rattle.thes_base.specs.State.{State}
use Rattle.thes_base.specs.declared.request.Command.{Command}
use Rattle.thes_tables.specs.Cells.{Raw, cells_of_tables}
use Rattle.thes_tables.specs.Tables.{Tables, posting_row}
use Rattle.thes_core.specs.declared.facts.Facts.{Facts}
use Rattle.thes_core.specs.Facts.{AreFacts}
use Rattle.thes_plan_postings.specs.declared.plan_postings.PlanPostings.{PlanPostings}
use Rattle.thes_plan_postings.specs.PlanPostings.{ArePlanRows}

-- The facts are those of the state after the requests of the plan so far.
abbrev pub FactsInPlan : Raw → PlanPostings → Command → Facts → Type 0
FactsInPlan raw postings command facts = (t : Tables) (base : List ℕ) (s : State) → raw ≡ cells_of_tables t
    → IsLegalState base s → ArePlanRows t.posting (map posting_row s.histories) postings
    → AreFacts command s.histories facts
