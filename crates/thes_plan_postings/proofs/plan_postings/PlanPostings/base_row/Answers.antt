use Rattle.std.proofs.Common.{subst, sym, ◌∙◌, List}
use Rattle.thes_tables.specs.declared.rows.PostingRow.{PostingRow}
use Rattle.thes_plan_postings.specs.PlanPostings.{IsRowOfNumber}
use Rattle.thes_plan_postings.proofs.PlanPostingLemmas.{base_added}
use Rattle.thes_plan_postings.proofs.plan_postings.PlanPostings.base_row.Goals as goal

pub returns-in_ok-row_of_number-in-Ok-None-clause-in_base : goal.returns-in_ok-row_of_number-in-Ok-None-clause-in_base
returns-in_ok-row_of_number-in-Ok-None-clause-in_base g c up t rows is are =
    base_added t.posting rows c.args.self.now are c.args.number _
    (sym (c.in-Ok-None.ensures.ok up t is) ∙ c.in-Ok-None.field-0-is)
    (subst (λ (l : List PostingRow). IsRowOfNumber c.args.number l c.in_ok-row_of_number-in-Ok-None.field-0)
    c.as_slice.ensures.value c.in_ok-row_of_number-in-Ok-None.ensures)
