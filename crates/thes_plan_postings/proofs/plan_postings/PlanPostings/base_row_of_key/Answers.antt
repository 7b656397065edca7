use Rattle.std.proofs.Common.{subst, List}
use Rattle.thes_tables.specs.declared.rows.PostingRow.{PostingRow}
use Rattle.thes_store.specs.Reading.{IsPostingOfKey}
use Rattle.thes_plan_postings.proofs.PlanPostingLemmas.{key_added, key_in_tables}
use Rattle.thes_plan_postings.proofs.plan_postings.PlanPostings.base_row_of_key.Goals as goal

pub returns-in-Ok-Some-clause-in_base : goal.returns-in-Ok-Some-clause-in_base
returns-in-Ok-Some-clause-in_base g c up t rows is are =
    key_in_tables c.args.key.now t.posting c.args.self.now.added.items c.in-Ok-Some.field-0 c.in-Ok-Some.row
    c.in-Ok-Some.field-0-is (c.in-Ok-Some.ensures.ok up t is)

pub returns-in_ok-row_of_key-in-Ok-None-clause-in_base : goal.returns-in_ok-row_of_key-in-Ok-None-clause-in_base
returns-in_ok-row_of_key-in-Ok-None-clause-in_base g c up t rows is are =
    key_added c.args.key.now t.posting c.args.self.now.added.items _
    (subst (IsPostingOfKey c.args.key.now t.posting) c.in-Ok-None.field-0-is (c.in-Ok-None.ensures.ok up t is))
    (subst (λ (l : List PostingRow). IsPostingOfKey c.args.key.now l c.in_ok-row_of_key-in-Ok-None.field-0)
    c.as_slice.ensures.value c.in_ok-row_of_key-in-Ok-None.ensures)
