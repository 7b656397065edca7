use Rattle.std.proofs.Common.{◌≡◌, ap, arith, inl, inr, rules, subst, sym, ◌∙◌}
use Rattle.std.proofs.lemmas.List.{take_all}
use Rattle.thes_tables.specs.declared.rows.PostingRow.{PostingRow}
use Rattle.thes_tables.specs.Tables.{IsIn}
use Rattle.thes_plan_postings.proofs.PlanChangeLemmas.{in_list, in_take_more}
use Rattle.thes_plan_postings.proofs.plan_postings.row_of_number.Goals as goal

pub returns-then-eq : goal.returns-then-eq
returns-then-eq c =
    let same : c.row-item.result.number ≡ c.args.number = search rules in
    let copy : c.in_ok-found.found ≡ c.row-item.result = search rules in (
      subst (λ (r : PostingRow). IsIn r c.args.rows.now) (sym copy)
          (in_list c.args.rows.now c.loop-row.row-index c.row-item.result (omega arith) c.row-item.is),
      ap (λ (r : PostingRow). r.number) copy ∙ same,
    )

pub loop-row-preserved : goal.loop-row-preserved
loop-row-preserved c row has same = elim (in_take_more c.args.rows.now c.loop-row.row-index c.row-item.result row
    (omega arith) c.row-item.is has) [
      | inl before ↦ c.loop-row.invariant row before same
      | inr here ↦
          let it : c.row-item.result.number ≡ c.args.number = ap (λ (r : PostingRow). r.number) (sym here) ∙ same in
          search rules
    ]

pub returns : goal.returns
returns c row has = c.loop-row.invariant row
    (subst (IsIn row) (sym (take_all c.loop-row.row-index c.args.rows.now (omega arith))) has)
