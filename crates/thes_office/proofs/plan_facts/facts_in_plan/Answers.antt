use Rattle.std.proofs.Common.{◌∙◌, ◌∷◌, [], refl, ap, map}
use Rattle.thes_base.specs.Resources.{entry_at}
use Rattle.thes_tables.specs.Tables.{posting_row}
use Rattle.thes_office.proofs.FactLemmas.{assigned_numbers, facts_of_merge, facts_of_post, facts_of_withdraw}
use Rattle.thes_office.proofs.FactLemmas.{facts_split, found_key}
use Rattle.thes_office.proofs.PlanFactLemmas.{rows_of_histories}
use Rattle.thes_office.proofs.plan_facts.facts_in_plan.Goals as goal

pub returns-in_ok-known-in-Post-clause-in_plan : goal.returns-in_ok-known-in-Post-clause-in_plan
returns-in_ok-known-in-Post-clause-in_plan g c up t base s is legal are =
    let rows = map posting_row s.histories in
    facts_of_post s.histories c.args.command.now _ _ _ _ c.in-Post.is
    (found_key base s rows _ _ legal refl (c.in_ok-known-in-Post.ensures.in_plan up t rows is are))
    c.new.ensures.items c.new-in-Post.ensures.items

pub returns-in_ok-named_postings-in-Withdraw-clause-in_plan :
    goal.returns-in_ok-named_postings-in-Withdraw-clause-in_plan
returns-in_ok-named_postings-in-Withdraw-clause-in_plan g c up t base s is legal are =
    let rows = map posting_row s.histories in
    facts_of_withdraw s.histories c.args.command.now _ _ c.in-Withdraw.is c.named_facts.ensures.known
    (c.named_facts.ensures.named_postings ∙ c.in_ok-named_postings-in-Withdraw.ensures.in_plan up t rows is are
    ∙ rows_of_histories s.histories (c.in-Withdraw.posting ∷ []))
    c.named_facts.ensures.standing

pub returns-in_ok-named_postings-in-Split-clause-in_plan : goal.returns-in_ok-named_postings-in-Split-clause-in_plan
returns-in_ok-named_postings-in-Split-clause-in_plan g c up t base s is legal are =
    let rows = map posting_row s.histories in
    facts_split s.histories c.args.command.now _ _ _ _ _ c.in-Split.is c.named_facts-in-Split.ensures.known
    (c.named_facts-in-Split.ensures.named_postings
    ∙ c.in_ok-named_postings-in-Split.ensures.in_plan up t rows is are ∙ ap (map (entry_at rows)) c.as_slice.ensures
    ∙ rows_of_histories s.histories c.in-Split.listed) c.named_facts-in-Split.ensures.standing

pub returns-in_ok-standing-in-Merge-clause-in_plan : goal.returns-in_ok-standing-in-Merge-clause-in_plan
returns-in_ok-standing-in-Merge-clause-in_plan g c up t base s is legal are =
    let rows = map posting_row s.histories in
    facts_of_merge s.histories c.args.command.now _ _ _ c.in-Merge.is refl c.new-in-Merge.ensures.items
    (c.in_ok-standing-in-Merge.ensures.in_plan up t rows is are ∙ assigned_numbers _ rows s.histories refl)
