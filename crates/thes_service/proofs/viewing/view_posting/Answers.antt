use Rattle.std.proofs.Common.{◌≡◌, ◌∙◌, sym, ℕ, List, rules}
use Rattle.std.specs.Prelude.{None, Some}
use Rattle.thes_base.specs.declared.data.History.{History}
use Rattle.thes_base.specs.declared.fault.Refusal.TheVariants as no
use Rattle.thes_base.specs.Refusals.{IsKnownPosting}
use Rattle.thes_base.specs.Resources.{entry_at}
use Rattle.thes_base.specs.RefusalRules.{accepted, refused_unless}
use Rattle.thes_requests.specs.declared.request.Query.TheVariants as asked
use Rattle.thes_office.proofs.OfficeViewLemmas.{behaviour_with_value}
use Rattle.thes_service.proofs.viewing.view_posting.Goals as goal

-- A number without a history is refused as `UnknownPosting`.
unknown : (hs : List History) (n : ℕ) → None ≡ entry_at hs n → refused_unless (IsKnownPosting hs n) no.UnknownPosting
    accepted (Some no.UnknownPosting)
unknown hs n none = search (rules, sym none)

pub returns-in_ok-query_answer-in-Ok-Some : goal.returns-in_ok-query_answer-in-Ok-Some
returns-in_ok-query_answer-in-Ok-Some g c = record {
  fault_behaviour = behaviour_with_value g.K.Keeper.view c.args.office.now c.posting.new.self
      c.in-Ok-Some.field-0 c.in_ok-query_answer-in-Ok-Some.field-0 c.in-Ok-Some.ensures.frame.fault_behaviour;
  same = c.in-Ok-Some.ensures.frame.same;
  viewed = λ up base s x. c.in_ok-query_answer-in-Ok-Some.ensures s (asked.Posting c.args.number)
      (sym (c.in-Ok-Some.ensures.in_tables up base s x) ∙ c.in-Ok-Some.field-0-is);
}

pub returns-in-Ok-None : goal.returns-in-Ok-None
returns-in-Ok-None g c = record {
  fault_behaviour = behaviour_with_value g.K.Keeper.view c.args.office.now c.posting.new.self
      c.in-Ok-None.field-0 _ c.in-Ok-None.ensures.frame.fault_behaviour;
  same = c.in-Ok-None.ensures.frame.same;
  viewed = λ up base s x. unknown s.histories c.args.number (sym c.in-Ok-None.field-0-is
      ∙ c.in-Ok-None.ensures.in_tables
      up base s x);
}
