-- Proves that whatever a handler does for several requests, its service does for them.
use Rattle.std.proofs.Common.{inl, inr, ℕ, List, [], ◌∷◌, Option, Some, None, Result, Ok, Err, codes}
use Rattle.serde_json.specs.Data.{Data}
use Rattle.thes_base.specs.declared.fault.Fault.{Fault}
use Rattle.thes_plans.specs.declared.plan.PlanRun.{PlanRun}
use Rattle.thes_plans.specs.declared.plan.PlanRun.TheVariants as run
use Rattle.thes_tables.specs.declared.change.Change.{Change}
use Rattle.thes_requests.specs.PlanForms.{form_in, sole_member}
use Rattle.thes_requests.specs.RequestBehaviour.{RequestBehaviour}
use Rattle.thes_requests.specs.Serving.{RunsEach, ServesArray, ServesEach, ServesElement, ServesForm, ServesPlan, ServesReport}
use Rattle.thes_requests.specs.declared.answer.Reply.TheVariants as reply
use Rattle.thes_requests.specs.declared.line_serving.LineAnswer.{LineAnswer}
use Rattle.thes_requests.specs.declared.line_serving.LineAnswer.TheVariants.{Reply, View, Plan}
use Rattle.thes_requests.specs.declared.plan_form.PlanForm.{PlanForm}
use Rattle.thes_requests.specs.declared.plan_form.PlanForm.TheVariants as form
use Rattle.thes_requests.specs.declared.plan_reply.PlanReply.{PlanReply}
use Rattle.thes_requests.specs.declared.plan_reply.PlanReply.TheVariants.{Done, Reported, Refused, Bad}
use Rattle.thes_http.specs.ServiceBehaviour.{ServiceBehaviour, DoesRequests}

module _ {S : Type 0} {handler : RequestBehaviour S} {service : ServiceBehaviour S}
    (does : DoesRequests handler service) where
  array_as_service : (old : S) (value : Option Data) (result : Result PlanReply Fault) (new : S)
      → ServesArray handler old value result new → ServesArray service.requests old value result new
  array_as_service old value (Ok (Bad f)) new h = h
  array_as_service old value (Ok (Done line)) new h =
      (h.0, h.1, (h.2.0, does.performs_plan old h.0 (Ok h.2.0) new h.2.1, h.2.2))
  array_as_service old value (Ok (Reported report)) new h =
      (h.0, h.1, (h.2.0, does.performs_plan old h.0 (Ok h.2.0) new h.2.1, h.2.2))
  array_as_service old value (Ok (Refused place refusal)) new h =
      (h.0, h.1, (h.2.0, does.performs_plan old h.0 (Ok h.2.0) new h.2.1, h.2.2))
  array_as_service old value (Err f) new (inl h) = inl h
  array_as_service old value (Err f) new (inr h) = inr (h.0, h.1, does.performs_plan old h.0 (Err f) new h.2)

  report_as_service : (way : PlanRun) (old : S) (value : Data) (result : Result PlanReply Fault) (new : S)
      → ServesReport handler way old value result new → ServesReport service.requests way old value result new
  report_as_service way old value (Ok (Bad f)) new h = h
  report_as_service way old value (Ok (Done line)) new h =
      (h.0, h.1, (h.2.0, h.2.1, does.reports_plan old way h.0 (Ok h.2.0) h.2.1 new h.2.2, h.2.3))
  report_as_service way old value (Ok (Reported report)) new h =
      (h.0, h.1, (h.2.0, h.2.1, does.reports_plan old way h.0 (Ok h.2.0) h.2.1 new h.2.2, h.2.3))
  report_as_service way old value (Ok (Refused place refusal)) new h =
      (h.0, h.1, (h.2.0, h.2.1, does.reports_plan old way h.0 (Ok h.2.0) h.2.1 new h.2.2, h.2.3))
  report_as_service way old value (Err f) new (inl h) = inl h
  report_as_service way old value (Err f) new (inr h) =
      inr (h.0, h.1, does.reports_plan old way h.0 (Err f) [] new h.2)

  element_as_service : (old : S) (value : Data) (answer : LineAnswer) (changes : List Change) (new : S)
      → ServesElement handler old value answer changes new → ServesElement service.requests old value answer changes new
  element_as_service old value (Reply (reply.Answer a)) changes new (inl h) =
      inl (h.0, h.1, does.reports old h.0 (Ok a) changes new h.2)
  element_as_service old value (Reply (reply.Answer a)) changes new (inr h) =
      inr (h.0, h.1, h.2, does.shows old h.0 _ new h.3, h.4, h.5)
  element_as_service old value (Reply (reply.Bad f)) changes new h = h
  element_as_service old value (Reply (reply.Fault f)) changes new (none, inl h) = (none, inl h)
  element_as_service old value (Reply (reply.Fault f)) changes new (none, inr (inl h)) =
      (none, inr (inl (h.0, h.1, does.reports old h.0 (Err f) [] new h.2)))
  element_as_service old value (Reply (reply.Fault f)) changes new (none, inr (inr h)) =
      (none, inr (inr (h.0, h.1, h.2, does.shows old h.0 h.1 new h.3, h.4)))
  element_as_service old value (View text) changes new h = (h.0, h.1, does.shows old h.0 _ new h.2, h.3)
  element_as_service old value (Plan r) changes new h = absurd h

  each_as_service : (old : S) (values : List Data) (answers : List LineAnswer) (changes : List Change) (new : S)
      → RunsEach handler old values answers changes new → RunsEach service.requests old values answers changes new
  each_as_service old [] [] changes new h = h
  each_as_service old [] (a ∷ answers) changes new h = absurd h
  each_as_service old (v ∷ values) [] changes new h = absurd h
  each_as_service old (v ∷ values) (a ∷ answers) changes new (mid, first, rest, is, did, inl last) =
      (mid, first, rest, is, element_as_service old v a first mid did, inl last)
  each_as_service old (v ∷ values) (a ∷ answers) changes new (mid, first, rest, is, did, inr (clear, more)) = (
    mid,
    first,
    rest,
    is,
    element_as_service old v a first mid did,
    inr (clear, each_as_service mid values answers rest new more),
  )

  items_as_service : (old : S) (value : Data) (result : Result PlanReply Fault) (new : S)
      → ServesEach handler old value result new → ServesEach service.requests old value result new
  items_as_service old value (Ok (Bad f)) new h = h
  items_as_service old value (Ok (Done line)) new h = absurd h
  items_as_service old value (Ok (Reported report)) new h =
      (h.0, h.1, h.2, h.3, each_as_service old h.0 h.1 h.2 new h.4, h.5)
  items_as_service old value (Ok (Refused place refusal)) new h = absurd h
  items_as_service old value (Err f) new h = h

  form_as_service : (which : PlanForm) (old : S) (value : Data) (result : Result PlanReply Fault) (new : S)
      → ServesForm handler which old value result new → ServesForm service.requests which old value result new
  form_as_service form.Array old value result new h = array_as_service old (Some value) result new h
  form_as_service form.Perform old value result new h =
      report_as_service run.Perform old (sole_member (codes "perform") value) result new h
  form_as_service form.Try old value result new h =
      report_as_service run.Try old (sole_member (codes "try") value) result new h
  form_as_service form.Each old value result new h =
      items_as_service old (sole_member (codes "each") value) result new h

  pub serves_as_service : (old : S) (value : Option Data) (result : Result PlanReply Fault) (new : S)
      → ServesPlan handler old value result new → ServesPlan service.requests old value result new
  serves_as_service old None result new h = array_as_service old None result new h
  serves_as_service old (Some value) result new h = form_as_service (form_in value) old value result new h
