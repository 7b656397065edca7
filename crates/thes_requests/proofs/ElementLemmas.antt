-- Proves that performing one of the requests of `each`, and keeping its answer, serves it.
use Rattle.std.proofs.Common.{◌≡◌, ◌∙◌, sym, refl, subst, ℕ, Bool, List, [], append-nil, inl, inr, Result, Ok, Err}
use Rattle.std.specs.Prelude.{OnErr}
use Rattle.serde_json.specs.Data.{Data}
use Rattle.thes_base.specs.declared.fault.Fault.{Fault}
use Rattle.thes_base.specs.declared.request.Answer.{Answer}
use Rattle.thes_base.specs.declared.request.Command.{Command}
use Rattle.thes_tables.specs.declared.change.Change.{Change}
use Rattle.thes_requests.specs.EachSteps.{IsKept, KeepsAnswer, ReportsCommand, ReportsElement, ServesNext}
use Rattle.thes_requests.specs.Readings.{ReadsAs}
use Rattle.thes_requests.specs.RequestBehaviour.{RequestBehaviour}
use Rattle.thes_requests.specs.Requests.{request_in}
use Rattle.thes_requests.specs.Serving.{ServesElement, command_answer, query_answer}
use Rattle.thes_requests.specs.declared.each.EachReport.{EachReport}
use Rattle.thes_requests.specs.declared.handler.QueryAnswer.{QueryAnswer}
use Rattle.thes_requests.specs.declared.handler.QueryAnswer.TheVariants as view
use Rattle.thes_requests.specs.declared.line_serving.LineAnswer.{LineAnswer}
use Rattle.thes_requests.specs.declared.line_serving.LineAnswer.TheVariants.{Reply, View, Plan}
use Rattle.thes_requests.specs.declared.request.Query.{Query}
use Rattle.thes_requests.specs.declared.request.Request.TheVariants.{Do, Get}

module _ {S : Type 0} (d : RequestBehaviour S) (old new : S) (value : Data) where
  command_serves : (command : Command) (given : Result Answer Fault) (changes : List Change)
      → ReadsAs (request_in value) (Ok (Do command)) → d.reports old command given changes new
      → OnErr given (changes ≡ []) → ServesElement d old value (command_answer given) changes new
  command_serves command (Ok a) changes reads does none = inl (command, reads, does)
  command_serves command (Err f) changes reads does none = (
    none,
    inr (inl (command, reads, subst (λ (cs : List Change). d.reports old command (Err f) cs new) none does)),
  )

  -- Performing a command serves the element that is read as it.
  pub command_element : (command : Command) (list list' : List ℕ) (answer : LineAnswer)
      → ReadsAs (request_in value) (Ok (Do command)) → ReportsCommand d old command list answer list' new
      → ReportsElement d old value list answer list' new
  command_element command list list' answer reads r = record {
    changes = r.changes;
    serves = subst (λ (a : LineAnswer). ServesElement d old value a r.changes new) (sym r.answer_is)
        (command_serves command r.outcome r.changes reads r.does r.none);
    list_is = r.list_is;
  }

  query_serves : (query : Query) (given : Result QueryAnswer Fault) → ReadsAs (request_in value) (Ok (Get query))
      → d.shows old query given new → ServesElement d old value (query_answer given) [] new
  query_serves query (Ok (view.Page text)) reads does = (query, reads, does, refl)
  query_serves query (Ok (view.No r)) reads does = inr (query, r, reads, does, refl, refl)
  query_serves query (Err f) reads does = (refl, inr (inr (query, Err f, reads, does, inl refl)))

  -- Answering a query serves the element that is read as it.
  pub query_element : (query : Query) (list : List ℕ) (answer : LineAnswer) (given : Result QueryAnswer Fault)
      → ReadsAs (request_in value) (Ok (Get query)) → d.shows old query given new → answer ≡ query_answer given
      → ReportsElement d old value list answer list new
  query_element query list answer given reads does is = record {
    changes = [];
    serves = subst (λ (a : LineAnswer). ServesElement d old value a [] new) (sym is)
        (query_serves query given reads does);
    list_is = sym (append-nil list);
  }

  -- The answer that is kept serves the element, too.
  kept_serves : (answer kept : LineAnswer) (changes : List Change) → ServesElement d old value answer changes new
      → IsKept answer kept → ServesElement d old value kept changes new
  kept_serves (Reply r) kept changes serves is =
      subst (λ (a : LineAnswer). ServesElement d old value a changes new) (sym is) serves
  kept_serves (Plan r) kept changes serves is = absurd serves
  kept_serves (View text) kept changes serves (inl is) =
      subst (λ (a : LineAnswer). ServesElement d old value a changes new) (sym is) serves
  kept_serves (View text) kept changes serves (inr is) =
      subst (λ (a : LineAnswer). ServesElement d old value a changes new) (sym is)
      (serves.3, inr (inr (serves.0, Ok (view.Page text), serves.1, serves.2, inr refl)))

  -- Performing an element, and keeping its answer, adds both to the report.
  pub element_kept : (answer : LineAnswer) (left : ℕ) (is_last : Bool) (list' : List ℕ)
      (before between after : EachReport) → ReportsElement d old value before.list answer list' new
      → between.list ≡ list' → between.line ≡ before.line → between.count ≡ before.count → between.end ≡ before.end
      → KeepsAnswer between answer left is_last after → ServesNext d old value left before is_last after new
  element_kept answer left is_last list' before between after r list line count summary k =
      let p = k.pushes in record {
        answer = k.kept;
        changes = r.changes;
        serves = kept_serves answer k.kept r.changes r.serves k.is_kept;
        list = p.list ∙ list ∙ r.list_is;
        line = rw (← line, ← count) p.line;
        count = rw (← count) p.count;
        summary = rw (← summary) p.summary;
        room = p.room;
        fault = p.fault;
      }
