-- Proves that the lines of a script lead an office through a run of the machine.
use Rattle.std.proofs.Common.{◌≡◌, ◌∙◌, inl, inr, sym, refl, subst, ℕ, Bool, List, [], ◌∷◌, ◌++◌, Option, None, Some, Result, Ok, Err}
use Rattle.std.proofs.Common.{arith, codes}
use Rattle.serde_json.specs.Data.{Data}
use Rattle.thes_base.specs.declared.data.Limits.{Limits}
use Rattle.thes_base.specs.declared.fault.Fault.{Fault}
use Rattle.thes_base.specs.declared.fault.PipeFault.{PipeFault}
use Rattle.thes_base.specs.declared.request.Answer.{Answer}
use Rattle.thes_base.specs.declared.request.Command.{Command}
use Rattle.thes_base.specs.Headline.{IsConsistentState}
use Rattle.thes_base.specs.State.{State}
use Rattle.thes_plans.specs.declared.plan.PlanOutcome.{PlanOutcome}
use Rattle.thes_plans.specs.declared.plan.PlanOutcome.TheVariants.{Done, Refused}
use Rattle.thes_plans.specs.declared.plan.PlanRequest.{PlanRequest}
use Rattle.thes_plans.specs.Resolving.{resolved_commands}
use Rattle.thes_tables.specs.Cells.{Raw}
use Rattle.thes_store.specs.Storage.{StorageView}
use Rattle.thes_office.specs.Office.{FaultBehaviour, TablesAfterRun, OfficeView, SameTables, TablesAfterStep}
use Rattle.thes_office.specs.TablesOfState.{TablesOfState}
use Rattle.thes_office.proofs.OfficeViewLemmas.{run_of_one_more, run_of_more, empty_run}
use Rattle.thes_requests.specs.declared.answer.Reply.TheVariants as reply
use Rattle.thes_requests.specs.declared.line_serving.LineAnswer.{LineAnswer}
use Rattle.thes_requests.specs.declared.plan_reply.PlanReply.{PlanReply}
use Rattle.thes_requests.specs.declared.plan_reply.PlanReply.TheVariants as planned
use Rattle.thes_requests.specs.declared.line_serving.LineAnswer.TheVariants.{Reply, View, Plan}
use Rattle.thes_requests.specs.declared.script.ScriptEnd.{ScriptEnd}
use Rattle.thes_requests.specs.declared.line_serving.LineOutcome.{LineOutcome}
use Rattle.thes_requests.specs.declared.line_serving.LineOutcome.TheVariants.{Skipped, Unheld, Answered}
use Rattle.thes_requests.specs.Requests.{json_in}
use Rattle.thes_requests.specs.Script.{StepLine, RunLines, Session, EndsScript}
use Rattle.thes_plans.specs.declared.plan.PlanRun.{PlanRun}
use Rattle.thes_plans.specs.declared.plan.PlanRun.TheVariants as run
use Rattle.thes_tables.specs.declared.change.Change.{Change}
use Rattle.thes_office.specs.Plans.{TablesAfterPlan}
use Rattle.thes_requests.specs.PlanForms.{form_in, sole_member}
use Rattle.thes_requests.specs.Serving.{RunsEach, ServesArray, ServesEach, ServesElement, ServesForm, ServesPlan}
use Rattle.thes_requests.specs.Serving.{ServesReport}
use Rattle.thes_requests.specs.declared.plan_form.PlanForm.{PlanForm}
use Rattle.thes_requests.specs.declared.plan_form.PlanForm.TheVariants as form
use Rattle.thes_service.specs.OfficeRequests.{IsReachedByRun, OfficePerformsPlan, OfficeReports, OfficeReportsPlan}
use Rattle.thes_service.specs.OfficeRequests.{OfficeServes, is_always_open}
use Rattle.thes_service.specs.OfficeRequests.{office_requests}

module _ {K : Type 0} (view : K → StorageView) where
  -- Before the first line, the run is empty.
  pub led_start : (office : OfficeView K) → ((view office.keeper).is_up → (base : List ℕ) × (s : State)
      × TablesOfState (view office.keeper).rows base s × IsConsistentState base s) → IsReachedByRun view
      office office
  led_start office shows = record {
    limits = refl;
    was = λ up. up;
    later = omega arith;
    goes_on = λ up. let x = shows up in ([], [], empty_run office.limits (view office.keeper).rows x.0 x.1 x.2 x.3);
  }

  -- A call that leaves the tables unchanged leaves the run unchanged.
  pub led_same : {T : Type 0} (old mid new : OfficeView K) (result : Result T Fault) → IsReachedByRun view old mid
      → FaultBehaviour view mid new result → SameTables view mid new
      → IsReachedByRun view old new
  led_same old mid new result reached step_reached same = record {
    limits = step_reached.limits ∙ reached.limits;
    was = λ up. reached.was (step_reached.was up);
    later = omega (arith, reached.later, step_reached.later);
    goes_on = λ up. let x = reached.goes_on (step_reached.was up) in
        (x.0, x.1, subst (λ (r : Raw). TablesAfterRun old.limits (view old.keeper).rows x.0 x.1 r) (sym (same up)) x.2);
  }

  -- A request that is answered extends the run by one step.
  pub led_step : (old mid new : OfficeView K) (command : Command) (answer : Answer) → IsReachedByRun view
      old mid → FaultBehaviour view mid new (let x : Result Answer Fault = Ok answer in x)
      → ((view new.keeper).is_up → TablesAfterStep mid.limits (view mid.keeper).rows command answer
      (view new.keeper).rows)
      → IsReachedByRun view old new
  led_step old mid new command answer reached step_reached steps = record {
    limits = step_reached.limits ∙ reached.limits;
    was = λ up. reached.was (step_reached.was up);
    later = omega (arith, reached.later, step_reached.later);
    goes_on = λ up. let x = reached.goes_on (step_reached.was up) in
        let step = subst (λ (l : Limits). TablesAfterStep l (view mid.keeper).rows command answer
        (view new.keeper).rows)
        reached.limits (steps up) in (
          x.0 ++ command ∷ [],
          x.1 ++ answer ∷ [],
          run_of_one_more old.limits (view old.keeper).rows (view mid.keeper).rows
              (view new.keeper).rows x.0 x.1 command answer x.2 step,
        );
  }

  pub led_kept : (old mid new : OfficeView K) → IsReachedByRun view old mid → new ≡ mid
      → IsReachedByRun view old new
  led_kept old mid new reached same = subst (IsReachedByRun view old) (sym same) reached

  -- A run of several requests extends the run before it.
  pub led_run : {T : Type 0} (old mid new : OfficeView K) (result : Result T Fault) (commands : List Command)
      (answers : List Answer) → IsReachedByRun view old mid → FaultBehaviour view mid new result
      → ((view new.keeper).is_up → TablesAfterRun mid.limits (view mid.keeper).rows commands answers
      (view new.keeper).rows)
      → IsReachedByRun view old new
  led_run old mid new result commands answers reached fault_behaviour run = record {
    limits = fault_behaviour.limits ∙ reached.limits;
    was = λ up. reached.was (fault_behaviour.was up);
    later = omega (arith, reached.later, fault_behaviour.later);
    goes_on = λ up. let x = reached.goes_on (fault_behaviour.was up) in
        let more = subst (λ (l : Limits). TablesAfterRun l (view mid.keeper).rows commands answers
        (view new.keeper).rows)
        reached.limits (run up) in (
          x.0 ++ commands,
          x.1 ++ answers,
          run_of_more old.limits (view old.keeper).rows (view mid.keeper).rows
              (view new.keeper).rows x.0 x.1 commands answers x.2 more,
        );
  }

  -- A plan extends the run by its requests, if it is done; else it leaves the run unchanged.
  pub led_plan : (old mid new : OfficeView K) (plan : List PlanRequest) (result : Result PlanOutcome Fault)
      → OfficePerformsPlan view mid plan result new → IsReachedByRun view old mid → IsReachedByRun view old new
  led_plan old mid new plan (Ok (Done answers)) x reached = led_run old mid new _
      (resolved_commands [] plan answers.items) answers.items reached x.fault_behaviour (λ up.
      let after = x.performed up in
      let performs = after.performs in
      record {
        base = after.base;
        state_before = after.state_before;
        state_after = after.state_after;
        tables_before = after.tables_before;
        run = performs.run;
        shows = after.shows;
        in_order = after.in_order;
      })
  led_plan old mid new plan (Ok (Refused place refusal)) x reached = led_same old mid new _ reached x.fault_behaviour
      (λ up. let after = x.performed up in after.same tt)
  led_plan old mid new plan (Err fault) x reached = led_same old mid new _ reached x.fault_behaviour x.performed

  -- A command whose changes are reported extends the run by one step, or leaves it unchanged.
  led_reported : (old mid new : OfficeView K) (command : Command) (result : Result Answer Fault)
      (changes : List Change) → OfficeReports view mid command result changes new → IsReachedByRun view old mid
      → IsReachedByRun view old new
  led_reported old mid new command (Ok answer) changes x reached =
      led_step old mid new command answer reached x.fault_behaviour (λ up. let r = x.with_changes up in r.step)
  led_reported old mid new command (Err fault) changes x reached =
      led_same old mid new _ reached x.fault_behaviour x.with_changes

  -- A plan whose changes are reported extends the run by its requests, if it is done and not only tried; else it leaves
  -- the run unchanged.
  led_reported_plan : (old mid new : OfficeView K) (way : PlanRun) (plan : List PlanRequest)
      (result : Result PlanOutcome Fault) (changes : List Change)
      → OfficeReportsPlan view mid way plan result changes new → IsReachedByRun view old mid
      → IsReachedByRun view old new
  led_reported_plan old mid new run.Perform plan (Ok outcome) changes x reached =
      led_plan old mid new plan (Ok outcome) (record {
        fault_behaviour = x.fault_behaviour;
        performed = λ up. let r = x.with_changes up in
            let p = r.1 in
            subst (λ (raw : Raw). TablesAfterPlan mid.limits (view mid.keeper).rows plan outcome raw) (sym r.2)
            p.performs;
      }) reached
  led_reported_plan old mid new run.Try plan (Ok outcome) changes x reached =
      led_same old mid new _ reached x.fault_behaviour (λ up. let r = x.with_changes up in r.2)
  led_reported_plan old mid new run.Perform plan (Err fault) changes x reached =
      led_same old mid new _ reached x.fault_behaviour x.with_changes
  led_reported_plan old mid new run.Try plan (Err fault) changes x reached =
      led_same old mid new _ reached x.fault_behaviour x.with_changes

  -- A text that is read as an array extends the run, or leaves it unchanged.
  array_reached : (takes : Bool) (value : Option Data) (result : Result PlanReply Fault) (old mid new : OfficeView K)
      → ServesArray (office_requests view takes) mid value result new → IsReachedByRun view old mid
      → IsReachedByRun view old new
  array_reached takes value (Ok (planned.Bad f)) old mid new p reached = led_kept old mid new reached p.1
  array_reached takes value (Ok (planned.Done line)) old mid new p reached =
      led_plan old mid new p.0 _ p.2.1 reached
  array_reached takes value (Ok (planned.Reported report)) old mid new p reached =
      led_plan old mid new p.0 _ p.2.1 reached
  array_reached takes value (Ok (planned.Refused place refusal)) old mid new p reached =
      led_plan old mid new p.0 _ p.2.1 reached
  array_reached takes value (Err f) old mid new (inl p) reached = led_kept old mid new reached p.1
  array_reached takes value (Err f) old mid new (inr p) reached = led_plan old mid new p.0 _ p.2 reached

  -- A plan that is performed or tried, and reported, extends the run, or leaves it unchanged.
  report_reached : (takes : Bool) (way : PlanRun) (value : Data) (result : Result PlanReply Fault)
      (old mid new : OfficeView K) → ServesReport (office_requests view takes) way mid value result new
      → IsReachedByRun view old mid → IsReachedByRun view old new
  report_reached takes way value (Ok (planned.Bad f)) old mid new p reached = led_kept old mid new reached p.1
  report_reached takes way value (Ok (planned.Done line)) old mid new p reached =
      led_reported_plan old mid new way p.0 _ p.2.1 p.2.2 reached
  report_reached takes way value (Ok (planned.Reported report)) old mid new p reached =
      led_reported_plan old mid new way p.0 _ p.2.1 p.2.2 reached
  report_reached takes way value (Ok (planned.Refused place refusal)) old mid new p reached =
      led_reported_plan old mid new way p.0 _ p.2.1 p.2.2 reached
  report_reached takes way value (Err f) old mid new (inl p) reached = led_kept old mid new reached p.1
  report_reached takes way value (Err f) old mid new (inr p) reached =
      led_reported_plan old mid new way p.0 _ [] p.2 reached

  -- One of several requests extends the run, or leaves it unchanged.
  element_reached : (takes : Bool) (value : Data) (o : LineAnswer) (changes : List Change) (old mid new : OfficeView K)
      → ServesElement (office_requests view takes) mid value o changes new → IsReachedByRun view old mid
      → IsReachedByRun view old new
  element_reached takes value (Reply (reply.Answer a)) changes old mid new (inl p) reached =
      led_reported old mid new p.0 (Ok a) changes p.2 reached
  element_reached takes value (Reply (reply.Answer a)) changes old mid new (inr p) reached =
      led_same old mid new _ reached p.3.fault_behaviour p.3.same
  element_reached takes value (Reply (reply.Bad f)) changes old mid new p reached = led_kept old mid new reached p.2
  element_reached takes value (Reply (reply.Fault f)) changes old mid new (none, inl p) reached =
      led_kept old mid new reached p.1
  element_reached takes value (Reply (reply.Fault f)) changes old mid new (none, inr (inl p)) reached =
      led_reported old mid new p.0 (Err f) [] p.2 reached
  element_reached takes value (Reply (reply.Fault f)) changes old mid new (none, inr (inr p)) reached =
      led_same old mid new _ reached p.3.fault_behaviour p.3.same
  element_reached takes value (View text) changes old mid new p reached =
      led_same old mid new _ reached p.2.fault_behaviour p.2.same
  element_reached takes value (Plan r) changes old mid new p reached = absurd p

  -- Requests that are performed one after another extend the run.
  each_reached : (takes : Bool) (values : List Data) (answers : List LineAnswer) (changes : List Change)
      (old mid new : OfficeView K) → RunsEach (office_requests view takes) mid values answers changes new
      → IsReachedByRun view old mid → IsReachedByRun view old new
  each_reached takes [] [] changes old mid new r reached = led_kept old mid new reached r.1
  each_reached takes [] (a ∷ answers) changes old mid new r reached = absurd r
  each_reached takes (v ∷ values) [] changes old mid new r reached = absurd r
  each_reached takes (v ∷ values) (a ∷ answers) changes old mid new
      (o, first, rest, is, did, inl (sure, clear, none, same)) reached =
      led_kept old o new (element_reached takes v a first old mid o did reached) same
  each_reached takes (v ∷ values) (a ∷ answers) changes old mid new (o, first, rest, is, did, inr (clear, more))
      reached =
      each_reached takes values answers rest old o new more (element_reached takes v a first old mid o did reached)

  items_reached : (takes : Bool) (value : Data) (result : Result PlanReply Fault) (old mid new : OfficeView K)
      → ServesEach (office_requests view takes) mid value result new → IsReachedByRun view old mid
      → IsReachedByRun view old new
  items_reached takes value (Ok (planned.Bad f)) old mid new p reached = led_kept old mid new reached p.2
  items_reached takes value (Ok (planned.Done line)) old mid new p reached = absurd p
  items_reached takes value (Ok (planned.Reported report)) old mid new p reached =
      each_reached takes p.0 p.1 p.2 old mid new p.4 reached
  items_reached takes value (Ok (planned.Refused place refusal)) old mid new p reached = absurd p
  items_reached takes value (Err f) old mid new p reached = led_kept old mid new reached p.1

  form_reached : (takes : Bool) (which : PlanForm) (value : Data) (result : Result PlanReply Fault)
      (old mid new : OfficeView K) → ServesForm (office_requests view takes) which mid value result new
      → IsReachedByRun view old mid → IsReachedByRun view old new
  form_reached takes form.Array value result old mid new p reached =
      array_reached takes (Some value) result old mid new p reached
  form_reached takes form.Perform value result old mid new p reached =
      report_reached takes run.Perform (sole_member (codes "perform") value) result old mid new p reached
  form_reached takes form.Try value result old mid new p reached =
      report_reached takes run.Try (sole_member (codes "try") value) result old mid new p reached
  form_reached takes form.Each value result old mid new p reached =
      items_reached takes (sole_member (codes "each") value) result old mid new p reached

  -- A text that is read as several requests extends the run, or leaves it unchanged.
  pub plan_reached : (takes : Bool) (value : Option Data) (result : Result PlanReply Fault) (old mid new : OfficeView K)
      → ServesPlan (office_requests view takes) mid value result new → IsReachedByRun view old mid
      → IsReachedByRun view old new
  plan_reached takes None result old mid new p reached = array_reached takes None result old mid new p reached
  plan_reached takes (Some value) result old mid new p reached =
      form_reached takes (form_in value) value result old mid new p reached

  line_reached : (takes : Bool) (line : List ℕ) (o : LineAnswer) (old mid new : OfficeView K)
      → OfficeServes view takes mid
      line o new → IsReachedByRun view old mid → IsReachedByRun view old new
  line_reached takes line (Reply (reply.Answer a)) old mid new (other, inl p) reached =
      led_step old mid new p.0 a reached
      p.2.fault_behaviour
      p.2.performed
  line_reached takes line (Reply (reply.Answer a)) old mid new (other, inr p) reached = led_same old mid new _ reached
      p.3.fault_behaviour
      p.3.same
  line_reached takes line (Reply (reply.Bad f)) old mid new p reached = led_kept old mid new reached p.2
  line_reached takes line (Reply (reply.Fault f)) old mid new (inl p) reached = led_kept old mid new reached p.1
  line_reached takes line (Reply (reply.Fault f)) old mid new (inr (inl p)) reached =
      led_same old mid new _ reached p.2.fault_behaviour p.2.performed
  line_reached takes line (Reply (reply.Fault f)) old mid new (inr (inr (inl p))) reached =
      led_same old mid new _ reached p.2.fault_behaviour p.2.same
  line_reached takes line (Reply (reply.Fault f)) old mid new (inr (inr (inr p))) reached =
      plan_reached takes (json_in line) (Err f) old mid new p.1 reached
  line_reached takes line (Plan answer) old mid new p reached =
      plan_reached takes (json_in line) (Ok answer) old mid new p.1 reached
  line_reached takes line (View text) old mid new p reached = led_same old mid new _ reached p.3.fault_behaviour
      p.3.same

  -- A line extends the run, or leaves it unchanged.
  pub step_reached : (takes : Bool) (line : List ℕ) (f : LineOutcome) (old mid new : OfficeView K)
      → StepLine (OfficeServes view takes) mid line f new → IsReachedByRun view old mid
      → IsReachedByRun view old new
  step_reached takes line Skipped old mid new p reached = led_kept old mid new reached p.1
  step_reached takes line Unheld old mid new p reached = led_kept old mid new reached p
  step_reached takes line (Answered o) old mid new p reached = line_reached takes line o old mid new p.1 reached

  -- Lines extend the run.
  pub lines_reached : (takes : Bool) (lines : List (List ℕ)) (line_outcomes : List LineOutcome)
      (old mid new : OfficeView K) → RunLines (OfficeServes view takes) mid lines line_outcomes new
      → IsReachedByRun view old
      mid → IsReachedByRun view old new
  lines_reached takes [] [] old mid new r so_far = led_kept old mid new so_far r
  lines_reached takes [] (f ∷ line_outcomes) old mid new r so_far = absurd r
  lines_reached takes (line ∷ more) [] old mid new r so_far = absurd r
  lines_reached takes (line ∷ more) (f ∷ line_outcomes) old mid new r so_far = lines_reached takes more line_outcomes
      old r.0 new r.2
      (step_reached takes line f old mid r.0 r.1 so_far)

  -- A script is a run of the machine, whether or not a fault stopped it.
  pub script_leads : (takes : Bool) {R W : Type 0} (remaining : R → Option (List ℕ)) (contents : W → Option (List ℕ))
      (result : Result ScriptEnd PipeFault) (old new : Session R W (OfficeView K))
      → ((view old.handler.keeper).is_up → (base : List ℕ) × (s : State)
      × TablesOfState (view old.handler.keeper).rows base s
      × IsConsistentState base s)
      → EndsScript remaining contents (OfficeServes view takes) is_always_open old new result
      → IsReachedByRun view old.handler new.handler
  script_leads takes remaining contents (Ok ended) old new shows ends = let l = ends.lines in
      lines_reached takes _ ends.line_outcomes old.handler old.handler new.handler l.run (led_start old.handler shows)
  script_leads takes remaining contents (Err fault) old new shows ends = let l = ends.lines in
      lines_reached takes _ ends.line_outcomes old.handler old.handler new.handler l.run (led_start old.handler shows)
