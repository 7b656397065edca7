-- Proves that an office answers as the machine does in the state that its tables encode, so that it has one answer to
-- the same bytes.
use Rattle.std.proofs.Common.{◌≡◌, ◌++◌, ◌∷◌, [], ℕ, Bool, List, Result, Ok, Err, inl, inr, refl, sym, ap, subst}
use Rattle.std.proofs.Common.{Option}
use Rattle.thes_base.specs.declared.data.Limits.{Limits}
use Rattle.thes_base.specs.declared.fault.Fault.{Fault}
use Rattle.thes_base.specs.declared.request.Answer.{Answer}
use Rattle.thes_base.specs.declared.request.Command.{Command}
use Rattle.thes_base.specs.Machine.{Step}
use Rattle.thes_base.specs.Refusals.{Setting}
use Rattle.thes_base.specs.State.{State}
use Rattle.thes_base.proofs.MachineLemmas.{legal_is_consistent}
use Rattle.thes_plans.specs.declared.plan.PlanOutcome.{PlanOutcome}
use Rattle.thes_plans.specs.declared.plan.PlanRequest.{PlanRequest}
use Rattle.thes_plans.specs.Plans.{IsPlanOutcome}
use Rattle.thes_tables.specs.Cells.{Raw}
use Rattle.thes_store.specs.Storage.{StorageView}
use Rattle.thes_office.specs.Office.{OfficeView, SameTables, TablesAfterStep, setting as setting_of}
use Rattle.thes_office.specs.Plans.{TablesAfterPlan}
use Rattle.thes_office.specs.TablesOfState.{TablesOfState}
use Rattle.thes_office.proofs.StateTableLemmas.{same_tables_same_state, state_is_unique}
use Rattle.thes_office.proofs.StepLemmas.{setting_fits}
use Rattle.thes_requests.specs.declared.handler.QueryAnswer.{QueryAnswer}
use Rattle.serde_json.specs.Data.{Data}
use Rattle.thes_plans.specs.declared.plan.PlanRun.{PlanRun}
use Rattle.thes_plans.specs.declared.plan.PlanRun.TheVariants as run
use Rattle.thes_tables.specs.declared.change.Change.{Change}
use Rattle.thes_requests.specs.Serving.{RunsEach, ServesElement}
use Rattle.thes_requests.specs.declared.answer.Reply.TheVariants as reply
use Rattle.thes_requests.specs.declared.line_serving.LineAnswer.{LineAnswer}
use Rattle.thes_requests.specs.declared.line_serving.LineAnswer.TheVariants.{Reply, View, Plan}
use Rattle.thes_requests.specs.declared.request.Query.{Query}
use Rattle.thes_import.specs.Imports as importer
use Rattle.thes_posting_files.specs.declared.report.Report.{Report}
use Rattle.thes_import.proofs.OneImportLemmas.{IsImportOf, import_from_state, run_from_state}
use Rattle.thes_http.specs.declared.response.Response.{Response}
use Rattle.thes_requests.specs.declared.request.Display.{Display}
use Rattle.thes_http.specs.ServiceBehaviour.{ServiceBehaviour}
use Rattle.thes_http.specs.Serving.{Answers}
use Rattle.thes_http.specs.Server.{LeadsBy}
use Rattle.thes_service.specs.Laws.{AnswersInState, HasOneOfficeAnswer}
use Rattle.thes_service.specs.OfficeRequests.{OfficePerforms, OfficePerformsPlan, OfficeReports, OfficeReportsPlan}
use Rattle.thes_service.specs.OfficeRequests.{OfficeShows, office_requests}
use Rattle.thes_service.specs.Service.{OfficeDisplays, OfficeExports, OfficeImports, import_answer, office_behaviour}
use Rattle.thes_service.proofs.ConnectionRunLemmas.{connections_lead}
use Rattle.thes_service.proofs.MachineServiceLemmas.{ImportAnswers, machine_service, one_machine_answer}
use Rattle.thes_service.proofs.SimulationLemmas.{DoesAsMuch, answers_as_much}

-- A step between tables is one between the states that they encode.
step_between : (limits : Limits) (base : List ℕ) (s t : State) (old new : Raw) (command : Command) (answer : Answer)
    → TablesOfState old base s → TablesOfState new base t → TablesAfterStep limits old command answer new
    → Step (setting_of base limits) s command answer t
step_between limits base s t old new command answer x y step =
    let before = state_is_unique old step.base base step.state_before s step.tables_before x in
    let after = state_is_unique new step.base base step.state_after t step.shows y in
    subst (λ (p : List ℕ × State × State). Step (setting_of p.0 limits) p.1 command answer p.2)
    (λ i. (before.0 i, before.1 i, after.1 i)) step.step

-- A plan between tables is one between the states that they encode.
plan_between : (limits : Limits) (base : List ℕ) (s t : State) (old new : Raw) (plan : List PlanRequest)
    (outcome : PlanOutcome) → TablesOfState old base s → TablesOfState new base t
    → TablesAfterPlan limits old plan outcome new → IsPlanOutcome (setting_of base limits) s plan outcome t
plan_between limits base s t old new plan outcome x y after =
    let before = state_is_unique old after.base base after.state_before s after.tables_before x in
    let next = state_is_unique new after.base base after.state_after t after.shows y in
    subst (λ (p : List ℕ × State × State). IsPlanOutcome (setting_of p.0 limits) p.1 plan outcome p.2)
    (λ i. (before.0 i, before.1 i, next.1 i)) after.performs

module _ {K : Type 0} (view : K → StorageView) (takes : Bool) where
  kept_frame : (old mid : OfficeView K) → mid ≡ old
      → (mid.limits ≡ old.limits) × ((view mid.keeper).is_up → (view old.keeper).is_up)
  kept_frame old mid same = (
    ap (λ (o : OfficeView K). o.limits) same,
    λ up. subst (λ (o : OfficeView K). (view o.keeper).is_up) same up,
  )

  -- Unchanged tables encode the same state.
  unchanged : (base : List ℕ) (s : State) (old mid : OfficeView K) → (view mid.keeper).is_up
      → TablesOfState (view old.keeper).rows base s → SameTables view old mid
      → TablesOfState (view mid.keeper).rows base s
  unchanged base s old mid up x same =
      same_tables_same_state (view old.keeper).rows (view mid.keeper).rows base s (same up) x

  still : (base : List ℕ) (s : State) (old mid : OfficeView K) → TablesOfState (view old.keeper).rows base s
      → mid ≡ old → TablesOfState (view mid.keeper).rows base s
  still base s old mid x same = subst (λ (o : OfficeView K). TablesOfState (view o.keeper).rows base s) (sym same) x

  module _ (base : List ℕ) (s t : State) (old new : OfficeView K) (up : (view new.keeper).is_up)
      (x : TablesOfState (view old.keeper).rows base s) (y : TablesOfState (view new.keeper).rows base t) where
    abbrev Machine : ServiceBehaviour State
    Machine = machine_service (setting_of base old.limits) takes

    -- Unchanged tables encode the same state.
    shows_same : SameTables view old new → TablesOfState (view new.keeper).rows base s
    shows_same same = same_tables_same_state (view old.keeper).rows (view new.keeper).rows base s (same up) x

    same_state : SameTables view old new → t ≡ s
    same_state same =
        let one = state_is_unique (view new.keeper).rows base base t s y (shows_same same) in one.1

    performs : (command : Command) (result : Result Answer Fault) → OfficePerforms view old command result new
        → Machine.requests.performs s command result t
    performs command (Ok answer) does = step_between old.limits base s t (view old.keeper).rows (view new.keeper).rows
        command answer x y (does.performed up)
    performs command (Err fault) does = let behaviour = does.fault_behaviour in behaviour.fault up

    shows : (query : Query) (result : Result QueryAnswer Fault) → OfficeShows view old query result new
        → Machine.requests.shows s query result t
    shows query (Ok answer) does = (does.viewed up base s (shows_same does.same), same_state does.same)
    shows query (Err fault) does = let behaviour = does.fault_behaviour in behaviour.fault up

    performs_plan : (plan : List PlanRequest) (result : Result PlanOutcome Fault)
        → OfficePerformsPlan view old plan result new → Machine.requests.performs_plan s plan result t
    performs_plan plan (Ok outcome) does = plan_between old.limits base s t (view old.keeper).rows
        (view new.keeper).rows plan outcome x y (does.performed up)
    performs_plan plan (Err fault) does = let behaviour = does.fault_behaviour in behaviour.fault up

    reports : (command : Command) (result : Result Answer Fault) (changes : List Change)
        → OfficeReports view old command result changes new → Machine.requests.reports s command result changes t
    reports command (Ok answer) changes does = step_between old.limits base s t (view old.keeper).rows
        (view new.keeper).rows command answer x y (let r = does.with_changes up in r.step)
    reports command (Err fault) changes does = let behaviour = does.fault_behaviour in behaviour.fault up

    reports_plan : (way : PlanRun) (plan : List PlanRequest) (result : Result PlanOutcome Fault) (changes : List Change)
        → OfficeReportsPlan view old way plan result changes new
        → Machine.requests.reports_plan s way plan result changes t
    reports_plan run.Perform plan (Ok outcome) changes does =
        let r = does.with_changes up in
        let p = r.1 in (
          t,
          plan_between old.limits base s t (view old.keeper).rows (view new.keeper).rows plan outcome x y
              (subst (λ (raw : Raw). TablesAfterPlan old.limits (view old.keeper).rows plan outcome raw) (sym r.2)
              p.performs),
          refl,
        )
    reports_plan run.Try plan (Ok outcome) changes does =
        let r = does.with_changes up in
        let p = r.1 in
        let after = p.performs in
        let before = state_is_unique (view old.keeper).rows after.base base after.state_before s after.tables_before x
        in (
          after.state_after,
          plan_between old.limits base s after.state_after (view old.keeper).rows r.0 plan outcome x
              (subst (λ (b : List ℕ). TablesOfState r.0 b after.state_after) before.0 after.shows) after,
          same_state (λ u. let q = does.with_changes u in q.2),
        )
    reports_plan run.Perform plan (Err fault) changes does = let behaviour = does.fault_behaviour in behaviour.fault up
    reports_plan run.Try plan (Err fault) changes does = let behaviour = does.fault_behaviour in behaviour.fault up

    import_answers : (file : List ℕ) (answer : Option (List ℕ)) (done : Result (Option Report) (Fault × Report))
        → importer.Imports view old file done new → Ok answer ≡ import_answer done
        → ImportAnswers (setting_of base old.limits) s file answer t
    import_answers file answer (Ok done) imports reports =
        let from = import_from_state view base s file old new done x up imports in
        let one = state_is_unique (view new.keeper).rows base base from.0 t from.2 y in
        (done, subst (IsImportOf (setting_of base old.limits) s file done) one.1 from.1, reports)
    import_answers file answer (Err halted) imports reports =
        absurd (let bad : Ok answer ≡ Err halted.0 = reports in cc)

    imports : (file : List ℕ) (result : Result (Option (List ℕ)) Fault) → OfficeImports view old file result new
        → Machine.imports s file result t
    imports file (Ok answer) does = import_answers file answer does.done does.imports does.reports
    imports file (Err fault) does = let behaviour = does.fault_behaviour in behaviour.fault up

    exports : (result : Result (List ℕ) Fault) → OfficeExports view old result new → Machine.exports s result t
    exports (Ok text) does =
        let read = does.holds up base s (shows_same does.same) in (read.0, same_state does.same)
    exports (Err fault) does = let behaviour = does.fault_behaviour in behaviour.fault up

    displays : (display : Display) (scheme : ℕ) (tag : List ℕ) (result : Result QueryAnswer Fault)
        → OfficeDisplays view old display scheme tag result new → Machine.displays s display scheme tag result t
    displays display scheme tag (Ok answer) does =
        (does.holds up base s (shows_same does.same), same_state does.same)
    displays display scheme tag (Err fault) does = let behaviour = does.fault_behaviour in behaviour.fault up

  -- The storage of an office was up before an element if it is up after it, and the limits are the same.
  element_frame : (old mid : OfficeView K) (value : Data) (a : LineAnswer) (changes : List Change)
      → ServesElement (office_requests view takes) old value a changes mid
      → (mid.limits ≡ old.limits) × ((view mid.keeper).is_up → (view old.keeper).is_up)
  element_frame old mid value (Reply (reply.Answer a)) changes (inl p) =
      let f = (let r = p.2 in r.fault_behaviour) in (f.limits, f.was)
  element_frame old mid value (Reply (reply.Answer a)) changes (inr p) =
      let f = (let r = p.3 in r.fault_behaviour) in (f.limits, f.was)
  element_frame old mid value (Reply (reply.Bad f)) changes p = kept_frame old mid p.2
  element_frame old mid value (Reply (reply.Fault f)) changes (none, inl p) = kept_frame old mid p.1
  element_frame old mid value (Reply (reply.Fault f)) changes (none, inr (inl p)) =
      let g = (let r = p.2 in r.fault_behaviour) in (g.limits, g.was)
  element_frame old mid value (Reply (reply.Fault f)) changes (none, inr (inr p)) =
      let g = (let r = p.3 in r.fault_behaviour) in (g.limits, g.was)
  element_frame old mid value (View text) changes p =
      let f = (let r = p.2 in r.fault_behaviour) in (f.limits, f.was)
  element_frame old mid value (Plan r) changes p = absurd p

  -- The storage of an office was up before several requests if it is up after them.
  each_was : (values : List Data) (answers : List LineAnswer) (changes : List Change) (old new : OfficeView K)
      → RunsEach (office_requests view takes) old values answers changes new → (view new.keeper).is_up
      → (view old.keeper).is_up
  each_was [] [] changes old new r up = let frame = kept_frame old new r.1 in frame.1 up
  each_was [] (a ∷ answers) changes old new r up = absurd r
  each_was (v ∷ values) [] changes old new r up = absurd r
  each_was (v ∷ values) (a ∷ answers) changes old new (mid, first, rest, is, did, inl (sure, clear, none, same)) up =
      let frame = element_frame old mid v a first did in
      let last = kept_frame mid new same in
      frame.1 (last.1 up)
  each_was (v ∷ values) (a ∷ answers) changes old new (mid, first, rest, is, did, inr (clear, more)) up =
      let frame = element_frame old mid v a first did in
      frame.1 (each_was values answers rest mid new more up)

  -- An office serves an element as the machine does in the state that its tables encode.
  element_between : (base : List ℕ) (s : State) (old mid : OfficeView K) → (view mid.keeper).is_up
      → TablesOfState (view old.keeper).rows base s → (value : Data) (a : LineAnswer) (changes : List Change)
      → ServesElement (office_requests view takes) old value a changes mid
      → (m : State) × TablesOfState (view mid.keeper).rows base m
      × ServesElement (let machine = machine_service (setting_of base old.limits) takes in machine.requests) s value a
      changes m
  element_between base s old mid up x value (Reply (reply.Answer a)) changes (inl p) =
      let r = (let does = p.2 in does.with_changes up) in
      let step = r.step in
      let before = state_is_unique (view old.keeper).rows step.base base step.state_before s step.tables_before x in
      let rows = (view mid.keeper).rows in
      let after = subst (λ (b : List ℕ). TablesOfState rows b step.state_after) before.0 step.shows in (
        step.state_after,
        after,
        inl (p.0, p.1, reports base s step.state_after old mid up x after p.0 (Ok a) changes p.2),
      )
  element_between base s old mid up x value (Reply (reply.Answer a)) changes (inr p) =
      let y = unchanged base s old mid up x (let does = p.3 in does.same) in
      (s, y, inr (p.0, p.1, p.2, shows base s s old mid up x y p.0 _ p.3, p.4, p.5))
  element_between base s old mid up x value (Reply (reply.Bad f)) changes p =
      (s, still base s old mid x p.2, (p.0, p.1, refl))
  element_between base s old mid up x value (Reply (reply.Fault f)) changes (none, inl p) =
      (s, still base s old mid x p.1, (none, inl (p.0, refl)))
  element_between base s old mid up x value (Reply (reply.Fault f)) changes (none, inr (inl p)) =
      let y = unchanged base s old mid up x (let does = p.2 in does.with_changes) in
      (s, y, (none, inr (inl (p.0, p.1, reports base s s old mid up x y p.0 (Err f) [] p.2))))
  element_between base s old mid up x value (Reply (reply.Fault f)) changes (none, inr (inr p)) =
      let y = unchanged base s old mid up x (let does = p.3 in does.same) in
      (s, y, (none, inr (inr (p.0, p.1, p.2, shows base s s old mid up x y p.0 p.1 p.3, p.4))))
  element_between base s old mid up x value (View text) changes p =
      let y = unchanged base s old mid up x (let does = p.2 in does.same) in
      (s, y, (p.0, p.1, shows base s s old mid up x y p.0 _ p.2, p.3))
  element_between base s old mid up x value (Plan r) changes p = absurd p

  -- An office serves several requests as the machine does in the state that its tables encode.
  each_between : (base : List ℕ) (values : List Data) (answers : List LineAnswer) (changes : List Change)
      (s t : State) (old new : OfficeView K) → (view new.keeper).is_up → TablesOfState (view old.keeper).rows base s
      → TablesOfState (view new.keeper).rows base t
      → RunsEach (office_requests view takes) old values answers changes new
      → RunsEach (let machine = machine_service (setting_of base old.limits) takes in machine.requests) s values answers
      changes t
  each_between base [] [] changes s t old new up x y r =
      let one = state_is_unique (view new.keeper).rows base base t s y (still base s old new x r.1) in (r.0, one.1)
  each_between base [] (a ∷ answers) changes s t old new up x y r = absurd r
  each_between base (v ∷ values) [] changes s t old new up x y r = absurd r
  each_between base (v ∷ values) (a ∷ answers) changes s t old new up x y
      (mid, first, rest, is, did, inl (sure, clear, none, same)) =
      let last = kept_frame mid new same in
      let e = element_between base s old mid (last.1 up) x v a first did in
      let one = state_is_unique (view new.keeper).rows base base t e.0 y (still base e.0 mid new e.1 same) in
      (e.0, first, rest, is, e.2, inl (sure, clear, none, one.1))
  each_between base (v ∷ values) (a ∷ answers) changes s t old new up x y
      (mid, first, rest, is, did, inr (clear, more)) =
      let frame = element_frame old mid v a first did in
      let e = element_between base s old mid (each_was values answers rest mid new more up) x v a first did in (
        e.0,
        first,
        rest,
        is,
        e.2,
        inr (
          clear,
          subst (λ (l : Limits). RunsEach (let machine = machine_service (setting_of base l) takes in
              machine.requests) e.0 values answers rest t) frame.0
              (each_between base values answers rest e.0 t mid new up e.1 y more),
        ),
      )

  module _ (base : List ℕ) (s t : State) (old new : OfficeView K) (up : (view new.keeper).is_up)
      (x : TablesOfState (view old.keeper).rows base s) (y : TablesOfState (view new.keeper).rows base t) where
    -- An office does what the machine does between the states that its tables encode.
    pub does_as_machine : DoesAsMuch (office_behaviour view takes) (machine_service (setting_of base old.limits) takes)
        old new s t
    does_as_machine = record {
      performs = performs base s t old new up x y;
      shows = shows base s t old new up x y;
      performs_plan = performs_plan base s t old new up x y;
      reports_plan = reports_plan base s t old new up x y;
      runs_each = λ values answers changes. each_between base values answers changes s t old new up x y;
      takes_plans = refl;
      imports = imports base s t old new up x y;
      exports = exports base s t old new up x y;
      displays = displays base s t old new up x y;
      keeps = λ same. same_state base s t old new up x y (λ u. ap (λ (o : OfficeView K). (view o.keeper).rows) same);
    }

  -- The tables after a connection encode a state.
  state_after : (base : List ℕ) (s : State) (old new : OfficeView K) (r : Response) (bytes : List ℕ)
      → TablesOfState (view old.keeper).rows base s → (view new.keeper).is_up
      → Answers (office_behaviour view takes) old r new bytes
      → (t : State) × TablesOfState (view new.keeper).rows base t
  state_after base s old new r bytes x up answers =
      let leads : LeadsBy (office_behaviour view takes) 1 old new = record {
        exchanges = record { bytes = bytes; response = r } ∷ [];
        counted = refl;
        answered = (old, refl, answers);
      } in
      let reached = connections_lead view takes 1 old new
      (λ was. (base, s, x, legal_is_consistent base s x.legal)) leads in
      let run = reached.goes_on up in
      let from = run_from_state old.limits base s (view old.keeper).rows (view new.keeper).rows run.0 run.1 x run.2 in
      (from.0, from.2)

  -- An office answers as the machine does in the state that its tables encode.
  answers_as_machine : (setting : Setting) (s : State) (old new : OfficeView K) (r : Response) (bytes : List ℕ)
      → AnswersInState view takes setting s old bytes r new
      → (t : State) × TablesOfState (view new.keeper).rows setting.base t
      × Answers (machine_service setting takes) s r t bytes
  answers_as_machine setting s old new r bytes x =
      let after = state_after setting.base s old new r bytes x.shows x.is_up x.answers in
      let same = answers_as_much (office_behaviour view takes)
      (machine_service (setting_of setting.base old.limits) takes) old new s
      after.0 (does_as_machine setting.base s after.0 old new x.is_up x.shows after.1) r bytes x.answers in (
        after.0,
        after.1,
        subst (λ (l : Limits). Answers (machine_service (setting_of setting.base l) takes) s r after.0 bytes)
            x.limits same,
      )

pub one_office_answer : {K L : Type 0} (view : K → StorageView) (other : L → StorageView)
    → HasOneOfficeAnswer view other
one_office_answer view other takes setting few s old new old' new' r q bytes more x y =
    let mine = answers_as_machine view takes setting s old new r bytes x in
    let theirs = answers_as_machine other takes setting s old' new' q (bytes ++ more) y in
    let legal = (let shows = x.shows in shows.legal) in
    elim (one_machine_answer setting takes (setting_fits setting s few legal) s legal mine.0 theirs.0 r q bytes more
    mine.2
    theirs.2) [
      | inl same ↦ inl (
        same.0,
        record {
          state = mine.0;
          one = mine.1;
          other = subst (TablesOfState (other new'.keeper).rows setting.base) (sym same.1) theirs.1;
        },
      )
      | inr failed ↦ inr failed
    ]
