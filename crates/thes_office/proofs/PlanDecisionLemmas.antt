-- Proves that deciding the requests of a plan one after another decides the plan, and what the tables are after a
-- commit or a refusal.
use Rattle.std.proofs.lemmas.Grind.{common_steps}
use Rattle.std.proofs.Common.{◌≡◌, ◌<◌, ◌≤◌, ◌+◌, ◌++◌, ◌∷◌, [], ◌∙◌, ℕ, suc, List, false, refl, sym, ap}
use Rattle.std.proofs.Common.{subst, take, drop, length, length-append, arith, inl}
use Rattle.std.specs.Prelude.{None, Some, slice_get, Bool, Result, Ok, Err, OnErr}
use Rattle.std.specs.List.{AllByRecursion}
use Rattle.thes_base.specs.declared.data.Limits.{Limits}
use Rattle.thes_base.specs.declared.fault.Fault.{Fault}
use Rattle.thes_base.specs.declared.fault.Refusal.{Refusal}
use Rattle.thes_base.specs.declared.request.Answer.{Answer}
use Rattle.thes_base.specs.declared.request.Answer.TheVariants as reply
use Rattle.thes_base.specs.declared.request.Command.{Command}
use Rattle.thes_base.specs.Legal.{IsLegalState}
use Rattle.thes_base.specs.Machine.{Run, Step}
use Rattle.thes_base.specs.Refusals.{AreLimits, Setting}
use Rattle.thes_base.specs.Resources.{entry_at}
use Rattle.thes_base.specs.State.{State}
use Rattle.thes_base.proofs.MachineLemmas.{legal_is_consistent}
use Rattle.thes_plans.specs.declared.plan.PlanOutcome.{PlanOutcome}
use Rattle.thes_plans.specs.declared.plan.PlanOutcome.TheVariants.{Done, Refused}
use Rattle.thes_plans.specs.declared.plan.PlanRequest.{PlanRequest}
use Rattle.thes_plans.specs.declared.plan.PlanRun.{PlanRun}
use Rattle.thes_plans.specs.declared.plan.PlanRun.TheVariants.{Perform, Try}
use Rattle.thes_plans.specs.Plans.{IsNoRefusal, PlanAccepted}
use Rattle.thes_plans.specs.Reports.{IsReported}
use Rattle.thes_plans.specs.Resolving.{resolved_command, resolved_commands}
use Rattle.thes_plans.proofs.PlanLemmas.{all_push, refused_stays, resolved_push}
use Rattle.thes_tables.specs.declared.change.Change.{Change}
use Rattle.thes_tables.specs.declared.rows.PostingRow.{PostingRow}
use Rattle.thes_tables.specs.Cells.{Raw, cells_of_tables}
use Rattle.thes_tables.specs.ChangeLaw.{AreChangesBetween}
use Rattle.thes_tables.specs.Rows.{tables_after_delta}
use Rattle.thes_tables.specs.Tables.{IsRowsOf, Tables}
use Rattle.thes_tables.proofs.CellLemmas.{listed_one}
use Rattle.thes_tables.proofs.DeltaAppendLemmas.{all_append}
use Rattle.thes_store.specs.Storage.{StorageView}
use Rattle.thes_core.specs.CoreView.{CoreView, with_histories}
use Rattle.thes_core.specs.UndoLogs.{IsLogOf, IsTakenBack, IsUndoStep, StepsLead}
use Rattle.thes_core.specs.declared.undo_log.UndoStep.{UndoStep}
use Rattle.thes_plan_postings.specs.PlanPostings.{AreNumbered, ArePlanRows}
use Rattle.thes_office.specs.declared.plan.AskedPlan.{AskedPlan}
use Rattle.thes_office.specs.declared.plan.PlanProgress.{PlanProgress}
use Rattle.thes_office.specs.Office.{ChangesNothing, IsConsistent, IsCopy, OfficeView}
use Rattle.thes_office.specs.PlanDecisions.{DecidesRequest, EndsPlan, IsDecidedInPlan, PlanDecided}
use Rattle.thes_office.specs.PlanDecisions.{PlanDecidedSoFar, PlanIsAccepted, PlanIsRefused, ReportsPlan, refusal_in}
use Rattle.thes_office.specs.Plans.{TablesAfterPlan}
use Rattle.thes_office.specs.Reports.{PlanWithChanges, ReportPlanResult, tables_after_run}
use Rattle.thes_office.specs.TablesOfState.{TablesOfState}
use Rattle.thes_office.proofs.GroupLemmas.{changes_then, no_changes}
use Rattle.thes_office.proofs.OfficeViewLemmas.{all_parts, run_push}
use Rattle.thes_office.proofs.PlanFactLemmas.{rows_numbered}
use Rattle.thes_office.proofs.StateTableLemmas.{same_tables_same_state, state_after_changes}

-- Dropping as many items as the prefix `xs` has leaves what follows this prefix.
pub drop_front : {A : Type 0} (xs ys zs : List A) (n : ℕ) → zs ≡ xs ++ ys → n ≡ length xs → drop n zs ≡ ys
drop_front {A} xs ys zs n is count = ap (λ (l : List A). drop n l) is ∙ ap (λ k. drop k (xs ++ ys)) count ∙ go xs
  where
    go : (l : List A) → drop (length l) (l ++ ys) ≡ ys
    go [] = refl
    go (x ∷ l) = go l

-- An answer in which no refusal is found isn't a refusal.
pub no_refusal : (answer : Answer) → refusal_in answer ≡ None → IsNoRefusal answer
no_refusal answer e = grind (arith, common_steps)

pub is_refusal : (answer : Answer) (r : Refusal) → refusal_in answer ≡ Some r → answer ≡ reply.No r
is_refusal answer r e = grind (arith, common_steps)

-- An empty log is a log of any core.
pub log_starts : (log : List UndoStep) (copy : CoreView) → log ≡ [] → IsLogOf log copy
log_starts log copy none = subst (λ (l : List UndoStep). IsLogOf l copy) (sym none)
    (with_histories [] copy, refl)

-- Before its first request, a plan is decided on the state of the tables.
pub plan_starts : (raw : Raw) (limits : Limits) (copy : CoreView) (done : List PlanRequest) (progress : PlanProgress)
    → IsCopy raw limits copy → done ≡ [] → progress.decided.answers.items ≡ [] → progress.decided.delta ≡ []
    → ((rows : List PostingRow) → AreNumbered rows → ArePlanRows rows rows progress.postings) → progress.log ≡ []
    → PlanDecidedSoFar raw copy.setting done progress copy
plan_starts raw limits copy done progress is none unanswered unchanged unposted unlogged = record {
  decided = record {
    state_before = is.state;
    state_after = is.state;
    shows = is.shows;
    holds = is.holds;
    accepted = subst (λ (p : List PlanRequest × List Answer). PlanAccepted copy.setting is.state p.0 p.1 is.state)
        (λ i. (sym none i, sym unanswered i)) empty;
    leads = subst (λ (l : List Change). AreChangesBetween copy.setting.base l is.state is.state) (sym unchanged)
        (no_changes copy.setting.base is.state);
    same = λ all. unchanged;
  };
  postings_are = subst (λ (l : List Change). ArePlanRows is.shows.tables.posting
      (tables_after_delta l is.shows.tables).posting progress.postings) (sym unchanged)
      (unposted is.shows.tables.posting (subst AreNumbered (sym is.shows.holds.posting)
      (rows_numbered copy.setting.base is.state is.shows.legal)));
  steps = subst (λ (l : List UndoStep). StepsLead (IsUndoStep copy.setting) is.state l is.state) (sym unlogged) refl;
}
  where
    empty : PlanAccepted copy.setting is.state [] [] is.state
    empty = record { each = refl; run = refl; accepted = tt }

-- The next request of a plan is decided in the state after those before it.
pub plan_decides : (raw mid : Raw) (setting : Setting) (done : List PlanRequest) (progress next : PlanProgress)
    (command : Command) (answer : Answer) (copy copy' : CoreView)
    → (g : PlanDecidedSoFar raw setting done progress copy) → copy.setting ≡ setting → mid ≡ raw
    → DecidesRequest mid progress next copy copy' command answer
    → IsDecidedInPlan setting g.decided.shows.tables
    (tables_after_delta progress.decided.delta g.decided.shows.tables) g.decided.state_after command answer
    progress next copy'
plan_decides raw mid setting done progress next command answer copy copy' g set same decides =
    let t = g.decided.shows.tables in
    let now = tables_after_delta progress.decided.delta t in
    subst (λ (q : Setting). IsDecidedInPlan q t now g.decided.state_after command answer progress next copy') set
    (decides t now g.decided.state_after (same ∙ g.decided.shows.rows)
    (subst (λ (q : Setting). IsRowsOf q.base g.decided.state_after now) (sym set)
    (g.decided.leads.rows t g.decided.shows.holds)) g.decided.holds g.postings_are)

-- Assumes that one more request of a plan is decided, after requests that were accepted.
module _ (raw : Raw) (setting : Setting) (done : List PlanRequest) (asked : PlanRequest) (progress next : PlanProgress)
    (answer : Answer) (copy copy' : CoreView) (g : PlanDecidedSoFar raw setting done progress copy)
    (d : IsDecidedInPlan setting g.decided.shows.tables
    (tables_after_delta progress.decided.delta g.decided.shows.tables) g.decided.state_after
    (resolved_command progress.decided.answers.items asked) answer progress next copy')
    (pushed : next.decided.answers.items ≡ progress.decided.answers.items ++ answer ∷ []) where
  abbrev answers : List Answer
  answers = progress.decided.answers.items

  accepted_more : IsNoRefusal answer → PlanAccepted setting g.decided.state_before (done ++ asked ∷ [])
      (answers ++ answer ∷ []) d.decision.decided.state_after
  accepted_more fine = record {
    each = length-append answers (answer ∷ []) ∙ ap (λ n. n + 1) g.decided.accepted.each
        ∙ sym (length-append done (asked ∷ []));
    run = subst (λ (cs : List Command). Run setting g.decided.state_before cs (answers ++ answer ∷ [])
        d.decision.decided.state_after) (sym (resolved_push [] done answers asked answer g.decided.accepted.each))
        (run_push setting (resolved_commands [] done answers) answers g.decided.state_before g.decided.state_after
        d.decision.decided.state_after (resolved_command answers asked) answer g.decided.accepted.run
        d.decision.decided.step);
    accepted = all_push IsNoRefusal answers answer g.decided.accepted.accepted fine;
  }

  leads_more : AreChangesBetween setting.base next.decided.delta g.decided.state_before d.decision.decided.state_after
  leads_more = subst (λ (l : List Change). AreChangesBetween setting.base l g.decided.state_before
      d.decision.decided.state_after) (sym d.decision.decided.more)
      (changes_then setting.base g.decided.state_before g.decided.state_after d.decision.decided.state_after
      progress.decided.delta d.decision.decided.changes g.decided.leads d.decision.decided.leads)

  pub plan_continues : (more : List PlanRequest) → more ≡ done ++ asked ∷ [] → refusal_in answer ≡ None
      → PlanDecidedSoFar raw setting more next copy'
  plan_continues more grown fine = record {
    decided = record {
      state_before = g.decided.state_before;
      state_after = d.decision.decided.state_after;
      shows = g.decided.shows;
      holds = d.decision.decided.holds;
      accepted = subst (λ (p : List PlanRequest × List Answer). PlanAccepted setting g.decided.state_before p.0 p.1
          d.decision.decided.state_after) (λ i. (sym grown i, sym pushed i)) (accepted_more (no_refusal answer fine));
      leads = leads_more;
      same = λ all.
          let parts = all_parts ChangesNothing answers (answer ∷ []) (subst (AllByRecursion ChangesNothing) pushed
          all) in
          d.decision.decided.more ∙ (λ i. g.decided.same parts.0 i ++ d.decision.decided.same parts.1.0 i);
    };
    steps = d.decision.steps g.decided.state_before g.steps;
    postings_are = subst (λ (t : Tables). ArePlanRows g.decided.shows.tables.posting t.posting next.postings)
        (sym (ap (λ (l : List Change). tables_after_delta l g.decided.shows.tables) d.decision.decided.more
        ∙ all_append progress.decided.delta d.decision.decided.changes g.decided.shows.tables)) d.postings_are;
  }

  -- If the request is refused, and those before it are taken back, the plan is refused at this request.
  pub plan_refuses : (plan : List PlanRequest) (i place : ℕ) (refusal : Refusal) (back : CoreView)
      → done ≡ take i plan → i ≡ length answers → slice_get plan i ≡ Some asked
      → place ≡ length next.decided.answers.items
      → refusal_in answer ≡ Some refusal → copy'.setting ≡ setting
      → (back.spent ≡ false → IsTakenBack next.log copy' back) → PlanIsRefused raw setting plan place refusal back
  plan_refuses plan i place refusal back is count at placed refuses set taken =
      let number : place ≡ length answers + 1 = placed ∙ ap (λ (l : List Answer). length l) pushed
      ∙ length-append answers (answer ∷ []) in
      let step : Step setting g.decided.state_after (resolved_command answers asked) (reply.No refusal)
      d.decision.decided.state_after = subst (λ (a : Answer). Step setting g.decided.state_after
      (resolved_command answers asked) a d.decision.decided.state_after) (is_refusal answer refusal refuses)
      d.decision.decided.step in
      record {
        state_before = g.decided.state_before;
        shows = g.decided.shows;
        refused = record {
          asked = asked;
          at = subst (λ k. entry_at plan k ≡ Some asked)
              (let e : suc i ≡ place = omega (arith, number, count) in e) at;
          answers = answers;
          place_is = number;
          state_before = g.decided.state_after;
          before = subst (λ (l : List PlanRequest). PlanAccepted setting g.decided.state_before l answers
              g.decided.state_after) (is ∙ ap (λ k. take k plan) count) g.decided.accepted;
          refused = subst (λ (t : State). Step setting g.decided.state_after (resolved_command answers asked)
              (reply.No refusal) t) (refused_stays setting g.decided.state_after d.decision.decided.state_after
              (resolved_command answers asked) refusal step) step;
        };
        holds = λ unspent. (taken unspent).1 g.decided.state_before d.decision.decided.state_after
            (subst (λ (q : Setting). StepsLead (IsUndoStep q) g.decided.state_before next.log
            d.decision.decided.state_after) (sym set) (d.decision.steps g.decided.state_before g.steps))
            d.decision.decided.holds;
      }

-- The outcome has these answers.
abbrev pub PlanAnswers : PlanOutcome → List Answer → Type 0
PlanAnswers (Done given) expected = given.items ≡ expected
PlanAnswers (Refused place refusal) expected = ⊥

-- Assumes that a plan is accepted and that its changes are committed.
module _ (old new : Raw) (setting : Setting) (plan : List PlanRequest) (answers : List Answer) (changes : List Change)
    (copy : CoreView) (g : PlanDecided old setting plan answers changes copy) (is : copy.setting ≡ setting)
    (made : (t : Tables) → old ≡ cells_of_tables t → new ≡ cells_of_tables (tables_after_delta changes t)) where
  shows_after : TablesOfState new setting.base g.state_after
  shows_after = state_after_changes old new setting.base g.state_before g.state_after changes g.shows g.leads
      (subst (λ (q : Setting). IsLegalState q.base g.state_after) is g.holds.legal) made

  pub plan_is_done : (outcome : PlanOutcome) → (all : PlanAnswers outcome answers)
      → TablesAfterPlan setting.limits old plan outcome new
  plan_is_done (Done given) all = record {
    base = setting.base;
    state_before = g.state_before;
    state_after = g.state_after;
    tables_before = g.shows;
    performs = subst (λ (xs : List Answer). PlanAccepted setting g.state_before plan xs g.state_after) (sym all)
        g.accepted;
    shows = shows_after;
    in_order = legal_is_consistent setting.base g.state_after shows_after.legal;
    same = λ none. made g.shows.tables g.shows.rows
        ∙ ap (λ (l : List Change). cells_of_tables (tables_after_delta l g.shows.tables))
        (g.same (subst (AllByRecursion ChangesNothing) all none))
        ∙ sym g.shows.rows;
  }
  plan_is_done (Refused place refusal) all = absurd all

  -- The rows of the tables after the plan are those before it with its changes.
  pub plan_with_changes : (outcome : PlanOutcome) → PlanAnswers outcome answers
      → PlanWithChanges setting.limits old plan outcome changes new
  unfolding plan_is_done
  plan_with_changes (Done given) all = record {
    performs = plan_is_done (Done given) all;
    rows = made g.shows.tables g.shows.rows;
    none = λ nothing. g.same (subst (AllByRecursion ChangesNothing) all nothing);
  }
  plan_with_changes (Refused place refusal) all = absurd all

  pub copy_after_plan : IsCopy new setting.limits copy
  copy_after_plan = record {
    limits_are = ap (λ (q : Setting). q.limits) is;
    state = g.state_after;
    holds = g.holds;
    shows = subst (λ (q : Setting). TablesOfState new q.base g.state_after) (sym is) shows_after;
  }

-- Assumes that a plan is refused, and that the tables are unchanged.
module _ (old new : Raw) (setting : Setting) (plan : List PlanRequest) (place : ℕ) (refusal : Refusal)
    (copy : CoreView) (g : PlanIsRefused old setting plan place refusal copy) (same : new ≡ old) where
  pub plan_is_refused : TablesAfterPlan setting.limits old plan (Refused place refusal) new
  plan_is_refused = record {
    base = setting.base;
    state_before = g.state_before;
    state_after = g.state_before;
    tables_before = g.shows;
    performs = (g.refused, refl);
    shows = same_tables_same_state old new setting.base g.state_before same g.shows;
    in_order = legal_is_consistent setting.base g.state_before g.shows.legal;
    same = λ none. same;
  }

  pub refusal_without_changes : PlanWithChanges setting.limits old plan (Refused place refusal) [] new
  unfolding plan_is_refused
  refusal_without_changes = record {
    performs = plan_is_refused;
    rows = same ∙ g.shows.rows;
    none = λ nothing. refl;
  }

  pub copy_after_refusal : copy.spent ≡ false → copy.setting ≡ setting → IsCopy new setting.limits copy
  copy_after_refusal unspent is = record {
    limits_are = ap (λ (q : Setting). q.limits) is;
    state = g.state_before;
    holds = g.holds unspent;
    shows = subst (λ (q : Setting). TablesOfState new q.base g.state_before) (sym is)
        (same_tables_same_state old new setting.base g.state_before same g.shows);
  }

-- Assumes that a plan is accepted, and then ended: its changes are committed, or it is only tried and taken back.
module _ (old mid new : StorageView) (setting : Setting) (plan : List PlanRequest) (answers : List Answer)
    (changes : List Change) (log : List UndoStep) (copy copy' : CoreView)
    (g : PlanIsAccepted old.rows setting plan answers changes log copy) (is : copy.setting ≡ setting)
    (same : mid.rows ≡ old.rows) (up : new.is_up) where
  -- The rows that a commit would leave.
  abbrev next : Raw
  next = cells_of_tables (tables_after_delta changes g.decided.shows.tables)

  made_next : (t : Tables) → old.rows ≡ cells_of_tables t → next ≡ cells_of_tables (tables_after_delta changes t)
  made_next t at = ap (λ (u : Tables). cells_of_tables (tables_after_delta changes u))
      (listed_one g.decided.shows.tables t (sym g.decided.shows.rows ∙ at))

  pub plan_ends : (run : PlanRun) → EndsPlan run mid new changes log copy copy' → (outcome : PlanOutcome)
      → PlanAnswers outcome answers → (later : Raw) × PlanWithChanges setting.limits old.rows plan outcome changes later
      × (new.rows ≡ tables_after_run run old.rows later)
  plan_ends Perform ends outcome all = (
    new.rows,
    plan_with_changes old.rows new.rows setting plan answers changes copy g.decided is
        (λ t at. ends.1 up t (same ∙ at)) outcome all,
    refl,
  )
  plan_ends Try ends outcome all = (
    next,
    plan_with_changes old.rows next setting plan answers changes copy g.decided is made_next outcome all,
    ends.1 up ∙ same,
  )

  pub copy_after_end : (run : PlanRun) → EndsPlan run mid new changes log copy copy' → copy'.spent ≡ false
      → IsCopy new.rows setting.limits copy'
  copy_after_end Perform ends unspent = subst (IsCopy new.rows setting.limits) (sym ends.0)
      (copy_after_plan old.rows new.rows setting plan answers changes copy g.decided is
      (λ t at. ends.1 up t (same ∙ at)))
  copy_after_end Try ends unspent = let back = ends.0 unspent in record {
    limits_are = ap (λ (q : Setting). q.limits) (back.0 ∙ is);
    state = g.decided.state_before;
    holds = back.1 g.decided.state_before g.decided.state_after
        (subst (λ (q : Setting). StepsLead (IsUndoStep q) g.decided.state_before log g.decided.state_after) (sym is)
        g.steps) g.decided.holds;
    shows = subst (λ (q : Setting). TablesOfState new.rows q.base g.decided.state_before) (sym (back.0 ∙ is))
        (same_tables_same_state old.rows new.rows setting.base g.decided.state_before (ends.1 up ∙ same)
        g.decided.shows);
  }

-- The tables after a plan encode a state, whether it is performed or only tried.
pub tables_after_report : (limits : Limits) (old later new : Raw) (run : PlanRun) (plan : List PlanRequest)
    (outcome : PlanOutcome) (changes : List Change) → PlanWithChanges limits old plan outcome changes later
    → new ≡ tables_after_run run old later → (base : List ℕ) × (s : State) × TablesOfState new base s
tables_after_report limits old later new Perform plan outcome changes p is = (
  p.performs.base,
  p.performs.state_after,
  same_tables_same_state later new p.performs.base p.performs.state_after is p.performs.shows,
)
tables_after_report limits old later new Try plan outcome changes p is = (
  p.performs.base,
  p.performs.state_before,
  same_tables_same_state old new p.performs.base p.performs.state_before is p.performs.tables_before,
)

-- A refused plan leaves the tables unchanged, whether it is performed or only tried.
pub refusal_leaves : (run : PlanRun) (old new : Raw) → new ≡ old → new ≡ tables_after_run run old new
refusal_leaves Perform old new same = refl
refusal_leaves Try old new same = same

-- The place of a request in its plan, counted from 1, is at least 1 and at most the length of the plan.
pub place_counts : (place n i : ℕ) → place ≡ n + 1 → n ≡ i → (plan : List PlanRequest) → i < length plan
    → (0 < place) × (place ≤ length plan)
place_counts place n i is count plan within = (omega arith, omega arith)

module _ {K : Type 0} (view : K → StorageView) where
  -- After a plan the office is consistent: its copy is stale exactly if the core is unusable.
  pub consistent_after_plan : (old new : K) (copy : CoreView) (limits own : Limits) (asked : AskedPlan)
      (outcome : PlanOutcome) (changes : List Change) → AreLimits limits
      → ReportsPlan asked (view old) (view new) own (Ok outcome) changes
      → (copy.spent ≡ false → (view new).is_up → IsCopy (view new).rows limits copy)
      → IsConsistent view new copy limits copy.spent
  consistent_after_plan old new copy limits own asked outcome changes limits_fit reports copies = record {
    limits_fit = limits_fit;
    shows = λ up. let p = reports up in tables_after_report own (view old).rows p.0 (view new).rows asked.run
        asked.requests.items outcome changes p.1 p.2;
    unspent = λ fresh. fresh;
    copies = copies;
    why = λ spent. inl spent;
  }

  -- What is reported of a plan over a reloaded copy is also so of the office before the reload.
  pub report_since : {R : Type 0} (adds : R → List Change → R → Type 0) (report report' : R) (old : OfficeView K)
      (keeper new : K) (limits own : Limits) (stale : Bool) (asked : AskedPlan) (result : Result PlanOutcome Fault)
      → limits ≡ old.limits → ((view new).is_up → own ≡ limits)
      → ((view new).is_up → (view keeper).rows ≡ (view old.keeper).rows)
      → (OnErr result ((view new).is_up → (view new).rows ≡ (view keeper).rows))
      → IsReported adds report result report' (ReportsPlan asked (view keeper) (view new) own result)
      → IsReported adds report result report' (λ changes. ReportPlanResult view old asked.run asked.requests.items
      result changes (record { keeper = new; limits = limits; stale = stale }))
  report_since adds report report' old keeper new limits own stale asked (Ok outcome) are fits same unchanged x = (
    x.0,
    x.1,
    λ up. subst (λ (p : Limits × Raw). (later : Raw) × PlanWithChanges p.0 p.1 asked.requests.items outcome x.0 later
        × ((view new).rows ≡ tables_after_run asked.run p.1 later)) (λ i. ((fits up ∙ are) i, same up i)) (x.2 up),
  )
  report_since adds report report' old keeper new limits own stale asked (Err fault) are fits same unchanged x =
      (x.0, λ up. unchanged up ∙ same up)
