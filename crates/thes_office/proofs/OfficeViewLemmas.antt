-- Proves the effect of each call of an office on the tables, and that the call keeps the invariant
-- of the office.
use Rattle.std.proofs.lemmas.Grind.{common_steps}
use Rattle.std.proofs.Common.{◌≡◌, ◌⊎◌, ◌++◌, ◌∷◌, [], ℕ, List, Bool, true, false, refl, sym, ap, subst, ◌∙◌, inl, inr}
use Rattle.std.proofs.Common.{append_assoc, append-nil, length, arith, ◌<◌, ◌≤◌, length-append}
use Rattle.std.specs.Prelude.{Result, Ok, Err}
use Rattle.std.specs.Borrow.{Bor}
use Rattle.std.specs.List.{AllByRecursion}
use Rattle.thes_base.specs.declared.data.Limits.{Limits}
use Rattle.thes_base.specs.declared.fault.Fault.{Fault}
use Rattle.thes_base.specs.declared.fault.Fault.TheVariants as faults
use Rattle.thes_base.specs.declared.request.Answer.{Answer}
use Rattle.thes_base.specs.declared.request.Command.{Command}
use Rattle.thes_base.specs.Headline.{IsConsistentState}
use Rattle.thes_base.specs.Machine.{Run, Step}
use Rattle.thes_base.specs.Refusals.{Setting, AreLimits}
use Rattle.thes_base.specs.State.{State}
use Rattle.thes_base.proofs.MachineLemmas.{legal_is_consistent}
use Rattle.thes_tables.specs.Cells.{Raw}
use Rattle.thes_core.specs.CoreView as core
use Rattle.thes_store.specs.Causes.{HasCause, IsCounted}
use Rattle.thes_store.specs.Storage.{StorageView}
use Rattle.thes_load_rules.specs.Verdicts.{HasVerdict}
use Rattle.thes_office.specs.QueryFrames.{LoadFrame}
use Rattle.thes_office.specs.Office.{ChangesNothing, FaultBehaviour, TablesAfterRun, IsConsistent, IsCopy, OfficeView}
use Rattle.thes_office.specs.Office.{OfficeQueryFrame, PerformResult, CompleteRun, PartialRun, ReadyResult}
use Rattle.thes_office.specs.Office.{TablesAfterStep, setting}
use Rattle.thes_office.specs.TablesOfState.{TablesOfState}
use Rattle.thes_office.proofs.StateTableLemmas.{faulty_has_no_state, state_is_unique, same_tables_same_state}
use Rattle.thes_office.proofs.StepLemmas.{copies_over}

-- A run without requests leaves the tables unchanged.
pub empty_run : (limits : Limits) (raw : Raw) (base : List ℕ) (s : State) → TablesOfState raw base s
    → IsConsistentState base s → TablesAfterRun limits raw [] [] raw
empty_run limits raw base s shows in_order = record {
  base = base;
  state_before = s;
  state_after = s;
  tables_before = shows;
  run = refl;
  shows = shows;
  in_order = in_order;
}

-- The count of failures never decreases.
pub never_falls : {T : Type 0} (before now : ℕ) (result : Result T Fault) → HasCause before now result → before ≤ now
never_falls before now result cause = grind (arith, common_steps)

-- After a Store fault, the count of failures isn't zero.
pub has_failed : (before now : ℕ) (fault : Fault) → IsCounted before now fault → fault ≡ faults.Store → 0 < now
has_failed before now fault h is = grind (arith, common_steps)

module _ {K : Type 0} (view : K → StorageView) where
  -- A load establishes the invariant, with a copy that isn't stale.
  pub consistent_after_load : (old new : K) (copy : core.CoreView) (limits : Limits) → AreLimits limits → copy.spent
      ≡ false → ((view new).is_up → IsCopy (view old).rows limits copy) → ((view new).is_up → (view new).rows
      ≡ (view old).rows)
      → IsConsistent view new copy limits false
  consistent_after_load old new copy limits limits_fit unspent copies same = record {
    limits_fit = limits_fit;
    shows = λ up. let is = here up in (copy.setting.base, is.state, is.shows);
    unspent = λ e. unspent;
    copies = λ e. here;
    why = λ e. absurd (cc);
  }
    where
      here : (view new).is_up → IsCopy (view new).rows limits copy
      here up = copies_over (view old).rows (view new).rows limits copy (same up) (copies up)

  -- A call that changes neither the tables nor the copy keeps the invariant.
  pub consistent_after_query : (old new : K) (copy : core.CoreView) (limits : Limits) (stale stale' : Bool)
      → IsConsistent view old copy limits stale → (view old).failures ≤ (view new).failures
      → (stale' ≡ true → (stale ≡ true) ⊎ (0 < (view new).failures)) → (stale' ≡ false → stale ≡ false)
      → ((view new).is_up → (view old).is_up) → ((view new).is_up → (view new).rows ≡ (view old).rows)
      → IsConsistent view new copy limits
      stale'
  consistent_after_query old new copy limits stale stale' kept later cause fresh was same = record {
    limits_fit = kept.limits_fit;
    shows = λ up. let x = kept.shows (was up) in
        (x.0, x.1, same_tables_same_state (view old).rows (view new).rows x.0 x.1 (same up) x.2);
    unspent = λ e. kept.unspent (fresh e);
    copies = λ e up. copies_over (view old).rows (view new).rows limits copy (same up) (kept.copies (fresh e) (was up));
    why = λ e. so (cause e);
  }
    where
      still : (copy.spent ≡ true) ⊎ (0 < (view old).failures) → (copy.spent ≡ true) ⊎ (0 < (view new).failures)
      still (inl spent) = inl spent
      still (inr once) = inr (omega (arith, once, later))

      so : (stale ≡ true) ⊎ (0 < (view new).failures) → (copy.spent ≡ true) ⊎ (0 < (view new).failures)
      so (inl e) = still (kept.why e)
      so (inr once) = inr once

  -- A load that fails has run out of memory or reports a Store fault, since the tables encode a
  -- state.
  pub frame_of_load_fault : (old new : K) (copy : core.CoreView) (limits : Limits) (stale : Bool) (fault : Fault)
      (office_view : OfficeView K) → LoadFrame (view old) (view new) (let x : Result core.CoreView Fault =
      Err fault in x)
      → ((view new).is_up → (fault ≡ faults.OutOfMemory) ⊎ ((fault ≡ faults.Store)
      ⊎ HasVerdict (view old).rows (Err fault)))
      → IsConsistent view old copy limits stale → stale ≡ true
      → record { keeper = old; limits = limits; stale = stale } ≡ office_view
      → OfficeQueryFrame view office_view (record { keeper = new; limits = limits; stale = stale })
      (let x : Result (Unit {0}) Fault = Err fault in x)
  frame_of_load_fault old new copy limits stale fault office_view read none kept is same =
      subst (λ (d : OfficeView K). OfficeQueryFrame view d
      (record { keeper = new; limits = limits; stale = stale }) (let x : Result (Unit {0}) Fault = Err fault in
      x)) same
      record {
        fault_behaviour = record {
          limits = refl;
          was = read.was;
          later = read.later;
          count = tt;
          store = read.store;
          other_faults = read.other_faults;
          stale = λ e. is;
          fault = λ up. only up (none up);
        };
        same = read.same;
        fresh = tt;
      }
    where
      only : (view new).is_up → (fault ≡ faults.OutOfMemory) ⊎ ((fault ≡ faults.Store)
          ⊎ HasVerdict (view old).rows (Err fault))
          → (fault ≡ faults.OutOfMemory) ⊎ (fault ≡ faults.Store)
      only up (inl e) = inl e
      only up (inr (inl e)) = inr e
      only up (inr (inr faulty)) = let x = kept.shows (read.was up) in
          absurd (faulty_has_no_state (view old).rows fault faulty x.0 x.1 x.2)

  -- The fault behaviour of a call that succeeds doesn't depend on the value that the call returns.
  pub behaviour_with_value : {A B : Type 0} (old new : OfficeView K) (a : A) (b : B) → FaultBehaviour view old new
      (let x : Result A Fault = Ok a in x) → FaultBehaviour view old new (let x : Result B Fault = Ok b in x)
  behaviour_with_value old new a b fault_behaviour = grind (arith, common_steps)

  -- After a reload, `ready` returns a current copy.
  pub ready_core : (old : OfficeView K) (keeper : K) (copy : core.CoreView) (limits : Limits) (stale : Bool)
      (office_view : OfficeView K) (lent : Bor core.CoreView) → IsConsistent view keeper copy limits
      stale → record { keeper = keeper; limits = limits; stale = stale } ≡ office_view
      → OfficeQueryFrame view old office_view (let x : Result (Unit {0}) Fault = Ok tt in x) → lent.now ≡ copy
      → ReadyResult view old (Ok lent) (record { keeper = keeper; limits = limits; stale = stale })
  ready_core old keeper copy limits stale office_view lent kept is frame lends =
      subst (ReadyResult view old (Ok lent)) (sym is) record {
        fault_behaviour = behaviour_with_value old office_view tt lent frame.fault_behaviour;
        same = frame.same;
        fresh = frame.fresh;
        shown = record {
          unspent = ap (λ (k : core.CoreView). k.spent) lends ∙ kept.unspent now;
          copies = λ up.
              subst (λ (d : OfficeView K). IsCopy (view d.keeper).rows d.limits lent.now) is
              (subst (λ (k : core.CoreView). IsCopy (view keeper).rows limits k) (sym lends)
              (kept.copies now (subst (λ (d : OfficeView K). (view d.keeper).is_up) (sym is) up)));
        };
      }
    where
      now : stale ≡ false
      now = ap (λ (d : OfficeView K). d.stale) is ∙ frame.fresh

-- A property of all elements of two joined lists holds for all elements of each.

pub all_parts : {X : Type 0} (P : X → Type 0) (xs ys : List X) → AllByRecursion P (xs ++ ys) → AllByRecursion P xs
    × AllByRecursion P ys
all_parts P [] ys all = (tt, all)
all_parts P (x ∷ xs) ys all = let rest = all_parts P xs ys all.1 in ((all.0, rest.0), rest.1)

pub run_push : (s : Setting) (commands : List Command) (answers : List Answer) (a b c : State) (command : Command)
    (answer : Answer) → Run s a commands answers b → Step s b command answer c → Run s a (commands ++ command ∷ [])
    (answers ++ answer ∷ []) c
run_push s [] [] a b c command answer run step = (c, subst (λ (x : State). Step s x command answer c) run step, refl)
run_push s [] (x ∷ answers) a b c command answer run step = absurd run
run_push s (x ∷ commands) [] a b c command answer run step = absurd run
run_push s (x ∷ commands) (y ∷ answers) a b c command answer run step =
    (run.0, run.1, run_push s commands answers run.0 b c command answer run.2 step)

-- A run followed by one more request is a run.
pub run_of_one_more : (limits : Limits) (first mid last : Raw) (commands : List Command) (answers : List Answer)
    (command : Command) (answer : Answer) → TablesAfterRun limits first commands answers mid → TablesAfterStep limits
    mid command answer last → TablesAfterRun limits first (commands ++ command ∷ []) (answers ++ answer ∷ []) last
run_of_one_more limits first mid last commands answers command answer run step =
    let one = state_is_unique mid step.base run.base step.state_before run.state_after step.tables_before run.shows in
    let shows = subst (λ (b : List ℕ). TablesOfState last b step.state_after) one.0 step.shows in
    record {
      base = run.base;
      state_before = run.state_before;
      state_after = step.state_after;
      tables_before = run.tables_before;
      run = run_push (setting run.base limits) commands answers run.state_before run.state_after step.state_after
          command answer run.run
          (subst (λ (p : List ℕ × State). Step (setting p.0 limits) p.1 command answer step.state_after)
          (λ i. (one.0 i, one.1 i)) step.step);
      shows = shows;
      in_order = legal_is_consistent run.base step.state_after shows.legal;
    }

run_on : (s : Setting) (commands : List Command) (answers : List Answer) (more : List Command) (further : List Answer)
    (a b c : State) → Run s a commands answers b → Run s b more further c → Run s a (commands ++ more)
    (answers ++ further) c
run_on s [] [] more further a b c run rest = subst (λ (x : State). Run s x more further c) run rest
run_on s [] (x ∷ answers) more further a b c run rest = absurd run
run_on s (x ∷ commands) [] more further a b c run rest = absurd run
run_on s (x ∷ commands) (y ∷ answers) more further a b c run rest =
    (run.0, run.1, run_on s commands answers more further run.0 b c run.2 rest)

-- Two runs over the tables, one after another, are one run.
pub run_of_more : (limits : Limits) (first mid last : Raw) (commands : List Command) (answers : List Answer)
    (more : List Command) (further : List Answer) → TablesAfterRun limits first commands answers mid
    → TablesAfterRun limits mid more further last → TablesAfterRun limits first (commands ++ more)
    (answers ++ further) last
run_of_more limits first mid last commands answers more further x y =
    let one = state_is_unique mid y.base x.base y.state_before x.state_after y.tables_before x.shows in record {
      base = x.base;
      state_before = x.state_before;
      state_after = y.state_after;
      tables_before = x.tables_before;
      run = run_on (setting x.base limits) commands answers more further x.state_before x.state_after y.state_after
          x.run
          (subst (λ (p : List ℕ × State). Run (setting p.0 limits) p.1 more further y.state_after)
          (λ i. (one.0 i, one.1 i)) y.run);
      shows = subst (λ (b : List ℕ). TablesOfState last b y.state_after) one.0 y.shows;
      in_order = subst (λ (b : List ℕ). IsConsistentState b y.state_after) one.0 y.in_order;
    }

module _ {K : Type 0} (view : K → StorageView) where
  -- A request that is answered is a complete run.
  pub one_completes : (old new : OfficeView K) (before last : List Answer) (command : Command) (answer : Answer)
      → PerformResult view old command (Ok answer) new → last ≡ before ++ answer ∷ []
      → CompleteRun view old (command ∷ []) before last new
  one_completes old new before last command answer performed pushed = record {
    answers = answer ∷ [];
    each = refl;
    kept = pushed;
    goes_on = λ up. let step = performed up in record {
      base = step.base;
      state_before = step.state_before;
      state_after = step.state_after;
      tables_before = step.tables_before;
      run = (step.state_after, step.step, refl);
      shows = step.shows;
      in_order = legal_is_consistent step.base step.state_after step.shows.legal;
    };
    same = λ up all. (performed up).same all.0;
  }

  -- A call that makes the copy unusable, and leaves the tables unchanged, keeps the invariant.
  pub consistent_when_spent : (old new : K) (copy copy' : core.CoreView) (limits : Limits) (stale : Bool)
      → IsConsistent view old copy limits stale → ((view new).is_up → (view old).is_up)
      → ((view new).is_up → (view new).rows ≡ (view old).rows) → copy'.spent ≡ true
      → IsConsistent view new copy' limits true
  consistent_when_spent old new copy copy' limits stale kept was same spent = record {
    limits_fit = kept.limits_fit;
    shows = λ up. let x = kept.shows (was up) in
        (x.0, x.1, same_tables_same_state (view old).rows (view new).rows x.0 x.1 (same up) x.2);
    unspent = λ e. absurd (cc);
    copies = λ e. absurd (cc);
    why = λ e. inl spent;
  }

  -- The progress of a run: the requests done, those that are left, and the answers.
  pub record RunSoFar (old now : OfficeView K) (commands rest : List Command) (before after : List Answer) : Type
      0 where
    pub limits : now.limits ≡ old.limits
    pub was : (view now.keeper).is_up → (view old.keeper).is_up
    pub count : (view now.keeper).failures ≡ (view old.keeper).failures
    pub commands_done : List Command
    pub all : commands ≡ commands_done ++ rest
    pub given : List Answer
    pub each : length given ≡ length commands_done
    pub kept : after ≡ before ++ given
    pub goes_on : (view now.keeper).is_up → TablesAfterRun old.limits (view old.keeper).rows commands_done given
        (view now.keeper).rows
    pub same : (view now.keeper).is_up → AllByRecursion ChangesNothing given → (view now.keeper).rows
        ≡ (view old.keeper).rows

  -- Before the first request, the progress is that of no requests.
  pub run_starts : (keeper : K) (copy : core.CoreView) (limits : Limits) (stale : Bool) (office_view : OfficeView K)
      (commands : List Command) (before : List Answer) → IsConsistent view keeper copy limits stale
      → record { keeper = keeper; limits = limits; stale = stale } ≡ office_view → RunSoFar office_view office_view
      commands commands before before
  run_starts keeper copy limits stale office_view commands before consistent is =
      subst (λ (d : OfficeView K). RunSoFar d d commands commands before before) is record {
        limits = refl;
        was = λ up. up;
        count = refl;
        commands_done = [];
        all = refl;
        given = [];
        each = refl;
        kept = sym (append-nil before);
        goes_on = λ up. let x = consistent.shows up in empty_run limits (view keeper).rows x.0 x.1 x.2
            (legal_is_consistent x.0 x.1 x.2.legal);
        same = λ up all. refl;
      }

  -- A complete run of the next requests extends the progress by them.
  pub run_continues : (old mid new : OfficeView K) (commands rest prefix later : List Command)
      (before after last : List Answer) → RunSoFar old mid commands rest before after
      → FaultBehaviour view mid new (let x : Result (Unit {0}) Fault = Ok tt in x)
      → CompleteRun view mid prefix after last new → rest ≡ prefix ++ later
      → RunSoFar old new commands later before last
  run_continues old mid new commands rest prefix later before after last r fault_behaviour x split = record {
    limits = fault_behaviour.limits ∙ r.limits;
    was = λ up. r.was (fault_behaviour.was up);
    count = fault_behaviour.count ∙ r.count;
    commands_done = r.commands_done ++ prefix;
    all = r.all ∙ ap (λ (l : List Command). r.commands_done ++ l) split
        ∙ sym (append_assoc r.commands_done prefix later);
    given = r.given ++ x.answers;
    each = let a = length-append r.given x.answers in let b = length-append r.commands_done prefix in
        omega (arith, a, b, r.each, x.each);
    kept = x.kept ∙ ap (λ (l : List Answer). l ++ x.answers) r.kept ∙ append_assoc before r.given x.answers;
    goes_on = λ up. run_of_more old.limits (view old.keeper).rows (view mid.keeper).rows
        (view new.keeper).rows r.commands_done
        r.given prefix x.answers (r.goes_on (fault_behaviour.was up))
        (subst (λ (l : Limits). TablesAfterRun l (view mid.keeper).rows prefix x.answers (view new.keeper).rows)
        r.limits (x.goes_on up));
    same = λ up all. let parts = all_parts ChangesNothing r.given x.answers all in
        x.same up parts.1 ∙ r.same (fault_behaviour.was up) parts.0;
  }

  -- The progress after the last request is a complete run.
  pub run_completes : (old now : OfficeView K) (commands rest : List Command) (before after : List Answer)
      → RunSoFar old now commands rest before after → length rest ≡ 0
      → CompleteRun view old commands before after now
  run_completes old now commands rest before after r none = grind (arith, common_steps, append-nil)

  -- A fault before a request makes the progress a partial run.
  pub run_stops : (old now last : OfficeView K) (commands rest : List Command) (before after told : List Answer)
      → 0 < length rest → RunSoFar old now commands rest before after → ((view last.keeper).is_up
      → (view now.keeper).is_up)
      → ((view last.keeper).is_up → (view last.keeper).rows ≡ (view now.keeper).rows) → told ≡ after
      → PartialRun view old commands
      before told last
  run_stops old now last commands rest before after told more r was same is = grind (arith, common_steps)
