-- The laws of lists of requests and plans.
use Rattle.std.proofs.Common.{◌≡◌, ◌∷◌, [], ◌∙◌, List, refl, sym, ap, ap₂, subst, arith, inl, inr}
use Rattle.thes_base.specs.declared.request.Answer.{Answer}
use Rattle.thes_base.specs.Legal.{IsLegalState}
use Rattle.thes_base.specs.Refusals.{IsSetting, Setting}
use Rattle.thes_base.specs.State.{State}
use Rattle.thes_base.proofs.MachineLemmas.{legal_is_consistent, step_legal}
use Rattle.thes_base.proofs.OutcomeLemmas.{some_outcome}
use Rattle.thes_plans.specs.declared.plan.PlanRequest.{PlanRequest}
use Rattle.thes_plans.specs.Entries.{Entry, EntryOutcome, SingleRequest, WholePlan, SingleAnswer, PlanAnswers, PlanRefusal}
use Rattle.thes_plans.specs.Entries.{EntryStep, EntriesRun}
use Rattle.thes_plans.specs.Laws.{EntryHasForms, EntriesHaveForms, EntriesKeepLegal, OneListOfOutcomes}
use Rattle.thes_plans.specs.Laws.{PlanHasForms, SomeListOfOutcomes}
use Rattle.thes_plans.specs.Plans.{PlanAccepted}
use Rattle.thes_plans.proofs.PlanLawLemmas.{run_legal}
use Rattle.thes_plans.proofs.PlanOutcomeLemmas.{one_step, runs_agree, done_or_refused, refusals_agree, some_plan_outcome}

module _ (setting : Setting) (fit : IsSetting setting) where
  entry_legal : (s t : State) (entry : Entry) (outcome : EntryOutcome) → EntryHasForms entry
      → IsLegalState setting.base s → EntryStep setting s entry outcome t → IsLegalState setting.base t
  entry_legal s t (SingleRequest command) (SingleAnswer answer) forms legal step =
      step_legal setting fit s t command answer forms legal step
  entry_legal s t (WholePlan plan) (PlanAnswers answers) forms legal step =
      run_legal setting fit [] plan answers s t forms legal step.run
  entry_legal s t (WholePlan plan) (PlanRefusal place refusal) forms legal step =
      subst (IsLegalState setting.base) (sym step.1) legal
  entry_legal s t (SingleRequest command) (PlanAnswers answers) forms legal step = absurd step
  entry_legal s t (SingleRequest command) (PlanRefusal place refusal) forms legal step = absurd step
  entry_legal s t (WholePlan plan) (SingleAnswer answer) forms legal step = absurd step

  entries_legal : (s t : State) (entries : List Entry) (outcomes : List EntryOutcome) → EntriesHaveForms entries
      → IsLegalState setting.base s → EntriesRun setting s entries outcomes t → IsLegalState setting.base t
  entries_legal s t [] [] forms legal run = subst (IsLegalState setting.base) (sym run) legal
  entries_legal s t [] (outcome ∷ outcomes) forms legal run = absurd run
  entries_legal s t (entry ∷ entries) [] forms legal run = absurd run
  entries_legal s t (entry ∷ entries) (outcome ∷ outcomes) forms legal run = entries_legal run.0 t entries outcomes
      forms.1 (entry_legal s run.0 entry outcome forms.0 legal run.1) run.2

  -- An accepted plan has at most one list of answers, and at most one state after it.
  one_acceptance : (s t u : State) (plan : List PlanRequest) (xs ys : List Answer) → PlanHasForms plan
      → IsLegalState setting.base s → PlanAccepted setting s plan xs t → PlanAccepted setting s plan ys u
      → (xs ≡ ys) × (t ≡ u)
  one_acceptance s t u plan xs ys forms legal x y =
      let e = x.each in
      let f = y.each in
      runs_agree setting fit [] plan xs ys s t u forms legal (omega (arith, e, f)) (omega (arith, e)) x.run y.run

  -- An entry has at most one outcome, and at most one state after it.
  one_entry : (s t u : State) (entry : Entry) (x y : EntryOutcome) → EntryHasForms entry
      → IsLegalState setting.base s → EntryStep setting s entry x t → EntryStep setting s entry y u
      → (x ≡ y) × (t ≡ u)
  one_entry s t u (SingleRequest command) (SingleAnswer a) (SingleAnswer b) forms legal x y =
      let one = one_step setting fit s t u command a b legal x y in (ap SingleAnswer one.0, one.1)
  one_entry s t u (WholePlan plan) (PlanAnswers xs) (PlanAnswers ys) forms legal x y =
      let one = one_acceptance s t u plan xs ys forms legal x y in (ap PlanAnswers one.0, one.1)
  one_entry s t u (WholePlan plan) (PlanAnswers xs) (PlanRefusal place r) forms legal x y =
      absurd (done_or_refused setting fit s plan forms legal xs t place r x y.0)
  one_entry s t u (WholePlan plan) (PlanRefusal place r) (PlanAnswers ys) forms legal x y =
      absurd (done_or_refused setting fit s plan forms legal ys u place r y x.0)
  one_entry s t u (WholePlan plan) (PlanRefusal place r) (PlanRefusal other q) forms legal x y =
      let one = refusals_agree setting fit s plan forms legal place other r q x.0 y.0 in
      (ap₂ PlanRefusal one.0 one.1, x.1 ∙ sym y.1)
  one_entry s t u (SingleRequest command) (PlanAnswers xs) y forms legal step other = absurd step
  one_entry s t u (SingleRequest command) (PlanRefusal place r) y forms legal step other = absurd step
  one_entry s t u (SingleRequest command) (SingleAnswer a) (PlanAnswers ys) forms legal step other = absurd other
  one_entry s t u (SingleRequest command) (SingleAnswer a) (PlanRefusal place r) forms legal step other = absurd other
  one_entry s t u (WholePlan plan) (SingleAnswer a) y forms legal step other = absurd step
  one_entry s t u (WholePlan plan) (PlanAnswers xs) (SingleAnswer b) forms legal step other = absurd other
  one_entry s t u (WholePlan plan) (PlanRefusal place r) (SingleAnswer b) forms legal step other = absurd other

  one_run : (s t u : State) (entries : List Entry) (xs ys : List EntryOutcome) → EntriesHaveForms entries
      → IsLegalState setting.base s → EntriesRun setting s entries xs t → EntriesRun setting s entries ys u
      → (xs ≡ ys) × (t ≡ u)
  one_run s t u [] [] [] forms legal x y = (refl, x ∙ sym y)
  one_run s t u [] (x ∷ xs) ys forms legal run other = absurd run
  one_run s t u [] [] (y ∷ ys) forms legal run other = absurd other
  one_run s t u (entry ∷ entries) [] ys forms legal run other = absurd run
  one_run s t u (entry ∷ entries) (x ∷ xs) [] forms legal run other = absurd other
  one_run s t u (entry ∷ entries) (x ∷ xs) (y ∷ ys) forms legal run other =
      let one = one_entry s run.0 other.0 entry x y forms.0 legal run.1 other.1 in
      let rest = one_run run.0 t u entries xs ys forms.1 (entry_legal s run.0 entry x forms.0 legal run.1) run.2
      (subst (λ (mid : State). EntriesRun setting mid entries ys u) (sym one.1) other.2) in
      ((λ i. one.0 i ∷ rest.0 i), rest.1)

pub entries_keep_legal : EntriesKeepLegal
entries_keep_legal setting fit s t entries outcomes forms legal run =
    let after = entries_legal setting fit s t entries outcomes forms legal run in
    (after, legal_is_consistent setting.base t after)

pub one_list_of_outcomes : OneListOfOutcomes
one_list_of_outcomes setting fit s t u entries xs ys forms legal x y =
    one_run setting fit s t u entries xs ys forms legal x y

-- Every entry has an outcome, as a double negation.
some_entry : (setting : Setting) (s : State) (entry : Entry)
    → ¬ (¬ ((outcome : EntryOutcome) × (t : State) × EntryStep setting s entry outcome t))
some_entry setting s (SingleRequest command) none =
    some_outcome.step setting s command (λ one. none (SingleAnswer one.0, one.1, one.2))
some_entry setting s (WholePlan plan) none = some_plan_outcome setting s plan (λ either. elim either [
  | inl done ↦ none (PlanAnswers done.0, done.1, done.2)
  | inr refused ↦ none (PlanRefusal refused.0 refused.1, s, (refused.2, refl))
])

pub some_list_of_outcomes : SomeListOfOutcomes
some_list_of_outcomes setting s [] none = none ([], s, refl)
some_list_of_outcomes setting s (entry ∷ entries) none =
    some_entry setting s entry (λ one. some_list_of_outcomes setting one.1 entries (λ rest. none
    (one.0 ∷ rest.0, rest.1, (one.1, one.2, rest.2))))
