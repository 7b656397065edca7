-- The laws of a plan of one request, and of the states after plans.
use Rattle.std.proofs.Common.{◌≡◌, ◌++◌, ◌∷◌, [], ◌∙◌, ℕ, List, length, take, refl, sym, ap, subst}
use Rattle.std.proofs.Common.{arith}
use Rattle.std.specs.Prelude.{None, Some}
use Rattle.std.proofs.lemmas.Option.{same_Some}
use Rattle.thes_base.specs.declared.fault.Refusal.{Refusal}
use Rattle.thes_base.specs.declared.request.Answer.{Answer}
use Rattle.thes_base.specs.declared.request.Answer.TheVariants as reply
use Rattle.thes_base.specs.declared.request.Command.{Command}
use Rattle.thes_base.specs.declared.request.Command.TheVariants as request
use Rattle.thes_base.specs.Legal.{IsLegalState}
use Rattle.thes_base.specs.Machine.{Run, Step}
use Rattle.thes_base.specs.Refusals.{IsSetting, Setting}
use Rattle.thes_base.specs.Resources.{entry_at}
use Rattle.thes_base.specs.State.{State}
use Rattle.thes_base.specs.Texts.{CommandHasForms}
use Rattle.thes_base.proofs.MachineLemmas.{legal_is_consistent, step_legal}
use Rattle.thes_base.proofs.NumberedLemmas.{numbered_bound}
use Rattle.thes_plans.specs.declared.plan.PlanOutcome.TheVariants.{Done, Refused}
use Rattle.thes_plans.specs.declared.plan.PlanRequest.{PlanRequest}
use Rattle.thes_plans.specs.Laws.{HasNoReferences, PlanHasForms, PlanKeepsLegal, SinglePlanIsRequest}
use Rattle.thes_plans.specs.Plans.{IsNoRefusal, PlanAccepted, PlanRefused}
use Rattle.thes_plans.specs.Resolving.{resolved_command, resolved_commands, resolved_number, resolved_numbers, with_numbers}
use Rattle.thes_plans.proofs.PlanLemmas.{refused_stays}

own_numbers : (answers : List Answer) (owns : List ℕ) → resolved_numbers answers [] owns ≡ owns
own_numbers answers [] = refl
own_numbers answers (n ∷ owns) = refl

-- A command whose request has no references stays unchanged.
own_command : (answers : List Answer) (c : Command) → with_numbers (resolved_number answers None)
    (resolved_number answers None) (resolved_numbers answers []) c ≡ c
own_command answers (request.Scheme tag text) = refl
own_command answers (request.Concept scheme tag text) = refl
own_command answers (request.Collection scheme tag text) = refl
own_command answers (request.Outside iri) = refl
own_command answers (request.AddLabel owner l) = refl
own_command answers (request.DropLabel owner l) = refl
own_command answers (request.Relabel owner tag text keep) = refl
own_command answers (request.Link kind a b) = refl
own_command answers (request.Unlink kind a b) = refl
own_command answers (request.Deprecate concept) = refl
own_command answers (request.Merge source target) = refl
own_command answers (request.Split source tag text postings) =
    ap (request.Split source tag text) (own_numbers answers postings)
own_command answers (request.Post key rec concept) = refl
own_command answers (request.Withdraw posting) = refl

command_stays : (asked : PlanRequest) (answers : List Answer) → HasNoReferences asked → resolved_command answers asked
    ≡ asked.command
command_stays asked answers none =
    (λ i. with_numbers (resolved_number answers (none.first i)) (resolved_number answers (none.second i))
    (resolved_numbers answers (none.postings i)) asked.command) ∙ own_command answers asked.command

module _ (setting : Setting) (s t : State) (asked : PlanRequest) (none : HasNoReferences asked) where
  one_answer : (xs : List Answer) → PlanAccepted setting s (asked ∷ []) xs t → (answer : Answer)
      × Step setting s asked.command answer t × (xs ≡ answer ∷ []) × IsNoRefusal answer
  one_answer [] is = absurd (let e = is.each in omega (arith, e))
  one_answer (a ∷ []) is = (
    a,
    subst (λ (u : State). Step setting s asked.command a u) (sym is.run.2)
        (subst (λ (c : Command). Step setting s c a is.run.0) (command_stays asked [] none) is.run.1),
    refl,
    is.accepted.0,
  )
  one_answer (a ∷ b ∷ xs) is = absurd (let e = is.each in omega (arith, e))

  done_again : (xs : List Answer) (answer : Answer) → xs ≡ answer ∷ [] → IsNoRefusal answer
      → Step setting s asked.command answer t → PlanAccepted setting s (asked ∷ []) xs t
  done_again xs answer is fine step = subst (λ (ys : List Answer). PlanAccepted setting s (asked ∷ []) ys t) (sym is)
      (let one : PlanAccepted setting s (asked ∷ []) (answer ∷ []) t = record {
        each = refl;
        run = (t, subst (λ (c : Command). Step setting s c answer t) (sym (command_stays asked [] none)) step, refl);
        accepted = (fine, tt);
      } in one)

  no_answers : (xs : List Answer) (u : State) → length xs ≡ 0 → PlanAccepted setting s (take (length xs) (asked ∷ []))
      xs u → u ≡ s
  no_answers [] u count is = is.run
  no_answers (a ∷ xs) u count is = absurd (omega (arith, count))

  only_one : (other : PlanRequest) (place : ℕ) → entry_at (asked ∷ []) place ≡ Some other → place ≡ 1 → asked ≡ other
  only_one other place at is = same_Some _ _ (subst (λ k. entry_at (asked ∷ []) k ≡ Some other) is at)

  one_refusal : (place : ℕ) (r : Refusal) → PlanRefused setting s (asked ∷ []) place r → (place ≡ 1)
      × Step setting s asked.command (reply.No r) s
  one_refusal place r is =
      let bound = numbered_bound (asked ∷ []) place is.asked is.at in
      let first : place ≡ 1 = (let low = bound.0 in let high = bound.1 in omega (arith, low, high)) in
      let zero_answers : length is.answers ≡ 0 = (let p = is.place_is in omega (arith, p, first)) in
      let here = no_answers is.answers is.state_before zero_answers is.before in (
        first,
        subst (λ (u : State). Step setting u asked.command (reply.No r) u) here
            (subst (λ (c : Command). Step setting is.state_before c (reply.No r) is.state_before)
            (sym (ap (λ (a : PlanRequest). resolved_command is.answers a) (only_one is.asked place is.at first))
            ∙ command_stays asked is.answers none) is.refused),
      )

  refused_again : (place : ℕ) (r : Refusal) → place ≡ 1 → Step setting s asked.command (reply.No r) t
      → PlanRefused setting s (asked ∷ []) place r × (t ≡ s)
  refused_again place r first step =
      let stays = refused_stays setting s t asked.command r step in (
        record {
          asked = asked;
          at = subst (λ k. entry_at (asked ∷ []) k ≡ Some asked) (sym first) refl;
          answers = [];
          place_is = first;
          state_before = s;
          before = record { each = refl; run = refl; accepted = tt };
          refused = subst (λ (u : State). Step setting s (resolved_command [] asked) (reply.No r) u) stays
              (subst (λ (c : Command). Step setting s c (reply.No r) t) (sym (command_stays asked [] none)) step);
        },
        stays,
      )

pub single_plan_is_request : SinglePlanIsRequest
single_plan_is_request setting s t asked (Done answers) none = (
  (λ is. let one = one_answer setting s t asked none answers.items is in (one.0, one.1, (one.2, one.3))),
  λ given. done_again setting s t asked none answers.items given.0 given.2.0 given.2.1 given.1,
)
single_plan_is_request setting s t asked (Refused place r) none = (
  (λ is. let one = one_refusal setting s t asked none place r is.0 in (
    reply.No r,
    subst (λ (u : State). Step setting s asked.command (reply.No r) u) (sym is.1) one.1,
    (one.0, refl),
  )),
  λ given. refused_again setting s t asked none place r given.2.0
      (subst (λ (a : Answer). Step setting s asked.command a t) given.2.1 given.1),
)

-- If the texts of a command have their forms, they keep them when the command's numbers are replaced.
pub forms_stay : (f g : ℕ → ℕ) (h : List ℕ → List ℕ) (c : Command) → CommandHasForms c
    → CommandHasForms (with_numbers f g h c)
forms_stay f g h (request.Scheme tag text) forms = forms
forms_stay f g h (request.Concept scheme tag text) forms = forms
forms_stay f g h (request.Collection scheme tag text) forms = forms
forms_stay f g h (request.Outside iri) forms = forms
forms_stay f g h (request.AddLabel owner l) forms = forms
forms_stay f g h (request.DropLabel owner l) forms = forms
forms_stay f g h (request.Relabel owner tag text keep) forms = forms
forms_stay f g h (request.Link kind a b) forms = forms
forms_stay f g h (request.Unlink kind a b) forms = forms
forms_stay f g h (request.Deprecate concept) forms = forms
forms_stay f g h (request.Merge source target) forms = forms
forms_stay f g h (request.Split source tag text postings) forms = forms
forms_stay f g h (request.Post key rec concept) forms = forms
forms_stay f g h (request.Withdraw posting) forms = forms

pub run_legal : (setting : Setting) → IsSetting setting → (before : List Answer) (plan : List PlanRequest)
    (answers : List Answer) (s t : State) → PlanHasForms plan → IsLegalState setting.base s
    → Run setting s (resolved_commands before plan answers) answers t → IsLegalState setting.base t
run_legal setting fit before [] [] s t forms legal run = subst (IsLegalState setting.base) (sym run) legal
run_legal setting fit before [] (a ∷ answers) s t forms legal run = absurd run
run_legal setting fit before (asked ∷ plan) [] s t forms legal run = subst (IsLegalState setting.base) (sym run) legal
run_legal setting fit before (asked ∷ plan) (a ∷ answers) s t forms legal run =
    run_legal setting fit (before ++ a ∷ []) plan answers run.0 t forms.1
    (step_legal setting fit s run.0 (resolved_command before asked) a
    (forms_stay (resolved_number before asked.first) (resolved_number before asked.second)
    (resolved_numbers before asked.postings.items) asked.command forms.0) legal run.1) run.2

pub plan_keeps_legal : PlanKeepsLegal
plan_keeps_legal setting fit s t plan (Done answers) forms legal is =
    let after = run_legal setting fit [] plan answers.items s t forms legal is.run in
    (after, legal_is_consistent setting.base t after)
plan_keeps_legal setting fit s t plan (Refused place r) forms legal is =
    let after = subst (IsLegalState setting.base) (sym is.1) legal in
    (after, legal_is_consistent setting.base t after)
