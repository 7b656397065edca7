-- A plan has at most one outcome, and it isn't the case that it has none.
use Rattle.std.proofs.Common.{◌≡◌, ◌⊎◌, ◌<◌, ◌≤◌, ◌+◌, ◌++◌, ◌∷◌, [], ◌∙◌, ℕ, zero, suc, List, length, take, refl, sym, ap}
use Rattle.std.proofs.Common.{subst, arith, inl, inr, append_assoc, append-nil}
use Rattle.std.specs.Prelude.{Some, slice_get}
use Rattle.std.specs.List.{AllByRecursion}
use Rattle.std.proofs.lemmas.Option.{same_Some, slice_get_within}
use Rattle.thes_base.specs.declared.fault.Refusal.{Refusal}
use Rattle.thes_base.specs.declared.request.Answer.{Answer}
use Rattle.thes_base.specs.declared.request.Answer.TheVariants as reply
use Rattle.thes_base.specs.declared.request.Command.{Command}
use Rattle.thes_base.specs.Legal.{IsLegalState}
use Rattle.thes_base.specs.Machine.{Run, Step}
use Rattle.thes_base.specs.Refusals.{IsSetting, Setting}
use Rattle.thes_base.specs.Resources.{entry_at}
use Rattle.thes_base.specs.State.{State}
use Rattle.thes_base.specs.Texts.{CommandHasForms}
use Rattle.thes_base.proofs.MachineLemmas.{step_legal}
use Rattle.thes_base.proofs.OutcomeLemmas.{one_outcome, some_outcome}
use Rattle.thes_plans.specs.declared.plan.PlanOutcome.TheVariants.{Done, Refused}
use Rattle.thes_plans.specs.declared.plan.PlanRequest.{PlanRequest}
use Rattle.thes_plans.specs.Laws.{OnePlanOutcome, PlanHasForms, SomePlanOutcome}
use Rattle.thes_plans.specs.Plans.{IsNoRefusal, PlanAccepted, PlanRefused}
use Rattle.thes_plans.specs.Resolving.{resolved_command, resolved_commands, resolved_number, resolved_numbers}
use Rattle.thes_plans.proofs.PlanLawLemmas.{forms_stay, run_legal}
use Rattle.thes_plans.proofs.PlanLemmas.{refused_stays}

-- The resolved commands of the requests that have answers don't depend on the requests after them.
resolved_front : (before : List Answer) (plan : List PlanRequest) (answers : List Answer)
    → resolved_commands before (take (length answers) plan) answers ≡ resolved_commands before plan answers
resolved_front before [] [] = refl
resolved_front before [] (a ∷ answers) = refl
resolved_front before (asked ∷ plan) [] = refl
resolved_front before (asked ∷ plan) (a ∷ answers) = ap (λ (cs : List Command). resolved_command before asked ∷ cs)
    (resolved_front (before ++ a ∷ []) plan answers)

front_count : (plan : List PlanRequest) (n : ℕ) → n ≤ length plan → n ≡ length (take n plan)
front_count plan zero h = refl
front_count [] (suc n) h = absurd (omega arith)
front_count (asked ∷ plan) (suc n) h = ap suc (front_count plan n (omega arith))

compare : (m n : ℕ) → (m < n) ⊎ ((m ≡ n) ⊎ (n < m))
compare zero zero = inr (inl refl)
compare zero (suc n) = inl (omega arith)
compare (suc m) zero = inr (inr (omega arith))
compare (suc m) (suc n) = elim (compare m n) [
  | inl less ↦ inl (omega (arith, less))
  | inr rest ↦ elim rest [ inl same ↦ inr (inl (ap suc same)) | inr more ↦ inr (inr (omega (arith, more))) ]
]

module _ (setting : Setting) (fit : IsSetting setting) where
  pub one_step : (s t u : State) (c : Command) (a b : Answer) → IsLegalState setting.base s → Step setting s c a t
      → Step setting s c b u → (a ≡ b) × (t ≡ u)
  one_step s t u c a b legal x y =
      let r = one_outcome setting fit s legal (c ∷ []) (a ∷ []) (b ∷ []) t u (t, x, refl) (u, y, refl) in
      let list : a ∷ [] ≡ b ∷ [] = r.0 in (cc, r.1)

  next_legal : (before : List Answer) (asked : PlanRequest) (s t : State) (a : Answer) → CommandHasForms asked.command
      → IsLegalState setting.base s → Step setting s (resolved_command before asked) a t → IsLegalState setting.base t
  next_legal before asked s t a forms legal step = step_legal setting fit s t (resolved_command before asked) a
      (forms_stay (resolved_number before asked.first) (resolved_number before asked.second)
      (resolved_numbers before asked.postings.items) asked.command forms) legal step

  -- Two runs of the same number of requests of a plan have the same answers, and lead to the same state.
  pub runs_agree : (before : List Answer) (plan : List PlanRequest) (xs ys : List Answer) (s t u : State)
      → PlanHasForms plan → IsLegalState setting.base s → length xs ≡ length ys → length xs ≤ length plan
      → Run setting s (resolved_commands before plan xs) xs t → Run setting s (resolved_commands before plan ys) ys u
      → (xs ≡ ys) × (t ≡ u)
  runs_agree before [] [] [] s t u forms legal same within x y = (refl, x ∙ sym y)
  runs_agree before (p ∷ plan) [] [] s t u forms legal same within x y = (refl, x ∙ sym y)
  runs_agree before plan [] (b ∷ ys) s t u forms legal same within x y = absurd (omega arith)
  runs_agree before plan (a ∷ xs) [] s t u forms legal same within x y = absurd (omega arith)
  runs_agree before [] (a ∷ xs) (b ∷ ys) s t u forms legal same within x y = absurd (omega arith)
  runs_agree before (p ∷ plan) (a ∷ xs) (b ∷ ys) s t u forms legal same within x y =
      let one = one_step s x.0 y.0 (resolved_command before p) a b legal x.1 y.1 in
      let rest = runs_agree (before ++ a ∷ []) plan xs ys x.0 t u forms.1
      (next_legal before p s x.0 a forms.0 legal x.1) (omega arith) (omega arith) x.2
      (subst (λ (q : Answer × State). Run setting q.1 (resolved_commands (before ++ q.0 ∷ []) plan ys) ys u)
      (λ i. (sym one.0 i, sym one.1 i)) y.2) in
      ((λ i. one.0 i ∷ rest.0 i), rest.1)

  -- If a request of a plan is refused after those before it, a run of the plan that includes it has a refusal.
  refusal_ends : (before : List Answer) (plan : List PlanRequest) (xs ys : List Answer) (s t u v : State)
      (asked : PlanRequest) (r : Refusal) → PlanHasForms plan → IsLegalState setting.base s
      → length xs < length ys → length ys ≤ length plan → slice_get plan (length xs) ≡ Some asked
      → Run setting s (resolved_commands before plan xs) xs t
      → Step setting t (resolved_command (before ++ xs) asked) (reply.No r) v
      → Run setting s (resolved_commands before plan ys) ys u → AllByRecursion IsNoRefusal ys → ⊥
  refusal_ends before plan xs [] s t u v asked r forms legal more within at x step y fine = omega arith
  refusal_ends before [] xs (b ∷ ys) s t u v asked r forms legal more within at x step y fine = omega arith
  refusal_ends before (p ∷ plan) [] (b ∷ ys) s t u v asked r forms legal more within at x step y fine =
      let same : p ≡ asked = same_Some _ _ at in
      let here = subst (λ (q : State × List Answer × PlanRequest). Step setting q.0 (resolved_command q.1 q.2)
      (reply.No r) v) (λ i. (x i, append-nil before i, sym same i)) step in
      let one = one_step s v y.0 (resolved_command before p) (reply.No r) b legal here y.1 in
      subst IsNoRefusal (sym one.0) fine.0
  refusal_ends before (p ∷ plan) (a ∷ xs) (b ∷ ys) s t u v asked r forms legal more within at x step y fine =
      let one = one_step s x.0 y.0 (resolved_command before p) a b legal x.1 y.1 in
      refusal_ends (before ++ a ∷ []) plan xs ys x.0 t u v asked r forms.1
      (next_legal before p s x.0 a forms.0 legal x.1) (omega arith) (omega arith) at x.2
      (subst (λ (ys : List Answer). Step setting t (resolved_command ys asked) (reply.No r) v)
      (sym (append_assoc before (a ∷ []) xs)) step)
      (subst (λ (q : Answer × State). Run setting q.1 (resolved_commands (before ++ q.0 ∷ []) plan ys) ys u)
      (λ i. (sym one.0 i, sym one.1 i)) y.2) fine.1

  module _ (s : State) (plan : List PlanRequest) (forms : PlanHasForms plan) (legal : IsLegalState setting.base s) where
    module _ (place : ℕ) (r : Refusal) (is : PlanRefused setting s plan place r) where
      pub refused_at : slice_get plan (length is.answers) ≡ Some is.asked
      refused_at = subst (λ k. entry_at plan k ≡ Some is.asked) (let p = is.place_is in
          let e : place ≡ suc (length is.answers) = omega (arith, p) in e) is.at

      pub refused_within : length is.answers < length plan
      refused_within = slice_get_within plan (length is.answers) is.asked refused_at

      pub refused_run : Run setting s (resolved_commands [] plan is.answers) is.answers is.state_before
      refused_run = subst (λ (cs : List Command). Run setting s cs is.answers is.state_before)
          (resolved_front [] plan is.answers) is.before.run

    pub done_or_refused : (ys : List Answer) (u : State) (place : ℕ) (r : Refusal) → PlanAccepted setting s plan ys u
        → PlanRefused setting s plan place r → ⊥
    done_or_refused ys u place r done is =
        let within = refused_within place r is in
        let count = done.each in
        refusal_ends [] plan is.answers ys s is.state_before u is.state_before is.asked r forms legal
        (omega (arith, within, count)) (omega (arith, count)) (refused_at place r is) (refused_run place r is)
        is.refused done.run done.accepted

    earlier_refusal : (place other : ℕ) (r q : Refusal) → (x : PlanRefused setting s plan place r)
        → (y : PlanRefused setting s plan other q) → length x.answers < length y.answers → ⊥
    earlier_refusal place other r q x y less =
        let within = refused_within other q y in
        refusal_ends [] plan x.answers y.answers s x.state_before y.state_before x.state_before x.asked r forms legal
        less (omega (arith, within)) (refused_at place r x) (refused_run place r x) x.refused (refused_run other q y)
        y.before.accepted

    same_refusal : (place other : ℕ) (r q : Refusal) → (x : PlanRefused setting s plan place r)
        → (y : PlanRefused setting s plan other q) → length x.answers ≡ length y.answers → (place ≡ other) × (r ≡ q)
    same_refusal place other r q x y same =
        let within = refused_within place r x in
        let run = runs_agree [] plan x.answers y.answers s x.state_before y.state_before forms legal same
        (omega (arith, within)) (refused_run place r x) (refused_run other q y) in
        let here : place ≡ other = (let p = x.place_is in let o = y.place_is in omega (arith, p, o, same)) in
        let asked : y.asked ≡ x.asked = same_Some _ _ (sym y.at ∙ subst (λ k. entry_at plan k ≡ Some x.asked) here
        x.at) in
        let step = subst (λ (z : State × List Answer × PlanRequest). Step setting z.0 (resolved_command z.1 z.2)
        (reply.No q) z.0) (λ i. (sym run.1 i, sym run.0 i, asked i)) y.refused in
        let legal_there = run_legal setting fit [] plan x.answers s x.state_before forms legal
        (refused_run place r x) in
        let agree = one_step x.state_before x.state_before x.state_before (resolved_command x.answers x.asked)
        (reply.No r) (reply.No q) legal_there x.refused step in
        let answers_agree : reply.No r ≡ reply.No q = agree.0 in
        (here, cc)

    pub refusals_agree : (place other : ℕ) (r q : Refusal) → PlanRefused setting s plan place r
        → PlanRefused setting s plan other q → (place ≡ other) × (r ≡ q)
    refusals_agree place other r q x y = elim (compare (length x.answers) (length y.answers)) [
      | inl less ↦ absurd (earlier_refusal place other r q x y less)
      | inr rest ↦ elim rest [
        | inl same ↦ same_refusal place other r q x y same
        | inr more ↦ absurd (earlier_refusal other place q r y x more)
      ]
    ]

pub one_plan_outcome : OnePlanOutcome
one_plan_outcome setting fit s t u plan (Done xs) (Done ys) forms legal x y =
    let e = x.each in
    let f = y.each in
    runs_agree setting fit [] plan xs.items ys.items s t u forms legal (omega (arith, e, f)) (omega (arith, e)) x.run
    y.run
one_plan_outcome setting fit s t u plan (Done xs) (Refused place r) forms legal x y =
    absurd (done_or_refused setting fit s plan forms legal xs.items t place r x y.0)
one_plan_outcome setting fit s t u plan (Refused place r) (Done ys) forms legal x y =
    absurd (done_or_refused setting fit s plan forms legal ys.items u place r y x.0)
one_plan_outcome setting fit s t u plan (Refused place r) (Refused other q) forms legal x y =
    (refusals_agree setting fit s plan forms legal place other r q x.0 y.0, x.1 ∙ sym y.1)

-- The requests are accepted one after another from the state. They are the rest of a plan, whose earlier requests have
-- the answers `before`.
abbrev AcceptedFrom : Setting → List Answer → List PlanRequest → State → Type 0
AcceptedFrom setting before plan s = (answers : List Answer) × (t : State) × (length answers ≡ length plan)
    × Run setting s (resolved_commands before plan answers) answers t × AllByRecursion IsNoRefusal answers

-- One of the requests, which are the rest of a plan as in AcceptedFrom, is refused after those before it are accepted.
abbrev RefusedFrom : Setting → List Answer → List PlanRequest → State → Type 0
RefusedFrom setting before plan s = (answers : List Answer) × (asked : PlanRequest) × (mid : State) × (r : Refusal)
    × (slice_get plan (length answers) ≡ Some asked) × Run setting s (resolved_commands before plan answers) answers mid
    × AllByRecursion IsNoRefusal answers
    × Step setting mid (resolved_command (before ++ answers) asked) (reply.No r) mid

refused_or_not : (a : Answer) → ((r : Refusal) × (a ≡ reply.No r)) ⊎ IsNoRefusal a
refused_or_not (reply.No r) = inl (r, refl)
refused_or_not (reply.Number n) = inr tt
refused_or_not (reply.Again n) = inr tt
refused_or_not reply.Done = inr tt
refused_or_not (reply.Moved n) = inr tt
refused_or_not (reply.Parted n m) = inr tt

some_from : (setting : Setting) (before : List Answer) (plan : List PlanRequest) (s : State)
    → ¬ (¬ (AcceptedFrom setting before plan s ⊎ RefusedFrom setting before plan s))
some_from setting before [] s none = none (inl ([], s, refl, refl, tt))
some_from setting before (p ∷ plan) s none =
    some_outcome.step setting s (resolved_command before p) (λ one. at (λ a mid. some_from
    setting (before ++ a ∷ []) plan mid) one.0 one.1 one.2 (refused_or_not one.0))
  where
    at : ((a : Answer) (mid : State) → ¬ (¬ (AcceptedFrom setting (before ++ a ∷ []) plan mid
        ⊎ RefusedFrom setting (before ++ a ∷ []) plan mid))) → (a : Answer) (mid : State)
        → Step setting s (resolved_command before p) a mid
        → ((r : Refusal) × (a ≡ reply.No r)) ⊎ IsNoRefusal a → ⊥
    at later a mid step (inl (r, is)) =
        let refused = subst (λ (b : Answer). Step setting s (resolved_command before p) b mid) is step in
        let stays = refused_stays setting s mid (resolved_command before p) r refused in
        none (inr (
          [],
          p,
          s,
          r,
          refl,
          refl,
          tt,
          subst (λ (q : State × List Answer). Step setting s
              (resolved_command q.1 p) (reply.No r) q.0) (λ i. (stays i, sym (append-nil before) i)) refused,
        ))
    at later a mid step (inr fine) = later a mid (λ rest. elim rest [
      | inl done ↦ none (inl (a ∷ done.0, done.1, ap suc done.2, (mid, step, done.3), (fine, done.4)))
      | inr no_more ↦ none (inr (
        a ∷ no_more.0,
        no_more.1,
        no_more.2,
        no_more.3,
        no_more.4,
        (mid, step, no_more.5),
        (fine, no_more.6),
        subst (λ (xs : List Answer). Step setting no_more.2 (resolved_command xs no_more.1) (reply.No no_more.3)
            no_more.2) (append_assoc before (a ∷ []) no_more.0) no_more.7,
      ))
    ])

pub some_plan_outcome : SomePlanOutcome
some_plan_outcome setting s plan none = some_from setting [] plan s (λ either. elim either [
  | inl done ↦ none (inl (done.0, done.1, record { each = done.2; run = done.3; accepted = done.4 }))
  | inr refused ↦ none (inr (
    length refused.0 + 1,
    refused.3,
    (let within = slice_get_within plan (length refused.0)
        refused.1 refused.4 in record {
          asked = refused.1;
          at = subst (λ k. entry_at plan k ≡ Some refused.1) (let e : suc (length refused.0) ≡ length refused.0 + 1 =
              omega arith in e) refused.4;
          answers = refused.0;
          place_is = refl;
          state_before = refused.2;
          before = record {
            each = front_count plan (length refused.0) (omega (arith, within));
            run = subst (λ (cs : List Command). Run setting s cs refused.0 refused.2)
                (sym (resolved_front [] plan refused.0)) refused.5;
            accepted = refused.6;
          };
          refused = refused.7;
        }),
  ))
])
