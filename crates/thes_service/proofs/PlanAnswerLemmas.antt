-- Proves that a text that is read as a plan has at most one reply, and leads to at most one state.
use Rattle.std.proofs.Common.{arith, ◌≡◌, ◌∙◌, ◌++◌, ◌+◌, ◌∷◌, [], ℕ, List, inl, inr, refl, sym, ap, subst, length, take}
use Rattle.std.proofs.Common.{Option, None, Some, Result, Ok, Err, add-one, append-nil}
use Rattle.std.specs.List.{AllByRecursion}
use Rattle.std.specs.Prelude.{slice_get}
use Rattle.serde_json.specs.Data.{Data}
use Rattle.thes_base.specs.declared.fault.Refusal.{Refusal}
use Rattle.thes_base.specs.declared.request.Answer.{Answer}
use Rattle.thes_base.specs.declared.request.Answer.TheVariants as reply
use Rattle.thes_base.specs.declared.request.Command.{Command}
use Rattle.thes_base.specs.Legal.{IsLegalState}
use Rattle.thes_base.specs.Machine.{Run, Step}
use Rattle.thes_base.specs.Refusals.{Setting, IsSetting}
use Rattle.thes_base.specs.Resources.{entry_at}
use Rattle.thes_base.specs.State.{State}
use Rattle.thes_base.proofs.OutcomeLemmas.{one_outcome}
use Rattle.thes_plans.specs.declared.plan.PlanOutcome.{PlanOutcome}
use Rattle.thes_plans.specs.declared.plan.PlanOutcome.TheVariants as outcome
use Rattle.thes_plans.specs.declared.plan.PlanRequest.{PlanRequest}
use Rattle.thes_plans.specs.Plans.{IsNoRefusal, IsPlanOutcome, PlanAccepted, PlanRefused}
use Rattle.thes_plans.specs.Resolving.{resolved_command, resolved_commands, resolved_number, resolved_numbers, with_numbers}
use Rattle.thes_requests.specs.declared.plan_reply.PlanReply.{PlanReply}
use Rattle.thes_requests.specs.declared.plan_reply.PlanReply.TheVariants as planned
use Rattle.thes_plans.specs.declared.plan.PlanRun.{PlanRun}
use Rattle.thes_plans.specs.declared.plan.PlanRun.TheVariants.{Perform, Try}
use Rattle.thes_tables.specs.declared.change.Change.{Change}
use Rattle.thes_requests.specs.Laws.{SameAsked, SamePlans, SameReply}
use Rattle.thes_requests.specs.PlanTexts.{answers_text, reply_of_outcome, report_of_plan, reported_outcome}
use Rattle.thes_requests.specs.RequestBehaviour.{RequestBehaviour}
use Rattle.thes_requests.specs.PlanReadings.{OptionReadsAs, PlanValueReadsAs}
use Rattle.thes_requests.specs.Serving.{PerformsPlan, ReportsPlanRun, ServesArray, ServesReport}
use Rattle.thes_requests.proofs.PlanReadingLemmas.{one_plan}

-- The state after a plan that leads from the state `s` to `t`: that one if it is performed, `s` if it is only tried.
abbrev pub state_after_run : PlanRun → State → State → State
state_after_run Perform s t = t
state_after_run Try s t = s

-- The same request of a plan is resolved to the same command.
same_command : (answers : List Answer) (a b : PlanRequest) → SameAsked a b
    → resolved_command answers a ≡ resolved_command answers b
same_command answers a b same =
    λ i. with_numbers (resolved_number answers (same.first i)) (resolved_number answers (same.second i))
    (resolved_numbers answers (same.postings i)) (same.command i)

last_same : (before : List Answer) (x y : Answer) → before ++ x ∷ [] ≡ before ++ y ∷ [] → x ≡ y
last_same [] x y e = cc
last_same (z ∷ before) x y e = last_same before x y (let rest : before ++ x ∷ [] ≡ before ++ y ∷ [] = cc in rest)

-- A run and one more step make a run.
pub run_more : (setting : Setting) (s m t : State) (commands : List Command) (answers : List Answer) (command : Command)
    (answer : Answer) → Run setting s commands answers m → Step setting m command answer t
    → Run setting s (commands ++ command ∷ []) (answers ++ answer ∷ []) t
run_more setting s m t [] [] command answer run step =
    (t, subst (λ (k : State). Step setting k command answer t) run step, refl)
run_more setting s m t [] (a ∷ answers) command answer run step = absurd run
run_more setting s m t (c ∷ commands) [] command answer run step = absurd run
run_more setting s m t (c ∷ commands) (a ∷ answers) command answer run step =
    (run.0, run.1, run_more setting run.0 m t commands answers command answer run.2 step)

-- The outcome of the rest of a plan in the state `m`, given the answers to the requests before: the answers to those
-- that are accepted, the refusal of the next one, if there is one, and the state `t` after them.
abbrev Rest : Setting → State → List Answer → List PlanRequest → List Answer → Option Refusal → State → Type 0
Rest setting m before [] [] None t = t ≡ m
Rest setting m before [] [] (Some r) t = ⊥
Rest setting m before [] (x ∷ answers) refusal t = ⊥
Rest setting m before (a ∷ plan) [] None t = ⊥
Rest setting m before (a ∷ plan) [] (Some r) t = Step setting m (resolved_command before a) (reply.No r) m × (t ≡ m)
Rest setting m before (a ∷ plan) (x ∷ answers) refusal t =
    (mid : State) × Step setting m (resolved_command before a) x mid × IsNoRefusal x
    × Rest setting mid (before ++ x ∷ []) plan answers refusal t

accepted_rest : (setting : Setting) (m t : State) (before : List Answer) (plan : List PlanRequest)
    (answers : List Answer)
    → length answers ≡ length plan → Run setting m (resolved_commands before plan answers) answers t
    → AllByRecursion IsNoRefusal answers → Rest setting m before plan answers None t
accepted_rest setting m t before [] [] each run accepted = run
accepted_rest setting m t before [] (x ∷ answers) each run accepted = absurd (omega (arith, each))
accepted_rest setting m t before (a ∷ plan) [] each run accepted = absurd (omega (arith, each))
accepted_rest setting m t before (a ∷ plan) (x ∷ answers) each run accepted = (
  run.0,
  run.1,
  accepted.0,
  accepted_rest setting run.0 t (before ++ x ∷ []) plan answers (omega (arith, each)) run.2 accepted.1,
)

append_one : (before : List Answer) (x : Answer) (answers : List Answer)
    → before ++ x ∷ answers ≡ (before ++ x ∷ []) ++ answers
append_one [] x answers = refl
append_one (z ∷ before) x answers = ap (λ (zs : List Answer). z ∷ zs) (append_one before x answers)

refused_rest : (setting : Setting) (m t : State) (before own : List Answer) (plan : List PlanRequest)
    (answers : List Answer) (asked : PlanRequest) (refusal : Refusal) → slice_get plan (length answers) ≡ Some asked
    → Run setting m (resolved_commands before (take (length answers) plan) answers) answers t
    → AllByRecursion IsNoRefusal answers → own ≡ before ++ answers
    → Step setting t (resolved_command own asked) (reply.No refusal) t
    → Rest setting m before plan answers (Some refusal) t
refused_rest setting m t before own [] [] asked refusal at run accepted is step = absurd (cc)
refused_rest setting m t before own [] (x ∷ answers) asked refusal at run accepted is step = absurd (cc)
refused_rest setting m t before own (a ∷ plan) [] asked refusal at run accepted is step =
    let same : a ≡ asked = cc in
    let all = is ∙ append-nil before in (
      subst (λ (p : List Answer × PlanRequest × State). Step setting p.2 (resolved_command p.0 p.1) (reply.No refusal)
          p.2)
          (λ i. (all i, (sym same) i, run i)) step,
      run,
    )
refused_rest setting m t before own (a ∷ plan) (x ∷ answers) asked refusal at run accepted is step = (
  run.0,
  run.1,
  accepted.0,
  refused_rest setting run.0 t (before ++ x ∷ []) own plan answers asked refusal at run.2 accepted.1
      (is ∙ append_one before x answers) step,
)

module _ (setting : Setting) (fit : IsSetting setting) (s : State) (legal : IsLegalState setting.base s) where
  -- A step after a run has one answer, and leads to one state.
  pub one_step_after : (commands : List Command) (before : List Answer) (m t u : State)
      → Run setting s commands before m → (c d : Command) → c ≡ d → (x y : Answer) → Step setting m c x t
      → Step setting m d y u → (x ≡ y) × (t ≡ u)
  one_step_after commands before m t u run c d same x y a b =
      let b' = subst (λ (e : Command). Step setting m e y u) (sym same) b in
      let one = one_outcome setting fit s legal (commands ++ c ∷ []) (before ++ x ∷ []) (before ++ y ∷ []) t u
      (run_more setting s m t commands before c x run a) (run_more setting s m u commands before c y run b') in
      (last_same before x y one.0, one.1)

  one_rest : (p q : List PlanRequest) → SamePlans p q → (commands : List Command) (before xs ys : List Answer)
      (r k : Option Refusal) (m t u : State) → Run setting s commands before m → Rest setting m before p xs r t
      → Rest setting m before q ys k u → (xs ≡ ys) × (r ≡ k) × (t ≡ u)
  one_rest [] [] same commands before [] [] None None m t u run x y = (refl, refl, x ∙ sym y)
  one_rest [] [] same commands before [] [] None (Some k) m t u run x y = absurd y
  one_rest [] [] same commands before [] [] (Some r) k m t u run x y = absurd x
  one_rest [] [] same commands before [] (b ∷ ys) r k m t u run x y = absurd y
  one_rest [] [] same commands before (a ∷ xs) ys r k m t u run x y = absurd x
  one_rest [] (b ∷ q) same commands before xs ys r k m t u run x y = absurd same
  one_rest (a ∷ p) [] same commands before xs ys r k m t u run x y = absurd same
  one_rest (a ∷ p) (b ∷ q) same commands before [] ys None k m t u run x y = absurd x
  one_rest (a ∷ p) (b ∷ q) same commands before [] [] (Some r) None m t u run x y = absurd y
  one_rest (a ∷ p) (b ∷ q) same commands before [] [] (Some r) (Some k) m t u run x y =
      let one = one_step_after commands before m m m run _ _ (same_command before a b same.0) _ _ x.0 y.0 in
      let refusal : r ≡ k = (let both : reply.No r ≡ reply.No k = one.0 in cc) in
      (refl, ap Some refusal, x.1 ∙ sym y.1)
  one_rest (a ∷ p) (b ∷ q) same commands before [] (d ∷ ys) (Some r) k m t u run x y =
      let one = one_step_after commands before m m y.0 run _ _ (same_command before a b same.0) _ _ x.0 y.1 in
      absurd (subst IsNoRefusal (sym one.0) y.2)
  one_rest (a ∷ p) (b ∷ q) same commands before (c ∷ xs) [] r None m t u run x y = absurd y
  one_rest (a ∷ p) (b ∷ q) same commands before (c ∷ xs) [] r (Some k) m t u run x y =
      let one = one_step_after commands before m x.0 m run _ _ (same_command before a b same.0) _ _ x.1 y.0 in
      absurd (subst IsNoRefusal one.0 x.2)
  one_rest (a ∷ p) (b ∷ q) same commands before (c ∷ xs) (d ∷ ys) r k m t u run x y =
      let one = one_step_after commands before m x.0 y.0 run _ _ (same_command before a b same.0) c d x.1 y.1 in
      let rest = one_rest p q same.1 (commands ++ resolved_command before a ∷ []) (before ++ c ∷ []) xs ys r k x.0 t u
      (run_more setting s m x.0 commands before (resolved_command before a) c run x.1) x.3
      (subst (λ (z : Answer × State). Rest setting z.1 (before ++ z.0 ∷ []) q ys k u)
      (λ i. ((sym one.0) i, (sym one.1) i)) y.3) in
      (λ i. one.0 i ∷ rest.0 i, rest.1, rest.2)

  done_rest : (plan : List PlanRequest) (answers : List Answer) (t : State) → PlanAccepted setting s plan answers t
      → Rest setting s [] plan answers None t
  done_rest plan answers t x = accepted_rest setting s t [] plan answers x.each x.run x.accepted

  no_rest : (plan : List PlanRequest) (place : ℕ) (refusal : Refusal) (x : PlanRefused setting s plan place refusal)
      → Rest setting s [] plan x.answers (Some refusal) x.state_before
  no_rest plan place refusal x =
      let before = x.before in
      refused_rest setting s x.state_before [] x.answers plan x.answers x.asked refusal
      (entry_before plan place (length x.answers) x.asked x.place_is x.at) before.run before.accepted refl x.refused
    where
      entry_before : (plan : List PlanRequest) (place n : ℕ) (asked : PlanRequest) → place ≡ n + 1
          → entry_at plan place ≡ Some asked → slice_get plan n ≡ Some asked
      entry_before plan place n asked is at = subst (λ (k : ℕ). entry_at plan k ≡ Some asked) (is ∙ add-one n) at

  -- The same plans have one outcome, and lead to one state. Their reports are the same, but for the changes listed.
  pub one_plan_outcome : (p q : List PlanRequest) → SamePlans p q → (o w : PlanOutcome) (t u : State)
      → IsPlanOutcome setting s p o t → IsPlanOutcome setting s q w u
      → (reply_of_outcome o ≡ reply_of_outcome w) × (t ≡ u)
      × ((c e : List Change) → SameReply (reported_outcome c o) (reported_outcome e w))
  one_plan_outcome p q same (outcome.Done xs) (outcome.Done ys) t u x y =
      let one = one_rest p q same [] [] xs.items ys.items None None s t u refl (done_rest p xs.items t x)
      (done_rest q ys.items u y) in (
        ap (λ (zs : List Answer). planned.Done (answers_text zs)) one.0,
        one.2,
        λ c e. (ap (λ (zs : List Answer). let r = report_of_plan [] zs in r.answers) one.0, refl),
      )
  one_plan_outcome p q same (outcome.Done xs) (outcome.Refused place r) t u x (y, stays) =
      let one = one_rest p q same [] [] xs.items y.answers None (Some r) s t y.state_before refl
      (done_rest p xs.items t x) (no_rest q place r y) in
      absurd (let bad : None ≡ Some r = one.1 in cc)
  one_plan_outcome p q same (outcome.Refused place r) (outcome.Done ys) t u (x, stays) y =
      let one = one_rest p q same [] [] x.answers ys.items (Some r) None s x.state_before u refl (no_rest p place r x)
      (done_rest q ys.items u y) in
      absurd (let bad : Some r ≡ None = one.1 in cc)
  one_plan_outcome p q same (outcome.Refused m r) (outcome.Refused n k) t u (x, stays) (y, keeps) =
      let one = one_rest p q same [] [] x.answers y.answers (Some r) (Some k) s x.state_before y.state_before refl
      (no_rest p m r x) (no_rest q n k y) in
      let places : m ≡ n = x.place_is ∙ ap (λ (zs : List Answer). length zs + 1) one.0 ∙ sym y.place_is in
      let refusal : r ≡ k = (let both : Some r ≡ Some k = one.1 in cc) in
      (λ i. planned.Refused (places i) (refusal i), stays ∙ sym keeps, λ c e i. planned.Refused (places i) (refusal i))

  one_performed : (d : RequestBehaviour State) → ((plan : List PlanRequest) (o : PlanOutcome) (t : State)
      → d.performs_plan s plan (Ok o) t → IsPlanOutcome setting s plan o t)
      → (value : Option Data) (a b : PlanReply) (t u : State)
      → ((plan : List PlanRequest) × OptionReadsAs value (Ok plan) × PerformsPlan d s plan (Ok a) t)
      → ((plan : List PlanRequest) × OptionReadsAs value (Ok plan) × PerformsPlan d s plan (Ok b) u)
      → (a ≡ b) × (t ≡ u)
  one_performed d is value a b t u x y =
      let one = one_plan_outcome x.0 y.0 (one_plan value (Ok x.0) (Ok y.0) x.1 y.1) x.2.0 y.2.0 t u
      (is x.0 x.2.0 t x.2.1) (is y.0 y.2.0 u y.2.1) in
      (x.2.2 ∙ one.0 ∙ sym y.2.2, one.1)

  -- A text that is read as an array has one reply, and leads to one state, if each plan is performed as by the machine.
  pub one_array_reply : (d : RequestBehaviour State) → ((plan : List PlanRequest) (o : PlanOutcome) (t : State)
      → d.performs_plan s plan (Ok o) t → IsPlanOutcome setting s plan o t)
      → (value : Option Data) (a b : PlanReply) (t u : State)
      → ServesArray d s value (Ok a) t → ServesArray d s value (Ok b) u → (a ≡ b) × (t ≡ u)
  one_array_reply d is value (planned.Bad f) (planned.Bad g) t u x y =
      (ap planned.Bad (one_plan value (Err f) (Err g) x.0 y.0), x.1 ∙ sym y.1)
  one_array_reply d is value (planned.Bad f) (planned.Done b) t u x y =
      absurd (one_plan value (Err f) (Ok y.0) x.0 y.1)
  one_array_reply d is value (planned.Bad f) (planned.Refused n k) t u x y =
      absurd (one_plan value (Err f) (Ok y.0) x.0 y.1)
  one_array_reply d is value (planned.Bad f) (planned.Reported b) t u x y =
      absurd (one_plan value (Err f) (Ok y.0) x.0 y.1)
  one_array_reply d is value (planned.Done a) (planned.Bad g) t u x y =
      absurd (one_plan value (Ok x.0) (Err g) x.1 y.0)
  one_array_reply d is value (planned.Refused m r) (planned.Bad g) t u x y =
      absurd (one_plan value (Ok x.0) (Err g) x.1 y.0)
  one_array_reply d is value (planned.Reported a) (planned.Bad g) t u x y =
      absurd (one_plan value (Ok x.0) (Err g) x.1 y.0)
  one_array_reply d is value (planned.Done a) (planned.Done b) t u x y =
      one_performed d is value (planned.Done a) (planned.Done b) t u x y
  one_array_reply d is value (planned.Done a) (planned.Refused n k) t u x y =
      one_performed d is value (planned.Done a) (planned.Refused n k) t u x y
  one_array_reply d is value (planned.Done a) (planned.Reported b) t u x y =
      one_performed d is value (planned.Done a) (planned.Reported b) t u x y
  one_array_reply d is value (planned.Refused m r) (planned.Done b) t u x y =
      one_performed d is value (planned.Refused m r) (planned.Done b) t u x y
  one_array_reply d is value (planned.Refused m r) (planned.Refused n k) t u x y =
      one_performed d is value (planned.Refused m r) (planned.Refused n k) t u x y
  one_array_reply d is value (planned.Refused m r) (planned.Reported b) t u x y =
      one_performed d is value (planned.Refused m r) (planned.Reported b) t u x y
  one_array_reply d is value (planned.Reported a) (planned.Done b) t u x y =
      one_performed d is value (planned.Reported a) (planned.Done b) t u x y
  one_array_reply d is value (planned.Reported a) (planned.Refused n k) t u x y =
      one_performed d is value (planned.Reported a) (planned.Refused n k) t u x y
  one_array_reply d is value (planned.Reported a) (planned.Reported b) t u x y =
      one_performed d is value (planned.Reported a) (planned.Reported b) t u x y

  -- A plan that is performed or tried, with its report, if the handler does it as the machine does.
  abbrev ReportsAsMachine : RequestBehaviour State → PlanRun → Type 0
  ReportsAsMachine d way = (plan : List PlanRequest) (o : PlanOutcome) (changes : List Change) (t : State)
      → d.reports_plan s way plan (Ok o) changes t
      → (u : State) × IsPlanOutcome setting s plan o u × (t ≡ state_after_run way s u)

  abbrev IsReported : RequestBehaviour State → PlanRun → Data → PlanReply → State → Type 0
  IsReported d way value a t =
      (plan : List PlanRequest) × PlanValueReadsAs value (Ok plan) × ReportsPlanRun d way s plan (Ok a) t

  one_reported : (d : RequestBehaviour State) (way : PlanRun) → ReportsAsMachine d way → (value : Data)
      (a b : PlanReply) (t u : State) → IsReported d way value a t → IsReported d way value b u
      → SameReply a b × (t ≡ u)
  one_reported d way is value a b t u x y =
      let mine = is x.0 x.2.0 x.2.1 t x.2.2 in
      let theirs = is y.0 y.2.0 y.2.1 u y.2.2 in
      let one = one_plan_outcome x.0 y.0 (one_plan (Some value) (Ok x.0) (Ok y.0) x.1 y.1) x.2.0 y.2.0 mine.0 theirs.0
      mine.1 theirs.1 in (
        subst (λ (r : PlanReply). SameReply r b) (sym x.2.3)
            (subst (λ (r : PlanReply). SameReply (reported_outcome x.2.1 x.2.0) r) (sym y.2.3) (one.2 x.2.1 y.2.1)),
        mine.2 ∙ ap (state_after_run way s) one.1 ∙ sym theirs.2,
      )

  -- A value that is read as a plan that is reported has one reply, but for the changes listed.
  pub one_report_reply : (d : RequestBehaviour State) (way : PlanRun) → ReportsAsMachine d way → (value : Data)
      (a b : PlanReply) (t u : State) → ServesReport d way s value (Ok a) t → ServesReport d way s value (Ok b) u
      → SameReply a b × (t ≡ u)
  one_report_reply d way is value (planned.Bad f) (planned.Bad g) t u x y =
      (ap planned.Bad (one_plan (Some value) (Err f) (Err g) x.0 y.0), x.1 ∙ sym y.1)
  one_report_reply d way is value (planned.Bad f) (planned.Done b) t u x y =
      absurd (one_plan (Some value) (Err f) (Ok y.0) x.0 y.1)
  one_report_reply d way is value (planned.Bad f) (planned.Refused n k) t u x y =
      absurd (one_plan (Some value) (Err f) (Ok y.0) x.0 y.1)
  one_report_reply d way is value (planned.Bad f) (planned.Reported b) t u x y =
      absurd (one_plan (Some value) (Err f) (Ok y.0) x.0 y.1)
  one_report_reply d way is value (planned.Done a) (planned.Bad g) t u x y =
      absurd (one_plan (Some value) (Ok x.0) (Err g) x.1 y.0)
  one_report_reply d way is value (planned.Refused m r) (planned.Bad g) t u x y =
      absurd (one_plan (Some value) (Ok x.0) (Err g) x.1 y.0)
  one_report_reply d way is value (planned.Reported a) (planned.Bad g) t u x y =
      absurd (one_plan (Some value) (Ok x.0) (Err g) x.1 y.0)
  one_report_reply d way is value (planned.Done a) (planned.Done b) t u x y =
      one_reported d way is value (planned.Done a) (planned.Done b) t u x y
  one_report_reply d way is value (planned.Done a) (planned.Refused n k) t u x y =
      one_reported d way is value (planned.Done a) (planned.Refused n k) t u x y
  one_report_reply d way is value (planned.Done a) (planned.Reported b) t u x y =
      one_reported d way is value (planned.Done a) (planned.Reported b) t u x y
  one_report_reply d way is value (planned.Refused m r) (planned.Done b) t u x y =
      one_reported d way is value (planned.Refused m r) (planned.Done b) t u x y
  one_report_reply d way is value (planned.Refused m r) (planned.Refused n k) t u x y =
      one_reported d way is value (planned.Refused m r) (planned.Refused n k) t u x y
  one_report_reply d way is value (planned.Refused m r) (planned.Reported b) t u x y =
      one_reported d way is value (planned.Refused m r) (planned.Reported b) t u x y
  one_report_reply d way is value (planned.Reported a) (planned.Done b) t u x y =
      one_reported d way is value (planned.Reported a) (planned.Done b) t u x y
  one_report_reply d way is value (planned.Reported a) (planned.Refused n k) t u x y =
      one_reported d way is value (planned.Reported a) (planned.Refused n k) t u x y
  one_report_reply d way is value (planned.Reported a) (planned.Reported b) t u x y =
      one_reported d way is value (planned.Reported a) (planned.Reported b) t u x y
