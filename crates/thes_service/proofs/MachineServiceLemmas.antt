-- Proves that each call of the machine, seen as a service, has one answer and one state after it, unless memory runs
-- out or the storage fails.
use Rattle.std.proofs.Common.{◌≡◌, ◌∙◌, ◌⊎◌, ◌++◌, ◌∷◌, [], ℕ, Bool, List, Option, Some, None, Result, Ok, Err, inl, inr}
use Rattle.std.proofs.Common.{refl, sym, ap, codes}
use Rattle.thes_base.specs.declared.data.Resource.{Resource}
use Rattle.thes_base.specs.declared.fault.Fault.{Fault}
use Rattle.thes_base.specs.declared.fault.Fault.TheVariants.{OutOfMemory, Store}
use Rattle.thes_base.specs.declared.fault.Refusal.{Refusal}
use Rattle.thes_base.specs.declared.fault.Refusal.TheVariants as no
use Rattle.thes_base.specs.declared.request.Answer.{Answer}
use Rattle.thes_base.specs.declared.request.Command.{Command}
use Rattle.thes_base.specs.Legal.{IsLegalState}
use Rattle.thes_base.specs.Machine.{Step}
use Rattle.thes_base.specs.Refusals.{Setting, IsSetting}
use Rattle.thes_base.specs.Resources.{IsScheme}
use Rattle.thes_base.specs.State.{State}
use Rattle.serde_json.specs.Data.{Data}
use Rattle.thes_plans.specs.Plans.{IsPlanOutcome}
use Rattle.thes_requests.specs.declared.plan_reply.PlanReply.{PlanReply}
use Rattle.thes_requests.specs.Requests.{json_in}
use Rattle.thes_requests.specs.Serving.{ServesArray, ServesForm, ServesPlan, ServesReport}
use Rattle.thes_plans.specs.declared.plan.PlanRun.{PlanRun}
use Rattle.thes_plans.specs.declared.plan.PlanRun.TheVariants as run
use Rattle.thes_requests.specs.Laws.{EndsInFault, SameReply}
use Rattle.thes_requests.specs.PlanForms.{form_in, sole_member}
use Rattle.thes_requests.specs.declared.plan_form.PlanForm.{PlanForm}
use Rattle.thes_requests.specs.declared.plan_form.PlanForm.TheVariants as form
use Rattle.thes_service.proofs.EachAnswerLemmas.{one_each_reply}
use Rattle.thes_service.proofs.EffectLemmas.{one_step}
use Rattle.thes_service.proofs.PlanAnswerLemmas.{one_array_reply, one_report_reply, state_after_run}
use Rattle.thes_exchange.specs.QueryAnswers.{IsQueryAnswer}
use Rattle.thes_exchange.proofs.OneViewLemmas.{one_view}
use Rattle.thes_display.specs.DisplayWrites.{IsDisplay, IsSchemeRefusal}
use Rattle.thes_display.proofs.OneTextLemmas.{one_alphabetical, one_hierarchical}
use Rattle.thes_export.specs.Export.{IsExport}
use Rattle.thes_export.proofs.ExportLemmas.{one_text}
use Rattle.thes_import.specs.OneImport.{ReportSame}
use Rattle.thes_posting_files.specs.declared.report.Report.{Report}
use Rattle.thes_import.proofs.OneImportLemmas.{IsImportOf, one_import_of}
use Rattle.thes_http.specs.declared.response.MediaType.TheVariants.{Json, Plain}
use Rattle.thes_http.specs.declared.response.Response.{Response}
use Rattle.thes_requests.specs.declared.request.Display.{Display}
use Rattle.thes_requests.specs.declared.request.Display.TheVariants as which
use Rattle.thes_requests.specs.declared.handler.QueryAnswer.{QueryAnswer}
use Rattle.thes_requests.specs.declared.handler.QueryAnswer.TheVariants as answered
use Rattle.thes_http.specs.Laws.{AnswerOneCall, command_answers, plan_answers, query_answers, import_answers, export_answers}
use Rattle.thes_http.specs.Laws.{display_answers, no_call, HasOneAnswerToACall}
use Rattle.thes_http.specs.Responses.{fault_response, command_response, plan_response, query_response, import_response}
use Rattle.thes_http.specs.Responses.{export_response}
use Rattle.thes_http.specs.ServiceBehaviour.{ServiceBehaviour}
use Rattle.thes_http.specs.Serving.{Answers}
use Rattle.thes_http.specs.Laws.{SameResponse}
use Rattle.thes_http.proofs.AnswerLemmas.{one_call}
use Rattle.thes_http.proofs.SameResponseLemmas.{same_replies, same_reply_responses, same_responses}
use Rattle.thes_service.specs.Laws.{ReportsFailure}
use Rattle.thes_service.specs.Service.{IsDisplayed, import_answer}

-- Memory ran out, or the storage failed.
abbrev pub IsFailure : Fault → Type 0
IsFailure fault = (fault ≡ OutOfMemory) ⊎ (fault ≡ Store)

-- The value has the property, or the fault is a failure.
abbrev pub HoldsUnlessFailure : {A : Type 0} → (A → Type 0) → Result A Fault → Type 0
HoldsUnlessFailure P (Ok x) = P x
HoldsUnlessFailure P (Err fault) = IsFailure fault

module _ (setting : Setting) where
  -- The answer reports an import of the file that leads from `s` to `t`.
  abbrev pub ImportAnswers : State → List ℕ → Option (List ℕ) → State → Type 0
  ImportAnswers s file answer t =
      (done : Option Report) × IsImportOf setting s file done t × (Ok answer ≡ import_answer (Ok done))

  -- The machine as a service, which takes plans or doesn't; the state after a call that fails isn't specified.
  abbrev pub machine_service : Bool → ServiceBehaviour State
  machine_service takes = record {
    requests = record {
      performs = λ s command result t. HoldsUnlessFailure (λ answer. Step setting s command answer t) result;
      shows = λ s query result t. HoldsUnlessFailure (λ answer. IsQueryAnswer s query (Ok answer) × (t ≡ s)) result;
      reports = λ s command result changes t. HoldsUnlessFailure (λ answer. Step setting s command answer t) result;
      takes_plans = λ s. takes;
      performs_plan = λ s plan result t. HoldsUnlessFailure (λ outcome. IsPlanOutcome setting s plan outcome t) result;
      reports_plan = λ s way plan result changes t. HoldsUnlessFailure (λ outcome.
          (u : State) × IsPlanOutcome setting s plan outcome u × (t ≡ state_after_run way s u)) result;
    };
    imports = λ s file result t. HoldsUnlessFailure (λ answer. ImportAnswers s file answer t) result;
    exports = λ s result t. HoldsUnlessFailure (λ text. IsExport setting.base s text × (t ≡ s)) result;
    displays = λ s display scheme tag result t.
        HoldsUnlessFailure (λ answer. IsDisplayed display scheme tag s answer × (t ≡ s)) result;
  }

one_display : (display : Display) (scheme : ℕ) (tag : List ℕ) (s : State) (x y : List ℕ)
    → IsDisplay display scheme tag s x → IsDisplay display scheme tag s y → x ≡ y
one_display which.Alphabetical scheme tag s x y a b = one_alphabetical s scheme tag x y a b
one_display which.Hierarchical scheme tag s x y a b = one_hierarchical s scheme tag x y a b

scheme_is_not_refused : (resources : List Resource) (n : ℕ) (r : Refusal) → IsScheme resources n
    → IsSchemeRefusal resources n r → ⊥
scheme_is_not_refused resources n no.UnknownResource scheme refused = refused (scheme.0, scheme.1)
scheme_is_not_refused resources n no.WrongKind scheme refused = refused.1 scheme
scheme_is_not_refused resources n _ scheme refused = refused

one_scheme_refusal : (resources : List Resource) (n : ℕ) (r q : Refusal) → IsSchemeRefusal resources n r
    → IsSchemeRefusal resources n q → r ≡ q
one_scheme_refusal resources n no.UnknownResource no.UnknownResource a b = refl
one_scheme_refusal resources n no.UnknownResource no.WrongKind a b = absurd (a b.0)
one_scheme_refusal resources n no.UnknownResource _ a b = absurd b
one_scheme_refusal resources n no.WrongKind no.UnknownResource a b = absurd (b a.0)
one_scheme_refusal resources n no.WrongKind no.WrongKind a b = refl
one_scheme_refusal resources n no.WrongKind _ a b = absurd b
one_scheme_refusal resources n _ q a b = absurd a

one_display_answer : (display : Display) (scheme : ℕ) (tag : List ℕ) (s : State) (a b : QueryAnswer)
    → IsDisplayed display scheme tag s a → IsDisplayed display scheme tag s b → a ≡ b
one_display_answer display scheme tag s (answered.Page x) (answered.Page y) a b =
    ap answered.Page (one_display display scheme tag s x y a.1 b.1)
one_display_answer display scheme tag s (answered.Page x) (answered.No r) a b =
    absurd (scheme_is_not_refused s.resources scheme r a.0 b)
one_display_answer display scheme tag s (answered.No r) (answered.Page y) a b =
    absurd (scheme_is_not_refused s.resources scheme r b.0 a)
one_display_answer display scheme tag s (answered.No r) (answered.No q) a b =
    ap answered.No (one_scheme_refusal s.resources scheme r q a b)

same_import_answer : (a b : Option Report) → ReportSame a b → import_answer (Ok a) ≡ import_answer (Ok b)
same_import_answer (Some report) (Some other) same = ap (λ text. Ok (Some text)) same.0
same_import_answer (Some report) None same = absurd same
same_import_answer None (Some other) same = absurd same
same_import_answer None None same = refl

module _ (setting : Setting) (fit : IsSetting setting) (s : State) (legal : IsLegalState setting.base s) where
  one_import : (file : List ℕ) (a b : Option (List ℕ)) (t u : State) → ImportAnswers setting s file a t
      → ImportAnswers setting s file b u → (a ≡ b) × (t ≡ u)
  one_import file a b t u x y =
      let one = one_import_of setting fit s t u legal file x.0 y.0 x.1 y.1 in
      let both = x.2 ∙ same_import_answer x.0 y.0 one.0 ∙ sym y.2 in
      let same : a ≡ b = cc in
      (same, one.1)

module _ (setting : Setting) (takes : Bool) (fit : IsSetting setting) (s : State)
    (legal : IsLegalState setting.base s) where
  abbrev Machine : ServiceBehaviour State
  Machine = machine_service setting takes

  same_arrays : (value : Option Data) (a b : PlanReply) (t u : State)
      → ServesArray Machine.requests s value (Ok a) t → ServesArray Machine.requests s value (Ok b) u
      → SameReply a b × (t ≡ u)
  same_arrays value a b t u x y =
      let one = one_array_reply setting fit s legal Machine.requests (λ plan o v performed. performed) value a b t u x y
      in
      (same_replies a b one.0, one.1)

  one_form_reply : (which : PlanForm) (value : Data) (a b : PlanReply) (t u : State)
      → ServesForm Machine.requests which s value (Ok a) t → ServesForm Machine.requests which s value (Ok b) u
      → (SameReply a b × (t ≡ u)) ⊎ (EndsInFault a ⊎ EndsInFault b)
  one_form_reply form.Array value a b t u x y = inl (same_arrays (Some value) a b t u x y)
  one_form_reply form.Perform value a b t u x y =
      inl (one_report_reply setting fit s legal Machine.requests run.Perform (λ plan o changes v did. did)
      (sole_member (codes "perform") value) a b t u x y)
  one_form_reply form.Try value a b t u x y =
      inl (one_report_reply setting fit s legal Machine.requests run.Try (λ plan o changes v did. did)
      (sole_member (codes "try") value) a b t u x y)
  one_form_reply form.Each value a b t u x y =
      one_each_reply setting fit s legal Machine.requests
      (record { reports = λ m command c changes v did. did; shows = λ m query c v did. did })
      (sole_member (codes "each") value) a b t u x y

  -- A text that is read as several requests has one reply, but for the changes listed, and leads to one state.
  one_plan_reply : (value : Option Data) (a b : PlanReply) (t u : State)
      → ServesPlan Machine.requests s value (Ok a) t → ServesPlan Machine.requests s value (Ok b) u
      → (SameReply a b × (t ≡ u)) ⊎ (EndsInFault a ⊎ EndsInFault b)
  one_plan_reply None a b t u x y = inl (same_arrays None a b t u x y)
  one_plan_reply (Some value) a b t u x y = one_form_reply (form_in value) value a b t u x y

  -- Each call of the machine as a service has one answer and one state after it.
  pub machine_has_one_answer : HasOneAnswerToACall (machine_service setting takes) s
  machine_has_one_answer = record {
    performs = one_step setting fit s legal;
    shows = λ query a b t u x y. (one_view s query a b x.0 y.0, x.1 ∙ sym y.1);
    plans = λ body. one_plan_reply (json_in body);
    imports = one_import setting fit s legal;
    exports = λ a b t u x y. (one_text setting.base s a b x.0 y.0, x.1 ∙ sym y.1);
    displays = λ display scheme tag a b t u x y.
        (one_display_answer display scheme tag s a b x.0 y.0, x.1 ∙ sym y.1);
  }

  abbrev pub IsOneAnswer : State → Response → State → Response → Type 0
  IsOneAnswer t r u q = (SameResponse r q × (t ≡ u)) ⊎ (ReportsFailure r ⊎ ReportsFailure q)

  reports : (r : Response) (fault : Fault) → IsFailure fault → r ≡ fault_response fault → ReportsFailure r
  reports r fault (inl is) e = inl (e ∙ ap fault_response is)
  reports r fault (inr is) e = inr (inl (e ∙ ap fault_response is))

  -- Two results of one call are the same, unless one of them is a failure.
  same_results : {A : Type 0} (response : Result A Fault → Response) (P : Result A Fault → State → Type 0)
      (t u : State) (r q : Response) → ((f : Fault) → response (Err f) ≡ fault_response f)
      → ((f : Fault) (v : State) → P (Err f) v → IsFailure f)
      → ((a b : A) → P (Ok a) t → P (Ok b) u → (a ≡ b) × (t ≡ u)) → (a b : Result A Fault) → P a t → P b u
      → r ≡ response a → q ≡ response b → IsOneAnswer t r u q
  same_results response P t u r q fault fails one (Ok a) (Ok b) x y e f =
      let same = one a b x y in
      inl (same_responses r q (e ∙ ap (λ c. response (Ok c)) same.0 ∙ sym f), same.1)
  same_results response P t u r q fault fails one (Err g) b x y e f =
      inr (inl (reports r g (fails g t x) (e ∙ fault g)))
  same_results response P t u r q fault fails one (Ok a) (Err g) x y e f =
      inr (inr (reports q g (fails g u y) (f ∙ fault g)))

  array_fails : (value : Option Data) (f : Fault) (v : State) → ServesArray Machine.requests s value (Err f) v
      → IsFailure f
  array_fails value f v (inl x) = inl x.0
  array_fails value f v (inr x) = x.2

  report_fails : (way : PlanRun) (value : Data) (f : Fault) (v : State)
      → ServesReport Machine.requests way s value (Err f) v → IsFailure f
  report_fails way value f v (inl x) = inl x.0
  report_fails way value f v (inr x) = x.2

  form_fails : (which : PlanForm) (value : Data) (f : Fault) (v : State)
      → ServesForm Machine.requests which s value (Err f) v → IsFailure f
  form_fails form.Array value f v x = array_fails (Some value) f v x
  form_fails form.Perform value f v x = report_fails run.Perform (sole_member (codes "perform") value) f v x
  form_fails form.Try value f v x = report_fails run.Try (sole_member (codes "try") value) f v x
  form_fails form.Each value f v x = inl x.0

  -- A plan that is answered with a fault alone is one for which memory ran out, or the storage failed.
  plan_fails : (value : Option Data) (f : Fault) (v : State) → ServesPlan Machine.requests s value (Err f) v
      → IsFailure f
  plan_fails None f v x = array_fails None f v x
  plan_fails (Some value) f v x = form_fails (form_in value) value f v x

  -- Two results of several requests are the same, but for the changes listed, unless one of them has a failure.
  same_plans : (value : Option Data) (t u : State) (r q : Response) (a b : Result PlanReply Fault)
      → ServesPlan Machine.requests s value a t → ServesPlan Machine.requests s value b u → r ≡ plan_response a
      → q ≡ plan_response b → IsOneAnswer t r u q
  same_plans value t u r q (Ok a) (Ok b) x y e f = elim (one_plan_reply value a b t u x y) [
    | inl same ↦ inl (same_reply_responses a b r q same.0 e f, same.1)
    | inr (inl fails) ↦ inr (inl (inr (inr (a, fails, e))))
    | inr (inr fails) ↦ inr (inr (inr (inr (b, fails, f))))
  ]
  same_plans value t u r q (Err g) b x y e f = inr (inl (reports r g (plan_fails value g t x) e))
  same_plans value t u r q (Ok a) (Err g) x y e f = inr (inr (reports q g (plan_fails value g u y) f))

  same_call : (t u : State) (r q : Response) → AnswerOneCall Machine s r t q u → IsOneAnswer t r u q
  same_call t u r q (command_answers command a b x y e f) = same_results command_response
      (λ c v. Machine.requests.performs s command c v) t u r q (λ g. refl) (λ g v z. z)
      (λ c d. machine_has_one_answer.performs command c d t u) a b x y e f
  same_call t u r q (plan_answers body a b x y e f) = same_plans (json_in body) t u r q a b x y e f
  same_call t u r q (query_answers query a b x y e f) = same_results (query_response Json)
      (λ c v. Machine.requests.shows s query c v) t u r q (λ g. refl) (λ g v z. z)
      (λ c d. machine_has_one_answer.shows query c d t u) a b x y e f
  same_call t u r q (import_answers file a b x y e f) = same_results import_response
      (λ c v. Machine.imports s file c v) t u r q (λ g. refl) (λ g v z. z)
      (λ c d. machine_has_one_answer.imports file c d t u) a b x y e f
  same_call t u r q (export_answers a b x y e f) = same_results export_response
      (λ c v. Machine.exports s c v) t u r q (λ g. refl) (λ g v z. z)
      (λ c d. machine_has_one_answer.exports c d t u) a b x y e f
  same_call t u r q (display_answers display scheme tag a b x y e f) = same_results (query_response Plain)
      (λ c v. Machine.displays s display scheme tag c v) t u r q (λ g. refl) (λ g v z. z)
      (λ c d. machine_has_one_answer.displays display scheme tag c d t u) a b x y e f
  same_call t u r q (no_call e x y) = inl (same_responses r q e, x ∙ sym y)

  -- The bytes and the state before determine the response of the machine as a service, and the state after it.
  pub one_machine_answer : (t u : State) (r q : Response) (bytes more : List ℕ) → Answers Machine s r t bytes
      → Answers Machine s q u (bytes ++ more) → IsOneAnswer t r u q
  one_machine_answer t u r q bytes more a b = elim (one_call Machine s t u r q bytes more a b) [
    | inl call ↦ same_call t u r q call
    | inr (inl out) ↦ inr (inl (inl out.0))
    | inr (inr out) ↦ inr (inr (inl out.0))
  ]
