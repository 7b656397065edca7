-- Proves that requests that are performed one after another have one reply, but for the changes listed, and lead to one
-- state.
use Rattle.std.proofs.Common.{◌≡◌, ◌∙◌, ◌⊎◌, ◌∷◌, [], ◌++◌, List, Option, Some, None, Result, Ok, Err, inl, inr, refl, sym, ap}
use Rattle.std.proofs.Common.{subst, fold, map, Bool, true, false, codes}
use Rattle.std.specs.List.{AllByRecursion, join_with_byte}
use Rattle.serde_json.specs.Data.{Data, array}
use Rattle.serde_json.specs.View.{items_of}
use Rattle.thes_base.specs.declared.fault.Fault.{Fault}
use Rattle.thes_base.specs.declared.fault.FormFault.{FormFault}
use Rattle.thes_base.specs.declared.request.Answer.{Answer}
use Rattle.thes_base.specs.declared.request.Answer.TheVariants as answers
use Rattle.thes_base.specs.declared.request.Command.{Command}
use Rattle.thes_base.specs.Legal.{IsLegalState}
use Rattle.thes_base.specs.Machine.{Run, Step}
use Rattle.thes_base.specs.Refusals.{Setting, IsSetting}
use Rattle.thes_base.specs.State.{State}
use Rattle.thes_tables.specs.declared.change.Change.{Change}
use Rattle.thes_requests.specs.LineTexts.{line_item_text, report_of_each}
use Rattle.thes_requests.specs.Laws.{EndsInFault, SameReply}
use Rattle.thes_requests.specs.PlanForms.{IsEachArray}
use Rattle.thes_requests.specs.Readings.{ReadsAs}
use Rattle.thes_requests.specs.RequestBehaviour.{RequestBehaviour}
use Rattle.thes_requests.specs.Requests.{request_in}
use Rattle.thes_requests.specs.ScriptEnds.{end_after_answer, end_without_lines, latest_fault}
use Rattle.thes_requests.specs.Serving.{RunsEach, ServesEach, ServesElement, is_fault, query_answer}
use Rattle.thes_requests.specs.declared.answer.Reply.TheVariants as reply
use Rattle.thes_requests.specs.declared.handler.QueryAnswer.{QueryAnswer}
use Rattle.thes_requests.specs.declared.handler.QueryAnswer.TheVariants as viewed
use Rattle.thes_requests.specs.declared.line_serving.LineAnswer.{LineAnswer}
use Rattle.thes_requests.specs.declared.line_serving.LineAnswer.TheVariants.{Reply, View, Plan}
use Rattle.thes_requests.specs.declared.plan.PlanFault.TheVariants.{Whole}
use Rattle.thes_requests.specs.declared.plan_reply.PlanReply.{PlanReply}
use Rattle.thes_requests.specs.declared.plan_reply.Report.{Report}
use Rattle.thes_requests.specs.declared.plan_reply.PlanReply.TheVariants as planned
use Rattle.thes_requests.specs.declared.request.Query.{Query}
use Rattle.thes_requests.specs.declared.request.Request.{Request}
use Rattle.thes_requests.specs.declared.request.Request.TheVariants.{Do, Get}
use Rattle.thes_requests.specs.declared.script.ScriptEnd.{ScriptEnd}
use Rattle.thes_requests.proofs.PlanReadingLemmas.{same_array, same_items}
use Rattle.thes_requests.proofs.ReadingLemmas.{one_outcome}
use Rattle.thes_exchange.specs.QueryAnswers.{IsQueryAnswer}
use Rattle.thes_exchange.proofs.OneViewLemmas.{one_view}
use Rattle.thes_service.proofs.PlanAnswerLemmas.{one_step_after, run_more}

-- A handler that does commands and queries xs the machine does, faults aside.
pub record DoesAsMachine (setting : Setting) (d : RequestBehaviour State) : Type 0 where
  pub reports : (s : State) (command : Command) (a : Answer) (changes : List Change) (t : State)
      → d.reports s command (Ok a) changes t → Step setting s command a t
  pub shows : (s : State) (query : Query) (a : QueryAnswer) (t : State) → d.shows s query (Ok a) t
      → IsQueryAnswer s query (Ok a) × (t ≡ s)

-- The effect of what is read xs a request, in the state `m`, and the answer to it, which is no fault.
abbrev ElementEffect : Setting → State → Result Request FormFault → LineAnswer → State → Type 0
ElementEffect setting m (Ok (Do command)) a t =
    (own : Answer) × Step setting m command own t × (a ≡ Reply (reply.Answer own))
ElementEffect setting m (Ok (Get query)) a t =
    (own : QueryAnswer) × IsQueryAnswer m query (Ok own) × (t ≡ m) × (a ≡ query_answer (Ok own))
ElementEffect setting m (Err fault) a t = (t ≡ m) × (a ≡ Reply (reply.Bad fault))

abbrev HasEffect : Setting → State → Data → LineAnswer → State → Type 0
HasEffect setting m value a t =
    (x : Result Request FormFault) × ReadsAs (request_in value) x × ElementEffect setting m x a t

module _ (setting : Setting) (d : RequestBehaviour State) (does : DoesAsMachine setting d) where
  element_effect : (m t : State) (value : Data) (a : LineAnswer) (changes : List Change)
      → ServesElement d m value a changes t → is_fault a ≡ false → HasEffect setting m value a t
  element_effect m t value (Reply (reply.Answer a)) changes (inl p) fine =
      (Ok (Do p.0), p.1, (a, does.reports m p.0 a changes t p.2, refl))
  element_effect m t value (Reply (reply.Answer a)) changes (inr p) fine =
      let shown = does.shows m p.0 (viewed.No p.1) t p.3 in
      (Ok (Get p.0), p.2, (viewed.No p.1, shown.0, shown.1, ap (λ c. Reply (reply.Answer c)) p.4))
  element_effect m t value (Reply (reply.Bad f)) changes p fine = (Err f, p.0, (p.2, refl))
  element_effect m t value (Reply (reply.Fault f)) changes p fine = absurd (cc)
  element_effect m t value (View text) changes p fine =
      let shown = does.shows m p.0 (viewed.Page text) t p.2 in
      (Ok (Get p.0), p.1, (viewed.Page text, shown.0, shown.1, refl))
  element_effect m t value (Plan r) changes p fine = absurd p

module _ (setting : Setting) (fit : IsSetting setting) (s : State) (legal : IsLegalState setting.base s) where
  one_element : (commands : List Command) (before : List Answer) (m t u : State) → Run setting s commands before m
      → (x : Result Request FormFault) (a b : LineAnswer) → ElementEffect setting m x a t
      → ElementEffect setting m x b u → (a ≡ b) × (t ≡ u)
  one_element commands before m t u run (Ok (Do command)) a b x y =
      let one = one_step_after setting fit s legal commands before m t u run command command refl x.0 y.0 x.1 y.1 in
      (x.2 ∙ ap (λ c. Reply (reply.Answer c)) one.0 ∙ sym y.2, one.1)
  one_element commands before m t u run (Ok (Get query)) a b x y =
      let one = one_view m query x.0 y.0 x.1 y.1 in
      (x.3 ∙ ap (λ c. query_answer (Ok c)) one ∙ sym y.3, x.2 ∙ sym y.2)
  one_element commands before m t u run (Err fault) a b x y = (x.1 ∙ sym y.1, x.0 ∙ sym y.0)

  -- A run that leads to the state before an element goes on to the state after it.
  abbrev RunTo : State → Type 0
  RunTo m = (commands : List Command) × (before : List Answer) × Run setting s commands before m

  run_on : (m t : State) (x : Result Request FormFault) (a : LineAnswer) → RunTo m → ElementEffect setting m x a t
      → RunTo t
  run_on m t (Ok (Do command)) a (commands, before, run) x =
      (commands ++ command ∷ [], before ++ x.0 ∷ [], run_more setting s m t commands before command x.0 run x.1)
  run_on m t (Ok (Get query)) a (commands, before, run) x =
      (commands, before, subst (λ (k : State). Run setting s commands before k) (sym x.2) run)
  run_on m t (Err fault) a (commands, before, run) x =
      (commands, before, subst (λ (k : State). Run setting s commands before k) (sym x.0) run)

  module _ (d : RequestBehaviour State) (does : DoesAsMachine setting d) where
    one_each : (values : List Data) (xs ys : List LineAnswer) (cs es : List Change) (m t u : State) → RunTo m
        → RunsEach d m values xs cs t → RunsEach d m values ys es u → AllByRecursion (λ a. is_fault a ≡ false) xs
        → AllByRecursion (λ b. is_fault b ≡ false) ys → (xs ≡ ys) × (t ≡ u)
    one_each [] [] [] cs es m t u run x y fine fine' = (refl, x.1 ∙ sym y.1)
    one_each [] [] (b ∷ ys) cs es m t u run x y fine fine' = absurd y
    one_each [] (a ∷ xs) ys cs es m t u run x y fine fine' = absurd x
    one_each (v ∷ values) [] ys cs es m t u run x y fine fine' = absurd x
    one_each (v ∷ values) (a ∷ xs) [] cs es m t u run x y fine fine' = absurd y
    one_each (v ∷ values) (a ∷ xs) (b ∷ ys) cs es m t u run (p, first, rest, is, did, inl x) y fine fine' =
        absurd (let bad : true ≡ false = sym x.0 ∙ fine.0 in cc)
    one_each (v ∷ values) (a ∷ xs) (b ∷ ys) cs es m t u run (p, first, rest, is, did, inr x)
        (q, first', rest', is', did', inl y) fine fine' =
        absurd (let bad : true ≡ false = sym y.0 ∙ fine'.0 in cc)
    one_each (v ∷ values) (a ∷ xs) (b ∷ ys) cs es m t u run (p, first, rest, is, did, inr x)
        (q, first', rest', is', did', inr y) fine fine' =
        let mine = element_effect setting d does m p v a first did fine.0 in
        let theirs = element_effect setting d does m q v b first' did' fine'.0 in
        let read = one_outcome (request_in v) theirs.0 mine.0 theirs.1 mine.1 in
        let effect = subst (λ (r : Result Request FormFault). ElementEffect setting m r b q) read theirs.2 in
        let one = one_element run.0 run.1 m p q run.2 mine.0 a b mine.2 effect in
        let more = one_each values xs ys rest rest' p t u (run_on m p mine.0 a run mine.2) x.1
        (subst (λ (k : State). RunsEach d k values ys rest' u) (sym one.1) y.1) fine.1 fine'.1 in
        (λ i. one.0 i ∷ more.0 i, more.1)

-- A fault that was noted stays noted.
fault_stays : (e : ScriptEnd) (a : LineAnswer) → let after = end_after_answer e a in after.fault ≡ None
    → e.fault ≡ None
fault_stays e (Reply (reply.Answer (answers.No r))) h = h
fault_stays e (Reply (reply.Answer (answers.Number n))) h = h
fault_stays e (Reply (reply.Answer (answers.Again n))) h = h
fault_stays e (Reply (reply.Answer answers.Done)) h = h
fault_stays e (Reply (reply.Answer (answers.Moved k))) h = h
fault_stays e (Reply (reply.Answer (answers.Parted n k))) h = h
fault_stays e (Reply (reply.Bad f)) h = h
fault_stays e (Reply (reply.Fault f)) h = absurd (cc)
fault_stays e (View text) h = h
fault_stays e (Plan (planned.Done line)) h = h
fault_stays e (Plan (planned.Reported report)) h = last_none e.fault report.end.fault h
  where
    last_none : (o p : Option Fault) → latest_fault o p ≡ None → o ≡ None
    last_none o None h = h
    last_none o (Some f) h = absurd (cc)
fault_stays e (Plan (planned.Refused place refusal)) h = h
fault_stays e (Plan (planned.Bad f)) h = h

faults_stay : (e : ScriptEnd) (xs : List LineAnswer) → let after = fold end_after_answer e xs in after.fault ≡ None
    → e.fault ≡ None
faults_stay e [] h = h
faults_stay e (a ∷ xs) h = fault_stays e a (faults_stay (end_after_answer e a) xs h)

no_fault : (e : ScriptEnd) (a : LineAnswer) → let after = end_after_answer e a in after.fault ≡ None
    → is_fault a ≡ false
no_fault e (Reply (reply.Answer a)) h = refl
no_fault e (Reply (reply.Bad f)) h = refl
no_fault e (Reply (reply.Fault f)) h = absurd (cc)
no_fault e (View text) h = refl
no_fault e (Plan r) h = refl

-- If no fault is noted, no answer is a fault.
no_faults : (e : ScriptEnd) (xs : List LineAnswer) → let after = fold end_after_answer e xs in after.fault ≡ None
    → AllByRecursion (λ a. is_fault a ≡ false) xs
no_faults e [] h = tt
no_faults e (a ∷ xs) h =
    (no_fault e a (faults_stay (end_after_answer e a) xs h), no_faults (end_after_answer e a) xs h)

module _ (setting : Setting) (fit : IsSetting setting) (s : State) (legal : IsLegalState setting.base s)
    (d : RequestBehaviour State) (does : DoesAsMachine setting d) where
  abbrev Determined : PlanReply → PlanReply → State → State → Type 0
  Determined a b t u = (SameReply a b × (t ≡ u)) ⊎ (EndsInFault a ⊎ EndsInFault b)

  one_run_reply : (values : List Data) (xs ys : List LineAnswer) (cs es : List Change) (t u : State)
      → RunsEach d s values xs cs t → RunsEach d s values ys es u → (o p : Option Fault)
      → (let r = report_of_each cs xs in let e = r.end in e.fault ≡ o)
      → (let r = report_of_each es ys in let e = r.end in e.fault ≡ p)
      → Determined (planned.Reported (report_of_each cs xs)) (planned.Reported (report_of_each es ys)) t u
  one_run_reply values xs ys cs es t u x y (Some f) p e g = inr (inl (f, e))
  one_run_reply values xs ys cs es t u x y None (Some f) e g = inr (inr (f, g))
  one_run_reply values xs ys cs es t u x y None None e g =
      let one = one_each setting fit s legal d does values xs ys cs es s t u ([], [], refl) x y
      (no_faults end_without_lines xs e) (no_faults end_without_lines ys g) in
      inl (
        (
          ap (λ (zs : List LineAnswer). let r = report_of_each [] zs in r.answers) one.0,
          ap (fold end_after_answer end_without_lines) one.0,
        ),
        one.1,
      )

  -- A value that is read xs requests to be performed each by itself has one reply, but for the changes listed.
  pub one_each_reply : (value : Data) (a b : PlanReply) (t u : State) → ServesEach d s value (Ok a) t
      → ServesEach d s value (Ok b) u → (SameReply a b × (t ≡ u)) ⊎ (EndsInFault a ⊎ EndsInFault b)
  one_each_reply value (planned.Bad f) (planned.Bad g) t u x y =
      inl (ap planned.Bad (x.0 ∙ sym y.0), x.2 ∙ sym y.2)
  one_each_reply value (planned.Bad f) (planned.Reported r) t u x y = absurd (x.1 y.0 y.3)
  one_each_reply value (planned.Bad f) (planned.Done line) t u x y = absurd y
  one_each_reply value (planned.Bad f) (planned.Refused place refusal) t u x y = absurd y
  one_each_reply value (planned.Done line) b t u x y = absurd x
  one_each_reply value (planned.Refused place refusal) b t u x y = absurd x
  one_each_reply value (planned.Reported r) (planned.Bad f) t u x y = absurd (y.1 x.0 x.3)
  one_each_reply value (planned.Reported r) (planned.Done line) t u x y = absurd y
  one_each_reply value (planned.Reported r) (planned.Refused place refusal) t u x y = absurd y
  one_each_reply value (planned.Reported r) (planned.Reported q) t u x y =
      let arrays : array (items_of y.0) ≡ array (items_of x.0) =
      (let mine = x.3 in let theirs = y.3 in sym theirs.is_array ∙ mine.is_array) in
      let values : y.0 ≡ x.0 = same_items y.0 x.0 (same_array (items_of y.0) (items_of x.0) arrays) in
      let theirs = subst (λ (ds : List Data). RunsEach d s ds y.1 y.2 u) values y.4 in
      subst (λ (p : Report × Report). (SameReply (planned.Reported p.0) (planned.Reported p.1) × (t ≡ u))
      ⊎ (EndsInFault (planned.Reported p.0) ⊎ EndsInFault (planned.Reported p.1)))
      (λ i. ((sym x.5) i, (sym y.5) i))
      (one_run_reply x.0 x.1 y.1 x.2 y.2 t u x.4 theirs _ _ refl refl)
