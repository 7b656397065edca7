-- Proves that the bytes of a script determine the outcomes of its lines.
use Rattle.std.proofs.Common.{◌≡◌, ◌∙◌, ◌∷◌, [], ℕ, Bool, List, Option, None, Some, true, false, Result, Ok, Err, inl, inr, refl, sym, ap, subst}
use Rattle.std.specs.List.{AllByRecursion}
use Rattle.std.specs.Str.Lines.{lines}
use Rattle.thes_base.specs.declared.data.Limits.{Limits}
use Rattle.thes_base.specs.declared.fault.FormFault.{FormFault}
use Rattle.thes_base.specs.declared.request.Answer.{Answer}
use Rattle.thes_base.specs.Legal.{IsLegalState}
use Rattle.thes_base.specs.Machine.{Step}
use Rattle.thes_base.specs.Refusals.{Setting, AreLimits}
use Rattle.thes_base.specs.State.{State}
use Rattle.thes_base.proofs.MachineLemmas.{legal_is_consistent}
use Rattle.thes_store.specs.Storage.{StorageView}
use Rattle.thes_office.specs.Office.{OfficeView, setting as setting_of}
use Rattle.thes_office.specs.TablesOfState.{TablesOfState, EncodeOneState}
use Rattle.thes_office.proofs.StepLemmas.{setting_fits}
use Rattle.thes_requests.specs.declared.answer.Reply.TheVariants as reply
use Rattle.thes_requests.specs.declared.handler.QueryAnswer.{QueryAnswer}
use Rattle.thes_requests.specs.declared.handler.QueryAnswer.TheVariants as viewed
use Rattle.thes_requests.specs.declared.request.Request.{Request}
use Rattle.thes_requests.specs.declared.request.Request.TheVariants.{Do, Get}
use Rattle.thes_requests.specs.declared.line_serving.LineAnswer.{LineAnswer}
use Rattle.thes_requests.specs.declared.plan_reply.PlanReply.{PlanReply}
use Rattle.thes_requests.specs.declared.line_serving.LineAnswer.TheVariants.{Reply, View, Plan}
use Rattle.thes_requests.specs.declared.line_serving.LineOutcome.{LineOutcome}
use Rattle.thes_requests.specs.declared.line_serving.LineOutcome.TheVariants.{Skipped, Unheld, Answered}
use Rattle.thes_requests.specs.Readings.{ReadsAs}
use Rattle.thes_requests.specs.Requests.{json_in, request_of}
use Rattle.thes_requests.specs.Script.{RunLines, StepLine, is_blank}
use Rattle.thes_requests.specs.Serving.{ServesPlan, is_plan_line, query_answer}
use Rattle.thes_requests.proofs.ReadingLemmas.{one_outcome}
use Rattle.thes_exchange.specs.QueryAnswers.{IsQueryAnswer}
use Rattle.thes_exchange.proofs.OneViewLemmas.{one_view}
use Rattle.thes_import.proofs.OneImportLemmas.{run_from_state}
use Rattle.thes_http.proofs.SameResponseLemmas.{same_replies}
use Rattle.thes_service.specs.Laws.{HasOneScript, IsFailedLine, SameOutcome, SameOutcomes}
use Rattle.thes_service.specs.OfficeRequests.{OfficeServes}
use Rattle.thes_service.proofs.EffectLemmas.{Effect, one_effect}
use Rattle.thes_service.proofs.MachineServiceLemmas.{machine_has_one_answer, machine_service}
use Rattle.thes_service.proofs.SimulationLemmas.{serves_plan}
use Rattle.thes_service.specs.Service.{office_behaviour}
use Rattle.thes_service.proofs.OfficeAnswerLemmas.{does_as_machine}
use Rattle.thes_service.proofs.ScriptRunLemmas.{led_start, lines_reached, step_reached}

-- The effect in the machine of a line that isn't a plan, by how the line is read, and the answer to it.
abbrev RequestEffect : Setting → State → List ℕ → LineAnswer → State → Type 0
RequestEffect setting s line answer t =
    (x : Result Request FormFault) × ReadsAs (request_of line) x × Effect setting s x answer t

-- The effect in the machine of a line that is a plan, and the answer to it.
abbrev PlanEffect : Bool → Setting → State → List ℕ → LineAnswer → State → Type 0
PlanEffect takes setting s line answer t =
    (own : PlanReply) × ServesPlan (machine_service setting takes).requests s (json_in line) (Ok own) t
    × (answer ≡ Plan own)

-- The effect of a line in the machine, given whether the line is a plan.
abbrev EffectByKind : Bool → Bool → Setting → State → List ℕ → LineAnswer → State → Type 0
EffectByKind true takes setting s line answer t = PlanEffect takes setting s line answer t
EffectByKind false takes setting s line answer t = RequestEffect setting s line answer t

-- The effect of a line in the machine, which takes plans or doesn't.
abbrev LineEffect : Bool → Setting → State → List ℕ → LineAnswer → State → Type 0
LineEffect takes setting s line answer t = EffectByKind (is_plan_line takes line) takes setting s line answer t

one_request_effect : (setting : Setting) → AreLimits setting.limits → (s t u : State) → IsLegalState setting.base s
    → (line : List ℕ) (a b : LineAnswer) → RequestEffect setting s line a t → RequestEffect setting s line b u
    → (a ≡ b) × (t ≡ u)
one_request_effect setting few s t u legal line a b x y =
    let same = one_outcome (request_of line) y.0 x.0 y.1 x.1 in
    one_effect setting few s t u legal x.0 a b x.2
    (subst (λ (r : Result Request FormFault). Effect setting s r b u) same y.2)

-- Two answers to a line are the same, but for the changes of rows that their reports list.
abbrev SameAnswer : LineAnswer → LineAnswer → Type 0
SameAnswer a b = SameOutcome (Answered a) (Answered b)

same_answer_itself : (a : LineAnswer) → SameAnswer a a
same_answer_itself (Plan own) = same_replies own own refl
same_answer_itself (Reply own) = refl
same_answer_itself (View text) = refl

same_answers : (a b : LineAnswer) → a ≡ b → SameAnswer a b
same_answers a b e = subst (λ (c : LineAnswer). SameAnswer a c) e (same_answer_itself a)

one_plan_effect : (takes : Bool) (setting : Setting) → AreLimits setting.limits → (s t u : State)
    → IsLegalState setting.base s → (line : List ℕ) (a b : LineAnswer) → PlanEffect takes setting s line a t
    → PlanEffect takes setting s line b u → (¬ IsFailedLine (Answered a)) → (¬ IsFailedLine (Answered b))
    → SameAnswer a b × (t ≡ u)
one_plan_effect takes setting few s t u legal line a b x y fine fine' =
    let machine = machine_has_one_answer setting takes (setting_fits setting s few legal) s legal in
    elim (machine.plans line x.0 y.0 t u x.1 y.1) [
      | inl one ↦ (
        subst (λ (c : LineAnswer). SameAnswer c b) (sym x.2)
            (subst (λ (c : LineAnswer). SameAnswer (Plan x.0) c) (sym y.2) one.0),
        one.1,
      )
      | inr (inl fails) ↦ absurd (fine (subst (λ (c : LineAnswer). IsFailedLine (Answered c)) (sym x.2) fails))
      | inr (inr fails) ↦ absurd (fine' (subst (λ (c : LineAnswer). IsFailedLine (Answered c)) (sym y.2) fails))
    ]

one_line_effect : (is_plan takes : Bool) (setting : Setting) → AreLimits setting.limits → (s t u : State)
    → IsLegalState setting.base s → (line : List ℕ) (a b : LineAnswer)
    → EffectByKind is_plan takes setting s line a t → EffectByKind is_plan takes setting s line b u
    → (¬ IsFailedLine (Answered a)) → (¬ IsFailedLine (Answered b)) → SameAnswer a b × (t ≡ u)
one_line_effect true takes setting few s t u legal line a b x y fine fine' =
    one_plan_effect takes setting few s t u legal line a b x y fine fine'
one_line_effect false takes setting few s t u legal line a b x y fine fine' =
    let one = one_request_effect setting few s t u legal line a b x y in (same_answers a b one.0, one.1)

-- The effect in the machine of a line with this outcome; a line for which memory ran out has none.
abbrev OutcomeEffect : Bool → Setting → State → List ℕ → LineOutcome → State → Type 0
OutcomeEffect takes setting s line Skipped t = (is_blank line ≡ true) × (t ≡ s)
OutcomeEffect takes setting s line Unheld t = ⊥
OutcomeEffect takes setting s line (Answered answer) t =
    (is_blank line ≡ false) × LineEffect takes setting s line answer t

one_outcome_effect : (takes : Bool) (setting : Setting) → AreLimits setting.limits → (s t u : State)
    → IsLegalState setting.base s
    → (line : List ℕ) (f g : LineOutcome) → OutcomeEffect takes setting s line f t
    → OutcomeEffect takes setting s line g u → (¬ IsFailedLine f) → (¬ IsFailedLine g)
    → SameOutcome f g × (t ≡ u)
one_outcome_effect takes setting few s t u legal line Skipped Skipped x y fine fine' = (refl, x.1 ∙ sym y.1)
one_outcome_effect takes setting few s t u legal line Skipped Unheld x y fine fine' = absurd y
one_outcome_effect takes setting few s t u legal line Skipped (Answered b) x y fine fine' =
    absurd (let bad : true ≡ false = sym x.0 ∙ y.0 in cc)
one_outcome_effect takes setting few s t u legal line Unheld g x y fine fine' = absurd x
one_outcome_effect takes setting few s t u legal line (Answered a) Skipped x y fine fine' =
    absurd (let bad : true ≡ false = sym y.0 ∙ x.0 in cc)
one_outcome_effect takes setting few s t u legal line (Answered a) Unheld x y fine fine' = absurd y
one_outcome_effect takes setting few s t u legal line (Answered a) (Answered b) x y fine fine' =
    one_line_effect (is_plan_line takes line) takes setting few s t u legal line a b x.1 y.1 fine fine'

module _ {K : Type 0} (view : K → StorageView) (takes : Bool) where
  module _ (base : List ℕ) (s t : State) (old new : OfficeView K) (up : (view new.keeper).is_up)
      (x : TablesOfState (view old.keeper).rows base s) (y : TablesOfState (view new.keeper).rows base t)
      (line : List ℕ) where
    effect_of_kind : (is_plan : Bool) → is_plan_line takes line ≡ is_plan → (answer : LineAnswer)
        → EffectByKind is_plan takes (setting_of base old.limits) s line answer t
        → LineEffect takes (setting_of base old.limits) s line answer t
    effect_of_kind is_plan is answer effect =
        subst (λ (b : Bool). EffectByKind b takes (setting_of base old.limits) s line answer t) (sym is) effect

    -- The effect of a line that is a request.
    request_effect : (request : Request) (answer : LineAnswer) → is_plan_line takes line ≡ false
        → ReadsAs (request_of line) (Ok request) → Effect (setting_of base old.limits) s (Ok request) answer t
        → LineEffect takes (setting_of base old.limits) s line answer t
    request_effect request answer other reads effect =
        effect_of_kind false other answer (Ok request, reads, effect)

    line_effect : (answer : LineAnswer) → OfficeServes view takes old line answer new
        → (¬ IsFailedLine (Answered answer))
        → LineEffect takes (setting_of base old.limits) s line answer t
    line_effect (Reply (reply.Answer a)) (other, inl p) fine =
        let does = does_as_machine view takes base s t old new up x y in
        request_effect (Do p.0) (Reply (reply.Answer a)) other p.1 (a, does.performs p.0 (Ok a) p.2, refl)
    line_effect (Reply (reply.Answer a)) (other, inr p) fine =
        let does = does_as_machine view takes base s t old new up x y in
        let shown = does.shows p.0 (Ok (viewed.No p.1)) p.3 in
        request_effect (Get p.0) (Reply (reply.Answer a)) other p.2
        (viewed.No p.1, shown.0, shown.1, ap (λ c. Reply (reply.Answer c)) p.4)
    line_effect (Reply (reply.Bad f)) p fine =
        let does = does_as_machine view takes base s t old new up x y in
        effect_of_kind false p.0 (Reply (reply.Bad f)) (Err f, p.1, (does.keeps p.2, refl))
    line_effect (Reply (reply.Fault f)) p fine = absurd (fine tt)
    line_effect (View text) p fine =
        let does = does_as_machine view takes base s t old new up x y in
        let shown = does.shows p.1 (Ok (viewed.Page text)) p.3 in
        request_effect (Get p.1) (View text) p.0 p.2 (viewed.Page text, shown.0, shown.1, refl)
    line_effect (Plan own) p fine =
        let does = does_as_machine view takes base s t old new up x y in
        effect_of_kind true p.0 (Plan own) (
          own,
          serves_plan (office_behaviour view takes) (machine_service (setting_of base old.limits) takes) old new s t
              does
              (json_in line) (Ok own) p.1,
          refl,
        )

    outcome_effect : (f : LineOutcome) → StepLine (OfficeServes view takes) old line f new → (¬ IsFailedLine f)
        → OutcomeEffect takes (setting_of base old.limits) s line f t
    outcome_effect Skipped p fine =
        let does = does_as_machine view takes base s t old new up x y in (p.0, does.keeps p.1)
    outcome_effect Unheld p fine = absurd (fine tt)
    outcome_effect (Answered answer) p fine = (p.0, line_effect answer p.1 fine)

  -- After this line and before the next, the storage was up, and its tables encoded the state to which the line leads.
  pub record BetweenLines (setting : Setting) (s : State) (mid : OfficeView K) (line : List ℕ) (f : LineOutcome) :
      Type 0 where
    pub limits : mid.limits ≡ setting.limits
    pub state : State
    pub shows : TablesOfState (view mid.keeper).rows setting.base state
    pub effect : OutcomeEffect takes setting s line f state

  between_lines : (setting : Setting) (s : State) (old mid new : OfficeView K) (line : List ℕ) (f : LineOutcome)
      (more : List (List ℕ)) (fs : List LineOutcome) → old.limits ≡ setting.limits
      → TablesOfState (view old.keeper).rows setting.base s → StepLine (OfficeServes view takes) old line f mid
      → RunLines (OfficeServes view takes) mid more fs new → (view new.keeper).is_up → (¬ IsFailedLine f)
      → BetweenLines setting s mid line f
  between_lines setting s old mid new line f more fs limits x step run up fine =
      let first = step_reached view takes line f old old mid step
      (led_start view old (λ was. (setting.base, s, x, legal_is_consistent setting.base s x.legal))) in
      let rest = lines_reached view takes more fs mid mid new run
      (led_start view mid (λ was. let led = first.goes_on was in let ran = led.2 in
      (ran.base, ran.state_after, ran.shows, ran.in_order))) in
      let led = first.goes_on (rest.was up) in
      let from = run_from_state old.limits setting.base s (view old.keeper).rows (view mid.keeper).rows led.0 led.1 x
      led.2 in
      record {
        limits = first.limits ∙ limits;
        state = from.0;
        shows = from.2;
        effect = subst (λ (l : Limits). OutcomeEffect takes (setting_of setting.base l) s line f from.0) limits
            (outcome_effect setting.base s from.0 old mid (rest.was up) x from.2 line f step fine);
      }

module _ {K L : Type 0} (view : K → StorageView) (other : L → StorageView) (takes : Bool) (setting : Setting)
    (few : AreLimits setting.limits) where
  one_run : (lines : List (List ℕ)) (fs gs : List LineOutcome) (s : State) (old new : OfficeView K)
      (old' new' : OfficeView L) → old.limits ≡ setting.limits → old'.limits ≡ setting.limits
      → TablesOfState (view old.keeper).rows setting.base s → TablesOfState (other old'.keeper).rows setting.base s
      → RunLines (OfficeServes view takes) old lines fs new → RunLines (OfficeServes other takes) old' lines gs new'
      → (view new.keeper).is_up → (other new'.keeper).is_up → AllByRecursion (λ f. ¬ IsFailedLine f) fs
      → AllByRecursion (λ f. ¬ IsFailedLine f) gs
      → SameOutcomes fs gs × EncodeOneState setting.base (view new.keeper).rows (other new'.keeper).rows
  one_run [] [] [] s old new old' new' limits limits' x y r q up up' fine fine' = (
    tt,
    record {
      state = s;
      one = subst (λ (o : OfficeView K). TablesOfState (view o.keeper).rows setting.base s) (sym r) x;
      other = subst (λ (o : OfficeView L). TablesOfState (other o.keeper).rows setting.base s) (sym q) y;
    },
  )
  one_run [] [] (g ∷ gs) s old new old' new' limits limits' x y r q up up' fine fine' = absurd q
  one_run [] (f ∷ fs) gs s old new old' new' limits limits' x y r q up up' fine fine' = absurd r
  one_run (line ∷ more) [] gs s old new old' new' limits limits' x y r q up up' fine fine' = absurd r
  one_run (line ∷ more) (f ∷ fs) [] s old new old' new' limits limits' x y r q up up' fine fine' = absurd q
  one_run (line ∷ more) (f ∷ fs) (g ∷ gs) s old new old' new' limits limits' x y r q up up' fine fine' =
      let mine = between_lines view takes setting s old r.0 new line f more fs limits x r.1 r.2 up fine.0 in
      let theirs = between_lines other takes setting s old' q.0 new' line g more gs limits' y q.1 q.2 up' fine'.0 in
      let one = one_outcome_effect takes setting few s mine.state theirs.state x.legal line f g mine.effect
      theirs.effect fine.0 fine'.0 in
      let rest = one_run more fs gs mine.state r.0 new q.0 new' mine.limits theirs.limits mine.shows
      (shows_state q.0 theirs.state mine.state (sym one.1) theirs.shows) r.2 q.2 up up' fine.1 fine'.1 in
      ((one.0, rest.0), rest.1)
    where
      shows_state : (o : OfficeView L) (t u : State) → t ≡ u → TablesOfState (other o.keeper).rows setting.base t
          → TablesOfState (other o.keeper).rows setting.base u
      shows_state o t u same shows = subst (TablesOfState (other o.keeper).rows setting.base) same shows

pub one_script : {K L : Type 0} (view : K → StorageView) (other : L → StorageView) → HasOneScript view other
one_script view other takes setting few s old new old' new' bytes os qs x y =
    let mine = x.lines in let theirs = y.lines in
    one_run view other takes setting few (lines bytes) os qs s old new old' new' x.limits y.limits x.shows y.shows
    mine.run
    theirs.run x.is_up y.is_up x.no_failure y.no_failure
