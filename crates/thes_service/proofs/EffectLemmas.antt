-- Proves that a request has one effect in the machine, and one answer.
use Rattle.std.proofs.Common.{◌≡◌, ◌∙◌, ◌∷◌, [], Result, Ok, Err, refl, sym, ap, subst}
use Rattle.thes_base.specs.declared.fault.FormFault.{FormFault}
use Rattle.thes_base.specs.declared.request.Answer.{Answer}
use Rattle.thes_base.specs.declared.request.Command.{Command}
use Rattle.thes_base.specs.Legal.{IsLegalState}
use Rattle.thes_base.specs.Machine.{Step}
use Rattle.thes_base.specs.Refusals.{Setting, AreLimits, IsSetting}
use Rattle.thes_base.specs.State.{State}
use Rattle.thes_base.proofs.OutcomeLemmas.{one_outcome}
use Rattle.thes_office.proofs.StepLemmas.{setting_fits}
use Rattle.thes_requests.specs.declared.answer.Reply.TheVariants as reply
use Rattle.thes_requests.specs.declared.handler.QueryAnswer.{QueryAnswer}
use Rattle.thes_requests.specs.declared.line_serving.LineAnswer.{LineAnswer}
use Rattle.thes_requests.specs.declared.line_serving.LineAnswer.TheVariants.{Reply}
use Rattle.thes_requests.specs.declared.request.Request.{Request}
use Rattle.thes_requests.specs.declared.request.Request.TheVariants.{Do, Get}
use Rattle.thes_requests.specs.Serving.{query_answer}
use Rattle.thes_exchange.specs.QueryAnswers.{IsQueryAnswer}
use Rattle.thes_exchange.proofs.OneViewLemmas.{one_view}

module _ (setting : Setting) (fit : IsSetting setting) (s : State) (legal : IsLegalState setting.base s) where
  pub one_step : (command : Command) (a b : Answer) (t u : State) → Step setting s command a t
      → Step setting s command b u
      → (a ≡ b) × (t ≡ u)
  one_step command a b t u x y =
      let one = one_outcome setting fit s legal (command ∷ []) (a ∷ []) (b ∷ []) t u (t, x, refl) (u, y, refl) in
      let both : a ∷ [] ≡ b ∷ [] = one.0 in
      let same : a ≡ b = cc in
      (same, one.1)

-- The effect in the machine of what is read as a request or has a form fault, and the answer to it.
abbrev pub Effect : Setting → State → Result Request FormFault → LineAnswer → State → Type 0
Effect setting s (Ok (Do command)) answer t =
    (own : Answer) × Step setting s command own t × (answer ≡ Reply (reply.Answer own))
Effect setting s (Ok (Get query)) answer t =
    (own : QueryAnswer) × IsQueryAnswer s query (Ok own) × (t ≡ s) × (answer ≡ query_answer (Ok own))
Effect setting s (Err fault) answer t = (t ≡ s) × (answer ≡ Reply (reply.Bad fault))

pub one_effect : (setting : Setting) → AreLimits setting.limits → (s t u : State) → IsLegalState setting.base s
    → (x : Result Request FormFault) (a b : LineAnswer) → Effect setting s x a t → Effect setting s x b u
    → (a ≡ b) × (t ≡ u)
one_effect setting few s t u legal (Ok (Do command)) a b x y =
    let one = one_step setting (setting_fits setting s few legal) s legal command x.0 y.0 t u x.1 y.1 in
    (x.2 ∙ ap (λ c. Reply (reply.Answer c)) one.0 ∙ sym y.2, one.1)
one_effect setting few s t u legal (Ok (Get query)) a b x y =
    let one = one_view s query x.0 y.0 x.1 y.1 in
    (x.3 ∙ ap (λ c. query_answer (Ok c)) one ∙ sym y.3, x.2 ∙ sym y.2)
one_effect setting few s t u legal (Err fault) a b x y = (x.1 ∙ sym y.1, x.0 ∙ sym y.0)
