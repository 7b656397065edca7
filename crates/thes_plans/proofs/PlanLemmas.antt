-- The commands of a plan with one more request, and that a refused request changes nothing.
use Rattle.std.proofs.lemmas.Grind.{common_steps}
use Rattle.std.proofs.Common.{◌≡◌, ◌++◌, ◌∷◌, [], ◌∙◌, List, length, sym, ap, arith, inl, inr, append-nil}
use Rattle.std.proofs.Common.{append_assoc}
use Rattle.std.specs.List.{AllByRecursion}
use Rattle.thes_base.specs.declared.fault.Refusal.{Refusal}
use Rattle.thes_base.specs.declared.request.Answer.{Answer}
use Rattle.thes_base.specs.declared.request.Answer.TheVariants as reply
use Rattle.thes_base.specs.declared.request.Command.{Command}
use Rattle.thes_base.specs.Machine.{Step, answer_of}
use Rattle.thes_base.specs.Refusals.{Setting}
use Rattle.thes_base.specs.State.{State}
use Rattle.thes_plans.specs.declared.plan.PlanRequest.{PlanRequest}
use Rattle.thes_plans.specs.Resolving.{resolved_command, resolved_commands}

-- The answer to an accepted request isn't a refusal.
no_refusal_answer : (command : Command) (s : State) (r : Refusal) → reply.No r ≡ answer_of command s → ⊥
no_refusal_answer command s r e = grind (arith, common_steps)

-- A refused request leaves the state unchanged.
pub refused_stays : (setting : Setting) (s t : State) (command : Command) (r : Refusal)
    → Step setting s command (reply.No r) t → t ≡ s
refused_stays setting s t command r (inl known) = known.1
refused_stays setting s t command r (inr (new, inl refused)) = refused.3
refused_stays setting s t command r (inr (new, inr accepted)) = absurd (no_refusal_answer command s r accepted.1)

-- The commands of a plan with one more request are those of the plan, followed by that of the request.
pub resolved_push : (before : List Answer) (done : List PlanRequest) (answers : List Answer) (asked : PlanRequest)
    (answer : Answer) → length answers ≡ length done → resolved_commands before (done ++ asked ∷ [])
    (answers ++ answer ∷ []) ≡ resolved_commands before done answers ++ resolved_command (before ++ answers) asked ∷ []
resolved_push before [] [] asked answer same = ap (λ (xs : List Answer). resolved_command xs asked ∷ [])
    (sym (append-nil before))
resolved_push before [] (a ∷ answers) asked answer same = absurd (omega arith)
resolved_push before (d ∷ done) [] asked answer same = absurd (omega arith)
resolved_push before (d ∷ done) (a ∷ answers) asked answer same =
    ap (λ (cs : List Command). resolved_command before d ∷ cs)
    (resolved_push (before ++ a ∷ []) done answers asked answer (omega arith)
    ∙ ap (λ (xs : List Answer). resolved_commands (before ++ a ∷ []) done answers ++ resolved_command xs asked ∷ [])
    (append_assoc before (a ∷ []) answers))

-- If a property holds of all elements of a list and of x, it holds of all elements of the list with x appended.
pub all_push : {A : Type 0} (P : A → Type 0) (xs : List A) (x : A) → AllByRecursion P xs → P x
    → AllByRecursion P (xs ++ x ∷ [])
all_push P [] x all one = (one, tt)
all_push P (y ∷ xs) x all one = (all.0, all_push P xs x all.1 one)
