-- The answer to a posting that is sent again.
use Rattle.std.specs.Prelude.{◌≡◌, ◌⊎◌, ℕ, List}
use Rattle.thes_base.specs.declared.request.Answer.{Answer}
use Rattle.thes_base.specs.declared.request.Answer.TheVariants as reply
use Rattle.thes_base.specs.declared.request.Command.{Command}
use Rattle.thes_base.specs.declared.request.Command.TheVariants as request
use Rattle.thes_base.specs.Legal.{IsLegalState}
use Rattle.thes_base.specs.Machine.{Run, Step}
use Rattle.thes_base.specs.Refusals.{Setting}
use Rattle.thes_base.specs.State.{State}

-- A posting that was accepted, and is sent again, is answered with its number and changes nothing, whatever requests
-- come between.
abbrev pub AnswersAgain : Type 0
AnswersAgain =
    (setting : Setting) (s mid t u : State) (key rec : List ℕ) (concept n : ℕ) (a b : Answer)
    → (a ≡ reply.Number n) ⊎ (a ≡ reply.Again n)
    → Step setting s (request.Post key rec concept) a mid
    → (commands : List Command) (answers : List Answer) → Run setting mid commands answers t
    → IsLegalState setting.base t
    → Step setting t (request.Post key rec concept) b u → (b ≡ reply.Again n) × (u ≡ t)
