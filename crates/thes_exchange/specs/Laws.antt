-- The law of views: a query has one answer in a state.
use Rattle.std.specs.Prelude.{◌≡◌, Ok}
use Rattle.thes_base.specs.State.{State}
use Rattle.thes_requests.specs.declared.handler.QueryAnswer.{QueryAnswer}
use Rattle.thes_requests.specs.declared.request.Query.{Query}
use Rattle.thes_exchange.specs.QueryAnswers.{IsQueryAnswer}

-- A state has at most one answer to a query: one line, byte for byte, or one refusal.
abbrev pub HasOneView : Type 0
HasOneView =
    (s : State) (query : Query) (a b : QueryAnswer) → IsQueryAnswer s query (Ok a) → IsQueryAnswer s query (Ok b)
    → a ≡ b
