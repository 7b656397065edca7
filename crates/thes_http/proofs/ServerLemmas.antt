-- Proves that consecutive connections lead from the first state to the last.
use Rattle.std.proofs.Common.{◌≡◌, Option, subst, refl, sym, ℕ, ◌+◌, List, [], ◌∷◌, ◌++◌, length-append, arith}
use Rattle.thes_requests.specs.Script.{Session}
use Rattle.thes_http.specs.Connection.{EndsAs, exchange_count}
use Rattle.thes_http.specs.declared.response.Response.{Response}
use Rattle.thes_http.specs.declared.connection.ConnectionEnd.{ConnectionEnd}
use Rattle.thes_http.specs.declared.connection.ConnectionEnd.TheVariants.{Answered, Cut, ReadFault, WriteFault}
use Rattle.thes_http.specs.Server.{Exchange, AreAnswered, LeadsBy}
use Rattle.thes_http.specs.ServiceBehaviour.{ServiceBehaviour}
use Rattle.thes_http.specs.Serving.{Answers}

module _ {S : Type 0} (d : ServiceBehaviour S) where
  -- Without an exchange, a state leads to itself.
  pub leads_nowhere : (count : ℕ) (old new : S) → count ≡ 0 → new ≡ old → LeadsBy d count old new
  leads_nowhere count old new none same = record { exchanges = []; counted = sym none; answered = same }

  -- An answered exchange leads to the next state.
  pub leads_once : (old new : S) (bytes : List ℕ) (response : Response) → Answers d old response new bytes
      → LeadsBy d 1 old new
  leads_once old new bytes response answers = record {
    exchanges = record { bytes = bytes; response = response } ∷ [];
    counted = refl;
    answered = (old, refl, answers);
  }

  both_answered : (old mid new : S) (later sooner : List Exchange) → AreAnswered d old sooner mid
      → AreAnswered d mid later new → AreAnswered d old (later ++ sooner) new
  both_answered old mid new [] sooner first same = subst (λ (s : S). AreAnswered d old sooner s) (sym same) first
  both_answered old mid new (e ∷ later) sooner first then =
      (then.0, both_answered old mid then.0 later sooner first then.1, then.2)

  -- If `m` exchanges lead to a state, and `n` from there to another, `m + n` lead to that one.
  pub leads_on : (m n : ℕ) {old mid new : S} → LeadsBy d m old mid → LeadsBy d n mid new → LeadsBy d (m + n) old new
  leads_on m n {old} {mid} {new} a b = record {
    exchanges = b.exchanges ++ a.exchanges;
    counted = rw (length-append b.exchanges a.exchanges) (omega (arith, a.counted, b.counted));
    answered = both_answered old mid new b.exchanges a.exchanges a.answered b.answered;
  }

  -- Whatever its outcome, a connection leads on by its exchange, if there was one.
  pub leads_by_end : {R W : Type 0} (remaining : R → Option (List ℕ)) (contents : W → Option (List ℕ))
      (before after : Session R W S) (end : ConnectionEnd) → EndsAs remaining contents d before after end
      → LeadsBy d (exchange_count end) before.handler after.handler
  leads_by_end remaining contents before after (Answered status) is =
      leads_once before.handler after.handler is.answer.bytes is.response is.answer.answers
  leads_by_end remaining contents before after WriteFault (_, is) =
      leads_once before.handler after.handler is.answer.bytes is.response is.answer.answers
  leads_by_end remaining contents before after Cut (_, _, same) =
      leads_nowhere 0 before.handler after.handler refl same.0
  leads_by_end remaining contents before after ReadFault (_, same) =
      leads_nowhere 0 before.handler after.handler refl same.0
