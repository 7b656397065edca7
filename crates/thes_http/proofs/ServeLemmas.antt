-- Proves which response a connection gets, from the head and the body that were read.
use Rattle.std.proofs.Common.{Bool, ◌≡◌, ◌∙◌, sym, ap, subst, refl, inl, inr, ℕ, ◌≤◌, List, ◌++◌, length, take, drop}
use Rattle.std.proofs.Common.{append_assoc, Option, Result, Ok, Err, arith}
use Rattle.std.proofs.lemmas.List.{length-take, take-append-drop, drop-append-le}
use Rattle.std.specs.Io.KnownBytes.{Consumes}
use Rattle.httparse.specs.Grammar.{RequestHead, print_request}
use Rattle.std.proofs.KnownBytes.{Consumes-trans}
use Rattle.thes_base.specs.Pipe.{unread_bytes, PaysCalls}
use Rattle.thes_base.specs.declared.fault.Fault.TheVariants.{OutOfMemory}
use Rattle.thes_base.specs.declared.pipe.Pipe.{Pipe}
use Rattle.thes_http_request.specs.declared.problem.Problem.{Problem}
use Rattle.thes_http_request.specs.declared.problem.Problem.TheVariants.{BadHead}
use Rattle.thes_http.specs.declared.response.Response.{Response}
use Rattle.thes_http_request.specs.Heads.{head_limit, HasHead, IsBadHead}
use Rattle.thes_http_request.specs.Inbox.{ConsumesSome, ReadsBody, CutsBody, HeadOutcome}
use Rattle.thes_http_request.specs.EndpointRequests.{EndpointRequest}
use Rattle.thes_http.specs.Responses.{problem_response, fault_response}
use Rattle.thes_http.specs.ServiceBehaviour.{ServiceBehaviour}
use Rattle.thes_http.specs.Serving.{EndpointEffectOrFailure}
use Rattle.thes_http.specs.Connection.{IsConnectionAnswer, IsCutOff, RequestOutcome}

-- A head at the beginning of bytes remains one when more bytes follow.
pub has_more : (bytes : List ℕ) (h : RequestHead) (rest more : List ℕ) → HasHead bytes h rest
    → HasHead (bytes ++ more) h (rest ++ more)
has_more bytes h rest more has = record {
  reads = (has.reads.0, ap (λ t. t ++ more) has.reads.1 ∙ append_assoc (print_request h) rest more);
  short = has.short;
  few = has.few;
}

pub answer_bad : {S : Type 0} (d : ServiceBehaviour S) (known left : Option (List ℕ)) (old : S) (bytes : List ℕ)
    → Consumes known left bytes → IsBadHead bytes → IsConnectionAnswer d known left old (problem_response BadHead) old
answer_bad d known left old bytes t b = record { bytes = bytes; taken = t; answers = inl (b, (refl, refl)) }

pub answer_memory : {S : Type 0} (d : ServiceBehaviour S) (known left : Option (List ℕ)) (old : S) (bytes : List ℕ)
    → Consumes known left bytes → IsConnectionAnswer d known left old (fault_response OutOfMemory) old
answer_memory d known left old bytes t = record { bytes = bytes; taken = t; answers = inr (inr (refl, refl)) }

pub answer_memory_more : {S : Type 0} (d : ServiceBehaviour S) (known mid left : Option (List ℕ)) (old : S)
    (bytes : List ℕ) → Consumes known mid bytes → ConsumesSome mid left → IsConnectionAnswer d known left old
    (fault_response OutOfMemory) old
answer_memory_more d known mid left old bytes t k = answer_memory d known left old (bytes ++ k.more)
    (Consumes-trans known mid left bytes k.more t k.taken)

-- If a head is complete within the first 8,192 bytes, all of the bytes have its outcome.
pub head_outcome_all : (takes_plans : Bool) (bytes : List ℕ) (len : ℕ) (outcome : Result EndpointRequest Problem) → len
    ≤ length (take head_limit bytes) → HeadOutcome takes_plans (take head_limit bytes)
    (drop len (take head_limit bytes)) outcome
    → HeadOutcome takes_plans bytes (drop len bytes) outcome
head_outcome_all takes_plans bytes len outcome l a =
    let front = take head_limit bytes in
    let rest = drop head_limit bytes in
    let whole : front ++ rest ≡ bytes = take-append-drop head_limit bytes in
    let has = has_more front a.head (drop len front) rest a.has in
    let after : drop len front ++ rest ≡ drop len bytes = sym (drop-append-le len front rest l)
    ∙ ap (λ t. drop len t) whole in
    record {
      head = a.head;
      has = subst (λ (t : List ℕ). HasHead t a.head (drop len bytes)) whole
          (subst (λ (t : List ℕ). HasHead (front ++ rest) a.head t) after has);
      wants = a.wants;
    }

pub head_outcome_front : (takes_plans : Bool) (bytes front : List ℕ) (len : ℕ)
    (outcome : Result EndpointRequest Problem) → front ≡ take head_limit bytes → len ≤ length (take head_limit bytes)
    → HeadOutcome takes_plans front (drop len front) outcome
    → HeadOutcome takes_plans bytes (drop len bytes) outcome
head_outcome_front takes_plans bytes front len outcome e l a = head_outcome_all takes_plans bytes len outcome l
    (subst (λ (t : List ℕ). HeadOutcome takes_plans t (drop len t) outcome) e a)

-- A head has the same outcome for two services that both take plans, or both don't.
pub outcome_taken : {a b : Bool} {bytes rest : List ℕ} {outcome : Result EndpointRequest Problem} → a ≡ b
    → HeadOutcome a bytes rest outcome → HeadOutcome b bytes rest outcome
outcome_taken {a} {b} {bytes} {rest} {outcome} e h = subst (λ (t : Bool). HeadOutcome t bytes rest outcome) e h

pub front_short : (bytes front : List ℕ) → front ≡ take head_limit bytes → length front ≤ head_limit
front_short bytes front e = let len = ap length e ∙ length-take head_limit bytes in omega (arith, len)

pub len_within : (bytes : List ℕ) (len : ℕ) → len ≤ length (take head_limit bytes) → len ≤ length bytes
len_within bytes len h = let is = length-take head_limit bytes in omega (arith, is, h)

pub answer_problem : {S : Type 0} (d : ServiceBehaviour S) (known left : Option (List ℕ)) (old : S)
    (bytes rest : List ℕ) (p : Problem) → Consumes known left bytes
    → HeadOutcome (d.requests.takes_plans old) bytes rest (Err p)
    → IsConnectionAnswer d known left old (problem_response p) old
answer_problem d known left old bytes rest p t a =
    record { bytes = bytes; taken = t; answers = inr (inl (a.head, rest, a.has, rw a.wants (refl, refl))) }

-- A head with its complete body is answered by the effect of its endpoint.
pub answer_done : {S : Type 0} (d : ServiceBehaviour S) (known mid left : Option (List ℕ)) (old new : S)
    (bytes rest body : List ℕ) (w : EndpointRequest) (r : Response)
    → Consumes known mid bytes → HeadOutcome (d.requests.takes_plans old) bytes rest (Ok w)
    → ReadsBody mid left rest w.body body
    → EndpointEffectOrFailure d old r new w.endpoint w.number w.query body → IsConnectionAnswer d known left old r new
answer_done d known mid left old new bytes rest body w r t a b does =
    let taken = Consumes-trans known mid left bytes b.more t b.taken in
    elim does [
      | inl done ↦ record {
        bytes = bytes ++ b.more;
        taken = taken;
        answers =
            inr (inl (
              a.head,
              rest ++ b.more,
              has_more bytes a.head rest b.more a.has,
              rw a.wants (b.whole, rw b.body_is at done),
            ));
      }
      | inr failed ↦ record { bytes = bytes ++ b.more; taken = taken; answers = inr (inr failed) }
    ]

pub cut_body : (takes_plans : Bool) (known mid left : Option (List ℕ)) (bytes rest : List ℕ) (w : EndpointRequest)
    → Consumes known mid bytes
    → HeadOutcome takes_plans bytes rest (Ok w) → CutsBody mid left rest w.body → IsCutOff takes_plans known left
cut_body takes_plans known mid left bytes rest w t a c = record {
  bytes = bytes ++ c.more;
  taken = Consumes-trans known mid left bytes c.more t c.taken;
  at_end = c.at_end;
  cut = inr (a.head, rest ++ c.more, w, has_more bytes a.head rest c.more a.has, a.wants, c.short);
}

-- A head and its complete body, as the program's buffers hold them, are answered by the effect of
-- the endpoint.
pub answer_all : {S : Type 0} (d : ServiceBehaviour S) (known mid left : Option (List ℕ)) (old new : S)
    (bytes front start body text : List ℕ) (len : ℕ) (w : EndpointRequest) (r : Response)
    → Consumes known mid bytes → front ≡ take head_limit bytes → len ≤ length (take head_limit bytes)
    → HeadOutcome (d.requests.takes_plans old) front (drop len front) (Ok w) → start ≡ drop len bytes → text ≡ body
    → ReadsBody mid left start w.body body → EndpointEffectOrFailure d old r new w.endpoint w.number w.query text
    → IsConnectionAnswer d known left old r new
answer_all d known mid left old new bytes front start body text len w r t e l a s is b does =
    answer_done d known mid left old new bytes (drop len bytes) body w r t
    (head_outcome_front (d.requests.takes_plans old) bytes front len (Ok w) e l a)
    (subst (λ (x : List ℕ). ReadsBody mid left x w.body body) s b)
    (subst (λ (x : List ℕ). EndpointEffectOrFailure d old r new w.endpoint w.number w.query x) is does)

pub cut_all : (takes_plans : Bool) (known mid left : Option (List ℕ)) (bytes front start : List ℕ) (len : ℕ)
    (w : EndpointRequest)
    → Consumes known mid bytes → front ≡ take head_limit bytes → len ≤ length (take head_limit bytes)
    → HeadOutcome takes_plans front (drop len front) (Ok w) → start ≡ drop len bytes → CutsBody mid left start w.body
    → IsCutOff takes_plans known left
cut_all takes_plans known mid left bytes front start len w t e l a s c =
    cut_body takes_plans known mid left bytes (drop len bytes) w t
    (head_outcome_front takes_plans bytes front len (Ok w) e l a)
    (subst (λ (x : List ℕ). CutsBody mid left x w.body) s c)

-- A request that was answered has the response as its outcome.
pub outcome_of_answer : {R S : Type 0} {remaining : R → Option (List ℕ)} {d : ServiceBehaviour S}
    {reader reader' : Pipe R}
    {before after : ℕ} {old new : S} {response : Response}
    → IsConnectionAnswer d (unread_bytes remaining reader) (unread_bytes remaining reader') old response new
    → PaysCalls reader reader' before after
    → RequestOutcome remaining d reader reader' before after old new (Ok response)
outcome_of_answer answer calls =
    record { answer = answer; cut = λ h. absurd (cc); fault = λ h. absurd (cc); same = tt; calls = calls }
