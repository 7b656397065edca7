-- The outcome of one connection: the bytes consumed, the response, and the bytes written.
use Rattle.std.specs.Prelude.{ℕ, ◌≡◌, Bool, true, false, List, Option, Result, IfOk, OnErr, IsErrOf}
use Rattle.std.specs.Io.KnownBytes.{Consumes, IsAtEnd}
use Rattle.thes_base.specs.Pipe.{ended_of, unread_bytes, PaysCalls}
use Rattle.thes_base.specs.declared.pipe.Pipe.{Pipe}
use Rattle.thes_requests.specs.Script.{Session}
use Rattle.thes_http_request.specs.Inbox.{HasStopped}
use Rattle.thes_http_request.specs.declared.inbox.InputFault.{InputFault}
use Rattle.thes_http_request.specs.declared.inbox.InputFault.TheVariants as input_fault
use Rattle.thes_http.specs.declared.response.Status.{Status}
use Rattle.thes_http.specs.declared.response.Response.{Response}
use Rattle.thes_http.specs.declared.connection.ConnectionEnd.{ConnectionEnd}
use Rattle.thes_http.specs.declared.connection.ConnectionEnd.TheVariants.{Answered, Cut, ReadFault, WriteFault}
use Rattle.thes_http.specs.Responses.{WritesPrefix, WritesResponse}
use Rattle.thes_http.specs.ServiceBehaviour.{ServiceBehaviour}
use Rattle.thes_http.specs.Serving.{Answers, IsCutRequest}

-- Whether the response was written completely.
abbrev pub is_complete : ConnectionEnd → Bool
is_complete (Answered status) = true
is_complete outcome = false

-- The number of exchanges in a connection, by its outcome: one, if a request was answered, also if the response
-- couldn't be written.
abbrev pub exchange_count : ConnectionEnd → ℕ
exchange_count (Answered status) = 1
exchange_count WriteFault = 1
exchange_count outcome = 0

-- The service answers the bytes consumed with this response.
pub record IsConnectionAnswer {S : Type 0} (d : ServiceBehaviour S) (known left : Option (List ℕ))
    (old : S) (response : Response) (new : S) : Type 0 where
  pub bytes : List ℕ
  pub taken : Consumes known left bytes
  pub answers : Answers d old response new bytes

-- The input ended inside a request. Whether the request has a body may depend on whether plans are taken.
pub record IsCutOff (takes_plans : Bool) (known left : Option (List ℕ)) : Type 0 where
  pub bytes : List ℕ
  pub taken : Consumes known left bytes
  pub at_end : IsAtEnd left
  pub cut : IsCutRequest takes_plans bytes

-- The outcome of a request, before anything is written: the response to it; or nothing was performed, since the input
-- has ended within the request, or the reader has stopped. The budget falls by the number of reads.
pub record RequestOutcome {R S : Type 0} (remaining : R → Option (List ℕ)) (d : ServiceBehaviour S)
    (reader reader' : Pipe R) (before after : ℕ) (old new : S) (result : Result Response InputFault) : Type 0 where
  pub answer : IfOk result (λ response.
      IsConnectionAnswer d (unread_bytes remaining reader) (unread_bytes remaining reader') old response new)
  pub cut : IsErrOf result input_fault.Cut
      → IsCutOff (d.requests.takes_plans old) (unread_bytes remaining reader) (unread_bytes remaining reader')
      × (ended_of reader' ≡ true)
  pub fault : IsErrOf result input_fault.ReadFault → HasStopped reader'
  pub same : OnErr result (new ≡ old)
  pub calls : PaysCalls reader reader' before after

-- Nothing was performed or written.
abbrev pub IsUntouched : {R W S : Type 0} → Session R W S → Session R W S → Type 0
IsUntouched old new = (new.handler ≡ old.handler) × (new.writer ≡ old.writer)

-- One connection, with its reader, writer and service before and after.
module _ {R W S : Type 0} (remaining : R → Option (List ℕ)) (contents : W → Option (List ℕ))
    (d : ServiceBehaviour S) (old new : Session R W S) where
  -- The service answers the bytes consumed with this response.
  abbrev pub IsAnsweredBy : Response → Type 0
  IsAnsweredBy response =
      IsConnectionAnswer d (unread_bytes remaining old.reader) (unread_bytes remaining new.reader) old.handler
      response new.handler

  -- The response was written completely, and has this status.
  pub record IsAnsweredWith (status : Status) : Type 0 where
    pub response : Response
    pub answer : IsAnsweredBy response
    pub text : WritesResponse contents response old.writer new.writer
    pub is_status : status ≡ response.status

  -- A prefix of the response was written.
  pub record IsAnsweredInPart : Type 0 where
    pub response : Response
    pub answer : IsAnsweredBy response
    pub text : WritesPrefix contents response old.writer new.writer

  -- The meaning of each outcome: the response was written; the input ended inside the request, or the reader stopped,
  -- and nothing was performed or written; or the writer stopped, and a prefix of the response was written.
  abbrev pub EndsAs : ConnectionEnd → Type 0
  EndsAs (Answered status) = IsAnsweredWith status
  EndsAs Cut =
      IsCutOff (d.requests.takes_plans old.handler) (unread_bytes remaining old.reader)
      (unread_bytes remaining new.reader)
      × (ended_of new.reader ≡ true) × IsUntouched old new
  EndsAs ReadFault = HasStopped new.reader × IsUntouched old new
  EndsAs WriteFault = HasStopped new.writer × IsAnsweredInPart
