-- The connections of a server, one after another.
use Rattle.std.specs.Prelude.{ℕ, ◌≡◌, ◌+◌, List, [], ◌∷◌, length, Bool, true, false, Option, None, Some, Result, Ok, Err}
use Rattle.std.specs.IoError.{error_kind}
use Rattle.std.specs.declared.io.Error.{Error}
use Rattle.std.specs.declared.io.ErrorKind.{ErrorKind}
use Rattle.std.specs.declared.io.ErrorKind.TheVariants.{ConnectionAborted, Interrupted, TimedOut, WouldBlock}
use Rattle.thes_base.specs.Pipe.{IsFresh, device_of}
use Rattle.thes_base.specs.declared.pipe.Pipe.{Pipe}
use Rattle.thes_requests.specs.Script.{session}
use Rattle.thes_http.specs.Connection.{EndsAs, exchange_count}
use Rattle.thes_http.specs.ConnectionCounts.{ConnectionCounts}
use Rattle.thes_http.specs.declared.connection.ConnectionEnd.{ConnectionEnd}
use Rattle.thes_http.specs.declared.connection_count.Ends.{Ends}
use Rattle.thes_http.specs.declared.timed_stream.TimedStream.{TimedStream}
use Rattle.thes_http.specs.declared.response.Response.{Response}
use Rattle.thes_http.specs.declared.timed_connection.ServedStream.{ServedStream}
use Rattle.thes_http.specs.ServiceBehaviour.{ServiceBehaviour}
use Rattle.thes_http.specs.Serving.{Answers}

-- Whether the error of a read says that the time to wait was over, or that the read was interrupted.
abbrev pub is_wait : ErrorKind → Bool
is_wait WouldBlock = true
is_wait TimedOut = true
is_wait Interrupted = true
is_wait kind = false

-- The outcome of accepting a connection: its stream; None if the client closed the connection before it was accepted;
-- or any other error.
abbrev pub IsAcceptOutcome : {T A : Type 0} → Result (T × A) Error → Result (Option T) Error → Type 0
IsAcceptOutcome (Ok (stream, address)) result = result ≡ Ok (Some stream)
IsAcceptOutcome (Err e) result =
    (error_kind e ≡ ConnectionAborted → result ≡ Ok None)
    × (¬ (error_kind e ≡ ConnectionAborted) → result ≡ Err e)

-- The two ends of a connection, given its stream and the clone of its stream; None if the stream couldn't be cloned.
abbrev pub cloned_ends : {T : Type 0} → T → Result T Error → Option (Ends T)
cloned_ends stream (Ok input) = Some (record { input = input; output = stream })
cloned_ends stream (Err e) = None

-- The request was read from the one end of a connection, and the response was written to the other, through a reader
-- and a writer that had not failed before; a failure of either is the reason for the outcome that reports it.
pub record IsServedBy {C T S : Type 0} (remaining contents : T → Option (List ℕ)) (d : ServiceBehaviour S)
    (ends : Ends T) (old : S) (served : ServedStream C T) (new : S) : Type 0 where
  pub reader : Pipe (TimedStream C T)
  pub writer : Pipe (TimedStream C T)
  pub fresh : IsFresh reader × IsFresh writer
  pub input : (device_of reader).stream ≡ ends.input
  pub output : (device_of writer).stream ≡ ends.output
  pub ends_as : EndsAs (λ (s : TimedStream C T). remaining s.stream) (λ (s : TimedStream C T). contents s.stream) d
      (session reader writer old) (session served.reader served.writer new) served.end

-- An exchange of one connection: the bytes consumed, and the response to them.
pub record Exchange : Type 0 where
  pub bytes : List ℕ
  pub response : Response

-- The exchanges, the latest first, take the service from the state `old` to the state `new`, and
-- nothing else changes it.
abbrev pub AreAnswered : {S : Type 0} → ServiceBehaviour S → S → List Exchange → S → Type 0
AreAnswered d old [] new = new ≡ old
AreAnswered {S} d old (e ∷ before) new =
    (mid : S) × AreAnswered d old before mid × Answers d mid e.response new e.bytes

-- `count` exchanges take the service from the state `old` to `new`.
pub record LeadsBy {S : Type 0} (d : ServiceBehaviour S) (count : ℕ) (old new : S) : Type 0 where
  pub exchanges : List Exchange
  pub counted : length exchanges ≡ count
  pub answered : AreAnswered d old exchanges new

-- The numbers after a connection that was served.
abbrev pub counts_after_close : ConnectionCounts → ConnectionEnd → ConnectionCounts
counts_after_close old end =
    record { finished = old.finished + 1; exchanges = old.exchanges + exchange_count end }
