-- The bytes read from a connection: the head at their beginning, and the body after it.
use Rattle.std.specs.Prelude.{ℕ, ◌≡◌, ◌≤◌, ◌<◌, ◌⊎◌, ◌+◌, ◌*◌, ◌++◌, Bool, true, false, List, length, take, map, Option}
use Rattle.std.specs.Prelude.{Result, IfOk, IfErr, OnOk, IsErrOf, Vec, vec_len, vec_capacity}
use Rattle.std.specs.Char.{to_ascii_lowercase}
use Rattle.std.specs.List.{position_or_len}
use Rattle.std.specs.Io.KnownBytes.{Consumes, IsAtEnd}
use Rattle.thes_base.specs.Pipe.{failed_of, ended_of, denied_of, unread_bytes, IsFresh, PaysCalls}
use Rattle.thes_base.specs.declared.pipe.Pipe.{Pipe}
use Rattle.httparse.specs.Grammar.{RequestHead}
use Rattle.httparse.specs.Spans.{IsRequestAt, IsRequestWithin, header_bytes}
use Rattle.httparse.specs.declared.spans.HeaderSpan.{HeaderSpan}
use Rattle.httparse.specs.declared.spans.RequestSpans.{RequestSpans}
use Rattle.thes_http_request.specs.declared.body.BodyStop.{BodyStop}
use Rattle.thes_http_request.specs.declared.body.BodyStop.TheVariants as body_stop
use Rattle.thes_http_request.specs.declared.inbox.HeadStop.{HeadStop}
use Rattle.thes_http_request.specs.declared.inbox.HeadStop.TheVariants as head_stop
use Rattle.thes_http_request.specs.declared.inbox.InputFault.{InputFault}
use Rattle.thes_http_request.specs.declared.inbox.InputFault.TheVariants.{Cut, ReadFault}
use Rattle.thes_http_request.specs.declared.problem.Problem.{Problem}
use Rattle.thes_http_request.specs.Heads.{HasHead, IsBadHead, IsCutHead, fields_limit, head_limit, parts_of}
use Rattle.thes_http_request.specs.Fields.{is_named}
use Rattle.thes_http_request.specs.EndpointRequests.{EndpointRequest, request_of_parts}

-- The bytes begin with the head of a request: `spans` says where its method and its path are, and how long it is;
-- `headers` says where the name and the value of each field are.
pub record IsHeadAt (bytes : List ℕ) (headers : List HeaderSpan) (spans : RequestSpans) : Type 0 where
  pub head : RequestHead
  pub at : IsRequestAt bytes headers spans head
  pub within : IsRequestWithin bytes headers spans
  pub few : length head.fields ≤ fields_limit

-- Whether the field at these spans of the bytes has this name, whatever the case of its letters.
abbrev pub spans_named : List ℕ → List ℕ → HeaderSpan → Bool
spans_named name bytes header = is_named (map to_ascii_lowercase name) (header_bytes bytes header)

-- The index of the first field with this name, or the number of fields if none has it.
abbrev pub first_named : List ℕ → List ℕ → List HeaderSpan → ℕ
first_named name bytes headers = position_or_len (spans_named name bytes) headers

-- The bytes begin with a head, which `rest` follows, and the checks of that head have this outcome, which depends on
-- whether plans are taken.
pub record HeadOutcome (takes_plans : Bool) (bytes rest : List ℕ) (outcome : Result EndpointRequest Problem)
    : Type 0 where
  pub head : RequestHead
  pub has : HasHead bytes head rest
  pub wants : request_of_parts takes_plans (parts_of head) ≡ outcome

-- The pipe has failed, or was denied a read or a write.
abbrev pub HasStopped : {T : Type 0} → Pipe T → Type 0
HasStopped p = (failed_of p ≡ true) ⊎ (denied_of p ≡ true)

-- A read has returned the end of the input.
abbrev pub HasEnded : {R : Type 0} → (R → Option (List ℕ)) → Pipe R → Type 0
HasEnded remaining p = IsAtEnd (unread_bytes remaining p) × (ended_of p ≡ true)

-- Bytes were consumed, perhaps none.
pub record ConsumesSome (old new : Option (List ℕ)) : Type 0 where
  pub more : List ℕ
  pub taken : Consumes old new more

-- Bytes were consumed, perhaps none, and appended to the buffer.
pub record BufferGrowth (old new : Option (List ℕ)) (before after : List ℕ) : Type 0 where
  pub more : List ℕ
  pub taken : Consumes old new more
  pub all : after ≡ before ++ more

-- The whole body arrived: it is the first `count` bytes of `start` followed by the bytes consumed.
pub record ReadsBody (old new : Option (List ℕ))
    (start : List ℕ) (count : ℕ) (body : List ℕ) : Type 0 where
  pub more : List ℕ
  pub taken : Consumes old new more
  pub whole : count ≤ length (start ++ more)
  pub body_is : body ≡ take count (start ++ more)

-- The input ended before the whole body arrived.
pub record CutsBody (old new : Option (List ℕ)) (start : List ℕ) (count : ℕ) : Type 0 where
  pub more : List ℕ
  pub taken : Consumes old new more
  pub short : length (start ++ more) < count
  pub at_end : IsAtEnd new

-- The capacity of the body's buffer is at most the length announced, and at most 4,096 more than
-- twice the number of bytes that arrived.
abbrev pub HasBoundedCapacity : ℕ → ℕ → ℕ → Type 0
HasBoundedCapacity count came room = (room ≤ count) × (room ≤ 2 * came + 4096)

-- The capacity of the body's buffer is at least the length announced, or 4,096 more than twice the number of bytes
-- that arrived.
abbrev pub HasGrowingCapacity : ℕ → ℕ → ℕ → Type 0
HasGrowingCapacity count came room = (count ≤ room) ⊎ (2 * came + 4096 ≤ room)

-- The buffer of a body of `count` bytes has room for at least one more byte. If it was full, its capacity grows with
-- the number of bytes that arrived (`HasGrowingCapacity`).
pub record GainsRoom {A T E : Type 0} (count : ℕ) (old new : Vec ℕ A) (result : Result T E) : Type 0 where
  pub items : new.items ≡ old.items
  pub same_length : vec_len new ≡ vec_len old
  pub room : OnOk result (vec_len new < vec_capacity new)
  pub growth : vec_capacity old ≤ vec_len old → OnOk result (HasGrowingCapacity count (vec_len old) (vec_capacity new))
  pub limit : HasBoundedCapacity count (vec_len new) (vec_capacity new)

-- The buffer has at most `most` bytes more, for which its capacity sufficed.
pub record GrowsInPlace {A : Type 0} (most : ℕ) (old new : Vec ℕ A) : Type 0 where
  pub least : vec_len old ≤ vec_len new
  pub greatest : vec_len new ≤ vec_len old + most
  pub capacity : vec_capacity new ≡ vec_capacity old

module _ {R : Type 0} (remaining : R → Option (List ℕ)) (old new : Pipe R) (before after : ℕ) where
  -- The effect of a read into a buffer: the bytes read are appended. There were some, and the pipe is still fresh; or
  -- none, since the input has ended; or the pipe has stopped. The budget falls by the number of reads.
  pub record FillsBuffer (held held' : List ℕ) (result : Result Bool InputFault) : Type 0 where
    pub growth : BufferGrowth (unread_bytes remaining old) (unread_bytes remaining new) held held'
    pub more : IfOk result (λ more. more ≡ true → (length held < length held') × IsFresh new)
    pub end : IfOk result (λ more. more ≡ false → (held' ≡ held) × HasEnded remaining new)
    pub stop : IfErr result (λ fault. (fault ≡ ReadFault) × HasStopped new)
    pub calls : PaysCalls old new before after

  -- The outcome of reading a head from the bytes consumed: they begin with a head, and the pipe is still fresh; or they
  -- are a bad head; or the input has ended within a head; or the pipe has stopped. The budget falls by the number of
  -- reads.
  pub record HeadReadOutcome (bytes : List ℕ) (headers : List HeaderSpan) (result : Result RequestSpans HeadStop) :
      Type 0 where
    pub taken : Consumes (unread_bytes remaining old) (unread_bytes remaining new) bytes
    pub whole : IfOk result (λ spans. IsHeadAt (take head_limit bytes) headers spans × IsFresh new)
    pub bad : IsErrOf result head_stop.Bad → IsBadHead bytes
    pub cut : IsErrOf result (head_stop.InputFault Cut) → IsCutHead bytes × HasEnded remaining new
    pub fault : IsErrOf result (head_stop.InputFault ReadFault) → HasStopped new
    pub calls : PaysCalls old new before after

  -- The outcome of reading a body that begins with `start`: all of it was read; or the input has ended within it; or
  -- the pipe has stopped; or memory ran out. The budget falls by the number of reads.
  pub record BodyReadOutcome (start : List ℕ) (count : ℕ) (items : List ℕ) (result : Result (Unit {0}) BodyStop) :
      Type 0 where
    pub taken : ConsumesSome (unread_bytes remaining old) (unread_bytes remaining new)
    pub whole : OnOk result (ReadsBody (unread_bytes remaining old) (unread_bytes remaining new) start count items)
    pub cut : IsErrOf result (body_stop.InputFault Cut)
        → CutsBody (unread_bytes remaining old) (unread_bytes remaining new) start count × (ended_of new ≡ true)
    pub fault : IsErrOf result (body_stop.InputFault ReadFault) → HasStopped new
    pub calls : PaysCalls old new before after
