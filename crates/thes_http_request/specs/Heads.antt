-- The head of an HTTP request: complete and within the limits, incomplete, or bad.
use Rattle.std.specs.Prelude.{ℕ, ◌≡◌, ◌≤◌, ◌<◌, ◌+◌, ◌==◌, ◌&&◌, if◌then◌else◌, ◌⊎◌, Bool, IsTrue, false, List, []}
use Rattle.std.specs.Prelude.{◌∷◌, length, take, map}
use Rattle.std.specs.List.{list_any, list_all, count_by, before_first, after_first}
use Rattle.httparse.specs.Grammar.{RequestHead, print_request, ReadsRequest, HasNoRequest, NeverHasRequest}
use Rattle.httparse.specs.Grammar.{MayBecomeRequest, is_token, is_uri_byte}
use Rattle.httparse.specs.Spans.{name_and_value, RequestExceeds}

-- The greatest length of a head in bytes.
abbrev pub head_limit : ℕ
head_limit = 8192

-- The greatest number of header lines in a head.
abbrev pub fields_limit : ℕ
fields_limit = 64

-- The parts of a head that the checks use: the method, the target, and each field as its name and
-- value.
pub record Parts : Type 0 where
  pub method : List ℕ
  pub target : List ℕ
  pub fields : List (List ℕ × List ℕ)

-- The parts of a head that was read.
abbrev pub parts_of : RequestHead → Parts
parts_of h = record { method = h.method; target = h.target; fields = map name_and_value h.fields }

-- The bytes begin with this head, which is within the limits, and `rest` follows.
pub record HasHead (bytes : List ℕ) (h : RequestHead) (rest : List ℕ) : Type 0 where
  pub reads : ReadsRequest bytes h rest
  pub short : length (print_request h) ≤ head_limit
  pub few : length h.fields ≤ fields_limit

-- The bytes after the empty lines that may precede a request line (RFC 9112, section 2.2).
unfoldable pub after_blank_lines : List ℕ → List ℕ
after_blank_lines [] = []
after_blank_lines (b ∷ []) = if b == 10 then [] else b ∷ []
after_blank_lines (a ∷ b ∷ bytes) =
    if a == 10 then after_blank_lines (b ∷ bytes)
    else if a == 13 && b == 10 then after_blank_lines bytes
    else a ∷ b ∷ bytes

-- Whether the byte is a line feed.
abbrev pub is_line_feed : ℕ → Bool
is_line_feed b = b == 10

-- Whether the byte is a space.
abbrev pub is_space : ℕ → Bool
is_space b = b == 32

-- The number of complete lines after the leading empty ones, the request line included.
abbrev pub whole_lines : List ℕ → ℕ
whole_lines bytes = count_by is_line_feed (after_blank_lines bytes)

-- Whether the bytes of a line end within its target: they are a method, a space, and bytes of a
-- target.
abbrev pub is_open_target : List ℕ → Bool
is_open_target line =
    list_any is_space line && (is_token (before_first is_space line)
    && list_all is_uri_byte (after_first is_space line))

-- Whether the bytes, after leading empty lines, end within the target of a request line.
abbrev pub ends_in_target : List ℕ → Bool
ends_in_target bytes = is_open_target (after_blank_lines bytes)

-- The bytes have no complete head, and at most 65 complete lines: a request line and 64 header lines. More bytes may
-- complete a head, or the bytes end within a target, of which more may follow.
pub record IsUnfinished (bytes : List ℕ) : Type 0 where
  pub none : HasNoRequest bytes
  pub few : whole_lines bytes ≤ fields_limit + 1
  pub may_come : MayBecomeRequest bytes ⊎ IsTrue (ends_in_target bytes)

-- The bytes end within a head that may still be within the limits.
pub record IsCutHead (bytes : List ℕ) : Type 0 where
  pub short : length bytes ≤ head_limit
  pub unfinished : IsUnfinished bytes

-- The bytes begin no head, whatever bytes follow.
pub record IsNoHead (bytes : List ℕ) : Type 0 where
  pub never : NeverHasRequest bytes
  pub past_target : ends_in_target bytes ≡ false

-- The bytes have more header lines than a head may have.
abbrev pub HasTooManyLines : List ℕ → Type 0
HasTooManyLines bytes =
    RequestExceeds fields_limit bytes
    ⊎ (HasNoRequest bytes × (fields_limit + 1 < whole_lines bytes))

-- The bytes exceed the greatest length of a head, and no head ends within it.
pub record IsTooLong (bytes : List ℕ) : Type 0 where
  pub long : head_limit < length bytes
  pub none : HasNoRequest (take head_limit bytes)

-- The bytes begin no head within the limits, whatever bytes follow.
abbrev pub IsBadHead : List ℕ → Type 0
IsBadHead bytes = IsNoHead bytes ⊎ (HasTooManyLines bytes ⊎ IsTooLong bytes)
