-- Header fields, and the length of the body that they state (RFC 9110, sections 5 and 8.6).
use Rattle.std.specs.Prelude.{ℕ, ◌&&◌, Bool, if◌then◌else◌, nat_lt, nat_le, List, [], ◌∷◌, length, map, filter, codes}
use Rattle.std.specs.Prelude.{Option, Some, None, Result, Ok, Err}
use Rattle.std.specs.Char.{to_ascii_lowercase, is_ascii_digit}
use Rattle.std.specs.List.{list_any, list_all}
use Rattle.std.specs.Str.{bytes_eq}
use Rattle.std.specs.Str.Parse.{digits_value}
use Rattle.thes_http_request.specs.declared.problem.Problem.{Problem}
use Rattle.thes_http_request.specs.declared.problem.Problem.TheVariants.{BadHead, NoLength, TooLong}

-- Whether the field has this name, whatever the case of its letters; `name` is in lower case.
abbrev pub is_named : List ℕ → List ℕ × List ℕ → Bool
is_named name field = bytes_eq (map to_ascii_lowercase field.0) name

-- Whether some field has this name, whatever the case of its letters; `name` is in lower case.
unfoldable pub has_field : List ℕ → List (List ℕ × List ℕ) → Bool
has_field name fields = list_any (is_named name) fields

-- The values of the fields with this name, in order.
unfoldable pub values_of : List ℕ → List (List ℕ × List ℕ) → List (List ℕ)
values_of name fields = map (λ field. field.1) (filter (is_named name) fields)

-- Whether the text consists of one or more decimal digits.
abbrev pub is_length : List ℕ → Bool
is_length text = nat_lt 0 (length text) && list_all is_ascii_digit text

-- The length that the text states in decimal; `BadHead` if it isn't a length, and `TooLong` if the
-- length exceeds the limit.
unfoldable pub length_of : ℕ → List ℕ → Result ℕ Problem
length_of limit text =
    if is_length text then (if nat_le (digits_value 10 text) limit then Ok (digits_value 10 text) else Err TooLong)
    else Err BadHead

-- The length in the only value; `NoLength` if there is none, and `BadHead` if there is more than
-- one.
abbrev pub length_in : ℕ → List (List ℕ) → Result ℕ Problem
length_in limit [] = Err NoLength
length_in limit (text ∷ []) = length_of limit text
length_in limit (text ∷ other ∷ more) = Err BadHead

-- The length of the body by `Content-Length`, or 0 if no body is read.
abbrev pub body_length : Option ℕ → List (List ℕ × List ℕ) → Result ℕ Problem
body_length None fields = Ok 0
body_length (Some limit) fields = length_in limit (values_of (codes "content-length") fields)
