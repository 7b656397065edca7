-- Proves that empty lines before a request line are skipped, up to its method.
use Rattle.std.proofs.lemmas.Grind.{common_steps}
use Rattle.std.proofs.Common.{◌≡◌, ◌∙◌, sym, ap, subst, refl, ℕ, ◌+◌, ◌<◌, ◌==◌, ◌&&◌, Bool, true, false, cond, List}
use Rattle.std.proofs.Common.{[], ◌∷◌, ◌++◌, length, take, drop, arith, rules, length-append}
use Rattle.std.specs.List.{list_all, position_or_len, before_first, after_first}
use Rattle.std.proofs.lemmas.Bool.{both_ways, cond-false, eqb-true}
use Rattle.std.proofs.lemmas.List.Sums.{position_or_len_is, list_all-from_AllPass}
use Rattle.std.proofs.lemmas.List.Folds.{list_any_at}
use Rattle.std.proofs.Math.ListN.{get_or-append}
use Rattle.std.proofs.Math.Seq.{get_or-append_seam, take-append_seam, drop-append-add}
use Rattle.std.specs.Cmp.Derive.{both_true}
use Rattle.httparse.specs.Grammar.{LineEnd, crlf, lf, print_blank, IsToken, is_token, is_token_byte, is_uri_byte}
use Rattle.httparse.specs.Grammar.{AllPass}
use Rattle.std.specs.Str.{bytes_eq}
use Rattle.thes_http_request.specs.Heads.{after_blank_lines, is_space, is_open_target}

first_true : (x : Bool) (a b : List ℕ) → (x && true) ≡ true → cond x a b ≡ a
first_true x a b h = grind (arith, common_steps)

first_false : (x : Bool) (a b : List ℕ) → (x && true) ≡ false → cond x a b ≡ b
first_false x a b h = grind (arith, common_steps)

second_true : (y z : Bool) (a b : List ℕ) → (y && (z && true)) ≡ true → cond (y && z) a b ≡ a
second_true y z a b h = grind (arith, common_steps, first_true)

second_false : (y z : Bool) (a b : List ℕ) → (y && (z && true)) ≡ false → cond (y && z) a b ≡ b
second_false y z a b h = grind (arith, common_steps, first_false)

-- A leading line feed is skipped.
pub blank_line_feed : (bytes : List ℕ) → bytes_eq (take 1 bytes) (10 ∷ []) ≡ true → after_blank_lines bytes
    ≡ after_blank_lines (drop 1 bytes)
unfolding after_blank_lines
blank_line_feed bytes h = grind (arith, common_steps, first_true)

-- A leading carriage return with its line feed is skipped.
pub blank_return : (bytes : List ℕ) → bytes_eq (take 1 bytes) (10 ∷ []) ≡ false → bytes_eq (take 2 bytes)
    (13 ∷ 10 ∷ []) ≡ true → after_blank_lines bytes ≡ after_blank_lines (drop 2 bytes)
unfolding after_blank_lines
blank_return bytes h k = grind (arith, common_steps, first_false, second_true)

-- Bytes that begin with neither line end are left as they are.
pub blank_end : (bytes : List ℕ) → bytes_eq (take 1 bytes) (10 ∷ []) ≡ false → bytes_eq (take 2 bytes) (13 ∷ 10 ∷ [])
    ≡ false → after_blank_lines bytes ≡ bytes
unfolding after_blank_lines
blank_end bytes h k = grind (arith, common_steps, first_false, second_false)

-- Empty lines are skipped, whatever line follows.

skip_line_feed : (bytes : List ℕ) → after_blank_lines (10 ∷ bytes) ≡ after_blank_lines bytes
unfolding after_blank_lines
skip_line_feed bytes = grind (arith, common_steps)

skip_return : (bytes : List ℕ) → after_blank_lines (13 ∷ 10 ∷ bytes) ≡ after_blank_lines bytes
unfolding after_blank_lines
skip_return bytes = refl

pub skip_blank : (ends : List LineEnd) (bytes : List ℕ) → after_blank_lines (print_blank ends ++ bytes)
    ≡ after_blank_lines bytes
skip_blank [] bytes = refl
skip_blank (crlf ∷ ends) bytes = skip_return (print_blank ends ++ bytes) ∙ skip_blank ends bytes
skip_blank (lf ∷ ends) bytes = skip_line_feed (print_blank ends ++ bytes) ∙ skip_blank ends bytes

line_feed_none : is_token_byte 10 ≡ false
unfolding is_token_byte
line_feed_none = refl

return_none : is_token_byte 13 ≡ false
unfolding is_token_byte
return_none = refl

space_none : is_token_byte 32 ≡ false
unfolding is_token_byte
space_none = refl

differs_from_other : (b n : ℕ) → is_token_byte n ≡ false → is_token_byte b ≡ true → (t : Bool) → (b == n) ≡ t
    → (b == n) ≡ false
differs_from_other b n none h t e = grind (arith, common_steps, both_ways, eqb-true)

no_return : (y z : Bool) (a b : List ℕ) → y ≡ false → cond (y && z) a b ≡ b
no_return y z a b e = grind (arith, common_steps)

line_stays : (b : ℕ) (bytes : List ℕ) → (b == 10) ≡ false → (b == 13) ≡ false → after_blank_lines (b ∷ bytes) ≡ b
    ∷ bytes
unfolding after_blank_lines
line_stays b bytes h k = grind (arith, common_steps, cond-false, no_return)

-- A line that begins with a method isn't empty.
pub token_stays : (method bytes : List ℕ) → IsToken method → after_blank_lines (method ++ bytes) ≡ method ++ bytes
token_stays method bytes t = grind (arith, common_steps, line_stays, differs_from_other, line_feed_none, return_none)

-- A line of a method, a space and a target has its first space after the method.

module _ (method target : List ℕ) (t : IsToken method) where
  abbrev line : List ℕ
  line = method ++ 32 ∷ target

  method_within_line : length method < length line
  method_within_line = let k = length-append method (32 ∷ target) in omega (arith, k)

  space_at : position_or_len is_space line ≡ length method
  space_at = position_or_len_is is_space line (length method) 0 (let k = method_within_line in omega (arith, k))
      (λ k l. differs_from_other _ 32 space_none
      (subst (λ b. is_token_byte b ≡ true) (sym (get_or-append method (32 ∷ target) 0 k l)) (t.1 k 0 l)) _ refl)
      (λ l. ap is_space (get_or-append_seam method 32 target 0))

  before_space : before_first is_space line ≡ method
  before_space = ap (λ n. take n line) space_at ∙ take-append_seam method (32 ∷ target)

  after_space : after_first is_space line ≡ target
  after_space = ap (λ n. drop (n + 1) line) space_at ∙ drop-append-add method (32 ∷ target) 1

  method_is_token : is_token method ≡ true
  method_is_token = both_true (search (rules, t.0)) (list_all-from_AllPass is_token_byte method t.1)

  pub open_target : AllPass is_uri_byte target → is_open_target line ≡ true
  open_target u =
      both_true (list_any_at is_space line (length method) 0 method_within_line
      (ap is_space (get_or-append_seam method 32 target 0)))
      (both_true (ap is_token before_space ∙ method_is_token) (ap (list_all is_uri_byte) after_space
      ∙ list_all-from_AllPass is_uri_byte target u))
