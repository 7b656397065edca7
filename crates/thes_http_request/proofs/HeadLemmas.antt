-- Proves when bytes are a bad head, and that no bytes are both an incomplete and a bad head.
use Rattle.std.proofs.lemmas.Grind.{common_steps}
use Rattle.std.proofs.Common.{◌≡◌, ◌⊎◌, ◌∙◌, sym, ap, subst, ℕ, ◌+◌, ◌≤◌, ◌<◌, true, List, [], ◌∷◌, ◌++◌, length, take}
use Rattle.std.proofs.Common.{drop, inl, inr, append-nil, append_assoc, take_all, arith}
use Rattle.std.proofs.lemmas.List.{take-append-drop}
use Rattle.std.proofs.lemmas.Bool.{cases_lt, both_ways}
use Rattle.std.specs.Prelude.{IsTrue}
use Rattle.httparse.specs.Grammar.{HasNoRequest, NeverHasRequest, MayBecomeRequest, EndsInTarget, print_blank}
use Rattle.httparse.specs.Spans.{RequestExceeds}
use Rattle.thes_http_request.proofs.BlankLemmas.{skip_blank, token_stays, open_target}
use Rattle.thes_http_request.proofs.LineLemmas.{fields_lines}
use Rattle.thes_http_request.specs.Laws.{CutIsNotBad}
use Rattle.thes_http_request.specs.Heads.{head_limit, fields_limit, after_blank_lines, whole_lines, is_open_target}
use Rattle.thes_http_request.specs.Heads.{ends_in_target, IsUnfinished, IsNoHead, HasTooManyLines, IsCutHead, IsBadHead}

pub none_of_never : (bytes : List ℕ) → NeverHasRequest bytes → HasNoRequest bytes
none_of_never bytes never = subst HasNoRequest (append-nil bytes) (never [])

pub exceeds_in : (front rest bytes : List ℕ) → bytes ≡ front ++ rest → RequestExceeds fields_limit front
    → RequestExceeds fields_limit bytes
exceeds_in front rest bytes e x = grind (arith, common_steps)

pub bad_long : (front bytes : List ℕ) → front ≡ take head_limit bytes → head_limit < length bytes → HasNoRequest front
    → IsBadHead bytes
bad_long front bytes e l none = inr (inr (record { long = l; none = subst HasNoRequest e none }))

bad_at : (bytes : List ℕ) → IsNoHead bytes ⊎ HasTooManyLines bytes → IsBadHead bytes
bad_at bytes h = grind (arith, common_steps)

bad_before : (front bytes : List ℕ) → front ≡ take head_limit bytes → head_limit < length bytes → IsNoHead front
    ⊎ HasTooManyLines front → IsBadHead bytes
bad_before front bytes e l (inl n) = bad_long front bytes e l (none_of_never front n.never)
bad_before front bytes e l (inr (inl x)) =
    inr (inl
    (inl (exceeds_in front (drop head_limit bytes) bytes (sym (take-append-drop head_limit bytes)
    ∙ ap (λ t. t ++ drop head_limit bytes) (sym e)) x)))
bad_before front bytes e l (inr (inr k)) = bad_long front bytes e l k.0

bad_either : (front bytes : List ℕ) → front ≡ take head_limit bytes → (head_limit < length bytes)
    ⊎ (length bytes ≤ head_limit) → IsNoHead front ⊎ HasTooManyLines front → IsBadHead bytes
bad_either front bytes e (inl long) h = bad_before front bytes e long h
bad_either front bytes e (inr short) h =
    bad_at bytes (subst (λ (t : List ℕ). IsNoHead t ⊎ HasTooManyLines t) (e ∙ take_all head_limit bytes short) h)

-- If the first 8,192 bytes can't begin a head or have too many lines, all of the bytes are a bad head.
pub bad_front : (front bytes : List ℕ) → front ≡ take head_limit bytes → IsNoHead front ⊎ HasTooManyLines front
    → IsBadHead bytes
bad_front front bytes e h = bad_either front bytes e (cases_lt head_limit (length bytes)) h

pub cut_front : (front bytes bytes' : List ℕ) → front ≡ take head_limit bytes → bytes' ≡ bytes → length bytes
    ≤ head_limit → IsUnfinished front → IsCutHead bytes'
cut_front front bytes bytes' e same l h =
    rw same (record {
      short = l;
      unfinished = subst (λ (t : List ℕ). IsUnfinished t) (e ∙ take_all head_limit bytes l)
          h;
    })

-- Bytes that end within a target pass the test `ends_in_target`.
pub ends_in_target_holds : (bytes : List ℕ) → EndsInTarget bytes → ends_in_target bytes ≡ true
ends_in_target_holds bytes (blank, method, target, token, uri, is) =
    let line : after_blank_lines bytes ≡ method ++ (32 ∷ target) =
    ap after_blank_lines (is ∙ append_assoc (print_blank blank) method (32 ∷ target))
    ∙ (skip_blank blank (method ++ (32 ∷ target)) ∙ token_stays method (32 ∷ target) token) in
    ap is_open_target line ∙ open_target method target token uri

-- A head with too many fields has too many complete lines.
pub many_fields_many_lines : (bytes : List ℕ) → RequestExceeds fields_limit bytes → fields_limit + 1 < whole_lines bytes
many_fields_many_lines bytes h = grind (arith, common_steps, fields_lines)

open_is_no_end : (bytes : List ℕ) → MayBecomeRequest bytes ⊎ IsTrue (ends_in_target bytes) → IsNoHead bytes → ⊥
open_is_no_end bytes h n = grind (arith, common_steps, both_ways, ends_in_target_holds)

pub cut_is_not_bad : CutIsNotBad
cut_is_not_bad bytes c h = grind (arith, common_steps, open_is_no_end, many_fields_many_lines)
