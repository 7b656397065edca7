-- Proves bounds on the number of complete lines of a head, from the number of its fields.
use Rattle.std.proofs.lemmas.Grind.{common_steps}
use Rattle.std.proofs.Common.{◌≡◌, ◌∙◌, sym, ap, subst, refl, ℕ, ◌+◌, ◌≤◌, ◌==◌, Bool, true, false, cond, List}
use Rattle.std.proofs.Common.{[], ◌∷◌, ◌++◌, length, append-nil, All, append_assoc, arith}
use Rattle.std.specs.List.{flat_map, count_by}
use Rattle.std.proofs.lemmas.List.{append_cancel_right}
use Rattle.std.proofs.lemmas.List.Sums.{sum_by-append, sum_by-cons}
use Rattle.std.proofs.lemmas.List.Elements.{All-head, All-tail}
use Rattle.std.proofs.lemmas.Bool.{both_ways, eqb-true}
use Rattle.httparse.specs.Grammar.{LineEnd, crlf, lf, print_end, print_blank, print_version, Field, print_field}
use Rattle.httparse.specs.Grammar.{IsField, RequestHead, IsRequestHead, print_request, ReadsRequest, AllPass}
use Rattle.httparse.specs.Grammar.{is_token_byte, is_uri_byte, is_value_byte}
use Rattle.thes_http_request.specs.Heads.{after_blank_lines, is_line_feed, whole_lines}
use Rattle.thes_http_request.proofs.BlankLemmas.{skip_blank, token_stays}

abbrev lines_in : List ℕ → ℕ
lines_in bytes = count_by is_line_feed bytes

lines_both : (xs ys : List ℕ) → lines_in (xs ++ ys) ≡ lines_in xs + lines_in ys
lines_both xs ys = sum_by-append (λ x. cond (is_line_feed x) 1 0) xs ys

lines_after : (x : ℕ) (xs : List ℕ) → lines_in xs ≤ lines_in (x ∷ xs)
lines_after x xs = let e = sum_by-cons (λ x. cond (is_line_feed x) 1 0) x xs in omega (arith, e)

one_end : (e : LineEnd) → 1 ≤ lines_in (print_end e)
one_end e = grind (arith, common_steps)

one_field : (f : Field) → 1 ≤ lines_in (print_field f)
one_field f = grind (arith, common_steps, lines_both)

each_field : (fs : List Field) → length fs ≤ lines_in (flat_map print_field fs)
each_field [] = omega arith
each_field (f ∷ fs) = grind (arith, common_steps, lines_both, one_field, each_field fs)

-- The end of a line, without its line feed.
unfoldable pub before_feed : LineEnd → List ℕ
before_feed crlf = 13 ∷ []
before_feed lf = []

last_feed : (e : LineEnd) → print_end e ≡ before_feed e ++ 10 ∷ []
unfolding before_feed
last_feed e = grind (arith, common_steps)

-- The part of a head after its method, without the last line feed.
unfoldable pub after_method : RequestHead → List ℕ
after_method h =
    32 ∷ (h.target ++ 32
    ∷ (print_version h.minor ++ (print_end h.line_end ++ (flat_map print_field h.fields ++ before_feed h.last))))

-- The lines after the method outnumber the fields.
many_lines : (h : RequestHead) → length h.fields + 1 ≤ lines_in (after_method h)
unfolding after_method
many_lines h = grind (arith, common_steps, lines_after, lines_both, each_field)

regroup : (blank method target version line fields last : List ℕ)
    → ((((blank ++ method) ++ 32 ∷ target) ++ 32 ∷ version) ++ line) ++ (fields ++ (last ++ 10 ∷ []))
    ≡ (blank ++ (method ++ 32 ∷ (target ++ 32 ∷ (version ++ (line ++ (fields ++ last)))))) ++ 10 ∷ []
regroup blank method target version line fields last = simp append_assoc refl

pub to_feed : (h : RequestHead) → print_request h ≡ (print_blank h.blank ++ (h.method ++ after_method h)) ++ 10 ∷ []
unfolding print_request after_method
to_feed h = grind (arith, common_steps, last_feed, regroup)

pub front_is : (front : List ℕ) (h : RequestHead) → front ++ 10 ∷ [] ≡ print_request h ++ []
    → front ≡ print_blank h.blank ++ (h.method ++ after_method h)
front_is front h e = grind (arith, common_steps, append_cancel_right, to_feed)

line_is : (front rest : List ℕ) (h : RequestHead) → ReadsRequest (front ++ 10 ∷ []) h []
    → after_blank_lines (front ++ rest) ≡ h.method ++ (after_method h ++ rest)
line_is front rest h r =
    ap (λ t. after_blank_lines (t ++ rest)) (front_is front h r.1)
    ∙ (ap after_blank_lines (append_assoc (print_blank h.blank) (h.method ++ after_method h) rest
    ∙ ap (λ t. print_blank h.blank ++ t) (append_assoc h.method (after_method h) rest))
    ∙ (skip_blank h.blank (h.method ++ (after_method h ++ rest)) ∙ token_stays h.method (after_method h ++ rest)
    r.0.method))

pub fields_lines : (front rest : List ℕ) (h : RequestHead) → ReadsRequest (front ++ 10 ∷ []) h [] → length h.fields
    + 1 ≤ whole_lines (front ++ rest)
fields_lines front rest h r =
    let same : whole_lines (front ++ rest) ≡ lines_in (h.method ++ (after_method h ++ rest)) =
    ap lines_in (line_is front rest h r) in
    let a = lines_both h.method (after_method h ++ rest) in
    let b = lines_both (after_method h) rest in
    let c = many_lines h in
    omega (arith, same, a, b, c)

-- If all bytes pass a test that a line feed doesn't pass, they have no complete line.

no_feeds : (test : ℕ → Bool) → test 10 ≡ false → (bytes : List ℕ) → AllPass test bytes → lines_in bytes ≡ 0
no_feeds test none [] all = refl
no_feeds test none (b ∷ bytes) all =
    by (b == 10) refl (no_feeds test none bytes (All-tail (λ k. test k ≡ true) b bytes all))
  where
    by : (u : Bool) → (b == 10) ≡ u → lines_in bytes ≡ 0 → lines_in (b ∷ bytes) ≡ 0
    by true e rest =
        let same : b ≡ 10 = eqb-true b 10 e in
        absurd (both_ways (test 10) none (subst (λ k. test k ≡ true) same (All-head (λ k. test k ≡ true) b bytes all)))
    by false e rest =
        let one = sum_by-cons (λ x. cond (is_line_feed x) 1 0) b bytes in
        let zero : cond {A = ℕ} (is_line_feed b) 1 0 ≡ 0 = rw e refl in
        omega (arith, one, zero, rest)

token_feeds : (bytes : List ℕ) → AllPass is_token_byte bytes → lines_in bytes ≡ 0
unfolding is_token_byte
token_feeds bytes all = no_feeds is_token_byte refl bytes all

end_feeds : (e : LineEnd) → lines_in (print_end e) ≡ 1
end_feeds e = grind (arith, common_steps)

field_feeds : (f : Field) → IsField f → lines_in (print_field f) ≡ 1
field_feeds f is =
    let a = lines_both (f.name ++ 58 ∷ f.raw) (print_end f.end) in
    let b = lines_both f.name (58 ∷ f.raw) in
    let c = token_feeds f.name is.name.1 in
    let d = no_feeds is_value_byte refl f.raw is.raw in
    let e = end_feeds f.end in
    let g = sum_by-cons (λ x. cond (is_line_feed x) 1 0) 58 f.raw in
    omega (arith, a, b, c, d, e, g)

all_feeds : (fs : List Field) → All IsField fs → lines_in (flat_map print_field fs) ≡ length fs
all_feeds [] all = refl
all_feeds (f ∷ fs) all =
    let a = lines_both (print_field f) (flat_map print_field fs) in
    let b = field_feeds f (All-head IsField f fs all) in
    let c = all_feeds fs (All-tail IsField f fs all) in
    omega (arith, a, b, c)

last_feeds : (e : LineEnd) → lines_in (before_feed e) ≡ 0
unfolding before_feed
last_feeds e = grind (arith, common_steps)

version_feeds : (minor : ℕ) → minor ≤ 1 → lines_in (print_version minor) ≡ 0
version_feeds minor l = grind (arith, common_steps)

-- After its method, and without its last line feed, a head has one complete line more than fields.
few_lines : (h : RequestHead) → IsRequestHead h → lines_in (after_method h) ≡ length h.fields + 1
unfolding after_method
few_lines h is =
    let last = flat_map print_field h.fields ++ before_feed h.last in
    let line = print_end h.line_end ++ last in
    let version = print_version h.minor ++ line in
    let a = sum_by-cons (λ x. cond (is_line_feed x) 1 0) 32 (h.target ++ 32 ∷ version) in
    let b = lines_both h.target (32 ∷ version) in
    let c = sum_by-cons (λ x. cond (is_line_feed x) 1 0) 32 version in
    let d = lines_both (print_version h.minor) line in
    let e = lines_both (print_end h.line_end) last in
    let f = end_feeds h.line_end in
    let g = lines_both (flat_map print_field h.fields) (before_feed h.last) in
    let i = all_feeds h.fields is.fields in
    let j = last_feeds h.last in
    let k = version_feeds h.minor is.minor in
    let l = no_feeds is_uri_byte refl h.target is.target.1 in
    omega (arith, a, b, c, d, e, f, g, i, j, k, l)

-- A prefix of bytes has no more complete lines than the bytes.
lines_of_prefix : (xs ys : List ℕ) → whole_lines xs ≤ whole_lines (xs ++ ys)
unfolding after_blank_lines
lines_of_prefix [] ys = omega arith
lines_of_prefix (b ∷ []) ys = grind (arith, common_steps, sum_by-cons)
lines_of_prefix (a ∷ b ∷ bytes) ys =
    grind (arith, common_steps, lines_both, lines_of_prefix (b ∷ bytes) ys, lines_of_prefix bytes ys)

-- Bytes that end before the last line feed of a head have at most one complete line more than the
-- head has fields.
pub lines_before_end : (front : List ℕ) (rest : List ℕ) (h : RequestHead) → ReadsRequest (front ++ 10 ∷ []) h []
    → (bytes more : List ℕ) → front ≡ bytes ++ more → whole_lines bytes ≤ length h.fields + 1
lines_before_end front rest h r bytes more e =
    let prefix = lines_of_prefix bytes more in
    let whole : whole_lines (bytes ++ more) ≡ lines_in (h.method ++ (after_method h ++ [])) =
    ap whole_lines (sym e ∙ sym (append-nil front)) ∙ ap lines_in (line_is front [] h r) in
    let a = lines_both h.method (after_method h ++ []) in
    let b = lines_both (after_method h) [] in
    let c = few_lines h r.0 in
    let d = token_feeds h.method r.0.method.1 in
    omega (arith, prefix, whole, a, b, c, d)
