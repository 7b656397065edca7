-- Proves that a head within the limits is neither incomplete nor bad, and that bytes begin with at
-- most one head.
use Rattle.std.proofs.Common.{refl, ◌⊎◌, drop, take_at, take-append-drop, ◌≡◌, ◌∙◌, sym, ap, subst, inl, inr, ℕ, ◌+◌}
use Rattle.std.proofs.Common.{◌-◌, ◌≤◌, ◌<◌, List, [], ◌∷◌, ◌++◌, length, take, append_assoc, append-nil, arith}
use Rattle.std.proofs.Common.{length-append}
use Rattle.std.proofs.Math.Seq.{take-append-add}
use Rattle.std.proofs.lemmas.List.{take-append-le}
use Rattle.std.proofs.lemmas.Bool.{cases_lt}
use Rattle.std.specs.List.{flat_map}
use Rattle.httparse.specs.Grammar.{print_end, print_blank, print_version, print_field, RequestHead, IsRequestHead}
use Rattle.httparse.specs.Grammar.{print_request, ReadsRequest, HasNoRequest}
use Rattle.httparse.specs.Spans.{RequestExceeds}
use Rattle.httparse.specs.Pieces.{RequestStart}
use Rattle.httparse.proofs.PieceLemmas.{Stops_token, Section_skip, RequestStart_deterministic}
use Rattle.httparse.proofs.GrammarLemmas.{request_tree, request_pieces, request_unique}
use Rattle.thes_http_request.proofs.LineLemmas.{before_feed, after_method, to_feed, front_is, lines_before_end}
use Rattle.thes_http_request.proofs.HeadLemmas.{exceeds_in}
use Rattle.thes_http_request.specs.Heads.{head_limit, fields_limit, whole_lines, HasHead, IsBadHead}
use Rattle.thes_http_request.specs.Laws.{HeadIsWhole, OneHead}

-- The bytes of a head start a request: a request line, and what follows it.
start_of : (bytes follows : List ℕ) (h : RequestHead) → IsRequestHead h
    → bytes ≡ print_blank h.blank ++ (h.method ++ 32 ∷ (h.target ++ 32 ∷ (print_version h.minor
    ++ (print_end h.line_end ++ follows)))) → RequestStart (request_tree h).0 bytes follows
start_of bytes follows h is e = (
  _,
  (e, Stops_token h.method _ is.method.0 is.method.1),
  (
    _,
    (is.method.0, is.method.1, refl),
    (_, ((is.target.0, is.target.1, refl), is.target_text), (_, (is.minor, refl), refl)),
  ),
)

-- A head without its last line feed starts a request, whatever bytes follow.
start_within : (front rest : List ℕ) (h : RequestHead) → ReadsRequest (front ++ 10 ∷ []) h []
    → RequestStart (request_tree h).0 (front ++ rest) (flat_map print_field h.fields ++ (before_feed h.last ++ rest))
unfolding after_method
start_within front rest h reads = start_of (front ++ rest) _ h reads.0 (ap (λ t. t ++ rest) (front_is front h reads.1)
    ∙ regroup (print_blank h.blank) h.method h.target (print_version h.minor) (print_end h.line_end)
    (flat_map print_field h.fields) (before_feed h.last) rest)
  where
    regroup : (a b c d e f g r : List ℕ) → (a ++ (b ++ 32 ∷ (c ++ 32 ∷ (d ++ (e ++ (f ++ g)))))) ++ r
        ≡ a ++ (b ++ 32 ∷ (c ++ 32 ∷ (d ++ (e ++ (f ++ (g ++ r))))))
    regroup a b c d e f g r = simp append_assoc refl

few_exceed_none : (bytes rest : List ℕ) (k : RequestHead) → HasHead bytes k rest → RequestExceeds fields_limit bytes → ⊥
few_exceed_none bytes rest k has (front, left, is, h, reads, many) =
    let pieces = request_pieces (front ++ left) k rest (subst (λ (t : List ℕ). ReadsRequest t k rest) is has.reads) in
    let same = RequestStart_deterministic.unique (request_tree k).0 (request_tree h).0 (front ++ left) pieces.0
    (flat_map print_field h.fields ++ (before_feed h.last ++ left)) pieces.1 (start_within front left h reads) in
    let more = Section_skip h.fields k.fields k.last pieces.0 (before_feed h.last ++ left) rest
    (reads.0.fields, same.1) pieces.2 in
    let count = ap length more.1 ∙ length-append h.fields more.0 in
    omega (arith, count, many, has.few)

within_limit : (bytes rest : List ℕ) (h : RequestHead) → HasHead bytes h rest → HasNoRequest (take head_limit bytes) → ⊥
within_limit bytes rest h has none =
    let n = length (print_request h) in
    let count : n + (head_limit - n) ≡ head_limit = omega (arith, has.short) in
    let front : take head_limit bytes ≡ print_request h ++ take (head_limit - n) rest =
    ap (λ t. take head_limit t) has.reads.1
    ∙ subst (λ (k : ℕ). take k (print_request h ++ rest) ≡ print_request h ++ take (head_limit - n) rest) count
    (take-append-add (print_request h) rest (head_limit - n)) in
    none h (take (head_limit - n) rest) (has.reads.0, front)

-- If bytes are the beginning of a head but have no complete head, they have at most one complete
-- line more than the head has fields.
within_head : (bytes more rest : List ℕ) (h : RequestHead) → HasHead (bytes ++ more) h rest → HasNoRequest bytes
    → whole_lines bytes ≤ length h.fields + 1
within_head bytes more rest h has none = by (cases_lt (length bytes) (length (print_request h)))
  where
    front : List ℕ
    front = print_blank h.blank ++ (h.method ++ after_method h)

    whole : bytes ++ more ≡ front ++ (10 ∷ rest)
    whole = has.reads.1 ∙ (ap (λ t. t ++ rest) (to_feed h) ∙ append_assoc front (10 ∷ []) rest)

    by : (length bytes < length (print_request h)) ⊎ (length (print_request h) ≤ length bytes)
        → whole_lines bytes ≤ length h.fields + 1
    by (inl short) =
        let n = ap length (to_feed h) ∙ length-append front (10 ∷ []) in
        let l : length bytes ≤ length front = omega (arith, n, short) in
        let starts : bytes ≡ take (length bytes) front =
        sym (take_at bytes more (length bytes) refl) ∙ (ap (λ t. take (length bytes) t) whole
        ∙ take-append-le (length bytes) front (10 ∷ rest) l) in
        lines_before_end front [] h (has.reads.0, sym (to_feed h) ∙ sym (append-nil (print_request h))) bytes
        (drop (length bytes) front) (sym (ap (λ t. t ++ drop (length bytes) front) starts
        ∙ take-append-drop (length bytes) front))
    by (inr long) =
        let n = length (print_request h) in
        let starts : print_request h ≡ take n bytes =
        sym (take_at (print_request h) rest n refl) ∙ (ap (λ t. take n t) (sym has.reads.1)
        ∙ take-append-le n bytes more long) in
        absurd (none h (drop n bytes) (
          has.reads.0,
          sym (ap (λ t. t ++ drop n bytes) starts
              ∙ take-append-drop n bytes),
        ))

not_bad : (bytes more rest : List ℕ) (h : RequestHead) → HasHead (bytes ++ more) h rest → IsBadHead bytes → ⊥
not_bad bytes more rest h has (inl n) = n.never more h rest has.reads
not_bad bytes more rest h has (inr (inl (inl x))) =
    few_exceed_none (bytes ++ more) rest h has (exceeds_in bytes more (bytes ++ more) refl x)
not_bad bytes more rest h has (inr (inl (inr m))) =
    let lines = within_head bytes more rest h has m.0 in omega (arith, lines, m.1, has.few)
not_bad bytes more rest h has (inr (inr l)) = within_limit (bytes ++ more) rest h has
    (subst HasNoRequest (sym (take-append-le head_limit bytes more (omega (arith, l.long)))) l.none)

pub head_is_whole : HeadIsWhole
head_is_whole = record {
  not_cut = λ bytes rest h has cut. cut.unfinished.none h rest has.reads;
  not_bad = not_bad;
}

pub one_head : OneHead
one_head bytes r q h k x y = request_unique bytes h k r q x.reads y.reads
