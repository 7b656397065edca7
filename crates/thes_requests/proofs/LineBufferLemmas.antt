-- Proves which bytes of a line have been consumed, and are held in memory, after each byte and each run of bytes.
use Rattle.std.proofs.lemmas.Grind.{common_steps}
use Rattle.std.proofs.Common.{◌≡◌, ◌≤◌, ◌<◌, ◌+◌, ◌∙◌, ap, ℕ, zero, suc, List, [], ◌∷◌, ◌++◌, ◌==◌, Bool, true, false}
use Rattle.std.proofs.Common.{refl, length, take, arith, sym, subst, Option, None, Some}
use Rattle.std.specs.Prelude.{slice_index, ◌-◌, drop, unwrap_or}
use Rattle.std.proofs.lemmas.Bool.{false_from_ne_true}
use Rattle.std.proofs.lemmas.List.{get_or-take, length-take, length-take-le, take-append-drop, drop-drop, drop-take}
use Rattle.memchr.specs.Find.{IsFirstByte, Passes, is_byte}
use Rattle.std.proofs.KnownBytes.{Consumes-trans}
use Rattle.std.specs.Io.KnownBytes.{Consumes, prepend_known}
use Rattle.thes_requests.specs.LineBuffer.{has_newline, ConsumesRun}
use Rattle.thes_requests.specs.declared.line_buffer.LineRun.{LineRun}

has_newline-append : (raw run : List ℕ) → has_newline raw ≡ false → has_newline run ≡ false → has_newline (raw ++ run)
    ≡ false
has_newline-append [] run h k = k
has_newline-append (x ∷ raw) run h k = grind (arith, common_steps, has_newline-append raw run)

-- A prefix has no line feed if none of its bytes is one.
pub no_newline : (bytes : List ℕ) (count : ℕ) → count ≤ length bytes
    → ((k : ℕ) → k < count → (slice_index bytes k == 10) ≡ false) → has_newline (take count bytes) ≡ false
no_newline bytes zero within each = refl
no_newline [] (suc count) within each = absurd (omega arith)
no_newline (x ∷ bytes) (suc count) within each =
    rw (each 0 (omega arith)) (no_newline bytes count (omega arith) (λ k below. each (suc k) (omega arith)))

-- The bytes before the first line feed have none; if a search finds none, all bytes searched have
-- none.
pub first_line : (bytes : List ℕ) (most : ℕ) (place : Option ℕ) → most ≤ length bytes → IsFirstByte (is_byte 10)
    (take most bytes) place → has_newline (take (unwrap_or place most) bytes) ≡ false
first_line bytes most place within first = go place first where
  length_is : length (take most bytes) ≡ most
  length_is = length-take-le most bytes within

  other : (k : ℕ) → k < most → ¬ Passes (is_byte 10) (take most bytes) k → (slice_index bytes k == 10) ≡ false
  other k below fails = ap (λ b. b == 10) (sym (get_or-take most bytes k 0 below)) ∙ false_from_ne_true _ fails

  go : (r : Option ℕ) → IsFirstByte (is_byte 10) (take most bytes) r → has_newline (take (unwrap_or r most) bytes)
      ≡ false
  go None nowhere =
      no_newline bytes most within (λ k below. other k below (nowhere k (omega arith) (omega (arith, length_is))))
  go (Some k) found = no_newline bytes k (omega (arith, length_is, found.0.high))
      (λ j below. other j (omega (arith, length_is, found.0.high)) (found.0.before j (omega arith) below))

-- After `count` bytes are consumed, the buffer holds the bytes after them.
pub buffer_after_consume : (at filled count : ℕ) (buffer : List ℕ) → count
    ≤ length (take (filled - at) (drop at buffer)) → take (filled - (at + count)) (drop (at + count) buffer)
    ≡ drop count (take (filled - at) (drop at buffer))
buffer_after_consume at filled count buffer within =
    let short : length (take (filled - at) (drop at buffer)) ≤ filled - at =
    rw (length-take (filled - at) (drop at buffer)) (omega arith) in
    let parts : filled - at ≡ count + (filled - (at + count)) = omega arith in
    ap (take (filled - (at + count))) (sym (drop-drop count at buffer))
    ∙ sym (drop-take count (filled - (at + count)) (drop at buffer))
    ∙ ap (λ n. drop count (take n (drop at buffer))) (sym parts)

-- The first `taken` bytes of a line were consumed, and `line` has all of them if `held`.
pub record LineSoFar (old new : Option (List ℕ)) (line : List ℕ) (held : Bool) (taken : ℕ) : Type 0 where
  pub raw : List ℕ
  pub bytes : Consumes old new raw
  pub one : has_newline raw ≡ false
  pub count : length raw ≡ taken
  pub kept : held ≡ true → line ≡ raw

-- Bytes without a line feed extend the line consumed so far.
pub line_so_far_append : (old mid new : Option (List ℕ)) (line line' run : List ℕ) (held held' : Bool) (taken : ℕ)
    → LineSoFar old mid line held taken → Consumes mid new run → has_newline run ≡ false
    → (held' ≡ true → (held ≡ true) × (line' ≡ line ++ run))
    → LineSoFar old new line' held' (taken + length run)
line_so_far_append old mid new line line' run held held' taken f s e k =
    grind (arith, common_steps, Consumes-trans, has_newline-append)

-- Bytes in the buffer are consumed before those of the reader.
consumes_buffered : (run rest : List ℕ) (unread : Option (List ℕ)) → Consumes (prepend_known (run ++ rest) unread)
    (prepend_known rest unread) run
consumes_buffered run rest unread = grind (arith, common_steps)

-- A run of bytes from the buffer extends the line consumed so far.
pub line_so_far_run : (old unread : Option (List ℕ)) (held rest line line' : List ℕ) (kept : Bool) (run : LineRun)
    (taken : ℕ)
    → LineSoFar old (prepend_known held unread) line kept taken → ConsumesRun held rest line line' kept run
    → LineSoFar old (prepend_known rest unread) line' run.kept (taken + run.count)
line_so_far_run old unread held rest line line' kept run taken front taking =
    let bytes = take run.count held in
    let parts : bytes ++ rest ≡ held = ap (λ t. bytes ++ t) taking.rest ∙ take-append-drop run.count held in
    let consumes = subst (λ (t : List ℕ). Consumes (prepend_known t unread) (prepend_known rest unread) bytes) parts
    (consumes_buffered bytes rest unread) in
    let more = line_so_far_append old (prepend_known held unread) (prepend_known rest unread) line line' bytes kept
    run.kept taken front consumes taking.one taking.appends in
    subst (λ (n : ℕ). LineSoFar old (prepend_known rest unread) line' run.kept (taken + n))
    (length-take-le run.count held taking.within) more
