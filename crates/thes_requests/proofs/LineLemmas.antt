-- Proves that appending a line to bytes that end with a line feed adds that line to their lines.
use Rattle.std.proofs.lemmas.Grind.{common_steps}
use Rattle.std.proofs.Common.{arith, ◌≡◌, ◌≢◌, inr, sym, ap, refl, ℕ, List, [], ◌∷◌, ◌++◌, ◌==◌, map, append_assoc}
use Rattle.std.proofs.Common.{Bool, true, false, cond}
use Rattle.std.specs.List.{slice_split, onto_first}
use Rattle.std.specs.Str.Lines.{lines, lines_of_parts, strip_carriage_return}
use Rattle.thes_requests.specs.LineBuffer.{has_newline, line_bytes, line_content}
use Rattle.thes_requests.specs.Script.{EndsLine, raw_lines, raw_lines_of}

abbrev at_newline : ℕ → Bool
at_newline b = b == 10

-- Splitting a text at its line feeds gives at least one part.
split_some : (xs : List ℕ) → (y : List ℕ) × (more : List (List ℕ)) × (slice_split at_newline xs ≡ y ∷ more)
split_some [] = ([], [], refl)
split_some (x ∷ xs) =
    elim (at_newline x) as (λ t. (y : List ℕ) × (more : List (List ℕ))
    × (cond t ([] ∷ slice_split at_newline xs) (onto_first x (slice_split at_newline xs)) ≡ y ∷ more)) [
      | true ↦ ([], slice_split at_newline xs, refl)
      | false ↦ let s = split_some xs in (x ∷ s.0, s.1, ap (onto_first x) s.2)
    ]

-- A line feed ends the first part.
split_line : (raw rest : List ℕ) → has_newline raw ≡ false → slice_split at_newline (raw ++ 10 ∷ rest) ≡ raw
    ∷ slice_split at_newline rest
split_line [] rest h = refl
split_line (x ∷ raw) rest h = grind (arith, common_steps, split_line raw rest)

-- Bytes without a line feed are one part.
split_last : (raw : List ℕ) → has_newline raw ≡ false → slice_split at_newline raw ≡ raw ∷ []
split_last [] h = refl
split_last (x ∷ raw) h = grind (arith, common_steps, split_last raw)

lines_line : (raw rest : List ℕ) → has_newline raw ≡ false → lines (raw ++ 10 ∷ rest) ≡ strip_carriage_return raw
    ∷ lines rest
lines_line raw rest h = let s = split_some rest in rw (split_line raw rest h, s.2) refl

whole_line : (raw rest : List ℕ) → has_newline raw ≡ false → raw_lines (raw ++ 10 ∷ rest) ≡ raw ∷ raw_lines rest
whole_line raw rest h = let s = split_some rest in rw (split_line raw rest h, s.2) refl

lines_last : (raw : List ℕ) → has_newline raw ≡ false → raw ≢ [] → lines raw ≡ raw ∷ []
lines_last raw h n = grind (arith, common_steps, split_last)

whole_last : (raw : List ℕ) → has_newline raw ≡ false → raw ≢ [] → raw_lines raw ≡ raw ∷ []
whole_last raw h n = grind (arith, common_steps, split_last)

-- The bytes of one line split into that line alone.
line_lines : (raw : List ℕ) (ended : Bool) → has_newline raw ≡ false → (ended ≡ true → raw ≢ [])
    → lines (line_bytes raw ended) ≡ line_content raw ended ∷ []
line_lines raw ended h some = grind (arith, common_steps, lines_last, lines_line)

pub line_whole : (raw : List ℕ) (ended : Bool) → has_newline raw ≡ false → (ended ≡ true → raw ≢ [])
    → raw_lines (line_bytes raw ended) ≡ raw ∷ []
line_whole raw ended h some = grind (arith, common_steps, whole_last, whole_line)

-- Bytes that end with a line feed split into the same lines, whatever follows.

split_append : (xs ys : List ℕ) → slice_split at_newline (xs ++ 10 ∷ ys) ≡ slice_split at_newline xs
    ++ slice_split at_newline ys
split_append [] ys = refl
split_append (x ∷ xs) ys =
    let more = split_append xs ys in
    let s = split_some xs in
    elim (at_newline x) as (λ t. cond t ([] ∷ slice_split at_newline (xs ++ 10 ∷ ys))
    (onto_first x (slice_split at_newline (xs ++ 10 ∷ ys)))
    ≡ cond t ([] ∷ slice_split at_newline xs) (onto_first x (slice_split at_newline xs)) ++ slice_split at_newline ys) [
      | true ↦ ap (λ p. [] ∷ p) more
      | false ↦ rw (more, s.2) refl
    ]

parts_append : (ps : List (List ℕ)) (q : List ℕ) (qs : List (List ℕ)) → lines_of_parts (ps ++ q ∷ qs)
    ≡ map strip_carriage_return ps ++ lines_of_parts (q ∷ qs)
parts_append [] q qs = refl
parts_append (p ∷ []) q qs = refl
parts_append (p ∷ r ∷ ps) q qs = ap (λ t. strip_carriage_return p ∷ t) (parts_append (r ∷ ps) q qs)

whole_append : (ps : List (List ℕ)) (q : List ℕ) (qs : List (List ℕ)) → raw_lines_of (ps ++ q ∷ qs) ≡ ps
    ++ raw_lines_of (q ∷ qs)
whole_append [] q qs = refl
whole_append (p ∷ []) q qs = refl
whole_append (p ∷ r ∷ ps) q qs = ap (λ t. p ∷ t) (whole_append (r ∷ ps) q qs)

lines_front : (front ys : List ℕ) → lines (front ++ 10 ∷ ys) ≡ map strip_carriage_return
    (slice_split at_newline front) ++ lines ys
lines_front front ys = let s = split_some ys in
    rw (split_append front ys, s.2) (parts_append (slice_split at_newline front) s.0 s.1)

whole_front : (front ys : List ℕ) → raw_lines (front ++ 10 ∷ ys) ≡ slice_split at_newline front ++ raw_lines ys
whole_front front ys = let s = split_some ys in
    rw (split_append front ys, s.2) (whole_append (slice_split at_newline front) s.0 s.1)

pub lines-append : (xs ys : List ℕ) → EndsLine xs → lines (xs ++ ys) ≡ lines xs ++ lines ys
lines-append xs ys h = grind (arith, common_steps, lines_front)

pub raw_lines-append : (xs ys : List ℕ) → EndsLine xs → raw_lines (xs ++ ys) ≡ raw_lines xs ++ raw_lines ys
raw_lines-append xs ys h = grind (arith, common_steps, whole_front)

-- Bytes of one line, appended to bytes that end with a line feed, add one line.
pub lines-more : (xs raw : List ℕ) (ended : Bool) → EndsLine xs → has_newline raw ≡ false → (ended ≡ true → raw ≢ [])
    → lines (xs ++ line_bytes raw ended) ≡ lines xs ++ line_content raw ended ∷ []
lines-more xs raw ended e h some = grind (arith, common_steps, lines-append, line_lines)

pub raw_lines-more : (xs raw : List ℕ) (ended : Bool) → EndsLine xs → has_newline raw ≡ false
    → (ended ≡ true → raw ≢ []) → raw_lines (xs ++ line_bytes raw ended) ≡ raw_lines xs ++ raw ∷ []
raw_lines-more xs raw ended e h some = grind (arith, common_steps, raw_lines-append, line_whole)

-- After one more line the bytes end with a line feed again, unless the input ended.
pub ends_line_after_line : (xs raw : List ℕ) (ended : Bool) → ended ≡ false → EndsLine (xs ++ line_bytes raw ended)
ends_line_after_line xs raw ended e = inr (xs ++ raw, rw e (sym (append_assoc xs raw (10 ∷ []))))
