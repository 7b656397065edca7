-- Proves that the concatenated lines of triples have one reading as a document: these triples.
use Rattle.std.proofs.lemmas.Grind.{common_steps}
use Rattle.std.proofs.Common.{◌≡◌, ◌∙◌, sym, refl, subst, ℕ, List, [], ◌∷◌, ◌++◌, map, arith, inl, inr, ⊎_elim}
use Rattle.std.proofs.lemmas.List.Elements.{All-head}
use Rattle.thes_base.specs.Triples.{Triple}
use Rattle.thes_export.specs.NTriples.{Statement, IsBlankByte, IsEolByte, IsEol, IsSpaced, IsSubject, IsTriple}
use Rattle.thes_export.specs.NTriples.{IsLineEnd, IsTail, IsDocument}
use Rattle.thes_export.specs.Spelling.{statement_of}
use Rattle.thes_export.proofs.TerminalLemmas.{head_of, tail_of, heads_differ, no_gap_before}
use Rattle.thes_export.proofs.WritableLemmas.{IsWritable}
use Rattle.thes_export.proofs.LineReadingLemmas.{line_then, not_blank, line_same}

-- A text that begins with neither white space nor `#` has no white space or comment at its beginning, so all of it
-- remains.
no_line_end : (text : List ℕ) (c : ℕ) (x rest : List ℕ) → text ≡ c ∷ x → ¬ IsBlankByte c → (c ≡ 35 → ⊥)
    → IsLineEnd text rest → rest ≡ c ∷ x
no_line_end text c x rest e blank hash at_line_end = grind (arith, common_steps, heads_differ, no_gap_before)

-- An end of line that begins with a line feed is this byte alone, if the byte after it is neither a line feed nor a
-- carriage return.
one_eol : (eol rest text x : List ℕ) → IsEol eol → text ≡ eol ++ rest → text ≡ 10 ∷ x
    → ((c : ℕ) (z : List ℕ) → x ≡ c ∷ z → ¬ IsEolByte c) → rest ≡ x
one_eol [] rest text x has_form text_is e stops = absurd (let l = has_form.0 in omega arith)
one_eol (b ∷ []) rest text x has_form text_is e stops = tail_of _ _ _ _ (sym text_is ∙ e)
one_eol (b ∷ c ∷ eol) rest text x has_form text_is e stops =
    absurd (stops c (eol ++ rest) (sym (tail_of _ _ _ _ (sym text_is ∙ e))) (has_form.1 1 0 (omega arith)))

no_eol : (eol rest text : List ℕ) (c : ℕ) (x : List ℕ) → IsEol eol → text ≡ eol ++ rest → text ≡ c ∷ x → ¬ IsEolByte c
    → ⊥
no_eol eol rest text c x has_form text_is e stops = grind (arith, common_steps, All-head, head_of)

no_eol_empty : (eol rest text : List ℕ) → IsEol eol → text ≡ eol ++ rest → text ≡ [] → ⊥
no_eol_empty [] rest text has_form text_is e = let l = has_form.0 in omega arith
no_eol_empty (b ∷ eol) rest text has_form text_is e = let bad : [] ≡ b ∷ (eol ++ rest) = sym e ∙ text_is in cc

-- An empty text has an empty rest after white space.
spaced_empty : (text rest : List ℕ) → IsSpaced text rest → text ≡ [] → rest ≡ []
spaced_empty text rest gap_before e = grind (arith, common_steps)

no_triple : (text : List ℕ) (content : Statement) (rest : List ℕ) → IsTriple text content rest → text ≡ [] → ⊥
no_triple text content rest read e = go read.subject
  where
    first : read.first ≡ []
    first = spaced_empty text read.first read.first_spaced e

    go : IsSubject read.first content.subject read.after_subject → ⊥
    go (inl (iri, is, ref)) = let bad : [] ≡ 60 ∷ (ref.inner ++ 62 ∷ read.after_subject) = sym first ∙ ref.text_is in cc
    go (inr (label, is, node)) = let bad : [] ≡ 95 ∷ 58 ∷ (label ++ read.after_subject) = sym first ∙ node.text_is in cc

line_end_empty : (text rest : List ℕ) → IsLineEnd text rest → text ≡ [] → rest ≡ []
line_end_empty text rest at_line_end e = grind (arith, common_steps, spaced_empty)

abbrev pub AllWritable : List Triple → Type 0
AllWritable [] = Unit {0}
AllWritable (t ∷ ts) = IsWritable t × AllWritable ts

abbrev pub lines_text : List Triple → List ℕ
lines_text [] = []
lines_text (t ∷ ts) = line_then t (lines_text ts)

eol_blank : ¬ IsBlankByte 10
eol_blank = not_blank 10 (λ q. omega arith) (λ q. omega arith)

open_eol : ¬ IsEolByte 60
open_eol = ⊎_elim (λ q. omega arith) (λ q. omega arith)

-- The text after a triple has only one reading.
tail_same : (ts : List Triple) (others : List Statement) (text : List ℕ) → AllWritable ts → text ≡ 10 ∷ lines_text ts
    → IsTail others text → others ≡ map statement_of ts
tail_same [] [] text fine e tail = refl
tail_same [] (content ∷ others) text fine e tail =
    let end = no_line_end text 10 [] tail.rest e eol_blank (λ q. omega arith) tail.at_line_end in
    let after = one_eol tail.more.eol tail.more.rest tail.rest [] tail.more.has_form tail.more.text_is end
    (λ c z q. absurd (cc)) in
    absurd (no_triple tail.more.rest content tail.more.more.rest tail.more.more.triple after)
tail_same (t ∷ ts) [] text fine e tail =
    let end = no_line_end text 10 (lines_text (t ∷ ts)) tail.rest e eol_blank (λ q. omega arith) tail.at_line_end in
    absurd (⊎_elim
    (λ none. let bad : 10 ∷ lines_text (t ∷ ts) ≡ [] = sym end ∙ none in cc)
    (λ eol.
    let after = one_eol eol.eol eol.rest tail.rest (lines_text (t ∷ ts)) eol.has_form eol.text_is end
    (λ c z q is. open_eol (subst IsEolByte (sym (head_of _ _ _ _ q)) is)) in
    let last = no_line_end eol.rest 60 _ [] after (not_blank 60 (λ q. omega arith) (λ q. omega arith))
    (λ q. omega arith) eol.more in
    let bad : [] ≡ lines_text (t ∷ ts) = last in cc)
    tail.more)
tail_same (t ∷ ts) (content ∷ others) text fine e tail =
    let end = no_line_end text 10 (lines_text (t ∷ ts)) tail.rest e eol_blank (λ q. omega arith) tail.at_line_end in
    let after = one_eol tail.more.eol tail.more.rest tail.rest (lines_text (t ∷ ts)) tail.more.has_form
    tail.more.text_is end (λ c z q is. open_eol (subst IsEolByte (sym (head_of _ _ _ _ q)) is)) in
    let one = line_same t (lines_text ts) tail.more.rest content tail.more.more.rest fine.0 after
    tail.more.more.triple in
    let more = tail_same ts others tail.more.more.rest fine.1 one.1 tail.more.more.more in
    (λ i. one.0 i ∷ more i)

-- A document that consists of the lines of writable triples can only be read as these triples.
pub document_same : (ts : List Triple) (others : List Statement) (text : List ℕ) → AllWritable ts → text
    ≡ lines_text ts → IsDocument text others → others ≡ map statement_of ts
document_same [] [] text fine e document = refl
document_same [] (content ∷ others) text fine e (inl begins) =
    absurd (no_triple text content begins.rest begins.triple e)
document_same [] (content ∷ others) text fine e (inr tail) =
    absurd (no_eol_empty tail.more.eol tail.more.rest tail.rest tail.more.has_form tail.more.text_is
    (line_end_empty text tail.rest tail.at_line_end e))
document_same (t ∷ ts) [] text fine e tail =
    let end = no_line_end text 60 _ tail.rest e (not_blank 60 (λ q. omega arith) (λ q. omega arith))
    (λ q. omega arith) tail.at_line_end in
    absurd (⊎_elim
    (λ none. let bad : lines_text (t ∷ ts) ≡ [] = sym end ∙ none in cc)
    (λ eol. no_eol eol.eol eol.rest tail.rest 60 _ eol.has_form eol.text_is end open_eol)
    tail.more)
document_same (t ∷ ts) (content ∷ others) text fine e (inl begins) =
    let one = line_same t (lines_text ts) text content begins.rest fine.0 e begins.triple in
    let more = tail_same ts others begins.rest fine.1 one.1 begins.more in
    (λ i. one.0 i ∷ more i)
document_same (t ∷ ts) (content ∷ others) text fine e (inr tail) =
    let end = no_line_end text 60 _ tail.rest e (not_blank 60 (λ q. omega arith) (λ q. omega arith))
    (λ q. omega arith) tail.at_line_end in
    absurd (no_eol tail.more.eol tail.more.rest tail.rest 60 _ tail.more.has_form tail.more.text_is end open_eol)
