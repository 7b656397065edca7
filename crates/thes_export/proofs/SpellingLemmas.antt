-- Proves that the spelled lines of triples are a document of these triples.
use Rattle.std.proofs.lemmas.Grind.{common_steps}
use Rattle.std.proofs.Common.{◌≡◌, ◌∙◌, sym, ap, refl, subst, ℕ, ◌≤◌, List, [], ◌∷◌, ◌++◌, map, All, arith, inl, inr}
use Rattle.std.proofs.Common.{append_assoc}
use Rattle.std.specs.Prelude.{codes, flat_map}
use Rattle.std.proofs.lemmas.List.Elements.{All-cons, All-nil, All-head, All-tail}
use Rattle.thes_base.specs.Forms.{IsIriByte}
use Rattle.thes_base.specs.Triples.{Triple, Object, Node, Class, Literal, True}
use Rattle.thes_export.specs.NTriples.{IsBlankByte, IsEolByte, IsEchar, Piece, Plain, Echar, piece_text, piece_value}
use Rattle.thes_export.specs.NTriples.{IsIriPiece, IsStringPiece, IsMadeOf, IsIriref, IsQuoted, IsLangtag, IsSpaced}
use Rattle.thes_export.specs.NTriples.{IsObject, IsTriple, IsLineEnd, IsEolThen, IsTail, IsDocument}
use Rattle.thes_export.specs.Spelling.{xsd, byte_spelling, object_text, line_of, statement_of, term_of, property_iri}
use Rattle.thes_export.specs.Spelling.{class_iri}
use Rattle.thes_export.proofs.TerminalLemmas.{IsSpecial, spelled_byte, special_value}
use Rattle.thes_export.proofs.WritableLemmas.{IsTagForm, IsTextByte, IsWritableObject, IsWritable, class_bytes}
use Rattle.thes_export.proofs.WritableLemmas.{property_bytes, boolean_bytes}
use Rattle.thes_export.proofs.LineReadingLemmas.{object_then, line_then}
use Rattle.thes_export.proofs.DocumentLemmas.{AllWritable, lines_text, document_same}

iri_made : (iri : List ℕ) → All IsIriByte iri → IsMadeOf IsIriPiece iri iri
iri_made [] each = record { pieces = []; each = All-nil IsIriPiece; text_is = refl; read = refl }
iri_made (b ∷ iri) each =
    let more = iri_made iri (All-tail IsIriByte b iri each) in
    record {
      pieces = Plain b ∷ more.pieces;
      each = All-cons IsIriPiece (Plain b) more.pieces (All-head IsIriByte b iri each) more.each;
      text_is = ap (λ l. b ∷ l) more.text_is;
      read = ap (λ l. b ∷ l) more.read;
    }

iriref_reads : (iri x : List ℕ) → All IsIriByte iri → IsIriref (60 ∷ (iri ++ 62 ∷ x)) iri x
iriref_reads iri x each = record { inner = iri; spelling = iri_made iri each; text_is = refl }

is_echar : (b : ℕ) → IsSpecial b → IsEchar b
is_echar b (inl e) = subst IsEchar (sym e) (5, omega arith, refl)
is_echar b (inr e) = subst IsEchar (sym e) (7, omega arith, refl)

-- The piece that spells a byte of a literal.
record IsByPiece (b : ℕ) : Type 0 where
  piece : Piece
  fine : IsStringPiece piece
  text : byte_spelling b ≡ piece_text piece
  read : b ∷ [] ≡ piece_value piece

by_piece : (b : ℕ) → IsTextByte b → IsByPiece b
by_piece b fine = elim (spelled_byte b) [
  | inl w ↦ record {
    piece = Echar b;
    fine = is_echar b w.0;
    text = w.1;
    read = ap (λ c. c ∷ []) (sym (special_value b w.0));
  }
  | inr w ↦ record { piece = Plain b; fine = (w.0, w.1, fine.0, fine.1); text = w.2; read = refl }
]

-- The escaped bytes of a literal are pieces whose value is the literal.
string_made : (text : List ℕ) → All IsTextByte text → IsMadeOf IsStringPiece (flat_map byte_spelling text) text
string_made [] each = record { pieces = []; each = All-nil IsStringPiece; text_is = refl; read = refl }
string_made (b ∷ text) each =
    let one = by_piece b (All-head IsTextByte b text each) in
    let more = string_made text (All-tail IsTextByte b text each) in
    record {
      pieces = one.piece ∷ more.pieces;
      each = All-cons IsStringPiece one.piece more.pieces one.fine more.each;
      text_is = λ i. one.text i ++ more.text_is i;
      read = λ i. one.read i ++ more.read i;
    }

quoted_reads : (text x : List ℕ) → All IsTextByte text → IsQuoted (34 ∷ (flat_map byte_spelling text ++ 34 ∷ x)) text x
quoted_reads text x each = grind (arith, common_steps, string_made)

pub text_byte : (b : ℕ) → 32 ≤ b → IsTextByte b
text_byte b least = (λ q. omega arith, λ q. omega arith)

true_bytes : All IsTextByte (codes "true")
true_bytes = grind (arith, common_steps, All-cons, All-nil, text_byte)

tag_reads : (tag x : List ℕ) → IsTagForm tag → IsLangtag (64 ∷ (tag ++ x)) tag x
tag_reads tag x form = grind (arith, common_steps)

unspaced_reads : (text : List ℕ) → IsSpaced text text
unspaced_reads text = record { gap = []; blank = λ k d below. absurd (omega arith); text_is = refl }

space_reads : (text : List ℕ) → IsSpaced (32 ∷ text) text
space_reads text = record {
  gap = 32 ∷ [];
  blank = All-cons IsBlankByte 32 [] (inl refl) (All-nil IsBlankByte);
  text_is = refl;
}

object_reads : (o : Object) (x : List ℕ) → IsWritableObject o → IsObject (object_then o x) (term_of o) x
object_reads (Node iri) x fine = inl (inl (iri, refl, iriref_reads iri x fine))
object_reads (Class kind) x fine = inl (inl (class_iri kind, refl, iriref_reads (class_iri kind) x (class_bytes kind)))
object_reads (Literal tag text) x fine = inr (record {
  value = text;
  after = 64 ∷ (tag ++ x);
  quoted = quoted_reads text (64 ∷ (tag ++ x)) fine.1;
  content =
      inr (inr (record {
        start = 64 ∷ (tag ++ x);
        gap_before = unspaced_reads _;
        tag = tag;
        langtag = tag_reads tag x fine.0;
        read = refl;
      }));
})
object_reads True x fine = inr (record {
  value = codes "true";
  after = 94 ∷ 94 ∷ 60 ∷ (xsd (codes "boolean") ++ 62 ∷ x);
  quoted = quoted_reads (codes "true") (94 ∷ 94 ∷ 60 ∷ (xsd (codes "boolean") ++ 62 ∷ x)) true_bytes;
  content = inr (inl (record {
    carets = 60 ∷ (xsd (codes "boolean") ++ 62 ∷ x);
    carets_follow = unspaced_reads _;
    start = 60 ∷ (xsd (codes "boolean") ++ 62 ∷ x);
    gap_before = unspaced_reads _;
    type = xsd (codes "boolean");
    iriref = iriref_reads (xsd (codes "boolean")) x boolean_bytes;
    read = refl;
  }));
})

-- The line of a writable triple is read as that triple.
line_reads : (t : Triple) (x : List ℕ) → IsWritable t → IsTriple (line_then t x) (statement_of t) (10 ∷ x)
line_reads t x fine = record {
  first = line_then t x;
  first_spaced = unspaced_reads (line_then t x);
  after_subject = 32 ∷ 60 ∷ (property_iri t.property ++ 62 ∷ 32 ∷ object_then t.object (32 ∷ 46 ∷ 10 ∷ x));
  subject = inl (t.subject, refl, iriref_reads t.subject _ fine.subject);
  second = 60 ∷ (property_iri t.property ++ 62 ∷ 32 ∷ object_then t.object (32 ∷ 46 ∷ 10 ∷ x));
  second_spaced = space_reads _;
  after_predicate = 32 ∷ object_then t.object (32 ∷ 46 ∷ 10 ∷ x);
  predicate = iriref_reads (property_iri t.property) _ (property_bytes t.property);
  third = object_then t.object (32 ∷ 46 ∷ 10 ∷ x);
  third_spaced = space_reads _;
  after_object = 32 ∷ 46 ∷ 10 ∷ x;
  object = object_reads t.object (32 ∷ 46 ∷ 10 ∷ x) fine.object;
  stop_spaced = space_reads _;
}

no_gap : (text : List ℕ) → IsLineEnd text text
no_gap text = record {
  start = text;
  gap_before = unspaced_reads text;
  comment = [];
  content = inl refl;
  text_is = refl;
}

one_line_feed : {Next : List ℕ → Type 0} (rest : List ℕ) → Next rest → IsEolThen Next (10 ∷ rest)
one_line_feed rest more =
    record {
      eol = 10 ∷ [];
      has_form = (omega arith, All-cons IsEolByte 10 [] (inr refl) (All-nil IsEolByte));
      rest = rest;
      text_is = refl;
      more = more;
    }

tail_reads : (ts : List Triple) → AllWritable ts → IsTail (map statement_of ts) (10 ∷ lines_text ts)
tail_reads [] fine = record { rest = 10 ∷ []; at_line_end = no_gap _; more = inr (one_line_feed [] (no_gap [])) }
tail_reads (t ∷ ts) fine = record {
  rest = 10 ∷ lines_text (t ∷ ts);
  at_line_end = no_gap _;
  more = one_line_feed (lines_text (t ∷ ts))
      (record {
        rest = 10 ∷ lines_text ts;
        triple = line_reads t (lines_text ts) fine.0;
        more = tail_reads ts fine.1;
      });
}

pub lines_read : (ts : List Triple) → AllWritable ts → IsDocument (lines_text ts) (map statement_of ts)
lines_read [] fine = record { rest = []; at_line_end = no_gap []; more = inl refl }
lines_read (t ∷ ts) fine =
    inl (record {
      rest = 10 ∷ lines_text ts;
      triple = line_reads t (lines_text ts) fine.0;
      more = tail_reads ts fine.1;
    })

object_spelled : (o : Object) (x : List ℕ) → object_text o ++ x ≡ object_then o x
object_spelled o x = grind (arith, common_steps, append_assoc)

-- A line followed by other text is spelled as `line_then` spells it.
pub line_spelled : (t : Triple) (x : List ℕ) → line_of t ++ x ≡ line_then t x
unfolding line_of
line_spelled t x = simp (append_assoc, object_spelled t.object (32 ∷ 46 ∷ 10 ∷ x))

-- Triples with the same line are the same RDF triple.
pub one_line : (t u : Triple) → IsWritable t → IsWritable u → line_of t ≡ line_of u → statement_of t ≡ statement_of u
one_line t u fine other e =
    let same : lines_text (t ∷ []) ≡ lines_text (u ∷ []) = sym (line_spelled t []) ∙ ap (λ l. l ++ []) e
    ∙ line_spelled u [] in
    let read = document_same (u ∷ []) (statement_of t ∷ []) (lines_text (t ∷ [])) (other, tt) same
    (lines_read (t ∷ []) (fine, tt)) in
    cc
