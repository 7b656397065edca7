-- Proves that spelled terminals have only one reading, although the grammar allows other spellings.
use Rattle.std.proofs.lemmas.Grind.{common_steps}
use Rattle.std.proofs.Common.{◌≡◌, ◌⊎◌, ◌∙◌, sym, ap, refl, subst, ℕ, ◌==◌, true, List, [], ◌∷◌, ◌++◌}
use Rattle.std.proofs.Common.{All, arith, inl, inr, rules}
use Rattle.std.specs.Prelude.{codes, flat_map}
use Rattle.std.specs.List.{list_any}
use borrow.Author.Tests.{eqb-true, eqb-false}
use Rattle.std.proofs.lemmas.List.Elements.{All-cons, All-append, All-head, All-tail}
use Rattle.std.specs.Char.{IsAsciiAlphabetic, IsAsciiAlphanumeric}
use Rattle.thes_base.specs.Forms.{IsIriByte}
use Rattle.thes_export.specs.NTriples.{IsBlankByte, IsGap, Piece, Plain, Echar, Uchar, piece_text, piece_value}
use Rattle.thes_export.specs.NTriples.{IsUchar, escaped_value, IsIriPiece, IsStringPiece, IsIriref, IsQuoted, AreSome}
use Rattle.thes_export.specs.NTriples.{IsLangtag, IsSpaced}
use Rattle.thes_export.specs.Spelling.{byte_spelling}

pub head_of : (c d : ℕ) (x y : List ℕ) → c ∷ x ≡ d ∷ y → c ≡ d
head_of c d x y e = cc

pub tail_of : (c d : ℕ) (x y : List ℕ) → c ∷ x ≡ d ∷ y → x ≡ y
tail_of c d x y e = cc

pub heads_differ : {A : Type 0} (c d : ℕ) (x y : List ℕ) → (c ≡ d → ⊥) → c ∷ x ≡ d ∷ y → A
heads_differ c d x y never e = absurd (never (head_of c d x y e))

-- White space between terminals has one reading.

-- Before a byte that is neither space nor tab there is no white space.
pub no_gap_before : (text rest : List ℕ) (c : ℕ) (x : List ℕ) → IsSpaced text rest → text ≡ c ∷ x → ¬ IsBlankByte c
    → rest ≡ c ∷ x
no_gap_before text rest c x gap_before e never = grind (arith, common_steps, All-head, head_of)

-- One space is skipped if the remaining text doesn't begin with another.
pub past_space : (text rest : List ℕ) (c : ℕ) (x : List ℕ) → IsSpaced text rest → text ≡ 32 ∷ c ∷ x → ¬ IsBlankByte c
    → ((z : List ℕ) → rest ≡ 32 ∷ z → ⊥) → rest ≡ c ∷ x
past_space text rest c x gap_before e never other = go gap_before.gap gap_before.blank (sym gap_before.text_is ∙ e)
  where
    go : (gap : List ℕ) → IsGap gap → gap ++ rest ≡ 32 ∷ c ∷ x → rest ≡ c ∷ x
    go [] blank same = absurd (other (c ∷ x) same)
    go (b ∷ gap) blank same = no_gap_before (gap ++ rest) rest c x
        (record { gap = gap; blank = All-tail IsBlankByte b gap blank; text_is = refl }) (tail_of _ _ _ _ same) never

not_iri_byte : (b : ℕ) → list_any (λ c. c == b) (codes "<>\"{}|^`\\") ≡ true → ¬ IsIriByte b
not_iri_byte b among of = let e = of.1 in absurd (cc)

pub iri_not : (c b : ℕ) → IsIriByte c → c ≡ b → list_any (λ d. d == b) (codes "<>\"{}|^`\\") ≡ true → ⊥
iri_not c b of same among = not_iri_byte b among (subst IsIriByte same of)

-- Pieces that spell an IRI up to its closing bracket are exactly its bytes.
iri_pieces : (iri : List ℕ) (pieces : List Piece) (x y : List ℕ) → All IsIriByte iri → All IsIriPiece pieces → iri
    ++ 62 ∷ x ≡ flat_map piece_text pieces ++ 62 ∷ y → (flat_map piece_value pieces ≡ iri) × (x ≡ y)
iri_pieces [] [] x y own their e = (refl, tail_of _ _ _ _ e)
iri_pieces [] (Plain b ∷ ps) x y own their e = grind (arith, common_steps, All-head, head_of, iri_not)
iri_pieces [] (Echar b ∷ ps) x y own their e = absurd (All-head IsIriPiece (Echar b) ps their)
iri_pieces [] (Uchar b ds ∷ ps) x y own their e = heads_differ _ _ _ _ (λ q. omega arith) e
iri_pieces (c ∷ iri) [] x y own their e = absurd (iri_not c 62 (All-head IsIriByte c iri own) (head_of _ _ _ _ e) refl)
iri_pieces (c ∷ iri) (Plain b ∷ ps) x y own their e = grind (
  arith,
  common_steps,
  All-tail,
  head_of,
  tail_of,
  iri_pieces
      iri ps x y (All-tail IsIriByte c iri own) (All-tail IsIriPiece (Plain b) ps their) (tail_of _ _ _ _ e),
)
iri_pieces (c ∷ iri) (Echar b ∷ ps) x y own their e = absurd (All-head IsIriPiece (Echar b) ps their)
iri_pieces (c ∷ iri) (Uchar b ds ∷ ps) x y own their e = grind (arith, common_steps, All-head, head_of, iri_not)

-- An IRI in angle brackets is read as itself.
pub iriref_same : (text : List ℕ) (iri x other rest : List ℕ) → All IsIriByte iri → text ≡ 60 ∷ (iri ++ 62 ∷ x)
    → IsIriref text other rest → (other ≡ iri) × (rest ≡ x)
iriref_same text iri x other rest own e ref = grind (arith, common_steps, iri_pieces, tail_of)

-- A byte that is spelled after a backslash.
abbrev pub IsSpecial : ℕ → Type 0
IsSpecial b = (b ≡ 34) ⊎ (b ≡ 92)

pub spelled_byte : (b : ℕ) → (IsSpecial b × (byte_spelling b ≡ 92 ∷ b ∷ []))
    ⊎ ((b ≡ 34 → ⊥) × (b ≡ 92 → ⊥) × (byte_spelling b ≡ b ∷ []))
spelled_byte b = grind (arith, common_steps, eqb-false, eqb-true)

pub special_value : (b : ℕ) → IsSpecial b → escaped_value b ≡ b
special_value b (inl e) = subst (λ c. escaped_value c ≡ c) (sym e) refl
special_value b (inr e) = subst (λ c. escaped_value c ≡ c) (sym e) refl

no_letter : (b letter : ℕ) (digits : List ℕ) → IsSpecial b → IsUchar letter digits → letter ≡ b → ⊥
no_letter b letter digits h of e = grind (arith, common_steps)

-- Pieces that spell this text have it as their value.
abbrev ReadsAs : (text x y : List ℕ) → Type 0
ReadsAs text x y = (pieces : List Piece) → All IsStringPiece pieces → flat_map byte_spelling text ++ 34 ∷ x
    ≡ flat_map piece_text pieces ++ 34 ∷ y → (flat_map piece_value pieces ≡ text) × (x ≡ y)

module _ (c : ℕ) (text x y : List ℕ) (again : ReadsAs text x y) where
  special : IsSpecial c → (pieces : List Piece) → All IsStringPiece pieces → 92 ∷ c
      ∷ (flat_map byte_spelling text ++ 34 ∷ x) ≡ flat_map piece_text pieces ++ 34 ∷ y
      → (flat_map piece_value pieces ≡ c ∷ text) × (x ≡ y)
  special of [] their e = heads_differ _ _ _ _ (λ q. omega arith) e
  special of (Plain b ∷ ps) their e = grind (arith, common_steps, All-head, head_of)
  special of (Echar b ∷ ps) their e =
      let heads : b ≡ c = sym (head_of _ _ _ _ (tail_of _ _ _ _ e)) in
      let more = again ps (All-tail IsStringPiece (Echar b) ps their) (tail_of _ _ _ _ (tail_of _ _ _ _ e)) in
      let value : escaped_value b ≡ c = ap escaped_value heads ∙ special_value c of in
      (λ i. value i ∷ more.0 i, more.1)
  special of (Uchar b ds ∷ ps) their e = grind (arith, common_steps, All-head, head_of, no_letter, tail_of)

  usual : (c ≡ 34 → ⊥) → (c ≡ 92 → ⊥) → (pieces : List Piece) → All IsStringPiece pieces → c
      ∷ (flat_map byte_spelling text ++ 34 ∷ x) ≡ flat_map piece_text pieces ++ 34 ∷ y
      → (flat_map piece_value pieces ≡ c ∷ text) × (x ≡ y)
  usual quote slash [] their e = absurd (quote (head_of _ _ _ _ e))
  usual quote slash (Plain b ∷ ps) their e =
      let heads : b ≡ c = sym (head_of _ _ _ _ e) in
      let more = again ps (All-tail IsStringPiece (Plain b) ps their) (tail_of _ _ _ _ e) in
      (λ i. heads i ∷ more.0 i, more.1)
  usual quote slash (Echar b ∷ ps) their e = absurd (slash (head_of _ _ _ _ e))
  usual quote slash (Uchar b ds ∷ ps) their e = absurd (slash (head_of _ _ _ _ e))

  one_byte : (pieces : List Piece) → All IsStringPiece pieces → flat_map byte_spelling (c ∷ text) ++ 34 ∷ x
      ≡ flat_map piece_text pieces ++ 34 ∷ y → (flat_map piece_value pieces ≡ c ∷ text) × (x ≡ y)
  one_byte pieces their e = elim (spelled_byte c) [
    | inl w ↦ special w.0 pieces their (sym (ap (λ front. (front ++ flat_map byte_spelling text) ++ 34 ∷ x) w.1) ∙ e)
    | inr w ↦ usual w.0 w.1 pieces their (sym (ap (λ front. (front ++ flat_map byte_spelling text) ++ 34 ∷ x) w.2) ∙ e)
  ]

string_pieces : (text x y : List ℕ) → ReadsAs text x y
string_pieces [] x y [] their e = (refl, tail_of _ _ _ _ e)
string_pieces [] x y (Plain b ∷ ps) their e = grind (arith, common_steps, All-head, head_of)
string_pieces [] x y (Echar b ∷ ps) their e = heads_differ _ _ _ _ (λ q. omega arith) e
string_pieces [] x y (Uchar b ds ∷ ps) their e = heads_differ _ _ _ _ (λ q. omega arith) e
string_pieces (c ∷ text) x y pieces their e = one_byte c text x y (string_pieces text x y) pieces their e

-- A text in quotation marks is read as itself.
pub quoted_same : (text value x other rest : List ℕ) → text ≡ 34 ∷ (flat_map byte_spelling value ++ 34 ∷ x)
    → IsQuoted text other rest → (other ≡ value) × (rest ≡ x)
quoted_same text value x other rest e read = grind (arith, common_steps, string_pieces, tail_of)

abbrev pub IsTagByte : ℕ → Type 0
IsTagByte b = IsAsciiAlphanumeric b ⊎ (b ≡ 45)

-- The text doesn't begin with a byte that is allowed in tags.
abbrev pub Stops : List ℕ → Type 0
Stops [] = Unit {0}
Stops (c ∷ x) = IsTagByte c → ⊥

-- A run of bytes that are allowed in tags ends at only one index.
pub run_same : (a b x y : List ℕ) → All IsTagByte a → All IsTagByte b → Stops x → Stops y → a ++ x ≡ b ++ y → (a ≡ b)
    × (x ≡ y)
run_same [] [] x y h k s t e = (refl, e)
run_same [] (q ∷ b) x y h k s t e = absurd (subst Stops e s (All-head IsTagByte q b k))
run_same (r ∷ a) [] x y h k s t e = absurd (subst Stops (sym e) t (All-head IsTagByte r a h))
run_same (r ∷ a) (q ∷ b) x y h k s t e = grind (
  arith,
  common_steps,
  All-tail,
  head_of,
  tail_of,
  run_same a b x y
      (All-tail IsTagByte r a h) (All-tail IsTagByte q b k) s t (tail_of _ _ _ _ e),
)

pub part_bytes : (parts : List (List ℕ)) → All (AreSome IsAsciiAlphanumeric) parts
    → All IsTagByte (flat_map (λ part. 45 ∷ part) parts)
part_bytes [] each = λ k d below. absurd (omega arith)
part_bytes (part ∷ parts) each =
    All-cons IsTagByte 45 _ (inr refl)
    (All-append IsTagByte part _
    (λ k d below. inl ((All-head (AreSome IsAsciiAlphanumeric) part parts each).1 k d below))
    (part_bytes parts (All-tail (AreSome IsAsciiAlphanumeric) part parts each)))

letter_byte : (b : ℕ) → IsAsciiAlphabetic b → IsTagByte b
letter_byte b is = inl (search rules)

pub tag_bytes : (text tag rest : List ℕ) → IsLangtag text tag rest → All IsTagByte tag
tag_bytes text tag rest of = grind (arith, common_steps, All-append, letter_byte, part_bytes)
