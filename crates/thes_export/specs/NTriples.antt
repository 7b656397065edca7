-- RDF 1.1 N-Triples (W3C Recommendation, 25 February 2014): the bytes of a document, and its
-- triples. Each definition is of a production in the grammar (section 7), which its comment cites,
-- or of a part of one. Sections 2.1 and 7 define white space between terminals and comments.
-- Whether a document is UTF-8 isn't checked here.
use Rattle.std.specs.Prelude.{◌≡◌, ◌≢◌, ◌⊎◌, ◌==◌, ◌-◌, if◌then◌else◌, ℕ, ◌≤◌, List, slice_get, IsSomeAnd, [], ◌∷◌}
use Rattle.std.specs.Prelude.{◌++◌, length, All, Contains, codes, flat_map, encode_utf8, encode_utf8_all}
use Rattle.std.specs.Char.{IsAsciiAlphabetic, IsAsciiAlphanumeric, IsAsciiDigit, IsAsciiHexdigit}
use Rattle.std.specs.Str.Parse.{digits_value}
use Rattle.thes_base.specs.Forms.{IsIriByte}

-- A term of RDF 1.1 as it is read: an IRI, a blank node, or a literal with a type or with a language tag. A tag keeps
-- its spelling.
pub data RdfTerm : Type 0 where
  Iri : (iri : List ℕ) → RdfTerm
  Blank : (label : List ℕ) → RdfTerm
  Tagged : (text tag : List ℕ) → RdfTerm
  Typed : (text type : List ℕ) → RdfTerm

-- An RDF triple as it is read.
pub record Statement : Type 0 where
  pub subject : RdfTerm
  pub predicate : List ℕ
  pub object : RdfTerm

-- The type of a literal without a tag and without a type (RDF 1.1 Concepts, section 3.3).
unfoldable pub string_type : List ℕ
string_type = codes "http://www.w3.org/2001/XMLSchema#string"

-- A space or a tab.
abbrev pub IsBlankByte : ℕ → Type 0
IsBlankByte b = (b ≡ 32) ⊎ (b ≡ 9)

-- White space between terminals: any number of spaces and tabs.
abbrev pub IsGap : List ℕ → Type 0
IsGap bytes = All IsBlankByte bytes

-- A carriage return or a line feed.
abbrev pub IsEolByte : ℕ → Type 0
IsEolByte b = (b ≡ 13) ⊎ (b ≡ 10)

-- EOL ::= [#xD#xA]+
abbrev pub IsEol : List ℕ → Type 0
IsEol bytes = (1 ≤ length bytes) × All IsEolByte bytes

-- A comment: `#` and the rest of the line.
pub record IsComment (bytes : List ℕ) : Type 0 where
  pub content : List ℕ
  pub text_is : bytes ≡ 35 ∷ content
  pub one_line : All (λ b. IsEolByte b → ⊥) content

-- The code point is in one of the ranges, both ends included.
abbrev pub IsInRanges : List (ℕ × ℕ) → ℕ → Type 0
IsInRanges ranges c = (low : ℕ) × (high : ℕ) × Contains ranges (low, high) × (low ≤ c) × (c ≤ high)

-- PN_CHARS_BASE, as ranges of code points
unfoldable pub base_ranges : List (ℕ × ℕ)
base_ranges =
    (0x41, 0x5a) ∷ (0x61, 0x7a) ∷ (0xc0, 0xd6) ∷ (0xd8, 0xf6) ∷ (0xf8, 0x2ff) ∷ (0x370, 0x37d) ∷ (0x37f, 0x1fff)
    ∷ (0x200c, 0x200d) ∷ (0x2070, 0x218f) ∷ (0x2c00, 0x2fef) ∷ (0x3001, 0xd7ff) ∷ (0xf900, 0xfdcf) ∷ (0xfdf0, 0xfffd)
    ∷ (0x10000, 0xeffff) ∷ []

-- PN_CHARS_U ::= PN_CHARS_BASE | '_' | ':'
abbrev pub IsLabelStart : ℕ → Type 0
IsLabelStart c = IsInRanges base_ranges c ⊎ (c ≡ 95) ⊎ (c ≡ 58)

-- PN_CHARS ::= PN_CHARS_U | '-' | [0-9] | #x00B7 | [#x0300-#x036F] | [#x203F-#x2040]
abbrev pub IsLabelCharacter : ℕ → Type 0
IsLabelCharacter c = IsLabelStart c
    ⊎ IsInRanges ((45, 45) ∷ (0x30, 0x39) ∷ (0xb7, 0xb7) ∷ (0x300, 0x36f) ∷ (0x203f, 0x2040) ∷ []) c

-- (PN_CHARS_U | [0-9]) ((PN_CHARS | '.')* PN_CHARS)?
pub record IsBlankNodeLabel (characters : List ℕ) : Type 0 where
  pub first : IsSomeAnd (slice_get characters 0) (λ c. IsLabelStart c ⊎ IsAsciiDigit c)
  pub each : All (λ c. IsLabelCharacter c ⊎ (c ≡ 46)) characters
  pub last : IsSomeAnd (slice_get characters (length characters - 1)) IsLabelCharacter

-- A piece of the text between angle brackets or quotation marks: a byte that is spelled as itself, or an escape.
pub data Piece : Type 0 where
  Plain : (byte : ℕ) → Piece
  Echar : (letter : ℕ) → Piece
  Uchar : (letter : ℕ) (digits : List ℕ) → Piece

-- The bytes of a piece, as written.
abbrev pub piece_text : Piece → List ℕ
piece_text (Plain b) = b ∷ []
piece_text (Echar letter) = 92 ∷ letter ∷ []
piece_text (Uchar letter digits) = 92 ∷ letter ∷ digits

-- ECHAR ::= '\' [tbnrf"'\]
abbrev pub IsEchar : ℕ → Type 0
IsEchar letter = Contains (codes "tbnrf\"'\\") letter

-- UCHAR ::= '\u' HEX HEX HEX HEX | '\U' HEX HEX HEX HEX HEX HEX HEX HEX
pub record IsUchar (letter : ℕ) (digits : List ℕ) : Type 0 where
  pub size : ((letter ≡ 117) × (length digits ≡ 4)) ⊎ ((letter ≡ 85) × (length digits ≡ 8))
  pub each : All IsAsciiHexdigit digits

-- The byte that the letter of an ECHAR encodes.
abbrev pub escaped_value : ℕ → ℕ
escaped_value letter =
    if letter == 116 then 9 else if letter == 98 then 8 else if letter == 110 then 10
    else if letter == 114 then 13 else if letter == 102 then 12 else letter

-- The bytes that a piece encodes.
abbrev pub piece_value : Piece → List ℕ
piece_value (Plain b) = b ∷ []
piece_value (Echar letter) = escaped_value letter ∷ []
piece_value (Uchar letter digits) = encode_utf8 (digits_value 16 digits)

-- Of IRIREF: [^#x00-#x20<>"{}|^`\] | UCHAR
abbrev pub IsIriPiece : Piece → Type 0
IsIriPiece (Plain b) = IsIriByte b
IsIriPiece (Echar letter) = ⊥
IsIriPiece (Uchar letter digits) = IsUchar letter digits

-- Of STRING_LITERAL_QUOTE: [^#x22#x5C#xA#xD] | ECHAR | UCHAR
abbrev pub IsStringPiece : Piece → Type 0
IsStringPiece (Plain b) = (b ≢ 34) × (b ≢ 92) × (b ≢ 10) × (b ≢ 13)
IsStringPiece (Echar letter) = IsEchar letter
IsStringPiece (Uchar letter digits) = IsUchar letter digits

-- The text between brackets or quotation marks consists of pieces, which encode the value.
pub record IsMadeOf (IsPiece : Piece → Type 0) (text value : List ℕ) : Type 0 where
  pub pieces : List Piece
  pub each : All IsPiece pieces
  pub text_is : text ≡ flat_map piece_text pieces
  pub read : value ≡ flat_map piece_value pieces

-- A definition of a production has the remaining text as an argument as well, and so states where its own text ends.

-- IRIREF ::= '<' ([^#x00-#x20<>"{}|^`\] | UCHAR)* '>'
pub record IsIriref (text iri rest : List ℕ) : Type 0 where
  pub inner : List ℕ
  pub spelling : IsMadeOf IsIriPiece inner iri
  pub text_is : text ≡ 60 ∷ (inner ++ 62 ∷ rest)

-- STRING_LITERAL_QUOTE ::= '"' ([^#x22#x5C#xA#xD] | ECHAR | UCHAR)* '"'
pub record IsQuoted (text value rest : List ℕ) : Type 0 where
  pub inner : List ℕ
  pub spelling : IsMadeOf IsStringPiece inner value
  pub text_is : text ≡ 34 ∷ (inner ++ 34 ∷ rest)

-- One or more bytes, each with this property.
abbrev pub AreSome : (ℕ → Type 0) → List ℕ → Type 0
AreSome Is bytes = (1 ≤ length bytes) × All Is bytes

-- LANGTAG ::= '@' [a-zA-Z]+ ('-' [a-zA-Z0-9]+)*
pub record IsLangtag (text tag rest : List ℕ) : Type 0 where
  pub letters : List ℕ
  pub parts : List (List ℕ)
  pub first : AreSome IsAsciiAlphabetic letters
  pub others : All (AreSome IsAsciiAlphanumeric) parts
  pub read : tag ≡ letters ++ flat_map (λ part. 45 ∷ part) parts
  pub text_is : text ≡ 64 ∷ (tag ++ rest)

-- BLANK_NODE_LABEL ::= '_:' (PN_CHARS_U | [0-9]) ((PN_CHARS | '.')* PN_CHARS)?
pub record IsBlankNode (text label rest : List ℕ) : Type 0 where
  pub characters : List ℕ
  pub has_form : IsBlankNodeLabel characters
  pub read : label ≡ encode_utf8_all characters
  pub text_is : text ≡ 95 ∷ 58 ∷ (label ++ rest)

-- The text is any number of spaces and tabs, and then the rest.
pub record IsSpaced (text rest : List ℕ) : Type 0 where
  pub gap : List ℕ
  pub blank : IsGap gap
  pub text_is : text ≡ gap ++ rest

-- '^^' IRIREF, each after white space
pub record IsTypedAs (text : List ℕ) (value : List ℕ) (literal : RdfTerm) (rest : List ℕ) : Type 0 where
  pub carets : List ℕ
  pub carets_follow : IsSpaced text (94 ∷ 94 ∷ carets)
  pub start : List ℕ
  pub gap_before : IsSpaced carets start
  pub type : List ℕ
  pub iriref : IsIriref start type rest
  pub read : literal ≡ Typed value type

-- LANGTAG, after white space
pub record IsTaggedAs (text : List ℕ) (value : List ℕ) (literal : RdfTerm) (rest : List ℕ) : Type 0 where
  pub start : List ℕ
  pub gap_before : IsSpaced text start
  pub tag : List ℕ
  pub langtag : IsLangtag start tag rest
  pub read : literal ≡ Tagged value tag

-- literal ::= STRING_LITERAL_QUOTE ('^^' IRIREF | LANGTAG)?
pub record IsLiteral (text : List ℕ) (literal : RdfTerm) (rest : List ℕ) : Type 0 where
  pub value : List ℕ
  pub after : List ℕ
  pub quoted : IsQuoted text value after
  pub content :
      ((literal ≡ Typed value string_type) × (after ≡ rest))
      ⊎ IsTypedAs after value literal rest
      ⊎ IsTaggedAs after value literal rest

-- subject ::= IRIREF | BLANK_NODE_LABEL
abbrev pub IsSubject : List ℕ → RdfTerm → List ℕ → Type 0
IsSubject text term rest =
    ((iri : List ℕ) × (term ≡ Iri iri) × IsIriref text iri rest)
    ⊎ ((label : List ℕ) × (term ≡ Blank label) × IsBlankNode text label rest)

-- object ::= IRIREF | BLANK_NODE_LABEL | literal
abbrev pub IsObject : List ℕ → RdfTerm → List ℕ → Type 0
IsObject text term rest = IsSubject text term rest ⊎ IsLiteral text term rest

-- triple ::= subject predicate object '.'
pub record IsTriple (text : List ℕ) (t : Statement) (rest : List ℕ) : Type 0 where
  pub first : List ℕ
  pub first_spaced : IsSpaced text first
  pub after_subject : List ℕ
  pub subject : IsSubject first t.subject after_subject
  pub second : List ℕ
  pub second_spaced : IsSpaced after_subject second
  pub after_predicate : List ℕ
  pub predicate : IsIriref second t.predicate after_predicate
  pub third : List ℕ
  pub third_spaced : IsSpaced after_predicate third
  pub after_object : List ℕ
  pub object : IsObject third t.object after_object
  pub stop_spaced : IsSpaced after_object (46 ∷ rest)

-- White space and an optional comment, between a triple and the end of its line.
pub record IsLineEnd (text rest : List ℕ) : Type 0 where
  pub start : List ℕ
  pub gap_before : IsSpaced text start
  pub comment : List ℕ
  pub content : (comment ≡ []) ⊎ IsComment comment
  pub text_is : start ≡ comment ++ rest

-- The text is a triple, and then a text with the property `Next`.
pub record IsTripleThen (t : Statement) (Next : List ℕ → Type 0) (text : List ℕ) : Type 0 where
  pub rest : List ℕ
  pub triple : IsTriple text t rest
  pub more : Next rest

-- The text is an end of line, and then a text with the property `Next`.
pub record IsEolThen (Next : List ℕ → Type 0) (text : List ℕ) : Type 0 where
  pub eol : List ℕ
  pub has_form : IsEol eol
  pub rest : List ℕ
  pub text_is : text ≡ eol ++ rest
  pub more : Next rest

-- The text is the remainder of a line, and then a text with the property `Next`.
pub record IsEndThen (Next : List ℕ → Type 0) (text : List ℕ) : Type 0 where
  pub rest : List ℕ
  pub at_line_end : IsLineEnd text rest
  pub more : Next rest

-- (EOL triple)* EOL?
abbrev pub IsTail : List Statement → List ℕ → Type 0
IsTail [] text = IsEndThen (λ rest. (rest ≡ []) ⊎ IsEolThen (λ last. IsLineEnd last []) rest) text
IsTail (t ∷ ts) text = IsEndThen (IsEolThen (IsTripleThen t (IsTail ts))) text

-- ntriplesDoc ::= triple? (EOL triple)* EOL?
abbrev pub IsDocument : List ℕ → List Statement → Type 0
IsDocument text [] = IsTail [] text
IsDocument text (t ∷ ts) = IsTripleThen t (IsTail ts) text ⊎ IsTail (t ∷ ts) text
