-- Proves that the texts in the triples of a legal state have spellings.
use Rattle.std.proofs.lemmas.Grind.{common_steps}
use Rattle.std.proofs.Common.{◌≡◌, sym, ap, refl, subst, ℕ, zero, suc, ◌<◌, ◌≤◌, ◌==◌, ◌%◌, ◌/◌, Bool, true}
use Rattle.std.proofs.Common.{false, cond, List, [], ◌∷◌, ◌++◌, All, arith, Option, None, Some}
use Rattle.std.specs.Prelude.{codes, flat_map, unwrap_or}
use Rattle.std.specs.List.{list_any, slice_split, join_with_byte}
use Rattle.std.specs.Fmt.{decimal, digits, digits_onto, digit_glyph}
use Rattle.std.specs.FinMap as dict
use Rattle.std.proofs.lemmas.List.{append-nil}
use Rattle.std.proofs.lemmas.List.Elements.{All-cons, All-nil, All-append}
use Rattle.std.proofs.lemmas.List.Splits.{join_with_byte-slice_split}
use Rattle.thes_base.specs.declared.triple.Property.{Property}
use Rattle.thes_base.specs.declared.triple.Property.TheVariants.{InScheme, TopConceptOf, HasTopConcept}
use Rattle.thes_base.specs.declared.triple.Property.TheVariants.{Deprecated, IsReplacedBy, PrefLabel, AltLabel}
use Rattle.thes_base.specs.declared.triple.Property.TheVariants.{HiddenLabel, ScopeNote, Broader, Narrower, Related}
use Rattle.thes_base.specs.declared.triple.Property.TheVariants.{ExactMatch, CloseMatch, RelatedMatch, BroadMatch}
use Rattle.thes_base.specs.declared.triple.Property.TheVariants.{NarrowMatch, Member}
use Rattle.thes_base.specs.declared.triple.Class.{Class as SkosClass}
use Rattle.thes_base.specs.declared.data.LabelKind.{LabelKind}
use Rattle.thes_base.specs.declared.data.LabelKind.TheVariants.{Pref, Alt, Hidden, Scope}
use Rattle.thes_base.specs.Forms.{IsIriByte, IsSchemeByte, IsIriWithin, IsTag, IsTagPart, AreTagParts, IsPrintable}
use Rattle.thes_base.specs.Legal.{IsLegalState}
use Rattle.thes_base.specs.State.{State}
use Rattle.thes_base.specs.Texts.{StateHasForms, HasLegalTexts, IsLabelText}
use Rattle.thes_base.specs.Triples.{Triple, Object, Node, Class, Literal, True, IsIriOf, HasProperty, IsAsserted}
use Rattle.thes_base.specs.Triples.{HasLabelOfKind}
use Rattle.thes_export.specs.NTriples.{AreSome}
use Rattle.thes_export.proofs.WritableLemmas.{IsTagForm, IsTextByte, IsWritableObject, IsWritable}
use Rattle.thes_export.proofs.SpellingLemmas.{text_byte}

no_sign : (b : ℕ) → (60 ≡ b → ⊥) → (62 ≡ b → ⊥) → (34 ≡ b → ⊥) → (123 ≡ b → ⊥) → (125 ≡ b → ⊥) → (124 ≡ b → ⊥)
    → (94 ≡ b → ⊥) → (96 ≡ b → ⊥) → (92 ≡ b → ⊥) → list_any (λ c. c == b) (codes "<>\"{}|^`\\") ≡ false
no_sign b h1 h2 h3 h4 h5 h6 h7 h8 h9 = grind (arith, common_steps)

-- The bytes from the plus sign to the colon are allowed in IRIs.
middle_byte : (b : ℕ) → 43 ≤ b → b ≤ 58 → IsIriByte b
middle_byte b least most = grind (arith, common_steps, no_sign)

capital_byte : (b : ℕ) → 65 ≤ b → b ≤ 90 → IsIriByte b
capital_byte b least most = grind (arith, common_steps, no_sign)

small_byte : (b : ℕ) → 97 ≤ b → b ≤ 122 → IsIriByte b
small_byte b least most = grind (arith, common_steps, no_sign)

scheme_byte : (b : ℕ) → IsSchemeByte b → IsIriByte b
scheme_byte b h = grind (arith, common_steps, capital_byte, middle_byte, small_byte)

iri_bytes : (most : ℕ) (iri : List ℕ) → IsIriWithin most iri → All IsIriByte iri
iri_bytes most iri of = grind (arith, common_steps, All-append, All-cons, middle_byte, scheme_byte)

-- The digits of numbers are allowed in IRIs.
glyph_byte : (d : ℕ) → d < 10 → IsIriByte (digit_glyph false d)
glyph_byte d small = grind (arith, common_steps, middle_byte)

onto_bytes : (k n : ℕ) (acc : List ℕ) → All IsIriByte acc → All IsIriByte (digits_onto k 10 false n acc)
onto_bytes zero n acc each = each
onto_bytes (suc k) n acc each =
    go (n / 10 == 0) (digit_glyph false (n % 10) ∷ acc)
    (digits_onto k 10 false (n / 10) (digit_glyph false (n % 10) ∷ acc)) one
    (onto_bytes k (n / 10) (digit_glyph false (n % 10) ∷ acc) one)
  where
    one : All IsIriByte (digit_glyph false (n % 10) ∷ acc)
    one = All-cons IsIriByte (digit_glyph false (n % 10)) acc (glyph_byte (n % 10) (omega arith)) each

    go : (b : Bool) (xs ys : List ℕ) → All IsIriByte xs → All IsIriByte ys → All IsIriByte (cond b xs ys)
    go true xs ys h k = h
    go false xs ys h k = k

decimal_bytes : (n : ℕ) → All IsIriByte (decimal n)
unfolding digits
decimal_bytes n = onto_bytes 64 n [] (All-nil IsIriByte)

part_of : (Is : ℕ → Type 0) (part : List ℕ) → IsTagPart Is part → AreSome Is part
part_of Is part of = (of.least, of.each)

joined_parts : (first : List ℕ) (others : List (List ℕ)) → join_with_byte 45 (first ∷ others) ≡ first
    ++ flat_map (λ part. 45 ∷ part) others
joined_parts first [] = sym (append-nil first)
joined_parts first (part ∷ others) = ap (λ l. first ++ 45 ∷ l) (joined_parts part others)

-- A language tag of the right form splits into the parts that the grammar of N-Triples gives it.
tag_form : (tag : List ℕ) → IsTag tag → IsTagForm tag
tag_form tag of = go (slice_split (λ b. b == 45) tag) of.parts (join_with_byte-slice_split 45 tag)
  where
    go : (parts : List (List ℕ)) → AreTagParts parts → join_with_byte 45 parts ≡ tag → IsTagForm tag
    go [] none e = absurd none
    go (first ∷ others) each e = grind (arith, common_steps, joined_parts, part_of)

printed_bytes : (text : List ℕ) → All IsPrintable text → All IsTextByte text
printed_bytes text each k d below = text_byte _ (each k d below).0

label_bytes : (kind : LabelKind) (text : List ℕ) → IsLabelText kind text → All IsTextByte text
label_bytes kind text of = grind (arith, common_steps, printed_bytes)

module _ (base : List ℕ) (s : State) (forms : StateHasForms base s) where
  named_bytes : (n : ℕ) (x : List ℕ) → IsIriOf base s n x → All IsIriByte x
  named_bytes n x e = subst (All IsIriByte) (sym e) (go (dict.get s.iris n) refl)
    where
      go : (found : Option (List ℕ)) → dict.get s.iris n ≡ found → All IsIriByte (unwrap_or found (base ++ decimal n))
      go None is = All-append IsIriByte base (decimal n) (iri_bytes 200 base forms.base_form) (decimal_bytes n)
      go (Some iri) is = iri_bytes 512 iri (forms.iris n iri is)

  abbrev BothBytes : List ℕ → List ℕ → Type 0
  BothBytes x y = All IsIriByte x × All IsIriByte y

  both_iris : (x y : List ℕ) (m n : ℕ) → IsIriOf base s m x → IsIriOf base s n y → BothBytes x y
  both_iris x y m n d e = (named_bytes m x d, named_bytes n y e)

  -- Both IRIs of a triple whose object is a resource have only bytes that are allowed in IRIs.
  node_bytes : (p : Property) (x y : List ℕ) → HasProperty base s x p (Node y) → BothBytes x y
  node_bytes InScheme x y (m, n, stand, d, e) = both_iris x y m n d e
  node_bytes TopConceptOf x y (m, n, stand, d, e) = both_iris x y m n d e
  node_bytes HasTopConcept x y (m, n, stand, d, e) = both_iris x y m n d e
  node_bytes IsReplacedBy x y (m, n, stand, d, e) = both_iris x y m n d e
  node_bytes Broader x y (m, n, stand, d, e) = both_iris x y m n d e
  node_bytes Narrower x y (m, n, stand, d, e) = both_iris x y m n d e
  node_bytes Related x y (m, n, stand, d, e) = both_iris x y m n d e
  node_bytes ExactMatch x y (m, n, stand, d, e) = both_iris x y m n d e
  node_bytes CloseMatch x y (m, n, stand, d, e) = both_iris x y m n d e
  node_bytes RelatedMatch x y (m, n, stand, d, e) = both_iris x y m n d e
  node_bytes BroadMatch x y (m, n, stand, d, e) = both_iris x y m n d e
  node_bytes NarrowMatch x y (m, n, stand, d, e) = both_iris x y m n d e
  node_bytes Member x y (m, n, stand, d, e) = both_iris x y m n d e
  node_bytes _ x y content = absurd content

  class_bytes : (p : Property) (kind : SkosClass) (x : List ℕ) → HasProperty base s x p (Class kind) → All IsIriByte x
  class_bytes p kind x content = grind (arith, common_steps, named_bytes)

  true_bytes : (p : Property) (x : List ℕ) → HasProperty base s x p True → All IsIriByte x
  true_bytes Deprecated x (n, is, e) = named_bytes n x e
  true_bytes _ x content = absurd content

  abbrev IsSpelled : List ℕ → List ℕ → List ℕ → Type 0
  IsSpelled x tag text = All IsIriByte x × (IsTagForm tag × All IsTextByte text)

  label_bytes_of : (kind : LabelKind) (x tag text : List ℕ) → HasLabelOfKind base s kind x tag text
      → IsSpelled x tag text
  label_bytes_of kind x tag text (n, has, e) = grind (arith, common_steps, label_bytes, named_bytes, tag_form)

  literal_bytes : (p : Property) (x tag text : List ℕ) → HasProperty base s x p (Literal tag text)
      → IsSpelled x tag text
  literal_bytes PrefLabel x tag text content = label_bytes_of Pref x tag text content
  literal_bytes AltLabel x tag text content = label_bytes_of Alt x tag text content
  literal_bytes HiddenLabel x tag text content = label_bytes_of Hidden x tag text content
  literal_bytes ScopeNote x tag text content = label_bytes_of Scope x tag text content
  literal_bytes _ x tag text content = absurd content

  said_writable : (x : List ℕ) (p : Property) (o : Object) → HasProperty base s x p o → All IsIriByte x
      × IsWritableObject o
  said_writable x p (Node y) content = node_bytes p x y content
  said_writable x p (Class kind) content = (class_bytes p kind x content, tt)
  said_writable x p (Literal tag text) content = literal_bytes p x tag text content
  said_writable x p True content = (true_bytes p x content, tt)

-- Each triple of a legal state can be spelled.
pub asserted_writable : (base : List ℕ) (s : State) → IsLegalState base s → (t : Triple) → IsAsserted base s t
    → IsWritable t
unfolding HasLegalTexts
asserted_writable base s legal t content = let fine = said_writable base s legal.texts t.subject t.property t.object
    content in record { subject = fine.0; object = fine.1 }
