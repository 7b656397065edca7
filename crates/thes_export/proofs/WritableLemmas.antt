-- Proves which texts of triples have spellings, and that those of the vocabularies do.
use Rattle.std.proofs.lemmas.Grind.{common_steps}
use Rattle.std.proofs.Common.{◌≡◌, refl, ℕ, ◌==◌, Bool, true, ◌&&◌, not, List, ◌∷◌, ◌++◌, All, arith}
use Rattle.std.specs.Prelude.{codes, flat_map, nat_lt}
use Rattle.std.specs.List.{list_any, list_all}
use Rattle.std.proofs.lemmas.List.Sums.{AllPass-from_list_all}
use Rattle.std.specs.Char.{IsAsciiAlphabetic, IsAsciiAlphanumeric}
use Rattle.thes_base.specs.declared.triple.Property.{Property}
use Rattle.thes_base.specs.declared.triple.Class.{Class as SkosClass}
use Rattle.thes_base.specs.Forms.{IsIriByte}
use Rattle.thes_base.specs.Triples.{Triple, Object, Node, Class, Literal, True}
use Rattle.thes_export.specs.NTriples.{AreSome}
use Rattle.thes_export.specs.Spelling.{rdf, skos, owl, dct, xsd, property_iri, class_iri}

-- The language tag consists of the parts that the grammar of N-Triples gives it.
pub record IsTagForm (tag : List ℕ) : Type 0 where
  pub letters : List ℕ
  pub parts : List (List ℕ)
  pub first : AreSome IsAsciiAlphabetic letters
  pub others : All (AreSome IsAsciiAlphanumeric) parts
  pub read : tag ≡ letters ++ flat_map (λ part. 45 ∷ part) parts

-- A byte of a literal that has a spelling: any but those of a line end.
abbrev pub IsTextByte : ℕ → Type 0
IsTextByte b = (b ≡ 10 → ⊥) × (b ≡ 13 → ⊥)

abbrev pub IsWritableObject : Object → Type 0
IsWritableObject (Node iri) = All IsIriByte iri
IsWritableObject (Class kind) = Unit {0}
IsWritableObject (Literal tag text) = IsTagForm tag × All IsTextByte text
IsWritableObject True = Unit {0}

pub record IsWritable (t : Triple) : Type 0 where
  pub subject : All IsIriByte t.subject
  pub object : IsWritableObject t.object

-- Whether a byte may be in an IRI.
abbrev is_iri_byte : ℕ → Bool
is_iri_byte b = nat_lt 32 b && not (list_any (λ c. c == b) (codes "<>\"{}|^`\\"))

byte_passes : (b : ℕ) → is_iri_byte b ≡ true → IsIriByte b
byte_passes b is = grind (arith, common_steps)

pub known_iri : (iri : List ℕ) → list_all is_iri_byte iri ≡ true → All IsIriByte iri
known_iri iri passes k d below = byte_passes _ (AllPass-from_list_all is_iri_byte iri passes k d below)

class_passes : (kind : SkosClass) → list_all is_iri_byte (class_iri kind) ≡ true
unfolding skos
class_passes kind = grind (arith, common_steps)

property_passes : (p : Property) → list_all is_iri_byte (property_iri p) ≡ true
unfolding rdf skos owl dct
property_passes p = grind (arith, common_steps)

boolean_passes : list_all is_iri_byte (xsd (codes "boolean")) ≡ true
unfolding xsd
boolean_passes = refl

pub class_bytes : (kind : SkosClass) → All IsIriByte (class_iri kind)
class_bytes kind = known_iri (class_iri kind) (class_passes kind)

pub property_bytes : (p : Property) → All IsIriByte (property_iri p)
property_bytes p = known_iri (property_iri p) (property_passes p)

pub boolean_bytes : All IsIriByte (xsd (codes "boolean"))
boolean_bytes = known_iri (xsd (codes "boolean")) boolean_passes
