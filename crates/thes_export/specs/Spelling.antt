-- The RDF triples of a state, and the line of N-Triples for each.
use Rattle.std.specs.Prelude.{ℕ, List, [], ◌∷◌, ◌++◌, ◌==◌, ◌||◌, if◌then◌else◌, codes, flat_map}
use Rattle.thes_base.specs.declared.triple.Property.{Property}
use Rattle.thes_base.specs.declared.triple.Property.TheVariants.{HasType, InScheme, TopConceptOf, HasTopConcept}
use Rattle.thes_base.specs.declared.triple.Property.TheVariants.{Deprecated, IsReplacedBy, PrefLabel, AltLabel}
use Rattle.thes_base.specs.declared.triple.Property.TheVariants.{HiddenLabel, ScopeNote, Broader, Narrower, Related}
use Rattle.thes_base.specs.declared.triple.Property.TheVariants.{ExactMatch, CloseMatch, RelatedMatch, BroadMatch}
use Rattle.thes_base.specs.declared.triple.Property.TheVariants.{NarrowMatch, Member}
use Rattle.thes_base.specs.declared.triple.Class.{Class as SkosClass}
use Rattle.thes_base.specs.declared.triple.Class.TheVariants.{Concept, ConceptScheme, Collection}
use Rattle.thes_base.specs.Triples.{Triple, Object, Node, Class, Literal, True}
use Rattle.thes_export.specs.NTriples.{Statement, RdfTerm, Iri, Tagged, Typed}

-- The IRI of a name in the RDF vocabulary.
unfoldable pub rdf : List ℕ → List ℕ
rdf name = codes "http://www.w3.org/1999/02/22-rdf-syntax-ns#" ++ name

-- The IRI of a name in SKOS.
unfoldable pub skos : List ℕ → List ℕ
skos name = codes "http://www.w3.org/2004/02/skos/core#" ++ name

-- The IRI of a name in OWL 2.
unfoldable pub owl : List ℕ → List ℕ
owl name = codes "http://www.w3.org/2002/07/owl#" ++ name

-- The IRI of a name in DCMI Metadata Terms.
unfoldable pub dct : List ℕ → List ℕ
dct name = codes "http://purl.org/dc/terms/" ++ name

-- The IRI of a datatype in XML Schema.
unfoldable pub xsd : List ℕ → List ℕ
xsd name = codes "http://www.w3.org/2001/XMLSchema#" ++ name

-- The full IRI of a property.
abbrev pub property_iri : Property → List ℕ
property_iri HasType = rdf (codes "type")
property_iri InScheme = skos (codes "inScheme")
property_iri TopConceptOf = skos (codes "topConceptOf")
property_iri HasTopConcept = skos (codes "hasTopConcept")
property_iri Deprecated = owl (codes "deprecated")
property_iri IsReplacedBy = dct (codes "isReplacedBy")
property_iri PrefLabel = skos (codes "prefLabel")
property_iri AltLabel = skos (codes "altLabel")
property_iri HiddenLabel = skos (codes "hiddenLabel")
property_iri ScopeNote = skos (codes "scopeNote")
property_iri Broader = skos (codes "broader")
property_iri Narrower = skos (codes "narrower")
property_iri Related = skos (codes "related")
property_iri ExactMatch = skos (codes "exactMatch")
property_iri CloseMatch = skos (codes "closeMatch")
property_iri RelatedMatch = skos (codes "relatedMatch")
property_iri BroadMatch = skos (codes "broadMatch")
property_iri NarrowMatch = skos (codes "narrowMatch")
property_iri Member = skos (codes "member")

-- The full IRI of a class of SKOS.
abbrev pub class_iri : SkosClass → List ℕ
class_iri Concept = skos (codes "Concept")
class_iri ConceptScheme = skos (codes "ConceptScheme")
class_iri Collection = skos (codes "Collection")

-- The RDF term of an object: an IRI, or a literal with its language tag or its type.
abbrev pub term_of : Object → RdfTerm
term_of (Node iri) = Iri iri
term_of (Class class) = Iri (class_iri class)
term_of (Literal tag text) = Tagged text tag
term_of True = Typed (codes "true") (xsd (codes "boolean"))

-- The RDF triple for a triple of the state.
abbrev pub statement_of : Triple → Statement
statement_of t =
    record { subject = Iri t.subject; predicate = property_iri t.property; object = term_of t.object }

-- A byte of a literal, after a backslash if it is a quotation mark or a backslash.
abbrev pub byte_spelling : ℕ → List ℕ
byte_spelling b = if b == 34 || b == 92 then 92 ∷ b ∷ [] else b ∷ []

-- The spelling of an IRI: the IRI in angle brackets.
abbrev pub iri_spelling : List ℕ → List ℕ
iri_spelling iri = 60 ∷ (iri ++ 62 ∷ [])

-- A text in quotation marks, with quotation marks and backslashes escaped.
abbrev pub text_spelling : List ℕ → List ℕ
text_spelling text = 34 ∷ (flat_map byte_spelling text ++ 34 ∷ [])

-- The spelling of an object: an IRI, or a literal with its language tag or its type.
abbrev pub object_text : Object → List ℕ
object_text (Node iri) = iri_spelling iri
object_text (Class class) = iri_spelling (class_iri class)
object_text (Literal tag text) = text_spelling text ++ (64 ∷ tag)
object_text True = text_spelling (codes "true") ++ (94 ∷ 94 ∷ iri_spelling (xsd (codes "boolean")))

-- The beginning of a line: the subject and the predicate, each followed by a space.
abbrev pub line_start : List ℕ → List ℕ → List ℕ
line_start subject predicate = iri_spelling subject ++ (32 ∷ (iri_spelling predicate ++ (32 ∷ [])))

-- The line of a triple: subject, predicate and object, each followed by a space, and then a full
-- stop and a line feed.
unfoldable pub line_of : Triple → List ℕ
line_of t =
    iri_spelling t.subject
    ++ (32 ∷ (iri_spelling (property_iri t.property) ++ (32 ∷ (object_text t.object ++ (32 ∷ 46 ∷ 10 ∷ [])))))
