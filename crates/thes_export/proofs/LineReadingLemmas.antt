-- Proves that a spelled line has only one reading, although the grammar allows other spellings.
use Rattle.std.proofs.lemmas.Grind.{common_steps}
use Rattle.std.proofs.Common.{◌≡◌, ◌⊎◌, ◌∙◌, sym, ap, refl, subst, ℕ, List, [], ◌∷◌, ◌++◌, All, arith, inl, inr, ⊎_elim}
use Rattle.std.specs.Prelude.{codes, flat_map}
use Rattle.std.proofs.lemmas.List.Elements.{All-head}
use Rattle.thes_base.specs.Forms.{IsIriByte}
use Rattle.thes_base.specs.Triples.{Triple, Object, Node, Class, Literal, True}
use Rattle.thes_export.specs.NTriples.{RdfTerm, Iri, Tagged, Typed, Statement, string_type, IsBlankByte, IsGap}
use Rattle.thes_export.specs.NTriples.{IsIriref, IsLangtag, IsSpaced, IsTypedAs, IsTaggedAs, IsLiteral, IsSubject}
use Rattle.thes_export.specs.NTriples.{IsObject, IsTriple}
use Rattle.thes_export.specs.Spelling.{xsd, byte_spelling, statement_of, term_of, property_iri, class_iri}
use Rattle.thes_export.proofs.TerminalLemmas.{tail_of, heads_differ, no_gap_before, past_space, iriref_same}
use Rattle.thes_export.proofs.TerminalLemmas.{quoted_same, IsTagByte, Stops, run_same, tag_bytes}
use Rattle.thes_export.proofs.WritableLemmas.{IsTagForm, IsWritableObject, IsWritable, class_bytes, property_bytes}
use Rattle.thes_export.proofs.WritableLemmas.{boolean_bytes}

pub not_blank : (c : ℕ) → (c ≡ 32 → ⊥) → (c ≡ 9 → ⊥) → ¬ IsBlankByte c
not_blank c space tab = ⊎_elim space tab

-- The spelling of an object, followed by the remaining text.
abbrev pub object_then : Object → List ℕ → List ℕ
object_then (Node iri) y = 60 ∷ (iri ++ 62 ∷ y)
object_then (Class kind) y = 60 ∷ (class_iri kind ++ 62 ∷ y)
object_then (Literal tag text) y = 34 ∷ (flat_map byte_spelling text ++ 34 ∷ 64 ∷ (tag ++ y))
object_then True y = 34 ∷ (flat_map byte_spelling (codes "true") ++ 34 ∷ 94 ∷ 94 ∷ 60
    ∷ (xsd (codes "boolean") ++ 62 ∷ y))

-- An object ends before the space and the full stop.
stop_same : (rest x stop : List ℕ) → rest ≡ 32 ∷ 46 ∷ x → IsSpaced rest (46 ∷ stop) → stop ≡ x
stop_same rest x stop e gap_before =
    tail_of _ _ _ _
    (past_space rest (46 ∷ stop) 46 x gap_before e (not_blank 46 (λ q. omega arith) (λ q. omega arith))
    (λ z q. heads_differ _ _ _ _ (λ r. omega arith) q))

-- A text that begins with an angle bracket is read as an IRI.
iri_subject : (text iri x : List ℕ) (other : RdfTerm) (rest : List ℕ) → All IsIriByte iri → text ≡ 60
    ∷ (iri ++ 62 ∷ x) → IsSubject text other rest → (other ≡ Iri iri) × (rest ≡ x)
iri_subject text iri x other rest own e (inl (that, is, ref)) = let same = iriref_same text iri x that rest own e
    ref in (is ∙ ap Iri same.0, same.1)
iri_subject text iri x other rest own e (inr (label, is, node)) = grind (arith, common_steps, heads_differ)

iri_object : (text iri x : List ℕ) (other : RdfTerm) (rest : List ℕ) → All IsIriByte iri → text ≡ 60 ∷ (iri ++ 62 ∷ x)
    → IsObject text other rest → (other ≡ Iri iri) × (rest ≡ x)
iri_object text iri x other rest own e (inl subject) = iri_subject text iri x other rest own e subject
iri_object text iri x other rest own e (inr literal) = grind (arith, common_steps, heads_differ)

-- A text that begins with a quotation mark is read as a literal.
literal_object : {A : Type 0} (text inner : List ℕ) (other : RdfTerm) (rest : List ℕ) → text ≡ 34 ∷ inner
    → (IsLiteral text other rest → A) → IsObject text other rest → A
literal_object text inner other rest e known h = grind (arith, common_steps, heads_differ)

stops_gap : (gap x : List ℕ) → IsGap gap → Stops (gap ++ 46 ∷ x)
stops_gap gap x blank = grind (arith, common_steps, All-head)

-- A language tag of the grammar's form has only bytes that are allowed in tags.
form_bytes : (tag : List ℕ) → IsTagForm tag → All IsTagByte tag
form_bytes tag form = tag_bytes (64 ∷ (tag ++ [])) tag []
    (record {
      letters = form.letters;
      parts = form.parts;
      first = form.first;
      others = form.others;
      read = form.read;
      text_is = refl;
    })

-- A tag is read up to the space after it.
tag_same : (start tag x other rest stop : List ℕ) → IsTagForm tag → start ≡ 64 ∷ (tag ++ 32 ∷ 46 ∷ x)
    → IsLangtag start other rest → IsSpaced rest (46 ∷ stop) → (other ≡ tag) × (rest ≡ 32 ∷ 46 ∷ x)
tag_same start tag x other rest stop form e read gap_before =
    let same = run_same other tag rest (32 ∷ 46 ∷ x) (tag_bytes start other rest read) (form_bytes tag form)
    (subst Stops (sym gap_before.text_is) (stops_gap gap_before.gap stop gap_before.blank)) (λ is. omega arith)
    (tail_of _ _ _ _ (sym read.text_is ∙ e)) in
    (same.0, same.1)

-- A literal with a tag is read as itself.
tagged_same : (text tag value x : List ℕ) (other : RdfTerm) (rest stop : List ℕ) → IsTagForm tag → text
    ≡ object_then (Literal tag value) (32 ∷ 46 ∷ x) → IsSpaced rest (46 ∷ stop) → IsLiteral text other rest
    → (other ≡ Tagged value tag) × (stop ≡ x)
tagged_same text tag value x other rest stop form e gap_before literal = go literal.content
  where
    within : (literal.value ≡ value) × (literal.after ≡ 64 ∷ (tag ++ 32 ∷ 46 ∷ x))
    within = quoted_same text value (64 ∷ (tag ++ 32 ∷ 46 ∷ x)) literal.value literal.after e literal.quoted

    at : ¬ IsBlankByte 64
    at = not_blank 64 (λ q. omega arith) (λ q. omega arith)

    go : ((other ≡ Typed literal.value string_type) × (literal.after ≡ rest)) ⊎ IsTypedAs literal.after literal.value
        other rest ⊎ IsTaggedAs literal.after literal.value other rest → (other ≡ Tagged value tag) × (stop ≡ x)
    go (inl (is, ends)) = heads_differ _ _ _ _ (λ q. omega arith)
        (no_gap_before rest (46 ∷ stop) 64 (tag ++ 32 ∷ 46 ∷ x) gap_before (sym ends ∙ within.1) at)
    go (inr (inl typed)) = heads_differ _ _ _ _ (λ q. omega arith)
        (no_gap_before literal.after (94 ∷ 94 ∷ typed.carets) 64 (tag ++ 32 ∷ 46 ∷ x) typed.carets_follow within.1 at)
    go (inr (inr tagged)) =
        let start = no_gap_before literal.after tagged.start 64 (tag ++ 32 ∷ 46 ∷ x) tagged.gap_before within.1 at in
        let same = tag_same tagged.start tag x tagged.tag rest stop form start tagged.langtag gap_before in
        (tagged.read ∙ (λ i. Tagged (within.0 i) (same.0 i)), stop_same rest x stop same.1 gap_before)

-- A literal with a type is read as itself.
typed_same : (text type value x : List ℕ) (other : RdfTerm) (rest stop : List ℕ) → All IsIriByte type → text ≡ 34
    ∷ (flat_map byte_spelling value ++ 34 ∷ 94 ∷ 94 ∷ 60 ∷ (type ++ 62 ∷ 32 ∷ 46 ∷ x)) → IsSpaced rest (46 ∷ stop)
    → IsLiteral text other rest → (other ≡ Typed value type) × (stop ≡ x)
typed_same text type value x other rest stop bytes e gap_before literal = go literal.content
  where
    within : (literal.value ≡ value) × (literal.after ≡ 94 ∷ 94 ∷ 60 ∷ (type ++ 62 ∷ 32 ∷ 46 ∷ x))
    within = quoted_same text value (94 ∷ 94 ∷ 60 ∷ (type ++ 62 ∷ 32 ∷ 46 ∷ x)) literal.value literal.after e
        literal.quoted

    caret : ¬ IsBlankByte 94
    caret = not_blank 94 (λ q. omega arith) (λ q. omega arith)

    go : ((other ≡ Typed literal.value string_type) × (literal.after ≡ rest)) ⊎ IsTypedAs literal.after literal.value
        other rest ⊎ IsTaggedAs literal.after literal.value other rest → (other ≡ Typed value type) × (stop ≡ x)
    go (inl (is, ends)) = heads_differ _ _ _ _ (λ q. omega arith)
        (no_gap_before rest (46 ∷ stop) 94 _ gap_before (sym ends ∙ within.1) caret)
    go (inr (inl typed)) =
        let carets_follow = no_gap_before literal.after (94 ∷ 94 ∷ typed.carets) 94
        (94 ∷ 60 ∷ (type ++ 62 ∷ 32 ∷ 46 ∷ x)) typed.carets_follow within.1 caret in
        let start = no_gap_before typed.carets typed.start 60 (type ++ 62 ∷ 32 ∷ 46 ∷ x) typed.gap_before
        (tail_of _ _ _ _ (tail_of _ _ _ _ carets_follow)) (not_blank 60 (λ q. omega arith) (λ q. omega arith)) in
        let same = iriref_same typed.start type (32 ∷ 46 ∷ x) typed.type rest bytes start typed.iriref in
        (typed.read ∙ (λ i. Typed (within.0 i) (same.0 i)), stop_same rest x stop same.1 gap_before)
    go (inr (inr tagged)) = heads_differ _ _ _ _ (λ q. omega arith)
        (sym (no_gap_before literal.after tagged.start 94 _ tagged.gap_before within.1 caret)
        ∙ tagged.langtag.text_is)

object_same : (o : Object) (text x : List ℕ) (other : RdfTerm) (rest stop : List ℕ) → IsWritableObject o → text
    ≡ object_then o (32 ∷ 46 ∷ x) → IsObject text other rest → IsSpaced rest (46 ∷ stop) → (other ≡ term_of o)
    × (stop ≡ x)
object_same (Node iri) text x other rest stop fine e read gap_before = let same =
    iri_object text iri (32 ∷ 46 ∷ x) other rest fine e read in (same.0, stop_same rest x stop same.1 gap_before)
object_same (Class kind) text x other rest stop fine e read gap_before = let same =
    iri_object text (class_iri kind) (32 ∷ 46 ∷ x) other rest (class_bytes kind) e read in
    (same.0, stop_same rest x stop same.1 gap_before)
object_same (Literal tag value) text x other rest stop fine e read gap_before =
    literal_object text _ other rest e (tagged_same text tag value x other rest stop fine.0 e gap_before) read
object_same True text x other rest stop fine e read gap_before =
    literal_object text _ other rest e (typed_same text (xsd (codes "boolean")) (codes "true") x other rest stop
    boolean_bytes e gap_before) read

-- The spelling of a line, followed by the remaining text.
abbrev pub line_then : Triple → List ℕ → List ℕ
line_then t x =
    60 ∷ (t.subject ++ 62 ∷ 32 ∷ 60 ∷ (property_iri t.property ++ 62 ∷ 32 ∷ object_then t.object (32 ∷ 46 ∷ 10 ∷ x)))

opening : ¬ IsBlankByte 60
opening = not_blank 60 (λ q. omega arith) (λ q. omega arith)

-- An object begins with neither a space nor a tab.
pub object_opens : (o : Object) (y : List ℕ) → (c : ℕ) × (z : List ℕ) × (object_then o y ≡ c ∷ z) × ¬ IsBlankByte c
object_opens (Node iri) y = (60, _, refl, opening)
object_opens (Class kind) y = (60, _, refl, opening)
object_opens (Literal tag text) y = (34, _, refl, not_blank 34 (λ q. omega arith) (λ q. omega arith))
object_opens True y = (34, _, refl, not_blank 34 (λ q. omega arith) (λ q. omega arith))

-- A text that is read as an IRI or another term doesn't begin with a space.
iriref_unspaced : (text iri rest z : List ℕ) → IsIriref text iri rest → text ≡ 32 ∷ z → ⊥
iriref_unspaced text iri rest z ref e = heads_differ _ _ _ _ (λ q. omega arith) (sym e ∙ ref.text_is)

object_unspaced : (text : List ℕ) (term : RdfTerm) (rest z : List ℕ) → IsObject text term rest → text ≡ 32 ∷ z → ⊥
object_unspaced text term rest z h e = grind (arith, common_steps, heads_differ, iriref_unspaced)

-- A line is read as its triple, and the remaining text begins with its line feed.
pub line_same : (t : Triple) (x text : List ℕ) (content : Statement) (rest : List ℕ) → IsWritable t → text
    ≡ line_then t x → IsTriple text content rest → (content ≡ statement_of t) × (rest ≡ 10 ∷ x)
line_same t x text content rest fine e read =
    let first = no_gap_before text read.first 60 _ read.first_spaced e opening in
    let subject = iri_subject read.first t.subject _ content.subject read.after_subject fine.subject first
    read.subject in
    let second = past_space read.after_subject read.second 60 _ read.second_spaced subject.1 opening
    (λ z. iriref_unspaced read.second content.predicate read.after_predicate z read.predicate) in
    let predicate = iriref_same read.second (property_iri t.property) (32 ∷ object_then t.object (32 ∷ 46 ∷ 10 ∷ x))
    content.predicate read.after_predicate (property_bytes t.property) second read.predicate in
    let opens = object_opens t.object (32 ∷ 46 ∷ 10 ∷ x) in
    let third = past_space read.after_predicate read.third opens.0 opens.1 read.third_spaced
    (predicate.1 ∙ ap (λ l. 32 ∷ l) opens.2) opens.3 (λ z. object_unspaced read.third content.object
    read.after_object z read.object) in
    let object = object_same t.object read.third (10 ∷ x) content.object read.after_object rest fine.object
    (third ∙ sym opens.2) read.object read.stop_spaced in
    (λ i. record { subject = subject.0 i; predicate = predicate.0 i; object = object.0 i }, object.1)
