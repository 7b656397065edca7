-- Names for the plain types by which contracts represent texts and numbers. They restrict nothing: Forms defines the
-- forms.
use Rattle.std.specs.Prelude.{ℕ, List}

-- A text as the list of its bytes in UTF-8.
abbrev pub Bytes : Type 0
Bytes = List ℕ

-- A language tag (BCP 47).
abbrev pub Tag : Type 0
Tag = Bytes

-- The text of a label or a scope note.
abbrev pub Text : Type 0
Text = Bytes

-- The IRI of a resource, or a store's base.
abbrev pub Iri : Type 0
Iri = Bytes

-- The key under which a sender posts, and by which a repeated Post is recognized.
abbrev pub Key : Type 0
Key = Bytes

-- The name of a catalogue record, which the machine doesn't interpret.
abbrev pub RecordName : Type 0
RecordName = Bytes

-- The number of a resource, a posting or a move. Resources, postings and moves are numbered separately.
abbrev pub Number : Type 0
Number = ℕ
