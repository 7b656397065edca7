-- The meaning of the bytes of a request: a command, a query, or the first form fault. Three rules are checked in this
-- order: the bytes are JSON; the object has exactly the members in its row of the tables below, each of the right type;
-- each member has its form, in the order of the row.
use Rattle.std.specs.Prelude.{ℕ, Bool, List, All, codes, map, unwrap_or, option_and_then, Option, None, Some}
use Rattle.std.specs.Prelude.{if◌then◌else◌}
use Rattle.std.specs.Str.{is_utf8}
use Rattle.std.specs.Char.{to_ascii_lowercase}
use Rattle.serde_json.specs.Data.{Num, Data}
use Rattle.serde_json.specs.Read.{read}
use Rattle.serde_json.specs.Find.{get, as_str, as_u64}
use Rattle.thes_base.specs.Forms.{IsNumber, IsText, IsIri, IsKey, IsRecordName, IsTag}
use Rattle.thes_base.specs.Data.{LabelData}
use Rattle.thes_base.specs.Texts.{IsLabelText}
use Rattle.thes_base.specs.declared.data.LabelKind.{LabelKind}
use Rattle.thes_base.specs.declared.data.Link.{Link}
use Rattle.thes_base.specs.declared.data.LinkKind.{LinkKind}
use Rattle.thes_base.specs.declared.fault.FormFault.TheVariants as bad
use Rattle.thes_base.specs.declared.request.Command.{Command}
use Rattle.thes_base.specs.declared.request.Command.TheVariants as request
use Rattle.thes_requests.specs.Readings.{RequestReading, reads, fails, ◌>>=◌, present_or_bad_shape, value_if}
use Rattle.thes_requests.specs.Members.{counted_members, number_in, text_in, boolean_in, numbers_in}
use Rattle.thes_requests.specs.Keywords.{label_kind_named, link_kind_named, verb_named, noun_named}
use Rattle.thes_requests.specs.declared.keywords.CommandKeyword.{CommandKeyword}
use Rattle.thes_requests.specs.declared.keywords.CommandKeyword.TheVariants as does
use Rattle.thes_requests.specs.declared.keywords.QueryKeyword.{QueryKeyword}
use Rattle.thes_requests.specs.declared.keywords.QueryKeyword.TheVariants as gets
use Rattle.thes_requests.specs.declared.request.Query.{Query}
use Rattle.thes_requests.specs.declared.request.Query.TheVariants as asked
use Rattle.thes_requests.specs.declared.request.Request.{Request}
use Rattle.thes_requests.specs.declared.request.Request.TheVariants.{Do, Get}

-- The number, if it is an unsigned 64-bit integer, or else 0, which no resource or posting has as its number.
abbrev pub whole_number : Num → ℕ
whole_number x = unwrap_or (as_u64 x) 0

-- Reads the number of a resource or a posting, from 1 to 2³² - 1, or returns `BadNumber`.
abbrev pub number_form : Num → RequestReading ℕ
number_form x = value_if (IsNumber (whole_number x)) bad.BadNumber (whole_number x)

-- Reads a language tag, converted to lower case, or returns `BadTag`.
abbrev pub tag_form : List ℕ → RequestReading (List ℕ)
tag_form text = value_if (IsTag text) bad.BadTag (map to_ascii_lowercase text)

-- Reads the text of a label, or returns `BadText`.
abbrev pub text_form : List ℕ → RequestReading (List ℕ)
text_form text = value_if (IsText text) bad.BadText text

-- Reads an IRI, or returns `BadIri`.
abbrev pub iri_form : List ℕ → RequestReading (List ℕ)
iri_form text = value_if (IsIri text) bad.BadIri text

-- Reads the sender's key for a posting, or returns `BadKey`.
abbrev pub key_form : List ℕ → RequestReading (List ℕ)
key_form text = value_if (IsKey text) bad.BadKey text

-- Reads the name of a record, or returns `BadRecord`.
abbrev pub record_form : List ℕ → RequestReading (List ℕ)
record_form text = value_if (IsRecordName text) bad.BadRecord text

-- Reads the text of a label of this kind, or returns `BadText`.
abbrev pub label_text_form : LabelKind → List ℕ → RequestReading (List ℕ)
label_text_form kind text = value_if (IsLabelText kind text) bad.BadText text

-- Each number is from 1 to 2³² - 1, as the number of a resource or a posting must be.
pub record AreNumbers (ns : List ℕ) : Type 0 where
  pub each : All IsNumber ns

-- Reads a list of numbers, or returns `BadNumber` if one isn't an integer from 1 to 2³² - 1.
abbrev pub numbers_form : List Num → RequestReading (List ℕ)
numbers_form xs = value_if (AreNumbers (map whole_number xs)) bad.BadNumber (map whole_number xs)

-- A member of a row: its look-up by name and type, and the form in which it is read.
pub record Member (X A : Type 0) : Type 1 where
  pub found : Data → Option X
  pub form : X → RequestReading A

-- The member `name`, the number of a resource or a posting.
abbrev pub number_at : List ℕ → Member Num ℕ
number_at name = record { found = number_in name; form = number_form }

-- The member `tag`, a language tag.
abbrev pub a_tag : Member (List ℕ) (List ℕ)
a_tag = record { found = text_in (codes "tag"); form = tag_form }

-- The member `text`, the text of a label.
abbrev pub a_text : Member (List ℕ) (List ℕ)
a_text = record { found = text_in (codes "text"); form = text_form }

-- The member `iri`, an IRI.
abbrev pub an_iri : Member (List ℕ) (List ℕ)
an_iri = record { found = text_in (codes "iri"); form = iri_form }

-- The member `key`, the sender's key for a posting.
abbrev pub a_key : Member (List ℕ) (List ℕ)
a_key = record { found = text_in (codes "key"); form = key_form }

-- The member `record`, the name of a record.
abbrev pub a_record : Member (List ℕ) (List ℕ)
a_record = record { found = text_in (codes "record"); form = record_form }

-- The member `keep`, a Boolean: whether a replaced preferred label stays as an alternative label.
abbrev pub a_keep : Member Bool Bool
a_keep = record { found = boolean_in (codes "keep"); form = reads }

-- The member `kind`, the keyword of a link kind.
abbrev pub a_link_kind : Member LinkKind LinkKind
a_link_kind = record {
  found = λ d. option_and_then link_kind_named (text_in (codes "kind") d);
  form = reads;
}

-- The member `postings`, an array of numbers of postings.
abbrev pub some_postings : Member (List Num) (List ℕ)
some_postings = record { found = numbers_in (codes "postings"); form = numbers_form }

-- The rows of the tables of commands and queries. A row checks the number of members, `do` or `get`
-- included, then looks up each member, and then reads each in its form.

-- A row with no member but `do` or `get`.
unfoldable pub members0 : {C : Type 0} → C → Data → RequestReading C
members0 makes d = do
  _ ← present_or_bad_shape (counted_members 1 d)
  reads makes

-- A row with one member besides `do` or `get`.
unfoldable pub members1 : {X A C : Type 0} → (A → C) → Member X A → Data → RequestReading C
members1 makes m d = do
  _ ← present_or_bad_shape (counted_members 2 d)
  x ← present_or_bad_shape (m.found d)
  a ← m.form x
  reads (makes a)

-- A row with two members besides `do` or `get`.
unfoldable pub members2 : {X A Y B C : Type 0}
    → (A → B → C) → Member X A → Member Y B → Data → RequestReading C
members2 makes m n d = do
  _ ← present_or_bad_shape (counted_members 3 d)
  x ← present_or_bad_shape (m.found d)
  y ← present_or_bad_shape (n.found d)
  a ← m.form x
  b ← n.form y
  reads (makes a b)

-- A row with three members besides `do` or `get`.
unfoldable pub members3 : {X A Y B Z D C : Type 0}
    → (A → B → D → C) → Member X A → Member Y B → Member Z D → Data → RequestReading C
members3 makes m n o d = do
  _ ← present_or_bad_shape (counted_members 4 d)
  x ← present_or_bad_shape (m.found d)
  y ← present_or_bad_shape (n.found d)
  z ← present_or_bad_shape (o.found d)
  a ← m.form x
  b ← n.form y
  e ← o.form z
  reads (makes a b e)

-- A row with four members besides `do` or `get`.
unfoldable pub members4 : {X A Y B Z D U E C : Type 0}
    → (A → B → D → E → C) → Member X A → Member Y B → Member Z D → Member U E → Data → RequestReading C
members4 makes m n o p d = do
  _ ← present_or_bad_shape (counted_members 5 d)
  x ← present_or_bad_shape (m.found d)
  y ← present_or_bad_shape (n.found d)
  z ← present_or_bad_shape (o.found d)
  u ← present_or_bad_shape (p.found d)
  a ← m.form x
  b ← n.form y
  e ← o.form z
  f ← p.form u
  reads (makes a b e f)

-- The row of `addLabel` and `dropLabel`: an owner and a label, whose kind decides the form of its text.
unfoldable pub label_line : Data → RequestReading (ℕ × LabelData)
label_line d = do
  _ ← present_or_bad_shape (counted_members 5 d)
  owner ← present_or_bad_shape (number_in (codes "owner") d)
  kind ← present_or_bad_shape (option_and_then label_kind_named (text_in (codes "kind") d))
  tag ← present_or_bad_shape (text_in (codes "tag") d)
  text ← present_or_bad_shape (text_in (codes "text") d)
  n ← number_form owner
  t ← tag_form tag
  x ← label_text_form kind text
  reads (n, record { kind = kind; tag = t; text = x })

-- The row of `link` and `unlink`: a kind of link and its two ends.
abbrev pub link_line : Data → RequestReading Link
link_line d =
    members3 (λ kind a b. record { kind = kind; a = a; b = b })
    a_link_kind (number_at (codes "a")) (number_at (codes "b")) d

-- Applies a function to the value that a row reads.
unfoldable pub map_reading : {A C : Type 0} → (A → C) → RequestReading A → RequestReading C
map_reading makes line = do
  x ← line
  reads (makes x)

-- The table of commands, by the keyword at `do`; the other members are in the order in which their
-- forms are checked.
abbrev pub command_in : CommandKeyword → Data → RequestReading Command
command_in does.Scheme d = members2 request.Scheme a_tag a_text d
command_in does.Concept d = members3 request.Concept (number_at (codes "scheme")) a_tag a_text d
command_in does.Collection d = members3 request.Collection (number_at (codes "scheme")) a_tag a_text d
command_in does.Outside d = members1 request.Outside an_iri d
command_in does.AddLabel d = map_reading (λ l. request.AddLabel l.0 l.1) (label_line d)
command_in does.DropLabel d = map_reading (λ l. request.DropLabel l.0 l.1) (label_line d)
command_in does.Relabel d = members4 request.Relabel (number_at (codes "owner")) a_tag a_text a_keep d
command_in does.Link d = map_reading (λ l. request.Link l.kind l.a l.b) (link_line d)
command_in does.Unlink d = map_reading (λ l. request.Unlink l.kind l.a l.b) (link_line d)
command_in does.Deprecate d = members1 request.Deprecate (number_at (codes "concept")) d
command_in does.Merge d =
    members2 request.Merge (number_at (codes "source")) (number_at (codes "target")) d
command_in does.Split d =
    members4 request.Split (number_at (codes "source")) a_tag a_text some_postings d
command_in does.Post d = members3 request.Post a_key a_record (number_at (codes "concept")) d
command_in does.Withdraw d = members1 request.Withdraw (number_at (codes "posting")) d

-- The table of queries, by the keyword at `get`, with the other members.
abbrev pub query_in : QueryKeyword → Data → RequestReading Query
query_in gets.Totals d = members0 asked.Totals d
query_in gets.Concept d = members1 asked.Concept (number_at (codes "number")) d
query_in gets.Postings d = members1 asked.Postings (number_at (codes "concept")) d
query_in gets.Posting d = members1 asked.Posting (number_at (codes "number")) d

-- Reads a request by the value of `do` or, if there is none, by that of `get`. An object with both is `BadShape`, since
-- it has one member too many.
abbrev pub request_by_keyword : Option Data → Option Data → Data → RequestReading Request
request_by_keyword (Some word) _ d = do
  verb ← present_or_bad_shape (option_and_then verb_named (as_str word))
  map_reading Do (command_in verb d)
request_by_keyword None (Some word) d = do
  noun ← present_or_bad_shape (option_and_then noun_named (as_str word))
  map_reading Get (query_in noun d)
request_by_keyword None None d = fails bad.BadShape

-- Reads a request from a JSON value, by its member `do` or `get`.
unfoldable pub request_in : Data → RequestReading Request
request_in d = request_by_keyword (get (codes "do") d) (get (codes "get") d) d

-- The bytes as a JSON value; None if they aren't UTF-8, or aren't JSON.
abbrev pub json_in : List ℕ → Option Data
json_in bytes = if is_utf8 bytes then read bytes else None

-- The JSON value, or `NotJson` if there is none.
abbrev pub json_of : Option Data → RequestReading Data
json_of None = fails bad.NotJson
json_of (Some d) = reads d

-- Reads a request from the bytes of a line.
abbrev pub request_of : List ℕ → RequestReading Request
request_of bytes = do
  d ← json_of (json_in bytes)
  request_in d
