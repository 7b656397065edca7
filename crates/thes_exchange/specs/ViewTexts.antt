-- Views as JSON, with the members in byte order of their names.
use Rattle.std.specs.Prelude.{ℕ, List, [], ◌∷◌, ◌++◌, map, codes, Option, None, Some}
use Rattle.serde_json.specs.Data.{Data, null, boolean, number, unsigned, string, array, object, no_items, item}
use Rattle.serde_json.specs.Data.{no_members, member}
use Rattle.serde_json.specs.View.{items_of}
use Rattle.serde_json.specs.Written.{compact_text}
use Rattle.thes_base.specs.declared.data.History.{History}
use Rattle.thes_base.specs.declared.data.LinkKind.{LinkKind}
use Rattle.thes_base.specs.declared.data.Move.{Move}
use Rattle.thes_base.specs.declared.data.TypedKind.{TypedKind}
use Rattle.thes_base.specs.Postings.{place}
use Rattle.thes_base.specs.Views.{TaggedText, ConceptDetails}
use Rattle.thes_base.specs.KindNames.{link_kind_name, typed_kind_name}
use Rattle.thes_requests.specs.AnswerTexts.{refusal_text}
use Rattle.thes_base.specs.declared.data.Totals.{Totals}
use Rattle.thes_exchange.specs.declared.view.View.{View}
use Rattle.thes_exchange.specs.declared.view.View.TheVariants as views

-- A number as a JSON number.
abbrev pub number_data : ℕ → Data
number_data n = number (unsigned n)

-- A number as a JSON number, or null if there is none.
abbrev pub number_or_null : Option ℕ → Data
number_or_null None = null
number_or_null (Some n) = number_data n

-- The elements as a JSON array, in order.
abbrev pub array_data : {A : Type 0} → (A → Data) → List A → Data
array_data show xs = array (items_of (map show xs))

-- A label as an array of its language tag and its text.
abbrev pub tagged_data : TaggedText → Data
tagged_data l = array (item (string l.tag) (item (string l.text) no_items))

-- A JSON array of a keyword and a number.
abbrev pub keyword_data : List ℕ → ℕ → Data
keyword_data word n = array (item (string word) (item (number_data n) no_items))

-- A mapping as an array of the keyword of its kind and its other end.
abbrev pub mapping_data : LinkKind × ℕ → Data
mapping_data m = keyword_data (link_kind_name m.0) m.1

-- A typed link as an array of the keyword of its type and its other end.
abbrev pub typed_data : TypedKind × ℕ → Data
typed_data m = keyword_data (typed_kind_name m.0) m.1

-- A move as an array of its number, its source and its target.
abbrev pub move_data : Move → Data
move_data m = array (item (number_data m.number) (item (number_data m.source) (item (number_data m.target) no_items)))

-- A posting's entry in a list, as an array of its number, its key and its record name.
abbrev pub entry_data : ℕ → List ℕ → List ℕ → Data
entry_data n key rec = array (item (number_data n) (item (string key) (item (string rec) no_items)))

-- The entry in a list for a posting with this history.
abbrev pub row_data : History → Data
row_data h = entry_data h.number h.key h.rec

-- The totals as a JSON object of three numbers.
abbrev pub totals_data : Totals → Data
totals_data t = object
    (member (codes "accepted") (number_data t.accepted)
    (member (codes "standing") (number_data t.standing)
    (member (codes "withdrawn") (number_data t.withdrawn)
    no_members)))

-- The view of a concept as a JSON object; a member that has no value is null or an empty array.
unfoldable pub concept_data : ConceptDetails → Data
concept_data c = object
    (member (codes "alt") (array_data tagged_data c.alt)
    (member (codes "broader") (array_data number_data c.broader)
    (member (codes "collections") (array_data number_data c.collections)
    (member (codes "hidden") (array_data tagged_data c.hidden)
    (member (codes "live") (boolean c.live)
    (member (codes "mappings") (array_data mapping_data c.mappings)
    (member (codes "narrower") (array_data number_data c.narrower)
    (member (codes "number") (number_data c.number)
    (member (codes "postings") (number_data c.postings)
    (member (codes "pref") (array_data tagged_data c.pref)
    (member (codes "related") (array_data number_data c.related)
    (member (codes "replaced") (number_or_null c.replaced)
    (member (codes "scheme") (number_or_null c.scheme)
    (member (codes "scope") (array_data tagged_data c.scope)
    (member (codes "top") (boolean c.top)
    (member (codes "typed") (array_data typed_data c.typed)
    no_members))))))))))))))))

-- Entries of postings as a JSON object with the one member `postings`.
abbrev pub listing_data : List Data → Data
listing_data entries = object (member (codes "postings") (array (items_of entries)) no_members)

-- The postings of a concept as a JSON object, in the order of their numbers.
abbrev pub postings_data : List History → Data
postings_data hs = listing_data (map row_data hs)

-- A posting with its history as a JSON object.
abbrev pub posting_data : History → Data
posting_data h = object
    (member (codes "first") (number_data h.first)
    (member (codes "key") (string h.key)
    (member (codes "moves") (array_data move_data h.moves)
    (member (codes "number") (number_data h.number)
    (member (codes "place") (number_data (place h))
    (member (codes "record") (string h.rec)
    (member (codes "withdrawn") (boolean h.withdrawn)
    no_members)))))))

-- The compact text of a JSON value, and a line feed.
unfoldable pub line_text : Data → List ℕ
line_text d = compact_text d ++ 10 ∷ []

-- The line of JSON for a view or a refusal.
abbrev pub view_text : View → List ℕ
view_text (views.Totals t) = line_text (totals_data t)
view_text (views.Concept c) = line_text (concept_data c)
view_text (views.Postings hs) = line_text (postings_data hs)
view_text (views.Posting h) = line_text (posting_data h.now)
view_text (views.No r) = refusal_text r
