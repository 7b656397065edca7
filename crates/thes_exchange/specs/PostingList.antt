-- The contents of a list of postings, for its contracts.
use Rattle.std.specs.Prelude.{List, map}
use Rattle.serde_json.specs.Data.{Data}
use Rattle.serde_json.specs.View.{view}
use Rattle.thes_exchange.specs.declared.posting_list.PostingList.{PostingList}

-- The postings of a list as JSON, in the order in which they were appended.
abbrev pub entries : PostingList → List Data
entries listing = map view listing.rows.items
