-- The effect of a posting on a list of postings as JSON.
use Rattle.std.specs.Prelude.{◌≡◌, ◌++◌, ◌∷◌, [], Result, Ok, Err}
use Rattle.thes_base.specs.declared.fault.Fault.{Fault}
use Rattle.thes_tables.specs.declared.rows.PostingRow.{PostingRow}
use Rattle.thes_exchange.specs.PostingList.{entries}
use Rattle.thes_exchange.specs.ViewTexts.{entry_data}
use Rattle.thes_service.specs.declared.posting_lister.PostingLister.{PostingLister}

-- The posting is appended to the list, or the list is unchanged if memory runs out.
abbrev pub ListsRow : PostingLister → PostingRow → Result (Unit {0}) Fault → PostingLister → Type 0
ListsRow old row (Ok done) new =
    entries new.listing ≡ entries old.listing ++ entry_data row.number row.key row.rec ∷ []
ListsRow old row (Err fault) new = entries new.listing ≡ entries old.listing
