-- Facts on the postings that a request concerns, as the storage reports them.
use Rattle.std.specs.Prelude.{◌≡◌, ℕ, List, [], ◌∷◌, map, filter, Option, None, Some, option_map}
use Rattle.thes_base.specs.declared.data.History.{History}
use Rattle.thes_base.specs.declared.request.Command.{Command}
use Rattle.thes_base.specs.declared.request.Command.TheVariants as request
use Rattle.thes_base.specs.Resources.{entry_at}
use Rattle.thes_base.specs.Postings.{is_assigned_to}
use Rattle.thes_base.specs.Refusals.{IsOfKey}
use Rattle.thes_tables.specs.declared.rows.PostingRow.{PostingRow}
use Rattle.thes_tables.specs.Tables.{posting_row}
use Rattle.thes_core.specs.declared.facts.Facts.{Facts}

-- The row of the posting with this number; None if no posting has it.
abbrev pub posting_row_at : List History → ℕ → Option PostingRow
posting_row_at histories n = option_map posting_row (entry_at histories n)

-- The numbers of the postings assigned to the concept, in ascending order.
abbrev pub assigned_posting_numbers : ℕ → List History → List ℕ
assigned_posting_numbers concept histories = map (λ h. h.number) (filter (is_assigned_to concept) histories)

-- The option is the row of the posting with the key, or None if no posting has the key.
abbrev pub IsRowOfKey : List ℕ → List History → Option PostingRow → Type 0
IsRowOfKey key histories (Some row) = (h : History) × IsOfKey key histories h × (row ≡ posting_row h)
IsRowOfKey key histories None = (h : History) → ¬ IsOfKey key histories h

-- The known posting of a request: for a Post the one with its key, if there is one; for another request none.
abbrev pub IsKnownFor : Command → List History → Option PostingRow → Type 0
IsKnownFor (request.Post key rec concept) histories known = IsRowOfKey key histories known
IsKnownFor _ histories known = known ≡ None

-- The numbers of the postings that a Withdraw or a Split lists, in the order of its list; none for another request.
abbrev pub postings_named : Command → List ℕ
postings_named (request.Withdraw posting) = posting ∷ []
postings_named (request.Split source tag text postings) = postings
postings_named _ = []

-- The numbers of the postings assigned to the source of a Merge; none for another request.
abbrev pub postings_to_move : Command → List History → List ℕ
postings_to_move (request.Merge source target) histories = assigned_posting_numbers source histories
postings_to_move _ histories = []

-- The facts are those of the histories, for this request.
pub record AreFacts (command : Command) (histories : List History) (facts : Facts) : Type 0 where
  pub known : IsKnownFor command histories facts.known
  pub named_postings : facts.named_postings.items ≡ map (posting_row_at histories) (postings_named command)
  pub standing : facts.standing.items ≡ postings_to_move command histories
