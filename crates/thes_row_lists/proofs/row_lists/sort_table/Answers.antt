use Rattle.std.proofs.Common.{List, Vec, Global, sym, subst, rules}
use Rattle.std.specs.Prelude.{Option, Some}
use Rattle.std.proofs.lemmas.List.Sorted.{IsNonDecreasingBy-from_sort_by_key}
use Rattle.thes_tables.specs.declared.cells.Cell.{Cell}
use Rattle.thes_row_lists.specs.SortedRows.{first_number, table_of, IsSortedCopy}
use Rattle.thes_row_lists.proofs.row_lists.sort_table.Goals as goal

pub returns-in_ok-sort_by_key : goal.returns-in_ok-sort_by_key
returns-in_ok-sort_by_key c =
    let rows = c.sort_by_key.new.self.items in
    let rises = IsNonDecreasingBy-from_sort_by_key first_number rows c.in_ok-sort_by_key.ensures.sorted
    (λ a r q k. search rules) in
    subst (λ (table : Option (Vec (List Cell) Global)). IsSortedCopy (table_of table) (Some rows)) (sym c.in-Some.is)
    (c.sort_by_key.ensures.permutation, rises)
