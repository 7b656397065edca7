use Rattle.std.proofs.Common.{◌≡◌, ◌++◌, map, take}
use Rattle.thes_requests.specs.ChangeTexts.{column_cell, cells_text}
use Rattle.thes_requests.proofs.change_list.ChangeList.push_columns.Given as goal

abbrev pub invariant-loop-column : goal.invariant-loop-column
invariant-loop-column l = l.self ≡ l.fn.self ++ cells_text (map column_cell (take l.column-index l.columns))
