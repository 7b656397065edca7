use Rattle.std.proofs.Common.{◌≡◌, ◌∙◌, List, map, ap, get_or, inr}
use Rattle.sqlite.specs.Order.{Row}
use Rattle.thes_sqlite.specs.ValueCells.{cell_of}
use Rattle.thes_sqlite.proofs.migrating.is_version_1.Goals as goal

pub returns-clause-judged : goal.returns-clause-judged
returns-clause-judged c = inr (λ h.
    let row = c.row-item.result in
    let same : row ≡ h.0 = c.row-item.is ∙ ap (λ (l : List Row). get_or l 0 row) h.1 in
    c.in-None.ensures h.2 h.3 (h.4.0, c.as_slice.ensures.value ∙ c.in_ok-cells.ensures ∙ ap (map cell_of) same ∙ h.4.1))
