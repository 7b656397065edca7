use Rattle.std.proofs.Common.{◌≡◌, ◌++◌, take}
use Rattle.std.specs.Prelude.{flat_map}
use Rattle.std.specs.Borrow.{Bor}
use Rattle.thes_base.specs.Data.{LabelData}
use Rattle.thes_display.specs.Alphabetical.{entry_line, symbol_text}
use Rattle.thes_display.proofs.entry.write_label_lines.Given as goal

abbrev pub invariant-loop-label : goal.invariant-loop-label
invariant-loop-label l = l.text.items ≡ l.fn.text.items
    ++ flat_map (λ (x : Bor LabelData). entry_line (symbol_text l.symbol) x.now.text) (take l.label-index l.labels)
