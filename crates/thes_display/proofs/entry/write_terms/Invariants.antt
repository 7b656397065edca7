use Rattle.std.proofs.Common.{◌≡◌, ◌++◌, take}
use Rattle.std.specs.Prelude.{flat_map}
use Rattle.thes_display.specs.Alphabetical.{entry_line, symbol_text}
use Rattle.thes_display.specs.Order.{Term}
use Rattle.thes_display.proofs.entry.write_terms.Given as goal

abbrev pub invariant-loop-term : goal.invariant-loop-term
invariant-loop-term l = l.text.items ≡ l.fn.text.items
    ++ flat_map (λ (t : Term). entry_line (symbol_text l.symbol) t.text) (take l.term-index l.terms)
