use Rattle.std.proofs.Common.{◌≡◌, ◌++◌, take, ℕ}
use Rattle.std.specs.Prelude.{flat_map}
use Rattle.thes_display.specs.Alphabetical.{entry_line, symbol_text}
use Rattle.thes_display.specs.HeadingIndex.{term_at}
use Rattle.thes_display.proofs.entry.write_places.Given as goal

abbrev pub invariant-loop-place : goal.invariant-loop-place
invariant-loop-place l = l.text.items ≡ l.fn.text.items
    ++ flat_map (λ (k : ℕ). entry_line (symbol_text l.symbol) (term_at l.headings k).text) (take l.place-index l.places)
