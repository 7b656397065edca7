use Rattle.std.proofs.Common.{take, []}
use Rattle.thes_core.specs.CoreView.{with_histories}
use Rattle.thes_display.specs.TextAppends.{AppendsText}
use Rattle.thes_display.specs.Alphabetical.{AreLinesOf, AreTexts}
use Rattle.thes_display.proofs.entry.write_symbols.Given as goal

abbrev pub invariant-loop-symbol : goal.invariant-loop-symbol
invariant-loop-symbol l =
    AppendsText (AreTexts (AreLinesOf (with_histories [] l.source.core.now) l.source.tag.now l.sides.concept)
    (take l.symbol-index l.symbol-items)) l.fn.text.items l.text.items
