use Rattle.std.proofs.Common.{[], sym, subst, take, arith, List}
use Rattle.std.proofs.lemmas.List.{take_more}
use Rattle.thes_core.specs.CoreView.{with_histories}
use Rattle.thes_display.specs.TextAppends.{AppendsText}
use Rattle.thes_display.specs.Alphabetical.{AreLinesOf, AreTexts}
use Rattle.thes_display.specs.declared.symbol.Symbol.{Symbol}
use Rattle.thes_display.proofs.TextAppendLemmas.{added_more}
use Rattle.thes_display.proofs.entry.write_symbols.Goals as goal

pub loop-symbol-preserved : goal.loop-symbol-preserved
loop-symbol-preserved c =
    let xs : List Symbol = c.all-symbols.result in
    let i = c.loop-symbol.symbol-index in
    let source = c.args.source.now in
    let are_lines = AreLinesOf (with_histories [] source.core.now) source.tag.now c.args.sides.now.concept in
    subst (λ ys. AppendsText (AreTexts are_lines ys) c.args.text.now.items c.write_symbol.new.text.items)
    (sym (take_more xs i _ (omega arith)))
    (added_more are_lines (take i xs) _ _ _ _ c.loop-symbol.invariant c.in_ok-write_symbol.ensures)
