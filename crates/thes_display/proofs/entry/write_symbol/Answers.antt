use Rattle.std.proofs.Common.{sym, subst}
use Rattle.thes_display.specs.EntryTerms.{AreLinkedUnder}
use Rattle.thes_display.specs.declared.symbol.Symbol.{Symbol}
use Rattle.thes_display.specs.declared.symbol.Symbol.TheVariants as symbol
use Rattle.thes_display.proofs.entry.write_symbol.Goals as goal

pub write_concepts-requires-clause-linked : goal.write_concepts-requires-clause-linked
write_concepts-requires-clause-linked c =
    let links = c.args.source.now.core.now.links in
    let n = c.args.sides.now.concept in (
      n,
      subst (λ (z : Symbol). AreLinkedUnder links n z c.as_slice.result.now) (sym c.in-Related.is)
          (subst (AreLinkedUnder links n symbol.Related) (sym c.as_slice.ensures.value)
          c.requires.sides.each_associate),
    )
