use Rattle.std.proofs.Common.{take}
use Rattle.thes_display.proofs.TermLemmas.{AreMade}
use Rattle.thes_display.proofs.entry_terms.sorted_terms_of.Given as goal

abbrev pub invariant-loop-concept : goal.invariant-loop-concept
invariant-loop-concept l = AreMade l.core.labels l.tag (take l.concept-index l.concepts) l.terms.items
