use Rattle.std.proofs.Common.{sym, subst, List}
use Rattle.thes_base.specs.declared.data.Resource.{Resource}
use Rattle.thes_base.specs.Resources.{Iris}
use Rattle.thes_base.specs.Labels.{Labels}
use Rattle.thes_vocab.specs.Consistency.{IsConsistentVocabulary}
use Rattle.thes_vocab.proofs.ConsistencyLemmas.{kept_empty}
use Rattle.thes_vocab.proofs.vocab.Vocab.new.Goals as goal

pub invariant_of-result : goal.invariant_of-result
invariant_of-result c =
    subst (λ (p : List Resource × (Iris × Labels)). IsConsistentVocabulary c.args.base p.0 p.1.0 p.1.1 c.new-4.result
    c.new-5.result) (λ i. (sym c.new.ensures.items i, (sym c.new-2.ensures i, sym c.new-3.ensures i)))
    (kept_empty c.args.base c.new-4.result c.new-5.result c.new-5.ensures)
