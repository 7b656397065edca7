use Rattle.std.proofs.Common.{sym, subst}
use Rattle.std.specs.Ordering.{nat_cmp}
use Rattle.thes_base.specs.Resources.{Iris}
use Rattle.thes_base.specs.Labels.{Labels}
use Rattle.thes_lists.specs.Lists.{AreListings}
use Rattle.thes_vocab.specs.Vocabulary.{IsConceptOf}
use Rattle.thes_vocab.specs.Loading.{IsLoading}
use Rattle.thes_vocab.proofs.LoadingLemmas.{loading_none}
use Rattle.thes_vocab.proofs.load.VocabLoad.new.Goals as goal

pub invariant_of-result : goal.invariant_of-result
invariant_of-result c =
    subst (λ (p : Iris × Labels). IsLoading c.args.base c.args.resources.items p.0 p.1 c.new-3.result
    c.list_all.new.concepts) (λ i. (sym c.new.ensures i, sym c.new-2.ensures i))
    (loading_none c.args.base c.args.resources.items c.new-3.result c.list_all.new.concepts c.requires
    (subst (λ rs. AreListings nat_cmp (IsConceptOf rs) c.list_all.new.concepts) c.as_slice.ensures.value
    c.in_ok-list_all.ensures))
