use Rattle.std.proofs.Common.{◌∙◌, List, [], sym, ap, subst, true≢false}
use Rattle.thes_base.specs.declared.data.Resource.{Resource}
use Rattle.thes_vocab.specs.Vocabulary.{Vocabulary}
use Rattle.thes_load_rows.specs.LinksSoFar.{HasLinks}
use Rattle.thes_load_rows.proofs.StageCloseLemmas.{label_bad, label_good, label_without}
use Rattle.thes_load_rows.proofs.closing.close_label.Goals as goal

pub returns-in_ok-linked_vocab-in-Some : goal.returns-in_ok-linked_vocab-in-Some
returns-in_ok-linked_vocab-in-Some c =
    let linked_vocab = c.in_ok-linked_vocab-in-Some.linked_vocab in
    let same = c.in_ok-linked_vocab-in-Some.ensures.same in
    let links = subst (λ (rs : List Resource). HasLinks rs linked_vocab.graph [] [])
    (ap (λ (v : Vocabulary). v.resources) (sym same)) c.in_ok-linked_vocab-in-Some.ensures.none in
    label_good c.args.vocab linked_vocab c.learn_rows_so_far.ensures.labels c.in-Some.ensures.0
    (same ∙ c.in-Some.ensures.1) links

pub returns-in-None : goal.returns-in-None
returns-in-None c = rw c.stage_after_fault.ensures (label_bad c.args.vocab c.in-None.ensures)

pub returns-else-has_all_iris : goal.returns-else-has_all_iris
returns-else-has_all_iris c =
    rw c.stage_after_fault-else-has_all_iris.ensures (label_without c.args.vocab
    (λ all. true≢false (sym (c.has_all_iris.ensures.1 all) ∙ c.if-has_all_iris.false)))
