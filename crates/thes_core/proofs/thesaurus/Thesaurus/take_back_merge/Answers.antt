use Rattle.std.proofs.Common.{◌≡◌, ◌∙◌, ◌<◌, ◌^◌, List, ap, length, subst, sym}
use Rattle.std.specs.Prelude.{Some}
use Rattle.std.specs.FinSet as set
use Rattle.thes_base.specs.declared.data.Link.{Link}
use Rattle.thes_base.specs.declared.request.Command.TheVariants as request
use Rattle.thes_base.specs.Data.{LabelData}
use Rattle.thes_base.specs.Legal.{AreLegalLabels}
use Rattle.thes_base.specs.Postings.{assigned_count}
use Rattle.thes_graph.specs.MergeAdditions.{AreNew, with_all, without_links}
use Rattle.thes_links.specs.GraphView.{GraphView}
use Rattle.thes_vocab.specs.LabelRows.{labels_of_owner}
use Rattle.thes_vocab.specs.Vocabulary.{with_labels}
use Rattle.thes_core.specs.Losses.{IsLostFromParts, IsLostFromPostings, IsMergeLoss}
use Rattle.thes_core.specs.PartsView.{setting_of}
use Rattle.thes_core.specs.declared.losses.Lost.{Lost}
use Rattle.thes_core.specs.declared.losses.MergeLoss.{MergeLoss}
use Rattle.thes_core.proofs.MergeUndoLemmas.{before_merge_death, copies_droppable, links_may_come_back}
use Rattle.thes_core.proofs.MergeUndoLemmas.{merged_apart, merged_vocabulary, parts_before_merge}
use Rattle.thes_core.proofs.MergeUndoLemmas.{vocabulary_before_merge}
use Rattle.thes_core.proofs.UndoLogLemmas.{counts_unmerged}
use Rattle.thes_core.proofs.thesaurus.Thesaurus.take_back_merge.Goals as goal

pub take_back_death-requires : goal.take_back_death-requires
take_back_death-requires c = (
  merged_vocabulary c.args.self.now c.args.source c.args.target c.requires.0 c.requires.1,
  Some c.args.target,
  before_merge_death c.args.self.now c.args.source c.args.target c.requires.0 c.requires.1,
)

pub drop_labels-requires : goal.drop_labels-requires
drop_labels-requires c =
    let t = c.args.self.now in
    let source = c.args.source in
    let target = c.args.target in
    let s = c.requires.0 in
    let is = c.requires.1 in
    let lost = subst (IsMergeLoss source target s) (sym c.deref-loss.ensures)
    (subst (λ (x : Lost). IsLostFromParts (request.Merge source target) s x) c.in-Merge.is c.requires.2) in
    let v = c.take_back_death.new.self in
    let alive = c.in_ok-take_back_death.ensures.ok (merged_vocabulary t source target s is) (Some target)
    (before_merge_death t source target s is) in
    subst (λ (ls : List LabelData). AreLegalLabels v.resources (set.difference v.labels (labels_of_owner target ls)))
    (sym c.as_slice.ensures.value)
    (copies_droppable t source target s is c.deref-loss.result.now lost v alive)

pub add_all-requires : goal.add_all-requires
add_all-requires c =
    let lost = subst (IsMergeLoss c.args.source c.args.target c.requires.0) (sym c.deref-loss.ensures)
    (subst (λ (x : Lost). IsLostFromParts (request.Merge c.args.source c.args.target) c.requires.0 x) c.in-Merge.is
    c.requires.2) in
    subst (AreNew c.args.self.now.graph) (sym c.as_slice-2.ensures.value)
    (links_may_come_back c.args.self.now c.args.source c.args.target c.requires.0 c.requires.1
    c.deref-loss.result.now lost)

pub take_back_moves-requires : goal.take_back_moves-requires
take_back_moves-requires c = record {
  apart = merged_apart c.args.self.now c.args.source c.args.target c.requires.0 c.requires.1;
}

pub returns-clause-parts : goal.returns-clause-parts
returns-clause-parts c = λ s is lost_is.
    let t = c.args.self.now in
    let source = c.args.source in
    let target = c.args.target in
    let loss = c.deref-loss.result.now in
    let lost = subst (IsMergeLoss source target s) (sym c.deref-loss.ensures)
    (subst (λ (x : Lost). IsLostFromParts (request.Merge source target) s x) c.in-Merge.is lost_is) in
    let v = c.take_back_death.new.self in
    let alive = c.in_ok-take_back_death.ensures.ok (merged_vocabulary t source target s is) (Some target)
    (before_merge_death t source target s is) in
    let dropped = c.drop_labels.ensures
    ∙ ap (λ (ls : List LabelData). with_labels v (set.difference v.labels (labels_of_owner target ls)))
    c.as_slice.ensures.value in
    let added = c.in_ok-add_all.ensures.ok
    ∙ ap (λ (ls : List Link). record t.graph { links = with_all t.graph.links ls }) c.as_slice-2.ensures.value in
    let detached = c.detach_all.ensures
    ∙ ap (λ (g : GraphView). record g { links = without_links g.links c.as_slice-3.result.now }) added
    ∙ ap (λ (ls : List Link). record t.graph {
      links = without_links (with_all t.graph.links loss.links.items) ls;
    }) c.as_slice-3.ensures.value in
    parts_before_merge t source target s is loss lost c.drop_labels.new.self c.detach_all.new.self
    c.take_back_moves.new.self (vocabulary_before_merge t source target s is loss lost v alive c.drop_labels.new.self
    dropped) detached

pub returns-clause-counts : goal.returns-clause-counts
returns-clause-counts c = λ s is accepts lost counts.
    let t = c.args.self.now in
    let source = c.args.source in
    let target = c.args.target in
    counts_unmerged (setting_of t) s source target c.deref-loss.result.now.moves t.book c.take_back_moves.new.self
    is.legal (merged_apart t source target s is)
    (subst (λ (x : MergeLoss). length s.histories < 2 ^ 32 → x.moves ≡ assigned_count source s.histories)
    (sym c.deref-loss.ensures)
    (subst (λ (x : Lost). IsLostFromPostings (request.Merge source target) s x) c.in-Merge.is lost)) counts
    c.in_ok-take_back_moves.ensures.ok
