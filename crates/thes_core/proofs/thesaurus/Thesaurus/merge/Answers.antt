use Rattle.std.proofs.Common.{[], refl, sym, ap, ◌∙◌, ◌+◌, arith}
use Rattle.std.specs.Prelude.{Some}
use Rattle.thes_base.specs.Links.{links_after_merge}
use Rattle.thes_base.specs.Postings.{is_assigned_to, move_count}
use Rattle.thes_base.specs.Changes.{state_after_merge}
use Rattle.thes_vocab.specs.Vocabulary.{Vocabulary, vocabulary_after_death}
use Rattle.thes_post.specs.PostingCounts.{count_of}
use Rattle.thes_post.proofs.PostingCountLemmas.{all_assigned, sums_moved}
use Rattle.thes_core.specs.PartsView.{parts_state}
use Rattle.thes_core.proofs.RequestCheckLemmas.{outside_same}
use Rattle.thes_core.proofs.ApplyLemmas.{parts_become_state, merge_apart, merge_fits, merge_there}
use Rattle.thes_core.proofs.OutsideLemmas.{outside_marked_dead}
use Rattle.thes_core.proofs.thesaurus.Thesaurus.merge.Goals as goal

pub returns : goal.returns
returns c = record {
  becomes = let t = c.args.self.now in
      parts_become_state
      (c.mark_dead.ensures ∙ ap (λ (v : Vocabulary). vocabulary_after_death v c.args.source (Some c.args.target))
      c.in_ok-take_labels.ensures.ok)
      c.in_ok-contract.ensures.ok
      refl
      (λ i. record (state_after_merge c.args.source c.args.target (parts_state t []))
      { links = links_after_merge (outside_same t [] c.requires.kept i) c.args.source c.args.target t.graph.links })
      refl (λ n. c.requires.kept.outside n
      ∙ sym (outside_marked_dead t.vocab.resources c.args.source (Some c.args.target) n));
  counts = λ hs ok are.
      let t = c.args.self.now in
      let source = c.args.source in
      let target = c.args.target in
      let apart = merge_apart t hs source target ok in
      let there = merge_there t hs source target ok in
      let fits = merge_fits t hs source target ok in
      let at_source = are.standing source in
      let at_target = are.standing target in
      let moves = are.moves in
      sums_moved (is_assigned_to source) source target apart (move_count hs + 1) hs
      (all_assigned source target apart hs) (count_of t.book source) at_source t.book c.move_all.new.self are
      (c.in_ok-move_all.ensures.ok
      (record {
        standing = omega arith;
        there = omega (arith, there, at_source, at_target);
        moves = omega (arith, fits, at_source, moves);
      }));
}
