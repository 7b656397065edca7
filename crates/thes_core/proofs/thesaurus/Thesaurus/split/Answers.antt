use Rattle.std.proofs.Common.{[], subst, sym, ◌∙◌, List, ℕ, arith}
use Rattle.std.specs.Prelude.{None}
use Rattle.thes_base.specs.declared.data.NewResource.TheVariants.{Concept}
use Rattle.thes_base.specs.RefusalRules.{accepted}
use Rattle.thes_post.specs.PostingCounts.{HasRoomForMoves, CountsAfterMoves}
use Rattle.thes_vocab.specs.NewResources.{unless_new, vocabulary_after_add}
use Rattle.thes_core.proofs.ApplyLemmas.{split_allowed, split_apart, split_fits, split_standing, split_there}
use Rattle.thes_core.proofs.ApplyLemmas.{split_sums, split_adds_concept}
use Rattle.thes_core.proofs.thesaurus.Thesaurus.split.Goals as goal

pub add_resource-requires-clause-allowed : goal.add_resource-requires-clause-allowed
add_resource-requires-clause-allowed c =
    let t = c.args.self.now in
    subst (λ (p : List ℕ × List ℕ). unless_new t.vocab (Concept c.scheme-scheme.result p.0 p.1) accepted None)
    (λ i. (sym c.in_ok-try_clone.ensures i, sym c.in_ok-try_clone-2.ensures i))
    (split_allowed t [] c.args.source c.args.tag.now c.args.text.now [] c.requires c.scheme-scheme.result
    c.scheme-scheme.ensures)

pub move_listed-requires : goal.move_listed-requires
move_listed-requires c = record {
  apart = split_apart c.args.self.now [] c.args.source c.args.tag.now c.args.text.now
      [] c.requires c.in_ok-concept.concept c.in_ok-concept.ensures.number;
}

pub returns : goal.returns
returns c = record {
  becomes = let t = c.args.self.now in
      split_adds_concept t [] c.args.source c.args.tag.now c.args.text.now [] c.requires c.scheme-scheme.result
      c.scheme-scheme.ensures c.add_resource.new.self c.move_listed.new.self
      (c.in_ok-concept.ensures.ok
      ∙ (λ i. vocabulary_after_add (Concept c.scheme-scheme.result (c.in_ok-try_clone.ensures i)
      (c.in_ok-try_clone-2.ensures i)) t.vocab));
  counts = λ hs ok are.
      let t = c.args.self.now in
      let source = c.args.source in
      let tag = c.args.tag.now in
      let text = c.args.text.now in
      let postings = c.args.postings.now in
      let n = c.in_ok-concept.concept in
      let number = c.in_ok-concept.ensures.number in
      let standing = split_standing t hs source tag text postings ok n number in
      let there = split_there t hs source tag text postings ok n number in
      let fits = split_fits t hs source tag text postings ok in
      let at_source = are.standing source in
      let at_target = are.standing n in
      let moves = are.moves in
      let count = c.count_postings.ensures (omega (arith, fits)) in
      split_sums t hs source tag text postings ok n number t.book c.move_listed.new.self are
      (subst (λ (k : ℕ). CountsAfterMoves source n k t.book c.move_listed.new.self) count
      (c.in_ok-move_listed.ensures.ok (subst (λ (k : ℕ). HasRoomForMoves source n k t.book) (sym count)
      (record {
        standing = omega (arith, standing, at_source);
        there = omega (arith, there, at_target);
        moves = omega (arith, fits, moves);
      }))));
}
