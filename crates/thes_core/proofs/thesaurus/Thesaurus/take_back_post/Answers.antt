use Rattle.std.proofs.Common.{subst, sym, ℕ}
use Rattle.thes_base.specs.Resources.{replacements}
use Rattle.thes_post.specs.PostingCounts.{CountsAfterPost, HasPostToTakeBack}
use Rattle.thes_post.proofs.PostingCountLemmas.{post_counted, sums_before_post}
use Rattle.thes_core.proofs.thesaurus.Thesaurus.take_back_post.Goals as goal

pub returns-clause-counts : goal.returns-clause-counts
returns-clause-counts c = λ key rec histories counts.
    let t = c.args.self.now in
    let way = replacements t.vocab.resources c.args.concept in
    let place = c.forwarding-way.ensures.place in
    let steps = c.forwarding-way.ensures.steps in
    let has = post_counted histories key rec c.args.concept way t.book counts in
    let one = c.take_back_post.ensures.counted
    (subst (λ (p : ℕ × ℕ). HasPostToTakeBack p.0 p.1 t.book) (λ i. (sym place i, sym steps i)) has) in
    sums_before_post histories key rec c.args.concept way t.book c.take_back_post.new.self counts
    (subst (λ (p : ℕ × ℕ). CountsAfterPost p.0 p.1 c.take_back_post.new.self t.book) (λ i. (place i, steps i)) one)
