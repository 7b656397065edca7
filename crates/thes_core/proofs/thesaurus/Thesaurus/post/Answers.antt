use Rattle.std.proofs.Common.{subst, refl, arith, ℕ}
use Rattle.std.proofs.lemmas.List.Sums.{count_by-le-length}
use Rattle.thes_base.specs.Resources.{replacements}
use Rattle.thes_base.specs.Postings.{is_assigned_to}
use Rattle.thes_post.specs.PostingCounts.{CountsAfterPost, HasRoomForPost}
use Rattle.thes_post.proofs.PostingCountLemmas.{sums_posted}
use Rattle.thes_core.proofs.ApplyLemmas.{parts_become_state, post_fits, post_more}
use Rattle.thes_core.proofs.thesaurus.Thesaurus.post.Goals as goal

pub returns : goal.returns
returns c = λ key rec. record {
  becomes = parts_become_state refl refl refl refl refl c.requires.outside;
  counts = λ hs ok are.
      let t = c.args.self.now in
      let concept = c.args.concept in
      let way = replacements t.vocab.resources concept in
      let place = c.forwarding-way.result.place in
      let more = post_more t hs key rec concept ok in
      let fits = post_fits t hs key rec concept ok in
      let here = are.standing place in
      let most = count_by-le-length (is_assigned_to place) hs in
      let all = are.accepted in
      let moves = are.moves in
      let steps = c.forwarding-way.ensures.steps in
      let takes : HasRoomForPost place c.forwarding-way.result.steps t.book =
      record {
        here = omega (arith, more, here, most);
        accepted = omega (arith, more, all);
        moves = omega (arith, fits, steps, moves);
      } in
      let one = subst (λ (p : ℕ × ℕ). CountsAfterPost p.0 p.1 t.book c.post.new.self)
      (λ i. (c.forwarding-way.ensures.place i, steps i)) (c.in_ok-post.ensures.ok takes) in
      sums_posted hs key rec concept way t.book c.post.new.self are one;
}
