use Rattle.std.proofs.Common.{subst, sym}
use Rattle.std.proofs.lemmas.List.Sorted.{IsPermutation-sym}
use Rattle.thes_post.specs.Rising.{RisesFrom}
use Rattle.thes_post.proofs.OnceLemmas.{rises_sorted, once_of_rises, once_permutation}
use Rattle.thes_post.proofs.rising.is_each_once.Goals as goal

pub returns : goal.returns
returns c =
    let ordered = c.in_ok-sorted_numbers.field-0.items in
    let kept = c.in_ok-sorted_numbers.ensures.permutation in (
      λ once. once_permutation ordered c.args.numbers.now (IsPermutation-sym c.args.numbers.now ordered kept)
          (once_of_rises 0 ordered (subst (RisesFrom 0) c.as_slice.ensures.value (c.is_rising.ensures.0 once))),
      λ once. c.is_rising.ensures.1 (subst (RisesFrom 0) (sym c.as_slice.ensures.value)
          (rises_sorted c.args.numbers.now ordered kept c.in_ok-sorted_numbers.ensures.in_order once)),
    )
