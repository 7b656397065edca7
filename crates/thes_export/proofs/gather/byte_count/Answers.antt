use Rattle.std.proofs.Common.{◌≡◌, ◌∙◌, ◌+◌, ◌-◌, ◌^◌, List, ℕ, ap, length, min, rules, take_all}
use Rattle.std.specs.List.{concat}
use Rattle.thes_export.proofs.GatherLemmas.{counted_more}
use Rattle.thes_export.proofs.gather.byte_count.Goals as goal

pub loop-part-preserved : goal.loop-part-preserved
loop-part-preserved c =
    let size : length c.as_bytes.result.now ≡ length c.part-item.result = search rules in
    counted_more c.args.parts.now c.loop-part.part-index c.part-item.result c.loop-part.count _ c.loop-part-test.true
    c.part-item.is c.loop-part.invariant
    (c.saturating_add-count.ensures ∙ ap (λ n. min (c.loop-part.count + n) (2 ^ 64 - 1)) size)

pub returns : goal.returns
returns c = c.loop-part.invariant
    ∙ ap (λ (l : List (List ℕ)). min (length (concat l)) (2 ^ 64 - 1))
    (take_all c.loop-part.part-index c.args.parts.now c.loop-part-test.false)
