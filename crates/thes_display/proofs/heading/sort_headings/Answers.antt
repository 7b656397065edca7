use Rattle.std.proofs.Common.{rules, is_lt}
use Rattle.std.proofs.lemmas.List.Sorted.{ranks_by, answers_always}
use Rattle.thes_display.specs.Alphabetical.{heading_cmp}
use Rattle.thes_display.specs.declared.heading.Heading.{Heading}
use Rattle.thes_display.proofs.HeadingLemmas.{heading_total}
use Rattle.thes_display.proofs.heading.sort_headings.Goals as goal

pub returns-clause-sorted : goal.returns-clause-sorted
returns-clause-sorted c = c.in_ok-sort_by.ensures.sorted (λ x y. is_lt (heading_cmp x y))
    (ranks_by heading_total (λ (x : Heading). x)) (answers_always _ _ _ (λ f a r g h. search rules))
