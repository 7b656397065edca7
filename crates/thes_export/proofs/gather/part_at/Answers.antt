use Rattle.std.proofs.Common.{◌∙◌, ◌+◌, ap, subst, List, ℕ}
use Rattle.std.specs.List.{concat}
use Rattle.thes_export.specs.Topics.{Adds, IsLineOf, IsResourceTriple}
use Rattle.thes_export.proofs.GatherLemmas.{part_is}
use Rattle.thes_export.proofs.gather.part_at.Goals as goal

pub returns : goal.returns
returns c = part_is c.args.core.now (c.args.i + 1) c.push_at.new.lines.items c.sort_parts.new.parts.items _
    (subst (λ (old : List (List ℕ)). Adds (IsLineOf (IsResourceTriple c.args.core.now (c.args.i + 1))) old
    c.push_at.new.lines.items) c.new-lines.ensures.items c.in_ok-push_at.ensures) c.in_ok-sort_parts.ensures
    (c.of_lines.ensures ∙ c.in_ok-text.ensures ∙ ap concat c.as_slice.ensures.value)
