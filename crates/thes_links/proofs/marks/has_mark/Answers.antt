use Rattle.std.proofs.Common.{ap, ◌∙◌}
use Rattle.thes_links.specs.NodeSet.{mark_at}
use Rattle.thes_links.proofs.WordLemmas.{tested_one}
use Rattle.thes_links.proofs.marks.has_mark.Goals as goal

pub returns : goal.returns
returns c = tested_one c.has_bit.result _ c.has_bit.ensures ∙ ap (mark_at c.args.marks.now) c.get-number.ensures.value
