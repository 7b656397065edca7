use Rattle.std.proofs.Common.{◌∙◌, ap}
use Rattle.std.specs.List.{concat}
use Rattle.thes_export.proofs.GatherLemmas.{export_is}
use Rattle.thes_export.proofs.gather.export_text.Goals as goal

pub returns : goal.returns
returns c = λ s holds. export_is c.args.core.now s holds c.in_ok-parts.parts.items c.sort_parts.new.parts.items
    c.in_ok-parts.ensures c.in_ok-sort_parts.ensures _ (c.in_ok-text.ensures ∙ ap concat c.as_slice.ensures.value)
