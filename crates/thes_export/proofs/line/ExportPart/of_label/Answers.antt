use Rattle.thes_export.specs.Topics.{label_triple}
use Rattle.thes_export.proofs.LineLemmas.{made_line}
use Rattle.thes_export.proofs.line.ExportPart.of_label.Goals as goal

pub returns : goal.returns
returns c = made_line (label_triple c.args.core.now c.args.n c.args.label.now) _ _ _ c.in_ok-text.ensures
    c.in_ok-push_label_text.ensures c.in_ok-line.ensures
