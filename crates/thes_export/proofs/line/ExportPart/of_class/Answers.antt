use Rattle.std.proofs.Common.{◌∙◌, ◌++◌, ap, ℕ, List}
use Rattle.thes_export.specs.Topics.{class_triple}
use Rattle.thes_export.specs.Spelling.{iri_spelling}
use Rattle.thes_export.proofs.LineLemmas.{made_line}
use Rattle.thes_export.proofs.line.ExportPart.of_class.Goals as goal

pub returns : goal.returns
returns c = made_line (class_triple c.args.core.now c.args.n c.args.class) _ _ _ c.in_ok-text.ensures
    (c.in_ok-push_iri.ensures ∙ ap (λ (x : List ℕ). c.in_ok-text.text.items ++ iri_spelling x) c.class_text.ensures)
    c.in_ok-line.ensures
