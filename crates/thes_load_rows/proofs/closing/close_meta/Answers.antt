use Rattle.std.proofs.Common.{◌≡◌, Option, Some, sym, subst, rules}
use Rattle.thes_load_rows.specs.declared.meta.MetaRow.{MetaRow}
use Rattle.thes_load_rows.specs.declared.meta.MetaRow.TheVariants.{Base}
use Rattle.thes_load_rows.specs.declared.stage.Stage.TheVariants as stage
use Rattle.thes_load_rows.specs.Progress.{Closes}
use Rattle.thes_load_rows.proofs.StageCloseLemmas.{meta_base}
use Rattle.thes_load_rows.proofs.closing.close_meta.Goals as goal

pub returns-in-Some-Base : goal.returns-in-Some-Base
returns-in-Some-Base c =
    let at : c.args.row ≡ Some (Base c.in-Some-Base.base) = search rules in
    subst (λ (row : Option MetaRow). Closes (stage.Meta row) (stage.Resource c.in-Some-Base.base c.new.result))
    (sym at) (meta_base c.in-Some-Base.base c.new.result c.new.ensures)
