use Rattle.std.proofs.Common.{sym, subst, inr}
use Rattle.std.specs.Prelude.{Result}
use Rattle.thes_base.specs.declared.fault.Fault.{Fault}
use Rattle.thes_load_rows.specs.declared.stage_steps.LoadedParts.{LoadedParts}
use Rattle.thes_load_rows.specs.declared.stage.Stage.{Stage}
use Rattle.thes_load_rows.specs.LoadResults.{LoadResult}
use Rattle.thes_load_rows.specs.Progress.{HasRead}
use Rattle.thes_load_rows.proofs.LoadResultLemmas.{stopped_end}
use Rattle.thes_office.specs.LoaderView.{LoaderView}
use Rattle.thes_office.proofs.LoadedCoreLemmas.{core_is_loaded, parts_legal}
use Rattle.thes_load_rows.proofs.TurnLemmas.{not_stopped}
use Rattle.thes_office.proofs.loader.Loader.finish.Goals as goal

pub of_parts-core-requires-clause-legal : goal.of_parts-core-requires-clause-legal
of_parts-core-requires-clause-legal c =
    parts_legal c.self.inside.stage c.in-Ok.parts c.self.invariant
    (not_stopped c.self.inside.stage c.in_default.not-Stopped)
    (λ raw has. subst (λ (answer : Result LoadedParts Fault). LoadResult raw answer) c.in-Ok.is
    (c.in_ok-parts-in_default.ensures raw has))

pub returns-in-Ok-clause-ok : goal.returns-in-Ok-clause-ok
returns-in-Ok-clause-ok c = λ raw knows.
    core_is_loaded raw c.in-Ok.parts c.of_parts-core.result c.of_parts-core.ensures.holds
    c.of_parts-core.ensures.usable.base_is
    (subst (λ (answer : Result LoadedParts Fault). LoadResult raw answer) c.in-Ok.is
    (c.in_ok-parts-in_default.ensures raw (subst (λ (r : LoaderView). HasRead r.stage raw) (sym c.self.view_is)
    knows)))

pub returns-in-Stopped-clause-err : goal.returns-in-Stopped-clause-err
returns-in-Stopped-clause-err c = inr (λ raw knows.
    stopped_end c.in-Stopped.fault c.in-Stopped.field-1 raw
    (subst (λ (s : Stage). HasRead s raw) c.in-Stopped.is (subst (λ (r : LoaderView). HasRead r.stage raw)
    (sym c.self.view_is) knows)))

pub returns-in-Err-clause-err : goal.returns-in-Err-clause-err
returns-in-Err-clause-err c = inr (λ raw knows.
    subst (λ (answer : Result LoadedParts Fault). LoadResult raw answer) c.in-Err.is
    (c.in_ok-parts-in_default.ensures raw (subst (λ (r : LoaderView). HasRead r.stage raw) (sym c.self.view_is)
    knows)))
