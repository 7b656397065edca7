use Rattle.std.proofs.Common.{◌≡◌, None, subst}
use Rattle.thes_base.specs.Forms.{IsBase}
use Rattle.thes_tables.specs.Cells.{Raw, cells_of_tables}
use Rattle.thes_tables.specs.Tables.{Tables}
use Rattle.thes_cli.specs.Stores.{storage_in_memory}
use Rattle.thes_cli.specs.Work.{WorksOverKeeper}
use Rattle.thes_cli.proofs.NewStoreLemmas.{works_in_memory}
use Rattle.thes_cli.proofs.stores.work_in_memory.Goals as goal

pub returns : goal.returns
returns g c =
    works_in_memory g.T.PostingFile.Read.remaining g.T.Input.Read.remaining g.T.Output.Write.contents
    g.T.Errors.Write.contents
    (λ (t : Tables). Unit {0}) (λ (t : Tables) (raw : Raw). raw ≡ cells_of_tables t) c.args.job c.args.given.now.streams
    c.work_over_keeper-status.result.0 c.work_over_keeper-status.result.1 c.work_over_keeper-status.new.given.streams
    (subst IsBase c.as_str.ensures.text c.as_str.ensures.form)
    (subst (λ (t : Tables). WorksOverKeeper storage_in_memory (λ (t : Tables). Unit {0})
    (λ (t : Tables) (raw : Raw). raw ≡ cells_of_tables t) g.T.PostingFile.Read.remaining g.T.Input.Read.remaining
    g.T.Output.Write.contents g.T.Errors.Write.contents c.args.job.work None c.args.job.setting.limits t
    c.args.given.now.streams
    c.work_over_keeper-status.result.0 c.work_over_keeper-status.result.1 c.work_over_keeper-status.new.given.streams)
    c.new-keeper.ensures c.work_over_keeper-status.ensures)
