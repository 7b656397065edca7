use Rattle.std.proofs.Common.{subst}
use Rattle.std.specs.Prelude.{Some, string_bytes}
use Rattle.sqlite.specs.Held.{state}
use Rattle.thes_sqlite.specs.Reopening.{ReopeningView, storage_still, IsStillOpen, FindsStill}
use Rattle.thes_jobs.proofs.PreparedLemmas.{serves_files}
use Rattle.thes_cli.specs.Work.{WorksOverKeeper}
use Rattle.thes_cli.proofs.StoreFileLemmas.{works_to_closing}
use Rattle.thes_cli.proofs.stores.work_in_database.Goals as goal

pub returns : goal.returns
returns g c =
    works_to_closing g.D.Engine.Store g.T.PostingFile.Read.remaining g.T.Input.Read.remaining
    g.T.Output.Write.contents g.T.Errors.Write.contents g.D.Databases.is_clean g.D.Databases.holds g.D.Databases.finds
    g.D.Opener.HeldImage.image c.args.job c.args.given.now.streams c.work_over_keeper-status.new.given.streams
    c.work_over_keeper-status.result.0 c.leave.result
    record {
      keeper = c.work_over_keeper-status.result.1;
      works = subst (λ (k : ReopeningView _).
          WorksOverKeeper (storage_still g.D.Engine.Store) (IsStillOpen g.D.Engine.Store)
          (FindsStill g.D.Engine.Store) g.T.PostingFile.Read.remaining
          g.T.Input.Read.remaining g.T.Output.Write.contents g.T.Errors.Write.contents
          c.args.job.work (Some (string_bytes c.args.job.file)) c.args.job.setting.limits k
          c.args.given.now.streams c.work_over_keeper-status.result.0 c.work_over_keeper-status.result.1
          c.work_over_keeper-status.new.given.streams) c.new-keeper.ensures c.work_over_keeper-status.ensures;
      back_is = c.leave.ensures.first;
      returns = c.leave.ensures.returns;
      loses = c.leave.ensures.lost;
      certain = c.leave.ensures.certain;
      doubt = c.leave.ensures.doubt;
    }
    c.requires.ready.serves c.close_left.result c.close_left.ensures

pub new-keeper-requires-clause-of_files : goal.new-keeper-requires-clause-of_files
new-keeper-requires-clause-of_files g c =
    serves_files g.D.Opener.HeldImage.image c.args.job.setting.base (state g.D.Engine.Store c.args.job.conn)
    c.requires.ready.serves
