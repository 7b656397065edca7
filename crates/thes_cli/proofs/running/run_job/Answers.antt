use Rattle.thes_cli.proofs.JobFileLemmas.{leads_by_migration, leads_by_work, leads_without_files, leads_without_work}
use Rattle.thes_cli.proofs.running.run_job.Goals as goal

pub returns-in-Ok-InFile-clause-leads : goal.returns-in-Ok-InFile-clause-leads
returns-in-Ok-InFile-clause-leads g c =
    leads_by_work g.D.Engine.Store g.D.Opener.HeldImage.image g.C.Errors.Write.contents
    g.D.Databases.is_clean g.D.Databases.holds g.D.Databases.finds g.D.Databases.keeps _ g.C.Input.Read.remaining
    g.C.Output.Write.contents c.args.planned c.args.given.now.streams
    c.work_in_database.new.given.streams c.work_in_database.result.0 c.in-Ok-InFile.job
    c.work_in_database.result.1
    (rw c.in-Ok-InFile.field-0-is at c.in-Ok-InFile.ensures.opens) c.work_in_database.ensures

pub returns-in-Ok-InMemory-clause-leads : goal.returns-in-Ok-InMemory-clause-leads
returns-in-Ok-InMemory-clause-leads g c =
    leads_without_files g.D.Engine.Store g.D.Opener.HeldImage.image g.C.Errors.Write.contents
    g.D.Databases.is_clean g.D.Databases.holds g.D.Databases.finds g.D.Databases.keeps
    c.args.planned c.args.given.now.streams.errors
    c.work_in_memory.new.given.streams.errors c.work_in_memory.result c.without_files.result c.without_files.ensures

pub returns-in-Ok-Migration-clause-leads : goal.returns-in-Ok-Migration-clause-leads
returns-in-Ok-Migration-clause-leads g c =
    leads_by_migration g.D.Engine.Store g.D.Opener.HeldImage.image g.C.Errors.Write.contents
    g.D.Databases.is_clean g.D.Databases.holds g.D.Databases.finds g.D.Databases.keeps g.row.D-Opener.Denot
    g.C.Output.Write.contents c.args.planned c.args.given.now.streams
    c.migrate.new.given.streams c.migrate.result.0 c.in-Ok-Migration.file c.in-Ok-Migration.conn
    c.migrate.result.1
    (rw c.in-Ok-Migration.field-0-is at c.in-Ok-Migration.ensures.opens)
    (rw c.in-Ok-Migration.field-0-is at c.in-Ok-Migration.ensures.ready).1 c.migrate.ensures

pub returns-in-Ok-Version-clause-leads : goal.returns-in-Ok-Version-clause-leads
returns-in-Ok-Version-clause-leads g c =
    leads_without_files g.D.Engine.Store g.D.Opener.HeldImage.image g.C.Errors.Write.contents
    g.D.Databases.is_clean g.D.Databases.holds g.D.Databases.finds g.D.Databases.keeps
    c.args.planned c.args.given.now.streams.errors _ _
    c.without_files-in-Ok-Version.result c.without_files-in-Ok-Version.ensures

pub returns-in-Err-clause-leads : goal.returns-in-Err-clause-leads
returns-in-Err-clause-leads g c =
    leads_without_work g.D.Engine.Store g.D.Opener.HeldImage.image g.C.Errors.Write.contents
    g.D.Databases.is_clean g.D.Databases.holds g.D.Databases.finds g.D.Databases.keeps g.row.D-Opener.Denot
    g.C.Output.Write.contents c.args.planned c.args.given.now.streams
    c.report_no_job.new.given.streams c.report_no_job.result.0 c.in-Err.failed c.report_no_job.result.1
    c.in-Err.ensures.opens c.in-Err.ensures.serves c.report_no_job.ensures.reports c.report_no_job.ensures.closes
