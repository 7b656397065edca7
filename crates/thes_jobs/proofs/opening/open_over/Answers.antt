use Rattle.std.proofs.Common.{is_some, refl}
use Rattle.thes_jobs.specs.Opening.{lost, unprepared}
use Rattle.thes_jobs.proofs.DatabaseLemmas.{opened_serves, opened_serves_old}
use Rattle.thes_jobs.proofs.PreparedLemmas.{is_prepared, prepared_serves, prepared_serves_old, serves_held}
use Rattle.thes_jobs.proofs.OpeningLemmas.{migrates}
use Rattle.thes_jobs.proofs.opening.open_over.Goals as goal

-- The file or socket of the task couldn't be opened: the connection is returned as it was opened.
pub returns-in-Err-clause-opens : goal.returns-in-Err-clause-opens
returns-in-Err-clause-opens g c = rw c.failed_over.ensures (
  (is_some c.screen_of-progress.result, c.in-Err.ensures),
  (c.args.store, c.requires.opens, c.requires.opened, refl),
  refl,
)

pub returns-in-Err-clause-serves : goal.returns-in-Err-clause-serves
returns-in-Err-clause-serves g c = rw c.failed_over.ensures (
  opened_serves g.D.Engine.Store g.D.Opener.HeldImage.image c.args.store.conn c.requires.opened,
  opened_serves_old g.D.Engine.Store g.D.Opener.HeldImage.image c.args.store.conn c.requires.opened,
)

-- The store couldn't be prepared.
pub returns-in-Err-prepare_store-clause-opens : goal.returns-in-Err-prepare_store-clause-opens
returns-in-Err-prepare_store-clause-opens g c = rw c.failed_over-in-Err-prepare_store.ensures (
  refl,
  unprepared c.args.store c.requires.opens c.requires.opened c.prepare_store.new.store.conn refl refl
      c.in-Err-prepare_store.ensures.prepares,
)

pub returns-in-Err-prepare_store-clause-serves : goal.returns-in-Err-prepare_store-clause-serves
returns-in-Err-prepare_store-clause-serves g c = rw c.failed_over-in-Err-prepare_store.ensures
    (serves_held g.D.Engine.Store g.D.Opener.HeldImage.image c.args.store.opening c.args.job.setting.base _
    c.args.store.conn c.prepare_store.new.store.conn c.requires.opened c.in-Err-prepare_store.ensures.prepares
    c.prepare_store.ensures.keeps c.prepare_store.ensures.settles)

-- The file's full path wasn't found.
pub returns-in-Err-reopener-clause-opens : goal.returns-in-Err-reopener-clause-opens
returns-in-Err-reopener-clause-opens g c = rw c.failed_over-in-Err-reopener.ensures (
  refl,
  lost refl c.in-Err-reopener.ensures c.prepare_store.new.store.conn refl refl
      (is_prepared g.D.Engine.Store g.D.Opener.HeldImage.image c.args.job.setting c.args.store
      c.prepare_store.new.store.conn c.requires.opens c.requires.opened c.in-Ok-prepare_store.ensures.prepares
      c.prepare_store.ensures.idle c.prepare_store.ensures.keeps c.prepare_store.ensures.settles),
)

pub returns-in-Err-reopener-clause-serves : goal.returns-in-Err-reopener-clause-serves
returns-in-Err-reopener-clause-serves g c = rw c.failed_over-in-Err-reopener.ensures
    (serves_held g.D.Engine.Store g.D.Opener.HeldImage.image c.args.store.opening c.args.job.setting.base _
    c.args.store.conn c.prepare_store.new.store.conn c.requires.opened c.in-Ok-prepare_store.ensures.prepares
    c.prepare_store.ensures.keeps c.prepare_store.ensures.settles)

pub returns-in-Some-clause-opens : goal.returns-in-Some-clause-opens
returns-in-Some-clause-opens g c = rw c.into_connection-conn.ensures (record {
  does = rw c.in-Some.is at c.in-Ok.ensures;
  file = refl;
  setting = refl;
  connects = is_prepared g.D.Engine.Store g.D.Opener.HeldImage.image c.args.job.setting c.args.store
      c.prepare_store.new.store.conn c.requires.opens c.requires.opened c.in-Ok-prepare_store.ensures.prepares
      c.prepare_store.ensures.idle c.prepare_store.ensures.keeps c.prepare_store.ensures.settles;
  listens = c.screen_of-progress.ensures;
})

pub returns-clause-opens : goal.returns-clause-opens
returns-clause-opens g c = rw c.into_connection-conn.ensures (
  migrates _ _ c.args.job.task (is_some c.screen_of-progress.result) (rw c.in-None.is at c.in-Ok.ensures),
  refl,
  is_prepared g.D.Engine.Store g.D.Opener.HeldImage.image c.args.job.setting c.args.store
      c.prepare_store.new.store.conn c.requires.opens c.requires.opened c.in-Ok-prepare_store.ensures.prepares
      c.prepare_store.ensures.idle c.prepare_store.ensures.keeps c.prepare_store.ensures.settles,
)

pub returns-in-Some-clause-ready : goal.returns-in-Some-clause-ready
returns-in-Some-clause-ready g c = rw c.into_connection-conn.ensures (record {
  idle = c.prepare_store.ensures.idle;
  serves = prepared_serves g.D.Engine.Store g.D.Opener.HeldImage.image c.args.store.opening
      c.args.job.setting.base c.args.store.conn c.prepare_store.new.store.conn
      c.requires.opened c.in-Ok-prepare_store.ensures.prepares c.prepare_store.ensures.keeps
      c.prepare_store.ensures.settles;
})

pub returns-clause-ready : goal.returns-clause-ready
returns-clause-ready g c = rw c.into_connection-conn.ensures (
  c.prepare_store.ensures.idle,
  prepared_serves_old g.D.Engine.Store g.D.Opener.HeldImage.image c.args.store.opening c.args.job.setting.base _
      c.args.store.conn c.prepare_store.new.store.conn c.requires.opened c.in-Ok-prepare_store.ensures.prepares
      c.prepare_store.ensures.settles,
)
