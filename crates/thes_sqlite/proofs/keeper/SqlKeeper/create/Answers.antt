use Rattle.std.proofs.Common.{refl, subst, sym}
use Rattle.sqlite.specs.Held.{state}
use Rattle.thes_tables.specs.Tables.{empty_tables}
use Rattle.thes_sqlite.specs.KeeperView.{IsNewKeeper}
use Rattle.thes_sqlite.proofs.KeeperLemmas.{raw_of}
use Rattle.thes_sqlite.proofs.keeper.SqlKeeper.create.Goals as goal

pub returns-in-Ok-clause-made : goal.returns-in-Ok-clause-made
returns-in-Ok-clause-made g c = λ empty.
    let own = c.in-Ok.ensures.own in
    let done = own.begins c.requires.idle in
    subst (IsNewKeeper g.S.Store c.args.base.now) (sym c.adopt.ensures.is) (record {
      rows = λ up. raw_of (state g.S.Store c.create_tables.new.conn).now.trees (empty_tables c.args.base.now)
          (c.in-Ok.ensures.all up.0 done empty).1.keeps.hold;
      store = λ up. record {
        settled = own.settled up.0 up.1 c.requires.idle;
        keeps = (empty_tables c.args.base.now, (c.in-Ok.ensures.all up.0 done empty).1.keeps);
      };
      schema = λ up. (c.in-Ok.ensures.all up.0 done empty).1.schema_is;
      failures = refl;
    })
