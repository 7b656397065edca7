use Rattle.std.proofs.Common.{arith}
use Rattle.sqlite.specs.Held.{state}
use Rattle.thes_jobs.proofs.DatabaseLemmas.{keeps_none}
use Rattle.thes_jobs.proofs.new_store.make_store.Goals as goal

pub returns-in-Ok-clause-keeps : goal.returns-in-Ok-clause-keeps
returns-in-Ok-clause-keeps g c = λ none.
    keeps_none (state g.S.Store c.args.conn.now) (state g.S.Store c.create_tables.new.conn) none (λ up.
    let doubt = (c.create_tables.ensures.crash (none, tt)).clean in
    let clean = up.0 in (omega (arith, doubt, clean), c.create_tables.ensures.own.was up.0 up.1))

pub returns-in-Err-clause-keeps : goal.returns-in-Err-clause-keeps
returns-in-Err-clause-keeps g c = λ none.
    keeps_none (state g.S.Store c.args.conn.now) (state g.S.Store c.create_tables.new.conn) none (λ up.
    let doubt = (c.create_tables.ensures.crash (none, tt)).clean in
    let clean = up.0 in (omega (arith, doubt, clean), c.create_tables.ensures.own.was up.0 up.1))

pub returns-in-Ok-clause-settles : goal.returns-in-Ok-clause-settles
returns-in-Ok-clause-settles g c = λ none. record {
  was = λ up.
      let doubt = (c.create_tables.ensures.crash (none, tt)).clean in
      let clean = up.0 in (omega (arith, doubt, clean), c.create_tables.ensures.own.was up.0 up.1);
  is_settled = λ up was. c.create_tables.ensures.own.settled up.0 up.1 c.requires.idle;
}

pub returns-in-Err-clause-settles : goal.returns-in-Err-clause-settles
returns-in-Err-clause-settles g c = λ none. record {
  was = λ up.
      let doubt = (c.create_tables.ensures.crash (none, tt)).clean in
      let clean = up.0 in (omega (arith, doubt, clean), c.create_tables.ensures.own.was up.0 up.1);
  is_settled = λ up was. c.create_tables.ensures.own.settled up.0 up.1 c.requires.idle;
}
