use Rattle.std.proofs.lemmas.Grind.{common_steps}
use Rattle.std.proofs.Common.{arith, take-append-drop}
use Rattle.thes_office.proofs.OfficeViewLemmas.{run_starts, run_continues, run_completes, run_stops}
use Rattle.thes_office.proofs.office.Office.run.Goals as goal

pub groups-init : goal.groups-init
groups-init g c =
    run_starts g.K.Keeper.view c.self.inside.keeper c.self.inside.core
    c.self.inside.limits c.self.inside.stale c.args.self.now c.args.commands.now c.args.answers.now.items
    c.self.invariant c.self.view_is

pub run_prefix-requires : goal.run_prefix-requires
run_prefix-requires g c = grind (arith)

pub groups-preserved : goal.groups-preserved
groups-preserved g c = grind (arith, run_continues, take-append-drop)

pub returns-in-Err-clause-ran : goal.returns-in-Err-clause-ran
returns-in-Err-clause-ran g c = grind (arith, run_stops)

pub returns-clause-ran : goal.returns-clause-ran
returns-clause-ran g c = grind (arith, common_steps, run_completes)
