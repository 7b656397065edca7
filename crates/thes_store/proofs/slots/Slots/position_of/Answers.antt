use Rattle.std.proofs.Common.{arith, ◌≡◌, ◌∙◌, ◌≤◌, get_or, ap, length, sym, subst, rules}
use Rattle.std.proofs.lemmas.Grind.{common_steps}
use Rattle.std.proofs.lemmas.List.{take_all}
use Rattle.thes_tables.specs.Tables.{IsIn}
use Rattle.thes_store.specs.PositionLists.{listed_positions}
use Rattle.thes_store.proofs.IndexPositionLemmas.{in_take}
use Rattle.thes_store.proofs.SlotLemmas.{none_there}
use Rattle.thes_store.proofs.slots.Slots.position_of.Goals as goal

pub loop-position-preserved : goal.loop-position-preserved
loop-position-preserved g c =
    let positions = listed_positions c.args.self.now.index (g.T.IndexedRow.number_of c.args.row.now) in
    let i = c.loop-position.position-index in
    λ position h. let m = in_take positions i (get_or positions i 0) position (search rules) (search rules) h in
    grind (arith, common_steps)

pub returns-clause-none : goal.returns-clause-none
returns-clause-none g c = λ found.
    let s = c.args.self.now in
    let positions = listed_positions s.index (g.T.IndexedRow.number_of c.args.row.now) in
    let same : c.positions-position-items.result.now ≡ positions =
    c.positions-position-items.ensures ∙ ap (listed_positions s.index) c.index_number.ensures in
    let all = take_all c.loop-position.position-index positions (subst (λ l. length l ≤ c.loop-position.position-index)
    same
    c.loop-position-test.false) in
    none_there g.T.IndexedRow.same c.args.row.now g.T.IndexedRow.number_of g.met.T.IndexedRow.agree s found
    (λ position h. c.loop-position.invariant position (subst (IsIn position) (sym all) h))
