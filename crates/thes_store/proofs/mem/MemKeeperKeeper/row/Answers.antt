use Rattle.std.proofs.Common.{◌≡◌, ◌∙◌, ◌-◌, ◌≤◌, ap, sym, rules}
use Rattle.std.specs.Prelude.{slice_get}
use Rattle.thes_base.specs.Resources.{entry_at}
use Rattle.thes_base.proofs.NumberedLemmas.{numbered_at}
use Rattle.thes_tables.specs.Tables.{Tables}
use Rattle.thes_tables.proofs.CellLemmas.{listed_one}
use Rattle.thes_store.proofs.mem.MemKeeperKeeper.row.Goals as goal

pub returns-clause-ok : goal.returns-clause-ok
returns-clause-ok c = λ up t same.
    let rows = c.self.inside.tables.posting.items in
    let number = c.args.number in
    let least : 1 ≤ number = search rules in
    let found : c.in_ok-copy_row.field-0 ≡ slice_get rows (number - 1) = search rules in
    found ∙ sym (numbered_at rows number least)
    ∙ ap (λ (u : Tables). entry_at u.posting number) (c.self.view_is ∙ listed_one c.args.self.now t same)
