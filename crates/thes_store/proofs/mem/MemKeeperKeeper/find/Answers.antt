use Rattle.std.proofs.Common.{◌≡◌, ◌∙◌, ap, sym, subst}
use Rattle.std.specs.Prelude.{slice_get, option_copied}
use Rattle.thes_tables.specs.Tables.{Tables}
use Rattle.thes_tables.proofs.CellLemmas.{listed_one}
use Rattle.thes_store.specs.Covers.{Covers}
use Rattle.thes_store.specs.Reading.{IsPostingOfKey}
use Rattle.thes_store.proofs.mem.MemKeeperKeeper.find.Goals as goal

pub returns-clause-ok : goal.returns-clause-ok
returns-clause-ok c = λ up t same.
    let key = c.args.key.now in
    let is = c.self.view_is ∙ listed_one c.args.self.now t same in
    let rows : c.as_slice-rows.result.now ≡ t.posting = c.as_slice-rows.ensures.value ∙ ap (λ (u : Tables). u.posting)
    is in
    let covers = subst (Covers c.self.inside.indexes) is c.self.invariant.0 in
    let found = c.row_of_key.ensures (λ i row at. covers.keys i row (sym (ap (λ rs. slice_get rs i) rows) ∙ at)) in
    subst (IsPostingOfKey key t.posting) (sym c.in_ok-copy_row.ensures)
    (subst (λ rs. IsPostingOfKey key rs (option_copied c.row_of_key.result)) rows found)
