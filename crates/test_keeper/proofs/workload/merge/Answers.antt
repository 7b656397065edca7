use Rattle.std.proofs.Common.{◌∙◌, sym, ap}
use Rattle.thes_tables.specs.Tables.{Tables}
use Rattle.thes_tables.proofs.CellLemmas.{listed_one}
use Rattle.test_keeper.proofs.workload.merge.Goals as goal

pub commit-requires : goal.commit-requires
commit-requires g c = record {
  fits = λ up t same.
      let held = c.requires up in
      let is = listed_one held.tables t (sym held.raw_is_listed ∙ same) in
      c.in_ok-delta.ensures t (sym (ap (λ (u : Tables). u.move) is) ∙ held.has_no_moves);
}
