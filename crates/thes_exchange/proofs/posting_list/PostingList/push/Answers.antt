use Rattle.std.proofs.Common.{◌≡◌, ap, false}
use Rattle.serde_json.specs.View.{view}
use Rattle.serde_json.specs.Written.{has_float}
use Rattle.thes_exchange.proofs.PostingListLemmas.{no_float_after_push}
use Rattle.thes_exchange.proofs.posting_list.PostingList.push.Goals as goal

pub invariant_of-self : goal.invariant_of-self
invariant_of-self c = record {
  no_float =
      let none : has_float (view c.in_ok-row.row) ≡ false = ap has_float c.in_ok-row.ensures in
      no_float_after_push _ c.args.self.now.rows.items c.push.new.self.items c.in_ok-row.row c.args.self.now.no_float
      none c.push.ensures.items;
}
