use Rattle.std.proofs.Common.{subst}
use Rattle.std.specs.Prelude.{IfOk}
use Rattle.std.specs.Ordering.{nat_cmp}
use Rattle.thes_base.specs.Listing.{IsListing}
use Rattle.thes_base.specs.Views.{HasBroader}
use Rattle.thes_core.specs.CoreView.{CoreView}
use Rattle.thes_core.proofs.machine.Core.broader_of.Goals as goal

pub returns : goal.returns
returns c =
    subst (λ (k : CoreView). IfOk c.broader_of.result (λ found. IsListing nat_cmp (HasBroader k.links c.args.n)
    found.items)) c.self.view_is c.broader_of.ensures
