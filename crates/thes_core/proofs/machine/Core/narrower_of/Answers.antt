use Rattle.std.proofs.Common.{ℕ, subst}
use Rattle.std.specs.Prelude.{IfOk}
use Rattle.std.specs.Ordering.{nat_cmp}
use Rattle.thes_base.specs.Listing.{IsListing}
use Rattle.thes_base.specs.Views.{HasBroader}
use Rattle.thes_core.specs.CoreView.{CoreView}
use Rattle.thes_core.proofs.machine.Core.narrower_of.Goals as goal

pub returns : goal.returns
returns c =
    subst (λ (k : CoreView). IfOk c.narrower_of.result
    (λ found. IsListing nat_cmp (λ (a : ℕ). HasBroader k.links a c.args.n) found.items)) c.self.view_is
    c.narrower_of.ensures
