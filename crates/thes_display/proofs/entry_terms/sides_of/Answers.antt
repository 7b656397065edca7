use Rattle.std.specs.Ordering.{nat_cmp}
use Rattle.thes_base.specs.Links.{Links}
use Rattle.thes_base.specs.Listing.{IsListing}
use Rattle.thes_display.specs.declared.entry_terms.Side.{Side}
use Rattle.thes_display.specs.declared.entry_terms.Side.TheVariants.{Broader, Narrower}
use Rattle.thes_display.specs.declared.entry_terms.Sides.{Sides}
use Rattle.thes_display.specs.EntryTerms.{IsOnSide, concepts_on}
use Rattle.thes_display.proofs.entry_terms.sides_of.Goals as goal

on_both : (links : Links) (sides : Sides) → IsListing nat_cmp (IsOnSide links Broader sides.concept) sides.broader.items
    → IsListing nat_cmp (IsOnSide links Narrower sides.concept) sides.narrower.items
    → (side : Side) → IsListing nat_cmp (IsOnSide links side sides.concept) (concepts_on sides side)
on_both links sides up down Broader = up
on_both links sides up down Narrower = down

pub returns-clause-sides : goal.returns-clause-sides
returns-clause-sides c =
    let sides : Sides = record {
      concept = c.args.n;
      broader = c.in_ok-broader_of.field-0;
      narrower = c.in_ok-narrower_of.field-0;
      associates = c.in_ok-related_of.field-0;
      is_typed = c.in_ok-has_typed_link.field-0;
    } in
    record {
      each_side = on_both c.args.core.now.links sides c.in_ok-broader_of.ensures c.in_ok-narrower_of.ensures;
      each_associate = c.in_ok-related_of.ensures;
      no_typed_link = c.in_ok-has_typed_link.ensures;
    }
