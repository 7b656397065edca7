use Rattle.std.proofs.lemmas.Grind.{common_steps}
use Rattle.std.proofs.Common.{◌∙◌, ◌++◌, ◌∷◌, [], List, ap, subst, sym, take, arith}
use Rattle.std.proofs.lemmas.List.{take_all, take_more}
use Rattle.thes_core.specs.CoreView.{with_histories}
use Rattle.thes_base.specs.Listing.{IsListing}
use Rattle.thes_display.specs.declared.heading.Heading.{Heading}
use Rattle.thes_display.specs.Alphabetical.{IsEntry, IsHeading, heading_cmp}
use Rattle.thes_display.specs.HeadingIndex.{ArePlaces}
use Rattle.thes_display.specs.HierarchyParts.{rank_at}
use Rattle.thes_display.proofs.BareStateLemmas.{alphabetical_held}
use Rattle.thes_display.proofs.TextAppendLemmas.{texts_more_at}
use Rattle.thes_display.proofs.entry.alphabetical_text.Goals as goal

pub loop-heading-preserved : goal.loop-heading-preserved
loop-heading-preserved c =
    let xs = c.deref-heading-items.result.now in
    let i = c.loop-heading.heading-index in
    texts_more_at (IsEntry (with_histories [] c.args.core.now) c.args.tag.now) _ _ c.heading-item.result _ _
    c.loop-heading.invariant c.in_ok-write_entry.ensures (take_more xs i c.heading-item.result (omega arith)
    ∙ ap (λ z. take i xs ++ z ∷ []) (sym c.heading-item.is))

pub returns : goal.returns
returns c = grind (
  arith,
  common_steps,
  alphabetical_held,
  take_all,
  c.deref-heading-items.ensures.value,
  c.in_ok-headings.ensures,
  c.loop-heading.invariant,
)

pub write_entry-requires : goal.write_entry-requires
write_entry-requires c =
    let same = sym c.in_ok-index.ensures.headings in
    let listed = subst (λ (hs : List Heading). IsListing heading_cmp
    (IsHeading (with_histories [] c.args.core.now) c.args.tag.now c.args.scheme) hs) same c.in_ok-headings.ensures in
    record {
      unspent = c.requires;
      index = record {
        rises = listed.rises;
        texts = λ h i. (listed.sound h i).1;
        places = subst (λ (hs : List Heading). ArePlaces hs (rank_at c.in_ok-index.index.places.items)) same
            c.in_ok-index.ensures.places;
      };
    }
