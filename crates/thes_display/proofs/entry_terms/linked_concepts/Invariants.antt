use Rattle.std.specs.Ordering.{nat_cmp}
use Rattle.thes_display.specs.EntryTerms.{IsLinkedOnSide}
use Rattle.thes_display.proofs.ListingLemmas.{IsChosen}
use Rattle.thes_display.proofs.entry_terms.linked_concepts.Given as goal

abbrev pub invariant-loop-m : goal.invariant-loop-m
invariant-loop-m l = IsChosen nat_cmp l.m-items (IsLinkedOnSide l.core.links l.side l.kind l.sides.concept) l.m-index
    l.found.items
