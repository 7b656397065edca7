use Rattle.std.proofs.Common.{◌≡◌, ◌∙◌, ap, sym, subst, [], List, ℕ, OnOk}
use Rattle.std.specs.Ordering.{nat_cmp}
use Rattle.thes_base.specs.declared.data.LinkKind.{LinkKind}
use Rattle.thes_base.specs.Links.{Links}
use Rattle.thes_base.specs.Listing.{IsListing}
use Rattle.thes_base.specs.State.{State}
use Rattle.thes_core.specs.CoreView.{with_histories}
use Rattle.thes_display.specs.Alphabetical.{hierarchy_kind}
use Rattle.thes_display.specs.EntrySource.{AreSourceLines}
use Rattle.thes_display.specs.EntryTerms.{AreLinkedUnder, HasNoTypedLink, IsLinkedOnSide, IsOnSide, symbol_on}
use Rattle.thes_display.specs.TextAppends.{AppendsText}
use Rattle.thes_display.specs.declared.entry_terms.Side.{Side}
use Rattle.thes_display.specs.declared.symbol.Hierarchy.{Hierarchy}
use Rattle.thes_display.specs.declared.symbol.Hierarchy.TheVariants as hier
use Rattle.thes_display.specs.declared.symbol.Symbol.{Symbol}
use Rattle.thes_display.proofs.SymbolLineLemmas.{linked_on_side, no_lines, untyped_on_side}
use Rattle.thes_display.proofs.entry.write_side.Goals as goal

typed_under : (links : Links) (side : Side) (type : Hierarchy) (n : ℕ) (z : Symbol) (kind : LinkKind) (ms ns : List ℕ)
    → z ≡ symbol_on side type → kind ≡ hierarchy_kind type → ns ≡ ms
    → IsListing nat_cmp (IsLinkedOnSide links side kind n) ms → AreLinkedUnder links n z ns
typed_under links side type n z kind ms ns e k v l =
    subst (λ y. AreLinkedUnder links n y ns) (sym e)
    (linked_on_side links side type n ns
    (subst (IsListing nat_cmp (IsLinkedOnSide links side (hierarchy_kind type) n)) (sym v)
    (subst (λ x. IsListing nat_cmp (IsLinkedOnSide links side x n) ms) k l)))

untyped_under : (s : State) (tag : List ℕ) (side : Side) (type : Hierarchy) (n : ℕ) (z : Symbol) (ms ns : List ℕ)
    → HasNoTypedLink s.links n → z ≡ symbol_on side type → type ≡ hier.Untyped → ns ≡ ms
    → IsListing nat_cmp (IsOnSide s.links side n) ms → AreLinkedUnder s.links n z ns
untyped_under s tag side type n z ms ns none e t v l =
    subst (λ y. AreLinkedUnder s.links n y ns) (sym (e ∙ ap (symbol_on side) t))
    (untyped_on_side s tag n none side ns (subst (IsListing nat_cmp (IsOnSide s.links side n)) (sym v) l))

pub write_concepts-requires-clause-linked : goal.write_concepts-requires-clause-linked
write_concepts-requires-clause-linked c = (
  c.args.sides.now.concept,
  typed_under c.args.source.now.core.now.links c.args.side c.args.hierarchy c.args.sides.now.concept _ _ _ _
      c.symbol-symbol.ensures c.kind-kind.ensures.kind c.as_slice.ensures.value c.in_ok-found.ensures,
)

pub returns-then-sides : goal.returns-then-sides
returns-then-sides c =
    let n = c.args.sides.now.concept in
    subst (λ z. OnOk c.write_concepts.result (AppendsText (AreSourceLines c.args.source.now n z) c.args.text.now.items
    c.write_concepts.new.text.items)) c.symbol-symbol.ensures
    (c.write_concepts.ensures n (typed_under c.args.source.now.core.now.links c.args.side c.args.hierarchy n _ _ _ _
    c.symbol-symbol.ensures c.kind-kind.ensures.kind c.as_slice.ensures.value c.in_ok-found.ensures))

pub write_concepts-requires-in-Untyped-clause-linked : goal.write_concepts-requires-in-Untyped-clause-linked
write_concepts-requires-in-Untyped-clause-linked c = (
  c.args.sides.now.concept,
  untyped_under (with_histories [] c.args.source.now.core.now) c.args.source.now.tag.now c.args.side c.args.hierarchy
      c.args.sides.now.concept _ _ _ (c.requires.sides.no_typed_link c.if-sides.false) c.symbol-symbol.ensures
      c.in-Untyped.is c.concepts.ensures (c.requires.sides.each_side c.args.side),
)

pub returns-in-Untyped : goal.returns-in-Untyped
returns-in-Untyped c =
    let n = c.args.sides.now.concept in
    subst (λ z. OnOk c.write_concepts-in-Untyped.result (AppendsText (AreSourceLines c.args.source.now n z)
    c.args.text.now.items c.write_concepts-in-Untyped.new.text.items)) c.symbol-symbol.ensures
    (c.write_concepts-in-Untyped.ensures n (untyped_under (with_histories [] c.args.source.now.core.now)
    c.args.source.now.tag.now c.args.side c.args.hierarchy n _ _ _
    (c.requires.sides.no_typed_link c.if-sides.false) c.symbol-symbol.ensures c.in-Untyped.is c.concepts.ensures
    (c.requires.sides.each_side c.args.side)))

-- Without typed links no line has a symbol with a type.
pub returns-in_default : goal.returns-in_default
returns-in_default c = no_lines (with_histories [] c.args.source.now.core.now) c.args.source.now.tag.now
    c.args.sides.now.concept (c.requires.sides.no_typed_link c.if-sides.false) c.args.side c.args.hierarchy
    c.args.text.now.items c.in_default.not-Untyped
