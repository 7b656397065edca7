-- Proves that a concept without typed links has untyped links to all its broader and narrower concepts.
use Rattle.std.proofs.Common.{◌≡◌, ◌<◌, ℕ, List, [], get_or, length, refl, sym, true≢false}
use Rattle.std.proofs.lemmas.Option.{slice_get-get_or}
use Rattle.thes_base.specs.declared.data.LinkKind.{LinkKind}
use Rattle.thes_base.specs.declared.data.LinkKind.TheVariants as kinds
use Rattle.thes_base.specs.declared.data.TypedKind.TheVariants as typed
use Rattle.thes_base.specs.Links.{IsHierarchical, Links}
use Rattle.thes_base.specs.Views.{HasLink}
use Rattle.thes_display.specs.declared.entry_terms.Side.{Side}
use Rattle.thes_display.specs.declared.entry_terms.Side.TheVariants as side
use Rattle.thes_display.specs.Order.{Term}
use Rattle.thes_display.specs.Lines.{untyped}
use Rattle.thes_display.specs.Hierarchical.{AreTypes, HasRank}
use Rattle.thes_display.specs.EntryTerms.{HasNoTypedLink, IsLinkedOnSide, IsOnSide}

module _ (links : Links) (n m : ℕ) (none : HasNoTypedLink links n) where
  pub untyped_link : (s : Side) → IsOnSide links s n m → IsLinkedOnSide links s kinds.Broader n m
  untyped_link side.Broader (kinds.Broader, is, l) = l
  untyped_link side.Broader (kinds.BroaderGeneric, is, l) = absurd (none (typed.BroaderGeneric, m) l)
  untyped_link side.Broader (kinds.BroaderPartitive, is, l) = absurd (none (typed.BroaderPartitive, m) l)
  untyped_link side.Broader (kinds.BroaderInstantial, is, l) = absurd (none (typed.BroaderInstantial, m) l)
  untyped_link side.Broader (_, is, l) = absurd (cc)
  untyped_link side.Narrower (kinds.Broader, is, l) = l
  untyped_link side.Narrower (kinds.BroaderGeneric, is, l) = absurd (none (typed.NarrowerGeneric, m) l)
  untyped_link side.Narrower (kinds.BroaderPartitive, is, l) = absurd (none (typed.NarrowerPartitive, m) l)
  untyped_link side.Narrower (kinds.BroaderInstantial, is, l) = absurd (none (typed.NarrowerInstantial, m) l)
  untyped_link side.Narrower (_, is, l) = absurd (cc)

  -- None of the typed links leads from `m` to `n`.
  pub no_type : (HasLink links kinds.BroaderGeneric m n → ⊥) × (HasLink links kinds.BroaderPartitive m n → ⊥)
      × (HasLink links kinds.BroaderInstantial m n → ⊥)
  no_type = (
    λ l. none (typed.NarrowerGeneric, m) l,
    λ l. none (typed.NarrowerPartitive, m) l,
    λ l. none (typed.NarrowerInstantial, m) l,
  )

  pub only_untyped : (s : Side) (kind : LinkKind) → IsHierarchical kind → IsLinkedOnSide links s kind n m
      → kind ≡ kinds.Broader
  only_untyped s kinds.Broader is l = refl
  only_untyped side.Broader kinds.BroaderGeneric is l = absurd (none (typed.BroaderGeneric, m) l)
  only_untyped side.Broader kinds.BroaderPartitive is l = absurd (none (typed.BroaderPartitive, m) l)
  only_untyped side.Broader kinds.BroaderInstantial is l = absurd (none (typed.BroaderInstantial, m) l)
  only_untyped side.Narrower kinds.BroaderGeneric is l = absurd (none (typed.NarrowerGeneric, m) l)
  only_untyped side.Narrower kinds.BroaderPartitive is l = absurd (none (typed.NarrowerPartitive, m) l)
  only_untyped side.Narrower kinds.BroaderInstantial is l = absurd (none (typed.NarrowerInstantial, m) l)
  only_untyped s _ is l = absurd (cc)

-- If the upper of two ranks has no typed link, the lower one has none to it.
pub untyped_at : (links : Links) (terms : List Term) (k b : ℕ) → k < length terms → b < length terms
    → ((n : ℕ) → HasRank terms n b → HasNoTypedLink links n) → AreTypes links terms untyped k b
untyped_at links terms k b l m none =
    let no = no_type links (at b).concept (at k).concept (none (at b).concept (has b m)) in
    record {
      lower = (at k).concept;
      upper = (at b).concept;
      lower_rank = has k l;
      upper_rank = has b m;
      generic = (λ t. absurd (true≢false (sym t)), λ x. absurd (no.0 x));
      partitive = (λ t. absurd (true≢false (sym t)), λ x. absurd (no.1 x));
      instantial = (λ t. absurd (true≢false (sym t)), λ x. absurd (no.2 x));
    }
  where
    at : ℕ → Term
    at i = get_or terms i (record { text = []; concept = 0 })

    has : (i : ℕ) → i < length terms → HasRank terms (at i).concept i
    has i j = record { term = at i; term_at = slice_get-get_or terms i _ j; concept = refl }
