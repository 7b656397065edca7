-- The mappings and typed links of a concept are the links with an end at it, as seen from it.
use Rattle.std.proofs.lemmas.Grind.{common_steps}
use Rattle.std.proofs.Common.{◌≡◌, ◌≢◌, inl, inr, ◌==◌, ◌<◌, ◌≤◌, ℕ, List, Bool, true, false, length, Some, Ordering}
use Rattle.std.proofs.Common.{if◌then◌else◌, Result, Ok, Err, refl, sym, ap, subst, ◌∙◌, arith}
use Rattle.std.specs.List.{insert}
use Rattle.std.specs.List.Sorted.{IsStrictlySortedBy, IsBinarySearchResult}
use Rattle.std.specs.Ordering.{nat_cmp, ordering_then}
use Rattle.std.specs.Cmp.Lexicographic.{slice_cmp}
use Rattle.std.specs.BTreeSet.{insert_key}
use Rattle.std.proofs.lemmas.Bool.Decides.{Decides-eqb}
use Rattle.std.proofs.lemmas.Bool.{false_from_ne_true}
use Rattle.std.proofs.lemmas.Option.{none-some, same_Some}
use Rattle.thes_base.specs.declared.data.LinkKind.{LinkKind}
use Rattle.thes_base.specs.declared.data.LinkKind.TheVariants.{Broader, Exact, Close, Broad, Narrow, RelMatch}
use Rattle.thes_base.specs.declared.data.LinkKind.TheVariants.{BroaderGeneric, BroaderPartitive, BroaderInstantial}
use Rattle.thes_base.specs.declared.data.TypedKind.{TypedKind}
use Rattle.thes_base.specs.declared.data.TypedKind.TheVariants as typed
use Rattle.thes_base.specs.declared.data.Link.{Link}
use Rattle.thes_base.specs.Links.{Links, Holds, HasEnd}
use Rattle.thes_base.specs.KindNames.{link_kind_name}
use Rattle.thes_base.specs.Views.{HasLink, IsMapping, mapping_cmp, IsTypedLink}
use Rattle.thes_base.proofs.KindNameOrderLemmas.{mapping_total}
use Rattle.thes_lists.proofs.OrderLemmas.{sorted_by_index, insert_found, insert_missing}
use Rattle.thes_links.specs.Reading.{HaveTwoEnds}
use Rattle.thes_graph.specs.Mappings.{mapping_of_kind, mapping_seen_from, typed_link_of_kind, typed_link_seen_from}
use Rattle.thes_graph.specs.Mappings.{kind_name_rank}
use Rattle.thes_links.proofs.NumberLemmas.{same_of, other_of}
use Rattle.thes_graph.proofs.ReaderLemmas.{IsSeen}

same_places : (j k : LinkKind) → nat_cmp (kind_name_rank j) (kind_name_rank k) ≡ slice_cmp nat_cmp (link_kind_name j)
    (link_kind_name k)
same_places Broader Broader = refl
same_places Broader _ = refl
same_places _ Broader = refl
same_places _ _ = refl

abbrev pub place_cmp : LinkKind × ℕ → LinkKind × ℕ → Ordering
place_cmp x y = ordering_then (nat_cmp (kind_name_rank x.0) (kind_name_rank y.0)) (nat_cmp x.1 y.1)

place_cmp_is : place_cmp ≡ mapping_cmp
place_cmp_is = λ i x y. ordering_then (same_places x.0 y.0 i) (nat_cmp x.1 y.1)

module _ (list : List (LinkKind × ℕ)) (i : ℕ) (mapping : LinkKind × ℕ)
    (sorted : IsStrictlySortedBy mapping_cmp list) where
  as_words : (r : Result ℕ ℕ) → IsBinarySearchResult (λ y. place_cmp y mapping) list r
      → IsBinarySearchResult (λ y. mapping_cmp y mapping) list r
  as_words r is = let P : (LinkKind × ℕ → LinkKind × ℕ → Ordering) → Type 0 =
      λ cmp. IsBinarySearchResult (λ y. cmp y mapping) list r in subst P place_cmp_is is

  pub listed_there : i < length list → IsBinarySearchResult (λ y. place_cmp y mapping) list (Ok i) → list
      ≡ insert_key mapping_cmp list mapping
  listed_there within found =
      sym (insert_found mapping_cmp mapping_total list i mapping within sorted (as_words (Ok i) found))

  pub listed_new : i ≤ length list → IsBinarySearchResult (λ y. place_cmp y mapping) list (Err i)
      → insert list i mapping ≡ insert_key mapping_cmp list mapping
  listed_new within missed = insert_missing mapping_cmp mapping_total list i mapping within
      (as_words (Err i) missed (sorted_by_index mapping_cmp mapping_total list mapping sorted))

module _ (links : Links) (n : ℕ) where
  seen_forward : (k : LinkKind) (m : ℕ) (p : LinkKind × ℕ) → HasLink links k n m → mapping_of_kind true k m ≡ Some p
      → IsMapping links n p
  seen_forward Exact m p held e = subst (IsMapping links n) (same_Some (Exact, m) p e) (inl held)
  seen_forward Close m p held e = subst (IsMapping links n) (same_Some (Close, m) p e) (inl held)
  seen_forward RelMatch m p held e = subst (IsMapping links n) (same_Some (RelMatch, m) p e) (inl held)
  seen_forward Broad m p held e = subst (IsMapping links n) (same_Some (Broad, m) p e) (inl held)
  seen_forward Narrow m p held e = subst (IsMapping links n) (same_Some (Narrow, m) p e) (inl held)
  seen_forward _ m p held e = absurd (none-some p e)

  seen_backward : (k : LinkKind) (m : ℕ) (p : LinkKind × ℕ) → HasLink links k m n → mapping_of_kind false k m ≡ Some p
      → IsMapping links n p
  seen_backward Exact m p held e = subst (IsMapping links n) (same_Some (Exact, m) p e) (inr held)
  seen_backward Close m p held e = subst (IsMapping links n) (same_Some (Close, m) p e) (inr held)
  seen_backward RelMatch m p held e = subst (IsMapping links n) (same_Some (RelMatch, m) p e) (inr held)
  seen_backward Broad m p held e = subst (IsMapping links n) (same_Some (Narrow, m) p e) (inr held)
  seen_backward Narrow m p held e = subst (IsMapping links n) (same_Some (Broad, m) p e) (inr held)
  seen_backward _ m p held e = absurd (none-some p e)

  pub seen_from : (l : Link) (p : LinkKind × ℕ) → Holds links l → HasEnd n l → mapping_seen_from n l ≡ Some p
      → IsMapping links n p
  seen_from l p held at e = grind (arith, common_steps, other_of, same_of, seen_backward, seen_forward)

  -- A link with n as its first end is seen from n in its own direction, and one with n as its second end in the
  -- opposite one.
  seen_as_first : (k : LinkKind) (m : ℕ) → mapping_seen_from n (record { kind = k; a = n; b = m })
      ≡ mapping_of_kind true k m
  seen_as_first k m = ap (λ t. mapping_of_kind t k (if t then m else n)) ((Decides-eqb n n).1 refl)

  seen_as_second : (k : LinkKind) (m : ℕ) → m ≢ n → mapping_seen_from n (record { kind = k; a = m; b = n })
      ≡ mapping_of_kind false k m
  seen_as_second k m other = ap (λ t. mapping_of_kind t k (if t then n else m))
      (false_from_ne_true (m == n) (λ e. other (same_of m n e)))

  module _ (two_ends : HaveTwoEnds (Holds links)) where
    first : (k : LinkKind) (m : ℕ) (p : LinkKind × ℕ) → HasLink links k n m → mapping_of_kind true k m ≡ Some p
        → (l : Link) × Holds links l × HasEnd n l × (mapping_seen_from n l ≡ Some p)
    first k m p held gives = (record { kind = k; a = n; b = m }, held, inl refl, seen_as_first k m ∙ gives)

    second : (k : LinkKind) (m : ℕ) (p : LinkKind × ℕ) → HasLink links k m n → mapping_of_kind false k m ≡ Some p
        → (l : Link) × Holds links l × HasEnd n l × (mapping_seen_from n l ≡ Some p)
    second k m p held gives = grind (arith, common_steps, seen_as_second)

    -- Each mapping of the concept is a held link with an end there, seen from it.
    pub seen_to : (p : LinkKind × ℕ) → IsMapping links n p → (l : Link) × Holds links l × HasEnd n l
        × (mapping_seen_from n l ≡ Some p)
    seen_to (Exact, m) (inl held) = first Exact m (Exact, m) held refl
    seen_to (Exact, m) (inr held) = second Exact m (Exact, m) held refl
    seen_to (Close, m) (inl held) = first Close m (Close, m) held refl
    seen_to (Close, m) (inr held) = second Close m (Close, m) held refl
    seen_to (RelMatch, m) (inl held) = first RelMatch m (RelMatch, m) held refl
    seen_to (RelMatch, m) (inr held) = second RelMatch m (RelMatch, m) held refl
    seen_to (Broad, m) (inl held) = first Broad m (Broad, m) held refl
    seen_to (Broad, m) (inr held) = second Narrow m (Broad, m) held refl
    seen_to (Narrow, m) (inl held) = first Narrow m (Narrow, m) held refl
    seen_to (Narrow, m) (inr held) = second Broad m (Narrow, m) held refl
    seen_to (_, m) h = absurd h

  typed_forward : (k : LinkKind) (m : ℕ) (p : TypedKind × ℕ) → HasLink links k n m → typed_link_of_kind true k m
      ≡ Some p → IsTypedLink links n p
  typed_forward BroaderGeneric m p held e = subst (IsTypedLink links n) (same_Some (typed.BroaderGeneric, m) p e) held
  typed_forward BroaderPartitive m p held e = subst (IsTypedLink links n) (same_Some (typed.BroaderPartitive, m) p e)
      held
  typed_forward BroaderInstantial m p held e =
      subst (IsTypedLink links n) (same_Some (typed.BroaderInstantial, m) p e) held
  typed_forward _ m p held e = absurd (none-some p e)

  typed_backward : (k : LinkKind) (m : ℕ) (p : TypedKind × ℕ) → HasLink links k m n → typed_link_of_kind false k m
      ≡ Some p → IsTypedLink links n p
  typed_backward BroaderGeneric m p held e = subst (IsTypedLink links n) (same_Some (typed.NarrowerGeneric, m) p e) held
  typed_backward BroaderPartitive m p held e =
      subst (IsTypedLink links n) (same_Some (typed.NarrowerPartitive, m) p e) held
  typed_backward BroaderInstantial m p held e =
      subst (IsTypedLink links n) (same_Some (typed.NarrowerInstantial, m) p e) held
  typed_backward _ m p held e = absurd (none-some p e)

  pub typed_from : (p : TypedKind × ℕ) → IsSeen links n (typed_link_seen_from n) p → IsTypedLink links n p
  typed_from p (l, held, at, e) = go (l.a == n) refl e
    where
      second : l.a ≢ n → HasEnd n l → l.b ≡ n
      second other (inl a) = absurd (other a)
      second other (inr b) = b

      go : (t : Bool) → (l.a == n) ≡ t → typed_link_of_kind t l.kind (if t then l.b else l.a) ≡ Some p
          → IsTypedLink links n p
      go true first e =
          typed_forward l.kind l.b p (subst (λ (k : ℕ). HasLink links l.kind k l.b) (same_of l.a n first) held) e
      go false other e =
          typed_backward l.kind l.a p
          (subst (λ (k : ℕ). HasLink links l.kind l.a k) (second (other_of l.a n other) at) held) e

  module _ (two_ends : HaveTwoEnds (Holds links)) where
    typed_up : (k : LinkKind) (m : ℕ) (p : TypedKind × ℕ) → HasLink links k n m → typed_link_of_kind true k m ≡ Some p
        → IsSeen links n (typed_link_seen_from n) p
    typed_up k m p held gives = grind (arith, common_steps, Decides-eqb)

    typed_down : (k : LinkKind) (m : ℕ) (p : TypedKind × ℕ) → HasLink links k m n → typed_link_of_kind false k m
        ≡ Some p → IsSeen links n (typed_link_seen_from n) p
    typed_down k m p held gives = grind (arith, common_steps, false_from_ne_true, same_of)

    pub typed_to : (p : TypedKind × ℕ) → IsTypedLink links n p → IsSeen links n (typed_link_seen_from n) p
    typed_to (typed.BroaderGeneric, m) held = typed_up BroaderGeneric m (typed.BroaderGeneric, m) held refl
    typed_to (typed.BroaderPartitive, m) held = typed_up BroaderPartitive m (typed.BroaderPartitive, m) held refl
    typed_to (typed.BroaderInstantial, m) held = typed_up BroaderInstantial m (typed.BroaderInstantial, m) held refl
    typed_to (typed.NarrowerGeneric, m) held = typed_down BroaderGeneric m (typed.NarrowerGeneric, m) held refl
    typed_to (typed.NarrowerPartitive, m) held = typed_down BroaderPartitive m (typed.NarrowerPartitive, m) held refl
    typed_to (typed.NarrowerInstantial, m) held = typed_down BroaderInstantial m (typed.NarrowerInstantial, m) held refl
