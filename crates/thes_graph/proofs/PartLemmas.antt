-- The range of a row between two partition points has exactly the links on one side.
use Rattle.std.proofs.lemmas.Grind.{common_steps}
use Rattle.std.proofs.Common.{◌≡◌, ◌⊎◌, inl, inr, ◌-◌, ◌<◌, ◌≤◌, ℕ, Bool, List, true, false, length}
use Rattle.std.proofs.Common.{get_or, Less, Some, slice_get, refl, sym}
use Rattle.std.proofs.Common.{ap, subst, ◌∙◌, arith}
use Rattle.std.specs.List.Sorted.{IsNonDecreasingBy, IsPartitionedBy, IsPartitionPoint}
use Rattle.std.proofs.lemmas.List.Sorted.{IsPartitionedBy-ltb, IsPartitionedBy-leb}
use Rattle.std.specs.Ordering.{nat_cmp, ordering_then}
use Rattle.std.specs.declared.cmp.Ordering.{Ordering}
use Rattle.std.proofs.Math.Dec.{ltb, leb}
use Rattle.std.proofs.lemmas.Bool.{leb-true, le-leb, false_from_ne_true, both_ways}
use Rattle.std.proofs.lemmas.Bool.Decides.{Decides-ltb}
use Rattle.std.proofs.lemmas.Cmp.{ranked}
use Rattle.std.proofs.lemmas.Map.Keys.{Less-from_sorted}
use Rattle.std.proofs.lemmas.List.{length-map}
use Rattle.std.proofs.lemmas.Option.{slice_get-map, slice_get_within, get_or_from_slice_get}
use Rattle.std.proofs.Math.Nat.{eq-or-lt_of_le}
use Rattle.thes_base.specs.declared.data.Link.{Link}
use Rattle.thes_base.specs.Links.{Links}
use Rattle.thes_links.specs.declared.side.Side.{Side}
use Rattle.thes_links.specs.declared.side.Side.TheVariants.{Up, Sideways, Alike, Down, Other}
use Rattle.thes_graph.specs.declared.sided_links.SidedLink.{SidedLink}
use Rattle.thes_links.specs.declared.side.Part.{Part}
use Rattle.thes_links.specs.Side.{side_no, side_at, IsPart}
use Rattle.thes_graph.specs.SidedLinks.{sided_link_cmp, IsPartitionIndex, sided_links_at, links_at}
use Rattle.thes_graph.proofs.IndexLemmas.{sided_links_sorted, sided_links_from}

lower_side : (a b : ℕ) (o : Ordering) → ordering_then (nat_cmp a b) o ≡ Less → a ≤ b
lower_side a b o less = grind (arith, common_steps, ranked)

abbrev pub number_of : SidedLink → ℕ
number_of s = side_no s.side

pub sides_rise : (links : Links) (n : ℕ) → IsNonDecreasingBy number_of (sided_links_at links n)
sides_rise links n i j d lt in_range = go (eq-or-lt_of_le lt)
  where
    go : (i ≡ j) ⊎ (i < j) → number_of (get_or (sided_links_at links n) i d)
        ≤ number_of (get_or (sided_links_at links n) j d)
    go (inl same) = let P : ℕ → Type 0 = λ k. number_of (get_or (sided_links_at links n) i d)
        ≤ number_of (get_or (sided_links_at links n) k d) in subst P same (omega arith)
    go (inr below) =
        lower_side (number_of (get_or (sided_links_at links n) i d)) (number_of (get_or (sided_links_at links n) j d)) _
        (Less-from_sorted sided_link_cmp (sided_links_at links n) i j d (sided_links_sorted links n) below in_range)

-- If all links before an index of a partitioned row pass the test and the link at the index fails it, no later link
-- passes.
pub passed_until : (p : SidedLink → Bool) (row : List SidedLink) (i : ℕ)
    → ((k : ℕ) (d : SidedLink) → k < i → p (get_or row k d) ≡ true) → (s : SidedLink)
    → ((d : SidedLink) → s ≡ get_or row i d) → p s ≡ false → IsPartitionIndex p row i
passed_until p row i before s is off parted = (
  λ k d _ lt. before k d lt,
  λ k d le lt. false_from_ne_true (p (get_or row k d))
      (λ on. both_ways _ (ap p (sym (is d)) ∙ off) (parted i k d le lt on)),
)

-- If the last link of a partitioned row passes the test, all links do.
pub all_pass : (p : SidedLink → Bool) (row : List SidedLink) (last : SidedLink) → slice_get row (length row - 1)
    ≡ Some last → p last ≡ true
    → IsPartitionIndex p row (length row)
all_pass p row last is on parted =
    let in_range : length row - 1 < length row = slice_get_within row (length row - 1) last is in (
      λ k d _ lt. parted k (length row - 1) d (omega arith) in_range
          (ap p (get_or_from_slice_get row (length row - 1) last d is) ∙ on),
      λ k d le lt. absurd (omega arith),
    )

same_side : (j k : Side) → side_no j ≡ side_no k → j ≡ k
same_side Up Up e = refl
same_side Sideways Sideways e = refl
same_side Alike Alike e = refl
same_side Down Down e = refl
same_side Other Other e = refl
same_side _ _ e = absurd (omega arith)

-- Assumes the indexes that two searches find in the row.
module _ (links : Links) (n : ℕ) (side : Side) (part : Part) (in_range : part.to ≤ length (sided_links_at links n))
    (low : IsPartitionPoint (λ s. ltb (number_of s) (side_no side) ≡ true) (λ s. ltb (number_of s) (side_no side)
    ≡ false) (sided_links_at links n) part.from)
    (high : IsPartitionPoint (λ s. leb (number_of s) (side_no side) ≡ true) (λ s. leb (number_of s) (side_no side)
    ≡ false) (sided_links_at links n) part.to) where
  abbrev link_of : SidedLink → Link
  link_of s = s.link

  -- The row of links and the row of sided links have the same link at each index.
  stands : (k : ℕ) (l : Link) → slice_get (links_at links n) k ≡ Some l → (s : SidedLink)
      × (slice_get (sided_links_at links n) k ≡ Some s) × (s.link ≡ l)
  stands k l at = grind (arith, common_steps, slice_get-map)

  side_is : (k : ℕ) (s : SidedLink) → slice_get (sided_links_at links n) k ≡ Some s → side_at n s.link ≡ s.side
  side_is k s at =
      ap (λ (w : SidedLink). w.side) (sided_links_from links n s (
        k,
        slice_get_within (sided_links_at links n) k s at,
        get_or_from_slice_get (sided_links_at links n) k s s at,
      )).2

  -- The range between the two partition points has exactly the links on the side.
  pub IsPart-found : IsPart (links_at links n) n side part
  IsPart-found = record {
    in_range = let P : ℕ → Type 0 = λ m. part.to ≤ m in subst P (sym (length-map (sided_links_at links n) link_of))
        in_range;
    on_side = λ k l at from to.
        let s = stands k l at in
        let is : get_or (sided_links_at links n) k s.0 ≡ s.0 = get_or_from_slice_get (sided_links_at links n) k s.0
        s.0 s.1 in
        let on_side : k < length (sided_links_at links n) = slice_get_within (sided_links_at links n) k s.0 s.1 in
        let P : SidedLink → Type 0 = λ w. ltb (number_of w) (side_no side) ≡ false in
        let not_below : ltb (number_of s.0) (side_no side) ≡ false = subst P is (low.1 k s.0 from on_side) in
        let Q : SidedLink → Type 0 = λ w. leb (number_of w) (side_no side) ≡ true in
        let not_above : leb (number_of s.0) (side_no side) ≡ true = subst Q is (high.0 k s.0 (omega arith) to) in
        ap (side_at n) (sym s.2) ∙ side_is k s.0 s.1 ∙ same_side s.0.side side
        (at_number (number_of s.0) (side_no side) not_below not_above);
    has = λ k l at same.
        let s = stands k l at in
        let is : get_or (sided_links_at links n) k s.0 ≡ s.0 = get_or_from_slice_get (sided_links_at links n) k s.0
        s.0 s.1 in
        let on_side : k < length (sided_links_at links n) = slice_get_within (sided_links_at links n) k s.0 s.1 in
        let here : number_of s.0 ≡ side_no side = ap side_no (sym (side_is k s.0 s.1) ∙ ap (side_at n) s.2 ∙ same) in
        (from_or_before k s.0 is here, to_or_after k s.0 is here on_side);
  }
    where
      at_number : (a b : ℕ) → ltb a b ≡ false → leb a b ≡ true → a ≡ b
      at_number a b low high = let top : a ≤ b = leb-true a b high in go (eq-or-lt_of_le top)
        where
          go : (a ≡ b) ⊎ (a < b) → a ≡ b
          go (inl same) = same
          go (inr lt) = let on : ltb a b ≡ true = (Decides-ltb a b).1 lt in cc

      below_itself : (a b : ℕ) → a ≡ b → ltb a b ≡ true → ⊥
      below_itself a b same lt = let less : a < b = (Decides-ltb a b).0 lt in absurd (omega arith)

      above_itself : (a b : ℕ) → a ≡ b → leb a b ≡ false → ⊥
      above_itself a b same off = let on : leb a b ≡ true = le-leb a b (omega arith) in cc

      from_or_before : (k : ℕ) (s : SidedLink) → get_or (sided_links_at links n) k s ≡ s → number_of s ≡ side_no side
          → part.from ≤ k
      from_or_before k s is here = go (less_or_not part.from k)
        where
          less_or_not : (a b : ℕ) → (a ≤ b) ⊎ (b < a)
          less_or_not a b = grind arith

          go : (part.from ≤ k) ⊎ (k < part.from) → part.from ≤ k
          go (inl lt) = lt
          go (inr lt) =
              absurd (below_itself (number_of s) (side_no side) here (let P : SidedLink → Type 0 =
              λ w. ltb (number_of w) (side_no side) ≡ true in subst P is (low.0 k s (omega arith) lt)))

      to_or_after : (k : ℕ) (s : SidedLink) → get_or (sided_links_at links n) k s ≡ s → number_of s ≡ side_no side → k
          < length (sided_links_at links n) → k < part.to
      to_or_after k s is here on_side = go (less_or_not part.to k)
        where
          less_or_not : (a b : ℕ) → (a ≤ b) ⊎ (b < a)
          less_or_not a b = grind arith

          go : (part.to ≤ k) ⊎ (k < part.to) → k < part.to
          go (inr lt) = lt
          go (inl lt) =
              absurd (above_itself (number_of s) (side_no side) here (let P : SidedLink → Type 0 =
              λ w. leb (number_of w) (side_no side) ≡ false in subst P is (high.1 k s lt on_side)))

-- The numbers of links before a side and up to it are the bounds of the side's range.
pub part_found : (links : Links) (n : ℕ) (side : Side) (row : List SidedLink) (number from to : ℕ) → row
    ≡ sided_links_at links n → number ≡ side_no side → to ≤ length row
    → (IsPartitionedBy (λ s. ltb (number_of s) number) row → IsPartitionPoint (λ s. ltb (number_of s) number ≡ true)
    (λ s. ltb (number_of s) number ≡ false) row from)
    → (IsPartitionedBy (λ s. leb (number_of s) number) row → IsPartitionPoint (λ s. leb (number_of s) number ≡ true)
    (λ s. leb (number_of s) number ≡ false) row to)
    → IsPart (links_at links n) n side (record { from = from; to = to })
part_found links n side row number from to is_row is_number in_range low high =
    let Low : List SidedLink → ℕ → Type 0 = λ r m. IsPartitionedBy (λ s. ltb (number_of s) m) r
    → IsPartitionPoint (λ s. ltb (number_of s) m ≡ true) (λ s. ltb (number_of s) m ≡ false) r from in
    let High : List SidedLink → ℕ → Type 0 = λ r m. IsPartitionedBy (λ s. leb (number_of s) m) r
    → IsPartitionPoint (λ s. leb (number_of s) m ≡ true) (λ s. leb (number_of s) m ≡ false) r to in
    let Within : List SidedLink → Type 0 = λ r. to ≤ length r in
    let low_row : Low (sided_links_at links n) number = subst (λ r. Low r number) is_row low in
    let high_row : High (sided_links_at links n) number = subst (λ r. High r number) is_row high in
    let low_at : Low (sided_links_at links n) (side_no side) = subst (Low (sided_links_at links n)) is_number low_row in
    let high_at : High (sided_links_at links n) (side_no side) = subst (High (sided_links_at links n)) is_number
    high_row in
    IsPart-found links n side (record { from = from; to = to }) (subst Within is_row in_range)
    (low_at (IsPartitionedBy-ltb number_of (sided_links_at links n) (side_no side) (sides_rise links n)))
    (high_at (IsPartitionedBy-leb number_of (sided_links_at links n) (side_no side) (sides_rise links n)))
