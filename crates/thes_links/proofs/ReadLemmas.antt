-- Reading a node takes at most one visit for each end that a link has there.
use Rattle.std.proofs.lemmas.Grind.{common_steps}
use Rattle.std.proofs.Common.{◌≡◌, ◌≢◌, ◌==◌, ◌+◌, ◌≤◌, ◌⊎◌, inl, inr, ℕ, List, [], ◌∷◌, ◌++◌, length, ap, sym, ◌∙◌}
use Rattle.std.proofs.Common.{arith, Contains, sum_by, if◌then◌else◌}
use Rattle.std.proofs.lemmas.Bool.Decides.{Decides-eqb}
use Rattle.std.proofs.lemmas.List.Elements.{Contains-append_left, Contains-append_right, Contains-append_cases}
use Rattle.std.proofs.lemmas.List.Sums.{sum_by-cons}
use Rattle.thes_base.specs.declared.data.Link.{Link}
use Rattle.thes_base.specs.Links.{Links, Holds, HasEnd}
use Rattle.thes_links.specs.declared.edit.LinkEdit.{LinkEdit}
use Rattle.thes_links.specs.declared.edit.LinkEdit.TheVariants.{NoEdit, AfterMerge}
use Rattle.thes_links.specs.Reading.{IsRow}
use Rattle.thes_links.specs.LinkEdit.{node_after, TouchesAt, ends_at_node, IsReadOf, CoversAt}
use Rattle.thes_links.proofs.WeightLemmas.{length-apart}

-- The number 1 if both numbers are equal, or else 0.
abbrev pub one_at : ℕ → ℕ → ℕ
one_at x n = if x == n then 1 else 0

pub one_at_same : (x n : ℕ) → x ≡ n → one_at x n ≡ 1
one_at_same x n same = ap (λ b. if b then 1 else 0) ((Decides-eqb x n).1 same)

touches_one : (edit : LinkEdit) (n : ℕ) (l : Link) → TouchesAt edit n l → 1 ≤ ends_at_node edit n l
touches_one edit n l (inl a) = omega (arith, one_at_same (node_after edit l.a) n a)
touches_one edit n l (inr b) = omega (arith, one_at_same (node_after edit l.b) n b)

pub either_end : (edit : LinkEdit) (n m : ℕ) (l : Link) → ((x : ℕ) → x ≡ m → node_after edit x ≡ n) → HasEnd m l
    → TouchesAt edit n l
either_end edit n m l moves (inl a) = inl (moves l.a a)
either_end edit n m l moves (inr b) = inr (moves l.b b)

module _ (edit : LinkEdit) (held : Links) (node : ℕ) (row : List Link) (is : IsRow held node row) where
  pub IsReadOf-plain : ((x : ℕ) → node_after edit x ≡ node → x ≡ node) → IsReadOf edit held node row
  IsReadOf-plain plain = grind (arith, common_steps)

  pub read_few : ((x : ℕ) → x ≡ node → node_after edit x ≡ node) → (ns : List Link) → CoversAt edit held node ns
      → length row ≤ sum_by (ends_at_node edit node) ns
  read_few moves ns covers =
      length-apart (ends_at_node edit node) row ns is.once
      (λ l has. let both = is.sound l has in covers l both.0 (either_end edit node node l moves both.1))
      (λ l has. touches_one edit node l (either_end edit node node l moves (is.sound l has).1))

-- If a weight is at least the sum of two others for each item, its total is at least the sum of their totals.
pub sum_by-two : {X : Type 0} (f g h : X → ℕ) → ((x : X) → f x + g x ≤ h x) → (xs : List X) → sum_by f xs
    + sum_by g xs ≤ sum_by h xs
sum_by-two f g h each [] = omega arith
sum_by-two f g h each (x ∷ xs) =
    omega (arith, each x, sum_by-two f g h each xs, sum_by-cons f x xs, sum_by-cons g x xs, sum_by-cons h x xs)

module _ (source target : ℕ) (two : source ≢ target) where
  pub node_after-source : (x : ℕ) → x ≡ source → node_after (AfterMerge source target) x ≡ target
  node_after-source x same = ap (λ b. if b then target else x) ((Decides-eqb x source).1 same)

  node_after-cases : (x : ℕ) → ((x ≡ source) × (node_after (AfterMerge source target) x ≡ target))
      ⊎ ((x ≢ source) × (node_after (AfterMerge source target) x ≡ x))
  node_after-cases x = grind arith

  pub node_after-at : (node x : ℕ) → node ≢ target → node_after (AfterMerge source target) x ≡ node → x ≡ node
  node_after-at node x off at = grind arith

  pub node_after-stays : (node x : ℕ) → node ≢ source → x ≡ node → node_after (AfterMerge source target) x ≡ node
  node_after-stays node x off at = grind arith

  pub node_after-target : (x : ℕ) → node_after (AfterMerge source target) x ≡ target → (x ≡ target) ⊎ (x ≡ source)
  node_after-target x at = elim (node_after-cases x) [ inl (s, _) ↦ inr s | inr (_, e) ↦ inl (sym e ∙ at) ]

  module _ (held : Links) (row more : List Link) (at_target : IsRow held target row)
      (at_source : IsRow held source more) where
    pub IsReadOf-target : IsReadOf (AfterMerge source target) held target (row ++ more)
    IsReadOf-target = record {
      sound = λ l has. elim (Contains-append_cases row more l has) [
        | inl x ↦ (at_target.sound l x).0
        | inr x ↦ (at_source.sound l x).0
      ];
      complete = λ l has at. complete l has at;
    }
      where
        by_end : (l : Link) → Holds held l → HasEnd target l ⊎ HasEnd source l → Contains (row ++ more) l
        by_end l has (inl t) = Contains-append_left row more l (at_target.complete l has t)
        by_end l has (inr s) = Contains-append_right row more l (at_source.complete l has s)

        complete : (l : Link) → Holds held l → TouchesAt (AfterMerge source target) target l → Contains (row ++ more) l
        complete l has (inl a) =
            by_end l has (elim (node_after-target l.a a) [ inl t ↦ inl (inl t) | inr s ↦ inr (inl s) ])
        complete l has (inr b) =
            by_end l has (elim (node_after-target l.b b) [ inl t ↦ inl (inr t) | inr s ↦ inr (inr s) ])

    -- The rows at source and target together have at most one link for each end at the target after the merge.
    pub length-target : (ns : List Link) → CoversAt (AfterMerge source target) held target ns → length row
        + length more ≤ sum_by (ends_at_node (AfterMerge source target) target) ns
    length-target ns covers =
        let at : ℕ → Link → ℕ = λ n l. one_at l.a n + one_at l.b n in
        let first : length row ≤ sum_by (at target) ns =
        length-apart (at target) row ns at_target.once
        (λ l has. let both = at_target.sound l has in
        covers l both.0 (either_end (AfterMerge source target) target target l
        (λ x same. node_after-stays target x (λ e. two (sym e)) same) both.1))
        (λ l has. touches_one NoEdit target l (at_target.sound l has).1) in
        let second : length more ≤ sum_by (at source) ns =
        length-apart (at source) more ns at_source.once
        (λ l has. let both = at_source.sound l has in
        covers l both.0 (either_end (AfterMerge source target) target source l node_after-source both.1))
        (λ l has. touches_one NoEdit source l (at_source.sound l has).1) in
        let both : sum_by (at target) ns + sum_by (at source) ns ≤ sum_by
        (ends_at_node (AfterMerge source target) target)
        ns =
        sum_by-two (at target) (at source) (ends_at_node (AfterMerge source target) target)
        (λ l. omega (arith, one l.a, one l.b)) ns in
        omega arith
      where
        one : (x : ℕ) → one_at x target + one_at x source ≤ one_at (node_after (AfterMerge source target) x) target
        one x = grind arith
