-- Reading one side of a node finds exactly the nodes to which it leads after the edit, in at most one visit for each
-- link there.
use Rattle.std.proofs.lemmas.Grind.{common_steps}
use Rattle.std.proofs.Common.{◌≡◌, ◌+◌, ◌-◌, ◌≤◌, ◌<◌, ◌⊎◌, inl, inr, ℕ, List, length, take, drop, get_or, ap}
use Rattle.std.proofs.Common.{sym, subst, ◌∙◌, arith, refl, Contains, sum_by, Bool, true, false, Option, Some, None}
use Rattle.std.proofs.Common.{slice_get}
use Rattle.std.specs.Prelude.{option_and_then}
use Rattle.std.proofs.lemmas.List.{get_or-take, get_or-drop, length-take, length-drop, get_or_default}
use Rattle.std.proofs.lemmas.Option.{slice_get_within, slice_get-get_or, get_or_from_slice_get, option_and_then_some}
use Rattle.std.proofs.lemmas.Option.{none-some}
use Rattle.thes_base.specs.declared.data.Link.{Link}
use Rattle.thes_base.specs.declared.data.Direction.{Direction}
use Rattle.thes_base.specs.declared.data.Direction.TheVariants.{Forward, Backward, Either, Never}
use Rattle.thes_base.specs.Links.{Links, Holds, LinkLeads, HasEnd}
use Rattle.thes_links.specs.declared.relation.Relation.{Relation}
use Rattle.thes_links.specs.declared.side.Part.{Part}
use Rattle.thes_links.specs.declared.edit.LinkEdit.{LinkEdit}
use Rattle.thes_links.specs.declared.edit.LinkEdit.TheVariants.{NoEdit, WithLink, AfterMerge}
use Rattle.thes_links.specs.Reading.{HaveTwoEnds, IsRow}
use Rattle.thes_links.specs.Side.{side_at, side_in, IsPart, IsOneSided}
use Rattle.thes_links.specs.LinkEdit.{node_after, link_after_merge, HeldAfter}
use Rattle.thes_links.specs.Steps.{direction_of, step_along, Steps}
use Rattle.thes_walks.specs.SideSearch.{link_after, step_after_edit, LeadsWithin, LeadsFrom, IsSearchResult, CoversSide}
use Rattle.thes_walks.specs.SideSearch.{one_on_side}
use Rattle.std.proofs.lemmas.Bool.{or_left, or_right}
use Rattle.std.proofs.lemmas.Bool.Decides.{Decides-eqb}
use Rattle.thes_links.specs.declared.side.Side.{Side}
use Rattle.thes_links.proofs.WeightLemmas.{length-once, once_from_pairs, once_take, once_drop}
use Rattle.thes_links.proofs.StepLemmas.{GrowsBy-then, Leads-first, Leads-from_step, step_from_Leads}
use Rattle.thes_links.proofs.EditLemmas.{link_after_merge-ends}
use Rattle.thes_walks.proofs.SideLemmas.{side_of_lead}

-- The current item of a loop is the item of the list at that index.
pub item_at : (items xs : List ℕ) (i x : ℕ) → items ≡ xs → i < length items → x ≡ get_or items i x → (i < length xs)
    × (x ≡ get_or xs i 0)
item_at items xs i x same in_range is =
    let on_side : i < length xs = subst (λ (l : List ℕ). i < length l) same in_range in
    (on_side, is ∙ ap (λ (l : List ℕ). get_or l i x) same ∙ get_or_default xs i x 0 on_side)

module _ (old new goals : List ℕ) (P Q : ℕ → Type 0) (to : (y : ℕ) → P y → Q y) (from : (y : ℕ) → Q y → P y) where
  pub IsSearchResult-same : (found : Bool) → IsSearchResult found old new goals P → IsSearchResult found old new goals Q
  IsSearchResult-same true (y, has, p) = (y, has, to y p)
  IsSearchResult-same false (grows, off) = (
    record {
      extends = grows.extends;
      has_new = λ y q. grows.has_new y (from y q);
      no_others =
          λ y has. elim (grows.no_others y has) [ inl a ↦ inl a | inr p ↦ inr (to y p) ];
      distinct = grows.distinct;
    },
    λ y has q. off y has (from y q),
  )

module _ (xs ys zs goals : List ℕ) (P Q S : ℕ → Type 0) (parts : (y : ℕ) → S y → P y ⊎ Q y)
    (left : (y : ℕ) → P y → S y) (right : (y : ℕ) → Q y → S y) where
  pub IsSearchResult-then : IsSearchResult false xs ys goals P → (found : Bool) → IsSearchResult found ys zs goals Q
      → IsSearchResult found xs zs goals S
  IsSearchResult-then (grows, off) true (y, has, q) = (y, has, right y q)
  IsSearchResult-then (grows, off) false (more, away) = (
    GrowsBy-then xs ys zs P Q S parts left right grows more,
    λ y has s. elim (parts y s) [ inl p ↦ off y has p | inr q ↦ away y has q ],
  )

module _ (f : Link → Option ℕ) (row : List Link) where
  abbrev Within : (from to y : ℕ) → Type 0
  Within = LeadsWithin f row

  abbrev pub led_at : ℕ → Option ℕ
  led_at i = option_and_then f (slice_get row i)

  pub LeadsWithin-before : (from i y : ℕ) → Within from i y → Within from (i + 1) y
  LeadsWithin-before from i y (k, l, low, high, at, leads) = (k, l, low, omega arith, at, leads)

  pub LeadsWithin-last : (from i y : ℕ) → from ≤ i → led_at i ≡ Some y → Within from (i + 1) y
  LeadsWithin-last from i y low leads =
      option_and_then_some f (slice_get row i) y leads
      (λ l at one. (i, l, low, omega arith, at, one))

  pub LeadsWithin-parts : (from i y : ℕ) → Within from (i + 1) y → Within from i y ⊎ (led_at i ≡ Some y)
  LeadsWithin-parts from i y (k, l, low, high, at, leads) = elim (below k i high) [
    | inl lt ↦ inl (k, l, low, lt, at, leads)
    | inr same ↦ inr (ap (option_and_then f) (ap (slice_get row) (sym same) ∙ at)
        ∙ leads)
  ]
    where
      below : (k i : ℕ) → k < i + 1 → (k < i) ⊎ (k ≡ i)
      below k i lt = grind arith

  pub LeadsWithin-to : (from i j y : ℕ) → i - from ≤ j - from → Within from i y → Within from j y
  LeadsWithin-to from i j y in_range (k, l, low, high, at, leads) = (k, l, low, omega arith, at, leads)

  -- Assumes that the range of the node's row has exactly the links on the side of the relation.
  module _ (edit : LinkEdit) (relation : Relation) (x : ℕ) (held : Links) (at : ℕ) (part : Part)
      (is_row : IsRow held at row) (is_part : IsPart row at (side_in relation) part)
      (same : (l : Link) → HasEnd at l → side_at at l ≡ side_in relation → f l ≡ step_after_edit edit relation x l)
    where
      pub LeadsFrom-read : (i y : ℕ) → i - part.from ≤ part.to - part.from → Within part.from i y
          → LeadsFrom edit held relation at x y
      LeadsFrom-read i y in_range (k, l, low, high, is, leads) =
          let sound = is_row.sound l (k, slice_get_within row k l is, get_or_from_slice_get row k l l is) in
          let side = is_part.on_side k l is low (on_side k low high) in
          (l, sound.0, sound.1, side, sym (same l sound.1 side) ∙ leads)
        where
          on_side : (k : ℕ) → part.from ≤ k → k < i → k < part.to
          on_side k low high = omega arith

      pub LeadsFrom-there : (i y : ℕ) → part.to ≤ i → LeadsFrom edit held relation at x y → Within part.from i y
      LeadsFrom-there i y done (l, has, ends, side, leads) =
          let there = is_row.complete l has ends in
          let is : slice_get row there.0 ≡ Some l = slice_get-get_or row there.0 l there.1 ∙ ap Some there.2 in
          let between = is_part.has there.0 l is side in
          let high : there.0 < part.to = between.1 in
          (there.0, l, between.0, omega arith, is, same l ends side ∙ leads)

some_led : (edit : LinkEdit) (relation : Relation) (x y : ℕ) (l : Link) {P : Type 0} → step_after_edit edit relation x
    l ≡ Some y
    → ((m : Link) → link_after edit l ≡ Some m → LinkLeads (direction_of relation m.kind) m.a m.b x y → P) → P
some_led edit relation x y l leads go =
    option_and_then_some (λ m. step_along relation m x) (link_after edit l) y leads
    (λ m is one. go m is (Leads-from_step (direction_of relation m.kind) m.a m.b x y one))

module _ (held : Links) (relation : Relation) where
  pub Steps-with_none : (new : Link) (x : ℕ) → ((z : ℕ) → Steps relation (Holds held) x z → ⊥)
      → step_along relation new x ≡ None
      → (y : ℕ) → Steps relation (HeldAfter (WithLink new) held) x y → ⊥
  Steps-with_none new x none off y (l, inl has, leads) = none y (l, has, leads)
  Steps-with_none new x none off y (l, inr same, leads) =
      none-some y (sym off ∙ ap (λ (w : Link). step_along relation w x) same
      ∙ step_from_Leads (direction_of relation l.kind) l.a l.b x y leads)

  pub Steps-sound : (edit : LinkEdit) (at x y : ℕ) → LeadsFrom edit held relation at x y
      → Steps relation (HeldAfter edit held) x y
  Steps-sound NoEdit at x y (l, has, _, _, leads) =
      (l, has, Leads-from_step (direction_of relation l.kind) l.a l.b x y leads)
  Steps-sound (WithLink new) at x y (l, has, _, _, leads) =
      (l, inl has, Leads-from_step (direction_of relation l.kind) l.a l.b x y leads)
  Steps-sound (AfterMerge source target) at x y (l, has, _, _, leads) =
      some_led (AfterMerge source target) relation x y l leads (λ m is one. (m, (l, has, is), one))

  module _ (walked : IsOneSided relation) (two : HaveTwoEnds (Holds held)) where
    pub Steps-held : (x y : ℕ) → Steps relation (Holds held) x y → LeadsFrom NoEdit held relation x x y
    Steps-held x y (l, has, leads) = (
      l,
      has,
      Leads-first (direction_of relation l.kind) l.a l.b x y leads,
      side_of_lead relation walked l x y (two l has) leads,
      step_from_Leads (direction_of relation l.kind) l.a l.b x y leads,
    )

    pub Steps-with : (new : Link) (x y : ℕ) → Steps relation (HeldAfter (WithLink new) held) x y
        → LeadsFrom (WithLink new) held relation x x y ⊎ (step_along relation new x ≡ Some y)
    Steps-with new x y (l, inl has, leads) = inl (Steps-held x y (l, has, leads))
    Steps-with new x y (l, inr same, leads) =
        inr (ap (λ (w : Link). step_along relation w x) same ∙ step_from_Leads (direction_of relation l.kind) l.a l.b
        x y leads)

    pub Steps-with_new : (new : Link) (x y : ℕ) → step_along relation new x ≡ Some y
        → Steps relation (HeldAfter (WithLink new) held) x y
    Steps-with_new new x y leads =
        (new, inr refl, Leads-from_step (direction_of relation new.kind) new.a new.b x y leads)

    module _ (source target : ℕ) where
      -- A link that leads from x after a merge led from x before the merge, or from the source if x is the target.
      lead_back : (d : Direction) (a b x y : ℕ) → LinkLeads d (node_after (AfterMerge source target) a)
          (node_after (AfterMerge source target) b) x y
          → (at : ℕ) × (z : ℕ) × (node_after (AfterMerge source target) at ≡ x) × LinkLeads d a b at z
      lead_back Forward a b x y (e, f) = (a, b, e, (refl, refl))
      lead_back Backward a b x y (e, f) = (b, a, e, (refl, refl))
      lead_back Either a b x y (inl (e, f)) = (a, b, e, inl (refl, refl))
      lead_back Either a b x y (inr (e, f)) = (b, a, e, inr (refl, refl))
      lead_back Never a b x y h = absurd h

      led_same : (x y : ℕ) (l m : Link) → link_after_merge source target l ≡ Some m
          → LinkLeads (direction_of relation m.kind) m.a m.b x y
          → LinkLeads (direction_of relation l.kind) (node_after (AfterMerge source target) l.a)
          (node_after (AfterMerge source target) l.b) x y
      led_same x y l m is leads = grind (arith, common_steps, link_after_merge-ends)

      pub Steps-merged_held : (x y : ℕ) → Steps relation (HeldAfter (AfterMerge source target) held) x y
          → (at : ℕ) × (z : ℕ) × (node_after (AfterMerge source target) at ≡ x) × Steps relation (Holds held) at z
      Steps-merged_held x y (m, (l, has, is), leads) =
          let back = lead_back (direction_of relation l.kind) l.a l.b x y (led_same x y l m is leads) in
          (back.0, back.1, back.2, (l, has, back.3))

      -- If no link leads from a node before a merge, and none from the source if the node is the target, then none
      -- leads from the node after the merge.
      pub Steps-merged_none : (x : ℕ) → ((z : ℕ) → Steps relation (Holds held) x z → ⊥)
          → (x ≡ target → (z : ℕ) → Steps relation (Holds held) source z → ⊥)
          → (y : ℕ) → Steps relation (HeldAfter (AfterMerge source target) held) x y → ⊥
      Steps-merged_none x none also y steps =
          let back = Steps-merged_held x y steps in
          elim (at_cases back.0) [
            | inl (at, sent) ↦ also (sym back.2 ∙ sent) back.1
                (subst (λ (w : ℕ). Steps relation (Holds held) w back.1) at back.3)
            | inr at ↦ none back.1 (subst (λ (w : ℕ). Steps relation (Holds held) w back.1) (sym at ∙ back.2) back.3)
          ]
        where
          at_cases : (n : ℕ) → ((n ≡ source) × (node_after (AfterMerge source target) n ≡ target))
              ⊎ (node_after (AfterMerge source target) n ≡ n)
          at_cases n = grind arith

      -- After a merge, each step from a node is that of a link held at the node, or at the source if the node is the
      -- target.
      pub Steps-merged : (x y : ℕ) → Steps relation (HeldAfter (AfterMerge source target) held) x y
          → (at : ℕ) × (node_after (AfterMerge source target) at ≡ x) × LeadsFrom (AfterMerge source target) held
          relation at x y
      Steps-merged x y (m, (l, has, is), leads) =
          let back = lead_back (direction_of relation l.kind) l.a l.b x y (led_same x y l m is leads) in (
            back.0,
            back.2,
            (
              l,
              has,
              Leads-first (direction_of relation l.kind) l.a l.b back.0 back.1 back.3,
              side_of_lead relation walked l back.0 back.1 (two l has) back.3,
              ap (option_and_then (λ m. step_along relation m x)) is ∙ step_from_Leads (direction_of relation m.kind)
                  m.a m.b x y leads,
            ),
          )

pub on_one : (at : ℕ) (side : Side) (l : Link) → HasEnd at l → side_at at l ≡ side → one_on_side at side l ≡ 1
on_one at side l ends is = grind (arith, common_steps, Decides-eqb, or_left, or_right)

module _ (held : Links) (at : ℕ) (side : Side) (row : List Link) (part : Part) (is_row : IsRow held at row)
    (is_part : IsPart row at side part) where
  -- The length of a range is at most the number of links on its side.
  pub part_cost : (ns : List Link) → CoversSide held at side ns → part.to - part.from ≤ sum_by (one_on_side at side) ns
  part_cost ns stands =
      let few : length places ≤ sum_by (one_on_side at side) ns =
      length-once (one_on_side at side) places ns (once_take (part.to - part.from) (drop part.from row)
      (once_drop part.from row (once_from_pairs row is_row.once)))
      (λ l has. let is = stood l has in stands l is.0 is.1 is.2)
      (λ l has. let is = stood l has in omega (arith, on_one at side l is.1 is.2)) in
      omega (arith, length-take (part.to - part.from) (drop part.from row), length-drop part.from row, is_part.in_range)
    where
      places : List Link
      places = take (part.to - part.from) (drop part.from row)

      stood : (l : Link) → Contains places l → Holds held l × HasEnd at l × (side_at at l ≡ side)
      stood l (k, lt, is) =
          let below : k < part.to - part.from = omega (arith, length-take (part.to - part.from) (drop part.from row)) in
          let on_side : part.from + k < length row = omega (arith, is_part.in_range) in
          let there : get_or row (part.from + k) l ≡ l = sym (get_or-drop part.from row k l)
          ∙ sym (get_or-take (part.to - part.from) (drop part.from row) k l below) ∙ is in
          let sound = is_row.sound l (part.from + k, on_side, there) in (
            sound.0,
            sound.1,
            is_part.on_side (part.from + k) l (slice_get-get_or row (part.from + k) l on_side
                ∙ ap Some there) (omega arith) (omega arith),
          )
