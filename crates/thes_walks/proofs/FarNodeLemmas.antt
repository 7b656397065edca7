-- A link on the side of a relation leads in this relation to its other end, or, after an edit, to the node that
-- replaces that end.
use Rattle.std.proofs.lemmas.Grind.{common_steps}
use Rattle.std.proofs.Common.{◌≡◌, ◌⊎◌, ◌==◌, inl, inr, ℕ, Bool, true, false, Some, None, refl, sym, ap, subst, ◌∙◌}
use Rattle.std.proofs.Common.{arith}
use Rattle.std.specs.Prelude.{if◌then◌else◌, option_and_then}
use Rattle.thes_base.specs.declared.data.Link.{Link}
use Rattle.thes_base.specs.declared.data.LinkKind.{LinkKind}
use Rattle.thes_base.specs.declared.data.LinkKind.TheVariants.{Related, Exact, RelMatch}
use Rattle.thes_base.specs.declared.data.Direction.{Direction}
use Rattle.thes_base.specs.declared.data.Direction.TheVariants.{Forward, Backward, Either, Never}
use Rattle.thes_base.specs.Links.{broader_direction, related_direction, exact_direction, LinkLeads, HasEnd, redirect}
use Rattle.thes_links.specs.declared.relation.Relation.{Relation}
use Rattle.thes_links.specs.declared.relation.Relation.TheVariants as relation
use Rattle.thes_links.specs.declared.side.Side.TheVariants.{Up, Sideways, Alike, Down}
use Rattle.thes_links.specs.declared.edit.LinkEdit.{LinkEdit}
use Rattle.thes_links.specs.declared.edit.LinkEdit.TheVariants.{NoEdit, WithLink, AfterMerge}
use Rattle.thes_links.specs.LinkEdit.{node_after}
use Rattle.thes_links.specs.Side.{side_by_directions, side_at, IsOneSided, side_in}
use Rattle.thes_links.specs.Steps.{reverse_of, direction_of, step_in, step_along}
use Rattle.thes_links.proofs.NumberLemmas.{same_of, other_of}
use Rattle.thes_links.proofs.StepLemmas.{step_from_Leads}
use Rattle.thes_walks.specs.SideSearch.{other_end, far_node_after, step_after_edit}

-- A link with an end at n leads from n to its other end, if it is followed in this direction.
abbrev LeadsToOther : Direction → (a b n : ℕ) → Type 0
LeadsToOther d a b n = LinkLeads d a b n (if a == n then b else a)

module _ (a b n : ℕ) (ends : (a ≡ n) ⊎ (b ≡ n)) where
  either_way : (first : Bool) → (a == n) ≡ first → LinkLeads Either a b n (if first then b else a)
  either_way true e = inl (same_of a n e, refl)
  either_way false e = inr (elim ends [ inl at ↦ absurd (other_of a n e at) | inr at ↦ at ], refl)

  up_lead : (d : Direction) (first : Bool) → (a == n) ≡ first → (r e : Direction)
      → side_by_directions d first r e ≡ Up → LinkLeads d a b n (if first then b else a)
  up_lead Forward true at r e is = (same_of a n at, refl)
  up_lead Forward false at r e is = cc
  up_lead Backward true at r e is = cc
  up_lead Backward false at r e is = (elim ends [ inl here ↦ absurd (other_of a n at here) | inr here ↦ here ], refl)
  up_lead Either first at Either e is = cc
  up_lead Either first at _ Either is = cc
  up_lead Either first at _ _ is = cc
  up_lead Never first at Either e is = cc
  up_lead Never first at _ Either is = cc
  up_lead Never first at _ _ is = cc

  down_lead : (d : Direction) (first : Bool) → (a == n) ≡ first → (r e : Direction)
      → side_by_directions d first r e ≡ Down → LinkLeads (reverse_of d) a b n (if first then b else a)
  down_lead Forward true at r e is = cc
  down_lead Forward false at r e is = (elim ends [ inl here ↦ absurd (other_of a n at here) | inr here ↦ here ], refl)
  down_lead Backward true at r e is = (same_of a n at, refl)
  down_lead Backward false at r e is = cc
  down_lead Either first at Either e is = cc
  down_lead Either first at _ Either is = cc
  down_lead Either first at _ _ is = cc
  down_lead Never first at Either e is = cc
  down_lead Never first at _ Either is = cc
  down_lead Never first at _ _ is = cc

  beside_lead : (k : LinkKind) → side_by_directions (broader_direction k) (a == n) (related_direction k)
      (exact_direction k) ≡ Sideways → LeadsToOther (related_direction k) a b n
  beside_lead Related is = either_way (a == n) refl
  beside_lead RelMatch is = either_way (a == n) refl
  beside_lead k is = grind (arith, common_steps)

  alike_lead : (k : LinkKind) → side_by_directions (broader_direction k) (a == n) (related_direction k)
      (exact_direction k) ≡ Alike → LeadsToOther (exact_direction k) a b n
  alike_lead Exact is = either_way (a == n) refl
  alike_lead k is = grind (arith, common_steps)

-- A link on the side of a relation leads to its other end.
lead_of_side : (r : Relation) → IsOneSided r → (l : Link) (n : ℕ) → HasEnd n l → side_at n l ≡ side_in r
    → LinkLeads (direction_of r l.kind) l.a l.b n (other_end n l)
lead_of_side relation.Broader walked l n ends is = up_lead l.a l.b n ends (broader_direction l.kind) (l.a == n) refl
    (related_direction l.kind) (exact_direction l.kind) is
lead_of_side relation.Narrower walked l n ends is = down_lead l.a l.b n ends (broader_direction l.kind) (l.a == n)
    refl (related_direction l.kind) (exact_direction l.kind) is
lead_of_side relation.Related walked l n ends is = beside_lead l.a l.b n ends l.kind is
lead_of_side relation.Exact walked l n ends is = alike_lead l.a l.b n ends l.kind is
lead_of_side relation.Apart walked l n ends is = absurd walked

-- A link still leads from one node to another after its ends and both nodes are replaced alike.
lead_replaced : (f : ℕ → ℕ) (d : Direction) (a b x y : ℕ) → LinkLeads d a b x y → LinkLeads d (f a) (f b) (f x) (f y)
lead_replaced f Forward a b x y (e, g) = (ap f e, ap f g)
lead_replaced f Backward a b x y (e, g) = (ap f e, ap f g)
lead_replaced f Either a b x y (inl (e, g)) = inl (ap f e, ap f g)
lead_replaced f Either a b x y (inr (e, g)) = inr (ap f e, ap f g)
lead_replaced f Never a b x y h = absurd h

-- After a merge the other end is the node itself exactly when both ends of the link have become one node.
far_itself : (s t : ℕ) (l : Link) (n : ℕ) → HasEnd n l → (redirect s t (other_end n l) == redirect s t n)
    ≡ (redirect s t l.a == redirect s t l.b)
far_itself s t l n ends = grind (arith, common_steps, same_of, other_of)

pub far_is_step : (edit : LinkEdit) (r : Relation) (at x : ℕ) → IsOneSided r → node_after edit at ≡ x → (l : Link)
    → HasEnd at l → side_at at l ≡ side_in r → far_node_after edit at x l ≡ step_after_edit edit r x l
far_is_step NoEdit r at x walked same l ends is =
    sym (ap (λ n. step_along r l n) (sym same)
    ∙ step_from_Leads (direction_of r l.kind) l.a l.b at (other_end at l) (lead_of_side r walked l at ends is))
far_is_step (WithLink new) r at x walked same l ends is =
    sym (ap (λ n. step_along r l n) (sym same)
    ∙ step_from_Leads (direction_of r l.kind) l.a l.b at (other_end at l) (lead_of_side r walked l at ends is))
far_is_step (AfterMerge s t) r at x walked same l ends is =
    subst (λ n. far_node_after (AfterMerge s t) at n l ≡ step_after_edit (AfterMerge s t) r n l) same
    (ap (λ b. if b then None else Some (redirect s t (other_end at l))) (far_itself s t l at ends)
    ∙ go (redirect s t l.a == redirect s t l.b) refl)
  where
    led : step_in (direction_of r l.kind) (redirect s t l.a) (redirect s t l.b) (redirect s t at)
        ≡ Some (redirect s t (other_end at l))
    led = step_from_Leads (direction_of r l.kind) (redirect s t l.a) (redirect s t l.b) (redirect s t at)
        (redirect s t (other_end at l))
        (lead_replaced (redirect s t) (direction_of r l.kind) l.a l.b at (other_end at l)
        (lead_of_side r walked l at ends is))

    go : (b : Bool) → (redirect s t l.a == redirect s t l.b) ≡ b
        → (if b then None else Some (redirect s t (other_end at l)))
        ≡ step_after_edit (AfterMerge s t) r (redirect s t at) l
    go true e = sym (ap (λ b. option_and_then (λ m. step_along r m (redirect s t at))
        (if b then None else Some (record { kind = l.kind; a = redirect s t l.a; b = redirect s t l.b }))) e)
    go false e = sym (ap (λ b. option_and_then (λ m. step_along r m (redirect s t at))
        (if b then None else Some (record { kind = l.kind; a = redirect s t l.a; b = redirect s t l.b }))) e ∙ led)
