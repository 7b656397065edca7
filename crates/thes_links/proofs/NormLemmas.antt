-- A link and its normal form entail the same relations, so that links and their normal forms break the same rules.
use Rattle.std.proofs.lemmas.Grind.{common_steps}
use Rattle.std.proofs.Common.{◌≡◌, ◌≢◌, ◌⊎◌, inl, inr, ℕ, Option, Some, None, subst, Bool, true, arith}
use Rattle.std.proofs.Common.{nat_lt}
use Rattle.thes_base.specs.declared.data.Link.{Link}
use Rattle.thes_base.specs.declared.data.LinkKind.{LinkKind}
use Rattle.thes_base.specs.declared.data.Direction.TheVariants.{Either}
use Rattle.thes_base.specs.declared.fault.Refusal.{Refusal}
use Rattle.thes_base.specs.Links.{broader_direction, related_direction, exact_direction, disjoint_direction}
use Rattle.thes_base.specs.Links.{is_symmetric, reversed_link, normal_form, LinkLeads, IsJoined, IsNarrower, IsBelow}
use Rattle.thes_base.specs.Links.{IsRelated, IsExactMatch, IsDisjointMatch, NoCycle, S27, S46, IsFirstBroken, Links}
use Rattle.thes_base.specs.Links.{Holds, HasEnd}
use Rattle.thes_base.specs.declared.fault.Refusal.TheVariants as no
use Rattle.thes_base.specs.declared.data.LinkKind.TheVariants.{Related, Exact, Close, RelMatch}
use Rattle.thes_links.proofs.PivotLemmas.{Chain-map, BreakNone-within}
use Rattle.thes_links.specs.Rules.{BreakNone, HeldAwayFrom}
use Rattle.thes_base.proofs.LinkSetLemmas.{link_inserted_cases}
use Rattle.thes_base.proofs.LegalLinkLemmas.{two_lts}
use Rattle.std.specs.FinSet.{insert}
use Rattle.std.proofs.lemmas.Bool.{cases_eq}

pub ends_or_not : (n : ℕ) (l : Link) → HasEnd n l ⊎ (HasEnd n l → ⊥)
ends_or_not n l = grind (arith, common_steps, cases_eq)

-- The link m entails each relation between nodes that the link l entails.
pub record IsEntailedBy (l m : Link) : Type 0 where
  pub broader : (x y : ℕ) → LinkLeads (broader_direction l.kind) l.a l.b x y → LinkLeads (broader_direction m.kind)
      m.a m.b x y
  pub related : (x y : ℕ) → LinkLeads (related_direction l.kind) l.a l.b x y → LinkLeads (related_direction m.kind)
      m.a m.b x y
  pub exact : (x y : ℕ) → LinkLeads (exact_direction l.kind) l.a l.b x y → LinkLeads (exact_direction m.kind) m.a m.b
      x y
  pub apart : (x y : ℕ) → LinkLeads (disjoint_direction l.kind) l.a l.b x y → LinkLeads (disjoint_direction m.kind)
      m.a m.b x y

exchange : (a b x y : ℕ) → LinkLeads Either a b x y → LinkLeads Either b a x y
exchange a b x y (inl h) = inr h
exchange a b x y (inr h) = inl h

IsEntailedBy-exchanged : (k : LinkKind) (outside : Bool) → is_symmetric outside k ≡ true → (a b : ℕ)
    → IsEntailedBy (record { kind = k; a = a; b = b }) (record { kind = k; a = b; b = a })
IsEntailedBy-exchanged Related o h a b = record {
  broader = λ x y r. r;
  related = exchange a b;
  exact =
      λ x y r. r;
  apart = λ x y r. r;
}
IsEntailedBy-exchanged Exact o h a b = record {
  broader = λ x y r. r;
  related = λ x y r. r;
  exact = exchange a b;
  apart = λ x y r. r;
}
IsEntailedBy-exchanged Close o h a b = record {
  broader = λ x y r. r;
  related = λ x y r. r;
  exact =
      λ x y r. r;
  apart = λ x y r. r;
}
IsEntailedBy-exchanged RelMatch o h a b = record {
  broader = λ x y r. r;
  related = exchange a b;
  exact =
      λ x y r. r;
  apart = exchange a b;
}
IsEntailedBy-exchanged _ o h a b = cc

pub IsEntailedBy-itself : (l : Link) → IsEntailedBy l l
IsEntailedBy-itself l = record { broader = λ x y r. r; related = λ x y r. r; exact = λ x y r. r; apart = λ x y r. r }

-- A link and its normal form entail the same relations.
pub norm-says : (is_outside : ℕ → Bool) (l : Link) → IsEntailedBy l (normal_form is_outside l)
    × IsEntailedBy (normal_form is_outside l) l
norm-says is_outside l = grind (arith, common_steps, IsEntailedBy-exchanged, IsEntailedBy-itself)

-- Assumes that each link of P is entailed by a link of Q: P then breaks no rule that Q keeps.
module _ (P Q : Link → Type 0) (to : (l : Link) → P l → (m : Link) × Q m × IsEntailedBy l m) where
  broader_to : (x y : ℕ) → IsNarrower P x y → IsNarrower Q x y
  broader_to x y (l, p, r) = let t = to l p in (t.0, t.1, t.2.broader x y r)

  related_to : (x y : ℕ) → IsRelated P x y → IsRelated Q x y
  related_to x y (l, p, r) = let t = to l p in (t.0, t.1, t.2.related x y r)

  exact_step_to : (x y : ℕ) → IsJoined P exact_direction x y → IsJoined Q exact_direction x y
  exact_step_to x y (l, p, r) = let t = to l p in (t.0, t.1, t.2.exact x y r)

  apart_to : (x y : ℕ) → IsDisjointMatch P x y → IsDisjointMatch Q x y
  apart_to x y (l, p, r) = let t = to l p in (t.0, t.1, t.2.apart x y r)

  pub above_to : (x y : ℕ) → IsBelow P x y → IsBelow Q x y
  above_to = Chain-map (IsNarrower P) (IsNarrower Q) broader_to

  pub exact_to : (x y : ℕ) → IsExactMatch P x y → IsExactMatch Q x y
  exact_to = Chain-map (IsJoined P exact_direction) (IsJoined Q exact_direction) exact_step_to

  no_cycle_back : NoCycle Q → NoCycle P
  no_cycle_back c1 = record { none = λ x above. c1.none x (above_to x x above) }

  s27_back : S27 Q → S27 P
  s27_back s27 = record { none = λ x y related above. s27.none x y (related_to x y related) (above_to x y above) }

  s46_back : S46 Q → S46 P
  s46_back s46 = record { none = λ x y exact apart. s46.none x y (exact_to x y exact) (apart_to x y apart) }

pub IsFirstBroken-same : (P Q : Link → Type 0) → ((l : Link) → P l → (m : Link) × Q m × IsEntailedBy l m)
    → ((l : Link) → Q l → (m : Link) × P m × IsEntailedBy l m)
    → (r : Option Refusal) → IsFirstBroken P r → IsFirstBroken Q r
IsFirstBroken-same P Q to back None (c1, s27, s46) =
    (no_cycle_back Q P back c1, s27_back Q P back s27, s46_back Q P back s46)
IsFirstBroken-same P Q to back (Some no.Cycle) (x, above) = (x, above_to P Q to x x above)
IsFirstBroken-same P Q to back (Some no.S27) (c1, (x, y, related, above)) =
    (no_cycle_back Q P back c1, (x, y, related_to P Q to x y related, above_to P Q to x y above))
IsFirstBroken-same P Q to back (Some no.S46) (c1, s27, (x, y, exact, apart)) =
    (no_cycle_back Q P back c1, s27_back Q P back s27, (x, y, exact_to P Q to x y exact, apart_to P Q to x y apart))
IsFirstBroken-same P Q to back (Some _) h = absurd h

pub norm_cases : (f : ℕ → Bool) (l : Link) → (normal_form f l ≡ l)
    ⊎ ((normal_form f l ≡ reversed_link l) × (nat_lt l.b l.a ≡ true))
norm_cases f l = grind (arith, common_steps)

pub norm_again : (f : ℕ → Bool) (l : Link) → normal_form f (normal_form f l) ≡ normal_form f l
norm_again f l = grind (arith, common_steps, norm_cases, two_lts)

pub norm_two : (f : ℕ → Bool) (l : Link) → l.a ≢ l.b → (normal_form f l).a ≢ (normal_form f l).b
norm_two f l two = grind (arith, common_steps, norm_cases)

-- A link and its normal form have the same ends.
pub norm_ends : (f : ℕ → Bool) (l : Link) (n : ℕ) → HasEnd n (normal_form f l) → HasEnd n l
norm_ends f l n = grind (arith, common_steps, norm_cases)

pub ends_norm : (f : ℕ → Bool) (l : Link) (n : ℕ) → HasEnd n l → HasEnd n (normal_form f l)
ends_norm f l n = grind (arith, common_steps, norm_cases)

-- If the links break no rule and one with an end at p is added, those without an end at p break none, as `check_at`
-- requires.
pub away_of_added : (is_outside : ℕ → Bool) (links : Links) (l : Link) (p : ℕ) → HasEnd p l → BreakNone (Holds links)
    → BreakNone (HeldAwayFrom (Holds (insert links (normal_form is_outside l))) p)
away_of_added is_outside links l p at =
    BreakNone-within (HeldAwayFrom (Holds (insert links (normal_form is_outside l))) p) (Holds links) old
  where
    off : HasEnd p (normal_form is_outside l) → (normal_form is_outside l).a ≢ p → (normal_form is_outside l).b ≢ p → ⊥
    off (inl a) not_a not_b = not_a a
    off (inr b) not_a not_b = not_b b

    old : (m : Link) → HeldAwayFrom (Holds (insert links (normal_form is_outside l))) p m → Holds links m
    old m (held, not_a, not_b) = elim (link_inserted_cases links (normal_form is_outside l) m held) [
      | inl same ↦ absurd (off (ends_norm is_outside l p at) (subst (λ (w : Link). w.a ≢ p) same not_a)
          (subst (λ (w : Link). w.b ≢ p) same not_b))
      | inr was ↦ was
    ]
