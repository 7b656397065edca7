-- The checks at the pivot find the first rule that the links after the edit break.
use Rattle.std.proofs.Common.{◌≡◌, ◌≢◌, ◌+◌, ◌⊎◌, inl, inr, ℕ, List, ◌∷◌, ◌++◌, length, ap, sym, subst, ◌∙◌, arith}
use Rattle.std.proofs.Common.{refl, Contains, Option, length-append}
use Rattle.std.proofs.lemmas.List.Elements.{Contains-append_left, Contains-append_right, Contains-append_cases}
use Rattle.thes_base.specs.declared.data.Link.{Link}
use Rattle.thes_base.specs.declared.fault.Refusal.{Refusal}
use Rattle.thes_base.specs.Links.{Links, Holds, S46, IsFirstBroken, HasEnd}
use Rattle.thes_base.proofs.ListMemberLemmas.{Contains-cons_cases}
use Rattle.thes_links.specs.declared.edit.LinkEdit.TheVariants.{NoEdit, WithLink, AfterMerge}
use Rattle.thes_links.specs.Reading.{HaveTwoEnds}
use Rattle.thes_links.specs.LinkEdit.{node_after, HeldAfter, TouchesAt}
use Rattle.thes_links.specs.Rules.{BreakNone, HeldAwayFrom, BreaksS46At, BreaksS46, KeepsS46At, IsFirstBrokenAt}
use Rattle.thes_links.specs.Rules.{CoversNear}
use Rattle.thes_walks.specs.EditChecks.{CoversEdit}
use Rattle.thes_links.proofs.PivotLemmas.{BreakNone-within, s46_pivot, S46-witness, IsFirstBroken-from_pivot}
use Rattle.thes_links.proofs.WeightLemmas.{cut}
use Rattle.thes_links.proofs.EditLemmas.{link_after_merge-ends, link_same}

module _ (held : Links) (new : Link) (two : new.a ≢ new.b) (all_two : HaveTwoEnds (Holds held))
    (legal : BreakNone (Holds held)) where
  with_two : HaveTwoEnds (HeldAfter (WithLink new) held)
  with_two l (inl has) = all_two l has
  with_two l (inr same) = λ ends. two (ap (λ (w : Link). w.a) same ∙ ends ∙ sym (ap (λ (w : Link). w.b) same))

  -- After the addition, the links without an end at the first end of the new link break no rule, since they were held
  -- before.
  with_away : BreakNone (HeldAwayFrom (HeldAfter (WithLink new) held) new.a)
  with_away = BreakNone-within (HeldAwayFrom (HeldAfter (WithLink new) held) new.a) (Holds held) old legal
    where
      old : (l : Link) → HeldAwayFrom (HeldAfter (WithLink new) held) new.a l → Holds held l
      old l (inl has, _, _) = has
      old l (inr same, not_a, _) = absurd (not_a (sym (ap (λ (w : Link). w.a) same)))

  pub S46-with : KeepsS46At (HeldAfter (WithLink new) held) new.a → S46 (HeldAfter (WithLink new) held)
  S46-with = s46_pivot (HeldAfter (WithLink new) held) new.a with_away

  pub BreaksS46-with : BreaksS46At (HeldAfter (WithLink new) held) new.a → BreaksS46 (HeldAfter (WithLink new) held)
  BreaksS46-with = S46-witness (HeldAfter (WithLink new) held) with_two new.a

module _ (held : Links) (source target : ℕ) (two : source ≢ target) (legal : BreakNone (Holds held)) where
  joined_two : HaveTwoEnds (HeldAfter (AfterMerge source target) held)
  joined_two m (l, has, gives) = (link_after_merge-ends source target l m gives).3

  stays : (x y : ℕ) → y ≡ node_after (AfterMerge source target) x → y ≢ target → y ≡ x
  stays x y e off = grind arith

  joined_away : BreakNone (HeldAwayFrom (HeldAfter (AfterMerge source target) held) target)
  joined_away = BreakNone-within (HeldAwayFrom (HeldAfter (AfterMerge source target) held) target) (Holds held) old
      legal
    where
      old : (m : Link) → HeldAwayFrom (HeldAfter (AfterMerge source target) held) target m → Holds held m
      old m ((l, has, gives), not_a, not_b) =
          let ends = link_after_merge-ends source target l m gives in
          subst (λ (w : Link). Holds held w)
          (sym (link_same m.kind l.kind m.a l.a m.b l.b ends.0 (stays l.a m.a ends.1 not_a)
          (stays l.b m.b ends.2 not_b)))
          has

  pub IsFirstBroken-joined : (r : Option Refusal) → IsFirstBrokenAt (HeldAfter (AfterMerge source target) held) target
      r → IsFirstBroken (HeldAfter (AfterMerge source target) held) r
  IsFirstBroken-joined = IsFirstBroken-from_pivot (HeldAfter (AfterMerge source target) held) target joined_away
      joined_two

  place_back : (x n : ℕ) → node_after (AfterMerge source target) x ≡ n → (source ≡ x) ⊎ (n ≡ x)
  place_back x n at = grind arith

  pub CoversNear-joined : (ns : List Link) → CoversEdit (AfterMerge source target) held target ns
      → CoversNear (AfterMerge source target) held target ns
  CoversNear-joined ns all n near l has touch = go touch
    where
      by : (x : ℕ) → ((m : ℕ) → x ≡ m → HasEnd m l) → (source ≡ x) ⊎ (n ≡ x) → Contains ns l
      by x ends (inl same) = all l has source (inl (inl refl)) (ends source (sym same))
      by x ends (inr same) = all l has n (inr near) (ends n (sym same))

      go : TouchesAt (AfterMerge source target) n l → Contains ns l
      go (inl a) = by l.a (λ m e. inl e) (place_back l.a n a)
      go (inr b) = by l.b (λ m e. inr e) (place_back l.b n b)

pub CoversNear-held : (held : Links) (p : ℕ) (ns : List Link) → CoversEdit NoEdit held p ns → CoversNear NoEdit held p
    ns
CoversNear-held held p ns all n near l has touch = all l has n (inr near) touch

-- The held links near a new link, which isn't held, are at least one fewer than the links of a neighbourhood. This
-- leaves one visit for the look-up of the new link.
pub CoversNear-with : (held : Links) (new : Link) (ns : List Link) → (Holds held new → ⊥) → Contains ns new
    → CoversEdit (WithLink new) held new.a ns
    → (rest : List Link) × (length rest + 1 ≡ length ns) × CoversNear (WithLink new) held new.a rest
CoversNear-with held new ns fresh has_new all =
    let c = cut ns new has_new in
    (c.0 ++ c.1, shorter c.0 c.1 c.2, λ n near l has touch. without c.0 c.1 c.2 l has (all l has n (inr near) touch))
  where
    shorter : (before after : List Link) → ns ≡ before ++ new ∷ after → length (before ++ after) + 1 ≡ length ns
    shorter before after is = omega (
      arith,
      ap length is,
      length-append before (new ∷ after),
      length-append before after,
    )

    without : (before after : List Link) → ns ≡ before ++ new ∷ after → (l : Link) → Holds held l → Contains ns l
        → Contains (before ++ after) l
    without before after is l has in_ns =
        elim (Contains-append_cases before (new ∷ after) l (subst (λ (ws : List Link). Contains ws l) is in_ns)) [
          | inl left ↦ Contains-append_left before after l left
          | inr right ↦ elim (Contains-cons_cases new after l right) [
            | inl same ↦ absurd (fresh (subst (λ (w : Link). Holds held w) (sym same) has))
            | inr later ↦ Contains-append_right before after l later
          ]
        ]
