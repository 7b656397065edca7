-- The links after an edit break the same rules as the set that has their normal forms.
use Rattle.std.proofs.lemmas.Grind.{common_steps}
use Rattle.std.proofs.Common.{◌≡◌, ◌≢◌, inl, inr, ℕ, Bool, Option, Some, None, sym, ap, arith}
use Rattle.std.proofs.Common.{subst, if◌then◌else◌}
use Rattle.std.specs.FinSet.{insert}
use Rattle.std.proofs.lemmas.Bool.{eqb-false, ne_eqb}
use Rattle.std.proofs.lemmas.Option.{none-some, same_Some}
use Rattle.thes_base.specs.declared.data.Link.{Link}
use Rattle.thes_base.specs.declared.fault.Refusal.{Refusal}
use Rattle.thes_base.specs.Links.{Links, Holds, normal_form, redirect, redirect_link, links_after_merge, IsFirstBroken}
use Rattle.thes_base.proofs.LinkSetLemmas.{link_inserted_cases, contracted_from as merged_from}
use Rattle.thes_base.proofs.LinkSetLemmas.{contracted_to as merged_to}
use Rattle.thes_links.specs.declared.edit.LinkEdit.TheVariants.{WithLink, AfterMerge}
use Rattle.thes_links.specs.LinkEdit.{HeldAfter, link_after_merge}
use Rattle.thes_links.proofs.NormLemmas.{IsEntailedBy, IsEntailedBy-itself, norm-says, IsFirstBroken-same}
use Rattle.thes_links.proofs.SetLemmas.{inserted_held, insert_keeps}

-- Each link after an addition is entailed by a link of the set into which the new link is inserted.
pub inserted_to : (held : Links) (new l : Link) → HeldAfter (WithLink new) held l → (m : Link)
    × Holds (insert held new) m × IsEntailedBy l m
inserted_to held new l (inl old) = (l, insert_keeps held new l old, IsEntailedBy-itself l)
inserted_to held new l (inr same) = (
  l,
  subst (Holds (insert held new)) same (inserted_held held new),
  IsEntailedBy-itself l,
)

pub IsFirstBroken-inserted : (held : Links) (new : Link) (r : Option Refusal)
    → IsFirstBroken (HeldAfter (WithLink new) held) r → IsFirstBroken (Holds (insert held new)) r
IsFirstBroken-inserted held new = IsFirstBroken-same (HeldAfter (WithLink new) held) (Holds (insert held new))
    (inserted_to held new) from
  where
    from : (l : Link) → Holds (insert held new) l → (m : Link) × HeldAfter (WithLink new) held m × IsEntailedBy l m
    from l has = elim (link_inserted_cases held new l has) [
      | inl same ↦ (l, inr (sym same), IsEntailedBy-itself l)
      | inr old ↦ (l, inl old, IsEntailedBy-itself l)
    ]

module _ (is_outside : ℕ → Bool) (source target : ℕ) (held : Links) where
  becomes_of_two : (l : Link) → redirect source target l.a ≢ redirect source target l.b → link_after_merge source
      target l ≡ Some (redirect_link source target l)
  becomes_of_two l two = ap (λ b. if b then None else Some (redirect_link source target l)) (ne_eqb _ _ two)

  pub two_of_becomes : (l n : Link) → link_after_merge source target l ≡ Some n
      → (redirect source target l.a ≢ redirect source target l.b) × (redirect_link source target l ≡ n)
  two_of_becomes l n e = grind (arith, common_steps, eqb-false, none-some, same_Some)

  -- Each link held after a merge is the normal form of a link held before, with its ends redirected.
  pub contracted_from : (m : Link) → Holds (links_after_merge is_outside source target held) m
      → (l : Link) × (n : Link) × Holds held l × (link_after_merge source target l ≡ Some n)
      × (m ≡ normal_form is_outside n)
  contracted_from m has =
      let c = merged_from is_outside source target held m has in
      (c.0, redirect_link source target c.0, c.1, becomes_of_two c.0 c.2, c.3)

  pub contracted_to : (l n : Link) → Holds held l → link_after_merge source target l ≡ Some n
      → Holds (links_after_merge is_outside source target held) (normal_form is_outside n)
  contracted_to l n has gives =
      let is = two_of_becomes l n gives in
      merged_to is_outside source target held (normal_form is_outside n)
      (l, has, is.0, ap (normal_form is_outside) (sym is.1))

  -- Each link after a merge is entailed by its normal form, which is held after the merge.
  pub would_to : (n : Link) → HeldAfter (AfterMerge source target) held n → (m : Link)
      × Holds (links_after_merge is_outside source target held) m × IsEntailedBy n m
  would_to n (l, has, gives) = (normal_form is_outside n, contracted_to l n has gives, (norm-says is_outside n).0)

  pub IsFirstBroken-contracted : (r : Option Refusal) → IsFirstBroken (HeldAfter (AfterMerge source target) held) r
      → IsFirstBroken (Holds (links_after_merge is_outside source target held)) r
  IsFirstBroken-contracted = IsFirstBroken-same (HeldAfter (AfterMerge source target) held)
      (Holds (links_after_merge is_outside source target held)) would_to from
    where
      from : (m : Link) → Holds (links_after_merge is_outside source target held) m → (n : Link)
          × HeldAfter (AfterMerge source target) held n × IsEntailedBy m n
      from m has =
          let c = contracted_from m has in
          (c.1, (c.0, c.2, c.3), subst (λ (w : Link). IsEntailedBy w c.1) (sym c.4) (norm-says is_outside c.1).1)
