-- The neighbourhood that thes_base defines for a check, an addition or a merge has all links that the searches may
-- read.
use Rattle.std.proofs.lemmas.Grind.{common_steps}
use Rattle.std.proofs.Common.{◌≡◌, ◌⊎◌, inl, inr, ℕ, List, Bool, Contains, refl, sym, arith}
use Rattle.std.specs.FinSet.{insert}
use Rattle.thes_base.specs.declared.data.Link.{Link}
use Rattle.thes_base.specs.Links.{Links, Holds, HasEnd, IsBelow, IsExactMatch, links_after_merge}
use Rattle.thes_base.specs.Neighbourhood.{Add, Merge, Recheck}
use Rattle.thes_base.specs.Neighbourhood as edit
use Rattle.thes_links.specs.declared.edit.LinkEdit.TheVariants.{NoEdit, WithLink, AfterMerge}
use Rattle.thes_links.specs.LinkEdit.{HeldAfter}
use Rattle.thes_links.specs.Rules.{IsNearPivot}
use Rattle.thes_walks.specs.EditChecks.{IsChanged, CoversEdit}
use Rattle.thes_links.proofs.NormLemmas.{IsEntailedBy, IsEntailedBy-itself, above_to, exact_to}
use Rattle.thes_links.proofs.ContractLemmas.{inserted_to, would_to}

-- If a node is near another by some links, it is also near by other links that entail the same relations.
near_to : (Would After : Link → Type 0) → ((l : Link) → Would l → (m : Link) × After m × IsEntailedBy l m) → (p n : ℕ)
    → IsNearPivot Would p n
    → (n ≡ p) ⊎ IsBelow After p n ⊎ IsBelow After n p ⊎ IsExactMatch After p n
near_to Would After to p n (inl (inl same)) = inl (sym same)
near_to Would After to p n (inl (inr above)) = inr (inl (above_to Would After to p n above))
near_to Would After to p n (inr (inl below)) = inr (inr (inl (above_to Would After to n p below)))
near_to Would After to p n (inr (inr alike)) = inr (inr (inr (exact_to Would After to p n alike)))

module _ (is_outside : ℕ → Bool) (held : Links) (ns : List Link) where
  pub check_neighbourhood : (p : ℕ) → edit.HasNeighbourhood is_outside (Recheck p) held ns → CoversEdit NoEdit held p ns
  check_neighbourhood p has l there n near at = grind (arith, common_steps, IsEntailedBy-itself, near_to)

  pub add_neighbourhood : (new : Link) → edit.HasNeighbourhood is_outside (Add new) held ns → Contains ns new
      × CoversEdit (WithLink new) held new.a ns
  add_neighbourhood new has = (
    has new (inl refl, (new.a, new.a, refl, inl refl, inl refl)),
    λ l there n near at.
        has l (inr there, near_one l n at near),
  )
    where
      near_one : (l : Link) (n : ℕ) → HasEnd n l → IsChanged (WithLink new) new.a n
          ⊎ IsNearPivot (HeldAfter (WithLink new) held) new.a n
          → (e : ℕ) × (m : ℕ) × (e ≡ new.a) × edit.IsNear is_outside (Add new) held e m × HasEnd m l
      near_one l n at (inl same) = (new.a, n, refl, inl (sym same), at)
      near_one l n at (inr close) = (
        new.a,
        n,
        refl,
        near_to (HeldAfter (WithLink new) held) (Holds (insert held new)) (inserted_to held new)
            new.a n close,
        at,
      )

  pub merge_neighbourhood : (source target : ℕ) → edit.HasNeighbourhood is_outside (Merge source target) held ns
      → CoversEdit (AfterMerge source target) held target ns
  merge_neighbourhood source target has l there n near at = has l (there, near_one near)
    where
      near_one : IsChanged (AfterMerge source target) target n ⊎ IsNearPivot (HeldAfter (AfterMerge source target) held)
          target n
          → (e : ℕ) × (m : ℕ) × ((e ≡ source) ⊎ (e ≡ target)) × edit.IsNear is_outside (Merge source target) held e m
          × HasEnd m l
      near_one (inl (inl same)) = (n, n, inl (sym same), inl refl, at)
      near_one (inl (inr same)) = (n, n, inr (sym same), inl refl, at)
      near_one (inr close) = (
        target,
        n,
        inr refl,
        near_to (HeldAfter (AfterMerge source target) held)
            (Holds (links_after_merge is_outside source target held)) (would_to is_outside source target held)
            target n close,
        at,
      )
