-- The premises of the check of an edit, its answer, and the links near the edit, whose number bounds the visits.
use Rattle.std.specs.Prelude.{◌≡◌, ◌≢◌, ◌⊎◌, ◌+◌, ◌*◌, ◌≤◌, ℕ, Bool, List, Contains, Option, length}
use Rattle.std.specs.FinSet.{insert}
use Rattle.thes_base.specs.declared.data.Direction.TheVariants.{Never}
use Rattle.thes_base.specs.declared.data.Link.{Link}
use Rattle.thes_base.specs.declared.fault.Refusal.{Refusal}
use Rattle.thes_base.specs.declared.fault.Refusal.TheVariants as no
use Rattle.thes_base.specs.RefusalRules.{RefusalRule, refused_if}
use Rattle.thes_base.specs.Links.{Links, Holds, IsFirstBroken, HasEnd, broader_direction}
use Rattle.thes_base.specs.Neighbourhood.{EditToCheck}
use Rattle.thes_base.specs.Neighbourhood as edit
use Rattle.thes_links.specs.declared.edit.LinkEdit.{LinkEdit}
use Rattle.thes_links.specs.declared.edit.LinkEdit.TheVariants.{NoEdit, WithLink, AfterMerge}
use Rattle.thes_links.specs.LinkEdit.{HeldAfter}
use Rattle.thes_links.specs.Rules.{AreSoundWith, BreakNone, CoversNear, IsFirstOfCycleAndS27, IsNearPivot}

-- The premise of the check of a new link between two nodes, or of their merge: the nodes differ, and the links held
-- break no rule.
pub record AreJoinable (held : Links) (a b : ℕ) : Type 0 where
  pub ends : a ≢ b
  pub unbroken : BreakNone (Holds held)

-- The premise of the check of a new link that leads neither up nor down: it and the links held are sound.
pub record AreSoundWithLevel (held : Links) (new : Link) : Type 0 where
  pub sound : AreSoundWith held new
  pub level : broader_direction new.kind ≡ Never

-- The result of a check of a new link for Cycle and S27: the first of the two that the links held and the new one break
-- together, or none. The count grows by at most four visits for each link near the new one's first end.
pub record IsCycleAndS27Result (held : Links) (new : Link) (before after : ℕ) (answer : Option Refusal) : Type 0 where
  pub first : IsFirstOfCycleAndS27 (HeldAfter (WithLink new) held) answer
  pub count : (ns : List Link) → CoversNear (WithLink new) held new.a ns → after ≤ before + 4 * length ns

-- The answer to the check of a new link in normal form: LinkThere if it is held, or else the first rule that the links
-- with it break.
abbrev pub checks_of_add : Links → Link → RefusalRule
checks_of_add held new = refused_if (Holds held new) no.LinkThere (IsFirstBroken (Holds (insert held new)))

-- The edit changes node n: n is the pivot p, around which the edit is checked, or the source of the merge.
abbrev pub IsChanged : LinkEdit → (p n : ℕ) → Type 0
IsChanged NoEdit p n = p ≡ n
IsChanged (WithLink new) p n = p ≡ n
IsChanged (AfterMerge source target) p n = (source ≡ n) ⊎ (p ≡ n)

-- The list has each held link with an end at a changed node, or at a node near p after the edit: above p, below p or in
-- p's class of exact matches. Every neighbourhood of the edit is such a list.
abbrev pub CoversEdit : LinkEdit → Links → (p : ℕ) → List Link → Type 0
CoversEdit edit held p ns =
    (l : Link) → Holds held l → (n : ℕ) → IsChanged edit p n ⊎ IsNearPivot (HeldAfter edit held) p n → HasEnd n l
    → Contains ns l

-- The count grows by at most six visits for each link in the neighbourhood of the edit.
abbrev pub AreFewVisits : (is_outside : ℕ → Bool) → EditToCheck → Links → (before after : ℕ) → Type 0
AreFewVisits is_outside made held before after =
    (ns : List Link) → edit.HasNeighbourhood is_outside made held ns → after ≤ before + 6 * length ns
