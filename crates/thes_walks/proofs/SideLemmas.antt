-- The links of a relation lie on its side of a node.
use Rattle.std.proofs.lemmas.Grind.{common_steps}
use Rattle.std.proofs.Common.{◌≡◌, ◌≢◌, ◌==◌, ◌<◌, ◌≤◌, ℕ, List, true, false}
use Rattle.std.proofs.Common.{Some, slice_get, refl, sym}
use Rattle.std.proofs.Common.{ap, ◌∙◌, arith}
use Rattle.std.proofs.lemmas.Bool.{false_from_ne_true}
use Rattle.std.proofs.lemmas.Bool.Decides.{Decides-eqb}
use Rattle.std.proofs.lemmas.Option.{slice_get-get_or}
use Rattle.thes_base.specs.declared.data.Link.{Link}
use Rattle.thes_base.specs.declared.data.LinkKind.{LinkKind}
use Rattle.thes_base.specs.declared.data.LinkKind.TheVariants.{Broader, Related, Exact, RelMatch}
use Rattle.thes_base.specs.declared.data.Direction.TheVariants.{Either}
use Rattle.thes_base.specs.Links.{Links, Holds, broader_direction, related_direction, exact_direction, LinkLeads}
use Rattle.thes_links.specs.declared.relation.Relation.{Relation}
use Rattle.thes_links.specs.declared.relation.Relation.TheVariants as relation
use Rattle.thes_links.specs.declared.side.Side.TheVariants.{Up, Sideways, Alike, Down}
use Rattle.thes_links.specs.declared.side.Part.{Part}
use Rattle.thes_links.specs.Side.{side_by_directions, side_at, IsPart, IsOneSided, side_in}
use Rattle.thes_links.specs.Reading.{HaveTwoEnds, IsRow}
use Rattle.thes_links.specs.Steps.{reverse_of, direction_of, Steps}
use Rattle.thes_links.proofs.NumberLemmas.{same_of}
use Rattle.thes_links.proofs.StepLemmas.{Leads-first}

module _ (a b n y : ℕ) (two : a ≢ b) where
  first_here : a ≡ n → (a == n) ≡ true
  first_here = (Decides-eqb a n).1

  second_here : b ≡ n → (a == n) ≡ false
  second_here at = false_from_ne_true (a == n) (λ e. two (same_of a n e ∙ sym at))

  never_either : (k : LinkKind) → broader_direction k ≡ Either → ⊥
  never_either Broader e = cc
  never_either _ e = cc

  up_side : (k : LinkKind) → LinkLeads (broader_direction k) a b n y → side_by_directions (broader_direction k) (a == n)
      (related_direction k) (exact_direction k) ≡ Up
  up_side k leads = grind (arith, common_steps, first_here, never_either, second_here)

  down_side : (k : LinkKind) → LinkLeads (reverse_of (broader_direction k)) a b n y
      → side_by_directions (broader_direction k)
      (a == n) (related_direction k) (exact_direction k) ≡ Down
  down_side k leads = grind (arith, common_steps, first_here, never_either, second_here)

  beside_side : (k : LinkKind) → LinkLeads (related_direction k) a b n y
      → side_by_directions (broader_direction k) (a == n)
      (related_direction k) (exact_direction k) ≡ Sideways
  beside_side Related leads = refl
  beside_side RelMatch leads = refl
  beside_side _ leads = absurd leads

  alike_side : (k : LinkKind) → LinkLeads (exact_direction k) a b n y
      → side_by_directions (broader_direction k) (a == n)
      (related_direction k) (exact_direction k) ≡ Alike
  alike_side Exact leads = refl
  alike_side _ leads = absurd leads

pub side_of_lead : (r : Relation) → IsOneSided r → (l : Link) (n y : ℕ) → l.a ≢ l.b
    → LinkLeads (direction_of r l.kind) l.a l.b n y → side_at n l ≡ side_in r
side_of_lead relation.Broader walked l n y two leads = up_side l.a l.b n y two l.kind leads
side_of_lead relation.Narrower walked l n y two leads = down_side l.a l.b n y two l.kind leads
side_of_lead relation.Related walked l n y two leads = beside_side l.a l.b n y two l.kind leads
side_of_lead relation.Exact walked l n y two leads = alike_side l.a l.b n y two l.kind leads
side_of_lead relation.Apart walked l n y two leads = absurd walked

-- If the range of a node's links on the side of the relation is empty, no link leads from the node in the relation.
pub no_steps : (held : Links) (r : Relation) (n : ℕ) (row : List Link) (part : Part) → IsOneSided r
    → HaveTwoEnds (Holds held) → IsRow held n row → IsPart row n (side_in r) part → part.to ≤ part.from
    → (y : ℕ) → Steps r (Holds held) n y → ⊥
no_steps held r n row part walked two_ends is_row is empty y (l, has, leads) =
    let at = is_row.complete l has (Leads-first (direction_of r l.kind) l.a l.b n y leads) in
    let here : slice_get row at.0 ≡ Some l = slice_get-get_or row at.0 l at.1 ∙ ap Some at.2 in
    let in_range = is.has at.0 l here (side_of_lead r walked l n y (two_ends l has) leads) in
    let low : part.from ≤ at.0 = in_range.0 in
    let high : at.0 < part.to = in_range.1 in
    absurd (omega arith)
