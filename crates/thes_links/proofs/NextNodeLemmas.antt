-- The links of a node's row lead exactly to the nodes to which held links lead from it in the relation.
use Rattle.std.proofs.Common.{◌≡◌, ◌↔◌, ℕ, List, Contains, sym, subst}
use Rattle.std.specs.List.{filter_map}
use Rattle.thes_base.specs.declared.data.Link.{Link}
use Rattle.thes_base.specs.Links.{Links, Holds}
use Rattle.thes_links.specs.declared.relation.Relation.{Relation}
use Rattle.thes_links.specs.Reading.{IsRow}
use Rattle.thes_links.specs.Steps.{Steps, direction_of, step_along}
use Rattle.thes_links.proofs.StepLemmas.{step_from_Leads, Leads-from_step, Leads-first}
use Rattle.thes_links.proofs.EditLemmas.{filter_map-from, filter_map-to}

pub next_nodes-all : (relation : Relation) (held : Links) (n : ℕ) (row : List Link) (next : List ℕ) → IsRow held n row
    → next ≡ filter_map (λ l. step_along relation l n) row
    → (y : ℕ) → Contains next y ↔ Steps relation (Holds held) n y
next_nodes-all relation held n row next is made y = (to, from)
  where
    to : Contains next y → Steps relation (Holds held) n y
    to has =
        let r = filter_map-from (λ (l : Link). step_along relation l n) row y
        (subst (λ (ys : List ℕ). Contains ys y) made has) in
        (r.0, (is.sound r.0 r.1).0, Leads-from_step (direction_of relation r.0.kind) r.0.a r.0.b n y r.2)

    from : Steps relation (Holds held) n y → Contains next y
    from (l, held, leads) =
        subst (λ (ys : List ℕ). Contains ys y) (sym made)
        (filter_map-to (λ (l : Link). step_along relation l n) row l y
        (is.complete l held (Leads-first (direction_of relation l.kind) l.a l.b n y leads))
        (step_from_Leads (direction_of relation l.kind) l.a l.b n y leads))
