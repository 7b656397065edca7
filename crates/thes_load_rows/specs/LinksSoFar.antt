-- The rows of the tables link and hier read so far, and the graph of their links.
use Rattle.std.specs.Prelude.{◌≡◌, ◌≢◌, ◌≤◌, ℕ, List, Bool, true, false}
use Rattle.std.specs.FinSet.{empty, insert}
use Rattle.thes_base.specs.declared.data.Resource.{Resource}
use Rattle.thes_base.specs.declared.data.Link.{Link}
use Rattle.thes_base.specs.Resources.{IsLive, is_outside}
use Rattle.thes_base.specs.Links.{Holds, form_of}
use Rattle.thes_base.specs.Legal.{IsLegalLink}
use Rattle.thes_base.specs.Refusals.{AreEnds, HaveSchemes}
use Rattle.thes_tables.specs.declared.rows.HierRow.{HierRow}
use Rattle.thes_tables.specs.Tables.{AreDistinct, hier_link}
use Rattle.thes_links.specs.GraphView.{GraphView, is_marked, MarksOutside}
use Rattle.thes_load_rules.specs.Rules.{EachRow, LinkRule, links_of}

-- The link is legal, except that its ends may have to be swapped.
pub record IsFitLink (resources : List Resource) (l : Link) : Type 0 where
  pub ends : AreEnds resources (form_of l.kind) l.a l.b
  pub live : IsLive resources l.a × IsLive resources l.b
  pub two : l.a ≢ l.b
  pub schemes : HaveSchemes resources (form_of l.kind) l.a l.b

-- The graph has no links. It marks only outside concepts, and all those among the first `most` resources.
pub record MarksFirst (resources : List Resource) (most : ℕ) (graph : GraphView) : Type 0 where
  pub links : graph.links ≡ empty
  pub sound : (n : ℕ) → is_marked graph n ≡ true → is_outside resources n ≡ true
  pub complete : (n : ℕ) → n ≤ most → is_outside resources n ≡ true → is_marked graph n ≡ true

-- The result of adding a link: true if it is legal and new and was added, false if it isn't legal or was there before.
abbrev pub AddLinkResult : List Resource → GraphView → GraphView → Link → Bool → Type 0
AddLinkResult resources old new l true =
    IsLegalLink resources l × (Holds old.links l → ⊥) × (new ≡ record old { links = insert old.links l })
AddLinkResult resources old new l false = IsLegalLink resources l → Holds old.links l

-- The graph has exactly the links of these rows, which are legal, and marks exactly the outside concepts.
pub record HasLinks (resources : List Resource) (graph : GraphView) (links : List Link) (hier : List HierRow) : Type 0
  where
    pub rule : LinkRule resources links
    pub once : AreDistinct hier
    pub each : EachRow (λ row. IsLegalLink resources (hier_link row)) hier
    pub are : graph.links ≡ links_of links hier
    pub marked : MarksOutside resources graph
