-- The parts of a thesaurus as a state, and as the view of a core; and their invariant.
use Rattle.std.specs.Prelude.{Bool, List}
use Rattle.thes_base.specs.declared.data.History.{History}
use Rattle.thes_base.specs.State.{State}
use Rattle.thes_base.specs.Refusals.{Setting, IsSetting}
use Rattle.thes_base.specs.Legal.{IsLegalState}
use Rattle.thes_links.specs.GraphView.{MarksOutside}
use Rattle.thes_core.specs.CoreView.{CoreView}
use Rattle.thes_core.specs.declared.thesaurus.Thesaurus.{Thesaurus}

-- The base and the limits that the parts have.
abbrev pub setting_of : Thesaurus → Setting
setting_of t = record { base = t.vocab.base; limits = t.limits }

-- The state that has the parts' resources, IRIs, labels and links, and these histories.
abbrev pub parts_state : Thesaurus → List History → State
parts_state t histories =
    record {
      resources = t.vocab.resources;
      iris = t.vocab.iris;
      labels = t.vocab.labels;
      links = t.graph.links;
      histories = histories;
    }

-- The parts as the contracts of a core see them; the core is unusable if `spent` is true.
abbrev pub parts_view : Thesaurus → Bool → CoreView
parts_view t spent =
    record {
      resources = t.vocab.resources;
      iris = t.vocab.iris;
      labels = t.vocab.labels;
      links = t.graph.links;
      posting_counts = t.book;
      setting = setting_of t;
      spent = spent;
    }

-- The invariant of the parts: the base and the limits are valid, the parts and these histories are a legal state, and
-- the graph marks exactly the outside concepts.
pub record AreLegal (t : Thesaurus) (histories : List History) : Type 0 where
  pub fit : IsSetting (setting_of t)
  pub legal : IsLegalState t.vocab.base (parts_state t histories)
  pub outside : MarksOutside t.vocab.resources t.graph
