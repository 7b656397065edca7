-- Proves that a core built from the parts of loaded rows holds the state that the rows encode.
use Rattle.std.proofs.Common.{◌≡◌, ◌∙◌, sym, ap, subst, List, ℕ, false}
use Rattle.std.specs.Prelude.{Ok}
use Rattle.thes_base.specs.Legal.{IsLegalState}
use Rattle.thes_base.specs.State.{State}
use Rattle.thes_post.specs.PostingCounts.{ArePostingCounts}
use Rattle.thes_tables.specs.Cells.{Raw}
use Rattle.thes_tables.specs.Tables.{Tables}
use Rattle.thes_vocab.specs.Vocabulary.{Vocabulary}
use Rattle.thes_load_rules.specs.Verdicts.{HasVerdict}
use Rattle.thes_load_rules.specs.Rules.{state_of}
use Rattle.thes_load_rules.proofs.LoadedStateLemmas.{loaded_state_legal}
use Rattle.thes_core.specs.CoreView.{CoreView, IsViewOf}
use Rattle.thes_core.specs.Parts.{ArePartsOf}
use Rattle.thes_load_rows.specs.declared.stage_steps.LoadedParts.{LoadedParts}
use Rattle.thes_load_rows.specs.declared.stage.Stage.{Stage}
use Rattle.thes_load_rows.specs.Progress.{HasRead, HasNames, is_stopped}
use Rattle.thes_load_rows.specs.LinksSoFar.{HasLinks}
use Rattle.thes_load_rows.specs.LoadResults.{LoadResult}
use Rattle.thes_load_rows.specs.Turns.{IsOfRows}
use Rattle.thes_office.specs.LoadedCore.{IsLoaded}

-- The state that the rows encode has these parts, and is legal.
parts_of_state : (raw : Raw) (parts : LoadedParts) (t : Tables) → HasVerdict raw (Ok t)
    → HasNames parts.linked_vocab.vocab t → HasLinks t.resource parts.linked_vocab.graph t.link t.hier
    → ArePostingCounts (state_of t).histories parts.book
    → ArePartsOf (state_of t) parts.linked_vocab.vocab parts.linked_vocab.graph.links parts.book
    × IsLegalState parts.linked_vocab.vocab.base (state_of t)
parts_of_state raw parts t loads names links posting_counts = (
  record {
    resources = ap (λ (v : Vocabulary). v.resources) names;
    iris = ap (λ (v : Vocabulary). v.iris) names;
    labels = ap (λ (v : Vocabulary). v.labels) names;
    links_are = links.are;
    posting_counts_are = posting_counts;
  },
  subst (λ (b : List ℕ). IsLegalState b (state_of t)) (sym (ap (λ (v : Vocabulary). v.base) names))
      (loaded_state_legal raw t loads).0,
)

-- A stage that has read rows and ends without a fault has the parts of a legal state.
pub parts_legal : (read : Stage) (parts : LoadedParts) → IsOfRows read → is_stopped read ≡ false
    → ((raw : Raw) → HasRead read raw → LoadResult raw (Ok parts))
    → (s : State) × ArePartsOf s parts.linked_vocab.vocab parts.linked_vocab.graph.links parts.book
    × IsLegalState parts.linked_vocab.vocab.base s
parts_legal read parts rows reads ends =
    let r = rows reads in
    let e = ends r.0 r.1 in
    let told = parts_of_state r.0 parts e.0 e.1 e.2 e.3 e.4 in
    (state_of e.0, told.0, told.1)

pub core_is_loaded : (raw : Raw) (parts : LoadedParts) (core : CoreView)
    → ((s : State) → ArePartsOf s parts.linked_vocab.vocab parts.linked_vocab.graph.links parts.book
    → IsLegalState parts.linked_vocab.vocab.base s → IsViewOf core s)
    → core.setting.base ≡ parts.linked_vocab.vocab.base → LoadResult raw (Ok parts) → IsLoaded raw core
core_is_loaded raw parts core holds base (t, loads, names, links, posting_counts) =
    let told = parts_of_state raw parts t loads names links posting_counts in
    (t, loads, holds (state_of t) told.0 told.1, base ∙ ap (λ (v : Vocabulary). v.base) names)
