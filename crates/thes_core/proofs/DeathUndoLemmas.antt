-- Once a concept's death is taken back, the parts of the thesaurus are those of the state before it.
use Rattle.std.proofs.Common.{◌≡◌, ◌∙◌, ℕ, List, [], Bool, refl, ap}
use Rattle.std.specs.Prelude.{Option, None}
use Rattle.thes_base.specs.declared.data.Link.{Link}
use Rattle.thes_base.specs.declared.data.Resource.{Resource}
use Rattle.thes_base.specs.declared.request.Command.TheVariants as request
use Rattle.thes_base.specs.Changes.{resources_after_death}
use Rattle.thes_base.specs.Links.{Links, normal_form}
use Rattle.thes_base.specs.Resources.{IsConcept, IsLive, IsLiveConcept, is_outside}
use Rattle.thes_base.specs.State.{State}
use Rattle.thes_base.proofs.RefusalRuleLemmas.{passed_unless}
use Rattle.thes_base.proofs.ResourceLemmas.{live_from_test, live_of_parts}
use Rattle.thes_links.specs.GraphView.{GraphView, is_marked}
use Rattle.thes_links.specs.Reading.{IsRow}
use Rattle.thes_graph.specs.MergeAdditions.{AreNew, with_all}
use Rattle.thes_graph.proofs.LinkUndoLemmas.{addable_again, links_again}
use Rattle.thes_vocab.specs.TakingBack.{IsBeforeDeath}
use Rattle.thes_vocab.specs.Vocabulary.{Vocabulary, vocabulary_of}
use Rattle.thes_core.specs.CoreView.{without_postings}
use Rattle.thes_core.specs.Requests.{PartsOfState}
use Rattle.thes_core.specs.UndoLogs.{ArePartsAfter}
use Rattle.thes_core.specs.declared.thesaurus.Thesaurus.{Thesaurus}
use Rattle.thes_core.proofs.ApplyLemmas.{parts_become_state}
use Rattle.thes_core.proofs.OutsideLemmas.{outside_marked_dead}

pub live_concept : (s : State) (n : ℕ) → IsConcept s.resources n → IsLive s.resources n → IsLiveConcept s.resources n
live_concept s n concept live = live_from_test s.resources n (live_of_parts s.resources n concept live)

-- Assumes that a concept of a state was marked as dead.
module _ (t : Thesaurus) (s : State) (n : ℕ) (replaced : Option ℕ)
    (dead : t.vocab.resources ≡ resources_after_death n replaced s.resources)
    (marks : (m : ℕ) → is_marked t.graph m ≡ is_outside t.vocab.resources m) where
  pub marks_before_death : (m : ℕ) → is_marked t.graph m ≡ is_outside s.resources m
  marks_before_death m = marks m ∙ ap (λ (rs : List Resource). is_outside rs m) dead
      ∙ outside_marked_dead s.resources n replaced m

  pub normal_before_death : (l : Link) → normal_form (is_marked t.graph) l ≡ normal_form (is_outside s.resources) l
  normal_before_death l = ap (λ (f : ℕ → Bool). normal_form f l) (λ i m. marks_before_death m i)

-- Assumes that a concept was deprecated.
module _ (t : Thesaurus) (concept : ℕ) (s : State) (is : ArePartsAfter (request.Deprecate concept) s t) where
  dead_then : t.vocab.resources ≡ resources_after_death concept None s.resources
  dead_then = ap (λ (x : State). x.resources) is.state

  pub before_deprecation : IsBeforeDeath concept None (vocabulary_of t.vocab.base s) t.vocab
  before_deprecation = record {
    legal = is.legal.resources;
    named = is.legal.labels;
    live = live_concept s concept (passed_unless (passed_unless is.accepts.row).1).0
        (passed_unless (passed_unless (passed_unless is.accepts.row).1).1).0;
    dead = λ i. record {
      base = t.vocab.base;
      resources = dead_then i;
      iris = ap (λ (x : State). x.iris) is.state i;
      labels = ap (λ (x : State). x.labels) is.state i;
    };
  }

  -- Assumes the links that the concept had.
  module _ (row : List Link) (had : IsRow s.links concept row) where
    pub links_may_return : AreNew t.graph row
    links_may_return = addable_again concept s.links row had t.graph (ap (λ (x : State). x.links) is.state)
        (λ l held. (is.legal.links.each l held).two)
        (λ l held. normal_before_death t s concept None dead_then is.outside l ∙ (is.legal.links.each l held).ordered)

    pub parts_before_deprecation : (v : Vocabulary) (g : GraphView) → v ≡ vocabulary_of t.vocab.base s
        → g ≡ record t.graph { links = with_all t.graph.links row }
        → PartsOfState t (without_postings s) (record t { vocab = v; graph = g })
    parts_before_deprecation v g is_v is_g =
        let links_then = ap (λ (ls : Links). with_all ls row) (ap (λ (x : State). x.links) is.state)
        ∙ links_again concept s.links row had in
        parts_become_state is_v is_g refl (λ i. record {
          resources = s.resources;
          iris = s.iris;
          labels = s.labels;
          links = links_then i;
          histories = [];
        }) refl (marks_before_death t s concept None dead_then is.outside)
