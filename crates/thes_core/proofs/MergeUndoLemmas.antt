-- Once a merge is taken back, the parts of the thesaurus are those of the state before it.
use Rattle.std.proofs.Common.{◌≡◌, ◌≢◌, ◌⊎◌, ◌∙◌, ℕ, List, [], Bool, Contains, inl, inr, refl, sym, ap, subst}
use Rattle.std.specs.Prelude.{Some}
use Rattle.std.specs.FinSet as set
use Rattle.thes_base.specs.declared.data.Link.{Link}
use Rattle.thes_base.specs.declared.request.Command.TheVariants as request
use Rattle.thes_base.specs.Changes.{copied_labels, resources_after_death}
use Rattle.thes_base.specs.Labels.{Labels}
use Rattle.thes_base.specs.Legal.{AreLegalLabels}
use Rattle.thes_base.specs.Links.{Links, Holds, links_after_merge, normal_form}
use Rattle.thes_base.specs.Resources.{IsConcept, IsLive, is_outside}
use Rattle.thes_base.specs.State.{State}
use Rattle.thes_base.proofs.CopiedLabelLemmas.{labels_merged}
use Rattle.thes_base.proofs.LabelSetLemmas.{labels_total, labels_exact}
use Rattle.thes_base.proofs.RefusalRuleLemmas.{passed_if, passed_unless}
use Rattle.thes_links.specs.GraphView.{GraphView, is_marked}
use Rattle.thes_links.proofs.NormLemmas.{ends_or_not}
use Rattle.thes_graph.specs.MergeAdditions.{AreAddedLinks, AreNew, with_all, without_links}
use Rattle.thes_graph.proofs.LinkUndoLemmas.{links_restored}
use Rattle.thes_post.specs.PostingCounts.{PostingCounts}
use Rattle.thes_vocab.specs.LabelRows.{labels_of_owner}
use Rattle.thes_vocab.specs.TakingBack.{IsBeforeDeath}
use Rattle.thes_vocab.specs.Vocabulary.{Vocabulary, vocabulary_from, vocabulary_of, with_labels}
use Rattle.thes_vocab.proofs.MergedRowLemmas.{missing_new, missing_set}
use Rattle.thes_vocab.proofs.SetUndoLemmas.{union_then_difference}
use Rattle.thes_core.specs.CoreView.{without_postings}
use Rattle.thes_core.specs.Losses.{IsMergeLoss}
use Rattle.thes_core.specs.Requests.{PartsAccept, PartsOfState}
use Rattle.thes_core.specs.UndoLogs.{ArePartsAfter}
use Rattle.thes_core.specs.declared.losses.MergeLoss.{MergeLoss}
use Rattle.thes_core.specs.declared.thesaurus.Thesaurus.{Thesaurus}
use Rattle.thes_core.proofs.ApplyLemmas.{parts_become_state}
use Rattle.thes_core.proofs.DeathUndoLemmas.{live_concept, marks_before_death}
use Rattle.thes_core.proofs.MergeLinkLemmas.{link_stays, no_end_at_source}
use Rattle.thes_core.proofs.RequestCheckLemmas.{outside_same}

-- The links that a merge adds to the graph are those that it adds to the state.
pub added_to_state : (t : Thesaurus) (source target : ℕ) (added : List Link)
    → PartsAccept t [] (request.Merge source target)
    → AreAddedLinks t.graph.links (links_after_merge (is_marked t.graph) source target t.graph.links) added
    → AreAddedLinks t.graph.links (links_after_merge (is_outside t.vocab.resources) source target t.graph.links) added
added_to_state t source target added ok are =
    subst (λ (f : ℕ → Bool). AreAddedLinks t.graph.links (links_after_merge f source target t.graph.links) added)
    (outside_same t [] ok.kept) are

-- Assumes that the source was merged into the target.
module _ (t : Thesaurus) (source target : ℕ) (s : State) (is : ArePartsAfter (request.Merge source target) s t) where
  concepts_then : IsConcept s.resources source × IsConcept s.resources target
  concepts_then = (passed_unless (passed_unless is.accepts.row).1).0

  live_then : IsLive s.resources source × IsLive s.resources target
  live_then = (passed_unless (passed_unless (passed_unless is.accepts.row).1).1).0

  pub merged_apart : source ≢ target
  merged_apart = (passed_if (passed_unless (passed_unless (passed_unless is.accepts.row).1).1).1).0

  dead_then : t.vocab.resources ≡ resources_after_death source (Some target) s.resources
  dead_then = ap (λ (x : State). x.resources) is.state

  merged_then : t.graph.links ≡ links_after_merge (is_outside s.resources) source target s.links
  merged_then = ap (λ (x : State). x.links) is.state

  abbrev copied : Labels
  copied = copied_labels source target s.labels

  -- The vocabulary with the source live, and with the copied labels.
  abbrev pub merged_vocabulary : Vocabulary
  merged_vocabulary = vocabulary_from t.vocab.base s.resources s.iris (set.union s.labels copied)

  pub before_merge_death : IsBeforeDeath source (Some target) merged_vocabulary t.vocab
  before_merge_death = record {
    legal = is.legal.resources;
    named = labels_merged s.resources s.labels source target is.legal.labels (inr (inl concepts_then.1));
    live = live_concept s source concepts_then.0 live_then.0;
    dead = λ i. record {
      base = t.vocab.base;
      resources = dead_then i;
      iris = ap (λ (x : State). x.iris) is.state i;
      labels = ap (λ (x : State). x.labels) is.state i;
    };
  }

  marks : (m : ℕ) → is_marked t.graph m ≡ is_outside s.resources m
  marks = marks_before_death t s source (Some target) dead_then is.outside

  -- The graph before the merge.
  abbrev net_then : GraphView
  net_then = record { links = s.links; outside = t.graph.outside }

  two_ends_then : (l : Link) → Holds s.links l → l.a ≢ l.b
  two_ends_then l held = (is.legal.links.each l held).two

  normal_then : (l : Link) → Holds s.links l → normal_form (is_marked net_then) l ≡ l
  normal_then l held = ap (λ (f : ℕ → Bool). normal_form f l) (λ i m. marks m i) ∙ (is.legal.links.each l held).ordered

  merged_net : t.graph.links ≡ links_after_merge (is_marked net_then) source target s.links
  merged_net = merged_then ∙ ap (λ (f : ℕ → Bool). links_after_merge f source target s.links) (λ i m. sym (marks m) i)

  -- Assumes the links that the merge removed and added, and the labels that it copied.
  module _ (loss : MergeLoss) (lost : IsMergeLoss source target s loss) where
    abbrev copies : Labels
    copies = labels_of_owner target loss.copies.items

    copies_are : copies ≡ copied
    copies_are = missing_set s.labels source target is.legal.labels.disjoint loss.copies.items lost.copies

    labels_left : set.difference (set.union s.labels copied) copies ≡ s.labels
    labels_left = ap (set.difference (set.union s.labels copied)) copies_are
        ∙ union_then_difference labels_total labels_exact s.labels copied
        (missing_new s.labels source target is.legal.labels.disjoint loss.copies.items lost.copies)

    -- Assumes that the source is live again.
    module _ (v : Vocabulary) (alive : v ≡ merged_vocabulary) where
      pub copies_droppable : AreLegalLabels v.resources (set.difference v.labels copies)
      copies_droppable = subst (λ (x : Vocabulary). AreLegalLabels x.resources (set.difference x.labels copies))
          (sym alive) (subst (AreLegalLabels s.resources) (sym labels_left) is.legal.labels)

      pub vocabulary_before_merge : (w : Vocabulary) → w ≡ with_labels v (set.difference v.labels copies)
          → w ≡ vocabulary_of t.vocab.base s
      vocabulary_before_merge w dropped =
          dropped ∙ ap (λ (x : Vocabulary). with_labels x (set.difference x.labels copies)) alive
          ∙ ap (with_labels merged_vocabulary) labels_left

    pub links_may_come_back : AreNew t.graph loss.links.items
    links_may_come_back = record {
      two_ends = λ l has. two_ends_then l (lost.links.sound l has).0;
      normal = λ l has. normal_then l (lost.links.sound l has).0;
      new = λ l has held. no_end_at_source net_then source target merged_apart two_ends_then normal_then l
          (lost.links.sound l has).1 (subst (λ (links : Links). Holds links l) merged_net held);
    }

    stays_or_returns : (l : Link) → Holds s.links l → Contains loss.links.items l ⊎ Holds t.graph.links l
    stays_or_returns l held = elim (ends_or_not source l) [
      | inl has ↦ inl (lost.links.complete l held has)
      | inr off ↦ inr (subst (λ (links : Links). Holds links l) (sym merged_net)
          (link_stays net_then source target merged_apart two_ends_then normal_then l held off))
    ]

    links_before : without_links (with_all t.graph.links loss.links.items) loss.additions.items ≡ s.links
    links_before = links_restored s.links t.graph.links loss.links.items loss.additions.items
        (λ l has. (lost.links.sound l has).0) stays_or_returns
        (subst (λ (links : Links). AreAddedLinks s.links links loss.additions.items) (sym merged_then) lost.additions)

    pub parts_before_merge : (v : Vocabulary) (g : GraphView) (book : PostingCounts) → v ≡ vocabulary_of t.vocab.base s
        → g ≡ record t.graph {
          links = without_links (with_all t.graph.links loss.links.items) loss.additions.items;
        } → PartsOfState t (without_postings s) (record t { vocab = v; graph = g; book = book })
    parts_before_merge v g book is_v is_g =
        parts_become_state is_v is_g refl (λ i. record {
          resources = s.resources;
          iris = s.iris;
          labels = s.labels;
          links = links_before i;
          histories = [];
        }) refl marks
