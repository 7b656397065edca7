-- Once a request is taken back, the parts of the thesaurus are those of the state before it.
use Rattle.std.proofs.Common.{◌≡◌, ◌≢◌, ◌+◌, ℕ, length, List, [], ◌∷◌, ◌++◌, refl, sym, ap, ◌∙◌, subst, inl, inr, arith}
use Rattle.std.proofs.Common.{Bool, true, false, length-append}
use Rattle.std.specs.Prelude.{None, Some}
use Rattle.std.specs.FinSet as set
use Rattle.thes_base.specs.declared.data.Link.{Link}
use Rattle.thes_base.specs.declared.data.LinkKind.{LinkKind}
use Rattle.thes_base.specs.declared.data.Resource.{Resource}
use Rattle.thes_base.specs.declared.request.Command.TheVariants as request
use Rattle.thes_base.specs.Changes.{scheme_resource, concept_resource, collection_resource, outside_resource}
use Rattle.thes_base.specs.Data.{LabelData}
use Rattle.thes_base.specs.Labels.{Label, Labels, UniquePreferred}
use Rattle.thes_base.specs.Links.{Links, Holds, HasEnd, normal_form}
use Rattle.thes_base.specs.Machine.{link, owned_label}
use Rattle.thes_base.specs.RefusalRules.{accepted}
use Rattle.thes_base.specs.Resources.{CanOwn, is_outside, is_outside_kind, scheme_of}
use Rattle.thes_base.specs.RuleParts.{unless_droppable, unless_new_label}
use Rattle.thes_base.specs.State.{State}
use Rattle.thes_base.proofs.LabelSetLemmas.{labels_total, labels_exact, inserted_kept, inserted_new, removed_cases}
use Rattle.thes_base.proofs.LinkSetLemmas.{links_total, links_exact}
use Rattle.thes_base.proofs.NumberedLemmas.{numbered_bound}
use Rattle.thes_base.proofs.RefusalRuleLemmas.{passed_if, passed_unless}
use Rattle.thes_base.proofs.ResourceLemmas.{passes_push, passes_pop}
use Rattle.thes_links.specs.GraphView.{GraphView, is_marked}
use Rattle.thes_vocab.specs.TakingBack.{IsBeforeCreation, IsBeforeOutside}
use Rattle.thes_vocab.specs.Vocabulary.{Vocabulary, IsLiveOwner, vocabulary_of, with_labels}
use Rattle.thes_vocab.proofs.SetUndoLemmas.{insert_then_remove, remove_then_insert}
use Rattle.thes_core.specs.CoreView.{without_postings}
use Rattle.thes_core.specs.Requests.{PartsOfState}
use Rattle.thes_core.specs.UndoLogs.{ArePartsAfter, ArePartsAfterCreation}
use Rattle.thes_core.specs.declared.thesaurus.Thesaurus.{Thesaurus}
use Rattle.thes_core.proofs.ApplyLemmas.{parts_become_state}
use Rattle.thes_core.proofs.OutsideLemmas.{knows_unmarked}
use Rattle.thes_core.proofs.OutsideLemmas.{same_outside}

-- Assumes that a label was added.
module _ (t : Thesaurus) (owner : ℕ) (d : LabelData) (s : State)
    (is : ArePartsAfter (request.AddLabel owner d) s t) where
  abbrev added : Label
  added = owned_label owner d

  owned_then : CanOwn s.resources owner
  owned_then = (passed_unless (passed_unless is.accepts.row).1).0

  absent_then : set.contains s.labels added ≡ true → ⊥
  absent_then = (passed_if (passed_unless (passed_unless (passed_unless is.accepts.row).1).1).1).0

  resources_then : t.vocab.resources ≡ s.resources
  resources_then = ap (λ (x : State). x.resources) is.state

  labels_now : t.vocab.labels ≡ set.insert s.labels added
  labels_now = ap (λ (x : State). x.labels) is.state

  pub added_owner : IsLiveOwner t.vocab.resources owner
  added_owner = subst (λ (rs : List Resource). IsLiveOwner rs owner) (sym resources_then)
      (record { can = owned_then; live = (passed_unless (passed_unless (passed_unless is.accepts.row).1).1).0 })

  pub added_droppable : unless_droppable t.vocab.labels added accepted None
  added_droppable =
      let named = is.legal.labels.named owner owned_then in
      let other : set.contains s.labels added ≡ true → ⊥ = absent_then in
      subst (λ (ls : Labels). unless_droppable ls added accepted None) (sym labels_now)
      (inr (
        inserted_new s.labels added,
        inr (
          inr (
            named.0,
            named.1,
            inserted_kept s.labels added _ named.2,
            λ same. other (subst (λ (l : Label). set.contains s.labels l ≡ true) same named.2),
          ),
          refl,
        ),
      ))

  pub parts_before_added : (v : Vocabulary) → v ≡ with_labels t.vocab (set.remove t.vocab.labels added)
      → PartsOfState t (without_postings s) (record t { vocab = v })
  parts_before_added v e =
      let labels_then = ap (λ (ls : Labels). set.remove ls added) labels_now
      ∙ insert_then_remove labels_total labels_exact s.labels added absent_then in
      parts_become_state e refl refl (λ i. record {
        resources = resources_then i;
        iris = ap (λ (x : State). x.iris) is.state i;
        labels = labels_then i;
        links = ap (λ (x : State). x.links) is.state i;
        histories = [];
      }) refl is.outside

-- Assumes that a label was removed.
module _ (t : Thesaurus) (owner : ℕ) (d : LabelData) (s : State)
    (is : ArePartsAfter (request.DropLabel owner d) s t) where
  abbrev dropped : Label
  dropped = owned_label owner d

  held_then : set.contains s.labels dropped ≡ true
  held_then = (passed_unless (passed_unless (passed_unless (passed_unless is.accepts.row).1).1).1).0

  resources_kept : t.vocab.resources ≡ s.resources
  resources_kept = ap (λ (x : State). x.resources) is.state

  labels_without : t.vocab.labels ≡ set.remove s.labels dropped
  labels_without = ap (λ (x : State). x.labels) is.state

  labels_again : set.insert t.vocab.labels dropped ≡ s.labels
  labels_again = ap (λ (ls : Labels). set.insert ls dropped) labels_without
      ∙ remove_then_insert labels_total labels_exact s.labels dropped held_then

  pub dropped_owner : IsLiveOwner t.vocab.resources owner
  dropped_owner = subst (λ (rs : List Resource). IsLiveOwner rs owner) (sym resources_kept) (record {
    can = (passed_unless (passed_unless is.accepts.row).1).0;
    live = (passed_unless (passed_unless (passed_unless is.accepts.row).1).1).0;
  })

  pub dropped_addable : unless_new_label t.vocab.labels t.vocab.resources (set.insert t.vocab.labels dropped) dropped
      accepted None
  dropped_addable =
      let unique = subst (λ (rs : List Resource). UniquePreferred rs s.labels) (sym resources_kept)
      is.legal.labels.unique in
      subst (λ (ls : Labels). unless_new_label t.vocab.labels t.vocab.resources ls dropped accepted None)
      (sym labels_again)
      (inr (
        λ held. (removed_cases s.labels dropped dropped
            (subst (λ (ls : Labels). set.contains ls dropped ≡ true) labels_without held)).0 refl,
        inr (is.legal.labels.disjoint, inr (is.legal.labels.one_preferred, inr (unique, refl))),
      ))

  pub parts_before_dropped : (v : Vocabulary) → v ≡ with_labels t.vocab (set.insert t.vocab.labels dropped)
      → PartsOfState t (without_postings s) (record t { vocab = v })
  parts_before_dropped v e =
      parts_become_state e refl refl (λ i. record {
        resources = resources_kept i;
        iris = ap (λ (x : State). x.iris) is.state i;
        labels = labels_again i;
        links = ap (λ (x : State). x.links) is.state i;
        histories = [];
      }) refl is.outside

-- Assumes that the graph marks the outside concepts of a state.
module _ (t : Thesaurus) (s : State) (same : t.vocab.resources ≡ s.resources)
    (marks : (n : ℕ) → is_marked t.graph n ≡ is_outside t.vocab.resources n) where
  normal_then : (l : Link) → normal_form (is_marked t.graph) l ≡ normal_form (is_outside s.resources) l
  normal_then l = ap (λ (f : ℕ → Bool). normal_form f l) (λ i n. (marks n
      ∙ ap (λ (rs : List Resource). is_outside rs n) same) i)

-- Assumes that a link was added.
module _ (t : Thesaurus) (kind : LinkKind) (a b : ℕ) (s : State) (is : ArePartsAfter (request.Link kind a b) s t) where
  abbrev new_link : Link
  new_link = normal_form (is_outside s.resources) (link kind a b)

  unheld_then : Holds s.links new_link → ⊥
  unheld_then = (passed_if (passed_unless (passed_if (passed_unless (passed_unless (passed_unless
      is.accepts.row).1).1).1).1).1).0

  pub parts_before_link : (g : GraphView) → g ≡ record t.graph {
    links = set.remove t.graph.links (normal_form (is_marked t.graph) (link kind a b));
  } → PartsOfState t (without_postings s) (record t { graph = g })
  parts_before_link g e =
      let normal = normal_then t s (ap (λ (x : State). x.resources) is.state) is.outside (link kind a b) in
      let links_then = (λ i. set.remove (ap (λ (x : State). x.links) is.state i) (normal i))
      ∙ insert_then_remove links_total links_exact s.links new_link unheld_then in
      parts_become_state refl e refl (λ i. record {
        resources = ap (λ (x : State). x.resources) is.state i;
        iris = ap (λ (x : State). x.iris) is.state i;
        labels = ap (λ (x : State). x.labels) is.state i;
        links = links_then i;
        histories = [];
      }) refl is.outside

-- Assumes that a link was removed.
module _ (t : Thesaurus) (kind : LinkKind) (a b : ℕ) (s : State)
    (is : ArePartsAfter (request.Unlink kind a b) s t) where
  abbrev old_link : Link
  old_link = normal_form (is_outside s.resources) (link kind a b)

  link_then : Holds s.links old_link
  link_then = (passed_unless (passed_unless (passed_if (passed_unless (passed_unless (passed_unless
      is.accepts.row).1).1).1).1).1).0

  pub unlinked_ends : a ≢ b
  unlinked_ends = (passed_if (passed_unless (passed_unless (passed_unless is.accepts.row).1).1).1).0

  pub parts_before_unlink : (g : GraphView) → g ≡ record t.graph {
    links = set.insert t.graph.links (normal_form (is_marked t.graph) (link kind a b));
  } → PartsOfState t (without_postings s) (record t { graph = g })
  parts_before_unlink g e =
      let normal = normal_then t s (ap (λ (x : State). x.resources) is.state) is.outside (link kind a b) in
      let links_again = (λ i. set.insert (ap (λ (x : State). x.links) is.state i) (normal i))
      ∙ remove_then_insert links_total links_exact s.links old_link link_then in
      parts_become_state refl e refl (λ i. record {
        resources = ap (λ (x : State). x.resources) is.state i;
        iris = ap (λ (x : State). x.iris) is.state i;
        labels = ap (λ (x : State). x.labels) is.state i;
        links = links_again i;
        histories = [];
      }) refl is.outside

-- A new resource that isn't an outside concept doesn't change which numbers are those of outside concepts.
outside_before : (rs : List Resource) (r : Resource) → is_outside_kind r.kind ≡ false → (n : ℕ)
    → is_outside (rs ++ r ∷ []) n ≡ is_outside rs n
outside_before rs r kind n = sym (same_outside rs (rs ++ r ∷ []) n (passes_push rs r (λ x. is_outside_kind x.kind) n)
    (λ p. elim (passes_pop rs r (λ x. is_outside_kind x.kind) n p)
    [ inl old ↦ old | inr new ↦ absurd (let bad = sym kind ∙ new.1 in cc) ]))

-- Assumes that a resource was created with a preferred label.
module _ (t : Thesaurus) (tag text : List ℕ) (s : State) (is : ArePartsAfterCreation tag text s t) where
  abbrev before_creation : Vocabulary
  before_creation = vocabulary_of t.vocab.base s

  pub created_last : IsBeforeCreation tag text before_creation t.vocab
  created_last = record {
    legal = is.legal.resources;
    named = is.legal.labels;
    resource = is.resource;
    created = λ i. record {
      base = t.vocab.base;
      resources = ap (λ (x : State). x.resources) is.state i;
      iris = ap (λ (x : State). x.iris) is.state i;
      labels = ap (λ (x : State). x.labels) is.state i;
    };
  }

  pub parts_before_creation : (v : Vocabulary) → v ≡ before_creation
      → PartsOfState t (without_postings s) (record t { vocab = v })
  parts_before_creation v e =
      parts_become_state e refl refl (λ i. record {
        resources = s.resources;
        iris = s.iris;
        labels = s.labels;
        links = ap (λ (x : State). x.links) is.state i;
        histories = [];
      }) refl (λ n. is.outside n ∙ ap (λ (rs : List Resource). is_outside rs n)
      (ap (λ (x : State). x.resources) is.state) ∙ outside_before s.resources is.resource is.inside n)

-- Assumes that an outside concept was created.
module _ (t : Thesaurus) (iri : List ℕ) (s : State) (is : ArePartsAfter (request.Outside iri) s t) where
  abbrev before_outside : Vocabulary
  before_outside = vocabulary_of t.vocab.base s

  pub outside_last : IsBeforeOutside iri before_outside t.vocab
  outside_last = record {
    legal = is.legal.resources;
    named = is.legal.labels;
    created = λ i. record {
      base = t.vocab.base;
      resources = ap (λ (x : State). x.resources) is.state i;
      iris = ap (λ (x : State). x.iris) is.state i;
      labels = ap (λ (x : State). x.labels) is.state i;
    };
  }

  -- Assumes the number of the last resource.
  module _ (n : ℕ) (number : n ≡ length t.vocab.resources) where
    outside_number : n ≡ length s.resources + 1
    outside_number = number ∙ ap (λ (x : State). length x.resources) is.state
        ∙ length-append s.resources (outside_resource ∷ [])

    pub unlinked_outside : (l : Link) → Holds t.graph.links l → HasEnd n l → ⊥
    unlinked_outside l held has =
        let live = (is.legal.links.each l (subst (λ (links : Links). Holds links l)
        (ap (λ (x : State). x.links) is.state) held)).live in
        let a = numbered_bound s.resources l.a live.0.0 live.0.1 in
        let b = numbered_bound s.resources l.b live.1.0 live.1.1 in
        elim has [
          | inl same ↦ omega (arith, a.1, same, outside_number)
          | inr same ↦ omega (arith, b.1, same, outside_number)
        ]

    pub parts_before_outside : (v : Vocabulary) (g : GraphView) → v ≡ before_outside
        → g ≡ record t.graph { outside = set.remove t.graph.outside n }
        → PartsOfState t (without_postings s) (record t { vocab = v; graph = g })
    parts_before_outside v g is_v is_g =
        parts_become_state is_v is_g refl (λ i. record {
          resources = s.resources;
          iris = s.iris;
          labels = s.labels;
          links = ap (λ (x : State). x.links) is.state i;
          histories = [];
        }) refl (λ m. ap (λ k. set.contains (set.remove t.graph.outside k) m) outside_number
        ∙ knows_unmarked s.resources t.graph.outside (λ q. is.outside q ∙ ap (λ (x : State). is_outside x.resources q)
        is.state) m)

-- The number of the resource that was created last.
pub number_of_created : (t : Thesaurus) (tag text : List ℕ) (s : State) → ArePartsAfterCreation tag text s t
    → length t.vocab.resources ≡ length s.resources + 1
number_of_created t tag text s is = ap (λ (x : State). length x.resources) is.state
    ∙ length-append s.resources (is.resource ∷ [])

-- The requests that create a resource with a preferred label.
module _ (t : Thesaurus) (tag text : List ℕ) (s : State) where
  pub scheme_created : ArePartsAfter (request.Scheme tag text) s t → ArePartsAfterCreation tag text s t
  scheme_created is = record {
    legal = is.legal;
    resource = scheme_resource;
    inside = refl;
    state = is.state;
    outside = is.outside;
  }

  pub concept_created : (scheme : ℕ) → ArePartsAfter (request.Concept scheme tag text) s t
      → ArePartsAfterCreation tag text s t
  concept_created scheme is = record {
    legal = is.legal;
    resource = concept_resource (Some scheme);
    inside = refl;
    state = is.state;
    outside = is.outside;
  }

  pub collection_created : (scheme : ℕ) → ArePartsAfter (request.Collection scheme tag text) s t
      → ArePartsAfterCreation tag text s t
  collection_created scheme is = record {
    legal = is.legal;
    resource = collection_resource scheme;
    inside = refl;
    state = is.state;
    outside = is.outside;
  }

  pub split_created : (source : ℕ) (postings : List ℕ) → ArePartsAfter (request.Split source tag text postings) s t
      → ArePartsAfterCreation tag text s t
  split_created source postings is = record {
    legal = is.legal;
    resource = concept_resource (scheme_of s.resources source);
    inside = refl;
    state = is.state;
    outside = is.outside;
  }

-- The source of a split isn't the concept that it created.
pub split_source_apart : (t : Thesaurus) (source : ℕ) (tag text postings : List ℕ) (s : State)
    → ArePartsAfter (request.Split source tag text postings) s t → (n : ℕ) → n ≡ length t.vocab.resources → source ≢ n
split_source_apart t source tag text postings s is n number same =
    let bound = numbered_bound s.resources source is.accepts.0 is.accepts.1 in
    let count = number_of_created t tag text s (split_created t tag text s source postings is) in
    omega (arith, bound.1, same, number, count)
