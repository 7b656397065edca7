-- Each accepted request leaves the state sound.
use Rattle.std.proofs.lemmas.Grind.{common_steps}
use Rattle.std.proofs.Common.{◌≡◌, ◌≢◌, ◌⊎◌, ◌<◌, ◌≤◌, ◌^◌, ℕ, zero, suc, ◌+◌, length, List, [], ◌∷◌, ◌++◌, refl, sym}
use Rattle.std.proofs.Common.{ap, ◌∙◌, subst, arith, inl, inr, Bool, true, false, not, ◌&&◌, eqb-true, length-append}
use Rattle.std.proofs.Common.{cond}
use borrow.Author.Tests.{eqb-false}
use Rattle.std.specs.Prelude.{Option, None, Some, max, count_by, slice_get, ◌==◌}
use Rattle.std.proofs.lemmas.List.Sums.{sum_by-cons}
use Rattle.std.specs.FinSet as set
use Rattle.std.specs.FinMap as dict
use Rattle.std.proofs.lemmas.Bool.{and_parts}
use Rattle.thes_base.specs.declared.data.Resource.{Resource}
use Rattle.thes_base.specs.declared.data.Link.{Link}
use Rattle.thes_base.specs.declared.data.History.{History}
use Rattle.thes_base.specs.declared.fault.Refusal.TheVariants as no
use Rattle.thes_base.specs.Resources.{BeginsWith, entry_at, set_entry_at, IsConcept, CanOwn, scheme_of, replacements}
use Rattle.thes_base.specs.Resources.{is_outside, is_concept_kind, is_outside_kind}
use Rattle.thes_base.specs.Labels.{Label, preferred_label_in, UniquePreferred, S13}
use Rattle.thes_base.specs.Links.{normal_form}
use Rattle.thes_base.specs.Postings.{place, is_assigned_to, assigned_count, move_count, path_end}
use Rattle.thes_base.specs.State.{State, IsWithinLimits}
use Rattle.thes_base.specs.Changes.{state_after_creation, state_after_outside, replace_preferred, resource_after_death}
use Rattle.thes_base.specs.Changes.{state_after_deprecation, state_after_merge, state_after_split, is_listed}
use Rattle.thes_base.specs.Changes.{new_history, state_after_post, scheme_resource, concept_resource}
use Rattle.thes_base.specs.Changes.{collection_resource, outside_resource, next_number}
use Rattle.thes_base.specs.Refusals.{Setting, IsSetting}
use Rattle.thes_base.specs.RuleParts.{unless_within_limits}
use Rattle.thes_base.specs.Machine.{HasNewKey, refusal_rule_of, next_state, owned_label, link}
use Rattle.thes_base.specs.Data.{LabelData}
use Rattle.thes_base.specs.declared.data.LinkKind.{LinkKind}
use Rattle.thes_base.specs.declared.request.Command.{Command}
use Rattle.thes_base.specs.declared.request.Command.TheVariants as request
use Rattle.thes_base.specs.Legal.{AreLegalPostings}
use Rattle.thes_base.proofs.SoundStateLemmas.{IsSound}
use Rattle.thes_base.proofs.RefusalRuleLemmas.{passed_if, passed_unless}
use Rattle.thes_base.proofs.NumberedLemmas.{push_new, numbered_bound}
use Rattle.thes_base.proofs.MoveLemmas.{IsAfterMove, numbered_moved, place_moved}
use Rattle.thes_base.proofs.ResourceLemmas.{passes_push, passes_dead, marked_dead_at, live_concept_dead}
use Rattle.thes_base.proofs.ResourceLemmas.{live_of_parts, live_from_test, test_from_live, one_resource}
use Rattle.thes_base.proofs.LegalResourceLemmas.{IsFit, scheme_fit, concept_fit, collection_fit, outside_fit}
use Rattle.thes_base.proofs.LegalResourceLemmas.{own_scheme, resources_push, resources_push_outside, resources_dead}
use Rattle.thes_base.proofs.LegalResourceLemmas.{resources_merged}
use Rattle.thes_base.proofs.LegalLabelLemmas.{MayOwn, outside_owns_none, legal_labels_with_new, labels_push}
use Rattle.thes_base.proofs.LegalLabelLemmas.{labels_added}
use Rattle.thes_base.proofs.LegalLabelLemmas.{labels_dropped, labels_renamed, labels_dead}
use Rattle.thes_base.proofs.CopiedLabelLemmas.{labels_merged}
use Rattle.thes_base.proofs.PreferredLemmas.{preferred_found}
use Rattle.thes_base.proofs.LegalLinkLemmas.{links_push, links_added, links_dropped, links_without, links_contracted}
use Rattle.thes_base.proofs.ForwardingLemmas.{forwards_to_end, end_concept, along_legal}
use Rattle.thes_base.proofs.LegalPostingLemmas.{place_concept, postings_resources, postings_push, postings_withdrawn}
use Rattle.thes_base.proofs.LegalPostingLemmas.{postings_moved}
use Rattle.thes_base.proofs.UniquePreferredLemmas.{made_unique}

-- A count that stays within its limit stays below 2 ^ 32.
bounded : (limit before after : ℕ) → limit < 2 ^ 32 → before < 2 ^ 32 → after ≤ max limit before → after < 2 ^ 32
bounded limit before after l b fits = omega arith

module _ (setting : Setting) (fit : IsSetting setting) (s : State) (sound : IsSound setting.base s) where
  abbrev Accepted : Command → Type 0
  Accepted command = refusal_rule_of setting s (next_state command s) command None

  abbrev KeptBy : Command → Type 0
  KeptBy command = IsSound setting.base (next_state command s)

  few_resources : (after : State) → IsWithinLimits setting.limits s after → length after.resources < 2 ^ 32
  few_resources after within = bounded setting.limits.resources (length s.resources) (length after.resources)
      fit.limits.resources sound.resources.few within.resources

  few_postings : (after : State) → IsWithinLimits setting.limits s after → length after.histories < 2 ^ 32
  few_postings after within = bounded setting.limits.postings (length s.histories) (length after.histories)
      fit.limits.postings sound.postings.few within.postings

  few_moves : (after : State) → IsWithinLimits setting.limits s after → move_count after.histories < 2 ^ 32
  few_moves after within = bounded setting.limits.moves (move_count s.histories) (move_count after.histories)
      fit.limits.moves sound.postings.few_moves within.moves

  pushed : (r : Resource) → length (s.resources ++ r ∷ []) < 2 ^ 32 → length s.resources + 1 < 2 ^ 32
  pushed r l = let n = length-append s.resources (r ∷ []) in omega (arith, l, n)

  postings_kept : (r : Resource) → AreLegalPostings (s.resources ++ r ∷ []) s.histories
  postings_kept r = postings_resources s.resources (s.resources ++ r ∷ []) s.histories
      (passes_push s.resources r (λ x. is_concept_kind x.kind))
      (λ n h e w live. test_from_live (s.resources ++ r ∷ []) (place h)
      (passes_push s.resources r (λ x. is_concept_kind x.kind && x.live) (place h)
      (live_from_test s.resources (place h) live))) sound.postings

  -- The state after a resource is created with its label is sound.
  sound_made : (r : Resource) (tag text : List ℕ) → IsFit s.resources r → MayOwn r → is_outside_kind r.kind ≡ false
      → UniquePreferred (state_after_creation r tag text s).resources (state_after_creation r tag text s).labels
      → IsWithinLimits setting.limits s (state_after_creation r tag text s)
      → IsSound setting.base (state_after_creation r tag text s)
  sound_made r tag text ok may inside unique within = record {
    resources = resources_push setting.base s.resources s.iris r sound.resources ok
        (pushed r (few_resources (state_after_creation r tag text s) within)) inside;
    labels = legal_labels_with_new s.resources s.labels r tag text sound.labels may unique;
    links = links_push s.resources r s.links sound.links;
    postings = postings_kept r;
  }

  owners_bound : (l : Label) → set.contains s.labels l ≡ true → (1 ≤ l.owner) × (l.owner ≤ length s.resources)
  owners_bound l held = grind (arith, common_steps, numbered_bound)

  pub scheme_sound : (tag text : List ℕ) → Accepted (request.Scheme tag text) → KeptBy (request.Scheme tag text)
  scheme_sound tag text row =
      sound_made scheme_resource tag text (scheme_fit s.resources) (inl refl) refl
      (made_unique s.resources s.labels scheme_resource tag text owners_bound sound.labels.unique
      (λ scheme live e. absurd (cc))) (passed_unless row).0

  pub concept_sound : (scheme : ℕ) (tag text : List ℕ) → Accepted (request.Concept scheme tag text)
      → KeptBy (request.Concept scheme tag text)
  concept_sound scheme tag text row = grind (arith, common_steps, concept_fit, passed_unless, sound_made)

  pub collection_sound : (scheme : ℕ) (tag text : List ℕ) → Accepted (request.Collection scheme tag text)
      → KeptBy (request.Collection scheme tag text)
  collection_sound scheme tag text row =
      let known = passed_unless row in
      let kind = passed_unless known.1 in
      sound_made (collection_resource scheme) tag text (collection_fit s.resources scheme kind.0) (inr (inr refl)) refl
      (made_unique s.resources s.labels (collection_resource scheme) tag text owners_bound sound.labels.unique
      (λ x live e. absurd (cc))) (passed_unless kind.1).0

  -- The state after an outside concept is created is sound.
  pub outside_sound : (iri : List ℕ) → Accepted (request.Outside iri) → KeptBy (request.Outside iri)
  outside_sound iri row = go (passed_if row)
    where
      go : (BeginsWith iri setting.base → ⊥)
          × (((n : ℕ) × (dict.get s.iris n ≡ Some iri) × (None ≡ Some (no.OutsideKnown n)))
          ⊎ (((n : ℕ) → dict.get s.iris n ≢ Some iri) × unless_within_limits setting s (state_after_outside iri s)
          None)) → IsSound setting.base (state_after_outside iri s)
      go (foreign, inl (n, has, is)) = absurd (cc)
      go (foreign, inr (fresh, rest)) =
          record {
            resources = resources_push_outside setting.base s.resources s.iris outside_resource sound.resources
                (outside_fit s.resources) iri
                (pushed outside_resource (few_resources (state_after_outside iri s) (passed_unless rest).0)) refl
                foreign fresh;
            labels = labels_push s.resources s.labels outside_resource outside_owns_none sound.labels;
            links = links_push s.resources outside_resource s.links sound.links;
            postings = postings_kept outside_resource;
          }

  -- The state after a label is added is sound.
  pub add_label_sound : (owner : ℕ) (d : LabelData) → Accepted (request.AddLabel owner d)
      → KeptBy (request.AddLabel owner d)
  add_label_sound owner d row = grind (arith, common_steps, labels_added, passed_if, passed_unless)

  pub drop_label_sound : (owner : ℕ) (d : LabelData) → Accepted (request.DropLabel owner d)
      → KeptBy (request.DropLabel owner d)
  drop_label_sound owner d row =
      let l : Label = owned_label owner d in
      let known = passed_unless row in
      let kind = passed_unless known.1 in
      let live = passed_unless kind.1 in
      let there = passed_unless live.1 in
      let leaves = passed_unless there.1 in
      record {
        resources = sound.resources;
        labels = labels_dropped s.resources s.labels l leaves.0 sound.labels;
        links = sound.links;
        postings = sound.postings;
      }

  abbrev after_relabel : ℕ → List ℕ → List ℕ → Bool → Option (List ℕ) → State
  after_relabel owner tag text keep o =
      record s { labels = elim o [ None ↦ s.labels | Some old ↦ replace_preferred owner tag text keep old s.labels ] }

  -- The state after a preferred label is replaced is sound.
  pub relabel_sound : (owner : ℕ) (tag text : List ℕ) (keep : Bool) → Accepted (request.Relabel owner tag text keep)
      → KeptBy (request.Relabel owner tag text keep)
  relabel_sound owner tag text keep row =
      let known = passed_unless row in
      let kind = passed_unless known.1 in
      let live = passed_unless kind.1 in
      let there = passed_unless live.1 in
      let s13 = passed_unless there.1 in
      let unique = passed_unless s13.1 in
      go (preferred_label_in s.labels owner tag) refl kind.0 s13.0 unique.0
    where
      go : (o : Option (List ℕ)) → preferred_label_in s.labels owner tag ≡ o → CanOwn s.resources owner
          → S13 (after_relabel owner tag text keep o).labels
          → UniquePreferred (after_relabel owner tag text keep o).resources
          (after_relabel owner tag text keep o).labels → IsSound setting.base (after_relabel owner tag text keep o)
      go None is can s13 p1 = sound
      go (Some old) is can s13 p1 =
          record {
            resources = sound.resources;
            labels = labels_renamed s.resources s.labels owner tag text keep old
                sound.labels (preferred_found s.labels owner tag old is) can s13 p1;
            links = sound.links;
            postings =
                sound.postings;
          }

  -- The state after a link is added is sound.
  pub link_sound : (kind : LinkKind) (a b : ℕ) → Accepted (request.Link kind a b) → KeptBy (request.Link kind a b)
  link_sound kind a b row =
      let l : Link = link kind a b in
      let known = passed_unless row in
      let ends = passed_unless known.1 in
      let live = passed_unless ends.1 in
      let two = passed_if live.1 in
      let schemes = passed_unless two.1 in
      let new = passed_if schemes.1 in
      let c1 = passed_unless new.1 in
      let s27 = passed_unless c1.1 in
      let s46 = passed_unless s27.1 in
      record {
        resources = sound.resources;
        labels = sound.labels;
        links = links_added s.resources s.links l sound.links
            (record { ends = ends.0; live = live.0; two = two.0; schemes = schemes.0 }) c1.0 s27.0 s46.0;
        postings = sound.postings;
      }

  pub unlink_sound : (kind : LinkKind) (a b : ℕ) → Accepted (request.Unlink kind a b) → KeptBy (request.Unlink kind a b)
  unlink_sound kind a b row = record {
    resources = sound.resources;
    labels = sound.labels;
    links =
        links_dropped s.resources s.links (normal_form (is_outside s.resources) (link kind a b)) sound.links;
    postings =
        sound.postings;
  }

  -- If the number of postings assigned to a concept is 0, none of the histories is assigned to it.
  none_stands : (concept : ℕ) (hs : List History) (i : ℕ) (h : History) → assigned_count concept hs ≡ 0
      → slice_get hs i ≡ Some h → is_assigned_to concept h ≡ false
  none_stands concept [] i h none e = absurd (cc)
  none_stands concept (x ∷ hs) zero h none e = go (is_assigned_to concept x) refl
    where
      same : x ≡ h
      same = cc

      go : (b : Bool) → is_assigned_to concept x ≡ b → is_assigned_to concept h ≡ false
      go false miss = ap (is_assigned_to concept) (sym same) ∙ miss
      go true hit = absurd (let a = sum_by-cons (λ (y : History). cond (is_assigned_to concept y) 1 0) x hs in let b =
          ap {B = ℕ} (λ (t : Bool). cond t 1 0) hit in omega (arith, a, b, none))
  none_stands concept (x ∷ hs) (suc i) h none e =
      none_stands concept hs i h (let a = sum_by-cons (λ (y : History). cond (is_assigned_to concept y) 1 0) x hs in
      omega (arith, a, none)) e

  elsewhere : (w : Bool) (p source : ℕ) → (not w && (p == source)) ≡ false → w ≡ false → p ≢ source
  elsewhere true p source e w = absurd (cc)
  elsewhere false p source e w = eqb-false p source e

  -- The state after a concept is deprecated is sound.
  pub deprecate_sound : (concept : ℕ) → Accepted (request.Deprecate concept) → KeptBy (request.Deprecate concept)
  deprecate_sound concept row =
      let known = passed_unless row in
      let kind = passed_unless known.1 in
      let live = passed_unless kind.1 in
      let none = passed_unless live.1 in
      go known.0.0 known.0.1 kind.0 none.0
    where
      go : (r : Resource) → entry_at s.resources concept ≡ Some r → IsConcept s.resources concept
          → assigned_count concept s.histories ≡ 0 → IsSound setting.base (state_after_deprecation concept s)
      go r at is none =
          subst (λ rs. IsSound setting.base (record (state_after_deprecation concept s) { resources = rs }))
          (sym (marked_dead_at s.resources concept None r at)) (record {
            resources = resources_dead setting.base s.resources s.iris concept None r at sound.resources
                (subst (λ (x : Resource). is_concept_kind x.kind ≡ true)
                (one_resource s.resources concept is.0 r is.1 at)
                is.2) (λ m e. absurd (cc));
            labels = labels_dead s.resources concept None r at s.labels sound.labels;
            links = links_without s.resources s.links concept None r at sound.links;
            postings = postings_resources s.resources (set_entry_at s.resources concept (resource_after_death None r))
                s.histories
                (passes_dead s.resources concept None r at (λ x. is_concept_kind x.kind) (λ x. refl))
                (λ n h e w live. live_concept_dead s.resources concept None r at (place h) (away n h e w) live)
                sound.postings;
          })
        where
          away : (n : ℕ) (h : History) → entry_at s.histories n ≡ Some h → h.withdrawn ≡ false → place h ≢ concept
          away zero h e w = absurd (cc)
          away (suc i) h e w = elsewhere h.withdrawn (place h) concept (none_stands concept s.histories i h none e) w

  -- The state after a merge is sound.
  pub merge_sound : (source target : ℕ) → Accepted (request.Merge source target) → KeptBy (request.Merge source target)
  merge_sound source target row =
      let known = passed_unless row in
      let kinds = passed_unless known.1 in
      let live = passed_unless kinds.1 in
      let apart = passed_if live.1 in
      let schemes = passed_unless apart.1 in
      let c1 = passed_unless schemes.1 in
      let s27 = passed_unless c1.1 in
      let s46 = passed_unless s27.1 in
      let within = passed_unless s46.1 in
      let r = known.0.0.0 in
      let at = known.0.0.1 in
      let back : target ≢ source = λ e. apart.0 (sym e) in
      let live_target = live_of_parts s.resources target kinds.0.1 live.0.1 in
      let moved = postings_moved s.resources s.histories (is_assigned_to source) target sound.postings live_target
      (λ n h e hit same. back (sym same ∙ at_source h.withdrawn (place h) source hit))
      (few_moves (state_after_merge source target s) within.0) in
      subst (λ rs. IsSound setting.base (record (state_after_merge source target s) { resources = rs }))
      (sym (marked_dead_at s.resources source (Some target) r at)) (record {
        resources = resources_merged setting.base s.resources s.iris source target r at sound.resources kinds.0.0
            kinds.0.1 live.0.1 apart.0 schemes.0;
        labels = labels_dead s.resources source (Some target) r
            at _ (labels_merged s.resources s.labels source target sound.labels (inr (inl kinds.0.1)));
        links = links_contracted s.resources source target live.0.0 live.0.1 kinds.0.0 kinds.0.1 apart.0 schemes.0
            s.links (Some target) r at sound.links c1.0 s27.0 s46.0;
        postings = postings_resources s.resources
            (set_entry_at s.resources source (resource_after_death (Some target) r))
            (state_after_merge source target s).histories (passes_dead s.resources source (Some target) r
            at (λ x. is_concept_kind x.kind) (λ x. refl)) (λ n h e w is_live. live_concept_dead s.resources source
            (Some target) r at (place h) (gone n h e w) is_live) moved;
      })
    where
      apart_ends : target ≢ source
      apart_ends e = (passed_if (passed_unless (passed_unless (passed_unless row).1).1).1).0 (sym e)

      at_source : (w : Bool) (p q : ℕ) → (not w && (p == q)) ≡ true → p ≡ q
      at_source w p q e = eqb-true p q (and_parts (not w) (p == q) e).1

      -- After the moves of a merge, no posting has the source as its place unless it is withdrawn.
      gone : (n : ℕ) (h : History) → entry_at (state_after_merge source target s).histories n ≡ Some h → h.withdrawn
          ≡ false → place h ≢ source
      gone n new e w = let was = numbered_moved (is_assigned_to source) target (move_count s.histories + 1)
          s.histories n new e in go was.0 was.2
        where
          go : (h : History) → IsAfterMove (is_assigned_to source) target (move_count s.histories + 1)
              (move_count s.histories + 1 + count_by (is_assigned_to source) s.histories) h new → place new ≢ source
          go h (inl (hit, k, least, most, is)) same = apart_ends (sym (ap place is ∙ place_moved k target h) ∙ same)
          go h (inr (miss, is)) same = elsewhere h.withdrawn (place h) source miss
              (sym (ap (λ (x : History). x.withdrawn) is) ∙ w) (sym (ap place is) ∙ same)

  pub withdraw_sound : (posting : ℕ) → Accepted (request.Withdraw posting) → KeptBy (request.Withdraw posting)
  withdraw_sound posting row =
      let known = passed_unless row in
      record {
        resources = sound.resources;
        labels = sound.labels;
        links = sound.links;
        postings =
            postings_withdrawn s posting known.0.0 sound.postings known.0.1;
      }

  -- The state after a Post is sound.
  pub post_sound : (key rec : List ℕ) (concept : ℕ) → Accepted (request.Post key rec concept)
      → HasNewKey (request.Post key rec concept) s → KeptBy (request.Post key rec concept)
  post_sound key rec concept row fresh =
      let known = passed_unless row in
      let kind = passed_unless known.1 in
      let live = passed_unless kind.1 in
      let within = passed_unless live.1 in
      let way = replacements s.resources concept in
      let steps = (forwards_to_end s.resources setting.base s.iris sound.resources concept).steps in
      let ends = end_concept s.resources setting.base s.iris sound.resources concept way kind.0 steps in
      record {
        resources = sound.resources;
        labels = sound.labels;
        links = sound.links;
        postings = postings_push s.resources s.histories key rec concept way sound.postings
            (let l = few_postings (state_after_post key rec concept s) within.0 in let n =
            length-append s.histories (new_history key rec concept way s.histories ∷ []) in omega (arith, l, n))
            (few_moves (state_after_post key rec concept s) within.0) kind.0
            (along_legal s.resources setting.base s.iris sound.resources (move_count s.histories + 1) concept way
            kind.0 steps)
            (live_of_parts s.resources (path_end concept way) ends live.0)
            (λ n h e same. fresh h (ap (entry_at s.histories) (sound.postings.sound n h e).number ∙ e, same));
      }

  -- The state after a split is sound.
  pub split_sound : (source : ℕ) (tag text : List ℕ) (postings : List ℕ)
      → Accepted (request.Split source tag text postings) → KeptBy (request.Split source tag text postings)
  split_sound source tag text postings row =
      let known = passed_unless row in
      let kind = passed_unless known.1 in
      let live = passed_unless kind.1 in
      let once = passed_unless live.1 in
      let all_known = passed_unless once.1 in
      let standing = passed_unless all_known.1 in
      let there = passed_unless standing.1 in
      let unique = passed_unless there.1 in
      let within = passed_unless unique.1 in
      record {
        resources = resources_push setting.base s.resources s.iris new sound.resources
            (concept_fit s.resources (scheme_of s.resources source)
            (own_scheme s.resources sound.resources.each source kind.0))
            (pushed new (few_resources (state_after_split source tag text postings s) within.0)) refl;
        labels = legal_labels_with_new s.resources s.labels new tag text sound.labels (inr (inl refl)) unique.0;
        links = links_push s.resources new s.links sound.links;
        postings = postings_moved (s.resources ++ new ∷ []) s.histories (is_listed postings) (next_number s)
            (postings_kept new) (test_from_live (s.resources ++ new ∷ []) (next_number s)
            (new, push_new s.resources new, refl)) (λ n h e hit same. away n h e same)
            (few_moves (state_after_split source tag text postings s) within.0);
      }
    where
      new : Resource
      new = concept_resource (scheme_of s.resources source)

      away : (n : ℕ) (h : History) → entry_at s.histories n ≡ Some h → place h ≢ next_number s
      away n h e same =
          let was = sound.postings.sound n h e in
          let c = place_concept s.resources h.first h.moves was.first was.moves in
          let b = numbered_bound s.resources (place h) c.0 c.1 in
          omega (arith, b, same)
