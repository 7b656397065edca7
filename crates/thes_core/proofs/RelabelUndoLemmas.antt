-- Once the replacement of a preferred label is taken back, the labels are those of the state before it.
use Rattle.std.proofs.Common.{◌≡◌, ◌∙◌, ℕ, List, [], Bool, true, false, inl, inr, refl, sym, ap, subst}
use Rattle.std.specs.Prelude.{None, Some, Option}
use Rattle.std.specs.FinSet as set
use Rattle.thes_base.specs.declared.data.LabelKind.TheVariants.{Alt, Pref}
use Rattle.thes_base.specs.declared.data.Resource.{Resource}
use Rattle.thes_base.specs.declared.request.Command.TheVariants as request
use Rattle.thes_base.specs.Changes.{label, labels_after_relabel, replace_preferred}
use Rattle.thes_base.specs.Labels.{Label, Labels, HasLabel, S13, UniquePreferred, preferred_label_in}
use Rattle.thes_base.specs.Legal.{AreLegalLabels}
use Rattle.thes_base.specs.RefusalRules.{accepted}
use Rattle.thes_base.specs.Resources.{CanOwn, is_outside}
use Rattle.thes_base.specs.RuleParts.{unless_replaceable_preferred}
use Rattle.thes_base.specs.State.{State}
use Rattle.thes_base.proofs.LabelSetLemmas.{labels_total, labels_exact, inserted_cases, inserted_kept, inserted_new}
use Rattle.thes_base.proofs.LabelSetLemmas.{removed_cases}
use Rattle.thes_base.proofs.LegalLabelLemmas.{labels_renamed}
use Rattle.thes_base.proofs.PreferredLemmas.{preferred_found, preferred_of_label}
use Rattle.thes_base.proofs.RefusalRuleLemmas.{passed_unless}
use Rattle.thes_base.proofs.ReplacePreferredLemmas.{renamed_kept}
use Rattle.thes_vocab.specs.Vocabulary.{Vocabulary, IsLiveOwner, with_labels}
use Rattle.thes_vocab.proofs.SetUndoLemmas.{insert_then_remove, remove_then_insert}
use Rattle.thes_core.specs.CoreView.{without_postings}
use Rattle.thes_core.specs.Losses.{labels_without_kept}
use Rattle.thes_core.specs.Requests.{MayChange, PartsOfState}
use Rattle.thes_core.specs.UndoLogs.{ArePartsAfter}
use Rattle.thes_core.specs.declared.thesaurus.Thesaurus.{Thesaurus}
use Rattle.thes_core.proofs.ApplyLemmas.{parts_become_state}

-- The labels after a relabel, if the former preferred label is known.
relabelled : (labels : Labels) (owner : ℕ) (tag text old : List ℕ) (keep : Bool)
    → preferred_label_in labels owner tag ≡ Some old
    → labels_after_relabel owner tag text keep labels ≡ replace_preferred owner tag text keep old labels
relabelled labels owner tag text old keep is =
    ap (λ (o : Option (List ℕ)). elim o [ None ↦ labels | Some x ↦ replace_preferred owner tag text keep x labels ]) is

-- A Relabel that may be applied replaces a preferred label.
pub preferred_known : (t : Thesaurus) (owner : ℕ) (tag text : List ℕ) (keep : Bool)
    → MayChange t (request.Relabel owner tag text keep) → preferred_label_in t.vocab.labels owner tag ≡ None → ⊥
preferred_known t owner tag text keep (kept, may) none =
    let had = (passed_unless (passed_unless (passed_unless (passed_unless may.row).1).1).1).0 in
    let found = preferred_of_label t.vocab.labels owner tag had.0 had.1 in
    let bad = sym none ∙ found.1 in
    cc

-- Assumes that a preferred label was replaced.
module _ (t : Thesaurus) (owner : ℕ) (tag text old : List ℕ) (keep : Bool) (s : State)
    (is : ArePartsAfter (request.Relabel owner tag text keep) s t)
    (lost : preferred_label_in s.labels owner tag ≡ Some old) where
  abbrev was : Label
  was = label owner Pref tag old

  abbrev fresh : Label
  fresh = label owner Pref tag text

  abbrev kept : Label
  kept = label owner Alt tag old

  -- The labels with the new text in place of the old one.
  abbrev replaced_labels : Labels
  replaced_labels = set.insert (set.remove s.labels was) fresh

  abbrev relabelled_labels : Labels
  relabelled_labels = replace_preferred owner tag text keep old s.labels

  held_was : set.contains s.labels was ≡ true
  held_was = preferred_found s.labels owner tag old lost

  after_is : labels_after_relabel owner tag text keep s.labels ≡ relabelled_labels
  after_is = relabelled s.labels owner tag text old keep lost

  labels_now : t.vocab.labels ≡ relabelled_labels
  labels_now = ap (λ (x : State). x.labels) is.state ∙ after_is

  resources_now : t.vocab.resources ≡ s.resources
  resources_now = ap (λ (x : State). x.resources) is.state

  can_own : CanOwn s.resources owner
  can_own = (passed_unless (passed_unless is.accepts.row).1).0

  s13_after : S13 relabelled_labels
  s13_after = subst S13 after_is
      (passed_unless (passed_unless (passed_unless (passed_unless (passed_unless is.accepts.row).1).1).1).1).0

  unique_after : UniquePreferred s.resources relabelled_labels
  unique_after = subst (UniquePreferred s.resources) after_is
      (passed_unless (passed_unless (passed_unless (passed_unless (passed_unless (passed_unless
      is.accepts.row).1).1).1).1).1).0

  pub relabelled_owner : IsLiveOwner t.vocab.resources owner
  relabelled_owner = subst (λ (rs : List Resource). IsLiveOwner rs owner) (sym resources_now)
      (record { can = can_own; live = (passed_unless (passed_unless (passed_unless is.accepts.row).1).1).0 })

  pub kept_there : keep ≡ true → set.contains t.vocab.labels kept ≡ true
  kept_there e = subst (λ (ls : Labels). set.contains ls kept ≡ true) (sym labels_now)
      (renamed_kept s.labels owner tag text old keep e)

  not_kept : set.contains replaced_labels kept ≡ true → ⊥
  not_kept held = elim (inserted_cases (set.remove s.labels was) fresh kept held) [
    | inl same ↦ (let kinds : Alt ≡ Pref = ap (λ (l : Label). l.kind) same in cc)
    | inr rest ↦
        let kinds : Pref ≡ Alt = is.legal.labels.disjoint owner Pref Alt tag old refl refl held_was
        (removed_cases s.labels was kept rest).1 in
        cc
  ]

  without_kept : (b : Bool) → labels_without_kept owner tag old b (replace_preferred owner tag text b old s.labels)
      ≡ replaced_labels
  without_kept true = insert_then_remove labels_total labels_exact replaced_labels kept not_kept
  without_kept false = refl

  labels_plain : labels_without_kept owner tag old keep t.vocab.labels ≡ replaced_labels
  labels_plain = ap (labels_without_kept owner tag old keep) labels_now ∙ without_kept keep

  in_after : (q : Label) → set.contains replaced_labels q ≡ true → set.contains relabelled_labels q ≡ true
  in_after q held = go keep
    where
      go : (b : Bool) → set.contains (replace_preferred owner tag text b old s.labels) q ≡ true
      go true = inserted_kept replaced_labels kept q held
      go false = held

  legal_plain : AreLegalLabels s.resources replaced_labels
  legal_plain = labels_renamed s.resources s.labels owner tag text false old is.legal.labels held_was can_own
      (λ m j k g x lj lk hj hk. s13_after m j k g x lj lk (in_after _ hj) (in_after _ hk))
      (λ m n c g x lm ln sm sn hm hn. unique_after m n c g x lm ln sm sn (in_after _ hm) (in_after _ hn))

  held_fresh : set.contains replaced_labels fresh ≡ true
  held_fresh = inserted_new (set.remove s.labels was) fresh

  preferred_plain : preferred_label_in replaced_labels owner tag ≡ Some text
  preferred_plain =
      let found = preferred_of_label replaced_labels owner tag text held_fresh in
      found.1
      ∙ ap Some (legal_plain.one_preferred owner tag found.0 text
      (preferred_found replaced_labels owner tag found.0 found.1) held_fresh)

  fresh_is_new : set.contains (set.remove s.labels was) fresh ≡ true → ⊥
  fresh_is_new held =
      let parts = removed_cases s.labels was fresh held in
      parts.0 (ap (λ (x : List ℕ). label owner Pref tag x)
      (is.legal.labels.one_preferred owner tag text old parts.1 held_was))

  back_again : labels_after_relabel owner tag old false replaced_labels ≡ s.labels
  back_again =
      relabelled replaced_labels owner tag old text false preferred_plain
      ∙ ap (λ (ls : Labels). set.insert ls was)
      (insert_then_remove labels_total labels_exact (set.remove s.labels was) fresh fresh_is_new)
      ∙ remove_then_insert labels_total labels_exact s.labels was held_was

  -- Assumes that the alternative label is removed, if one was kept.
  module _ (v : Vocabulary)
      (dropped : v ≡ with_labels t.vocab (labels_without_kept owner tag old keep t.vocab.labels)) where
    seen_plain : v ≡ with_labels t.vocab replaced_labels
    seen_plain = dropped ∙ ap (with_labels t.vocab) labels_plain

    labels_again : labels_after_relabel owner tag old false v.labels ≡ s.labels
    labels_again = ap (λ (x : Vocabulary). labels_after_relabel owner tag old false x.labels) seen_plain ∙ back_again

    pub relabel_owner : IsLiveOwner v.resources owner
    relabel_owner = subst (λ (x : Vocabulary). IsLiveOwner x.resources owner) (sym seen_plain) relabelled_owner

    pub relabel_allowed : unless_replaceable_preferred v.labels v.resources
        (labels_after_relabel owner tag old false v.labels) owner tag accepted None
    relabel_allowed =
        let unique = subst (λ (rs : List Resource). UniquePreferred rs s.labels)
        (sym (ap (λ (x : Vocabulary). x.resources) seen_plain ∙ resources_now)) is.legal.labels.unique in
        subst (λ (after : Labels). unless_replaceable_preferred v.labels v.resources after owner tag accepted None)
        (sym labels_again)
        (inr (
          (text, subst (λ (x : Vocabulary). HasLabel x.labels owner Pref tag text) (sym seen_plain) held_fresh),
          inr (is.legal.labels.disjoint, inr (unique, refl)),
        ))

    pub parts_before_relabel : (middle : Thesaurus) (w : Vocabulary) → middle ≡ record t { vocab = v }
        → w ≡ with_labels v (labels_after_relabel owner tag old false v.labels)
        → PartsOfState t (without_postings s) (record middle { vocab = w })
    parts_before_relabel middle w same again =
        parts_become_state again (ap (λ (x : Thesaurus). x.graph) same) (ap (λ (x : Thesaurus). x.limits) same)
        (λ i. record {
          resources = (ap (λ (x : Vocabulary). x.resources) seen_plain ∙ resources_now) i;
          iris = (ap (λ (x : Vocabulary). x.iris) seen_plain ∙ ap (λ (x : State). x.iris) is.state) i;
          labels = labels_again i;
          links = ap (λ (x : State). x.links) is.state i;
          histories = [];
        }) (ap (λ (x : Vocabulary). x.base) seen_plain)
        (λ n. is.outside n ∙ ap (λ (x : Vocabulary). is_outside x.resources n) (sym seen_plain))
