-- The growth that each request causes, and the limits on it.
use Rattle.std.proofs.Common.{◌≡◌, ◌⊎◌, ◌≤◌, ℕ, zero, suc, ◌+◌, ◌-◌, length, List, [], ◌∷◌, ◌++◌, refl, sym, ap, ◌∙◌}
use Rattle.std.proofs.Common.{arith, inl, inr, Bool, true, false, cond, length-append}
use Rattle.std.specs.Prelude.{Option, None, Some, count_by, if◌then◌else◌}
use Rattle.std.specs.FinSet as set
use Rattle.thes_base.specs.declared.data.Resource.{Resource}
use Rattle.thes_base.specs.declared.data.LabelKind.TheVariants.{Pref, Alt}
use Rattle.thes_base.specs.declared.data.Link.{Link}
use Rattle.thes_base.specs.declared.data.History.{History}
use Rattle.thes_base.specs.declared.data.Limits.{Limits}
use Rattle.thes_base.specs.Resources.{entry_at, is_outside, set_entry_at, replacements}
use Rattle.thes_base.specs.Links.{Holds, normal_form, links_after_merge}
use Rattle.thes_base.proofs.LinkSetLemmas.{links_total, links_exact}
use Rattle.thes_base.proofs.SetMemberLemmas as sets
use Rattle.thes_base.specs.Labels.{Label, Labels, HasLabel, label_cmp, S13, S14}
use Rattle.thes_base.specs.Postings.{move_count, is_assigned_to, assigned_count}
use Rattle.thes_base.specs.State.{State, IsWithinLimits, IsWithinLimit}
use Rattle.thes_base.specs.Changes.{label, state_after_creation, state_after_add_label, labels_after_relabel}
use Rattle.thes_base.specs.Changes.{state_after_relabel, replace_preferred, next_number, state_after_link}
use Rattle.thes_base.specs.Changes.{state_after_merge, copied_labels, state_after_split, is_listed, state_after_post}
use Rattle.thes_base.specs.Changes.{resources_after_death, resource_after_death}
use Rattle.thes_base.specs.Legal.{IsLegalState, AreLegalLabels}
use Rattle.thes_base.proofs.LabelSetLemmas.{len_inserted, labels_total, inserted_cases, removed_cases}
use Rattle.thes_base.proofs.PreferredLemmas.{preferred_found, preferred_of_label}
use Rattle.thes_base.proofs.ResourceLemmas.{marked_dead_at, owner_exists}
use Rattle.std.proofs.lemmas.Bool.{false_from_ne_true}
use Rattle.std.proofs.lemmas.List.{length-set}
use Rattle.thes_base.proofs.ForwardingLemmas.{count_posted}
use Rattle.thes_base.proofs.MoveLemmas.{count_moved, length_moved}
use Rattle.thes_base.proofs.NumberedLemmas.{numbered_bound}
use Rattle.thes_core.specs.declared.room.Growth.{Growth}
use Rattle.thes_core.specs.Room.{HasRoomForGrowth, amounts_of_state}

-- The count grows by `more`, or `more` is 0 and the count doesn't grow.
abbrev pub Rises : ℕ → ℕ → ℕ → Type 0
Rises before after more = (after ≡ before + more) ⊎ ((more ≡ 0) × (after ≤ before))

pub record Grows (s t : State) (growth : Growth) : Type 0 where
  pub resources : Rises (length s.resources) (length t.resources) growth.resources
  pub labels : Rises (set.len s.labels) (set.len t.labels) growth.labels
  pub links : Rises (set.len s.links) (set.len t.links) growth.links
  pub postings : Rises (length s.histories) (length t.histories) growth.postings
  pub moves : Rises (move_count s.histories) (move_count t.histories) growth.moves

fits_to : (limit before after more : ℕ) → Rises before after more → IsWithinLimit limit before (before + more)
    → IsWithinLimit limit before after
fits_to limit before after more (inl e) fits = omega arith
fits_to limit before after more (inr (none, less)) fits = omega arith

fits_from : (limit before after more : ℕ) → Rises before after more → IsWithinLimit limit before after
    → IsWithinLimit limit before (before + more)
fits_from limit before after more (inl e) fits = omega arith
fits_from limit before after more (inr (none, less)) fits = omega arith

module _ (limits : Limits) (s t : State) (growth : Growth) (grows : Grows s t growth) where
  pub within_of_room : HasRoomForGrowth limits (amounts_of_state s) growth → IsWithinLimits limits s t
  within_of_room room = record {
    resources = fits_to _ _ _ _ grows.resources room.for_resources;
    labels = fits_to _ _ _ _ grows.labels room.for_labels;
    links = fits_to _ _ _ _ grows.links room.for_links;
    postings = fits_to _ _ _ _ grows.postings room.for_postings;
    moves = fits_to _ _ _ _ grows.moves room.for_moves;
  }

  pub room_of_within : IsWithinLimits limits s t → HasRoomForGrowth limits (amounts_of_state s) growth
  room_of_within within = record {
    for_resources = fits_from _ _ _ _ grows.resources within.resources;
    for_labels = fits_from _ _ _ _ grows.labels within.labels;
    for_links = fits_from _ _ _ _ grows.links within.links;
    for_postings = fits_from _ _ _ _ grows.postings within.postings;
    for_moves = fits_from _ _ _ _ grows.moves within.moves;
  }

-- A count that doesn't change grows by 0.
no_rise : (n : ℕ) → Rises n n 0
no_rise n = inl (omega arith)

same_rise : (before after : ℕ) → after ≡ before → Rises before after 0
same_rise before after e = inl (omega (arith, e))

one_more : (A : Type 0) (xs : List A) (x : A) → Rises (length xs) (length (xs ++ x ∷ [])) 1
one_more A xs x = inl (let e = length-append xs (x ∷ []) in omega (arith, e))

-- A new resource has no label yet.
new_label : (s : State) → AreLegalLabels s.resources s.labels → (tag text : List ℕ)
    → set.contains s.labels (label (next_number s) Pref tag text) ≡ false
new_label s legal tag text =
    false_from_ne_true _ (λ held. let at = owner_exists s.resources _ (legal.owners _ held) in
    let b = numbered_bound s.resources _ at.0 at.1 in omega (arith, b))

abbrev pub growth_of : ℕ → ℕ → ℕ → ℕ → ℕ → Growth
growth_of resources labels links postings moves = record {
  resources = resources;
  labels = labels;
  links = links;
  postings = postings;
  moves = moves;
}

module _ (s : State) (base : List ℕ) (legal : IsLegalState base s) where
  pub made_grows : (r : Resource) (tag text : List ℕ) → Grows s (state_after_creation r tag text s)
      (growth_of 1 1 0 0 0)
  made_grows r tag text = record {
    resources = one_more Resource s.resources r;
    labels = inl (len_inserted s.labels (label (next_number s) Pref tag text) (new_label s legal.labels tag text));
    links = no_rise _;
    postings = no_rise _;
    moves = no_rise _;
  }

  pub label_grows : (l : Label) → ¬ (set.contains s.labels l ≡ true) → Grows s (state_after_add_label l s)
      (growth_of 0 1 0 0 0)
  label_grows l new =
      record {
        resources = no_rise _;
        labels = inl (len_inserted s.labels l (false_from_ne_true _ new));
        links = no_rise _;
        postings = no_rise _;
        moves = no_rise _;
      }

len_positive : (labels : Labels) (l : Label) → set.contains labels l ≡ true → 1 ≤ set.len labels
len_positive labels l held = go (set.len labels) refl
  where
    go : (n : ℕ) → set.len labels ≡ n → 1 ≤ set.len labels
    go zero e = absurd (let none = sym held ∙ ap (λ (s : Labels). set.contains s l) (set.empty_of_len labels e)
        ∙ set.contains-empty label_cmp l in cc)
    go (suc n) e = omega arith

len_removed : (labels : Labels) (l : Label) → set.contains labels l ≡ true → set.len (set.remove labels l) + 1
    ≡ set.len labels
len_removed labels l held =
    let e = set.len-remove labels_total labels l ∙ ap (λ b. cond b (set.len labels - 1) (set.len labels)) held in
    let p = len_positive labels l held in
    omega (arith, e, p)

-- The number of labels that a relabelling adds: 1 if it keeps the old text, or else 0.
abbrev pub keep_growth : Bool → ℕ
keep_growth keep = if keep then 1 else 0

module _ (labels : Labels) (owner : ℕ) (tag text old : List ℕ) (s13 : S13 labels) (s14 : S14 labels)
    (held : HasLabel labels owner Pref tag old) where
  abbrev labels_without_old : Labels
  labels_without_old = set.remove labels (label owner Pref tag old)

  abbrev labels_with_new : Labels
  labels_with_new = set.insert labels_without_old (label owner Pref tag text)

  not_new : ¬ (set.contains labels_without_old (label owner Pref tag text) ≡ true)
  not_new has =
      let was = removed_cases labels (label owner Pref tag old) (label owner Pref tag text) has in
      let no_rise = s14 owner tag text old was.1 held in
      was.0 (ap (label owner Pref tag) no_rise)

  len_with_new : set.len labels_with_new ≡ set.len labels
  len_with_new = len_inserted labels_without_old (label owner Pref tag text) (false_from_ne_true _ not_new)
      ∙ len_removed labels (label owner Pref tag old) held

  not_alternative : ¬ (set.contains labels_with_new (label owner Alt tag old) ≡ true)
  not_alternative has = go (inserted_cases labels_without_old (label owner Pref tag text) (label owner Alt tag old) has)
    where
      go : (label owner Alt tag old ≡ label owner Pref tag text)
          ⊎ (set.contains labels_without_old (label owner Alt tag old) ≡ true) → ⊥
      go (inl is) = let bad : Alt ≡ Pref = ap (λ (l : Label). l.kind) is in cc
      go (inr was) = let bad : Alt ≡ Pref = s13 owner Alt Pref tag old refl refl (removed_cases labels _ _ was).1
          held in cc

  pub len_renamed : (keep : Bool) → set.len (replace_preferred owner tag text keep old labels) ≡ set.len labels
      + keep_growth keep
  len_renamed false = len_with_new ∙ (let z : set.len labels ≡ set.len labels + 0 = omega arith in z)
  len_renamed true = len_inserted labels_with_new (label owner Alt tag old) (false_from_ne_true _ not_alternative)
      ∙ ap (λ n. n + 1) len_with_new

module _ (s : State) (legal : AreLegalLabels s.resources s.labels) where
  pub relabelled_grows : (owner : ℕ) (tag text : List ℕ) (keep : Bool) (more : ℕ) → more ≡ keep_growth keep
      → (old : List ℕ) × HasLabel s.labels owner Pref tag old → Grows s (state_after_relabel owner tag text keep s)
      (growth_of 0 more 0 0 0)
  relabelled_grows owner tag text keep more is_more (old, held) =
      let found = preferred_of_label s.labels owner tag old held in
      let is = preferred_found s.labels owner tag found.0 found.1 in
      let state_after_creation : labels_after_relabel owner tag text keep s.labels ≡ replace_preferred owner tag text
      keep found.0 s.labels =
      ap (λ (o : Option (List ℕ)). elim o [
        | None ↦ s.labels
        | Some x ↦ replace_preferred owner tag text keep x
            s.labels
      ]) found.1 in
      record {
        resources = no_rise _;
        labels =
            inl (ap set.len state_after_creation ∙ len_renamed s.labels owner tag text found.0 legal.disjoint
            legal.one_preferred is keep ∙ ap (λ n. set.len s.labels + n) (sym is_more));
        links = no_rise _;
        postings = no_rise _;
        moves = no_rise _;
      }

pub link_grows : (s : State) (l : Link) → ¬ Holds s.links (normal_form (is_outside s.resources) l)
    → Grows s (state_after_link l s) (growth_of 0 0 1 0 0)
link_grows s l new = record {
  resources = no_rise _;
  labels = no_rise _;
  links = inl (sets.len_inserted links_total links_exact s.links (normal_form (is_outside s.resources) l)
      (false_from_ne_true _ new));
  postings = no_rise _;
  moves = no_rise _;
}

length_marked_dead : (rs : List Resource) (n : ℕ) (rep : Option ℕ) → length (resources_after_death n rep rs) ≡ length rs
length_marked_dead rs n rep = go (entry_at rs n) refl
  where
    go : (o : Option Resource) → entry_at rs n ≡ o → length (resources_after_death n rep rs) ≡ length rs
    go None e =
        ap (λ (o : Option Resource). length {A = Resource}
        (elim o [ None ↦ rs | Some x ↦ set_entry_at rs n (resource_after_death rep x) ])) e
    go (Some r) e = ap length (marked_dead_at rs n rep r e) ∙ length-set rs (n - 1) (resource_after_death rep r)

pub merged_grows : (s : State) (source target taken : ℕ)
    → set.len (set.union s.labels (copied_labels source target s.labels)) ≡ set.len s.labels + taken
    → set.len (links_after_merge (is_outside s.resources) source target s.links) ≤ set.len s.links
    → Grows s (state_after_merge source target s) (growth_of 0 taken 0 0 (assigned_count source s.histories))
merged_grows s source target taken labels links = record {
  resources = same_rise _ _ (length_marked_dead s.resources source (Some target));
  labels = inl labels;
  links = inr (refl, links);
  postings = same_rise _ _ (length_moved (is_assigned_to source) target (move_count s.histories + 1) s.histories);
  moves = inl (count_moved (is_assigned_to source) target (move_count s.histories + 1) s.histories);
}

pub split_grows : (s : State) (source : ℕ) (tag text : List ℕ) (postings : List ℕ) → AreLegalLabels s.resources s.labels
    → count_by (is_listed postings) s.histories ≡ length postings
    → Grows s (state_after_split source tag text postings s) (growth_of 1 1 0 0 (length postings))
split_grows s source tag text postings legal listed = record {
  resources = one_more Resource s.resources _;
  labels = inl (len_inserted s.labels (label (next_number s) Pref tag text) (new_label s legal tag text));
  links = no_rise _;
  postings = same_rise _ _
      (length_moved (is_listed postings) (next_number s) (move_count s.histories + 1) s.histories);
  moves = inl (count_moved (is_listed postings) (next_number s) (move_count s.histories + 1) s.histories
      ∙ ap (λ n. move_count s.histories + n) listed);
}

pub posted_grows : (s : State) (key rec : List ℕ) (concept : ℕ) → Grows s (state_after_post key rec concept s)
    (growth_of 0 0 0 1 (length (replacements s.resources concept)))
posted_grows s key rec concept = record {
  resources = no_rise _;
  labels = no_rise _;
  links = no_rise _;
  postings = one_more History s.histories _;
  moves = inl (count_posted key rec concept (replacements s.resources concept) s.histories);
}
