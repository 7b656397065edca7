-- The checks on the parts of a thesaurus give the refusals of the machine.
use Rattle.std.proofs.lemmas.Grind.{common_steps}
use Rattle.std.proofs.Common.{◌≡◌, ◌+◌, ◌↔◌, ℕ, List, [], refl, sym, ◌∙◌, subst, inl, inr, Bool, arith, false}
use Rattle.std.specs.Prelude.{Option, None, Some, IfNone}
use Rattle.std.specs.FinSet as set
use Rattle.std.proofs.lemmas.Option.{same_Some}
use Rattle.thes_base.specs.declared.data.History.{History}
use Rattle.thes_base.specs.declared.data.Link.{Link}
use Rattle.thes_base.specs.declared.data.NewResource.TheVariants.{Concept}
use Rattle.thes_base.specs.declared.request.Command.{Command}
use Rattle.thes_base.specs.declared.fault.Refusal.{Refusal}
use Rattle.thes_base.specs.declared.fault.Refusal.TheVariants as no
use Rattle.thes_base.specs.RefusalRules.{RefusalRule, refused_unless, accepted}
use Rattle.thes_base.specs.Resources.{IsConcept, IsScheme, scheme_of, is_outside}
use Rattle.thes_base.specs.Links.{Holds, links_after_merge, normal_form, IsFirstBroken}
use Rattle.thes_base.specs.RuleParts.{unless_links_consistent, unless_within_limits, unless_unique}
use Rattle.thes_base.specs.State.{State, IsWithinLimit}
use Rattle.thes_base.specs.Changes.{state_after_creation, concept_resource}
use Rattle.thes_base.proofs.LinkLemmas.{row_of_first}
use Rattle.thes_base.proofs.UniquePreferredLemmas.{scheme_at}
use Rattle.thes_walks.specs.EditChecks.{checks_of_add}
use Rattle.thes_post.specs.PostingCounts.{ArePostingCounts}
use Rattle.thes_vocab.specs.NewResources.{unless_new}
use Rattle.thes_core.specs.declared.room.Growth.{Growth}
use Rattle.thes_core.specs.declared.thesaurus.Thesaurus.{Thesaurus}
use Rattle.thes_base.specs.Machine.{HasNewKey}
use Rattle.thes_core.specs.declared.facts.Facts.{Facts}
use Rattle.thes_core.specs.CoreDecisions.{IsAccepted, MayApply}
use Rattle.thes_core.specs.Facts.{AreFacts}
use Rattle.thes_core.specs.Requests.{RefusalByParts, unless_linkable}
use Rattle.thes_core.specs.PartsView.{parts_state, setting_of, parts_view, AreLegal}
use Rattle.thes_core.specs.Room.{HasRoomForGrowth, amounts_of_state, amounts_of_parts}
use Rattle.thes_core.proofs.GrowthLemmas.{Grows, growth_of, within_of_room, room_of_within}

-- A count that doesn't grow is within any limit.
fits_without_rise : (limit n more : ℕ) → more ≡ 0 → IsWithinLimit limit n (n + more)
fits_without_rise limit n more none = omega (arith, none)

-- The parts have room for a request's growth exactly when the state has, if the counts of postings agree or don't grow.
module _ (t : Thesaurus) (hs : List History) {growth : Growth} where
  pub room_summed : ArePostingCounts hs t.book → HasRoomForGrowth t.limits (amounts_of_parts t) growth
      ↔ HasRoomForGrowth t.limits (amounts_of_state (parts_state t hs)) growth
  room_summed are = grind (arith, common_steps)

  pub room_unposted : growth.postings ≡ 0 → growth.moves ≡ 0 → HasRoomForGrowth t.limits (amounts_of_parts t) growth
      ↔ HasRoomForGrowth t.limits (amounts_of_state (parts_state t hs)) growth
  room_unposted postings moves = grind (arith, common_steps, fits_without_rise)

-- If there is room for a request with its postings and moves, there is room for it in the state without postings.
module _ (t : Thesaurus) {after : State} {resources labels links postings moves : ℕ} where
  pub room_without : (answer : Option Refusal)
      → refused_unless
      (HasRoomForGrowth t.limits (amounts_of_parts t) (growth_of resources labels links postings moves)) no.TooMany
      accepted answer
      → Grows (parts_state t []) after (growth_of resources labels links 0 0) → answer ≡ None
      → unless_within_limits (setting_of t) (parts_state t []) after None
  room_without answer h grows none = grind (arith, common_steps, fits_without_rise, within_of_room)

-- The limits refuse a request exactly when they leave no room for its growth.
module _ (t : Thesaurus) (hs : List History) {after : State} {growth : Growth} {answer : Option Refusal} where
  row_of_room : HasRoomForGrowth t.limits (amounts_of_parts t) growth ↔ HasRoomForGrowth t.limits
      (amounts_of_state (parts_state t hs)) growth → Grows (parts_state t hs) after growth
      → refused_unless (HasRoomForGrowth t.limits (amounts_of_parts t) growth) no.TooMany accepted answer
      → unless_within_limits (setting_of t) (parts_state t hs) after answer
  row_of_room same grows (inl (full, is)) =
      inl (λ within. full (same.1 (room_of_within t.limits (parts_state t hs) after growth grows within)), is)
  row_of_room same grows (inr (room, is)) = grind (arith, common_steps, within_of_room)

  pub room_row : ArePostingCounts hs t.book → Grows (parts_state t hs) after growth
      → refused_unless (HasRoomForGrowth t.limits (amounts_of_parts t) growth) no.TooMany accepted answer
      → unless_within_limits (setting_of t) (parts_state t hs) after answer
  room_row are = row_of_room (room_summed t hs are)

  pub room_bare : growth.postings ≡ 0 → growth.moves ≡ 0 → Grows (parts_state t hs) after growth
      → refused_unless (HasRoomForGrowth t.limits (amounts_of_parts t) growth) no.TooMany accepted answer
      → unless_within_limits (setting_of t) (parts_state t hs) after answer
  room_bare postings moves = row_of_room (room_unposted t hs postings moves)

-- The checks for Cycle, S27 and S46 refuse by the first of these rules that the links break.
first_row : (Held : Link → Type 0) (first : Option Refusal) → IsFirstBroken Held first → unless_links_consistent Held
    accepted first
first_row Held None broken = row_of_first Held accepted None None broken refl
first_row Held (Some r) broken = row_of_first Held accepted (Some r) (Some r) broken refl

module _ (t : Thesaurus) (hs : List History) (kept : AreLegal t hs) where
  -- The graph marks exactly the outside concepts.
  pub outside_same : set.contains t.graph.outside ≡ is_outside t.vocab.resources
  outside_same i n = kept.outside n i

  -- The graph's check of a new link is the machine's.
  pub held_row : (l : Link) (answer : Option Refusal) → checks_of_add t.graph.links
      (normal_form (set.contains t.graph.outside) l) answer → unless_linkable (is_outside t.vocab.resources)
      t.graph.links l answer
  held_row l answer says =
      go (subst (λ (f : ℕ → Bool). checks_of_add t.graph.links (normal_form f l) answer) outside_same says)
    where
      go : checks_of_add t.graph.links (normal_form (is_outside t.vocab.resources) l) answer
          → unless_linkable (is_outside t.vocab.resources) t.graph.links l answer
      go (inl held) = inl held
      go (inr (new, broken)) = inr (new, first_row _ answer broken)

  -- The graph's check of a merge is the machine's.
  pub joined_row : (source target : ℕ) (answer : Option Refusal)
      → IsFirstBroken (Holds (links_after_merge (set.contains t.graph.outside) source target t.graph.links)) answer
      → unless_links_consistent
      (Holds (links_after_merge (is_outside t.vocab.resources) source target t.graph.links)) accepted answer
  joined_row source target answer broken =
      first_row _ answer
      (subst (λ (f : ℕ → Bool). IsFirstBroken (Holds (links_after_merge f source target t.graph.links)) answer)
      outside_same broken)

  -- Each concept has a scheme.
  pub has_scheme : (n : ℕ) → IsConcept t.vocab.resources n → (scheme : ℕ)
      × (scheme_of t.vocab.resources n ≡ Some scheme) × IsScheme t.vocab.resources scheme
  has_scheme n (r, at, concept) = let has = (kept.legal.resources.each n r at).scheme (inl concept) in
      (has.0, scheme_at t.vocab.resources n r at ∙ has.1, has.2)

  -- The vocabulary's check of a new concept in the scheme of the source agrees with the check of a split.
  module _ (source scheme : ℕ) (tag text : List ℕ) (concept : IsConcept t.vocab.resources source)
      (is : scheme_of t.vocab.resources source ≡ Some scheme) where
    abbrev after_in : Option ℕ → State
    after_in o = state_after_creation (concept_resource o) tag text (parts_state t hs)

    abbrev unique_in : Option ℕ → RefusalRule
    unique_in o = unless_unique (after_in o).resources (after_in o).labels accepted

    is_scheme : IsScheme t.vocab.resources scheme
    is_scheme = let has = has_scheme source concept in
        subst (IsScheme t.vocab.resources) (same_Some _ _ (sym has.1 ∙ is)) has.2

    pub name_row : (answer : Option Refusal) → unless_new t.vocab (Concept scheme tag text) accepted answer
        → unique_in (scheme_of t.vocab.resources source) answer
    name_row answer (inl (unknown, _)) = absurd (unknown (is_scheme.0, is_scheme.1))
    name_row answer (inr (_, inl (wrong, _))) = absurd (wrong is_scheme)
    name_row answer (inr (_, inr (_, unique))) = subst (λ (o : Option ℕ). unique_in o answer) (sym is) unique

    pub name_allowed : unique_in (scheme_of t.vocab.resources source) None
        → unless_new t.vocab (Concept scheme tag text) accepted None
    name_allowed unique =
        inr ((is_scheme.0, is_scheme.1), inr (is_scheme, subst (λ (o : Option ℕ). unique_in o None) is unique))

-- If two requests are equal, the refusal of one is that of the other.
pub judged_by : {t : Thesaurus} {facts : Facts} {command shown : Command} → command ≡ shown → (answer : Option Refusal)
    → ((hs : List History) → AreLegal t hs → ArePostingCounts hs t.book → AreFacts shown hs facts
    → RefusalByParts t hs shown answer)
    → (hs : List History) → AreLegal t hs → ArePostingCounts hs t.book → AreFacts command hs facts
    → RefusalByParts t hs command answer
judged_by {t} {facts} is answer says hs kept are told = subst (λ (k : Command). RefusalByParts t hs k answer) (sym is)
    (says hs kept are (subst (λ (k : Command). AreFacts k hs facts) is told))

pub may_by : (t : Thesaurus) {command shown : Command} → command ≡ shown → (answer : Option Refusal)
    → IfNone answer (MayApply (parts_view t false) shown) → IfNone answer (MayApply (parts_view t false) command)
may_by t is answer may = subst (λ (k : Command). IfNone answer (MayApply (parts_view t false) k)) (sym is) may

-- A request with a new key that passes all checks is accepted.
pub accepts_of_row : (t : Thesaurus) (command : Command) (answer : Option Refusal)
    → HasNewKey command (parts_state t []) → RefusalByParts t [] command answer
    → IfNone answer (IsAccepted (setting_of t) (parts_state t []) command)
accepts_of_row t command None fresh row = record { fresh = fresh; row = row }
accepts_of_row t command (Some r) fresh row = tt

pub if_kept : {K : Type 0} (P : Type 0) (answer : Option Refusal) → IfNone answer (K → P) → K → IfNone answer P
if_kept P None may kept = may kept
if_kept P (Some r) may kept = tt

pub may_always : (answer : Option Refusal) → IfNone answer (Unit {0})
may_always None = tt
may_always (Some r) = tt
