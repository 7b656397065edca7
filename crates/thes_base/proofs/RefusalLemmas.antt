-- The refusals of new concepts, labels, relabellings, links, merges and splits can be read off the triples after them.
use Rattle.std.proofs.lemmas.Grind.{common_steps}
use Rattle.std.proofs.Common.{◌≡◌, ◌⊎◌, ℕ, ◌++◌, ◌∷◌, [], List, refl, arith, length-append, sym, subst, inl, inr}
use Rattle.std.proofs.Common.{Bool, true, false, ◌&&◌, ◌||◌, nat_lt}
use Rattle.std.specs.Prelude.{◌↔◌, Option, None, Some, if◌then◌else◌, ◌==◌}
use Rattle.thes_base.specs.declared.data.Resource.{Resource}
use Rattle.thes_base.specs.declared.data.Link.{Link}
use Rattle.thes_base.specs.declared.fault.Refusal.{Refusal}
use Rattle.thes_base.specs.declared.fault.Refusal.TheVariants as no
use Rattle.thes_base.specs.RefusalRules.{RefusalRule, refused_if, refused_unless, accepted}
use Rattle.thes_base.specs.Resources.{set_entry_at, Exists, scheme_of, is_outside, is_outside_kind}
use Rattle.std.specs.FinSet.{contains, insert}
use Rattle.thes_base.specs.Links.{Holds, form_of, is_symmetric, reversed_link, normal_form}
use Rattle.thes_base.specs.Links.{redirect, redirect_link, links_after_merge}
use Rattle.thes_base.specs.RuleParts.{unless_links_consistent}
use Rattle.thes_base.specs.State.{State}
use Rattle.thes_base.specs.Triples.{Triple, IsAsserted}
use Rattle.thes_base.specs.Skos as skos
use Rattle.thes_base.specs.Changes.{label, next_number, state_after_creation, concept_resource, replace_preferred}
use Rattle.thes_base.specs.Changes.{state_after_link, resource_after_death, state_after_merge}
use Rattle.thes_base.specs.Refusals.{Setting, EachListed, IsKnownPosting, IsNotWithdrawn}
use Rattle.thes_base.specs.RuleParts.{unless_scheme, unless_unique}
use Rattle.thes_base.specs.RuleParts.{unless_owner, unless_new_label, unless_replaceable_preferred, unless_ends}
use Rattle.thes_base.specs.RuleParts.{unless_pair}
use Rattle.thes_base.specs.RuleParts.{unless_live_concept, unless_split_postings, unless_within_limits}
use Rattle.thes_base.specs.Machine.{next_state, owned_label, link}
use Rattle.thes_base.specs.declared.request.Command.{Command}
use Rattle.thes_base.specs.declared.data.History.{History}
use Rattle.thes_base.specs.declared.data.LinkKind.{LinkKind}
use Rattle.thes_base.specs.declared.data.LabelKind.TheVariants.{Pref}
use Rattle.thes_base.specs.Data.{LabelData}
use Rattle.thes_base.specs.Labels.{Label, Labels, HasLabel, preferred_label_in, S13, S14, UniquePreferred}
use Rattle.thes_base.specs.declared.request.Command.TheVariants as request
use Rattle.thes_base.specs.Legal.{IsLegalState}
use Rattle.thes_base.specs.Laws.{RulesAgreeWithTriples, RefusalsMatchTriples, RefusalMatchesTriples}
use Rattle.thes_base.specs.Laws.{checks_of_uniqueness, checks_of_relabelling, checks_of_labelling}
use Rattle.thes_base.specs.Laws.{checks_of_relations}
use Rattle.thes_base.proofs.RefusalRuleLemmas.{passed_if, passed_unless}
use Rattle.thes_base.proofs.RefusalRulePartLemmas.{scheme_part, owner_part, ends_part, pair_part, live_concept_part}
use Rattle.thes_base.proofs.RefusalRulePartLemmas.{listed_part}
use Rattle.thes_base.proofs.NumberedLemmas.{push_old, push_new}
use Rattle.thes_base.proofs.LabelSetLemmas.{inserted_cases}
use Rattle.thes_base.proofs.ReplacePreferredLemmas.{renamed_cases}
use Rattle.thes_base.proofs.ResourceLemmas.{marked_dead_at, exists_dead}
use Rattle.thes_base.proofs.LegalResourceLemmas.{IsFit, concept_fit, own_scheme, each_pushed, iris_push}
use Rattle.thes_base.proofs.LegalResourceLemmas.{resources_merged}
use Rattle.thes_base.proofs.ConditionLemmas.{owner_exists, ends_exist}
use Rattle.thes_base.proofs.LinkSetLemmas.{link_inserted_cases, contracted_from}
use Rattle.thes_base.proofs.CopiedLabelLemmas.{labels_merged}
use Rattle.thes_base.proofs.MachineLemmas.{rules_agree, triples_match_rules}

abbrev unless_triples_consistent : (Triple → Type 0) → RefusalRule → RefusalRule
unless_triples_consistent T rest =
    refused_unless (skos.MeetsNoCycle T) no.Cycle
    (refused_unless (skos.MeetsS27 T) no.S27
    (refused_unless (skos.MeetsS46 T) no.S46 rest))

abbrev unless_triples_unique : (Triple → Type 0) → RefusalRule → RefusalRule
unless_triples_unique T = refused_unless (skos.MeetsUniquePreferred T) no.PreferredTaken

abbrev unless_triples_disjoint : (Triple → Type 0) → RefusalRule → RefusalRule
unless_triples_disjoint T rest = refused_unless (skos.MeetsS13 T) no.S13 (unless_triples_unique T rest)

abbrev unless_triples_labelled : (Triple → Type 0) → RefusalRule → RefusalRule
unless_triples_labelled T rest =
    refused_unless (skos.MeetsS13 T) no.S13
    (refused_unless (skos.MeetsS14 T) no.S14
    (unless_triples_unique T rest))

-- Rules with equivalent conditions and equivalent remaining rules are equivalent.
module _ (C D : Type 0) (name : Refusal) (rest other : RefusalRule) (answer : Option Refusal) where
  unless_to : (C → D) → (D → C) → (rest answer → other answer) → refused_unless C name rest answer
      → refused_unless D name other answer
  unless_to to back says (inl (fails, is)) = inl (λ d. fails (back d), is)
  unless_to to back says (inr (holds, row)) = inr (to holds, says row)

unless_same : (C D : Type 0) (name : Refusal) (rest other : RefusalRule) (answer : Option Refusal) → C ↔ D
    → rest answer ↔ other answer → refused_unless C name rest answer ↔ refused_unless D name other answer
unless_same C D name rest other answer same says = grind (arith, common_steps, unless_to)

-- If the conditions on triples agree with the rules of links and labels, checks of either refuse alike.
module _ (base : List ℕ) (s : State) (seen : RulesAgreeWithTriples base s) (rest : RefusalRule)
    (answer : Option Refusal) where
  abbrev held : Link → Type 0
  held = Holds s.links

  abbrev triples : Triple → Type 0
  triples = IsAsserted base s

  consistent_seen : unless_links_consistent held rest answer ↔ unless_triples_consistent triples rest answer
  consistent_seen = grind (arith, common_steps, unless_same)

  abbrev unique : RefusalRule
  unique = unless_unique s.resources s.labels rest

  unique_seen : unique answer ↔ unless_triples_unique triples rest answer
  unique_seen = unless_same (UniquePreferred s.resources s.labels) (skos.MeetsUniquePreferred triples)
      no.PreferredTaken rest rest answer seen.unique_preferred (λ says. says, λ says. says)

  disjoint_seen : refused_unless (S13 s.labels) no.S13 unique answer ↔ unless_triples_disjoint triples rest answer
  disjoint_seen = unless_same (S13 s.labels) (skos.MeetsS13 triples) no.S13 unique
      (unless_triples_unique triples rest) answer seen.s13 unique_seen

  labelled_seen : refused_unless (S13 s.labels) no.S13 (refused_unless (S14 s.labels) no.S14 unique) answer
      ↔ unless_triples_labelled triples rest answer
  labelled_seen =
      unless_same (S13 s.labels) (skos.MeetsS13 triples) no.S13 (refused_unless (S14 s.labels) no.S14 unique)
      (refused_unless (skos.MeetsS14 triples) no.S14 (unless_triples_unique triples rest)) answer seen.s13
      (unless_same (S14 s.labels) (skos.MeetsS14 triples) no.S14 unique (unless_triples_unique triples rest) answer
      seen.s14 unique_seen)

-- Both ends of the link are resources.
abbrev HasEnds : List Resource → Link → Type 0
HasEnds rs l = Exists rs l.a × Exists rs l.b

norm_ends : (rs : List Resource) (outside : ℕ → Bool) (l : Link) → HasEnds rs l → HasEnds rs (normal_form outside l)
norm_ends rs outside l known = go (is_symmetric (outside l.a || outside l.b) l.kind && nat_lt l.b l.a)
  where
    go : (t : Bool) → HasEnds rs (if t then reversed_link l else l)
    go true = (known.1, known.0)
    go false = known

sent_exists : (rs : List Resource) (source target n : ℕ) → Exists rs target → Exists rs n
    → Exists rs (redirect source target n)
sent_exists rs source target n to known = go (n == source)
  where
    go : (t : Bool) → Exists rs (if t then target else n)
    go true = to
    go false = known

module _ (base : List ℕ) (s : State) (legal : IsLegalState base s) where
  held_ends : (l : Link) → Holds s.links l → HasEnds s.resources l
  held_ends l held = ends_exist s.resources (form_of l.kind) l.a l.b (legal.links.each l held).ends

  link_seen : (l : Link) → HasEnds s.resources l → RulesAgreeWithTriples base (state_after_link l s)
  link_seen l known =
      triples_match_rules base (state_after_link l s) legal.resources
      (λ m held. ends_at m (link_inserted_cases s.links (normal_form (is_outside s.resources) l) m held))
      (λ m held. owner_exists s.resources m.owner (legal.labels.owners m held))
    where
      ends_at : (m : Link) → (m ≡ normal_form (is_outside s.resources) l) ⊎ Holds s.links m → HasEnds s.resources m
      ends_at m (inl is) = subst (HasEnds s.resources) (sym is) (norm_ends s.resources (is_outside s.resources) l known)
      ends_at m (inr old) = held_ends m old

  -- The ends of each link after a merge are resources.
  contracted_ends : (source target : ℕ) → Exists s.resources target → (m : Link)
      → Holds (links_after_merge (is_outside s.resources) source target s.links) m → HasEnds s.resources m
  contracted_ends source target to m held =
      let before = contracted_from (is_outside s.resources) source target s.links m held in
      let l = before.0 in
      let known = held_ends l before.1 in
      subst (HasEnds s.resources) (sym before.3)
      (norm_ends s.resources (is_outside s.resources) (redirect_link source target l) (
        sent_exists s.resources source target l.a to known.0,
        sent_exists s.resources source target l.b to
            known.1,
      ))

  -- The conditions on triples agree with the rules after a merge.
  merge_seen : (source target : ℕ) → unless_pair s.resources source target accepted None → RulesAgreeWithTriples base
      (state_after_merge source target s)
  merge_seen source target pair =
      let known = passed_unless pair in
      let kinds = passed_unless known.1 in
      let live = passed_unless kinds.1 in
      let apart = passed_if live.1 in
      let schemes = passed_unless apart.1 in
      let r = known.0.0.0 in
      let at = known.0.0.1 in
      let labels = labels_merged s.resources s.labels source target legal.labels (inr (inl kinds.0.1)) in
      subst (λ rs. RulesAgreeWithTriples base (record (state_after_merge source target s) { resources = rs }))
      (sym (marked_dead_at s.resources source (Some target) r at))
      (triples_match_rules base
      (record (state_after_merge source target s) {
        resources =
            set_entry_at s.resources source (resource_after_death (Some target) r);
      })
      (resources_merged base s.resources s.iris source target r at legal.resources kinds.0.0 kinds.0.1 live.0.1
      apart.0 schemes.0)
      (λ l held. let ends = contracted_ends source target known.0.1 l held in (
        exists_dead s.resources source (Some target) r at l.a ends.0,
        exists_dead s.resources source (Some target)
            r at l.b ends.1,
      ))
      (λ l held. exists_dead s.resources source (Some target) r
      at l.owner (owner_exists s.resources l.owner (labels.owners l held))))

  owner_known : (l : Label) → contains s.labels l ≡ true → Exists s.resources l.owner
  owner_known l held = owner_exists s.resources l.owner (legal.labels.owners l held)

  -- The conditions on triples agree with the rules after a resource other than an outside concept is created.
  pushed_seen : (r : Resource) (tag text : List ℕ) (histories : List History) → IsFit s.resources r
      → is_outside_kind r.kind ≡ false → RulesAgreeWithTriples base
      (record (state_after_creation r tag text s) { histories = histories })
  pushed_seen r tag text histories fit inside =
      rules_agree base (record (state_after_creation r tag text s) { histories = histories })
      (let n = length-append s.resources (r ∷ []) in let few = legal.resources.few in omega (arith, n, few))
      (each_pushed base s.resources s.iris r legal.resources fit)
      (iris_push base s.resources s.iris r legal.resources fit inside)
      (λ l held. let ends = held_ends l held in (still l.a ends.0, still l.b ends.1))
      (λ l held. owner_at l (inserted_cases s.labels (label (next_number s) Pref tag text) l held))
    where
      still : (n : ℕ) → Exists s.resources n → Exists (s.resources ++ r ∷ []) n
      still n (q, at) = (q, push_old s.resources r q n at)

      owner_at : (l : Label) → (l ≡ label (next_number s) Pref tag text) ⊎ (contains s.labels l ≡ true)
          → Exists (s.resources ++ r ∷ []) l.owner
      owner_at l (inl is) = subst (λ (x : Label). Exists (s.resources ++ r ∷ []) x.owner) (sym is)
          (r, push_new s.resources r)
      owner_at l (inr old) = still l.owner (owner_known l old)

  -- The conditions on triples agree with the rules after a change of labels, if the owners of the new labels exist.
  relabelled_seen : (labels : Labels) → ((l : Label) → contains labels l ≡ true → Exists s.resources l.owner)
      → RulesAgreeWithTriples base (record s { labels = labels })
  relabelled_seen labels owners = triples_match_rules base (record s { labels = labels }) legal.resources held_ends
      owners

  added_owner : (l q : Label) → Exists s.resources l.owner → contains (insert s.labels l) q ≡ true
      → Exists s.resources q.owner
  added_owner l q known held = elim (inserted_cases s.labels l q held)
      [ inl is ↦ subst (λ (x : Label). Exists s.resources x.owner) (sym is) known | inr old ↦ owner_known q old ]

  renamed_owner : (owner : ℕ) (tag text : List ℕ) (keep : Bool) → Exists s.resources owner
      → (o : Option (List ℕ)) (q : Label)
      → contains (elim o [ None ↦ s.labels | Some old ↦ replace_preferred owner tag text keep old s.labels ]) q ≡ true
      → Exists s.resources q.owner
  renamed_owner owner tag text keep known None q held = owner_known q held
  renamed_owner owner tag text keep known (Some old) q held =
      elim (renamed_cases s.labels owner tag text old keep q held) [
        | inl is ↦ subst (λ (x : Label). Exists s.resources x.owner) (sym is) known
        | inr (inl (_, is)) ↦ subst (λ (x : Label). Exists s.resources x.owner) (sym is) known
        | inr (inr before) ↦ owner_known q before.1
      ]

-- If the condition doesn't hold, the remaining rule decides.
past_if : {sentence rest : Type 0} {name : Refusal} {answer : Option Refusal} → (¬ sentence)
    → (sentence × (answer ≡ Some name)) ⊎ ((¬ sentence) × rest) → rest
past_if holds_not (inl (holds, is)) = absurd (holds_not holds)
past_if holds_not (inr (_, says)) = says

past_unless : {condition rest : Type 0} {name : Refusal} {answer : Option Refusal} → condition
    → ((¬ condition) × (answer ≡ Some name)) ⊎ (condition × rest) → rest
past_unless holds (inl (fails, is)) = absurd (fails holds)
past_unless holds (inr (_, says)) = says

module _ (setting : Setting) (s : State) (legal : IsLegalState setting.base s) where
  abbrev room : Command → RefusalRule
  room command = unless_within_limits setting s (next_state command s)

  by_concept : (scheme : ℕ) (tag text : List ℕ) → unless_scheme s.resources scheme accepted None
      → RefusalMatchesTriples setting s (request.Concept scheme tag text) checks_of_uniqueness
  by_concept scheme tag text may answer =
      let command = request.Concept scheme tag text in
      let after = next_state command s in
      let fit = concept_fit s.resources (Some scheme) (scheme, refl, (passed_unless (passed_unless may).1).0) in
      let same = unique_seen setting.base after (pushed_seen setting.base s legal (concept_resource (Some scheme)) tag
      text s.histories fit refl) (room command) answer in
      let part = scheme_part s.resources scheme in
      let rest : RefusalRule = unless_unique after.resources after.labels (room command) in
      (λ row. same.0 (part.past rest answer may row), λ row. part.passes rest answer may (same.1 row))

  by_label : (owner : ℕ) (l : LabelData) → unless_owner s.resources owner accepted None
      → (¬ HasLabel s.labels owner l.kind l.tag l.text) → RefusalMatchesTriples setting s (request.AddLabel owner l)
      checks_of_labelling
  by_label owner l may new answer =
      let command = request.AddLabel owner l in
      let after = next_state command s in
      let seen = relabelled_seen setting.base s legal after.labels
      (λ q held. added_owner setting.base s legal (owned_label owner l) q (passed_unless may).0 held) in
      let same = labelled_seen setting.base after seen (room command) answer in
      let part = owner_part s.resources owner in
      let rest : RefusalRule = unless_new_label s.labels after.resources after.labels (owned_label owner l)
      (room command) in (
        λ row. same.0 (past_if new (part.past rest answer may row)),
        λ row. part.passes rest answer may
            (inr (new, same.1 row)),
      )

  by_relabel : (owner : ℕ) (tag text old : List ℕ) (keep : Bool) → unless_owner s.resources owner accepted None
      → HasLabel s.labels owner Pref tag old → RefusalMatchesTriples setting s (request.Relabel owner tag text keep)
      checks_of_relabelling
  by_relabel owner tag text old keep may has answer =
      let command = request.Relabel owner tag text keep in
      let after = next_state command s in
      let seen = relabelled_seen setting.base s legal after.labels (λ q held. renamed_owner setting.base s legal owner
      tag text keep (passed_unless may).0 (preferred_label_in s.labels owner tag) q held) in
      let same = disjoint_seen setting.base after seen (room command) answer in
      let part = owner_part s.resources owner in
      let rest : RefusalRule = unless_replaceable_preferred s.labels after.resources after.labels owner tag
      (room command) in (
        λ row. same.0 (past_unless (old, has) (part.past rest answer may row)),
        λ row. part.passes rest answer may
            (inr ((old, has), same.1 row)),
      )

  by_link : (kind : LinkKind) (a b : ℕ) → unless_ends s.resources (link kind a b) accepted None
      → (¬ Holds s.links (normal_form (is_outside s.resources) (link kind a b))) → RefusalMatchesTriples setting s
      (request.Link kind a b) checks_of_relations
  by_link kind a b may new answer =
      let command = request.Link kind a b in
      let after = next_state command s in
      let same =
      consistent_seen setting.base after (link_seen setting.base s legal (link kind a b) (passed_unless may).0)
      (room command) answer in
      let part = ends_part s.resources (link kind a b) in
      let rest : RefusalRule = refused_if (Holds s.links (normal_form (is_outside s.resources) (link kind a b)))
      no.LinkThere (unless_links_consistent (Holds after.links) (room command)) in (
        λ row. same.0 (past_if new (part.past rest answer may row)),
        λ row. part.passes rest answer may
            (inr (new, same.1 row)),
      )

  by_merge : (source target : ℕ) → unless_pair s.resources source target accepted None → RefusalMatchesTriples setting
      s (request.Merge source target) checks_of_relations
  by_merge source target may answer =
      let command = request.Merge source target in
      let after = next_state command s in
      let same = consistent_seen setting.base after (merge_seen setting.base s legal source target may) (room command)
      answer in
      let part = pair_part s.resources source target in
      let rest : RefusalRule = unless_links_consistent (Holds after.links) (room command) in
      (λ row. same.0 (part.past rest answer may row), λ row. part.passes rest answer may (same.1 row))

  -- The refusal of a split can be read off the triples after it.
  by_split : (source : ℕ) (tag text : List ℕ) (postings : List ℕ) → unless_live_concept s.resources source accepted
      None → unless_split_postings s.histories source postings accepted None → RefusalMatchesTriples setting s
      (request.Split source tag text postings) checks_of_uniqueness
  by_split source tag text postings may listed answer =
      let command = request.Split source tag text postings in
      let after = next_state command s in
      let scheme = scheme_of s.resources source in
      let fit =
      concept_fit s.resources scheme (own_scheme s.resources legal.resources.each source
      (passed_unless (passed_unless may).1).0) in
      let same = unique_seen setting.base after (pushed_seen setting.base s legal (concept_resource scheme) tag text
      after.histories fit refl) (room command) answer in
      let part = live_concept_part s.resources source in
      let listing = listed_part s.histories source postings in
      let last : RefusalRule = unless_unique after.resources after.labels (room command) in
      let rest : RefusalRule = unless_split_postings s.histories source postings last in (
        λ row. same.0 (listing.past last answer listed (part.past rest answer may row)),
        λ row. part.passes rest answer
            may (listing.passes last answer listed (same.1 row)),
      )

-- Each listed posting that isn't withdrawn is a known posting.
known_listed : (histories : List History) (postings : List ℕ) → EachListed (IsNotWithdrawn histories) postings
    → EachListed (IsKnownPosting histories) postings
known_listed histories [] each = tt
known_listed histories (n ∷ ns) each = ((each.0.0, each.0.1), known_listed histories ns each.1)

-- The law on the triples after a request, for new concepts, labels, relabellings, links, merges and splits.
pub refusals_match_triples : RefusalsMatchTriples
refusals_match_triples setting s legal = record {
  concept = λ scheme tag text is. by_concept setting s legal scheme tag text (inr ((is.0, is.1), inr (is, refl)));
  add_label = λ owner l can live.
      by_label setting s legal owner l (inr (owner_exists s.resources owner can, inr (can, inr (live, refl))));
  relabel = λ owner tag text old keep can live.
      by_relabel setting s legal owner tag text old keep
      (inr (owner_exists s.resources owner can, inr (can, inr (live, refl))));
  link = λ kind a b ends live apart schemes.
      by_link setting s legal kind a b
      (inr (ends_exist s.resources (form_of kind) a b ends, inr (ends, inr (live, inr (apart, inr (schemes, refl))))));
  merge = λ source target are live apart same.
      by_merge setting s legal source target
      (inr (((are.0.0, are.0.1), (are.1.0, are.1.1)), inr (are, inr (live, inr (apart, inr (same, refl))))));
  split = λ source tag text postings is live once standing placed.
      by_split setting s legal source tag text postings (inr ((is.0, is.1), inr (is, inr (live, refl))))
      (inr (once, inr (known_listed s.histories postings standing, inr (standing, inr (placed, refl)))));
}
