-- Applying an accepted request to the parts of a thesaurus gives the machine's next state, its answer, and the counts
-- of its postings.
use Rattle.std.proofs.lemmas.Grind.{common_steps}
use Rattle.std.proofs.Common.{◌≡◌, ◌≢◌, ◌<◌, ◌^◌, ◌+◌, ℕ, length, List, [], refl, sym, ap, ◌∙◌, subst}
use Rattle.std.proofs.Common.{arith, rules, zero, suc, ◌≤◌, Bool, true, false, length-append}
use Rattle.std.specs.Prelude.{None, Some, Result, Ok, Err, OnOk, count_by}
use Rattle.std.specs.Ordering.{nat_cmp}
use Rattle.std.specs.FinSet as set
use Rattle.thes_base.specs.declared.data.NewResource.{NewResource}
use Rattle.thes_base.specs.declared.data.NewResource.TheVariants.{Concept, Outside}
use Rattle.thes_base.specs.declared.data.History.{History}
use Rattle.thes_base.specs.declared.request.Command.{Command}
use Rattle.thes_base.specs.declared.request.Command.TheVariants as request
use Rattle.thes_base.specs.RefusalRules.{accepted}
use Rattle.thes_base.specs.Resources.{IsConcept, scheme_of, replacements, is_outside}
use Rattle.thes_base.specs.Postings.{is_assigned_to, assigned_count, move_count}
use Rattle.thes_base.specs.State.{State, empty_state}
use Rattle.thes_base.specs.Changes.{histories_after_split, state_after_split, is_listed}
use Rattle.thes_base.specs.Headline.{IsConsistentState}
use Rattle.thes_base.specs.Legal.{IsLegalState}
use Rattle.thes_base.specs.Texts.{CommandHasForms}
use Rattle.thes_base.specs.Machine.{next_state}
use Rattle.thes_base.specs.Refusals.{Setting, IsSetting}
use Rattle.thes_base.specs.RuleParts.{unless_unique, unless_split_postings}
use Rattle.thes_base.proofs.ForwardingLemmas.{count_posted}
use Rattle.thes_base.proofs.ListedLemmas.{listed_count}
use Rattle.thes_base.proofs.MachineLemmas.{legal_empty, legal_is_consistent}
use Rattle.thes_base.proofs.MoveLemmas.{count_moved}
use Rattle.thes_base.proofs.NumberedLemmas.{numbered_bound}
use Rattle.thes_base.proofs.RefusalRuleLemmas.{passed_unless, passed_if}
use Rattle.thes_base.proofs.SoundStateLemmas.{IsSound}
use Rattle.thes_vocab.specs.Vocabulary.{Vocabulary, empty_vocabulary}
use Rattle.thes_vocab.specs.NewResources.{unless_new, vocabulary_after_add}
use Rattle.thes_links.specs.GraphView.{GraphView}
use Rattle.thes_post.specs.PostingCounts.{PostingCounts, ArePostingCounts, CountsAfterMoves}
use Rattle.thes_post.proofs.PostingCountLemmas.{AllAssigned, all_assigned, both_fit, fewer_than, sums_moved, sums_none}
use Rattle.thes_core.specs.declared.thesaurus.Thesaurus.{Thesaurus}
use Rattle.thes_core.specs.CoreView.{CoreView, IsViewOf, with_histories, without_postings}
use Rattle.thes_core.specs.CoreDecisions.{IsAccepted, MayApply}
use Rattle.thes_core.specs.declared.facts.Facts.{Facts}
use Rattle.thes_core.specs.Facts.{AreFacts}
use Rattle.thes_core.specs.Requests.{PartsAccept, AreMatching, PartsOfState, CountsAfter, MayChange, PartsAfter}
use Rattle.thes_core.specs.Requests.{creation_request, is_foreign}
use Rattle.thes_core.specs.PartsView.{parts_state, setting_of, parts_view, AreLegal}
use Rattle.thes_core.proofs.FactLemmas.{listed_stand}
use Rattle.thes_core.proofs.RequestCheckLemmas.{name_allowed}
use Rattle.thes_core.proofs.NextStateLemmas.{next_sound, next_legal}
use Rattle.thes_core.proofs.OutsideLemmas.{knows_pushed, knows_marked}

-- If the new vocabulary and graph are those of a state, and limits and base are unchanged, the new parts are those of
-- the state.
pub parts_become_state : {old new : Thesaurus} {s : State} {v : Vocabulary} {g : GraphView} → new.vocab ≡ v → new.graph
    ≡ g
    → new.limits ≡ old.limits
    → record { resources = v.resources; iris = v.iris; labels = v.labels; links = g.links; histories = s.histories }
    ≡ s → v.base ≡ old.vocab.base → ((n : ℕ) → set.contains g.outside n ≡ is_outside v.resources n)
    → PartsOfState old s new
parts_become_state {old} {new} {s} {v} {g} is_v is_g is_l is_s base knows = grind (arith, common_steps)

-- The next state of an accepted request is sound.
sound_after : (t : Thesaurus) (hs : List History) (command : Command) → PartsAccept t hs command
    → IsSound t.vocab.base (next_state command (parts_state t hs))
sound_after t hs command ok = next_sound (setting_of t) ok.kept.fit (parts_state t hs) command ok.kept.legal ok.accepts

-- Parts of a legal state satisfy their invariant.
pub kept_after : (old new : Thesaurus) (s : State) → IsSetting (setting_of old) → IsLegalState old.vocab.base s
    → PartsOfState old s new → AreLegal new s.histories
kept_after old new s fit legal made = grind (arith, common_steps)

-- The next state of a request that may be applied is legal without its postings.
bare_legal : (t : Thesaurus) (command : Command) → CommandHasForms command → MayChange t command
    → IsLegalState t.vocab.base (without_postings (next_state command (parts_state t [])))
bare_legal t (request.Split source tag text postings) forms (kept, ok) =
    next_legal (setting_of t) kept.fit (parts_state t []) (request.Split source tag text []) forms kept.legal ok
bare_legal t (request.Post key rec concept) forms (kept, ok) = kept.legal
bare_legal t (request.Withdraw posting) forms (kept, ok) = kept.legal
bare_legal t command forms (kept, ok) =
    next_legal (setting_of t) kept.fit (parts_state t []) command forms kept.legal ok

-- The next state, except for its postings, doesn't depend on the postings of the state.
next_parts : (t : Thesaurus) (hs : List History) (command : Command)
    → record (without_postings (next_state command (parts_state t []))) {
      histories = (next_state command (parts_state t hs)).histories;
    } ≡ next_state command (parts_state t hs)
next_parts t hs (request.Withdraw posting) = refl
next_parts t hs _ = refl

-- If the new parts are those of the next state without postings, they are those of the next state for any histories.
pub remade_for : (old new : Thesaurus) (hs : List History) (command : Command) → PartsAfter command old new
    → PartsOfState old (next_state command (parts_state old hs)) new
remade_for old new hs command made = grind (arith, common_steps, next_parts)

-- The moves of a merge can be numbered within 32 bits.
pub merge_fits : (t : Thesaurus) (hs : List History) (source target : ℕ)
    → PartsAccept t hs (request.Merge source target) → move_count hs + assigned_count source hs < 2 ^ 32
merge_fits t hs source target ok = grind (arith, common_steps, count_moved, sound_after)

pub merge_apart : (t : Thesaurus) (hs : List History) (source target : ℕ)
    → PartsAccept t hs (request.Merge source target) → source ≢ target
merge_apart t hs source target ok = (passed_if (passed_unless (passed_unless (passed_unless ok.accepts.row).1).1).1).0

-- The count of the target's postings after a merge fits in 32 bits.
pub merge_there : (t : Thesaurus) (hs : List History) (source target : ℕ)
    → PartsAccept t hs (request.Merge source target) → assigned_count target hs + assigned_count source hs < 2 ^ 32
merge_there t hs source target ok =
    let apart = merge_apart t hs source target ok in
    let fit = both_fit (is_assigned_to source) source target apart (move_count hs + 1) hs
    (all_assigned source target apart hs) in
    let few = ok.kept.legal.postings.few in
    omega (arith, fit, few)

-- The moves of a new posting can be numbered within 32 bits.
pub post_fits : (t : Thesaurus) (hs : List History) (key rec : List ℕ) (concept : ℕ)
    → PartsAccept t hs (request.Post key rec concept) → move_count hs
    + length (replacements t.vocab.resources concept) < 2 ^ 32
post_fits t hs key rec concept ok = grind (arith, common_steps, count_posted, sound_after)

-- A new posting can be numbered within 32 bits.
pub post_more : (t : Thesaurus) (hs : List History) (key rec : List ℕ) (concept : ℕ)
    → PartsAccept t hs (request.Post key rec concept) → length hs + 1 < 2 ^ 32
post_more t hs key rec concept ok = grind (arith, common_steps, length-append, sound_after)

-- What holds after a Post with any key and record holds after this Post.
pub remade_post : {A E : Type 0} (r : Result A E) (P : Command → Type 0) (command : Command) (key rec : List ℕ)
    (concept : ℕ) → command ≡ request.Post key rec concept → OnOk r ((k m : List ℕ) → P (request.Post k m concept))
    → OnOk r (P command)
remade_post (Ok x) P command key rec concept is made = subst P (sym is) (made key rec)
remade_post (Err fault) P command key rec concept is made = tt

-- The parts after a resource is created are those of the machine's next state.
module _ (t : Thesaurus) (kept : AreLegal t []) where
  pub made_other : (new : NewResource) (v : Vocabulary) → is_foreign new ≡ false → v ≡ vocabulary_after_add new
      t.vocab → PartsAfter (creation_request new) t (record t { vocab = v })
  made_other new v e is = grind (arith, common_steps, knows_pushed, parts_become_state)

  pub made_outside : (new : NewResource) (v : Vocabulary) (g : GraphView) (n : ℕ) → is_foreign new ≡ true → v
      ≡ vocabulary_after_add new t.vocab → n ≡ length t.vocab.resources + 1 → g
      ≡ record t.graph { outside = set.insert t.graph.outside n } → PartsAfter (creation_request new) t
      (record t { vocab = v; graph = g })
  made_outside new v g n e is number marked = grind (arith, common_steps, knows_marked, parts_become_state)

-- The counts of postings are still right after a resource is created.
pub made_counts : (t : Thesaurus) (hs : List History) (new : NewResource) → {book : PostingCounts}
    → ArePostingCounts hs book
    → ArePostingCounts (next_state (creation_request new) (parts_state t hs)).histories book
made_counts t hs (Outside iri) are = are
made_counts t hs _ are = are

-- Assumes an accepted split, and gathers its facts, the new counts and the new state.
module _ (t : Thesaurus) (hs : List History) (source : ℕ) (tag text : List ℕ) (postings : List ℕ)
    (ok : PartsAccept t hs (request.Split source tag text postings)) where
  abbrev split_state : State
  split_state = state_after_split source tag text postings (parts_state t hs)

  pub split_source : IsConcept t.vocab.resources source
  split_source = (passed_unless (passed_unless ok.accepts.row).1).0

  pub listed_row : unless_split_postings hs source postings accepted None
  listed_row = let row = ok.accepts.row in search rules depth 16

  pub split_count : count_by (is_listed postings) hs ≡ length postings
  split_count = listed_count t.vocab.base (parts_state t hs) source postings ok.kept.legal listed_row

  pub split_fits : move_count hs + length postings < 2 ^ 32
  split_fits = grind (arith, common_steps, count_moved, sound_after, split_count)

  pub split_apart : (n : ℕ) → n ≡ length t.vocab.resources + 1 → source ≢ n
  split_apart n e same = let b = numbered_bound t.vocab.resources source split_source.0 split_source.1 in
      omega (arith, b, e, same)

  pub all_listed : (n : ℕ) (apart : source ≢ n) → AllAssigned (is_listed postings) source n apart hs
  all_listed n apart = listed_stand n apart hs postings (λ i h at. (ok.kept.legal.postings.sound (suc i) h at).number)
      listed_row

  pub split_standing : (n : ℕ) → n ≡ length t.vocab.resources + 1 → length postings ≤ assigned_count source hs
  split_standing n e =
      let apart = split_apart n e in
      let less = fewer_than (is_listed postings) source n apart (move_count hs + 1) hs (all_listed n apart) in
      let listed = split_count in
      omega (arith, less, listed)

  pub split_there : (n : ℕ) → n ≡ length t.vocab.resources + 1 → assigned_count n hs + length postings < 2 ^ 32
  split_there n e =
      let apart = split_apart n e in
      let fit = both_fit (is_listed postings) source n apart (move_count hs + 1) hs (all_listed n apart) in
      let few = ok.kept.legal.postings.few in
      let listed = split_count in
      omega (arith, fit, few, listed)

  pub split_sums : (n : ℕ) → n ≡ length t.vocab.resources + 1 → (old new : PostingCounts) → ArePostingCounts hs old
      → CountsAfterMoves source n (length postings) old new → ArePostingCounts split_state.histories new
  split_sums n e old new are some = subst (λ (k : ℕ). ArePostingCounts (histories_after_split postings k hs) new) e
      (let apart = split_apart n e in sums_moved (is_listed postings) source n apart (move_count hs + 1) hs
      (all_listed n apart) (length postings) (sym split_count) old new are some)

  module _ (scheme : ℕ) (is : scheme_of t.vocab.resources source ≡ Some scheme) where
    pub split_allowed : unless_new t.vocab (Concept scheme tag text) accepted None
    split_allowed =
        let row = ok.accepts.row in
        let unique : unless_unique split_state.resources split_state.labels accepted None = search rules depth 20 in
        name_allowed t hs ok.kept source scheme tag text split_source is unique

    pub split_adds_concept : (v : Vocabulary) (b : PostingCounts) → v ≡ vocabulary_after_add (Concept scheme tag text)
        t.vocab → PartsOfState t (without_postings split_state) (record t { vocab = v; book = b })
    split_adds_concept v b is_v = grind (arith, common_steps, knows_pushed, parts_become_state)

-- A state of which a core is a view is consistent.
pub held_in_order : (k : CoreView) (s : State) → IsViewOf k s → IsConsistentState k.setting.base s
held_in_order k s holds = legal_is_consistent k.setting.base s holds.legal

-- The view of a usable core is the view of its parts.
pub held_unspent : (t : Thesaurus) (spent : Bool) (k : CoreView) → parts_view t spent ≡ k → k.spent ≡ false
    → parts_view t false ≡ k
held_unspent t spent k is unspent = ap (parts_view t) (sym (ap (λ (x : CoreView). x.spent) is ∙ unspent)) ∙ is

-- A request that may be applied to a usable core may change its parts.
pub parts_may_change : (t : Thesaurus) (spent : Bool) (k : CoreView) (command : Command) → parts_view t spent ≡ k
    → k.spent ≡ false → (spent ≡ false → AreLegal t []) → MayApply k command → MayChange t command
parts_may_change t spent k command is unspent fit may = (
  fit (ap (λ (x : CoreView). x.spent) is ∙ unspent),
  subst (λ (x : CoreView). MayApply x command) (sym (held_unspent t spent k is unspent)) may,
)

-- A core is a view of a state exactly when its parts are those of the state and count its histories.
module _ (t : Thesaurus) (spent : Bool) (k : CoreView) (is : parts_view t spent ≡ k) (s : State) where
  pub held_state : IsViewOf k s → parts_state t s.histories ≡ s
  held_state holds = ap (with_histories s.histories) is ∙ holds.state

  pub held_setting : setting_of t ≡ k.setting
  held_setting = ap (λ (x : CoreView). x.setting) is

  pub held_sums : IsViewOf k s → ArePostingCounts s.histories t.book
  held_sums holds = subst (ArePostingCounts s.histories) (ap (λ (x : CoreView). x.posting_counts) (sym is))
      holds.posting_counts

  pub in_view : IsViewOf k s → (P : Setting → State → Type 0) → P (setting_of t) (parts_state t s.histories)
      → P k.setting s
  in_view holds P p = subst (λ (x : Setting × State). P x.0 x.1) (λ i. (held_setting i, held_state holds i)) p

  pub from_view : IsViewOf k s → (P : Setting → State → Type 0) → P k.setting s
      → P (setting_of t) (parts_state t s.histories)
  from_view holds P p = subst (λ (x : Setting × State). P x.0 x.1)
      (λ i. (sym held_setting i, sym (held_state holds) i)) p

  pub held_kept : AreLegal t [] → IsViewOf k s → AreLegal t s.histories
  held_kept fit holds = grind (arith, common_steps, from_view)

pub held_of : (t : Thesaurus) (spent : Bool) (s : State) → parts_state t s.histories ≡ s → AreLegal t s.histories
    → ArePostingCounts s.histories t.book → IsViewOf (parts_view t spent) s
held_of t spent s is kept posting_counts = grind (arith, common_steps)

-- After an accepted request the core is a view of the machine's next state.
module _ (t : Thesaurus) (spent : Bool) (k : CoreView) (is : parts_view t spent ≡ k) (s : State) (fit : AreLegal t [])
    (holds : IsViewOf k s) (command : Command) (accepts : IsAccepted k.setting s command) where
  pub held_allows : PartsAccept t s.histories command
  held_allows = grind (arith, common_steps, from_view, held_kept)

  pub held_meant : (facts : Facts) → AreFacts command s.histories facts → AreMatching t command facts s.histories
  held_meant facts are = grind (arith, common_steps, held_allows, held_sums)

  module _ (new : Thesaurus) (forms : CommandHasForms command) (made : PartsAfter command t new)
      (counts : CountsAfter command s.histories t new) where
    abbrev next : State
    next = next_state command (parts_state t s.histories)

    made_next : PartsOfState t next new
    made_next = remade_for t new s.histories command made

    kept_new : AreLegal new next.histories
    kept_new = kept_after t new next held_allows.kept.fit
        (next_legal (setting_of t) held_allows.kept.fit (parts_state t s.histories) command forms
        held_allows.kept.legal held_allows.accepts) made_next

    pub makes_new : IsViewOf (parts_view new false) (next_state command s)
    makes_new = subst (IsViewOf (parts_view new false)) (ap (next_state command) (held_state t spent k is s holds))
        (held_of new false next made_next.state kept_new counts)

-- After a request that may be applied, the parts satisfy their invariant.
pub fit_new : (t new : Thesaurus) (command : Command) → CommandHasForms command → MayChange t command
    → PartsAfter command t new → AreLegal new []
fit_new t new command forms may made = kept_after t new (without_postings (next_state command (parts_state t [])))
    may.0.fit (bare_legal t command forms may) made

none_outside : (n : ℕ) → is_outside [] n ≡ false
none_outside zero = refl
none_outside (suc n) = refl

-- The parts of a new core satisfy their invariant and are those of the empty state.
module _ (t : Thesaurus) (base : List ℕ) (fit : IsSetting (record { base = base; limits = t.limits }))
    (vocab : t.vocab ≡ empty_vocabulary base) (graph : t.graph ≡ record { links = set.empty; outside = set.empty })
    (book : t.book ≡ record { counts = []; accepted = 0; withdrawn = 0; moves = 0 }) where
  pub fit_empty : AreLegal t []
  fit_empty = record {
    fit = subst IsSetting (λ i. record { base = (sym vocab i).base; limits = t.limits }) fit;
    outside = λ n. ap (λ (g : GraphView). set.contains g.outside n) graph ∙ set.contains-empty nat_cmp n
        ∙ sym (none_outside n) ∙ ap (λ (v : Vocabulary). is_outside v.resources n) (sym vocab);
    legal = subst (λ (x : Vocabulary × GraphView). IsLegalState x.0.base
        (record {
          resources = x.0.resources;
          iris = x.0.iris;
          labels = x.0.labels;
          links = x.1.links;
          histories = [];
        })) (λ i. (sym vocab i, sym graph i)) (legal_empty base fit.base_form);
  }

  pub held_empty : IsViewOf (parts_view t false) empty_state
  held_empty = record {
    state = λ i. record {
      resources = (vocab i).resources;
      iris = (vocab i).iris;
      labels = (vocab i).labels;
      links = (graph i).links;
      histories = [];
    };
    posting_counts = subst (ArePostingCounts []) (sym book) sums_none;
    legal = subst (λ (x : List ℕ). IsLegalState x empty_state) (ap (λ (v : Vocabulary). v.base) (sym vocab))
        (legal_empty base fit.base_form);
  }
