-- Proves that a group's changes of rows lead from the state before the group to the state after it, and that the facts
-- about each of its posts are those in the tables.
use Rattle.std.proofs.lemmas.Grind.{common_steps}
use Rattle.std.proofs.Common.{◌≡◌, ◌++◌, ◌∷◌, [], ◌<◌, ◌+◌, ◌∙◌, ℕ, suc, List, refl, sym, ap, subst, take, length}
use Rattle.std.proofs.Common.{arith, inl, inr, append-nil, Bool, true, false, slice_index_or}
use Rattle.std.proofs.lemmas.List.{get_or-set_same, get_or-set_other}
use Rattle.std.proofs.lemmas.Grind.{get_or-set_at}
use Rattle.std.proofs.lemmas.Bool.{cases_eq}
use Rattle.std.specs.Prelude.{slice_set}
use Rattle.std.proofs.lemmas.List.{take-append-le, take_all}
use Rattle.std.proofs.lemmas.Option.{slice_get_within}
use Rattle.std.proofs.lemmas.List.Elements.{All-pop, All-push}
use Rattle.std.specs.Prelude.{Option, Result, Some, slice_get}
use Rattle.thes_base.specs.declared.data.History.{History}
use Rattle.thes_base.specs.declared.data.Limits.{Limits}
use Rattle.thes_base.specs.declared.fault.Fault.{Fault}
use Rattle.thes_base.specs.declared.request.Answer.{Answer}
use Rattle.thes_base.specs.declared.request.Command.{Command}
use Rattle.thes_base.specs.declared.request.Command.TheVariants as request
use Rattle.thes_base.specs.Changes.{new_history, state_after_post}
use Rattle.thes_base.specs.Legal.{IsLegalState}
use Rattle.thes_base.specs.Machine.{Step, next_state}
use Rattle.thes_base.specs.Refusals.{Setting}
use Rattle.thes_base.specs.Resources.{replacements}
use Rattle.thes_base.specs.State.{State}
use Rattle.thes_base.proofs.MachineLemmas.{legal_is_consistent}
use Rattle.thes_base.proofs.NumberedLemmas.{push_old, push_cases}
use Rattle.thes_tables.specs.declared.change.Change.{Change}
use Rattle.thes_tables.specs.declared.rows.PostingRow.{PostingRow}
use Rattle.thes_tables.specs.Cells.{Raw, cells_of_tables}
use Rattle.thes_tables.specs.ChangeLaw.{AreChangesBetween}
use Rattle.thes_tables.specs.Rows.{tables_after_delta}
use Rattle.thes_tables.specs.Tables.{Tables}
use Rattle.thes_tables.proofs.DeltaAppendLemmas.{all_append, fit_append}
use Rattle.thes_store.specs.Storage.{StorageView}
use Rattle.thes_core.specs.declared.facts.Facts.{Facts}
use Rattle.thes_core.specs.CoreDecisions.{AcceptedVerdict}
use Rattle.thes_core.specs.CoreView.{CoreView, IsViewOf}
use Rattle.thes_core.specs.Facts.{AreFacts, IsRowOfKey}
use Rattle.thes_core.proofs.DeltaLemmas.{take_got}
use Rattle.thes_core.proofs.NextStateLemmas.{step_of_accepted}
use Rattle.thes_office.specs.Groups.{AreKeysMarked, GroupDecided, GroupResult, HasFactsOf, IsDecided, IsGroup, IsMarked}
use Rattle.thes_office.specs.Groups.{IsNewPost, IsPostOf}
use Rattle.thes_office.specs.Groups.{TablesAfterGroup}
use Rattle.thes_office.specs.Office.{ChangesNothing, IsCopy, OfficeView, SameTables}
use Rattle.thes_office.specs.TablesOfState.{TablesOfState}
use Rattle.thes_office.proofs.OfficeViewLemmas.{all_parts, run_push}
use Rattle.thes_office.proofs.StateTableLemmas.{state_after_changes}
use Rattle.thes_office.proofs.StepLemmas.{accepted_changes}

-- The empty list of requests is a group.
pub group_empty : (commands : List Command) → IsGroup (take 0 commands)
group_empty commands i command at = absurd (cc)

-- A place is marked once it is set, and other places stay marked.
pub marked_here : (marks : List Bool) (i : ℕ) → i < length marks
    → slice_index_or (slice_set marks i true) i false ≡ true
marked_here marks i l = get_or-set_same marks i true false l

pub still_marked : (marks : List Bool) (i j : ℕ) → i < length marks → slice_index_or marks j false ≡ true
    → slice_index_or (slice_set marks i true) j false ≡ true
still_marked marks i j l e = elim (cases_eq j i) [
  | inl same ↦ get_or-set_at marks i j true false same l
  | inr other ↦ get_or-set_other marks i j true false other ∙ e
]

-- An empty list of requests needs no marks.
pub marked_none : (marks : List Bool) (commands : List Command) → AreKeysMarked marks (take 0 commands)
marked_none marks commands = record { each = λ k d l. absurd (omega (arith, l)) }

-- A post is new if the place of its key isn't marked.
pub unmarked_is_new : (marks : List Bool) (earlier : List Command) (key rec : List ℕ) (concept : ℕ)
    → AreKeysMarked marks earlier → (IsMarked marks key → ⊥) → IsNewPost earlier (request.Post key rec concept)
unmarked_is_new marks earlier key rec concept marked none = record {
  key = key;
  rec = rec;
  concept = concept;
  is = refl;
  fresh = λ k d l p. none (marked.each k d l key p);
}

-- Once the key of the next post is marked, the keys of the earlier requests and of this post are marked.
pub marked_more : (old new : List Bool) (earlier : List Command) (key rec : List ℕ) (concept : ℕ)
    → AreKeysMarked old earlier → ((other : List ℕ) → IsMarked old other → IsMarked new other) → IsMarked new key
    → AreKeysMarked new (earlier ++ request.Post key rec concept ∷ [])
marked_more old new earlier key rec concept marked keeps here = record {
  each = All-push (λ command. (k : List ℕ) → IsPostOf k command → IsMarked new k) earlier _
      (λ k d l other p. keeps other (marked.each k d l other p)) (λ k p. subst (IsMarked new) p here);
}

-- A group followed by a new post is a group.
group_push : (xs : List Command) (c : Command) → IsGroup xs → IsNewPost xs c → IsGroup (xs ++ c ∷ [])
group_push xs c group new i command at = elim (push_cases xs c command (suc i) at) [
  | inl here ↦
      let within : i < length xs = slice_get_within xs i command here in
      subst (λ (ys : List Command). IsNewPost ys command) (sym (take-append-le i xs (c ∷ []) (omega arith)))
      (group i command here)
  | inr last ↦
      let front : take i (xs ++ c ∷ []) ≡ xs = take-append-le i xs (c ∷ []) (omega (arith, last.0))
      ∙ take_all i xs (omega (arith, last.0)) in
      subst (λ (ys : List Command). IsNewPost ys command) (sym front) (subst (IsNewPost xs) (sym last.1) new)
]

-- A prefix that is a group is still a group with the next request, if that is a new post.
pub group_grows : (commands : List Command) (n : ℕ) (command : Command) → slice_get commands n ≡ Some command
    → IsGroup (take n commands) → IsNewPost (take n commands) command → IsGroup (take (n + 1) commands)
group_grows commands n command at group new =
    subst IsGroup (sym (take_got commands n command at)) (group_push (take n commands) command group new)

-- Changes from `s` to `t`, followed by changes from `t` to `u`, lead from `s` to `u`.
pub changes_then : (base : List ℕ) (s t u : State) (xs ys : List Change) → AreChangesBetween base xs s t
    → AreChangesBetween base ys t u → AreChangesBetween base (xs ++ ys) s u
changes_then base s t u xs ys a b = grind (arith, common_steps, all_append, fit_append)

-- The empty list of changes leads from a state to itself.
pub no_changes : (base : List ℕ) (s : State) → AreChangesBetween base [] s s
no_changes base s = record { rows = λ tables is. is; fit = λ tables is. tt }

-- The row found for a key stays the same when a posting with another key is added.
row_stays : (key : List ℕ) (hs : List History) (new : History) (found : Option PostingRow) → (new.key ≡ key → ⊥)
    → IsRowOfKey key hs found → IsRowOfKey key (hs ++ new ∷ []) found
row_stays key hs new found other is = grind (arith, common_steps, push_cases, push_old)

-- A decided post leaves the facts about a post with another key as they are.
facts_stay : (setting : Setting) (s t : State) (k r : List ℕ) (c : ℕ) (answer : Answer) (key rec : List ℕ) (concept : ℕ)
    (facts : Facts) → Step setting s (request.Post k r c) answer t → (k ≡ key → ⊥)
    → AreFacts (request.Post key rec concept) s.histories facts
    → AreFacts (request.Post key rec concept) t.histories facts
facts_stay setting s t k r c answer key rec concept facts (inl known) other are = grind (arith, common_steps)
facts_stay setting s t k r c answer key rec concept facts (inr (new, inl refused)) other are =
    subst (λ (x : State). AreFacts (request.Post key rec concept) x.histories facts) (sym refused.3) are
facts_stay setting s t k r c answer key rec concept facts (inr (new, inr accepted)) other are =
    subst (λ (x : State). AreFacts (request.Post key rec concept) x.histories facts) (sym accepted.2)
    (let after : AreFacts (request.Post key rec concept) (state_after_post k r c s).histories facts = record {
      known = row_stays key s.histories (new_history k r c (replacements s.resources c) s.histories) facts.known
          other are.known;
      named_postings = are.named_postings;
      standing = are.standing;
    } in after)

-- A settled request changes neither the state nor the rows.
abbrev pub decided_settled : (setting : Setting) (s : State) (command : Command) (answer : Answer)
    (changes : List Change) (copy : CoreView) → Step setting s command answer s → IsViewOf copy s
    → IsDecided setting s command answer changes changes copy
decided_settled setting s command answer changes copy step holds = record {
  state_after = s;
  step = step;
  holds = holds;
  changes = [];
  more = sym (append-nil changes);
  leads = no_changes setting.base s;
  same = λ nothing. refl;
}

-- An accepted request that is applied to the core leads to the next state.
abbrev pub decided_accepted : (setting : Setting) (s : State) (command : Command) (answer : Answer)
    (before after changes : List Change) (copy : CoreView) → AcceptedVerdict setting s command answer changes
    → IsViewOf copy (next_state command s) → after ≡ before ++ changes
    → IsDecided setting s command answer before after copy
decided_accepted setting s command answer before after changes copy grants holds more = record {
  state_after = next_state command s;
  step = subst (λ (a : Answer). Step setting s command a (next_state command s)) (sym grants.answer_is)
      (step_of_accepted setting s command grants.accepts);
  holds = holds;
  changes = changes;
  more = more;
  leads = grants.leads;
  same = λ nothing. absurd (accepted_changes command s (subst ChangesNothing grants.answer_is nothing));
}

-- Before its first request, a group is decided on the state of the tables.
pub group_starts : (raw : Raw) (limits : Limits) (copy : CoreView) (done : List Command) (answers : List Answer)
    (changes : List Change) → IsCopy raw limits copy → done ≡ [] → answers ≡ [] → changes ≡ []
    → GroupDecided raw copy.setting done answers changes copy
group_starts raw limits copy done answers changes is none unanswered unchanged =
    subst (λ (p : List Command × List Answer × List Change). GroupDecided raw copy.setting p.0 p.1 p.2 copy)
    (λ i. (sym none i, sym unanswered i, sym unchanged i)) record {
      state_before = is.state;
      state_after = is.state;
      shows = is.shows;
      holds = is.holds;
      run = refl;
      leads = no_changes copy.setting.base is.state;
      facts = λ command new facts are. are copy.setting.base is.state is.shows;
      same = λ all. refl;
    }

-- A decided group followed by one more decided post is decided.
pub group_continues : (raw : Raw) (setting : Setting) (done more : List Command) (command : Command)
    (answers told : List Answer) (answer : Answer) (before after : List Change) (copy copy' : CoreView)
    → (g : GroupDecided raw setting done answers before copy) → IsNewPost done command
    → IsDecided setting g.state_after command answer before after copy' → told ≡ answers ++ answer ∷ []
    → more ≡ done ++ command ∷ [] → GroupDecided raw setting more told after copy'
group_continues raw setting done more command answers told answer before after copy copy' g new d pushed grown =
    subst (λ (p : List Command × List Answer × List Change). GroupDecided raw setting p.0 p.1 p.2 copy')
    (λ i. (sym grown i, sym pushed i, sym d.more i)) record {
      state_before = g.state_before;
      state_after = d.state_after;
      shows = g.shows;
      holds = d.holds;
      run = run_push setting done answers g.state_before g.state_after d.state_after command answer g.run d.step;
      leads = changes_then setting.base g.state_before g.state_after d.state_after before d.changes g.leads d.leads;
      facts = λ next newer facts are. facts_of_next next newer facts are;
      same = λ all. let parts = all_parts ChangesNothing answers (answer ∷ []) all in
          (λ i. g.same parts.0 i ++ d.same parts.1.0 i);
    }
  where
    step : Step setting g.state_after (request.Post new.key new.rec new.concept) answer d.state_after
    step = subst (λ (x : Command). Step setting g.state_after x answer d.state_after) new.is d.step

    facts_of_next : (next : Command) → IsNewPost (done ++ command ∷ []) next → HasFactsOf raw next d.state_after
    facts_of_next next newer facts are =
        let parts = All-pop (λ (other : Command). IsPostOf newer.key other → ⊥) (done ++ command ∷ []) done
        (Some command) refl newer.fresh in
        let other : new.key ≡ newer.key → ⊥ = subst (λ (x : Command). IsPostOf newer.key x → ⊥) new.is parts.1 in
        let here = g.facts next (record {
          key = newer.key;
          rec = newer.rec;
          concept = newer.concept;
          is = newer.is;
          fresh = parts.0;
        }) facts are in
        subst (λ (x : Command). AreFacts x d.state_after.histories facts) (sym newer.is)
        (facts_stay setting g.state_after d.state_after new.key new.rec new.concept answer newer.key newer.rec
        newer.concept facts step other (subst (λ (x : Command). AreFacts x g.state_after.histories facts) newer.is
        here))

-- A decided group followed by a new post is decided, if the post is decided on the facts in the tables.
pub decides_one_more : (raw mid : Raw) (setting : Setting) (done more : List Command) (command : Command)
    (answers told : List Answer) (answer : Answer) (before after : List Change) (copy copy' : CoreView)
    → GroupDecided raw setting done answers before copy → copy.setting ≡ setting → mid ≡ raw → IsNewPost done command
    → ((s : State) → IsViewOf copy s → HasFactsOf mid command s
    → IsDecided copy.setting s command answer before after copy') → told ≡ answers ++ answer ∷ []
    → more ≡ done ++ command ∷ [] → GroupDecided raw setting more told after copy'
decides_one_more raw mid setting done more command answers told answer before after copy copy' g set same new decides
    pushed grown =
    group_continues raw setting done more command answers told answer before after copy copy' g new
    (subst (λ (q : Setting). IsDecided q g.state_after command answer before after copy') set
    (decides g.state_after g.holds
    (subst (λ (r : Raw). HasFactsOf r command g.state_after) (sym same) (g.facts command new)))) pushed grown

-- Assumes that a group is decided and that its changes are committed.
module _ (old new : Raw) (setting : Setting) (group : List Command) (answers : List Answer) (changes : List Change)
    (copy : CoreView) (g : GroupDecided old setting group answers changes copy) (is : copy.setting ≡ setting)
    (made : (t : Tables) → old ≡ cells_of_tables t → new ≡ cells_of_tables (tables_after_delta changes t)) where
  shows_after : TablesOfState new setting.base g.state_after
  shows_after = state_after_changes old new setting.base g.state_before g.state_after changes g.shows g.leads
      (subst (λ (q : Setting). IsLegalState q.base g.state_after) is g.holds.legal) made

  pub group_is_run : TablesAfterGroup setting.limits old group answers new
  group_is_run = record {
    goes_on = record {
      base = setting.base;
      state_before = g.state_before;
      state_after = g.state_after;
      tables_before = g.shows;
      run = g.run;
      shows = shows_after;
      in_order = legal_is_consistent setting.base g.state_after shows_after.legal;
    };
    same = λ all. made g.shows.tables g.shows.rows
        ∙ ap (λ (l : List Change). cells_of_tables (tables_after_delta l g.shows.tables)) (g.same all)
        ∙ sym g.shows.rows;
  }

  pub copy_after_group : IsCopy new setting.limits copy
  copy_after_group = record {
    limits_are = ap (λ (q : Setting). q.limits) is;
    state = g.state_after;
    holds = g.holds;
    shows = subst (λ (q : Setting). TablesOfState new q.base g.state_after) (sym is) shows_after;
  }

module _ {K : Type 0} (view : K → StorageView) where
  -- The result of a group after a reload of the copy is also its result from before the reload.
  pub group_after_reload : (old mid new : OfficeView K) (group : List Command) (before last : List Answer)
      (result : Result (Unit {0}) Fault) → mid.limits ≡ old.limits → SameTables view old mid
      → ((view new.keeper).is_up → (view mid.keeper).is_up) → GroupResult view mid group before last result new
      → GroupResult view old group before last result new
  group_after_reload old mid new group before last result limits same was x = grind (arith, common_steps)
