-- Once the requests of a log are taken back, the core is again a view of the state before them.
use Rattle.std.proofs.Common.{◌≡◌, ◌≢◌, ◌<◌, ◌≤◌, ◌^◌, ◌+◌, ◌-◌, ◌++◌, ◌∷◌, [], ℕ, suc, List, Bool, false, refl, sym, ap}
use Rattle.std.proofs.Common.{◌∙◌, subst, rules, arith, get_or, length, take}
use Rattle.std.proofs.lemmas.List.{take_more}
use Rattle.std.proofs.lemmas.List.Sums.{count_by-le-length}
use Rattle.std.specs.Prelude.{Result, Ok, Err, OnOk, None, Some, count_by}
use Rattle.std.proofs.lemmas.Option.{same_Some}
use Rattle.thes_base.specs.declared.data.History.{History}
use Rattle.thes_base.specs.declared.request.Command.{Command}
use Rattle.thes_base.specs.declared.request.Command.TheVariants as request
use Rattle.thes_base.specs.Changes.{histories_after_merge, histories_after_split}
use Rattle.thes_base.specs.Changes.{histories_after_withdrawal, is_listed, next_number}
use Rattle.thes_base.specs.Legal.{IsLegalState}
use Rattle.thes_base.specs.Machine.{next_state}
use Rattle.thes_base.specs.Postings.{assigned_count, is_assigned_to, move_count}
use Rattle.thes_base.specs.RefusalRules.{accepted}
use Rattle.thes_base.specs.Refusals.{Setting}
use Rattle.thes_base.specs.Resources.{IsConcept, entry_at}
use Rattle.thes_base.specs.RuleParts.{unless_split_postings}
use Rattle.thes_base.specs.State.{State}
use Rattle.thes_base.proofs.ListedLemmas.{listed_count}
use Rattle.thes_base.proofs.NumberedLemmas.{numbered_bound}
use Rattle.thes_base.proofs.RefusalRuleLemmas.{passed_unless}
use Rattle.thes_post.specs.PostingCounts.{PostingCounts, ArePostingCounts, CountsAfterWithdrawal}
use Rattle.thes_post.specs.PostingCounts.{CountsAfterMoves, HasMovesToTakeBack, HasWithdrawalToTakeBack}
use Rattle.thes_post.proofs.ListedPostingLemmas.{passed_standing}
use Rattle.thes_post.proofs.PostingCountLemmas.{AllAssigned, all_assigned, moves_counted, sums_before_moves}
use Rattle.thes_post.proofs.PostingCountLemmas.{sums_before_withdrawal, withdrawal_counted}
use Rattle.thes_core.specs.CoreDecisions.{IsAccepted, IsAcceptedWithoutPostings, IsAppliedWithoutPostings}
use Rattle.thes_core.specs.CoreView.{CoreView, IsViewOf, with_histories, without_postings}
use Rattle.thes_tables.specs.declared.rows.PostingRow.{PostingRow}
use Rattle.thes_core.specs.Facts.{AreFacts}
use Rattle.thes_core.specs.Losses.{IsLostFromParts, IsLostFromPostings}
use Rattle.thes_core.specs.NamedPostings.{first_named_posting}
use Rattle.thes_core.specs.PartsView.{parts_view, setting_of, AreLegal}
use Rattle.thes_core.specs.Requests.{PartsOfState}
use Rattle.thes_core.specs.UndoLogs.{ArePartsAfter, IsAcceptedOnParts, IsLogOf}
use Rattle.thes_core.specs.UndoLogs.{IsUndoStep}
use Rattle.thes_core.specs.UndoLogs.{LeadsWithoutPostings, StepsLead}
use Rattle.thes_core.specs.declared.facts.Facts.{Facts}
use Rattle.thes_core.specs.declared.thesaurus.Thesaurus.{Thesaurus}
use Rattle.thes_core.specs.declared.losses.Lost.{Lost}
use Rattle.thes_core.specs.declared.losses.Lost.TheVariants.{Links, Merge, Place, Preferred}
use Rattle.thes_core.specs.declared.undo_log.UndoStep.{UndoStep}
use Rattle.thes_core.proofs.ApplyLemmas.{held_of, kept_after}
use Rattle.thes_core.proofs.FactLemmas.{listed_stand, row_missing, row_of_one}
use Rattle.thes_core.proofs.MergeDeltaLemmas.{standing_length}
use Rattle.thes_core.proofs.PartLemmas.{legal_without}

module _ (Leads : State → UndoStep → State → Type 0) where
  -- Steps that lead to a state, and a step that leads from it, lead together to the state after that step.
  pub steps_push : (s mid t : State) (steps : List UndoStep) (step : UndoStep) → StepsLead Leads s steps mid
      → Leads mid step t → StepsLead Leads s (steps ++ step ∷ []) t
  steps_push s mid t [] step same leads = (t, subst (λ (x : State). Leads x step t) same leads, refl)
  steps_push s mid t (x ∷ steps) step lead leads =
      (lead.0, lead.1, steps_push lead.0 mid t steps step lead.2 leads)

  -- If the steps lead from `s` to `t`, those before the last lead to a state from which the last leads to `t`.
  pub steps_pop : (s t : State) (steps : List UndoStep) (step : UndoStep) → StepsLead Leads s (steps ++ step ∷ []) t
      → (mid : State) × StepsLead Leads s steps mid × Leads mid step t
  steps_pop s t [] step lead = (s, refl, subst (λ (x : State). Leads s step x) (sym lead.2) lead.1)
  steps_pop s t (x ∷ steps) step lead =
      let rest = steps_pop lead.0 t steps step lead.2 in
      (rest.0, (lead.0, lead.1, rest.1), rest.2)

-- The last request of a log was applied to some state without postings.
module _ (k : CoreView) (steps rest : List UndoStep) (step : UndoStep) (is : steps ≡ rest ++ step ∷ [])
    (log : IsLogOf steps k) where
  last_of_log : (mid : State) × StepsLead (LeadsWithoutPostings k.setting) log.0 rest mid
      × LeadsWithoutPostings k.setting mid step (with_histories [] k)
  last_of_log = steps_pop (LeadsWithoutPostings k.setting) log.0 (with_histories [] k) rest step
      (subst (λ (l : List UndoStep). StepsLead (LeadsWithoutPostings k.setting) log.0 l (with_histories [] k)) is log.1)

  pub last_applied : (s : State) × LeadsWithoutPostings k.setting s step (with_histories [] k)
  last_applied = (last_of_log.0, last_of_log.2)

  -- Once the last request is taken back, the rest of the log is a log of the core.
  pub log_of_rest : (now : CoreView) → now.setting ≡ k.setting
      → ((s : State) → LeadsWithoutPostings k.setting s step (with_histories [] k)
      → with_histories [] now ≡ without_postings s)
      → IsLogOf rest now
  log_of_rest now set parts =
      let mid = last_of_log.0 in
      let bare : without_postings mid ≡ mid = λ i. record mid { histories = sym last_of_log.2.application.bare i } in
      let end = parts mid last_of_log.2 ∙ bare in (
        log.0,
        subst (λ (p : Setting × State). StepsLead (LeadsWithoutPostings p.0) log.0 rest p.1)
            (λ i. (sym set i, sym end i)) last_of_log.1,
      )

-- Once the last request is taken back, the core is a view of the state to which the rest leads.
pub view_of_rest : (setting : Setting) (k now : CoreView) (steps rest : List UndoStep) (step : UndoStep) → steps
    ≡ rest ++ step ∷ [] → k.setting ≡ setting
    → ((s t : State) → IsUndoStep k.setting s step t → IsViewOf k t → IsViewOf now s) → (s t : State)
    → StepsLead (IsUndoStep setting) s steps t → IsViewOf k t
    → (u : State) × StepsLead (IsUndoStep setting) s rest u × IsViewOf now u
view_of_rest setting k now steps rest step is set view s t lead holds =
    let last = steps_pop (IsUndoStep setting) s t rest step
    (subst (λ (l : List UndoStep). StepsLead (IsUndoStep setting) s l t) is lead) in
    (last.0, last.1, view last.0 t (subst (λ (q : Setting). IsUndoStep q last.0 step t) (sym set) last.2) holds)

-- A request that passes its checks passes those that concern no postings.
pub accepts_on_parts : (setting : Setting) (s : State) (command : Command) → IsAccepted setting s command
    → IsAcceptedOnParts setting s command
accepts_on_parts setting s (request.Split source tag text postings) is = (passed_unless (passed_unless is.row).1).0
accepts_on_parts setting s (request.Post key rec concept) is = tt
accepts_on_parts setting s (request.Withdraw posting) is = tt
accepts_on_parts setting s _ is = is

may_on_parts : (setting : Setting) (s : State) (command : Command) → IsAcceptedWithoutPostings setting s command
    → IsAcceptedOnParts setting s command
may_on_parts setting s (request.Split source tag text postings) is = (passed_unless (passed_unless is.row).1).0
may_on_parts setting s (request.Post key rec concept) is = tt
may_on_parts setting s (request.Withdraw posting) is = tt
may_on_parts setting s _ is = is

-- Assumes the parts of a core.
module _ (t : Thesaurus) (spent : Bool) (k : CoreView) (is : parts_view t spent ≡ k) (fit : AreLegal t []) (s : State)
    (command : Command) where
  -- The parts are those after a request that was applied without regard to postings.
  pub parts_after_applied : IsAppliedWithoutPostings k.setting s command (with_histories [] k)
      → ArePartsAfter command s t
  parts_after_applied applied =
      let here = subst (λ (x : CoreView). IsAppliedWithoutPostings x.setting s command (with_histories [] x)) (sym is)
      applied in
      record {
        legal = here.legal;
        accepts = may_on_parts (setting_of t) s command here.may;
        state = here.after;
        outside = fit.outside;
      }

  -- The parts are those after a request that the state accepts.
  pub parts_after_accepted : (after : State) → IsLegalState k.setting.base s → IsAccepted k.setting s command
      → after ≡ next_state command s → IsViewOf k after → ArePartsAfter command s t
  parts_after_accepted after legal accepts leads holds =
      let here = subst (λ (x : CoreView). IsLegalState x.setting.base s) (sym is) legal in
      let allows = subst (λ (x : CoreView). IsAccepted x.setting s command) (sym is) accepts in
      record {
        legal = here;
        accepts = accepts_on_parts (setting_of t) s command allows;
        state = ap (with_histories []) is ∙ ap without_postings (holds.state ∙ leads);
        outside = fit.outside;
      }

  -- Once the request is taken back, the parts satisfy their invariant.
  pub fit_before : (new : Thesaurus) → ArePartsAfter command s t → PartsOfState t (without_postings s) new
      → AreLegal new []
  fit_before new after made = kept_after t new (without_postings s) fit.fit (legal_without t.vocab.base s after.legal)
      made

  -- Once the request is taken back, the core is a view of the state before it.
  pub view_before : (new : Thesaurus) (now : CoreView) (after : State) → parts_view new false ≡ now
      → ArePartsAfter command s t → PartsOfState t (without_postings s) new
      → ArePostingCounts s.histories new.book → IsViewOf now s
  view_before new now after shows then made counts =
      let whole : PartsOfState t s new = record {
        state = λ i. record (made.state i) { histories = s.histories };
        setting = made.setting;
        outside = made.outside;
      } in
      subst (λ (x : CoreView). IsViewOf x s) shows
      (held_of new false s whole.state (kept_after t new s fit.fit then.legal whole) counts)

-- If a successful call guarantees `P`, and `P` implies `Q`, the call guarantees `Q`.
pub follows_if_ok : {A E : Type 0} (r : Result A E) (P Q : Type 0) → (P → Q) → OnOk r P → OnOk r Q
follows_if_ok (Ok x) P Q to p = to p
follows_if_ok (Err e) P Q to p = tt

-- Once a withdrawal is taken back, the counts are those of the state before it.
pub counts_unwithdrawn : (setting : Setting) (s : State) (posting concept : ℕ) (old new : PostingCounts)
    → IsLegalState setting.base s → IsAccepted setting s (request.Withdraw posting)
    → IsLostFromPostings (request.Withdraw posting) s (Place concept)
    → ArePostingCounts (histories_after_withdrawal posting s.histories) old
    → (HasWithdrawalToTakeBack concept old → CountsAfterWithdrawal concept new old)
    → ArePostingCounts s.histories new
counts_unwithdrawn setting s posting concept old new legal accepts lost counts back =
    let stood = passed_standing s.histories posting accepts.row in
    let same : stood.0 ≡ lost.0 = same_Some _ _ (sym stood.1 ∙ lost.1) in
    let stays : lost.0.withdrawn ≡ false = ap (λ (h : History). h.withdrawn) (sym same) ∙ stood.2 in
    let has = withdrawal_counted s.histories posting lost.0 lost.1 stays old counts legal.postings.few in
    let one = back (subst (λ (n : ℕ). HasWithdrawalToTakeBack n old) (sym lost.2) has) in
    sums_before_withdrawal s.histories posting lost.0 lost.1 stays old new counts
    (subst (λ (n : ℕ). CountsAfterWithdrawal n new old) lost.2 one)

-- Once a split is taken back, the counts are those of the state before it.
pub counts_unsplit : (setting : Setting) (s : State) (source : ℕ) (tag text postings : List ℕ) (n k : ℕ)
    (old new : PostingCounts) → IsLegalState setting.base s
    → IsAccepted setting s (request.Split source tag text postings) → n ≡ next_number s
    → (length postings < 2 ^ 32 → k ≡ length postings)
    → ArePostingCounts (histories_after_split postings (next_number s) s.histories) old
    → (HasMovesToTakeBack source n k old → CountsAfterMoves source n k new old)
    → ArePostingCounts s.histories new
counts_unsplit setting s source tag text postings n k old new legal accepts number count counts back =
    sums_before_moves (is_listed postings) source n apart (move_count s.histories + 1) s.histories all k listed old new
    counted (back (moves_counted (is_listed postings) source n apart (move_count s.histories + 1) s.histories all k
    listed old counted legal.postings.few))
  where
    is_concept : IsConcept s.resources source
    is_concept = (passed_unless (passed_unless accepts.row).1).0

    row : unless_split_postings s.histories source postings accepted None
    row = let given = accepts.row in search rules depth 16

    apart : source ≢ n
    apart same =
        let bound = numbered_bound s.resources source is_concept.0 is_concept.1 in
        omega (arith, bound.1, same, number)

    all : AllAssigned (is_listed postings) source n apart s.histories
    all = listed_stand n apart s.histories postings (λ i h at. (legal.postings.sound (suc i) h at).number) row

    exactly : count_by (is_listed postings) s.histories ≡ length postings
    exactly = listed_count setting.base s source postings legal row

    listed : k ≡ count_by (is_listed postings) s.histories
    listed =
        let few = legal.postings.few in
        let most = count_by-le-length (is_listed postings) s.histories in
        let same = exactly in
        count (omega (arith, few, most, same)) ∙ sym exactly

    counted : ArePostingCounts (histories_after_split postings n s.histories) old
    counted = subst (λ m. ArePostingCounts (histories_after_split postings m s.histories) old) (sym number) counts

-- Once a merge is taken back, the counts are those of the state before it.
pub counts_unmerged : (setting : Setting) (s : State) (source target moves : ℕ) (old new : PostingCounts)
    → IsLegalState setting.base s → source ≢ target
    → (length s.histories < 2 ^ 32 → moves ≡ assigned_count source s.histories)
    → ArePostingCounts (histories_after_merge source target s.histories) old
    → (HasMovesToTakeBack source target moves old → CountsAfterMoves source target moves new old)
    → ArePostingCounts s.histories new
counts_unmerged setting s source target moves old new legal apart moved counts back =
    let few = legal.postings.few in
    let all = all_assigned source target apart s.histories in
    sums_before_moves (is_assigned_to source) source target apart (move_count s.histories + 1) s.histories all
    moves (moved few) old new counts
    (back (moves_counted (is_assigned_to source) source target apart (move_count s.histories + 1) s.histories all
    moves (moved few) old counts few))

-- The number of postings in the facts of a merge is that of the postings assigned to its source.
pub moves_lost : (source target : ℕ) (s : State) (facts : Facts) (standing : List ℕ) (moved : ℕ)
    → AreFacts (request.Merge source target) s.histories facts → standing ≡ facts.standing.items
    → (length standing < 2 ^ 32 → moved ≡ length standing) → length s.histories < 2 ^ 32
    → moved ≡ assigned_count source s.histories
moves_lost source target s facts standing moved are same count few =
    let number = ap length (same ∙ are.standing) ∙ standing_length source s.histories in
    let most = count_by-le-length (is_assigned_to source) s.histories in
    count (omega (arith, number, most, few)) ∙ number

-- The place in the row of a withdrawn posting is what the withdrawal takes from the state.
pub place_lost : (posting : ℕ) (s : State) (facts : Facts) (row : PostingRow)
    → AreFacts (request.Withdraw posting) s.histories facts
    → first_named_posting facts.named_postings.items ≡ Some row
    → IsLostFromPostings (request.Withdraw posting) s (Place row.place)
place_lost posting s facts row are first =
    let found = row_of_one s.histories posting facts.named_postings.items row are.named_postings first in
    (found.0, found.1, ap (λ (r : PostingRow). r.place) found.2)

-- The facts of a Withdraw that passes its checks have the row of its posting.
pub place_known : (setting : Setting) (posting : ℕ) (s : State) (facts : Facts)
    → IsAccepted setting s (request.Withdraw posting) → AreFacts (request.Withdraw posting) s.histories facts
    → first_named_posting facts.named_postings.items ≡ None → ⊥
place_known setting posting s facts accepts are first =
    let stood = passed_standing s.histories posting accepts.row in
    let none = row_missing (entry_at s.histories posting) (ap first_named_posting (sym are.named_postings) ∙ first) in
    let bad = sym none ∙ stood.1 in
    cc

-- What a request removes or adds in the parts of a core, it removes or adds in each state of which the core is a view.
pub lost_from_view : (k : CoreView) (s : State) (command : Command) (lost : Lost) → IsViewOf k s
    → IsLostFromParts command (with_histories [] k) lost → IsLostFromParts command s lost
lost_from_view k s command lost holds is = subst (λ (x : State). IsLostFromParts command x lost) holds.state
    (bare command lost is)
  where
    bare : (c : Command) (l : Lost) → IsLostFromParts c (with_histories [] k) l
        → IsLostFromParts c (with_histories s.histories k) l
    bare (request.Relabel owner tag text keep) (Preferred old) x = x
    bare (request.Deprecate concept) (Links row) x = x
    bare (request.Merge source target) (Merge loss) x =
        record { links = x.links; additions = x.additions; copies = x.copies }
    bare _ _ x = x

-- A log of a core stays a log of it when a request is applied to the core and appended to the log.
pub log_grows : (k now : CoreView) (steps : List UndoStep) (step : UndoStep) → IsLogOf steps k → now.setting
    ≡ k.setting → LeadsWithoutPostings k.setting (with_histories [] k) step (with_histories [] now)
    → IsLogOf (steps ++ step ∷ []) now
log_grows k now steps step log set applied = (
  log.0,
  subst (λ (q : Setting). StepsLead (LeadsWithoutPostings q) log.0 (steps ++ step ∷ []) (with_histories [] now))
      (sym set) (steps_push (LeadsWithoutPostings k.setting) log.0 (with_histories [] k) (with_histories [] now) steps
      step log.1 applied),
)

-- The first n steps of a log are the first n - 1, followed by the step at index n - 1.
pub take_last : (xs : List UndoStep) (n : ℕ) (x : UndoStep) → 0 < n → n ≤ length xs → x ≡ get_or xs (n - 1) x
    → take n xs ≡ take (n - 1) xs ++ x ∷ []
take_last xs n x some within is =
    let same : n ≡ n - 1 + 1 = omega (arith, some) in
    ap (λ k. take k xs) same ∙ take_more xs (n - 1) x (omega (arith, some, within))
    ∙ ap (λ (y : UndoStep). take (n - 1) xs ++ y ∷ []) (sym is)
