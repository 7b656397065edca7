-- Proves that a performed request changes tables that encode a state, and a copy of them, into those of the machine's
-- next state.
use Rattle.std.proofs.lemmas.Grind.{common_steps}
use Rattle.std.proofs.Common.{◌≡◌, List, false, refl, sym, ap, subst, ◌∙◌, arith}
use Rattle.std.specs.Prelude.{Result, Ok, Err, OnOk}
use Rattle.thes_base.specs.declared.data.Limits.{Limits}
use Rattle.thes_base.specs.declared.fault.Fault.{Fault}
use Rattle.thes_base.specs.declared.request.Answer.{Answer}
use Rattle.thes_base.specs.declared.request.Command.{Command}
use Rattle.thes_base.specs.Legal.{IsLegalState}
use Rattle.thes_base.specs.Machine.{Step, next_state, answer_of}
use Rattle.thes_base.specs.Refusals.{Setting, AreLimits, IsSetting}
use Rattle.thes_base.specs.State.{State}
use Rattle.thes_base.specs.Texts.{CommandHasForms}
use Rattle.thes_base.proofs.SoundStateLemmas.{forms_of_legal}
use Rattle.thes_tables.specs.declared.change.Change.{Change}
use Rattle.thes_tables.specs.Cells.{Raw, cells_of_tables}
use Rattle.thes_tables.specs.Rows.{tables_after_delta}
use Rattle.thes_tables.specs.Tables.{Tables}
use Rattle.thes_core.specs.CoreDecisions.{AcceptedVerdict, ApplyFrame}
use Rattle.thes_core.specs.CoreView.{CoreView, IsViewOf}
use Rattle.thes_core.proofs.NextStateLemmas.{next_legal, step_of_accepted}
use Rattle.thes_office.specs.Office.{ChangesNothing, IsCopy, TablesAfterStep}
use Rattle.thes_office.specs.TablesOfState.{TablesOfState}
use Rattle.thes_office.proofs.StateTableLemmas.{state_after_changes}

pub setting_fits : (setting : Setting) (s : State) → AreLimits setting.limits → IsLegalState setting.base s
    → IsSetting setting
setting_fits setting s few legal = grind (arith, common_steps, forms_of_legal)

-- The answer to an accepted request is neither a refusal nor the number of a known posting.
pub accepted_changes : (command : Command) (s : State) → ChangesNothing (answer_of command s) → ⊥
accepted_changes command s x = grind (arith, common_steps)

-- A step that leaves the state unchanged leaves the rows unchanged.
pub steps_settled : (setting : Setting) (raw : Raw) (s : State) (command : Command) (answer : Answer)
    → TablesOfState raw setting.base s → Step setting s command answer s → TablesAfterStep setting.limits raw command
    answer raw
steps_settled setting raw s command answer x step = record {
  base = setting.base;
  state_before = s;
  state_after = s;
  tables_before = x;
  step = step;
  shows = x;
  same = λ nothing. refl;
}

-- A request that is accepted, and whose changes are committed, is a step of the machine.
module _ (setting : Setting) (old new : Raw) (s : State) (command : Command) (answer : Answer) (changes : List Change)
    (few : AreLimits setting.limits) (forms : CommandHasForms command) (x : TablesOfState old setting.base s)
    (grants : AcceptedVerdict setting s command answer changes)
    (made : (t : Tables) → old ≡ cells_of_tables t → new ≡ cells_of_tables (tables_after_delta changes t)) where
  pub state_after_accepted : TablesOfState new setting.base (next_state command s)
  state_after_accepted =
      state_after_changes old new setting.base s (next_state command s) changes x grants.leads
      (next_legal setting (setting_fits setting s few x.legal) s command forms x.legal grants.accepts) made

  pub steps_accepted : TablesAfterStep setting.limits old command answer new
  steps_accepted = record {
    base = setting.base;
    state_before = s;
    state_after = next_state command s;
    tables_before = x;
    step = subst (λ (a : Answer). Step setting s command a (next_state command s)) (sym grants.answer_is)
        (step_of_accepted setting s command grants.accepts);
    shows = state_after_accepted;
    same = λ nothing. absurd (accepted_changes command s (subst ChangesNothing grants.answer_is nothing));
  }

  -- A copy that is usable after the request holds the next state.
  pub copies_accepted : {A : Type 0} (copy copy' : CoreView) (result : Result A Fault) → copy.setting ≡ setting
      → OnOk result (IsViewOf copy' (next_state command s))
      → ApplyFrame copy result copy' → copy'.spent ≡ false
      → IsCopy new setting.limits copy'
  copies_accepted copy copy' (Ok a) is holds kept unspent = record {
    limits_are = ap (λ (q : Setting). q.limits) (kept.1 ∙ is);
    state = next_state command s;
    holds = holds;
    shows = subst (λ (q : Setting). TablesOfState new q.base (next_state command s)) (sym (kept.1 ∙ is))
        state_after_accepted;
  }
  copies_accepted copy copy' (Err fault) is holds failed unspent = let spent = failed.1 in absurd (cc)

-- A copy of the rows is a copy of equal rows.
pub copies_over : (old new : Raw) (limits : Limits) (copy : CoreView) → new ≡ old → IsCopy old limits copy
    → IsCopy new limits copy
copies_over old new limits copy same is = subst (λ (r : Raw). IsCopy r limits copy) (sym same) is

-- A copy of the rows is also a copy with the limits of its own setting.
pub copies_own : (raw : Raw) (limits : Limits) (copy : CoreView) → IsCopy raw limits copy
    → IsCopy raw copy.setting.limits copy
copies_own raw limits copy is = record { limits_are = refl; state = is.state; holds = is.holds; shows = is.shows }
