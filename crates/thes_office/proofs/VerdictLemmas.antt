-- Proves what follows from a verdict on a request, decided on a current copy with the facts in the tables.
use Rattle.std.proofs.lemmas.Grind.{common_steps}
use Rattle.std.proofs.Common.{◌≡◌, false, inl, refl, [], sym, ap, subst, ◌∙◌, Bool, List, arith}
use Rattle.std.specs.Prelude.{Result, Ok, OnOk}
use Rattle.thes_base.specs.declared.data.Limits.{Limits}
use Rattle.thes_base.specs.declared.fault.Fault.{Fault}
use Rattle.thes_base.specs.declared.request.Answer.{Answer}
use Rattle.thes_base.specs.declared.request.Command.{Command}
use Rattle.thes_base.specs.Machine.{next_state}
use Rattle.thes_base.specs.Refusals.{AreLimits}
use Rattle.thes_base.specs.State.{State}
use Rattle.thes_base.specs.Texts.{CommandHasForms}
use Rattle.thes_tables.specs.declared.change.Change.{Change}
use Rattle.thes_tables.specs.Cells.{Raw, cells_of_tables}
use Rattle.thes_tables.specs.Rows.{tables_after_delta, DeltaFits}
use Rattle.thes_tables.specs.Tables.{Tables}
use Rattle.thes_store.specs.Storage.{StorageView}
use Rattle.thes_core.specs.declared.facts.Facts.{Facts}
use Rattle.thes_core.specs.declared.verdict.Verdict.{Verdict}
use Rattle.thes_core.specs.declared.verdict.Verdict.TheVariants.{Settled, Accepted}
use Rattle.thes_core.specs.CoreDecisions.{AcceptedVerdict, ApplyFrame, IsAccepted, IsVerdict}
use Rattle.thes_core.specs.CoreView as core
use Rattle.thes_core.specs.CoreView.{IsViewOf}
use Rattle.thes_core.specs.Facts.{AreFacts}
use Rattle.thes_office.specs.QueryFrames.{FactsInTables}
use Rattle.thes_office.specs.Office.{ChangesNothing, IsConsistent, IsCopy, OfficeView, PerformResult, SameTables}
use Rattle.thes_office.specs.Office.{TablesAfterStep}
use Rattle.thes_office.specs.Reports.{ReportResult}
use Rattle.thes_office.proofs.StateTableLemmas.{changes_fit}
use Rattle.thes_office.proofs.StepLemmas.{accepted_changes, copies_accepted, steps_accepted, steps_settled}

module _ {K : Type 0} (view : K → StorageView) (keeper : K) (copy : core.CoreView)
    (limits : Limits) (stale : Bool) (office : OfficeView K)
    (kept : IsConsistent view keeper copy limits stale)
    (is : record { keeper = keeper; limits = limits; stale = stale } ≡ office) (current : office.stale ≡ false)
    (command : Command) (facts : Facts) (in_tables : (view office.keeper).is_up
    → FactsInTables (view office.keeper).rows command facts)
    (verdict : Verdict) (decides : (s : State) → IsViewOf copy s → AreFacts command s.histories facts
    → IsVerdict copy.setting s command verdict) where
  -- The copy holds the state that the tables encode.
  pub current_copy : (view keeper).is_up → IsCopy (view keeper).rows limits copy
  current_copy = kept.copies (ap (λ (d : OfficeView K). d.stale) is ∙ current)

  pub right_facts : (up : (view keeper).is_up) → AreFacts command (current_copy up).state.histories facts
  right_facts up =
      subst (λ (d : OfficeView K). (view d.keeper).is_up → FactsInTables (view d.keeper).rows command facts)
      (sym is) in_tables up
      copy.setting.base (current_copy up).state (current_copy up).shows

  right : (up : (view keeper).is_up) → IsVerdict copy.setting (current_copy up).state command verdict
  right up = decides (current_copy up).state (current_copy up).holds (right_facts up)

  -- A step from the tables is also a step from the tables before a call that left them unchanged.
  step_since : (old : OfficeView K) (answer : Answer) (new : Raw) → office.limits ≡ old.limits
      → SameTables view old office → (view keeper).is_up → TablesAfterStep limits (view keeper).rows command answer new
      → TablesAfterStep old.limits (view old.keeper).rows command answer new
  step_since old answer new limits_are same up = grind (arith, common_steps)

  -- A settled answer is a step of the machine that leaves the tables unchanged.
  pub performed_when_settled : (old : OfficeView K) (answer : Answer) → office.limits ≡ old.limits
      → SameTables view old office → verdict ≡ Settled answer
      → PerformResult view old command (Ok answer) office
  performed_when_settled old answer limits_are same settles =
      subst (PerformResult view old command (Ok answer)) is
      (λ up. step_since old answer (view keeper).rows limits_are same up
      (subst (λ (l : Limits). TablesAfterStep l (view keeper).rows command answer (view keeper).rows)
      (current_copy up).limits_are
      (steps_settled copy.setting (view keeper).rows (current_copy up).state command answer (current_copy up).shows
      (subst (IsVerdict copy.setting (current_copy up).state command) settles (right up)))))

  pub reported_when_settled : (old : OfficeView K) (answer : Answer) → office.limits ≡ old.limits
      → SameTables view old office → verdict ≡ Settled answer
      → ReportResult view old command (Ok answer) [] office
  reported_when_settled old answer limits_are same settles up =
      let step = performed_when_settled old answer limits_are same settles up in
      record { step = step; rows = same up ∙ step.tables_before.rows; none = λ nothing. refl }

  module _ (answer : Answer) (changes : List Change) (accepts : verdict ≡ Accepted answer changes) where
    grants : (up : (view keeper).is_up) → AcceptedVerdict copy.setting (current_copy up).state command answer changes
    grants up = subst (IsVerdict copy.setting (current_copy up).state command) accepts (right up)

    -- The changes of an accepted request fit the tables.
    pub accepted_fits : (view keeper).is_up → (t : Tables) → (view keeper).rows ≡ cells_of_tables t
        → DeltaFits changes t
    accepted_fits up t same = changes_fit (view keeper).rows copy.setting.base (current_copy up).state
        (next_state command (current_copy up).state) changes (current_copy up).shows (grants up).leads t same

    module _ (new : K) (forms : CommandHasForms command) (was : (view new).is_up → (view keeper).is_up)
        (made : (view new).is_up → (t : Tables) → (view keeper).rows ≡ cells_of_tables t
        → (view new).rows ≡ cells_of_tables (tables_after_delta changes t)) where
      limits_fit : (up : (view keeper).is_up) → AreLimits copy.setting.limits
      limits_fit up = subst AreLimits (sym (current_copy up).limits_are) kept.limits_fit

      -- The commit of the changes of an accepted request is a step of the machine.
      step_when_accepted : (view new).is_up → TablesAfterStep limits (view keeper).rows command answer (view new).rows
      step_when_accepted up =
          subst (λ (l : Limits). TablesAfterStep l (view keeper).rows command answer (view new).rows)
          (current_copy (was up)).limits_are
          (steps_accepted copy.setting (view keeper).rows (view new).rows
          (current_copy (was up)).state command answer changes
          (limits_fit (was up)) forms (current_copy (was up)).shows (grants (was up)) (made up))

      pub performed_when_accepted : (old : OfficeView K) (later : Bool) → office.limits ≡ old.limits
          → SameTables view old office
          → PerformResult view old command (Ok answer) (record { keeper = new; limits = limits; stale = later })
      performed_when_accepted old later limits_are same up =
          step_since old answer (view new).rows limits_are same (was up) (step_when_accepted up)

      -- The tables since before a call that left them unchanged.
      rows_since : (old : OfficeView K) → SameTables view old office → (view new).is_up
          → (view keeper).rows ≡ (view old.keeper).rows
      rows_since old same up = subst (λ (d : OfficeView K). (view d.keeper).is_up → (view d.keeper).rows
          ≡ (view old.keeper).rows) (sym is) same (was up)

      pub reported_when_accepted : (old : OfficeView K) (later : Bool) → office.limits ≡ old.limits
          → SameTables view old office
          → ReportResult view old command (Ok answer) changes (record { keeper = new; limits = limits; stale = later })
      reported_when_accepted old later limits_are same up =
          let step = performed_when_accepted old later limits_are same up in record {
            step = step;
            rows = made up step.tables_before.tables (rows_since old same up ∙ step.tables_before.rows);
            none = λ nothing. absurd (accepted_changes command (current_copy (was up)).state
                (subst ChangesNothing (grants (was up)).answer_is nothing));
          }

      -- After the commit and the change of the copy, a usable copy holds the next state.
      pub consistent_when_accepted : {A : Type 0} (copy' : core.CoreView) (result : Result A Fault) (later : Bool)
          → later ≡ copy'.spent
          → ((s : State) → IsViewOf copy s → AreFacts command s.histories facts → IsAccepted copy.setting s command
          → OnOk result (IsViewOf copy' (next_state command s)))
          → ApplyFrame copy result copy'
          → IsConsistent view new copy' limits later
      consistent_when_accepted copy' result later spends applies frame = record {
        limits_fit = kept.limits_fit;
        shows = λ up. let x = step_when_accepted up in (x.base, x.state_after, x.shows);
        unspent = λ e. sym spends ∙ e;
        copies = λ e up.
            let here = current_copy (was up) in
            subst (λ (l : Limits). IsCopy (view new).rows l copy') here.limits_are
            (copies_accepted copy.setting (view keeper).rows (view new).rows here.state command answer changes
            (limits_fit (was up)) forms
            here.shows (grants (was up)) (made up) copy copy' result refl
            (applies here.state here.holds (right_facts (was up)) (grants (was up)).accepts) frame (sym spends ∙ e));
        why = λ e. inl (sym spends ∙ e);
      }
