-- Proves that the verdict doesn't depend on the order of rows within a table.
use Rattle.std.proofs.Common.{◌≡◌, ℕ, List, refl, sym, ap, ◌∙◌, subst, arith}
use Rattle.std.proofs.lemmas.List.Sorted.{IsPermutation-refl, IsPermutation-sym, IsPermutation-trans}
use Rattle.std.specs.Prelude.{None, Some, Ok, Err}
use Rattle.thes_base.specs.declared.fault.Fault.{Fault}
use Rattle.thes_base.specs.State.{State}
use Rattle.thes_tables.specs.declared.cells.Cell.{Cell}
use Rattle.thes_tables.specs.Tables.{Tables}
use Rattle.thes_tables.specs.Cells.{Raw, RawTable, cells_of_tables}
use Rattle.thes_load_rules.specs.Rules.{state_of}
use Rattle.thes_load_rules.specs.Verdicts.{HasVerdict}
use Rattle.thes_load_rules.proofs.LegalTableLemmas.{held_loads}
use Rattle.thes_load_rules.proofs.OpenTableLemmas.{AllTablesPass, open_of}
use Rattle.thes_load_rules.proofs.OneVerdictLemmas.{loads_single}
use Rattle.thes_load_rules.proofs.LoadedStateLemmas.{loaded_state_legal}
use Rattle.thes_core.specs.CoreView.{CoreView, IsViewOf}
use Rattle.thes_row_lists.specs.SortedRows.{first_number, IsSortedCopy, AreSorted}
use Rattle.thes_office.specs.LoadedCore.{IsLoaded}
use Rattle.thes_row_lists.specs.RowOrder.{IsArranged, AreArranged, AreRowsOfState, HoldsRows, AreRefused, AnyOrder}
use Rattle.thes_row_lists.proofs.RisingNumberLemmas.{AreRising, up_of_sorted, up_of_rising}
use Rattle.thes_row_lists.proofs.RowOrderLemmas.{AreOrdered, AreTables, tables_back, verdicts_agree, resources_rise}
use Rattle.thes_row_lists.proofs.RowOrderLemmas.{outside_rise, postings_rise, moves_rise}

-- Sorting two arrangements of the same rows of a table gives the same rows, sorted by number.
sorted_both : (raw other sorted again : RawTable) → IsArranged raw other → IsSortedCopy raw sorted
    → IsSortedCopy other again → AreOrdered sorted again
sorted_both None None None None same s t = refl
sorted_both None None None (Some again) same s t = absurd (cc)
sorted_both None None (Some sorted) again same s t = absurd (cc)
sorted_both None (Some other) sorted again same s t = absurd (cc)
sorted_both (Some raw) None sorted again same s t = absurd same
sorted_both (Some raw) (Some other) None again same s t = absurd s
sorted_both (Some raw) (Some other) (Some sorted) None same s t = absurd t
sorted_both (Some raw) (Some other) (Some sorted) (Some again) same s t = (
  IsPermutation-trans sorted raw again (IsPermutation-sym raw sorted s.0)
      (IsPermutation-trans raw other again same t.0),
  up_of_sorted first_number sorted s.1,
  up_of_sorted first_number again t.1,
)

sorted_cells : (cells : List (List Cell)) (raw sorted : RawTable) → AreRising first_number 1 cells
    → IsArranged (Some cells) raw → IsSortedCopy raw sorted → AreOrdered (Some cells) sorted
sorted_cells cells None sorted rising same s = absurd same
sorted_cells cells (Some raw) None rising same s = absurd s
sorted_cells cells (Some raw) (Some sorted) rising same s = (
  IsPermutation-trans cells raw sorted same s.0,
  up_of_rising first_number 0 1 cells (omega arith) rising,
  up_of_sorted first_number sorted s.1,
)

arranged_sorted : (raw sorted : RawTable) → IsSortedCopy raw sorted → IsArranged sorted raw
arranged_sorted None None s = refl
arranged_sorted None (Some sorted) s = absurd (cc)
arranged_sorted (Some raw) None s = absurd s
arranged_sorted (Some raw) (Some sorted) s = IsPermutation-sym raw sorted s.0

arranged_itself : (table : RawTable) → IsArranged table table
arranged_itself None = refl
arranged_itself (Some rows) = IsPermutation-refl rows

both_plain : (raw other sorted again : RawTable) → IsArranged raw other → sorted ≡ raw → again ≡ other
    → IsArranged sorted again
both_plain raw other sorted again same s t = subst (λ x. IsArranged x again) (sym s)
    (subst (IsArranged raw) (sym t) same)

-- Sorting two arrangements of the rows of a store gives the same rows, with each numbered table
-- sorted.
tables_of_sorted : (raw other sorted again : Raw) → AreArranged raw other → AreSorted raw sorted
    → AreSorted other again → AreTables sorted again
tables_of_sorted raw other sorted again same s t = record {
  meta = both_plain raw.meta other.meta sorted.meta again.meta same.meta s.meta t.meta;
  resource = sorted_both raw.resource other.resource sorted.resource again.resource same.resource s.resource t.resource;
  outside = sorted_both raw.outside other.outside sorted.outside again.outside same.outside s.outside t.outside;
  label = both_plain raw.label other.label sorted.label again.label same.label s.label t.label;
  link = both_plain raw.link other.link sorted.link again.link same.link s.link t.link;
  hier = both_plain raw.hier other.hier sorted.hier again.hier same.hier s.hier t.hier;
  posting = sorted_both raw.posting other.posting sorted.posting again.posting same.posting s.posting t.posting;
  move = sorted_both raw.move other.move sorted.move again.move same.move s.move t.move;
}

-- If the rows of tables load, sorting an arrangement of them gives the same rows, with each
-- numbered table sorted.
tables_of_listed : (t : Tables) (raw sorted : Raw) → AllTablesPass (cells_of_tables t) t
    → AreArranged (cells_of_tables t) raw → AreSorted raw sorted → AreTables (cells_of_tables t) sorted
tables_of_listed t raw sorted all same s = record {
  meta = subst (IsArranged (cells_of_tables t).meta) (sym s.meta) same.meta;
  resource = sorted_cells _ raw.resource sorted.resource (resources_rise 1 t.resource) same.resource s.resource;
  outside = sorted_cells _ raw.outside sorted.outside (outside_rise 0 t.outside all.outside.1.ascends) same.outside
      s.outside;
  label = subst (IsArranged (cells_of_tables t).label) (sym s.label) same.label;
  link = subst (IsArranged (cells_of_tables t).link) (sym s.link) same.link;
  hier = subst (IsArranged (cells_of_tables t).hier) (sym s.hier) same.hier;
  posting = sorted_cells _ raw.posting sorted.posting (postings_rise t.posting all.posting.1.numbers) same.posting
      s.posting;
  move = sorted_cells _ raw.move sorted.move (moves_rise t.move all.move.1.numbers) same.move s.move;
}

-- Sorting only rearranges the rows of each table.
arranged_of_sorted : (raw sorted : Raw) → AreSorted raw sorted → AreArranged sorted raw
arranged_of_sorted raw sorted s = record {
  meta = plain raw.meta sorted.meta s.meta;
  resource = arranged_sorted raw.resource sorted.resource s.resource;
  outside = arranged_sorted raw.outside sorted.outside s.outside;
  label = plain raw.label sorted.label s.label;
  link = plain raw.link sorted.link s.link;
  hier = plain raw.hier sorted.hier s.hier;
  posting = arranged_sorted raw.posting sorted.posting s.posting;
  move = arranged_sorted raw.move sorted.move s.move;
}
  where
    plain : (raw sorted : RawTable) → sorted ≡ raw → IsArranged sorted raw
    plain raw sorted is = subst (λ x. IsArranged x raw) (sym is) (arranged_itself raw)

-- The rows of a legal state load once they are sorted, and encode that state.
legal_loaded : (base : List ℕ) (s : State) (raw sorted : Raw) → AreRowsOfState base s raw → AreSorted raw sorted
    → (u : Tables) × HasVerdict sorted (Ok u) × (state_of u ≡ s) × (u.base ≡ base)
legal_loaded base s raw sorted are in_order =
    let t = are.tables in
    let held = held_loads base s t are.legal are.rows in
    let r = (verdicts_agree (cells_of_tables t) sorted
    (tables_of_listed t raw sorted (open_of (cells_of_tables t) t held.0) are.tables_arranged in_order)).agrees (Ok t)
    held.0 in
    (r.2.0, subst (HasVerdict sorted) r.2.1 r.1, r.2.2 ∙ held.1, r.2.3 ∙ are.rows.base_is)

-- Rows that load after sorting encode a legal state.
loaded_legal : (raw sorted : Raw) (t : Tables) → AreSorted raw sorted → HasVerdict sorted (Ok t)
    → AreRowsOfState t.base (state_of t) raw
loaded_legal raw sorted t in_order loads =
    let told = loaded_state_legal sorted t loads in
    record {
      legal = told.0;
      tables = t;
      rows = told.1;
      tables_arranged = subst (λ x. AreArranged x raw) told.2 (arranged_of_sorted raw sorted in_order);
    }

one_result : (raw : Raw) (t u : Tables) → HasVerdict raw (Ok t) → HasVerdict raw (Ok u) → t ≡ u
one_result raw t u p q = let same = loads_single raw (Ok t) (Ok u) p q in cc

pub holds_rows : (raw sorted : Raw) (core : CoreView) → AreSorted raw sorted → IsLoaded sorted core → HoldsRows raw core
holds_rows raw sorted core in_order (t, loads, holds, base) = record {
  state = state_of t;
  are = subst (λ b. AreRowsOfState b (state_of t) raw) (sym base) (loaded_legal raw sorted t in_order loads);
  holds = λ other s are.
      let r = legal_loaded other s raw sorted are in_order in
      let same = one_result sorted t r.0 loads r.1 in
      (subst (IsViewOf core) (ap state_of same ∙ r.2) holds, base ∙ ap (λ (x : Tables). x.base) same ∙ r.3);
}

pub rows_refused : (raw sorted : Raw) (fault : Fault) → AreSorted raw sorted → HasVerdict sorted (Err fault)
    → AreRefused raw fault
rows_refused raw sorted fault in_order loads = record {
  none = λ base s are. let r = legal_loaded base s raw sorted are in_order in let same =
      loads_single sorted (Ok r.0) (Err fault) r.1 loads in absurd (cc);
  verdict = λ other again same s.
      let r = (verdicts_agree sorted again (tables_of_sorted raw other sorted again same in_order s)).agrees
      (Err fault) loads in
      subst (HasVerdict again) r.2 r.1;
}

-- The verdict doesn't depend on the order of rows within a table.
pub one_in_any_order : AnyOrder
one_in_any_order raw other sorted again same s t =
    let over = tables_of_sorted raw other sorted again same s t in
    let there = verdicts_agree sorted again over in
    let back = verdicts_agree again sorted (tables_back sorted again over) in (
      λ fault. (
        λ loads. (let r = there.agrees (Err fault) loads in subst (HasVerdict again) r.2 r.1),
        λ loads. (let r = back.agrees (Err fault) loads in subst (HasVerdict sorted) r.2 r.1),
      ),
      λ tables loads. let r = there.agrees (Ok tables) loads in
          (r.2.0, subst (HasVerdict again) r.2.1 r.1, r.2.2, r.2.3),
    )
