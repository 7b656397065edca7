-- Each stage is right (HasRead) after a table that can't be queried.
use Rattle.std.proofs.lemmas.Grind.{common_steps}
use Rattle.std.proofs.Common.{◌≡◌, sym, ◌∙◌, inl, List, true, false, true≢false, arith}
use Rattle.std.specs.Prelude.{None, Some}
use Rattle.thes_base.specs.declared.fault.Fault.TheVariants.{BadStore}
use Rattle.thes_base.specs.declared.fault.Table.{Table}
use Rattle.thes_tables.specs.declared.cells.Cell.{Cell}
use Rattle.thes_tables.specs.Cells.{Raw, RawTable}
use Rattle.thes_load_rules.specs.Laws.{HasNoRows}
use Rattle.thes_load_rules.proofs.VerdictByTableLemmas.{verdict_by_table}
use Rattle.thes_load_rows.specs.declared.stage.Stage.{Stage}
use Rattle.thes_load_rows.specs.declared.stage.Stage.TheVariants as stage
use Rattle.thes_load_rows.specs.Progress.{Grows, ExtendsTable, HasRead, stage_table, is_stopped, raw_without_table}
use Rattle.thes_load_rows.proofs.ProgressLemmas.{meta_stays, resource_stays, outside_stays, label_stays, link_stays}
use Rattle.thes_load_rows.proofs.ProgressLemmas.{hier_stays, posting_stays}
use Rattle.thes_load_rows.proofs.StageRowLemmas.{meta_fault}

-- A table that can't be queried has no typed rows.
unqueried_none : {A : Type 0} (cells_of : List A → List (List Cell)) (Rule : List A → Type 0) (queried : RawTable)
    → queried ≡ None → HasNoRows cells_of Rule queried
unqueried_none cells_of Rule queried none rows (is, rule) = let e = sym none ∙ is in absurd (cc)

abbrev HasReadAfterLoss : Stage → Type 0
HasReadAfterLoss s = (raw : Raw) → HasRead s raw → HasRead (stage.Stopped (BadStore (stage_table s)) (stage_table s))
    (raw_without_table (stage_table s) raw)

pub table_lost : (s : Stage) → is_stopped s ≡ false → HasReadAfterLoss s
table_lost (stage.Meta row) reads raw h more none = grind (arith, common_steps, meta_fault)
table_lost (stage.Resource base load) reads raw h more (e0, none) = (verdict_by_table more h.0).resource
    (meta_stays raw more h.0 e0 h.1) (unqueried_none _ _ more.resource none)
table_lost (stage.Outside load) reads raw h more (e0, e1, none) =
    (verdict_by_table more h.0).outside (resource_stays raw more h.0 e0 e1 h.1) (unqueried_none _ _ more.outside none)
table_lost (stage.Label vocab) reads raw h more (e0, e1, e2, none) =
    (verdict_by_table more h.0).label (outside_stays raw more h.0 e0 e1 e2 h.1) (unqueried_none _ _ more.label none)
table_lost (stage.Link linked_vocab) reads raw h more (e0, e1, e2, e3, none) =
    (verdict_by_table more h.0).link (label_stays raw more h.0 e0 e1 e2 e3 h.1) (unqueried_none _ _ more.link none)
table_lost (stage.Hier linked_vocab) reads raw h more (e0, e1, e2, e3, e4, none) =
    (verdict_by_table more h.0).hier (link_stays raw more h.0 e0 e1 e2 e3 e4 h.1) (unqueried_none _ _ more.hier none)
table_lost (stage.Posting linked_vocab load) reads raw h more (e0, e1, e2, e3, e4, e5, none) =
    (verdict_by_table more h.0).posting (hier_stays raw more h.0 e0 e1 e2 e3 e4 e5 h.1)
    (unqueried_none _ _ more.posting none)
table_lost (stage.Move linked_vocab placed load) reads raw h more (e0, e1, e2, e3, e4, e5, e6, none) =
    (verdict_by_table more h.0).move (posting_stays raw more h.0 e0 e1 e2 e3 e4 e5 e6 h.1)
    (unqueried_none _ _ more.move none)
table_lost (stage.Stopped fault at) reads raw h more extends = absurd (true≢false reads)

none_grows : (rows queried : RawTable) → queried ≡ None → Grows rows queried
none_grows None queried none = none
none_grows (Some rows) queried none = inl none

with_table : (at : Table) (raw more : Raw) → ExtendsTable at (raw_without_table at raw) more → ExtendsTable at raw more
with_table at raw more none = grind (arith, common_steps, none_grows)

pub stopped_lost : (s : Stage) → is_stopped s ≡ true → (raw : Raw) → HasRead s raw
    → HasRead s (raw_without_table (stage_table s) raw)
stopped_lost (stage.Stopped fault at) stopped raw stays = λ more extends. stays more (with_table at raw more extends)
stopped_lost (stage.Meta row) stopped raw stays = absurd (true≢false (sym stopped))
stopped_lost (stage.Resource base load) stopped raw stays = absurd (true≢false (sym stopped))
stopped_lost (stage.Outside load) stopped raw stays = absurd (true≢false (sym stopped))
stopped_lost (stage.Label vocab) stopped raw stays = absurd (true≢false (sym stopped))
stopped_lost (stage.Link linked_vocab) stopped raw stays = absurd (true≢false (sym stopped))
stopped_lost (stage.Hier linked_vocab) stopped raw stays = absurd (true≢false (sym stopped))
stopped_lost (stage.Posting linked_vocab load) stopped raw stays = absurd (true≢false (sym stopped))
stopped_lost (stage.Move linked_vocab placed load) stopped raw stays = absurd (true≢false (sym stopped))
