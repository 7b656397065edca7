-- Tables that meet their rules still meet them when rows of later tables follow. Each stage is right (HasRead) after a
-- row of its table is added or found faulty.
use Rattle.std.proofs.lemmas.Grind.{common_steps}
use Rattle.std.proofs.Common.{◌≡◌, List, [], ◌∷◌, ◌++◌, map, sym, ap, ◌∙◌, subst, true, arith}
use Rattle.std.specs.Prelude.{Some}
use Rattle.std.proofs.lemmas.Option.{same_Some}
use Rattle.thes_base.specs.declared.fault.Fault.TheVariants.{BadStore}
use Rattle.thes_base.specs.declared.fault.Table.TheVariants as table
use Rattle.thes_tables.specs.declared.cells.Cell.{Cell}
use Rattle.thes_tables.specs.Tables.{Tables}
use Rattle.thes_tables.specs.Cells.{Raw, RawTable, resource_rows, outside_cells, label_cells, link_cells, hier_cells}
use Rattle.thes_tables.specs.Cells.{posting_cells, move_cells}
use Rattle.thes_vocab.specs.Vocabulary.{Vocabulary}
use Rattle.thes_load_rules.specs.Rules.{ResourceRule, OutsideRule, LabelRule, LinkRule, HierRule, PostingRule, MoveRule}
use Rattle.thes_load_rules.specs.Verdicts.{IsMeta}
use Rattle.thes_load_rules.specs.Laws.{HasNoRows, MetaPasses, ResourcePasses, OutsidePasses, LabelPasses, LinkPasses}
use Rattle.thes_load_rules.specs.Laws.{HierPasses, PostingPasses}
use Rattle.thes_load_rules.proofs.VerdictByTableLemmas.{verdict_by_table}
use Rattle.thes_load_rows.specs.declared.stage.Stage.TheVariants as stage
use Rattle.thes_load_rows.specs.ReadResults.{IsFaulty, ReadResult}
use Rattle.thes_load_rows.specs.Progress.{Grows, raw_with_row, HasRead, HasNames, NoneAfterOutside, NoneAfterLabel}
use Rattle.thes_load_rows.specs.Progress.{NoneAfterLink, NoneAfterHier, NoneAfterPosting, with_row}
use Rattle.thes_load_rows.specs.declared.names.OutsideLoad.{OutsideLoad}
use Rattle.thes_load_rows.specs.declared.links.LinkedVocab.{LinkedVocab}
use Rattle.thes_load_rows.specs.declared.postings.PostingLoad.{PostingLoad}
use Rattle.thes_load_rows.specs.NamesSoFar.{HasOutside, HasLabels}
use Rattle.thes_load_rows.specs.LinksSoFar.{HasLinks}
use Rattle.thes_load_rows.specs.RowsSoFar.{HasPostings}

-- A table that begins with faulty rows breaks its rule, whatever rows follow.
pub faulty_none : {A : Type 0} (cells_of : List A → List (List Cell)) (Rule : List A → Type 0)
    (begun : List (List Cell)) → IsFaulty cells_of Rule begun → (queried : RawTable) → Grows (Some begun) queried
    → HasNoRows cells_of Rule queried
faulty_none cells_of Rule begun faulty queried h rows k = grind (arith, common_steps, same_Some)

-- A table whose next row is faulty breaks its rule, whatever rows follow.
faulty_row : {A : Type 0} (cells_of : List A → List (List Cell)) (Rule : List A → Type 0) (cells : List Cell)
    (begun : List (List Cell)) (queried more : RawTable) → queried ≡ Some begun
    → IsFaulty cells_of Rule (begun ++ cells ∷ []) → Grows (with_row cells queried) more → HasNoRows cells_of Rule more
faulty_row cells_of Rule cells begun queried more read faulty grown =
    faulty_none cells_of Rule (begun ++ cells ∷ []) faulty more
    (subst (λ (q : RawTable). Grows q more) (ap (with_row cells) read) grown)

-- After one more row, the cells of the table are those read so far and those of the row.
pub row_read : (cells : List Cell) (before after : List (List Cell)) (queried : RawTable) → queried ≡ Some before
    → after ≡ before ++ cells ∷ [] → with_row cells queried ≡ Some after
row_read cells before after queried read e =
    ap (with_row cells) read ∙ ap (λ (rows : List (List Cell)). Some rows) (sym e)

pub meta_stays : (raw more : Raw) (t : Tables) → more.meta ≡ raw.meta → MetaPasses raw t → MetaPasses more t
meta_stays raw more t e passes = subst (λ (q : RawTable). IsMeta q t.base) (sym e) passes

pub resource_stays : (raw more : Raw) (t : Tables) → more.meta ≡ raw.meta → more.resource ≡ raw.resource
    → ResourcePasses raw t → ResourcePasses more t
resource_stays raw more t e0 e1 (a, b) = grind (arith, common_steps, meta_stays)

pub outside_stays : (raw more : Raw) (t : Tables) → more.meta ≡ raw.meta → more.resource ≡ raw.resource → more.outside
    ≡ raw.outside → OutsidePasses raw t → OutsidePasses more t
outside_stays raw more t e0 e1 e2 (a, b) = grind (arith, common_steps, resource_stays)

pub label_stays : (raw more : Raw) (t : Tables) → more.meta ≡ raw.meta → more.resource ≡ raw.resource → more.outside
    ≡ raw.outside → more.label ≡ raw.label → LabelPasses raw t → LabelPasses more t
label_stays raw more t e0 e1 e2 e3 (a, b) = grind (arith, common_steps, outside_stays)

pub link_stays : (raw more : Raw) (t : Tables) → more.meta ≡ raw.meta → more.resource ≡ raw.resource → more.outside
    ≡ raw.outside → more.label ≡ raw.label → more.link ≡ raw.link → LinkPasses raw t → LinkPasses more t
link_stays raw more t e0 e1 e2 e3 e4 (a, b) = grind (arith, common_steps, label_stays)

pub hier_stays : (raw more : Raw) (t : Tables) → more.meta ≡ raw.meta → more.resource ≡ raw.resource → more.outside
    ≡ raw.outside → more.label ≡ raw.label → more.link ≡ raw.link → more.hier ≡ raw.hier → HierPasses raw t
    → HierPasses more t
hier_stays raw more t e0 e1 e2 e3 e4 e5 (a, b) = grind (arith, common_steps, link_stays)

pub posting_stays : (raw more : Raw) (t : Tables) → more.meta ≡ raw.meta → more.resource ≡ raw.resource → more.outside
    ≡ raw.outside → more.label ≡ raw.label → more.link ≡ raw.link → more.hier ≡ raw.hier → more.posting ≡ raw.posting
    → PostingPasses raw t → PostingPasses more t
posting_stays raw more t e0 e1 e2 e3 e4 e5 e6 (a, b) = grind (arith, common_steps, hier_stays)

-- If a row of table resource is faulty, the verdict is the fault of this table, whatever rows follow.
pub resource_fault : (raw : Raw) (t : Tables) (cells : List Cell) → MetaPasses raw t → raw.resource
    ≡ Some (resource_rows 1 t.resource) → IsFaulty (resource_rows 1) ResourceRule (resource_rows 1 t.resource ++ cells
    ∷ []) → HasRead (stage.Stopped (BadStore table.Resource) table.Resource) (raw_with_row table.Resource cells raw)
resource_fault raw t cells passes read faulty more (e0, grown) =
    grind (arith, common_steps, faulty_none, meta_stays, verdict_by_table)

-- If a row of table outside is faulty, the verdict is the fault of this table, whatever rows follow.
pub outside_fault : (raw : Raw) (t : Tables) (cells : List Cell) → ResourcePasses raw t → raw.outside
    ≡ Some (map outside_cells t.outside) → IsFaulty (map outside_cells) (OutsideRule t.base t.resource)
    (map outside_cells t.outside ++ cells ∷ []) → HasRead (stage.Stopped (BadStore table.Outside) table.Outside)
    (raw_with_row table.Outside cells raw)
outside_fault raw t cells passes read faulty more (e0, e1, grown) =
    (verdict_by_table more t).outside (resource_stays raw more t e0 e1 passes)
    (faulty_row (map outside_cells) (OutsideRule t.base t.resource) cells _ raw.outside more.outside read faulty grown)

-- If a row of table label is faulty, the verdict is the fault of this table, whatever rows follow.
pub label_fault : (raw : Raw) (t : Tables) (cells : List Cell) → OutsidePasses raw t → raw.label
    ≡ Some (map label_cells t.label) → IsFaulty (map label_cells) (LabelRule t.resource) (map label_cells t.label
    ++ cells ∷ []) → HasRead (stage.Stopped (BadStore table.Label) table.Label) (raw_with_row table.Label cells raw)
label_fault raw t cells passes read faulty more (e0, e1, e2, grown) =
    (verdict_by_table more t).label (outside_stays raw more t e0 e1 e2 passes)
    (faulty_row (map label_cells) (LabelRule t.resource) cells _ raw.label more.label read faulty grown)

-- If a row of table link is faulty, the verdict is the fault of this table, whatever rows follow.
pub link_fault : (raw : Raw) (t : Tables) (cells : List Cell) → LabelPasses raw t → raw.link
    ≡ Some (map link_cells t.link) → IsFaulty (map link_cells) (LinkRule t.resource) (map link_cells t.link ++ cells
    ∷ []) → HasRead (stage.Stopped (BadStore table.Link) table.Link) (raw_with_row table.Link cells raw)
link_fault raw t cells passes read faulty more (e0, e1, e2, e3, grown) =
    (verdict_by_table more t).link (label_stays raw more t e0 e1 e2 e3 passes)
    (faulty_row (map link_cells) (LinkRule t.resource) cells _ raw.link more.link read faulty grown)

-- If a row of table hier is faulty, the verdict is the fault of this table, whatever rows follow.
pub hier_fault : (raw : Raw) (t : Tables) (cells : List Cell) → LinkPasses raw t → raw.hier
    ≡ Some (map hier_cells t.hier) → IsFaulty (map hier_cells) (HierRule t.resource t.link)
    (map hier_cells t.hier ++ cells ∷ []) → HasRead (stage.Stopped (BadStore table.Hier) table.Hier)
    (raw_with_row table.Hier cells raw)
hier_fault raw t cells passes read faulty more (e0, e1, e2, e3, e4, grown) =
    (verdict_by_table more t).hier (link_stays raw more t e0 e1 e2 e3 e4 passes)
    (faulty_row (map hier_cells) (HierRule t.resource t.link) cells _ raw.hier more.hier read faulty grown)

-- If a row of table posting is faulty, the verdict is the fault of this table, whatever rows follow.
pub posting_fault : (raw : Raw) (t : Tables) (cells : List Cell) → HierPasses raw t → raw.posting
    ≡ Some (map posting_cells t.posting) → IsFaulty (map posting_cells) (PostingRule t.resource)
    (map posting_cells t.posting ++ cells ∷ []) → HasRead (stage.Stopped (BadStore table.Posting) table.Posting)
    (raw_with_row table.Posting cells raw)
posting_fault raw t cells passes read faulty more (e0, e1, e2, e3, e4, e5, grown) =
    (verdict_by_table more t).posting (hier_stays raw more t e0 e1 e2 e3 e4 e5 passes)
    (faulty_row (map posting_cells) (PostingRule t.resource) cells _ raw.posting more.posting read faulty grown)

-- If a row of table move is faulty, the verdict is the fault of this table, whatever rows follow.
pub move_fault : (raw : Raw) (t : Tables) (cells : List Cell) → PostingPasses raw t → raw.move
    ≡ Some (map move_cells t.move) → IsFaulty (map move_cells) (MoveRule t.resource t.posting)
    (map move_cells t.move ++ cells ∷ []) → HasRead (stage.Stopped (BadStore table.Move) table.Move)
    (raw_with_row table.Move cells raw)
move_fault raw t cells passes read faulty more (e0, e1, e2, e3, e4, e5, e6, grown) =
    (verdict_by_table more t).move (posting_stays raw more t e0 e1 e2 e3 e4 e5 e6 passes)
    (faulty_row (map move_cells) (MoveRule t.resource t.posting) cells _ raw.move more.move read faulty grown)

-- The stage is right (HasRead) after a row of table outside is added.
pub outside_taken : (raw : Raw) (t : Tables) (cells : List Cell) (new : OutsideLoad) → ResourcePasses raw t
    → raw.outside ≡ Some (map outside_cells t.outside) → ReadResult (map outside_cells)
    (HasOutside t.base t.resource new.vocab new.last) (OutsideRule t.base t.resource) t.outside cells true
    → NoneAfterOutside raw → HasRead (stage.Outside new) (raw_with_row table.Outside cells raw)
outside_taken raw t cells new passes read (x, e, has) after = (
  record t { outside = t.outside ++ x ∷ [] },
  passes,
  row_read cells _ _ raw.outside read e,
  has,
  after,
)

-- The stage is right (HasRead) after a row of table label is added.
pub label_taken : (raw : Raw) (t : Tables) (cells : List Cell) (new : Vocabulary) → OutsidePasses raw t → raw.label
    ≡ Some (map label_cells t.label) → ReadResult (map label_cells) (HasLabels t.base t.resource t.outside new)
    (LabelRule t.resource) t.label cells true → NoneAfterLabel raw → HasRead (stage.Label new)
    (raw_with_row table.Label cells raw)
label_taken raw t cells new passes read (x, e, has) after = (
  record t { label = t.label ++ x ∷ [] },
  passes,
  row_read cells _ _ raw.label read e,
  has,
  after,
)

-- The stage is right (HasRead) after a row of table link is added.
pub link_taken : (raw : Raw) (t : Tables) (cells : List Cell) (new : LinkedVocab) → LabelPasses raw t
    → HasNames new.vocab t → raw.link ≡ Some (map link_cells t.link) → ReadResult (map link_cells)
    (λ rows. HasLinks t.resource new.graph rows []) (LinkRule t.resource) t.link cells true → NoneAfterLink raw
    → HasRead (stage.Link new) (raw_with_row table.Link cells raw)
link_taken raw t cells new passes names read (x, e, has) after = (
  record t { link = t.link ++ x ∷ [] },
  passes,
  names,
  row_read cells _ _ raw.link read e,
  has,
  after,
)

-- The stage is right (HasRead) after a row of table hier is added.
pub hier_taken : (raw : Raw) (t : Tables) (cells : List Cell) (new : LinkedVocab) → LinkPasses raw t
    → HasNames new.vocab t → raw.hier ≡ Some (map hier_cells t.hier) → ReadResult (map hier_cells)
    (HasLinks t.resource new.graph t.link) (HierRule t.resource t.link) t.hier cells true → NoneAfterHier raw
    → HasRead (stage.Hier new) (raw_with_row table.Hier cells raw)
hier_taken raw t cells new passes names read (x, e, has) after = (
  record t { hier = t.hier ++ x ∷ [] },
  passes,
  names,
  row_read cells _ _ raw.hier read e,
  has,
  after,
)

-- The stage is right (HasRead) after a row of table posting is added.
pub posting_taken : (raw : Raw) (t : Tables) (cells : List Cell) (linked_vocab : LinkedVocab) (new : PostingLoad)
    → HierPasses raw t → HasNames linked_vocab.vocab t → HasLinks t.resource linked_vocab.graph t.link t.hier
    → raw.posting ≡ Some (map posting_cells t.posting) → ReadResult (map posting_cells)
    (HasPostings t.resource new.keys.keys new.firsts.items new.stored_places.items new.tally) (PostingRule t.resource)
    t.posting cells true → NoneAfterPosting raw → HasRead (stage.Posting linked_vocab new)
    (raw_with_row table.Posting cells raw)
posting_taken raw t cells linked_vocab new passes names links read (x, e, has) after = (
  record t { posting = t.posting ++ x ∷ [] },
  passes,
  names,
  links,
  row_read cells _ _ raw.posting read e,
  has,
  after,
)
