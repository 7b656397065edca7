-- Each stage is right (HasRead) after a row, whether or not the row meets its table's rule.
use Rattle.std.proofs.lemmas.Grind.{common_steps}
use Rattle.std.proofs.Common.{◌≡◌, ◌≢◌, ◌⊎◌, ◌<◌, ◌^◌, ℕ, length, List, [], ◌∷◌, ◌++◌, map, refl, sym, ap, ◌∙◌, subst}
use Rattle.std.proofs.Common.{inl, inr, Bool, true, false, append_assoc, arith}
use Rattle.std.specs.Prelude.{None, Some, Err}
use Rattle.std.proofs.lemmas.Option.{same_Some}
use Rattle.thes_base.specs.declared.data.Resource.{Resource}
use Rattle.thes_base.specs.declared.data.Link.{Link}
use Rattle.thes_base.specs.declared.fault.Fault.{Fault}
use Rattle.thes_base.specs.declared.fault.Fault.TheVariants.{BadStore}
use Rattle.thes_base.specs.declared.fault.Table.{Table}
use Rattle.thes_base.specs.declared.fault.Table.TheVariants as table
use Rattle.thes_base.specs.Forms.{IsBase}
use Rattle.thes_base.specs.Labels.{Label}
use Rattle.thes_tables.specs.declared.cells.Cell.{Cell}
use Rattle.thes_tables.specs.declared.rows.HierRow.{HierRow}
use Rattle.thes_tables.specs.declared.rows.PostingRow.{PostingRow}
use Rattle.thes_tables.specs.declared.rows.MoveRow.{MoveRow}
use Rattle.thes_tables.specs.Tables.{Tables, empty_tables}
use Rattle.thes_tables.specs.Cells.{Raw, RawTable, meta_cells, resource_rows, outside_cells, label_cells, link_cells}
use Rattle.thes_tables.specs.Cells.{hier_cells, posting_cells, move_cells}
use Rattle.thes_tables.proofs.CellLemmas.{head_one}
use Rattle.thes_vocab.specs.Vocabulary.{Vocabulary}
use Rattle.thes_load_rules.specs.Rules.{ResourceRule, OutsideRule, LabelRule, LinkRule, HierRule, PostingRule, MoveRule}
use Rattle.thes_load_rules.specs.Verdicts.{HasVerdict}
use Rattle.thes_load_rules.proofs.VerdictByTableLemmas.{verdict_by_table}
use Rattle.thes_load_rows.specs.declared.meta.MetaRow.{MetaRow}
use Rattle.thes_load_rows.specs.declared.stage.Stage.TheVariants as stage
use Rattle.thes_load_rows.specs.declared.resources.ResourceLoad.{ResourceLoad}
use Rattle.thes_load_rows.specs.declared.names.OutsideLoad.{OutsideLoad}
use Rattle.thes_load_rows.specs.declared.links.LinkedVocab.{LinkedVocab}
use Rattle.thes_load_rows.specs.declared.postings.PlacedPostings.{PlacedPostings}
use Rattle.thes_load_rows.specs.declared.postings.PostingLoad.{PostingLoad}
use Rattle.thes_load_rows.specs.declared.moves.MoveLoad.{MoveLoad}
use Rattle.thes_load_rows.specs.ReadResults.{ReadResult}
use Rattle.thes_load_rows.specs.Version.{SpellsMeta, version_cells}
use Rattle.thes_load_rows.specs.NamesSoFar.{HasOutside, HasLabels}
use Rattle.thes_load_rows.specs.LinksSoFar.{HasLinks}
use Rattle.thes_load_rows.specs.RowsSoFar.{HasPostings, HasMoves}
use Rattle.thes_load_rows.specs.Progress.{Grows, ExtendsTable, raw_with_row, with_row, HasNames, ReadsRow}
use Rattle.thes_load_rows.proofs.ProgressLemmas.{resource_fault, outside_fault, label_fault, link_fault, hier_fault}
use Rattle.thes_load_rows.proofs.ProgressLemmas.{posting_fault, move_fault, outside_taken, label_taken, link_taken}
use Rattle.thes_load_rows.proofs.ProgressLemmas.{hier_taken, posting_taken, row_read}

-- A row of table meta that isn't one of any version makes the table faulty.
pub meta_fault : (more : Raw)
    → ((version : ℕ) (base : Cell) → (2 < version) ⊎ (version ≡ 1) → more.meta ≢ Some (version_cells version base ∷ []))
    → ((base : List ℕ) → IsBase base → more.meta ≢ Some (meta_cells base ∷ []))
    → HasVerdict more (Err (BadStore table.Meta))
meta_fault more none no_base =
    (verdict_by_table more (empty_tables [])).meta (λ (v, b, lt, e). none v b (inl lt) e)
    (λ (v, b, is, e). none v b (inr is) e) (λ base (e, form). no_base base form e)

grown_is : (one cells : List Cell) (queried : RawTable) → Grows (Some (one ∷ [])) queried → queried
    ≡ Some (cells ∷ []) → one ≡ cells
grown_is one cells queried (inl none) e = let f = sym none ∙ e in absurd (cc)
grown_is one cells queried (inr (more, is)) e = head_one (same_Some _ _ (sym is ∙ e))

pub meta_row : (row : MetaRow) (cells : List Cell) → SpellsMeta cells (Some row) → ReadsRow (stage.Meta None)
    (stage.Meta (Some row)) cells true
meta_row row cells spells = (refl, λ raw (none, after). ((cells, ap (with_row cells) none, spells), after))

pub meta_unread : (cells : List Cell) → SpellsMeta cells None → ReadsRow (stage.Meta None) (stage.Meta None) cells false
meta_unread cells spells raw (none, after) more grown =
    let grows = subst (λ (q : RawTable). Grows q more.meta) (ap (with_row cells) none) grown in
    meta_fault more (λ version base which e. spells.0 version base which (grown_is cells _ more.meta grows e))
    (λ base form e. spells.1 base form (grown_is cells _ more.meta grows e))

-- The stage is right (HasRead) after a row of table resource, whether or not the row was added.
pub resource_row : (base : List ℕ) (old new : ResourceLoad) (cells : List Cell) (good : Bool)
    → ReadResult (resource_rows 1) (λ rows. rows ≡ new.resources.items) ResourceRule old.resources.items cells good
    → ReadsRow (stage.Resource base old) (stage.Resource base new) cells good
resource_row base old new cells true reads = (
  refl,
  λ raw (t, passes, same, read, are, after).
      let (x, e, has) =
      subst (λ (rs : List Resource). ReadResult (resource_rows 1) (λ rows. rows ≡ new.resources.items)
      ResourceRule rs cells true) (sym are) reads in (
        record t { resource = t.resource ++ x ∷ [] },
        passes,
        same,
        row_read cells _ _ raw.resource read e,
        has,
        after,
      ),
)
resource_row base old new cells false reads = grind (arith, common_steps, resource_fault)

pub outside_row : (old new : OutsideLoad) (cells : List Cell) (good : Bool)
    → ((base : List ℕ) (rs : List Resource) (rows : List (ℕ × List ℕ)) → length rs < 2 ^ 32
    → HasOutside base rs old.vocab old.last rows → ReadResult (map outside_cells)
    (HasOutside base rs new.vocab new.last) (OutsideRule base rs) rows cells good)
    → ReadsRow (stage.Outside old) (stage.Outside new) cells good
outside_row old new cells true reads = (
  refl,
  λ raw (t, passes, read, has, after). outside_taken raw t cells new passes read
      (reads t.base t.resource t.outside passes.1.1.few has) after,
)
outside_row old new cells false reads = λ raw (t, passes, read, has, after). outside_fault raw t cells passes read
    (reads t.base t.resource t.outside passes.1.1.few has)

pub label_row : (old new : Vocabulary) (cells : List Cell) (good : Bool)
    → ((base : List ℕ) (rs : List Resource) (outside : List (ℕ × List ℕ)) (rows : List Label) → length rs < 2 ^ 32
    → HasLabels base rs outside old rows → ReadResult (map label_cells) (HasLabels base rs outside new)
    (LabelRule rs) rows cells good)
    → ReadsRow (stage.Label old) (stage.Label new) cells good
label_row old new cells true reads = (
  refl,
  λ raw (t, passes, read, has, after). label_taken raw t cells new passes read
      (reads t.base t.resource t.outside t.label passes.0.1.1.few has) after,
)
label_row old new cells false reads = λ raw (t, passes, read, has, after). label_fault raw t cells passes read
    (reads t.base t.resource t.outside t.label passes.0.1.1.few has)

-- The resources of the vocabulary are those of the table.
same_resources : (vocab : Vocabulary) (t : Tables) → HasNames vocab t → vocab.resources ≡ t.resource
same_resources vocab t names = ap (λ (v : Vocabulary). v.resources) names

module _ (old new : LinkedVocab) (cells : List Cell) (same : new.vocab ≡ old.vocab) where
  abbrev pub ReadsLink : Bool → List Link → List Resource → Type 0
  ReadsLink good rows rs = HasLinks rs old.graph rows [] → ReadResult (map link_cells)
      (λ more. HasLinks rs new.graph more []) (LinkRule rs) rows cells good

  pub link_row : (good : Bool) → ((rows : List Link) → ReadsLink good rows old.vocab.resources)
      → ReadsRow (stage.Link old) (stage.Link new) cells good
  link_row true reads = (
    refl,
    λ raw (t, passes, names, read, has, after). link_taken raw t cells new passes (same ∙ names) read
        (subst (ReadsLink true t.link) (same_resources old.vocab t names) (reads t.link) has) after,
  )
  link_row false reads = λ raw (t, passes, names, read, has, after). link_fault raw t cells passes read
      (subst (ReadsLink false t.link) (same_resources old.vocab t names) (reads t.link) has)

  abbrev pub ReadsHier : Bool → List Link → List HierRow → List Resource → Type 0
  ReadsHier good links rows rs = HasLinks rs old.graph links rows → ReadResult (map hier_cells)
      (HasLinks rs new.graph links) (HierRule rs links) rows cells good

  pub hier_row : (good : Bool) → ((links : List Link) (rows : List HierRow) → ReadsHier good links rows
      old.vocab.resources) → ReadsRow (stage.Hier old) (stage.Hier new) cells good
  hier_row true reads = (
    refl,
    λ raw (t, passes, names, read, has, after). hier_taken raw t cells new passes (same ∙ names) read
        (subst (ReadsHier true t.link t.hier) (same_resources old.vocab t names) (reads t.link t.hier) has) after,
  )
  hier_row false reads = λ raw (t, passes, names, read, has, after). hier_fault raw t cells passes read
      (subst (ReadsHier false t.link t.hier) (same_resources old.vocab t names) (reads t.link t.hier) has)

module _ (linked_vocab : LinkedVocab) (rs : List Resource) (is : rs ≡ linked_vocab.vocab.resources)
    (cells : List Cell) where
  abbrev pub HasPostingsOf : PostingLoad → List Resource → List PostingRow → Type 0
  HasPostingsOf load known = HasPostings known load.keys.keys load.firsts.items load.stored_places.items load.tally

  abbrev pub ReadsPosting : PostingLoad → PostingLoad → Bool → List PostingRow → List Resource → Type 0
  ReadsPosting old new good rows known = HasPostingsOf old known rows → ReadResult (map posting_cells)
      (HasPostingsOf new known) (PostingRule known) rows cells good

  pub posting_row : (old new : PostingLoad) (good : Bool) → ((rows : List PostingRow) → ReadsPosting old new good rows
      rs) → ReadsRow (stage.Posting linked_vocab old) (stage.Posting linked_vocab new) cells good
  posting_row old new true reads = (
    refl,
    λ raw (t, passes, names, links, read, has, after). posting_taken raw t cells linked_vocab new passes names links
        read (subst (ReadsPosting old new true t.posting) (is ∙ same_resources linked_vocab.vocab t names)
        (reads t.posting) has) after,
  )
  posting_row old new false reads = λ raw (t, passes, names, links, read, has, after). posting_fault raw t cells passes
      read (subst (ReadsPosting old new false t.posting) (is ∙ same_resources linked_vocab.vocab t names)
      (reads t.posting) has)

  abbrev pub ReadsMove : MoveLoad → MoveLoad → Bool → List PostingRow → List MoveRow → List Resource → Type 0
  ReadsMove old new good postings rows known = PostingRule known postings → HasMoves known postings old.taken
      old.places.items rows → ReadResult (map move_cells) (HasMoves known postings new.taken new.places.items)
      (MoveRule known postings) rows cells good

  -- The stage is right (HasRead) after a row of table move, whether or not the row was added.
  pub move_row : (placed : PlacedPostings) (old new : MoveLoad) (good : Bool)
      → ((postings : List PostingRow) (rows : List MoveRow) → ReadsMove old new good postings rows rs)
      → ReadsRow (stage.Move linked_vocab placed old) (stage.Move linked_vocab placed new) cells good
  move_row placed old new true reads = (
    refl,
    λ raw (t, passes, names, links, are, read, has).
        let (x, e, next) = subst (ReadsMove old new true t.posting t.move)
        (is ∙ same_resources linked_vocab.vocab t names) (reads t.posting t.move) passes.1.1 has in (
          record t { move = t.move ++ x ∷ [] },
          passes,
          names,
          links,
          are,
          row_read cells _ _ raw.move read e,
          next,
        ),
  )
  move_row placed old new false reads = λ raw (t, passes, names, links, are, read, has). move_fault raw t cells passes
      read (subst (ReadsMove old new false t.posting t.move) (is ∙ same_resources linked_vocab.vocab t names)
      (reads t.posting t.move) passes.1.1 has)

less_grown : (cells : List Cell) (rows queried : RawTable) → Grows (with_row cells rows) queried → Grows rows queried
less_grown cells rows queried grows = grind (arith, common_steps, append_assoc)

without_row : (at : Table) (cells : List Cell) (raw more : Raw) → ExtendsTable at (raw_with_row at cells raw) more
    → ExtendsTable at raw more
without_row at cells raw more grows = grind (arith, common_steps, less_grown)

pub stopped_row : (fault : Fault) (at : Table) (cells : List Cell) → ReadsRow (stage.Stopped fault at)
    (stage.Stopped fault at) cells true
stopped_row fault at cells = (refl, λ raw stays more extends. stays more (without_row at cells raw more extends))
