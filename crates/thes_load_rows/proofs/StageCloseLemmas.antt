-- Each stage is right (HasRead) after the end of a table, whether or not the table meets its rule.
use Rattle.std.proofs.lemmas.Grind.{common_steps}
use Rattle.std.proofs.Common.{◌≡◌, ℕ, List, [], ◌∷◌, refl, sym, ap, ◌∙◌, subst, inr, arith}
use Rattle.std.specs.Prelude.{None, Some}
use Rattle.std.proofs.lemmas.List.{append-nil}
use Rattle.std.proofs.lemmas.Option.{same_Some}
use Rattle.thes_base.specs.declared.data.Resource.{Resource}
use Rattle.thes_base.specs.declared.fault.Fault.{Fault}
use Rattle.thes_base.specs.declared.fault.Fault.TheVariants.{BadStore}
use Rattle.thes_base.specs.declared.fault.Table.{Table}
use Rattle.thes_base.specs.declared.fault.Table.TheVariants as table
use Rattle.thes_base.specs.Labels.{EachHasPreferred}
use Rattle.thes_tables.specs.declared.cells.Cell.{Cell}
use Rattle.thes_tables.specs.declared.rows.PostingRow.{PostingRow}
use Rattle.thes_tables.specs.Tables.{Tables, empty_tables}
use Rattle.thes_tables.specs.Cells.{Raw, RawTable, outside_cells, label_cells, hier_cells}
use Rattle.thes_tables.proofs.CellLemmas.{map_one, resources_one, outside_one, label_one, hier_one}
use Rattle.thes_vocab.specs.Vocabulary.{Vocabulary}
use Rattle.thes_vocab.specs.Loading.{AreLabelsSoFar, HaveIris}
use Rattle.thes_load_rules.specs.Rules.{ResourceRule, OutsideRule, LabelRule, HierRule}
use Rattle.thes_load_rules.proofs.VerdictByTableLemmas.{verdict_by_table}
use Rattle.thes_load_rows.specs.declared.stage.Stage.TheVariants as stage
use Rattle.thes_load_rows.specs.declared.meta.MetaRow.TheVariants.{Base}
use Rattle.thes_load_rows.specs.declared.resources.ResourceLoad.{ResourceLoad}
use Rattle.thes_load_rows.specs.declared.names.OutsideLoad.{OutsideLoad}
use Rattle.thes_load_rows.specs.declared.links.LinkedVocab.{LinkedVocab}
use Rattle.thes_load_rows.specs.declared.postings.PlacedPostings.{PlacedPostings}
use Rattle.thes_load_rows.specs.declared.postings.PostingLoad.{PostingLoad}
use Rattle.thes_load_rows.specs.declared.moves.MoveLoad.{MoveLoad}
use Rattle.thes_load_rows.specs.NamesSoFar.{HasOutside, vocabulary_of_rows}
use Rattle.thes_load_rows.specs.LinksSoFar.{HasLinks}
use Rattle.thes_load_rows.specs.RowsSoFar.{HasPostings, HasMoves}
use Rattle.thes_load_rows.specs.PostingPlaces.{ArePlaced}
use Rattle.thes_tables.specs.TableOrder.{next_table}
use Rattle.thes_load_rows.specs.Progress.{Grows, ExtendsTable, Closes}
use Rattle.thes_load_rows.proofs.ProgressLemmas.{meta_stays, resource_stays, outside_stays, link_stays}

pub meta_base : (base : List ℕ) (load : ResourceLoad) → load.resources.items ≡ []
    → Closes (stage.Meta (Some (Base base))) (stage.Resource base load)
meta_base base load none = (
  refl,
  λ raw ((cells, is, (form, spelled)), after). (
    empty_tables base,
    (is ∙ ap (λ (c : List Cell). Some (c ∷ [])) spelled, form),
    refl,
    after.0,
    sym none,
    after.1,
  ),
)

pub resource_bad : (base : List ℕ) (load : ResourceLoad) → (ResourceRule load.resources.items → ⊥)
    → Closes (stage.Resource base load) (stage.Stopped (BadStore table.Resource) table.Outside)
resource_bad base load broken = grind (arith, common_steps, meta_stays, resources_one, same_Some, verdict_by_table)

-- If table resource meets its rule, table outside begins without rows.
pub resource_good : (base : List ℕ) (load : ResourceLoad) (new : OutsideLoad) → ResourceRule load.resources.items
    → HasOutside base load.resources.items new.vocab new.last [] → Closes (stage.Resource base load)
    (stage.Outside new)
resource_good base load new rule has = (
  refl,
  λ raw (t, passes, same, read, are, after). (
    record t { outside = [] },
    (passes, (read, subst ResourceRule (sym are) rule)),
    after.0,
    subst (λ (b : List ℕ). HasOutside b t.resource new.vocab new.last []) same
        (subst (λ (rs : List Resource). HasOutside base rs new.vocab new.last []) (sym are) has),
    after.1,
  ),
)

pub outside_bad : (load : OutsideLoad) → ((base : List ℕ) (rs : List Resource) (rows : List (ℕ × List ℕ))
    → HasOutside base rs load.vocab load.last rows → OutsideRule base rs rows → ⊥) → Closes (stage.Outside load)
    (stage.Stopped (BadStore table.Outside) table.Label)
outside_bad load broken = (
  refl,
  λ raw (t, passes, read, has, after) more (e0, e1, e2, grows).
      (verdict_by_table more t).outside (resource_stays raw more t e0 e1 passes)
      (λ rows (is, rule). broken t.base t.resource t.outside has
      (subst (OutsideRule t.base t.resource) (map_one outside_cells outside_one rows t.outside
      (same_Some _ _ (sym is ∙ e2 ∙ read))) rule)),
)

-- If table outside meets its rule, table label begins without rows.
pub outside_good : (load : OutsideLoad) → ((base : List ℕ) (rs : List Resource) (rows : List (ℕ × List ℕ))
    → HasOutside base rs load.vocab load.last rows → OutsideRule base rs rows) → Closes (stage.Outside load)
    (stage.Label load.vocab)
outside_good load rule = (
  refl,
  λ raw (t, passes, read, has, after). (
    record t { label = [] },
    (passes, (read, rule t.base t.resource t.outside has)),
    after.0,
    record { once = tt; forms = λ l h. absurd h; are = has.are },
    after.1,
  ),
)

pub label_bad : (vocab : Vocabulary) → (EachHasPreferred vocab.resources vocab.labels → ⊥)
    → Closes (stage.Label vocab) (stage.Stopped (BadStore table.Label) table.Link)
label_bad vocab broken = (
  refl,
  λ raw (t, passes, read, has, after) more (e0, e1, e2, e3, grows).
      (verdict_by_table more t).label (outside_stays raw more t e0 e1 e2 passes)
      (λ rows (is, rule).
      let same = map_one label_cells label_one rows t.label (same_Some _ _ (sym is ∙ e3 ∙ read)) in
      broken (subst (λ (v : Vocabulary). EachHasPreferred v.resources v.labels) (sym has.are)
      (subst (LabelRule t.resource) same rule).legal.named)),
)

-- After the end of table outside each outside concept has an IRI, so table label is never faulty because an IRI is
-- missing.
pub label_without : (vocab : Vocabulary) → (HaveIris vocab → ⊥) → Closes (stage.Label vocab)
    (stage.Stopped (BadStore table.Label) table.Link)
label_without vocab broken = (
  refl,
  λ raw (t, passes, read, has, after) more extends.
      absurd (broken (subst HaveIris (sym has.are) passes.1.1.legal.each)),
)

-- If table label meets its rule, table link begins without rows.
pub label_good : (old : Vocabulary) (new : LinkedVocab) → AreLabelsSoFar old.resources old.labels
    → EachHasPreferred old.resources old.labels → new.vocab ≡ old → HasLinks new.vocab.resources new.graph [] []
    → Closes (stage.Label old) (stage.Link new)
label_good old new so_far named same links = (
  refl,
  λ raw (t, passes, read, has, after).
      let so = subst (λ (v : Vocabulary). AreLabelsSoFar v.resources v.labels) has.are so_far in
      let rule : LabelRule t.resource t.label = record {
        once = has.once;
        forms = has.forms;
        legal = record {
          owners = so.owners;
          disjoint = so.disjoint;
          one_preferred = so.one_preferred;
          unique = so.unique;
          named = subst (λ (v : Vocabulary). EachHasPreferred v.resources v.labels) has.are named;
        };
      } in
      let names : new.vocab ≡ vocabulary_of_rows t.base t.resource t.outside t.label = same ∙ has.are in (
        record t { link = [] },
        (passes, (read, rule)),
        names,
        after.0,
        subst (λ (rs : List Resource). HasLinks rs new.graph [] []) (ap (λ (v : Vocabulary). v.resources) names)
            links,
        after.1,
      ),
)

pub link_good : (linked_vocab : LinkedVocab) → Closes (stage.Link linked_vocab) (stage.Hier linked_vocab)
link_good linked_vocab = (
  refl,
  λ raw (t, passes, names, read, has, after).
      (record t { hier = [] }, (passes, (read, has.rule)), names, after.0, has, after.1),
)

pub hier_bad : (linked_vocab : LinkedVocab)
    → ((t : Tables) → HasLinks t.resource linked_vocab.graph t.link t.hier → HierRule t.resource t.link t.hier
    → ⊥) → Closes (stage.Hier linked_vocab) (stage.Stopped (BadStore table.Hier) table.Posting)
hier_bad linked_vocab broken = (
  refl,
  λ raw (t, passes, names, read, has, after) more (e0, e1, e2, e3, e4, e5, grows).
      (verdict_by_table more t).hier (link_stays raw more t e0 e1 e2 e3 e4 passes)
      (λ rows (is, rule). broken t has
      (subst (HierRule t.resource t.link)
      (map_one hier_cells hier_one rows t.hier (same_Some _ _ (sym is ∙ e5 ∙ read))) rule)),
)

pub hier_good : (linked_vocab : LinkedVocab) (new : PostingLoad)
    → ((t : Tables) → HasLinks t.resource linked_vocab.graph t.link t.hier → HierRule t.resource t.link t.hier)
    → ((rs : List Resource) → HasPostings rs new.keys.keys new.firsts.items new.stored_places.items new.tally [])
    → Closes (stage.Hier linked_vocab) (stage.Posting linked_vocab new)
hier_good linked_vocab new rule none = (
  refl,
  λ raw (t, passes, names, read, has, after).
      (record t { posting = [] }, (passes, (read, rule t has)), names, has, after.0, none t.resource, after.1),
)

pub posting_good : (linked_vocab : LinkedVocab) (load : PostingLoad) (moves : MoveLoad) (placed : PlacedPostings)
    → ((rs : List Resource) (rows : List PostingRow) → HasPostings rs load.keys.keys load.firsts.items
    load.stored_places.items load.tally rows
    → HasMoves rs rows moves.taken moves.places.items [] × ArePlaced placed rows)
    → Closes (stage.Posting linked_vocab load) (stage.Move linked_vocab placed moves)
posting_good linked_vocab load moves placed close = (
  refl,
  λ raw (t, passes, names, links, read, has, after).
      let (start, are) = close t.resource t.posting has in
      (record t { move = [] }, (passes, (read, has.rule)), names, links, are, after, start),
)

pub same_grows : (raw queried : RawTable) → queried ≡ raw → Grows raw queried
same_grows None queried e = e
same_grows (Some rows) queried e = inr ([], e ∙ ap (λ (l : List (List Cell)). Some l) (sym (append-nil rows)))

extends_earlier : (at : Table) (raw more : Raw) → ExtendsTable (next_table at) raw more → ExtendsTable at raw more
extends_earlier at raw more extends = grind (arith, common_steps, same_grows)

pub stopped_on : (fault : Fault) (at : Table) → Closes (stage.Stopped fault at) (stage.Stopped fault (next_table at))
stopped_on fault at = (refl, λ raw stays more extends. stays more (extends_earlier at raw more extends))
