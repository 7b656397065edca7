-- The result of a load is the verdict on its rows.
use Rattle.std.proofs.Common.{◌≡◌, ◌↔◌, List, map, sym, ◌∙◌, subst, Bool, true, false, true≢false}
use Rattle.std.specs.Prelude.{Ok, Err, IsTrue}
use Rattle.std.proofs.lemmas.Option.{same_Some}
use Rattle.thes_base.specs.declared.data.Resource.{Resource}
use Rattle.thes_base.specs.declared.fault.Fault.{Fault}
use Rattle.thes_base.specs.declared.fault.Fault.TheVariants.{BadStore}
use Rattle.thes_base.specs.declared.fault.Table.{Table}
use Rattle.thes_base.specs.declared.fault.Table.TheVariants as table
use Rattle.thes_tables.specs.declared.rows.PostingRow.{PostingRow}
use Rattle.thes_tables.specs.declared.rows.MoveRow.{MoveRow}
use Rattle.thes_tables.specs.Cells.{Raw, move_cells}
use Rattle.thes_tables.proofs.CellLemmas.{map_one, move_one}
use Rattle.thes_post.specs.PostingCounts.{PostingCounts, ArePostingCounts}
use Rattle.thes_load_rules.specs.Rules.{MoveRule, history_of}
use Rattle.thes_load_rules.proofs.VerdictByTableLemmas.{verdict_by_table}
use Rattle.thes_load_rows.specs.declared.stage.Stage.TheVariants as stage
use Rattle.thes_load_rows.specs.declared.links.LinkedVocab.{LinkedVocab}
use Rattle.thes_load_rows.specs.declared.postings.PlacedPostings.{PlacedPostings}
use Rattle.thes_load_rows.specs.declared.moves.MoveLoad.{MoveLoad}
use Rattle.thes_load_rows.specs.RowsSoFar.{HasMoves}
use Rattle.thes_load_rows.specs.Progress.{HasRead}
use Rattle.thes_load_rows.specs.LoadResults.{LoadResult}
use Rattle.thes_load_rows.proofs.PostingCountLemmas.{sums_of_histories}
use Rattle.thes_load_rows.proofs.TableOrderLemmas.{same_extends}

module _ (linked_vocab : LinkedVocab) (placed : PlacedPostings) (load : MoveLoad) (good : Bool)
    (close : (rs : List Resource) (postings : List PostingRow) (rows : List MoveRow) → HasMoves rs postings load.taken
    load.places.items rows → placed.stored_places.items ≡ map (λ (p : PostingRow). p.place) postings → IsTrue good
    ↔ MoveRule rs postings rows) (raw : Raw) where
  pub move_good : good ≡ true → (book : PostingCounts) → book ≡ record placed.tally { moves = load.taken }
      → HasRead (stage.Move linked_vocab placed load) raw
      → LoadResult raw (Ok (record { linked_vocab = linked_vocab; book = book }))
  move_good met book is (t, passes, names, links, are, read, has) =
      let rule = (close t.resource t.posting t.move has are.0).0 met in (
        t,
        (verdict_by_table raw t).all (passes, (read, rule)),
        names,
        links,
        subst (ArePostingCounts (map (history_of t.move) t.posting)) (sym is)
            (sums_of_histories t.resource t.posting t.move passes.1.1 rule placed.tally load.taken are.1 has.count),
      )

  pub move_bad : good ≡ false → HasRead (stage.Move linked_vocab placed load) raw
      → LoadResult raw (Err (BadStore table.Move))
  move_bad unmet (t, passes, names, links, are, read, has) =
      (verdict_by_table raw t).move passes (λ rows (is, rule).
      true≢false
      (sym ((close t.resource t.posting t.move has are.0).1
      (subst (MoveRule t.resource t.posting)
      (map_one move_cells move_one rows t.move (same_Some _ _ (sym is ∙ read))) rule)) ∙ unmet))

pub stopped_end : (fault : Fault) (at : Table) (raw : Raw) → HasRead (stage.Stopped fault at) raw
    → LoadResult raw (Err fault)
stopped_end fault at raw stays = stays raw (same_extends at raw)
