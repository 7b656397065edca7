use Rattle.std.proofs.Common.{[]}
use Rattle.thes_core.proofs.ApplyLemmas.{merge_apart}
use Rattle.thes_core.proofs.MergeUndoLemmas.{added_to_state}
use Rattle.thes_core.proofs.UndoLogLemmas.{moves_lost}
use Rattle.thes_core.proofs.thesaurus.Thesaurus.lost_by_merge.Goals as goal

pub merge_additions-requires : goal.merge_additions-requires
merge_additions-requires c = merge_apart c.args.self.now [] c.args.source c.args.target c.requires

pub returns-clause-parts : goal.returns-clause-parts
returns-clause-parts c =
    let added = c.in_ok-additions.ensures.merge_additions in
    record {
      links = c.in_ok-links.ensures;
      additions = added_to_state c.args.self.now c.args.source c.args.target c.in_ok-additions.additions.items
          c.requires (record { sound = added.sound; complete = added.complete });
      copies = c.in_ok-copies.ensures;
    }

pub returns-clause-moves : goal.returns-clause-moves
returns-clause-moves c = λ s are few. moves_lost c.args.source c.args.target s c.args.facts.now c.as_slice.result.now
    c.count_postings.result are c.as_slice.ensures.value c.count_postings.ensures few
