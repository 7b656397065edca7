use Rattle.std.proofs.Common.{◌+◌, ◌++◌, ◌∷◌, [], ap, sym, subst, ◌∙◌, arith, length, ℕ, map}
use Rattle.thes_base.specs.Changes.{state_after_merge}
use Rattle.thes_base.specs.Machine.{owned_label}
use Rattle.thes_tables.specs.declared.change.Change.TheVariants as change
use Rattle.thes_tables.specs.Changes.{add_link, drop_link}
use Rattle.thes_tables.specs.ChangeLaw.{AreChangesBetween}
use Rattle.thes_core.specs.Deltas.{move_rows}
use Rattle.thes_core.specs.PartsView.{parts_state}
use Rattle.thes_core.proofs.ApplyLemmas.{merge_fits, merge_apart}
use Rattle.thes_core.proofs.MergeDeltaLemmas.{merged_leads, standing_length}
use Rattle.thes_core.proofs.thesaurus.Thesaurus.changes_of_merge.Goals as goal

pub returns : goal.returns
returns c = λ hs meant.
    let t = c.args.self.now in
    let s = parts_state t hs in
    let source = c.args.source in
    let target = c.args.target in
    let fits = merge_fits t hs source target meant.allows in
    let moves = meant.posting_counts.moves in
    let are_facts = c.as_slice-3.ensures.value ∙ meant.are_facts.standing in
    let many = ap length are_facts ∙ standing_length source hs in
    let count = c.moves.ensures in
    let from = c.from-first.ensures in
    let standing = c.items_within_numbers-standing.ensures.whole (omega (arith, fits, moves, many, count, from))
    ∙ are_facts in
    let first = ap (λ (n : ℕ). n + 1) (from ∙ count ∙ moves) in
    let copies = c.in_ok-labels.labels.items in
    let labelled = c.in_ok-push_labels.ensures
    ∙ (λ i. c.in_ok-delta.ensures i ++ map change.AddLabel (map (owned_label target) copies)) in
    let gone = c.in_ok-push_removals.ensures ∙ (λ i. labelled i ++ map drop_link (c.as_slice.ensures.value i)) in
    let come = c.in_ok-push_insertions.ensures ∙ (λ i. gone i ++ map add_link (c.as_slice-2.ensures.value i)) in
    let placed = c.in_ok-push.ensures.ok ∙ (λ i. come i ++ change.MoveAll source target ∷ []) in
    let made = c.in_ok-push_moves.ensures
    ∙ (λ i. placed i ++ map change.AddMove (move_rows (first i) source target (standing i))) in
    subst (λ d. AreChangesBetween t.vocab.base d s (state_after_merge source target s)) (sym made)
    (merged_leads t hs source target meant.allows c.in_ok-gone.gone.items c.in_ok-gone.ensures
    c.in_ok-added.added.items c.in_ok-added.ensures.merge_additions copies c.in_ok-labels.ensures)

pub merge_additions-requires : goal.merge_additions-requires
merge_additions-requires c = merge_apart c.args.self.now [] c.args.source c.args.target c.requires
