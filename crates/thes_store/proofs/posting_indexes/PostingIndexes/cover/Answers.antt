use Rattle.std.proofs.Common.{◌∙◌, sym, subst}
use Rattle.thes_tables.specs.declared.change.Change.{Change}
use Rattle.thes_tables.specs.Tables.{Tables, IsIn}
use Rattle.thes_tables.specs.Rows.{ChangeFits}
use Rattle.thes_store.specs.declared.posting_indexes.PostingIndexes.{PostingIndexes}
use Rattle.thes_store.specs.PositionSets.{HasPosition}
use Rattle.thes_store.specs.Covers.{Covers, IndexesGrowBy, IsOtherKey, CoversChange}
use Rattle.thes_store.proofs.posting_indexes.PostingIndexes.cover.Goals as goal

pub returns-in_ok-insert_all-in-MoveAll-clause-reaches : goal.returns-in_ok-insert_all-in-MoveAll-clause-reaches
returns-in_ok-insert_all-in-MoveAll-clause-reaches c =
    let new : PostingIndexes = record c.args.self.now { standing = c.insert_all.new.self } in
    subst (λ (change : Change). (t : Tables) → ChangeFits change t → Covers c.args.self.now t
    → CoversChange new change t c.args.step) (sym c.in-MoveAll.is)
    (λ t fits covers i row at stands.
    let from = subst (λ n. HasPosition c.args.self.now.standing n i) (stands ∙ sym c.get-in-MoveAll.ensures.value)
    (covers.standing i row at) in
    let listed = subst (IsIn i) (sym c.as_slice.ensures.value) (c.in_ok-positions-in-MoveAll.ensures.complete i from) in
    subst (λ n. HasPosition c.insert_all.new.self n i) c.get-in-MoveAll-2.ensures.value
    (c.in_ok-insert_all-in-MoveAll.ensures.ok i listed))

pub returns-in_err-cover_posting-in-AddPosting-clause-grows :
    goal.returns-in_err-cover_posting-in-AddPosting-clause-grows
returns-in_err-cover_posting-in-AddPosting-clause-grows c =
    subst (λ (change : Change). IndexesGrowBy (IsOtherKey change) c.args.self.now c.cover_posting.new.self)
    (sym c.in-AddPosting.is) c.cover_posting.ensures.grows

pub returns-in_ok-cover_posting-in-AddPosting-clause-grows : goal.returns-in_ok-cover_posting-in-AddPosting-clause-grows
returns-in_ok-cover_posting-in-AddPosting-clause-grows c =
    subst (λ (change : Change). IndexesGrowBy (IsOtherKey change) c.args.self.now c.cover_posting.new.self)
    (sym c.in-AddPosting.is) c.cover_posting.ensures.grows
