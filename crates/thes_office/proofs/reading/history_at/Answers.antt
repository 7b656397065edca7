use Rattle.std.proofs.Common.{ap, subst, sym, ◌∙◌}
use Rattle.std.specs.Prelude.{Some}
use Rattle.thes_store.specs.Reading.{PostingWithMoves, IsPostingOfNumber}
use Rattle.thes_office.proofs.PostingListLemmas.{history_of_posting, history_of_none}
use Rattle.thes_office.proofs.reading.history_at.Goals as goal

pub returns-in-Ok-Some-clause-in_tables : goal.returns-in-Ok-Some-clause-in_tables
returns-in-Ok-Some-clause-in_tables g c up base s x =
    history_of_posting (g.K.Keeper.view c.args.keeper.now).rows base s x c.args.number
    (record { row = c.told.inside.row; moves = c.told.inside.moves })
    (subst (IsPostingOfNumber c.args.number x.tables) (c.in-Ok-Some.field-0-is ∙ ap (λ (t : PostingWithMoves). Some t)
    (sym c.told.view_is)) (c.in-Ok-Some.ensures.ok up x.tables x.rows))

pub returns-in-Ok-None-clause-in_tables : goal.returns-in-Ok-None-clause-in_tables
returns-in-Ok-None-clause-in_tables g c up base s x =
    history_of_none (g.K.Keeper.view c.args.keeper.now).rows base s x c.args.number
    (subst (IsPostingOfNumber c.args.number x.tables) c.in-Ok-None.field-0-is
    (c.in-Ok-None.ensures.ok up x.tables x.rows))
