use Rattle.std.proofs.Common.{ℕ, List, ◌≡◌, ◌++◌, ◌+◌, ◌∷◌, [], ◌∙◌, ap, sym, arith, rules, take, map}
use Rattle.std.proofs.lemmas.List.{take_more, take_all}
use Rattle.thes_core.specs.Facts.{posting_row_at}
use Rattle.thes_office.proofs.FactLemmas.{rows_read_more}
use Rattle.thes_office.proofs.facts.postings_of_numbers.Goals as goal

pub loop-posting-preserved : goal.loop-posting-preserved
loop-posting-preserved g c =
    let ps : List ℕ = c.args.postings.now in
    let n : ℕ = c.posting-item.result in
    let more = take_more ps c.loop-posting.posting-index n (omega arith)
    ∙ ap (λ (x : ℕ). take c.loop-posting.posting-index ps ++ x ∷ []) (sym c.posting-item.is) in
    let pushed : c.push.new.self.items ≡ c.loop-posting.rows.items ++ c.in-Ok.row ∷ [] = search rules in
    rows_read_more (g.K.Keeper.view c.args.keeper.now) (g.K.Keeper.view c.loop-posting.keeper)
    (g.K.Keeper.view c.posting_of_number.new.keeper) (take c.loop-posting.posting-index ps)
    (take (c.loop-posting.posting-index + 1) ps) c.loop-posting.rows.items c.push.new.self.items n c.in-Ok.row
    c.loop-posting.invariant c.in-Ok.ensures.asks c.in-Ok.ensures.in_tables more pushed

pub returns-clause-in_tables : goal.returns-clause-in_tables
returns-clause-in_tables g c = λ up base s x.
    c.loop-posting.invariant.rows_are_read up base s x ∙ ap (map (posting_row_at s.histories))
    (take_all {A = ℕ} c.loop-posting.posting-index c.args.postings.now (omega arith))
