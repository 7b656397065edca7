use Rattle.std.proofs.Common.{◌≡◌, ◌∙◌, ◌+◌, ◌++◌, ◌∷◌, [], length, length-append, sym, ap, subst, arith}
use Rattle.std.specs.Prelude.{Option}
use Rattle.thes_tables.specs.declared.rows.PostingRow.{PostingRow}
use Rattle.thes_tables.specs.Tables.{Tables}
use Rattle.thes_tables.proofs.CellLemmas.{listed_one}
use Rattle.thes_store.specs.Reading.{IsPostingOfKey}
use Rattle.test_keeper.proofs.workload.post.Goals as goal

pub commit_one-requires : goal.commit_one-requires
commit_one-requires g c = λ up t same.
    let held = c.requires (c.find.ensures.asks.was up) in
    let before = sym (c.find.ensures.asks.same up) ∙ same in
    let is = listed_one held.tables t (sym held.raw_is_listed ∙ before) in
    let found = c.in_ok-find.ensures.ok up t before in (
      held.next_is ∙ ap (λ (u : Tables). length u.posting + 1) is,
      subst (λ (o : Option PostingRow). IsPostingOfKey c.args.row.key t.posting o) c.in-None.is found,
    )

pub returns-in_ok-commit_one-in-None : goal.returns-in_ok-commit_one-in-None
returns-in_ok-commit_one-in-None g c = λ yes up.
    let mid = c.commit_one.ensures.keeps.was up in
    let held = c.requires (c.find.ensures.asks.was mid) in
    let t = held.tables in
    let row : PostingRow = c.args.row in
    let next = held.next_is in
    let len : length (t.posting ++ row ∷ []) ≡ length t.posting + 1 = length-append t.posting (row ∷ []) in
    record {
      tables = record t { posting = t.posting ++ row ∷ [] };
      raw_is_listed = c.in_ok-commit_one-in-None.ensures.ok up t (c.find.ensures.asks.same mid ∙ held.raw_is_listed);
      next_is = omega (arith, next, len);
      has_no_moves = held.has_no_moves;
    }
