use Rattle.std.proofs.Common.{List, ℕ, [], subst, sym}
use Rattle.thes_load_rows.specs.RowsSoFar.{HasMoves}
use Rattle.thes_load_rows.proofs.MoveLoadLemmas.{moves_none}
use Rattle.thes_load_rows.proofs.postings.PostingLoad.close.Goals as goal

pub returns : goal.returns
returns c = λ rs rows has. (
  subst (λ (l : List ℕ). HasMoves rs rows 0 l []) (sym has.firsts_are)
      (moves_none rs rows has.rule.few has.rule.numbers),
  (has.stored_places_are, has.posting_counts_are),
)
