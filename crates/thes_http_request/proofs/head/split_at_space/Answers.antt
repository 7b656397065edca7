use Rattle.std.proofs.lemmas.Grind.{common_steps}
use Rattle.std.proofs.Common.{arith}
use Rattle.std.proofs.lemmas.List.Sums.{position_or_len_is}
use Rattle.std.proofs.lemmas.List.Folds.{list_any_none}
use Rattle.std.proofs.lemmas.List.{take_rest}
use Rattle.thes_http_request.proofs.head.split_at_space.Goals as goal

pub returns-in_err-at : goal.returns-in_err-at
returns-in_err-at c = grind (arith, common_steps, list_any_none)

pub returns : goal.returns
returns c = grind (arith, common_steps, position_or_len_is, take_rest)
