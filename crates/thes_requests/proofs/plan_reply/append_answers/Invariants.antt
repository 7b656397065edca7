use Rattle.std.proofs.Common.{◌≡◌, ◌+◌, ◌*◌, ◌≤◌, ◌++◌, take, vec_len, vec_capacity}
use Rattle.thes_requests.specs.PlanTexts.{items_text}
use Rattle.thes_requests.proofs.plan_reply.append_answers.Given as goal

abbrev pub invariant-loop-index : goal.invariant-loop-index
invariant-loop-index l = record {
  items : l.line.items ≡ l.fn.line.items ++ items_text (take l.index l.answers);
  len : vec_len l.line ≤ vec_len l.fn.line + 72 * l.index;
  capacity : vec_capacity l.line ≡ vec_capacity l.fn.line;
}
