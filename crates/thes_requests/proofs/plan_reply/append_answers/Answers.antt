use Rattle.std.proofs.Common.{rules, arith}
use Rattle.thes_requests.proofs.PlanTextLemmas.{items_next}
use Rattle.thes_requests.proofs.plan_reply.append_answers.Goals as goal

-- One more answer is appended, after its comma.
pub loop-index-preserved : goal.loop-index-preserved
loop-index-preserved c =
    let before = c.loop-index.invariant in
    let comma = c.append_separator.ensures.len in
    let item = c.append_answer.ensures.len in
    let text = c.append_answer.ensures.items in
    let len = before.len in record {
      items = items_next c.args.answers.now c.loop-index.index _ c.args.line.now.items c.loop-index.line.items
          c.append_separator.new.line.items c.append_answer.new.line.items c.loop-index-test.true before.items
          c.append_separator.ensures.items text;
      len = omega (arith, comma, item, len);
      capacity = search rules;
    }
