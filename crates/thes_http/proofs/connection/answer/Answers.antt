use Rattle.std.proofs.Common.{rules}
use Rattle.thes_base.proofs.PipeLemmas.{pays_then}
use Rattle.thes_http.proofs.ServeLemmas.{answer_bad, answer_memory_more, answer_problem, answer_all, cut_all}
use Rattle.thes_http.proofs.ServeLemmas.{head_outcome_front, front_short, len_within, outcome_of_answer, outcome_taken}
use Rattle.thes_http.proofs.connection.answer.Goals as goal

pub returns-in-Err-Bad : goal.returns-in-Err-Bad
returns-in-Err-Bad g c = outcome_of_answer (rw c.problem.ensures
    (answer_bad _ _ _ _ _ c.read_head.ensures.taken (c.read_head.ensures.bad (search rules)))) c.read_head.ensures.calls

pub returns-in-Err : goal.returns-in-Err
returns-in-Err g c =
    let len = c.in-Ok.ensures.whole.0.within.section.len_fits in
    outcome_of_answer (rw c.problem-in-Err.ensures
    (answer_problem _ _ _ _ _ _ _ c.read_head.ensures.taken (head_outcome_front _ _ _ _ _ c.head_bytes.ensures len
    (outcome_taken c.paths_of-paths.ensures (c.request_of_head.ensures.err _ (search rules))))))
    c.read_head.ensures.calls

pub request_of_head-requires-clause-short : goal.request_of_head-requires-clause-short
request_of_head-requires-clause-short g c = front_short _ _ c.head_bytes.ensures

pub bytes_after-start-requires : goal.bytes_after-start-requires
bytes_after-start-requires g c = len_within _ _ c.in-Ok.ensures.whole.0.within.section.len_fits

pub returns-in-Ok-read_body : goal.returns-in-Ok-read_body
returns-in-Ok-read_body g c =
    outcome_of_answer (answer_all _ _ _ _ _ _ _ _ _ _ _ _ _ _ c.read_head.ensures.taken c.head_bytes.ensures
    c.in-Ok.ensures.whole.0.within.section.len_fits
    (outcome_taken c.paths_of-paths.ensures c.in-Ok-request_of_head.ensures.ok) c.bytes_after-start.ensures
    c.deref.ensures.value c.in-Ok-read_body.ensures.outcome.whole c.act.ensures)
    (pays_then c.read_head.ensures.calls c.read_body.ensures.outcome.calls)

pub returns-in-Err-OutOfMemory : goal.returns-in-Err-OutOfMemory
returns-in-Err-OutOfMemory g c =
    outcome_of_answer (rw c.fault-in-Err-OutOfMemory.ensures
    (answer_memory_more _ _ _ _ _ _ c.read_head.ensures.taken c.read_body.ensures.outcome.taken))
    (pays_then c.read_head.ensures.calls c.read_body.ensures.outcome.calls)

pub returns : goal.returns
returns g c = record {
  answer = tt;
  cut = λ h.
      let cut = c.read_body.ensures.outcome.cut (search rules) in (
        cut_all _ _ _ _ _ _ _ _ _ c.read_head.ensures.taken c.head_bytes.ensures
            c.in-Ok.ensures.whole.0.within.section.len_fits
            (outcome_taken c.paths_of-paths.ensures c.in-Ok-request_of_head.ensures.ok)
            c.bytes_after-start.ensures cut.0,
        cut.1,
      );
  fault = search rules;
  same = search rules;
  calls = pays_then c.read_head.ensures.calls c.read_body.ensures.outcome.calls;
}
