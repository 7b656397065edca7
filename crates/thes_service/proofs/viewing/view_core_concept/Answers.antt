use Rattle.thes_requests.specs.declared.request.Query.TheVariants as asked
use Rattle.thes_service.proofs.viewing.view_core_concept.Goals as goal

pub returns : goal.returns
returns c s holds = c.query_answer.ensures s (asked.Concept c.args.number) (c.in_ok-view.ensures s holds)
