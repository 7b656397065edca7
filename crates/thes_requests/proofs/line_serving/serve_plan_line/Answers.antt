use Rattle.std.proofs.Common.{◌≡◌, sym, subst, true, List, ℕ, Option, Result, Ok, Err, inr}
use Rattle.serde_json.specs.Data.{Data}
use Rattle.thes_base.specs.declared.fault.Fault.{Fault}
use Rattle.thes_requests.specs.RequestBehaviour.{RequestBehaviour}
use Rattle.thes_requests.specs.Requests.{json_in}
use Rattle.thes_requests.specs.Serving.{Serves, ServesPlan, is_plan_line, plan_answer}
use Rattle.thes_requests.specs.declared.plan_reply.PlanReply.{PlanReply}
use Rattle.thes_requests.proofs.line_serving.serve_plan_line.Goals as goal

-- Performing the plan in a line, and answering with the reply to the plan, serves the line.
plan_served : {S : Type 0} (d : RequestBehaviour S) (line : List ℕ) (old new : S) (result : Result PlanReply Fault)
    → is_plan_line (d.takes_plans old) line ≡ true → ServesPlan d old (json_in line) result new
    → Serves d old line (plan_answer result) new
plan_served d line old new (Ok r) is h = (is, h)
plan_served d line old new (Err f) is h = inr (inr (inr (is, h)))

pub returns : goal.returns
returns g c = λ line same is.
    rw c.for_plan.ensures (plan_served g.D.RequestHandler.requests line _ _ _ is
    (subst (λ (value : Option Data). ServesPlan g.D.RequestHandler.requests c.args.handler.now value
    c.serve_plan_value.result c.serve_plan_value.new.handler) (sym same) c.serve_plan_value.ensures))
