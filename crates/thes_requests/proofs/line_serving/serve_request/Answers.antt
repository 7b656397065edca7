use Rattle.std.proofs.Common.{◌≡◌, ap, List, ℕ, Result, Ok, Err, Some, inl, inr, false}
use Rattle.serde_json.specs.Data.{Data}
use Rattle.thes_base.specs.declared.fault.Fault.{Fault}
use Rattle.thes_base.specs.declared.fault.FormFault.{FormFault}
use Rattle.thes_base.specs.declared.request.Answer.{Answer}
use Rattle.thes_base.specs.declared.request.Command.{Command}
use Rattle.thes_requests.specs.Readings.{ReadsAs}
use Rattle.thes_requests.specs.RequestBehaviour.{RequestBehaviour}
use Rattle.thes_requests.specs.Requests.{json_in, request_in, request_of}
use Rattle.thes_requests.specs.Serving.{IsCommandLine, Serves, command_answer, is_plan_line}
use Rattle.thes_requests.specs.declared.request.Request.{Request}
use Rattle.thes_requests.specs.declared.request.Request.TheVariants.{Do}
use Rattle.thes_requests.proofs.line_serving.serve_request.Goals as goal

-- Performing the command in a line, and answering with its answer or fault, serves the line.
command_served : {S : Type 0} (d : RequestBehaviour S) (line : List ℕ) (old new : S) (command : Command)
    (given : Result Answer Fault) → is_plan_line (d.takes_plans old) line ≡ false → IsCommandLine line command
    → d.performs old command given new → Serves d old line (command_answer given) new
command_served d line old new command (Ok a) other is did = (other, inl (command, is, did))
command_served d line old new command (Err f) other is did = inr (inl (command, is, did))

-- Reading a line as a request has the outcome of reading its JSON value.
line_read : (line : List ℕ) (d : Data) (x : Result Request FormFault) → json_in line ≡ Some d
    → ReadsAs (request_in d) x → ReadsAs (request_of line) x
line_read line d x e h = rw e h

pub returns-in-Ok-Do : goal.returns-in-Ok-Do
returns-in-Ok-Do g c = λ line same other.
    rw c.for_command.ensures (command_served g.D.RequestHandler.requests line c.args.handler.now c.perform.new.self
    c.in-Ok-Do.command c.perform.result other (line_read line _ _ same
    (c.in-Ok-Do.ensures.value (Do c.in-Ok-Do.command) (ap Ok c.in-Ok-Do.field-0-is))) c.perform.ensures)
