-- The answers to queries, as lines of JSON; and views that were written in part.
use Rattle.std.specs.Prelude.{◌≡◌, ℕ, List, Option, Result, Ok, Err}
use Rattle.thes_base.specs.declared.fault.Fault.{Fault}
use Rattle.thes_base.specs.declared.fault.Fault.TheVariants.{OutOfMemory}
use Rattle.thes_base.specs.declared.fault.PipeFault.{PipeFault}
use Rattle.thes_base.specs.declared.fault.PipeFault.TheVariants as pipe
use Rattle.thes_base.specs.declared.pipe.Pipe.{Pipe}
use Rattle.thes_base.specs.Pipe.{IsPartialWrite}
use Rattle.thes_base.specs.State.{State}
use Rattle.thes_requests.specs.declared.handler.QueryAnswer.{QueryAnswer}
use Rattle.thes_requests.specs.declared.handler.QueryAnswer.TheVariants as viewed
use Rattle.thes_requests.specs.declared.request.Query.{Query}
use Rattle.thes_exchange.specs.declared.view.View.{View}
use Rattle.thes_exchange.specs.declared.view.View.TheVariants as views
use Rattle.thes_exchange.specs.ViewOf.{IsView}
use Rattle.thes_exchange.specs.ViewTexts.{view_text}

-- The text is the line for the view, which isn't a refusal.
abbrev pub IsViewLine : View → List ℕ → Type 0
IsViewLine (views.No r) text = ⊥
IsViewLine view text = text ≡ view_text view

-- The answer to a query in a state: the line of the view, or the refusal; or else the fault OutOfMemory.
abbrev pub IsQueryAnswer : State → Query → Result QueryAnswer Fault → Type 0
IsQueryAnswer s query (Ok (viewed.Page text)) =
    (view : View) × IsView s query view × IsViewLine view text
IsQueryAnswer s query (Ok (viewed.No r)) = IsView s query (views.No r)
IsQueryAnswer s query (Err fault) = fault ≡ OutOfMemory

-- Only a prefix of the line of a view, `text`, was written, or nothing if memory ran out.
abbrev pub IsViewStopped : {W : Type 0} → (W → Option (List ℕ)) → List ℕ → Pipe W → Pipe W → PipeFault → Type 0
IsViewStopped contents text old new (pipe.Fault OutOfMemory) = new ≡ old
IsViewStopped contents text old new (pipe.Fault _) = ⊥
IsViewStopped contents text old new fault = IsPartialWrite contents text old new fault
