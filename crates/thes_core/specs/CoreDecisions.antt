-- The decisions of a core on requests, and the results of its steps.
use Rattle.std.specs.Prelude.{◌≡◌, ◌⊎◌, List, [], None, Result, Ok, Err, true, false}
use Rattle.thes_base.specs.declared.fault.Fault.{Fault}
use Rattle.thes_base.specs.declared.fault.Fault.TheVariants.{OutOfMemory}
use Rattle.thes_base.specs.declared.request.Command.{Command}
use Rattle.thes_base.specs.declared.request.Command.TheVariants as request
use Rattle.thes_base.specs.declared.request.Answer.{Answer}
use Rattle.thes_base.specs.Legal.{IsLegalState}
use Rattle.thes_base.specs.State.{State}
use Rattle.thes_base.specs.Refusals.{Setting}
use Rattle.thes_base.specs.Machine.{HasNewKey, Step, next_state, answer_of, refusal_rule_of}
use Rattle.thes_tables.specs.declared.change.Change.{Change}
use Rattle.thes_tables.specs.ChangeLaw.{AreChangesBetween}
use Rattle.thes_core.specs.declared.facts.Facts.{Facts}
use Rattle.thes_core.specs.declared.verdict.Verdict.{Verdict}
use Rattle.thes_core.specs.declared.verdict.Verdict.TheVariants.{Settled, Accepted}
use Rattle.thes_core.specs.CoreView.{CoreView, IsViewOf, with_histories, without_postings}
use Rattle.thes_core.specs.Facts.{AreFacts}

-- The request passes all checks in this state, and its key, if it has one, is new.
pub record IsAccepted (setting : Setting) (s : State) (command : Command) : Type 0 where
  pub fresh : HasNewKey command s
  pub row : refusal_rule_of setting s (next_state command s) command None

-- The request is accepted, the answer is the machine's, and the changes of rows lead to the machine's next state.
pub record AcceptedVerdict (setting : Setting) (s : State) (command : Command) (answer : Answer)
    (changes : List Change) : Type 0 where
  pub accepts : IsAccepted setting s command
  pub answer_is : answer ≡ answer_of command s
  pub leads : AreChangesBetween setting.base changes s (next_state command s)

-- The verdict is right: a settled answer is that of a machine's step that leaves the state unchanged; an accepted
-- verdict has the machine's answer, and changes of rows that lead to its next state.
abbrev pub IsVerdict : Setting → State → Command → Verdict → Type 0
IsVerdict setting s command (Settled answer) = Step setting s command answer s
IsVerdict setting s command (Accepted answer changes) = AcceptedVerdict setting s command answer changes

-- The result of a decision: OutOfMemory, or a verdict that is right in each state of which the core is a view, if the
-- facts are those of that state's histories: a settled answer is that of a machine's step that leaves the state
-- unchanged; an accepted verdict has the machine's answer, and changes of rows that lead to its next state.
abbrev pub DecideResult : CoreView → Command → Facts → Result Verdict Fault → Type 0
DecideResult core command facts (Ok verdict) =
    (s : State) → IsViewOf core s → AreFacts command s.histories facts → IsVerdict core.setting s command verdict
DecideResult core command facts (Err fault) = fault ≡ OutOfMemory

-- The request passes its checks, except those of the postings that it names: a Split is checked with an empty list of
-- postings, a Post or a Withdraw not at all, any other request in full.
abbrev pub IsAcceptedWithoutPostings : Setting → State → Command → Type 0
IsAcceptedWithoutPostings setting s (request.Split source tag text postings) =
    IsAccepted setting s (request.Split source tag text [])
IsAcceptedWithoutPostings setting s (request.Post key rec concept) = Unit {0}
IsAcceptedWithoutPostings setting s (request.Withdraw posting) = Unit {0}
IsAcceptedWithoutPostings setting s command = IsAccepted setting s command

-- In the core's state without its postings, the request passes the checks that `IsAcceptedWithoutPostings` has for it.
abbrev pub MayApply : CoreView → Command → Type 0
MayApply core command = IsAcceptedWithoutPostings core.setting (with_histories [] core) command

-- The request may be applied in the state `s`, which has no postings, and leads to the state `t`, apart from postings.
pub record IsAppliedWithoutPostings (setting : Setting) (s : State) (command : Command) (t : State) : Type 0 where
  pub bare : s.histories ≡ []
  pub legal : IsLegalState setting.base s
  pub may : IsAcceptedWithoutPostings setting s command
  pub after : t ≡ without_postings (next_state command s)

-- If the verdict accepts the request, the request may be applied to the core.
abbrev pub VerdictMayApply : CoreView → Command → Verdict → Type 0
VerdictMayApply core command (Settled answer) = Unit {0}
VerdictMayApply core command (Accepted answer changes) = MayApply core command

-- The core after a request is applied: usable, with the same base and limits; or, after OutOfMemory, unusable.
abbrev pub ApplyFrame : {A : Type 0} → CoreView → Result A Fault → CoreView → Type 0
ApplyFrame old (Ok applied) new = (new.spent ≡ false) × (new.setting ≡ old.setting)
ApplyFrame old (Err fault) new = (fault ≡ OutOfMemory) × (new.spent ≡ true)

-- The result of a step: the machine's answer, and a core that is a view of the machine's next state; or OutOfMemory,
-- and an unchanged or unusable core.
abbrev pub CoreStepResult : CoreView → State → Command → Result Answer Fault → CoreView → Type 0
CoreStepResult old s command (Ok answer) new =
    (t : State) × Step old.setting s command answer t × IsViewOf new t
    × (new.spent ≡ false) × (new.setting ≡ old.setting)
CoreStepResult old s command (Err fault) new = (fault ≡ OutOfMemory) × ((new ≡ old) ⊎ (new.spent ≡ true))
