-- The next state of an accepted request is reached by a step of the machine, and is legal.
use Rattle.std.proofs.Common.{refl, inr}
use Rattle.thes_base.specs.declared.request.Command.{Command}
use Rattle.thes_base.specs.State.{State}
use Rattle.thes_base.specs.Refusals.{Setting, IsSetting}
use Rattle.thes_base.specs.Legal.{IsLegalState}
use Rattle.thes_base.specs.Texts.{CommandHasForms}
use Rattle.thes_base.specs.Machine.{Step, next_state, answer_of}
use Rattle.thes_base.proofs.SoundStateLemmas.{IsSound, sound_of_legal}
use Rattle.thes_base.proofs.MachineLemmas.{step_sound, step_legal}
use Rattle.thes_core.specs.CoreDecisions.{IsAccepted}

-- An accepted request is a step of the machine.
pub step_of_accepted : (setting : Setting) (s : State) (command : Command) → IsAccepted setting s command
    → Step setting s command (answer_of command s) (next_state command s)
step_of_accepted setting s command ok = inr (ok.fresh, inr (ok.row, refl, refl))

pub next_sound : (setting : Setting) → IsSetting setting → (s : State) (command : Command) → IsLegalState setting.base s
    → IsAccepted setting s command → IsSound setting.base (next_state command s)
next_sound setting fit s command legal ok =
    step_sound setting fit s (next_state command s) command (answer_of command s)
    (sound_of_legal setting.base s legal) (step_of_accepted setting s command ok)

pub next_legal : (setting : Setting) → IsSetting setting → (s : State) (command : Command) → CommandHasForms command
    → IsLegalState setting.base s → IsAccepted setting s command → IsLegalState setting.base (next_state command s)
next_legal setting fit s command forms legal ok =
    step_legal setting fit s (next_state command s) command (answer_of command s) forms legal
    (step_of_accepted setting s command ok)
