-- The lines of JSON for answers, refusals and faults, byte for byte.
use Rattle.std.specs.Prelude.{ℕ, List, ◌++◌, codes, decimal}
use Rattle.thes_base.specs.declared.fault.FormFault.{FormFault}
use Rattle.thes_base.specs.declared.fault.Fault.{Fault}
use Rattle.thes_base.specs.declared.fault.Fault.TheVariants as faults
use Rattle.thes_base.specs.declared.fault.Refusal.{Refusal}
use Rattle.thes_base.specs.declared.fault.Refusal.TheVariants.{OutsideKnown}
use Rattle.thes_base.specs.declared.request.Answer.{Answer}
use Rattle.thes_base.specs.declared.request.Answer.TheVariants.{Number, Again, Done, Moved, Parted, No}
use Rattle.thes_base.specs.FaultNames.{form_code, refusal_code, fault_code, table_name}
use Rattle.thes_requests.specs.declared.answer.Reply.{Reply}
use Rattle.thes_requests.specs.declared.answer.Reply.TheVariants as replies

-- The line for a refusal: `{"no":"NAME"}`, with the number for `OutsideKnown`.
abbrev pub refusal_text : Refusal → List ℕ
refusal_text (OutsideKnown n) =
    codes "{\"no\":\"OutsideKnown\",\"number\":" ++ decimal n ++ codes "}\n"
refusal_text r = codes "{\"no\":\"" ++ (refusal_code r).name ++ codes "\"}\n"

-- The line for a form fault: `{"bad":"NAME"}`.
abbrev pub form_fault_text : FormFault → List ℕ
form_fault_text f = codes "{\"bad\":\"" ++ (form_code f).name ++ codes "\"}\n"

-- The line for a fault: `{"fault":"NAME"}`, with the table for `BadStore`.
abbrev pub fault_reply_text : Fault → List ℕ
fault_reply_text (faults.BadStore table) =
    codes "{\"fault\":\"BadStore\",\"table\":\"" ++ table_name table ++ codes "\"}\n"
fault_reply_text f = codes "{\"fault\":\"" ++ (fault_code f).name ++ codes "\"}\n"

-- The line for an answer to a command, such as `{"ok":7}` for a new number.
abbrev pub answer_text : Answer → List ℕ
answer_text (Number n) = codes "{\"ok\":" ++ decimal n ++ codes "}\n"
answer_text (Again n) = codes "{\"again\":" ++ decimal n ++ codes "}\n"
answer_text Done = codes "{\"done\":true}\n"
answer_text (Moved k) = codes "{\"moved\":" ++ decimal k ++ codes "}\n"
answer_text (Parted n k) =
    codes "{\"moved\":" ++ decimal k ++ codes ",\"ok\":" ++ decimal n ++ codes "}\n"
answer_text (No r) = refusal_text r

-- The line for a reply: an answer, a form fault or a fault.
abbrev pub reply_text : Reply → List ℕ
reply_text (replies.Answer a) = answer_text a
reply_text (replies.Bad f) = form_fault_text f
reply_text (replies.Fault f) = fault_reply_text f
