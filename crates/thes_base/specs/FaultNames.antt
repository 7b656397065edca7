-- The number and the name of each refusal and each fault, the names of the tables, and the texts that messages print.
use Rattle.std.specs.Prelude.{ℕ, codes, ◌++◌}
use Rattle.thes_base.specs.Types.{Bytes}
use Rattle.thes_base.specs.declared.fault.Refusal.{Refusal}
use Rattle.thes_base.specs.declared.fault.Refusal.TheVariants.{UnknownResource, WrongKind, NotLive, SameResource}
use Rattle.thes_base.specs.declared.fault.Refusal.TheVariants.{OtherScheme, LabelThere, NoSuchLabel, LastPreferred}
use Rattle.thes_base.specs.declared.fault.Refusal.TheVariants.{S13, S14, PreferredTaken, LinkThere, NoSuchLink, Cycle}
use Rattle.thes_base.specs.declared.fault.Refusal.TheVariants.{S27, S46, HasPostings, UnknownPosting, Withdrawn}
use Rattle.thes_base.specs.declared.fault.Refusal.TheVariants.{NotAtSource, ListedTwice, KeyReused, OutsideKnown}
use Rattle.thes_base.specs.declared.fault.Refusal.TheVariants.{TooMany}
use Rattle.thes_base.specs.declared.fault.FormFault.{FormFault}
use Rattle.thes_base.specs.declared.fault.FormFault.TheVariants.{BadTag, BadText, BadIri, BadKey, BadRecord}
use Rattle.thes_base.specs.declared.fault.FormFault.TheVariants.{BadNumber, NotJson, BadShape}
use Rattle.thes_base.specs.declared.fault.Table.{Table}
use Rattle.thes_base.specs.declared.fault.Table.TheVariants.{Meta, Resource, Outside, Label, Link, Hier, Posting, Move}
use Rattle.thes_base.specs.declared.fault.Fault as outer
use Rattle.thes_base.specs.declared.fault.Fault.TheVariants.{OutOfMemory, Store, BadStore, NewerStore, OlderStore}
use Rattle.thes_base.specs.declared.fault.ReadStop.{ReadStop}
use Rattle.thes_base.specs.declared.fault.ReadStop.TheVariants as stops
use Rattle.thes_base.specs.declared.fault.PipeFault.{PipeFault}
use Rattle.thes_base.specs.declared.fault.PipeFault.TheVariants.{Read, Write, TooLong, Fault}

-- The number of a refusal or a fault, with the name that is printed for it.
pub record Code : Type 0 where
  pub number : ℕ
  pub name : Bytes

-- The code of a fault in the form of a text, a number or a request: 1 to 8.
abbrev pub form_code : FormFault → Code
form_code BadTag = record { number = 1; name = codes "BadTag" }
form_code BadText = record { number = 2; name = codes "BadText" }
form_code BadIri = record { number = 3; name = codes "BadIri" }
form_code BadKey = record { number = 4; name = codes "BadKey" }
form_code BadRecord = record { number = 5; name = codes "BadRecord" }
form_code BadNumber = record { number = 6; name = codes "BadNumber" }
form_code NotJson = record { number = 7; name = codes "NotJson" }
form_code BadShape = record { number = 8; name = codes "BadShape" }

-- The code of a refusal: 10 to 33.
abbrev pub refusal_code : Refusal → Code
refusal_code UnknownResource = record { number = 10; name = codes "UnknownResource" }
refusal_code WrongKind = record { number = 11; name = codes "WrongKind" }
refusal_code NotLive = record { number = 12; name = codes "NotLive" }
refusal_code SameResource = record { number = 13; name = codes "SameResource" }
refusal_code OtherScheme = record { number = 14; name = codes "OtherScheme" }
refusal_code LabelThere = record { number = 15; name = codes "LabelThere" }
refusal_code NoSuchLabel = record { number = 16; name = codes "NoSuchLabel" }
refusal_code LastPreferred = record { number = 17; name = codes "LastPreferred" }
refusal_code S13 = record { number = 18; name = codes "S13" }
refusal_code S14 = record { number = 19; name = codes "S14" }
refusal_code PreferredTaken = record { number = 20; name = codes "PreferredTaken" }
refusal_code LinkThere = record { number = 21; name = codes "LinkThere" }
refusal_code NoSuchLink = record { number = 22; name = codes "NoSuchLink" }
refusal_code Cycle = record { number = 23; name = codes "Cycle" }
refusal_code S27 = record { number = 24; name = codes "S27" }
refusal_code S46 = record { number = 25; name = codes "S46" }
refusal_code HasPostings = record { number = 26; name = codes "HasPostings" }
refusal_code UnknownPosting = record { number = 27; name = codes "UnknownPosting" }
refusal_code Withdrawn = record { number = 28; name = codes "Withdrawn" }
refusal_code NotAtSource = record { number = 29; name = codes "NotAtSource" }
refusal_code ListedTwice = record { number = 30; name = codes "ListedTwice" }
refusal_code KeyReused = record { number = 31; name = codes "KeyReused" }
refusal_code (OutsideKnown n) = record { number = 32; name = codes "OutsideKnown" }
refusal_code TooMany = record { number = 33; name = codes "TooMany" }

-- The code of a fault of an office: 40 to 44. The name of `BadStore` doesn't include the table.
abbrev pub fault_code : outer.Fault → Code
fault_code OutOfMemory = record { number = 40; name = codes "OutOfMemory" }
fault_code Store = record { number = 41; name = codes "Store" }
fault_code (BadStore table) = record { number = 42; name = codes "BadStore" }
fault_code NewerStore = record { number = 43; name = codes "NewerStore" }
fault_code OlderStore = record { number = 44; name = codes "OlderStore" }

-- The code of a fault in reading or writing: 50 to 52, or that of the office's fault.
abbrev pub pipe_code : PipeFault → Code
pipe_code Read = record { number = 50; name = codes "Read" }
pipe_code Write = record { number = 51; name = codes "Write" }
pipe_code TooLong = record { number = 52; name = codes "TooLong" }
pipe_code (Fault fault) = fault_code fault

-- The name of a table, in the database and in messages.
abbrev pub table_name : Table → Bytes
table_name Meta = codes "meta"
table_name Resource = codes "resource"
table_name Outside = codes "outside"
table_name Label = codes "label"
table_name Link = codes "link"
table_name Hier = codes "hier"
table_name Posting = codes "posting"
table_name Move = codes "move"

-- The printed text of a fault: its name, and for a bad store the name of the faulty table.
abbrev pub fault_text : outer.Fault → Bytes
fault_text OutOfMemory = (fault_code OutOfMemory).name
fault_text Store = (fault_code Store).name
fault_text (BadStore table) = codes "BadStore " ++ table_name table
fault_text NewerStore = (fault_code NewerStore).name
fault_text OlderStore = (fault_code OlderStore).name

-- The printed text of the reason why reading a text failed: the name of the fault.
abbrev pub stop_text : ReadStop → Bytes
stop_text (stops.Form fault) = (form_code fault).name
stop_text stops.OutOfMemory = (fault_code OutOfMemory).name

-- The printed text of a fault in reading or writing: its name, or the text of the office's fault.
abbrev pub pipe_text : PipeFault → Bytes
pipe_text Read = (pipe_code Read).name
pipe_text Write = (pipe_code Write).name
pipe_text TooLong = (pipe_code TooLong).name
pipe_text (Fault fault) = fault_text fault
