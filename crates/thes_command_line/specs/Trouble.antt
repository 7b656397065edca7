-- The reasons why a store can't be used.
use Rattle.std.specs.Prelude.{Bool, true, false, Option, Some, None, Result, Ok, Err, codes}
use Rattle.thes_base.specs.Types.{Bytes}
use Rattle.thes_base.specs.declared.fault.Fault.{Fault}
use Rattle.thes_base.specs.declared.fault.Fault.TheVariants.{Store}
use Rattle.thes_command_line.specs.declared.trouble.StoreTrouble.{StoreTrouble}
use Rattle.thes_command_line.specs.declared.trouble.StoreTrouble.TheVariants as troubles

-- The trouble and the fault if the names of the files next to a store's file are too long, or couldn't be checked.
abbrev pub name_trouble : Result Bool Fault → Option (StoreTrouble × Fault)
name_trouble (Ok true) = Some (troubles.LongName, Store)
name_trouble (Ok false) = None
name_trouble (Err fault) = Some (troubles.Unreadable, fault)

-- The words for a reason, as they are printed.
abbrev pub words_of : StoreTrouble → Bytes
words_of troubles.InUse = codes "in use by another program"
words_of troubles.NoFile = codes "no such file"
words_of troubles.NotDatabase = codes "not a database"
words_of troubles.Linked = codes "the file has a second name"
words_of troubles.LongName = codes "the name is too long"
words_of troubles.Unreadable = codes "can't be read"
words_of troubles.Unwritable = codes "can't be written"
words_of troubles.NoRoom = codes "no room"
words_of troubles.Damaged = codes "damaged"
words_of troubles.Journal = codes "SQLite was cut short, and left a journal"
words_of troubles.UnknownSchema = codes "something in its schema can't be read"
