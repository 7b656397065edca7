-- The reasons for faults of a store in a database.
use Rattle.thes_sqlite.specs.declared.cause.Cause.{Cause}
use Rattle.thes_sqlite.specs.declared.cause.Cause.TheVariants as causes
use Rattle.thes_command_line.specs.declared.trouble.StoreTrouble.{StoreTrouble}
use Rattle.thes_command_line.specs.declared.trouble.StoreTrouble.TheVariants as troubles

-- The reason that a cause gives, or `other` if it gives none.
abbrev pub trouble_of : Cause → StoreTrouble → StoreTrouble
trouble_of causes.Locked other = troubles.InUse
trouble_of causes.Missing other = troubles.NoFile
trouble_of causes.NotAFile other = troubles.NotDatabase
trouble_of causes.NotADatabase other = troubles.NotDatabase
trouble_of causes.Linked other = troubles.Linked
trouble_of causes.Unreadable other = troubles.Unreadable
trouble_of causes.Unwritable other = troubles.Unwritable
trouble_of causes.Journal other = troubles.Journal
trouble_of causes.UnknownSchema other = troubles.UnknownSchema
trouble_of causes.Damaged other = troubles.Damaged
trouble_of causes.Full other = troubles.NoRoom
trouble_of causes.NoMemory other = other
trouble_of causes.Other other = other
