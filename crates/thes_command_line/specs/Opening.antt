-- Defines whether a store is made or the one in its file is used.
use Rattle.std.specs.Prelude.{◌≡◌, ◌≢◌, ◌==◌, ◌&&◌, nat_le, not, ℕ, Bool, true, false, if◌then◌else◌, Result, Ok, Err}
use Rattle.std.specs.Fs.{IsFile, file_type, metadata_len}
use Rattle.std.specs.IoError.{error_kind}
use Rattle.std.specs.declared.fs.attrs.Metadata.{Metadata}
use Rattle.std.specs.declared.io.Error.{Error}
use Rattle.std.specs.declared.io.ErrorKind.TheVariants.{NotFound}
use Rattle.thes_command_line.specs.declared.opening.FileState.{FileState}
use Rattle.thes_command_line.specs.declared.opening.FileState.TheVariants as found
use Rattle.thes_command_line.specs.declared.opening.Opening.{Opening}
use Rattle.thes_command_line.specs.declared.opening.Opening.TheVariants.{New, Existing}
use Rattle.thes_command_line.specs.declared.opening.Preparation.{Preparation}
use Rattle.thes_command_line.specs.declared.opening.Preparation.TheVariants.{MakeTables, RemoveMark, RefuseBlank}
use Rattle.thes_command_line.specs.declared.trouble.StoreTrouble.{StoreTrouble}
use Rattle.thes_command_line.specs.declared.trouble.StoreTrouble.TheVariants as troubles

-- The state of a file, from its metadata or from the error of reading them.
abbrev pub IsFileState : Result Metadata Error → FileState → Type 0
IsFileState (Ok metadata) found.Absent = ⊥
IsFileState (Ok metadata) (found.Bytes n) = IsFile (file_type metadata) × (n ≡ metadata_len metadata)
IsFileState (Ok metadata) found.Other = ¬ IsFile (file_type metadata)
IsFileState (Err error) found.Absent = error_kind error ≡ NotFound
IsFileState (Err error) (found.Bytes n) = ⊥
IsFileState (Err error) found.Other = error_kind error ≢ NotFound

-- The store is made, or fails with this trouble if it must exist.
abbrev pub new_store : Bool → StoreTrouble → Result Opening StoreTrouble
new_store must_exist trouble = if must_exist then Err trouble else Ok New

-- Whether making the store in a file was cut short: a mark says so, and the file is no larger than
-- a database without tables.
abbrev pub is_unfinished : ℕ → Bool → Bool
is_unfinished size is_marked = is_marked && nat_le size 4096

-- The way to open a file that isn't empty: the store in it is used, but a file of one byte isn't a database.
abbrev pub opening_of_bytes : ℕ → Result Opening StoreTrouble
opening_of_bytes n = if n == 1 then Err troubles.NotDatabase else Ok Existing

-- The way to open a file that isn't empty: an unfinished store is made, unless it must exist; any other store is used.
abbrev pub opening_of_file : Bool → ℕ → Bool → Result Opening StoreTrouble
opening_of_file must_exist n is_marked =
    if not must_exist && is_unfinished n is_marked then Ok New else opening_of_bytes n

-- The way to open the store in a file: unless it must exist, it is made if the file is absent or empty, or the store in
-- it is unfinished; otherwise it is used.
abbrev pub opening_of : Bool → FileState → Bool → Result Opening StoreTrouble
opening_of must_exist found.Absent is_marked = new_store must_exist troubles.NoFile
opening_of must_exist (found.Bytes n) is_marked =
    if n == 0 then new_store must_exist troubles.NotDatabase else opening_of_file must_exist n is_marked
opening_of must_exist found.Other is_marked = Ok Existing

-- What to do with the database of a store once it is open: a blank one gets its tables if it was opened for a new
-- store, and is refused otherwise; one with tables loses the mark of an unfinished store.
abbrev pub preparation_of : Opening → Bool → Preparation
preparation_of New true = MakeTables
preparation_of Existing true = RefuseBlank
preparation_of opening false = RemoveMark

-- Whether the mark of an unfinished store is void: no database was made, and no other program has the file open.
abbrev pub is_mark_void : StoreTrouble → FileState → Bool
is_mark_void troubles.InUse left = false
is_mark_void _ found.Absent = true
is_mark_void _ (found.Bytes n) = n == 0
is_mark_void _ found.Other = false
