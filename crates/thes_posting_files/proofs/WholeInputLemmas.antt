-- Proves that an input read in parts is read whole.
use Rattle.std.proofs.lemmas.Grind.{common_steps}
use Rattle.std.proofs.Common.{◌+◌, ◌<◌, ◌≤◌, ℕ, List, length, take, length-append, arith}
use Rattle.std.specs.Prelude.{Option}
use Rattle.std.specs.Io.KnownBytes.{Consumes}
use Rattle.std.proofs.KnownBytes.{Consumes-trans}
use Rattle.std.proofs.lemmas.List.{length-take-le}
use Rattle.thes_base.specs.Pipe.{unread_bytes}
use Rattle.thes_base.specs.declared.pipe.Pipe.{Pipe}
use Rattle.thes_posting_files.specs.WholeInput.{GivesMore, HasReadBytes}

-- An input has more bytes than the limit if those read before and those of the next chunk together exceed it.
pub gives_more : {R : Type 0} (remaining : R → Option (List ℕ)) (limit : ℕ) (start old new : Pipe R)
    (bytes buf : List ℕ) (count : ℕ) → HasReadBytes remaining limit start old bytes
    → Consumes (unread_bytes remaining old)
    (unread_bytes remaining new) (take count buf) → count ≤ length buf → limit < length bytes + count
    → GivesMore remaining limit start new
gives_more remaining limit start old new bytes buf count read more in_limit over_limit =
    grind (arith, common_steps, Consumes-trans, length-append, length-take-le)
