-- The errors of waits for a client.
use Rattle.std.specs.declared.io.ErrorKind.{ErrorKind}
use Rattle.std.specs.declared.io.ErrorKind.TheVariants.{Interrupted, TimedOut, WouldBlock}

-- The error of a single wait, given that of its stream: a time-out becomes `Interrupted`, so that the caller tries
-- again.
abbrev pub error_after_wait : ErrorKind → ErrorKind
error_after_wait WouldBlock = Interrupted
error_after_wait TimedOut = Interrupted
error_after_wait kind = kind
