-- Proves that the write of the second part of a report that stops has written a prefix of the whole.
use Rattle.std.proofs.Common.{ℕ, List, ◌++◌, Option, Result, Ok, Err, OnErr}
use Rattle.std.specs.Io.KnownBytes.{Appends}
use Rattle.thes_base.specs.Pipe.{AppendsPrefix}
use Rattle.thes_base.proofs.PipeLemmas.{appends_front_then}

pub err_after : {A E : Type 0} (r : Result A E) (a b c : Option (List ℕ)) (xs ys : List ℕ) → Appends a b xs
    → OnErr r (AppendsPrefix b c ys) → OnErr r (AppendsPrefix a c (xs ++ ys))
err_after (Ok x) a b c xs ys f s = tt
err_after (Err e) a b c xs ys f s = appends_front_then a b c xs ys f s
