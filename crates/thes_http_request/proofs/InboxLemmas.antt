-- Proves that a read into the rest of the buffer appends to the bytes read before.
use Rattle.std.proofs.lemmas.Grind.{common_steps}
use Rattle.std.proofs.Common.{◌≡◌, ◌∙◌, ap, ℕ, ◌+◌, ◌≤◌, List, ◌++◌, length, take, Option, arith}
use Rattle.std.proofs.lemmas.List.{length-take-le}
use Rattle.std.proofs.Math.Seq.{take-append-add}
use Rattle.std.proofs.KnownBytes.{Consumes-trans}
use Rattle.std.specs.Io.KnownBytes.{Consumes}
use Rattle.thes_http_request.specs.Inbox.{BufferGrowth}

pub consumes_then_growth : (a b c : Option (List ℕ)) (xs ys : List ℕ) → Consumes a b xs → BufferGrowth b c xs ys
    → Consumes a c ys
consumes_then_growth a b c xs ys f g = rw g.all (Consumes-trans a b c xs g.more f g.taken)

splice : (xs new post : List ℕ) (f n : ℕ) → length xs ≡ f → n ≤ length new → take (f + n) (xs ++ (new ++ post)) ≡ xs
    ++ take n new
splice xs new post f n e k = grind (arith, common_steps, take-append-add)

-- Overwriting the buffer from `f` on appends to the bytes before `f`.
pub buffer_after_read : (items d new post old : List ℕ) (f n : ℕ) → d ≡ items → take f items ≡ old → f ≤ length d → n
    ≤ length new → take (f + n) (take f d ++ (new ++ post)) ≡ old ++ take n new
buffer_after_read items d new post old f n same is h k =
    splice (take f d) new post f n (length-take-le f d h) k ∙ ap (λ t. t ++ take n new) (ap (λ t. take f t) same ∙ is)

take_within : (m len : ℕ) (xs : List ℕ) → m ≤ len → m ≤ length xs → take m (take len xs) ≡ take m xs
take_within m len xs h k = grind (arith, common_steps)

-- A read into the rest of a buffer of fixed length appends the bytes read to those before.
pub buffer_after_read_within : (items d new post tail old : List ℕ) (f n len : ℕ) → d ≡ items → take f items ≡ old → f
    ≤ length d → n ≤ length new → f + n ≤ len
    → take (f + n) (take len ((take f d ++ (new ++ post)) ++ tail)) ≡ old ++ take n new
buffer_after_read_within items d new post tail old f n len same is h k l =
    grind (arith, common_steps, length-take-le, take_within, buffer_after_read)
