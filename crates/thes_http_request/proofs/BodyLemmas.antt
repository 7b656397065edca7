-- Proves what the buffer holds while a body arrives, and that its capacity stays bounded.
use Rattle.std.proofs.lemmas.Grind.{common_steps}
use Rattle.std.proofs.Common.{◌≡◌, ◌∙◌, sym, ap, subst, ℕ, ◌≤◌, ◌<◌, List, ◌++◌, length, take, take_all, append_assoc}
use Rattle.std.proofs.Common.{Option, arith}
use Rattle.std.specs.Io.KnownBytes.{Consumes}
use Rattle.std.proofs.KnownBytes.{Consumes-trans}
use Rattle.thes_http_request.specs.Inbox.{BufferGrowth, ConsumesSome, HasBoundedCapacity}

-- The body so far is the first `count` bytes of `start` followed by the bytes consumed, or all of these if fewer.
pub record BodySoFar (old new : Option (List ℕ)) (start : List ℕ) (count : ℕ) (body : List ℕ) : Type 0 where
  pub more : List ℕ
  pub taken : Consumes old new more
  pub body_is : body ≡ take count (start ++ more)

-- A body shorter than announced is all that has arrived.
short_is : (all body : List ℕ) (count : ℕ) → body ≡ take count all → length body < count → (length all < count)
    × (body ≡ all)
short_is all body count e l = grind (arith, common_steps)

pub body_so_far_append : (old mid new : Option (List ℕ)) (start : List ℕ) (count : ℕ) (body body' : List ℕ)
    → BodySoFar old mid start count body → length body < count → BufferGrowth mid new body body' → length body'
    ≤ count → BodySoFar old new start count body'
body_so_far_append old mid new start count body body' s l g h =
    let is = short_is (start ++ s.more) body count s.body_is l in
    let all : body' ≡ start ++ (s.more ++ g.more) =
    g.all ∙ (ap (λ t. t ++ g.more) is.1 ∙ append_assoc start s.more g.more) in
    record {
      more = s.more ++ g.more;
      taken = Consumes-trans old mid new s.more g.more s.taken g.taken;
      body_is =
          all ∙ sym (take_all count (start ++ (s.more ++ g.more)) (subst (λ (t : List ℕ). length t ≤ count) all h));
    }

pub consumes_some_then : (old mid new : Option (List ℕ)) (start : List ℕ) (count : ℕ) (body held held' : List ℕ)
    → BodySoFar old mid start count body → BufferGrowth mid new held held' → ConsumesSome old new
consumes_some_then old mid new start count body held held' s g = grind (arith, common_steps, Consumes-trans)

-- A buffer with the same bytes, whatever its capacity, holds the same body.
pub body_so_far_same : (old new : Option (List ℕ)) (start : List ℕ) (count : ℕ) (body body' : List ℕ)
    → BodySoFar old new start count body → body' ≡ body → BodySoFar old new start count body'
body_so_far_same old new start count body body' s e = record { more = s.more; taken = s.taken; body_is = e ∙ s.body_is }

-- The bound on the capacity stays true when more bytes arrive within it.
pub capacity_stays_bounded : (count came came' room room' : ℕ) → HasBoundedCapacity count came room → room' ≡ room
    → came ≤ came' → HasBoundedCapacity count came' room'
capacity_stays_bounded count came came' room room' g e l = (omega (arith, e, g.0), omega (arith, e, g.1, l))
