-- How many connections a server has finished.
use Rattle.std.specs.Prelude.{ℕ, ◌+◌, ◌≤◌}

-- The numbers of connections that are finished, and of the exchanges in them: a request, and the response to it.
pub record ConnectionCounts : Type 0 where
  pub finished : ℕ
  pub exchanges : ℕ

-- The numbers after an accept without a stream: the connection is finished, and there was no exchange.
abbrev pub counts_after_accept : ConnectionCounts → ConnectionCounts
counts_after_accept old = record { finished = old.finished + 1; exchanges = old.exchanges }

-- At most `count` connections are finished, and at most one exchange was in each.
abbrev pub AreAtMost : ℕ → ConnectionCounts → Type 0
AreAtMost count counts = (counts.exchanges ≤ counts.finished) × (counts.finished ≤ count)
