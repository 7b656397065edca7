-- Two searches that take turns come to an end: the limit grows with each turn, and without a limit one of them ends.
use Rattle.std.proofs.Common.{◌≡◌, ◌+◌, ◌-◌, ◌*◌, ◌^◌, ◌≤◌, ◌<◌, ◌⊎◌, inl, inr, ℕ, min, arith}
use Rattle.std.proofs.lemmas.Bool.{cases_lt}

module _ (limit more : ℕ) (small : limit < 2 ^ 64) (next : more ≡ min (limit + 16) (2 ^ 64 - 1)) where
  limited : (limit < 2 ^ 64 - 1) ⊎ (limit ≡ 2 ^ 64 - 1)
  limited = grind arith

  pub turn_smaller : (nodes read later_nodes later_read : ℕ) → read < nodes
      → (limit ≡ 2 ^ 64 - 1 → later_nodes ≤ later_read)
      → 2 * (2 ^ 64 - more) + min 1 (later_nodes - later_read) < 2 * (2 ^ 64 - limit) + min 1 (nodes - read)
  turn_smaller nodes read later_nodes later_read unread done = elim limited [
    | inl below ↦ omega (arith, below, next)
    | inr all ↦ omega (arith, all, next, done all)
  ]

  pub paired_turn_smaller : (first second first_read second_read : ℕ)
      (later_first later_second later_first_read later_second_read : ℕ) → first_read < first → second_read < second
      → (limit ≡ 2 ^ 64 - 1 → later_second_read < later_second → later_first ≤ later_first_read)
      → 3 * (2 ^ 64 - more) + min 1 (later_first - later_first_read) + min 1 (later_second - later_second_read)
      < 3 * (2 ^ 64 - limit) + min 1 (first - first_read) + min 1 (second - second_read)
  paired_turn_smaller first second first_read second_read later_first later_second later_first_read
      later_second_read unread unread_second done = elim limited [
        | inl below ↦ omega (arith, below, next)
        | inr all ↦ elim (cases_lt later_second_read later_second) [
          | inl rest ↦ omega (arith, all, next, done all rest, unread, unread_second)
          | inr past ↦ omega (arith, all, next, past, unread, unread_second)
        ]
      ]
