-- The counts of postings: those assigned to each concept, those accepted and withdrawn, and the moves.
use Rattle.std.specs.Prelude.{◌≡◌, ◌≢◌, ◌<◌, ◌≤◌, ◌^◌, ◌+◌, ◌==◌, ◌&&◌, ℕ, List, Bool, not, cond, slice_index}
use Rattle.thes_base.specs.Types.{Number}
use Rattle.thes_base.specs.declared.data.History.{History}
use Rattle.thes_base.specs.Postings.{accepted_count, withdrawn_count, assigned_count, move_count}

-- The counts of postings: entry n of `counts` is the number assigned to concept n, and 0 past its end.
pub record PostingCounts : Type 0 where
  pub counts : List ℕ
  pub accepted : ℕ
  pub withdrawn : ℕ
  pub moves : ℕ

-- The number of postings assigned to the concept.
abbrev pub count_of : PostingCounts → Number → ℕ
count_of posting_counts concept = slice_index posting_counts.counts concept

-- The counts are those of the postings with these histories.
pub record ArePostingCounts (histories : List History) (posting_counts : PostingCounts) : Type 0 where
  pub standing : (concept : Number) → count_of posting_counts concept ≡ assigned_count concept histories
  pub accepted : posting_counts.accepted ≡ accepted_count histories
  pub withdrawn : posting_counts.withdrawn ≡ withdrawn_count histories
  pub moves : posting_counts.moves ≡ move_count histories

-- There is room for one more posting to the concept, with `steps` moves: all counts stay below 2 ^ 32.
pub record HasRoomForPost (concept : Number) (steps : ℕ) (posting_counts : PostingCounts) : Type 0 where
  pub here : count_of posting_counts concept + 1 < 2 ^ 32
  pub accepted : posting_counts.accepted + 1 < 2 ^ 32
  pub moves : posting_counts.moves + steps < 2 ^ 32

-- At least one posting is assigned to the concept, and not all accepted postings are withdrawn.
pub record HasPostingToWithdraw (concept : Number) (posting_counts : PostingCounts) : Type 0 where
  pub here : 0 < count_of posting_counts concept
  pub accepted : posting_counts.withdrawn < posting_counts.accepted

-- A posting to the concept, with `steps` moves, can be taken back from the counts: a posting is assigned to the
-- concept, and that many moves are counted.
pub record HasPostToTakeBack (concept : Number) (steps : ℕ) (posting_counts : PostingCounts) : Type 0 where
  pub here : 0 < count_of posting_counts concept
  pub accepted : posting_counts.withdrawn < posting_counts.accepted
  pub moves : steps ≤ posting_counts.moves

-- A withdrawal at the concept can be taken back from the counts: one is counted, and there is room for one more posting
-- assigned to the concept.
pub record HasWithdrawalToTakeBack (concept : Number) (posting_counts : PostingCounts) : Type 0 where
  pub here : count_of posting_counts concept + 1 < 2 ^ 32
  pub withdrawn : 0 < posting_counts.withdrawn

-- There are `moved` postings whose move from the source to the target can be taken back: the target has that many, and
-- there is room for them at the source.
pub record HasMovesToTakeBack (source target : Number) (moved : ℕ) (posting_counts : PostingCounts) : Type 0 where
  pub standing : moved ≤ count_of posting_counts target
  pub there : count_of posting_counts source + moved < 2 ^ 32
  pub moves : moved ≤ posting_counts.moves

-- There is room to move `moved` postings from the source to the target, with one move each: the source has that many,
-- and all counts stay below 2 ^ 32.
pub record HasRoomForMoves (source target : Number) (moved : ℕ) (posting_counts : PostingCounts) : Type 0 where
  pub standing : moved ≤ count_of posting_counts source
  pub there : count_of posting_counts target + moved < 2 ^ 32
  pub moves : posting_counts.moves + moved < 2 ^ 32

-- The counts after one more posting to the concept and `steps` moves.
pub record CountsAfterPost (concept : Number) (steps : ℕ) (old new : PostingCounts) : Type 0 where
  pub here : count_of new concept ≡ count_of old concept + 1
  pub others : (n : Number) → n ≢ concept → count_of new n ≡ count_of old n
  pub accepted : new.accepted ≡ old.accepted + 1
  pub withdrawn : new.withdrawn ≡ old.withdrawn
  pub moves : new.moves ≡ old.moves + steps

-- The counts after a posting assigned to the concept is withdrawn.
pub record CountsAfterWithdrawal (concept : Number) (old new : PostingCounts) : Type 0 where
  pub here : count_of old concept ≡ count_of new concept + 1
  pub others : (n : Number) → n ≢ concept → count_of new n ≡ count_of old n
  pub accepted : new.accepted ≡ old.accepted
  pub withdrawn : new.withdrawn ≡ old.withdrawn + 1
  pub moves : new.moves ≡ old.moves

-- `moved` is subtracted from the count of the concept `from`, and added to that of `to` if the sum is below 2³².
pub record ShiftsCounts (from to moved : ℕ) (old new : List ℕ) : Type 0 where
  pub at_source : slice_index old from ≡ slice_index new from + moved
  pub at_target : slice_index old to + moved < 2 ^ 32 → slice_index new to ≡ slice_index old to + moved
  pub others : (n : ℕ) → n ≢ from → n ≢ to → slice_index new n ≡ slice_index old n

-- The counts after `moved` postings move from the source to the target, by one move each.
pub record CountsAfterMoves (source target : Number) (moved : ℕ) (old new : PostingCounts) : Type 0 where
  pub at_source : count_of old source ≡ count_of new source + moved
  pub at_target : count_of new target ≡ count_of old target + moved
  pub others : (n : Number) → n ≢ source → n ≢ target → count_of new n ≡ count_of old n
  pub accepted : new.accepted ≡ old.accepted
  pub withdrawn : new.withdrawn ≡ old.withdrawn
  pub moves : new.moves ≡ old.moves + moved

-- The counts that a `LoadedCounts` may have: no more postings are assigned to a concept, or withdrawn, than were
-- accepted, and there are no moves.
pub record AreLoadedCounts (posting_counts : PostingCounts) : Type 0 where
  pub standing : (n : Number) → count_of posting_counts n ≤ posting_counts.accepted
  pub withdrawn : posting_counts.withdrawn ≤ posting_counts.accepted
  pub moves : posting_counts.moves ≡ 0

-- The counts after one more posting, which is withdrawn if `gone` is set, or else assigned to the concept `place`.
pub record CountsAfterLoad (place : Number) (gone : Bool) (old new : PostingCounts) : Type 0 where
  pub standing : (n : Number) → count_of new n ≡ count_of old n + cond (not gone && place == n) 1 0
  pub accepted : new.accepted ≡ old.accepted + 1
  pub withdrawn : new.withdrawn ≡ old.withdrawn + cond gone 1 0
  pub moves : new.moves ≡ old.moves
