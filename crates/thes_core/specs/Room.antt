-- The growth that a request causes, and whether the limits leave room for it.
use Rattle.std.specs.Prelude.{ℕ, ◌+◌, length}
use Rattle.std.specs.FinSet as set
use Rattle.thes_base.specs.declared.data.Limits.{Limits}
use Rattle.thes_base.specs.Postings.{move_count}
use Rattle.thes_base.specs.State.{State, IsWithinLimit}
use Rattle.thes_core.specs.declared.room.Growth.{Growth}
use Rattle.thes_core.specs.declared.thesaurus.Thesaurus.{Thesaurus}

-- The numbers of resources, labels, links, postings and moves of a state.
pub record Amounts : Type 0 where
  pub resources : ℕ
  pub labels : ℕ
  pub links : ℕ
  pub postings : ℕ
  pub moves : ℕ

-- The amounts in a state, with the numbers of postings and moves taken from its histories.
abbrev pub amounts_of_state : State → Amounts
amounts_of_state s =
    record {
      resources = length s.resources;
      labels = set.len s.labels;
      links = set.len s.links;
      postings = length s.histories;
      moves = move_count s.histories;
    }

-- The amounts in the parts of a thesaurus, with the numbers of postings and moves taken from its counts.
abbrev pub amounts_of_parts : Thesaurus → Amounts
amounts_of_parts t =
    record {
      resources = length t.vocab.resources;
      labels = set.len t.vocab.labels;
      links = set.len t.graph.links;
      postings = t.book.accepted;
      moves = t.book.moves;
    }

-- There is room for the growth: each number that grows stays within its limit.
pub record HasRoomForGrowth (limits : Limits) (held : Amounts) (growth : Growth) : Type 0 where
  pub for_resources : IsWithinLimit limits.resources held.resources (held.resources + growth.resources)
  pub for_labels : IsWithinLimit limits.labels held.labels (held.labels + growth.labels)
  pub for_links : IsWithinLimit limits.links held.links (held.links + growth.links)
  pub for_postings : IsWithinLimit limits.postings held.postings (held.postings + growth.postings)
  pub for_moves : IsWithinLimit limits.moves held.moves (held.moves + growth.moves)
