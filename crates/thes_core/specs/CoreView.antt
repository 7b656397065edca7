-- A core as contracts see it: a state with counts in place of histories.
use Rattle.std.specs.Prelude.{◌≡◌, ℕ, Bool, List, [], false}
use Rattle.thes_base.specs.declared.data.History.{History}
use Rattle.thes_base.specs.declared.data.Limits.{Limits}
use Rattle.thes_base.specs.declared.data.Resource.{Resource}
use Rattle.thes_base.specs.Resources.{Iris}
use Rattle.thes_base.specs.Labels.{Labels}
use Rattle.thes_base.specs.Links.{Links}
use Rattle.thes_base.specs.Legal.{IsLegalState}
use Rattle.thes_base.specs.State.{State}
use Rattle.thes_base.specs.Refusals.{Setting}
use Rattle.thes_post.specs.PostingCounts.{PostingCounts, ArePostingCounts}

-- A state with the counts of its postings in place of their histories, and the base and limits.
pub record CoreView : Type 0 where
  pub resources : List Resource
  pub iris : Iris
  pub labels : Labels
  pub links : Links
  pub posting_counts : PostingCounts
  pub setting : Setting
  -- Whether the core is unusable: running out of memory has left the state half changed, or the core was marked as
  -- unusable.
  pub spent : Bool

-- The state that has the core's parts and these histories.
abbrev pub with_histories : List History → CoreView → State
with_histories histories core =
    record {
      resources = core.resources;
      iris = core.iris;
      labels = core.labels;
      links = core.links;
      histories = histories;
    }

-- The state without its postings.
abbrev pub without_postings : State → State
without_postings s = record s { histories = [] }

-- The core is a view of the state: the state is legal, has the core's resources, IRIs, labels and links, and has
-- histories with the core's counts.
pub record IsViewOf (core : CoreView) (s : State) : Type 0 where
  pub state : with_histories s.histories core ≡ s
  pub posting_counts : ArePostingCounts s.histories core.posting_counts
  pub legal : IsLegalState core.setting.base s

-- The core is usable, and has this base and these limits.
pub record IsUsableWith (base : List ℕ) (limits : Limits) (core : CoreView) : Type 0 where
  pub base_is : core.setting.base ≡ base
  pub limits_are : core.setting.limits ≡ limits
  pub usable : core.spent ≡ false
