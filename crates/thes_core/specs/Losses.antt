-- What an accepted request removes from the state, or adds to it, without naming it in its arguments, as far as taking
-- the request back needs it.
use Rattle.std.specs.Prelude.{◌≡◌, ◌<◌, ◌^◌, ℕ, Bool, List, Some, if◌then◌else◌, length}
use Rattle.std.specs.FinSet as set
use Rattle.thes_base.specs.declared.data.History.{History}
use Rattle.thes_base.specs.declared.data.LabelKind.TheVariants.{Alt}
use Rattle.thes_base.specs.declared.request.Command.{Command}
use Rattle.thes_base.specs.declared.request.Command.TheVariants as request
use Rattle.thes_base.specs.Changes.{label}
use Rattle.thes_base.specs.Labels.{Labels, preferred_label_in}
use Rattle.thes_base.specs.Links.{links_after_merge}
use Rattle.thes_base.specs.Postings.{assigned_count, place}
use Rattle.thes_base.specs.Resources.{entry_at, is_outside}
use Rattle.thes_base.specs.State.{State}
use Rattle.thes_links.specs.Reading.{IsRow}
use Rattle.thes_graph.specs.MergeAdditions.{AreAddedLinks}
use Rattle.thes_vocab.specs.CopiedLabels.{AreMissingLabels}
use Rattle.thes_core.specs.declared.losses.Lost.{Lost}
use Rattle.thes_core.specs.declared.losses.Lost.TheVariants.{Place, Preferred, Links, Merge}
use Rattle.thes_core.specs.declared.losses.MergeLoss.{MergeLoss}

-- The labels, without the owner's alternative label with the tag and the text `old` if `keep` is true.
abbrev pub labels_without_kept : ℕ → List ℕ → List ℕ → Bool → Labels → Labels
labels_without_kept owner tag old keep labels =
    if keep then set.remove labels (label owner Alt tag old) else labels

-- The loss is what the merge changes in the labels and links: the links of the source, those held after the merge and
-- not before, and the labels that are copied to the target.
pub record IsMergeLoss (source target : ℕ) (s : State) (loss : MergeLoss) : Type 0 where
  pub links : IsRow s.links source loss.links.items
  pub additions :
      AreAddedLinks s.links (links_after_merge (is_outside s.resources) source target s.links) loss.additions.items
  pub copies : AreMissingLabels s.labels source target loss.copies.items

-- The loss is what the request changes in the labels and links: for a Relabel the former preferred label, for a
-- Deprecate the links of its concept, for a Merge what it removes and adds; any loss for another request.
abbrev pub IsLostFromParts : Command → State → Lost → Type 0
IsLostFromParts (request.Relabel owner tag text keep) s (Preferred old) =
    preferred_label_in s.labels owner tag ≡ Some old
IsLostFromParts (request.Relabel owner tag text keep) s _ = ⊥
IsLostFromParts (request.Deprecate concept) s (Links row) = IsRow s.links concept row.items
IsLostFromParts (request.Deprecate concept) s _ = ⊥
IsLostFromParts (request.Merge source target) s (Merge loss) = IsMergeLoss source target s loss.value
IsLostFromParts (request.Merge source target) s _ = ⊥
IsLostFromParts _ s _ = Unit {0}

-- The loss is what the request changes in the postings: for a Withdraw the place of its posting, for a Merge the number
-- of those that move, if there are fewer than 2³² postings; any loss for another request.
abbrev pub IsLostFromPostings : Command → State → Lost → Type 0
IsLostFromPostings (request.Withdraw posting) s (Place concept) =
    (h : History) × (entry_at s.histories posting ≡ Some h) × (concept ≡ place h)
IsLostFromPostings (request.Withdraw posting) s _ = ⊥
IsLostFromPostings (request.Merge source target) s (Merge loss) =
    length s.histories < 2 ^ 32 → loss.value.moves ≡ assigned_count source s.histories
IsLostFromPostings (request.Merge source target) s _ = ⊥
IsLostFromPostings _ s _ = Unit {0}
