-- Indexes of labels in an owner's sorted list.
use Rattle.std.specs.Prelude.{◌≡◌, ◌<◌, ◌≤◌, ℕ, List, length, Result, Ok, Err}
use Rattle.std.specs.declared.cmp.Ordering.TheVariants.{Less, Equal, Greater}
use Rattle.std.specs.List.{HoldsAt}
use Rattle.std.specs.List.Sorted.{IsPartitionPoint}
use Rattle.thes_base.specs.declared.data.LabelKind.TheVariants.{Pref}
use Rattle.thes_base.specs.Data.{LabelData}
use Rattle.thes_vocab.specs.OwnLabels.{data_cmp}

-- The result of a search for a label: Ok with its index, or Err with the index at which to insert it.
abbrev pub IsLabelPosition : List LabelData → LabelData → Result ℕ ℕ → Type 0
IsLabelPosition own l (Ok place) = (place < length own) × HoldsAt (λ x. data_cmp x l ≡ Equal) own place
IsLabelPosition own l (Err place) = (place ≤ length own) × IsPartitionPoint (λ x. data_cmp x l ≡ Less)
    (λ x. data_cmp x l ≡ Greater) own place

-- The label at the index is a preferred one in the language.
pub record IsPreferredAt (own : List LabelData) (tag : List ℕ) (place : ℕ) : Type 0 where
  pub within : place < length own
  pub kind : HoldsAt (λ (l : LabelData). l.kind ≡ Pref) own place
  pub tag_is : HoldsAt (λ (l : LabelData). l.tag ≡ tag) own place
