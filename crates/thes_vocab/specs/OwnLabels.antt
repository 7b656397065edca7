-- The labels of one owner as a list sorted by kind, language and text.
use Rattle.std.specs.Prelude.{◌≡◌, ◌≢◌, ◌||◌, ℕ, List, Bool, true}
use Rattle.std.specs.declared.cmp.Ordering.{Ordering}
use Rattle.std.specs.Ordering.{nat_cmp, ordering_then, eq_by_cmp}
use Rattle.std.specs.Cmp.Lexicographic.{slice_cmp}
use Rattle.std.specs.List.{list_any}
use Rattle.std.specs.List.Sorted.{IsStrictlySortedBy}
use Rattle.std.specs.FinSet as set
use Rattle.thes_base.specs.declared.data.LabelKind.{LabelKind}
use Rattle.thes_base.specs.declared.data.LabelKind.TheVariants.{Pref}
use Rattle.thes_base.specs.Data.{LabelData}
use Rattle.thes_base.specs.Labels.{Labels, label_kind_no}
use Rattle.thes_base.specs.Machine.{owned_label}

-- The order of labels by kind, and then by language.
abbrev pub language_cmp : LabelData → LabelData → Ordering
language_cmp x y = ordering_then (nat_cmp (label_kind_no x.kind) (label_kind_no y.kind)) (slice_cmp nat_cmp x.tag y.tag)

-- The order of labels by kind, then by language, then by text.
abbrev pub data_cmp : LabelData → LabelData → Ordering
data_cmp x y = ordering_then (language_cmp x y) (slice_cmp nat_cmp x.text y.text)

-- The label with this kind, language and text, without an owner.
abbrev pub own_label : LabelKind → List ℕ → List ℕ → LabelData
own_label kind tag text = record { kind = kind; tag = tag; text = text }

-- Whether the label is in the list.
abbrev pub has_own : List LabelData → LabelData → Bool
has_own own l = list_any (eq_by_cmp data_cmp l) own

-- The list has the text as a preferred label in the language.
abbrev pub HasOwnPreferred : List LabelData → List ℕ → List ℕ → Type 0
HasOwnPreferred own tag text = has_own own (own_label Pref tag text) ≡ true

-- The list has no preferred label in the language.
abbrev pub HasNoOwnPreferred : List LabelData → List ℕ → Type 0
HasNoOwnPreferred own tag = (text : List ℕ) → HasOwnPreferred own tag text → ⊥

-- The list has two different preferred labels.
pub record HasTwoOwnPreferred (own : List LabelData) : Type 0 where
  pub first_tag : List ℕ
  pub first_text : List ℕ
  pub second_tag : List ℕ
  pub second_text : List ℕ
  pub first : HasOwnPreferred own first_tag first_text
  pub second : HasOwnPreferred own second_tag second_text
  pub apart : own_label Pref first_tag first_text ≢ own_label Pref second_tag second_text

-- The list has the owner's labels, each once, sorted by kind, language and text.
pub record AreLabelsOf (labels : Labels) (owner : ℕ) (own : List LabelData) : Type 0 where
  pub ordered : IsStrictlySortedBy data_cmp own
  pub each : (l : LabelData) → has_own own l ≡ set.contains labels (owned_label owner l)

-- The new list is sorted, and has the labels of the old one and those for which `is_new` is true.
pub record GainsLabels (old new : List LabelData) (is_new : LabelData → Bool) : Type 0 where
  pub order : IsStrictlySortedBy data_cmp new
  pub labels : (l : LabelData) → has_own new l ≡ (is_new l || has_own old l)
