-- The labels that a merge copies to the target.
use Rattle.std.specs.Prelude.{◌≡◌, ℕ, List, map, filter, Bool, not, ◌&&◌, ◌||◌, nat_eq}
use Rattle.std.specs.Cmp.Lexicographic.{pointwise}
use Rattle.thes_base.specs.declared.data.LabelKind.TheVariants.{Pref, Alt, Hidden}
use Rattle.thes_base.specs.Data.{LabelData}
use Rattle.thes_base.specs.Labels.{Labels, is_lexical_kind}
use Rattle.thes_base.specs.Changes.{has_lexical_label, copied_label_kind}
use Rattle.thes_vocab.specs.OwnLabels.{own_label, has_own, AreLabelsOf}

-- Whether the label is lexical (preferred, alternative or hidden) and the target has no lexical label with its text and
-- language.
abbrev pub lacks_name : Labels → ℕ → LabelData → Bool
lacks_name labels target l = is_lexical_kind l.kind && not (has_lexical_label labels target l.tag l.text)

-- Whether an owner's list has the text in the language as a lexical label.
abbrev pub has_own_name : List LabelData → List ℕ → List ℕ → Bool
has_own_name own tag text =
    has_own own (own_label Pref tag text) || has_own own (own_label Alt tag text) || has_own own
    (own_label Hidden tag text)

-- Whether the label is lexical and has this language and text.
abbrev pub is_name : List ℕ → List ℕ → LabelData → Bool
is_name tag text l = pointwise nat_eq l.text text && (pointwise nat_eq l.tag tag && is_lexical_kind l.kind)

-- The copy of a label that a merge gives to its target: a preferred label becomes an alternative one.
abbrev pub merged_label : LabelData → LabelData
merged_label l = own_label (copied_label_kind l.kind) l.tag l.text

-- The list has exactly the copies of the source's lexical labels that the target lacks, in the order of these labels.
abbrev pub AreMissingLabels : Labels → (source target : ℕ) → List LabelData → Type 0
AreMissingLabels labels source target copies =
    (own : List LabelData) × AreLabelsOf labels source own
    × (copies ≡ map merged_label (filter (lacks_name labels target) own))
