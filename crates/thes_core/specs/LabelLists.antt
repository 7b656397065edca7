-- The labels of one kind, as the answer to a query of a concept lists them.
use Rattle.std.specs.Prelude.{◌==◌, Bool}
use Rattle.thes_base.specs.declared.data.LabelKind.{LabelKind}
use Rattle.thes_base.specs.Data.{LabelData}
use Rattle.thes_base.specs.Labels.{label_kind_no}
use Rattle.thes_base.specs.Views.{TaggedText}

-- The language and text of a label, without its kind.
abbrev pub tagged_text : LabelData → TaggedText
tagged_text l = record { tag = l.tag; text = l.text }

-- Whether the label is of the kind.
abbrev pub is_of_kind : LabelKind → LabelData → Bool
is_of_kind kind l = label_kind_no l.kind == label_kind_no kind
