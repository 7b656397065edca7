-- The forms of the texts in labels, requests and states.
use Rattle.std.specs.Prelude.{◌≡◌, true, Some}
use Rattle.thes_base.specs.Types.{Tag, Text, Iri, Key, RecordName, Number}
use Rattle.std.specs.FinSet as set
use Rattle.std.specs.FinMap as dict
use Rattle.thes_base.specs.declared.data.LabelKind.{LabelKind}
use Rattle.thes_base.specs.declared.data.LabelKind.TheVariants.{Pref, Alt, Hidden, Scope}
use Rattle.thes_base.specs.declared.data.History.{History}
use Rattle.thes_base.specs.declared.request.Command.{Command}
use Rattle.thes_base.specs.declared.request.Command.TheVariants as request
use Rattle.thes_base.specs.Forms.{IsStoredTag, IsText, IsNote, IsIri, IsBase, IsKey, IsRecordName}
use Rattle.thes_base.specs.Resources.{entry_at}
use Rattle.thes_base.specs.Labels.{Label}
use Rattle.thes_base.specs.State.{State}

-- The text has the form for a label of the kind: that of a note for a scope note, or else that of a label.
abbrev pub IsLabelText : LabelKind → Text → Type 0
IsLabelText Pref text = IsText text
IsLabelText Alt text = IsText text
IsLabelText Hidden text = IsText text
IsLabelText Scope text = IsNote text

-- The tag and the text of a label of the kind have their forms.
pub record IsLabelForm (kind : LabelKind) (tag : Tag) (text : Text) : Type 0 where
  pub tag_form : IsStoredTag tag
  pub text_form : IsLabelText kind text

-- The key and the record name of a posting have their forms.
pub record IsPostingForm (key : Key) (rec : RecordName) : Type 0 where
  pub key_form : IsKey key
  pub rec_form : IsRecordName rec

-- Each text of the request has its form.
abbrev pub CommandHasForms : Command → Type 0
CommandHasForms (request.Scheme tag text) = IsLabelForm Pref tag text
CommandHasForms (request.Concept scheme tag text) = IsLabelForm Pref tag text
CommandHasForms (request.Collection scheme tag text) = IsLabelForm Pref tag text
CommandHasForms (request.Outside iri) = IsIri iri
CommandHasForms (request.AddLabel owner l) = IsLabelForm l.kind l.tag l.text
CommandHasForms (request.DropLabel owner l) = IsLabelForm l.kind l.tag l.text
CommandHasForms (request.Relabel owner tag text keep) = IsLabelForm Pref tag text
CommandHasForms (request.Link kind a b) = Unit {0}
CommandHasForms (request.Unlink kind a b) = Unit {0}
CommandHasForms (request.Deprecate concept) = Unit {0}
CommandHasForms (request.Merge source target) = Unit {0}
CommandHasForms (request.Split source tag text postings) = IsLabelForm Pref tag text
CommandHasForms (request.Post key rec concept) = IsPostingForm key rec
CommandHasForms (request.Withdraw posting) = Unit {0}

-- Each text of the state has its form, and the base has the form of a base.
pub record StateHasForms (base : Iri) (s : State) : Type 0 where
  pub base_form : IsBase base
  pub iris : (n : Number) (iri : Iri) → dict.get s.iris n ≡ Some iri → IsIri iri
  pub labels : (l : Label) → set.contains s.labels l ≡ true → IsLabelForm l.kind l.tag l.text
  pub postings : (n : Number) (h : History) → entry_at s.histories n ≡ Some h → IsPostingForm h.key h.rec

-- The texts of the state and the base have their forms: `StateHasForms`, as one fact that proof search doesn't take
-- apart.
unfoldable pub HasLegalTexts : Iri → State → Type 0
HasLegalTexts base s = StateHasForms base s
