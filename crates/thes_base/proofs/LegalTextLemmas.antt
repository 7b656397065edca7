-- A request whose texts have their forms keeps the forms of the texts of the state.
use Rattle.std.proofs.lemmas.Grind.{common_steps}
use Rattle.std.proofs.Common.{arith}
use Rattle.std.proofs.Common.{◌≡◌, ◌⊎◌, ℕ, ◌+◌, List, [], ◌∷◌, ◌++◌, refl, sym, subst, inl, inr, true}
use Rattle.std.specs.Prelude.{Option, None, Some, Bool, count_by}
use Rattle.std.specs.FinSet as set
use Rattle.std.specs.FinMap as dict
use Rattle.thes_base.specs.declared.data.LabelKind.{LabelKind}
use Rattle.thes_base.specs.declared.data.LabelKind.TheVariants.{Pref, Alt, Hidden, Scope}
use Rattle.thes_base.specs.declared.data.Resource.{Resource}
use Rattle.thes_base.specs.declared.data.History.{History}
use Rattle.thes_base.specs.declared.request.Command.{Command}
use Rattle.thes_base.specs.declared.request.Command.TheVariants as request
use Rattle.thes_base.specs.declared.request.Answer.{Answer}
use Rattle.thes_base.specs.Forms.{IsBase, IsIri}
use Rattle.thes_base.specs.Resources.{Iris, entry_at, set_entry_at}
use Rattle.thes_base.specs.Labels.{Label, Labels, preferred_label_in, is_lexical_kind}
use Rattle.thes_base.specs.Postings.{history_after_withdrawal, histories_after_moves}
use Rattle.thes_base.specs.State.{State, empty_state}
use Rattle.thes_base.specs.Texts.{IsLabelForm, IsPostingForm, CommandHasForms, StateHasForms}
use Rattle.thes_base.specs.Changes.{label, next_number, replace_preferred, copied_label_kind, copied_labels}
use Rattle.thes_base.specs.Refusals.{Setting}
use Rattle.thes_base.specs.Machine.{Step, next_state, owned_label}
use Rattle.thes_base.proofs.NumberedLemmas.{none_at, numbered_bound, push_cases, set_cases}
use Rattle.thes_base.proofs.MoveLemmas.{IsAfterMove, numbered_moved}
use Rattle.thes_base.proofs.LabelSetLemmas.{inserted_cases, no_label, removed_cases}
use Rattle.thes_base.proofs.ReplacePreferredLemmas.{renamed_cases}
use Rattle.thes_base.proofs.CopiedLabelLemmas.{union_cases}
use Rattle.thes_base.proofs.PreferredLemmas.{preferred_found}
use Rattle.thes_base.proofs.LegalResourceLemmas.{iri_cases, no_iri}

-- The tag and text of the label have their forms.
abbrev IsFormed : Label → Type 0
IsFormed l = IsLabelForm l.kind l.tag l.text

-- The tags and texts of all labels have their forms.
abbrev AreFormed : Labels → Type 0
AreFormed labels = (l : Label) → set.contains labels l ≡ true → IsFormed l

-- The key and record name of each posting have their forms.
abbrev ArePostingForms : List History → Type 0
ArePostingForms hs = (n : ℕ) (h : History) → entry_at hs n ≡ Some h → IsPostingForm h.key h.rec

formed_insert : (labels : Labels) (l : Label) → IsFormed l → AreFormed labels → AreFormed (set.insert labels l)
formed_insert labels l form each q held = elim (inserted_cases labels l q held)
    [ inl is ↦ subst IsFormed (sym is) form | inr old ↦ each q old ]

-- A tag and a text with the forms for a preferred label have those for an alternative label.
alternative : (tag text : List ℕ) → IsLabelForm Pref tag text → IsLabelForm Alt tag text
alternative tag text form = record { tag_form = form.tag_form; text_form = form.text_form }

formed_renamed : (labels : Labels) (owner : ℕ) (tag text : List ℕ) (keep : Bool) → IsLabelForm Pref tag text
    → AreFormed labels → (o : Option (List ℕ)) → preferred_label_in labels owner tag ≡ o
    → AreFormed (elim o [ None ↦ labels | Some old ↦ replace_preferred owner tag text keep old labels ])
formed_renamed labels owner tag text keep form each None none = each
formed_renamed labels owner tag text keep form each (Some old) is =
    λ q held. elim (renamed_cases labels owner tag text old keep q held) [
      | inl new ↦ subst IsFormed (sym new) form
      | inr (inl (_, kept)) ↦ subst IsFormed (sym kept)
          (alternative tag old (each (label owner Pref tag old) (preferred_found labels owner tag old is)))
      | inr (inr before) ↦ each q before.1
    ]

-- The copy of a lexical label has the forms for its kind.
taken_form : (kind : LabelKind) (tag text : List ℕ) → is_lexical_kind kind ≡ true → IsLabelForm kind tag text
    → IsLabelForm (copied_label_kind kind) tag text
taken_form Pref tag text name form = alternative tag text form
taken_form Alt tag text name form = form
taken_form Hidden tag text name form = form
taken_form Scope tag text name form = form

formed_merged : (labels : Labels) (source target : ℕ) → AreFormed labels
    → AreFormed (set.union labels (copied_labels source target labels))
formed_merged labels source target each q held = elim (union_cases [] labels source target q held) [
  | inl old ↦ each q old
  | inr new ↦ subst IsFormed (sym new.2) (taken_form new.0.kind new.0.tag new.0.text new.1.name (each new.0 new.1.held))
]

iris_insert : (iris : Iris) (n : ℕ) (iri : List ℕ) → IsIri iri → ((m : ℕ) (x : List ℕ) → dict.get iris m ≡ Some x
    → IsIri x) → (m : ℕ) (x : List ℕ) → dict.get (dict.insert iris n iri) m ≡ Some x → IsIri x
iris_insert iris n iri form each m x e = grind (arith, common_steps, iri_cases)

forms_pushed : (hs : List History) (new : History) → IsPostingForm new.key new.rec → ArePostingForms hs
    → ArePostingForms (hs ++ new ∷ [])
forms_pushed hs new form each n h e =
    elim (push_cases hs new h n e) [
      | inl old ↦ each n h old
      | inr is ↦ subst (λ (x : History). IsPostingForm x.key x.rec) (sym is.1) form
    ]

-- The moves of a request change neither the key nor the record name of a posting.
module _ (passes : History → Bool) (target number : ℕ) (hs : List History) (each : ArePostingForms hs) where
  forms_at : (n : ℕ) (h new : History) → entry_at hs n ≡ Some h → IsAfterMove passes target number
      (number + count_by passes hs) h new → IsPostingForm new.key new.rec
  forms_at n h new at (inl (hit, k, least, most, is)) = subst (λ (x : History). IsPostingForm x.key x.rec) (sym is)
      (each n h at)
  forms_at n h new at (inr (miss, is)) = subst (λ (x : History). IsPostingForm x.key x.rec) (sym is) (each n h at)

  forms_moved : (n : ℕ) (new : History) → entry_at (histories_after_moves passes target number hs) n ≡ Some new
      → IsPostingForm new.key new.rec
  forms_moved n new e = let was = numbered_moved passes target number hs n new e in forms_at n was.0 new was.1 was.2

forms_withdrawn : (hs : List History) (posting : ℕ) → ArePostingForms hs → (o : Option History) → entry_at hs posting
    ≡ o → ArePostingForms (elim o [ None ↦ hs | Some h ↦ set_entry_at hs posting (history_after_withdrawal h) ])
forms_withdrawn hs posting each None none = each
forms_withdrawn hs posting each (Some h) at =
    λ n g e. elim (set_cases hs (history_after_withdrawal h) g posting n (numbered_bound hs posting h at).0 e) [
      | inl here ↦ subst (λ (x : History). IsPostingForm x.key x.rec) (sym here.1) (each posting h at)
      | inr old ↦ each n g old.1
    ]

module _ (base : List ℕ) (s : State) (texts : StateHasForms base s) where
  with_labels : (resources : List Resource) (labels : Labels) → AreFormed labels
      → StateHasForms base (record s { resources = resources; labels = labels })
  with_labels resources labels each = grind (arith, common_steps)

  -- The texts of the next state have their forms.
  texts_next : (command : Command) → CommandHasForms command → StateHasForms base (next_state command s)
  texts_next (request.Scheme tag text) form =
      with_labels _ _ (formed_insert s.labels (label (next_number s) Pref tag text) form texts.labels)
  texts_next (request.Concept scheme tag text) form =
      with_labels _ _ (formed_insert s.labels (label (next_number s) Pref tag text) form texts.labels)
  texts_next (request.Collection scheme tag text) form =
      with_labels _ _ (formed_insert s.labels (label (next_number s) Pref tag text) form texts.labels)
  texts_next (request.Outside iri) form =
      record {
        base_form = texts.base_form;
        iris = iris_insert s.iris (next_number s) iri form texts.iris;
        labels =
            texts.labels;
        postings = texts.postings;
      }
  texts_next (request.AddLabel owner l) form =
      with_labels _ _ (formed_insert s.labels (owned_label owner l) form texts.labels)
  texts_next (request.DropLabel owner l) form =
      with_labels _ _ (λ q held. texts.labels q (removed_cases s.labels (owned_label owner l) q held).1)
  texts_next (request.Relabel owner tag text keep) form =
      with_labels _ _ (formed_renamed s.labels owner tag text keep form texts.labels
      (preferred_label_in s.labels owner tag) refl)
  texts_next (request.Link kind a b) form = record {
    base_form = texts.base_form;
    iris = texts.iris;
    labels =
        texts.labels;
    postings = texts.postings;
  }
  texts_next (request.Unlink kind a b) form = record {
    base_form = texts.base_form;
    iris = texts.iris;
    labels =
        texts.labels;
    postings = texts.postings;
  }
  texts_next (request.Deprecate concept) form = record {
    base_form = texts.base_form;
    iris = texts.iris;
    labels =
        texts.labels;
    postings = texts.postings;
  }
  texts_next (request.Merge source target) form = record {
    base_form = texts.base_form;
    iris = texts.iris;
    labels =
        formed_merged s.labels source target texts.labels;
    postings = forms_moved _ _ _ s.histories texts.postings;
  }
  texts_next (request.Split source tag text postings) form = record {
    base_form = texts.base_form;
    iris = texts.iris;
    labels = formed_insert s.labels (label (next_number s) Pref tag text) form texts.labels;
    postings = forms_moved _ _ _ s.histories texts.postings;
  }
  texts_next (request.Post key rec concept) form = record {
    base_form = texts.base_form;
    iris = texts.iris;
    labels =
        texts.labels;
    postings = forms_pushed s.histories _ form texts.postings;
  }
  texts_next (request.Withdraw posting) form = record {
    base_form = texts.base_form;
    iris = texts.iris;
    labels =
        texts.labels;
    postings = forms_withdrawn s.histories posting texts.postings (entry_at s.histories posting)
        refl;
  }

-- A request leaves the state unchanged, or leads to the next state.
step_either : (setting : Setting) (s t : State) (command : Command) (answer : Answer) → Step setting s command answer
    t → (t ≡ s) ⊎ (t ≡ next_state command s)
step_either setting s t command answer (inl (known, same)) = inl same
step_either setting s t command answer (inr (new, inl (r, row, is, same))) = inl same
step_either setting s t command answer (inr (new, inr (row, is, made))) = inr made

pub step_texts : (setting : Setting) (s t : State) (command : Command) (answer : Answer) → CommandHasForms command
    → StateHasForms setting.base s → Step setting s command answer t → StateHasForms setting.base t
step_texts setting s t command answer forms texts step = elim (step_either setting s t command answer step) [
  | inl same ↦ subst (StateHasForms setting.base) (sym same) texts
  | inr made ↦ subst (StateHasForms setting.base) (sym made) (texts_next setting.base s texts command forms)
]

-- The empty state has no text.
pub texts_empty : (base : List ℕ) → IsBase base → StateHasForms base empty_state
texts_empty base form = grind (arith, common_steps, no_iri, no_label, none_at)
