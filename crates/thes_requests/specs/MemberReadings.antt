-- Defines how the members of a request are read one by one and then joined, for contracts of
-- private functions.
use Rattle.std.specs.Prelude.{◌≡◌, ◌≢◌, ℕ, Bool, true, false, if◌then◌else◌, List, Option, None, Some, Result, Ok, Err}
use Rattle.std.specs.Prelude.{option_and_then, codes}
use Rattle.serde_json.specs.Data.{Data}
use Rattle.thes_base.specs.Forms.{stored_text}
use Rattle.thes_base.specs.Texts.{IsLabelText}
use Rattle.thes_base.specs.declared.data.LabelKind.{LabelKind}
use Rattle.thes_base.specs.declared.data.LabelKind.TheVariants as kinds
use Rattle.thes_base.specs.declared.data.LabelValue.{LabelValue}
use Rattle.thes_base.specs.declared.data.LabelValue.TheVariants.{Pref, Alt, Hidden, Scope}
use Rattle.thes_base.specs.declared.fault.FormFault.{FormFault}
use Rattle.thes_base.specs.declared.fault.FormFault.TheVariants.{BadShape, BadText}
use Rattle.thes_base.specs.declared.fault.ReadStop.{ReadStop}
use Rattle.thes_base.specs.declared.fault.ReadStop.TheVariants.{Form, OutOfMemory}
use Rattle.thes_requests.specs.Keywords.{label_kind_named}
use Rattle.thes_requests.specs.Members.{counted_members, text_in, boolean_in}
use Rattle.thes_requests.specs.Readings.{RequestReading, reads, Gives, ◌>>=◌, present_or_bad_shape, value_if}
use Rattle.thes_requests.specs.Requests.{Member, map_reading, command_in, query_in}
use Rattle.thes_requests.specs.declared.keywords.CommandKeyword.{CommandKeyword}
use Rattle.thes_requests.specs.declared.keywords.QueryKeyword.{QueryKeyword}
use Rattle.thes_requests.specs.declared.request.Request.{Request}
use Rattle.thes_requests.specs.declared.request.Request.TheVariants.{Do, Get}

-- Whether the stop is a form fault other than `BadShape`.
abbrev pub is_value_fault : ReadStop → Bool
is_value_fault (Form BadShape) = false
is_value_fault (Form f) = true
is_value_fault OutOfMemory = false

-- Both values, or the first stop; but if the second stop is `BadShape` or `OutOfMemory`, the second.
abbrev pub both : {A B : Type 0} → Result A ReadStop → Result B ReadStop → Result (A × B) ReadStop
both (Ok a) (Ok b) = Ok (a, b)
both (Ok a) (Err f) = Err f
both (Err e) (Ok b) = Err e
both (Err e) (Err f) = Err (if is_value_fault f then e else f)

-- The result if the object has the right number of members, else `BadShape`.
abbrev pub if_exact : {A : Type 0} → Bool → Result A ReadStop → Result A ReadStop
if_exact true r = r
if_exact false r = Err (Form BadShape)

-- The result is `BadShape` or `OutOfMemory`.
abbrev pub IsStoppedEarly : {A : Type 0} → Result A ReadStop → Type 0
IsStoppedEarly r = (e : ReadStop) × (r ≡ Err e) × (is_value_fault e ≡ false)

-- The result of reading a member: `BadShape` or `OutOfMemory` if the member is absent or of another type, else the
-- outcome of its form.
pub record ReadsMember {X A : Type 0} (m : Member X A) (d : Data) (r : Result A ReadStop) : Type 0 where
  pub absent : m.found d ≡ None → IsStoppedEarly r
  pub present : (x : X) → m.found d ≡ Some x → Gives (m.form x) r × (r ≢ Err (Form BadShape))

-- Both values, if both are present.
abbrev pub both_found : {X Y : Type 0} → Option X → Option Y → Option (X × Y)
both_found None o = None
both_found (Some x) None = None
both_found (Some x) (Some y) = Some (x, y)

-- Two members as one: both are looked up, and then each is read in its form.
abbrev pub pair_of : {X A Y B : Type 0} → Member X A → Member Y B → Member (X × Y) (A × B)
pair_of m n = record {
  found = λ d. both_found (m.found d) (n.found d);
  form = λ p. m.form p.0 >>= (λ a. n.form p.1 >>= (λ b. reads (a, b)));
}

-- A row of the table of requests, with one member besides `do` or `get`, for an object of `count`
-- names.
abbrev pub row : {X A C : Type 0} → ℕ → (A → C) → Member X A → Data → RequestReading C
row count makes m d =
    present_or_bad_shape (counted_members count d) >>= (λ _. present_or_bad_shape (m.found d) >>= (λ x. m.form x
    >>= (λ a. reads (makes a))))

-- The member `name`, a text of a form, converted to lower case if `lowered`.
abbrev pub text_member : (List ℕ → Type 0) → FormFault → Bool → List ℕ → Member (List ℕ) (List ℕ)
text_member is_form fault lowered name = record {
  found = text_in name;
  form = λ text. value_if (is_form text) fault (stored_text lowered text);
}

-- The member `name`, a Boolean of any value.
abbrev pub boolean_member : List ℕ → Member Bool Bool
boolean_member name = record { found = boolean_in name; form = reads }

-- The value of a label of this kind, with this text.
abbrev pub label_value_of : LabelKind → List ℕ → LabelValue
label_value_of kinds.Pref text = Pref text
label_value_of kinds.Alt text = Alt text
label_value_of kinds.Hidden text = Hidden text
label_value_of kinds.Scope text = Scope text

-- The members `kind` and `text`, the value of a label.
abbrev pub a_label_value : Member (LabelKind × List ℕ) LabelValue
a_label_value = record {
  found = λ d. both_found (option_and_then label_kind_named (text_in (codes "kind") d)) (text_in (codes "text") d);
  form = λ p. value_if (IsLabelText p.0 p.1) BadText (label_value_of p.0 p.1);
}

-- Reads a request whose member `do` is this keyword; `BadShape` if `do` names no command.
abbrev pub do_request : Option CommandKeyword → Data → RequestReading Request
do_request verb d = present_or_bad_shape verb >>= (λ v. map_reading Do (command_in v d))

-- Reads a request whose member `get` is this keyword; `BadShape` if `get` names no query.
abbrev pub get_request : Option QueryKeyword → Data → RequestReading Request
get_request noun d = present_or_bad_shape noun >>= (λ n. map_reading Get (query_in n d))
