-- Proves that values and members without references stay unchanged when references are replaced.
use Rattle.std.proofs.Common.{◌≡◌, ◌<◌, ◌+◌, ◌∙◌, refl, sym, ap, ap₂, ℕ, List, [], ◌∷◌, ◌++◌, take, length, slice_index_or}
use Rattle.std.proofs.Common.{Bool, true, false, Option, None, Some}
use Rattle.std.specs.Prelude.{is_some, if◌then◌else◌}
use Rattle.std.specs.List.{list_any}
use Rattle.std.proofs.lemmas.Bool.{or_parts}
use Rattle.std.proofs.lemmas.List.{take_more}
use Rattle.serde_json.specs.Data.{Data, array, item}
use Rattle.thes_requests.specs.References.{reference_in, one_or, without_reference, items_without_references}
use Rattle.thes_requests.specs.References.{list_without_references, member_without_references, members_without_references}
use Rattle.thes_requests.specs.Tree.{view, items_view, members_view}
use Rattle.thes_requests.specs.declared.tree.Value.{Value}
use Rattle.thes_requests.proofs.ReferenceLemmas.{without_push}
use Rattle.thes_requests.proofs.TreeLemmas.{Entry, members_view-push}

-- A value that isn't a reference is unchanged.
one_or_none : (d : Data) (reference : Option ℕ) → is_some reference ≡ false → one_or d reference ≡ d
one_or_none d None h = refl
one_or_none d (Some place) h = absurd (cc)

pub value_unchanged : (d : Data) → is_some (reference_in d) ≡ false → without_reference d ≡ d
value_unchanged d h = one_or_none d (reference_in d) h

pub items_unchanged : (vs : List Value) → list_any (λ v. is_some (reference_in (view v))) vs ≡ false
    → items_without_references (items_view vs) ≡ items_view vs
items_unchanged [] h = refl
items_unchanged (v ∷ vs) h =
    let both = or_parts (is_some (reference_in (view v))) (list_any (λ v. is_some (reference_in (view v))) vs) h in
    ap₂ item (value_unchanged (view v) both.0) (items_unchanged vs both.1)

-- A value without references is unchanged as a member of any name.
pub member_unchanged : (d : Data) → without_reference d ≡ d → list_without_references d ≡ d → (name : List ℕ)
    → member_without_references name d ≡ d
member_unchanged d value list name = there _ _
  where
    there : (a b : Bool) → (if a then without_reference d else if b then list_without_references d else d) ≡ d
    there true b = value
    there false true = list
    there false false = refl

-- An array without references is unchanged as a member of any name.
pub array_unchanged : (vs : List Value) → list_any (λ v. is_some (reference_in (view v))) vs ≡ false
    → (name : List ℕ) → member_without_references name (array (items_view vs)) ≡ array (items_view vs)
array_unchanged vs none name = member_unchanged (array (items_view vs)) refl (ap array (items_unchanged vs none)) name

-- One more member without references leaves the members unchanged.
pub members_unchanged : (ms : List Entry) (i : ℕ) (e : Entry) → i < length ms → e ≡ slice_index_or ms i e
    → members_without_references (members_view (take i ms)) ≡ members_view (take i ms)
    → ((name : List ℕ) → member_without_references name (view e.1) ≡ view e.1)
    → members_without_references (members_view (take (i + 1) ms)) ≡ members_view (take (i + 1) ms)
members_unchanged ms i e h is before stays =
    let next : take (i + 1) ms ≡ take i ms ++ e ∷ [] = take_more ms i e h
    ∙ ap (λ (x : Entry). take i ms ++ x ∷ []) (sym is) in
    let pushed = without_push (take i ms) (take i ms) e (view e.1) (sym before) (sym (stays e.0.now)) in
    ap (λ (es : List Entry). members_without_references (members_view es)) next
    ∙ sym pushed
    ∙ sym (members_view-push (take i ms) e)
    ∙ sym (ap members_view next)
