-- Proves that a list of postings as JSON has no float.
use Rattle.std.proofs.Common.{◌≡◌, ◌∷◌, ◌++◌, [], List, Bool, true, false, cond, subst, sym}
use Rattle.std.specs.Prelude.{◌||◌}
use Rattle.serde_json.specs.View.{view, items_view}
use Rattle.serde_json.specs.Written.{has_float, items_have_float}
use Rattle.serde_json.specs.declared.value.Value.{Value}

-- A list without floats, with a value without floats appended, has no float.
no_float_append : (vs : List Value) (v : Value) → items_have_float (items_view vs) ≡ false → has_float (view v)
    ≡ false → items_have_float (items_view (vs ++ v ∷ [])) ≡ false
no_float_append [] v h e = rw e h
no_float_append (x ∷ vs) v h e = elim (has_float (view x)) as (λ (t : Bool). (t || items_have_float (items_view vs))
    ≡ false → (t || items_have_float (items_view (vs ++ v ∷ []))) ≡ false) [
      | true ↦ λ q. q
      | false ↦ λ q. no_float_append vs v q e
    ] h

-- A list without floats has none after a push, whether or not memory runs out.
pub no_float_after_push : (ok : Bool) (vs new : List Value) (v : Value) → items_have_float (items_view vs) ≡ false
    → has_float (view v) ≡ false → new ≡ cond ok (vs ++ v ∷ []) vs → items_have_float (items_view new) ≡ false
no_float_after_push true vs new v h e is = subst (λ (l : List Value). items_have_float (items_view l) ≡ false)
    (sym is) (no_float_append vs v h e)
no_float_after_push false vs new v h e is = subst (λ (l : List Value). items_have_float (items_view l) ≡ false)
    (sym is) h
