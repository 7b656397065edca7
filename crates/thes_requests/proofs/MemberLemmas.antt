-- Proves how an array of numbers is read value by value, and that bytes are JSON exactly when they are UTF-8 and can be
-- parsed.
use Rattle.std.proofs.lemmas.Grind.{common_steps}
use Rattle.std.proofs.Common.{arith, ◌≡◌, ap, suc, refl, ℕ, List, [], ◌∷◌, length, Some, None, Option, option_map, ◌∙◌}
use Rattle.std.proofs.Common.{sym, map, take, drop, ◌++◌, ◌<◌, ◌+◌, slice_index_or, subst, add-one, drop-cons, Err}
use Rattle.std.proofs.Common.{IsUtf8}
use Rattle.std.proofs.Math.Seq.{take-suc}
use Rattle.std.proofs.lemmas.List.{map-append, length-map, get_or-map}
use Rattle.thes_base.specs.Forms.{IsNumber}
use Rattle.thes_base.specs.ReadResults.{IsReadResult}
use Rattle.thes_base.specs.declared.fault.FormFault.TheVariants.{BadNumber}
use Rattle.thes_base.specs.declared.fault.ReadStop.{ReadStop}
use Rattle.std.proofs.lemmas.Str.{is_utf8-from_IsUtf8, IsUtf8-from_is_utf8}
use Rattle.serde_json.specs.Data.{Data, Num}
use Rattle.serde_json.specs.Read.{read}
use Rattle.serde_json.specs.Find.{as_number}
use Rattle.serde_json.specs.View.{items_of}
use Rattle.thes_requests.specs.declared.tree.Value.{Value}
use Rattle.thes_requests.specs.Tree.{view, items_view}
use Rattle.thes_requests.specs.Members.{all_numbers}
use Rattle.thes_requests.specs.Requests.{json_in, whole_number, AreNumbers}

pub json_in-text : (bytes : List ℕ) (d : Data) → IsUtf8 bytes → read bytes ≡ Some d → json_in bytes ≡ Some d
json_in-text bytes d u r = rw (is_utf8-from_IsUtf8 bytes u, r) refl

pub json_in-none : (bytes : List ℕ) → (IsUtf8 bytes → read bytes ≡ None) → json_in bytes ≡ None
json_in-none bytes h = grind (arith, common_steps, IsUtf8-from_is_utf8)

-- The numbers of a prefix, followed by those of the rest.
abbrev join_numbers : Option (List Num) → Option (List Num) → Option (List Num)
join_numbers None o = None
join_numbers (Some ns) o = option_map (λ ms. ns ++ ms) o

join_numbers-cons : (n : Num) (o p : Option (List Num)) → option_map (λ ns. n ∷ ns) (join_numbers o p)
    ≡ join_numbers (option_map (λ ns. n ∷ ns) o) p
join_numbers-cons n o p = grind (arith, common_steps)

join_numbers-nil : (o : Option (List Num)) → join_numbers (Some []) o ≡ o
join_numbers-nil o = grind (arith, common_steps)

all_numbers-append : (ds es : List Data) → all_numbers (items_of (ds ++ es))
    ≡ join_numbers (all_numbers (items_of ds)) (all_numbers (items_of es))
all_numbers-append [] es = sym (join_numbers-nil (all_numbers (items_of es)))
all_numbers-append (d ∷ ds) es = grind (arith, common_steps, join_numbers-cons, all_numbers-append ds es)

-- A further number extends the list of numbers.
pub all_numbers-one : (ds : List Data) (d : Data) (ns : List Num) (n : Num) → all_numbers (items_of ds) ≡ Some ns
    → as_number d ≡ Some n → all_numbers (items_of (ds ++ d ∷ [])) ≡ Some (ns ++ n ∷ [])
all_numbers-one ds d ns n e f = rw (all_numbers-append ds (d ∷ []), e, f) refl

-- An array with a value that isn't a number isn't read as an array of numbers.
pub all_numbers-none : (ds : List Data) (d : Data) (es : List Data) (ns : List Num) → all_numbers (items_of ds)
    ≡ Some ns → as_number d ≡ None → all_numbers (items_of (ds ++ d ∷ es)) ≡ None
all_numbers-none ds d es ns e f = rw (all_numbers-append ds (d ∷ es), e, f) refl

-- A list is its prefix before an index, the element there, and the rest.
split_at_index : {A : Type 0} (xs : List A) (i : ℕ) (x : A) → i < length xs → x ≡ slice_index_or xs i x → xs
    ≡ take i xs ++ x ∷ drop (suc i) xs
split_at_index xs i x h e = grind (arith, common_steps, drop-cons)

-- If the value at the index is a number, it extends the list of numbers read before it.
pub numbers-step : (values : List Value) (i : ℕ) (v : Value) (ns : List Num) (n : Num) → i < length values → v
    ≡ slice_index_or values i v
    → all_numbers (items_view (take i values)) ≡ Some ns → as_number (view v) ≡ Some n
    → all_numbers (items_view (take (i + 1) values)) ≡ Some (ns ++ n ∷ [])
numbers-step values i v ns n h e f g = grind (arith, common_steps, add-one, take-suc, all_numbers-one)

pub numbers-stop : (values : List Value) (i : ℕ) (v : Value) (ns : List Num) → i < length values → v
    ≡ slice_index_or values i v
    → all_numbers (items_view (take i values)) ≡ Some ns → as_number (view v) ≡ None → all_numbers (items_view values)
    ≡ None
numbers-stop values i v ns h e f g =
    let P : List Value → Type 0 = λ vs. all_numbers (items_view vs) ≡ None in
    subst P (sym (split_at_index values i v h e)) (rw (map-append view (take i values) (v ∷ drop (suc i) values))
    (all_numbers-none (map view (take i values)) (view v) (map view (drop (suc i) values)) ns f g))

module _ {A : Type 0} (see : A → Num) (xs : List A) (i : ℕ) (x : A) (h : i < length xs)
    (e : x ≡ slice_index_or xs i x) where
  -- If all numbers are in range, so is each of them.
  number_among : AreNumbers (map whole_number (map see xs)) → IsNumber (whole_number (see x))
  number_among all =
      let short : i < length (map whole_number (map see xs)) = simp length-map h in
      let inner : i < length (map see xs) = simp length-map h in
      let at : slice_index_or (map whole_number (map see xs)) i 0 ≡ whole_number (see x) =
      get_or-map whole_number (map see xs) i (see x) 0 inner ∙ ap whole_number (get_or-map see xs i x (see x) h
      ∙ ap see (sym e)) in
      subst IsNumber at (all.each i 0 short)

  -- A number out of range makes the list `BadNumber`.
  pub not_numbers : (stop : ReadStop) → IsReadResult (IsNumber (whole_number (see x))) BadNumber
      (λ n. n ≡ whole_number (see x)) (Err stop)
      → IsReadResult (AreNumbers (map whole_number (map see xs))) BadNumber (λ ns. ns ≡ map whole_number (map see xs))
      (Err stop)
  not_numbers stop k = grind (arith, common_steps, number_among)
