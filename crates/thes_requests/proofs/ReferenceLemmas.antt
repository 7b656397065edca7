-- Proves what replacing its references makes of a JSON value, and how references are read one by one.
use Rattle.std.proofs.lemmas.Grind.{common_steps}
use Rattle.std.proofs.Common.{arith, ◌≡◌, ◌∙◌, sym, ap, refl, ℕ, ◌*◌, ◌+◌, min, List, [], ◌∷◌, ◌++◌, map, take}
use Rattle.std.proofs.Common.{◌-◌, ◌<◌, length, slice_index_or, true, Option, Ordering, Less, Equal, Greater, is_eq, bytes_eq}
use Rattle.std.specs.Cmp.Lexicographic.{slice_cmp}
use Rattle.std.specs.Char.{digit_value, is_ascii_digit}
use Rattle.std.specs.List.{list_all}
use Rattle.std.specs.Ordering.{match_ordering, nat_cmp}
use Rattle.std.specs.Str.Parse.{digits_value, digits_value_after}
use Rattle.std.proofs.lemmas.List.{map-append, take_more}
use Rattle.std.proofs.lemmas.List.Folds.{list_all_at}
use Rattle.serde_json.specs.Data.{Data, item, Members, no_members, member, put}
use Rattle.serde_json.specs.View.{items_of}
use Rattle.thes_requests.specs.References.{greatest_place, is_place, item_references, items_without_references}
use Rattle.thes_requests.specs.References.{member_without_references, members_without_references, reference_in}
use Rattle.thes_requests.specs.References.{without_reference}
use Rattle.thes_requests.specs.Tree.{view, items_view, members_view}
use Rattle.thes_requests.specs.declared.tree.Value.{Value}
use Rattle.thes_requests.proofs.TreeLemmas.{Entry, members_view-push}
use Rattle.std.proofs.lemmas.Map.Text.{is_eq-slice_cmp}
use Rattle.std.proofs.lemmas.Slice.Eq.{bytes_eq-Decides}

abbrev order : List ℕ → List ℕ → Ordering
order = slice_cmp nat_cmp

-- Names that compare as equal are equal.
same_name : (k l : List ℕ) → order k l ≡ Equal → k ≡ l
same_name k l e =
    let same : bytes_eq k l ≡ true = sym (is_eq-slice_cmp k l) ∙ ap is_eq e in
    grind (arith, common_steps, bytes_eq-Decides)

-- Whether a member's references are replaced before or after it is put into an object, the members are the same.
without_put : (k : List ℕ) (d : Data) (ms : Members) → members_without_references (put k d ms)
    ≡ put k (member_without_references k d) (members_without_references ms)
without_put k d no_members = refl
without_put k d (member l e ms) = there (order k l) refl (without_put k d ms)
  where
    there : (o : Ordering) → order k l ≡ o → members_without_references (put k d ms)
        ≡ put k (member_without_references k d) (members_without_references ms)
        → members_without_references
        (match_ordering o (member k d (member l e ms)) (member l d ms) (member l e (put k d ms)))
        ≡ match_ordering o
        (member k (member_without_references k d) (member l (member_without_references l e)
        (members_without_references ms)))
        (member l (member_without_references k d) (members_without_references ms))
        (member l (member_without_references l e) (put k (member_without_references k d)
        (members_without_references ms)))
    there Less h rest = refl
    there Equal h rest = ap (λ (n : List ℕ). member l (member_without_references n d) (members_without_references ms))
        (sym (same_name k l h))
    there Greater h rest = ap (member l (member_without_references l e)) rest

-- One more member is put in, with its references replaced.
pub without_push : (done found : List Entry) (e : Entry) (d : Data) → members_view found
    ≡ members_without_references (members_view done) → d ≡ member_without_references e.0.now (view e.1)
    → put e.0.now d (members_view found) ≡ members_without_references (members_view (done ++ e ∷ []))
without_push done found e d before value =
    rw (members_view-push done e, without_put e.0.now (view e.1) (members_view done), before, value) refl

-- References are replaced in the items of an array, and read from them, one by one.

pub items_without : (ds : List Data) → items_without_references (items_of ds) ≡ items_of (map without_reference ds)
items_without [] = refl
items_without (d ∷ ds) = ap (item (without_reference d)) (items_without ds)

pub references_of : (ds : List Data) → item_references (items_of ds) ≡ map reference_in ds
references_of [] = refl
references_of (d ∷ ds) = ap (λ rs. reference_in d ∷ rs) (references_of ds)

pub references_next : (values : List Value) (i : ℕ) (v : Value) → i < length values → v ≡ slice_index_or values i v
    → item_references (items_view (take (i + 1) values))
    ≡ item_references (items_view (take i values)) ++ reference_in (view v) ∷ []
references_next values i v h is =
    let next : take (i + 1) values ≡ take i values ++ v ∷ [] = take_more values i v h
    ∙ ap (λ (x : Value). take i values ++ x ∷ []) (sym is) in
    ap (λ (vs : List Value). item_references (items_view vs)) next
    ∙ (references_of (map view (take i values ++ v ∷ []))
    ∙ (ap (map reference_in) (map-append view (take i values) (v ∷ []))
    ∙ (map-append reference_in (map view (take i values)) (view v ∷ [])
    ∙ ap (λ (rs : List (Option ℕ)). rs ++ reference_in (view v) ∷ [])
    (sym (references_of (map view (take i values)))))))

-- The value of digits, or the greatest place if that is less.

after_one : (radix n : ℕ) (ds : List ℕ) (d : ℕ) → digits_value_after radix n (ds ++ d ∷ [])
    ≡ digits_value_after radix n ds * radix + digit_value d
after_one radix n [] d = refl
after_one radix n (c ∷ ds) d = after_one radix (n * radix + digit_value c) ds d

ascii_digit_value : (d : ℕ) → is_ascii_digit d ≡ true → digit_value d ≡ d - 48
ascii_digit_value d h = grind (arith, common_steps)

digit_at : (ds : List ℕ) (i : ℕ) → is_place ds ≡ true → i < length ds
    → digit_value (slice_index_or ds i 0) ≡ slice_index_or ds i 0 - 48
digit_at ds i h within =
    let all : list_all is_ascii_digit ds ≡ true = grind (arith, common_steps) in
    let at : is_ascii_digit (slice_index_or ds i 0) ≡ true = grind (arith, common_steps, list_all_at) in
    ascii_digit_value (slice_index_or ds i 0) at

pub capped_next : (ds : List ℕ) (i value more : ℕ) → is_place ds ≡ true → i < length ds
    → value ≡ min (digits_value 10 (take i ds)) greatest_place
    → more ≡ min (value * 10 + (slice_index_or ds i 0 - 48)) greatest_place
    → more ≡ min (digits_value 10 (take (i + 1) ds)) greatest_place
capped_next ds i value more place h v m =
    let whole = ap (digits_value 10) (take_more ds i 0 h) ∙ after_one 10 0 (take i ds) (slice_index_or ds i 0) in
    let digit = digit_at ds i place h in
    omega (arith, whole, digit, v, m)
