-- Proves how the text of a list of answers grows with each answer.
use Rattle.std.proofs.Common.{arith, ◌≡◌, ◌∙◌, sym, ap, refl, ℕ, ◌+◌, ◌<◌, List, [], ◌∷◌, ◌++◌, length, map, take}
use Rattle.std.proofs.Common.{slice_index_or, append_assoc}
use Rattle.std.proofs.lemmas.List.{map-append, length-map, length-take, take_more}
use Rattle.std.specs.List.{join_with_byte}
use Rattle.thes_base.specs.declared.request.Answer.{Answer}
use Rattle.thes_requests.specs.PlanTexts.{item_text, items_text, separator_before}

pub join_more : (xs : List (List ℕ)) (x : List ℕ) → join_with_byte 44 (xs ++ x ∷ [])
    ≡ join_with_byte 44 xs ++ (separator_before (length xs) ++ x)
join_more [] x = refl
join_more (y ∷ []) x = refl
join_more (y ∷ z ∷ ys) x =
    ap (λ (t : List ℕ). y ++ 44 ∷ t) (join_more (z ∷ ys) x)
    ∙ sym (append_assoc y (44 ∷ join_with_byte 44 (z ∷ ys)) (44 ∷ x))

items_more : (xs : List Answer) (a : Answer) → items_text (xs ++ a ∷ [])
    ≡ items_text xs ++ (separator_before (length xs) ++ item_text a)
items_more xs a = rw (map-append item_text xs (a ∷ [])) (join_more (map item_text xs) (item_text a)
    ∙ ap (λ (n : ℕ). items_text xs ++ (separator_before n ++ item_text a)) (length-map xs item_text))

-- One more answer adds a separator and its own text.
pub items_next : (answers : List Answer) (i : ℕ) (z : Answer) (old before between after : List ℕ)
    → i < length answers → before ≡ old ++ items_text (take i answers) → between ≡ before ++ separator_before i
    → after ≡ between ++ item_text (slice_index_or answers i z) → after ≡ old ++ items_text (take (i + 1) answers)
items_next answers i z old before between after h b s e =
    let a = slice_index_or answers i z in
    let len : length (take i answers) ≡ i = length-take i answers ∙ omega (arith, h) in
    let text = ap items_text (take_more answers i z h) ∙ items_more (take i answers) a in
    rw (e, s, b, text, len) (append_assoc (old ++ items_text (take i answers)) (separator_before i) (item_text a)
    ∙ append_assoc old (items_text (take i answers)) (separator_before i ++ item_text a))
