-- Proves that no view has a float, and that a posting is assigned to the target of its last move.
use Rattle.std.proofs.Common.{◌≡◌, ◌-◌, refl, ℕ, List, [], ◌∷◌, length, map, false, Some, None, Option, slice_get, ap}
use Rattle.std.proofs.Common.{subst, suc, arith}
use Rattle.serde_json.specs.Data.{Data, object, Members, no_members}
use Rattle.serde_json.specs.Written.{has_float}
use Rattle.thes_base.specs.declared.data.History.{History}
use Rattle.thes_base.specs.declared.data.Move.{Move}
use Rattle.thes_base.specs.Postings.{place_after_moves}
use Rattle.thes_base.specs.Views.{ConceptDetails}
use Rattle.thes_exchange.specs.ConceptMembers.{members_with_labels, members_with_links, members_with_facts}
use Rattle.thes_exchange.specs.PostingMembers.{members_with_posting}
use Rattle.thes_exchange.specs.ViewTexts.{number_data, number_or_null, array_data, tagged_data, mapping_data}
use Rattle.thes_exchange.specs.ViewTexts.{typed_data, move_data, row_data, concept_data, postings_data, posting_data}

list_has_none : {A : Type 0} (show : A → Data) → ((x : A) → has_float (show x) ≡ false) → (xs : List A)
    → has_float (array_data show xs) ≡ false
list_has_none show none [] = refl
list_has_none show none (x ∷ xs) = rw (none x) (list_has_none show none xs)

map_map : {A B C : Type 0} (f : A → B) (g : B → C) (xs : List A) → map g (map f xs) ≡ map (λ x. g (f x)) xs
map_map f g [] = refl
map_map f g (x ∷ xs) = ap (λ ys. g (f x) ∷ ys) (map_map f g xs)

-- Converting each element as it is shown makes the same array as converting all elements first.
pub array_of_converted : {A B : Type 0} (convert : A → B) (show : B → Data) (xs : List A) → array_data
    (λ x. show (convert x)) xs ≡ array_data show (map convert xs)
array_of_converted convert show xs = rw (map_map convert show xs) refl

or_null_has_none : (n : Option ℕ) → has_float (number_or_null n) ≡ false
or_null_has_none None = refl
or_null_has_none (Some n) = refl

-- The view of a concept has no float.
pub concept_has_no_float : (c : ConceptDetails) → has_float (concept_data c) ≡ false
unfolding concept_data
concept_has_no_float c =
    rw (
      list_has_none tagged_data (λ x. refl) c.alt,
      list_has_none number_data (λ x. refl) c.broader,
      list_has_none number_data (λ x. refl) c.collections,
      list_has_none tagged_data (λ x. refl) c.hidden,
      list_has_none mapping_data (λ x. refl) c.mappings,
      list_has_none number_data (λ x. refl) c.narrower,
      list_has_none tagged_data (λ x. refl) c.pref,
      list_has_none number_data (λ x. refl) c.related,
      or_null_has_none c.replaced,
      or_null_has_none c.scheme,
      list_has_none tagged_data (λ x. refl) c.scope,
      list_has_none typed_data (λ x. refl) c.typed,
    ) refl

pub postings_have_no_float : (hs : List History) → has_float (postings_data hs) ≡ false
postings_have_no_float hs = rw (list_has_none row_data (λ h. refl) hs) refl

pub posting_has_no_float : (h : History) → has_float (posting_data h) ≡ false
posting_has_no_float h = rw (list_has_none move_data (λ m. refl) h.moves) refl

-- The members of a concept's view, put in group by group, are those of its JSON.
pub concept_members : (c : ConceptDetails) (empty labels links facts : Members) → empty ≡ no_members → labels
    ≡ members_with_labels c empty → links ≡ members_with_links c labels → facts ≡ members_with_facts c links
    → object facts ≡ concept_data c
unfolding concept_data members_with_labels members_with_links members_with_facts
concept_members c empty labels links facts e f g h = rw (h, g, f, e) refl

-- The members of a posting's view, put in one by one, are those of its JSON.
pub posting_members : (h : History) (empty all : Members) → empty ≡ no_members → all ≡ members_with_posting h empty
    → object all ≡ posting_data h
unfolding members_with_posting
posting_members h empty all e f = rw (f, e) refl

pub led_last : (from : ℕ) (moves : List Move) (m : Move) → slice_get moves (length moves - 1) ≡ Some m
    → place_after_moves from moves ≡ m.target
led_last from [] m e = absurd (cc)
led_last from (x ∷ []) m e = ap (λ (y : Move). y.target) (let same : x ≡ m = cc in same)
led_last from (x ∷ y ∷ moves) m e =
    led_last x.target (y ∷ moves) m (subst (λ n. slice_get (x ∷ y ∷ moves) n ≡ Some m) (let q : length (x ∷ y ∷ moves)
    - 1 ≡ suc (length (y ∷ moves) - 1) = omega arith in q) e)
