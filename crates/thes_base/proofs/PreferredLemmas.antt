-- The look-up of an owner's preferred label in a tag finds one exactly when the owner has one.
use Rattle.std.proofs.Common.{◌≡◌, ◌⊎◌, ℕ, List, [], ◌∷◌, refl, sym, ap, ◌∙◌, subst, inl, inr, Bool, true, false}
use Rattle.std.proofs.Common.{◌&&◌, eqb-true, eq-eqb, cond, Contains}
use Rattle.std.specs.Prelude.{Option, None, Some, find, option_map, ◌==◌}
use Rattle.std.specs.Ordering.{nat_cmp, is_eq}
use Rattle.std.specs.Cmp.{Equal-is, tied_itself}
use Rattle.std.specs.Cmp.Lexicographic.{slice_cmp}
use Rattle.std.proofs.lemmas.Cmp.{nat_list_cmp_total}
use Rattle.std.proofs.lemmas.Map.Lookups.{exact_bytes}
use Rattle.std.specs.FinSet as set
use Rattle.std.proofs.lemmas.Bool.{cases_Bool, both_ways, and_parts, and_from}
use Rattle.thes_base.specs.declared.data.LabelKind.{LabelKind}
use Rattle.thes_base.specs.declared.data.LabelKind.TheVariants.{Pref, Alt, Hidden, Scope}
use Rattle.thes_base.specs.Labels.{Label, Labels, HasLabel, label_kind_no, is_preferred_label_in, preferred_label_in}
use Rattle.thes_base.specs.Changes.{label}
use Rattle.thes_base.proofs.ListMemberLemmas.{Contains-none, Contains-head, Contains-later, Contains-cons_cases}
use Rattle.thes_base.proofs.SetMemberLemmas.{items_of, items_has}
use Rattle.thes_base.proofs.LabelSetLemmas.{labels_total, labels_exact}

found : {A : Type 0} → (test : A → Bool) (xs : List A) (x : A) → find test xs ≡ Some x → Contains xs x × (test x ≡ true)
found test [] x e = absurd (cc)
found {A} test (y ∷ xs) x e = go (λ is. let r = found test xs x is in (Contains-later y xs x r.0, r.1)) (test y) refl e
  where
    go : (find test xs ≡ Some x → Contains (y ∷ xs) x × (test x ≡ true)) → (b : Bool) → test y ≡ b
        → cond b (Some y) (find test xs) ≡ Some x → Contains (y ∷ xs) x × (test x ≡ true)
    go again true hit is =
        let same : y ≡ x = cc in
        (subst (λ (z : A). Contains (y ∷ xs) z) same (Contains-head y xs), ap test (sym same) ∙ hit)
    go again false miss is = again is

find_some : {A : Type 0} → (test : A → Bool) (xs : List A) (x : A) → Contains xs x → test x ≡ true → (y : A)
    × (find test xs ≡ Some y)
find_some test [] x h e = absurd (Contains-none x h)
find_some {A} test (y ∷ ys) x h e = go (λ later. find_some test ys x later e) (Contains-cons_cases y ys x h)
    (cases_Bool (test y))
  where
    go : (Contains ys x → (z : A) × (find test ys ≡ Some z)) → (y ≡ x) ⊎ Contains ys x → (test y ≡ true)
        ⊎ (test y ≡ false) → (z : A) × (cond (test y) (Some y) (find test ys) ≡ Some z)
    go again h (inl hit) = (y, ap (λ b. cond b (Some y) (find test ys)) hit)
    go again (inl is) (inr miss) = absurd (both_ways (test y) miss (ap test is ∙ e))
    go again (inr later) (inr miss) = let next = again later in
        (next.0, ap (λ b. cond b (Some y) (find test ys)) miss ∙ next.1)

-- If the look-up finds a text, the owner has it as a preferred label in the tag.
pub preferred_found : (labels : Labels) (owner : ℕ) (tag text : List ℕ) → preferred_label_in labels owner tag
    ≡ Some text → HasLabel labels owner Pref tag text
preferred_found labels owner tag text e = go (find (is_preferred_label_in owner tag) (set.items labels)) refl e
  where
    kind_one : (k : LabelKind) → (label_kind_no k == 1) ≡ true → k ≡ Pref
    kind_one Pref e = refl
    kind_one Alt e = absurd (cc)
    kind_one Hidden e = absurd (cc)
    kind_one Scope e = absurd (cc)

    -- If the search finds a label, the owner has its text as a preferred label in the tag.
    go : (o : Option Label) → find (is_preferred_label_in owner tag) (set.items labels) ≡ o
        → option_map (λ (l : Label). l.text) o ≡ Some text → HasLabel labels owner Pref tag text
    go None is e = absurd (cc)
    go (Some l) is e =
        let f = found (is_preferred_label_in owner tag) (set.items labels) l is in
        let parts = and_parts (l.owner == owner) (label_kind_no l.kind == 1 && is_eq (slice_cmp nat_cmp l.tag tag))
        f.1 in
        let rest = and_parts (label_kind_no l.kind == 1) (is_eq (slice_cmp nat_cmp l.tag tag)) parts.1 in
        let o = eqb-true l.owner owner parts.0 in
        let k = kind_one l.kind rest.0 in
        let g = exact_bytes l.tag tag ((Equal-is (slice_cmp nat_cmp l.tag tag)).0 rest.1) in
        let w : l.text ≡ text = cc in
        subst (λ (x : Label). set.contains labels x ≡ true)
        (λ i. record { owner = o i; kind = k i; tag = g i; text = w i })
        (items_of labels_total labels_exact labels l f.0)

-- If the owner has a preferred label in the tag, one is found.
pub preferred_of_label : (labels : Labels) (owner : ℕ) (tag text : List ℕ) → HasLabel labels owner Pref tag text
    → (found : List ℕ) × (preferred_label_in labels owner tag ≡ Some found)
preferred_of_label labels owner tag text held =
    let passes : is_preferred_label_in owner tag (label owner Pref tag text) ≡ true =
    and_from _ _ (eq-eqb owner owner refl) (ap is_eq (tied_itself nat_list_cmp_total tag)) in
    let found = find_some (is_preferred_label_in owner tag) (set.items labels) (label owner Pref tag text)
    (items_has labels_total labels_exact labels _ held) passes in
    (found.0.text, ap (option_map (λ (l : Label). l.text)) found.1)
