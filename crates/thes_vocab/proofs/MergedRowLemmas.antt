-- The target's row after a merge, and the number of labels copied to it, are those of the machine's definition.
use Rattle.std.proofs.lemmas.Grind.{common_steps}
use Rattle.std.proofs.Common.{◌≡◌, ◌⊎◌, inl, inr, ℕ, ◌+◌, length, List, [], ◌∷◌, refl, sym, ap, ◌∙◌}
use Rattle.std.proofs.Common.{subst, arith, Bool, true, false, not, ◌&&◌, ◌||◌, cond, map, eqb-true, eq-eqb}
use Rattle.std.specs.Prelude.{filter, if◌then◌else◌, ◌==◌}
use Rattle.std.specs.declared.cmp.Ordering.{Ordering}
use Rattle.std.specs.declared.cmp.Ordering.TheVariants.{Less}
use Rattle.std.specs.Ordering.{nat_cmp, eq_by_cmp, is_eq}
use Rattle.std.specs.Cmp.{nat_cmp_total, both_ways, tied_itself, Equal-is}
use Rattle.std.specs.List.{list_any, AllByRecursion}
use Rattle.std.specs.List.Sorted.{IsStrictlySortedBy}
use Rattle.std.proofs.lemmas.List.{length-map}
use Rattle.std.proofs.lemmas.Map.Lookups.{exact_unsigned}
use Rattle.std.specs.FinSet as set
use Rattle.std.proofs.lemmas.Bool.{or_cases, or_left, or_right, and_from, cases_Bool, not-true, and_parts}
use Rattle.std.proofs.Math.Bool.{and-false, and-or_distrib_left, or-false, or_comm}
use Rattle.thes_base.specs.Data.{LabelData}
use Rattle.thes_base.specs.Labels.{Label, Labels, label_cmp, is_lexical_kind, S13}
use Rattle.thes_base.specs.Changes.{label, has_lexical_label, copied_label_kind, copied_labels}
use Rattle.thes_base.specs.Machine.{owned_label}
use Rattle.thes_base.proofs.LabelSetLemmas.{labels_total, labels_exact}
use Rattle.thes_base.proofs.CopiedLabelLemmas.{name_of, name_taken}
use Rattle.thes_base.proofs.SetMemberLemmas.{or_swap}
use Rattle.thes_vocab.specs.OwnLabels.{data_cmp, has_own, AreLabelsOf}
use Rattle.thes_vocab.specs.CopiedLabels.{lacks_name, merged_label, AreMissingLabels}
use Rattle.thes_vocab.specs.LabelRows.{LabelRows, IsRowOfOwner, labels_of_owner, labels_in, owner_row}
use Rattle.thes_vocab.specs.LabelRows.{RowsAfterInsertions}
use Rattle.thes_vocab.proofs.OwnLabelLemmas.{data_total, label_data_of_tie, tie_of_label_data, less_not_equal}
use Rattle.thes_vocab.proofs.OwnLabelLemmas.{any_found, any_of}
use Rattle.thes_vocab.proofs.LabelTableLemmas.{data_of, owned_tie, any_row, apart_by_cmp, has_label}

-- Copying all labels and then giving each the target as its owner is the same as doing both label by label.
pub as_labels : (target : ℕ) (ds : List LabelData) → map (owned_label target) (map merged_label ds)
    ≡ map (λ d. owned_label target (merged_label d)) ds
as_labels target [] = refl
as_labels target (d ∷ ds) = ap (λ ls. owned_label target (merged_label d) ∷ ls) (as_labels target ds)

module _ {A : Type 0} (p : A → Bool) where
  pub kept_yes : (x : A) (xs : List A) → p x ≡ true → filter p (x ∷ xs) ≡ x ∷ filter p xs
  kept_yes x xs e = ap (λ b. if b then x ∷ filter p xs else filter p xs) e

  pub kept_no : (x : A) (xs : List A) → p x ≡ false → filter p (x ∷ xs) ≡ filter p xs
  kept_no x xs e = ap (λ b. if b then x ∷ filter p xs else filter p xs) e

-- Each member of a filtered and mapped list comes from an item that passes the filter.
any_mapped : {A : Type 0} (cmp : A → A → Ordering) (equal_is_tie : (x : A) → eq_by_cmp cmp x x ≡ true) (p : A → Bool)
    (f : A → Label) (q : Label) (xs : List A) → list_any (eq_by_cmp label_cmp q) (map f (filter p xs)) ≡ true
    → (x : A) × (p x ≡ true) × (list_any (eq_by_cmp cmp x) xs ≡ true) × (q ≡ f x)
any_mapped cmp equal_is_tie p f q [] e = absurd (cc)
any_mapped cmp equal_is_tie p f q (x ∷ xs) e =
    grind (
      arith,
      common_steps,
      Equal-is,
      cases_Bool,
      kept_no,
      kept_yes,
      labels_exact,
      or_cases,
      or_left,
      or_right,
      any_mapped cmp equal_is_tie p f q xs,
    )

equal_is_tie : (x : Label) → eq_by_cmp label_cmp x x ≡ true
equal_is_tie x = ap is_eq (tied_itself labels_total x)

-- Each item that passes the filter gives a member of the filtered and mapped list.
mapped_any : (p : Label → Bool) (f : Label → Label) (q l : Label) (ls : List Label) → p l ≡ true → q ≡ f l
    → list_any (eq_by_cmp label_cmp l) ls ≡ true → list_any (eq_by_cmp label_cmp q) (map f (filter p ls)) ≡ true
mapped_any p f q l [] picks is e = e
mapped_any p f q l (x ∷ ls) picks is e = elim (or_cases _ _ e) [
  | inl same ↦
      let here = labels_exact l x ((Equal-is (label_cmp l x)).0 same) in
      ap (λ ys. list_any (eq_by_cmp label_cmp q) (map f ys)) (kept_yes p x ls (ap p (sym here) ∙ picks))
      ∙ or_left _ _ (ap (λ y. eq_by_cmp label_cmp q (f y)) (sym here) ∙ ap (λ y. eq_by_cmp label_cmp q y) (sym is)
      ∙ ap is_eq (tied_itself labels_total q))
  | inr later ↦ elim (cases_Bool (p x)) [
    | inl hit ↦ ap (λ ys. list_any (eq_by_cmp label_cmp q) (map f ys)) (kept_yes p x ls hit)
        ∙ or_right (eq_by_cmp label_cmp q (f x)) _ (mapped_any p f q l ls picks is later)
    | inr miss ↦ ap (λ ys. list_any (eq_by_cmp label_cmp q) (map f ys)) (kept_no p x ls miss)
        ∙ mapped_any p f q l ls picks is later
  ]
]

-- The labels that a merge copies, computed from the source's own list.
module _ (labels : Labels) (source target : ℕ) (own : List LabelData) (owns : IsRowOfOwner labels source own) where
  abbrev passes : Label → Bool
  passes l = l.owner == source && (is_lexical_kind l.kind && not (has_lexical_label labels target l.tag l.text))

  abbrev copy_of_label : Label → Label
  copy_of_label l = label target (copied_label_kind l.kind) l.tag l.text

  abbrev test : Label → LabelData → Bool
  test q d = lacks_name labels target d && eq_by_cmp data_cmp (data_of q) (merged_label d)

  -- The machine copies a label exactly when it is the copy of a lexical label in the source's list that the target
  -- lacks.
  pub taken_contains : (q : Label) → set.contains (copied_labels source target labels) q
      ≡ (eq_by_cmp nat_cmp q.owner target && list_any (test q) own)
  taken_contains q = set.contains-from_list labels_total (map copy_of_label (filter passes (set.items labels))) q
      ∙ both_ways _ _ there back
    where
      there : list_any (eq_by_cmp label_cmp q) (map copy_of_label (filter passes (set.items labels))) ≡ true
          → (eq_by_cmp nat_cmp q.owner target && list_any (test q) own) ≡ true
      there e =
          let found = any_mapped label_cmp equal_is_tie passes copy_of_label q (set.items labels) e in
          let l = found.0 in
          let held = set.contains-items labels l ∙ found.2 in
          let is = found.3 in
          let source_is = eqb-true l.owner source (and_parts (l.owner == source) _ found.1).0 in
          let takes_it = (and_parts (l.owner == source) (lacks_name labels target (data_of l)) found.1).1 in
          let has = owns (data_of l) ∙ ap (λ n. set.contains labels (label n l.kind l.tag l.text)) (sym source_is)
          ∙ held in
          and_from (eq_by_cmp nat_cmp q.owner target) (list_any (test q) own)
          (ap (λ (x : Label). eq_by_cmp nat_cmp x.owner target) is ∙ ap is_eq (tied_itself nat_cmp_total target))
          (any_of (test q) own (data_of l) (and_from (lacks_name labels target (data_of l)) _ takes_it
          (tie_of_label_data (data_of q) (merged_label (data_of l)) (ap data_of is))) has)

      back : (eq_by_cmp nat_cmp q.owner target && list_any (test q) own) ≡ true → list_any (eq_by_cmp label_cmp q)
          (map copy_of_label (filter passes (set.items labels))) ≡ true
      back e =
          let owner =
          exact_unsigned q.owner target
          ((Equal-is (nat_cmp q.owner target)).0 (and_parts (eq_by_cmp nat_cmp q.owner target) _ e).0) in
          let found = any_found (test q) own (and_parts (eq_by_cmp nat_cmp q.owner target) (list_any (test q) own)
          e).1 in
          let d = found.0 in
          let l = owned_label source d in
          let takes_it = (and_parts (lacks_name labels target d) _ found.1).0 in
          let is = label_data_of_tie (data_of q) (merged_label d)
          (and_parts (lacks_name labels target d) (eq_by_cmp data_cmp (data_of q) (merged_label d)) found.1).1 in
          let same : q ≡ copy_of_label l = λ i. label (owner i) (is i).kind (is i).tag (is i).text in
          mapped_any passes copy_of_label q l (set.items labels)
          (and_from (source == source) (lacks_name labels target d) (eq-eqb source source refl) takes_it) same
          (sym (set.contains-items labels l) ∙ sym (owns d) ∙ found.2)

-- Assumes labels that meet SKOS S13, and counts those that are copied.
module _ (labels : Labels) (source target : ℕ) (s13 : S13 labels) where
  abbrev as_taken : LabelData → Label
  as_taken d = owned_label target (merged_label d)

  abbrev missing_labels : List LabelData → List LabelData
  missing_labels own = filter (lacks_name labels target) own

  abbrev set_of_copies : List LabelData → Labels
  set_of_copies own = set.from_list (map as_taken (missing_labels own))

  -- Each label of the list is a label of the source.
  abbrev AreSome : List LabelData → Type 0
  AreSome own = (d : LabelData) → has_own own d ≡ true → set.contains labels (owned_label source d) ≡ true

  empty_union : set.union labels (set.empty {R = label_cmp}) ≡ labels
  empty_union = set.same_set labels_total labels_exact _ _ (λ q. set.contains-union labels_total labels set.empty q
      ∙ ap (λ b. set.contains labels q || b) (set.contains-empty label_cmp q) ∙ or-false (set.contains labels q))

  union_insert : (more : Labels) (g : Label) → set.union labels (set.insert more g)
      ≡ set.insert (set.union labels more) g
  union_insert more g = set.same_set labels_total labels_exact _ _ (λ q.
      set.contains-union labels_total labels (set.insert more g) q ∙ ap (λ b. set.contains labels q || b)
      (set.contains-insert labels_total more g q)
      ∙ or_swap (set.contains labels q) (eq_by_cmp label_cmp q g) (set.contains more q)
      ∙ sym (set.contains-insert labels_total (set.union labels more) g q ∙ ap (λ b. eq_by_cmp label_cmp q g || b)
      (set.contains-union labels_total labels more q)))

  -- A copied label is the copy of a label in the list that the target lacks.
  built_from : (own : List LabelData) (q : Label) → list_any (eq_by_cmp label_cmp q)
      (map as_taken (missing_labels own)) ≡ true → (d : LabelData) × (lacks_name labels target d ≡ true)
      × (has_own own d ≡ true) × (q ≡ as_taken d)
  built_from own q e = any_mapped data_cmp (λ d. tie_of_label_data d d refl) (lacks_name labels target) as_taken q own e

  -- The target lacks each label that is copied to it.
  copied_is_new : (d : LabelData) → lacks_name labels target d ≡ true → set.contains labels (as_taken d) ≡ true → ⊥
  copied_is_new d picks held = grind (arith, common_steps, and_parts, name_of, name_taken, not-true)

  -- Labels with equal copies are equal (SKOS S13).
  same_taken : (c d : LabelData) → lacks_name labels target c ≡ true → lacks_name labels target d ≡ true
      → set.contains labels (owned_label source c) ≡ true → set.contains labels (owned_label source d) ≡ true
      → as_taken c ≡ as_taken d → c ≡ d
  same_taken c d tc td hc hd is = grind (arith, common_steps, and_parts)

  after_none : (x d : LabelData) (own : List LabelData) → AllByRecursion (λ y. data_cmp x y ≡ Less) own
      → has_own own d ≡ true → x ≡ d → ⊥
  after_none x d [] each e same = cc
  after_none x d (y ∷ own) each e same =
      grind (arith, common_steps, data_total, label_data_of_tie, less_not_equal, or_cases, after_none x d own each.1)

  -- The union with the copies has one further label for each label of the list that the target lacks.
  len_built : (own : List LabelData) → IsStrictlySortedBy data_cmp own → AreSome own
      → set.len (set.union labels (set_of_copies own)) ≡ set.len labels + length (missing_labels own)
  unfolding IsStrictlySortedBy
  len_built [] sorted some = ap set.len empty_union ∙ (let n = set.len labels in let e : n ≡ n + 0 = omega arith in e)
  len_built (x ∷ own) sorted some = go (len_built own sorted.1 later) (cases_Bool (lacks_name labels target x))
    where
      later : AreSome own
      later d h = some d (or_right (eq_by_cmp data_cmp d x) _ h)

      absent : lacks_name labels target x ≡ true → (b : Bool) → set.contains (set.union labels (set_of_copies own))
          (as_taken x) ≡ b → b ≡ false
      absent picks false e = refl
      absent picks true e =
          absurd (elim (or_cases _ _ (sym (set.contains-union labels_total labels (set_of_copies own) (as_taken x))
          ∙ e)) [
            | inl held ↦ copied_is_new x picks held
            | inr again ↦
                let found =
                built_from own (as_taken x)
                (sym (set.contains-from_list labels_total (map as_taken (missing_labels own)) (as_taken x))
                ∙ again) in
                let same = same_taken x found.0 picks found.1 (some x (or_left _ _ (tie_of_label_data x x refl)))
                (later found.0 found.2) found.3 in
                after_none x found.0 own sorted.0 found.2 same
          ])

      go : set.len (set.union labels (set_of_copies own)) ≡ set.len labels + length (missing_labels own)
          → (lacks_name labels target x ≡ true) ⊎ (lacks_name labels target x ≡ false)
          → set.len (set.union labels (set_of_copies (x ∷ own))) ≡ set.len labels + length (missing_labels (x ∷ own))
      go rest (inl picks) =
          let kept = kept_yes (lacks_name labels target) x own picks in
          let more = ap (λ ys. set.len (set.union labels (set.from_list (map as_taken ys)))) kept
          ∙ ap set.len (union_insert (set_of_copies own) (as_taken x)) ∙ set.len-insert labels_total
          (set.union labels (set_of_copies own)) (as_taken x)
          ∙ ap (λ b. cond b (set.len (set.union labels (set_of_copies own)))
          (set.len (set.union labels (set_of_copies own)) + 1)) (absent picks _ refl) in
          let count = ap length kept in
          omega (arith, rest, more, count)
      go rest (inr miss) = grind (arith, common_steps, kept_no)

  -- A label is among the copies exactly when it is the copy of a label in the list that the target lacks.
  built_any : (own : List LabelData) (q : Label) → list_any (eq_by_cmp label_cmp q)
      (map as_taken (missing_labels own))
      ≡ (eq_by_cmp nat_cmp q.owner target && list_any (λ d. lacks_name labels target d && eq_by_cmp data_cmp
      (data_of q) (merged_label d)) own)
  built_any [] q = sym (and-false (eq_by_cmp nat_cmp q.owner target))
  built_any (x ∷ own) q = go (built_any own q) (cases_Bool (lacks_name labels target x))
    where
      go : list_any (eq_by_cmp label_cmp q) (map as_taken (missing_labels own))
          ≡ (eq_by_cmp nat_cmp q.owner target && list_any (λ d. lacks_name labels target d && eq_by_cmp data_cmp
          (data_of q) (merged_label d)) own) → (lacks_name labels target x ≡ true)
          ⊎ (lacks_name labels target x ≡ false)
          → list_any (eq_by_cmp label_cmp q) (map as_taken (missing_labels (x ∷ own)))
          ≡ (eq_by_cmp nat_cmp q.owner target &&
          ((lacks_name labels target x && eq_by_cmp data_cmp (data_of q) (merged_label x)) || list_any
          (λ d. lacks_name labels target d && eq_by_cmp data_cmp (data_of q) (merged_label d)) own))
      go rest picks = grind (arith, common_steps, and-or_distrib_left, kept_no, kept_yes, owned_tie)

  copies_are : (own : List LabelData) → AreLabelsOf labels source own → set_of_copies own
      ≡ copied_labels source target labels
  copies_are own are = set.same_set labels_total labels_exact _ _ (λ q.
      set.contains-from_list labels_total (map as_taken (missing_labels own)) q ∙ built_any own q
      ∙ sym (taken_contains labels source target own are.each q))

  pub taken_len : (own : List LabelData) → AreLabelsOf labels source own → set.len labels
      + length (missing_labels own) ≡ set.len (set.union labels (copied_labels source target labels))
  taken_len own are = sym (len_built own are.ordered (λ d h. sym (are.each d) ∙ h))
      ∙ ap (λ more. set.len (set.union labels more)) (copies_are own are)

  -- The missing labels are those that the machine copies, and each of them adds one to the number of labels.
  module _ (copies : List LabelData) (missing : AreMissingLabels labels source target copies) where
    pub missing_set : labels_of_owner target copies ≡ copied_labels source target labels
    missing_set =
        ap (labels_of_owner target) missing.2
        ∙ ap (λ ls. set.from_list {R = label_cmp} ls) (as_labels target (missing_labels missing.0))
        ∙ copies_are missing.0 missing.1

    pub missing_len : set.len labels + length copies ≡ set.len (set.union labels (labels_of_owner target copies))
    missing_len =
        ap (λ n. set.len labels + n) (ap length missing.2 ∙ length-map (missing_labels missing.0) merged_label)
        ∙ taken_len missing.0 missing.1 ∙ ap (λ more. set.len (set.union labels more)) (sym missing_set)

    -- None of the copies is among the labels before the merge.
    pub missing_new : (q : Label) → set.contains (copied_labels source target labels) q ≡ true
        → set.contains labels q ≡ true → ⊥
    missing_new q copied held =
        let found = built_from missing.0 q
        (sym (set.contains-from_list labels_total (map as_taken (missing_labels missing.0)) q)
        ∙ ap (λ (ls : Labels). set.contains ls q) (copies_are missing.0 missing.1) ∙ copied) in
        copied_is_new found.0 found.1 (subst (λ (l : Label). set.contains labels l ≡ true) found.3 held)

-- Inserting labels of an owner gives the union of the old set of labels with them.
pub union_rows : (old new : LabelRows) (owner : ℕ) (inserted : List LabelData)
    → RowsAfterInsertions old new owner inserted
    → labels_in new ≡ set.union (labels_in old) (labels_of_owner owner inserted)
union_rows old new owner inserted after = set.same_set labels_total labels_exact _ _ (λ q.
    has_label new q ∙ at q (eq_by_cmp nat_cmp q.owner owner) refl
    ∙ sym (set.contains-union labels_total (labels_in old) (labels_of_owner owner inserted) q
    ∙ ap (λ b. set.contains (labels_in old) q || b)
    (set.contains-from_list labels_total (map (owned_label owner) inserted) q ∙ any_row q owner inserted)))
  where
    at : (q : Label) (b : Bool) → eq_by_cmp nat_cmp q.owner owner ≡ b → has_own (owner_row new q.owner) (data_of q)
        ≡ (set.contains (labels_in old) q || (eq_by_cmp nat_cmp q.owner owner && has_own inserted (data_of q)))
    at q b tie = grind (arith, common_steps, Equal-is, apart_by_cmp, exact_unsigned, has_label, or-false, or_comm)
