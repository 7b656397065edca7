-- Look-ups in the index of preferred labels, and its changes, which keep all other entries.
use Rattle.std.proofs.lemmas.Grind.{common_steps}
use Rattle.std.proofs.Common.{◌≡◌, ◌⊎◌, inl, inr, ℕ, List, [], ◌∷◌, ◌++◌, ◌≤◌, ◌∙◌, subst, Bool, true}
use Rattle.std.proofs.Common.{false, map, Bor, arith}
use Rattle.std.specs.Ordering.{nat_cmp, eq_by_cmp, is_gt}
use Rattle.std.specs.declared.ops.Bound.TheVariants.{Included}
use Rattle.std.specs.Cmp.{IsTotalOrder, nat_cmp_total, Equal-is}
use Rattle.std.specs.BTreeMap.{is_at}
use Rattle.std.specs.BTreeMap.Range.{range_contains}
use Rattle.std.specs.BTreeSet.{BTreeSet, contains, keys_between, Updates}
use Rattle.std.specs.List.{list_any}
use Rattle.std.specs.Map.Iter.{deref}
use Rattle.std.proofs.lemmas.Bool.{cases_eq, eq-eqb, or_cases, or_parts, both_ways}
use Rattle.std.proofs.lemmas.Cmp.{then_total, on_total}
use Rattle.std.proofs.lemmas.Map.Lookups.{CmpEqualImpliesEq, exact_unsigned, exact_pairs}
use Rattle.std.proofs.lemmas.Map.Views.{any-filter_same, range_contains-from_IsInRange}
use Rattle.thes_base.specs.declared.data.LabelKind.TheVariants.{Pref}
use Rattle.thes_base.specs.Data.{LabelData}
use Rattle.thes_vocab.specs.OwnLabels.{data_cmp, own_label, has_own}
use Rattle.thes_vocab.specs.NameIndex.{entry_cmp, has_digest, name_digest}
use Rattle.thes_vocab.proofs.OwnLabelLemmas.{label_data_of_tie}

entry_total : IsTotalOrder entry_cmp
entry_total = then_total (on_total (λ (e : ℕ × ℕ). e.0) nat_cmp_total) (on_total (λ (e : ℕ × ℕ). e.1) nat_cmp_total)

entry_exact : CmpEqualImpliesEq entry_cmp
entry_exact = exact_pairs nat_cmp nat_cmp exact_unsigned exact_unsigned

-- An entry that a search finds is the one searched for.
pub same_entry : (e f : ℕ × ℕ) → is_at (entry_cmp e) f ≡ true → e ≡ f
same_entry e f at = entry_exact e f ((Equal-is (entry_cmp e f)).0 at)

pub kept_by_insert : (old new : BTreeSet (ℕ × ℕ)) (added e : ℕ × ℕ) → Updates entry_cmp old new added true
    → contains entry_cmp old e ≡ true → contains entry_cmp new e ≡ true
kept_by_insert old new added e updates had = grind (arith, common_steps)

pub kept_by_remove : (old new : BTreeSet (ℕ × ℕ)) (gone e : ℕ × ℕ) → Updates entry_cmp old new gone false
    → (gone ≡ e → ⊥) → contains entry_cmp old e ≡ true → contains entry_cmp new e ≡ true
kept_by_remove old new gone e updates apart had = grind (arith, common_steps, same_entry)

not_greater : (d m n : ℕ) → m ≤ n → is_gt (entry_cmp (d, m) (d, n)) ≡ false
not_greater d m n le = grind (arith, common_steps, cases_eq)

-- The range of entries with a digest, from the least possible concept to the greatest, has each entry with the digest.
pub all_of_digest : (set : BTreeSet (ℕ × ℕ)) (d first last n : ℕ) → first ≤ n → n ≤ last
    → contains entry_cmp set (d, n) ≡ true → list_any (is_at (entry_cmp (d, n)))
    (keys_between entry_cmp (Included (d, first)) (Included (d, last)) set) ≡ true
all_of_digest set d first last n low high had =
    any-filter_same (is_at (entry_cmp (d, n))) (range_contains entry_cmp (Included (d, first)) (Included (d, last)))
    true (λ e at. subst (λ f. range_contains entry_cmp (Included (d, first)) (Included (d, last)) f ≡ true)
    (same_entry (d, n) e at) (range_contains-from_IsInRange entry_total (Included (d, first)) (Included (d, last))
    (d, n)
    (not_greater d first n low, not_greater d n last high))) set.keys
    ∙ had

-- If none of the labels is preferred and has the digest, each preferred label has another digest.
pub other_digest : (own : List LabelData) (scheme digest : ℕ) (tag text : List ℕ)
    → list_any (has_digest scheme digest) own ≡ false → has_own own (own_label Pref tag text) ≡ true
    → name_digest scheme tag text ≡ digest → ⊥
other_digest [] scheme digest tag text none has same = cc
other_digest (l ∷ own) scheme digest tag text none has same =
    let parts = or_parts (has_digest scheme digest l) (list_any (has_digest scheme digest) own) none in
    elim (or_cases (eq_by_cmp data_cmp (own_label Pref tag text) l) (has_own own (own_label Pref tag text)) has) [
      | inl tie ↦ both_ways (has_digest scheme digest l) parts.0
          (subst (λ (q : LabelData). has_digest scheme digest q ≡ true)
          (label_data_of_tie (own_label Pref tag text) l tie)
          (eq-eqb (name_digest scheme tag text) digest same))
      | inr rest ↦ other_digest own scheme digest tag text parts.1 rest same
    ]

-- A test passed by one of several entries is passed by the last, or by one of those before it.
pub last_entry : (p : ℕ × ℕ → Bool) (es : List (Bor (ℕ × ℕ))) (e : Bor (ℕ × ℕ))
    → list_any p (map deref (es ++ e ∷ [])) ≡ true → (list_any p (map deref es) ≡ true) ⊎ (p e.now ≡ true)
last_entry p es e any = grind (arith, common_steps, or_cases)
