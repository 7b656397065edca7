-- Proves that the map of ranks, built term by term, has the rank of each concept.
use Rattle.std.proofs.lemmas.Grind.{common_steps}
use Rattle.std.proofs.Common.{◌≡◌, ◌≢◌, ◌⊎◌, ◌∙◌, ◌<◌, ◌≤◌, ◌+◌, sym, ap, subst, ℕ, List, length}
use Rattle.std.proofs.Common.{get_or, Option, Some, arith, ⊎_elim, inl, inr}
use Rattle.std.proofs.lemmas.Bool.{cases_lt}
use Rattle.std.proofs.lemmas.Option.{slice_get_read, slice_get_within, same_Some}
use Rattle.thes_display.specs.Order.{Term}
use Rattle.thes_display.specs.Hierarchical.{HasRank}
use Rattle.thes_display.specs.HierarchyParts.{HaveOneRank, AreRanks}

-- The map has exactly the ranks below `m`, each under the number of its concept.
pub record AreRanksBelow (terms : List Term) (m : ℕ) (ranks : ℕ → Option ℕ) : Type 0 where
  pub rank_is : (n k : ℕ) → ranks n ≡ Some k → HasRank terms n k × (k < m)
  pub all : (n k : ℕ) → HasRank terms n k → k < m → ranks n ≡ Some k

pub rank_of_term : (terms : List Term) (k : ℕ) (t : Term) → k < length terms → t ≡ get_or terms k t
    → HasRank terms t.concept k
rank_of_term terms k t l e = grind (arith, common_steps, slice_get_read)

pub same_or : (m n : ℕ) → (m ≡ n) ⊎ (m ≢ n)
same_or m n = ⊎_elim (λ l. inr (λ e. omega (arith, l, e))) (λ ge. ⊎_elim (λ l. inr (λ e. omega (arith, l, e)))
    (λ le. inl (omega (arith, ge, le))) (cases_lt n m)) (cases_lt m n)

pub ranks_more : (terms : List Term) (one : HaveOneRank terms) (k : ℕ) (t : Term) → k < length terms → t
    ≡ get_or terms k t → (old new : ℕ → Option ℕ) → AreRanksBelow terms k old → new t.concept ≡ Some k
    → ((q : ℕ) → q ≢ t.concept → new q ≡ old q) → AreRanksBelow terms (k + 1) new
ranks_more terms one k t l e old new a here other = record {
  rank_is = λ n j f. ⊎_elim (λ same. is_here n j f same) (λ ne. is_old n j f ne) (same_or n t.concept);
  all = λ n j h m. ⊎_elim (λ same. ap new same ∙ here ∙ ap Some (one.one n k j (at_here n same) h))
      (λ ne. other n ne ∙ a.all n j h (before n j h m ne)) (same_or n t.concept);
}
  where
    at_here : (n : ℕ) → n ≡ t.concept → HasRank terms n k
    at_here n same = subst (λ i. HasRank terms i k) (sym same) (rank_of_term terms k t l e)

    is_here : (n j : ℕ) → new n ≡ Some j → n ≡ t.concept → HasRank terms n j × (j < k + 1)
    is_here n j f same =
        let k_is : k ≡ j = same_Some k j (sym here ∙ ap new (sym same) ∙ f) in
        (subst (HasRank terms n) k_is (at_here n same), omega (arith, k_is))

    is_old : (n j : ℕ) → new n ≡ Some j → n ≢ t.concept → HasRank terms n j × (j < k + 1)
    is_old n j f ne = let r = a.rank_is n j (sym (other n ne) ∙ f) in (r.0, let s = r.1 in omega (arith, s))

    concept_at : (n : ℕ) → HasRank terms n k → t.concept ≡ n
    concept_at n h = grind (arith, common_steps, same_Some, slice_get_read)

    before : (n j : ℕ) → HasRank terms n j → j < k + 1 → n ≢ t.concept → j < k
    before n j h m ne =
        let not_here : j ≡ k → ⊥ = λ q. ne (sym (concept_at n (subst (HasRank terms n) q h))) in
        omega (arith, m, not_here)

pub all_ranks : (terms : List Term) (m : ℕ) (ranks : ℕ → Option ℕ) → length terms ≤ m → AreRanksBelow terms m ranks
    → AreRanks terms ranks
all_ranks terms m ranks l a = record {
  rank_is = λ n k e. (a.rank_is n k e).0;
  all = λ n k h. a.all n k h (let w = slice_get_within terms k h.term h.term_at in omega (arith, w));
}
