-- Proves that exactly the live concepts of a scheme have ranks, each of them one. A link within the scheme has both its
-- ends among these concepts or neither.
use Rattle.std.proofs.Common.{◌≡◌, ◌↔◌, ◌∙◌, ◌<◌, sym, ap, refl, subst, ℕ, List, get_or, Some, arith, Ordering, Less}
use Rattle.std.proofs.Common.{Equal, ⊎_elim}
use Rattle.std.specs.Prelude.{Contains, slice_get}
use Rattle.std.specs.Cmp.{tied_itself}
use Rattle.std.proofs.lemmas.Bool.{cases_lt}
use Rattle.std.proofs.lemmas.Option.{slice_get_within, get_or_from_slice_get, slice_get-get_or}
use Rattle.std.proofs.lemmas.Map.Keys.{Less-from_sorted}
use Rattle.thes_base.specs.declared.data.LinkKind.{LinkKind}
use Rattle.thes_base.specs.declared.data.LinkForm.TheVariants.{Within}
use Rattle.thes_base.specs.Links.{form_of}
use Rattle.thes_base.specs.State.{State}
use Rattle.thes_base.specs.Views.{HasLink}
use Rattle.thes_core.specs.Terms.{term_text}
use Rattle.thes_vocab.specs.Vocabulary.{IsConceptOf}
use Rattle.thes_display.specs.Order.{Term, term_cmp}
use Rattle.thes_display.specs.Hierarchical.{HasRank, AreTerms, IsSchemeTerm}
use Rattle.thes_display.specs.HierarchyParts.{HaveOneRank, IsClosed}
use Rattle.thes_display.proofs.OrderLemmas.{term_total}
use Rattle.thes_display.proofs.TermLemmas.{same_term}

module _ (s : State) (scheme : ℕ) (tag : List ℕ) (terms : List Term) (are : AreTerms s scheme tag terms) where
  contains_at : (t : Term) (k : ℕ) → slice_get terms k ≡ Some t → Contains terms t
  contains_at t k e = (k, slice_get_within terms k t e, get_or_from_slice_get terms k t t e)

  shown_at : (n k : ℕ) → (h : HasRank terms n k) → IsSchemeTerm s scheme tag h.term
  shown_at n k h = are.sound h.term (contains_at h.term k h.term_at)

  same_at : (n j k : ℕ) (g : HasRank terms n j) (h : HasRank terms n k) → g.term ≡ h.term
  same_at n j k g h =
      same_term g.term h.term ((shown_at n j g).term ∙ ap (term_text s.labels tag) (g.concept ∙ sym h.concept)
      ∙ sym (shown_at n k h).term) (g.concept ∙ sym h.concept)

  -- A concept has at most one rank, since the terms are sorted.
  not_before : (n j k : ℕ) → HasRank terms n j → HasRank terms n k → j < k → ⊥
  not_before n j k g h l =
      let below = Less-from_sorted term_cmp terms j k h.term are.rises l (slice_get_within terms k h.term h.term_at) in
      let a : get_or terms j h.term ≡ h.term = get_or_from_slice_get terms j g.term h.term g.term_at
      ∙ same_at n j k g h in
      let b : get_or terms k h.term ≡ h.term = get_or_from_slice_get terms k h.term h.term h.term_at in
      let t = tied_itself term_total h.term in
      let u : term_cmp h.term h.term ≡ Less = subst (λ x. term_cmp x h.term ≡ Less) a
      (subst (λ x. term_cmp (get_or terms j h.term) x ≡ Less) b below) in
      equal_less (term_cmp h.term h.term) t u
    where
      equal_less : (o : Ordering) → o ≡ Equal → o ≡ Less → ⊥
      equal_less o e f = cc

  pub one_rank : HaveOneRank terms
  one_rank =
      record {
        one = λ n j k g h. ⊎_elim (λ l. absurd (not_before n j k g h l))
            (λ m. ⊎_elim (λ l. absurd (not_before n k j h g l)) (λ o. omega (arith, m, o)) (cases_lt k j))
            (cases_lt j k);
      }

  pub rank_of : (n : ℕ) → IsConceptOf s.resources scheme n → (k : ℕ) × HasRank terms n k
  rank_of n in_scheme =
      let t : Term = record { text = term_text s.labels tag n; concept = n } in
      let c = are.complete t (record { in_scheme = in_scheme; term = refl }) in
      (c.0, record { term = t; term_at = slice_get-get_or terms c.0 t c.1 ∙ ap Some c.2; concept = refl })

  shown_concept : (n k : ℕ) → HasRank terms n k → IsConceptOf s.resources scheme n
  shown_concept n k h = subst (IsConceptOf s.resources scheme) h.concept (shown_at n k h).in_scheme

  pub scheme_is_closed : ((kind : LinkKind) (a b : ℕ) → form_of kind ≡ Within → HasLink s.links kind a b
      → IsConceptOf s.resources scheme a ↔ IsConceptOf s.resources scheme b)
      → IsClosed s.links terms
  scheme_is_closed within = record {
    upward = λ kind a b k f l h. rank_of b ((within kind a b f l).0 (shown_concept a k h));
    downward = λ kind a b k f l h. rank_of a ((within kind a b f l).1 (shown_concept b k h));
  }
