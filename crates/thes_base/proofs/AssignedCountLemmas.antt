-- The counts of the live concepts add up to the postings accepted less those withdrawn.
use Rattle.std.proofs.lemmas.Grind.{common_steps}
use Rattle.std.proofs.Common.{◌≡◌, ◌<◌, ◌≤◌, ℕ, zero, suc, ◌+◌, length, List, [], ◌∷◌, refl, ap, ◌∙◌, subst, arith}
use Rattle.std.proofs.Common.{inl, inr, ⊎_elim, Bool, true, false, cond, not, ◌&&◌, eqb, eqb-true, ne_eqb}
use borrow.Author.Tests.{eqb-false}
use Rattle.std.specs.Prelude.{sum_by, filter}
use Rattle.std.proofs.lemmas.Bool.{cases_Bool}
use Rattle.std.proofs.lemmas.List.Sums.{sum_by-cons}
use Rattle.thes_base.specs.declared.data.Resource.{Resource}
use Rattle.thes_base.specs.declared.data.History.{History}
use Rattle.thes_base.specs.Postings.{place, is_assigned_to, assigned_count, withdrawn_count}
use Rattle.thes_base.specs.Resources.{is_live_concept}
use Rattle.thes_base.specs.Assignments.{numbers_from, live_concepts}

-- Sums over one list are equal if their terms are equal.
pub sums_same : (f g : ℕ → ℕ) → ((c : ℕ) → f c ≡ g c) → (cs : List ℕ) → sum_by f cs ≡ sum_by g cs
sums_same f g e cs = ap (λ (h : ℕ → ℕ). sum_by h cs) (λ i c. e c i)

sums_add : (f g : ℕ → ℕ) (cs : List ℕ) → sum_by (λ c. f c + g c) cs ≡ sum_by f cs + sum_by g cs
sums_add f g [] = refl
sums_add f g (c ∷ cs) =
    let a = sum_by-cons (λ x. f x + g x) c cs in
    let b = sum_by-cons f c cs in
    let d = sum_by-cons g c cs in
    let ih = sums_add f g cs in
    omega (arith, a, b, d, ih)

sums_zero : (cs : List ℕ) → sum_by (λ c. 0) cs ≡ 0
sums_zero [] = refl
sums_zero (c ∷ cs) = let a = sum_by-cons (λ (x : ℕ). 0) c cs in let ih = sums_zero cs in omega (arith, a, ih)

abbrev one_at : ℕ → ℕ → ℕ
one_at p c = cond (eqb p c) 1 0

module _ (test : ℕ → Bool) (p : ℕ) where
  abbrev hits : ℕ → ℕ → ℕ
  hits first n = sum_by (one_at p) (filter test (numbers_from first n))

  hits_yes : (first n : ℕ) → test first ≡ true → hits first (suc n) ≡ one_at p first + hits (first + 1) n
  hits_yes first n e = grind (arith, common_steps, sum_by-cons)

  hits_no : (first n : ℕ) → test first ≡ false → hits first (suc n) ≡ hits (first + 1) n
  hits_no first n e =
      ap (λ b. sum_by (one_at p) (cond b (first ∷ filter test (numbers_from (first + 1) n))
      (filter test (numbers_from (first + 1) n)))) e

  -- A range of numbers that begins above p doesn't have p.
  hits_none : (first n : ℕ) → p < first → hits first n ≡ 0
  hits_none first zero h = refl
  hits_none first (suc n) h =
      let ih = hits_none (first + 1) n (omega arith) in
      let miss = ap {B = ℕ} (λ b. cond b 1 0) (ne_eqb p first (omega arith)) in
      ⊎_elim (λ (e : test first ≡ true). let a = hits_yes first n e in omega (arith, a, miss, ih))
      (λ (e : test first ≡ false). hits_no first n e ∙ ih) (cases_Bool (test first))

  -- If a range of numbers includes p, and p passes the test, p occurs once among the numbers that pass it.
  hits_once : (first n : ℕ) → first ≤ p → p < first + n → test p ≡ true → hits first n ≡ 1
  hits_once first zero l u t = absurd (omega arith)
  hits_once first (suc n) l u t = elim (cases_Bool (eqb p first)) [
    | inl same ↦
        let e = eqb-true p first same in
        let a = hits_yes first n (subst (λ x. test x ≡ true) e t) in
        let hit = ap {B = ℕ} (λ b. cond b 1 0) same in
        let rest = hits_none (first + 1) n (omega (arith, e)) in
        omega (arith, a, hit, rest)
    | inr apart ↦
        let d = eqb-false p first apart in
        let ih = hits_once (first + 1) n (omega (arith, d)) (omega arith) t in
        let miss = ap {B = ℕ} (λ b. cond b 1 0) apart in
        ⊎_elim (λ (e : test first ≡ true). let a = hits_yes first n e in omega (arith, a, miss, ih))
        (λ (e : test first ≡ false). hits_no first n e ∙ ih) (cases_Bool (test first))
  ]

within_numbers : (rs : List Resource) (n : ℕ) → is_live_concept rs n ≡ true → (1 ≤ n) × (n < 1 + length rs)
within_numbers rs zero e = absurd (cc)
within_numbers rs (suc n) e = (omega arith, let h = below rs n e in omega arith)
  where
    below : (rs : List Resource) (n : ℕ) → is_live_concept rs (suc n) ≡ true → n < length rs
    below [] n e = absurd (cc)
    below (r ∷ rs) zero e = omega arith
    below (r ∷ rs) (suc n) e = let h = below rs n e in omega arith

-- A posting adds one to the count of its place or, if it is withdrawn, to the number of withdrawn postings.
one_history : (rs : List Resource) (h : History) → (h.withdrawn ≡ false → is_live_concept rs (place h) ≡ true)
    → sum_by (λ c. cond (is_assigned_to c h) 1 0) (live_concepts rs) + cond h.withdrawn 1 0 ≡ 1
one_history rs h live = elim (cases_Bool h.withdrawn) [
  | inl gone ↦
      let a : sum_by (λ c. cond (is_assigned_to c h) 1 0) (live_concepts rs) ≡ 0 =
      sums_same _ (λ c. 0) (λ c. ap (λ b. cond (not b && eqb (place h) c) 1 0) gone) (live_concepts rs)
      ∙ sums_zero (live_concepts rs) in
      let b = ap {B = ℕ} (λ b. cond b 1 0) gone in
      omega (arith, a, b)
  | inr stays ↦
      let a : sum_by (λ c. cond (is_assigned_to c h) 1 0) (live_concepts rs) ≡ 1 =
      sums_same _ (one_at (place h)) (λ c. ap (λ b. cond (not b && eqb (place h) c) 1 0) stays) (live_concepts rs)
      ∙ (let w = within_numbers rs (place h) (live stays) in hits_once (is_live_concept rs) (place h) 1 (length rs)
      w.0 w.1 (live stays)) in
      let b = ap {B = ℕ} (λ b. cond b 1 0) stays in
      omega (arith, a, b)
]

abbrev pub EachIsAssigned : List Resource → List History → Type 0
EachIsAssigned rs [] = Unit {0}
EachIsAssigned rs (h ∷ hs) = (h.withdrawn ≡ false → is_live_concept rs (place h) ≡ true) × EachIsAssigned rs hs

pub counts_add_up : (rs : List Resource) (hs : List History) → EachIsAssigned rs hs
    → sum_by (λ c. assigned_count c hs) (live_concepts rs) + withdrawn_count hs ≡ length hs
counts_add_up rs [] all = let a = sums_zero (live_concepts rs) in omega (arith, a)
counts_add_up rs (h ∷ hs) all =
    let a = sums_same (λ c. assigned_count c (h ∷ hs)) (λ c. cond (is_assigned_to c h) 1 0 + assigned_count c hs)
    (λ c. sum_by-cons (λ x. cond (is_assigned_to c x) 1 0) h hs) (live_concepts rs) in
    let b = sums_add (λ c. cond (is_assigned_to c h) 1 0) (λ c. assigned_count c hs) (live_concepts rs) in
    let d = sum_by-cons (λ (x : History). cond x.withdrawn 1 0) h hs in
    let ih = counts_add_up rs hs all.1 in
    let one = one_history rs h all.0 in
    omega (arith, a, b, d, ih, one)
