-- What follows if each number of a list, or of a prefix of it, has a property.
use Rattle.std.proofs.Common.{◌≡◌, ◌<◌, ℕ, zero, suc, ◌+◌, length, List, [], ◌∷◌, sym, ap, ◌∙◌, subst, arith, ⊎_elim}
use Rattle.std.proofs.Common.{true, false, ◌||◌, eqb, eqb-true, get_or, take}
use Rattle.std.proofs.lemmas.Bool.{cases_Bool}
use Rattle.thes_base.specs.Refusals.{EachListed}
use Rattle.thes_post.proofs.OnceLemmas.{has_number}

-- If each number of a list has a property, a number that is found in the list has it.
pub has_of_each : (P : ℕ → Type 0) (ls : List ℕ) → EachListed P ls → (n : ℕ) → has_number ls n ≡ true → P n
has_of_each P [] each n e = absurd (cc)
has_of_each P (l ∷ ls) each n e = ⊎_elim (λ (same : eqb l n ≡ true). subst P (eqb-true l n same) each.0)
    (λ (apart : eqb l n ≡ false). has_of_each P ls each.1 n (sym (ap (λ b. b || has_number ls n) apart) ∙ e))
    (cases_Bool (eqb l n))

pub each_at : (P : ℕ → Type 0) (ns : List ℕ) (i d : ℕ) → EachListed P ns → i < length ns → P (get_or ns i d)
each_at P [] i d all l = absurd (omega arith)
each_at P (n ∷ ns) zero d all l = all.0
each_at P (n ∷ ns) (suc i) d all l = each_at P ns i d all.1 (omega arith)

pub each_more : (P : ℕ → Type 0) (ns : List ℕ) (i d : ℕ) → i < length ns → EachListed P (take i ns)
    → P (get_or ns i d) → EachListed P (take (i + 1) ns)
each_more P ns i d l all here = subst (λ k. EachListed P (take k ns)) (let z : suc i ≡ i + 1 = omega arith in z)
    (more ns i l all here)
  where
    more : (ms : List ℕ) (j : ℕ) → j < length ms → EachListed P (take j ms) → P (get_or ms j d)
        → EachListed P (take (suc j) ms)
    more [] j l all here = tt
    more (m ∷ ms) zero l all here = (here, tt)
    more (m ∷ ms) (suc j) l all here = (all.0, more ms j (omega arith) all.1 here)
