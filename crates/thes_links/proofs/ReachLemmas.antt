-- The nodes collected step by step are exactly those that the start reaches in the relation.
use Rattle.std.proofs.Common.{◌≡◌, ℕ, zero, suc, ◌+◌, ◌<◌, ◌≤◌, inl, inr, List, [], ◌∷◌, length, get_or, Contains}
use Rattle.std.proofs.Common.{nat_eq, refl, sym, subst, ◌∙◌, arith, below_more}
use Rattle.std.specs.List.{IsDistinct}
use Rattle.std.proofs.lemmas.List.{get_or_append_left, get_or_default}
use Rattle.std.proofs.lemmas.List.Elements.{Contains-append_left, Contains-get_or}
use Rattle.thes_base.specs.Links.{Path}
use Rattle.thes_links.specs.Steps.{Reaches, IsReachOf, IsSearchedUpTo, GrowsBy}
use Rattle.thes_links.proofs.PivotLemmas.{Reaches-then_chain}

-- A list of one item has no other item.
pub no_others : {X : Type 0} → (x y : X) → Contains (x ∷ []) y → x ≡ y
no_others x y (zero, lt, e) = e
no_others x y (suc k, lt, e) = absurd (omega arith)

module _ (S : ℕ → ℕ → Type 0) where
  pub Reaches-step : (x y z : ℕ) → Reaches S x y → S y z → Reaches S x z
  Reaches-step x y z reach one = inr (Reaches-then_chain S x y z reach ([], one))

  distinct_one : (x : ℕ) → IsDistinct nat_eq (x ∷ [])
  unfolding IsDistinct
  distinct_one x = (tt, tt)

  module _ (start : ℕ) where
    pub IsSearchedUpTo-start : IsSearchedUpTo S start (start ∷ []) 0
    IsSearchedUpTo-start = record {
      starts = (0, omega arith, refl);
      sound = λ y has. inl (no_others start y has);
      closed = λ k below. absurd (omega arith);
      distinct = distinct_one start;
    }

    pub IsSearchedUpTo-more : (nodes later : List ℕ) (i x : ℕ) → i < length nodes → x ≡ get_or nodes i 0
        → GrowsBy nodes later (S x) → IsSearchedUpTo S start nodes i → IsSearchedUpTo S start later (i + 1)
    IsSearchedUpTo-more nodes later i x within at grows before = record {
      starts = keeps start before.starts;
      sound = λ y has. elim (grows.no_others y has) [
        | inl old ↦ before.sound y old
        | inr new ↦ Reaches-step start x y (before.sound x here) new
      ];
      closed = λ k below inside y leads. go k below y leads;
      distinct = grows.distinct before.distinct;
    }
      where
        keeps : (y : ℕ) → Contains nodes y → Contains later y
        keeps y has = rw grows.extends.1 (Contains-append_left nodes grows.extends.0 y has)

        here : Contains nodes x
        here = subst (λ (w : ℕ). Contains nodes w) (sym at) (Contains-get_or nodes i 0 within)

        same : (k : ℕ) → k < length nodes → get_or later k 0 ≡ get_or nodes k 0
        same k inside = rw grows.extends.1 (get_or_append_left nodes grows.extends.0 0 k inside)

        go : (k : ℕ) → k < i + 1 → (y : ℕ) → S (get_or later k 0) y → Contains later y
        go = below_more (λ k. (y : ℕ) → S (get_or later k 0) y → Contains later y) i
            (λ k lt y leads. let in_nodes : k < length nodes = omega arith in
            keeps y (before.closed k lt in_nodes y (let P : ℕ → Type 0 = λ w. S w y in
            subst P (same k in_nodes) leads)))
            (λ y leads. grows.has_new y (let P : ℕ → Type 0 = λ w. S w y in subst P (same i within ∙ sym at) leads))

    pub IsSearchedUpTo-end : (nodes : List ℕ) (i : ℕ) → length nodes ≤ i → IsSearchedUpTo S start nodes i
        → IsReachOf S start nodes
    IsSearchedUpTo-end nodes i done all = record {
      sound = all.sound;
      complete = λ y reach. reached y reach;
      distinct = all.distinct;
    }
      where
        step : (x y : ℕ) → Contains nodes x → S x y → Contains nodes y
        step x y (k, inside, is) one =
            let same : x ≡ get_or nodes k 0 = sym is ∙ get_or_default nodes k x 0 inside in
            all.closed k (omega arith) inside y (let P : ℕ → Type 0 = λ w. S w y in subst P same one)

        path : (x : ℕ) (ms : List ℕ) (y : ℕ) → Contains nodes x → Path S x ms y → Contains nodes y
        path x [] y has one = step x y has one
        path x (m ∷ ms) y has steps = path m ms y (step x m has steps.0) steps.1

        reached : (y : ℕ) → Reaches S start y → Contains nodes y
        reached y (inl same) = subst (λ (w : ℕ). Contains nodes w) same all.starts
        reached y (inr (ms, steps)) = path start ms y all.starts steps
