-- Splits a chain of replacements at each step into the steps so far and the remaining chain.
use Rattle.std.proofs.lemmas.Grind.{common_steps}
use Rattle.std.proofs.Common.{◌≡◌, ◌<◌, ◌≤◌, ℕ, ◌+◌, ◌-◌, length, List, [], ◌∷◌, ap, arith, append_assoc, append-nil}
use Rattle.std.specs.Prelude.{Some}
use Rattle.thes_base.specs.declared.data.Resource.{Resource}
use Rattle.thes_base.specs.Resources.{replacement_of, replacements_within, replacements}
use Rattle.thes_base.proofs.ForwardingLemmas.{within_none, within_some}

module _ (rs : List Resource) where
  abbrev pub remaining_replacements : ℕ → ℕ → List ℕ
  remaining_replacements done place = replacements_within rs (length rs - done) place

  pub remaining_at_start : (concept : ℕ) → remaining_replacements 0 concept ≡ replacements rs concept
  remaining_at_start concept = ap (λ k. replacements_within rs k concept) (let q : length rs - 0 ≡ length rs =
      omega arith in q)

  pub remaining_at_step : (done place next : ℕ) → done < length rs → replacement_of rs place ≡ Some next
      → remaining_replacements done place ≡ next ∷ remaining_replacements (done + 1) next
  remaining_at_step done place next less e = grind (arith, common_steps, within_some)

  pub remaining_at_end : (done place : ℕ) → length rs ≤ done → remaining_replacements done place ≡ []
  remaining_at_end done place all = ap (λ k. replacements_within rs k place) (let q : length rs - done ≡ 0 =
      omega (arith, all) in q)

-- The lemmas for loops along a chain of replacements.
pub ruleset along_chain = (
  remaining_at_start,
  remaining_at_step,
  remaining_at_end,
  within_none,
  append-nil,
  append_assoc,
)
