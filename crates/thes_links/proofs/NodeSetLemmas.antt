-- A node is in a list of nodes exactly when the test for equality with it succeeds for some node of the list.
use Rattle.std.proofs.lemmas.Grind.{common_steps}
use Rattle.std.proofs.Common.{◌≡◌, ◌++◌, ◌∷◌, [], inl, inr, ℕ, List, Bool, true, false, nat_eq, Contains, sym, subst, ◌∙◌}
use Rattle.std.proofs.Common.{arith}
use Rattle.std.proofs.lemmas.List.Elements.{Contains-push_cases}
use Rattle.thes_links.specs.NodeSet.{HasSharedBit, HasSharedBits}
use Rattle.std.specs.Bool.{MatchBool}
use Rattle.std.specs.List.{list_any}
use Rattle.std.specs.Cmp.{nat_eq_equiv}
use Rattle.std.proofs.lemmas.Bool.{true≢false}
use Rattle.std.proofs.lemmas.Map.Views.{list_any-from_Contains, Contains-from_any}
use Rattle.thes_links.proofs.NumberLemmas.{same_of}

has_of_test : (nodes : List ℕ) (n : ℕ) → list_any (nat_eq n) nodes ≡ true → Contains nodes n
has_of_test nodes n e = Contains-from_any same_of n nodes e

test_of_has : (nodes : List ℕ) (n : ℕ) → Contains nodes n → list_any (nat_eq n) nodes ≡ true
test_of_has nodes n has = list_any-from_Contains nat_eq_equiv n nodes has

-- The result of the test decides whether the node is in the list.
pub has_met : (nodes : List ℕ) (n : ℕ) (b : Bool) → b ≡ list_any (nat_eq n) nodes → MatchBool b (Contains nodes n)
    (Contains nodes n → ⊥)
has_met nodes n true e = has_of_test nodes n (sym e)
has_met nodes n false e = λ has. true≢false (sym (test_of_has nodes n has) ∙ sym e)

pub no_test_of_none : (nodes : List ℕ) (n : ℕ) → (Contains nodes n → ⊥) → list_any (nat_eq n) nodes ≡ false
no_test_of_none nodes n none = grind (arith, common_steps, has_of_test)

-- After one more node is appended and its bit is set, the bits of all nodes of the list are set.
pub shared_bits_push : (nodes : List ℕ) (n old new : ℕ) → HasSharedBit new n
    → ((m : ℕ) → HasSharedBit old m → HasSharedBit new m) → HasSharedBits nodes old
    → HasSharedBits (nodes ++ n ∷ []) new
shared_bits_push nodes n old new here kept are m has = elim (Contains-push_cases nodes n m has) [
  | inl before ↦ kept m (are m before)
  | inr same ↦ subst (HasSharedBit new) same here
]
