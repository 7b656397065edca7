-- Proves that the lists computed rank by rank have the children of each concept.
use Rattle.std.proofs.Common.{◌≡◌, ◌∙◌, ◌<◌, ◌+◌, sym, ap, refl, subst, ℕ, zero, suc, List, [], ◌∷◌, ◌++◌, length}
use Rattle.std.proofs.Common.{length-append, arith, Vec, ⊎_elim}
use Rattle.std.specs.declared.alloc.Global.{Global}
use Rattle.std.proofs.lemmas.Bool.{cases_lt}
use Rattle.std.proofs.lemmas.List.{map-append}
use Rattle.thes_base.specs.Links.{Links}
use Rattle.thes_base.specs.Listing.{IsListing}
use Rattle.thes_display.specs.declared.walk.Child.{Child}
use Rattle.thes_display.specs.Order.{Term}
use Rattle.thes_display.specs.ChildLists.{children_at, lists, child_cmp}
use Rattle.thes_display.specs.HierarchyParts.{AreBelow, IsChild}

at_front : (below : List (List Child)) (cs : List Child) (b : ℕ) → b < length below → children_at (below ++ cs ∷ []) b
    ≡ children_at below b
at_front [] cs b l = absurd (omega arith)
at_front (x ∷ below) cs zero l = refl
at_front (x ∷ below) cs (suc b) l = at_front below cs b (omega arith)

at_last : (below : List (List Child)) (cs : List Child) → children_at (below ++ cs ∷ []) (length below) ≡ cs
at_last [] cs = refl
at_last (x ∷ below) cs = at_last below cs

module _ (links : Links) (terms : List Term) where
  -- Appending the children of the concept with the rank `m` extends the lists by that rank.
  pub below_more : (m : ℕ) (below new : List (Vec Child Global)) (v : Vec Child Global) → AreBelow links terms m
      (lists below) → IsListing child_cmp (IsChild links terms m) v.items → new ≡ below ++ v ∷ []
      → AreBelow links terms (m + 1) (lists new)
  below_more m below new v a listed e =
      let more : lists new ≡ lists below ++ v.items ∷ [] = ap lists e ∙ map-append (λ (x : Vec Child Global). x.items)
      below (v ∷ []) in
      let s = a.size in
      record {
        size = let f = ap length more in let g = length-append (lists below) (v.items ∷ []) in omega (arith, f, g, s);
        each = λ b l. ⊎_elim
            (λ old. subst (IsListing child_cmp (IsChild links terms b))
            (sym (ap (λ x. children_at x b) more ∙ at_front (lists below) v.items b (omega (arith, s, old))))
            (a.each b old))
            (λ last.
            let here : m ≡ b = omega (arith, l, last) in
            subst (λ k. IsListing child_cmp (IsChild links terms k) (children_at (lists new) k)) here
            (subst (IsListing child_cmp (IsChild links terms m))
            (sym (ap (λ x. children_at x m) more ∙ ap (children_at (lists below ++ v.items ∷ [])) (sym s)
            ∙ at_last (lists below) v.items)) listed))
            (cases_lt b m);
      }
