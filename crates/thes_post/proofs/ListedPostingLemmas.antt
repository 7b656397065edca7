-- The loop that checks the postings listed by a split.
use Rattle.std.proofs.Common.{◌≡◌, ◌<◌, ℕ, ◌+◌, length, List, refl, sym, ap, ◌∙◌, subst, ⊎_elim, Bool, true, false}
use Rattle.std.proofs.Common.{not, ◌||◌, get_or, take}
use Rattle.std.specs.Prelude.{Some, None}
use Rattle.thes_base.specs.declared.data.History.{History}
use Rattle.thes_base.specs.Resources.{entry_at}
use Rattle.thes_base.specs.RefusalRules.{accepted}
use Rattle.thes_base.specs.Refusals.{EachListed, IsPostingThat}
use Rattle.thes_base.specs.RuleParts.{unless_assigned}
use Rattle.thes_base.proofs.RefusalRuleLemmas.{passed_unless}
use Rattle.std.proofs.lemmas.Bool.{cases_Bool, not-true}
use Rattle.thes_post.proofs.EachLemmas.{each_more, each_at}

-- Assumes a step of the loop over the listed postings, whose flag `mark` is set once a posting fails the test.
module _ (hs : List History) (test : History → Bool) (ns : List ℕ) (i item : ℕ) (h : History) (mark fails : Bool)
    (inside : i < length ns) (is : item ≡ get_or ns i item) (at : entry_at hs item ≡ Some h)
    (told : test h ≡ not fails) where
  pub passes_more : (mark ≡ false → EachListed (IsPostingThat hs test) (take i ns)) → (mark || fails) ≡ false
      → EachListed (IsPostingThat hs test) (take (i + 1) ns)
  passes_more so_far unset = each_more (IsPostingThat hs test) ns i item inside (so_far (first mark fails unset))
      (subst (IsPostingThat hs test) is (h, at, told ∙ ap not (second mark fails unset)))
    where
      first : (a b : Bool) → (a || b) ≡ false → a ≡ false
      first true b e = e
      first false b e = refl

      second : (a b : Bool) → (a || b) ≡ false → b ≡ false
      second true b e = absurd (cc)
      second false b e = e

  pub passes_never : (mark ≡ true → EachListed (IsPostingThat hs test) ns → ⊥) → (mark || fails) ≡ true
      → EachListed (IsPostingThat hs test) ns → ⊥
  passes_never so_far set all = ⊎_elim (λ (before : mark ≡ true). so_far before all)
      (λ (here : mark ≡ false). fails_here (ap (λ b. b || fails) (sym here) ∙ set)) (cases_Bool mark)
    where
      fails_here : fails ≡ true → ⊥
      fails_here now =
          let p = subst (IsPostingThat hs test) (sym is) (each_at (IsPostingThat hs test) ns i item all inside) in
          let same : p.0 ≡ h = (let e : Some p.0 ≡ Some h = sym p.1 ∙ at in cc) in
          let t : true ≡ false = sym p.2 ∙ ap test same ∙ told ∙ ap not now in
          absurd (cc)

pub passed_standing : (hs : List History) (n : ℕ) → unless_assigned hs n accepted None → (h : History)
    × (entry_at hs n ≡ Some h) × (h.withdrawn ≡ false)
passed_standing hs n row =
    let known = passed_unless row in
    let passes = (passed_unless known.1).0 in
    (passes.0, passes.1, not-true passes.0.withdrawn passes.2)
