-- Each request leaves the resources legal.
use Rattle.std.proofs.lemmas.Grind.{common_steps}
use Rattle.std.proofs.Common.{◌≡◌, ◌≢◌, ◌⊎◌, ◌<◌, ◌^◌, ℕ, ◌+◌, ◌-◌, length, List, [], ◌∷◌, ◌++◌, refl, sym, ap, ◌∙◌}
use Rattle.std.proofs.Common.{subst, arith, inl, inr, Bool, true, false, length-append, cond}
use Rattle.std.specs.Prelude.{Option, None, Some}
use Rattle.std.specs.Ordering.{nat_cmp, eq_by_cmp, is_eq}
use Rattle.std.specs.Cmp.{nat_cmp_total, tied_itself, Equal-is}
use Rattle.std.proofs.lemmas.Map.Lookups.{exact_unsigned}
use Rattle.std.specs.FinMap as dict
use Rattle.std.proofs.lemmas.Option.{same_Some}
use Rattle.std.proofs.lemmas.List.{length-set}
use Rattle.thes_base.specs.declared.data.Resource.{Resource}
use Rattle.thes_base.specs.Resources.{Iris, entry_at, set_entry_at, Exists, IsScheme, IsConcept, IsCollection}
use Rattle.thes_base.specs.Resources.{IsOutside, IsLive, IsReplacedBy, BeginsWith, scheme_of, is_scheme_kind}
use Rattle.thes_base.specs.Resources.{is_concept_kind, is_collection_kind, is_outside_kind}
use Rattle.thes_base.specs.Links.{Path}
use Rattle.thes_base.specs.Changes.{resource_after_death, scheme_resource, concept_resource, collection_resource}
use Rattle.thes_base.specs.Changes.{outside_resource}
use Rattle.thes_base.specs.Legal.{IsLegalResource, AreLegalIris, AreLegalResources}
use Rattle.thes_base.proofs.NumberedLemmas.{push_new, push_cases, numbered_bound}
use Rattle.thes_base.proofs.ResourceLemmas.{passes_push, passes_pop, scheme_push, passes_dead, passes_before}
use Rattle.thes_base.proofs.ResourceLemmas.{scheme_dead, dead_cases, one_resource, scheme_at}

pub path_map : {A : Type 0} → (S U : A → A → Type 0) → ((x y : A) → S x y → U x y) → (x : A) (between : List A)
    (y : A) → Path S x between y → Path U x between y
path_map S U each x [] y one = each x y one
path_map S U each x (z ∷ zs) y path = (each x z path.0, path_map S U each z zs y path.1)

-- In legal resources, the scheme of a concept or a collection is a resource of kind scheme.
pub scheme_known : (rs : List Resource) → ((n : ℕ) (r : Resource) → entry_at rs n ≡ Some r → IsLegalResource rs n r)
    → (n m : ℕ) → IsConcept rs n ⊎ IsCollection rs n → scheme_of rs n ≡ Some m → IsScheme rs m
scheme_known rs each n m (inl (r, at, hit)) within = let has = (each n r at).scheme (inl hit) in
    subst (IsScheme rs) (same_Some _ _ (sym has.1 ∙ sym (scheme_at rs n r at) ∙ within)) has.2
scheme_known rs each n m (inr (r, at, hit)) within = let has = (each n r at).scheme (inr hit) in
    subst (IsScheme rs) (same_Some _ _ (sym has.1 ∙ sym (scheme_at rs n r at) ∙ within)) has.2

-- In legal resources, each concept has a scheme.
pub own_scheme : (rs : List Resource) → ((n : ℕ) (r : Resource) → entry_at rs n ≡ Some r → IsLegalResource rs n r)
    → (n : ℕ) → IsConcept rs n → (m : ℕ) × (scheme_of rs n ≡ Some m) × IsScheme rs m
own_scheme rs each n (r, at, hit) = let has = (each n r at).scheme (inl hit) in
    (has.0, scheme_at rs n r at ∙ has.1, has.2)

-- The empty map has no IRI.
pub no_iri : (n : ℕ) (iri : List ℕ) → dict.get (dict.empty {R = nat_cmp}) n ≡ Some iri → ⊥
no_iri n iri e = let none = dict.get-empty {X = List ℕ} nat_cmp n in absurd (cc)

-- An IRI after an insertion is the inserted one or an old one.
pub iri_cases : (iris : Iris) (k : ℕ) (iri : List ℕ) (n : ℕ) (x : List ℕ) → dict.get (dict.insert iris k iri) n
    ≡ Some x → ((n ≡ k) × (x ≡ iri)) ⊎ (dict.get iris n ≡ Some x)
iri_cases iris k iri n x e = go (eq_by_cmp nat_cmp n k) refl (sym (dict.get-insert nat_cmp_total iris k iri n) ∙ e)
  where
    go : (b : Bool) → eq_by_cmp nat_cmp n k ≡ b → cond b (Some iri) (dict.get iris n) ≡ Some x → ((n ≡ k) × (x ≡ iri))
        ⊎ (dict.get iris n ≡ Some x)
    go true tie e = inl (exact_unsigned n k ((Equal-is (nat_cmp n k)).0 tie), cc)
    go false tie e = inr e

-- The resource may be created: it is live, not replaced, and has a scheme exactly if its kind requires one.
pub record IsFit (rs : List Resource) (r : Resource) : Type 0 where
  pub live : r.live ≡ true
  pub replaced : r.replaced ≡ None
  pub scheme : (is_concept_kind r.kind ≡ true) ⊎ (is_collection_kind r.kind ≡ true) → (m : ℕ) × (r.scheme ≡ Some m)
      × IsScheme rs m
  pub no_scheme : (is_scheme_kind r.kind ≡ true) ⊎ (is_outside_kind r.kind ≡ true) → r.scheme ≡ None

no_kind : (false ≡ true) ⊎ (false ≡ true) → ⊥
no_kind (inl e) = cc
no_kind (inr e) = cc

pub concept_fit : (rs : List Resource) (scheme : Option ℕ) → (m : ℕ) × (scheme ≡ Some m) × IsScheme rs m
    → IsFit rs (concept_resource scheme)
concept_fit rs scheme is = record {
  live = refl;
  replaced = refl;
  scheme = λ _. is;
  no_scheme =
      λ k. absurd (no_kind k);
}

pub collection_fit : (rs : List Resource) (scheme : ℕ) → IsScheme rs scheme → IsFit rs (collection_resource scheme)
collection_fit rs scheme is = record {
  live = refl;
  replaced = refl;
  scheme = λ _. (scheme, refl, is);
  no_scheme =
      λ k. absurd (no_kind k);
}

pub scheme_fit : (rs : List Resource) → IsFit rs scheme_resource
scheme_fit rs = record { live = refl; replaced = refl; scheme = λ k. absurd (no_kind k); no_scheme = λ _. refl }

pub outside_fit : (rs : List Resource) → IsFit rs outside_resource
outside_fit rs = record { live = refl; replaced = refl; scheme = λ k. absurd (no_kind k); no_scheme = λ _. refl }

-- Assumes that a live resource is created.
module _ (base : List ℕ) (rs : List Resource) (iris : Iris) (r : Resource) (legal : AreLegalResources base rs iris)
    (fit : IsFit rs r) where
  -- Each resource after a creation is legal.
  each_push : (n : ℕ) (q : Resource) → (entry_at rs n ≡ Some q) ⊎ ((n ≡ length rs + 1) × (q ≡ r))
      → IsLegalResource (rs ++ r ∷ []) n q
  each_push n q (inl old) =
      let was = legal.each n q old in
      record {
        scheme = λ k. let has = was.scheme k in
            (has.0, has.1, passes_push rs r (λ x. is_scheme_kind x.kind) has.0 has.2);
        no_scheme = was.no_scheme;
        dead_is_concept = was.dead_is_concept;
        replaced = λ m e. let has = was.replaced m e in (
          has.0,
          has.1,
          passes_push rs r (λ x. is_concept_kind x.kind) m has.2,
          scheme_push rs r m (has.2.0, has.2.1) ∙ has.3,
        );
      }
  each_push n q (inr (at, is)) = subst (IsLegalResource (rs ++ r ∷ []) n) (sym is) (record {
    scheme = λ k. let has = fit.scheme k in (has.0, has.1, passes_push rs r (λ x. is_scheme_kind x.kind) has.0 has.2);
    no_scheme = fit.no_scheme;
    dead_is_concept = λ e. let l = fit.live in absurd (cc);
    replaced = λ m e. let l = fit.replaced in absurd (cc);
  })

  replaced_before : (m n : ℕ) → IsReplacedBy (rs ++ r ∷ []) m n → IsReplacedBy rs m n
  replaced_before m n (q, at, is) = grind (arith, common_steps, push_cases)

  pub each_pushed : (n : ℕ) (q : Resource) → entry_at (rs ++ r ∷ []) n ≡ Some q → IsLegalResource (rs ++ r ∷ []) n q
  each_pushed n q e = each_push n q (push_cases rs r q n e)

  push_fields : length rs + 1 < 2 ^ 32 → (new : Iris) → AreLegalIris base (rs ++ r ∷ []) new
      → AreLegalResources base (rs ++ r ∷ []) new
  push_fields few new ok = record {
    few = (let n = length-append rs (r ∷ []) in omega (arith, n, few));
    each = each_pushed;
    no_return = λ n chain. legal.no_return n (
      chain.0,
      path_map (IsReplacedBy (rs ++ r ∷ [])) (IsReplacedBy rs)
          replaced_before n chain.0 n chain.1,
    );
    outside = ok;
  }

  -- The IRIs stay legal if a resource other than an outside concept is created.
  pub iris_push : is_outside_kind r.kind ≡ false → AreLegalIris base (rs ++ r ∷ []) iris
  iris_push inside = record {
    each = λ n o. old n (passes_pop rs r (λ x. is_outside_kind x.kind) n o);
    only = λ n iri e. passes_push rs r (λ x. is_outside_kind x.kind) n (legal.outside.only n iri e);
    distinct = legal.outside.distinct;
    foreign = legal.outside.foreign;
  }
    where
      old : (n : ℕ) → IsOutside rs n ⊎ ((n ≡ length rs + 1) × (is_outside_kind r.kind ≡ true)) → (iri : List ℕ)
          × (dict.get iris n ≡ Some iri)
      old n (inl o) = legal.outside.each n o
      old n (inr (_, o)) = absurd (cc)

  pub resources_push : length rs + 1 < 2 ^ 32 → is_outside_kind r.kind ≡ false
      → AreLegalResources base (rs ++ r ∷ []) iris
  resources_push few inside = push_fields few iris (iris_push inside)

  -- The resources stay legal if an outside concept is created with a new IRI that doesn't begin with the base.
  pub resources_push_outside : (iri : List ℕ) → length rs + 1 < 2 ^ 32 → is_outside_kind r.kind ≡ true
      → (BeginsWith iri base → ⊥) → ((n : ℕ) → dict.get iris n ≢ Some iri) → AreLegalResources base (rs ++ r ∷ [])
      (dict.insert iris (length rs + 1) iri)
  resources_push_outside iri few outside foreign fresh = push_fields few (dict.insert iris (length rs + 1) iri)
      (record {
        each = λ n o. each_at n (passes_pop rs r (λ x. is_outside_kind x.kind) n o);
        only = λ n x e. only_at n x (iri_cases iris (length rs + 1) iri n x e);
        distinct = λ m n x em en. distinct_at m n x (iri_cases iris (length rs + 1) iri m x em)
            (iri_cases iris (length rs + 1) iri n x en);
        foreign = λ n x e. foreign_at n x (iri_cases iris (length rs + 1) iri n x e);
      })
    where
      new_has : dict.get (dict.insert iris (length rs + 1) iri) (length rs + 1) ≡ Some iri
      new_has = dict.get-insert nat_cmp_total iris (length rs + 1) iri (length rs + 1)
          ∙ ap (λ b. cond b (Some iri) (dict.get iris (length rs + 1)))
          (ap is_eq (tied_itself nat_cmp_total (length rs + 1)))

      fresh_number : (n : ℕ) → Exists rs n → n ≢ length rs + 1
      fresh_number n (q, at) e = let b = numbered_bound rs n q at in omega (arith, b, e)

      old_has : (n : ℕ) (x : List ℕ) → IsOutside rs n → dict.get iris n ≡ Some x
          → dict.get (dict.insert iris (length rs + 1) iri) n ≡ Some x
      old_has n x (q, at, hit) e = go (eq_by_cmp nat_cmp n (length rs + 1)) refl
        where
          go : (b : Bool) → eq_by_cmp nat_cmp n (length rs + 1) ≡ b → dict.get (dict.insert iris (length rs + 1) iri)
              n ≡ Some x
          go true tie =
              absurd (fresh_number n (q, at)
              (exact_unsigned n (length rs + 1) ((Equal-is (nat_cmp n (length rs + 1))).0 tie)))
          go false tie = dict.get-insert nat_cmp_total iris (length rs + 1) iri n
              ∙ ap (λ b. cond b (Some iri) (dict.get iris n)) tie ∙ e

      each_at : (n : ℕ) → IsOutside rs n ⊎ ((n ≡ length rs + 1) × (is_outside_kind r.kind ≡ true)) → (x : List ℕ)
          × (dict.get (dict.insert iris (length rs + 1) iri) n ≡ Some x)
      each_at n (inl o) = let has = legal.outside.each n o in (has.0, old_has n has.0 o has.1)
      each_at n (inr (at, _)) = (iri, ap (dict.get (dict.insert iris (length rs + 1) iri)) at ∙ new_has)

      only_at : (n : ℕ) (x : List ℕ) → ((n ≡ length rs + 1) × (x ≡ iri)) ⊎ (dict.get iris n ≡ Some x)
          → IsOutside (rs ++ r ∷ []) n
      only_at n x (inl (at, _)) = (r, ap (entry_at (rs ++ r ∷ [])) at ∙ push_new rs r, outside)
      only_at n x (inr e) = passes_push rs r (λ y. is_outside_kind y.kind) n (legal.outside.only n x e)

      distinct_at : (m n : ℕ) (x : List ℕ) → ((m ≡ length rs + 1) × (x ≡ iri)) ⊎ (dict.get iris m ≡ Some x)
          → ((n ≡ length rs + 1) × (x ≡ iri)) ⊎ (dict.get iris n ≡ Some x) → m ≡ n
      distinct_at m n x (inl (at, _)) (inl (bt, _)) = at ∙ sym bt
      distinct_at m n x (inl (_, is)) (inr e) = absurd (fresh n (e ∙ ap Some is))
      distinct_at m n x (inr e) (inl (_, is)) = absurd (fresh m (e ∙ ap Some is))
      distinct_at m n x (inr em) (inr en) = legal.outside.distinct m n x em en

      foreign_at : (n : ℕ) (x : List ℕ) → ((n ≡ length rs + 1) × (x ≡ iri)) ⊎ (dict.get iris n ≡ Some x)
          → BeginsWith x base → ⊥
      foreign_at n x (inl (_, is)) begins = foreign (subst (λ y. BeginsWith y base) is begins)
      foreign_at n x (inr e) begins = legal.outside.foreign n x e begins

-- Assumes that a concept dies, and that its replacement, if it has one, is another live concept of its scheme.
module _ (base : List ℕ) (rs : List Resource) (iris : Iris) (n : ℕ) (rep : Option ℕ) (r : Resource)
    (at : entry_at rs n ≡ Some r) (legal : AreLegalResources base rs iris) (concept : is_concept_kind r.kind ≡ true)
    (fit : (m : ℕ) → rep ≡ Some m → (m ≢ n) × IsConcept rs m × IsLive rs m × (scheme_of rs m ≡ r.scheme)) where
  -- The resources after a death are legal.
  pub resources_dead : AreLegalResources base (set_entry_at rs n (resource_after_death rep r)) iris
  resources_dead = record {
    few = (let q = length-set rs (n - 1) (resource_after_death rep r) in let l = legal.few in omega (arith, q, l));
    each = λ m q e. each_at m q (dead_cases rs n rep r at m q e);
    no_return = λ m chain. legal.no_return m (chain.0, old_path m chain.0 m chain.1 (first m chain.0 m chain.1));
    outside = record {
      each = λ m o. legal.outside.each m (passes_before rs n rep r at (λ x. is_outside_kind x.kind) (λ x. refl) m o);
      only = λ m iri e. passes_dead rs n rep r at (λ x. is_outside_kind x.kind) (λ x. refl) m
          (legal.outside.only m iri e);
      distinct = legal.outside.distinct;
      foreign = legal.outside.foreign;
    };
  }
    where
      still_scheme : (m : ℕ) → IsScheme rs m → IsScheme (set_entry_at rs n (resource_after_death rep r)) m
      still_scheme = passes_dead rs n rep r at (λ x. is_scheme_kind x.kind) (λ x. refl)

      still_concept : (m : ℕ) → IsConcept rs m → IsConcept (set_entry_at rs n (resource_after_death rep r)) m
      still_concept = passes_dead rs n rep r at (λ x. is_concept_kind x.kind) (λ x. refl)

      -- Each resource after a death is legal.
      each_at : (m : ℕ) (q : Resource) → ((m ≡ n) × (q ≡ resource_after_death rep r))
          ⊎ ((m ≢ n) × (entry_at rs m ≡ Some q))
          → IsLegalResource (set_entry_at rs n (resource_after_death rep r)) m q
      each_at m q (inl (here, is)) =
          let was = legal.each n r at in
          subst (λ (x : ℕ × Resource). IsLegalResource (set_entry_at rs n (resource_after_death rep r)) x.0 x.1)
          (λ i. (sym here i, sym is i)) (record {
            scheme = λ k. let has = was.scheme k in (has.0, has.1, still_scheme has.0 has.2);
            no_scheme = was.no_scheme;
            dead_is_concept = λ _. concept;
            replaced = λ k e. let has = fit k e in
                (refl, has.0, still_concept k has.1, scheme_dead rs n rep r at k (has.1.0, has.1.1) ∙ has.3);
          })
      each_at m q (inr (apart, old)) =
          let was = legal.each m q old in
          record {
            scheme = λ k. let has = was.scheme k in (has.0, has.1, still_scheme has.0 has.2);
            no_scheme = was.no_scheme;
            dead_is_concept = was.dead_is_concept;
            replaced = λ k e. let has = was.replaced k e in
                (has.0, has.1, still_concept k has.2, scheme_dead rs n rep r at k (has.2.0, has.2.1) ∙ has.3);
          }

      -- A replacement after the death is an old one, or that of the dead concept.
      step : (x y : ℕ) → IsReplacedBy (set_entry_at rs n (resource_after_death rep r)) x y → IsReplacedBy rs x y
          ⊎ (rep ≡ Some y)
      step x y (q, is, by) = go (dead_cases rs n rep r at x q is)
        where
          go : ((x ≡ n) × (q ≡ resource_after_death rep r)) ⊎ ((x ≢ n) × (entry_at rs x ≡ Some q)) → IsReplacedBy rs x y
              ⊎ (rep ≡ Some y)
          go (inl (_, same)) = inr (sym (ap (λ (z : Resource). z.replaced) same) ∙ by)
          go (inr (_, old)) = inl (q, old, by)

      -- The dead concept's replacement isn't itself replaced.
      stays : (x y : ℕ) → rep ≡ Some x → IsReplacedBy (set_entry_at rs n (resource_after_death rep r)) x y → ⊥
      stays x y is (q, found, by) = go (dead_cases rs n rep r at x q found)
        where
          go : ((x ≡ n) × (q ≡ resource_after_death rep r)) ⊎ ((x ≢ n) × (entry_at rs x ≡ Some q)) → ⊥
          go (inl (here, _)) = (fit x is).0 here
          go (inr (_, old)) =
              let dies = ((legal.each x q old).replaced y by).0 in
              let lives = (fit x is).2 in
              let same = ap (λ (z : Resource). z.live) (one_resource rs x q lives.0 old lives.1) in
              let hit = lives.2 in
              cc

      -- The concept at the start of a path of replacements is replaced.
      first : (x : ℕ) (zs : List ℕ) (y : ℕ) → Path (IsReplacedBy (set_entry_at rs n (resource_after_death rep r))) x zs
          y → (z : ℕ)
          × IsReplacedBy (set_entry_at rs n (resource_after_death rep r)) x z
      first x [] y one = (y, one)
      first x (z ∷ zs) y path = (z, path.0)

      -- A path of replacements that a further replacement continues was already a path before the death.
      old_path : (x : ℕ) (zs : List ℕ) (y : ℕ) → Path (IsReplacedBy (set_entry_at rs n (resource_after_death rep r))) x
          zs y → (z : ℕ)
          × IsReplacedBy (set_entry_at rs n (resource_after_death rep r)) y z → Path (IsReplacedBy rs) x zs y
      old_path x [] y one on = elim (step x y one) [ inl old ↦ old | inr is ↦ absurd (stays y on.0 is on.1) ]
      old_path x (z ∷ zs) y path on = elim (step x z path.0) [
        | inl old ↦ (old, old_path z zs y path.1 on)
        | inr is ↦ absurd (let f = first z zs y path.1 in stays z f.0 is f.1)
      ]

-- The resources stay legal if a concept is replaced by another live concept of its scheme.
pub resources_merged : (base : List ℕ) (rs : List Resource) (iris : Iris) (source target : ℕ) (r : Resource)
    → entry_at rs source ≡ Some r → AreLegalResources base rs iris
    → IsConcept rs source → IsConcept rs target → IsLive rs target → source ≢ target → scheme_of rs source
    ≡ scheme_of rs target → AreLegalResources base (set_entry_at rs source (resource_after_death (Some target) r)) iris
resources_merged base rs iris source target r at legal concept concept_target live_target apart schemes =
    resources_dead base rs iris source (Some target) r
    at legal (subst (λ (x : Resource). is_concept_kind x.kind ≡ true)
    (one_resource rs source concept.0 r concept.1 at) concept.2) (λ m e. replaced m (same_target m e))
  where
    same_target : (m : ℕ) → Some target ≡ Some m → target ≡ m
    same_target m e = cc

    replaced : (m : ℕ) → target ≡ m → (m ≢ source) × IsConcept rs m × IsLive rs m × (scheme_of rs m ≡ r.scheme)
    replaced m e = subst (λ k. (k ≢ source) × IsConcept rs k × IsLive rs k × (scheme_of rs k ≡ r.scheme)) e
        (λ same. apart (sym same), concept_target, live_target, sym schemes ∙ scheme_at rs source r at)
