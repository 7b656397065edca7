-- Preferred labels are unique in each scheme exactly when the triples meet the condition MeetsUniquePreferred.
use Rattle.std.proofs.lemmas.Grind.{common_steps}
use Rattle.std.proofs.Common.{arith}
use Rattle.std.proofs.Common.{◌≡◌, ◌⊎◌, ℕ, List, refl, sym, ap, ◌∙◌, subst, inl, inr, true}
use Rattle.std.specs.Prelude.{Some, ◌↔◌}
use Rattle.std.specs.FinSet.{contains}
use Rattle.thes_base.specs.declared.data.LabelKind.TheVariants.{Pref}
use Rattle.thes_base.specs.declared.triple.Property.TheVariants as property
use Rattle.thes_base.specs.declared.triple.Class.TheVariants as class
use Rattle.thes_base.specs.Resources.{Exists, IsConcept, IsCollection, IsLive, IsLiveConcept, scheme_of}
use Rattle.thes_base.specs.Resources.{is_concept_kind}
use Rattle.thes_base.specs.Labels.{Label, HasLabel, UniquePreferred}
use Rattle.thes_base.specs.State.{State}
use Rattle.thes_base.specs.Triples.{Triple, iri_of, IsAsserted}
use Rattle.thes_base.specs.Skos as skos
use Rattle.thes_base.proofs.ResourceLemmas.{live_from_test, live_of_parts, concept_of_live, live_of_live}
use Rattle.thes_base.proofs.ResourceLemmas.{one_resource, exists_of, owner_exists}

-- Assumes that IRIs are distinct, and that the owners of labels and the schemes of resources exist.
module _ (base : List ℕ) (s : State) (apart : (m n : ℕ) → Exists s.resources m → Exists s.resources n
    → iri_of base s.iris m ≡ iri_of base s.iris n → m ≡ n)
    (owners : (l : Label) → contains s.labels l ≡ true → Exists s.resources l.owner)
    (schemes : (n m : ℕ) → IsConcept s.resources n ⊎ IsCollection s.resources n → scheme_of s.resources n ≡ Some m
    → Exists s.resources m) where
  abbrev T : Triple → Type 0
  T = IsAsserted base s

  abbrev iri : ℕ → List ℕ
  iri = iri_of base s.iris

  live_unless : (n : ℕ) → IsConcept s.resources n → ((IsLive s.resources n → ⊥) → ⊥) → IsLiveConcept s.resources n
  live_unless n (r, at, is) not_dead = grind (arith, common_steps, live_from_test, live_of_parts, one_resource)

  -- If preferred labels are unique in each scheme, the triples meet the condition.
  holds : UniquePreferred s.resources s.labels → skos.MeetsUniquePreferred T
  holds unique = record { one = λ x y scheme tag text cx cy hx hy. go x y scheme tag text cx cy hx hy }
    where
      -- The IRIs of a current concept and its scheme belong to a live concept and its scheme.
      current : (x scheme : List ℕ) → skos.IsCurrentConcept T x scheme → (n : ℕ) × (m : ℕ) × IsLiveConcept s.resources
          n × (scheme_of s.resources n ≡ Some m) × Exists s.resources m × (x ≡ iri n) × (scheme ≡ iri m)
      current x scheme c = at c.concept c.within
        where
          at : skos.HasClass T class.Concept x → skos.HasObject T property.InScheme x scheme → (n : ℕ) × (m : ℕ)
              × IsLiveConcept s.resources n × (scheme_of s.resources n ≡ Some m) × Exists s.resources m × (x ≡ iri n)
              × (scheme ≡ iri m)
          at (n, is, e) (k, m, (owner, within), ek, em) =
              let same = apart k n (owner_exists s.resources k (inr owner))
              (exists_of s.resources (λ r. is_concept_kind r.kind) n is) (sym ek ∙ e) in (
                n,
                m,
                live_unless n is (λ dead. c.current (n, (is, dead), e)),
                subst (λ q. scheme_of s.resources q ≡ Some m) same within,
                schemes k m owner within,
                e,
                em,
              )

      go : (x y scheme tag text : List ℕ) → skos.IsCurrentConcept T x scheme → skos.IsCurrentConcept T y scheme
          → skos.HasLiteral T property.PrefLabel x tag text → skos.HasLiteral T property.PrefLabel y tag text → x ≡ y
      go x y scheme tag text cx cy (p, hp, ep) (q, hq, eq) =
          let a = current x scheme cx in
          let b = current y scheme cy in
          let one = apart a.1 b.1 a.4 b.4 (sym a.6 ∙ b.6) in
          let pa =
          apart p a.0 (owners _ hp) (exists_of s.resources (λ r. is_concept_kind r.kind) a.0
          (concept_of_live s.resources a.0 a.2)) (sym ep ∙ a.5) in
          let qb =
          apart q b.0 (owners _ hq) (exists_of s.resources (λ r. is_concept_kind r.kind) b.0
          (concept_of_live s.resources b.0 b.2)) (sym eq ∙ b.5) in
          let same = unique a.0 b.0 b.1 tag text a.2 b.2 (subst (λ k. scheme_of s.resources a.0 ≡ Some k) one a.3) b.3
          (subst (λ k. HasLabel s.labels k Pref tag text) pa hp)
          (subst (λ k. HasLabel s.labels k Pref tag text) qb hq) in
          a.5 ∙ ap iri same ∙ sym b.5

  -- If the triples meet the condition, preferred labels are unique in each scheme.
  back : skos.MeetsUniquePreferred T → UniquePreferred s.resources s.labels
  back rule m n scheme tag text live_m live_n in_m in_n has_m has_n =
      apart m n (known m live_m) (known n live_n)
      (rule.one (iri m) (iri n) (iri scheme) tag text (current m live_m in_m) (current n live_n in_n)
      (m, has_m, refl) (n, has_n, refl))
    where
      known : (k : ℕ) → IsLiveConcept s.resources k → Exists s.resources k
      known k live = exists_of s.resources (λ r. is_concept_kind r.kind) k (concept_of_live s.resources k live)

      current : (k : ℕ) → IsLiveConcept s.resources k → scheme_of s.resources k ≡ Some scheme
          → skos.IsCurrentConcept T (iri k) (iri scheme)
      current k live within = record {
        concept = (k, concept_of_live s.resources k live, refl);
        within = (k, scheme, (inl (concept_of_live s.resources k live), within), refl, refl);
        current =
            λ dead. dead.1.1
            (subst (IsLive s.resources)
            (apart k dead.0 (known k live) (exists_of s.resources (λ r. is_concept_kind r.kind) dead.0 dead.1.0)
            dead.2) (live_of_live s.resources k live));
      }

  pub unique_triples : UniquePreferred s.resources s.labels ↔ skos.MeetsUniquePreferred T
  unique_triples = (holds, back)
