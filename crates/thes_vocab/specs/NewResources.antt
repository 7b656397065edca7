-- Requests for new resources: their checks and their effect.
use Rattle.std.specs.Prelude.{◌≡◌, ◌⊎◌, ◌+◌, ℕ, List, length, true, None, Some, Result, IfOk, OnOk, OnErr}
use Rattle.thes_base.specs.declared.data.Resource.{Resource}
use Rattle.thes_base.specs.Resources.{IsScheme, is_scheme_kind, is_concept_kind, is_collection_kind}
use Rattle.thes_base.specs.Labels.{Labels, IsPreferredTaken}
use Rattle.thes_base.specs.declared.data.NewResource.{NewResource}
use Rattle.thes_base.specs.declared.data.NewResource.TheVariants.{Scheme, Concept, Collection, Outside}
use Rattle.thes_base.specs.RefusalRules.{RefusalRule}
use Rattle.thes_base.specs.Changes.{state_after_creation, state_after_outside, scheme_resource, concept_resource}
use Rattle.thes_base.specs.Changes.{collection_resource}
use Rattle.thes_base.specs.RuleParts.{unless_scheme, unless_unique, unless_new_foreign_iri}
use Rattle.thes_vocab.specs.Vocabulary.{Vocabulary, IsConceptIn, bare_state, vocabulary_of}

-- The vocabulary after the resource is added under the next number.
abbrev pub vocabulary_after_add : NewResource → Vocabulary → Vocabulary
vocabulary_after_add (Scheme tag text) v =
    vocabulary_of v.base (state_after_creation scheme_resource tag text (bare_state v))
vocabulary_after_add (Concept scheme tag text) v =
    vocabulary_of v.base (state_after_creation (concept_resource (Some scheme)) tag text (bare_state v))
vocabulary_after_add (Collection scheme tag text) v =
    vocabulary_of v.base (state_after_creation (collection_resource scheme) tag text (bare_state v))
vocabulary_after_add (Outside iri) v = vocabulary_of v.base (state_after_outside iri (bare_state v))

-- The outcome of adding a resource: Ok with the next number, and the vocabulary is `after`; or Err, and it is
-- unchanged.
pub record AddsResource {E : Type 0} (old new after : Vocabulary) (result : Result ℕ E) : Type 0 where
  pub number : IfOk result (λ n. n ≡ length old.resources + 1)
  pub ok : OnOk result (new ≡ after)
  pub err : OnErr result (new ≡ old)

-- Refuses unless the resource may be added; the rule `rest` follows.
abbrev pub unless_new : Vocabulary → NewResource → RefusalRule → RefusalRule
unless_new v (Scheme tag text) rest = rest
unless_new v (Concept scheme tag text) rest =
    let after = vocabulary_after_add (Concept scheme tag text) v in
    unless_scheme v.resources scheme (unless_unique after.resources after.labels rest)
unless_new v (Collection scheme tag text) rest = unless_scheme v.resources scheme rest
unless_new v (Outside iri) rest = unless_new_foreign_iri v.base v.iris iri rest

-- The resource may be added with a label: it is a scheme, a concept or a collection, live and without a replacement,
-- and has a scheme unless it is a scheme itself.
pub record IsNewOwner (resources : List Resource) (r : Resource) : Type 0 where
  pub live : r.live ≡ true
  pub replaced : r.replaced ≡ None
  pub scheme : (is_concept_kind r.kind ≡ true) ⊎ (is_collection_kind r.kind ≡ true) → (m : ℕ) × (r.scheme ≡ Some m)
      × IsScheme resources m
  pub no_scheme : is_scheme_kind r.kind ≡ true → r.scheme ≡ None
  pub owner : (is_scheme_kind r.kind ≡ true) ⊎ (is_concept_kind r.kind ≡ true) ⊎ (is_collection_kind r.kind ≡ true)

-- If the resource is a live concept, no live concept of its scheme has the preferred label.
abbrev pub IsFreeName : List Resource → Labels → Resource → List ℕ → List ℕ → Type 0
IsFreeName resources labels r tag text = (scheme : ℕ) → IsConceptIn scheme r → IsPreferredTaken resources labels
    scheme tag text → ⊥
