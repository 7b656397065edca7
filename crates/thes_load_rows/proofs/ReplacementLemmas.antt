-- The checks of table resource decide whether it meets its rule. Replacements are checked as links of a graph.
use Rattle.std.proofs.lemmas.Grind.{common_steps}
use Rattle.std.proofs.Common.{◌≡◌, ◌≢◌, ◌⊎◌, ◌<◌, ◌≤◌, ◌^◌, ℕ, ◌+◌, length, List, refl, sym, ap, ◌∙◌}
use Rattle.std.proofs.Common.{subst, arith, inl, inr, true, false}
use Rattle.std.proofs.lemmas.Option.{same_Some}
use Rattle.std.specs.Prelude.{Option, Some, None}
use Rattle.std.specs.FinSet.{empty, insert, contains-empty}
use Rattle.std.proofs.lemmas.Bool.{cases_eq}
use Rattle.thes_base.specs.declared.data.Resource.{Resource}
use Rattle.thes_base.specs.declared.data.ResourceKind.{ResourceKind}
use Rattle.thes_base.specs.declared.data.Link.{Link}
use Rattle.thes_base.specs.declared.data.LinkKind.TheVariants.{Broader}
use Rattle.thes_base.specs.declared.fault.Refusal.{Refusal}
use Rattle.thes_base.specs.Resources.{entry_at, IsScheme, IsReplacedBy, replacement_of, is_scheme_kind}
use Rattle.thes_base.specs.Resources.{is_concept_kind, is_collection_kind, is_outside_kind}
use Rattle.thes_base.specs.Links.{Links, Holds, IsNarrower, IsBelow, NoCycle, IsFirstBroken}
use Rattle.thes_base.specs.Legal.{IsLegalResource}
use Rattle.thes_base.proofs.NumberedLemmas.{numbered_bound}
use Rattle.thes_base.proofs.LinkSetLemmas.{links_total, links_exact, link_inserted_cases}
use Rattle.thes_base.proofs.SetMemberLemmas.{inserted_new, inserted_kept}
use Rattle.thes_base.proofs.LegalResourceLemmas.{path_map}
use Rattle.thes_base.proofs.ForwardingLemmas.{next_is, is_next}
use Rattle.thes_load_rules.specs.Rules.{ResourceRule}
use Rattle.thes_load_rows.specs.ResourceChecks.{SchemeFits, ReplacementFits, ResourceFits, EachResourceFits}
use Rattle.thes_load_rows.specs.ResourceChecks.{NoneReplacesItself, HasReplacementCycle, HasReplacements, is_cycle}

-- The check of each resource (ResourceFits) accepts exactly the legal resources.
module _ (rs : List Resource) where
  scheme_some : (kind : ResourceKind) (o : Option ℕ) → SchemeFits rs kind o → (is_concept_kind kind ≡ true)
      ⊎ (is_collection_kind kind ≡ true) → (m : ℕ) × (o ≡ Some m) × IsScheme rs m
  scheme_some kind o fits k = grind (arith, common_steps)

  scheme_none : (kind : ResourceKind) (o : Option ℕ) → SchemeFits rs kind o → (is_scheme_kind kind ≡ true)
      ⊎ (is_outside_kind kind ≡ true) → o ≡ None
  scheme_none kind o fits k = grind (arith, common_steps)

  legal_of : (n : ℕ) (r : Resource) → ResourceFits rs n r → IsLegalResource rs n r
  legal_of n r fits = grind (arith, common_steps, scheme_none, scheme_some)

  fits_scheme : (kind : ResourceKind) (o : Option ℕ)
      → ((is_concept_kind kind ≡ true) ⊎ (is_collection_kind kind ≡ true) → (m : ℕ) × (o ≡ Some m) × IsScheme rs m)
      → ((is_scheme_kind kind ≡ true) ⊎ (is_outside_kind kind ≡ true) → o ≡ None) → SchemeFits rs kind o
  fits_scheme kind o some none = grind (arith, common_steps)

  fits_replacement : (n : ℕ) (r : Resource) (o : Option ℕ) → ((m : ℕ) → o ≡ Some m → ReplacementFits rs n r (Some m))
      → ReplacementFits rs n r o
  fits_replacement n r None each = tt
  fits_replacement n r (Some m) each = each m refl

  fits_of : (n : ℕ) (r : Resource) → IsLegalResource rs n r → ResourceFits rs n r
  fits_of n r legal = grind (arith, common_steps, fits_replacement, fits_scheme)

  pub each_legal : EachResourceFits rs → (n : ℕ) (r : Resource) → entry_at rs n ≡ Some r → IsLegalResource rs n r
  each_legal each n r e = legal_of n r (each n r e)

  pub fits_legal : ((n : ℕ) (r : Resource) → entry_at rs n ≡ Some r → IsLegalResource rs n r) → EachResourceFits rs
  fits_legal each n r e = fits_of n r (each n r e)

  pub apart_of : EachResourceFits rs → NoneReplacesItself rs
  apart_of each n m e same = let is = next_is rs n m e in
      (subst (ReplacementFits rs n is.0) is.2 (each n is.0 is.1).2).1 (sym same)

  pub replacements_none : HasReplacements rs 0 empty
  replacements_none = grind (arith, common_steps, contains-empty)

  -- After a resource without a replacement, the graph has the replacements of all resources so far without a new link.
  pub replacements_skip : (i : ℕ) (links : Links) → replacement_of rs (i + 1) ≡ None → HasReplacements rs i links
      → HasReplacements rs (i + 1) links
  replacements_skip i links none has = grind (arith, common_steps, cases_eq, is_next)

  -- After the link for a resource's replacement is added, the graph has the replacements of all resources so far.
  pub replacements_more : (i by : ℕ) (links : Links) → replacement_of rs (i + 1) ≡ Some by
      → HasReplacements rs i links → HasReplacements rs (i + 1)
      (insert links (record { kind = Broader; a = i + 1; b = by }))
  replacements_more i by links is_by has = record {
    sound = λ l held. sound_at l (link_inserted_cases links _ l held);
    complete = λ m n le is. either m n le is (cases_eq m (i + 1));
  }
    where
      sound_at : (l : Link) → (l ≡ record { kind = Broader; a = i + 1; b = by }) ⊎ Holds links l → (l.kind ≡ Broader)
          × IsReplacedBy rs l.a l.b
      sound_at l h = grind (arith, common_steps, next_is)

      either : (m n : ℕ) → m ≤ i + 1 → IsReplacedBy rs m n → (m ≡ i + 1) ⊎ (m ≢ i + 1)
          → Holds (insert links (record { kind = Broader; a = i + 1; b = by }))
          (record { kind = Broader; a = m; b = n })
      either m n le is (inl same) =
          let f : Some by ≡ Some n = sym is_by ∙ ap (replacement_of rs) (sym same) ∙ is_next rs m n is in
          let new = inserted_new links_total links_exact links (record { kind = Broader; a = i + 1; b = by }) in
          subst (λ (p : ℕ × ℕ). Holds (insert links (record { kind = Broader; a = i + 1; b = by }))
          (record { kind = Broader; a = p.0; b = p.1 })) (λ j. (sym same j, same_Some _ _ f j)) new
      either m n le is (inr differ) = inserted_kept links_total links_exact links _ _
          (has.complete m n (omega (arith, le, differ)) is)

  broader_replaced : (most : ℕ) (links : Links) → HasReplacements rs most links → (x y : ℕ) → IsNarrower (Holds links)
      x y → IsReplacedBy rs x y
  broader_replaced most links has x y (l, held, leads) = grind (arith, common_steps)

  replaced_broader : (links : Links) → HasReplacements rs (length rs) links → (x y : ℕ) → IsReplacedBy rs x y
      → IsNarrower (Holds links) x y
  replaced_broader links has x y is =
      (record { kind = Broader; a = x; b = y }, has.complete x y (numbered_bound rs x is.0 is.1).1 is, (refl, refl))

  no_cycle_of : (Held : Link → Type 0) (first : Option Refusal) → is_cycle first ≡ false → IsFirstBroken Held first
      → NoCycle Held
  no_cycle_of Held first differ f = grind (arith, common_steps)

  cycle_of : (Held : Link → Type 0) (first : Option Refusal) → is_cycle first ≡ true → IsFirstBroken Held first
      → (x : ℕ) × IsBelow Held x x
  cycle_of Held first is f = grind (arith, common_steps)

  pub return_found : (links : Links) (first : Option Refusal) → HasReplacements rs (length rs) links
      → IsFirstBroken (Holds links) first → is_cycle first ≡ true → HasReplacementCycle rs true
  return_found links first has broken is = grind (arith, common_steps, broader_replaced, cycle_of, path_map)

  pub return_none : (links : Links) (first : Option Refusal) → HasReplacements rs (length rs) links
      → IsFirstBroken (Holds links) first → is_cycle first ≡ false → HasReplacementCycle rs false
  return_none links first has broken differ n chain =
      (no_cycle_of (Holds links) first differ broken).none n (
        chain.0,
        path_map (IsReplacedBy rs) (IsNarrower (Holds links)) (replaced_broader links has) n chain.0 n
            chain.1,
      )

  pub legal_all : length rs < 2 ^ 32 → EachResourceFits rs → HasReplacementCycle rs false → ResourceRule rs
  legal_all few each none = record { few = few; each = each_legal each; no_return = none }
