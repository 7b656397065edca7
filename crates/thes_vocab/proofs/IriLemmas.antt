-- The two maps of numbers and IRIs stay inverse to each other at each change.
use Rattle.std.proofs.Common.{arith}
use Rattle.std.proofs.lemmas.Grind.{common_steps}
use Rattle.std.proofs.Common.{◌≡◌, ◌≢◌, ◌⊎◌, inl, inr, ℕ, List, [], ◌∷◌, refl, sym, ap, subst, ◌∙◌, Bool, true, false, cond}
use Rattle.std.specs.Prelude.{Option, None, Some}
use Rattle.std.specs.Option.{MatchOption}
use Rattle.std.specs.declared.cmp.Ordering.{Ordering}
use Rattle.std.specs.Ordering.{nat_cmp, eq_by_cmp, is_eq}
use Rattle.std.specs.Cmp.{nat_cmp_total, eq_by_cmp_equiv, tied_itself, Equal-is}
use Rattle.std.specs.Cmp.Lexicographic.{slice_cmp}
use Rattle.std.specs.Map.{lookup}
use Rattle.std.specs.BTreeMap.{BTreeMap, get, is_at, Updates}
use Rattle.std.specs.FinMap as dict
use Rattle.std.proofs.lemmas.Cmp.{nat_list_cmp_total}
use Rattle.std.proofs.lemmas.Map.Lookups.{exact_unsigned, exact_bytes}
use Rattle.thes_base.specs.Resources.{Iris}
use Rattle.thes_base.proofs.LegalResourceLemmas.{iri_cases}
use Rattle.std.proofs.lemmas.Option.{none-some, same_Some}
use Rattle.std.proofs.lemmas.Bool.{both_ways}
use Rattle.thes_vocab.specs.IriIndex.{iris_in, AreInverse}

abbrev Numbers : Type 0
Numbers = BTreeMap (List ℕ) ℕ

abbrev iri_cmp : List ℕ → List ℕ → Ordering
iri_cmp = slice_cmp nat_cmp

same_or_not : (i iri : List ℕ) → (i ≡ iri) ⊎ (i ≡ iri → ⊥)
same_or_not i iri = go (is_at (iri_cmp iri) i) refl
  where
    go : (b : Bool) → is_at (iri_cmp iri) i ≡ b → (i ≡ iri) ⊎ (i ≡ iri → ⊥)
    go b at = grind (arith, common_steps, Equal-is, both_ways, exact_bytes, nat_list_cmp_total)

-- The new map has `value` at the IRI, and the old values at all others.
pub record IsNumberSet (old new : Numbers) (iri : List ℕ) (value : Option ℕ) : Type 0 where
  pub at : get iri_cmp new iri ≡ value
  pub others : (i : List ℕ) → (i ≡ iri → ⊥) → get iri_cmp new i ≡ get iri_cmp old i

pub number_updated : (old new : Numbers) (iri : List ℕ) (value : Option ℕ) → Updates iri_cmp old new iri value
    → IsNumberSet old new iri value
number_updated old new iri value u = grind (arith, common_steps, Equal-is, exact_bytes)

find_is : (es : List (ℕ × List ℕ)) (n : ℕ) → dict.find nat_cmp n es ≡ lookup (is_at (nat_cmp n)) es
find_is [] n = refl
find_is (e ∷ es) n = ap (cond (is_at (nat_cmp n) e.0) (Some e.1)) (find_is es n)

-- A look-up in the stored map and one in the map that models it give the same IRI.
pub get_iri_at : (m : BTreeMap ℕ (List ℕ)) (n : ℕ) → dict.get (iris_in m.entries) n ≡ get nat_cmp m n
get_iri_at m n = dict.get-from_entries nat_cmp_total m.entries n ∙ find_is m.entries n

pub number_found : (iris : Iris) (numbers : Numbers) (iri : List ℕ) (o : Option ℕ) → AreInverse iris numbers → o
    ≡ get iri_cmp numbers iri → MatchOption o ((n : ℕ) → dict.get iris n ≢ Some iri) (λ n. dict.get iris n ≡ Some iri)
number_found iris numbers iri None tied e = λ n has. let at = tied.number n iri has in none-some _ (e ∙ at)
number_found iris numbers iri (Some n) tied e = tied.iri n iri (sym e)

pub iris_after_insert : (old new : BTreeMap ℕ (List ℕ)) (n : ℕ) (iri : List ℕ) → Updates nat_cmp old new n (Some iri)
    → iris_in new.entries ≡ dict.insert (iris_in old.entries) n iri
iris_after_insert old new n iri u = dict.same_map nat_cmp_total dict.nat_cmp-IsAntisymmetric _ _ (λ q.
    get_iri_at new q ∙ u.0 q ∙ ap (λ b. cond b (Some iri) (get nat_cmp old q))
    ((eq_by_cmp_equiv nat_cmp_total).symm n q)
    ∙ sym (dict.get-insert nat_cmp_total (iris_in old.entries) n iri q ∙ ap (cond (eq_by_cmp nat_cmp q n) (Some iri))
    (get_iri_at old q)))

-- Assumes that a new number is inserted in the map from IRIs to numbers, at a copy of its new IRI.
module _ (iris now : Iris) (seen : iris ≡ now) (numbers more : Numbers) (n : ℕ) (iri copy : List ℕ)
    (tied : AreInverse iris numbers) (free : (m : ℕ) → dict.get now m ≢ Some iri) (same_copy : copy ≡ iri)
    (updates : Updates iri_cmp numbers more copy (Some n)) where
  number_set : IsNumberSet numbers more iri (Some n)
  number_set = subst (λ (i : List ℕ). IsNumberSet numbers more i (Some n)) same_copy
      (number_updated numbers more copy (Some n) updates)

  other_iri : (m : ℕ) (i : List ℕ) → dict.get iris m ≡ Some i → i ≡ iri → ⊥
  other_iri m i has same = free m (ap (λ (x : Iris). dict.get x m) (sym seen) ∙ has ∙ ap Some same)

  -- Inserting the IRI in the other map, too, keeps the maps inverse.
  pub inverse_after_insert : dict.get now n ≡ None → AreInverse (dict.insert iris n iri) more
  inverse_after_insert unused = record {
    number = λ m i e. number_at m i (iri_cases iris n iri m i e);
    iri = λ m i e. iri_at m i e (same_or_not i iri);
  }
    where
      none : dict.get iris n ≡ None
      none = ap (λ (x : Iris). dict.get x n) seen ∙ unused

      number_at : (m : ℕ) (i : List ℕ) → ((m ≡ n) × (i ≡ iri)) ⊎ (dict.get iris m ≡ Some i) → get iri_cmp more i
          ≡ Some m
      number_at m i (inl (here, same)) = ap (get iri_cmp more) same ∙ number_set.at ∙ ap Some (sym here)
      number_at m i (inr has) = number_set.others i (other_iri m i has) ∙ tied.number m i has

      put_at : dict.get (dict.insert iris n iri) n ≡ Some iri
      put_at = dict.get-insert nat_cmp_total iris n iri n ∙ ap (λ b. cond b (Some iri) (dict.get iris n))
          (ap is_eq (tied_itself nat_cmp_total n))

      kept : (m : ℕ) (i : List ℕ) → dict.get iris m ≡ Some i → dict.get (dict.insert iris n iri) m ≡ Some i
      kept m i has = go (eq_by_cmp nat_cmp m n) refl
        where
          absent : m ≡ n → ⊥
          absent same = let f = ap (dict.get iris) (sym same) ∙ has in none-some _ (sym none ∙ f)

          go : (b : Bool) → eq_by_cmp nat_cmp m n ≡ b → dict.get (dict.insert iris n iri) m ≡ Some i
          go true tie = absurd (absent (exact_unsigned m n ((Equal-is (nat_cmp m n)).0 tie)))
          go false tie = dict.get-insert nat_cmp_total iris n iri m ∙ ap (λ b. cond b (Some iri) (dict.get iris m))
              tie ∙ has

      iri_at : (m : ℕ) (i : List ℕ) → get iri_cmp more i ≡ Some m → (i ≡ iri) ⊎ (i ≡ iri → ⊥)
          → dict.get (dict.insert iris n iri) m ≡ Some i
      iri_at m i e (inl same) = grind (arith, common_steps, put_at, same_Some)
      iri_at m i e (inr apart) = kept m i (tied.iri m i (sym (number_set.others i apart) ∙ e))

  -- Removing the IRI from the map from IRIs to numbers again restores the old maps.
  pub inverse_after_undo : (back : Numbers) (removed : List ℕ) → removed ≡ iri → Updates iri_cmp more back removed None
      → AreInverse iris back
  inverse_after_undo back removed same undone = restored (subst (λ (i : List ℕ). IsNumberSet more back i None) same
      (number_updated more back removed None undone)) number_set
    where
      restored : IsNumberSet more back iri None → IsNumberSet numbers more iri (Some n) → AreInverse iris back
      restored unset set = grind (arith, common_steps, none-some, other_iri, same_or_not)

pub iris_after_remove : (old new : BTreeMap ℕ (List ℕ)) (n : ℕ) → Updates nat_cmp old new n None
    → iris_in new.entries ≡ dict.remove (iris_in old.entries) n
iris_after_remove old new n u = dict.same_map nat_cmp_total dict.nat_cmp-IsAntisymmetric _ _ (λ q.
    get_iri_at new q ∙ u.0 q ∙ ap (λ b. cond b None (get nat_cmp old q))
    ((eq_by_cmp_equiv nat_cmp_total).symm n q)
    ∙ sym (dict.get-remove nat_cmp_total (iris_in old.entries) n q ∙ ap (cond (eq_by_cmp nat_cmp q n) None)
    (get_iri_at old q)))

-- A look-up of a number returns the IRI just inserted under it.
pub inserted_iri : (iris : Iris) (n : ℕ) (iri : List ℕ) → dict.get (dict.insert iris n iri) n ≡ Some iri
inserted_iri iris n iri = dict.get-insert nat_cmp_total iris n iri n ∙ ap (λ b. cond b (Some iri) (dict.get iris n))
    (ap is_eq (tied_itself nat_cmp_total n))

-- Removing an IRI that was inserted under a new number restores the map.
pub insert_then_remove_iri : (iris : Iris) (n : ℕ) (iri : List ℕ) → dict.get iris n ≡ None
    → dict.remove (dict.insert iris n iri) n ≡ iris
insert_then_remove_iri iris n iri none = dict.same_map nat_cmp_total dict.nat_cmp-IsAntisymmetric _ _ (λ q.
    go q (eq_by_cmp nat_cmp q n) refl)
  where
    with_iri : Iris
    with_iri = dict.insert iris n iri

    go : (q : ℕ) (b : Bool) → eq_by_cmp nat_cmp q n ≡ b → dict.get (dict.remove with_iri n) q ≡ dict.get iris q
    go q true tie = dict.get-remove nat_cmp_total with_iri n q ∙ ap (λ b. cond b None (dict.get with_iri q)) tie
        ∙ sym (ap (dict.get iris) (exact_unsigned q n ((Equal-is (nat_cmp q n)).0 tie)) ∙ none)
    go q false tie = dict.get-remove nat_cmp_total with_iri n q ∙ ap (λ b. cond b None (dict.get with_iri q)) tie
        ∙ dict.get-insert nat_cmp_total iris n iri q ∙ ap (λ b. cond b (Some iri) (dict.get iris q)) tie

-- Assumes that the IRI of a number is removed from the map from IRIs to numbers.
module _ (iris : Iris) (numbers fewer : Numbers) (n : ℕ) (iri : List ℕ) (tied : AreInverse iris numbers)
    (has : dict.get iris n ≡ Some iri) (unset : IsNumberSet numbers fewer iri None) where
  same_number : (m : ℕ) → dict.get iris m ≡ Some iri → m ≡ n
  same_number m e = same_Some _ _ (sym (tied.number m iri e) ∙ tied.number n iri has)

  at_number : (m : ℕ) (b : Bool) → eq_by_cmp nat_cmp m n ≡ b
      → dict.get (dict.remove iris n) m ≡ cond b None (dict.get iris m)
  at_number m b tie = dict.get-remove nat_cmp_total iris n m ∙ ap (λ b. cond b None (dict.get iris m)) tie

  removed_iri : (m : ℕ) (i : List ℕ) → dict.get (dict.remove iris n) m ≡ Some i
      → (m ≢ n) × (dict.get iris m ≡ Some i)
  removed_iri m i e = go (eq_by_cmp nat_cmp m n) refl
    where
      go : (b : Bool) → eq_by_cmp nat_cmp m n ≡ b → (m ≢ n) × (dict.get iris m ≡ Some i)
      go true tie = absurd (none-some _ (sym (at_number m true tie) ∙ e))
      go false tie = (
        λ same. let bad : false ≡ true =
            sym tie ∙ ap (λ k. eq_by_cmp nat_cmp k n) same ∙ ap is_eq (tied_itself nat_cmp_total n) in cc,
        sym (at_number m false tie) ∙ e,
      )

  other_iri_kept : (m : ℕ) (i : List ℕ) → m ≢ n → dict.get iris m ≡ Some i
      → dict.get (dict.remove iris n) m ≡ Some i
  other_iri_kept m i apart e = go (eq_by_cmp nat_cmp m n) refl
    where
      go : (b : Bool) → eq_by_cmp nat_cmp m n ≡ b → dict.get (dict.remove iris n) m ≡ Some i
      go true tie = absurd (apart (exact_unsigned m n ((Equal-is (nat_cmp m n)).0 tie)))
      go false tie = at_number m false tie ∙ e

  iri_left : (m : ℕ) (i : List ℕ) → get iri_cmp fewer i ≡ Some m → (i ≡ iri) ⊎ (i ≡ iri → ⊥)
      → dict.get (dict.remove iris n) m ≡ Some i
  iri_left m i e (inl same) = absurd (none-some _ (sym unset.at ∙ ap (get iri_cmp fewer) (sym same) ∙ e))
  iri_left m i e (inr apart) =
      let held = tied.iri m i (sym (unset.others i apart) ∙ e) in
      other_iri_kept m i (λ same. apart (same_Some _ _ (sym held ∙ ap (dict.get iris) same ∙ has))) held

  -- Removing the number from the other map, too, keeps the maps inverse.
  pub inverse_after_remove : AreInverse (dict.remove iris n) fewer
  inverse_after_remove = record {
    number = λ m i e.
        let was = removed_iri m i e in
        unset.others i (λ same. was.0 (same_number m (was.1 ∙ ap Some same))) ∙ tied.number m i was.1;
    iri = λ m i e. iri_left m i e (same_or_not i iri);
  }

pub inverse_of_empty : (iris : Iris) (numbers : Numbers) → ((n : ℕ) → dict.get iris n ≡ None)
    → ((i : List ℕ) → get iri_cmp numbers i ≡ None) → AreInverse iris numbers
inverse_of_empty iris numbers none no_number = record {
  number = λ n i e. absurd (none-some _ (sym (none n) ∙ e));
  iri = λ n i e. absurd (none-some _ (sym (no_number i) ∙ e));
}

pub empty_get : (m : BTreeMap ℕ (List ℕ)) → m.entries ≡ [] → (n : ℕ) → dict.get (iris_in m.entries) n ≡ None
empty_get m e n = get_iri_at m n ∙ ap (lookup (is_at (nat_cmp n))) e

pub empty_numbers : (m : Numbers) → m.entries ≡ [] → (i : List ℕ) → get iri_cmp m i ≡ None
empty_numbers m e i = ap (lookup (is_at (iri_cmp i))) e
