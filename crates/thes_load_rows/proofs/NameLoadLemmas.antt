-- The checks of the tables outside and label, row by row and at the end, decide whether the tables meet their rules.
use Rattle.std.proofs.lemmas.Grind.{common_steps}
use Rattle.std.proofs.Common.{◌≡◌, ◌<◌, ◌≤◌, ℕ, List, [], ◌∷◌, ◌++◌, refl, sym, ap, ◌∙◌, subst, arith, inl, inr, Bool}
use Rattle.std.proofs.Common.{true, false, true≢false}
use Rattle.std.proofs.lemmas.Map.Lookups.{exact_unsigned}
use Rattle.std.specs.Prelude.{None, Some}
use Rattle.std.specs.Cmp.{nat_cmp_total}
use Rattle.std.specs.FinMap as dict
use Rattle.std.specs.FinSet as set
use Rattle.thes_base.specs.declared.data.Resource.{Resource}
use Rattle.thes_base.specs.Forms.{IsIri}
use Rattle.thes_base.specs.Texts.{IsLabelForm}
use Rattle.thes_base.specs.Resources.{Iris}
use Rattle.thes_base.specs.Labels.{Label, Labels}
use Rattle.thes_base.proofs.LabelSetLemmas.{labels_total, labels_exact, inserted_cases}
use Rattle.thes_tables.specs.Tables.{IsIn, IriNumbersAscend}
use Rattle.thes_tables.proofs.RowSetLemmas.{append_left, absent_of_never, once_push}
use Rattle.thes_load_rules.specs.Rules.{EachRow, OutsideRule, LabelRule, iris_of, labels_of}
use Rattle.thes_load_rules.proofs.RowListLemmas.{iri_row, row_of, in_set}
use Rattle.thes_load_rules.proofs.LegalTableLemmas.{row_iri}
use Rattle.thes_vocab.specs.Vocabulary.{Vocabulary, with_labels}
use Rattle.thes_vocab.specs.Loading.{AreIrisSoFar, MayLoadIri, LoadIriResult, HaveIris, MayLoadLabel, LoadLabelResult}
use Rattle.thes_vocab.specs.Loading.{with_iri}
use Rattle.thes_load_rows.specs.Forms.{HasOutsideForm, HasLabelForm}
use Rattle.thes_load_rows.specs.RowsSoFar.{TakeResult}
use Rattle.thes_load_rows.specs.NamesSoFar.{HasOutside, HasLabels, vocabulary_of_rows}
use Rattle.thes_load_rows.proofs.NextRowLemmas.{in_next, each_push, once_twice}

abbrev IriRow : Type 0
IriRow = ℕ × List ℕ

ascends_push : (above : ℕ) (rows : List IriRow) (x : IriRow) → IriNumbersAscend above rows → above < x.0
    → EachRow (λ r. r.0 < x.0) rows → IriNumbersAscend above (rows ++ x ∷ [])
ascends_push above [] x up lt below = (lt, tt)
ascends_push above (r ∷ rows) x up lt below =
    (up.0, ascends_push r.0 rows x up.1 (below r (inl refl)) (λ y h. below y (inr h)))

-- In a list that rises by number, the number of a row exceeds all numbers before it.
after_rows : (above : ℕ) (rows : List IriRow) (x : IriRow) (more : List IriRow)
    → IriNumbersAscend above (rows ++ x ∷ more) → (above < x.0) × EachRow (λ r. r.0 < x.0) rows
after_rows above [] x more up = (up.0, λ r h. absurd h)
after_rows above (r ∷ rows) x more up = grind (arith, common_steps, after_rows r.0 rows x more up.1)

module _ (base : List ℕ) (rs : List Resource) (old new : Vocabulary) (last : ℕ) (rows : List IriRow) (x : IriRow)
    (has : HasOutside base rs old last rows) where
  abbrev v : Vocabulary
  v = vocabulary_of_rows base rs rows []

  -- Rows break the rule of table outside if a row's number doesn't exceed the number before it.
  pub not_above : x.0 ≤ last → (more : List IriRow) → OutsideRule base rs (rows ++ x ∷ more) → ⊥
  not_above le more rule = grind (arith, common_steps, after_rows)

  -- In rows that meet the rule, the IRI of each row may be loaded after the rows before it.
  fits_all : (more : List IriRow) → OutsideRule base rs (rows ++ x ∷ more) → MayLoadIri v x.0 x.1
  fits_all more rule =
      let after = after_rows 0 rows x more rule.ascends in
      let all = rows ++ x ∷ more in
      let here : dict.get (iris_of all) x.0 ≡ Some x.1 = row_iri 0 all x rule.ascends (in_next rows x more) in
      record {
        outside = rule.legal.only x.0 x.1 here;
        number = none (dict.get (iris_of rows) x.0) refl after.1;
        free = λ m e.
            let h = iri_row rows m x.1 e in
            let there = row_iri 0 all (m, x.1) rule.ascends (append_left (m, x.1) rows (x ∷ more) h) in
            let same = rule.legal.distinct m x.0 x.1 there here in
            let lt = after.1 (m, x.1) h in
            omega (arith, same, lt);
        foreign = rule.legal.foreign x.0 x.1 here;
      }
    where
      none : (o : Rattle.std.specs.Prelude.Option (List ℕ)) → dict.get (iris_of rows) x.0 ≡ o
          → EachRow (λ r. r.0 < x.0) rows → dict.get (iris_of rows) x.0 ≡ None
      none None e below = e
      none (Some iri) e below = let lt = below (x.0, iri) (iri_row rows x.0 iri e) in absurd (omega (arith, lt))

  -- Either the IRI of the row is added, or no list that begins with the rows so far and this one meets the rule.
  pub outside_step : (good : Bool) → last < x.0 → HasOutsideForm x → LoadIriResult old new x.0 x.1 good
      → TakeResult (HasOutside base rs new x.0) (OutsideRule base rs) rows x good
  outside_step true up form (fits, is) =
      let here = subst (λ (w : Vocabulary). MayLoadIri w x.0 x.1) has.are fits in
      let below : EachRow (λ r. r.0 < x.0) rows = λ r h. let b = has.greatest.below r h in omega (arith, b, up) in
      record {
        ascends = ascends_push 0 rows x has.ascends (let z : 0 < x.0 = omega (arith, up) in z) below;
        forms = each_push (λ (r : IriRow). IsIri r.1) rows x has.forms form.1;
        are = is ∙ ap (λ (w : Vocabulary). with_iri w x.0 x.1) has.are ∙ ap (λ (iris : Iris). let w : Vocabulary =
            record { base = base; resources = rs; iris = iris; labels = set.empty } in w)
            (sym (dict.from_entries_push nat_cmp_total exact_unsigned rows x.0 x.1
            (sym (dict.get-from_entries nat_cmp_total rows x.0) ∙ here.number)));
        greatest = record {
          one = inr (x, in_next rows x [], refl);
          below = each_push (λ (r : IriRow). r.0 ≤ x.0) rows x (λ r h. let b = below r h in omega (arith, b))
              (let z : x.0 ≤ x.0 = omega arith in z);
        };
      }
  outside_step false up form (none, is) = grind (arith, common_steps, fits_all)

-- If each outside concept has an IRI after the last row, table outside meets its rule.
pub outside_whole : (base : List ℕ) (rs : List Resource) (v : Vocabulary) (last : ℕ) (rows : List IriRow)
    → HasOutside base rs v last rows → AreIrisSoFar v.base v.resources v.iris → HaveIris v → OutsideRule base rs rows
outside_whole base rs v last rows has so_far all =
    let so = subst (λ (w : Vocabulary). AreIrisSoFar w.base w.resources w.iris) has.are so_far in
    record {
      ascends = has.ascends;
      forms = has.forms;
      legal = record {
        each = subst HaveIris has.are all;
        only = so.only;
        distinct = so.distinct;
        foreign = so.foreign;
      };
    }

pub outside_has_all : (base : List ℕ) (rs : List Resource) (v : Vocabulary) (last : ℕ) (rows : List IriRow)
    → HasOutside base rs v last rows → OutsideRule base rs rows → HaveIris v
outside_has_all base rs v last rows has rule = subst HaveIris (sym has.are) rule.legal.each

module _ (base : List ℕ) (rs : List Resource) (outside : List IriRow) (old new : Vocabulary) (rows : List Label)
    (l : Label) (has : HasLabels base rs outside old rows) where
  abbrev labels : Labels
  labels = labels_of rows

  -- The labels of the rows so far, with the next one, are among those of all rows.
  fewer : (more : List Label) (q : Label) → set.contains (set.insert labels l) q ≡ true
      → set.contains (labels_of (rows ++ l ∷ more)) q ≡ true
  fewer more q h = in_set labels_total labels_exact (rows ++ l ∷ more) q (elim (inserted_cases labels l q h) [
    | inl is ↦ subst (λ (y : Label). IsIn y (rows ++ l ∷ more)) (sym is) (in_next rows l more)
    | inr was ↦ append_left q rows (l ∷ more) (row_of labels_total labels_exact rows q was)
  ])

  fits_label : (more : List Label) → LabelRule rs (rows ++ l ∷ more)
      → MayLoadLabel (vocabulary_of_rows base rs outside rows) l
  fits_label more rule = record {
    owner = rule.legal.owners l (in_set labels_total labels_exact (rows ++ l ∷ more) l (in_next rows l more));
    new = absent_of_never labels_total labels_exact labels l
        (λ there. once_twice rows l more (row_of labels_total labels_exact rows l there) rule.once);
    disjoint = λ owner j k tag text nj nk hj hk. rule.legal.disjoint owner j k tag text nj nk (fewer more _ hj)
        (fewer more _ hk);
    one_preferred = λ owner tag text other ht ho. rule.legal.one_preferred owner tag text other (fewer more _ ht)
        (fewer more _ ho);
    unique = λ m n scheme tag text lm ln sm sn hm hn. rule.legal.unique m n scheme tag text lm ln sm sn
        (fewer more _ hm) (fewer more _ hn);
  }

  -- Either the label of the row is added, or no list that begins with the rows so far and this one meets the rule.
  pub label_step : (good : Bool) → HasLabelForm l → LoadLabelResult old new l good
      → TakeResult (HasLabels base rs outside new) (LabelRule rs) rows l good
  label_step true form (fits, is) =
      let here = subst (λ (w : Vocabulary). MayLoadLabel w l) has.are fits in
      record {
        once = once_push rows l (λ there. true≢false (sym (in_set labels_total labels_exact rows l there) ∙ here.new))
            has.once;
        forms = each_push (λ (x : Label). IsLabelForm x.kind x.tag x.text) rows l has.forms form.1;
        are = is ∙ ap (λ (w : Vocabulary). with_labels w (set.insert w.labels l)) has.are
            ∙ ap (λ (ls : Labels). with_labels (vocabulary_of_rows base rs outside rows) ls)
            (sym (set.from_list_push labels_total labels_exact rows l));
      }
  label_step false form (none, is) = grind (arith, common_steps, fits_label)
