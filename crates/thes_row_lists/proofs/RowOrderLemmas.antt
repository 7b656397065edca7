-- Proves that rows in another order have the same verdict, if numbered tables are sorted by number in both.
use Rattle.std.proofs.Common.{◌≡◌, ◌≤◌, ◌+◌, ℕ, suc, List, [], ◌∷◌, ◌++◌, map, refl, sym, ap, subst, arith, inl, inr}
use Rattle.std.proofs.lemmas.Option.{same_Some}
use Rattle.std.proofs.lemmas.List.Sorted.{IsPermutation-sym, IsPermutation-map, IsPermutation-append}
use Rattle.std.proofs.lemmas.List.Sorted.{length_permutation}
use Rattle.std.specs.Prelude.{None, Some, Result, Ok, Err}
use Rattle.std.specs.List.Sorted.{IsPermutation}
use Rattle.thes_base.specs.declared.data.Link.{Link}
use Rattle.thes_base.specs.declared.data.Resource.{Resource}
use Rattle.thes_base.specs.declared.fault.Fault.{Fault}
use Rattle.thes_base.specs.declared.fault.Fault.TheVariants.{BadStore, NewerStore, OlderStore}
use Rattle.thes_base.specs.declared.fault.Table.{Table}
use Rattle.thes_base.specs.declared.fault.Table.TheVariants as table
use Rattle.thes_base.specs.Labels.{Label}
use Rattle.thes_base.specs.Legal.{AreLegalLabels, AreLegalLinks}
use Rattle.thes_base.proofs.LabelSetLemmas.{labels_total, labels_exact}
use Rattle.thes_base.proofs.LinkSetLemmas.{links_total, links_exact}
use Rattle.thes_tables.specs.declared.cells.Cell.{Cell}
use Rattle.thes_tables.specs.declared.rows.HierRow.{HierRow}
use Rattle.thes_tables.specs.declared.rows.PostingRow.{PostingRow}
use Rattle.thes_tables.specs.declared.rows.MoveRow.{MoveRow}
use Rattle.thes_tables.specs.Tables.{Tables, IriNumbersAscend, hier_link}
use Rattle.thes_tables.specs.Cells.{Raw, RawTable, resource_rows, outside_cells, label_cells, link_cells, hier_cells}
use Rattle.thes_tables.specs.Cells.{posting_cells, move_cells}
use Rattle.thes_load_rules.specs.Rules.{state_of, links_of, AreInOrder, ResourceRule, OutsideRule, LabelRule}
use Rattle.thes_load_rules.specs.Rules.{LinkRule, HierRule, PostingRule, MoveRule}
use Rattle.thes_load_rules.specs.Verdicts.{Verdict, HasVerdict, IsTable, IsMeta, HasVersion, IsNewer, IsOlder}
use Rattle.thes_load_rules.specs.Verdicts.{stopped_if, faulty_unless, tables_of}
use Rattle.thes_load_rules.proofs.LinkTableLemmas.{hier_link_one}
use Rattle.thes_row_lists.specs.SortedRows.{first_number}
use Rattle.thes_row_lists.specs.RowOrder.{IsArranged}
use Rattle.thes_row_lists.proofs.PermutationLemmas.{in_back, map_permuted, once_permuted, set_permuted}
use Rattle.thes_row_lists.proofs.RisingNumberLemmas.{AreUp, AreRising, only_order, rising_in_order}

-- Two verdicts agree: they are the same fault, or tables that encode the same state.
abbrev pub AreAlike : Result Tables Fault → Result Tables Fault → Type 0
AreAlike (Err fault) other = other ≡ Err fault
AreAlike (Ok t) other = (u : Tables) × (other ≡ Ok u) × (state_of u ≡ state_of t) × (u.base ≡ t.base)

pub record VerdictsAgree (here there : Verdict) : Type 0 where
  pub agrees : (a : Result Tables Fault) → here a → (b : Result Tables Fault) × there b × AreAlike a b

stopped_agree : (P Q : Type 0) (fault : Fault) (here there : Verdict) → (P → Q) → (Q → P) → VerdictsAgree here there
    → VerdictsAgree (stopped_if P fault here) (stopped_if Q fault there)
stopped_agree P Q fault here there over back rest = record { agrees = go }
  where
    go : (a : Result Tables Fault) → stopped_if P fault here a → (b : Result Tables Fault) × stopped_if Q fault there
        b × AreAlike a b
    go a (inl (p, is)) = (Err fault, inl (over p, refl), subst (λ x. AreAlike x (Err fault)) (sym is) refl)
    go a (inr (fails, then)) = let r = rest.agrees a then in (r.0, inr (λ q. fails (back q), r.1), r.2)

faulty_agree : {A : Type 0} (P Q : A → Type 0) (Related : A → A → Type 0) (name : Table) (here there : A → Verdict)
    → ((x : A) → P x → (y : A) × Q y × Related x y) → ((y : A) → Q y → (x : A) × P x)
    → ((x y : A) → Related x y → VerdictsAgree (here x) (there y))
    → VerdictsAgree (faulty_unless P name here) (faulty_unless Q name there)
faulty_agree {A} P Q Related name here there over back rest = record { agrees = go }
  where
    go : (a : Result Tables Fault) → faulty_unless P name here a → (b : Result Tables Fault)
        × faulty_unless Q name there b × AreAlike a b
    go a (inl (none, is)) = (
      Err (BadStore name),
      inl (λ y q. (let x = back y q in none x.0 x.1), refl),
      subst (λ x. AreAlike x (Err (BadStore name))) (sym is) refl,
    )
    go a (inr (x, p, then)) = let y = over x p in let r = (rest x y.0 y.2).agrees a then in
        (r.0, inr (y.0, y.1, r.1), r.2)

faulty_same : {A : Type 0} (P Q : A → Type 0) (name : Table) (here there : A → Verdict) → ((x : A) → P x → Q x)
    → ((x : A) → Q x → P x) → ((x : A) → VerdictsAgree (here x) (there x))
    → VerdictsAgree (faulty_unless P name here) (faulty_unless Q name there)
faulty_same P Q name here there over back rest =
    faulty_agree P Q (λ x y. x ≡ y) name here there (λ x p. (x, over x p, refl)) (λ y q. (y, back y q))
    (λ x y e. subst (λ z. VerdictsAgree (here x) (there z)) e (rest x))

-- The tables have the same rows, both sorted by number, or neither can be queried.
abbrev pub AreOrdered : RawTable → RawTable → Type 0
AreOrdered None there = there ≡ None
AreOrdered (Some rows) None = ⊥
AreOrdered (Some rows) (Some others) = IsPermutation rows others × AreUp first_number 0 rows
    × AreUp first_number 0 others

pub ordered_back : (here there : RawTable) → AreOrdered here there → AreOrdered there here
ordered_back None None same = refl
ordered_back None (Some others) same = absurd (cc)
ordered_back (Some rows) None same = absurd same
ordered_back (Some rows) (Some others) (p, up, there) = (IsPermutation-sym rows others p, there, up)

pub arranged_back : (here there : RawTable) → IsArranged here there → IsArranged there here
arranged_back None None same = refl
arranged_back None (Some others) same = absurd (cc)
arranged_back (Some rows) None same = absurd same
arranged_back (Some rows) (Some others) p = IsPermutation-sym rows others p

-- A numbered table whose rows meet its rule has only one sorted order.
numbered_over : {A : Type 0} (cells_of : List A → List (List Cell)) (Rule : List A → Type 0)
    → ((rows : List A) → Rule rows → AreRising first_number 1 (cells_of rows))
    → (here there : RawTable) → AreOrdered here there → (rows : List A) → IsTable cells_of Rule here rows
    → IsTable cells_of Rule there rows
numbered_over cells_of Rule rising None there same rows (is, rule) = absurd (cc)
numbered_over cells_of Rule rising (Some cells) None same rows table = absurd same
numbered_over cells_of Rule rising (Some cells) (Some others) (p, up, there) rows (is, rule) = (
  ap Some (only_order first_number 1 0 (cells_of rows) others (rising rows rule) there
      (subst (λ l. IsPermutation l others) (same_Some _ _ is) p)),
  rule,
)

-- If a table without numbers is rearranged, its typed rows are rearranged in the same way.
rows_over : {A : Type 0} (cells_of : A → List Cell) (Rule Other : List A → Type 0)
    → ((xs ys : List A) → IsPermutation xs ys → Rule xs → Other ys)
    → (here there : RawTable) → IsArranged here there → (xs : List A) → IsTable (map cells_of) Rule here xs
    → (ys : List A) × IsTable (map cells_of) Other there ys × IsPermutation xs ys
rows_over cells_of Rule Other over None there same xs (is, rule) = absurd (cc)
rows_over cells_of Rule Other over (Some cells) None same xs table = absurd same
rows_over cells_of Rule Other over (Some cells) (Some others) p xs (is, rule) =
    let r = map_permuted cells_of xs others (subst (λ l. IsPermutation l others) (same_Some _ _ is) p) in
    (r.0, (ap Some r.2, over xs r.0 r.1 rule), r.1)

-- A table of one row has only one order.
one_over : (here there : RawTable) → IsArranged here there → (row : List Cell) → here ≡ Some (row ∷ []) → there
    ≡ Some (row ∷ [])
one_over None there same row is = absurd (cc)
one_over (Some cells) None same row is = absurd same
one_over (Some cells) (Some others) p row is = go others (subst (λ l. IsPermutation l others) (same_Some _ _ is) p)
  where
    go : (others : List (List Cell)) → IsPermutation (row ∷ []) others → Some others ≡ Some (row ∷ [])
    go [] p = let n = length_permutation (row ∷ []) [] p in absurd (omega (arith, n))
    go (x ∷ y ∷ others) p = let n = length_permutation (row ∷ []) (x ∷ y ∷ others) p in absurd (omega (arith, n))
    go (x ∷ []) p = elim (in_back (row ∷ []) (x ∷ []) p x (inl refl)) [
      | inl e ↦ (λ i. Some (e i ∷ []))
      | inr none ↦ absurd none
    ]

version_over : (Is : ℕ → Type 0) (here there : RawTable) → IsArranged here there → HasVersion Is here
    → HasVersion Is there
version_over Is here there same (version, base, are, is) = (version, base, are, one_over here there same _ is)

-- The rows of each numbered table have increasing numbers.

pub resources_rise : (n : ℕ) (rs : List Resource) → AreRising first_number n (resource_rows n rs)
resources_rise n [] = tt
resources_rise n (r ∷ rs) = (omega arith, resources_rise (n + 1) rs)

pub outside_rise : (above : ℕ) (rows : List (ℕ × List ℕ)) → IriNumbersAscend above rows
    → AreRising first_number (above + 1) (map outside_cells rows)
outside_rise above [] ascends = tt
outside_rise above (row ∷ rows) ascends = ((let q = ascends.0 in omega (arith, q)), outside_rise row.0 rows ascends.1)

pub postings_rise : (rows : List PostingRow) → AreInOrder (λ (row : PostingRow). row.number) rows
    → AreRising first_number 1 (map posting_cells rows)
postings_rise rows order = rising_in_order first_number (λ (row : PostingRow). row.number) posting_cells (λ row. refl)
    0 rows (λ i row e. let q = order i row e in omega (arith, q))

pub moves_rise : (rows : List MoveRow) → AreInOrder (λ (row : MoveRow). row.number) rows → AreRising first_number 1
    (map move_cells rows)
moves_rise rows order = rising_in_order first_number (λ (row : MoveRow). row.number) move_cells (λ row. refl) 0 rows
    (λ i row e. let q = order i row e in omega (arith, q))

labels_over : (rs : List Resource) (xs ys : List Label) → IsPermutation xs ys → LabelRule rs xs → LabelRule rs ys
labels_over rs xs ys p rule = record {
  once = once_permuted labels_total labels_exact (λ l. l) (λ x y e. e) xs ys p rule.once;
  forms = λ l h. rule.forms l (in_back xs ys p l h);
  legal = subst (AreLegalLabels rs) (sym (set_permuted labels_total labels_exact xs ys p)) rule.legal;
}

links_over : (rs : List Resource) (xs ys : List Link) → IsPermutation xs ys → LinkRule rs xs → LinkRule rs ys
links_over rs xs ys p rule = record {
  once = once_permuted links_total links_exact (λ l. l) (λ x y e. e) xs ys p rule.once;
  kinds = λ l h. rule.kinds l (in_back xs ys p l h);
  each = λ l h. rule.each l (in_back xs ys p l h);
}

-- Permuted rows of the tables of links give the same links.
links_same : (K L : List Link) (xs ys : List HierRow) → IsPermutation K L → IsPermutation xs ys → links_of L ys
    ≡ links_of K xs
links_same K L xs ys p q = set_permuted links_total links_exact (K ++ map hier_link xs) (L ++ map hier_link ys)
    (IsPermutation-append K L (map hier_link xs) (map hier_link ys) p (IsPermutation-map hier_link xs ys q))

hier_over : (rs : List Resource) (K L : List Link) → IsPermutation K L → (xs ys : List HierRow) → IsPermutation xs ys
    → HierRule rs K xs → HierRule rs L ys
hier_over rs K L p xs ys q rule = record {
  once = once_permuted links_total links_exact hier_link hier_link_one xs ys q rule.once;
  legal = subst (AreLegalLinks rs) (sym (links_same K L xs ys p q)) rule.legal;
}

-- Each table has the same rows in both stores, and numbered tables are sorted in both.
pub record AreTables (here there : Raw) : Type 0 where
  pub meta : IsArranged here.meta there.meta
  pub resource : AreOrdered here.resource there.resource
  pub outside : AreOrdered here.outside there.outside
  pub label : IsArranged here.label there.label
  pub link : IsArranged here.link there.link
  pub hier : IsArranged here.hier there.hier
  pub posting : AreOrdered here.posting there.posting
  pub move : AreOrdered here.move there.move

-- The relation `AreTables` is symmetric.
pub tables_back : (here there : Raw) → AreTables here there → AreTables there here
tables_back here there same = record {
  meta = arranged_back here.meta there.meta same.meta;
  resource = ordered_back here.resource there.resource same.resource;
  outside = ordered_back here.outside there.outside same.outside;
  label = arranged_back here.label there.label same.label;
  link = arranged_back here.link there.link same.link;
  hier = arranged_back here.hier there.hier same.hier;
  posting = ordered_back here.posting there.posting same.posting;
  move = ordered_back here.move there.move same.move;
}

-- Each rule of the verdict holds for the tables of both stores, or for neither.
module _ (here there : Raw) (same : AreTables here there) where
  newer : IsNewer here.meta → IsNewer there.meta
  newer = version_over (λ version. suc 2 ≤ version) here.meta there.meta same.meta

  older : IsOlder here.meta → IsOlder there.meta
  older = version_over (λ version. version ≡ 1) here.meta there.meta same.meta

  metas : (base : List ℕ) → IsMeta here.meta base → IsMeta there.meta base
  metas base (is, form) = (one_over here.meta there.meta same.meta _ is, form)

  resources : (rows : List Resource) → IsTable (resource_rows 1) ResourceRule here.resource rows
      → IsTable (resource_rows 1) ResourceRule there.resource rows
  resources = numbered_over (resource_rows 1) ResourceRule (λ rows rule. resources_rise 1 rows) here.resource
      there.resource same.resource

  outsides : (base : List ℕ) (rs : List Resource) (rows : List (ℕ × List ℕ)) → IsTable (map outside_cells)
      (OutsideRule base rs) here.outside rows → IsTable (map outside_cells) (OutsideRule base rs) there.outside rows
  outsides base rs = numbered_over (map outside_cells) (OutsideRule base rs)
      (λ rows rule. outside_rise 0 rows rule.ascends) here.outside there.outside same.outside

  labels : (rs : List Resource) (xs : List Label) → IsTable (map label_cells) (LabelRule rs) here.label xs
      → (ys : List Label) × IsTable (map label_cells) (LabelRule rs) there.label ys × IsPermutation xs ys
  labels rs = rows_over label_cells (LabelRule rs) (LabelRule rs) (labels_over rs) here.label there.label same.label

  links : (rs : List Resource) (xs : List Link) → IsTable (map link_cells) (LinkRule rs) here.link xs
      → (ys : List Link) × IsTable (map link_cells) (LinkRule rs) there.link ys × IsPermutation xs ys
  links rs = rows_over link_cells (LinkRule rs) (LinkRule rs) (links_over rs) here.link there.link same.link

  hiers : (rs : List Resource) (K L : List Link) → IsPermutation K L → (xs : List HierRow) → IsTable (map hier_cells)
      (HierRule rs K) here.hier xs → (ys : List HierRow) × IsTable (map hier_cells) (HierRule rs L) there.hier ys
      × IsPermutation xs ys
  hiers rs K L p = rows_over hier_cells (HierRule rs K) (HierRule rs L) (hier_over rs K L p) here.hier there.hier
      same.hier

  postings : (rs : List Resource) (rows : List PostingRow) → IsTable (map posting_cells) (PostingRule rs) here.posting
      rows → IsTable (map posting_cells) (PostingRule rs) there.posting rows
  postings rs = numbered_over (map posting_cells) (PostingRule rs) (λ rows rule. postings_rise rows rule.numbers)
      here.posting there.posting same.posting

  moves : (rs : List Resource) (ps : List PostingRow) (rows : List MoveRow) → IsTable (map move_cells)
      (MoveRule rs ps) here.move rows → IsTable (map move_cells) (MoveRule rs ps) there.move rows
  moves rs ps = numbered_over (map move_cells) (MoveRule rs ps) (λ rows rule. moves_rise rows rule.numbers) here.move
      there.move same.move

-- Tables that differ only in the order of labels, links and rows of `hier` encode the same state.
tables_agree : (base : List ℕ) (rs : List Resource) (outside : List (ℕ × List ℕ)) (labels marks : List Label)
    (K L : List Link) (xs ys : List HierRow) (ps : List PostingRow) (ms : List MoveRow)
    → IsPermutation labels marks → IsPermutation K L → IsPermutation xs ys
    → VerdictsAgree (λ answer. answer ≡ Ok (tables_of base rs outside labels K xs ps ms))
    (λ answer. answer ≡ Ok (tables_of base rs outside marks L ys ps ms))
tables_agree base rs outside labels marks K L xs ys ps ms p q r = record {
  agrees = λ a is. (
    Ok (tables_of base rs outside marks L ys ps ms),
    refl,
    subst (λ x. AreAlike x (Ok (tables_of base rs outside marks L ys ps ms))) (sym is)
        (tables_of base rs outside marks L ys ps ms, refl, state, refl),
  );
}
  where
    told : Tables
    told = tables_of base rs outside labels K xs ps ms

    state : state_of (tables_of base rs outside marks L ys ps ms) ≡ state_of told
    state = λ i. record {
      resources = rs;
      iris = (state_of told).iris;
      labels = set_permuted labels_total labels_exact labels marks p i;
      links = links_same K L xs ys q r i;
      histories = (state_of told).histories;
    }

-- The verdicts on two stores whose tables satisfy `AreTables` agree.
pub verdicts_agree : (here there : Raw) → AreTables here there → VerdictsAgree (HasVerdict here) (HasVerdict there)
verdicts_agree here there same =
    let back = tables_back here there same in
    stopped_agree _ _ NewerStore _ _ (newer here there same) (newer there here back) (
    stopped_agree _ _ OlderStore _ _ (older here there same) (older there here back) (
    faulty_same _ _ table.Meta _ _ (metas here there same) (metas there here back) (λ base.
    faulty_same _ _ table.Resource _ _ (resources here there same) (resources there here back) (λ rs.
    faulty_same _ _ table.Outside _ _ (outsides here there same base rs) (outsides there here back base rs) (λ outside.
    faulty_agree _ _ (λ xs ys. IsPermutation xs ys) table.Label _ _ (labels here there same rs) (λ ys q. let r =
    labels there here back rs ys q in (r.0, r.1)) (λ ls ms p.
    faulty_agree _ _ (λ xs ys. IsPermutation xs ys) table.Link _ _ (links here there same rs) (λ ys q. let r =
    links there here back rs ys q in (r.0, r.1)) (λ K L q.
    faulty_agree _ _ (λ xs ys. IsPermutation xs ys) table.Hier _ _ (hiers here there same rs K L q) (λ ys t. let r =
    hiers there here back rs L K (IsPermutation-sym K L q) ys t in (r.0, r.1)) (λ xs ys r.
    faulty_same _ _ table.Posting _ _ (postings here there same rs) (postings there here back rs) (λ ps.
    faulty_same _ _ table.Move _ _ (moves here there same rs ps) (moves there here back rs ps) (λ rows.
    tables_agree base rs outside ls ms K L xs ys ps rows p q r))))))))))
