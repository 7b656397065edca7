-- The result of reading a row, derived from its parser and from the result of adding the typed row.
use Rattle.std.proofs.lemmas.Grind.{common_steps}
use Rattle.std.proofs.Common.{◌≡◌, ◌≢◌, ℕ, ◌+◌, length, List, [], ◌∷◌, ◌++◌, map, refl, sym, ap, ◌∙◌, arith}
use Rattle.std.proofs.Common.{Bool, false}
use Rattle.std.proofs.lemmas.List.{map-append}
use Rattle.std.specs.Prelude.{Some}
use Rattle.thes_base.specs.declared.data.Resource.{Resource}
use Rattle.thes_tables.specs.declared.cells.Cell.{Cell}
use Rattle.thes_tables.specs.Cells.{resource_cells, resource_rows}
use Rattle.thes_tables.proofs.CellLemmas.{head_one, tail_one, number_one, resources_one}
use Rattle.thes_base.specs.Resources.{entry_at}
use Rattle.thes_load_rules.specs.Rules.{ResourceRule}
use Rattle.thes_load_rows.specs.declared.rows.ResourceRow.{ResourceRow}
use Rattle.thes_load_rows.specs.Forms.{HasResourceForm}
use Rattle.thes_load_rows.specs.CellSpelling.{resource_row_cells}
use Rattle.thes_load_rows.specs.ResourceChecks.{AppendResourceResult}
use Rattle.thes_load_rows.proofs.NextRowLemmas.{numbered_next}
use Rattle.thes_load_rows.proofs.RowFormLemmas.{resource_form}
use Rattle.thes_load_rows.specs.RowsSoFar.{TakeResult}
use Rattle.thes_load_rows.specs.ReadResults.{ReadResult}

module _ {A : Type 0} (f : A → List Cell) where
  -- If the cells of typed rows begin with those of `rows` and then have `cells`, the typed rows begin with `rows` and a
  -- row that has these cells.
  pub goes_on : ((x y : A) → f x ≡ f y → x ≡ y) → (rows : List A) (cells : List Cell) (more : List (List Cell))
      (others : List A) → map f others ≡ (map f rows ++ cells ∷ []) ++ more
      → (y : A) × (rest : List A) × (others ≡ rows ++ y ∷ rest) × (cells ≡ f y)
  goes_on one [] cells more [] e = absurd (cc)
  goes_on one [] cells more (y ∷ rest) e = (y, rest, refl, sym (head_one e))
  goes_on one (x ∷ rows) cells more [] e = absurd (cc)
  goes_on one (x ∷ rows) cells more (y ∷ others) e =
      grind (arith, common_steps, head_one, tail_one, goes_on one rows cells more others (tail_one e))

  module _ (one : (x y : A) → f x ≡ f y → x ≡ y) (Has Rule : List A → Type 0) (rows : List A) (cells : List Cell) where
    -- If the cells are those of a typed row, reading them has the result of adding this row.
    pub reads_row : (x : A) → cells ≡ f x → (good : Bool) → TakeResult Has Rule rows x good → ReadResult (map f) Has
        Rule rows cells good
    reads_row x spelled good has = grind (arith, common_steps, goes_on, map-append)

    -- If no typed row of the form has the cells, no typed rows that begin with `rows` and these cells meet the rule.
    pub reads_none : (Form : A → Type 0) → ((x : A) → Form x → cells ≢ f x)
        → ((y : A) (rest : List A) → Rule (rows ++ y ∷ rest) → Form y) → ReadResult (map f) Has Rule rows cells false
    reads_none Form none form = grind (arith, common_steps, goes_on)

pub resources_push : (n : ℕ) (rs : List Resource) (r : Resource) → resource_rows n (rs ++ r ∷ []) ≡ resource_rows n rs
    ++ resource_cells (n + length rs) r ∷ []
resources_push n [] r = ap (λ k. resource_cells k r ∷ []) (let z : n ≡ n + 0 = omega arith in z)
resources_push n (x ∷ rs) r = grind (arith, common_steps, resources_push (n + 1) rs r)

pub resources_on : (n : ℕ) (rs : List Resource) (cells : List Cell) (more : List (List Cell)) (others : List Resource)
    → resource_rows n others ≡ (resource_rows n rs ++ cells ∷ []) ++ more
    → (y : Resource) × (rest : List Resource) × (others ≡ rs ++ y ∷ rest) × (cells ≡ resource_cells (n + length rs) y)
resources_on n [] cells more [] e = absurd (cc)
resources_on n [] cells more (y ∷ rest) e =
    (y, rest, refl, sym (head_one e) ∙ ap (λ k. resource_cells k y) (let z : n ≡ n + 0 = omega arith in z))
resources_on n (x ∷ rs) cells more [] e = absurd (cc)
resources_on n (x ∷ rs) cells more (y ∷ others) e =
    let r = resources_on (n + 1) rs cells more others (tail_one e) in
    let same : y ≡ x = head_one (resources_one n n (y ∷ []) (x ∷ []) (ap (λ (c : List Cell). c ∷ []) (head_one e))) in (
      r.0,
      r.1,
      (λ i. same i ∷ r.2 i),
      r.3 ∙ ap (λ k. resource_cells k r.0) (let z : n + 1 + length rs ≡ n
          + length (x ∷ rs) = omega arith in z),
    )

module _ (rs : List Resource) (cells : List Cell) where
  pub resource_read : (row : ResourceRow) → cells ≡ resource_row_cells row → (new : List Resource) (good : Bool)
      → AppendResourceResult rs new row good → ReadResult (resource_rows 1) (λ rows. rows ≡ new) ResourceRule rs cells
      good
  resource_read row spelled new good differ =
      grind (arith, common_steps, head_one, number_one, resources_on, resources_push)

  pub resource_unread : ((x : ResourceRow) → HasResourceForm x → cells ≢ resource_row_cells x) → (new : List Resource)
      → ReadResult (resource_rows 1) (λ rows. rows ≡ new) ResourceRule rs cells false
  resource_unread none new = λ more others e rule.
      let r = resources_on 1 rs cells more others e in
      let at : entry_at others (length rs + 1) ≡ Some r.0 = ap (λ (l : List Resource). entry_at l (length rs + 1)) r.2
      ∙ numbered_next rs r.0 r.1 in
      none (record { number = length rs + 1; resource = r.0 })
      (resource_form others (length rs + 1) r.0 rule at)
      (r.3 ∙ ap (λ k. resource_cells k r.0) (let z : 1 + length rs ≡ length rs + 1 = omega arith in z))
