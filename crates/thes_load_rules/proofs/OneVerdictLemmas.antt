-- Rows of cells have at most one verdict.
use Rattle.std.proofs.lemmas.Grind.{common_steps}
use Rattle.std.proofs.Common.{arith, ◌≡◌, ℕ, List, sym, ◌∙◌}
use Rattle.std.specs.Prelude.{Result, Ok}
use Rattle.std.proofs.lemmas.Option.{same_Some}
use Rattle.thes_base.specs.declared.fault.Table.{Table}
use Rattle.thes_base.specs.declared.fault.Table.TheVariants as table
use Rattle.thes_base.specs.declared.fault.Fault.{Fault}
use Rattle.thes_base.specs.declared.fault.Fault.TheVariants.{NewerStore, OlderStore}
use Rattle.thes_tables.specs.declared.cells.Cell.{Cell}
use Rattle.thes_tables.specs.Tables.{Tables}
use Rattle.thes_tables.specs.Cells.{Raw, RawTable, outside_cells, label_cells, link_cells, hier_cells, posting_cells}
use Rattle.thes_tables.specs.Cells.{move_cells}
use Rattle.thes_tables.proofs.CellLemmas.{head_one, tail_one, text_one, map_one, resources_one, outside_one}
use Rattle.thes_tables.proofs.CellLemmas.{label_one, link_one, hier_one, posting_one, move_one}
use Rattle.thes_load_rules.specs.Verdicts.{IsTable, IsMeta, IsNewer, IsOlder, Verdict, stopped_if, faulty_unless}
use Rattle.thes_load_rules.specs.Verdicts.{tables_of, HasVerdict}

-- At most one result has the verdict.
pub record IsSingle (verdict : Verdict) : Type 0 where
  pub same : (a b : Result Tables Fault) → verdict a → verdict b → a ≡ b

stopped_single : (condition : Type 0) (fault : Fault) (rest : Verdict) → IsSingle rest
    → IsSingle (stopped_if condition fault rest)
stopped_single condition fault rest one = grind (arith, common_steps)

faulty_single : {A : Type 0} (passes : A → Type 0) (t : Table) (rest : A → Verdict)
    → ((x y : A) → passes x → passes y → x ≡ y) → ((x : A) → IsSingle (rest x))
    → IsSingle (faulty_unless passes t rest)
faulty_single {A} passes t rest one each = grind (arith, common_steps)

table_one : {A : Type 0} (cells_of : List A → List (List Cell)) (Rule : List A → Type 0) (raw : RawTable)
    → ((xs ys : List A) → cells_of xs ≡ cells_of ys → xs ≡ ys) → (xs ys : List A) → IsTable cells_of Rule raw xs
    → IsTable cells_of Rule raw ys → xs ≡ ys
table_one cells_of Rule raw one xs ys p q = one xs ys (same_Some _ _ (sym p.0 ∙ q.0))

meta_one : (raw : RawTable) (x y : List ℕ) → IsMeta raw x → IsMeta raw y → x ≡ y
meta_one raw x y p q = text_one (head_one (tail_one (tail_one (head_one (same_Some _ _ (sym p.0 ∙ q.0))))))

-- Two results that are verdicts on the same rows are equal.
pub loads_single : (raw : Raw) (a b : Result Tables Fault) → HasVerdict raw a → HasVerdict raw b → a ≡ b
loads_single raw =
    (stopped_single (IsNewer raw.meta) NewerStore _ (
    stopped_single (IsOlder raw.meta) OlderStore _ (
    faulty_single _ table.Meta _ (meta_one raw.meta) (λ base.
    faulty_single _ table.Resource _ (table_one _ _ raw.resource (resources_one 1 1)) (λ resources.
    faulty_single _ table.Outside _ (table_one _ _ raw.outside (map_one outside_cells outside_one)) (λ outside.
    faulty_single _ table.Label _ (table_one _ _ raw.label (map_one label_cells label_one)) (λ labels.
    faulty_single _ table.Link _ (table_one _ _ raw.link (map_one link_cells link_one)) (λ links.
    faulty_single _ table.Hier _ (table_one _ _ raw.hier (map_one hier_cells hier_one)) (λ hier.
    faulty_single _ table.Posting _ (table_one _ _ raw.posting (map_one posting_cells posting_one)) (λ postings.
    faulty_single _ table.Move
    (λ moves answer. answer ≡ Ok (tables_of base resources outside labels links hier postings moves))
    (table_one _ _ raw.move (map_one move_cells move_one)) (λ moves.
    record { same = λ x y p q. p ∙ sym q }))))))))))).same
