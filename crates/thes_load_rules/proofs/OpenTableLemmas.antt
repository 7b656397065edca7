-- Tables load exactly when all of them meet their rules.
use Rattle.std.proofs.lemmas.Grind.{common_steps}
use Rattle.std.proofs.Common.{◌≡◌, ◌⊎◌, ◌<◌, ℕ, List, refl, sym, ◌∙◌, subst, arith, inl, inr, map}
use Rattle.std.specs.Prelude.{Ok, Err}
use Rattle.std.proofs.lemmas.Option.{same_Some}
use Rattle.thes_base.specs.declared.fault.Fault.{Fault}
use Rattle.thes_tables.specs.Tables.{Tables}
use Rattle.thes_tables.specs.Cells.{Raw, RawTable, resource_rows, outside_cells, label_cells, link_cells, hier_cells}
use Rattle.thes_tables.specs.Cells.{posting_cells, move_cells, cells_of_tables}
use Rattle.thes_tables.proofs.CellLemmas.{head_one, tail_one, number_one}
use Rattle.thes_load_rules.specs.Rules.{ResourceRule, OutsideRule, LabelRule, LinkRule, HierRule, PostingRule, MoveRule}
use Rattle.thes_load_rules.specs.Verdicts.{IsTable, IsMeta, HasVersion, IsNewer, IsOlder, HasVerdict}

-- All tables meet their rules.
pub record AllTablesPass (raw : Raw) (t : Tables) : Type 0 where
  pub meta : IsMeta raw.meta t.base
  pub resource : IsTable (resource_rows 1) ResourceRule raw.resource t.resource
  pub outside : IsTable (map outside_cells) (OutsideRule t.base t.resource) raw.outside t.outside
  pub label : IsTable (map label_cells) (LabelRule t.resource) raw.label t.label
  pub link : IsTable (map link_cells) (LinkRule t.resource) raw.link t.link
  pub hier : IsTable (map hier_cells) (HierRule t.resource t.link) raw.hier t.hier
  pub posting : IsTable (map posting_cells) (PostingRule t.resource) raw.posting t.posting
  pub move : IsTable (map move_cells) (MoveRule t.resource t.posting) raw.move t.move

version_two : (Is : ℕ → Type 0) (raw : RawTable) (base : List ℕ) → IsMeta raw base → HasVersion Is raw → Is 2
version_two Is raw base meta has =
    subst Is (sym (number_one (head_one (tail_one (head_one (same_Some _ _ (sym meta.0 ∙ has.3))))))) has.2

not_newer : (raw : RawTable) (base : List ℕ) → IsMeta raw base → IsNewer raw → ⊥
not_newer raw base meta newer = let above = version_two (λ version. 2 < version) raw base meta newer in
    omega (arith, above)

not_older : (raw : RawTable) (base : List ℕ) → IsMeta raw base → IsOlder raw → ⊥
not_older raw base meta older = let is = version_two (λ version. version ≡ 1) raw base meta older in omega (arith, is)

-- If tables load, the verdict isn't the fault that is checked first, but the remaining verdict.
no_fault : {F X : Type 0} {fault : Fault} {t : Tables} → (F × (Ok t ≡ Err fault)) ⊎ X → X
no_fault (inl (found, is)) = absurd (cc)
no_fault (inr rest) = rest

-- The verdict on a table that meets its rule is that of the remaining tables.
pub pass : {A F : Type 0} {Passes Rest : A → Type 0} (x : A) → Passes x → Rest x → F ⊎ ((y : A) × Passes y × Rest y)
pass x passes rest = inr (x, passes, rest)

-- The verdict on a table meta that meets its rule, and so has the current version, is that of the remaining tables.
pub pass_meta : {F G H : Type 0} {Rest : List ℕ → Type 0} (raw : RawTable) (base : List ℕ) → IsMeta raw base → Rest base
    → F ⊎ ((IsNewer raw → ⊥) × (G ⊎ ((IsOlder raw → ⊥) × (H ⊎ ((b : List ℕ) × IsMeta raw b × Rest b)))))
pass_meta raw base meta rest = inr (not_newer raw base meta, inr (not_older raw base meta, inr (base, meta, rest)))

-- If the tables load, all of them meet their rules.
pub open_of : (raw : Raw) (t : Tables) → HasVerdict raw (Ok t) → AllTablesPass raw t
open_of raw t loads = grind (arith, common_steps, no_fault)

pub loads_open : (raw : Raw) (t : Tables) → AllTablesPass raw t → HasVerdict raw (Ok t)
loads_open raw t all = pass_meta raw.meta t.base all.meta (pass t.resource all.resource (pass t.outside all.outside
    (pass t.label all.label (pass t.link all.link (pass t.hier all.hier (pass t.posting all.posting
    (pass t.move all.move refl)))))))

-- If all tables meet their rules, the rows of cells are those of the tables.
pub open_listed : (raw : Raw) (t : Tables) → AllTablesPass raw t → raw ≡ cells_of_tables t
open_listed raw t all = grind (arith, common_steps)
