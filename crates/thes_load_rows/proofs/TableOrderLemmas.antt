-- The order of tables in a load. Any rows of cells extend themselves (ExtendsTable) at each table.
use Rattle.std.proofs.lemmas.Grind.{common_steps}
use Rattle.std.proofs.Common.{◌≡◌, ◌<◌, ◌≤◌, ◌+◌, ℕ, zero, suc, sym, ap, ◌∙◌, arith}
use Rattle.thes_base.specs.declared.fault.Table.{Table}
use Rattle.thes_base.specs.declared.fault.Table.TheVariants as table
use Rattle.thes_tables.specs.Cells.{Raw}
use Rattle.thes_tables.specs.TableOrder.{next_table, table_no}
use Rattle.thes_load_rows.specs.Progress.{ExtendsTable}
use Rattle.thes_load_rows.proofs.StageCloseLemmas.{same_grows}

abbrev table_at : ℕ → Table
table_at zero = table.Meta
table_at (suc zero) = table.Resource
table_at (suc (suc zero)) = table.Outside
table_at (suc (suc (suc zero))) = table.Label
table_at (suc (suc (suc (suc zero)))) = table.Link
table_at (suc (suc (suc (suc (suc zero))))) = table.Hier
table_at (suc (suc (suc (suc (suc (suc zero)))))) = table.Posting
table_at (suc (suc (suc (suc (suc (suc (suc n))))))) = table.Move

table_back : (t : Table) → table_at (table_no t) ≡ t
table_back t = grind (arith, common_steps)

pub table_same : (s t : Table) → table_no s ≡ table_no t → s ≡ t
table_same s t e = sym (table_back s) ∙ ap table_at e ∙ table_back t

pub next_no : (t : Table) → table_no t < 7 → table_no (next_table t) ≡ table_no t + 1
next_no t below = grind (arith, common_steps)

pub last_no : (t : Table) → table_no t ≤ 7
last_no t = grind (arith, common_steps)

pub same_extends : (at : Table) (raw : Raw) → ExtendsTable at raw raw
same_extends at raw = grind (arith, common_steps, same_grows)
