-- Proves that the text of a query compiles to a query in any schema.
use Rattle.std.proofs.lemmas.Grind.{common_steps}
use Rattle.std.proofs.Common.{◌≡◌, ◌≤◌, ◌==◌, ℕ, List, [], length, true, Ok, Err, Option, None, refl, ap, subst, arith}
use Rattle.std.proofs.lemmas.Bool.{and_parts, leb-true}
use Rattle.sqlite.specs.Effect.{is_query}
use Rattle.sqlite.specs.Schema.{Schema}
use Rattle.sqlite.specs.Command.{Command}
use Rattle.sqlite.specs.Command.TheVariants.{Select}
use Rattle.sqlite_schema.specs.declared.command.Returning.{Returning}
use Rattle.sqlite.specs.Listing.{understood, if_select}
use Rattle.sqlite.proofs.Callers.{IsPlain}
use Rattle.sqlite_ast.specs.declared.Select as written_select
use Rattle.sqlite_ast.specs.declared.Statement.{Statement}
use Rattle.sqlite_ast.specs.declared.Statement.TheVariants as written
use Rattle.sqlite_syntax.specs.declared.statement.Parsed.{Parsed}
use Rattle.sqlite_resolve.specs.Compile.{first, compiled, planned, meaning, returning, timed, command, read}
use Rattle.sqlite_resolve.specs.Program.{query}
use Rattle.sqlite_resolve.specs.Lowering.{Checked, and_then}
use Rattle.sqlite_resolve.specs.declared.compiled.Compiled.{Compiled}
use Rattle.sqlite_tied.specs.Compute.{everything}
use Rattle.thes_base.specs.declared.fault.Table.{Table}
use Rattle.thes_base.specs.declared.fault.Table.TheVariants as table
use Rattle.thes_sql.specs.OldStore.{links_text, hier_text}
use Rattle.thes_sql.specs.Reads.{read_text}
use Rattle.thes_sql.specs.Queries.{reads_rows, is_query_text, IsQuery, IsWholeQuery}

and_then_ok : {A B : Type 0} (m : Checked A) (f : A → Checked B) (b : B) → and_then m f ≡ Ok b
    → (a : A) × (m ≡ Ok a) × (f a ≡ Ok b)
and_then_ok (Ok a) f b h = (a, refl, h)
and_then_ok (Err e) f b h = absurd (cc)

abbrev value_or : {A : Type 0} → A → Checked A → A
value_or a (Ok b) = b
value_or a (Err e) = a

same_value : {A : Type 0} (a b : A) → ◌≡◌ {A = Checked A} (Ok a) (Ok b) → a ≡ b
same_value a b e = ap (value_or a) e

no_elements : {A : Type 0} (xs : List A) → length xs == 0 ≡ true → xs ≡ []
no_elements xs e = grind (arith, common_steps)

query_of : (s : Statement) → reads_rows s ≡ true → (q : written_select.Select) × (s ≡ written.Select q)
query_of s e = grind (arith, common_steps)

read_is_query : (schema : Schema) (s : written_select.Select) (c : Command) → read schema s ≡ Ok c → is_query c ≡ true
unfolding read
read_is_query schema s c h = grind (arith, common_steps, and_then_ok)

-- The compiled text is a query with the parameters of the text, and doesn't read the time.
record IsCompiledQuery (p : Parsed) (c : Compiled) : Type 0 where
  returning : c.returning ≡ None
  formats : c.formats ≡ []
  query : is_query c.command ≡ true
  names : c.names ≡ p.names
  tail : c.tail ≡ p.tail

abbrev Meaning : Type 0
Meaning = Command × Option Returning

abbrev Plan : Type 0
Plan = List (List ℕ) × Meaning

planned_query : (schema : Schema) (p : Parsed) (s : written_select.Select) → p.statement ≡ written.Select s
    → p.formats ≡ [] → (plan : Plan) → planned schema p ≡ Ok plan
    → (plan.0 ≡ []) × ((plan.1.1 ≡ None) × (is_query plan.1.0 ≡ true))
unfolding planned meaning returning timed command
planned_query schema p s is none plan h = grind (arith, common_steps, and_then_ok, read_is_query)

compiled_query : (sql : List ℕ) → IsQuery sql → (schema : Schema) (c : Compiled) → compiled schema sql ≡ Ok c
    → (p : Parsed) × (first sql ≡ Ok p) × IsCompiledQuery p c
unfolding compiled
compiled_query sql is schema c h =
    let text = and_then_ok (first sql) _ c h in
    let plan = and_then_ok (planned schema text.0) _ c text.2 in
    let both = and_parts (reads_rows text.0.statement) _ (subst (λ r. is_query_text r ≡ true) text.1 is) in
    let asks = query_of text.0.statement both.0 in
    let so = planned_query schema text.0 asks.0 asks.1 (no_elements text.0.formats both.1) plan.0 plan.1 in
    (text.0, text.1, grind (arith, common_steps))

if_select_ok : (r : Checked Compiled) (c : Compiled) → if_select r ≡ Ok c → r ≡ Ok c
if_select_ok r c h = grind (arith, common_steps)

-- In any schema, the text of a query compiles only to a query.
understood_query : (sql : List ℕ) → IsQuery sql → (schema : Schema) (c : Compiled) → understood schema sql ≡ Ok c
    → (p : Parsed) × (first sql ≡ Ok p) × IsCompiledQuery p c
unfolding understood
understood_query sql is schema c h = grind (arith, common_steps, compiled_query, if_select_ok)

pub query_is_plain : (sql : List ℕ) → IsQuery sql → (schema : Schema) (c : Compiled) → understood schema sql ≡ Ok c
    → IsPlain (Ok c)
query_is_plain sql is schema c h = let so = (understood_query sql is schema c h).2 in (so.returning, so.formats)

pub query_reads : (sql : List ℕ) → IsQuery sql → (schema : Schema) (c : Compiled) → understood schema sql ≡ Ok c
    → is_query c.command ≡ true
query_reads sql is schema c h = (understood_query sql is schema c h).2.query

-- If the text is a single query without parameters, its statement has no parameters and reaches the
-- end of the text.
pub query_is_whole : (sql : List ℕ) → IsWholeQuery sql → (schema : Schema) (c : Compiled)
    → understood schema sql ≡ Ok c → (c.names ≡ []) × (length sql ≤ c.tail)
query_is_whole sql is schema c h = grind (arith, common_steps, understood_query, and_parts, no_elements, leb-true)

-- Each query for the rows of a table, or for the version of a store, is a single query without
-- parameters.

pub table_is_query : (p : Table) → IsWholeQuery (read_text p)
unfolding everything
table_is_query table.Meta = (refl, refl)
table_is_query p = (refl, refl)

pub links_is_query : IsWholeQuery links_text
unfolding everything
links_is_query = (refl, refl)

pub hier_is_query : IsWholeQuery hier_text
unfolding everything
hier_is_query = (refl, refl)
