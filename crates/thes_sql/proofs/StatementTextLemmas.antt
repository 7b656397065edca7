-- Proves which command each statement's text means.
use Rattle.std.proofs.Common.{◌≡◌, ℕ, pos, negsuc, List, [], ◌∷◌, codes, refl, None, false}
use Rattle.sqlite.specs.declared.types.Value.TheVariants.{Null, Int}
use Rattle.sqlite.specs.Term.{Term, lit, col, op2}
use Rattle.sqlite.specs.Command.{Command}
use Rattle.sqlite.specs.Command.TheVariants.{Insert, Update, Delete}
use Rattle.sqlite.specs.Query.{Query, inner, end}
use Rattle.sqlite_schema.specs.declared.program.Program.{Program}
use Rattle.sqlite_sql.specs.declared.ops.BinaryOp.TheVariants as by
use Rattle.sqlite_sql.specs.declared.ops.CompareOp.TheVariants.{Eq}
use Rattle.sqlite_value.specs.declared.keys.Collation.TheVariants.{Binary}
use Rattle.sqlite_value.specs.declared.keys.Key.{Key}
use Rattle.sqlite.specs.Source.TheVariants.{Values}
use Rattle.sqlite_tied.specs.Compute.{everything}
use Rattle.sqlite.specs.Listing.{understood}
use Rattle.sqlite.proofs.Callers.{IsPlain, command_of}
use Rattle.thes_tables.specs.declared.change.Change.{Change}
use Rattle.thes_tables.specs.declared.change.Change.TheVariants as change
use Rattle.thes_sql.specs.Additions.{Additions, schema_with}

-- The query of one table with these filters, columns and order.
abbrev pub plain_query : ℕ → List Term → List Term → List (Term × Key) → Query
plain_query tree filter project order = record {
  from = inner tree end;
  filter = filter;
  group = None;
  project = project;
  distinct = false;
  collations = [];
  order = order;
  limit = lit (Int (negsuc 0));
  offset = lit (Int (pos 0));
}

abbrev pub whole_program : Query → Program
whole_program q = record { lets = []; body = q }

abbrev pub equal_terms : Term → Term → Term
equal_terms a b = op2 (by.Compare Eq Binary) a b

-- The text is this command in the schema of a store with any additions, with no inputs other than its parameters.
abbrev pub IsCommandText : List ℕ → Command → Type 0
IsCommandText text command = (added : Additions) → (command_of (understood (schema_with added) text) ≡ command)
    × IsPlain (understood (schema_with added) text)

-- The filter for rows whose number is the first parameter.
abbrev pub number_filter : List Term
number_filter = equal_terms (col 1 0) (col 0 0) ∷ []

-- The filter for postings that are assigned to the first parameter and aren't withdrawn.
abbrev pub place_filter : List Term
place_filter = equal_terms (col 1 5) (col 0 0) ∷ equal_terms (col 1 6) (lit (Int (pos 0))) ∷ []

-- The filter for rows whose three values are the parameters.
abbrev pub link_filter : List Term
link_filter = equal_terms (col 1 1) (col 0 0) ∷ equal_terms (col 1 2) (col 0 1) ∷ equal_terms (col 1 3) (col 0 2) ∷ []

-- The filter for rows whose four values are the parameters.
abbrev pub label_filter : List Term
label_filter = equal_terms (col 1 1) (col 0 0) ∷ equal_terms (col 1 2) (col 0 1) ∷ equal_terms (col 1 3) (col 0 2)
    ∷ equal_terms (col 1 4) (col 0 3) ∷ []

abbrev pub resource_columns : Term → Term → List Term
resource_columns live replaced = col 1 0 ∷ col 1 0 ∷ lit Null ∷ col 1 2 ∷ col 1 3 ∷ live ∷ replaced ∷ []

abbrev pub posting_columns : Term → Term → List Term
posting_columns at withdrawn = col 1 0 ∷ col 1 0 ∷ lit Null ∷ col 1 2 ∷ col 1 3 ∷ col 1 4 ∷ at ∷ withdrawn ∷ []

abbrev pub add_meta_text : List ℕ
add_meta_text = codes "INSERT INTO meta (one, version, base) VALUES (?1, ?2, ?3)"

abbrev pub add_meta_terms : List Term
add_meta_terms = col 0 0 ∷ lit Null ∷ col 0 1 ∷ col 0 2 ∷ []

pub add_meta_is : IsCommandText add_meta_text (Insert 0 (Values add_meta_terms 4))
unfolding understood everything
add_meta_is added = (refl, (refl, refl))

-- The text of the statement that makes a change.
abbrev pub statement_text : Change → List ℕ
statement_text (change.AddResource n resource) =
    codes "INSERT INTO resource (num, kind, scheme, live, replaced) VALUES (?1, ?2, ?3, ?4, ?5)"
statement_text (change.Retire n) = codes "UPDATE resource SET live = 0, replaced = NULL WHERE num = ?1"
statement_text (change.Replace n by) = codes "UPDATE resource SET live = 0, replaced = ?2 WHERE num = ?1"
statement_text (change.AddOutside n iri) = codes "INSERT INTO outside (num, iri) VALUES (?1, ?2)"
statement_text (change.AddLabel label) = codes "INSERT INTO label (owner, kind, tag, text) VALUES (?1, ?2, ?3, ?4)"
statement_text (change.DropLabel label) =
    codes "DELETE FROM label WHERE owner = ?1 AND kind = ?2 AND tag = ?3 AND text = ?4"
statement_text (change.AddLink link) = codes "INSERT INTO link (kind, a, b) VALUES (?1, ?2, ?3)"
statement_text (change.DropLink link) = codes "DELETE FROM link WHERE kind = ?1 AND a = ?2 AND b = ?3"
statement_text (change.AddHier row) = codes "INSERT INTO hier (a, b, typ) VALUES (?1, ?2, ?3)"
statement_text (change.DropHier row) = codes "DELETE FROM hier WHERE a = ?1 AND b = ?2 AND typ = ?3"
statement_text (change.AddPosting row) =
    codes "INSERT INTO posting (num, pkey, record, first_at, at, withdrawn) VALUES (?1, ?2, ?3, ?4, ?5, ?6)"
statement_text (change.Withdraw n) = codes "UPDATE posting SET withdrawn = 1 WHERE num = ?1"
statement_text (change.SetPlace n place) = codes "UPDATE posting SET at = ?2 WHERE num = ?1"
statement_text (change.MoveAll source target) = codes "UPDATE posting SET at = ?2 WHERE at = ?1 AND withdrawn = 0"
statement_text (change.AddMove row) = codes "INSERT INTO move (num, posting, source, target) VALUES (?1, ?2, ?3, ?4)"

-- An UPDATE, and a DELETE, of the rows that pass these filters.
abbrev update_of : ℕ → ℕ → List Term → List Term → Command
update_of at tree filters columns = Update at (whole_program (plain_query tree filters columns []))

abbrev delete_of : ℕ → ℕ → List Term → Command
delete_of at tree filters = Delete at (whole_program (plain_query tree filters (col 1 0 ∷ []) []))

-- The command that `statement_text` means for each change.
abbrev pub statement_command : Change → Command
statement_command (change.AddResource n resource) =
    Insert 1 (Values (col 0 0 ∷ lit Null ∷ col 0 1 ∷ col 0 2 ∷ col 0 3 ∷ col 0 4 ∷ []) 6)
statement_command (change.Retire n) = update_of 1 1 number_filter (resource_columns (lit (Int (pos 0))) (lit Null))
statement_command (change.Replace n by) = update_of 1 1 number_filter (resource_columns (lit (Int (pos 0))) (col 0 1))
statement_command (change.AddOutside n iri) = Insert 2 (Values (col 0 0 ∷ lit Null ∷ col 0 1 ∷ []) 3)
statement_command (change.AddLabel label) =
    Insert 3 (Values (lit Null ∷ col 0 0 ∷ col 0 1 ∷ col 0 2 ∷ col 0 3 ∷ []) 5)
statement_command (change.DropLabel label) = delete_of 3 4 label_filter
statement_command (change.AddLink link) = Insert 4 (Values (lit Null ∷ col 0 0 ∷ col 0 1 ∷ col 0 2 ∷ []) 4)
statement_command (change.DropLink link) = delete_of 4 6 link_filter
statement_command (change.AddHier row) = Insert 7 (Values (lit Null ∷ col 0 0 ∷ col 0 1 ∷ col 0 2 ∷ []) 4)
statement_command (change.DropHier row) = delete_of 7 11 link_filter
statement_command (change.AddPosting row) =
    Insert 5 (Values (col 0 0 ∷ lit Null ∷ col 0 1 ∷ col 0 2 ∷ col 0 3 ∷ col 0 4 ∷ col 0 5 ∷ []) 7)
statement_command (change.Withdraw n) = update_of 5 8 number_filter (posting_columns (col 1 5) (lit (Int (pos 1))))
statement_command (change.SetPlace n place) = update_of 5 8 number_filter (posting_columns (col 0 1) (col 1 6))
statement_command (change.MoveAll source target) = update_of 5 8 place_filter (posting_columns (col 0 1) (col 1 6))
statement_command (change.AddMove row) =
    Insert 6 (Values (col 0 0 ∷ lit Null ∷ col 0 1 ∷ col 0 2 ∷ col 0 3 ∷ []) 5)

pub statement_is : (c : Change) → IsCommandText (statement_text c) (statement_command c)
unfolding understood everything
statement_is (change.AddResource n resource) added = (refl, (refl, refl))
statement_is (change.Retire n) added = (refl, (refl, refl))
statement_is (change.Replace n by) added = (refl, (refl, refl))
statement_is (change.AddOutside n iri) added = (refl, (refl, refl))
statement_is (change.AddLabel label) added = (refl, (refl, refl))
statement_is (change.DropLabel label) added = (refl, (refl, refl))
statement_is (change.AddLink link) added = (refl, (refl, refl))
statement_is (change.DropLink link) added = (refl, (refl, refl))
statement_is (change.AddHier row) added = (refl, (refl, refl))
statement_is (change.DropHier row) added = (refl, (refl, refl))
statement_is (change.AddPosting row) added = (refl, (refl, refl))
statement_is (change.Withdraw n) added = (refl, (refl, refl))
statement_is (change.SetPlace n place) added = (refl, (refl, refl))
statement_is (change.MoveAll source target) added = (refl, (refl, refl))
statement_is (change.AddMove row) added = (refl, (refl, refl))
