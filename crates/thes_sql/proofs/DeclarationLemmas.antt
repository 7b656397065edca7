-- Proves that the schema which the program makes is that of a store.
use Rattle.std.proofs.Common.{◌≡◌, [], refl, true}
use Rattle.sqlite_schema.specs.Names.{same_name}
use Rattle.thes_base.specs.declared.fault.Table.{Table}
use Rattle.thes_base.specs.declared.fault.Table.TheVariants as table
use Rattle.thes_sql.specs.Additions.{IsStoreSchema}
use Rattle.thes_sql.specs.Schema.{store_schema}
use Rattle.thes_sql.specs.Declarations.{declares}

pub store_declares : (name : Table) → declares store_schema name ≡ true
unfolding declares same_name
store_declares table.Meta = refl
store_declares table.Resource = refl
store_declares table.Outside = refl
store_declares table.Label = refl
store_declares table.Link = refl
store_declares table.Hier = refl
store_declares table.Posting = refl
store_declares table.Move = refl

pub own_schema : IsStoreSchema store_schema
own_schema = record {
  added = record { tables = []; indexes = store_schema.indexes; views = [] };
  is = refl;
  apart = tt;
  declared = store_declares;
}
