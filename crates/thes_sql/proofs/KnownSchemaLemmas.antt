-- Proves which queries compile in the schemas of version 1 and version 2.
use Rattle.std.proofs.Common.{◌≡◌, ap, ◌∙◌, refl, true, false}
use Rattle.sqlite.specs.Listing.{understood, listing_schema}
use Rattle.sqlite.specs.Schema.{Schema}
use Rattle.sqlite_tied.specs.Compute.{everything}
use Rattle.thes_sql.specs.OldStore.{old_schema, links_text, hier_text}
use Rattle.thes_sql.specs.Queries.{compiles}

links_old : compiles old_schema links_text ≡ true
unfolding understood everything
links_old = refl

hier_old : compiles old_schema hier_text ≡ false
unfolding understood listing_schema everything
hier_old = refl

pub knows_links : (schema : Schema) → schema ≡ old_schema → compiles schema links_text ≡ true
knows_links schema has = ap (λ (s : Schema). compiles s links_text) has ∙ links_old

pub misses_hier : (schema : Schema) → schema ≡ old_schema → compiles schema hier_text ≡ false
misses_hier schema has = ap (λ (s : Schema). compiles s hier_text) has ∙ hier_old
