-- The result of a load after its last row.
use Rattle.std.specs.Prelude.{Result, Ok, Err}
use Rattle.thes_base.specs.declared.fault.Fault.{Fault}
use Rattle.thes_tables.specs.Tables.{Tables}
use Rattle.thes_tables.specs.Cells.{Raw}
use Rattle.thes_post.specs.PostingCounts.{ArePostingCounts}
use Rattle.thes_load_rules.specs.Rules.{state_of}
use Rattle.thes_load_rules.specs.Verdicts.{HasVerdict}
use Rattle.thes_load_rows.specs.declared.stage_steps.LoadedParts.{LoadedParts}
use Rattle.thes_load_rows.specs.Progress.{HasNames}
use Rattle.thes_load_rows.specs.LinksSoFar.{HasLinks}

-- The result of a load: the vocabulary, links and counts that the rows encode, or the fault that is their verdict.
abbrev pub LoadResult : Raw → Result LoadedParts Fault → Type 0
LoadResult raw (Ok parts) =
    (t : Tables) × HasVerdict raw (Ok t) × HasNames parts.linked_vocab.vocab t
    × HasLinks t.resource parts.linked_vocab.graph t.link t.hier
    × ArePostingCounts (state_of t).histories parts.book
LoadResult raw (Err fault) = HasVerdict raw (Err fault)
