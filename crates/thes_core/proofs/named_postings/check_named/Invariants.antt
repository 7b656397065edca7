use Rattle.std.proofs.Common.{◌≡◌, List, map}
use Rattle.thes_base.specs.declared.data.History.{History}
use Rattle.thes_core.specs.Facts.{posting_row_at}
use Rattle.thes_core.proofs.NamedPostingLemmas.{AreCheckedTo}
use Rattle.thes_core.proofs.named_postings.check_named.Given as goal

abbrev pub invariant-loop-row : goal.invariant-loop-row
invariant-loop-row l = (hs : List History) → l.named_postings ≡ map (posting_row_at hs) l.postings
    → AreCheckedTo l.row-index hs l.source l.postings l.withdrawn l.elsewhere
