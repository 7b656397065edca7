use Rattle.thes_posting_files.proofs.RowReadingLemmas.{one_more_row}
use Rattle.thes_posting_files.proofs.reading.next_row.Goals as goal

pub returns : goal.returns
returns c bytes rows first h = one_more_row bytes rows first c.args.reader.now _ c.in_ok-row.row c.requires
    c.in_ok-reader.ensures.record c.in_ok-row.ensures h
