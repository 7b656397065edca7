use Rattle.std.proofs.Common.{◌≡◌, ◌+◌, ◌<◌, ◌^◌, length, true, rules}
use Rattle.thes_posting_files.proofs.RowReadingLemmas.{rows_opened}
use Rattle.thes_posting_files.proofs.reading.open_rows.Goals as goal

pub returns-clause-rows : goal.returns-clause-rows
returns-clause-rows c =
    let found : c.in_ok-read_header.field-0 ≡ true = search rules in
    let m = c.in_ok-read_header.ensures.more found c.args.bytes.now c.open_records-records.ensures in
    let small : length c.args.bytes.now + length c.args.bytes.now < 2 ^ 64 = search rules in
    rows_opened c.args.bytes.now c.read_header.new.records (record {
      records = c.next_record.new.records;
      next = c.next_record.new.entry;
      has_more = c.in_ok-has_more.has_more;
    }) m.0 c.in_ok-has_more.ensures.record small
