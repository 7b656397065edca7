use Rattle.std.proofs.Common.{◌∙◌, ◌++◌, ◌∷◌, [], List, ap, append-nil, append_assoc, arith, length, length-append}
use Rattle.std.proofs.Common.{subst, sym}
use Rattle.std.proofs.lemmas.List.{length-map, map-append}
use Rattle.std.proofs.lemmas.List.Elements.{filter_map-append}
use Rattle.thes_posting_files.specs.Outcomes.{fault_of_row, post_in, posts_of}
use Rattle.thes_posting_files.specs.RowReading.{HasReadRows}
use Rattle.thes_posting_files.specs.declared.csv_row.CsvRow.{CsvRow}
use Rattle.thes_posting_files.proofs.reading.read_block.Goals as goal

pub loop-reader-init : goal.loop-reader-init
loop-reader-init c = record {
  rows = [];
  reads = λ bytes all first h. subst (λ (l : List CsvRow). HasReadRows bytes all l c.args.reader.now)
      (sym (append-nil first)) h;
  begun = λ none i. c.args.reader.now.has_more;
  few = omega arith;
  posts = c.clear.ensures.posts;
  faults = c.clear.ensures.faults;
}

pub loop-reader-preserved : goal.loop-reader-preserved
loop-reader-preserved c =
    let i = c.loop-reader.invariant in
    let row = c.in_ok-row.row in
    let size = length-append i.rows (row ∷ []) in
    let as_many = length-map i.rows fault_of_row in
    let held = ap (λ (l : List _). length l) i.faults in
    record {
      rows = i.rows ++ row ∷ [];
      reads = λ bytes all first h. subst (λ (l : List CsvRow). HasReadRows bytes all l c.next_row.new.reader)
          (append_assoc first i.rows (row ∷ []))
          (c.in_ok-row.ensures bytes all (first ++ i.rows) (i.reads bytes all first h));
      begun = λ none. absurd (omega (arith, size, none));
      few = omega (arith, size, as_many, held);
      posts = c.in_ok-push.ensures.posts ∙ ap (λ l. l ++ posts_of (row ∷ [])) i.posts
          ∙ sym (filter_map-append post_in i.rows (row ∷ []));
      faults = c.in_ok-push.ensures.faults ∙ ap (λ l. l ++ fault_of_row row ∷ []) i.faults
          ∙ sym (map-append fault_of_row i.rows (row ∷ []));
    }
