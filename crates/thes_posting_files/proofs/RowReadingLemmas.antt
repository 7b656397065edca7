-- Proves that the rows of a posting file are read in order, and which are left.
use Rattle.std.proofs.Common.{◌≡◌, ◌∙◌, ◌+◌, ◌<◌, ◌^◌, ◌++◌, ◌∷◌, [], ℕ, suc, List, Bool, true, false, refl, sym, ap}
use Rattle.std.proofs.Common.{subst, length, Some, append-nil, append_assoc, arith, true≢false}
use Rattle.std.specs.Borrow.{Bor}
use Rattle.std.specs.List.{AllZip}
use Rattle.std.proofs.lemmas.Slice.Zip.{AllZip-long, all_zipped_more}
use Rattle.csv.specs.Reading.{AreRecords, default_config, strip_bom}
use Rattle.csv.specs.Records.{fields_of}
use Rattle.csv.specs.declared.parser.State.TheVariants as st
use Rattle.csv.specs.declared.reader.Reader.{Reader}
use Rattle.thes_posting_files.specs.PostingFile.{IsCsvRow, header}
use Rattle.thes_posting_files.specs.RecordReading.{HasReadTo, TakesRecord, most_records}
use Rattle.thes_posting_files.specs.RowReading.{HasReadRows}
use Rattle.thes_posting_files.specs.declared.csv_row.CsvRow.{CsvRow}
use Rattle.thes_posting_files.specs.declared.reading.RowReader.{RowReader}
use Rattle.thes_posting_files.proofs.OneFileLemmas.{one_list_of_records, one_row}
use Rattle.thes_posting_files.proofs.RecordReadingLemmas.{few_at_start, records_after, records_exist, records_few}
use Rattle.thes_posting_files.proofs.RowLemmas.{each_has_row}

rows_exist : (records : List (List (List ℕ))) → (rows : List CsvRow) × AllZip IsCsvRow records rows
rows_exist [] = ([], tt)
rows_exist (fields ∷ records) =
    let row = each_has_row fields in
    let rest = rows_exist records in
    (row.0 ∷ rest.0, (row.1, rest.1))

-- Once a reader has read the header, and one record ahead, it has read none of the file's rows.
pub rows_opened : (bytes : List ℕ) (before : Reader (Bor (List ℕ))) (reader : RowReader)
    → HasReadTo bytes (header ∷ []) before
    → TakesRecord before reader.records (fields_of reader.next) reader.has_more
    → length bytes + length bytes < 2 ^ 64 → (rows : List CsvRow) × HasReadRows bytes rows [] reader
rows_opened bytes before reader h takes small =
    let text = strip_bom bytes in
    let all = records_exist default_config (suc (most_records st.StartRecord (Some text))) st.StartRecord text
    (omega arith) in
    let after = records_after default_config st.StartRecord before.state text h.unread (header ∷ []) all.0 h.reaches
    all.1 in
    let rows = rows_exist after.0 in
    let as_many = AllZip-long IsCsvRow after.0 rows.0 rows.1 in
    let longer : length all.0 ≡ suc (length after.0) = ap (λ (l : List (List (List ℕ))). length l) after.1 in
    let few = records_few default_config st.StartRecord text all.0 all.1 in
    let most = few_at_start bytes in (
      rows.0,
      record {
        file = record {
          records = after.0;
          read = subst (λ (l : List (List (List ℕ))). AreRecords default_config st.StartRecord text l) after.1 all.1;
          each = rows.1;
        };
        fits = omega (arith, as_many, longer, few, most, small);
        records = [];
        each = tt;
        ahead = record {
          more = λ is. let m = takes.more is bytes (header ∷ []) h in m.0;
          none = λ is. takes.none is bytes (header ∷ []) h;
        };
      },
    )

-- Reading one more row adds it to the rows read.
pub one_more_row : (bytes : List ℕ) (rows first : List CsvRow) (old new : RowReader) (row : CsvRow)
    → old.has_more ≡ true → TakesRecord old.records new.records (fields_of new.next) new.has_more
    → IsCsvRow (fields_of old.next) row → HasReadRows bytes rows first old
    → HasReadRows bytes rows (first ++ row ∷ []) new
one_more_row bytes rows first old new row is takes one h = record {
  file = h.file;
  fits = h.fits;
  records = h.records ++ fields_of old.next ∷ [];
  each = all_zipped_more IsCsvRow h.records first (fields_of old.next) row h.each one;
  ahead = record {
    more = λ more. let m = takes.more more bytes (header ∷ (h.records ++ fields_of old.next ∷ [])) (h.ahead.more is) in
        m.0;
    none = λ none. takes.none none bytes (header ∷ (h.records ++ fields_of old.next ∷ [])) (h.ahead.more is);
  };
}

-- The rows of a file that are left to read.
pub record HasRowsLeft (rows first : List CsvRow) (reader : RowReader) : Type 0 where
  pub others : List CsvRow
  pub all : rows ≡ first ++ others
  pub some : reader.has_more ≡ true → 0 < length others
  pub none : reader.has_more ≡ false → others ≡ []

zip_split : (done unread : List (List (List ℕ))) (first rows : List CsvRow) → AllZip IsCsvRow (done ++ unread) rows
    → AllZip IsCsvRow done first → (others : List CsvRow) × (rows ≡ first ++ others) × AllZip IsCsvRow unread others
zip_split [] unread [] rows all each = (rows, refl, all)
zip_split [] unread (y ∷ first) rows all each = absurd each
zip_split (x ∷ done) unread [] rows all each = absurd each
zip_split (x ∷ done) unread (y ∷ first) [] all each = absurd all
zip_split (x ∷ done) unread (y ∷ first) (z ∷ rows) all each =
    let rest = zip_split done unread first rows all.1 each.1 in
    (rest.0, (λ i. one_row x z y all.0 each.0 i ∷ rest.1 i), rest.2)

zip_some : (fields : List (List ℕ)) (unread : List (List (List ℕ))) (others : List CsvRow)
    → AllZip IsCsvRow (fields ∷ unread) others → 0 < length others
zip_some fields unread [] each = absurd each
zip_some fields unread (o ∷ others) each = omega arith

zip_none : (others : List CsvRow) → AllZip IsCsvRow [] others → others ≡ []
zip_none [] each = refl
zip_none (o ∷ others) each = absurd each

left_if : (bytes : List ℕ) (rows first : List CsvRow) (reader : RowReader) → HasReadRows bytes rows first reader
    → (b : Bool) → reader.has_more ≡ b → HasRowsLeft rows first reader
left_if bytes rows first reader h true is =
    let fields = fields_of reader.next in
    let read = h.ahead.more is in
    let after = records_after default_config st.StartRecord reader.records.state (strip_bom bytes) read.unread
    (header ∷ (h.records ++ fields ∷ [])) (header ∷ h.file.records) read.reaches h.file.read in
    let all : h.file.records ≡ (h.records ++ fields ∷ []) ++ after.0 =
    (let both : header ∷ h.file.records ≡ header ∷ ((h.records ++ fields ∷ []) ++ after.0) = after.1 in cc) in
    let parts = zip_split h.records (fields ∷ after.0) first rows
    (subst (λ (l : List (List (List ℕ))). AllZip IsCsvRow l rows)
    (all ∙ append_assoc h.records (fields ∷ []) after.0) h.file.each) h.each in
    record {
      others = parts.0;
      all = parts.1;
      some = λ more. zip_some fields after.0 parts.0 parts.2;
      none = λ no. absurd (true≢false (sym is ∙ no));
    }
left_if bytes rows first reader h false is =
    let both : header ∷ h.file.records ≡ header ∷ h.records =
    one_list_of_records default_config st.StartRecord (strip_bom bytes) (header ∷ h.file.records) (header ∷ h.records)
    h.file.read (h.ahead.none is) in
    let same : h.file.records ≡ h.records = cc in
    let parts = zip_split h.records [] first rows
    (subst (λ (l : List (List (List ℕ))). AllZip IsCsvRow l rows) (same ∙ sym (append-nil h.records)) h.file.each)
    h.each in
    record {
      others = parts.0;
      all = parts.1;
      some = λ more. absurd (true≢false (sym more ∙ is));
      none = λ no. zip_none parts.0 parts.2;
    }

-- The rows read are the first rows of the file, and the others are left.
pub rows_left : (bytes : List ℕ) (rows first : List CsvRow) (reader : RowReader) → HasReadRows bytes rows first reader
    → HasRowsLeft rows first reader
rows_left bytes rows first reader h = left_if bytes rows first reader h reader.has_more refl
