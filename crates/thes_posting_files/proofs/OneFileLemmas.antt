-- Proves that the bytes of a file determine its rows.
use Rattle.std.proofs.Common.{◌≡◌, ◌∙◌, ◌++◌, ◌∷◌, [], ℕ, List, Some, None, refl, sym, ap, subst, append-nil}
use Rattle.std.specs.List.{AllZip}
use Rattle.csv.specs.Machine.{next_record}
use Rattle.csv.specs.Reading.{AreRecords, Reached, default_config, strip_bom}
use Rattle.csv.specs.declared.parser.Config.{Config}
use Rattle.csv.specs.declared.parser.State.{State}
use Rattle.csv.specs.declared.parser.State.TheVariants as st
use Rattle.thes_base.specs.declared.fault.FormFault.{FormFault}
use Rattle.thes_base.specs.declared.fault.FormFault.TheVariants as bad
use Rattle.thes_posting_files.specs.OneFile.{HasOneListOfRows}
use Rattle.thes_posting_files.specs.PostingFile.{IsCsvRow, IsPostingRow, header}
use Rattle.thes_posting_files.specs.declared.csv_row.CsvRow.{CsvRow}
use Rattle.thes_posting_files.specs.declared.csv_row.CsvRow.TheVariants.{Post, Bad}
use Rattle.thes_posting_files.proofs.RecordReadingLemmas.{records_after}

none_follows : (cfg : Config) (s : State) (text : List ℕ) (rest : List (List (List ℕ)))
    → next_record cfg s [] [] text ≡ None → AreRecords cfg s text rest → rest ≡ []
unfolding Reached
none_follows cfg s text [] end are = refl
none_follows cfg s text (r ∷ rest) end are =
    absurd (let bad : Some are.2.0 ≡ None = sym are.2.1 ∙ end in cc)

-- A text has at most one list of records.
pub one_list_of_records : (cfg : Config) (s : State) (text : List ℕ) (xs ys : List (List (List ℕ)))
    → AreRecords cfg s text xs → AreRecords cfg s text ys → xs ≡ ys
one_list_of_records cfg s text xs ys a b =
    let more = records_after cfg s a.0 text a.1 xs ys a.2 b in
    let none = none_follows cfg a.0 a.1 more.0 a.3 more.2 in
    sym (more.1 ∙ ap (λ rest. xs ++ rest) none ∙ append-nil xs)

posting_has_no_fault : (key rec concept k r : List ℕ) (n : ℕ) (fault : FormFault)
    → IsPostingRow key rec concept (Post k r n) → IsPostingRow key rec concept (Bad fault) → ⊥
posting_has_no_fault key rec concept k r n bad.BadKey a b = b a.0
posting_has_no_fault key rec concept k r n bad.BadRecord a b = b.1 a.2
posting_has_no_fault key rec concept k r n bad.BadNumber a b =
    let field = a.4 in b.2 (record { text = field.text; form = (n, a.5, field.form) })
posting_has_no_fault key rec concept k r n _ a b = b

one_fault : (key rec concept : List ℕ) (f g : FormFault) → IsPostingRow key rec concept (Bad f)
    → IsPostingRow key rec concept (Bad g) → f ≡ g
one_fault key rec concept bad.BadKey bad.BadKey a b = refl
one_fault key rec concept bad.BadKey bad.BadRecord a b = absurd (a b.0)
one_fault key rec concept bad.BadKey bad.BadNumber a b = absurd (a b.0)
one_fault key rec concept bad.BadKey _ a b = absurd b
one_fault key rec concept bad.BadRecord bad.BadKey a b = absurd (b a.0)
one_fault key rec concept bad.BadRecord bad.BadRecord a b = refl
one_fault key rec concept bad.BadRecord bad.BadNumber a b = absurd (a.1 b.1)
one_fault key rec concept bad.BadRecord _ a b = absurd b
one_fault key rec concept bad.BadNumber bad.BadKey a b = absurd (b a.0)
one_fault key rec concept bad.BadNumber bad.BadRecord a b = absurd (b.1 a.1)
one_fault key rec concept bad.BadNumber bad.BadNumber a b = refl
one_fault key rec concept bad.BadNumber _ a b = absurd b
one_fault key rec concept _ g a b = absurd a

one_posting_row : (key rec concept : List ℕ) (x y : CsvRow) → IsPostingRow key rec concept x
    → IsPostingRow key rec concept y → x ≡ y
one_posting_row key rec concept (Post k r n) (Post l q m) a b =
    let left = a.4 in let right = b.4 in
    let number : n ≡ m = sym left.form.1 ∙ right.form.1 in
    λ i. Post ((a.1 ∙ sym b.1) i) ((a.3 ∙ sym b.3) i) (number i)
one_posting_row key rec concept (Post k r n) (Bad f) a b =
    absurd (posting_has_no_fault key rec concept k r n f a b)
one_posting_row key rec concept (Bad f) (Post k r n) a b =
    absurd (posting_has_no_fault key rec concept k r n f b a)
one_posting_row key rec concept (Bad f) (Bad g) a b = ap Bad (one_fault key rec concept f g a b)

pub one_row : (fields : List (List ℕ)) (x y : CsvRow) → IsCsvRow fields x → IsCsvRow fields y → x ≡ y
one_row [] x y a b = a ∙ sym b
one_row (key ∷ []) x y a b = a ∙ sym b
one_row (key ∷ rec ∷ []) x y a b = a ∙ sym b
one_row (key ∷ rec ∷ concept ∷ []) x y a b = one_posting_row key rec concept x y a b
one_row (key ∷ rec ∷ concept ∷ other ∷ more) x y a b = a ∙ sym b

one_list_of_rows : (records : List (List (List ℕ))) (xs ys : List CsvRow) → AllZip IsCsvRow records xs
    → AllZip IsCsvRow records ys → xs ≡ ys
one_list_of_rows [] [] [] a b = refl
one_list_of_rows [] [] (y ∷ ys) a b = absurd b
one_list_of_rows [] (x ∷ xs) ys a b = absurd a
one_list_of_rows (r ∷ records) [] ys a b = absurd a
one_list_of_rows (r ∷ records) (x ∷ xs) [] a b = absurd b
one_list_of_rows (r ∷ records) (x ∷ xs) (y ∷ ys) a b =
    λ i. one_row r x y a.0 b.0 i ∷ one_list_of_rows records xs ys a.1 b.1 i

pub one_file : HasOneListOfRows
one_file = record {
  rows = λ bytes xs ys a b.
      let both : header ∷ a.records ≡ header ∷ b.records =
      one_list_of_records default_config st.StartRecord (strip_bom bytes) (header ∷ a.records) (header ∷ b.records)
      a.read b.read in
      let same : a.records ≡ b.records = cc in
      one_list_of_rows b.records xs ys (subst (λ (records : List (List (List ℕ))). AllZip IsCsvRow records xs) same
      a.each) b.each;
  header = λ bytes xs a b.
      b.headless (
        a.records,
        one_list_of_records default_config st.StartRecord (strip_bom bytes) b.records
            (header ∷ a.records) b.read a.read,
      );
}
