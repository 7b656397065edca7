-- Proves which rows of a block have an outcome, if only its first requests were performed.
use Rattle.std.proofs.lemmas.Grind.{common_steps}
use Rattle.std.proofs.Common.{◌≡◌, ◌<◌, ◌++◌, ◌∷◌, [], List, refl, ap, length, map, arith}
use Rattle.std.specs.List.{AllZip}
use Rattle.thes_base.specs.declared.request.Answer.{Answer}
use Rattle.thes_base.specs.declared.request.Command.{Command}
use Rattle.thes_base.specs.declared.request.Command.TheVariants as request
use Rattle.thes_posting_files.specs.Outcomes.{IsOutcome, answers_of, fault_of_row, outcomes_of, posts_of}
use Rattle.thes_posting_files.specs.declared.csv_row.CsvRow.{CsvRow}
use Rattle.thes_posting_files.specs.declared.csv_row.CsvRow.TheVariants as row

-- The rows of a block, split before the first posting without an answer.
pub record RowsAnswered (rows : List CsvRow) (done unread : List Command) (answers : List Answer) : Type 0 where
  pub first : List CsvRow
  pub others : List CsvRow
  pub all : rows ≡ first ++ others
  pub posts : posts_of first ≡ done
  pub left_posts : posts_of others ≡ unread
  pub each : AllZip IsOutcome first (outcomes_of (map fault_of_row rows) answers)
  pub answers_are : answers_of (outcomes_of (map fault_of_row rows) answers) ≡ answers
  pub none : unread ≡ [] → others ≡ []

-- If the first requests of a block were answered, the outcomes are those of its first rows.
pub rows_answered : (rows : List CsvRow) (done unread : List Command) (answers : List Answer) → posts_of rows ≡ done
    ++ unread → length answers ≡ length done → RowsAnswered rows done unread answers
rows_answered [] [] unread [] e n = grind (arith, common_steps)
rows_answered [] [] unread (a ∷ answers) e n = absurd (omega (arith, n))
rows_answered [] (d ∷ done) unread answers e n = absurd (let bad : [] ≡ d ∷ (done ++ unread) = e in cc)
rows_answered (row.Bad fault ∷ rows) done unread answers e n =
    let r = rows_answered rows done unread answers e n in record {
      first = row.Bad fault ∷ r.first;
      others = r.others;
      all = ap (λ (l : List CsvRow). row.Bad fault ∷ l) r.all;
      posts = r.posts;
      left_posts = r.left_posts;
      each = (refl, r.each);
      answers_are = r.answers_are;
      none = r.none;
    }
rows_answered (row.Post key rec concept ∷ rows) [] unread [] e n = grind (arith, common_steps)
rows_answered (row.Post key rec concept ∷ rows) [] unread (a ∷ answers) e n = absurd (omega (arith, n))
rows_answered (row.Post key rec concept ∷ rows) (d ∷ done) unread [] e n = absurd (omega (arith, n))
rows_answered (row.Post key rec concept ∷ rows) (d ∷ done) unread (a ∷ answers) e n =
    let both : request.Post key rec concept ∷ posts_of rows ≡ d ∷ (done ++ unread) = e in
    let head : request.Post key rec concept ≡ d = cc in
    let tail : posts_of rows ≡ done ++ unread = cc in
    let r = rows_answered rows done unread answers tail (omega (arith, n)) in record {
      first = row.Post key rec concept ∷ r.first;
      others = r.others;
      all = ap (λ (l : List CsvRow). row.Post key rec concept ∷ l) r.all;
      posts = (λ i. head i ∷ r.posts i);
      left_posts = r.left_posts;
      each = (tt, r.each);
      answers_are = ap (λ (l : List Answer). a ∷ l) r.answers_are;
      none = r.none;
    }

-- If a request is left, so is a row.
pub some_left : (others : List CsvRow) (unread : List Command) → posts_of others ≡ unread → 0 < length unread
    → 0 < length others
some_left others unread e some = grind (arith, common_steps)
