-- The rows of the tables outside and label read so far, and the vocabulary that they encode.
use Rattle.std.specs.Prelude.{◌≡◌, ◌⊎◌, ◌≤◌, ℕ, List, []}
use Rattle.thes_base.specs.declared.data.Resource.{Resource}
use Rattle.thes_base.specs.Forms.{IsIri}
use Rattle.thes_base.specs.Texts.{IsLabelForm}
use Rattle.thes_base.specs.Labels.{Label}
use Rattle.thes_tables.specs.Tables.{IsIn, AreDistinct, IriNumbersAscend}
use Rattle.thes_load_rules.specs.Rules.{EachRow, iris_of, labels_of}
use Rattle.thes_vocab.specs.Vocabulary.{Vocabulary}

-- The vocabulary that has these resources, and the IRIs and labels of the rows.
abbrev pub vocabulary_of_rows : List ℕ → List Resource → List (ℕ × List ℕ) → List Label → Vocabulary
vocabulary_of_rows base resources outside labels =
    record { base = base; resources = resources; iris = iris_of outside; labels = labels_of labels }

-- The number `last` is the greatest number of the rows, or 0 without rows.
pub record IsLast (rows : List (ℕ × List ℕ)) (last : ℕ) : Type 0 where
  pub one : (last ≡ 0) ⊎ ((row : ℕ × List ℕ) × IsIn row rows × (row.0 ≡ last))
  pub below : EachRow (λ row. row.0 ≤ last) rows

-- The vocabulary has the IRIs of these rows of table outside, and no labels. The rows are sorted by number, and `last`
-- is the greatest of their numbers, or 0 without rows.
pub record HasOutside (base : List ℕ) (resources : List Resource) (v : Vocabulary) (last : ℕ)
    (rows : List (ℕ × List ℕ)) : Type 0 where
  pub ascends : IriNumbersAscend 0 rows
  pub forms : EachRow (λ row. IsIri row.1) rows
  pub are : v ≡ vocabulary_of_rows base resources rows []
  pub greatest : IsLast rows last

-- The vocabulary has the labels of these rows of table label. Tags and texts have the right forms, and no two rows are
-- equal.
pub record HasLabels (base : List ℕ) (resources : List Resource) (outside : List (ℕ × List ℕ))
    (v : Vocabulary) (rows : List Label) : Type 0 where
  pub once : AreDistinct rows
  pub forms : EachRow (λ l. IsLabelForm l.kind l.tag l.text) rows
  pub are : v ≡ vocabulary_of_rows base resources outside rows
