-- The export of a state, and the promise that its only reading is the state's triples.
use Rattle.std.specs.Prelude.{◌≡◌, ◌↔◌, ℕ, List, Contains}
use Rattle.std.specs.List.{concat}
use Rattle.std.specs.Ordering.{nat_cmp}
use Rattle.std.specs.Cmp.Lexicographic.{slice_cmp}
use Rattle.thes_base.specs.Legal.{IsLegalState}
use Rattle.thes_base.specs.Listing.{IsListing}
use Rattle.thes_base.specs.State.{State}
use Rattle.thes_base.specs.Triples.{Triple, IsAsserted}
use Rattle.thes_export.specs.NTriples.{Statement, IsDocument}
use Rattle.thes_export.specs.Spelling.{line_of, statement_of}

-- The line is that of a triple of the state.
abbrev pub IsTripleLine : List ℕ → State → List ℕ → Type 0
IsTripleLine base s line = (t : Triple) × IsAsserted base s t × (line ≡ line_of t)

-- The text is the export of the state: the lines of its triples in the order of their bytes, each once.
pub record IsExport (base : List ℕ) (s : State) (text : List ℕ) : Type 0 where
  pub lines : List (List ℕ)
  pub listed : IsListing (slice_cmp nat_cmp) (IsTripleLine base s) lines
  pub is : text ≡ concat lines

-- The RDF triple is that for some triple of the state.
abbrev pub IsStated : List ℕ → State → Statement → Type 0
IsStated base s content = (t : Triple) × IsAsserted base s t × (content ≡ statement_of t)

-- The text is an N-Triples document whose only reading is exactly the state's triples.
pub record IsReadAs (base : List ℕ) (s : State) (text : List ℕ) : Type 0 where
  pub content : List Statement
  pub document : IsDocument text content
  pub unique : (others : List Statement) → IsDocument text others → others ≡ content
  pub exact : (t : Statement) → Contains content t ↔ IsStated base s t

-- The only reading of each export of a legal state is the state's triples.
abbrev pub ReadsExports : Type 0
ReadsExports =
    (base : List ℕ) (s : State) (text : List ℕ) → IsLegalState base s → IsExport base s text → IsReadAs base s text

-- A state has at most one export.
abbrev pub HasOneExport : Type 0
HasOneExport = (base : List ℕ) (s : State) (x y : List ℕ) → IsExport base s x → IsExport base s y → x ≡ y
