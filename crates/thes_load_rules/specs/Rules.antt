-- The rule of each table, given the tables before it, and the state that the tables encode.
use Rattle.std.specs.Prelude.{◌≡◌, ◌≢◌, ◌<◌, ◌^◌, ℕ, List, ◌++◌, false, true, None, Some, length, map}
use Rattle.std.specs.FinSet as set
use Rattle.std.specs.FinMap as dict
use Rattle.thes_base.specs.declared.data.Resource.{Resource}
use Rattle.thes_base.specs.declared.data.Link.{Link}
use Rattle.thes_base.specs.declared.data.History.{History}
use Rattle.thes_base.specs.Forms.{IsIri}
use Rattle.thes_base.specs.Texts.{IsLabelForm, IsPostingForm}
use Rattle.thes_base.specs.Resources.{Iris, entry_at, IsConcept, IsReplacedBy, is_live_concept}
use Rattle.thes_base.specs.Labels.{Label, Labels}
use Rattle.thes_base.specs.Links.{Links, Chain}
use Rattle.thes_base.specs.Postings.{place, IsWellFormed}
use Rattle.thes_base.specs.Legal.{IsLegalResource, AreLegalIris, AreLegalLabels, IsLegalLink, AreLegalLinks}
use Rattle.thes_base.specs.State.{State}
use Rattle.thes_tables.specs.declared.rows.HierRow.{HierRow}
use Rattle.thes_tables.specs.declared.rows.PostingRow.{PostingRow}
use Rattle.thes_tables.specs.declared.rows.MoveRow.{MoveRow}
use Rattle.thes_tables.specs.Tables.{Tables, IsIn, AreDistinct, IriNumbersAscend, hier_link, hier_type, moves_of}

-- Each row of the list has the property.
abbrev pub EachRow : {A : Type 0} → (A → Type 0) → List A → Type 0
EachRow {A} P rows = (row : A) → IsIn row rows → P row

-- The rows are numbered from 1 without gaps, in the order of the list.
abbrev pub AreInOrder : {A : Type 0} → (A → ℕ) → List A → Type 0
AreInOrder {A} number rows = (n : ℕ) (row : A) → entry_at rows n ≡ Some row → number row ≡ n

-- The map of IRIs that the rows of table outside encode.
abbrev pub iris_of : List (ℕ × List ℕ) → Iris
iris_of rows = dict.from_entries rows

-- The set of labels that the rows of table label encode.
abbrev pub labels_of : List Label → Labels
labels_of rows = set.from_list rows

-- The set of links that the rows of the tables link and hier encode.
abbrev pub links_of : List Link → List HierRow → Links
links_of links hier = set.from_list (links ++ map hier_link hier)

-- The history of a posting, from its row and the rows of table move.
abbrev pub history_of : List MoveRow → PostingRow → History
history_of moves row =
    record {
      number = row.number;
      key = row.key;
      rec = row.rec;
      first = row.first;
      moves = moves_of row.number moves;
      withdrawn = row.withdrawn;
    }

-- The state that the tables encode.
abbrev pub state_of : Tables → State
state_of t =
    record {
      resources = t.resource;
      iris = iris_of t.outside;
      labels = labels_of t.label;
      links = links_of t.link t.hier;
      histories = map (history_of t.move) t.posting;
    }

-- The rule of table resource: there are fewer than 2³² resources, each is legal, and replacements form no cycle.
-- Resource number 1 is at index 0.
pub record ResourceRule (resources : List Resource) : Type 0 where
  pub few : length resources < 2 ^ 32
  pub each : (n : ℕ) (r : Resource) → entry_at resources n ≡ Some r → IsLegalResource resources n r
  -- Replacements form no cycle.
  pub no_return : (n : ℕ) → Chain (IsReplacedBy resources) n n → ⊥

-- The rule of table outside: one row for each outside concept, sorted by number. Each has an IRI of its own, which
-- doesn't begin with the base.
pub record OutsideRule (base : List ℕ) (resources : List Resource) (rows : List (ℕ × List ℕ)) : Type 0 where
  pub ascends : IriNumbersAscend 0 rows
  pub forms : EachRow (λ row. IsIri row.1) rows
  pub legal : AreLegalIris base resources (iris_of rows)

-- The rule of table label: no duplicates, tags and texts of the right forms, and labels that are legal together (SKOS
-- S13, S14).
pub record LabelRule (resources : List Resource) (rows : List Label) : Type 0 where
  pub once : AreDistinct rows
  pub forms : EachRow (λ l. IsLabelForm l.kind l.tag l.text) rows
  -- Owners are schemes, concepts or collections; S13 and S14 hold; preferred labels are unique, and each owner has one.
  pub legal : AreLegalLabels resources (labels_of rows)

-- The rule of table link: no duplicates, and legal links of the seven kinds that aren't hierarchical.
pub record LinkRule (resources : List Resource) (rows : List Link) : Type 0 where
  pub once : AreDistinct rows
  pub kinds : EachRow (λ l. hier_type l.kind ≡ None) rows
  pub each : EachRow (IsLegalLink resources) rows

-- The rule of table hier: no duplicates, and links that are legal together with those of table link (Cycle, SKOS S27,
-- S46).
pub record HierRule (resources : List Resource) (links : List Link) (rows : List HierRow) : Type 0 where
  pub once : AreDistinct rows
  pub legal : AreLegalLinks resources (links_of links rows)

-- The rule of table posting: numbers from 1 without gaps, below 2³², keys and record names of the right forms, and no
-- key twice. The first concept and the place of each posting are concepts, and the place is live unless the posting was
-- withdrawn.
pub record PostingRule (resources : List Resource) (rows : List PostingRow) : Type 0 where
  pub few : length rows < 2 ^ 32
  pub numbers : AreInOrder (λ (row : PostingRow). row.number) rows
  pub forms : EachRow (λ row. IsPostingForm row.key row.rec) rows
  -- No two rows have the same key.
  pub keys :
      (m n : ℕ) (x y : PostingRow) → entry_at rows m ≡ Some x → entry_at rows n ≡ Some y → x.key ≡ y.key → m ≡ n
  pub concepts : EachRow (λ row. IsConcept resources row.first × IsConcept resources row.place) rows
  pub live : EachRow (λ row. row.withdrawn ≡ false → is_live_concept resources row.place ≡ true) rows

-- The rule of table move: numbers from 1 without gaps, below 2³², and moves that lead each posting from its first
-- concept to its place.
pub record MoveRule (resources : List Resource) (postings : List PostingRow) (rows : List MoveRow) : Type 0 where
  pub few : length rows < 2 ^ 32
  pub numbers : AreInOrder (λ (row : MoveRow). row.number) rows
  -- The posting of each row exists, and the target is a concept other than the source.
  pub known : EachRow (λ row. (posting : PostingRow) × (entry_at postings row.posting ≡ Some posting)) rows
  pub ends : EachRow (λ row. IsConcept resources row.target × (row.source ≢ row.target)) rows
  -- The moves of a posting lead from its first concept to its place.
  pub well_formed : EachRow (λ posting. IsWellFormed (history_of rows posting)) postings
  pub places : EachRow (λ posting. place (history_of rows posting) ≡ posting.place) postings
