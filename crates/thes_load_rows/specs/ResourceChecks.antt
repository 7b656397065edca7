-- The checks of table resource, resource by resource.
use Rattle.std.specs.Prelude.{◌≡◌, ◌≢◌, ◌≤◌, ◌+◌, ℕ, List, [], ◌∷◌, ◌++◌, length, Bool, true, false, Option, Some, None}
use Rattle.thes_base.specs.declared.data.Resource.{Resource}
use Rattle.thes_base.specs.declared.data.ResourceKind.{ResourceKind}
use Rattle.thes_base.specs.declared.data.ResourceKind.TheVariants.{Scheme, Concept, Collection, Outside}
use Rattle.thes_base.specs.declared.data.Link.{Link}
use Rattle.thes_base.specs.declared.data.LinkKind.TheVariants.{Broader}
use Rattle.thes_base.specs.declared.fault.Refusal.{Refusal}
use Rattle.thes_base.specs.declared.fault.Refusal.TheVariants as no
use Rattle.thes_base.specs.Resources.{entry_at, IsScheme, IsConcept, IsReplacedBy, scheme_of, replacement_of}
use Rattle.thes_base.specs.Resources.{is_concept_kind}
use Rattle.thes_base.specs.Links.{Links, Holds, Chain}
use Rattle.thes_load_rows.specs.declared.rows.ResourceRow.{ResourceRow}

-- The result of appending a row: true if it has the next number and its resource was appended, false if it has another
-- number (then nothing is said of the list).
abbrev pub AppendResourceResult : List Resource → List Resource → ResourceRow → Bool → Type 0
AppendResourceResult old new row true = (row.number ≡ length old + 1) × (new ≡ old ++ row.resource ∷ [])
AppendResourceResult old new row false = row.number ≢ length old + 1

-- A resource of the kind may have this scheme: a scheme's number for a concept or a collection, and None for other
-- kinds.
abbrev pub SchemeFits : List Resource → ResourceKind → Option ℕ → Type 0
SchemeFits resources Scheme scheme = scheme ≡ None
SchemeFits resources Outside scheme = scheme ≡ None
SchemeFits resources Concept None = ⊥
SchemeFits resources Concept (Some m) = IsScheme resources m
SchemeFits resources Collection None = ⊥
SchemeFits resources Collection (Some m) = IsScheme resources m

-- The resource may have its replacement: there is none, or the resource is dead and is replaced by another concept of
-- its scheme.
abbrev pub ReplacementFits : List Resource → ℕ → Resource → Option ℕ → Type 0
ReplacementFits resources n r None = Unit {0}
ReplacementFits resources n r (Some m) = (r.live ≡ false) × (m ≢ n) × IsConcept resources m
    × (scheme_of resources m ≡ r.scheme)

-- The resource may have its scheme, its live flag (only a concept may be dead) and its replacement.
abbrev pub ResourceFits : List Resource → ℕ → Resource → Type 0
ResourceFits resources n r = SchemeFits resources r.kind r.scheme
    × (r.live ≡ false → is_concept_kind r.kind ≡ true) × ReplacementFits resources n r r.replaced

-- Each resource may have its scheme, its live flag and its replacement.
abbrev pub EachResourceFits : List Resource → Type 0
EachResourceFits resources = (n : ℕ) (r : Resource) → entry_at resources n ≡ Some r → ResourceFits resources n r

-- Whether the first rule that a graph of links breaks is Cycle.
abbrev pub is_cycle : Option Refusal → Bool
is_cycle (Some no.Cycle) = true
is_cycle _ = false

-- No resource has itself as its replacement.
abbrev pub NoneReplacesItself : List Resource → Type 0
NoneReplacesItself resources = (n m : ℕ) → replacement_of resources n ≡ Some m → n ≢ m

-- The flag states whether replacements form a cycle.
abbrev pub HasReplacementCycle : List Resource → Bool → Type 0
HasReplacementCycle resources true = (n : ℕ) × Chain (IsReplacedBy resources) n n
HasReplacementCycle resources false = (n : ℕ) → Chain (IsReplacedBy resources) n n → ⊥

-- The links are broader links from resources to their replacements, and include those of the first `most` resources.
pub record HasReplacements (resources : List Resource) (most : ℕ) (links : Links) : Type 0 where
  pub sound : (l : Link) → Holds links l → (l.kind ≡ Broader) × IsReplacedBy resources l.a l.b
  pub complete : (m n : ℕ) → m ≤ most → IsReplacedBy resources m n
      → Holds links (record { kind = Broader; a = m; b = n })
