-- The changes of rows that each accepted request makes.
use Rattle.std.specs.Prelude.{ℕ, List, [], ◌∷◌, ◌+◌, ◌++◌, map, Bool, Some, None, if◌then◌else◌}
use Rattle.std.specs.declared.cmp.Ordering.{Ordering}
use Rattle.std.specs.FinSet as set
use Rattle.std.specs.FinSet.{FinSet}
use Rattle.thes_base.specs.declared.data.Link.{Link}
use Rattle.thes_base.specs.declared.data.Resource.{Resource}
use Rattle.thes_base.specs.declared.data.History.{History}
use Rattle.thes_base.specs.declared.data.Move.{Move}
use Rattle.thes_base.specs.declared.data.LabelKind.TheVariants.{Pref, Alt}
use Rattle.thes_base.specs.declared.request.Command.{Command}
use Rattle.thes_base.specs.declared.request.Command.TheVariants as request
use Rattle.thes_base.specs.Resources.{scheme_of, is_outside, replacements}
use Rattle.thes_base.specs.Labels.{Labels, preferred_label_in}
use Rattle.thes_base.specs.Links.{Links, normal_form, links_after_deprecation, links_after_merge}
use Rattle.thes_base.specs.Postings.{place, is_assigned_to, move_count}
use Rattle.thes_base.specs.State.{State}
use Rattle.thes_base.specs.Changes.{label, next_number, scheme_resource, concept_resource, collection_resource}
use Rattle.thes_base.specs.Changes.{outside_resource, copied_labels, is_listed, new_history}
use Rattle.thes_base.specs.Machine.{owned_label, link}
use Rattle.thes_tables.specs.declared.rows.HierRow.{HierRow}
use Rattle.thes_tables.specs.declared.rows.HierType.{HierType}
use Rattle.thes_tables.specs.declared.rows.MoveRow.{MoveRow}
use Rattle.thes_tables.specs.Tables.{hier_type, posting_row}
use Rattle.thes_tables.specs.declared.change.Change.{Change}
use Rattle.thes_tables.specs.declared.change.Change.TheVariants as change

-- The new rows of table move for the postings that pass the test, in the order of the list and numbered from `number`
-- on. Each row encodes a move of a posting from its place to the target.
abbrev pub new_moves : (History → Bool) → ℕ → ℕ → List History → List MoveRow
new_moves passes target number [] = []
new_moves passes target number (h ∷ hs) =
    let move : MoveRow = record { number = number; posting = h.number; source = place h; target = target } in
    if passes h then move ∷ new_moves passes target (number + 1) hs else new_moves passes target number hs

-- The row of table move for a move of the posting.
abbrev pub move_row : ℕ → Move → MoveRow
move_row posting m = record { number = m.number; posting = posting; source = m.source; target = m.target }

-- The changes that insert a resource under the next number, with its preferred label.
abbrev pub changes_of_new_resource : Resource → List ℕ → List ℕ → State → List Change
changes_of_new_resource resource tag text s = change.AddResource (next_number s) resource
    ∷ change.AddLabel (label (next_number s) Pref tag text) ∷ []

-- The set without the elements of the list.
abbrev pub without_elements : {K : Type 0} → {R : K → K → Ordering} → List K → FinSet R → FinSet R
without_elements [] s = s
without_elements (k ∷ ks) s = without_elements ks (set.remove s k)

-- The elements of the list that the set lacks, each once.
abbrev pub missing_items : {K : Type 0} → {R : K → K → Ordering} → FinSet R → List K → List K
missing_items s [] = []
missing_items s (k ∷ ks) = if set.contains s k then missing_items s ks else k ∷ missing_items (set.insert s k) ks

-- The row of table hier for a link of a hierarchical kind of this type.
abbrev pub hier_row : HierType → Link → HierRow
hier_row typ l = record { a = l.a; b = l.b; typ = typ }

-- The insertion of a link into the table for its kind.
abbrev pub add_link : Link → Change
add_link l = elim (hier_type l.kind) [ None ↦ change.AddLink l | Some typ ↦ change.AddHier (hier_row typ l) ]

-- The deletion of a link from the table for its kind.
abbrev pub drop_link : Link → Change
drop_link l = elim (hier_type l.kind) [ None ↦ change.DropLink l | Some typ ↦ change.DropHier (hier_row typ l) ]

-- The links of the old set that the new set lacks, each once.
abbrev pub links_to_remove : Links → Links → List Link
links_to_remove old new = missing_items new (set.items old)

-- The changes that turn the old set of links into the new one: first deletions, then insertions.
abbrev pub link_changes : Links → Links → List Change
link_changes old new =
    map drop_link (links_to_remove old new)
    ++ map add_link (missing_items (without_elements (links_to_remove old new) old) (set.items new))

-- The changes of a relabelling: a new preferred label replaces the old one, whose text is inserted as an alternative
-- label if `keep` is set. There are no changes if the owner has no preferred label in the tag.
abbrev pub changes_of_relabel : ℕ → List ℕ → List ℕ → Bool → Labels → List Change
changes_of_relabel owner tag text keep labels =
    elim (preferred_label_in labels owner tag) [
      | None ↦ []
      | Some old ↦
          change.DropLabel (label owner Pref tag old) ∷ change.AddLabel (label owner Pref tag text)
          ∷ (if keep then change.AddLabel (label owner Alt tag old) ∷ [] else [])
    ]

-- The changes of a request that is accepted in the state, in the order in which they are applied.
abbrev pub changes_of : Command → State → List Change
changes_of (request.Scheme tag text) s = changes_of_new_resource scheme_resource tag text s
changes_of (request.Concept scheme tag text) s = changes_of_new_resource (concept_resource (Some scheme)) tag text s
changes_of (request.Collection scheme tag text) s = changes_of_new_resource (collection_resource scheme) tag text s
changes_of (request.Outside iri) s = change.AddResource (next_number s) outside_resource
    ∷ change.AddOutside (next_number s) iri ∷ []
changes_of (request.AddLabel owner l) s = change.AddLabel (owned_label owner l) ∷ []
changes_of (request.DropLabel owner l) s = change.DropLabel (owned_label owner l) ∷ []
changes_of (request.Relabel owner tag text keep) s = changes_of_relabel owner tag text keep s.labels
changes_of (request.Link kind a b) s = add_link (normal_form (is_outside s.resources) (link kind a b)) ∷ []
changes_of (request.Unlink kind a b) s = drop_link (normal_form (is_outside s.resources) (link kind a b)) ∷ []
changes_of (request.Deprecate concept) s = change.Retire concept
    ∷ link_changes s.links (links_after_deprecation concept s.links)
changes_of (request.Merge source target) s =
    let taken = set.items (copied_labels source target s.labels) in
    let moves = new_moves (is_assigned_to source) target (move_count s.histories + 1) s.histories in
    change.Replace source target ∷ map change.AddLabel (missing_items s.labels taken)
    ++ link_changes s.links (links_after_merge (is_outside s.resources) source target s.links)
    ++ change.MoveAll source target ∷ map change.AddMove moves
changes_of (request.Split source tag text postings) s =
    let moves = new_moves (is_listed postings) (next_number s) (move_count s.histories + 1) s.histories in
    changes_of_new_resource (concept_resource (scheme_of s.resources source)) tag text s
    ++ map (λ (m : MoveRow). change.SetPlace m.posting m.target) moves
    ++ map change.AddMove moves
changes_of (request.Post key rec concept) s =
    let h = new_history key rec concept (replacements s.resources concept) s.histories in
    change.AddPosting (posting_row h) ∷ map change.AddMove (map (move_row h.number) h.moves)
changes_of (request.Withdraw posting) s = change.Withdraw posting ∷ []
