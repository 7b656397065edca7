-- The law of row changes: the changes of an accepted request turn the rows of the state before it into those of the
-- next state.
use Rattle.std.proofs.lemmas.Grind.{common_steps}
use Rattle.std.proofs.Common.{◌≡◌, ◌≢◌, ◌<◌, ◌≤◌, inl, inr, ℕ, suc, ◌+◌, ◌-◌, length, List, [], ◌∷◌, ◌++◌, refl, sym}
use Rattle.std.proofs.Common.{ap, ◌∙◌, subst, arith, true, false, Bool, cond, map, append_assoc}
use Rattle.std.proofs.lemmas.List.{map-append, append-nil, map-set}
use Rattle.std.specs.Prelude.{Some, None, Option, slice_get, if◌then◌else◌}
use Rattle.std.specs.Ordering.{nat_cmp, eq_by_cmp}
use Rattle.std.specs.Cmp.{nat_cmp_total}
use Rattle.std.specs.FinSet as set
use Rattle.std.specs.FinSet.{nat_cmp-IsAntisymmetric}
use Rattle.std.specs.FinMap as dict
use Rattle.thes_base.specs.declared.data.Resource.{Resource}
use Rattle.thes_base.specs.declared.data.History.{History}
use Rattle.thes_base.specs.declared.data.Link.{Link}
use Rattle.thes_base.specs.declared.data.LabelKind.TheVariants.{Pref, Alt}
use Rattle.thes_base.specs.declared.request.Command.{Command}
use Rattle.thes_base.specs.declared.request.Command.TheVariants as request
use Rattle.thes_base.specs.Resources.{entry_at, set_entry_at, scheme_of, replacements, is_outside, IsLive}
use Rattle.thes_base.specs.Labels.{Label, Labels, label_cmp, preferred_label_in, HasLabel}
use Rattle.thes_base.specs.Links.{Links, normal_form, links_after_deprecation, links_after_merge, Holds}
use Rattle.thes_base.specs.Postings.{is_assigned_to, move_count, history_after_withdrawal}
use Rattle.thes_base.specs.State.{State}
use Rattle.thes_base.specs.Legal.{IsLegalState}
use Rattle.thes_base.specs.Refusals.{Setting, IsOfKey}
use Rattle.thes_base.specs.Changes.{label, state_after_creation, state_after_outside, outside_resource}
use Rattle.thes_base.specs.Changes.{state_after_add_label, state_after_drop_label, state_after_relabel}
use Rattle.thes_base.specs.Changes.{replace_preferred, state_after_deprecation, state_after_merge, state_after_split}
use Rattle.thes_base.specs.Changes.{new_history, state_after_post, state_after_withdrawal, resources_after_death}
use Rattle.thes_base.specs.Changes.{next_number, concept_resource, copied_labels, is_listed}
use Rattle.thes_base.specs.Machine.{HasNewKey, owned_label, link, next_state, refusal_rule_of}
use Rattle.thes_base.proofs.LabelSetLemmas.{labels_total, labels_exact}
use Rattle.thes_base.proofs.LinkSetLemmas.{links_total}
use Rattle.thes_base.proofs.LinkSetLemmas as links
use Rattle.thes_base.proofs.NumberedLemmas.{numbered_bound}
use Rattle.thes_base.proofs.LegalPostingLemmas.{withdrawn_at}
use Rattle.thes_base.proofs.PreferredLemmas.{preferred_found}
use Rattle.thes_base.proofs.RefusalRuleLemmas.{passed_unless, passed_if}
use Rattle.thes_tables.specs.declared.rows.PostingRow.{PostingRow}
use Rattle.thes_tables.specs.declared.rows.MoveRow.{MoveRow}
use Rattle.thes_tables.specs.declared.change.Change.{Change}
use Rattle.thes_tables.specs.declared.change.Change.TheVariants as change
use Rattle.thes_tables.specs.Tables.{Tables, IsRowsOf, IsIn, IsUnsortedListing, IsLabelOf, AreIris, AreMoves}
use Rattle.thes_tables.specs.Tables.{IriNumbersAscend, MoveNumbersAscend, posting_row}
use Rattle.thes_tables.specs.Rows.{tables_after_change, tables_after_delta, DeltaFits, without_row, with_posting}
use Rattle.thes_tables.specs.Rows.{row_after_withdrawal, row_at_place, row_after_move_all}
use Rattle.thes_tables.specs.Changes.{changes_of, changes_of_new_resource, changes_of_relabel, new_moves, move_row}
use Rattle.thes_tables.specs.Changes.{add_link, drop_link, missing_items, without_elements, links_to_remove}
use Rattle.thes_tables.specs.ChangeLaw.{AreChangesBetween}
use Rattle.std.proofs.lemmas.Bool.{cases_Bool, not-true}
use Rattle.thes_base.proofs.SetMemberLemmas.{inserted_cases, removed_cases}
use Rattle.thes_base.proofs.ListedLemmas.{NumberedFrom, numbered_from}
use Rattle.thes_tables.proofs.RowSetLemmas.{in_append, clash, absent_of_never, set_with_list, inserted_union}
use Rattle.thes_tables.proofs.RowSetLemmas.{coming_same, coming_absent, Absent, row_new, listed_push, listed_drop}
use Rattle.thes_tables.proofs.RowSetLemmas.{listed_all, Present}
use Rattle.thes_tables.proofs.DeltaAppendLemmas.{all_append, fit_append}
use Rattle.thes_tables.proofs.LinkRowLemmas.{LinkRows, link_rows_of_tables, with_link_tables, added_only}
use Rattle.thes_tables.proofs.LinkRowLemmas.{dropped_only, link_in, link_out, link_fits, drop_fits, drops_then_adds}
use Rattle.thes_tables.proofs.LinkRowLemmas.{drops_then_adds_only, drops_then_adds_rows, drops_then_adds_fit}
use Rattle.thes_tables.proofs.LinkRowLemmas.{links_to_add, links_to_add_absent, links_to_add_suffice}
use Rattle.thes_tables.proofs.LinkRowLemmas.{links_to_remove_present}
use Rattle.thes_tables.proofs.MoveRowLemmas.{number_within_count, rises_new, rises_along, moves_more, moves_posted}
use Rattle.thes_tables.proofs.MoveRowLemmas.{moves_set, map_numbered, with_at, rows_moved, placed_all, rows_placed}

ascends_push : (above : ℕ) (rows : List (ℕ × List ℕ)) (row : ℕ × List ℕ) → IriNumbersAscend above rows → above < row.0
    → ((other : ℕ × List ℕ) → IsIn other rows → other.0 < row.0) → IriNumbersAscend above (rows ++ row ∷ [])
ascends_push above [] row up lt below = (lt, tt)
ascends_push above (r ∷ rows) row up lt below =
    (up.0, ascends_push r.0 rows row up.1 (below r (inl refl)) (λ other h. below other (inr h)))

-- A look-up by number in the rows of table outside finds an IRI for each row.
found_row : (rows : List (ℕ × List ℕ)) (row : ℕ × List ℕ) → IsIn row rows → (iri : List ℕ)
    × (dict.find nat_cmp row.0 rows ≡ Some iri)
found_row [] row h = absurd h
found_row (r ∷ rows) row h = elim (cases_Bool (eq_by_cmp nat_cmp row.0 r.0)) [
  | inl tie ↦ (r.1, ap (λ b. cond b (Some r.1) (dict.find nat_cmp row.0 rows)) tie)
  | inr apart ↦ grind (arith, common_steps, clash, found_row rows row)
]

labels_added_all : (ls : List Label) (t : Tables) → tables_after_delta (map change.AddLabel ls) t
    ≡ record t { label = t.label ++ ls }
labels_added_all [] t = ap (λ l. record t { label = l }) (sym (append-nil t.label))
labels_added_all (r ∷ rows) t = labels_added_all rows (record t { label = t.label ++ r ∷ [] })
    ∙ ap (λ l. record t { label = l }) (append_assoc t.label (r ∷ []) rows)

moves_added_all : (rows : List MoveRow) (t : Tables) → tables_after_delta (map change.AddMove rows) t
    ≡ record t { move = t.move ++ rows }
moves_added_all [] t = ap (λ l. record t { move = l }) (sym (append-nil t.move))
moves_added_all (r ∷ rows) t = moves_added_all rows (record t { move = t.move ++ r ∷ [] })
    ∙ ap (λ l. record t { move = l }) (append_assoc t.move (r ∷ []) rows)

abbrev set_place : MoveRow → Change
set_place m = change.SetPlace m.posting m.target

places_set_all : (rows : List MoveRow) (t : Tables) → tables_after_delta (map set_place rows) t
    ≡ record t { posting = placed_all rows t.posting }
places_set_all [] t = refl
places_set_all (r ∷ rows) t =
    places_set_all rows (record t { posting = with_posting (row_at_place r.target) r.posting t.posting })

fit_labels : (ls : List Label) (labels : Labels) (t : Tables) → IsUnsortedListing (IsLabelOf labels) t.label
    → Absent labels_total labels_exact ls labels → DeltaFits (map change.AddLabel ls) t
fit_labels [] labels t are a = tt
fit_labels (l ∷ ls) labels t are a = (
  row_new labels_total labels_exact labels t.label l are a.0,
  fit_labels ls (set.insert labels l) (record t { label = t.label ++ l ∷ [] })
      (listed_push labels_total labels_exact labels t.label l are a.0) a.1,
)

fit_places : (rows : List MoveRow) (t : Tables) → DeltaFits (map set_place rows) t
fit_places [] t = tt
fit_places (r ∷ rows) t =
    (tt, fit_places rows (record t { posting = with_posting (row_at_place r.target) r.posting t.posting }))

-- Rows can be inserted into table move if their numbers rise, and are above those of all rows that it has.
fit_moves : (bound : ℕ) (rows : List MoveRow) (t : Tables) → ((row : MoveRow) → IsIn row t.move → row.number ≤ bound)
    → MoveNumbersAscend bound rows → DeltaFits (map change.AddMove rows) t
fit_moves bound [] t below rises = tt
fit_moves bound (row ∷ rows) t below rises = (
  λ other m. (let b = below other m in let lt = rises.0 in omega (arith, b, lt)),
  fit_moves row.number rows (record t { move = t.move ++ row ∷ [] }) more rises.1,
)
  where
    more : (other : MoveRow) → IsIn other (t.move ++ row ∷ []) → other.number ≤ row.number
    more other m = elim (in_append other t.move (row ∷ []) m) [
      | inl old ↦ (let b = below other old in let lt = rises.0 in omega (arith, b, lt))
      | inr new ↦ elim new [
        | inl e ↦ (let q = ap (λ (r : MoveRow). r.number) e in omega (arith, q))
        | inr never ↦ absurd never
      ]
    ]

-- Replacing the histories of a state changes only the tables posting and move.
with_histories : (base : List ℕ) (s : State) (t : Tables) → IsRowsOf base s t
    → (hs : List History) (posting : List PostingRow) (move : List MoveRow) → posting ≡ map posting_row hs
    → AreMoves hs move → IsRowsOf base (record s { histories = hs }) (record t { posting = posting; move = move })
with_histories base s t is hs posting move same moves = grind (arith, common_steps)

module _ (base : List ℕ) (s : State) (legal : IsLegalState base s) where
  number_free : (l : Label) → l.owner ≡ next_number s → set.contains s.labels l ≡ false
  number_free l own = grind (arith, common_steps, absent_of_never, labels_total, labels_exact, numbered_bound)

  -- The death of a resource changes only its row in table resource.
  dead_rows : (n : ℕ) (by : Option ℕ) (t : Tables) → IsRowsOf base s t
      → IsRowsOf base (record s { resources = resources_after_death n by s.resources })
      (record t { resource = resources_after_death n by t.resource })
  dead_rows n by t is = grind (arith, common_steps)

  -- The changes of a new scheme, concept or collection lead to the state after its creation.
  pub leads_new_resource : (r : Resource) (tag text : List ℕ) → AreChangesBetween base
      (changes_of_new_resource r tag text s) s (state_after_creation r tag text s)
  leads_new_resource r tag text = record {
    rows = λ t is. grind (
      arith,
      common_steps,
      listed_push labels_total labels_exact s.labels t.label (label (next_number s) Pref tag text) is.label
          (number_free (label (next_number s) Pref tag text) refl),
    );
    fit = λ t is. (
      ap (λ (l : List Resource). length l + 1) (sym is.resource),
      (
        row_new labels_total labels_exact s.labels t.label (label (next_number s) Pref tag text) is.label
            (number_free (label (next_number s) Pref tag text) refl),
        tt,
      ),
    );
  }

  -- The changes of a new outside concept lead to the state after its creation.
  pub leads_outside : (iri : List ℕ) → AreChangesBetween base (change.AddResource (next_number s) outside_resource
      ∷ change.AddOutside (next_number s) iri ∷ []) s (state_after_outside iri s)
  leads_outside iri = record {
    rows = λ t is. record {
      base_is = is.base_is;
      resource = ap (λ l. l ++ outside_resource ∷ []) is.resource;
      outside = record {
        same = dict.from_entries_push nat_cmp_total nat_cmp-IsAntisymmetric t.outside (next_number s) iri
            (sym (dict.get-from_entries nat_cmp_total t.outside (next_number s))
            ∙ ap (λ m. dict.get m (next_number s)) is.outside.same ∙ free (dict.get s.iris (next_number s)) refl)
            ∙ ap (λ m. dict.insert m (next_number s) iri) is.outside.same;
        ascends = ascends_push 0 t.outside (next_number s, iri) is.outside.ascends (omega arith) (below t is.outside);
      };
      label = is.label;
      link = is.link;
      hier = is.hier;
      posting = is.posting;
      move = is.move;
    };
    fit = λ t is. (ap (λ (l : List Resource). length l + 1) (sym is.resource), (below t is.outside, tt));
  }
    where
      free : (o : Option (List ℕ)) → dict.get s.iris (next_number s) ≡ o → o ≡ None
      free None e = refl
      free (Some x) e = let out = legal.resources.outside.only (next_number s) x e in let b =
          numbered_bound s.resources (next_number s) out.0 out.1 in absurd (omega (arith, b))

      below : (t : Tables) → AreIris s.iris t.outside → (other : ℕ × List ℕ) → IsIn other t.outside → other.0
          < next_number s
      below t are other h =
          let f = found_row t.outside other h in
          let at : dict.get s.iris other.0 ≡ Some f.0 = ap (λ m. dict.get m other.0) (sym are.same)
          ∙ dict.get-from_entries nat_cmp_total t.outside other.0 ∙ f.1 in
          let out = legal.resources.outside.only other.0 f.0 at in
          let b = numbered_bound s.resources other.0 out.0 out.1 in
          omega (arith, b)

  with_labels : (changes : List Change) (labels : Labels) (f : List Label → List Label)
      → ((t : Tables) → tables_after_delta changes t ≡ record t { label = f t.label })
      → ((t : Tables) → IsUnsortedListing (IsLabelOf s.labels) t.label → IsUnsortedListing (IsLabelOf labels)
      (f t.label))
      → ((t : Tables) → IsUnsortedListing (IsLabelOf s.labels) t.label → DeltaFits changes t) → AreChangesBetween base
      changes s (record s { labels = labels })
  with_labels changes labels f is_done lists fits = grind (arith, common_steps)

  -- Replacing the links of a state changes only the tables link and hier.
  relinked_rows : (z : State) (t u : Tables) (held : Links) → IsRowsOf base z t → u ≡ with_link_tables t u
      → LinkRows held u → IsRowsOf base (record z { links = held }) u
  relinked_rows z t u held is only rows = grind (arith, common_steps)

  pub leads_label : (l : Label) → (¬ (set.contains s.labels l ≡ true)) → AreChangesBetween base
      (change.AddLabel l ∷ []) s (state_after_add_label l s)
  leads_label l new = let out = absent_of_never labels_total labels_exact s.labels l new in
      with_labels _ _ (λ ls. ls ++ l ∷ []) (λ t. refl) (λ t are. listed_push labels_total labels_exact s.labels
      t.label l are out) (λ t are. (row_new labels_total labels_exact s.labels t.label l are out, tt))

  pub leads_drop : (l : Label) → set.contains s.labels l ≡ true → AreChangesBetween base (change.DropLabel l ∷ []) s
      (state_after_drop_label l s)
  leads_drop l has = with_labels _ _ (λ ls. without_row label_cmp l ls) (λ t. refl)
      (λ t are. listed_drop labels_total labels_exact s.labels t.label l are) (λ t are. (are.complete l has, tt))

  pub leads_link : (l : Link) → (¬ Holds s.links l) → AreChangesBetween base (add_link l ∷ []) s
      (record s { links = set.insert s.links l })
  leads_link l new = let out = absent_of_never links_total links.links_exact s.links l new in record {
    rows = λ t is. relinked_rows s t (tables_after_change (add_link l) t) (set.insert s.links l) is (added_only l t)
        (link_in l s.links t out (link_rows_of_tables is));
    fit = λ t is. (link_fits l s.links t out (link_rows_of_tables is), tt);
  }

  pub leads_unlink : (l : Link) → Holds s.links l → AreChangesBetween base (drop_link l ∷ []) s
      (record s { links = set.remove s.links l })
  leads_unlink l held = record {
    rows = λ t is. relinked_rows s t (tables_after_change (drop_link l) t) (set.remove s.links l) is
        (dropped_only l t) (link_out l s.links t (link_rows_of_tables is));
    fit = λ t is. (drop_fits l s.links t held (link_rows_of_tables is), tt);
  }

  -- Assumes a relabelling, which replaces one preferred label by another.
  module _ (owner : ℕ) (tag text : List ℕ) (keep : Bool) where
    -- Once the old preferred label is removed, the new one is not among the labels: the owner has no other preferred
    -- label in the tag (SKOS S14).
    preferred_free : (old : List ℕ) → HasLabel s.labels owner Pref tag old
        → set.contains (set.remove s.labels (label owner Pref tag old)) (label owner Pref tag text) ≡ false
    preferred_free old has = absent_of_never labels_total labels_exact _ _ (λ h.
        let c = removed_cases labels_total labels_exact s.labels (label owner Pref tag old)
        (label owner Pref tag text) h in
        c.0 (ap (label owner Pref tag) (legal.labels.one_preferred owner tag text old c.1 has)))

    -- The old text is not among the alternative labels of the owner, since it is a preferred label (SKOS S13).
    kept_free : (old : List ℕ) → HasLabel s.labels owner Pref tag old
        → set.contains (set.insert (set.remove s.labels (label owner Pref tag old)) (label owner Pref tag text))
        (label owner Alt tag old) ≡ false
    kept_free old has = absent_of_never labels_total labels_exact _ _
        (λ h. elim (inserted_cases labels_total labels_exact _ (label owner Pref tag text) (label owner Alt tag old)
        h) [
          | inl e ↦ other (ap (λ (l : Label). l.kind) e)
          | inr left ↦ let c = removed_cases labels_total labels_exact s.labels (label owner Pref tag old)
              (label owner Alt tag old) left in other (legal.labels.disjoint owner Alt Pref tag old refl refl c.1 has)
        ])
      where
        other : Alt ≡ Pref → ⊥
        other e = cc

    abbrev renamed_changes : List ℕ → Bool → List Change
    renamed_changes old k = change.DropLabel (label owner Pref tag old) ∷ change.AddLabel (label owner Pref tag text)
        ∷ (if k then change.AddLabel (label owner Alt tag old) ∷ [] else [])

    abbrev renamed_rows : List ℕ → Bool → List Label → List Label
    renamed_rows old true rows = (without_row label_cmp (label owner Pref tag old) rows ++ label owner Pref tag text
        ∷ []) ++ label owner Alt tag old ∷ []
    renamed_rows old false rows = without_row label_cmp (label owner Pref tag old) rows ++ label owner Pref tag text
        ∷ []

    renamed_done : (old : List ℕ) (k : Bool) (t : Tables) → tables_after_delta (renamed_changes old k) t
        ≡ record t { label = renamed_rows old k t.label }
    renamed_done old true t = refl
    renamed_done old false t = refl

    one_more : (old : List ℕ) → HasLabel s.labels owner Pref tag old → (rows : List Label)
        → IsUnsortedListing (IsLabelOf s.labels) rows → IsUnsortedListing
        (IsLabelOf (set.insert (set.remove s.labels (label owner Pref tag old)) (label owner Pref tag text)))
        (without_row label_cmp (label owner Pref tag old) rows ++ label owner Pref tag text ∷ [])
    one_more old has rows are = listed_push labels_total labels_exact _ _ (label owner Pref tag text)
        (listed_drop labels_total labels_exact s.labels rows (label owner Pref tag old) are) (preferred_free old has)

    renamed_listed : (old : List ℕ) → HasLabel s.labels owner Pref tag old → (k : Bool) (rows : List Label)
        → IsUnsortedListing (IsLabelOf s.labels) rows
        → IsUnsortedListing (IsLabelOf (replace_preferred owner tag text k old s.labels)) (renamed_rows old k rows)
    renamed_listed old has true rows are = listed_push labels_total labels_exact _ _ (label owner Alt tag old)
        (one_more old has rows are) (kept_free old has)
    renamed_listed old has false rows are = one_more old has rows are

    renamed_fits : (old : List ℕ) → HasLabel s.labels owner Pref tag old → (k : Bool) (t : Tables)
        → IsUnsortedListing (IsLabelOf s.labels) t.label → DeltaFits (renamed_changes old k) t
    renamed_fits old has k t are = grind (
      arith,
      common_steps,
      row_new,
      labels_total,
      labels_exact,
      are.complete (label owner Pref tag old) has,
      listed_drop labels_total labels_exact s.labels t.label (label owner Pref tag old) are,
      preferred_free old has,
      one_more old has t.label are,
      kept_free old has,
    )

    pub leads_relabel : AreChangesBetween base (changes_of_relabel owner tag text keep s.labels) s
        (state_after_relabel owner tag text keep s)
    leads_relabel = go (preferred_label_in s.labels owner tag) refl
      where
        go : (o : Option (List ℕ)) → preferred_label_in s.labels owner tag ≡ o → AreChangesBetween base
            (elim o [ None ↦ [] | Some old ↦ renamed_changes old keep ]) s (record s
            { labels = elim o [ None ↦ s.labels | Some old ↦ replace_preferred owner tag text keep old s.labels ] })
        go None e = record { rows = λ t is. is; fit = λ t is. tt }
        go (Some old) e = let has = preferred_found s.labels owner tag old e in with_labels (renamed_changes old keep)
            _ (renamed_rows old keep) (renamed_done old keep) (λ t are. renamed_listed old has keep t.label are)
            (renamed_fits old has keep)

  -- Assumes a deprecation, and the lists of links that it deletes and inserts.
  module _ (concept : ℕ) (live : IsLive s.resources concept) (go come : List Link)
      (present_all : Present links_total links.links_exact go s.links)
      (absent_all : Absent links_total links.links_exact come (without_elements go s.links)) (same : set_with_list links_total links.links_exact come
      (without_elements go s.links) ≡ links_after_deprecation concept s.links) where
    pub leads_deprecate : AreChangesBetween base (change.Retire concept ∷ drops_then_adds go come) s
        (state_after_deprecation concept s)
    leads_deprecate = record {
      rows = λ t is.
          let u : Tables = retired t in
          relinked_rows (record s { resources = resources_after_death concept None s.resources }) u _
          (links_after_deprecation concept s.links) (dead_rows concept None t is)
          (drops_then_adds_only s.links (links_after_deprecation concept s.links) go come absent_all same u)
          (drops_then_adds_rows s.links (links_after_deprecation concept s.links) go come absent_all same u
          (link_rows_of_tables (dead_rows concept None t is)));
      fit = λ t is. (
        subst (λ rs. IsLive rs concept) (sym is.resource) live,
        drops_then_adds_fit s.links (links_after_deprecation concept s.links) go come absent_all same
            (retired t) present_all (link_rows_of_tables (dead_rows concept None t is)),
      );
    }
      where
        retired : Tables → Tables
        retired t = record t { resource = resources_after_death concept None t.resource }

  abbrev first_move : ℕ
  first_move = move_count s.histories + 1

  -- Assumes a merge, and the lists of labels that it inserts, and of links that it deletes and inserts.
  module _ (source target : ℕ) (live : IsLive s.resources source) (taken : List Label) (taken_absent : Absent labels_total labels_exact taken s.labels)
      (taken_same : set_with_list labels_total labels_exact taken s.labels
      ≡ set.union s.labels (copied_labels source target s.labels))
      (go come : List Link) (present_all : Present links_total links.links_exact go s.links)
      (absent_all : Absent links_total links.links_exact come (without_elements go s.links))
      (same : set_with_list links_total links.links_exact come (without_elements go s.links)
      ≡ links_after_merge (is_outside s.resources) source target s.links) where
    pub leads_merge : AreChangesBetween base (change.Replace source target ∷ map change.AddLabel taken
        ++ drops_then_adds go come ++ change.MoveAll source target
        ∷ map change.AddMove (new_moves (is_assigned_to source) target first_move s.histories)) s
        (state_after_merge source target s)
    leads_merge = record {
      rows = λ t is. subst (IsRowsOf base (state_after_merge source target s)) (sym (done t)) (moved_rows t is);
      fit = λ t is. fit_append head tail t
          (fit_append (change.Replace source target ∷ adds) turns t (
            subst (λ rs. IsLive rs source) (sym is.resource) live,
            fit_labels taken s.labels (dead t) is.label taken_absent,
          )
          (subst (DeltaFits turns) (sym (labels_added_all taken (dead t)))
          (drops_then_adds_fit s.links links_after go come absent_all same (labelled t) present_all
          (link_rows_of_tables (labelled_rows t is))))) (subst (DeltaFits tail) (sym (head_done t)) (
            tt,
            fit_moves (move_count s.histories) rows
                (record (linked t) { posting = map (row_after_move_all source target) (linked t).posting })
                (number_within_count s.resources s.histories legal.postings (linked t).move (linked_rows t is).move)
                (rises_new (is_assigned_to source) target first_move (move_count s.histories) s.histories
                (omega arith)),
          ));
    }
      where
        links_after : Links
        links_after = links_after_merge (is_outside s.resources) source target s.links

        adds : List Change
        adds = map change.AddLabel taken

        turns : List Change
        turns = drops_then_adds go come

        head : List Change
        head = change.Replace source target ∷ adds ++ turns

        rows : List MoveRow
        rows = new_moves (is_assigned_to source) target first_move s.histories

        tail : List Change
        tail = change.MoveAll source target ∷ map change.AddMove rows

        dead : Tables → Tables
        dead t = record t { resource = resources_after_death source (Some target) t.resource }

        labelled : Tables → Tables
        labelled t = record (dead t) { label = t.label ++ taken }

        linked : Tables → Tables
        linked t = tables_after_delta turns (labelled t)

        state_labelled : State
        state_labelled = record s {
          resources = resources_after_death source (Some target) s.resources;
          labels = set.union s.labels (copied_labels source target s.labels);
        }

        labelled_rows : (t : Tables) → IsRowsOf base s t → IsRowsOf base state_labelled (labelled t)
        labelled_rows t is = let d = dead_rows source (Some target) t is in grind (
          arith,
          common_steps,
          listed_all labels_total labels_exact taken s.labels t.label is.label taken_absent,
        )

        linked_rows : (t : Tables) → IsRowsOf base s t → IsRowsOf base (record state_labelled { links = links_after })
            (linked t)
        linked_rows t is = relinked_rows state_labelled (labelled t) (linked t) links_after (labelled_rows t is)
            (drops_then_adds_only s.links links_after go come absent_all same (labelled t))
            (drops_then_adds_rows s.links links_after go come absent_all same (labelled t)
            (link_rows_of_tables (labelled_rows t is)))

        moved_rows : (t : Tables) → IsRowsOf base s t → IsRowsOf base (state_after_merge source target s)
            (record (linked t) {
              posting = map (row_after_move_all source target) (linked t).posting;
              move = (linked t).move ++ rows;
            })
        moved_rows t is =
            let l = linked_rows t is in
            with_histories base (record state_labelled { links = links_after }) (linked t) l
            (state_after_merge source target s).histories
            (map (row_after_move_all source target) (linked t).posting) ((linked t).move ++ rows)
            (ap (map (row_after_move_all source target)) l.posting ∙ rows_moved source target first_move s.histories)
            (moves_more s.resources s.histories legal.postings (is_assigned_to source) target (linked t).move l.move)

        head_done : (t : Tables) → tables_after_delta head t ≡ linked t
        head_done t = all_append adds turns (dead t) ∙ ap (tables_after_delta turns) (labels_added_all taken (dead t))

        done : (t : Tables) → tables_after_delta (head ++ tail) t ≡ record (linked t) {
          posting = map (row_after_move_all source target) (linked t).posting;
          move = (linked t).move ++ rows;
        }
        done t = all_append head tail t ∙ ap (tables_after_delta tail) (head_done t) ∙ moves_added_all rows
            (record (linked t) { posting = map (row_after_move_all source target) (linked t).posting })

  numbers : NumberedFrom 1 s.histories
  numbers = numbered_from 1 s.histories (λ i h e. let n = (legal.postings.sound (suc i) h e).number in omega (arith, n))

  -- The changes of a split lead to the state after it.
  pub leads_split : (source : ℕ) (tag text : List ℕ) (postings : List ℕ) → AreChangesBetween base
      (changes_of (request.Split source tag text postings) s) s (state_after_split source tag text postings s)
  leads_split source tag text postings = record {
    rows = λ t is. subst (IsRowsOf base (state_after_split source tag text postings s)) (sym (done t))
        (with_histories base (state_after_creation new tag text s) (with_new t)
        ((leads_new_resource new tag text).rows t is) (state_after_split source tag text postings s).histories
        (placed_all rows t.posting) (t.move ++ rows)
        (ap (placed_all rows) is.posting ∙ rows_placed (is_listed postings) (next_number s) first_move [] s.histories
        numbers)
        (moves_more s.resources s.histories legal.postings (is_listed postings) (next_number s) t.move is.move));
    fit = λ t is. fit_append (makes ++ sets) moves t
        (fit_append makes sets t ((leads_new_resource new tag text).fit t is)
        (fit_places rows (tables_after_delta makes t)))
        (subst (DeltaFits moves) (sym (places_set_all rows (with_new t)))
        (fit_moves (move_count s.histories) rows (record (with_new t) { posting = placed_all rows t.posting })
        (number_within_count s.resources s.histories legal.postings t.move is.move)
        (rises_new (is_listed postings) (next_number s) first_move (move_count s.histories) s.histories
        (omega arith))));
  }
    where
      new : Resource
      new = concept_resource (scheme_of s.resources source)

      rows : List MoveRow
      rows = new_moves (is_listed postings) (next_number s) first_move s.histories

      makes : List Change
      makes = changes_of_new_resource new tag text s

      sets : List Change
      sets = map set_place rows

      moves : List Change
      moves = map change.AddMove rows

      with_new : Tables → Tables
      with_new t = record t {
        resource = t.resource ++ new ∷ [];
        label = t.label ++ label (next_number s) Pref tag text ∷ [];
      }

      done : (t : Tables) → tables_after_delta ((makes ++ sets) ++ moves) t
          ≡ record (with_new t) { posting = placed_all rows t.posting; move = t.move ++ rows }
      done t = all_append (makes ++ sets) moves t ∙ ap (tables_after_delta moves) (places_set_all rows (with_new t))
          ∙ moves_added_all rows (record (with_new t) { posting = placed_all rows t.posting })

  key_free : (key : List ℕ) → ((h : History) → ¬ IsOfKey key s.histories h) → (other : PostingRow)
      → IsIn other (map posting_row s.histories) → other.key ≢ key
  key_free key fresh other m e = let f = found s.histories m in
      fresh f.1 (
        ap (entry_at s.histories) (legal.postings.sound (suc f.0) f.1 f.2).number ∙ f.2,
        sym (ap (λ (r : PostingRow). r.key) f.3) ∙ e,
      )
    where
      found : (hs : List History) → IsIn other (map posting_row hs) → (i : ℕ) × (h : History)
          × (slice_get hs i ≡ Some h) × (other ≡ posting_row h)
      found [] n = absurd n
      found (h ∷ hs) (inl same) = (0, h, refl, same)
      found (h ∷ hs) (inr later) = let f = found hs later in (suc f.0, f.1, f.2, f.3)

  -- The changes of a Post lead to the state after it.
  pub leads_post : (key rec : List ℕ) (concept : ℕ) → ((h : History) → ¬ IsOfKey key s.histories h)
      → AreChangesBetween base (changes_of (request.Post key rec concept) s) s (state_after_post key rec concept s)
  leads_post key rec concept fresh = record {
    rows = λ t is. subst (IsRowsOf base (state_after_post key rec concept s)) (sym (moves_added_all rows (entered t)))
        (with_histories base s t is (s.histories ++ new ∷ []) (entered t).posting (t.move ++ rows)
        (ap (λ l. l ++ posting_row new ∷ []) is.posting ∙ sym (map-append posting_row s.histories (new ∷ [])))
        (moves_posted s.resources s.histories legal.postings new refl t.move rising is.move));
    fit = λ t is. (
      (
        ap (λ n. n + 1) (sym (length_map s.histories)) ∙ ap (λ (l : List PostingRow). length l + 1) (sym is.posting),
        λ other m. key_free key fresh other (subst (IsIn other) is.posting m),
      ),
      fit_moves (move_count s.histories) rows (entered t) (number_within_count s.resources s.histories legal.postings
          t.move is.move) rising,
    );
  }
    where
      new : History
      new = new_history key rec concept (replacements s.resources concept) s.histories

      rows : List MoveRow
      rows = map (move_row new.number) new.moves

      rising : MoveNumbersAscend (move_count s.histories) rows
      rising = rises_along new.number (move_count s.histories) first_move concept (replacements s.resources concept)
          (omega arith)

      entered : Tables → Tables
      entered t = record t { posting = t.posting ++ posting_row new ∷ [] }

      length_map : (hs : List History) → length (map posting_row hs) ≡ length hs
      length_map [] = refl
      length_map (h ∷ hs) = ap suc (length_map hs)

  pub leads_withdraw : (n : ℕ) (h : History) → entry_at s.histories n ≡ Some h → h.withdrawn ≡ false
      → AreChangesBetween base (change.Withdraw n ∷ []) s (state_after_withdrawal n s)
  leads_withdraw n h e stands = subst (AreChangesBetween base (change.Withdraw n ∷ []) s) (sym (withdrawn_at s n h e))
      (record {
        rows = λ t is. with_histories base s t is (set_entry_at s.histories n (history_after_withdrawal h))
            (with_posting row_after_withdrawal n t.posting) t.move
            (ap (with_posting row_after_withdrawal n) is.posting ∙ with_at row_after_withdrawal n
            (map posting_row s.histories) (posting_row h) (map_numbered posting_row s.histories n h e)
            ∙ sym (map-set posting_row s.histories (n - 1) (history_after_withdrawal h)))
            (moves_set s.histories n h (history_after_withdrawal h) t.move e refl is.move);
        fit = λ t is. (
          (
            posting_row h,
            ap (λ rows. entry_at rows n) is.posting ∙ map_numbered posting_row s.histories n h e,
            stands,
          ),
          tt,
        );
      })

-- The law of row changes, request by request.
pub changes_of_request_lead : (setting : Setting) (s : State) (command : Command) → IsLegalState setting.base s
    → HasNewKey command s → refusal_rule_of setting s (next_state command s) command None
    → AreChangesBetween setting.base (changes_of command s) s (next_state command s)
changes_of_request_lead setting s (request.Scheme tag text) legal fresh row = leads_new_resource setting.base s legal
    _ tag text
changes_of_request_lead setting s (request.Concept scheme tag text) legal fresh row =
    leads_new_resource setting.base s legal _ tag text
changes_of_request_lead setting s (request.Collection scheme tag text) legal fresh row =
    leads_new_resource setting.base s legal _ tag text
changes_of_request_lead setting s (request.Outside iri) legal fresh row = leads_outside setting.base s legal iri
changes_of_request_lead setting s (request.AddLabel owner l) legal fresh row =
    leads_label setting.base s legal (owned_label owner l)
    (passed_if (passed_unless (passed_unless (passed_unless row).1).1).1).0
changes_of_request_lead setting s (request.DropLabel owner l) legal fresh row =
    leads_drop setting.base s legal (owned_label owner l)
    (passed_unless (passed_unless (passed_unless (passed_unless row).1).1).1).0
changes_of_request_lead setting s (request.Relabel owner tag text keep) legal fresh row =
    leads_relabel setting.base s legal owner tag text keep
changes_of_request_lead setting s (request.Link kind a b) legal fresh row =
    leads_link setting.base s legal (normal_form (is_outside s.resources) (link kind a b))
    (passed_if (passed_unless (passed_if (passed_unless (passed_unless (passed_unless row).1).1).1).1).1).0
changes_of_request_lead setting s (request.Unlink kind a b) legal fresh row =
    leads_unlink setting.base s legal (normal_form (is_outside s.resources) (link kind a b))
    (passed_unless (passed_unless (passed_if (passed_unless (passed_unless (passed_unless row).1).1).1).1).1).0
changes_of_request_lead setting s (request.Deprecate concept) legal fresh row =
    let new = links_after_deprecation concept s.links in
    leads_deprecate setting.base s legal concept (passed_unless (passed_unless (passed_unless row).1).1).0
    (links_to_remove s.links new) (links_to_add s.links new) (links_to_remove_present s.links new)
    (links_to_add_absent s.links new) (links_to_add_suffice s.links new)
changes_of_request_lead setting s (request.Merge source target) legal fresh row =
    let taken = copied_labels source target s.labels in
    let new = links_after_merge (is_outside s.resources) source target s.links in
    leads_merge setting.base s legal source target (passed_unless (passed_unless (passed_unless row).1).1).0.0
    (missing_items s.labels (set.items taken))
    (coming_absent labels_total labels_exact (set.items taken) s.labels)
    (coming_same labels_total labels_exact (set.items taken) s.labels ∙ inserted_union labels_total labels_exact
    s.labels taken) (links_to_remove s.links new) (links_to_add s.links new) (links_to_remove_present s.links new)
    (links_to_add_absent s.links new)
    (links_to_add_suffice s.links new)
changes_of_request_lead setting s (request.Split source tag text postings) legal fresh row =
    leads_split setting.base s legal source tag text postings
changes_of_request_lead setting s (request.Post key rec concept) legal fresh row =
    leads_post setting.base s legal key rec concept fresh
changes_of_request_lead setting s (request.Withdraw posting) legal fresh row =
    let known = (passed_unless (passed_unless row).1).0 in
    leads_withdraw setting.base s legal posting known.0 known.1 (not-true _ known.2)
