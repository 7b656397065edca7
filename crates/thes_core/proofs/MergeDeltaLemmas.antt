-- The changes of rows that a merge makes lead to the machine's next state.
use Rattle.std.proofs.lemmas.Grind.{common_steps}
use Rattle.std.proofs.Common.{◌≡◌, ◌≢◌, ℕ, ◌+◌, List, [], ◌∷◌, ◌++◌, sym, ◌∙◌, subst, Bool, map, append_assoc}
use Rattle.std.proofs.Common.{length, arith}
use Rattle.std.specs.Prelude.{filter}
use Rattle.std.proofs.lemmas.List.{length-map}
use Rattle.std.proofs.lemmas.List.Sums.{length-filter}
use Rattle.std.specs.FinSet as set
use Rattle.thes_base.specs.declared.data.History.{History}
use Rattle.thes_base.specs.declared.data.Link.{Link}
use Rattle.thes_base.specs.declared.request.Command.TheVariants as request
use Rattle.thes_base.specs.Data.{LabelData}
use Rattle.thes_base.specs.Links.{Links, Holds, normal_form, links_after_merge}
use Rattle.thes_base.specs.Postings.{is_assigned_to, assigned_count, move_count}
use Rattle.thes_base.specs.Resources.{is_outside}
use Rattle.thes_base.specs.Changes.{state_after_merge}
use Rattle.thes_base.specs.Machine.{owned_label}
use Rattle.thes_base.proofs.LinkSetLemmas.{links_total, links_exact}
use Rattle.thes_links.specs.Reading.{IsRow}
use Rattle.thes_post.proofs.PostingCountLemmas.{all_assigned}
use Rattle.thes_graph.specs.MergeAdditions.{AreMergeAdditions}
use Rattle.thes_vocab.specs.CopiedLabels.{AreMissingLabels}
use Rattle.thes_tables.specs.declared.change.Change.{Change}
use Rattle.thes_tables.specs.declared.change.Change.TheVariants as change
use Rattle.thes_tables.specs.Changes.{add_link, drop_link, new_moves}
use Rattle.thes_tables.specs.ChangeLaw.{AreChangesBetween}
use Rattle.thes_tables.specs.Tables.{IsUnsortedListing}
use Rattle.thes_tables.proofs.ChangeLawLemmas.{leads_merge}
use Rattle.thes_tables.proofs.RowSetLemmas.{absent_by, present_by, turn_into_by}
use Rattle.thes_core.specs.declared.thesaurus.Thesaurus.{Thesaurus}
use Rattle.thes_core.specs.Deltas.{move_rows}
use Rattle.thes_core.specs.Facts.{assigned_posting_numbers}
use Rattle.thes_core.specs.Requests.{PartsAccept}
use Rattle.thes_core.specs.PartsView.{parts_state}
use Rattle.thes_core.proofs.ApplyLemmas.{merge_apart}
use Rattle.thes_core.proofs.RequestCheckLemmas.{outside_same}
use Rattle.thes_base.proofs.RefusalRuleLemmas.{passed_unless}
use Rattle.thes_core.proofs.OutsideLemmas.{concept_inside}
use Rattle.thes_core.proofs.MergeLinkLemmas.{merge_goes, merge_comes}
use Rattle.thes_core.proofs.RequestMoveLemmas.{moves_passing}
use Rattle.thes_core.proofs.CopiedRowLemmas.{missing_absent, missing_same}

-- A list of changes is the same however its parts are grouped.
regroup : {A : Type 0} (x y : A) (a b c d : List A) → ((((x ∷ a) ++ b) ++ c) ++ y ∷ []) ++ d ≡ x ∷ a ++ (b ++ c) ++ y
    ∷ d
regroup {A} x y a b c d = grind (arith, common_steps, append_assoc)

module _ (t : Thesaurus) (hs : List History) (source target : ℕ) (ok : PartsAccept t hs (request.Merge source target))
    (gone : List Link) (row : IsRow t.graph.links source gone)
    (come : List Link) (added : AreMergeAdditions t.graph source target come)
    (copies : List LabelData) (missing : AreMissingLabels t.vocab.labels source target copies) where
  ends_differ : source ≢ target
  ends_differ = merge_apart t hs source target ok

  two : (l : Link) → Holds t.graph.links l → l.a ≢ l.b
  two l held = (ok.kept.legal.links.each l held).two

  normal : (l : Link) → Holds t.graph.links l → normal_form (set.contains t.graph.outside) l ≡ l
  normal l held = subst (λ (f : ℕ → Bool). normal_form f l ≡ l) (sym (outside_same t hs ok.kept))
      (ok.kept.legal.links.each l held).ordered

  inside : set.contains t.graph.outside source ≡ set.contains t.graph.outside target
  inside = grind (arith, common_steps, concept_inside, passed_unless)

  abbrev links_after_contract : (ℕ → Bool) → Links
  links_after_contract f = links_after_merge f source target t.graph.links

  links_removed : IsUnsortedListing (λ q. Holds t.graph.links q
      × (Holds (links_after_contract (is_outside t.vocab.resources)) q → ⊥)) gone
  links_removed =
      subst (λ (f : ℕ → Bool). IsUnsortedListing (λ q. Holds t.graph.links q × (Holds (links_after_contract f) q → ⊥))
      gone) (outside_same t hs ok.kept)
      (merge_goes t.graph source target ends_differ two normal gone row)

  links_inserted : IsUnsortedListing (λ q. Holds (links_after_contract (is_outside t.vocab.resources)) q
      × (Holds t.graph.links q → ⊥)) come
  links_inserted =
      subst (λ (f : ℕ → Bool). IsUnsortedListing (λ q. Holds (links_after_contract f) q × (Holds t.graph.links q → ⊥))
      come) (outside_same t hs ok.kept)
      (merge_comes t.graph source target come inside added)

  abbrev first : ℕ
  first = move_count hs + 1

  move_rows_of_merge : new_moves (is_assigned_to source) target first hs ≡ move_rows first source target
      (assigned_posting_numbers source hs)
  move_rows_of_merge = moves_passing (is_assigned_to source) source target ends_differ first hs
      (all_assigned source target ends_differ hs)

  abbrev rows : List Change
  rows = map change.AddLabel (map (owned_label target) copies)

  abbrev Merges : List Change → Type 0
  Merges changes = AreChangesBetween t.vocab.base changes (parts_state t hs)
      (state_after_merge source target (parts_state t hs))

  -- A merge's changes of resources, labels, links, places and moves, in this order, lead to the machine's next state.
  pub merged_leads : AreChangesBetween t.vocab.base
      (((((change.Replace source target ∷ rows) ++ map drop_link gone) ++ map add_link come) ++ change.MoveAll source
      target ∷ []) ++ map change.AddMove (move_rows first source target (assigned_posting_numbers source hs)))
      (parts_state t hs) (state_after_merge source target (parts_state t hs))
  merged_leads =
      let law = leads_merge t.vocab.base (parts_state t hs) ok.kept.legal source target
      (passed_unless (passed_unless (passed_unless ok.accepts.row).1).1).0.0
      (map (owned_label target) copies)
      (missing_absent t.vocab.labels source target ok.kept.legal.labels.disjoint copies missing)
      (missing_same t.vocab.labels source target ok.kept.legal.labels.disjoint copies missing)
      gone come
      (present_by links_total links_exact t.graph.links (links_after_contract (is_outside t.vocab.resources)) gone
      links_removed)
      (absent_by links_total links_exact t.graph.links (links_after_contract (is_outside t.vocab.resources)) gone come
      links_inserted)
      (turn_into_by links_total links_exact t.graph.links (links_after_contract (is_outside t.vocab.resources)) gone
      come links_removed links_inserted) in
      let grouped = regroup (change.Replace source target) (change.MoveAll source target) rows (map drop_link gone)
      (map add_link come) (map change.AddMove (move_rows first source target (assigned_posting_numbers source hs))) in
      let told =
      subst (λ ms. Merges (change.Replace source target ∷ rows ++ (map drop_link gone ++ map add_link come)
      ++ change.MoveAll source target ∷ map change.AddMove ms)) move_rows_of_merge law in
      subst Merges (sym grouped) told

-- The number of postings assigned to the source is the length of the list of their numbers.
pub standing_length : (source : ℕ) (hs : List History) → length (assigned_posting_numbers source hs) ≡ assigned_count
    source hs
standing_length source hs = length-map (filter (is_assigned_to source) hs) (λ (h : History). h.number)
    ∙ length-filter (is_assigned_to source) hs
