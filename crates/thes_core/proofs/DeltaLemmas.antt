-- The changes of rows that each request makes lead to the machine's next state.
use Rattle.std.proofs.Common.{◌≡◌, ◌≢◌, ℕ, suc, ◌+◌, length, List, [], ◌∷◌, ◌++◌, refl, sym, ap, ◌∙◌}
use Rattle.std.proofs.Common.{subst, arith, map, take, false, inl, inr, Contains}
use Rattle.std.specs.Prelude.{Some, None, Result, IfOk, AllPairs, slice_get}
use Rattle.std.specs.List.Sorted.{IsPermutation, IsNonDecreasing}
use Rattle.std.proofs.lemmas.List.{append-nil, take_more, take_all}
use Rattle.std.proofs.lemmas.Option.{slice_get_within, get_or_from_slice_get, slice_get_cases}
use Rattle.std.proofs.lemmas.Result.{IfOk-weaker}
use Rattle.thes_base.specs.declared.data.History.{History}
use Rattle.thes_base.specs.declared.data.Link.{Link}
use Rattle.thes_base.specs.declared.request.Command.{Command}
use Rattle.thes_base.specs.declared.request.Command.TheVariants as request
use Rattle.thes_base.specs.Resources.{scheme_of, replacements}
use Rattle.thes_base.specs.Postings.{move_count, path_end, moves_along}
use Rattle.thes_base.specs.Changes.{concept_resource, next_number, is_listed, state_after_deprecation}
use Rattle.thes_base.specs.Links.{Holds, links_after_deprecation, HasEnd}
use Rattle.thes_base.specs.Machine.{next_state}
use Rattle.thes_base.proofs.ForwardingLemmas.{along_led}
use Rattle.thes_base.proofs.LinkSetLemmas.{links_total, links_exact, without_node_from, without_node_to}
use Rattle.thes_base.proofs.RefusalRuleLemmas.{passed_unless}
use Rattle.thes_base.proofs.ListMemberLemmas.{Contains-head, Contains-later, Contains-cons_cases, Contains-none}
use Rattle.thes_links.specs.Reading.{IsRow}
use Rattle.thes_links.proofs.NormLemmas.{ends_or_not}
use Rattle.thes_tables.specs.declared.rows.MoveRow.{MoveRow}
use Rattle.thes_tables.specs.declared.change.Change.{Change}
use Rattle.thes_tables.specs.declared.change.Change.TheVariants as change
use Rattle.thes_tables.specs.Changes.{changes_of, changes_of_new_resource, move_row, drop_link, new_moves}
use Rattle.thes_tables.specs.ChangeLaw.{AreChangesBetween}
use Rattle.thes_tables.specs.Tables.{IsIn, AreDistinct, IsUnsortedListing}
use Rattle.thes_tables.proofs.ChangeLawLemmas.{changes_of_request_lead, leads_deprecate}
use Rattle.thes_tables.proofs.RowSetLemmas.{absent_by, present_by, turn_into_by}
use Rattle.thes_core.specs.declared.thesaurus.Thesaurus.{Thesaurus}
use Rattle.thes_core.specs.Deltas.{move_rows, place_change}
use Rattle.thes_core.specs.declared.facts.Facts.{Facts}
use Rattle.thes_core.specs.Requests.{PartsAccept, AreMatching}
use Rattle.thes_post.specs.PostingCounts.{ArePostingCounts}
use Rattle.thes_core.specs.PartsView.{parts_state, setting_of}
use Rattle.thes_core.proofs.ApplyLemmas.{all_listed, listed_row, split_apart}
use Rattle.thes_core.proofs.RequestMoveLemmas.{moves_passing, listed_sorted, places_of_moves}

-- The changes in the result lead from the parts to the request's next state, for all histories that match.
abbrev ResultLeads : {E : Type 0} → Thesaurus → Facts → Result (List Change) E → Command → Type 0
ResultLeads t facts r command = IfOk r (λ delta. (hs : List History) → AreMatching t command facts hs
    → AreChangesBetween t.vocab.base delta (parts_state t hs) (next_state command (parts_state t hs)))

-- If two requests are equal, the changes of one lead to the next state of the other.
module _ (t : Thesaurus) (facts : Facts) {command shown : Command} (is : command ≡ shown) {E : Type 0}
    (r : Result (List Change) E) where
  pub leads_at : ResultLeads t facts r shown → ResultLeads t facts r command
  leads_at lead = subst (ResultLeads t facts r) (sym is) lead

  pub by_law_at : IfOk r (λ delta. (hs : List History) → PartsAccept t hs shown → ArePostingCounts hs t.book → delta
      ≡ changes_of shown (parts_state t hs)) → ResultLeads t facts r command
  by_law_at are = leads_at (IfOk-weaker r _ _ (λ delta same hs meant.
      let ok = meant.allows in
      subst (λ d. AreChangesBetween t.vocab.base d (parts_state t hs) (next_state shown (parts_state t hs)))
      (sym (same hs ok meant.posting_counts))
      (changes_of_request_lead (setting_of t) (parts_state t hs) shown ok.kept.legal ok.accepts.fresh ok.accepts.row))
      are)

-- The changes of rows that a Post makes lead to the machine's next state.
pub posted_changes : (t : Thesaurus) (hs : List History) (key rec : List ℕ) (concept number place_is first : ℕ)
    (way : List ℕ) → way ≡ replacements t.vocab.resources concept → number ≡ length hs + 1 → place_is
    ≡ path_end concept (replacements t.vocab.resources concept) → first ≡ move_count hs + 1
    → change.AddPosting (record {
      number = number;
      key = key;
      rec = rec;
      first = concept;
      place = place_is;
      withdrawn = false;
    }) ∷ map change.AddMove (map (move_row number) (moves_along first concept way))
    ≡ changes_of (request.Post key rec concept) (parts_state t hs)
posted_changes t hs key rec concept number place_is first way is_way is_number is_place is_first =
    (λ i. change.AddPosting (record {
      number = is_number i;
      key = key;
      rec = rec;
      first = concept;
      place = (is_place ∙ sym (along_led (move_count hs + 1) concept (replacements t.vocab.resources concept))) i;
      withdrawn = false;
    })
    ∷ map change.AddMove (map (move_row (is_number i)) (moves_along (is_first i) concept (is_way i))))

-- The changes of rows that a split makes lead to the machine's next state.
module _ (t : Thesaurus) (hs : List History) (source : ℕ) (tag text postings : List ℕ)
    (ok : PartsAccept t hs (request.Split source tag text postings)) (moving : List ℕ)
    (same : IsPermutation postings moving) (up : IsNonDecreasing moving) where
  abbrev n : ℕ
  n = next_number (parts_state t hs)

  abbrev first : ℕ
  first = move_count hs + 1

  rows_are : new_moves (is_listed postings) n first hs ≡ move_rows first source n moving
  rows_are =
      let apart = split_apart t hs source tag text postings ok n refl in
      moves_passing (is_listed postings) source n apart first hs (all_listed t hs source tag text postings ok n apart)
      ∙ ap (move_rows first source n)
      (listed_sorted hs source postings moving (λ i h at. (ok.kept.legal.postings.sound (suc i) h at).number)
      (listed_row t hs source tag text postings ok) same up)

  pub split_changes : (changes_of_new_resource (concept_resource (scheme_of t.vocab.resources source)) tag text
      (parts_state t hs) ++ map (place_change n) moving) ++ map change.AddMove (move_rows first source n moving)
      ≡ changes_of (request.Split source tag text postings) (parts_state t hs)
  split_changes =
      (λ i. (changes_of_new_resource (concept_resource (scheme_of t.vocab.resources source)) tag text
      (parts_state t hs)
      ++ (sym (places_of_moves first source n moving)
      ∙ sym (ap (map (λ (m : MoveRow). change.SetPlace m.posting m.target)) rows_are)) i)
      ++ map change.AddMove (rows_are' i))
    where
      rows_are' : move_rows first source n moving ≡ new_moves (is_listed postings) n first hs
      rows_are' = sym rows_are

pub contains_in : {A : Type 0} (xs : List A) (x : A) → Contains xs x → IsIn x xs
contains_in [] x has = absurd (Contains-none x has)
contains_in (y ∷ xs) x has = elim (Contains-cons_cases y xs x has) [
  | inl same ↦ inl (sym same)
  | inr later ↦ inr (contains_in xs x later)
]

pub in_contains : {A : Type 0} (xs : List A) (x : A) → IsIn x xs → Contains xs x
in_contains [] x h = absurd h
in_contains {A} (y ∷ xs) x (inl same) = let Q : A → Type 0 = Contains (y ∷ xs) in
    subst Q (sym same) (Contains-head y xs)
in_contains (y ∷ xs) x (inr later) = Contains-later y xs x (in_contains xs x later)

-- The first i + 1 items are the first i, followed by the item at index `i`.
pub take_got : {A : Type 0} (xs : List A) (i : ℕ) (x : A) → slice_get xs i ≡ Some x → take (i + 1) xs ≡ take i xs
    ++ x ∷ []
take_got {A} xs i x e = take_more xs i x (slice_get_within xs i x e)
    ∙ ap (λ (y : A). take i xs ++ y ∷ []) (get_or_from_slice_get xs i x x e)

pub take_none : {A : Type 0} (xs : List A) (i : ℕ) → slice_get xs i ≡ None → take i xs ≡ xs
take_none xs i e = elim (slice_get_cases xs i).1 [ inl (x, _, at, _) ↦ absurd (cc) | inr past ↦ take_all i xs past.0 ]

pub once_apart : {A : Type 0} (xs : List A) → AllPairs (λ x y. x ≢ y) xs → AreDistinct xs
once_apart [] apart = tt
once_apart (x ∷ xs) apart = (
  λ h. (let c = in_contains xs x h in apart 0 (suc c.0) x (omega arith) (let l = c.1 in omega arith) (sym c.2)),
  once_apart xs (λ i j d l m. apart (suc i) (suc j) d (omega arith) (omega arith)),
)

-- The changes of a deprecation, which delete the links at the concept, lead to the machine's next state.
module _ (t : Thesaurus) (hs : List History) (concept : ℕ) (ok : PartsAccept t hs (request.Deprecate concept))
    (gone : List Link) (row : IsRow t.graph.links concept gone) where
  links_removed : IsUnsortedListing (λ q. Holds t.graph.links q
      × (Holds (links_after_deprecation concept t.graph.links) q → ⊥)) gone
  links_removed = record {
    sound = λ q h. let at = row.sound q (in_contains gone q h) in
        (at.0, λ kept. (without_node_from concept t.graph.links q kept).1 at.1);
    complete = λ q h. contains_in gone q (row.complete q h.0 (ends q h));
    once = once_apart gone row.once;
  }
    where
      ends : (q : Link) → Holds t.graph.links q × (Holds (links_after_deprecation concept t.graph.links) q → ⊥)
          → HasEnd concept q
      ends q h =
          elim (ends_or_not concept q)
          [ inl at ↦ at | inr off ↦ absurd (h.1 (without_node_to concept t.graph.links q (h.0, off))) ]

  links_inserted : IsUnsortedListing (λ q. Holds (links_after_deprecation concept t.graph.links) q
      × (Holds t.graph.links q → ⊥)) []
  links_inserted =
      record {
        sound = λ q h. absurd h;
        complete = λ q h. absurd (h.1 (without_node_from concept t.graph.links q h.0).0);
        once = tt;
      }

  pub deprecated_leads : AreChangesBetween t.vocab.base (change.Retire concept ∷ map drop_link gone)
      (parts_state t hs) (state_after_deprecation concept (parts_state t hs))
  deprecated_leads =
      subst (λ d. AreChangesBetween t.vocab.base d (parts_state t hs)
      (state_after_deprecation concept (parts_state t hs)))
      (ap (λ l. change.Retire concept ∷ l) (append-nil (map drop_link gone)))
      (leads_deprecate t.vocab.base (parts_state t hs) ok.kept.legal concept
      (passed_unless (passed_unless (passed_unless ok.accepts.row).1).1).0 gone []
      (present_by links_total links_exact t.graph.links (links_after_deprecation concept t.graph.links) gone
      links_removed)
      (absent_by links_total links_exact t.graph.links (links_after_deprecation concept t.graph.links) gone []
      links_inserted)
      (turn_into_by links_total links_exact t.graph.links (links_after_deprecation concept t.graph.links) gone []
      links_removed links_inserted))
