-- The tables of a legal state load, and encode that state.
use Rattle.std.proofs.lemmas.Grind.{common_steps}
use Rattle.std.proofs.Common.{◌≡◌, ◌⊎◌, ◌<◌, ℕ, List, [], ◌∷◌, map, refl, sym, ap, ◌∙◌, subst, arith, inl, inr, cond}
use Rattle.std.proofs.lemmas.Bool.{cases_Bool}
use Rattle.std.proofs.lemmas.Option.{same_Some}
use Rattle.std.proofs.lemmas.Map.Lookups.{exact_unsigned}
use Rattle.std.specs.Prelude.{Some, Ok, true, false}
use Rattle.std.specs.Ordering.{nat_cmp, eq_by_cmp, is_eq}
use Rattle.std.specs.Cmp.{nat_cmp_total, tied_itself, Equal-is}
use Rattle.std.specs.FinMap as dict
use Rattle.std.proofs.lemmas.List.{length-map}
use Rattle.thes_base.specs.declared.data.History.{History}
use Rattle.thes_base.specs.Resources.{entry_at, IsConcept, is_live_concept}
use Rattle.thes_base.specs.Postings.{place}
use Rattle.thes_base.specs.State.{State}
use Rattle.thes_base.specs.Texts.{StateHasForms}
use Rattle.thes_base.specs.Legal.{IsLegalState, IsLegalHistory, IsLegalMove}
use Rattle.thes_base.proofs.LabelSetLemmas.{labels_total, labels_exact}
use Rattle.thes_base.proofs.LegalPostingLemmas.{place_concept}
use Rattle.thes_base.proofs.SoundStateLemmas.{forms_of_legal}
use Rattle.thes_tables.specs.declared.rows.PostingRow.{PostingRow}
use Rattle.thes_tables.specs.declared.rows.MoveRow.{MoveRow}
use Rattle.thes_tables.specs.Tables.{Tables, IsIn, IriNumbersAscend, IsRowsOf, posting_row, recorded_move, moves_of}
use Rattle.thes_tables.specs.Cells.{cells_of_tables}
use Rattle.thes_tables.proofs.MoveRowLemmas.{map_numbered, in_all}
use Rattle.thes_load_rules.specs.Rules.{iris_of, history_of, state_of, OutsideRule, PostingRule, MoveRule}
use Rattle.thes_load_rules.specs.Verdicts.{HasVerdict}
use Rattle.thes_load_rules.proofs.RowListLemmas.{in_numbered, numbered_unmap, set_of_lists}
use Rattle.thes_load_rules.proofs.LinkTableLemmas.{same_links}
use Rattle.thes_load_rules.proofs.MoveOrderLemmas.{own_moves, numbered_in_order, row_count_is_move_count}
use Rattle.thes_load_rules.proofs.OpenTableLemmas.{AllTablesPass, loads_open}

-- If the tables encode a legal state, the state computed from them is that state.
module _ (base : List ℕ) (s : State) (t : Tables) (legal : IsLegalState base s) (are : IsRowsOf base s t) where
  same_histories : map (history_of t.move) t.posting ≡ s.histories
  same_histories = ap (map (history_of t.move)) are.posting ∙ go s.histories (λ h there. let at =
      in_numbered s.histories h there in
      sym (own_moves s.resources s.histories legal.postings t.move are.move at.0 h at.1))
    where
      go : (hs : List History) → ((h : History) → IsIn h hs → moves_of h.number t.move ≡ h.moves)
          → map (history_of t.move) (map posting_row hs) ≡ hs
      go [] each = refl
      go (h ∷ hs) each = λ i. record {
        number = h.number;
        key = h.key;
        rec = h.rec;
        first = h.first;
        moves = each h (inl refl) i;
        withdrawn = h.withdrawn;
      } ∷ go hs (λ g there. each g (inr there)) i

  pub same_state : state_of t ≡ s
  same_state = λ i. record {
    resources = are.resource i;
    iris = are.outside.same i;
    labels = set_of_lists labels_total labels_exact s.labels t.label are.label i;
    links = same_links t.link t.hier s.links are.link are.hier i;
    histories = same_histories i;
  }

pub number_above : (above : ℕ) (rows : List (ℕ × List ℕ)) (row : ℕ × List ℕ) → IriNumbersAscend above rows
    → IsIn row rows → above < row.0
number_above above [] row ascends h = absurd h
number_above above (x ∷ rows) row ascends (inl e) = let n = ap (λ (y : ℕ × List ℕ). y.0) e in let r = ascends.0 in
    omega (arith, n, r)
number_above above (x ∷ rows) row ascends (inr h) = let q = number_above x.0 rows row ascends.1 h in let r =
    ascends.0 in omega (arith, q, r)

-- The map of IRIs has the IRI of each row under the row's number.
pub row_iri : (above : ℕ) (rows : List (ℕ × List ℕ)) (row : ℕ × List ℕ) → IriNumbersAscend above rows → IsIn row rows
    → dict.get (iris_of rows) row.0 ≡ Some row.1
row_iri above [] row ascends h = absurd h
row_iri above (x ∷ rows) row ascends (inl e) =
    subst (λ (y : ℕ × List ℕ). dict.get (iris_of (x ∷ rows)) y.0 ≡ Some y.1) (sym e)
    (dict.get-insert nat_cmp_total (iris_of rows) x.0 x.1 x.0
    ∙ ap (λ b. cond b (Some x.1) (dict.get (iris_of rows) x.0)) (ap is_eq (tied_itself nat_cmp_total x.0)))
row_iri above (x ∷ rows) row ascends (inr h) =
    dict.get-insert nat_cmp_total (iris_of rows) x.0 x.1 row.0
    ∙ ap (λ b. cond b (Some x.1) (dict.get (iris_of rows) row.0)) (apart (cases_Bool (eq_by_cmp nat_cmp row.0 x.0)))
    ∙ row_iri x.0 rows row ascends.1 h
  where
    apart : (eq_by_cmp nat_cmp row.0 x.0 ≡ true) ⊎ (eq_by_cmp nat_cmp row.0 x.0 ≡ false) → eq_by_cmp nat_cmp row.0 x.0
        ≡ false
    apart (inl hit) = let same = exact_unsigned row.0 x.0 ((Equal-is (nat_cmp row.0 x.0)).0 hit) in let q =
        number_above x.0 rows row ascends.1 h in absurd (omega (arith, same, q))
    apart (inr miss) = miss

-- Assumes that the tables encode a legal state.
module _ (t : Tables) (legal : IsLegalState t.base (state_of t)) (are : IsRowsOf t.base (state_of t) t) where
  abbrev s : State
  s = state_of t

  forms : StateHasForms t.base s
  forms = forms_of_legal t.base s legal

  held_outside : OutsideRule t.base t.resource t.outside
  held_outside = record {
    ascends = are.outside.ascends;
    forms = λ row h. forms.iris row.0 row.1 (row_iri 0 t.outside row are.outside.ascends h);
    legal = legal.resources.outside;
  }

  -- The history with a number is made from the row with that number.
  history_at : (n : ℕ) (p : PostingRow) → entry_at t.posting n ≡ Some p → entry_at s.histories n
      ≡ Some (history_of t.move p)
  history_at n p e = map_numbered (history_of t.move) t.posting n p e

  sound_at : (n : ℕ) (p : PostingRow) → entry_at t.posting n ≡ Some p → IsLegalHistory t.resource n
      (history_of t.move p)
  sound_at n p e = legal.postings.sound n (history_of t.move p) (history_at n p e)

  place_at : (n : ℕ) (p : PostingRow) → entry_at t.posting n ≡ Some p → place (history_of t.move p) ≡ p.place
  place_at n p e =
      ap (λ (x : PostingRow). x.place)
      (same_Some _ _ (sym (map_numbered posting_row s.histories n (history_of t.move p) (history_at n p e))
      ∙ ap (λ rows. entry_at rows n) (sym are.posting) ∙ e))

  concept_at : (n : ℕ) (p : PostingRow) → entry_at t.posting n ≡ Some p → IsConcept t.resource p.place
  concept_at n p e = let sound = sound_at n p e in subst (IsConcept t.resource) (place_at n p e)
      (place_concept t.resource p.first (moves_of p.number t.move) sound.first sound.moves)

  held_postings : PostingRule t.resource t.posting
  held_postings = record {
    few = (let l = length-map t.posting (history_of t.move) in let f = legal.postings.few in omega (arith, l, f));
    numbers = λ n p e. (sound_at n p e).number;
    forms = λ p h. let at = in_numbered t.posting p h in forms.postings at.0 (history_of t.move p)
        (history_at at.0 p at.1);
    keys = λ m n x y ex ey same. legal.postings.keys m n (history_of t.move x) (history_of t.move y)
        (history_at m x ex) (history_at n y ey) same;
    concepts = λ p h. let at = in_numbered t.posting p h in ((sound_at at.0 p at.1).first, concept_at at.0 p at.1);
    live = λ p h w. let at = in_numbered t.posting p h in ap (is_live_concept t.resource) (sym (place_at at.0 p at.1))
        ∙ (sound_at at.0 p at.1).stands w;
  }

  legal_move : (row : MoveRow) → IsIn row t.move → IsLegalMove t.resource (recorded_move row)
  legal_move row h = let is = are.move.sound row h in in_all (IsLegalMove t.resource) (recorded_move row) is.0.moves
      (legal.postings.sound row.posting is.0 is.1).moves is.2

  held_moves : MoveRule t.resource t.posting t.move
  held_moves = record {
    few = (let c = row_count_is_move_count t.resource s.histories legal.postings t.move are.move in let f =
        legal.postings.few_moves in omega (arith, c, f));
    numbers = numbered_in_order t.resource s.histories legal.postings t.move are.move;
    known = λ row h. let is = are.move.sound row h in let p = numbered_unmap (history_of t.move) t.posting row.posting
        is.0 is.1 in (p.0, p.1);
    ends = λ row h. let is = legal_move row h in (is.1, is.2);
    well_formed = λ p h. let at = in_numbered t.posting p h in (sound_at at.0 p at.1).well_formed;
    places = λ p h. let at = in_numbered t.posting p h in place_at at.0 p at.1;
  }

  -- All tables meet their rules.
  held_open : AllTablesPass (cells_of_tables t) t
  held_open = record {
    meta = (refl, forms.base_form);
    resource = grind (arith, common_steps);
    outside = (refl, held_outside);
    label = grind (arith, common_steps, forms);
    link = (
      refl,
      record {
        once = are.link.once;
        kinds = λ l h. (are.link.sound l h).1;
        each = λ l h. legal.links.each l (are.link.sound l h).0;
      },
    );
    hier = (refl, record { once = are.hier.once; legal = legal.links });
    posting = (refl, held_postings);
    move = (refl, held_moves);
  }

-- The tables of a legal state load, and encode that state.
pub held_loads : (base : List ℕ) (s : State) (t : Tables) → IsLegalState base s → IsRowsOf base s t
    → HasVerdict (cells_of_tables t) (Ok t) × (state_of t ≡ s)
held_loads base s t legal are =
    let same = same_state base s t legal are in
    let own : IsLegalState t.base (state_of t) × IsRowsOf t.base (state_of t) t =
    subst (λ (x : State). IsLegalState t.base x × IsRowsOf t.base x t) (sym same)
    (subst (λ (b : List ℕ). IsLegalState b s × IsRowsOf b s t) (sym are.base_is) (legal, are)) in
    (loads_open (cells_of_tables t) t (held_open t own.0 own.1), same)
