-- Tables that meet their rules encode a legal state.
use Rattle.std.proofs.lemmas.Grind.{common_steps}
use Rattle.std.proofs.Common.{◌≡◌, ◌≢◌, ◌≤◌, ℕ, length, List, [], ◌∷◌, map, refl, sym, ap, ◌∙◌, subst, arith, inl, inr}
use Rattle.std.proofs.lemmas.Option.{same_Some}
use Rattle.std.specs.Prelude.{Some, Ok}
use Rattle.std.proofs.lemmas.List.{length-map}
use Rattle.thes_base.specs.declared.data.Resource.{Resource}
use Rattle.thes_base.specs.declared.data.History.{History}
use Rattle.thes_base.specs.declared.data.Move.{Move}
use Rattle.thes_base.specs.Resources.{entry_at, IsConcept, is_live_concept}
use Rattle.thes_base.specs.Postings.{place, AreConsecutiveMoves, move_count}
use Rattle.thes_base.specs.Texts.{StateHasForms, IsPostingForm}
use Rattle.thes_base.specs.Legal.{IsLegalState, AreLegalPostings, IsLegalHistory, IsLegalMove, AllMoves, HasMove}
use Rattle.thes_base.proofs.LabelSetLemmas.{labels_total, labels_exact}
use Rattle.thes_base.proofs.NumberedLemmas.{numbered_bound}
use Rattle.thes_base.proofs.SoundStateLemmas.{legal_of_sound}
use Rattle.thes_tables.specs.declared.rows.PostingRow.{PostingRow}
use Rattle.thes_tables.specs.declared.rows.MoveRow.{MoveRow}
use Rattle.thes_tables.specs.Tables.{Tables, IsIn, IsRowsOf, AreMoves, IsMoveOf, posting_row, recorded_move, moves_of}
use Rattle.thes_tables.specs.Cells.{Raw, cells_of_tables}
use Rattle.thes_tables.proofs.MoveRowLemmas.{map_numbered}
use Rattle.thes_load_rules.specs.Rules.{history_of, state_of, PostingRule, MoveRule}
use Rattle.thes_load_rules.specs.Verdicts.{HasVerdict}
use Rattle.thes_load_rules.proofs.RowListLemmas.{numbered_some, numbered_in, in_numbered, numbered_unmap, row_of}
use Rattle.thes_load_rules.proofs.RowListLemmas.{lists_own, iri_row}
use Rattle.thes_load_rules.proofs.LinkTableLemmas.{link_lists, hier_lists}
use Rattle.thes_load_rules.proofs.MoveCountLemmas.{row_of_move, move_of_row, has_of_in, in_of_has, all_of_in}
use Rattle.thes_load_rules.proofs.MoveCountLemmas.{rows_counted_as_moves}
use Rattle.thes_load_rules.proofs.MoveOrderLemmas.{rises_of_order}
use Rattle.thes_load_rules.proofs.OpenTableLemmas.{AllTablesPass, open_of, open_listed}

-- Two rows of table move with the same posting and the same move are equal.
row_one : (x y : MoveRow) → x.posting ≡ y.posting → recorded_move x ≡ recorded_move y → x ≡ y
row_one x y p e = grind (arith, common_steps)

-- Consecutive moves that start at a concept are legal if each leads to a concept other than its source.
pub sources : (rs : List Resource) (above from : ℕ) (moves : List Move) → IsConcept rs from
    → AreConsecutiveMoves above from moves → AllMoves (λ (m : Move). IsConcept rs m.target × (m.source ≢ m.target))
    moves → AllMoves (IsLegalMove rs) moves
sources rs above from [] at follows all = tt
sources rs above from (m ∷ moves) at follows all = (
  (subst (IsConcept rs) (sym follows.1) at, all.0.0, all.0.1),
  sources rs m.number m.target moves all.0.0 follows.2 all.1,
)

module _ (rs : List Resource) (P : List PostingRow) (M : List MoveRow) (posting : PostingRule rs P)
    (move : MoveRule rs P M) where
  abbrev hs : List History
  hs = map (history_of M) P

  -- Each history comes from a row of table posting.
  history_row : (n : ℕ) (h : History) → entry_at hs n ≡ Some h → (p : PostingRow) × (entry_at P n ≡ Some p)
      × (h ≡ history_of M p)
  history_row n h e = numbered_unmap (history_of M) P n h e

  history_number : (n : ℕ) (h : History) → entry_at hs n ≡ Some h → h.number ≡ n
  history_number n h e = let was = history_row n h e in ap (λ (x : History). x.number) was.2 ∙ posting.numbers n was.0
      was.1

  history_moves : (n : ℕ) (h : History) → entry_at hs n ≡ Some h → h.moves ≡ moves_of h.number M
  history_moves n h e = let was = history_row n h e in ap (λ (x : History). x.moves) was.2 ∙ ap (λ k. moves_of k M)
      (sym (ap (λ (x : History). x.number) was.2))

  -- Table move has as many rows as the histories have moves.
  pub row_count_of_moves : length M ≡ move_count hs
  row_count_of_moves = rows_counted_as_moves M hs history_number (λ row h. let p = move.known row h in let b =
      numbered_bound P row.posting p.0 p.1 in let l = length-map P (history_of M) in
      (b.0, (let q = b.1 in omega (arith, q, l)))) history_moves

  -- The number of a row of table move is its position.
  move_at : (row : MoveRow) → IsIn row M → entry_at M row.number ≡ Some row
  move_at row h = let r = in_numbered M row h in ap (entry_at M) (move.numbers r.0 row r.1) ∙ r.1

  -- Each history is legal.
  history_legal : (n : ℕ) (h : History) → entry_at hs n ≡ Some h → IsLegalHistory rs n h
  history_legal n h e =
      let was = history_row n h e in
      let p = was.0 in
      let there = numbered_in P n p was.1 in
      let first = (posting.concepts p there).0 in
      subst (IsLegalHistory rs n) (sym was.2) (record {
        number = posting.numbers n p was.1;
        first = first;
        well_formed = move.well_formed p there;
        moves = sources rs 0 p.first (moves_of p.number M) first (move.well_formed p there)
            (all_of_in _ (moves_of p.number M) (λ m i. let row = row_of_move p.number m M i in
            subst (λ (x : Move). IsConcept rs x.target × (x.source ≢ x.target)) row.3 (move.ends row.0 row.1)));
        stands = λ w. ap (is_live_concept rs) (move.places p there) ∙ posting.live p there w;
      })

  move_number_bounded : (n : ℕ) (h : History) → entry_at hs n ≡ Some h → AllMoves (λ m. m.number ≤ move_count hs)
      h.moves
  move_number_bounded n h e = subst (AllMoves (λ m. m.number ≤ move_count hs)) (sym (history_moves n h e))
      (grind (arith, common_steps, all_of_in, row_of_move, numbered_bound, move_at, row_count_of_moves))

  number_has_move : (k : ℕ) → 1 ≤ k → k ≤ move_count hs → (n : ℕ) × (h : History) × (entry_at hs n ≡ Some h)
      × HasMove k h.moves
  number_has_move k least most =
      let c = row_count_of_moves in
      let at = numbered_some M k least (omega (arith, most, c)) in
      let row = at.0 in
      let there = numbered_in M k row at.1 in
      let p = move.known row there in
      let has = subst (λ i. HasMove i (moves_of row.posting M)) (move.numbers k row at.1)
      (has_of_in (recorded_move row) (moves_of row.posting M) (move_of_row M row there)) in (
        row.posting,
        history_of M p.0,
        map_numbered (history_of M) P row.posting p.0 p.1,
        subst (λ i. HasMove k (moves_of i M)) (sym (posting.numbers row.posting p.0 p.1)) has,
      )

  -- The number of each move in a history is that of a row of table move.
  row_with : (k n : ℕ) (h : History) → entry_at hs n ≡ Some h → HasMove k h.moves → (row : MoveRow)
      × (entry_at M k ≡ Some row) × (row.posting ≡ n)
  row_with k n h e has =
      let m = in_of_has k h.moves has in
      let row = row_of_move h.number m.0 M (subst (IsIn m.0) (history_moves n h e) m.1) in (
        row.0,
        ap (entry_at M) (sym (ap (λ (x : Move). x.number) row.3 ∙ m.2)) ∙ move_at row.0 row.1,
        row.2 ∙ history_number n h e,
      )

  move_has_one_posting : (k m n : ℕ) (g h : History) → entry_at hs m ≡ Some g → entry_at hs n ≡ Some h
      → HasMove k g.moves → HasMove k h.moves → m ≡ n
  move_has_one_posting k m n g h eg eh kg kh =
      let a = row_with k m g eg kg in
      let b = row_with k n h eh kh in
      sym a.2 ∙ ap (λ (x : MoveRow). x.posting) (same_Some _ _ (sym a.1 ∙ b.1)) ∙ b.2

  -- The postings of the tables are legal.
  postings_legal : AreLegalPostings rs hs
  postings_legal = record {
    few = (let l = length-map P (history_of M) in let f = posting.few in omega (arith, l, f));
    few_moves = (let c = row_count_of_moves in let f = move.few in omega (arith, c, f));
    sound = history_legal;
    keys = λ m n g h eg eh same.
        let a = history_row m g eg in
        let b = history_row n h eh in
        posting.keys m n a.0 b.0 a.1 b.1 (sym (ap (λ (x : History). x.key) a.2) ∙ same ∙ ap (λ (x : History). x.key)
        b.2);
    numbers = record { bounded = move_number_bounded; reached = number_has_move; once = move_has_one_posting };
  }

  rows_of_histories : P ≡ map posting_row hs
  rows_of_histories = go P move.places
    where
      go : (qs : List PostingRow) → ((p : PostingRow) → IsIn p qs → place (history_of M p) ≡ p.place) → qs
          ≡ map posting_row (map (history_of M) qs)
      go [] all = refl
      go (p ∷ qs) all = λ i. record {
        number = p.number;
        key = p.key;
        rec = p.rec;
        first = p.first;
        place = sym (all p (inl refl)) i;
        withdrawn = p.withdrawn;
      } ∷ go qs (λ q h. all q (inr h)) i

  -- The rows of table move encode the moves of the histories.
  moves_of_histories : AreMoves hs M
  moves_of_histories = record {
    rises = rises_of_order M move.numbers;
    sound = sound;
    complete = λ row is. complete row is.0 is.1 is.2;
  }
    where
      sound : (row : MoveRow) → IsIn row M → IsMoveOf hs row
      sound row h =
          let p = move.known row h in (
            history_of M p.0,
            map_numbered (history_of M) P row.posting p.0 p.1,
            subst (λ i. IsIn (recorded_move row) (moves_of i M)) (sym (posting.numbers row.posting p.0 p.1))
                (move_of_row M row h),
          )

      complete : (row : MoveRow) (h : History) → entry_at hs row.posting ≡ Some h → IsIn (recorded_move row) h.moves
          → IsIn row M
      complete row h at there =
          let own = row_of_move h.number (recorded_move row) M
          (subst (IsIn (recorded_move row)) (history_moves row.posting h at) there) in
          subst (λ r. IsIn r M) (row_one own.0 row (own.2 ∙ history_number row.posting h at) own.3) own.1

module _ (raw : Raw) (t : Tables) (all : AllTablesPass raw t) where
  state_has_forms : StateHasForms t.base (state_of t)
  state_has_forms = record {
    base_form = all.meta.1;
    iris = λ n iri e. all.outside.1.forms (n, iri) (iri_row t.outside n iri e);
    labels = λ l h. all.label.1.forms l (row_of labels_total labels_exact t.label l h);
    postings = λ n h e.
        let was = history_row t.resource t.posting t.move all.posting.1 all.move.1 n h e in
        subst (λ (x : History). IsPostingForm x.key x.rec) (sym was.2)
        (all.posting.1.forms was.0 (numbered_in t.posting n was.0 was.1));
  }

  state_is_legal : IsLegalState t.base (state_of t)
  state_is_legal = legal_of_sound t.base (state_of t) (grind (
    arith,
    common_steps,
    postings_legal t.resource t.posting t.move all.posting.1 all.move.1,
  )) state_has_forms

  -- Tables that meet their rules encode the state computed from them.
  tables_hold_state : IsRowsOf t.base (state_of t) t
  tables_hold_state = record {
    base_is = refl;
    resource = refl;
    outside = record { same = refl; ascends = all.outside.1.ascends };
    label = lists_own labels_total labels_exact t.label all.label.1.once;
    link = link_lists t.link t.hier all.link.1.kinds all.link.1.once;
    hier = hier_lists t.link t.hier all.link.1.kinds all.hier.1.once;
    posting = rows_of_histories t.resource t.posting t.move all.posting.1 all.move.1;
    move = moves_of_histories t.resource t.posting t.move all.posting.1 all.move.1;
  }

-- Tables that load encode a legal state, and the rows of cells are those of the tables.
pub loaded_state_legal : (raw : Raw) (t : Tables) → HasVerdict raw (Ok t) → IsLegalState t.base (state_of t)
    × IsRowsOf t.base (state_of t) t × (raw ≡ cells_of_tables t)
loaded_state_legal raw t loads = let all = open_of raw t loads in
    (state_is_legal raw t all, tables_hold_state raw t all, open_listed raw t all)
