-- Each request leaves the histories legal.
use Rattle.std.proofs.lemmas.Grind.{common_steps}
use Rattle.std.proofs.Common.{◌≡◌, ◌≢◌, ◌⊎◌, ◌<◌, ◌≤◌, ℕ, zero, suc, ◌+◌, ◌-◌, ◌^◌, length, List, [], ◌∷◌, ◌++◌, refl}
use Rattle.std.proofs.Common.{sym, ap, ◌∙◌, subst, arith, inl, inr, Bool, true, false, length-append}
use Rattle.std.specs.Prelude.{Option, Some, slice_get, slice_set, count_by}
use Rattle.std.specs.Option.{option_map_or}
use Rattle.std.proofs.lemmas.List.Sums.{sum_by-cons}
use Rattle.std.proofs.lemmas.Option.{same_Some}
use Rattle.std.proofs.lemmas.Bool.{cases_lt, cases_eq}
use Rattle.std.proofs.lemmas.List.{length-set}
use Rattle.thes_base.specs.declared.data.Resource.{Resource}
use Rattle.thes_base.specs.declared.data.History.{History}
use Rattle.thes_base.specs.declared.data.Move.{Move}
use Rattle.thes_base.specs.Resources.{entry_at, set_entry_at, IsConcept, is_live_concept}
use Rattle.thes_base.specs.Postings.{place_after_moves, place, path_end, histories_after_moves, move_count}
use Rattle.thes_base.specs.Postings.{history_after_withdrawal}
use Rattle.thes_base.specs.State.{State}
use Rattle.thes_base.specs.Changes.{new_history, state_after_withdrawal}
use Rattle.thes_base.specs.Legal.{AreLegalPostings, IsLegalHistory, IsLegalMove, AllMoves, HasMove}
use Rattle.thes_base.proofs.ForwardingLemmas.{along_led, along_follows, along_numbers, along_has, count_posted}
use Rattle.thes_base.proofs.NumberedLemmas.{push_old, push_new, push_cases, numbered_bound, set_cases, set_other}
use Rattle.thes_base.proofs.NumberedLemmas.{set_same}
use Rattle.thes_base.proofs.MoveLemmas.{follows_push, all_moves, all_push, place_moved, numbered_moved, count_moved}
use Rattle.thes_base.proofs.MoveLemmas.{length_moved, IsAfterMove, IsAfterMoveAt, slice_forward, rank, rank_apart}
use Rattle.thes_base.proofs.MoveLemmas.{rank_reached, has_push, has_new, has_cases, has_all}
use Rattle.thes_base.proofs.ResourceLemmas.{live_from_test, concept_of_live}

-- Legal moves lead from a concept to a concept.
pub place_concept : (rs : List Resource) (from : ℕ) (moves : List Move) → IsConcept rs from
    → AllMoves (IsLegalMove rs) moves → IsConcept rs (place_after_moves from moves)
place_concept rs from [] at all = at
place_concept rs from (m ∷ moves) at all = place_concept rs m.target moves all.0.1 all.1

-- Unchanged histories stay legal if concepts stay concepts and places stay live.
pub postings_resources : (rs new : List Resource) (hs : List History) → ((n : ℕ) → IsConcept rs n → IsConcept new n)
    → ((n : ℕ) (h : History) → entry_at hs n ≡ Some h → h.withdrawn ≡ false → is_live_concept rs (place h) ≡ true
    → is_live_concept new (place h) ≡ true)
    → AreLegalPostings rs hs → AreLegalPostings new hs
postings_resources rs new hs concepts live legal = record {
  few = legal.few;
  few_moves = legal.few_moves;
  sound = λ n h e. let was = legal.sound n h e in record {
    number = was.number;
    first = concepts h.first was.first;
    well_formed = was.well_formed;
    moves = all_moves _ _ (λ m l. (concepts m.source l.0, concepts m.target l.1, l.2)) h.moves was.moves;
    stands = λ w. live n h e w (was.stands w);
  };
  keys = legal.keys;
  numbers = legal.numbers;
}

-- Assumes that a posting is added with the moves along its path.
module _ (rs : List Resource) (hs : List History) (key rec : List ℕ) (concept : ℕ) (way : List ℕ)
    (legal : AreLegalPostings rs hs) where
  abbrev new : History
  new = new_history key rec concept way hs

  abbrev first_move : ℕ
  first_move = move_count hs + 1

  -- The histories after a new posting are legal.
  pub postings_push : length hs + 1 < 2 ^ 32 → move_count (hs ++ new ∷ []) < 2 ^ 32 → IsConcept rs concept
      → AllMoves (IsLegalMove rs) new.moves → is_live_concept rs (path_end concept way) ≡ true
      → ((n : ℕ) (h : History) → entry_at hs n ≡ Some h → h.key ≢ key) → AreLegalPostings rs (hs ++ new ∷ [])
  postings_push few few_moves first moves live fresh = record {
    few = (let n = length-append hs (new ∷ []) in omega (arith, n, few));
    few_moves = few_moves;
    sound = λ n h e. sound_at n h (push_cases hs new h n e);
    keys = λ m n g h eg eh same. keys_at m n g h same (push_cases hs new g m eg) (push_cases hs new h n eh);
    numbers = record {
      bounded = λ n h e. bounded_at n h (push_cases hs new h n e);
      reached = λ k least most. reached_at k least most (cases_lt (move_count hs) k);
      once = λ k m n g h eg eh kg kh. once_at k m n g h kg kh (push_cases hs new g m eg) (push_cases hs new h n eh);
    };
  }
    where
      grown : move_count (hs ++ new ∷ []) ≡ move_count hs + length way
      grown = count_posted key rec concept way hs

      sound_at : (n : ℕ) (h : History) → (entry_at hs n ≡ Some h) ⊎ ((n ≡ length hs + 1) × (h ≡ new))
          → IsLegalHistory rs n h
      sound_at n h (inl old) = legal.sound n h old
      sound_at n h (inr (at, is)) = subst (λ (x : ℕ × History). IsLegalHistory rs x.0 x.1) (λ i. (sym at i, sym is i))
          (record {
            number = refl;
            first = first;
            well_formed = along_follows 0 first_move concept way (omega arith);
            moves = moves;
            stands = λ _. ap (is_live_concept rs) (along_led first_move concept way) ∙ live;
          })

      keys_at : (m n : ℕ) (g h : History) → g.key ≡ h.key → (entry_at hs m ≡ Some g)
          ⊎ ((m ≡ length hs + 1) × (g ≡ new)) → (entry_at hs n ≡ Some h) ⊎ ((n ≡ length hs + 1) × (h ≡ new)) → m ≡ n
      keys_at m n g h same (inl og) (inl oh) = legal.keys m n g h og oh same
      keys_at m n g h same (inl og) (inr (at, is)) = absurd (fresh m g og (same ∙ ap (λ (x : History). x.key) is))
      keys_at m n g h same (inr (at, is)) (inl oh) = absurd (fresh n h oh (sym same ∙ ap (λ (x : History). x.key) is))
      keys_at m n g h same (inr (at, is)) (inr (bt, js)) = at ∙ sym bt

      bounded_at : (n : ℕ) (h : History) → (entry_at hs n ≡ Some h) ⊎ ((n ≡ length hs + 1) × (h ≡ new))
          → AllMoves (λ m. m.number ≤ move_count (hs ++ new ∷ [])) h.moves
      bounded_at n h (inl old) = all_moves _ _ (λ m l. let q = grown in omega (arith, l, q)) h.moves
          (legal.numbers.bounded n h old)
      bounded_at n h (inr (at, is)) =
          subst (λ (x : History). AllMoves (λ m. m.number ≤ move_count (hs ++ new ∷ [])) x.moves) (sym is)
          (all_moves _ _ (λ m l. let q = grown in let u = l.1 in omega (arith, u, q)) new.moves
          (along_numbers first_move concept way))

      reached_at : (k : ℕ) → 1 ≤ k → k ≤ move_count (hs ++ new ∷ []) → (move_count hs < k) ⊎ (k ≤ move_count hs)
          → (n : ℕ) × (h : History) × (entry_at (hs ++ new ∷ []) n ≡ Some h) × HasMove k h.moves
      reached_at k least most (inr old) = let r = legal.numbers.reached k least old in
          (r.0, r.1, push_old hs new r.1 r.0 r.2, r.3)
      reached_at k least most (inl above) = (
        length hs + 1,
        new,
        push_new hs new,
        along_has k first_move concept way (omega (arith, above))
            (let q = grown in omega (arith, most, q)),
      )

      -- No old move has the number of a new move.
      apart : (k n : ℕ) (h : History) → entry_at hs n ≡ Some h → HasMove k h.moves → HasMove k new.moves → ⊥
      apart k n h e old more =
          let below = has_all (λ m. m.number ≤ move_count hs) (λ q. q ≤ move_count hs) (λ m l. l) k h.moves
          (legal.numbers.bounded n h e) old in
          let above = has_all (λ m. (first_move ≤ m.number) × (m.number < first_move + length way))
          (λ q. first_move ≤ q) (λ m l. l.0) k new.moves (along_numbers first_move concept way) more in
          omega (arith, below, above)

      once_at : (k m n : ℕ) (g h : History) → HasMove k g.moves → HasMove k h.moves → (entry_at hs m ≡ Some g)
          ⊎ ((m ≡ length hs + 1) × (g ≡ new)) → (entry_at hs n ≡ Some h) ⊎ ((n ≡ length hs + 1) × (h ≡ new)) → m ≡ n
      once_at k m n g h kg kh (inl og) (inl oh) = legal.numbers.once k m n g h og oh kg kh
      once_at k m n g h kg kh (inl og) (inr (at, is)) =
          absurd (apart k m g og kg (subst (λ (x : History). HasMove k x.moves) is kh))
      once_at k m n g h kg kh (inr (at, is)) (inl oh) =
          absurd (apart k n h oh kh (subst (λ (x : History). HasMove k x.moves) is kg))
      once_at k m n g h kg kh (inr (at, is)) (inr (bt, js)) = at ∙ sym bt

-- Replacing a history by one with the same number of moves keeps the number of all moves.
count_set : (hs : List History) (i : ℕ) (g h : History) → slice_get hs i ≡ Some g → length h.moves ≡ length g.moves
    → move_count (slice_set hs i h) ≡ move_count hs
count_set [] i g h e same = refl
count_set (x ∷ hs) zero g h e same =
    let a = sum_by-cons (λ (y : History). length y.moves) h hs in
    let b = sum_by-cons (λ (y : History). length y.moves) x hs in
    let c : length x.moves ≡ length g.moves =
    ap (λ (o : Option History). option_map_or (λ (y : History). length y.moves) o 0) e in
    omega (arith, a, b, c)
count_set (x ∷ hs) (suc i) g h e same =
    let a = sum_by-cons (λ (y : History). length y.moves) x (slice_set hs i h) in
    let b = sum_by-cons (λ (y : History). length y.moves) x hs in
    let ih = count_set hs i g h e same in
    omega (arith, a, b, ih)

pub count_set_numbered : (hs : List History) (n : ℕ) (g h : History) → entry_at hs n ≡ Some g → length h.moves
    ≡ length g.moves → move_count (set_entry_at hs n h) ≡ move_count hs
count_set_numbered hs zero g h e same = absurd (cc)
count_set_numbered hs (suc n) g h e same = ap (λ k. move_count (slice_set hs k h)) (let q : suc n - 1 ≡ n =
    omega arith in q) ∙ count_set hs n g h e same

-- In the state after a withdrawal, the history with the posting's number is marked as withdrawn, and the rest is
-- unchanged.
pub withdrawn_at : (s : State) (n : ℕ) (h : History) → entry_at s.histories n ≡ Some h → state_after_withdrawal n s
    ≡ record s { histories = set_entry_at s.histories n (history_after_withdrawal h) }
withdrawn_at s n h e = grind (arith, common_steps)

-- Assumes a withdrawal of posting n, whose history is h.
module _ (rs : List Resource) (hs : List History) (n : ℕ) (h : History) (legal : AreLegalPostings rs hs)
    (e : entry_at hs n ≡ Some h) where
  -- The histories after a withdrawal are legal.
  pub postings_set : AreLegalPostings rs (set_entry_at hs n (history_after_withdrawal h))
  postings_set =
      let b = numbered_bound hs n h e in
      let same = count_set_numbered hs n h (history_after_withdrawal h) e refl in
      record {
        few = (let l = legal.few in let q = length-set hs (n - 1) (history_after_withdrawal h) in omega (arith, l, q));
        few_moves = (let l = legal.few_moves in omega (arith, l, same));
        sound = λ m g eg. sound_at m g (set_cases hs (history_after_withdrawal h) g n m b.0 eg);
        keys = λ j k f g ef eg keyed.
            let was_f = was j f (set_cases hs (history_after_withdrawal h) f n j b.0 ef) in
            let was_g = was k g (set_cases hs (history_after_withdrawal h) g n k b.0 eg) in
            legal.keys j k was_f.0 was_g.0 was_f.1 was_g.1 (sym was_f.2 ∙ keyed ∙ was_g.2);
        numbers = record {
          bounded = λ m g eg. let was_g = was m g (set_cases hs (history_after_withdrawal h) g n m b.0 eg) in
              subst (λ l. AllMoves (λ x. x.number ≤ move_count (set_entry_at hs n (history_after_withdrawal h))) l)
              (sym was_g.3) (all_moves _ _ (λ x l. omega (arith, l, same)) was_g.0.moves
              (legal.numbers.bounded m was_g.0 was_g.1));
          reached = λ k least most. let r = legal.numbers.reached k least (omega (arith, most, same)) in
              forward k b.0 r.0 r.1 r.2 r.3 (cases_eq r.0 n);
          once = λ k j m f g ef eg kf kg.
              let was_f = was j f (set_cases hs (history_after_withdrawal h) f n j b.0 ef) in
              let was_g = was m g (set_cases hs (history_after_withdrawal h) g n m b.0 eg) in
              legal.numbers.once k j m was_f.0 was_g.0 was_f.1 was_g.1 (subst (HasMove k) was_f.3 kf)
              (subst (HasMove k) was_g.3 kg);
        };
      }
    where
      was : (m : ℕ) (g : History) → ((m ≡ n) × (g ≡ history_after_withdrawal h))
          ⊎ ((m ≢ n) × (entry_at hs m ≡ Some g)) → (f : History) × (entry_at hs m ≡ Some f) × (g.key ≡ f.key)
          × (g.moves ≡ f.moves)
      was m g (inl (at, is)) = (
        h,
        ap (entry_at hs) at ∙ e,
        ap (λ (x : History). x.key) is,
        ap (λ (x : History). x.moves) is,
      )
      was m g (inr (apart, old)) = (g, old, refl, refl)

      sound_at : (m : ℕ) (g : History) → ((m ≡ n) × (g ≡ history_after_withdrawal h))
          ⊎ ((m ≢ n) × (entry_at hs m ≡ Some g)) → IsLegalHistory rs m g
      sound_at m g (inl (at, is)) =
          let mine = legal.sound n h e in
          subst (λ (x : ℕ × History). IsLegalHistory rs x.0 x.1) (λ i. (sym at i, sym is i))
          (record {
            number = mine.number;
            first = mine.first;
            well_formed = mine.well_formed;
            moves =
                mine.moves;
            stands = λ w. absurd (cc);
          })
      sound_at m g (inr (apart, old)) = legal.sound m g old

      forward : (k : ℕ) → 1 ≤ n → (m : ℕ) (g : History) → entry_at hs m ≡ Some g → HasMove k g.moves → (m ≡ n)
          ⊎ (m ≢ n) → (j : ℕ) × (f : History) × (entry_at (set_entry_at hs n (history_after_withdrawal h)) j ≡ Some f)
          × HasMove k f.moves
      forward k least m g eg has (inl at) = (
        n,
        history_after_withdrawal h,
        set_same hs (history_after_withdrawal h) h n e,
        subst (λ (x : History). HasMove k x.moves) (same_Some _ _ (sym eg ∙ ap (entry_at hs) at ∙ e)) has,
      )
      forward k least m g eg has (inr apart) = (
        m,
        g,
        set_other hs (history_after_withdrawal h) g n m least apart eg,
        has,
      )

pub postings_withdrawn : (s : State) (n : ℕ) (h : History) → AreLegalPostings s.resources s.histories
    → entry_at s.histories n ≡ Some h → AreLegalPostings s.resources (state_after_withdrawal n s).histories
postings_withdrawn s n h legal e = subst (λ (x : State). AreLegalPostings s.resources x.histories)
    (sym (withdrawn_at s n h e)) (postings_set s.resources s.histories n h legal e)

-- Assumes that the postings that pass a test move to a target.
module _ (rs : List Resource) (hs : List History) (passes : History → Bool) (target : ℕ)
    (legal : AreLegalPostings rs hs) where
  abbrev start : ℕ
  start = move_count hs + 1

  abbrev pub moved_all : List History
  moved_all = histories_after_moves passes target start hs

  -- The histories after the moves are legal, if the target is a live concept and wasn't the place of a moved posting.
  pub postings_moved : is_live_concept rs target ≡ true → ((n : ℕ) (h : History) → entry_at hs n ≡ Some h → passes h
      ≡ true → place h ≢ target) → move_count moved_all < 2 ^ 32 → AreLegalPostings rs moved_all
  postings_moved live apart few_moves = record {
    few = (let q = length_moved passes target start hs in let l = legal.few in omega (arith, q, l));
    few_moves = few_moves;
    sound = λ n new e. let was = numbered_moved passes target start hs n new e in sound_at n new was.0 was.1 was.2;
    keys = λ j k f g ef eg keyed.
        let was_f = numbered_moved passes target start hs j f ef in
        let was_g = numbered_moved passes target start hs k g eg in
        legal.keys j k was_f.0 was_g.0 was_f.1 was_g.1 (sym (same_key f was_f.0 was_f.2) ∙ keyed
        ∙ same_key g was_g.0 was_g.2);
    numbers = record {
      bounded = λ n new e. let was = numbered_moved passes target start hs n new e in
          bounded_at n new was.0 was.1 was.2;
      reached = reached_at;
      once = once_at;
    };
  }
    where
      -- Each history after the moves is legal.
      sound_at : (n : ℕ) (new h : History) → entry_at hs n ≡ Some h → IsAfterMove passes target start
          (start + count_by passes hs) h new → IsLegalHistory rs n new
      sound_at n new h e (inl (hit, k, least, most, is)) =
          let was = legal.sound n h e in
          subst (IsLegalHistory rs n) (sym is) (record {
            number = was.number;
            first = was.first;
            well_formed = follows_push 0 h.first h.moves _ was.well_formed (omega (arith, least))
                (all_moves _ _ (λ m l. omega (arith, l, least)) h.moves (legal.numbers.bounded n h e)) refl;
            moves = all_push _ h.moves _ was.moves (
              place_concept rs h.first h.moves was.first was.moves,
              concept_of_live rs target (live_from_test rs target live),
              apart n h e hit,
            );
            stands = λ w. ap (is_live_concept rs) (place_moved k target h) ∙ live;
          })
      sound_at n new h e (inr (miss, is)) = subst (IsLegalHistory rs n) (sym is) (legal.sound n h e)

      same_key : (new h : History) → IsAfterMove passes target start (start + count_by passes hs) h new → new.key
          ≡ h.key
      same_key new h (inl (hit, k, least, most, is)) = ap (λ (x : History). x.key) is
      same_key new h (inr (miss, is)) = ap (λ (x : History). x.key) is

      bounded_at : (n : ℕ) (new h : History) → entry_at hs n ≡ Some h → IsAfterMove passes target start
          (start + count_by passes hs) h new → AllMoves (λ m. m.number ≤ move_count moved_all) new.moves
      bounded_at n new h e (inl (hit, k, least, most, is)) =
          let grown = count_moved passes target start hs in
          subst (λ (x : History). AllMoves (λ m. m.number ≤ move_count moved_all) x.moves) (sym is)
          (all_push _ h.moves _ (all_moves _ _ (λ m l. omega (arith, l, grown)) h.moves (legal.numbers.bounded n h e))
          (omega (arith, most, grown)))
      bounded_at n new h e (inr (miss, is)) =
          let grown = count_moved passes target start hs in
          subst (λ (x : History). AllMoves (λ m. m.number ≤ move_count moved_all) x.moves) (sym is)
          (all_moves _ _ (λ m l. omega (arith, l, grown)) h.moves (legal.numbers.bounded n h e))

      -- Each old history has a successor after the moves, with the same number.
      forward : (n : ℕ) (h : History) → entry_at hs n ≡ Some h → (new : History) × (entry_at moved_all n ≡ Some new)
          × (IsAfterMoveAt passes target start hs (n - 1) h new)
      forward zero h e = absurd (cc)
      forward (suc i) h e =
          let r = slice_forward passes target start hs i h e in
          let back : i ≡ suc i - 1 = omega arith in
          (r.0, r.1, subst (λ j. IsAfterMoveAt passes target start hs j h r.0) back r.2)

      kept_has : (k i : ℕ) (h new : History) → IsAfterMoveAt passes target start hs i h new → HasMove k h.moves
          → HasMove k new.moves
      kept_has k i h new (inl (hit, j, at, is)) has = subst (λ (x : History). HasMove k x.moves) (sym is)
          (has_push k h.moves _ has)
      kept_has k i h new (inr (miss, is)) has = subst (λ (x : History). HasMove k x.moves) (sym is) has

      new_has : (k i : ℕ) (h new : History) → passes h ≡ true → start + rank passes hs i ≡ k
          → IsAfterMoveAt passes target start hs i h new → HasMove k new.moves
      new_has k i h new hit is_k (inl (_, j, at, is)) = subst (λ (x : History). HasMove k x.moves) (sym is)
          (let m = has_new h.moves (record { number = j; source = place h; target = target }) in
          subst (λ q. HasMove q (h.moves ++ record { number = j; source = place h; target = target } ∷ []))
          (at ∙ is_k) m)
      new_has k i h new hit is_k (inr (miss, is)) = absurd (cc)

      -- After the moves, each number from 1 to the count of all moves belongs to a move.
      reached_at : (k : ℕ) → 1 ≤ k → k ≤ move_count moved_all → (n : ℕ) × (h : History)
          × (entry_at moved_all n ≡ Some h) × HasMove k h.moves
      reached_at k least most = elim (cases_lt (move_count hs) k) [
        | inl above ↦
            let grown = count_moved passes target start hs in
            let r = rank_reached passes target hs (k - start) (omega (arith, above, most, grown)) in
            let f = slice_forward passes target start hs r.0 r.1 r.2 in
            (suc r.0, f.0, f.1, new_has k r.0 r.1 f.0 r.3 (let q = r.4 in omega (arith, q, above)) f.2)
        | inr old ↦
            let r = legal.numbers.reached k least old in
            let f = forward r.0 r.1 r.2 in
            (r.0, f.0, f.1, kept_has k (r.0 - 1) r.1 f.0 f.2 r.3)
      ]

      -- Each move in the new histories has the number of an old move, or of the new move of a posting that passes the
      -- test.
      whose : (k n : ℕ) (new : History) → entry_at moved_all n ≡ Some new → HasMove k new.moves
          → ((h : History) × (entry_at hs n ≡ Some h) × HasMove k h.moves)
          ⊎ ((i : ℕ) × (n ≡ suc i) × (h : History) × (slice_get hs i ≡ Some h) × (passes h ≡ true)
          × (k ≡ start + rank passes hs i))
      whose k zero new e has = absurd (cc)
      whose k (suc i) new e has =
          let was = numbered_moved passes target start hs (suc i) new e in
          let f = slice_forward passes target start hs i was.0 was.1 in
          split was.0 was.1 f.2 (subst (λ (x : History). HasMove k x.moves) (same_Some _ _ (sym e ∙ f.1)) has)
        where
          split : (h : History) → slice_get hs i ≡ Some h → {made : History} → IsAfterMoveAt passes target start hs i
              h made → HasMove k made.moves
              → ((h : History) × (entry_at hs (suc i) ≡ Some h) × HasMove k h.moves)
              ⊎ ((j : ℕ) × (suc i ≡ suc j) × (h : History) × (slice_get hs j ≡ Some h) × (passes h ≡ true)
              × (k ≡ start + rank passes hs j))
          split h at (inl (hit, j, is_j, is)) has =
              elim (has_cases k h.moves _ (subst (λ (x : History). HasMove k x.moves) is has)) [
                | inl old ↦ inl (h, at, old)
                | inr same ↦ inr (i, refl, h, at, hit, sym same ∙ is_j)
              ]
          split h at (inr (miss, is)) has = inl (h, at, subst (λ (x : History). HasMove k x.moves) is has)

      -- No two histories have a move with the same number.
      once_at : (k m n : ℕ) (g h : History) → entry_at moved_all m ≡ Some g → entry_at moved_all n ≡ Some h
          → HasMove k g.moves → HasMove k h.moves → m ≡ n
      once_at k m n g h eg eh kg kh = pair (whose k m g eg kg) (whose k n h eh kh)
        where
          old_bound : (j : ℕ) (f : History) → entry_at hs j ≡ Some f → HasMove k f.moves → k ≤ move_count hs
          old_bound j f e has = has_all (λ x. x.number ≤ move_count hs) (λ q. q ≤ move_count hs) (λ x l. l) k f.moves
              (legal.numbers.bounded j f e) has

          pair : ((f : History) × (entry_at hs m ≡ Some f) × HasMove k f.moves)
              ⊎ ((i : ℕ) × (m ≡ suc i) × (f : History) × (slice_get hs i ≡ Some f) × (passes f ≡ true)
              × (k ≡ start + rank passes hs i))
              → ((f : History) × (entry_at hs n ≡ Some f) × HasMove k f.moves)
              ⊎ ((i : ℕ) × (n ≡ suc i) × (f : History) × (slice_get hs i ≡ Some f) × (passes f ≡ true)
              × (k ≡ start + rank passes hs i)) → m ≡ n
          pair (inl (f, ef, kf)) (inl (q, eq, kq)) = legal.numbers.once k m n f q ef eq kf kq
          pair (inl (f, ef, kf)) (inr (i, at, q, eq, hit, is)) = let l = old_bound m f ef kf in
              absurd (omega (arith, l, is))
          pair (inr (i, at, f, ef, hit, is)) (inl (q, eq, kq)) = let l = old_bound n q eq kq in
              absurd (omega (arith, l, is))
          pair (inr (i, at, f, ef, hit, is)) (inr (j, bt, q, eq, hit2, js)) =
              at ∙ ap suc (rank_apart passes target hs i j f q ef eq hit hit2 (omega (arith, is, js))) ∙ sym bt
