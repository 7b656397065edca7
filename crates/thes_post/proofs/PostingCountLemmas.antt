-- After each change of the histories, the changed counts of postings are those of the new histories.
use Rattle.std.proofs.Common.{◌≡◌, ◌≢◌, ◌<◌, ◌≤◌, ◌^◌, ℕ, zero, suc, ◌+◌, ◌-◌, length, List, [], ◌∷◌, refl, sym, ap, ◌∙◌}
use Rattle.std.proofs.Common.{subst, arith, inl, inr, Bool, true, false, cond, not, ◌&&◌, eqb, eqb-true, ne_eqb}
use Rattle.std.proofs.Common.{length-append}
use borrow.Author.Tests.{eq-eqb}
use Rattle.std.specs.Prelude.{Some, None, Option, count_by, slice_get, slice_set}
use Rattle.std.specs.Option.{option_map_or}
use Rattle.std.proofs.lemmas.Bool.{cases_Bool, and_parts, not-true, cases_eq}
use Rattle.std.proofs.lemmas.List.Sums.{sum_by-cons, sum_by_push, count_by-le-length}
use Rattle.std.proofs.lemmas.List.{length-set}
use Rattle.thes_base.specs.declared.data.History.{History}
use Rattle.thes_base.specs.Resources.{entry_at, set_entry_at}
use Rattle.thes_base.specs.Postings.{place, history_after_move, histories_after_moves, history_after_withdrawal}
use Rattle.thes_base.specs.Postings.{is_assigned_to, assigned_count, withdrawn_count, move_count, path_end}
use Rattle.thes_base.specs.Changes.{new_history, histories_after_post, histories_after_withdrawal}
use Rattle.thes_base.proofs.ForwardingLemmas.{along_led, count_posted}
use Rattle.thes_base.proofs.MoveLemmas.{place_moved, length_moved, count_moved}
use Rattle.thes_base.proofs.LegalPostingLemmas.{count_set_numbered}
use Rattle.thes_post.specs.PostingCounts.{PostingCounts, count_of, ArePostingCounts, CountsAfterPost}
use Rattle.thes_post.specs.PostingCounts.{CountsAfterWithdrawal, CountsAfterMoves, HasPostToTakeBack}
use Rattle.thes_post.specs.PostingCounts.{HasMovesToTakeBack, HasWithdrawalToTakeBack}

stands_here : (c : ℕ) (h : History) → h.withdrawn ≡ false → place h ≡ c → is_assigned_to c h ≡ true
stands_here c h stays at = λ i. not (stays i) && eq-eqb (place h) c at i

stands_not : (c : ℕ) (h : History) → place h ≢ c → is_assigned_to c h ≡ false
stands_not c h apart = elim (cases_Bool (not h.withdrawn)) [
  | inl stays ↦ λ i. stays i && ne_eqb (place h) c apart i
  | inr gone ↦ ap (λ b. b && eqb (place h) c) gone
]

-- A posting assigned to a concept isn't withdrawn, and has the concept as its place.
pub stands_parts : (c : ℕ) (h : History) → is_assigned_to c h ≡ true → (h.withdrawn ≡ false) × (place h ≡ c)
stands_parts c h s = let parts = and_parts (not h.withdrawn) (eqb (place h) c) s in
    (not-true h.withdrawn parts.0, eqb-true (place h) c parts.1)

-- If a history is replaced, the number of histories that pass a test falls by one if the old history passes, and rises
-- by one if the new one does.
count_set : (test : History → Bool) (hs : List History) (i : ℕ) (h new : History) → slice_get hs i ≡ Some h
    → count_by test (slice_set hs i new) + cond (test h) 1 0 ≡ count_by test hs + cond (test new) 1 0
count_set test [] i h new e = absurd (cc)
count_set test (x ∷ hs) zero h new e =
    let a = sum_by-cons (λ y. cond (test y) 1 0) new hs in
    let b = sum_by-cons (λ y. cond (test y) 1 0) x hs in
    let c = ap {B = ℕ} (λ (o : Option History). option_map_or (λ y. cond (test y) 1 0) o 0) e in
    omega (arith, a, b, c)
count_set test (x ∷ hs) (suc i) h new e =
    let a = sum_by-cons (λ y. cond (test y) 1 0) x (slice_set hs i new) in
    let b = sum_by-cons (λ y. cond (test y) 1 0) x hs in
    let ih = count_set test hs i h new e in
    omega (arith, a, b, ih)

-- From `x` to `y`, each count changes by as much as the number that it counts does from the histories `gs` to `hs`.
record ChangeAlike (gs hs : List History) (x y : PostingCounts) : Type 0 where
  standing : (c : ℕ) → count_of y c + assigned_count c gs ≡ count_of x c + assigned_count c hs
  accepted : y.accepted + length gs ≡ x.accepted + length hs
  withdrawn : y.withdrawn + withdrawn_count gs ≡ x.withdrawn + withdrawn_count hs
  moves : y.moves + move_count gs ≡ x.moves + move_count hs

-- If `x` are the counts of `gs`, then after such a change `y` are the counts of `hs`.
counts_alike : (gs hs : List History) (x y : PostingCounts) → ChangeAlike gs hs x y → ArePostingCounts gs x
    → ArePostingCounts hs y
counts_alike gs hs x y alike are = record {
  standing = λ c. let a = alike.standing c in let s = are.standing c in omega (arith, a, s);
  accepted = (let a = alike.accepted in let s = are.accepted in omega (arith, a, s));
  withdrawn = (let a = alike.withdrawn in let s = are.withdrawn in omega (arith, a, s));
  moves = (let a = alike.moves in let s = are.moves in omega (arith, a, s));
}

taken_back : (gs hs : List History) (x y : PostingCounts) → ChangeAlike gs hs x y → ChangeAlike hs gs y x
taken_back gs hs x y alike = record {
  standing = λ c. sym (alike.standing c);
  accepted = sym alike.accepted;
  withdrawn = sym alike.withdrawn;
  moves = sym alike.moves;
}

-- Assumes that a posting is added with the moves along its path.
module _ (hs : List History) (key rec : List ℕ) (first : ℕ) (way : List ℕ) where
  abbrev posted : List History
  posted = histories_after_post key rec first way hs

  abbrev last : History
  last = new_history key rec first way hs

  ends : place last ≡ path_end first way
  ends = along_led (move_count hs + 1) first way

  more : (c : ℕ) → assigned_count c posted ≡ assigned_count c hs + cond (is_assigned_to c last) 1 0
  more c = sum_by_push (λ (x : History). cond (is_assigned_to c x) 1 0) hs last

  alike_posted : (old new : PostingCounts) → CountsAfterPost (path_end first way) (length way) old new
      → ChangeAlike hs posted old new
  alike_posted old new one = record {
    standing = λ c. elim (cases_eq c (path_end first way)) [
      | inl here ↦
          let a = ap (count_of new) here in
          let b = one.here in
          let d = ap (count_of old) here in
          let m = more c in
          let t = ap {B = ℕ} (λ b. cond b 1 0) (stands_here c last refl (ends ∙ sym here)) in
          omega (arith, a, b, d, m, t)
      | inr apart ↦
          let b = one.others c apart in
          let m = more c in
          let t = ap {B = ℕ} (λ b. cond b 1 0) (stands_not c last (λ e. apart (sym e ∙ ends))) in
          omega (arith, b, m, t)
    ];
    accepted = (let a = one.accepted in let l = length-append hs (last ∷ []) in omega (arith, a, l));
    withdrawn = (let a = one.withdrawn in let w = sum_by_push (λ (x : History). cond x.withdrawn 1 0) hs last in
        omega (arith, a, w));
    moves = (let a = one.moves in let m = count_posted key rec first way hs in omega (arith, a, m));
  }

  -- Once a new posting is counted, the counts are those of the histories with it.
  pub sums_posted : (old new : PostingCounts) → ArePostingCounts hs old → CountsAfterPost (path_end first way)
      (length way) old new → ArePostingCounts posted new
  sums_posted old new are one = counts_alike hs posted old new (alike_posted old new one) are

  -- Once a new posting is taken back, the counts are again those of the histories without it.
  pub sums_before_post : (old new : PostingCounts) → ArePostingCounts posted old → CountsAfterPost (path_end first way)
      (length way) new old → ArePostingCounts hs new
  sums_before_post old new are one =
      counts_alike posted hs old new (taken_back hs posted new old (alike_posted new old one)) are

  -- The posting that was counted last can be taken back from the counts.
  pub post_counted : (old : PostingCounts) → ArePostingCounts posted old
      → HasPostToTakeBack (path_end first way) (length way) old
  post_counted old are = record {
    here = (let s = are.standing (path_end first way) in let m = more (path_end first way) in let t =
        ap {B = ℕ} (λ b. cond b 1 0) (stands_here (path_end first way) last refl ends) in omega (arith, s, m, t));
    accepted = (let a = are.accepted in let b = are.withdrawn in let l = length-append hs (last ∷ []) in let w =
        sum_by_push (λ (x : History). cond x.withdrawn 1 0) hs last in let k =
        count_by-le-length (λ (x : History). x.withdrawn) hs in omega (arith, a, b, l, w, k));
    moves = (let a = are.moves in let m = count_posted key rec first way hs in omega (arith, a, m));
  }

-- Assumes a withdrawal of posting n, whose history is h and which wasn't withdrawn before.
module _ (hs : List History) (n : ℕ) (h : History) (at : entry_at hs n ≡ Some h) (stays : h.withdrawn ≡ false) where
  abbrev less : List History
  less = set_entry_at hs n (history_after_withdrawal h)

  set_count : (test : History → Bool) → count_by test less + cond (test h) 1 0 ≡ count_by test hs
      + cond (test (history_after_withdrawal h)) 1 0
  set_count test = go n at
    where
      go : (m : ℕ) → entry_at hs m ≡ Some h → count_by test (set_entry_at hs m (history_after_withdrawal h))
          + cond (test h) 1 0 ≡ count_by test hs + cond (test (history_after_withdrawal h)) 1 0
      go zero e = absurd (cc)
      go (suc m) e = subst (λ k. count_by test (slice_set hs k (history_after_withdrawal h)) + cond (test h) 1 0
          ≡ count_by test hs + cond (test (history_after_withdrawal h)) 1 0) (let q : m ≡ suc m - 1 = omega arith in
          q) (count_set test hs m h (history_after_withdrawal h) e)

  -- At least one posting is assigned to the place of posting n: posting n itself.
  pub one_stands : 0 < assigned_count (place h) hs
  one_stands =
      let c = set_count (is_assigned_to (place h)) in
      let t = ap {B = ℕ} (λ b. cond b 1 0) (stands_here (place h) h stays refl) in
      omega (arith, c, t)

  pub one_stays : withdrawn_count hs < length hs
  one_stays =
      let c = set_count (λ x. x.withdrawn) in
      let t = ap {B = ℕ} (λ b. cond b 1 0) stays in
      let l = count_by-le-length (λ (x : History). x.withdrawn) less in
      let k = length-set hs (n - 1) (history_after_withdrawal h) in
      omega (arith, c, t, l, k)

  alike_withdrawn : (old new : PostingCounts) → CountsAfterWithdrawal (place h) old new → ChangeAlike hs less old new
  alike_withdrawn old new one = record {
    standing = λ c. elim (cases_eq c (place h)) [
      | inl here ↦
          let a = ap (count_of new) here in
          let b = one.here in
          let d = ap (count_of old) here in
          let m = set_count (is_assigned_to c) in
          let t = ap {B = ℕ} (λ b. cond b 1 0) (stands_here c h stays (sym here)) in
          omega (arith, a, b, d, m, t)
      | inr apart ↦
          let b = one.others c apart in
          let m = set_count (is_assigned_to c) in
          let t = ap {B = ℕ} (λ b. cond b 1 0) (stands_not c h (λ e. apart (sym e))) in
          omega (arith, b, m, t)
    ];
    accepted = (let a = one.accepted in let l = length-set hs (n - 1) (history_after_withdrawal h) in
        omega (arith, a, l));
    withdrawn = (let a = one.withdrawn in let w = set_count (λ x. x.withdrawn) in
        let t = ap {B = ℕ} (λ b. cond b 1 0) stays in omega (arith, a, w, t));
    moves = (let a = one.moves in let m = count_set_numbered hs n h (history_after_withdrawal h) at refl in
        omega (arith, a, m));
  }

  same_less : histories_after_withdrawal n hs ≡ less
  same_less = ap (λ (o : Option History). elim o [
    | None ↦ hs
    | Some g ↦ set_entry_at hs n (history_after_withdrawal g)
  ]) at

  -- Once a withdrawal is counted, the counts are those of the histories after it.
  pub sums_withdrawn : (old new : PostingCounts) → ArePostingCounts hs old → CountsAfterWithdrawal (place h) old new
      → ArePostingCounts (histories_after_withdrawal n hs) new
  sums_withdrawn old new are one = subst (λ l. ArePostingCounts l new) (sym same_less)
      (counts_alike hs less old new (alike_withdrawn old new one) are)

  -- Once a withdrawal is taken back, the counts are again those of the histories before it.
  pub sums_before_withdrawal : (old new : PostingCounts) → ArePostingCounts (histories_after_withdrawal n hs) old
      → CountsAfterWithdrawal (place h) new old → ArePostingCounts hs new
  sums_before_withdrawal old new counted one =
      counts_alike less hs old new (taken_back hs less new old (alike_withdrawn new old one))
      (subst (λ l. ArePostingCounts l old) same_less counted)

  -- A counted withdrawal can be taken back from the counts.
  pub withdrawal_counted : (old : PostingCounts) → ArePostingCounts (histories_after_withdrawal n hs) old
      → length hs < 2 ^ 32 → HasWithdrawalToTakeBack (place h) old
  withdrawal_counted old counted few =
      let are : ArePostingCounts less old = subst (λ l. ArePostingCounts l old) same_less counted in
      record {
        here = (let s = are.standing (place h) in let m = set_count (is_assigned_to (place h)) in let t =
            ap {B = ℕ} (λ b. cond b 1 0) (stands_here (place h) h stays refl) in let k =
            count_by-le-length (is_assigned_to (place h)) hs in omega (arith, s, m, t, k, few));
        withdrawn = (let b = are.withdrawn in let w = set_count (λ x. x.withdrawn) in let t =
            ap {B = ℕ} (λ b. cond b 1 0) stays in omega (arith, b, w, t));
      }

-- Assumes that the postings that pass a test move from the source to the target.
module _ (passes : History → Bool) (source target : ℕ) (apart : source ≢ target) where
  -- The postings that pass the test are assigned to the source.
  abbrev pub AllAssigned : List History → Type 0
  AllAssigned [] = Unit {0}
  AllAssigned (h ∷ hs) = (passes h ≡ true → is_assigned_to source h ≡ true) × AllAssigned hs

  -- The test gives `before` for the posting, and `after` once the posting has moved to the target.
  abbrev Turns : (History → Bool) → Bool → Bool → History → Type 0
  Turns test before after h = (test h ≡ before) × ((n : ℕ) → test (history_after_move n target h) ≡ after)

  one_more : (b : Bool) (k : ℕ) → cond b (1 + k) 0 ≡ cond b 1 0 + cond b k 0
  one_more true k = refl
  one_more false k = refl

  -- If a test gives `before` for each posting of the source, and `after` once the posting has moved, the moves change
  -- the number of histories that pass the test by the number of postings moved, or not at all.
  turned : (test : History → Bool) (before after : Bool) → ((h : History) → is_assigned_to source h ≡ true
      → Turns test before after h) → (number : ℕ) (hs : List History) → AllAssigned hs
      → count_by test (histories_after_moves passes target number hs) + cond before (count_by passes hs) 0
      ≡ count_by test hs + cond after (count_by passes hs) 0
  turned test before after turns number [] all = let a = either before 0 in let b = either after 0 in
      omega (arith, a, b)
    where
      either : (b : Bool) (k : ℕ) → cond b k k ≡ k
      either true k = refl
      either false k = refl
  turned test before after turns number (h ∷ hs) all = elim (cases_Bool (passes h)) [
    | inl hit ↦
        let t = turns h (all.0 hit) in
        let l = ap
        (λ b. count_by test
        (cond b (history_after_move number target h ∷ histories_after_moves passes target (number + 1) hs)
        (h ∷ histories_after_moves passes target number hs))) hit in
        let a = sum_by-cons (λ x. cond (test x) 1 0) (history_after_move number target h)
        (histories_after_moves passes target (number + 1) hs) in
        let b = sum_by-cons (λ x. cond (test x) 1 0) h hs in
        let k : count_by passes (h ∷ hs) ≡ 1 + count_by passes hs = sum_by-cons (λ x. cond (passes x) 1 0) h hs
        ∙ ap (λ b. cond b 1 0 + count_by passes hs) hit in
        let kb = ap (λ n. cond before n 0) k ∙ one_more before (count_by passes hs) in
        let ka = ap (λ n. cond after n 0) k ∙ one_more after (count_by passes hs) in
        let was = ap {B = ℕ} (λ b. cond b 1 0) t.0 in
        let is = ap {B = ℕ} (λ b. cond b 1 0) (t.1 number) in
        let ih = turned test before after turns (number + 1) hs all.1 in
        omega (arith, l, a, b, kb, ka, was, is, ih)
    | inr miss ↦
        let l = ap
        (λ b. count_by test
        (cond b (history_after_move number target h ∷ histories_after_moves passes target (number + 1) hs)
        (h ∷ histories_after_moves passes target number hs))) miss in
        let a = sum_by-cons (λ x. cond (test x) 1 0) h (histories_after_moves passes target number hs) in
        let b = sum_by-cons (λ x. cond (test x) 1 0) h hs in
        let k : count_by passes (h ∷ hs) ≡ 0 + count_by passes hs = sum_by-cons (λ x. cond (passes x) 1 0) h hs
        ∙ ap (λ b. cond b 1 0 + count_by passes hs) miss in
        let kk : count_by passes (h ∷ hs) ≡ count_by passes hs = omega (arith, k) in
        let kb = ap (λ n. cond before n 0) kk in
        let ka = ap (λ n. cond after n 0) kk in
        let ih = turned test before after turns number hs all.1 in
        omega (arith, l, a, b, kb, ka, ih)
  ]

  module _ (number : ℕ) (hs : List History) (all : AllAssigned hs) where
    abbrev after_moves : List History
    after_moves = histories_after_moves passes target number hs

    fewer : assigned_count source after_moves + count_by passes hs ≡ assigned_count source hs
    fewer =
        let e = turned (is_assigned_to source) true false
        (λ h s. (
          s,
          λ n. stands_not source (history_after_move n target h)
              (λ q. apart (sym q ∙ place_moved n target h)),
        )) number hs all in
        omega (arith, e)

    more_there : assigned_count target after_moves ≡ assigned_count target hs + count_by passes hs
    more_there =
        let e = turned (is_assigned_to target) false true (λ h s. let p = stands_parts source h s in (
          stands_not target h (λ q. apart (sym p.1 ∙ q)),
          λ n. stands_here target (history_after_move n target h)
              p.0 (place_moved n target h),
        )) number hs all in
        omega (arith, e)

    others : (c : ℕ) → c ≢ source → c ≢ target → assigned_count c after_moves ≡ assigned_count c hs
    others c no_source no_target =
        let e = turned (is_assigned_to c) false false (λ h s. let p = stands_parts source h s in (
          stands_not c h (λ q. no_source (sym q ∙ p.1)),
          λ n. stands_not c (history_after_move n target h)
              (λ q. no_target (sym q ∙ place_moved n target h)),
        )) number hs all in
        omega (arith, e)

    same_withdrawn : withdrawn_count after_moves ≡ withdrawn_count hs
    same_withdrawn =
        let e = turned (λ x. x.withdrawn) false false (λ h s. let p = stands_parts source h s in (p.0, λ n. p.0))
        number hs all in
        omega (arith, e)

    -- The postings assigned to the target and those that move to it are together at most all postings.
    pub both_fit : assigned_count target hs + count_by passes hs ≤ length hs
    both_fit =
        let m = more_there in
        let l = count_by-le-length (is_assigned_to target) after_moves in
        let k = length_moved passes target number hs in
        omega (arith, m, l, k)

    pub fewer_than : count_by passes hs ≤ assigned_count source hs
    fewer_than = let f = fewer in omega (arith, f)

    alike_moved : (count : ℕ) → count ≡ count_by passes hs → (old new : PostingCounts)
        → CountsAfterMoves source target count old new → ChangeAlike hs after_moves old new
    alike_moved count is old new some = record {
      standing = λ c. elim (cases_eq c source) [
        | inl here ↦
            let m = some.at_source in
            let f = fewer in
            subst (λ d. count_of new d + assigned_count d hs ≡ count_of old d + assigned_count d after_moves)
            (sym here) (omega (arith, m, f, is))
        | inr no_source ↦ elim (cases_eq c target) [
          | inl there ↦
              let m = some.at_target in
              let f = more_there in
              subst (λ d. count_of new d + assigned_count d hs ≡ count_of old d + assigned_count d after_moves)
              (sym there) (omega (arith, m, f, is))
          | inr no_target ↦
              let m = some.others c no_source no_target in
              let f = others c no_source no_target in
              omega (arith, m, f)
        ]
      ];
      accepted = (let a = some.accepted in let l = length_moved passes target number hs in omega (arith, a, l));
      withdrawn = (let a = some.withdrawn in let w = same_withdrawn in omega (arith, a, w));
      moves = (let a = some.moves in let m = count_moved passes target number hs in omega (arith, a, m, is));
    }

    -- Once the moves are counted, the counts are those of the histories after them.
    pub sums_moved : (count : ℕ) → count ≡ count_by passes hs → (old new : PostingCounts) → ArePostingCounts hs old
        → CountsAfterMoves source target count old new → ArePostingCounts after_moves new
    sums_moved count is old new are some = counts_alike hs after_moves old new (alike_moved count is old new some) are

    -- Once the moves are taken back, the counts are again those of the histories before them.
    pub sums_before_moves : (count : ℕ) → count ≡ count_by passes hs → (old new : PostingCounts)
        → ArePostingCounts after_moves old → CountsAfterMoves source target count new old → ArePostingCounts hs new
    sums_before_moves count is old new are some =
        counts_alike after_moves hs old new (taken_back hs after_moves new old (alike_moved count is new old some)) are

    -- Counted moves can be taken back from the counts.
    pub moves_counted : (count : ℕ) → count ≡ count_by passes hs → (old : PostingCounts)
        → ArePostingCounts after_moves old → length hs < 2 ^ 32 → HasMovesToTakeBack source target count old
    moves_counted count is old are few = record {
      standing = (let s = are.standing target in let m = more_there in omega (arith, s, m, is));
      there = (let s = are.standing source in let f = fewer in let k =
          count_by-le-length (is_assigned_to source) hs in omega (arith, s, f, k, few, is));
      moves = (let b = are.moves in let m = count_moved passes target number hs in omega (arith, b, m, is));
    }

-- The test `is_assigned_to source` picks only postings that are assigned to the source.
pub all_assigned : (source target : ℕ) (apart : source ≢ target) (hs : List History)
    → AllAssigned (is_assigned_to source) source target apart hs
all_assigned source target apart [] = tt
all_assigned source target apart (h ∷ hs) = (λ s. s, all_assigned source target apart hs)

-- The counts of an empty list of histories are 0.
pub sums_none : ArePostingCounts [] (record { counts = []; accepted = 0; withdrawn = 0; moves = 0 })
sums_none = record { standing = λ c. refl; accepted = refl; withdrawn = refl; moves = refl }
