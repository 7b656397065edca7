-- Proves that each step of the depth-first walk keeps its invariant, and that the text at its end is that of the
-- hierarchy.
use Rattle.std.proofs.lemmas.Grind.{common_steps}
use Rattle.std.proofs.Common.{◌≢◌, Less, set, append-nil, add-one, length-append, length-set, ◌≡◌, ◌⊎◌}
use Rattle.std.proofs.Common.{◌∙◌, ◌<◌, ◌≤◌, ◌+◌, sym, ap, refl, subst, ℕ, zero, suc, Bool, true, false, List}
use Rattle.std.proofs.Common.{[], ◌∷◌, ◌++◌, map, length, reverse, arith, ⊎_elim, inl, inr}
use Rattle.thes_display.specs.declared.walk.Child.{Child}
use Rattle.thes_display.specs.declared.walk.WaitingLine.{WaitingLine}
use Rattle.thes_display.specs.Order.{Term}
use Rattle.thes_display.specs.Lines.{TreeLine, lines_text, path, line_cmp, line_end, placed_text, untyped}
use Rattle.thes_display.specs.ChildLists.{children_at, IsLineOfLists, AreHierarchyLists, waiting_at, IsHierarchyText}
use Rattle.thes_display.specs.ChildLists.{child, IsTopRank}
use Rattle.std.proofs.lemmas.List.{reverse-append, reverse-reverse, length-reverse, map-append}
use Rattle.std.proofs.lemmas.List.Concat.{flat_map-append}
use Rattle.std.proofs.lemmas.Bool.{cases_eq}
use Rattle.thes_display.proofs.ListLemmas.{IsOneOf, among_from, contains_of, among_map, map_among, among_left}
use Rattle.thes_display.proofs.ListLemmas.{among_right, among_append, rises_none}
use Rattle.thes_display.proofs.WalkLemmas.{IsWalk, less_itself, path_up}
use Rattle.thes_display.proofs.WalkLemmas.{path_onto, child_line, placed_apart, walk_step, walk_done}
use Rattle.thes_display.proofs.PlaceLemmas.{Homeward, IsPlacedHere, below_away, below_home, children_below}
use Rattle.thes_display.proofs.PlaceLemmas.{one_home_line, line_known}

-- The entry on the stack for a waiting line.
abbrev pub frame : TreeLine → WaitingLine
frame l = record { rank = l.rank; depth = length l.above; types = l.types; at_home = l.at_home }

pub record IsUnderWay (terms : List Term) (tops : List Child) (below : List (List Child)) (text : List ℕ)
    (stack : List WaitingLine) (left : List (List Child)) : Type 0 where
  pub written : List TreeLine
  pub waiting : List TreeLine
  pub text_is : text ≡ lines_text terms written
  pub stack_is : stack ≡ reverse (map frame waiting)
  pub walk : IsWalk (IsLineOfLists tops below) written waiting
  -- The children of a concept are still in the lists, or its line at home is written.
  pub left_is : (k : ℕ) → (children_at left k ≡ children_at below k)
      ⊎ ((w : TreeLine) × IsOneOf w written × (w.at_home ≡ true) × (w.rank ≡ k))
  pub depths : (l : TreeLine) → IsOneOf l waiting → length l.above ≤ length text
  pub left_size : length left ≡ length below

not_below_line : (l : TreeLine) → line_cmp l l ≡ Less → ⊥
not_below_line l e = let t = less_itself (path l) in cc

at_other : (left : List (List Child)) (i k : ℕ) → k ≢ i → children_at (set left i []) k ≡ children_at left k
at_other [] i k ne = refl
at_other (x ∷ left) zero zero ne = absurd (ne refl)
at_other (x ∷ left) zero (suc k) ne = refl
at_other (x ∷ left) (suc i) zero ne = refl
at_other (x ∷ left) (suc i) (suc k) ne = at_other left i k (λ e. ne (ap suc e))

frames : (u : List ℕ) (cs : List Child) → map frame (map (child_line u) cs) ≡ map (waiting_at (length u)) cs
frames u [] = refl
frames u (c ∷ cs) = ap (λ t. frame (child_line u c) ∷ t) (frames u cs)

-- The invariant holds at the start, with the top concepts on the stack.
module _ (terms : List Term) (tops : List Child) (below : List (List Child)) (n : ℕ)
    (o : AreHierarchyLists tops below n) where
  abbrev IsIt : TreeLine → Type 0
  IsIt = IsLineOfLists tops below

  onto_more : (r : List ℕ) (k : ℕ) (u : List ℕ) → path_onto (r ++ k ∷ []) u ≡ k ∷ path_onto r u
  onto_more [] k u = refl
  onto_more (x ∷ r) k u = onto_more r k (x ∷ u)

  -- A path of homes ends at a top concept.
  top_of : (u : List ℕ) → Homeward tops below n o u → (x : ℕ) × IsTopRank tops below x
      × ((r : List ℕ) × (u ≡ path_onto r (x ∷ [])))
  top_of [] p = absurd p
  top_of (k ∷ []) p = (k, p, ([], refl))
  top_of (k ∷ b ∷ above) p = let t = top_of (b ∷ above) p.1 in
      (t.0, t.1, (t.2.0 ++ k ∷ [], ap (λ z. k ∷ z) t.2.1 ∙ sym (onto_more t.2.0 k (t.0 ∷ []))))

  top_above : (h : Bool) (k : ℕ) (above : List ℕ) → IsPlacedHere tops below n o h (k ∷ above)
      → (x : ℕ) × IsTopRank tops below x
      × ((r : List ℕ) × (k ∷ above ≡ path_onto r (x ∷ [])))
  top_above true k above p = top_of (k ∷ above) p
  top_above false k [] p = absurd p
  top_above false k (b ∷ above) p = let t = top_of (b ∷ above) p.1 in
      (t.0, t.1, (t.2.0 ++ k ∷ [], ap (λ z. k ∷ z) t.2.1 ∙ sym (onto_more t.2.0 k (t.0 ∷ []))))

  top_line : (c : Child) → IsOneOf c tops → IsIt (child_line [] c)
  top_line c a =
      let h = o.tops_home c (contains_of c tops a) in
      let at_top = subst (λ t. IsOneOf (child c.rank t true) tops) h.1
      (subst (λ b. IsOneOf (child c.rank c.types b) tops) h.0 a) in (
        subst (λ b. IsPlacedHere tops below n o b (c.rank ∷ [])) (sym h.0)
            (contains_of (child c.rank untyped true) tops at_top),
        h.1,
      )

  walk_at_start : IsWalk IsIt [] (map (child_line []) tops)
  walk_at_start = record {
    written_lines = λ l a. absurd a;
    waiting_lines = λ l a. let c = among_map (child_line []) l tops a in subst IsIt (sym c.2) (top_line c.0 c.1);
    rises = rises_none line_cmp;
    earlier = λ w p l a b e. absurd a;
    apart = placed_apart [] tops o.tops_rise;
    rest = λ l i. let t = top_above l.at_home l.rank l.above i.0 in
        inr (
          child_line [] (child t.0 untyped true),
          map_among (child_line []) (child t.0 untyped true) tops (among_from _ _ t.1),
          t.2,
        );
  }

  pub under_way_first : (text : List ℕ) (stack old : List WaitingLine) → text ≡ [] → old ≡ [] → stack ≡ old
      ++ reverse (map (waiting_at 0) tops) → IsUnderWay terms tops below text stack below
  under_way_first text stack old e f g = grind (arith, common_steps, among_map, frames, walk_at_start)

  -- One step of the walk writes the next line.

  pub record HasNext (text : List ℕ) (rest : List WaitingLine) (next : WaitingLine) (left : List (List Child)) : Type
      0 where
    pub line : TreeLine
    pub others : List TreeLine
    pub written : List TreeLine
    pub text_is : text ≡ lines_text terms written
    pub next_is : next ≡ frame line
    pub rest_is : rest ≡ reverse (map frame others)
    pub walk : IsWalk IsIt written (line ∷ others)
    pub left_is : (k : ℕ) → (children_at left k ≡ children_at below k)
        ⊎ ((w : TreeLine) × IsOneOf w written × (w.at_home ≡ true) × (w.rank ≡ k))
    pub depths : (l : TreeLine) → IsOneOf l (line ∷ others) → length l.above ≤ length text
    pub left_size : length left ≡ length below

  -- The line on top of the stack is the next waiting line.
  pub next_of : (text : List ℕ) (stack rest : List WaitingLine) (next : WaitingLine) (left : List (List Child))
      → IsUnderWay terms tops below text stack left → stack ≡ rest ++ next ∷ [] → HasNext text rest next left
  next_of text stack rest next left s e = by_waiting s.waiting s.walk s.depths (sym s.stack_is ∙ e)
    where
      by_waiting : (waiting : List TreeLine) → IsWalk IsIt s.written waiting
          → ((l : TreeLine) → IsOneOf l waiting → length l.above ≤ length text) → reverse (map frame waiting) ≡ rest
          ++ next ∷ [] → HasNext text rest next left
      by_waiting [] w d f = grind (arith, common_steps, length-append)
      by_waiting (p ∷ ps) w d f = grind (arith, common_steps, reverse-append, reverse-reverse)

  module _ (text : List ℕ) (rest : List WaitingLine) (next : WaitingLine) (left : List (List Child))
      (s : HasNext text rest next left) where
    next_line : IsIt s.line
    next_line = s.walk.waiting_lines s.line (inl refl)

    pub next_known : next.rank < n
    next_known = let e = ap (λ (f : WaitingLine). f.rank) s.next_is in let k =
        line_known tops below n o s.line next_line in omega (arith, e, k)

    pub next_left : next.rank < length left
    next_left = let k = next_known in let a = s.left_size in let b = o.size in omega (arith, k, a, b)

    next_home : next.at_home ≡ s.line.at_home
    next_home = ap (λ (f : WaitingLine). f.at_home) s.next_is

    text_more : (text' : List ℕ) → text' ≡ text ++ placed_text terms next.rank next.depth next.types next.at_home
        → text' ≡ lines_text terms (s.written ++ s.line ∷ [])
    text_more text' e = grind (arith, common_steps, append-nil, flat_map-append)

    star_length : (h : Bool) → 1 ≤ length (line_end h)
    star_length true = omega arith
    star_length false = omega arith

    text_longer : (text' : List ℕ) → text' ≡ text ++ placed_text terms next.rank next.depth next.types next.at_home
        → length text + 1 ≤ length text'
    text_longer text' e = grind (arith, common_steps, length-append, star_length)

    -- The children of the next line are still in the lists.
    still_there : next.at_home ≡ true → children_at left next.rank ≡ children_at below next.rank
    still_there home =
        let k : next.rank ≡ s.line.rank = ap (λ (f : WaitingLine). f.rank) s.next_is in
        ⊎_elim (λ e. e)
        (λ (w : (w : TreeLine) × IsOneOf w s.written × (w.at_home ≡ true) × (w.rank ≡ next.rank)).
        let same : w.0 ≡ s.line = one_home_line tops below n o w.0 s.line (s.walk.written_lines w.0 w.1) next_line w.2
        (sym next_home ∙ home) (w.3 ∙ k) in
        absurd (not_below_line s.line
        (subst (λ z. line_cmp z s.line ≡ Less) same (s.walk.earlier w.0 s.line s.line w.1 (inl refl)
        ([], refl)))))
        (s.left_is next.rank)

    left_more : (left' : List (List Child)) → next.at_home ≡ true → left' ≡ set left next.rank [] → (k : ℕ)
        → (children_at left' k ≡ children_at below k) ⊎ ((w : TreeLine) × IsOneOf w (s.written ++ s.line ∷ [])
        × (w.at_home ≡ true) × (w.rank ≡ k))
    left_more left' home e k = grind (arith, common_steps, among_left, among_right, at_other, cases_eq, next_home)

    -- The invariant holds after a line at home is written and its children are pushed.
    pub under_way_home : (text' : List ℕ) (stack' : List WaitingLine) (left' : List (List Child))
        (children : List Child) → next.at_home ≡ true
        → text' ≡ text ++ placed_text terms next.rank next.depth next.types next.at_home → children
        ≡ children_at left next.rank → left' ≡ set left next.rank []
        → stack' ≡ rest ++ reverse (map (waiting_at (next.depth + 1)) children) → IsUnderWay terms tops below text'
        stack' left'
    under_way_home text' stack' left' children home e f g h =
        let is_home : s.line.at_home ≡ true = sym next_home ∙ home in
        let rank : next.rank ≡ s.line.rank = ap (λ (f : WaitingLine). f.rank) s.next_is in
        let cs : children ≡ children_at below s.line.rank = f ∙ still_there home ∙ ap (children_at below) rank in
        let depth : next.depth + 1 ≡ length (path_up s.line) = ap (λ (f : WaitingLine). f.depth + 1) s.next_is
        ∙ add-one (length s.line.above) in
        let kids : List TreeLine = map (child_line (path_up s.line)) (children_at below s.line.rank) in
        let pushed : map (waiting_at (next.depth + 1)) children ≡ map frame kids =
        ap (λ d. map (waiting_at d) children) depth ∙ ap (map (waiting_at (length (path_up s.line)))) cs
        ∙ sym (frames (path_up s.line) (children_at below s.line.rank)) in
        let longer = text_longer text' e in
        record {
          written = s.written ++ s.line ∷ [];
          waiting = kids ++ s.others;
          text_is = text_more text' e;
          stack_is = h ∙ ap (λ r. r ++ reverse (map (waiting_at (next.depth + 1)) children)) s.rest_is
              ∙ ap (λ t. reverse (map frame s.others) ++ reverse t) pushed
              ∙ sym (reverse-append (map frame kids) (map frame s.others))
              ∙ ap reverse (sym (map-append frame kids s.others));
          walk = walk_step IsIt s.written s.line s.others kids s.walk
              (children_below tops below n o s.line next_line is_home)
              (placed_apart (path_up s.line) (children_at below s.line.rank) (o.rises s.line.rank))
              (λ l i x. below_home tops below n o s.line l next_line is_home i x);
          left_is = left_more left' home g;
          depths = λ l a. ⊎_elim
              (λ kid. let c = among_map (child_line (path_up s.line)) l (children_at below s.line.rank) kid in
              let d : length l.above ≡ length (path_up s.line) = ap (λ (z : TreeLine). length z.above) c.2 in
              let q = s.depths s.line (inl refl) in
              omega (arith, d, q, longer))
              (λ other. let q = s.depths l (inr other) in omega (arith, q, longer))
              (among_append l kids s.others a);
          left_size = ap length g ∙ length-set left next.rank [] ∙ s.left_size;
        }

    -- The invariant holds after a line that isn't at home is written.
    pub under_way_away : (text' : List ℕ) → next.at_home ≡ false → text' ≡ text ++ placed_text terms next.rank
        next.depth next.types next.at_home → IsUnderWay terms tops below text' rest left
    under_way_away text' away e =
        let is_away : s.line.at_home ≡ false = sym next_home ∙ away in
        let longer = text_longer text' e in
        record {
          written = s.written ++ s.line ∷ [];
          waiting = s.others;
          text_is = text_more text' e;
          stack_is = s.rest_is;
          walk = walk_step IsIt s.written s.line s.others [] s.walk (λ k a. absurd a) tt
              (λ l i x. inl (below_away tops below n o s.line l next_line is_away i x));
          left_is =
              λ k. ⊎_elim (λ f. inl f) (λ (w : (w : TreeLine) × IsOneOf w s.written × (w.at_home ≡ true)
              × (w.rank ≡ k)). inr (w.0, among_left w.0 s.written (s.line ∷ []) w.1, w.2, w.3)) (s.left_is k);
          depths = λ l a. let q = s.depths l (inr a) in omega (arith, q, longer);
          left_size = s.left_size;
        }

  -- A walk with an empty stack has written all lines.

  pub shown_whole : (text : List ℕ) (stack : List WaitingLine) (left : List (List Child))
      → IsUnderWay terms tops below text stack left → stack ≡ [] → IsHierarchyText terms tops below text
  shown_whole text stack left s e = by_waiting s.waiting s.walk (sym s.stack_is ∙ e)
    where
      by_waiting : (waiting : List TreeLine) → IsWalk IsIt s.written waiting → reverse (map frame waiting) ≡ []
          → IsHierarchyText terms tops below text
      by_waiting [] w f = record { lines = s.written; listing = walk_done IsIt s.written w; is = s.text_is }
      by_waiting (p ∷ ps) w f = grind (arith, common_steps, length-reverse)
