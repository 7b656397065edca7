-- Proves which text and counts a report has after one more row.
use Rattle.std.proofs.lemmas.Grind.{common_steps}
use Rattle.std.proofs.Common.{◌≡◌, ◌∙◌, ◌+◌, ◌++◌, ◌∷◌, [], ℕ, List, refl, sym, ap, cond, length, append_assoc}
use Rattle.std.proofs.Common.{length-append}
use Rattle.std.proofs.Common.{append-nil, arith}
use Rattle.std.proofs.lemmas.List.Sums.{sum_by-cons}
use Rattle.thes_posting_files.specs.Outcomes.{AddsOutcomes, counts_of, is_again, is_new, is_refused, outcome_line}
use Rattle.thes_posting_files.specs.Outcomes.{outcome_lines, outcomes_text, row_count}
use Rattle.thes_posting_files.specs.declared.outcome.Outcome.{Outcome}
use Rattle.thes_posting_files.specs.declared.report.Report.{Report}

joined : (line : ℕ → Outcome → List ℕ) (lines : ℕ → List Outcome → List ℕ) → ((n : ℕ) → lines n [] ≡ [])
    → ((n : ℕ) (o : Outcome) (os : List Outcome) → lines n (o ∷ os) ≡ line n o ++ lines (n + 1) os)
    → (n : ℕ) (os qs : List Outcome) → lines n (os ++ qs) ≡ lines n os ++ lines (n + length os) qs
joined line lines none one n [] qs = grind (arith, common_steps)
joined line lines none one n (x ∷ os) qs =
    grind (arith, common_steps, append_assoc, joined line lines none one (n + 1) os qs)

lines_joined : (n : ℕ) (os qs : List Outcome) → outcome_lines n (os ++ qs) ≡ outcome_lines n os
    ++ outcome_lines (n + length os) qs
lines_joined = joined outcome_line outcome_lines (λ n. refl) (λ n x xs. refl)

-- The text of two joined lists of outcomes is that of the first list, and then the lines of the
-- second.
pub text_of_more : (os qs : List Outcome) → outcomes_text (os ++ qs) ≡ outcomes_text os
    ++ outcome_lines (1 + length os) qs
text_of_more os qs = grind (arith, common_steps, append_assoc, lines_joined)

-- Each outcome is counted exactly once.
one_count : (o : Outcome) → cond (is_new o) 1 0 + cond (is_again o) 1 0 + cond (is_refused o) 1 0 ≡ 1
one_count o = grind (arith, common_steps)

pub row_count_all : (os : List Outcome) → row_count (counts_of os) ≡ length os
row_count_all [] = refl
row_count_all (o ∷ os) = grind (arith, common_steps, one_count, sum_by-cons, row_count_all os)

-- If the line of an outcome is appended to a report, and its row is counted, the outcome is added to the report.
pub adds_one : (o : Outcome) (old new : Report) (n : ℕ) → n ≡ row_count old.counts + 1 → new.text.items
    ≡ old.text.items ++ outcome_line n o
    → ((os : List Outcome) → old.counts ≡ counts_of os → new.counts ≡ counts_of (os ++ o ∷ []))
    → AddsOutcomes (o ∷ []) old new
adds_one o old new n e text counts earlier is = grind (arith, common_steps, append-nil, row_count_all)

-- Adding some outcomes and then others adds all of them in order.
pub adds_both : (os qs : List Outcome) (old mid new : Report) → AddsOutcomes os old mid → AddsOutcomes qs mid new
    → AddsOutcomes (os ++ qs) old new
adds_both os qs old mid new x y earlier is =
    let a = x earlier is in
    let b = y (earlier ++ os) a.0 in
    let start = 1 + length earlier in
    let size = length-append earlier os in
    let n : 1 + length (earlier ++ os) ≡ start + length os = omega (arith, size) in (
      b.0 ∙ ap counts_of (append_assoc earlier os qs),
      b.1 ∙ ap (λ (l : List ℕ). l ++ outcome_lines (1 + length (earlier ++ os)) qs) a.1
          ∙ append_assoc old.text.items (outcome_lines start os) (outcome_lines (1 + length (earlier ++ os)) qs)
          ∙ ap (λ (l : List ℕ). old.text.items ++ l)
          (ap (λ (k : ℕ). outcome_lines start os ++ outcome_lines k qs) n ∙ sym (lines_joined start os qs)),
    )

-- A report with the same text and counts has no outcomes added.
pub adds_none : (old new : Report) → new.text.items ≡ old.text.items → new.counts ≡ old.counts → AddsOutcomes [] old new
adds_none old new text counts earlier is =
    (counts ∙ is ∙ ap counts_of (sym (append-nil earlier)), text ∙ sym (append-nil old.text.items))

-- Adding outcomes to a report with the same text and counts is adding them to the report itself.
pub adds_same : (os : List Outcome) (old mid new : Report) → mid.text.items ≡ old.text.items
    → mid.counts ≡ old.counts → AddsOutcomes os mid new → AddsOutcomes os old new
adds_same os old mid new text counts adds earlier is = grind (arith, common_steps)
