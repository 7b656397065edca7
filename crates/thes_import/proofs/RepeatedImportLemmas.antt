-- Proves that a posting file that is imported twice changes nothing the second time.
use Rattle.std.proofs.Common.{◌≡◌, ◌∙◌, ◌∷◌, [], ℕ, List, inl, inr, refl, sym, subst}
use Rattle.std.specs.List.{AllByRecursion, AllZip}
use Rattle.thes_base.specs.declared.data.Limits.{Limits}
use Rattle.thes_base.specs.declared.request.Answer.{Answer}
use Rattle.thes_base.specs.declared.request.Answer.TheVariants as reply
use Rattle.thes_base.specs.declared.request.Command.TheVariants as request
use Rattle.thes_base.specs.Legal.{AreLegalPostings}
use Rattle.thes_base.specs.Machine.{Run, Step}
use Rattle.thes_base.specs.Refusals.{Setting}
use Rattle.thes_base.specs.State.{State}
use Rattle.thes_posting_files.specs.declared.csv_row.CsvRow.{CsvRow}
use Rattle.thes_posting_files.specs.declared.csv_row.CsvRow.TheVariants as row
use Rattle.thes_posting_files.specs.declared.outcome.Outcome.{Outcome}
use Rattle.thes_posting_files.specs.declared.outcome.Outcome.TheVariants as outcome
use Rattle.thes_posting_files.specs.Outcomes.{IsOutcome, answers_of, posts_of}
use Rattle.thes_posting_files.proofs.RepeatedPostLemmas.{IsLater, IsRepeatedOrRefused, accepted_has, has_again, not_answered}
use Rattle.thes_posting_files.proofs.RepeatedPostLemmas.{posting_stays, refused_again, rows_later}
use Rattle.thes_tables.specs.Cells.{Raw}
use Rattle.thes_office.specs.Office.{ChangesNothing, setting as setting_of}
use Rattle.thes_office.proofs.StateTableLemmas.{state_is_unique}
use Rattle.thes_import.specs.Imports.{PerformsRows}
use Rattle.thes_import.specs.RepeatedImport.{IsAgain, IsAnswerAgain}

without_change : (b : Answer) → IsRepeatedOrRefused b → ChangesNothing b
without_change b (inl (n, e)) = subst ChangesNothing (sym e) tt
without_change b (inr (r, e)) = subst ChangesNothing (sym e) tt

post_again : (setting : Setting) (key rec : List ℕ) (concept : ℕ) (s mid t u : State) (a b : Answer)
    → AreLegalPostings t.resources t.histories → Step setting s (request.Post key rec concept) a mid → IsLater mid t
    → Step setting t (request.Post key rec concept) b u → IsAnswerAgain a b × (u ≡ t)
post_again setting key rec concept s mid t u (reply.Number n) b legal first later second =
    has_again setting key rec concept n t u b legal
    (posting_stays key rec concept n mid t later (accepted_has setting key rec concept n s mid (reply.Number n)
    (inl refl) first)) second
post_again setting key rec concept s mid t u (reply.Again n) b legal first later second =
    has_again setting key rec concept n t u b legal
    (posting_stays key rec concept n mid t later (accepted_has setting key rec concept n s mid (reply.Again n)
    (inr refl) first)) second
post_again setting key rec concept s mid t u (reply.No r) b legal first later second =
    let two = refused_again setting key rec concept s mid t u (reply.No r) b r refl first later second in
    (without_change b two.0, two.1)
post_again setting key rec concept s mid t u reply.Done b legal first later second =
    absurd (not_answered setting key rec concept s mid reply.Done first (λ n e. cc) (λ n e. cc) (λ r e. cc))
post_again setting key rec concept s mid t u (reply.Moved k) b legal first later second =
    absurd (not_answered setting key rec concept s mid (reply.Moved k) first (λ n e. cc) (λ n e. cc) (λ r e. cc))
post_again setting key rec concept s mid t u (reply.Parted m k) b legal first later second =
    absurd (not_answered setting key rec concept s mid (reply.Parted m k) first (λ n e. cc) (λ n e. cc) (λ r e. cc))

-- A second run over the same rows changes nothing, and answers each row again.
rows_again : (setting : Setting) (s t u : State) (rows : List CsvRow) (os qs : List Outcome)
    → AreLegalPostings t.resources t.histories → AllZip IsOutcome rows os → AllZip IsOutcome rows qs
    → Run setting s (posts_of rows) (answers_of os) t → Run setting t (posts_of rows) (answers_of qs) u
    → AllZip IsAgain os qs × (u ≡ t)
rows_again setting s t u [] [] [] legal x y first second = (tt, second)
rows_again setting s t u [] (o ∷ os) qs legal x y first second = absurd x
rows_again setting s t u [] [] (q ∷ qs) legal x y first second = absurd y
rows_again setting s t u (r ∷ rows) [] qs legal x y first second = absurd x
rows_again setting s t u (r ∷ rows) (o ∷ os) [] legal x y first second = absurd y
rows_again setting s t u (row.Post key rec concept ∷ rows) (outcome.Bad f ∷ os) (q ∷ qs) legal x y first second =
    absurd x.0
rows_again setting s t u (row.Post key rec concept ∷ rows) (outcome.Reply a ∷ os) (outcome.Bad g ∷ qs) legal x y first
    second = absurd y.0
rows_again setting s t u (row.Post key rec concept ∷ rows) (outcome.Reply a ∷ os) (outcome.Reply b ∷ qs) legal x y
    first second =
    let one = post_again setting key rec concept s first.0 t second.0 a b legal first.1
    (rows_later setting first.0 t rows os x.1 first.2) second.1 in
    let rest = rows_again setting first.0 t u rows os qs legal x.1 y.1 first.2
    (subst (λ (w : State). Run setting w (posts_of rows) (answers_of qs) u) one.1 second.2) in
    ((one.0, rest.0), rest.1)
rows_again setting s t u (row.Bad f ∷ rows) (outcome.Reply a ∷ os) (q ∷ qs) legal x y first second = absurd x.0
rows_again setting s t u (row.Bad f ∷ rows) (outcome.Bad g ∷ os) (outcome.Reply b ∷ qs) legal x y first second =
    absurd y.0
rows_again setting s t u (row.Bad f ∷ rows) (outcome.Bad g ∷ os) (outcome.Bad h ∷ qs) legal x y first second =
    let rest = rows_again setting s t u rows os qs legal x.1 y.1 first second in
    ((y.0 ∙ sym x.0, rest.0), rest.1)

changes_nothing : (a b : Answer) → IsAnswerAgain a b → ChangesNothing b
changes_nothing (reply.Number n) b e = subst ChangesNothing (sym e) tt
changes_nothing (reply.Again n) b e = subst ChangesNothing (sym e) tt
changes_nothing reply.Done b h = h
changes_nothing (reply.Moved k) b h = h
changes_nothing (reply.Parted n k) b h = h
changes_nothing (reply.No r) b h = h

change_nothing : (os qs : List Outcome) → AllZip IsAgain os qs → AllByRecursion ChangesNothing (answers_of qs)
change_nothing [] [] h = tt
change_nothing [] (q ∷ qs) h = absurd h
change_nothing (o ∷ os) [] h = absurd h
change_nothing (outcome.Reply a ∷ os) (outcome.Reply b ∷ qs) h = (changes_nothing a b h.0, change_nothing os qs h.1)
change_nothing (outcome.Reply a ∷ os) (outcome.Bad g ∷ qs) h = absurd h.0
change_nothing (outcome.Bad f ∷ os) (outcome.Reply b ∷ qs) h = absurd h.0
change_nothing (outcome.Bad f ∷ os) (outcome.Bad g ∷ qs) h = change_nothing os qs h.1

pub imports_again : (limits : Limits) (old mid new : Raw) (rows : List CsvRow) (os qs : List Outcome)
    → AllZip IsOutcome rows os → PerformsRows limits old rows os mid → AllZip IsOutcome rows qs
    → PerformsRows limits mid rows qs new → AllZip IsAgain os qs × (new ≡ mid)
imports_again limits old mid new rows os qs each x again y =
    let one = state_is_unique mid y.goes_on.base x.goes_on.base y.goes_on.state_before x.goes_on.state_after
    y.goes_on.tables_before x.goes_on.shows in
    let run = subst (λ (p : List ℕ × State). Run (setting_of p.0 limits) p.1 (posts_of rows) (answers_of qs)
    y.goes_on.state_after) (λ i. (one.0 i, one.1 i)) y.goes_on.run in
    let all = rows_again (setting_of x.goes_on.base limits) x.goes_on.state_before x.goes_on.state_after
    y.goes_on.state_after rows os qs x.goes_on.shows.legal.postings each again x.goes_on.run run in
    (all.0, y.same (change_nothing os qs all.0))
