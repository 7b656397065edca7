-- The views that answer queries in a state.
use Rattle.std.specs.Prelude.{◌≡◌, ℕ, None, Some}
use Rattle.thes_base.specs.declared.fault.Refusal.TheVariants as no
use Rattle.thes_base.specs.Resources.{entry_at}
use Rattle.thes_base.specs.Refusals.{IsKnownPosting}
use Rattle.thes_base.specs.RuleParts.{unless_concept}
use Rattle.thes_base.specs.RefusalRules.{RefusalRule, refused_unless, accepted}
use Rattle.thes_base.specs.State.{State}
use Rattle.thes_base.specs.Views.{totals_of, assigned_histories, AreDetailsOf}
use Rattle.thes_requests.specs.declared.request.Query.{Query}
use Rattle.thes_requests.specs.declared.request.Query.TheVariants as asked
use Rattle.thes_exchange.specs.declared.view.View.{View}
use Rattle.thes_exchange.specs.declared.view.View.TheVariants as views

-- The rule that the number is that of a posting, or else the refusal is `UnknownPosting`.
abbrev pub unless_posting : State → ℕ → RefusalRule
unless_posting s n = refused_unless (IsKnownPosting s.histories n) no.UnknownPosting accepted

-- The view answers the query in this state: its contents are those of the state, or the refusal is
-- that of the number.
abbrev pub IsView : State → Query → View → Type 0
IsView s asked.Totals (views.Totals t) = t ≡ totals_of s.histories
IsView s (asked.Concept n) (views.Concept c) = unless_concept s n None × AreDetailsOf s n c
IsView s (asked.Concept n) (views.No r) = unless_concept s n (Some r)
IsView s (asked.Postings n) (views.Postings hs) =
    unless_concept s n None × (hs ≡ assigned_histories n s.histories)
IsView s (asked.Postings n) (views.No r) = unless_concept s n (Some r)
IsView s (asked.Posting n) (views.Posting h) = entry_at s.histories n ≡ Some h.now
IsView s (asked.Posting n) (views.No r) = unless_posting s n (Some r)
IsView s _ _ = ⊥
