-- Proves that a posting keeps its number, key, record and first concept through any requests.
use Rattle.std.proofs.lemmas.Grind.{common_steps}
use Rattle.std.proofs.Common.{◌≡◌, ◌∙◌, ℕ, zero, suc, Bool, List, Option, None, Some, [], ◌∷◌, inl, inr, refl}
use Rattle.std.proofs.Common.{sym, ap, subst, eqb, eqb-true, arith}
use borrow.Author.Tests.{eqb-false}
use Rattle.std.proofs.lemmas.Bool.{cases_Bool}
use Rattle.thes_base.specs.declared.data.History.{History}
use Rattle.thes_base.specs.declared.request.Answer.{Answer}
use Rattle.thes_base.specs.declared.request.Command.{Command}
use Rattle.thes_base.specs.declared.request.Command.TheVariants as request
use Rattle.thes_base.specs.Changes.{histories_after_withdrawal, new_history}
use Rattle.thes_base.specs.Machine.{Run, Step, next_state}
use Rattle.thes_base.specs.Postings.{histories_after_moves, history_after_withdrawal}
use Rattle.thes_base.specs.Refusals.{Setting}
use Rattle.thes_base.specs.Resources.{entry_at, replacements, set_entry_at}
use Rattle.thes_base.specs.State.{State}
use Rattle.thes_base.proofs.MoveLemmas.{IsAfterMoveAt, slice_forward}
use Rattle.thes_base.proofs.NumberedLemmas.{numbered_bound, push_old, set_other, set_same}

-- The two histories are of the same posting, which may have been moved or withdrawn in between.
pub record IsSame (g h : History) : Type 0 where
  pub number : h.number ≡ g.number
  pub key : h.key ≡ g.key
  pub rec : h.rec ≡ g.rec
  pub first : h.first ≡ g.first

same_itself : (g : History) → IsSame g g
same_itself g = record { number = refl; key = refl; rec = refl; first = refl }

same_is : (g h : History) → h ≡ g → IsSame g h
same_is g h e = subst (IsSame g) (sym e) (same_itself g)

same_then : (f g h : History) → IsSame f g → IsSame g h → IsSame f h
same_then f g h a b = grind (arith, common_steps)

-- At this number, the list has a history of the same posting as `g`.
abbrev pub Stays : ℕ → History → List History → Type 0
Stays n g hs = (h : History) × (entry_at hs n ≡ Some h) × IsSame g h

stays : (n : ℕ) (g : History) (hs : List History) → entry_at hs n ≡ Some g → Stays n g hs
stays n g hs e = (g, e, same_itself g)

stays_moved : (passes : History → Bool) (target start n : ℕ) (g : History) (hs : List History) → entry_at hs n
    ≡ Some g → Stays n g (histories_after_moves passes target start hs)
stays_moved passes target start zero g hs e = absurd (let bad : None ≡ Some g = e in cc)
stays_moved passes target start (suc n) g hs e =
    let r = slice_forward passes target start hs n g e in
    (r.0, r.1, go r.0 r.2)
  where
    go : (new : History) → IsAfterMoveAt passes target start hs n g new → IsSame g new
    go new h = grind (arith, common_steps, same_is)

stays_set : (n m : ℕ) (g x : History) (hs : List History) → entry_at hs n ≡ Some g → entry_at hs m ≡ Some x
    → Stays n g (set_entry_at hs m (history_after_withdrawal x))
stays_set n m g x hs e at = elim (cases_Bool (eqb n m)) [
  | inl same ↦
      let is : n ≡ m = eqb-true n m same in
      let q : Some x ≡ Some g = sym at ∙ ap (entry_at hs) (sym is) ∙ e in
      let one : x ≡ g = cc in (
        history_after_withdrawal x,
        ap (entry_at (set_entry_at hs m (history_after_withdrawal x))) is
            ∙ set_same hs (history_after_withdrawal x) x m at,
        subst (λ (y : History). IsSame y (history_after_withdrawal x)) one
            (record { number = refl; key = refl; rec = refl; first = refl }),
      )
  | inr other ↦ (
    g,
    set_other hs (history_after_withdrawal x) g m n (numbered_bound hs m x at).0 (eqb-false n m other)
        e,
    same_itself g,
  )
]

stays_withdrawn : (n m : ℕ) (g : History) (hs : List History) → entry_at hs n ≡ Some g
    → Stays n g (histories_after_withdrawal m hs)
stays_withdrawn n m g hs e = go (entry_at hs m) refl
  where
    go : (o : Option History) → entry_at hs m ≡ o → Stays n g (histories_after_withdrawal m hs)
    go None at = grind (arith, common_steps, stays)
    go (Some x) at =
        subst (λ (o : Option History).
        Stays n g (elim o [ None ↦ hs | Some h ↦ set_entry_at hs m (history_after_withdrawal h) ])) (sym at)
        (stays_set n m g x hs e at)

-- Each of the fourteen requests keeps the posting.
stays_next : (n : ℕ) (g : History) (s : State) (command : Command) → entry_at s.histories n ≡ Some g
    → Stays n g (next_state command s).histories
stays_next n g s (request.Scheme tag text) e = stays n g s.histories e
stays_next n g s (request.Concept scheme tag text) e = stays n g s.histories e
stays_next n g s (request.Collection scheme tag text) e = stays n g s.histories e
stays_next n g s (request.Outside iri) e = stays n g s.histories e
stays_next n g s (request.AddLabel owner l) e = stays n g s.histories e
stays_next n g s (request.DropLabel owner l) e = stays n g s.histories e
stays_next n g s (request.Relabel owner tag text keep) e = grind (arith, common_steps, stays)
stays_next n g s (request.Link kind a b) e = stays n g s.histories e
stays_next n g s (request.Unlink kind a b) e = stays n g s.histories e
stays_next n g s (request.Deprecate concept) e = stays n g s.histories e
stays_next n g s (request.Merge source target) e = grind (arith, common_steps, stays_moved)
stays_next n g s (request.Split source tag text postings) e = grind (arith, common_steps, stays_moved)
stays_next n g s (request.Post key rec concept) e = (
  g,
  push_old s.histories (new_history key rec concept (replacements s.resources concept) s.histories) g n e,
  same_itself g,
)
stays_next n g s (request.Withdraw posting) e = stays_withdrawn n posting g s.histories e

stays_step : (setting : Setting) (n : ℕ) (g : History) (s t : State) (command : Command) (answer : Answer)
    → Step setting s command answer t → entry_at s.histories n ≡ Some g → Stays n g t.histories
stays_step setting n g s t command answer (inl known) e = grind (arith, common_steps, stays)
stays_step setting n g s t command answer (inr (new, inl refused)) e = grind (arith, common_steps, stays)
stays_step setting n g s t command answer (inr (new, inr consumes)) e = subst (λ (w : State). Stays n g w.histories)
    (sym consumes.2) (stays_next n g s command e)

pub stays_run : (setting : Setting) (n : ℕ) (g : History) (s t : State) (commands : List Command)
    (answers : List Answer) → Run setting s commands answers t → entry_at s.histories n ≡ Some g
    → Stays n g t.histories
stays_run setting n g s t [] [] run e = subst (λ (w : State). Stays n g w.histories) (sym run) (stays n g s.histories e)
stays_run setting n g s t [] (a ∷ answers) run e = absurd run
stays_run setting n g s t (x ∷ commands) [] run e = absurd run
stays_run setting n g s t (x ∷ commands) (a ∷ answers) run e =
    let one = stays_step setting n g s run.0 x a run.1 e in
    let rest = stays_run setting n one.0 run.0 t commands answers run.2 one.1 in
    (rest.0, rest.1, same_then g one.0 rest.0 one.2 rest.2)
