-- A merge turns different links at its source into different links.
use Rattle.std.proofs.Common.{◌≡◌, ◌≢◌, ◌⊎◌, inl, inr, ℕ, refl, sym, ap, ◌∙◌, subst, Bool, true, false, cond, ◌||◌}
use Rattle.std.proofs.Common.{◌&&◌, ◌==◌, nat_lt, arith}
use Rattle.std.specs.Prelude.{if◌then◌else◌}
use Rattle.std.proofs.Math.Bool.{or_comm}
use Rattle.std.proofs.lemmas.Bool.{cases_Bool, eqb-true, ltb-false}
use Rattle.thes_base.specs.declared.data.Link.{Link}
use Rattle.thes_base.specs.Links.{Holds, normal_form, redirect, redirect_link, is_symmetric, reversed_link, HasEnd}
use Rattle.thes_links.specs.Reading.{HaveTwoEnds}
use Rattle.thes_links.specs.GraphView.{GraphView, is_marked}
use Rattle.thes_graph.specs.MergeAdditions.{AreNormal}

-- Two pairs of ends that each include the source are equal if a redirection turns both into the same pair of different
-- ends.
ends_equal : (s t a b c d : ℕ) → s ≢ t → (a ≡ s) ⊎ (b ≡ s) → (c ≡ s) ⊎ (d ≡ s) → a ≢ b → c ≢ d
    → redirect s t a ≢ redirect s t b → redirect s t a ≡ redirect s t c → redirect s t b ≡ redirect s t d
    → (a ≡ c) × (b ≡ d)
ends_equal s t a b c d apart p q two two' sent left right = (grind arith, grind arith)

module _ (f : ℕ → Bool) where
  -- A symmetric link between two different nodes isn't in normal form in both orders of its ends.
  one_order : (l : Link) → l.a ≢ l.b → is_symmetric (f l.a || f l.b) l.kind ≡ true → normal_form f l ≡ l
      → normal_form f (reversed_link l) ≡ reversed_link l → ⊥
  one_order l two flag this other =
      let low = ltb-false l.b l.a (upright l two (is_symmetric (f l.a || f l.b) l.kind) (nat_lt l.b l.a) flag this) in
      let high = ltb-false l.a l.b (upright (reversed_link l) (λ e. two (sym e))
      (is_symmetric (f l.b || f l.a) l.kind) (nat_lt l.a l.b)
      (ap (λ b. is_symmetric b l.kind) (or_comm (f l.b) (f l.a)) ∙ flag) other) in
      two (omega (arith, low, high))
    where
      upright : (l : Link) → l.a ≢ l.b → (s t : Bool) → s ≡ true → (if s && t then reversed_link l else l) ≡ l → t
          ≡ false
      upright l two true true e is = absurd (two (sym (ap (λ (m : Link). m.a) is)))
      upright l two true false e is = refl
      upright l two false t e is = absurd (cc)

  norm_kept : (l : Link) → (normal_form f l ≡ l) ⊎ ((normal_form f l ≡ reversed_link l)
      × (is_symmetric (f l.a || f l.b) l.kind ≡ true))
  norm_kept l = go (is_symmetric (f l.a || f l.b) l.kind) (nat_lt l.b l.a)
    where
      go : (s t : Bool) → ((if s && t then reversed_link l else l) ≡ l)
          ⊎ (((if s && t then reversed_link l else l) ≡ reversed_link l) × (s ≡ true))
      go true true = inr (refl, refl)
      go true false = inl refl
      go false t = inl refl

module _ (net : GraphView) (source target : ℕ) (different : source ≢ target)
    (two_ends : HaveTwoEnds (Holds net.links)) (normal : AreNormal net)
    (inside : is_marked net source ≡ is_marked net target) where
  abbrev redirected_link : Link → Link
  redirected_link l = normal_form (is_marked net) (redirect_link source target l)

  -- A redirected end is marked as an outside concept exactly when the end was.
  mark_stays : (n : ℕ) → is_marked net (redirect source target n) ≡ is_marked net n
  mark_stays n = elim (cases_Bool (n == source)) [
    | inl at ↦ ap (λ b. is_marked net (cond b target n)) at ∙ sym inside ∙ ap (is_marked net)
        (sym (eqb-true n source at))
    | inr off ↦ ap (λ b. is_marked net (cond b target n)) off
  ]

  -- The link is held, has an end at the source, and has two different ends after redirection.
  abbrev pub IsSent : Link → Type 0
  IsSent l = Holds net.links l × HasEnd source l × (redirect source target l.a ≢ redirect source target l.b)

  same_ends : (l m : Link) → IsSent l → IsSent m → redirect_link source target l ≡ redirect_link source target m → l ≡ m
  same_ends l m (held, at, two) (held', at', two') e =
      let r = ends_equal source target l.a l.b m.a m.b different at at' (two_ends l held) (two_ends m held') two
      (ap (λ (x : Link). x.a) e) (ap (λ (x : Link). x.b) e) in
      λ i. record { kind = (e i).kind; a = r.0 i; b = r.1 i }

  turned_ends : (l m : Link) → IsSent l → IsSent m → redirect_link source target l ≡ reversed_link
      (redirect_link source target m) → is_symmetric (is_marked net (redirect source target m.a)
      || is_marked net (redirect source target m.b)) m.kind ≡ true → ⊥
  turned_ends l m (held, at, two) (held', at', two') e flag =
      let r = ends_equal source target l.a l.b m.b m.a different at (elim at' [ inl a ↦ inr a | inr b ↦ inl b ])
      (two_ends l held) (λ k. two_ends m held' (sym k)) two (ap (λ (x : Link). x.a) e) (ap (λ (x : Link). x.b) e) in
      let is : l ≡ reversed_link m = λ i. record { kind = (e i).kind; a = r.0 i; b = r.1 i } in
      one_order (is_marked net) m (two_ends m held')
      (ap (λ b. is_symmetric b m.kind) (λ i. sym (mark_stays m.a) i || sym (mark_stays m.b) i) ∙ flag) (normal m held')
      (subst (λ (x : Link). normal_form (is_marked net) x ≡ x) is (normal l held))

  abbrev IsKeptOrTurned : Link → Type 0
  IsKeptOrTurned x = (redirected_link x ≡ redirect_link source target x)
      ⊎ ((redirected_link x ≡ reversed_link (redirect_link source target x))
      × (is_symmetric (is_marked net (redirect source target x.a) || is_marked net (redirect source target x.b))
      x.kind ≡ true))

  -- Two links at the source that become the same link are the same.
  pub one_sent : (l m : Link) → IsSent l → IsSent m → redirected_link l ≡ redirected_link m → l ≡ m
  one_sent l m at bt e = go (norm_kept (is_marked net) (redirect_link source target l))
      (norm_kept (is_marked net) (redirect_link source target m))
    where
      go : IsKeptOrTurned l → IsKeptOrTurned m → l ≡ m
      go (inl p) (inl q) = same_ends l m at bt (sym p ∙ e ∙ q)
      go (inl p) (inr (q, flag)) = absurd (turned_ends l m at bt (sym p ∙ e ∙ q) flag)
      go (inr (p, flag)) (inl q) = absurd (turned_ends m l bt at (sym q ∙ sym e ∙ p) flag)
      go (inr (p, _)) (inr (q, _)) = same_ends l m at bt (ap reversed_link (sym p ∙ e ∙ q))
