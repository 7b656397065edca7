-- Links listed by their first ends.
use Rattle.std.proofs.Common.{◌≡◌, ◌≢◌, ◌⊎◌, ◌+◌, ◌≤◌, ◌==◌, ◌++◌, inl, inr, ℕ, List, [], ◌∷◌, Bool, true, false}
use Rattle.std.proofs.Common.{cond, Contains, refl, sym, ap, subst, ◌∙◌, arith}
use Rattle.std.proofs.lemmas.Bool.{both_ways, cases_eq, cases_lt}
use Rattle.std.proofs.lemmas.Bool.Decides.{Decides-eqb}
use Rattle.std.proofs.lemmas.List.Elements.{Contains-append_left, Contains-append_right, Contains-append_cases}
use Rattle.thes_base.specs.declared.data.Link.{Link}
use Rattle.thes_base.specs.Links.{Links, Holds}
use Rattle.thes_base.proofs.ListMemberLemmas.{Contains-none, Contains-head, Contains-cons_cases}
use Rattle.thes_graph.specs.declared.sided_links.SidedLink.{SidedLink}
use Rattle.thes_graph.specs.SidedLinks.{sided_link_at, sided_links_at}
use Rattle.thes_graph.specs.FirstEnds.{AddsFirstEnds, AreListedBelow}
use Rattle.thes_links.specs.Reading.{AreAll, HaveTwoEnds}
use Rattle.thes_graph.proofs.IndexLemmas.{sided_links_from, sided_links_to}

-- An empty row adds nothing.
pub no_first_ends : (node : ℕ) (old : List Link) → AddsFirstEnds node [] old old
no_first_ends node old = record {
  sound = λ l has. inl has;
  keeps = λ l has. has;
  complete = λ s has. absurd (Contains-none s has);
}

module _ (node : ℕ) (row : List SidedLink) (old now : List Link) (adds : AddsFirstEnds node row old now)
    (x : SidedLink) where
  in_row : (s : SidedLink) → Contains (row ++ x ∷ []) s → Contains row s ⊎ (x ≡ s)
  in_row s has = elim (Contains-append_cases row (x ∷ []) s has) [
    | inl was ↦ inl was
    | inr one ↦ elim (Contains-cons_cases x [] s one) [ inl same ↦ inr same | inr none ↦ absurd (Contains-none s none) ]
  ]

  wider : (l : Link) → Contains now l → Contains old l ⊎ ((s : SidedLink) × Contains (row ++ x ∷ []) s × (s.link ≡ l))
  wider l has = elim (adds.sound l has) [
    | inl was ↦ inl was
    | inr r ↦ inr (r.0, Contains-append_left row (x ∷ []) r.0 r.1, r.2)
  ]

  added_first : AddsFirstEnds node (row ++ x ∷ []) old (now ++ x.link ∷ [])
  added_first = record {
    sound = λ l has. elim (Contains-append_cases now (x.link ∷ []) l has) [
      | inl was ↦ wider l was
      | inr one ↦ elim (Contains-cons_cases x.link [] l one) [
        | inl same ↦ inr (x, Contains-append_right row (x ∷ []) x (Contains-head x []), same)
        | inr none ↦ absurd (Contains-none l none)
      ]
    ];
    keeps = λ l has. Contains-append_left now (x.link ∷ []) l (adds.keeps l has);
    complete = λ s has is. elim (in_row s has) [
      | inl was ↦ Contains-append_left now (x.link ∷ []) s.link (adds.complete s was is)
      | inr same ↦ subst (λ (y : SidedLink). Contains (now ++ x.link ∷ []) y.link) same
          (Contains-append_right now (x.link ∷ []) x.link (Contains-head x.link []))
    ];
  }

  passed_over : x.link.a ≢ node → AddsFirstEnds node (row ++ x ∷ []) old now
  passed_over other = record {
    sound = wider;
    keeps = adds.keeps;
    complete = λ s has is. elim (in_row s has) [
      | inl was ↦ adds.complete s was is
      | inr same ↦ absurd (other (ap (λ (y : SidedLink). y.link.a) same ∙ is))
    ];
  }

  -- One more link of the row is added if its first end is the node.
  pub more_first_ends : (new : List Link) → new ≡ cond (x.link.a == node) (now ++ x.link ∷ []) now
      → AddsFirstEnds node (row ++ x ∷ []) old new
  more_first_ends new is = go (x.link.a == node) refl is
    where
      go : (b : Bool) → (x.link.a == node) ≡ b → new ≡ cond b (now ++ x.link ∷ []) now
          → AddsFirstEnds node (row ++ x ∷ []) old new
      go true test e = subst (AddsFirstEnds node (row ++ x ∷ []) old) (sym e) added_first
      go false test e = subst (AddsFirstEnds node (row ++ x ∷ []) old) (sym e)
          (passed_over (λ same. both_ways (x.link.a == node) test ((Decides-eqb x.link.a node).1 same)))

-- No link has a first end below 0.
pub none_below : (links : Links) → AreListedBelow links 0 []
none_below links = record {
  sound = λ l has. absurd (Contains-none l has);
  complete = λ l held below. absurd (omega arith);
}

-- The links listed below `n`, with those of node n's row that begin at n, are the links listed below `n + 1`.
pub listed_more : (links : Links) (n : ℕ) (old new : List Link) → AreListedBelow links n old
    → AddsFirstEnds n (sided_links_at links n) old new → AreListedBelow links (n + 1) new
listed_more links n old new below adds = record {
  sound = λ l has. elim (adds.sound l has) [
    | inl was ↦ below.sound l was
    | inr r ↦ subst (Holds links) r.2 (sided_links_from links n r.0 r.1).0
  ];
  complete = λ l held less. elim (cases_eq l.a n) [
    | inl here ↦ adds.complete (sided_link_at n l) (sided_links_to links n l held (inl here)) here
    | inr apart ↦ adds.keeps l (below.complete l held (omega arith))
  ];
}

-- The list has all links, if no node from n on has a link.
pub all_below : (links : Links) (n : ℕ) (all : List Link) → HaveTwoEnds (Holds links) → AreListedBelow links n all
    → ((m : ℕ) → n ≤ m → sided_links_at links m ≡ []) → AreAll links all
all_below links n all two below none = record {
  two_ends = two;
  sound = below.sound;
  complete = λ l held. elim (cases_lt l.a n) [
    | inl less ↦ below.complete l held less
    | inr from ↦ absurd (Contains-none (sided_link_at l.a l) (subst (λ (row : List SidedLink). Contains row
        (sided_link_at l.a l)) (none l.a from) (sided_links_to links l.a l held (inl refl))))
  ];
}
