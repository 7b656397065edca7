-- A set of links has the expected members after links are added and removed.
use Rattle.std.proofs.lemmas.Grind.{common_steps}
use Rattle.std.proofs.Common.{◌≡◌, ◌≢◌, ◌+◌, ◌-◌, ◌<◌, ◌≤◌, ◌⊎◌, inl, inr, ℕ, List, [], ◌∷◌, ◌++◌, cond}
use Rattle.std.proofs.Common.{Contains, length, take, get_or, Option, Some, None, slice_get, refl, sym, ap, subst}
use Rattle.std.proofs.Common.{◌∙◌, arith}
use Rattle.std.specs.Option.{MatchOption}
use Rattle.std.specs.FinSet.{insert, remove, contains, len, len-remove, empty_of_len, contains-empty}
use Rattle.std.proofs.lemmas.Option.{slice_get_within, get_or_from_slice_get}
use Rattle.std.proofs.lemmas.List.{take_more}
use Rattle.std.proofs.lemmas.Bool.{both_ways}
use Rattle.thes_base.specs.declared.data.Link.{Link}
use Rattle.thes_base.specs.Links.{Links, link_cmp, Holds, links_after_deprecation, HasEnd}
use Rattle.thes_base.proofs.LinkSetLemmas.{links_total, link_inserted_cases, link_retained, without_node_from}
use Rattle.thes_base.proofs.LinkSetLemmas.{without_node_to}
use Rattle.thes_base.proofs.ListMemberLemmas.{Contains-none, Contains-head, Contains-later, Contains-cons_cases}
use Rattle.thes_links.specs.GraphView.{GraphView}
use Rattle.thes_graph.specs.MergeAdditions.{with_all, without_links}
use Rattle.thes_links.proofs.WeightLemmas.{past_of_none}
use Rattle.thes_links.proofs.SetLemmas.{same_links, inserted_held, insert_keeps, remove_keeps, removed_cases}

-- A read of the last item gives an item of the list, or shows that it is empty.
pub last_of : {X : Type 0} (xs : List X) (o : Option X) → o ≡ slice_get xs (length xs - 1)
    → MatchOption o ((x : X) → Contains xs x → ⊥) (λ x. Contains xs x)
last_of xs None e = λ x (k, within, is). let past : length xs ≤ length xs - 1 =
    past_of_none xs (length xs - 1) (sym e) in absurd (omega arith)
last_of xs (Some x) e = (
  length xs - 1,
  slice_get_within xs (length xs - 1) x (sym e),
  get_or_from_slice_get xs
      (length xs - 1) x x (sym e),
)

-- The removal of a link at the node doesn't change the set without the node's links.
pub without_node_removed : (n : ℕ) (links : Links) (l : Link) → HasEnd n l → links_after_deprecation n
    (remove links l) ≡ links_after_deprecation n links
without_node_removed n links l at =
    grind (arith, common_steps, remove_keeps, removed_cases, same_links, without_node_from, without_node_to)

pub without_node_none : (n : ℕ) (links : Links) → ((l : Link) → Holds links l → HasEnd n l → ⊥)
    → links_after_deprecation n links ≡ links
without_node_none n links none = grind (arith, common_steps, link_retained, same_links, without_node_to)

pub fewer_links : (links : Links) (l : Link) → Holds links l → len (remove links l) < len links
fewer_links links l held =
    let less : len (remove links l) ≡ len links - 1 = len-remove links_total links l
    ∙ ap (λ b. cond b (len links - 1) (len links)) held in
    let some : len links ≢ 0 = λ none. both_ways (contains links l)
    (ap (λ (s : Links). contains s l) (empty_of_len links none) ∙ contains-empty link_cmp l) held in
    omega arith

pub with_push : (links : Links) (xs : List Link) (x : Link) → with_all links (xs ++ x ∷ [])
    ≡ insert (with_all links xs) x
with_push links [] x = refl
with_push links (y ∷ ys) x = with_push (insert links y) ys x

pub without_push : (links : Links) (xs : List Link) (x : Link) → without_links links (xs ++ x ∷ [])
    ≡ remove (without_links links xs) x
without_push links [] x = refl
without_push links (y ∷ ys) x = without_push (remove links y) ys x

with_more : (links : Links) (xs : List Link) (i : ℕ) (x : Link) → i < length xs → x ≡ get_or xs i x
    → with_all links (take (i + 1) xs) ≡ insert (with_all links (take i xs)) x
with_more links xs i x within is =
    ap (with_all links) (take_more xs i x within ∙ ap (λ y. take i xs ++ y ∷ []) (sym is))
    ∙ with_push links (take i xs) x

without_more : (links : Links) (xs : List Link) (i : ℕ) (x : Link) → i < length xs → x ≡ get_or xs i x
    → without_links links (take (i + 1) xs) ≡ remove (without_links links (take i xs)) x
without_more links xs i x within is =
    ap (without_links links) (take_more xs i x within ∙ ap (λ y. take i xs ++ y ∷ []) (sym is))
    ∙ without_push links (take i xs) x

pub with_from : (links : Links) (xs : List Link) (m : Link) → Holds (with_all links xs) m → Holds links m
    ⊎ Contains xs m
with_from links [] m held = inl held
with_from links (x ∷ xs) m held = elim (with_from (insert links x) xs m held) [
  | inl now ↦ elim (link_inserted_cases links x m now) [
    | inl same ↦ inr (subst (λ (w : Link). Contains (x ∷ xs) w) (sym same) (Contains-head x xs))
    | inr old ↦ inl old
  ]
  | inr later ↦ inr (Contains-later x xs m later)
]

pub with_keeps : (links : Links) (xs : List Link) (m : Link) → Holds links m → Holds (with_all links xs) m
with_keeps links [] m held = held
with_keeps links (x ∷ xs) m held = with_keeps (insert links x) xs m (insert_keeps links x m held)

pub with_has : (links : Links) (xs : List Link) (m : Link) → Contains xs m → Holds (with_all links xs) m
with_has links [] m has = absurd (Contains-none m has)
with_has links (x ∷ xs) m has = elim (Contains-cons_cases x xs m has) [
  | inl same ↦ with_keeps (insert links x) xs m (subst (Holds (insert links x)) same (inserted_held links x))
  | inr later ↦ with_has (insert links x) xs m later
]

pub without_from : (links : Links) (xs : List Link) (m : Link) → Holds (without_links links xs) m → Holds links m
    × (Contains xs m → ⊥)
without_from links [] m held = (held, λ has. Contains-none m has)
without_from links (x ∷ xs) m held =
    let r = without_from (remove links x) xs m held in
    let c = removed_cases links x m r.0 in
    (c.1, λ has. elim (Contains-cons_cases x xs m has) [ inl same ↦ c.0 (sym same) | inr later ↦ r.1 later ])

pub without_keeps : (links : Links) (xs : List Link) (m : Link) → Holds links m → (Contains xs m → ⊥)
    → Holds (without_links links xs) m
without_keeps links [] m held off = held
without_keeps links (x ∷ xs) m held off =
    without_keeps (remove links x) xs m
    (remove_keeps links x m
    (λ same. off (subst (λ (w : Link). Contains (x ∷ xs) w) (sym same) (Contains-head x xs))) held)
    (λ has. off (Contains-later x xs m has))

-- The removal of new links undoes their addition.
pub undo_additions : (links : Links) (xs : List Link) → ((l : Link) → Contains xs l → Holds links l → ⊥)
    → without_links (with_all links xs) xs ≡ links
undo_additions links xs new = same_links (without_links (with_all links xs) xs) links to from
  where
    to : (m : Link) → Holds (without_links (with_all links xs) xs) m → Holds links m
    to m held =
        let r = without_from (with_all links xs) xs m held in
        elim (with_from links xs m r.0) [ inl old ↦ old | inr has ↦ absurd (r.1 has) ]

    from : (m : Link) → Holds links m → Holds (without_links (with_all links xs) xs) m
    from m held = without_keeps (with_all links xs) xs m (with_keeps links xs m held) (λ has. new m has held)

-- One iteration of a loop adds or removes the next link of a list.
pub net_with : (links : Links) (xs : List Link) (i : ℕ) (x y : Link) (before after : GraphView) → i < length xs → x
    ≡ get_or xs i x → y ≡ x
    → (outside : GraphView) → before ≡ record { links = with_all links (take i xs); outside = outside.outside } → after
    ≡ record { links = insert before.links y; outside = before.outside }
    → after ≡ record { links = with_all links (take (i + 1) xs); outside = outside.outside }
net_with links xs i x y before after within is same outside e f = grind (arith, common_steps, with_more)

pub net_without : (links : Links) (xs : List Link) (i : ℕ) (x : Link) (before after : GraphView) → i < length xs → x
    ≡ get_or xs i x
    → (outside : GraphView) → before ≡ record { links = without_links links (take i xs); outside = outside.outside }
    → after
    ≡ record { links = remove before.links x; outside = before.outside }
    → after ≡ record { links = without_links links (take (i + 1) xs); outside = outside.outside }
net_without links xs i x before after within is outside e f =
    f ∙ ap (λ (n : GraphView). record { links = remove n.links x; outside = n.outside }) e
    ∙ ap (λ (s : Links). record { links = s; outside = outside.outside }) (sym (without_more links xs i x within is))
