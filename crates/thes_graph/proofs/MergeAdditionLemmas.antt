-- The new links that a merge makes of those at its source are those that it adds; adding them and removing the source's
-- links gives the links after the merge.
use Rattle.std.proofs.lemmas.Grind.{common_steps}
use Rattle.std.proofs.Common.{◌≡◌, ◌≢◌, ◌⊎◌, ◌+◌, ◌<◌, ◌++◌, length, get_or, inl, inr, ℕ, List, [], ◌∷◌, true, arith}
use Rattle.std.proofs.Common.{false, ◌==◌, Contains, take, Option, Some, None, if◌then◌else◌, refl, sym, ap, subst}
use Rattle.std.proofs.Common.{◌∙◌}
use Rattle.std.proofs.Common.{suc, AllPairs}
use Rattle.std.specs.Prelude.{option_and_then}
use Rattle.std.specs.List.{filter_map, cons_option}
use Rattle.std.specs.Option.{option_to_list}
use Rattle.std.proofs.lemmas.List.{take_more}
use Rattle.std.proofs.lemmas.List.Elements.{filter_map-append, Contains-get_or}
use Rattle.std.proofs.lemmas.List.Kept.{AllPairs-cons}
use Rattle.std.specs.FinSet.{contains}
use Rattle.std.proofs.lemmas.Bool.Decides.{Decides-eqb}
use Rattle.std.proofs.lemmas.Bool.{false_from_ne_true, both_ways}
use Rattle.std.proofs.lemmas.Option.{none-some, same_Some}
use Rattle.thes_base.specs.declared.data.Link.{Link}
use Rattle.thes_base.specs.Links.{Links, Holds, normal_form, redirect, redirect_link, links_after_merge}
use Rattle.thes_base.specs.Links.{links_after_deprecation, HasEnd}
use Rattle.thes_base.proofs.LinkSetLemmas.{without_node_from, without_node_to}
use Rattle.thes_base.proofs.LinkLemmas.{sent_never, sent_other, sent_stays}
use Rattle.thes_links.specs.Reading.{HaveTwoEnds}
use Rattle.thes_links.specs.LinkEdit.{link_after_merge}
use Rattle.thes_graph.specs.declared.sided_links.SidedLink.{SidedLink}
use Rattle.thes_graph.specs.SidedLinks.{sided_link_at, sided_links_at}
use Rattle.thes_links.specs.GraphView.{GraphView, is_marked}
use Rattle.thes_graph.specs.MergeAdditions.{AreNormal, AreMergeAdditions, AreNew, added_link, link_if_new, with_all}
use Rattle.thes_links.proofs.EditLemmas.{link_after_merge-ends, filter_map-from, filter_map-to}
use Rattle.thes_links.proofs.NormLemmas.{norm_ends, norm_two, norm_again, ends_or_not}
use Rattle.thes_links.proofs.SetLemmas.{same_links}
use Rattle.thes_links.proofs.ContractLemmas.{contracted_from, contracted_to, two_of_becomes}
use Rattle.thes_graph.proofs.IndexLemmas.{sided_links_from, sided_links_to, sided_links_once}
use Rattle.thes_base.proofs.ListMemberLemmas.{Contains-head, Contains-later}
use Rattle.thes_graph.proofs.RedirectLemmas.{one_sent}
use Rattle.thes_graph.proofs.ChangeLemmas.{with_from, with_keeps, with_has}

link_if_new-some : (links : Links) (l m : Link) → link_if_new links l ≡ Some m → (l ≡ m) × (Holds links l → ⊥)
link_if_new-some links l m e = grind (arith, common_steps, both_ways, none-some, same_Some)

link_if_new-new : (links : Links) (l : Link) → (Holds links l → ⊥) → link_if_new links l ≡ Some l
link_if_new-new links l new = ap (λ b. if b then None else Some l) (false_from_ne_true (contains links l) new)

-- The results of a partial function on a list differ if its elements do and no two of them have the same result.
apart_cons : {A B : Type 0} (f : A → Option B) (x : A) (xs : List A) (o : Option B) → f x ≡ o
    → ((y : A) (z : B) → Contains xs y → f x ≡ Some z → f y ≡ Some z → x ≡ y)
    → AllPairs (λ y z. y ≢ z) (x ∷ xs) → AllPairs (λ y z. y ≢ z) (filter_map f xs)
    → AllPairs (λ y z. y ≢ z) (cons_option o (filter_map f xs))
apart_cons f x xs None is one apart rest = rest
apart_cons {A} {B} f x xs (Some z) is one apart rest = AllPairs-cons (λ v w. v ≢ w) z (filter_map f xs) head rest
  where
    head : (k : ℕ) (d : B) → k < length (filter_map f xs) → z ≢ get_or (filter_map f xs) k d
    head k d within same =
        let r = filter_map-from f xs (get_or (filter_map f xs) k d) (Contains-get_or (filter_map f xs) k d within) in
        let c = subst (Contains xs) (sym (one r.0 z r.1 is (r.2 ∙ ap Some (sym same)))) r.1 in
        apart 0 (suc c.0) x (omega arith) (let l : c.0 < length xs = c.1 in omega arith) (sym c.2)

AllPairs-filter_map : {A B : Type 0} (f : A → Option B) (xs : List A)
    → ((x y : A) (z : B) → Contains xs x → Contains xs y → f x ≡ Some z → f y ≡ Some z → x ≡ y)
    → AllPairs (λ x y. x ≢ y) xs → AllPairs (λ x y. x ≢ y) (filter_map f xs)
AllPairs-filter_map f [] one apart = λ i j d lt within. absurd (omega arith)
AllPairs-filter_map f (x ∷ xs) one apart =
    apart_cons f x xs (f x) refl (λ y z has. one x y z (Contains-head x xs) (Contains-later x xs y has)) apart
    (AllPairs-filter_map f xs
    (λ y z w hy hz. one y z w (Contains-later x xs y hy) (Contains-later x xs z hz))
    (λ i j d l m. apart (suc i) (suc j) d (omega arith) (omega arith)))

module _ (net : GraphView) (source target : ℕ) where
  merged_from : (l m : Link) → added_link net source target l ≡ Some m → (n : Link)
      × (link_after_merge source target l ≡ Some n) × (m ≡ normal_form (is_marked net) n) × (Holds net.links m → ⊥)
  merged_from l m e = grind (arith, common_steps, link_if_new-some, none-some)

  merged_to : (l n : Link) → link_after_merge source target l ≡ Some n
      → (Holds net.links (normal_form (is_marked net) n) → ⊥) → added_link net source target l
      ≡ Some (normal_form (is_marked net) n)
  merged_to l n gives new = ap (option_and_then (λ m. link_if_new net.links (normal_form (is_marked net) m))) gives
      ∙ link_if_new-new net.links (normal_form (is_marked net) n) new

  module _ (different : source ≢ target) (two_ends : HaveTwoEnds (Holds net.links)) (normal : AreNormal net) where
    off_a : (l : Link) → (HasEnd source l → ⊥) → l.a ≢ source
    off_a l off e = off (inl e)

    off_b : (l : Link) → (HasEnd source l → ⊥) → l.b ≢ source
    off_b l off e = off (inr e)

    apart : (l : Link) → Holds net.links l → (HasEnd source l → ⊥)
        → (redirect source target l.a == redirect source target l.b) ≡ false
    apart l held off = grind (arith, common_steps, Decides-eqb, false_from_ne_true, off_a, off_b, sent_other)

    becomes_itself : (l : Link) → Holds net.links l → (HasEnd source l → ⊥) → link_after_merge source target l ≡ Some l
    becomes_itself l held off = ap (λ b. if b then None else Some (redirect_link source target l)) (apart l held off)
        ∙ ap Some (sent_stays source target l (off_a l off) (off_b l off))

    -- A link that isn't at the source is held after the merge.
    stays_held : (l : Link) → Holds net.links l → (HasEnd source l → ⊥)
        → Holds (links_after_merge (is_marked net) source target net.links) l
    stays_held l held off = subst (Holds (links_after_merge (is_marked net) source target net.links)) (normal l held)
        (contracted_to (is_marked net) source target net.links l l held (becomes_itself l held off))

    -- A merge turns a held link that isn't at the source into a link that was held.
    was_held : (l n : Link) → Holds net.links l → (HasEnd source l → ⊥) → link_after_merge source target l ≡ Some n
        → Holds net.links (normal_form (is_marked net) n)
    was_held l n held off gives =
        subst (Holds net.links)
        (sym (ap (normal_form (is_marked net)) (same_Some n l (sym gives ∙ becomes_itself l held off))
        ∙ normal l held)) held

    never_source : (l n : Link) → link_after_merge source target l ≡ Some n
        → HasEnd source (normal_form (is_marked net) n) → ⊥
    never_source l n gives at = grind (arith, common_steps, link_after_merge-ends, norm_ends, sent_never)

    abbrev merged_standing : SidedLink → Option Link
    merged_standing s = added_link net source target s.link

    abbrev made_links : List Link
    made_links = filter_map merged_standing (sided_links_at net.links source)

    -- Links at the source that become the same link in the merge are the same.
    one_made : is_marked net source ≡ is_marked net target → (s t : SidedLink) (m : Link)
        → Contains (sided_links_at net.links source) s → Contains (sided_links_at net.links source) t
        → merged_standing s ≡ Some m → merged_standing t ≡ Some m → s ≡ t
    one_made inside s t m hs ht x y =
        let p = sided_links_from net.links source s hs in
        let q = sided_links_from net.links source t ht in
        let made = merged_from s.link m x in
        let made' = merged_from t.link m y in
        let two = two_of_becomes (is_marked net) source target net.links s.link made.0 made.1 in
        let two' = two_of_becomes (is_marked net) source target net.links t.link made'.0 made'.1 in
        let same = one_sent net source target different two_ends normal inside s.link t.link (p.0, p.1, two.0)
        (q.0, q.1, two'.0)
        (ap (normal_form (is_marked net)) two.1 ∙ sym made.2 ∙ made'.2
        ∙ sym (ap (normal_form (is_marked net)) two'.1)) in
        sym p.2 ∙ ap (sided_link_at source) same ∙ q.2

    -- The new links made of those at the source are exactly those that the merge adds.
    pub AreMergeAdditions-made : (ms : List Link) → ms ≡ made_links → AreMergeAdditions net source target ms
    AreMergeAdditions-made ms is = subst (AreMergeAdditions net source target) (sym is) (record {
      sound = λ m has.
          let r = filter_map-from merged_standing (sided_links_at net.links source) m has in
          let made = merged_from r.0.link m r.2 in (
            subst (Holds (links_after_merge (is_marked net) source target net.links)) (sym made.2)
                (contracted_to (is_marked net) source target net.links r.0.link made.0
                (sided_links_from net.links source r.0 r.1).0 made.1),
            made.3,
          );
      complete = λ m held new. made_of m new (contracted_from (is_marked net) source target net.links m held);
      distinct = λ inside. AllPairs-filter_map merged_standing (sided_links_at net.links source) (one_made inside)
          (sided_links_once net.links source);
    })
      where
        made_of : (m : Link) → (Holds net.links m → ⊥) → (l : Link) × (n : Link) × Holds net.links l
            × (link_after_merge source target l ≡ Some n) × (m ≡ normal_form (is_marked net) n) → Contains made_links m
        made_of m new (l, n, was, gives, is) =
            let fresh : Holds net.links (normal_form (is_marked net) n) → ⊥ =
            λ held. new (subst (Holds net.links) (sym is) held) in
            elim (ends_or_not source l) [
              | inl at ↦ subst (Contains made_links) (sym is)
                  (filter_map-to merged_standing (sided_links_at net.links source) (sided_link_at source l)
                  (normal_form (is_marked net) n) (sided_links_to net.links source l was at)
                  (merged_to l n gives fresh))
              | inr off ↦ absurd (fresh (was_held l n was off gives))
            ]

  -- Assumes the links that a merge adds.
  module _ (ms : List Link) (are : AreMergeAdditions net source target ms) where
    abbrev IsMade : Link → Type 0
    IsMade m = (l : Link) × (n : Link) × Holds net.links l × (link_after_merge source target l ≡ Some n)
        × (m ≡ normal_form (is_marked net) n)

    made_from : (m : Link) → Contains ms m → IsMade m
    made_from m has = contracted_from (is_marked net) source target net.links m (are.sound m has).0

    pub AreNew-merge_additions : AreNew net ms
    AreNew-merge_additions = record {
      two_ends = λ m has. two m (made_from m has);
      normal = λ m has. normal m (made_from m has);
      new = λ m has. (are.sound m has).1;
    }
      where
        two : (m : Link) → IsMade m → m.a ≢ m.b
        two m (l, n, _, gives, is) = subst (λ (w : Link). w.a ≢ w.b) (sym is)
            (norm_two (is_marked net) n (link_after_merge-ends source target l n gives).3)

        normal : (m : Link) → IsMade m → normal_form (is_marked net) m ≡ m
        normal m (l, n, _, _, is) = ap (normal_form (is_marked net)) is ∙ norm_again (is_marked net) n ∙ sym is

    -- Adding the new links and removing those at the source gives the links after the merge.
    pub merged_links : source ≢ target → HaveTwoEnds (Holds net.links) → AreNormal net
        → links_after_deprecation source (with_all net.links ms)
        ≡ links_after_merge (is_marked net) source target net.links
    merged_links different two_ends normal = same_links (links_after_deprecation source (with_all net.links ms))
        (links_after_merge (is_marked net) source target net.links) to from
      where
        to : (m : Link) → Holds (links_after_deprecation source (with_all net.links ms)) m
            → Holds (links_after_merge (is_marked net) source target net.links) m
        to m held =
            let r = without_node_from source (with_all net.links ms) m held in
            elim (with_from net.links ms m r.0) [
              | inl old ↦ stays_held different two_ends normal m old r.1
              | inr has ↦ (are.sound m has).0
            ]

        held_or_not : (l : Link) → Holds net.links l ⊎ (Holds net.links l → ⊥)
        held_or_not l = elim (contains net.links l) as (λ b. (b ≡ true) ⊎ (b ≡ true → ⊥))
            [ true ↦ inl refl | false ↦ inr (λ e. both_ways false refl e) ]

        off : (m : Link) → IsMade m → HasEnd source m → ⊥
        off m (l, n, _, gives, is) at = never_source different two_ends normal l n gives (subst (HasEnd source) is at)

        from : (m : Link) → Holds (links_after_merge (is_marked net) source target net.links) m
            → Holds (links_after_deprecation source (with_all net.links ms)) m
        from m held =
            without_node_to source (with_all net.links ms) m (
              elim (held_or_not m) [
                | inl old ↦ with_keeps net.links ms m old
                | inr new ↦ with_has net.links ms m (are.complete m held new)
              ],
              off m (contracted_from (is_marked net) source target net.links m held),
            )

-- One iteration of a loop appends the value to which the next item is mapped, if there is one.
pub filter_map_more : {X Y : Type 0} → (f : X → Option Y) (xs : List X) (i : ℕ) (x : X) (o : Option Y) → i < length xs
    → x ≡ get_or xs i x → o ≡ f x
    → filter_map f (take (i + 1) xs) ≡ filter_map f (take i xs) ++ option_to_list o
filter_map_more {Y = Y} f xs i x o within is gives =
    ap (filter_map f) (take_more xs i x within ∙ ap (λ y. take i xs ++ y ∷ []) (sym is))
    ∙ filter_map-append f (take i xs) (x ∷ [])
    ∙ ap (λ ys. filter_map f (take i xs) ++ ys) (one o gives)
  where
    one : (p : Option Y) → p ≡ f x → filter_map f (x ∷ []) ≡ option_to_list p
    one p e = ap (λ q. cons_option q []) (sym e) ∙ go p
      where
        go : (q : Option Y) → cons_option q [] ≡ option_to_list q
        go None = refl
        go (Some y) = refl
