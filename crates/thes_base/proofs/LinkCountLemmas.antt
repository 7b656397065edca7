-- A merge doesn't raise the number of links.
use Rattle.std.proofs.lemmas.Grind.{common_steps}
use Rattle.std.proofs.Common.{◌≡◌, ◌≤◌, ◌+◌, ℕ, List, [], ◌∷◌, inl, inr, sym, ap, ◌∙◌, arith, Bool, true, false, cond}
use Rattle.std.proofs.Common.{map}
use Rattle.std.specs.Prelude.{filter}
use Rattle.std.specs.FinSet as set
use Rattle.std.proofs.lemmas.Bool.{cases_Bool}
use Rattle.thes_base.specs.declared.data.Link.{Link}
use Rattle.thes_base.specs.Links.{Links, Holds, link_cmp, links_after_merge}
use Rattle.thes_base.proofs.ListMemberLemmas.{Contains-map, Contains-filter}
use Rattle.thes_base.proofs.LinkSetLemmas.{links_total, links_exact}
use Rattle.thes_base.proofs.SetMemberLemmas.{len_inserted, len_there, from_list_of, from_list_has}

len_new : (links : Links) (l : Link) → set.contains links l ≡ false → set.len (set.insert links l) ≡ set.len links + 1
len_new = len_inserted links_total links_exact

len_old : (links : Links) (l : Link) → Holds links l → set.len (set.insert links l) ≡ set.len links
len_old = len_there links_total links_exact

len_grows : (links : Links) (l : Link) → (set.len links ≤ set.len (set.insert links l))
    × (set.len (set.insert links l) ≤ set.len links + 1)
len_grows links l = grind (arith, common_steps, cases_Bool, len_new, len_old)

-- The links of a list that pass a test are mapped by `send`, and collected in a set, the image of the list.
module _ (passes : Link → Bool) (send : Link → Link) where
  abbrev image : List Link → Links
  image ls = set.from_list (map send (filter passes ls))

  image_yes : (l : Link) (ls : List Link) → passes l ≡ true → image (l ∷ ls) ≡ set.insert (image ls) (send l)
  image_yes l ls hit =
      ap (λ b. set.from_list {R = link_cmp} (map send (cond b (l ∷ filter passes ls) (filter passes ls)))) hit

  image_no : (l : Link) (ls : List Link) → passes l ≡ false → image (l ∷ ls) ≡ image ls
  image_no l ls miss =
      ap (λ b. set.from_list {R = link_cmp} (map send (cond b (l ∷ filter passes ls) (filter passes ls)))) miss

  -- The set has the image of each link of the list that passes the test.
  in_image : (l : Link) (ls : List Link) → Holds (set.from_list ls) l → passes l ≡ true → Holds (image ls) (send l)
  in_image l ls there hit =
      from_list_has links_total links_exact (map send (filter passes ls)) (send l)
      (Contains-map send (filter passes ls) l
      (Contains-filter passes ls l (from_list_of links_total links_exact ls l there) hit))

  -- The set has at most as many links as the list has different ones.
  image_fewer : (ls : List Link) → set.len (image ls) ≤ set.len (set.from_list {R = link_cmp} ls)
  image_fewer [] = omega arith
  image_fewer (l ∷ ls) =
      let ih = image_fewer ls in
      let before = len_grows (set.from_list ls) l in
      elim (cases_Bool (passes l)) [
        | inr miss ↦ let e = ap set.len (image_no l ls miss) in omega (arith, e, ih, before.0)
        | inl hit ↦
            let e = ap set.len (image_yes l ls hit) in
            let after = len_grows (image ls) (send l) in
            elim (cases_Bool (set.contains (set.from_list {R = link_cmp} ls) l)) [
              | inl there ↦ let same = len_old (image ls) (send l) (in_image l ls there hit) in
                  omega (arith, e, ih, before.0, same)
              | inr fresh ↦ let more = len_new (set.from_list ls) l fresh in omega (arith, e, ih, after.1, more)
            ]
      ]

-- The set made of the items of a set of links is that set again.
listed_again : (links : Links) → set.from_list (set.items links) ≡ links
listed_again links = set.same_set links_total links_exact _ _
    (λ q. set.contains-from_list links_total (set.items links) q ∙ sym (set.contains-items links q))

pub contracted_fewer : (outside : ℕ → Bool) (source target : ℕ) (links : Links)
    → set.len (links_after_merge outside source target links) ≤ set.len links
contracted_fewer outside source target links = grind (arith, common_steps, image_fewer, listed_again)
