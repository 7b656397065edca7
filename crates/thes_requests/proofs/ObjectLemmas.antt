-- Proves what a look-up finds among members put in one by one, and how many names there are.
use Rattle.std.proofs.lemmas.Grind.{common_steps}
use Rattle.std.proofs.Common.{◌≡◌, ℕ, suc, ◌≤◌, List, [], ◌∷◌, fold, Option, Some, None, Ordering, Less, Equal, Greater}
use Rattle.std.proofs.Common.{nat_cmp, is_eq, cond, bytes_eq, Bor, refl, sym, ap, ◌∙◌, le_refl, le_trans, arith}
use Rattle.std.specs.Prelude.{⊤}
use Rattle.std.specs.Cmp.Lexicographic.{slice_cmp}
use Rattle.std.specs.Ordering.{match_ordering, ordering_reverse}
use Rattle.std.proofs.lemmas.Cmp.{nat_list_cmp_total}
use Rattle.std.proofs.lemmas.Map.Text.{is_eq-slice_cmp}
use Rattle.serde_json.specs.Data.{Data, Members, no_members, member, put}
use Rattle.serde_json.specs.Events.{members_len}
use Rattle.serde_json.specs.Find.{get_member}

abbrev order : List ℕ → List ℕ → Ordering
order = slice_cmp nat_cmp

-- If two members have different names, a look-up finds the same value whichever of the names it compares first.
put_other_name : (o q : Ordering) (e d : Option Data) (rest : Option Data) → (o ≡ Equal → q ≡ Greater)
    → match_ordering q (match_ordering o rest d rest) e (match_ordering o rest d rest)
    ≡ match_ordering o (match_ordering q rest e rest) d (match_ordering q rest e rest)
put_other_name o q e d rest h = grind (arith, common_steps)

put_same_name : (o : Ordering) (e d rest : Option Data) → match_ordering o rest d rest
    ≡ match_ordering o (match_ordering o rest e rest) d (match_ordering o rest e rest)
put_same_name o e d rest = grind (arith, common_steps)

-- Two equal names compare alike with any other name.
equal_names_order : (n k l : List ℕ) (o : Ordering) → order n k ≡ Equal → order k l ≡ o → order n l ≡ o
equal_names_order n k l o e f = nat_list_cmp_total.congr n k l e ∙ f

equal_names_order_right : (n k l : List ℕ) → order k l ≡ Equal → order n k ≡ order n l
equal_names_order_right n k l e =
    nat_list_cmp_total.antisymm n k ∙ ap ordering_reverse (nat_list_cmp_total.congr k l n e)
    ∙ sym (nat_list_cmp_total.antisymm n l)

-- A look-up after a member is put in finds this member if the names are equal, or else what it found before.
get_member-put : (n k : List ℕ) (d : Data) (ms : Members)
    → get_member n (put k d ms) ≡ match_ordering (order n k) (get_member n ms) (Some d) (get_member n ms)
get_member-put n k d no_members = refl
get_member-put n k d (member l e ms) = there (order k l) refl (get_member-put n k d ms)
  where
    there : (o : Ordering) → order k l ≡ o → get_member n (put k d ms) ≡ match_ordering (order n k) (get_member n ms)
        (Some d) (get_member n ms)
        → get_member n (match_ordering o (member k d (member l e ms)) (member l d ms) (member l e (put k d ms)))
        ≡ match_ordering (order n k) (get_member n (member l e ms)) (Some d) (get_member n (member l e ms))
    there Less h rest = refl
    there Equal h rest = rw (equal_names_order_right n k l h)
        (put_same_name (order n l) (Some e) (Some d) (get_member n ms))
    there Greater h rest =
        rw rest (put_other_name (order n k) (order n l) (Some e) (Some d) (get_member n ms)
        (λ t. equal_names_order n k l Greater t h))

by_test : (o : Ordering) (d rest : Option Data) → match_ordering o rest d rest ≡ cond (is_eq o) d rest
by_test o d rest = grind (arith, common_steps)

-- A look-up finds the last value put in for a name.
pub get_after_put : (n k : List ℕ) (d : Data) (ms : Members) → get_member n (put k d ms)
    ≡ cond (bytes_eq n k) (Some d) (get_member n ms)
get_after_put n k d ms = grind (arith, common_steps, get_member-put, by_test, is_eq-slice_cmp)

-- The members are in ascending order of their names.
abbrev pub AreOrderedMembers : Members → Type 0
AreOrderedMembers no_members = ⊤
AreOrderedMembers (member l e ms) = ((k : List ℕ) → order k l ≡ Less → get_member k ms ≡ None) × AreOrderedMembers ms

-- Putting in a member keeps the order.
AreOrderedMembers-put : (k : List ℕ) (d : Data) (ms : Members) → AreOrderedMembers ms → AreOrderedMembers (put k d ms)
AreOrderedMembers-put k d no_members h = (λ j less. refl, tt)
AreOrderedMembers-put k d (member l e ms) h = there (order k l) refl (AreOrderedMembers-put k d ms h.1)
  where
    there : (o : Ordering) → order k l ≡ o → AreOrderedMembers (put k d ms)
        → AreOrderedMembers (match_ordering o (member k d (member l e ms)) (member l d ms) (member l e (put k d ms)))
    there Less b rest = (λ j less. let far = nat_list_cmp_total.trans j k l less b in rw far (h.0 j far), h)
    there Equal b rest = h
    there Greater b rest =
        let back : order l k ≡ Less = nat_list_cmp_total.antisymm l k ∙ ap ordering_reverse b in
        (λ j less. get_member-put j k d ms ∙ rw (nat_list_cmp_total.trans j l k less back) (h.0 j less), rest)

-- The number of names after one is put in: one more, unless the name was present.
abbrev pub with_one : Option Data → ℕ → ℕ
with_one None n = suc n
with_one (Some d) n = n

-- The number of names after a member is put in: one more, unless its name was present.
pub members_len-put : (k : List ℕ) (d : Data) (ms : Members) → AreOrderedMembers ms → members_len (put k d ms)
    ≡ with_one (get_member k ms) (members_len ms)
members_len-put k d no_members h = refl
members_len-put k d (member l e ms) h = grind (arith, common_steps, members_len-put k d ms h.1)

-- The members of a list, put in one by one.

abbrev pub NamedData : Type 0
NamedData = Bor (List ℕ) × Data

abbrev pub put_all : Members → List NamedData → Members
put_all = fold (λ found m. put m.0.now m.1 found)

pub AreOrderedMembers-put_all : (ms : Members) (es : List NamedData) → AreOrderedMembers ms
    → AreOrderedMembers (put_all ms es)
AreOrderedMembers-put_all ms [] h = h
AreOrderedMembers-put_all ms (e ∷ es) h = AreOrderedMembers-put_all (put e.0.now e.1 ms) es
    (AreOrderedMembers-put e.0.now e.1 ms h)

no_fewer : (o : Option Data) (n : ℕ) → n ≤ with_one o n
no_fewer o n = grind (arith, common_steps)

pub members_len-put_all : (ms : Members) (es : List NamedData) → AreOrderedMembers ms → members_len ms
    ≤ members_len (put_all ms es)
members_len-put_all ms [] h = le_refl (members_len ms)
members_len-put_all ms (e ∷ es) h =
    let one : members_len ms ≤ members_len (put e.0.now e.1 ms) = rw (members_len-put e.0.now e.1 ms h)
    (no_fewer (get_member e.0.now ms) (members_len ms)) in
    le_trans one (members_len-put_all (put e.0.now e.1 ms) es (AreOrderedMembers-put e.0.now e.1 ms h))
