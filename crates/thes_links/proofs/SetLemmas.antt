-- The members of sets of links after insertions and removals; sets with the same members are equal.
use Rattle.std.proofs.lemmas.Grind.{common_steps}
use Rattle.std.proofs.Common.{◌≡◌, ◌≢◌, ◌||◌, List, Bool, true, false, cond, Contains, refl, arith}
use Rattle.std.specs.FinSet.{insert, remove, items, from_list}
use Rattle.thes_base.specs.declared.data.Link.{Link}
use Rattle.thes_base.specs.Links.{Links, Holds}
use Rattle.thes_base.proofs.LinkSetLemmas.{links_total, links_exact}
use Rattle.thes_base.proofs.SetMemberLemmas as set

pub cond-or : (a b : Bool) → cond a true b ≡ (a || b)
cond-or true b = refl
cond-or false b = refl

pub same_links : (s t : Links) → ((m : Link) → Holds s m → Holds t m) → ((m : Link) → Holds t m → Holds s m) → s ≡ t
same_links = set.same_members links_total links_exact

pub held_from_list : (ls : List Link) (m : Link) → Contains ls m → Holds (from_list ls) m
held_from_list = set.from_list_has links_total links_exact

pub listed_of_held : (ls : List Link) (m : Link) → Holds (from_list ls) m → Contains ls m
listed_of_held = set.from_list_of links_total links_exact

pub held_of_item : (links : Links) (m : Link) → Contains (items links) m → Holds links m
held_of_item = set.items_of links_total links_exact

pub item_of_held : (links : Links) (m : Link) → Holds links m → Contains (items links) m
item_of_held = set.items_has links_total links_exact

pub inserted_held : (links : Links) (l : Link) → Holds (insert links l) l
inserted_held = set.inserted_new links_total links_exact

pub insert_keeps : (links : Links) (l m : Link) → Holds links m → Holds (insert links l) m
insert_keeps = set.inserted_kept links_total links_exact

pub remove_keeps : (links : Links) (l m : Link) → m ≢ l → Holds links m → Holds (remove links l) m
remove_keeps = set.removed_kept links_total links_exact

pub removed_cases : (links : Links) (l m : Link) → Holds (remove links l) m → (m ≢ l) × Holds links m
removed_cases = set.removed_cases links_total links_exact

pub remove_absent : (links : Links) (l : Link) → (Holds links l → ⊥) → remove links l ≡ links
remove_absent links l absent = grind (arith, common_steps, remove_keeps, removed_cases, same_links)
