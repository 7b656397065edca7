-- The index stays correct after an outside concept without links is marked or unmarked.
use Rattle.std.proofs.lemmas.Grind.{common_steps}
use Rattle.std.proofs.Common.{◌≡◌, ◌≢◌, ℕ, List, Bool, true, false, cond, ◌&&◌, ◌||◌, nat_lt, if◌then◌else◌, sym, arith}
use Rattle.std.proofs.Common.{ap, refl, ◌∙◌}
use Rattle.std.specs.Prelude.{not}
use Rattle.std.specs.List.{list_any}
use Rattle.std.specs.Ordering.{nat_cmp, eq_by_cmp}
use Rattle.std.specs.Cmp.{nat_cmp_total, nat_eq_equiv, unsigned_tied}
use Rattle.std.specs.FinSet.{FinSet, insert, remove, contains, from_list, same_set, contains-from_list, contains-insert}
use Rattle.std.specs.FinSet.{contains-remove}
use Rattle.std.specs.FinSet.{nat_cmp-IsAntisymmetric}
use Rattle.std.specs.BTreeMap.{is_at}
use Rattle.std.proofs.lemmas.Bool.{false_from_ne_true}
use Rattle.thes_base.specs.declared.data.Link.{Link}
use Rattle.thes_base.specs.Links.{Holds, is_symmetric, reversed_link, normal_form, HasEnd}
use Rattle.thes_lists.specs.declared.lists.Lists.{Lists}
use Rattle.thes_graph.specs.declared.sided_links.SidedLink.{SidedLink}
use Rattle.thes_graph.specs.Index.{IsIndexed}
use Rattle.thes_links.proofs.NumberLemmas.{same_of}
use Rattle.thes_links.proofs.SetLemmas.{cond-or}

-- The set of marks after the insertion of a number has that number and the old ones.
pub from_list_marked : (old new : List ℕ) (n : ℕ)
    → ((q : ℕ) → list_any (eq_by_cmp nat_cmp q) new ≡ cond (is_at (nat_cmp n) q) true
    (list_any (eq_by_cmp nat_cmp q) old))
    → from_list {R = nat_cmp} new ≡ insert (from_list old) n
from_list_marked old new n updates =
    same_set nat_cmp_total nat_cmp-IsAntisymmetric (from_list new) (insert (from_list old) n)
    (λ q. contains-from_list nat_cmp_total new q ∙ updates q
    ∙ ap (λ b. cond b true (list_any (eq_by_cmp nat_cmp q) old)) (unsigned_tied n q ∙ nat_eq_equiv.symm n q
    ∙ sym (unsigned_tied q n))
    ∙ cond-or (eq_by_cmp nat_cmp q n) (list_any (eq_by_cmp nat_cmp q) old)
    ∙ sym (contains-insert nat_cmp_total (from_list old) n q ∙ ap (λ b. eq_by_cmp nat_cmp q n || b)
    (contains-from_list nat_cmp_total old q)))

still_marked : (s : FinSet nat_cmp) (n q : ℕ) → q ≢ n → contains (insert s n) q ≡ contains s q
still_marked s n q other =
    contains-insert nat_cmp_total s n q
    ∙ ap (λ b. b || contains s q)
    (false_from_ne_true (eq_by_cmp nat_cmp q n) (λ e. other (same_of q n (sym (unsigned_tied q n) ∙ e))))

-- The normal form of a link depends only on whether its two ends are outside concepts.
pub norm_same : (f g : ℕ → Bool) (l : Link) → f l.a ≡ g l.a → f l.b ≡ g l.b → normal_form f l ≡ normal_form g l
norm_same f g l a b =
    ap (λ o. if is_symmetric (o || f l.b) l.kind && nat_lt l.b l.a then reversed_link l else l) a
    ∙ ap (λ o. if is_symmetric (g l.a || o) l.kind && nat_lt l.b l.a then reversed_link l else l) b

-- The index stays correct if no link has an end at the new outside concept.
pub IsIndexed-marked : (ks : List Link) (rows : Lists SidedLink) (old new : List ℕ) (n : ℕ) → IsIndexed ks rows old
    → from_list {R = nat_cmp} new ≡ insert (from_list old) n
    → ((l : Link) → Holds (from_list ks) l → HasEnd n l → ⊥) → IsIndexed ks rows new
IsIndexed-marked ks rows old new n index is free = grind (arith, common_steps, norm_same, still_marked)

cond-and : (b x : Bool) → cond b false x ≡ (not b && x)
cond-and true x = refl
cond-and false x = refl

-- The set of marks after the removal of a number has all old ones except that number.
pub from_list_unmarked : (old new : List ℕ) (n : ℕ)
    → ((q : ℕ) → list_any (eq_by_cmp nat_cmp q) new ≡ cond (is_at (nat_cmp n) q) false
    (list_any (eq_by_cmp nat_cmp q) old))
    → from_list {R = nat_cmp} new ≡ remove (from_list old) n
from_list_unmarked old new n updates =
    same_set nat_cmp_total nat_cmp-IsAntisymmetric (from_list new) (remove (from_list old) n)
    (λ q. contains-from_list nat_cmp_total new q ∙ updates q
    ∙ ap (λ b. cond b false (list_any (eq_by_cmp nat_cmp q) old)) (unsigned_tied n q ∙ nat_eq_equiv.symm n q
    ∙ sym (unsigned_tied q n))
    ∙ cond-and (eq_by_cmp nat_cmp q n) (list_any (eq_by_cmp nat_cmp q) old)
    ∙ sym (contains-remove nat_cmp_total (from_list old) n q ∙ ap (λ b. not (eq_by_cmp nat_cmp q n) && b)
    (contains-from_list nat_cmp_total old q)))

marked_as_before : (s : FinSet nat_cmp) (n q : ℕ) → q ≢ n → contains (remove s n) q ≡ contains s q
marked_as_before s n q other =
    contains-remove nat_cmp_total s n q
    ∙ ap (λ b. not b && contains s q)
    (false_from_ne_true (eq_by_cmp nat_cmp q n) (λ e. other (same_of q n (sym (unsigned_tied q n) ∙ e))))

-- The index stays correct if no link has an end at the outside concept that is unmarked.
pub IsIndexed-unmarked : (ks : List Link) (rows : Lists SidedLink) (old new : List ℕ) (n : ℕ) → IsIndexed ks rows old
    → from_list {R = nat_cmp} new ≡ remove (from_list old) n
    → ((l : Link) → Holds (from_list ks) l → HasEnd n l → ⊥) → IsIndexed ks rows new
IsIndexed-unmarked ks rows old new n index is free = grind (arith, common_steps, norm_same, marked_as_before)
