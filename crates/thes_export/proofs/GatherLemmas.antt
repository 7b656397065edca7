-- Proves that the sorted parts about all resources are the export.
use Rattle.std.proofs.lemmas.Grind.{common_steps}
use Rattle.std.proofs.Common.{◌≡◌, ◌∙◌, sym, refl, subst, inl, inr, ⊎_elim, ℕ, ◌+◌, ◌-◌, ◌<◌, ◌≤◌, Bool, true}
use Rattle.std.proofs.Common.{false, List, [], ◌∷◌, ◌++◌, length, get_or, take, Contains, IsPermutation, IsSorted}
use Rattle.std.proofs.Common.{◌^◌, ap, length-append, min, nat_eq, arith, eqb, eqb-true}
use borrow.Author.Tests.{eqb-false}
use Rattle.std.specs.List.{concat}
use Rattle.std.specs.List.Retain.{DiffersFromLast, IsFiltered}
use Rattle.std.specs.List.Sorted.{IsStrictlySortedBy}
use Rattle.std.specs.Cmp.Lexicographic.{pointwise, bytes_decides, nat_list_cmp_total, nat_list_eq_equiv, texts_ties}
use Rattle.std.specs.Cmp.Lexicographic.{slice_cmp}
use Rattle.std.proofs.lemmas.List.{append-nil, take_more}
use Rattle.std.proofs.lemmas.List.Folds.{concat-append}
use Rattle.std.proofs.lemmas.List.Elements.{Contains-append_left, Contains-append_right, Contains-append_cases}
use Rattle.std.proofs.lemmas.List.Filters.{dedup_is}
use Rattle.std.proofs.lemmas.List.Kept.{Contains-dedup, Contains-from_dedup, IsStrictlySortedBy-dedup}
use Rattle.std.proofs.lemmas.List.Sorted.{Contains-permutation, IsPermutation-sym}
use Rattle.std.specs.Ordering.{nat_cmp}
use Rattle.thes_base.specs.Legal.{IsLegalState}
use Rattle.std.proofs.lemmas.Option.{slice_get_cases}
use Rattle.thes_base.specs.declared.data.Resource.{Resource}
use Rattle.thes_base.specs.Listing.{IsListing}
use Rattle.thes_base.specs.Resources.{Exists}
use Rattle.thes_base.specs.State.{State}
use Rattle.thes_base.proofs.ListMemberLemmas.{Contains-none, Contains-head, Contains-cons_cases}
use Rattle.thes_base.proofs.NumberedLemmas.{numbered_at, numbered_bound}
use Rattle.thes_core.specs.CoreView.{CoreView, IsViewOf, with_histories}
use Rattle.thes_export.specs.Export.{IsExport, IsTripleLine}
use Rattle.thes_export.specs.Topics.{Adds, AreParts, IsPartOf, IsResourceTriple, IsLineOf}
use Rattle.thes_export.proofs.HoldingLemmas.{still_up}
use Rattle.thes_export.proofs.PartLemmas.{AreLinesOf, IsPart, lines_found}
use Rattle.thes_export.proofs.ResourceTripleLemmas.{written_from, written_to}

-- Before the first resource there are no parts.
pub parts_first : (core : CoreView) → AreParts core 0 []
parts_first core = grind (arith, common_steps, Contains-none)

-- Once the part about the next resource is appended, the parts are complete up to that resource.
pub parts_next : (core : CoreView) (i : ℕ) (text : List ℕ) (old new : List (List ℕ)) → IsPartOf core (i + 1) text
    → new ≡ old ++ text ∷ [] → AreParts core i old → AreParts core (i + 1) new
parts_next core i text old new part e are = subst (AreParts core (i + 1)) (sym e) (record {
  sound = λ x c. ⊎_elim
      (λ was. let w = are.sound x was in (w.0, still_up (λ m. IsPartOf core m x) i w.0 w.1))
      (λ last. (
        i + 1,
        (
          omega arith,
          omega arith,
          ⊎_elim (λ same. subst (IsPartOf core (i + 1)) same part) (λ none. absurd (Contains-none x none))
              (Contains-cons_cases text [] x last),
        ),
      ))
      (Contains-append_cases old (text ∷ []) x c);
  complete = λ n least most. go n least most (eqb n (i + 1)) refl;
})
  where
    go : (n : ℕ) → 1 ≤ n → n ≤ i + 1 → (b : Bool) → eqb n (i + 1) ≡ b
        → (x : List ℕ) × Contains (old ++ text ∷ []) x × IsPartOf core n x
    go n least most true e = (
      text,
      Contains-append_right old (text ∷ []) text (Contains-head text []),
      subst (λ m. IsPartOf core m text) (sym (eqb-true n (i + 1) e)) part,
    )
    go n least most false e =
        let other = eqb-false n (i + 1) e in
        let w = are.complete n least (omega arith) in
        (w.0, Contains-append_left old (text ∷ []) w.0 w.1, w.2)

-- The lines about a resource, sorted and each once, are its part.
pub part_is : (core : CoreView) (n : ℕ) (gathered lines : List (List ℕ)) (text : List ℕ)
    → Adds (IsLineOf (IsResourceTriple core n)) [] gathered → IsListing (slice_cmp nat_cmp) (Contains gathered) lines
    → text ≡ concat lines → IsPartOf core n text
part_is core n gathered lines text added sorted e = (
  lines,
  record {
    rises = sorted.rises;
    sound = λ l c. ⊎_elim (λ none. absurd (Contains-none l none)) (λ is. is) ((added.each l).0 (sorted.sound l c));
    complete = λ l is. sorted.complete l ((added.each l).1 (inr is));
  },
  e,
)

-- Parts that are sorted without duplicates are a listing.

pub sorted_listing : (xs ys zs : List (List ℕ)) → IsPermutation xs ys → IsSorted (slice_cmp nat_cmp) ys
    → IsFiltered (DiffersFromLast (pointwise nat_eq)) [] ys zs → IsListing (slice_cmp nat_cmp) (Contains xs) zs
sorted_listing xs ys zs moved sorted filtered =
    let is = dedup_is (pointwise nat_eq) ys zs filtered in
    record {
      rises = subst (IsStrictlySortedBy (slice_cmp nat_cmp)) (sym is)
          (IsStrictlySortedBy-dedup nat_list_cmp_total texts_ties ys sorted);
      sound = λ l c. Contains-permutation ys xs l (IsPermutation-sym xs ys moved)
          (Contains-from_dedup (pointwise nat_eq) ys l (subst (λ ws. Contains ws l) is c));
      complete = λ l c. subst (λ ws. Contains ws l) (sym is)
          (Contains-dedup nat_list_eq_equiv (λ x y e. (bytes_decides x y).0 e) ys l
          (Contains-permutation xs ys l moved c));
    }

-- After the part at index `i` is appended, the text is that of the first i + 1 parts.
pub joined_more : (xs : List (List ℕ)) (i : ℕ) (x old new : List ℕ) → i < length xs → x ≡ get_or xs i x → old
    ≡ concat (take i xs) → new ≡ old ++ x → new ≡ concat (take (i + 1) xs)
joined_more xs i x old new below at so_far more = grind (arith, common_steps, append-nil, concat-append, take_more)

-- After the bytes of the part at index `i` are counted, the count is that of the first i + 1 parts, or the greatest
-- `usize`.
pub counted_more : (xs : List (List ℕ)) (i : ℕ) (x : List ℕ) (count more : ℕ) → i < length xs → x ≡ get_or xs i x
    → count ≡ min (length (concat (take i xs))) (2 ^ 64 - 1) → more ≡ min (count + length x) (2 ^ 64 - 1)
    → more ≡ min (length (concat (take (i + 1) xs))) (2 ^ 64 - 1)
counted_more xs i x count more below at so_far next =
    let joined = joined_more xs i x (concat (take i xs)) _ below at refl refl in
    let size = ap (λ (l : List ℕ). length l) joined in
    let both = length-append (concat (take i xs)) x in
    omega (arith, size, both, so_far, next)

-- Each number up to the number of resources is that of a resource.
exists_up : (xs : List Resource) (n : ℕ) → 1 ≤ n → n ≤ length xs → Exists xs n
exists_up xs n least most = elim (slice_get_cases xs (n - 1)).1 [
  | inl found ↦ (found.0, numbered_at xs n least ∙ found.2)
  | inr past ↦ absurd (let beyond = past.0 in omega arith)
]

-- If a core is a view of the state, the sorted parts about all its resources are the export.

module _ (core : CoreView) (s : State) (holds : IsViewOf core s) (gathered parts : List (List ℕ))
    (are : AreParts core (length core.resources) gathered)
    (sorted : IsListing (slice_cmp nat_cmp) (Contains gathered) parts) where
  abbrev base : List ℕ
  base = core.setting.base

  abbrev k : State
  k = with_histories s.histories core

  legal : IsLegalState base k
  legal = subst (IsLegalState base) (sym holds.state) holds.legal

  part_found : (x : List ℕ) → Contains parts x → IsPart core s.histories legal x
  part_found x c =
      let w = are.sound x (sorted.sound x c) in
      let up = w.1 in
      (w.0, exists_up core.resources w.0 up.0 up.1, up.2)

  found : AreLinesOf core s.histories legal parts
  found = lines_found core s.histories legal parts sorted.rises part_found

  line_asserted : (l : List ℕ) → Contains found.lines l → IsTripleLine base k l
  line_asserted l c =
      let w = found.sound l c in
      let of = w.2 in
      let about = of.3 in
      (about.0, written_to core s.histories legal of.0 about.0 about.1, about.2)

  line_listed : (l : List ℕ) → IsTripleLine base k l → Contains found.lines l
  line_listed l is =
      let w = written_from core s.histories legal is.0 is.1 in
      let there = w.1 in
      let b = numbered_bound core.resources w.0 there.0 there.1 in
      let part = are.complete w.0 b.0 b.1 in
      found.complete part.0 l w.0 there (sorted.complete part.0 part.1) part.2 (is.0, w.2, is.2)

  pub export_is : (text : List ℕ) → text ≡ concat parts → IsExport base s text
  export_is text e =
      subst (λ z. IsExport base z text) holds.state
      (record {
        lines = found.lines;
        listed = record { rises = found.rises; sound = line_asserted; complete = line_listed };
        is = e ∙ found.text_is;
      })
