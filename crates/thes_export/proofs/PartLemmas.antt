-- Proves that the sorted parts about all resources are together the sorted lines.
use Rattle.std.proofs.lemmas.Grind.{common_steps}
use Rattle.std.proofs.Common.{◌≡◌, ◌∙◌, sym, ap, refl, subst, ⊎_elim, ℕ, Bool, true, false, arith}
use Rattle.std.proofs.Common.{List, [], ◌∷◌, ◌++◌, Contains, All, eqb, eqb-true, append_assoc, Ordering, Less, Equal}
use borrow.Author.Tests.{eqb-false}
use Rattle.std.specs.List.{concat}
use Rattle.std.specs.List.Sorted.{IsStrictlySortedBy}
use Rattle.std.specs.Cmp.{tied_itself}
use Rattle.std.specs.Cmp.Lexicographic.{nat_list_cmp_total, slice_cmp}
use Rattle.std.specs.Ordering.{nat_cmp, ordering_then}
use Rattle.std.proofs.lemmas.List.Elements.{All-head, All-tail, Contains-append_left, Contains-append_right}
use Rattle.std.proofs.lemmas.List.Elements.{Contains-append_cases}
use Rattle.std.proofs.lemmas.List.Folds.{concat-append}
use Rattle.std.proofs.lemmas.Map.Keys.{sorted_tail}
use Rattle.std.proofs.lemmas.Map.Lookups.{exact_unsigned}
use Rattle.thes_base.specs.declared.data.History.{History}
use Rattle.thes_base.specs.Forms.{IsIriByte}
use Rattle.thes_base.specs.Legal.{IsLegalState}
use Rattle.thes_base.specs.Listing.{IsListing}
use Rattle.thes_base.specs.Resources.{Exists}
use Rattle.thes_base.specs.State.{State}
use Rattle.thes_base.specs.Triples.{Triple}
use Rattle.thes_base.proofs.ListMemberLemmas.{Contains-none, Contains-head, Contains-later, Contains-cons_cases}
use Rattle.thes_base.proofs.TripleLemmas.{resources_apart}
use Rattle.thes_base.proofs.UniqueListingLemmas.{one_listing}
use Rattle.thes_lists.proofs.MemberLemmas.{Has-from, Contains-from}
use Rattle.thes_lists.proofs.OrderLemmas.{sorted_none, sorted_cons, above_head}
use Rattle.thes_core.specs.CoreView.{CoreView, with_histories}
use Rattle.thes_export.specs.declared.topic.Topic.{Topic}
use Rattle.thes_export.specs.Spelling.{line_of}
use Rattle.thes_export.specs.Topics.{IsLineOf, IsPartOf, IsResourceTriple, IsTopicTriple, number_iri}
use Rattle.thes_export.proofs.LegalTripleLemmas.{asserted_writable}
use Rattle.thes_export.proofs.ResourceTripleLemmas.{written_to}
use Rattle.thes_export.proofs.TerminalLemmas.{head_of, iri_not, tail_of}

-- Two texts that begin with different IRIs are ordered by these beginnings.

then_same : (o p q : Ordering) → (o ≡ Equal → p ≡ q) → ordering_then o p ≡ ordering_then o q
then_same o p q same = grind (arith, common_steps)

ordered_by_iri : (a b : List ℕ) → All IsIriByte a → All IsIriByte b → (a ≡ b → ⊥) → (x y u v : List ℕ)
    → slice_cmp nat_cmp (a ++ 62 ∷ x) (b ++ 62 ∷ y) ≡ slice_cmp nat_cmp (a ++ 62 ∷ u) (b ++ 62 ∷ v)
ordered_by_iri [] [] one two other x y u v = absurd (other refl)
ordered_by_iri [] (d ∷ b) one two other x y u v = then_same (nat_cmp 62 d) _ _
    (λ e. absurd (iri_not d 62 (All-head IsIriByte d b two) (sym (exact_unsigned 62 d e)) refl))
ordered_by_iri (c ∷ a) [] one two other x y u v = then_same (nat_cmp c 62) _ _
    (λ e. absurd (iri_not c 62 (All-head IsIriByte c a one) (exact_unsigned c 62 e) refl))
ordered_by_iri (c ∷ a) (d ∷ b) one two other x y u v = grind (
  arith,
  common_steps,
  All-tail,
  exact_unsigned,
  then_same,
  ordered_by_iri a b (All-tail IsIriByte c a one) (All-tail IsIriByte d b two),
)

same_iri : (a b : List ℕ) → All IsIriByte a → All IsIriByte b → (x y : List ℕ) → a ++ 62 ∷ x ≡ b ++ 62 ∷ y → a ≡ b
same_iri [] [] one two x y e = refl
same_iri [] (d ∷ b) one two x y e = grind (arith, common_steps, All-head, head_of, iri_not)
same_iri (c ∷ a) [] one two x y e = absurd (iri_not c 62 (All-head IsIriByte c a one) (head_of _ _ _ _ e) refl)
same_iri (c ∷ a) (d ∷ b) one two x y e = grind (
  arith,
  common_steps,
  All-tail,
  head_of,
  tail_of,
  same_iri a b
      (All-tail IsIriByte c a one) (All-tail IsIriByte d b two) x y (tail_of _ _ _ _ e),
)

-- The text begins with the IRI in angle brackets.
abbrev Begins : List ℕ → List ℕ → Type 0
Begins iri text = (rest : List ℕ) × (text ≡ 60 ∷ (iri ++ 62 ∷ rest))

begins_more : (iri text more : List ℕ) → Begins iri text → Begins iri (text ++ more)
begins_more iri text more (rest, is) = (
  rest ++ more,
  ap (λ t. t ++ more) is ∙ ap (λ t. 60 ∷ t) (append_assoc iri (62 ∷ rest) more),
)

line_begins : (t : Triple) → Begins t.subject (line_of t)
unfolding line_of
line_begins t = (_, ap (λ x. 60 ∷ x) (append_assoc t.subject (62 ∷ []) _))

-- If each element of one sorted list is below each element of another, the two lists appended are sorted.

sorted_append : {X : Type 0} (cmp : X → X → Ordering) (xs ys : List X) → IsStrictlySortedBy cmp xs
    → IsStrictlySortedBy cmp ys → ((x y : X) → Contains xs x → Contains ys y → cmp x y ≡ Less)
    → IsStrictlySortedBy cmp (xs ++ ys)
sorted_append cmp [] ys one two below = two
sorted_append cmp (x ∷ xs) ys one two below =
    sorted_cons cmp x (xs ++ ys)
    (λ z has. ⊎_elim (λ c. above_head cmp x xs z one (Has-from xs z c)) (below x z (Contains-head x xs))
    (Contains-append_cases xs ys z (Contains-from (xs ++ ys) z has)))
    (sorted_append cmp xs ys (sorted_tail cmp x xs one) two (λ w y c d. below w y (Contains-later x xs w c) d))

module _ (core : CoreView) (hs : List History) (legal : IsLegalState core.setting.base (with_histories hs core)) where
  abbrev base : List ℕ
  base = core.setting.base

  abbrev k : State
  k = with_histories hs core

  -- Each triple about a resource has the resource as its subject.
  subject_is : (topic : Topic) (n : ℕ) (t : Triple) → IsTopicTriple core topic n t → t.subject ≡ number_iri core n
  subject_is topic n t h = grind (arith, common_steps)

  -- The line is one about the resource.
  abbrev pub IsAbout : ℕ → List ℕ → Type 0
  IsAbout n = IsLineOf (IsResourceTriple core n)

  about_begins : (n : ℕ) (line : List ℕ) → IsAbout n line → Begins (number_iri core n) line
  about_begins n line (t, is, spelled) = subst (λ iri. Begins iri line) (subject_is is.0 n t is.1)
      (subst (Begins t.subject) (sym spelled) (line_begins t))

  about_bytes : (n : ℕ) (line : List ℕ) → IsAbout n line → All IsIriByte (number_iri core n)
  about_bytes n line (t, is, spelled) = subst (All IsIriByte) (subject_is is.0 n t is.1)
      (asserted_writable base k legal t (written_to core hs legal n t is)).subject

  -- The part about a resource, if it has any line, begins with the resource's IRI.
  part_begins : (n : ℕ) (text line : List ℕ) → IsPartOf core n text → IsAbout n line → Begins (number_iri core n) text
  part_begins n text line (lines, listed, is) about = go lines listed is (listed.complete line about)
    where
      go : (ls : List (List ℕ)) → IsListing (slice_cmp nat_cmp) (IsAbout n) ls → text ≡ concat ls → Contains ls line
          → Begins (number_iri core n) text
      go [] of is c = absurd (Contains-none line c)
      go (l ∷ ls) of is c = subst (Begins (number_iri core n)) (sym is) (begins_more (number_iri core n) l (concat ls)
          (about_begins n l (of.sound l (Contains-head l ls))))

  same_part : (n : ℕ) (x y : List ℕ) → IsPartOf core n x → IsPartOf core n y → x ≡ y
  same_part n x y a b = a.2 ∙ ap concat (one_listing nat_list_cmp_total a.0 b.0 a.1 b.1) ∙ sym b.2

  -- A part that has any line is the part about one resource only.
  one_resource : (n m : ℕ) (text line : List ℕ) → Exists core.resources n → Exists core.resources m
      → IsPartOf core n text → IsAbout n line → IsPartOf core m text → n ≡ m
  one_resource n m text line there also one about (lines, listed, is) = go lines listed is
    where
      first : Begins (number_iri core n) text
      first = part_begins n text line one about

      go : (ls : List (List ℕ)) → IsListing (slice_cmp nat_cmp) (IsAbout m) ls → text ≡ concat ls → n ≡ m
      go [] of e = absurd (let bad : 60 ∷ (number_iri core n ++ 62 ∷ first.0) ≡ [] = sym first.1 ∙ e in cc)
      go (l ∷ ls) of e =
          let own = of.sound l (Contains-head l ls) in
          let other = begins_more (number_iri core m) l (concat ls) (about_begins m l own) in
          resources_apart base core.resources core.iris legal.resources n m there also
          (same_iri (number_iri core n) (number_iri core m) (about_bytes n line about) (about_bytes m l own) first.0
          other.0 (tail_of _ _ _ _ (sym first.1 ∙ e ∙ other.1)))

  -- If one part is below another, its lines are below those of the other.
  lines_below : (n m : ℕ) (x y l d : List ℕ) → Exists core.resources n → Exists core.resources m → IsPartOf core n x
      → IsPartOf core m y → IsAbout n l → IsAbout m d → slice_cmp nat_cmp x y ≡ Less → slice_cmp nat_cmp l d ≡ Less
  lines_below n m x y l d there also one two about other below = go (eqb n m) refl
    where
      apart : (n ≡ m → ⊥) → slice_cmp nat_cmp x y ≡ slice_cmp nat_cmp l d
      apart differ =
          let a = part_begins n x l one about in
          let b = part_begins m y d two other in
          let p = about_begins n l about in
          let q = about_begins m d other in
          (λ i. slice_cmp nat_cmp (a.1 i) (b.1 i))
          ∙ ordered_by_iri (number_iri core n) (number_iri core m) (about_bytes n l about) (about_bytes m d other)
          (λ same. differ (resources_apart base core.resources core.iris legal.resources n m there also same))
          a.0 b.0 p.0 q.0 ∙ (λ i. slice_cmp nat_cmp (sym p.1 i) (sym q.1 i))

      go : (b : Bool) → eqb n m ≡ b → slice_cmp nat_cmp l d ≡ Less
      go false e = sym (apart (eqb-false n m e)) ∙ below
      go true e =
          let same : x ≡ y = same_part n x y one (subst (λ j. IsPartOf core j y) (sym (eqb-true n m e)) two) in
          let tied = tied_itself nat_list_cmp_total x in
          absurd (let bad : slice_cmp nat_cmp x x ≡ Less = subst (λ z. slice_cmp nat_cmp x z ≡ Less) (sym same) below in
          cc)

  -- The text is the part about some resource.
  abbrev pub IsPart : List ℕ → Type 0
  IsPart text = (n : ℕ) × Exists core.resources n × IsPartOf core n text

  -- The parts, one after another, are sorted lines: exactly the lines about the resources of these parts.
  pub record AreLinesOf (texts : List (List ℕ)) : Type 0 where
    pub lines : List (List ℕ)
    pub text_is : concat texts ≡ concat lines
    pub rises : IsStrictlySortedBy (slice_cmp nat_cmp) lines
    pub sound :
        (l : List ℕ) → Contains lines l
        → (x : List ℕ) × Contains texts x × ((n : ℕ) × Exists core.resources n × IsPartOf core n x × IsAbout n l)
    pub complete :
        (x l : List ℕ) (n : ℕ) → Exists core.resources n → Contains texts x → IsPartOf core n x → IsAbout n l
        → Contains lines l

  pub lines_found : (texts : List (List ℕ)) → IsStrictlySortedBy (slice_cmp nat_cmp) texts
      → ((x : List ℕ) → Contains texts x → IsPart x) → AreLinesOf texts
  lines_found [] sorted each = grind (arith, common_steps, Contains-none, sorted_none)
  lines_found (x ∷ xs) sorted each =
      let more = lines_found xs (sorted_tail (slice_cmp nat_cmp) x xs sorted)
      (λ y c. each y (Contains-later x xs y c)) in
      let one = each x (Contains-head x xs) in
      let part = one.2 in
      let own = part.0 in
      let listed = part.1 in
      record {
        lines = own ++ more.lines;
        text_is = (λ i. part.2 i ++ more.text_is i) ∙ sym (concat-append own more.lines);
        rises = sorted_append (slice_cmp nat_cmp) own more.lines listed.rises more.rises (λ l d c e.
            let other = more.sound d e in
            let of = other.2 in
            lines_below one.0 of.0 x other.0 l d one.1 of.1 part of.2 (listed.sound l c) of.3
            (above_head (slice_cmp nat_cmp) x xs other.0 sorted (Has-from xs other.0 other.1)));
        sound = λ l c. ⊎_elim
            (λ d. (x, Contains-head x xs, (one.0, one.1, part, listed.sound l d)))
            (λ d. let w = more.sound l d in (w.0, Contains-later x xs w.0 w.1, w.2))
            (Contains-append_cases own more.lines l c);
        complete = λ y l n there c of about. ⊎_elim
            (λ same. Contains-append_left own more.lines l (listed.complete l
            (subst (λ m. IsAbout m l) (one_resource n one.0 x l there one.1
            (subst (IsPartOf core n) (sym same) of) about part) about)))
            (λ later. Contains-append_right own more.lines l (more.complete y l n there later of about))
            (Contains-cons_cases x xs y c);
      }
