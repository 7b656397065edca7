-- Proves that the headings of a scheme, collected kind by kind and then sorted, are all headings in the order of the
-- display.
use Rattle.std.proofs.Common.{◌≡◌, ◌∙◌, ◌⊎◌, ◌≤◌, ◌+◌, refl, sym, ap, ap₂, subst, ℕ, Bool, true, false, cond, List, []}
use Rattle.std.proofs.Common.{◌∷◌, ◌++◌, append-nil, append_assoc, map, take, take_all, length, Ordering, Less, Equal}
use Rattle.std.proofs.Common.{⊎_elim, inl, inr, IsPermutation, IsSorted}
use Rattle.std.specs.Prelude.{Contains}
use Rattle.std.proofs.lemmas.List.{map-append}
use Rattle.std.specs.Ordering.{nat_cmp, ordering_then}
use Rattle.std.specs.Cmp.{IsTotalOrder, nat_cmp_total, tied_itself}
use Rattle.std.proofs.lemmas.Cmp.{then_total, on_total, nat_list_cmp_total}
use Rattle.std.specs.List.Sorted.{IsStrictlySortedBy}
use Rattle.thes_base.specs.declared.data.LabelKind.TheVariants.{Alt}
use Rattle.thes_base.specs.Labels.{HasLabel}
use Rattle.thes_base.specs.Listing.{IsListing}
use Rattle.thes_base.specs.State.{State}
use Rattle.thes_core.specs.Terms.{term_text}
use Rattle.thes_vocab.specs.Vocabulary.{IsConceptOf}
use Rattle.thes_display.specs.Alphabetical.{IsHeading, IsHeadedBy, heading_cmp}
use Rattle.thes_display.specs.Headings.{AddsHeadings, IsLeadIn, IsOwnHeading, heading_key}
use Rattle.thes_display.specs.LabelTexts.{text_cmp}
use Rattle.thes_display.specs.Order.{Term}
use Rattle.thes_display.specs.declared.heading.Heading.{Heading}
use Rattle.thes_display.proofs.LabelLemmas.{text_ties}
use Rattle.thes_display.proofs.OrderLemmas.{term_total}
use Rattle.thes_display.proofs.TermLemmas.{first_ties, second_ties, tie}
use Rattle.thes_display.proofs.SortLemmas.{listing_in_order}
use Rattle.thes_display.proofs.ListLemmas.{IsOneOf, among_from, contains_of, among_append, among_left, among_right}
use Rattle.thes_display.proofs.ListingLemmas.{before_taken, listing_as, listing_joined, listing_mapped, listing_none}

abbrev rank : Heading → ℕ
rank h = cond h.lead_in 1 0

pub heading_total : IsTotalOrder heading_cmp
heading_total = then_total (on_total (λ (h : Heading). h.term) term_total) (on_total rank nat_cmp_total)

key_total : IsTotalOrder heading_key
key_total = then_total (on_total rank nat_cmp_total)
    (then_total (on_total (λ (h : Heading). h.term.concept) nat_cmp_total)
    (on_total (λ (h : Heading). h.term.text) nat_list_cmp_total))

then_ties : (a b c : Ordering) → a ≡ Equal → b ≡ Equal → c ≡ Equal → ordering_then a (ordering_then b c) ≡ Equal
then_ties a b c e f g = ap (λ o. ordering_then o (ordering_then b c)) e ∙ ap (λ o. ordering_then o c) f ∙ g

after_ties : (a b : Ordering) → a ≡ Equal → b ≡ Less → ordering_then a b ≡ Less
after_ties a b e f = ap (λ o. ordering_then o b) e ∙ f

same_number : (m n : ℕ) → m ≡ n → nat_cmp m n ≡ Equal
same_number m n e = ap (λ k. nat_cmp k n) e ∙ tied_itself nat_cmp_total n

heading_ties : (x y : Heading) → heading_cmp x y ≡ Equal → heading_key x y ≡ Equal
heading_ties x y e =
    then_ties _ _ _ (second_ties _ _ e) (same_number _ _ (tie x.term y.term (first_ties _ _ e)))
    (text_ties x.term y.term (first_ties _ _ e))

-- Of two headings that are both own ones or both lead-in terms, that of the lesser concept comes first.
concept_first : (x y : Heading) → x.lead_in ≡ y.lead_in → nat_cmp x.term.concept y.term.concept ≡ Less
    → heading_key x y ≡ Less
concept_first x y e l =
    after_ties _ _ (same_number _ _ (ap (λ (b : Bool). cond b 1 0) e))
    (ap (λ o. ordering_then o (text_cmp x.term.text y.term.text)) l)

own_first : (x y : Heading) → x.lead_in ≡ false → y.lead_in ≡ true → heading_key x y ≡ Less
own_first x y e f =
    ap₂ (λ (a b : Bool). ordering_then (nat_cmp (cond a 1 0) (cond b 1 0))
    (ordering_then (nat_cmp x.term.concept y.term.concept) (text_cmp x.term.text y.term.text))) e f

same_heading : (x y : Heading) → x.term.text ≡ y.term.text → x.term.concept ≡ y.term.concept → x.lead_in ≡ y.lead_in
    → x ≡ y
same_heading x y a b c = λ i. record { term = record { text = a i; concept = b i }; lead_in = c i }

-- The lead-in heading of concept `n` with this text.
abbrev pub lead_in_with : ℕ → List ℕ → Heading
lead_in_with n text = record { term = record { text = text; concept = n }; lead_in = true }

-- If a list ends with the headings of some elements, and the heading of one more element is appended, the list ends
-- with the headings of all of them.
pub one_more : {A : Type 0} (make : A → Heading) (first now new : List Heading) (xs more : List A) (x : A) (t : Term)
    (b : Bool) → now ≡ first ++ map make xs → new ≡ now ++ record { term = t; lead_in = b } ∷ []
    → t.text ≡ (make x).term.text → t.concept ≡ (make x).term.concept → b ≡ (make x).lead_in → more ≡ xs ++ x ∷ []
    → new ≡ first ++ map make more
one_more make first now new xs more x t b e f g h k m =
    f ∙ ap (λ l. l ++ record { term = t; lead_in = b } ∷ []) e
    ∙ ap (λ z. (first ++ map make xs) ++ z ∷ []) (same_heading (record { term = t; lead_in = b }) (make x) g h k)
    ∙ append_assoc first (map make xs) (make x ∷ []) ∙ ap (λ l. first ++ l) (sym (map-append make xs (x ∷ [])))
    ∙ ap (λ l. first ++ map make l) (sym m)

module _ (s : State) (tag : List ℕ) where
  -- The heading of a concept's term.
  abbrev pub own_with : ℕ → Heading
  own_with n = record { term = record { text = term_text s.labels tag n; concept = n }; lead_in = false }

  pub own_listed : (concepts : List ℕ) (headings : List Heading) → IsStrictlySortedBy nat_cmp concepts
      → headings ≡ map own_with concepts → IsListing heading_key (IsOwnHeading s tag (Contains concepts)) headings
  own_listed concepts headings rises e =
      subst (IsListing heading_key (IsOwnHeading s tag (Contains concepts))) (sym e)
      (listing_mapped own_with nat_cmp heading_key (Contains concepts) _ concepts
      (record { rises = rises; sound = λ n c. c; complete = λ n c. c })
      (λ x y p q l. concept_first (own_with x) (own_with y) refl l)
      (λ n c. record { own = refl; concept = c; text = refl })
      (λ h q. (h.term.concept, q.concept, same_heading h (own_with h.term.concept) q.text refl q.own)))

  pub lead_ins_listed : (n : ℕ) (texts : List (List ℕ)) → IsListing text_cmp (HasLabel s.labels n Alt tag) texts
      → IsListing heading_key (IsLeadIn s tag (λ m. m ≡ n)) (map (lead_in_with n) texts)
  lead_ins_listed n texts listed =
      listing_mapped (lead_in_with n) text_cmp heading_key (HasLabel s.labels n Alt tag) _ texts listed
      (λ x y p q l. after_ties _ _ refl (after_ties _ _ (tied_itself nat_cmp_total n) l))
      (λ text l. record { lead_in = refl; concept = refl; label = l })
      (λ h q. (
        h.term.text,
        subst (λ m. HasLabel s.labels m Alt tag h.term.text) q.concept q.label,
        same_heading h (lead_in_with n h.term.text) refl q.concept q.lead_in,
      ))

  -- The lead-in headings of these concepts were appended.
  abbrev pub AddsOfThese : List ℕ → List Heading → List Heading → Type 0
  AddsOfThese ns first now = AddsHeadings (IsLeadIn s tag (λ n. IsOneOf n ns)) first now

  module _ (concepts : List ℕ) (rises : IsStrictlySortedBy nat_cmp concepts) where
    pub these_none : (first : List Heading) → AddsOfThese [] first first
    these_none first = record {
      more = [];
      listing = listing_none heading_key _ [] refl (λ h p. p.concept);
      is = sym (append-nil first);
    }

    pub these_more : (i n : ℕ) (first now new : List Heading) → take (i + 1) concepts ≡ take i concepts ++ n ∷ []
        → AddsOfThese (take i concepts) first now → AddsHeadings (IsLeadIn s tag (λ m. m ≡ n)) now new
        → AddsOfThese (take (i + 1) concepts) first new
    these_more i n first now new e a b = record {
      more = a.more ++ b.more;
      listing = listing_joined heading_key _ _ _ a.more b.more (a.more ++ b.more) a.listing b.listing refl
          (λ x y p q. concept_first x y (p.lead_in ∙ sym q.lead_in)
          (ap (nat_cmp x.term.concept) q.concept ∙ before_taken nat_cmp concepts i n x.term.concept rises e p.concept))
          (λ x p. ⊎_elim (λ old. inl (moved x p old))
          (λ last. ⊎_elim (λ same. inr (moved x p same)) (λ no. absurd no) last)
          (among_append x.term.concept (take i concepts) (n ∷ []) (subst (IsOneOf x.term.concept) e p.concept)))
          (λ x p. moved x p (subst (IsOneOf x.term.concept) (sym e)
          (among_left x.term.concept (take i concepts) (n ∷ []) p.concept)))
          (λ x p. moved x p (subst (IsOneOf x.term.concept) (sym e)
          (among_right x.term.concept (take i concepts) (n ∷ []) (inl p.concept))));
      is = b.is ∙ ap (λ l. l ++ b.more) a.is ∙ append_assoc first a.more b.more;
    }
      where
        moved : {P Q : ℕ → Type 0} (h : Heading) → IsLeadIn s tag P h → Q h.term.concept → IsLeadIn s tag Q h
        moved h p q = record { lead_in = p.lead_in; concept = q; label = p.label }

    pub these_all : (i : ℕ) (first now : List Heading) → length concepts ≤ i → AddsOfThese (take i concepts) first now
        → AddsHeadings (IsLeadIn s tag (Contains concepts)) first now
    these_all i first now long a = record {
      more = a.more;
      listing = listing_as heading_key _ _ a.more
          (λ h p. record {
            lead_in = p.lead_in;
            concept = contains_of h.term.concept concepts
                (subst (IsOneOf h.term.concept) (take_all i concepts long) p.concept);
            label = p.label;
          })
          (λ h p. record {
            lead_in = p.lead_in;
            concept = subst (IsOneOf h.term.concept) (sym (take_all i concepts long))
                (among_from h.term.concept concepts p.concept);
            label = p.label;
          }) a.listing;
      is = a.is;
    }

    abbrev IsOfThese : Heading → Type 0
    IsOfThese h = Contains concepts h.term.concept × IsHeadedBy s tag h.lead_in h.term

    own_or_lead_in : (h : Heading) (b : Bool) → h.lead_in ≡ b → Contains concepts h.term.concept
        → IsHeadedBy s tag b h.term
        → IsOwnHeading s tag (Contains concepts) h ⊎ IsLeadIn s tag (Contains concepts) h
    own_or_lead_in h false e c p = inl (record { own = e; concept = c; text = p })
    own_or_lead_in h true e c p = inr (record { lead_in = e; concept = c; label = p })

    pub headings_whole : (scheme : ℕ) (own all sorted : List Heading)
        → IsListing nat_cmp (IsConceptOf s.resources scheme) concepts
        → IsListing heading_key (IsOwnHeading s tag (Contains concepts)) own
        → AddsHeadings (IsLeadIn s tag (Contains concepts)) own all
        → IsPermutation all sorted → IsSorted heading_cmp sorted
        → IsListing heading_cmp (IsHeading s tag scheme) sorted
    headings_whole scheme own all sorted listed o a p q =
        listing_as heading_cmp IsOfThese _ sorted (λ h r. (listed.sound h.term.concept r.0, r.1))
        (λ h r. (listed.complete h.term.concept r.0, r.1))
        (listing_in_order heading_key heading_cmp key_total heading_total heading_ties IsOfThese all sorted
        (listing_joined heading_key _ _ IsOfThese own a.more all o a.listing a.is
        (λ x y r t. own_first x y r.own t.lead_in) (λ h r. own_or_lead_in h h.lead_in refl r.0 r.1)
        (λ h r. (r.concept, subst (λ (b : Bool). IsHeadedBy s tag b h.term) (sym r.own) r.text))
        (λ h r. (r.concept, subst (λ (b : Bool). IsHeadedBy s tag b h.term) (sym r.lead_in) r.label))) p q)
