-- Each request leaves the links legal.
use Rattle.std.proofs.lemmas.Grind.{common_steps}
use Rattle.std.proofs.Common.{◌≡◌, ◌≢◌, ◌⊎◌, ℕ, ◌+◌, length, List, [], ◌∷◌, ◌++◌, refl, sym, ap, ◌∙◌, subst, arith}
use Rattle.std.proofs.Common.{inl, inr, Bool, true, false, ◌&&◌, ◌||◌, nat_lt}
use Rattle.std.specs.Prelude.{Option, Some, if◌then◌else◌}
use Rattle.std.specs.FinSet.{insert, remove}
use Rattle.thes_base.specs.declared.data.Resource.{Resource}
use Rattle.thes_base.specs.declared.data.Link.{Link}
use Rattle.thes_base.specs.declared.data.LinkKind.{LinkKind}
use Rattle.thes_base.specs.declared.data.LinkKind.TheVariants as kind
use Rattle.thes_base.specs.declared.data.LinkForm.{LinkForm}
use Rattle.thes_base.specs.declared.data.LinkForm.TheVariants.{Within, Mapping, Membership}
use Rattle.thes_base.specs.declared.data.Direction.{Direction}
use Rattle.thes_base.specs.Resources.{entry_at, set_entry_at, Exists, IsResourceThat, IsConcept, IsCollection}
use Rattle.thes_base.specs.Resources.{IsOutside, IsLive, scheme_of, is_outside, is_concept_kind, is_collection_kind}
use Rattle.thes_base.specs.Resources.{is_outside_kind}
use Rattle.thes_base.specs.Links.{Links, Holds, IsJoined, IsNarrower, broader_direction, related_direction}
use Rattle.thes_base.specs.Links.{exact_direction, disjoint_direction, NoCycle, S27, S46, form_of, is_symmetric}
use Rattle.thes_base.specs.Links.{reversed_link, normal_form, redirect, redirect_link, links_after_merge}
use Rattle.thes_base.specs.Links.{links_after_deprecation}
use Rattle.thes_base.specs.Changes.{resource_after_death}
use Rattle.thes_base.specs.Refusals.{AreEnds, HaveSchemes}
use Rattle.thes_base.specs.Legal.{IsLegalLink, AreLegalLinks}
use Rattle.thes_base.proofs.ResourceLemmas.{passes_push, passes_pop, passes_before, never_both, scheme_push}
use Rattle.thes_base.proofs.ResourceLemmas.{outside_push, passes_dead, live_dead, scheme_dead, outside_dead}
use Rattle.thes_base.proofs.LegalResourceLemmas.{path_map}
use Rattle.thes_base.proofs.ConditionLemmas.{ends_exist, collection_not_concept, concept_not_outside}
use Rattle.thes_base.proofs.NumberedLemmas.{numbered_bound}
use Rattle.std.specs.Option.{option_map_or}
use Rattle.thes_base.proofs.LinkSetLemmas.{links_total, links_exact, link_inserted_cases, contracted_from}
use Rattle.thes_base.proofs.LinkSetLemmas.{without_node_from}
use Rattle.thes_base.proofs.SetMemberLemmas.{removed_cases}
use Rattle.thes_base.proofs.LinkLemmas.{sent_never}
use Rattle.std.proofs.lemmas.Bool.{and_parts, and_right, or_parts, eqb-false, ltb-true, le-ltb}

-- If a set of links meets the rules Cycle, S27 and S46, each of its subsets does.
module _ (Few Many : Link → Type 0) (each : (l : Link) → Few l → Many l) where
  joined_more : (way : LinkKind → Direction) (x y : ℕ) → IsJoined Few way x y → IsJoined Many way x y
  joined_more way x y (l, held, leads) = (l, each l held, leads)

  pub fewer_no_cycle : NoCycle Many → NoCycle Few
  fewer_no_cycle rule =
      record {
        none =
            λ x chain. rule.none x (
              chain.0,
              path_map (IsNarrower Few) (IsNarrower Many) (joined_more broader_direction) x
                  chain.0 x chain.1,
            );
      }

  pub fewer_s27 : S27 Many → S27 Few
  fewer_s27 rule = record {
    none = λ x y related chain. rule.none x y (joined_more related_direction x y related)
        (chain.0, path_map (IsNarrower Few) (IsNarrower Many) (joined_more broader_direction) x chain.0 y chain.1);
  }

  pub fewer_s46 : S46 Many → S46 Few
  fewer_s46 rule =
      record {
        none =
            λ x y chain apart. rule.none x y (
              chain.0,
              path_map (IsJoined Few exact_direction)
                  (IsJoined Many exact_direction) (joined_more exact_direction) x chain.0 y chain.1,
            )
            (joined_more disjoint_direction x y apart);
      }

-- A link stays legal when resources change, if its ends keep the properties that a legal link requires of them.
module _ (rs new : List Resource) (l : Link) where
  pub record StaysAt (n : ℕ) : Type 0 where
    pub concept : IsConcept rs n → IsConcept new n
    pub concept_before : IsConcept new n → IsConcept rs n
    pub collection : IsCollection rs n → IsCollection new n
    pub outside : IsOutside rs n → IsOutside new n
    pub live : IsLive rs n → IsLive new n
    pub scheme : scheme_of new n ≡ scheme_of rs n
    pub is_out : is_outside new n ≡ is_outside rs n

  ends_stay : (form : LinkForm) → StaysAt l.a → StaysAt l.b → AreEnds rs form l.a l.b → AreEnds new form l.a l.b
  ends_stay Within a b (ca, cb) = (a.concept ca, b.concept cb)
  ends_stay Mapping a b (ca, inl cb) = (a.concept ca, inl (b.concept cb))
  ends_stay Mapping a b (ca, inr ob) = (a.concept ca, inr (b.outside ob))
  ends_stay Membership a b (ca, cb) = (a.collection ca, b.concept cb)

  schemes_stay : (form : LinkForm) → StaysAt l.a → StaysAt l.b → HaveSchemes rs form l.a l.b
      → HaveSchemes new form l.a l.b
  schemes_stay Within a b e = a.scheme ∙ e ∙ sym b.scheme
  schemes_stay Mapping a b differ = λ c e. differ (b.concept_before c) (sym a.scheme ∙ e ∙ b.scheme)
  schemes_stay Membership a b e = a.scheme ∙ e ∙ sym b.scheme

  pub link_stays : StaysAt l.a → StaysAt l.b → IsLegalLink rs l → IsLegalLink new l
  link_stays a b legal = record {
    ends = ends_stay (form_of l.kind) a b legal.ends;
    live = (a.live legal.live.0, b.live legal.live.1);
    two = legal.two;
    schemes = schemes_stay (form_of l.kind) a b legal.schemes;
    ordered = ap (λ (p : Bool × Bool). if is_symmetric (p.0 || p.1) l.kind && nat_lt l.b l.a then reversed_link l else
        l) (λ i. (a.is_out i, b.is_out i)) ∙ legal.ordered;
  }

pub stays_push : (rs : List Resource) (r : Resource) (l : Link) (n : ℕ) → Exists rs n → StaysAt rs (rs ++ r ∷ []) l n
stays_push rs r l n known = record {
  concept = passes_push rs r (λ x. is_concept_kind x.kind) n;
  concept_before = λ c. old (passes_pop rs r (λ x. is_concept_kind x.kind) n c);
  collection = passes_push rs r (λ x. is_collection_kind x.kind) n;
  outside = passes_push rs r (λ x. is_outside_kind x.kind) n;
  live = passes_push rs r (λ x. x.live) n;
  scheme = scheme_push rs r n known;
  is_out = outside_push rs r n known;
}
  where
    old : IsConcept rs n ⊎ ((n ≡ length rs + 1) × (is_concept_kind r.kind ≡ true)) → IsConcept rs n
    old (inl c) = c
    old (inr (at, _)) = absurd (let b = numbered_bound rs n known.0 known.1 in omega (arith, b, at))

pub stays_dead : (rs : List Resource) (n : ℕ) (rep : Option ℕ) (r : Resource) → entry_at rs n ≡ Some r
    → (l : Link) (m : ℕ) → m ≢ n → Exists rs m → StaysAt rs (set_entry_at rs n (resource_after_death rep r)) l m
stays_dead rs n rep r at l m apart known = record {
  concept = passes_dead rs n rep r at (λ x. is_concept_kind x.kind) (λ x. refl) m;
  concept_before = passes_before rs n rep r at (λ x. is_concept_kind x.kind) (λ x. refl) m;
  collection = passes_dead rs n rep r at (λ x. is_collection_kind x.kind) (λ x. refl) m;
  outside = passes_dead rs n rep r at (λ x. is_outside_kind x.kind) (λ x. refl) m;
  live = live_dead rs n rep r at m apart;
  scheme = scheme_dead rs n rep r at m known;
  is_out = outside_dead rs n rep r at m known;
}

pub links_push : (rs : List Resource) (r : Resource) (links : Links) → AreLegalLinks rs links
    → AreLegalLinks (rs ++ r ∷ []) links
links_push rs r links legal = record {
  each = λ l held.
      let was = legal.each l held in
      let known = ends_exist rs (form_of l.kind) l.a l.b was.ends in
      link_stays rs (rs ++ r ∷ []) l (stays_push rs r l l.a known.0) (stays_push rs r l l.b known.1) was;
  no_cycle = legal.no_cycle;
  s27 = legal.s27;
  s46 = legal.s46;
}

-- A link held after a removal was held before.
link_removed_kept : (links : Links) (l m : Link) → Holds (remove links l) m → Holds links m
link_removed_kept links l m held = (removed_cases links_total links_exact links l m held).1

pub links_dropped : (rs : List Resource) (links : Links) (l : Link) → AreLegalLinks rs links
    → AreLegalLinks rs (remove links l)
links_dropped rs links l legal = grind (arith, common_steps, fewer_no_cycle, fewer_s27, fewer_s46, link_removed_kept)

-- The links stay legal if a concept dies and its links are removed.
pub links_without : (rs : List Resource) (links : Links) (n : ℕ) (rep : Option ℕ) (r : Resource) → entry_at rs n
    ≡ Some r → AreLegalLinks rs links → AreLegalLinks (set_entry_at rs n (resource_after_death rep r))
    (links_after_deprecation n links)
links_without rs links n rep r at legal = record {
  each = λ l held.
      let kept = without_node_from n links l held in
      let was = legal.each l kept.0 in
      let known = ends_exist rs (form_of l.kind) l.a l.b was.ends in
      link_stays rs (set_entry_at rs n (resource_after_death rep r)) l
      (stays_dead rs n rep r at l l.a (λ a. kept.1 (inl a)) known.0)
      (stays_dead rs n rep r at l l.b (λ b. kept.1 (inr b)) known.1) was;
  no_cycle = fewer_no_cycle (Holds (links_after_deprecation n links)) (Holds links) still legal.no_cycle;
  s27 = fewer_s27 (Holds (links_after_deprecation n links)) (Holds links) still legal.s27;
  s46 = fewer_s46 (Holds (links_after_deprecation n links)) (Holds links) still legal.s46;
}
  where
    still : (l : Link) → Holds (links_after_deprecation n links) l → Holds links l
    still l held = (without_node_from n links l held).0

-- The link is legal, except that its ends may have to be swapped.
pub record IsProper (rs : List Resource) (l : Link) : Type 0 where
  pub ends : AreEnds rs (form_of l.kind) l.a l.b
  pub live : IsLive rs l.a × IsLive rs l.b
  pub two : l.a ≢ l.b
  pub schemes : HaveSchemes rs (form_of l.kind) l.a l.b

pub proper_of : (rs : List Resource) (l : Link) → IsLegalLink rs l → IsProper rs l
proper_of rs l legal = record { ends = legal.ends; live = legal.live; two = legal.two; schemes = legal.schemes }

symmetric_form : (out : Bool) (k : LinkKind) → is_symmetric out k ≡ true → (form_of k ≡ Within)
    ⊎ ((form_of k ≡ Mapping) × (out ≡ false))
symmetric_form out kind.Related e = inl refl
symmetric_form false kind.Exact e = inr (refl, refl)
symmetric_form false kind.Close e = inr (refl, refl)
symmetric_form false kind.RelMatch e = inr (refl, refl)
symmetric_form true kind.Exact e = absurd (cc)
symmetric_form true kind.Close e = absurd (cc)
symmetric_form true kind.RelMatch e = absurd (cc)
symmetric_form out _ e = absurd (cc)

pub outside_test : (rs : List Resource) (n : ℕ) → IsOutside rs n → is_outside rs n ≡ true
outside_test rs n (r, at, hit) = ap (λ o. option_map_or (λ (x : Resource). is_outside_kind x.kind) o false) at ∙ hit

ends_exchanged : (rs : List Resource) (form : LinkForm) (a b : ℕ) → (form ≡ Within)
    ⊎ ((form ≡ Mapping) × ((is_outside rs a || is_outside rs b) ≡ false)) → AreEnds rs form a b → AreEnds rs form b a
ends_exchanged rs Within a b is (ca, cb) = (cb, ca)
ends_exchanged rs Mapping a b is (ca, inl cb) = (cb, inl ca)
ends_exchanged rs Mapping a b (inl is) (ca, inr ob) = absurd (cc)
ends_exchanged rs Mapping a b (inr (_, no_out)) (ca, inr ob) = let out = outside_test rs b ob in let no_b =
    (or_parts (is_outside rs a) (is_outside rs b) no_out).1 in absurd (cc)
ends_exchanged rs Membership a b (inl is) ends = absurd (cc)
ends_exchanged rs Membership a b (inr (is, _)) ends = absurd (cc)

schemes_exchanged : (rs : List Resource) (form : LinkForm) (a b : ℕ) → (form ≡ Within)
    ⊎ ((form ≡ Mapping) × ((is_outside rs a || is_outside rs b) ≡ false)) → AreEnds rs form a b
    → HaveSchemes rs form a b → HaveSchemes rs form b a
schemes_exchanged rs Within a b is ends e = sym e
schemes_exchanged rs Mapping a b is (ca, inl cb) differ = λ _ e. differ cb (sym e)
schemes_exchanged rs Mapping a b (inl is) (ca, inr ob) differ = absurd (cc)
schemes_exchanged rs Mapping a b (inr (_, no_out)) (ca, inr ob) differ = let out = outside_test rs b ob in let no_b =
    (or_parts (is_outside rs a) (is_outside rs b) no_out).1 in absurd (cc)
schemes_exchanged rs Membership a b is ends e = sym e

pub two_lts : (a b : ℕ) → nat_lt b a ≡ true → nat_lt a b ≡ false
two_lts a b e = let below = ltb-true b a e in le-ltb a b (omega (arith, below))

-- A link that is legal but for the order of its ends is legal in normal form.
pub norm_legal : (rs : List Resource) (l : Link) → IsProper rs l → IsLegalLink rs (normal_form (is_outside rs) l)
norm_legal rs l proper = go (is_symmetric (is_outside rs l.a || is_outside rs l.b) l.kind && nat_lt l.b l.a) refl
  where
    go : (t : Bool) → (is_symmetric (is_outside rs l.a || is_outside rs l.b) l.kind && nat_lt l.b l.a) ≡ t
        → IsLegalLink rs (if t then reversed_link l else l)
    go false e = record {
      ends = proper.ends;
      live = proper.live;
      two = proper.two;
      schemes = proper.schemes;
      ordered = ap (λ (t : Bool). if t then reversed_link l else l) e;
    }
    go true e =
        let parts = and_parts (is_symmetric (is_outside rs l.a || is_outside rs l.b) l.kind) (nat_lt l.b l.a) e in
        let form = symmetric_form (is_outside rs l.a || is_outside rs l.b) l.kind parts.0 in
        record {
          ends = ends_exchanged rs (form_of l.kind) l.a l.b form proper.ends;
          live = (proper.live.1, proper.live.0);
          two = λ same. proper.two (sym same);
          schemes = schemes_exchanged rs (form_of l.kind) l.a l.b form proper.ends proper.schemes;
          ordered = ap (λ (t : Bool). if t then l else reversed_link l)
              (and_right (is_symmetric (is_outside rs l.b || is_outside rs l.a) l.kind) (nat_lt l.a l.b)
              (two_lts l.a l.b parts.1));
        }

-- The links stay legal if a link is added and all links together still meet Cycle, S27 and S46.
pub links_added : (rs : List Resource) (links : Links) (l : Link) → AreLegalLinks rs links → IsProper rs l
    → NoCycle (Holds (insert links (normal_form (is_outside rs) l)))
    → S27 (Holds (insert links (normal_form (is_outside rs) l)))
    → S46 (Holds (insert links (normal_form (is_outside rs) l)))
    → AreLegalLinks rs (insert links (normal_form (is_outside rs) l))
links_added rs links l legal proper c1 s27 s46 = grind (arith, common_steps, link_inserted_cases, norm_legal)

-- Assumes that the source of a merge dies, and its links are redirected to the target.
module _ (rs : List Resource) (source target : ℕ) (live_s : IsLive rs source) (live_t : IsLive rs target)
    (concept_s : IsConcept rs source) (concept_t : IsConcept rs target) (apart : source ≢ target)
    (schemes : scheme_of rs source ≡ scheme_of rs target) where
  sent_cases : (n : ℕ) → ((n ≡ source) × (redirect source target n ≡ target))
      ⊎ ((n ≢ source) × (redirect source target n ≡ n))
  sent_cases n = grind (arith, common_steps, eqb-false)

  passes_sent : (test : Resource → Bool) → (IsResourceThat rs test source → IsResourceThat rs test target) → (n : ℕ)
      → IsResourceThat rs test n → IsResourceThat rs test (redirect source target n)
  passes_sent test gives n passes = grind (arith, common_steps, sent_cases)

  concept_sent : (n : ℕ) → IsConcept rs n → IsConcept rs (redirect source target n)
  concept_sent = passes_sent (λ x. is_concept_kind x.kind) (λ _. concept_t)

  concept_back : (n : ℕ) → IsConcept rs (redirect source target n) → IsConcept rs n
  concept_back n c = grind (arith, common_steps, sent_cases)

  collection_sent : (n : ℕ) → IsCollection rs n → IsCollection rs (redirect source target n)
  collection_sent = passes_sent (λ x. is_collection_kind x.kind)
      (λ c. absurd (never_both rs source (λ x. is_collection_kind x.kind) (λ x. is_concept_kind x.kind)
      (λ x. collection_not_concept x.kind) c concept_s))

  outside_sent : (n : ℕ) → IsOutside rs n → IsOutside rs (redirect source target n)
  outside_sent = passes_sent (λ x. is_outside_kind x.kind)
      (λ o. absurd (never_both rs source (λ x. is_concept_kind x.kind) (λ x. is_outside_kind x.kind)
      (λ x. concept_not_outside x.kind) concept_s o))

  live_sent : (n : ℕ) → IsLive rs n → IsLive rs (redirect source target n)
  live_sent = passes_sent (λ x. x.live) (λ _. live_t)

  scheme_sent : (n : ℕ) → scheme_of rs (redirect source target n) ≡ scheme_of rs n
  scheme_sent n = grind (arith, common_steps, sent_cases)

  ends_sent : (form : LinkForm) (a b : ℕ) → AreEnds rs form a b → AreEnds rs form (redirect source target a)
      (redirect source target b)
  ends_sent Within a b (ca, cb) = (concept_sent a ca, concept_sent b cb)
  ends_sent Mapping a b (ca, inl cb) = (concept_sent a ca, inl (concept_sent b cb))
  ends_sent Mapping a b (ca, inr ob) = (concept_sent a ca, inr (outside_sent b ob))
  ends_sent Membership a b (ca, cb) = (collection_sent a ca, concept_sent b cb)

  schemes_sent : (form : LinkForm) (a b : ℕ) → HaveSchemes rs form a b
      → HaveSchemes rs form (redirect source target a) (redirect source target b)
  schemes_sent Within a b e = scheme_sent a ∙ e ∙ sym (scheme_sent b)
  schemes_sent Mapping a b differ = λ c e. differ (concept_back b c) (sym (scheme_sent a) ∙ e ∙ scheme_sent b)
  schemes_sent Membership a b e = scheme_sent a ∙ e ∙ sym (scheme_sent b)

  sent_proper : (l : Link) → IsProper rs l → redirect source target l.a ≢ redirect source target l.b
      → IsProper rs (redirect_link source target l)
  sent_proper l proper two = record {
    ends = ends_sent (form_of l.kind) l.a l.b proper.ends;
    live = (live_sent l.a proper.live.0, live_sent l.b proper.live.1);
    two = two;
    schemes = schemes_sent (form_of l.kind) l.a l.b proper.schemes;
  }

  -- The links after a merge are legal if they meet Cycle, S27 and S46.
  pub links_contracted : (links : Links) (rep : Option ℕ) (r : Resource) → entry_at rs source ≡ Some r
      → AreLegalLinks rs links → NoCycle (Holds (links_after_merge (is_outside rs) source target links))
      → S27 (Holds (links_after_merge (is_outside rs) source target links))
      → S46 (Holds (links_after_merge (is_outside rs) source target links))
      → AreLegalLinks (set_entry_at rs source (resource_after_death rep r))
      (links_after_merge (is_outside rs) source target links)
  links_contracted links rep r at legal c1 s27 s46 = record { each = each_at; no_cycle = c1; s27 = s27; s46 = s46 }
    where
      -- What holds of both ends of a link holds of both ends of its normal form.
      end_of : (k : Link) → (P : ℕ → Type 0) → P k.a → P k.b → P (normal_form (is_outside rs) k).a
          × P (normal_form (is_outside rs) k).b
      end_of k P pa pb = go (is_symmetric (is_outside rs k.a || is_outside rs k.b) k.kind && nat_lt k.b k.a)
        where
          go : (t : Bool) → P (if t then reversed_link k else k).a × P (if t then reversed_link k else k).b
          go true = (pb, pa)
          go false = (pa, pb)

      -- Each link after a merge is legal.
      each_at : (m : Link) → Holds (links_after_merge (is_outside rs) source target links) m
          → IsLegalLink (set_entry_at rs source (resource_after_death rep r)) m
      each_at m held =
          let merged = contracted_from (is_outside rs) source target links m held in
          let l = merged.0 in
          let proper = sent_proper l (proper_of rs l (legal.each l merged.1)) merged.2 in
          let ok = norm_legal rs (redirect_link source target l) proper in
          let known = ends_exist rs (form_of (normal_form (is_outside rs) (redirect_link source target l)).kind) _ _
          ok.ends in
          let far = end_of (redirect_link source target l) (λ n. n ≢ source) (sent_never source target apart l.a)
          (sent_never source target apart l.b) in
          subst (IsLegalLink (set_entry_at rs source (resource_after_death rep r))) (sym merged.3)
          (link_stays rs (set_entry_at rs source (resource_after_death rep r))
          (normal_form (is_outside rs) (redirect_link source target l))
          (stays_dead rs source rep r at _ _ far.0 known.0) (stays_dead rs source rep r at _ _ far.1 known.1) ok)
