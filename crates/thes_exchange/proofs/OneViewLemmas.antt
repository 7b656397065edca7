-- Proves that a state has at most one answer to a query: each list in a view is sorted, and a number has one refusal.
use Rattle.std.proofs.Common.{◌≡◌, ◌∙◌, ◌∷◌, [], ℕ, List, Option, Some, None, inr, refl, sym, ap, length}
use Rattle.std.specs.Prelude.{◌&&◌, ◌==◌}
use Rattle.std.specs.Cmp.{IsTotalOrder, nat_cmp_total}
use Rattle.std.proofs.lemmas.Cmp.{then_total, on_total, nat_list_cmp_total}
use Rattle.thes_base.specs.declared.data.History.{History}
use Rattle.thes_base.specs.declared.data.Resource.{Resource}
use Rattle.thes_base.specs.declared.fault.Refusal.{Refusal}
use Rattle.thes_base.specs.declared.fault.Refusal.TheVariants as no
use Rattle.thes_base.specs.RefusalRules.{Check, ◌unless◌}
use Rattle.thes_base.specs.Refusals.{IsKnownPosting}
use Rattle.thes_base.specs.Resources.{Exists, IsConcept, entry_at}
use Rattle.thes_base.specs.RuleParts.{unless_concept}
use Rattle.thes_base.specs.State.{State}
use Rattle.thes_base.specs.Views.{AreDetailsOf, ConceptDetails, TaggedText, assigned_histories, tagged_text_cmp, totals_of}
use Rattle.thes_base.proofs.KindNameOrderLemmas.{mapping_total, typed_total}
use Rattle.thes_base.proofs.RefusalRuleLemmas.{one_first_refusal}
use Rattle.thes_base.proofs.UniqueListingLemmas.{one_listing}
use Rattle.thes_requests.specs.declared.handler.QueryAnswer.TheVariants as viewed
use Rattle.thes_requests.specs.declared.request.Query.{Query}
use Rattle.thes_requests.specs.declared.request.Query.TheVariants as asked
use Rattle.thes_exchange.specs.declared.view.View.{View}
use Rattle.thes_exchange.specs.declared.view.View.TheVariants as views
use Rattle.thes_exchange.specs.Laws.{HasOneView}
use Rattle.thes_exchange.specs.ViewOf.{IsView, unless_posting}
use Rattle.thes_exchange.specs.QueryAnswers.{IsViewLine}
use Rattle.thes_exchange.specs.ViewTexts.{concept_data, line_text, posting_data, postings_data, totals_data}

tagged_total : IsTotalOrder tagged_text_cmp
tagged_total = then_total (on_total (λ (t : TaggedText). t.tag) nat_list_cmp_total)
    (on_total (λ (t : TaggedText). t.text) nat_list_cmp_total)

one_details : (s : State) (n : ℕ) (c d : ConceptDetails) → AreDetailsOf s n c → AreDetailsOf s n d → c ≡ d
one_details s n c d x y =
    let both : Some x.resource ≡ Some y.resource = sym x.found ∙ y.found in
    let resource : x.resource ≡ y.resource = cc in
    let broader : c.broader ≡ d.broader = one_listing nat_cmp_total c.broader d.broader x.broader y.broader in
    let number = x.number ∙ sym y.number in
    let live = x.live ∙ ap (λ (r : Resource). r.live) resource ∙ sym y.live in
    let scheme = x.scheme ∙ ap (λ (r : Resource). r.scheme) resource ∙ sym y.scheme in
    let replaced = x.replaced ∙ ap (λ (r : Resource). r.replaced) resource ∙ sym y.replaced in
    let top = x.top ∙ (λ i. (resource i).live && length (broader i) == 0) ∙ sym y.top in
    let postings = x.postings ∙ sym y.postings in
    let alt = one_listing tagged_total c.alt d.alt x.alt y.alt in
    let hidden = one_listing tagged_total c.hidden d.hidden x.hidden y.hidden in
    let pref = one_listing tagged_total c.pref d.pref x.pref y.pref in
    let scope = one_listing tagged_total c.scope d.scope x.scope y.scope in
    let collections = one_listing nat_cmp_total c.collections d.collections x.collections y.collections in
    let narrower = one_listing nat_cmp_total c.narrower d.narrower x.narrower y.narrower in
    let related = one_listing nat_cmp_total c.related d.related x.related y.related in
    let mappings = one_listing mapping_total c.mappings d.mappings x.mappings y.mappings in
    let typed = one_listing typed_total c.typed d.typed x.typed y.typed in
    λ i. record {
      alt = alt i;
      broader = broader i;
      collections = collections i;
      hidden = hidden i;
      live = live i;
      mappings = mappings i;
      narrower = narrower i;
      number = number i;
      postings = postings i;
      pref = pref i;
      related = related i;
      replaced = replaced i;
      scheme = scheme i;
      scope = scope i;
      top = top i;
      typed = typed i;
    }

-- The text is the line that answers the query in the state.
abbrev IsLine : State → Query → List ℕ → Type 0
IsLine s asked.Totals text = text ≡ line_text (totals_data (totals_of s.histories))
IsLine s (asked.Concept n) text = (c : ConceptDetails) × unless_concept s n None × AreDetailsOf s n c
    × (text ≡ line_text (concept_data c))
IsLine s (asked.Postings n) text =
    unless_concept s n None × (text ≡ line_text (postings_data (assigned_histories n s.histories)))
IsLine s (asked.Posting n) text =
    (h : History) × (entry_at s.histories n ≡ Some h) × (text ≡ line_text (posting_data h))

line_of : (s : State) (query : Query) (v : View) (text : List ℕ) → IsView s query v → IsViewLine v text
    → IsLine s query text
line_of s asked.Totals (views.Totals t) text is line = line ∙ ap (λ u. line_text (totals_data u)) is
line_of s asked.Totals _ text is line = absurd is
line_of s (asked.Concept n) (views.Concept c) text is line = (c, is.0, is.1, line)
line_of s (asked.Concept n) (views.No r) text is line = absurd line
line_of s (asked.Concept n) _ text is line = absurd is
line_of s (asked.Postings n) (views.Postings hs) text is line =
    (is.0, line ∙ ap (λ gs. line_text (postings_data gs)) is.1)
line_of s (asked.Postings n) (views.No r) text is line = absurd line
line_of s (asked.Postings n) _ text is line = absurd is
line_of s (asked.Posting n) (views.Posting h) text is line = (h.now, is, line)
line_of s (asked.Posting n) (views.No r) text is line = absurd line
line_of s (asked.Posting n) _ text is line = absurd is

-- A query has one line in a state.
one_line : (s : State) (query : Query) (x y : List ℕ) → IsLine s query x → IsLine s query y → x ≡ y
one_line s asked.Totals x y a b = a ∙ sym b
one_line s (asked.Concept n) x y a b =
    a.3 ∙ ap (λ c. line_text (concept_data c)) (one_details s n a.0 b.0 a.2 b.2) ∙ sym b.3
one_line s (asked.Postings n) x y a b = a.1 ∙ sym b.1
one_line s (asked.Posting n) x y a b =
    let both : Some a.0 ≡ Some b.0 = sym a.1 ∙ b.1 in
    let same : a.0 ≡ b.0 = cc in
    a.2 ∙ ap (λ h. line_text (posting_data h)) same ∙ sym b.2

abbrev concept_checks : State → ℕ → List Check
concept_checks s n =
    no.UnknownResource unless Exists s.resources n ∷ no.WrongKind unless IsConcept s.resources n ∷ []

abbrev posting_checks : State → ℕ → List Check
posting_checks s n = no.UnknownPosting unless IsKnownPosting s.histories n ∷ []

one_concept_refusal : (s : State) (n : ℕ) (a b : Option Refusal) → unless_concept s n a → unless_concept s n b → a ≡ b
one_concept_refusal s n a b x y = one_first_refusal (concept_checks s n) tt a b x y

one_posting_refusal : (s : State) (n : ℕ) (a b : Option Refusal) → unless_posting s n a → unless_posting s n b → a ≡ b
one_posting_refusal s n a b x y = one_first_refusal (posting_checks s n) tt a b x y

-- A query that has a line isn't refused.
not_both : (s : State) (query : Query) (text : List ℕ) (r : Refusal) → IsLine s query text
    → IsView s query (views.No r) → ⊥
not_both s asked.Totals text r line refused = refused
not_both s (asked.Concept n) text r line refused =
    absurd (let bad : None ≡ Some r = one_concept_refusal s n None (Some r) line.1 refused in cc)
not_both s (asked.Postings n) text r line refused =
    absurd (let bad : None ≡ Some r = one_concept_refusal s n None (Some r) line.0 refused in cc)
not_both s (asked.Posting n) text r line refused =
    absurd (let bad : None ≡ Some r =
    one_posting_refusal s n None (Some r) (inr ((line.0, line.1), refl)) refused in cc)

-- A query has one refusal in a state.
one_refusal : (s : State) (query : Query) (r q : Refusal) → IsView s query (views.No r) → IsView s query (views.No q)
    → r ≡ q
one_refusal s asked.Totals r q x y = absurd x
one_refusal s (asked.Concept n) r q x y =
    let same : Some r ≡ Some q = one_concept_refusal s n (Some r) (Some q) x y in cc
one_refusal s (asked.Postings n) r q x y =
    let same : Some r ≡ Some q = one_concept_refusal s n (Some r) (Some q) x y in cc
one_refusal s (asked.Posting n) r q x y =
    let same : Some r ≡ Some q = one_posting_refusal s n (Some r) (Some q) x y in cc

pub one_view : HasOneView
one_view s query (viewed.Page x) (viewed.Page y) a b =
    ap viewed.Page (one_line s query x y (line_of s query a.0 x a.1 a.2) (line_of s query b.0 y b.1 b.2))
one_view s query (viewed.Page x) (viewed.No r) a b =
    absurd (not_both s query x r (line_of s query a.0 x a.1 a.2) b)
one_view s query (viewed.No r) (viewed.Page y) a b =
    absurd (not_both s query y r (line_of s query b.0 y b.1 b.2) a)
one_view s query (viewed.No r) (viewed.No q) a b = ap viewed.No (one_refusal s query r q a b)
