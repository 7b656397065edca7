-- A merge removes the links at its source, and adds those that are held only after it.
use Rattle.std.proofs.Common.{◌≡◌, ◌≢◌, inl, inr, ℕ, List, sym, ap, ◌∙◌, subst}
use Rattle.thes_base.specs.declared.data.Link.{Link}
use Rattle.thes_base.specs.Links.{Holds, normal_form, redirect_link, links_after_merge, HasEnd, Links}
use Rattle.thes_base.proofs.LinkSetLemmas.{contracted_from, contracted_to}
use Rattle.thes_base.proofs.LinkLemmas.{sent_never, sent_other, sent_stays}
use Rattle.thes_links.specs.GraphView.{GraphView, is_marked}
use Rattle.thes_links.specs.Reading.{IsRow}
use Rattle.thes_links.proofs.NormLemmas.{norm_ends, ends_or_not}
use Rattle.thes_graph.specs.MergeAdditions.{AreMergeAdditions}
use Rattle.thes_tables.specs.Tables.{IsUnsortedListing}
use Rattle.thes_core.proofs.DeltaLemmas.{contains_in, in_contains, once_apart}

module _ (net : GraphView) (source target : ℕ) (different : source ≢ target)
    (two_ends : (l : Link) → Holds net.links l → l.a ≢ l.b) (normal : (l : Link) → Holds net.links l
    → normal_form (is_marked net) l ≡ l) where
  abbrev links_after_contract : Links
  links_after_contract = links_after_merge (is_marked net) source target net.links

  abbrev redirected_link : Link → Link
  redirected_link l = normal_form (is_marked net) (redirect_link source target l)

  -- A link at the source isn't held after the merge.
  pub no_end_at_source : (q : Link) → HasEnd source q → Holds links_after_contract q → ⊥
  no_end_at_source q at kept =
      let c = contracted_from (is_marked net) source target net.links q kept in
      elim (norm_ends (is_marked net) (redirect_link source target c.0) source (subst (HasEnd source) c.3 at))
      [ inl a ↦ sent_never source target different c.0.a a | inr b ↦ sent_never source target different c.0.b b ]

  -- Redirection doesn't change a held link without an end at the source.
  stays_itself : (q : Link) → Holds net.links q → (HasEnd source q → ⊥) → redirected_link q ≡ q
  stays_itself q held off =
      ap (normal_form (is_marked net)) (sent_stays source target q (λ a. off (inl a)) (λ b. off (inr b)))
      ∙ normal q held

  pub link_stays : (q : Link) → Holds net.links q → (HasEnd source q → ⊥) → Holds links_after_contract q
  link_stays q held off =
      contracted_to (is_marked net) source target net.links q (
        q,
        held,
        λ e. two_ends q held (sym (sent_other source target q.a (λ k. off (inl k))) ∙ e
            ∙ sent_other source target q.b (λ k. off (inr k))),
        sym (stays_itself q held off),
      )

  pub merge_goes : (gone : List Link) → IsRow net.links source gone
      → IsUnsortedListing (λ q. Holds net.links q × (Holds links_after_contract q → ⊥)) gone
  merge_goes gone row = record {
    sound = λ q h. let at = row.sound q (in_contains gone q h) in (at.0, λ kept. no_end_at_source q at.1 kept);
    complete =
        λ q h. contains_in gone q
        (row.complete q h.0
        (elim (ends_or_not source q) [ inl at ↦ at | inr off ↦ absurd (h.1 (link_stays q h.0 off)) ]));
    once = once_apart gone row.once;
  }

pub merge_comes : (net : GraphView) (source target : ℕ) (come : List Link)
    → is_marked net source ≡ is_marked net target → AreMergeAdditions net source target come
    → IsUnsortedListing (λ q. Holds (links_after_merge (is_marked net) source target net.links) q
    × (Holds net.links q → ⊥)) come
merge_comes net source target come inside are = record {
  sound = λ q h. are.sound q (in_contains come q h);
  complete = λ q h. contains_in come q (are.complete q h.0 h.1);
  once = once_apart come (are.distinct inside);
}
