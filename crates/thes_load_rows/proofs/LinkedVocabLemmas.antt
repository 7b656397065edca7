-- The checks of the tables link and hier, row by row and at the end, decide whether the tables meet their rules.
use Rattle.std.proofs.lemmas.Grind.{common_steps}
use Rattle.std.proofs.Common.{◌≡◌, ◌≢◌, ◌⊎◌, ◌≤◌, ℕ, ◌+◌, length, List, [], ◌∷◌, ◌++◌, map, refl, sym, ap, ◌∙◌, subst}
use Rattle.std.proofs.Common.{inl, inr, arith, Bool, true, false, append_assoc}
use Rattle.std.proofs.lemmas.List.{append-nil, map-append}
use Rattle.std.proofs.lemmas.Map.Lookups.{exact_unsigned}
use Rattle.std.specs.Prelude.{None, Some}
use Rattle.std.specs.Cmp.{nat_cmp_total}
use Rattle.std.specs.FinSet.{empty, insert, contains, contains-empty, from_list, from_list_push}
use Rattle.std.proofs.lemmas.Bool.{cases_eq}
use Rattle.thes_base.specs.declared.data.Resource.{Resource}
use Rattle.thes_base.specs.declared.data.Link.{Link}
use Rattle.thes_base.specs.declared.fault.Refusal.{Refusal}
use Rattle.thes_base.specs.declared.fault.Refusal.TheVariants as no
use Rattle.thes_base.specs.Resources.{is_outside}
use Rattle.thes_base.specs.Links.{Links, Holds, link_cmp, NoCycle, S27, S46, IsFirstBroken}
use Rattle.thes_base.specs.Legal.{IsLegalLink}
use Rattle.thes_base.proofs.LinkSetLemmas.{links_total, links_exact}
use Rattle.thes_base.proofs.SetMemberLemmas.{inserted_cases, inserted_new, inserted_kept}
use Rattle.thes_base.proofs.NumberedLemmas.{numbered_bound}
use Rattle.thes_links.specs.GraphView.{GraphView, MarksOutside}
use Rattle.thes_tables.specs.declared.rows.HierRow.{HierRow}
use Rattle.thes_tables.specs.Tables.{hier_link, hier_type}
use Rattle.thes_tables.proofs.RowSetLemmas.{once_push}
use Rattle.thes_load_rules.specs.Rules.{LinkRule, HierRule, links_of}
use Rattle.thes_load_rules.proofs.LinkTableLemmas.{held_cases, link_held, hier_held, link_lists, hier_lists}
use Rattle.thes_load_rows.specs.Forms.{HasLinkForm}
use Rattle.thes_load_rows.specs.RowsSoFar.{TakeResult}
use Rattle.thes_load_rows.specs.LinksSoFar.{IsFitLink, MarksFirst, AddLinkResult, HasLinks}
use Rattle.thes_load_rows.proofs.NextRowLemmas.{in_next, each_push, once_twice}

pub fit_of : (rs : List Resource) (l : Link) → IsLegalLink rs l → IsFitLink rs l
fit_of rs l legal = record { ends = legal.ends; live = legal.live; two = legal.two; schemes = legal.schemes }

outside_at : (rs : List Resource) → is_outside rs 0 ≡ false
outside_at rs = refl

pub marks_none : (rs : List Resource) → MarksFirst rs 0 (record { links = empty; outside = empty })
marks_none rs = grind (arith, common_steps, contains-empty, outside_at)

module _ (rs : List Resource) (i : ℕ) (graph : GraphView) (has : MarksFirst rs i graph) where
  pub marks_skip : is_outside rs (i + 1) ≡ false → MarksFirst rs (i + 1) graph
  marks_skip inside = grind (arith, common_steps, cases_eq)

  -- After the outside concept with the next number is marked, all outside concepts up to that number are marked.
  pub marks_more : is_outside rs (i + 1) ≡ true → MarksFirst rs (i + 1)
      (record graph { outside = insert graph.outside (i + 1) })
  marks_more outside = record {
    links = has.links;
    sound = λ n e. elim (inserted_cases nat_cmp_total exact_unsigned graph.outside (i + 1) n e) [
      | inl at ↦ ap (is_outside rs) at ∙ outside
      | inr old ↦ has.sound n old
    ];
    complete = λ n le e. either n le e (cases_eq n (i + 1));
  }
    where
      either : (n : ℕ) → n ≤ i + 1 → is_outside rs n ≡ true → (n ≡ i + 1) ⊎ (n ≢ i + 1)
          → contains (insert graph.outside (i + 1)) n ≡ true
      either n le e (inl at) = ap (contains (insert graph.outside (i + 1))) at ∙ inserted_new nat_cmp_total
          exact_unsigned graph.outside (i + 1)
      either n le e (inr differ) = inserted_kept nat_cmp_total exact_unsigned graph.outside (i + 1) n
          (has.complete n (omega (arith, le, differ)) e)

outside_bound : (rs : List Resource) (n : ℕ) → is_outside rs n ≡ true → n ≤ length rs
outside_bound rs n e = grind (arith, common_steps, numbered_bound)

pub marked_all : (rs : List Resource) (i : ℕ) (graph : GraphView) → length rs ≤ i → MarksFirst rs i graph
    → HasLinks rs graph [] []
marked_all rs i graph all has = grind (arith, common_steps, outside_bound)

link_push : (K : List Link) (l : Link) → links_of (K ++ l ∷ []) [] ≡ insert (links_of K []) l
link_push K l =
    ap (λ (ks : List Link). from_list {R = link_cmp} ks) (append-nil (K ++ l ∷ [])) ∙ from_list_push links_total
    links_exact K l
    ∙ ap (λ (ks : List Link). insert (from_list {R = link_cmp} ks) l) (sym (append-nil K))

module _ (rs : List Resource) (old new : GraphView) (K : List Link) (l : Link) (has : HasLinks rs old K []) where
  -- Either the link of the row is added, or no list that begins with the rows so far and this one meets the rule.
  pub link_step : (good : Bool) → HasLinkForm l → AddLinkResult rs old new l good
      → TakeResult (λ more. HasLinks rs new more []) (LinkRule rs) K l good
  link_step true form (legal, free, is) = record {
    rule = record {
      once = once_push K l (λ there. free (subst (λ (s : Links). Holds s l) (sym has.are) (link_held K [] l there)))
          has.rule.once;
      kinds = each_push (λ (x : Link). hier_type x.kind ≡ None) K l has.rule.kinds form.0;
      each = each_push (IsLegalLink rs) K l has.rule.each legal;
    };
    once = tt;
    each = λ row h. absurd h;
    are = ap (λ (g : GraphView). g.links) is ∙ ap (λ (s : Links). insert s l) has.are ∙ sym (link_push K l);
    marked = subst (MarksOutside rs) (sym is) has.marked;
  }
  link_step false form there = λ more rule.
      let held = subst (λ (s : Links). Holds s l) has.are (there (rule.each l (in_next K l more))) in
      once_twice K l more ((link_lists K [] has.rule.kinds has.rule.once).complete l (held, form.0)) rule.once

hier_push : (K : List Link) (H : List HierRow) (row : HierRow) → links_of K (H ++ row ∷ [])
    ≡ insert (links_of K H) (hier_link row)
hier_push K H row =
    ap (λ (ks : List Link). from_list {R = link_cmp} (K ++ ks)) (map-append hier_link H (row ∷ []))
    ∙ ap (λ (ks : List Link). from_list {R = link_cmp} ks) (sym (append_assoc K (map hier_link H) (hier_link row ∷ [])))
    ∙ from_list_push links_total links_exact (K ++ map hier_link H) (hier_link row)

module _ (rs : List Resource) (old new : GraphView) (K : List Link) (H : List HierRow) (row : HierRow)
    (has : HasLinks rs old K H) where
  -- Either the link of the row is added, or no list that begins with the rows so far and this one meets the rule.
  pub hier_step : (good : Bool) → AddLinkResult rs old new (hier_link row) good → TakeResult (HasLinks rs new K)
      (HierRule rs K) H row good
  hier_step true (legal, free, is) = record {
    rule = has.rule;
    once = once_push H row
        (λ there. free (subst (λ (s : Links). Holds s (hier_link row)) (sym has.are) (hier_held K H row there)))
        has.once;
    each = each_push (λ (x : HierRow). IsLegalLink rs (hier_link x)) H row has.each legal;
    are = ap (λ (g : GraphView). g.links) is ∙ ap (λ (s : Links). insert s (hier_link row)) has.are
        ∙ sym (hier_push K H row);
    marked = subst (MarksOutside rs) (sym is) has.marked;
  }
  hier_step false there = λ more rule.
      let legal = rule.legal.each (hier_link row) (hier_held K (H ++ row ∷ more) row (in_next H row more)) in
      let held = subst (λ (s : Links). Holds s (hier_link row)) has.are (there legal) in
      once_twice H row more ((hier_lists K H has.rule.kinds has.once).complete row held) rule.once

module _ (rs : List Resource) (graph : GraphView) (K : List Link) (H : List HierRow) (has : HasLinks rs graph K H) where
  -- If the links of the graph meet Cycle, S27 and S46, the rows meet the rule of table hier.
  pub rule_whole : IsFirstBroken (Holds graph.links) None → HierRule rs K H
  rule_whole whole = grind (arith, common_steps, held_cases)

  contradicts_broken : (Held : Link → Type 0) (r : Refusal) → IsFirstBroken Held (Some r) → NoCycle Held → S27 Held
      → S46 Held → ⊥
  contradicts_broken Held no.Cycle first a b c = a.none first.0 first.1
  contradicts_broken Held no.S27 first a b c = b.none first.1.0 first.1.1 first.1.2 first.1.3
  contradicts_broken Held no.S46 first a b c = c.none first.2.0 first.2.1 first.2.2 first.2.3
  contradicts_broken Held _ first a b c = absurd first

  pub rule_broken : (r : Refusal) → IsFirstBroken (Holds graph.links) (Some r) → HierRule rs K H → ⊥
  rule_broken r first rule = grind (arith, common_steps, contradicts_broken)
