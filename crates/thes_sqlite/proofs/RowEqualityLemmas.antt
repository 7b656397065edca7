-- Proves that the comparisons of rows of label, link and hier tell equal rows from others.
use Rattle.std.proofs.lemmas.Grind.{common_steps}
use Rattle.std.proofs.Common.{arith, ◌≡◌, true, ap, is_eq}
use Rattle.std.specs.Cmp.{tied_itself}
use Rattle.std.specs.Ordering.{eq_by_cmp}
use Rattle.thes_base.specs.declared.data.Link.{Link}
use Rattle.thes_base.specs.Labels.{Label, label_cmp}
use Rattle.thes_base.specs.Links.{link_cmp}
use Rattle.thes_base.proofs.LabelSetLemmas.{labels_total, labels_exact}
use Rattle.thes_base.proofs.LinkSetLemmas.{links_total, links_exact}
use Rattle.thes_tables.specs.declared.rows.HierRow.{HierRow}
use Rattle.thes_tables.specs.declared.rows.HierType.{HierType}
use Rattle.thes_tables.specs.Tables.{hier_link, hier_kind}
use Rattle.thes_tables.proofs.RowSetLemmas.{equal_of_tie}
use Rattle.thes_sql.specs.Traces.{is_same_hier}

pub label_exact : (x y : Label) → eq_by_cmp label_cmp x y ≡ true → x ≡ y
label_exact = equal_of_tie labels_total labels_exact

pub label_itself : (x : Label) → eq_by_cmp label_cmp x x ≡ true
label_itself x = ap is_eq (tied_itself labels_total x)

pub link_exact : (x y : Link) → eq_by_cmp link_cmp x y ≡ true → x ≡ y
link_exact = equal_of_tie links_total links_exact

pub link_itself : (x : Link) → eq_by_cmp link_cmp x x ≡ true
link_itself x = ap is_eq (tied_itself links_total x)

same_type : (s t : HierType) → hier_kind s ≡ hier_kind t → s ≡ t
same_type s t e = grind (arith, common_steps)

pub hier_exact : (x y : HierRow) → is_same_hier x y ≡ true → x ≡ y
hier_exact x y e =
    let same = link_exact (hier_link x) (hier_link y) e in
    let types : x.typ ≡ y.typ = same_type x.typ y.typ (ap (λ (l : Link). l.kind) same) in
    let a : x.a ≡ y.a = ap (λ (l : Link). l.a) same in
    let b : x.b ≡ y.b = ap (λ (l : Link). l.b) same in
    λ i. record { a = a i; b = b i; typ = types i }

pub hier_itself : (x : HierRow) → is_same_hier x x ≡ true
hier_itself x = link_itself (hier_link x)
