-- Equal rows are indexed under the same number.
use Rattle.std.proofs.Common.{◌≡◌, ap, true}
use Rattle.std.specs.Cmp.{Equal-is}
use Rattle.thes_base.specs.Labels.{Label, label_cmp}
use Rattle.thes_base.specs.Links.{link_cmp}
use Rattle.thes_base.specs.declared.data.Link.{Link}
use Rattle.thes_base.proofs.LabelSetLemmas.{labels_exact}
use Rattle.thes_base.proofs.LinkSetLemmas.{links_exact}
use Rattle.thes_tables.specs.declared.rows.HierRow.{HierRow}
use Rattle.thes_tables.specs.Tables.{hier_link}
use Rattle.thes_store.specs.Numbers.{owner_of, indexed_end_of, narrower_end_of, is_same_label, is_same_link}
use Rattle.thes_store.specs.Numbers.{is_same_hier}

-- Equal labels are indexed under the same owner.
pub owners_agree : (x y : Label) → is_same_label x y ≡ true → owner_of x ≡ owner_of y
owners_agree x y e = ap owner_of (labels_exact x y ((Equal-is (label_cmp x y)).0 e))

-- Equal links are indexed under the same end.
pub ends_agree : (x y : Link) → is_same_link x y ≡ true → indexed_end_of x ≡ indexed_end_of y
ends_agree x y e = ap indexed_end_of (links_exact x y ((Equal-is (link_cmp x y)).0 e))

-- Rows of table hier that encode the same link are indexed under the same narrower concept.
pub narrower_agree : (x y : HierRow) → is_same_hier x y ≡ true → narrower_end_of x ≡ narrower_end_of y
narrower_agree x y e =
    ap (λ (l : Link). l.a)
    (links_exact (hier_link x) (hier_link y) ((Equal-is (link_cmp (hier_link x) (hier_link y))).0 e))
