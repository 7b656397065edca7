use Rattle.std.proofs.Common.{◌≡◌, ℕ, subst, arith}
use Rattle.thes_links.specs.declared.edit.LinkEdit.TheVariants.{AfterMerge}
use Rattle.thes_links.specs.Reading.{IsRow}
use Rattle.thes_links.specs.LinkEdit.{CoversAt}
use Rattle.thes_links.proofs.ReadLemmas.{IsReadOf-plain, read_few, node_after-at, node_after-stays, IsReadOf-target}
use Rattle.thes_links.proofs.ReadLemmas.{length-target}
use Rattle.thes_links.proofs.NumberLemmas.{eq_other, ne_other, ne_same}
use Rattle.thes_links.proofs.walk.read_merged_links.Goals as goal

pub returns-then-ne-clause-read : goal.returns-then-ne-clause-read
returns-then-ne-clause-read g c =
    IsReadOf-plain (AfterMerge c.args.source c.args.target) (g.L.Links.net c.args.links.now).links c.args.node
    c.in_ok-row.row.items c.in_ok-row.ensures.listed
    (λ x. node_after-at c.args.source c.args.target c.requires c.args.node x (ne_other _ _ _ c.ne.ensures c.if-ne.true))

pub returns-then-ne-clause-count : goal.returns-then-ne-clause-count
returns-then-ne-clause-count g c ns covers =
    omega (
      arith,
      c.in_ok-row.ensures.count,
      read_few (AfterMerge c.args.source c.args.target) (g.L.Links.net c.args.links.now).links c.args.node
          c.in_ok-row.row.items c.in_ok-row.ensures.listed
          (λ x. node_after-stays c.args.source c.args.target c.requires c.args.node x
          (eq_other _ _ _ c.eq.ensures c.if-eq.false)) ns covers,
    )

pub returns-clause-read : goal.returns-clause-read
returns-clause-read g c =
    let here : c.args.node ≡ c.args.target = ne_same _ _ _ c.ne.ensures c.if-ne.false in
    let more : IsRow (g.L.Links.net c.args.links.now).links c.args.source c.in_ok-more.more.items =
    rw c.in_ok-row-2.ensures.net at c.in_ok-more.ensures.listed in
    rw (c.in_ok-extend_from_slice.ensures.items, c.deref.ensures.value, here)
    (IsReadOf-target c.args.source c.args.target c.requires (g.L.Links.net c.args.links.now).links
    c.in_ok-row-2.row.items c.in_ok-more.more.items c.in_ok-row-2.ensures.listed more)

pub returns-clause-count : goal.returns-clause-count
returns-clause-count g c ns covers =
    let here : c.args.node ≡ c.args.target = ne_same _ _ _ c.ne.ensures c.if-ne.false in
    let more : IsRow (g.L.Links.net c.args.links.now).links c.args.source c.in_ok-more.more.items =
    rw c.in_ok-row-2.ensures.net at c.in_ok-more.ensures.listed in
    let P : ℕ → Type 0 = λ n. CoversAt (AfterMerge c.args.source c.args.target) (g.L.Links.net c.args.links.now).links n
    ns in
    rw here (omega (
      arith,
      c.in_ok-row-2.ensures.count,
      c.in_ok-more.ensures.count,
      length-target c.args.source c.args.target c.requires (g.L.Links.net c.args.links.now).links
          c.in_ok-row-2.row.items c.in_ok-more.more.items c.in_ok-row-2.ensures.listed more ns (subst P here covers),
    ))
