use Rattle.std.proofs.Common.{arith}
use Rattle.thes_links.specs.declared.edit.LinkEdit.TheVariants.{NoEdit, WithLink}
use Rattle.thes_links.proofs.ReadLemmas.{IsReadOf-plain, read_few}
use Rattle.thes_links.proofs.walk.read.Goals as goal

pub returns-in_ok-row-in-NoEdit-clause-read : goal.returns-in_ok-row-in-NoEdit-clause-read
returns-in_ok-row-in-NoEdit-clause-read g c =
    rw c.in-NoEdit.is (IsReadOf-plain NoEdit (g.L.Links.net c.args.links.now).links c.args.node
    c.in_ok-row-in-NoEdit.row.items c.in_ok-row-in-NoEdit.ensures.listed (λ x at. at))

pub returns-in_ok-row-in-NoEdit-clause-count : goal.returns-in_ok-row-in-NoEdit-clause-count
returns-in_ok-row-in-NoEdit-clause-count g c = rw c.in-NoEdit.is (λ ns covers.
    omega (
      arith,
      c.in_ok-row-in-NoEdit.ensures.count,
      read_few NoEdit (g.L.Links.net c.args.links.now).links c.args.node
          c.in_ok-row-in-NoEdit.row.items c.in_ok-row-in-NoEdit.ensures.listed (λ x at. at) ns covers,
    ))

pub returns-in_ok-row-in-WithLink-clause-read : goal.returns-in_ok-row-in-WithLink-clause-read
returns-in_ok-row-in-WithLink-clause-read g c =
    rw c.in-WithLink.is (IsReadOf-plain (WithLink c.in-WithLink.field-0) (g.L.Links.net c.args.links.now).links
    c.args.node c.in_ok-row-in-WithLink.row.items c.in_ok-row-in-WithLink.ensures.listed (λ x at. at))

pub returns-in_ok-row-in-WithLink-clause-count : goal.returns-in_ok-row-in-WithLink-clause-count
returns-in_ok-row-in-WithLink-clause-count g c = rw c.in-WithLink.is (λ ns covers.
    omega (
      arith,
      c.in_ok-row-in-WithLink.ensures.count,
      read_few (WithLink c.in-WithLink.field-0)
          (g.L.Links.net c.args.links.now).links c.args.node c.in_ok-row-in-WithLink.row.items
          c.in_ok-row-in-WithLink.ensures.listed (λ x at. at) ns covers,
    ))
