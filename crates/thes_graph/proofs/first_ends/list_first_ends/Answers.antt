use Rattle.std.proofs.Common.{◌++◌, ◌∷◌, [], List, ap, arith, subst, sym, take, ◌∙◌}
use Rattle.std.proofs.lemmas.List.{take_more, take_all}
use Rattle.thes_graph.specs.declared.sided_links.SidedLink.{SidedLink}
use Rattle.thes_graph.specs.FirstEnds.{AddsFirstEnds}
use Rattle.thes_graph.proofs.FirstEndLemmas.{more_first_ends, no_first_ends}
use Rattle.thes_graph.proofs.first_ends.list_first_ends.Goals as goal

pub loop-sided_link-init : goal.loop-sided_link-init
loop-sided_link-init c = no_first_ends c.args.number c.args.all.now.items

pub loop-sided_link-preserved : goal.loop-sided_link-preserved
loop-sided_link-preserved c =
    let i = c.loop-sided_link.sided_link-index in
    let more = take_more c.args.row.now i c.sided_link-item.result (omega arith)
    ∙ ap (λ (x : SidedLink). take i c.args.row.now ++ x ∷ []) (sym c.sided_link-item.is) in
    subst (λ (row : List SidedLink). AddsFirstEnds c.args.number row c.args.all.now.items
    c.add_if_first.new.all.items) (sym more)
    (more_first_ends c.args.number (take i c.args.row.now) c.args.all.now.items c.loop-sided_link.all.items
    c.loop-sided_link.invariant c.sided_link-item.result c.add_if_first.new.all.items c.in_ok-add_if_first.ensures)

pub returns : goal.returns
returns c =
    subst (λ (row : List SidedLink). AddsFirstEnds c.args.number row c.args.all.now.items
    c.loop-sided_link.all.items) (take_all c.loop-sided_link.sided_link-index c.args.row.now (omega arith))
    c.loop-sided_link.invariant
