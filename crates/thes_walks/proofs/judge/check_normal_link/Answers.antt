use Rattle.std.proofs.Common.{◌+◌, ◌*◌, ◌<◌, ◌≤◌, inr, length, arith, sym, subst, refl, None}
use Rattle.std.proofs.lemmas.Bool.{both_ways}
use Rattle.thes_base.specs.Links.{Holds}
use Rattle.thes_links.specs.declared.edit.LinkEdit.TheVariants.{WithLink}
use Rattle.thes_links.specs.Rules.{BreakNone, AreSoundWith, CoversNear}
use Rattle.thes_links.specs.GraphView.{GraphView}
use Rattle.thes_walks.proofs.EditCheckLemmas.{CoversNear-with}
use Rattle.thes_links.proofs.ContractLemmas.{IsFirstBroken-inserted}
use Rattle.thes_walks.proofs.judge.check_normal_link.Goals as goal

pub returns-clause-answer : goal.returns-clause-answer
returns-clause-answer g c =
    let first = c.in_ok-answer.ensures.first in
    inr (
      both_ways _ (sym c.if-holds.ensures.holds),
      IsFirstBroken-inserted (g.L.Links.net c.args.links.now).links
          c.args.new.now c.in_ok-answer.answer (rw c.if-holds.ensures.net at first),
    )

pub returns-clause-count : goal.returns-clause-count
returns-clause-count g c ns has_new all =
    let rest = CoversNear-with (g.L.Links.net c.args.links.now).links c.args.new.now ns
    (both_ways _ (sym c.if-holds.ensures.holds)) has_new all in
    let covers : CoversNear (WithLink c.args.new.now) (g.L.Links.net c.args.links.now).links c.args.new.now.a rest.0 =
    rest.2 in
    let walked : g.L.Links.count c.check_added_link.new.links ≤ g.L.Links.count c.holds.new.self + 6 * length rest.0 =
    c.in_ok-answer.ensures.count rest.0 (rw c.if-holds.ensures.net covers) in
    omega (arith, c.if-holds.ensures.count, rest.1)

pub is_harmless-requires : goal.is_harmless-requires
is_harmless-requires g c = record {
  ends = c.requires.ends;
  unbroken = subst (λ (net : GraphView). BreakNone (Holds net.links)) (sym c.if-holds.ensures.net) c.requires.unbroken;
}

pub returns-then-is_harmless-clause-answer : goal.returns-then-is_harmless-clause-answer
returns-then-is_harmless-clause-answer g c =
    let legal = c.if-is_harmless.ensures refl in
    inr (
      both_ways _ (sym c.if-holds.ensures.holds),
      IsFirstBroken-inserted (g.L.Links.net c.args.links.now).links
          c.args.new.now None (rw c.if-holds.ensures.net at legal),
    )

pub returns-then-is_harmless-clause-count : goal.returns-then-is_harmless-clause-count
returns-then-is_harmless-clause-count g c ns has_new all =
    let some : has_new.0 < length ns = has_new.1 in
    omega (arith, c.if-holds.ensures.count)

pub check_added_link-requires : goal.check_added_link-requires
check_added_link-requires g c = subst (λ (net : GraphView). AreSoundWith net.links c.args.new.now)
    (sym c.if-holds.ensures.net) c.requires
