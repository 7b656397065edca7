use Rattle.std.proofs.Common.{refl, true, false}
use Rattle.std.specs.Bool.{MatchBool}
use Rattle.thes_base.specs.Links.{Holds, S46}
use Rattle.thes_links.specs.declared.edit.LinkEdit.TheVariants.{WithLink}
use Rattle.thes_links.specs.LinkEdit.{HeldAfter}
use Rattle.thes_links.specs.Rules.{BreaksS46At, KeepsS46At, BreaksS46}
use Rattle.thes_walks.proofs.KindLemmas.{s46_kept}
use Rattle.thes_walks.proofs.EditCheckLemmas.{S46-with, BreaksS46-with}
use Rattle.thes_walks.proofs.addition.breaks_s46.Goals as goal

pub returns-then-not-matches_exactly_or_apart-clause-s46 : goal.returns-then-not-matches_exactly_or_apart-clause-s46
returns-then-not-matches_exactly_or_apart-clause-s46 g c =
    s46_kept (Holds (g.L.Links.net c.args.links.now).links) c.args.new.now
    (c.if-not-matches_exactly_or_apart.ensures refl).0 (c.if-not-matches_exactly_or_apart.ensures refl).1
    c.requires.unbroken.2

pub returns-clause-s46 : goal.returns-clause-s46
returns-clause-s46 g c =
    elim c.in_ok-found.found as
    (λ b. MatchBool b (BreaksS46At (HeldAfter (WithLink c.args.new.now) (g.L.Links.net c.args.links.now).links)
    c.args.new.now.a) (KeepsS46At (HeldAfter (WithLink c.args.new.now) (g.L.Links.net c.args.links.now).links)
    c.args.new.now.a)
    → MatchBool b (BreaksS46 (HeldAfter (WithLink c.args.new.now) (g.L.Links.net c.args.links.now).links))
    (S46 (HeldAfter (WithLink c.args.new.now) (g.L.Links.net c.args.links.now).links))) [
      | true ↦ λ some. BreaksS46-with (g.L.Links.net c.args.links.now).links c.args.new.now c.requires.ends
          c.requires.two_ends c.requires.unbroken some
      | false ↦ λ none. S46-with (g.L.Links.net c.args.links.now).links c.args.new.now c.requires.ends
          c.requires.two_ends c.requires.unbroken none
    ] c.in_ok-found.ensures.found
