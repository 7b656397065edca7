use Rattle.std.proofs.Common.{sym, ◌∙◌}
use Rattle.std.proofs.lemmas.Bool.Decides.{Decides-eqb}
use Rattle.std.proofs.lemmas.Bool.{both_ways}
use Rattle.thes_walks.proofs.SideSearchLemmas.{Steps-with_none, Steps-merged_none}
use Rattle.thes_walks.proofs.ends.is_end_after.Goals as goal
use Rattle.thes_walks.proofs.ends.is_end_after.Goals.{else-eq-via-then-eq+else-not-is_end, else-eq-via-else-eq}

pub returns-in-NoEdit-clause-end : goal.returns-in-NoEdit-clause-end
returns-in-NoEdit-clause-end g c = rw c.in-NoEdit.is c.is_end.ensures.end

pub returns-in-None-clause-end : goal.returns-in-None-clause-end
returns-in-None-clause-end g c =
    rw c.in-WithLink.is (λ on. record {
      none = Steps-with_none (g.L.Links.net c.args.links.now).links c.args.relation c.in-WithLink.new
          c.args.x (c.is_end-end.ensures.end on).none (sym c.in-None.ensures);
    })

pub returns-else-eq-clause-end : goal.returns-else-eq-clause-end
returns-else-eq-clause-end g c = rw c.in-AfterMerge.is (λ on.
    record {
      none = Steps-merged_none (g.L.Links.net c.args.links.now).links c.args.relation c.requires
          c.is_end-in-AfterMerge.ensures.two_ends c.in-AfterMerge.source c.in-AfterMerge.target c.args.x
          (c.is_end-in-AfterMerge.ensures.end on).none
          (λ same. elim c.else-eq.branch [
            | else-eq-via-then-eq+else-not-is_end w ↦ (w.is_end-then-eq.ensures.end w.if-not-is_end.false).none
            | else-eq-via-else-eq w ↦ absurd (both_ways _ (sym c.eq.ensures ∙ w.if-eq.false)
                ((Decides-eqb c.args.x c.in-AfterMerge.target).1 same))
          ]);
    })
