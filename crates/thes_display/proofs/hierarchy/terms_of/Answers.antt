use Rattle.std.proofs.Common.{[], subst}
use Rattle.thes_base.specs.State.{State}
use Rattle.thes_core.specs.CoreView.{with_histories}
use Rattle.thes_display.specs.Hierarchical.{AreTerms}
use Rattle.thes_display.proofs.TermLemmas.{terms_are}
use Rattle.thes_display.proofs.SchemeRankLemmas.{one_rank, scheme_is_closed}
use Rattle.thes_display.proofs.hierarchy.terms_of.Goals as goal

pub returns : goal.returns
returns c =
    let listed = c.live_of.ensures.listed in
    let terms = c.in_ok-terms.ensures in
    record {
      terms = λ s holds. subst (λ (t : State). AreTerms t c.args.scheme c.args.tag.now c.in_ok-terms.terms.items)
          holds.state
          (terms_are (with_histories s.histories c.args.core.now) c.args.scheme c.args.tag.now _ _ listed terms);
      one_rank = one_rank _ _ _ _ (terms_are (with_histories [] c.args.core.now) c.args.scheme c.args.tag.now _ _ listed
          terms);
      closed = λ s holds. scheme_is_closed _ _ _ _ (terms_are (with_histories s.histories c.args.core.now) c.args.scheme
          c.args.tag.now _ _ listed terms) (c.live_of.ensures.closed s holds);
    }
