use Rattle.std.proofs.Common.{[]}
use Rattle.thes_core.specs.CoreView.{with_histories}
use Rattle.thes_display.proofs.HeadingLemmas.{headings_whole}
use Rattle.thes_display.proofs.heading.headings_of.Goals as goal

pub returns : goal.returns
returns c =
    headings_whole (with_histories [] c.args.core.now) c.args.tag.now c.live_of-concepts.result.now
    c.live_of-concepts.ensures.listed.rises c.args.scheme _ _ _ c.live_of-concepts.ensures.listed
    c.in_ok-headings.ensures c.in_ok-push_all_lead_ins.ensures c.in_ok-sort_headings.ensures.same
    c.in_ok-sort_headings.ensures.sorted
