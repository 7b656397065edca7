use Rattle.thes_display.proofs.LabelLemmas.{texts_listed}
use Rattle.thes_display.proofs.entry_terms.labels_in.Goals as goal

pub returns : goal.returns
returns c = texts_listed c.args.kind c.args.tag.now c.args.core.now.labels c.args.n c.labels_of.result.now
    c.in_ok-found.found.items c.labels_of.ensures c.in_ok-found.ensures
