use Rattle.std.proofs.Common.{rules}
use Rattle.thes_core.proofs.thesaurus.Thesaurus.check_drop_label.Goals as goal

pub returns : goal.returns
returns c = λ hs kept. search rules depth 14
