use Rattle.std.proofs.Common.{arith}
use Rattle.std.proofs.lemmas.Bool.{both_ways}
use Rattle.thes_vocab.proofs.LabelCheckLemmas.{row_without_name, row_clashing, row_with_rival, row_renamed}
use Rattle.thes_vocab.proofs.vocab.Vocab.check_relabel.Goals as goal

pub returns-in_default : goal.returns-in_default
returns-in_default c = grind (arith, row_without_name)

pub returns-then-has_clash : goal.returns-then-has_clash
returns-then-has_clash c =
    row_clashing _ c.args.self.now c.self.view_is c.args.owner c.args.tag.now c.args.text.now c.in-Some.old.now
    c.args.keep c.self.invariant.named c.in-Some.ensures (c.has_clash.ensures.0 c.if-has_clash.true)

pub returns-then-has_rival : goal.returns-then-has_rival
returns-then-has_rival c =
    row_with_rival _ c.args.self.now c.self.view_is c.args.owner c.args.tag.now c.args.text.now c.in-Some.old.now
    c.args.keep c.self.invariant.named c.in-Some.ensures c.has_clash.result c.has_clash.ensures.1 c.if-has_clash.false
    (c.has_rival.ensures.0 c.if-has_rival.true)

pub returns : goal.returns
returns c =
    row_renamed _ c.args.self.now c.self.view_is c.args.owner c.args.tag.now c.args.text.now c.in-Some.old.now
    c.args.keep c.self.invariant.named c.in-Some.ensures c.has_clash.result c.has_clash.ensures.1 c.if-has_clash.false
    (λ rival. both_ways c.has_rival.result c.if-has_rival.false (c.has_rival.ensures.1 rival))
