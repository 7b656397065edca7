use Rattle.std.proofs.lemmas.Result.{on_ok_weaker}
use Rattle.thes_core.specs.Requests.{IsChangedBy}
use Rattle.thes_core.proofs.ApplyLemmas.{remade_post}
use Rattle.thes_core.proofs.thesaurus.Thesaurus.change.Goals as goal

pub returns-in-Post-clause-becomes : goal.returns-in-Post-clause-becomes
returns-in-Post-clause-becomes c =
    on_ok_weaker {P = IsChangedBy c.args.command.now c.args.self.now c.post.new.self} c.post.result (λ is. is.becomes)
    (remade_post c.post.result (λ k. IsChangedBy k c.args.self.now c.post.new.self) c.args.command.now
    c.in-Post.field-0 c.in-Post.field-1 c.in-Post.concept c.in-Post.is c.post.ensures)

pub returns-in-Post-clause-counts : goal.returns-in-Post-clause-counts
returns-in-Post-clause-counts c =
    on_ok_weaker {P = IsChangedBy c.args.command.now c.args.self.now c.post.new.self} c.post.result
    (λ is hs meant. is.counts hs meant.allows meant.posting_counts)
    (remade_post c.post.result (λ k. IsChangedBy k c.args.self.now c.post.new.self) c.args.command.now
    c.in-Post.field-0 c.in-Post.field-1 c.in-Post.concept c.in-Post.is c.post.ensures)
