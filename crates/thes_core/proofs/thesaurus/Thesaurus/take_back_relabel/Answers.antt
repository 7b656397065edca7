use Rattle.std.proofs.Common.{◌∙◌, ap, subst, sym}
use Rattle.thes_base.specs.declared.request.Command.TheVariants as request
use Rattle.thes_vocab.specs.Vocabulary.{Vocabulary}
use Rattle.thes_core.specs.Losses.{IsLostFromParts}
use Rattle.thes_core.specs.declared.losses.Lost.{Lost}
use Rattle.thes_core.specs.declared.thesaurus.Thesaurus.{Thesaurus}
use Rattle.thes_core.proofs.RelabelUndoLemmas.{kept_there, parts_before_relabel, relabel_allowed, relabel_owner}
use Rattle.thes_core.proofs.RelabelUndoLemmas.{relabelled_owner}
use Rattle.thes_core.proofs.thesaurus.Thesaurus.take_back_relabel.Goals as goal

pub drop_kept-requires-clause-owner : goal.drop_kept-requires-clause-owner
drop_kept-requires-clause-owner c =
    relabelled_owner c.args.self.now c.args.owner c.args.tag.now c.requires.1 c.in-Preferred.old c.args.keep
    c.requires.0 c.requires.2 (subst (λ (x : Lost). IsLostFromParts (request.Relabel c.args.owner c.args.tag.now
    c.requires.1 c.args.keep) c.requires.0 x) c.in-Preferred.is c.requires.3)

pub drop_kept-requires-clause-kept : goal.drop_kept-requires-clause-kept
drop_kept-requires-clause-kept c =
    kept_there c.args.self.now c.args.owner c.args.tag.now c.requires.1 c.in-Preferred.old c.args.keep
    c.requires.0 c.requires.2 (subst (λ (x : Lost). IsLostFromParts (request.Relabel c.args.owner c.args.tag.now
    c.requires.1 c.args.keep) c.requires.0 x) c.in-Preferred.is c.requires.3)

pub relabel-requires-clause-owner : goal.relabel-requires-clause-owner
relabel-requires-clause-owner c =
    relabel_owner c.args.self.now c.args.owner c.args.tag.now c.requires.1 c.in-Preferred.old c.args.keep
    c.requires.0 c.requires.2 (subst (λ (x : Lost). IsLostFromParts (request.Relabel c.args.owner c.args.tag.now
    c.requires.1 c.args.keep) c.requires.0 x) c.in-Preferred.is c.requires.3) c.drop_kept.new.self.vocab
    (ap (λ (x : Thesaurus). x.vocab) c.in_ok-drop_kept.ensures)

pub relabel-requires-clause-allowed : goal.relabel-requires-clause-allowed
relabel-requires-clause-allowed c =
    relabel_allowed c.args.self.now c.args.owner c.args.tag.now c.requires.1 c.in-Preferred.old c.args.keep
    c.requires.0 c.requires.2 (subst (λ (x : Lost). IsLostFromParts (request.Relabel c.args.owner c.args.tag.now
    c.requires.1 c.args.keep) c.requires.0 x) c.in-Preferred.is c.requires.3) c.drop_kept.new.self.vocab
    (ap (λ (x : Thesaurus). x.vocab) c.in_ok-drop_kept.ensures)

pub returns-clause-parts : goal.returns-clause-parts
returns-clause-parts c = λ s text after lost.
    parts_before_relabel c.args.self.now c.args.owner c.args.tag.now text c.in-Preferred.old c.args.keep s after
    (subst (λ (x : Lost). IsLostFromParts (request.Relabel c.args.owner c.args.tag.now text c.args.keep) s x)
    c.in-Preferred.is lost) c.drop_kept.new.self.vocab (ap (λ (x : Thesaurus). x.vocab) c.in_ok-drop_kept.ensures)
    c.drop_kept.new.self c.relabel.new.self
    (c.in_ok-drop_kept.ensures ∙ ap (λ (v : Vocabulary). record c.args.self.now { vocab = v })
    (sym (ap (λ (x : Thesaurus). x.vocab) c.in_ok-drop_kept.ensures))) c.in_ok-relabel.ensures.ok
