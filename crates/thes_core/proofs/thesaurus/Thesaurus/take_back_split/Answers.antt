use Rattle.std.proofs.Common.{◌∙◌, subst, sym}
use Rattle.thes_core.specs.PartsView.{setting_of}
use Rattle.thes_core.proofs.TakingBackLemmas.{number_of_created, split_created, split_source_apart}
use Rattle.thes_core.proofs.UndoLogLemmas.{counts_unsplit}
use Rattle.thes_post.specs.PostingCounts.{PostingCounts, CountsAfterMoves, HasMovesToTakeBack}
use Rattle.thes_core.proofs.thesaurus.Thesaurus.take_back_split.Goals as goal

pub take_back_named-requires : goal.take_back_named-requires
take_back_named-requires c = (
  c.requires.0,
  split_created c.args.self.now c.args.tag.now c.args.text.now c.requires.0 c.args.source c.args.postings.now
      c.requires.1,
)

pub take_back_moves-requires : goal.take_back_moves-requires
take_back_moves-requires c = record {
  apart = split_source_apart c.args.self.now c.args.source c.args.tag.now c.args.text.now c.args.postings.now
      c.requires.0 c.requires.1 c.new-concept.result (c.new-concept.ensures ∙ c.resource_count.ensures.count);
}

pub returns-clause-parts : goal.returns-clause-parts
returns-clause-parts c = λ s is.
    let made = c.take_back_named.ensures.parts s
    (split_created c.args.self.now c.args.tag.now c.args.text.now s c.args.source c.args.postings.now is) in
    record { state = made.state; setting = made.setting; outside = made.outside }

pub returns-clause-counts : goal.returns-clause-counts
returns-clause-counts c = λ s lost is accepts lost_is counts.
    let t = c.args.self.now in
    let source = c.args.source in
    let n = c.new-concept.result in
    let k = c.count_postings.result in
    let book = c.take_back_named.ensures.book in
    let number = c.new-concept.ensures ∙ c.resource_count.ensures.count
    ∙ number_of_created t c.args.tag.now c.args.text.now s
    (split_created t c.args.tag.now c.args.text.now s source c.args.postings.now is) in
    counts_unsplit (setting_of t) s source c.args.tag.now c.args.text.now c.args.postings.now n k t.book
    c.take_back_moves.new.self is.legal accepts number c.count_postings.ensures counts
    (λ has. subst (λ (b : PostingCounts). CountsAfterMoves source n k c.take_back_moves.new.self b) book
    (c.in_ok-take_back_moves.ensures.ok
    (subst (λ (b : PostingCounts). HasMovesToTakeBack source n k b) (sym book) has)))
