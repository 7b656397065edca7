use Rattle.std.proofs.Common.{◌≡◌, List, subst, sym}
use Rattle.std.specs.Prelude.{None}
use Rattle.thes_base.specs.declared.data.Link.{Link}
use Rattle.thes_base.specs.declared.request.Command.TheVariants as request
use Rattle.thes_graph.specs.MergeAdditions.{AreNew, with_all}
use Rattle.thes_vocab.specs.Vocabulary.{vocabulary_of}
use Rattle.thes_core.specs.Losses.{IsLostFromParts}
use Rattle.thes_core.specs.declared.losses.Lost.{Lost}
use Rattle.thes_core.proofs.DeathUndoLemmas.{before_deprecation, links_may_return, parts_before_deprecation}
use Rattle.thes_core.proofs.thesaurus.Thesaurus.take_back_deprecate.Goals as goal

pub take_back_death-requires : goal.take_back_death-requires
take_back_death-requires c = (
  vocabulary_of c.args.self.now.vocab.base c.requires.0,
  None,
  before_deprecation c.args.self.now c.args.concept c.requires.0 c.requires.1,
)

pub add_all-requires : goal.add_all-requires
add_all-requires c =
    let had = subst (λ (x : Lost). IsLostFromParts (request.Deprecate c.args.concept) c.requires.0 x) c.in-Links.is
    c.requires.2 in
    subst (AreNew c.args.self.now.graph) (sym c.as_slice.ensures.value)
    (links_may_return c.args.self.now c.args.concept c.requires.0 c.requires.1 c.in-Links.links.items had)

pub returns-clause-parts : goal.returns-clause-parts
returns-clause-parts c = λ s after lost.
    let t = c.args.self.now in
    let had = subst (λ (x : Lost). IsLostFromParts (request.Deprecate c.args.concept) s x) c.in-Links.is lost in
    parts_before_deprecation t c.args.concept s after c.in-Links.links.items had c.take_back_death.new.self
    c.add_all.new.self
    (c.in_ok-take_back_death.ensures.ok (vocabulary_of t.vocab.base s) None
    (before_deprecation t c.args.concept s after))
    (subst (λ (ls : List Link). c.add_all.new.self ≡ record t.graph { links = with_all t.graph.links ls })
    c.as_slice.ensures.value c.in_ok-add_all.ensures.ok)
