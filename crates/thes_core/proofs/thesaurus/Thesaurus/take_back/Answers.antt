use Rattle.std.proofs.Common.{◌∙◌, ℕ, List, ap, subst, sym}
use Rattle.thes_base.specs.declared.request.Command.{Command}
use Rattle.thes_base.specs.declared.request.Command.TheVariants as request
use Rattle.thes_core.specs.Losses.{IsLostFromParts}
use Rattle.thes_core.specs.UndoLogs.{ArePartsAfter, AreCountsTakenBack}
use Rattle.thes_core.proofs.TakingBackLemmas.{collection_created, concept_created, scheme_created}
use Rattle.thes_core.proofs.UndoLogLemmas.{follows_if_ok}
use Rattle.thes_core.proofs.thesaurus.Thesaurus.take_back.Goals as goal

pub take_back_named-requires : goal.take_back_named-requires
take_back_named-requires c = (
  c.requires.0,
  scheme_created c.args.self.now c.in-Scheme.tag c.in-Scheme.text c.requires.0
      (subst (λ (x : Command). ArePartsAfter x c.requires.0 c.args.self.now) c.in-Scheme.is c.requires.1),
)

pub take_back_named-requires-in-Concept : goal.take_back_named-requires-in-Concept
take_back_named-requires-in-Concept c = (
  c.requires.0,
  concept_created c.args.self.now c.in-Concept.tag c.in-Concept.text c.requires.0 c.in-Concept.field-0
      (subst (λ (x : Command). ArePartsAfter x c.requires.0 c.args.self.now) c.in-Concept.is c.requires.1),
)

pub take_back_named-requires-in-Collection : goal.take_back_named-requires-in-Collection
take_back_named-requires-in-Collection c = (
  c.requires.0,
  collection_created c.args.self.now c.in-Collection.tag c.in-Collection.text c.requires.0 c.in-Collection.field-0
      (subst (λ (x : Command). ArePartsAfter x c.requires.0 c.args.self.now) c.in-Collection.is c.requires.1),
)

pub take_back_outside-requires : goal.take_back_outside-requires
take_back_outside-requires c =
    (c.requires.0, subst (λ (x : Command). ArePartsAfter x c.requires.0 c.args.self.now) c.in-Outside.is c.requires.1)

pub take_back_added-requires : goal.take_back_added-requires
take_back_added-requires c =
    (c.requires.0, subst (λ (x : Command). ArePartsAfter x c.requires.0 c.args.self.now) c.in-AddLabel.is c.requires.1)

pub take_back_dropped-requires : goal.take_back_dropped-requires
take_back_dropped-requires c =
    (c.requires.0, subst (λ (x : Command). ArePartsAfter x c.requires.0 c.args.self.now) c.in-DropLabel.is c.requires.1)

pub take_back_link-requires : goal.take_back_link-requires
take_back_link-requires c =
    (c.requires.0, subst (λ (x : Command). ArePartsAfter x c.requires.0 c.args.self.now) c.in-Link.is c.requires.1)

pub take_back_unlink-requires : goal.take_back_unlink-requires
take_back_unlink-requires c =
    (c.requires.0, subst (λ (x : Command). ArePartsAfter x c.requires.0 c.args.self.now) c.in-Unlink.is c.requires.1)

pub take_back_relabel-requires : goal.take_back_relabel-requires
take_back_relabel-requires c = (
  c.requires.0,
  c.in-Relabel.field-2,
  subst (λ (x : Command). ArePartsAfter x c.requires.0 c.args.self.now) c.in-Relabel.is c.requires.1,
  subst (λ (x : Command). IsLostFromParts x c.requires.0 c.args.lost.now) c.in-Relabel.is c.requires.2,
)

pub take_back_deprecate-requires : goal.take_back_deprecate-requires
take_back_deprecate-requires c = (
  c.requires.0,
  subst (λ (x : Command). ArePartsAfter x c.requires.0 c.args.self.now) c.in-Deprecate.is c.requires.1,
  subst (λ (x : Command). IsLostFromParts x c.requires.0 c.args.lost.now) c.in-Deprecate.is c.requires.2,
)

pub take_back_merge-requires : goal.take_back_merge-requires
take_back_merge-requires c = (
  c.requires.0,
  subst (λ (x : Command). ArePartsAfter x c.requires.0 c.args.self.now) c.in-Merge.is c.requires.1,
  subst (λ (x : Command). IsLostFromParts x c.requires.0 c.args.lost.now) c.in-Merge.is c.requires.2,
)

pub take_back_split-requires : goal.take_back_split-requires
take_back_split-requires c =
    let is = c.in-Split.is ∙ ap (λ (ps : List ℕ). request.Split c.in-Split.source c.in-Split.tag c.in-Split.text ps)
    (sym c.as_slice.ensures) in
    (c.requires.0, subst (λ (x : Command). ArePartsAfter x c.requires.0 c.args.self.now) is c.requires.1)

pub returns-in-Split-clause-counts : goal.returns-in-Split-clause-counts
returns-in-Split-clause-counts c =
    let is = c.in-Split.is ∙ ap (λ (ps : List ℕ). request.Split c.in-Split.source c.in-Split.tag c.in-Split.text ps)
    (sym c.as_slice.ensures) in
    follows_if_ok c.take_back_split.result _ _ (λ back s after.
    subst (λ (x : Command). AreCountsTakenBack x s c.args.lost.now c.args.self.now c.take_back_split.new.self) (sym is)
    (back s c.args.lost.now (subst (λ (x : Command). ArePartsAfter x s c.args.self.now) is after)))
    c.take_back_split.ensures.counts

pub returns-in-Merge-clause-counts : goal.returns-in-Merge-clause-counts
returns-in-Merge-clause-counts c =
    follows_if_ok c.take_back_merge.result _ _ (λ back s after.
    subst (λ (x : Command). AreCountsTakenBack x s c.args.lost.now c.args.self.now c.take_back_merge.new.self)
    (sym c.in-Merge.is) (back s (subst (λ (x : Command). ArePartsAfter x s c.args.self.now) c.in-Merge.is after)))
    c.take_back_merge.ensures.counts

pub returns-in-Scheme-clause-parts : goal.returns-in-Scheme-clause-parts
returns-in-Scheme-clause-parts c = λ s after lost. c.take_back_named.ensures.parts s
    (scheme_created c.args.self.now c.in-Scheme.tag c.in-Scheme.text s
    (subst (λ (x : Command). ArePartsAfter x s c.args.self.now) c.in-Scheme.is after))

pub returns-in-Concept-clause-parts : goal.returns-in-Concept-clause-parts
returns-in-Concept-clause-parts c = λ s after lost. c.take_back_named-in-Concept.ensures.parts s
    (concept_created c.args.self.now c.in-Concept.tag c.in-Concept.text s c.in-Concept.field-0
    (subst (λ (x : Command). ArePartsAfter x s c.args.self.now) c.in-Concept.is after))

pub returns-in-Collection-clause-parts : goal.returns-in-Collection-clause-parts
returns-in-Collection-clause-parts c = λ s after lost. c.take_back_named-in-Collection.ensures.parts s
    (collection_created c.args.self.now c.in-Collection.tag c.in-Collection.text s c.in-Collection.field-0
    (subst (λ (x : Command). ArePartsAfter x s c.args.self.now) c.in-Collection.is after))
