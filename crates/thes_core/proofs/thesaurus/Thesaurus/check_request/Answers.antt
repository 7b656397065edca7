use Rattle.std.proofs.Common.{[], ap, sym, ◌∙◌, arith}
use Rattle.std.proofs.lemmas.Result.{IfOk-weaker}
use Rattle.thes_base.specs.declared.request.Command.TheVariants as request
use Rattle.thes_core.proofs.RequestCheckLemmas.{judged_by, may_by, accepts_of_row, if_kept, may_always}
use Rattle.thes_core.proofs.thesaurus.Thesaurus.check_request.Goals as goal

pub returns-in-Scheme-clause-row : goal.returns-in-Scheme-clause-row
returns-in-Scheme-clause-row c = grind (arith, judged_by)

pub returns-in-Scheme-clause-may : goal.returns-in-Scheme-clause-may
returns-in-Scheme-clause-may c = may_by c.args.self.now c.in-Scheme.is _ (accepts_of_row c.args.self.now _ _ tt
    (c.check_scheme.ensures [] c.requires c.in-Scheme.field-0 c.in-Scheme.field-1))

pub returns-in-Concept-clause-row : goal.returns-in-Concept-clause-row
returns-in-Concept-clause-row c = judged_by c.in-Concept.is _ (λ hs kept are told. c.check_concept.ensures hs kept)

pub returns-in-Concept-clause-may : goal.returns-in-Concept-clause-may
returns-in-Concept-clause-may c = may_by c.args.self.now c.in-Concept.is _ (accepts_of_row c.args.self.now _ _ tt
    (c.check_concept.ensures [] c.requires))

pub returns-in-Collection-clause-row : goal.returns-in-Collection-clause-row
returns-in-Collection-clause-row c = judged_by c.in-Collection.is _ (λ hs kept are told. c.check_collection.ensures hs
    kept c.in-Collection.field-1 c.in-Collection.field-2)

pub returns-in-Collection-clause-may : goal.returns-in-Collection-clause-may
returns-in-Collection-clause-may c = may_by c.args.self.now c.in-Collection.is _ (accepts_of_row c.args.self.now _ _ tt
    (c.check_collection.ensures [] c.requires c.in-Collection.field-1 c.in-Collection.field-2))

pub returns-in-Outside-clause-row : goal.returns-in-Outside-clause-row
returns-in-Outside-clause-row c = judged_by c.in-Outside.is _ (λ hs kept are told. c.check_outside.ensures hs kept)

pub returns-in-Outside-clause-may : goal.returns-in-Outside-clause-may
returns-in-Outside-clause-may c = grind (arith, accepts_of_row, may_by)

pub returns-in-AddLabel-clause-row : goal.returns-in-AddLabel-clause-row
returns-in-AddLabel-clause-row c = judged_by c.in-AddLabel.is _ (λ hs kept are told. c.check_add_label.ensures hs kept)

pub returns-in-AddLabel-clause-may : goal.returns-in-AddLabel-clause-may
returns-in-AddLabel-clause-may c = may_by c.args.self.now c.in-AddLabel.is _ (accepts_of_row c.args.self.now _ _ tt
    (c.check_add_label.ensures [] c.requires))

pub returns-in-DropLabel-clause-row : goal.returns-in-DropLabel-clause-row
returns-in-DropLabel-clause-row c = judged_by c.in-DropLabel.is _ (λ hs kept are told. c.check_drop_label.ensures hs
    kept)

pub returns-in-DropLabel-clause-may : goal.returns-in-DropLabel-clause-may
returns-in-DropLabel-clause-may c = may_by c.args.self.now c.in-DropLabel.is _ (accepts_of_row c.args.self.now _ _ tt
    (c.check_drop_label.ensures [] c.requires))

pub returns-in-Relabel-clause-row : goal.returns-in-Relabel-clause-row
returns-in-Relabel-clause-row c = judged_by c.in-Relabel.is _ (λ hs kept are told. c.check_relabel.ensures hs kept)

pub returns-in-Relabel-clause-may : goal.returns-in-Relabel-clause-may
returns-in-Relabel-clause-may c = may_by c.args.self.now c.in-Relabel.is _ (accepts_of_row c.args.self.now _ _ tt
    (c.check_relabel.ensures [] c.requires))

pub returns-in-Unlink-clause-row : goal.returns-in-Unlink-clause-row
returns-in-Unlink-clause-row c = judged_by c.in-Unlink.is _ (λ hs kept are told. c.check_unlink.ensures hs kept)

pub returns-in-Unlink-clause-may : goal.returns-in-Unlink-clause-may
returns-in-Unlink-clause-may c = grind (arith, accepts_of_row, may_by)

pub returns-in-Link-clause-row : goal.returns-in-Link-clause-row
returns-in-Link-clause-row c = IfOk-weaker c.check_link.result _ _ (λ r says. judged_by c.in-Link.is r
    (λ hs kept are told. says hs kept)) c.check_link.ensures

pub returns-in-Link-clause-may : goal.returns-in-Link-clause-may
returns-in-Link-clause-may c = grind (arith, IfOk-weaker, accepts_of_row, may_by)

pub returns-in-Deprecate-clause-row : goal.returns-in-Deprecate-clause-row
returns-in-Deprecate-clause-row c = grind (arith, judged_by)

pub returns-in-Deprecate-clause-may : goal.returns-in-Deprecate-clause-may
returns-in-Deprecate-clause-may c = grind (arith, if_kept, may_by)

pub returns-in-Merge-clause-row : goal.returns-in-Merge-clause-row
returns-in-Merge-clause-row c = IfOk-weaker c.check_merge.result _ _ (λ r says. judged_by c.in-Merge.is r
    (λ hs kept are told. says hs kept are)) c.check_merge.ensures.row

pub returns-in-Merge-clause-may : goal.returns-in-Merge-clause-may
returns-in-Merge-clause-may c = grind (arith, IfOk-weaker, may_by)

pub returns-in-Split-clause-row : goal.returns-in-Split-clause-row
returns-in-Split-clause-row c =
    let is = c.in-Split.is ∙ ap (request.Split c.in-Split.source c.in-Split.tag c.in-Split.text)
    (sym c.as_slice.ensures) in
    IfOk-weaker c.check_split.result _ _ (λ r says. judged_by is
    r (λ hs kept are told. says hs kept are told.named_postings)) c.check_split.ensures.row

pub returns-in-Split-clause-may : goal.returns-in-Split-clause-may
returns-in-Split-clause-may c = grind (arith, IfOk-weaker, may_by)

pub returns-in-Post-clause-row : goal.returns-in-Post-clause-row
returns-in-Post-clause-row c = judged_by c.in-Post.is _ (λ hs kept are told. c.check_post.ensures hs kept are
    c.in-Post.field-0 c.in-Post.field-1)

pub returns-in-Post-clause-may : goal.returns-in-Post-clause-may
returns-in-Post-clause-may c = may_by c.args.self.now c.in-Post.is _ (may_always _)

pub returns-in-Withdraw-clause-row : goal.returns-in-Withdraw-clause-row
returns-in-Withdraw-clause-row c = grind (arith, judged_by)

pub returns-in-Withdraw-clause-may : goal.returns-in-Withdraw-clause-may
returns-in-Withdraw-clause-may c = may_by c.args.self.now c.in-Withdraw.is _ (may_always _)
