use Rattle.std.proofs.Common.{◌∷◌, [], ap, ◌∙◌, arith}
use Rattle.std.proofs.lemmas.Result.{IfOk-weaker}
use Rattle.thes_base.specs.declared.data.Resource.{Resource}
use Rattle.thes_base.specs.Data.{LabelData}
use Rattle.thes_base.specs.Machine.{owned_label}
use Rattle.thes_tables.specs.declared.change.Change.TheVariants as change
use Rattle.thes_tables.specs.Changes.{add_link, drop_link, changes_of_new_resource}
use Rattle.thes_core.specs.PartsView.{parts_state}
use Rattle.thes_core.proofs.DeltaLemmas.{by_law_at, leads_at}
use Rattle.thes_core.proofs.thesaurus.Thesaurus.changes.Goals as goal

pub returns-in-Scheme : goal.returns-in-Scheme
returns-in-Scheme c = by_law_at c.args.self.now c.args.facts.now c.in-Scheme.is c.changes_of_new_resource.result
    (IfOk-weaker c.changes_of_new_resource.result _ _ (λ delta e hs ok are. e hs ∙ ap (λ
    (r : Resource). changes_of_new_resource r c.in-Scheme.tag c.in-Scheme.text
    (parts_state c.args.self.now hs)) c.new.ensures) c.changes_of_new_resource.ensures)

pub returns-in-Concept : goal.returns-in-Concept
returns-in-Concept c = by_law_at c.args.self.now c.args.facts.now c.in-Concept.is
    c.changes_of_new_resource-in-Concept.result (IfOk-weaker c.changes_of_new_resource-in-Concept.result _ _
    (λ delta e hs ok are. e hs ∙ ap (λ (r : Resource). changes_of_new_resource r c.in-Concept.tag c.in-Concept.text
    (parts_state c.args.self.now hs)) c.new-in-Concept.ensures) c.changes_of_new_resource-in-Concept.ensures)

pub returns-in-Collection : goal.returns-in-Collection
returns-in-Collection c = by_law_at c.args.self.now c.args.facts.now c.in-Collection.is
    c.changes_of_new_resource-in-Collection.result (IfOk-weaker c.changes_of_new_resource-in-Collection.result _ _
    (λ delta e hs ok are. e hs ∙ ap (λ (r : Resource). changes_of_new_resource r c.in-Collection.tag
    c.in-Collection.text (parts_state c.args.self.now hs)) c.new-in-Collection.ensures)
    c.changes_of_new_resource-in-Collection.ensures)

pub returns-in-Outside : goal.returns-in-Outside
returns-in-Outside c = by_law_at c.args.self.now c.args.facts.now c.in-Outside.is c.changes_of_outside.result
    (IfOk-weaker c.changes_of_outside.result _ _ (λ delta e hs ok are. e hs) c.changes_of_outside.ensures)

pub returns-in_ok-try_clone-in-AddLabel : goal.returns-in_ok-try_clone-in-AddLabel
returns-in_ok-try_clone-in-AddLabel c = by_law_at c.args.self.now c.args.facts.now c.in-AddLabel.is c.one.result
    (IfOk-weaker c.one.result _ _ (λ delta e hs ok are. e ∙ ap (λ (l : LabelData). change.AddLabel
    (owned_label c.in-AddLabel.owner l) ∷ []) c.in_ok-try_clone-in-AddLabel.ensures) c.one.ensures)

pub returns-in_ok-try_clone-in-DropLabel : goal.returns-in_ok-try_clone-in-DropLabel
returns-in_ok-try_clone-in-DropLabel c = by_law_at c.args.self.now c.args.facts.now c.in-DropLabel.is
    c.one-in-DropLabel.result (IfOk-weaker c.one-in-DropLabel.result _ _ (λ delta e hs ok are. e ∙ ap (λ
    (l : LabelData). change.DropLabel (owned_label c.in-DropLabel.owner l) ∷ []) c.in_ok-try_clone-in-DropLabel.ensures)
    c.one-in-DropLabel.ensures)

pub returns-in-Deprecate : goal.returns-in-Deprecate
returns-in-Deprecate c = grind (arith, IfOk-weaker, leads_at)

pub returns-in-Merge : goal.returns-in-Merge
returns-in-Merge c = grind (arith, leads_at)

pub returns-in-Relabel : goal.returns-in-Relabel
returns-in-Relabel c = by_law_at c.args.self.now c.args.facts.now c.in-Relabel.is c.changes_of_relabel.result
    (IfOk-weaker c.changes_of_relabel.result _ _ (λ delta e hs ok are. e) c.changes_of_relabel.ensures)

pub returns-in-Link : goal.returns-in-Link
returns-in-Link c = by_law_at c.args.self.now c.args.facts.now c.in-Link.is c.one-in-Link.result
    (IfOk-weaker c.one-in-Link.result _ _ (λ delta e hs ok are. e ∙ (λ i.
    (c.link_insertion.ensures ∙ ap add_link c.normal.ensures) i ∷ [])) c.one-in-Link.ensures)

pub returns-in-Unlink : goal.returns-in-Unlink
returns-in-Unlink c = by_law_at c.args.self.now c.args.facts.now c.in-Unlink.is c.one-in-Unlink.result
    (IfOk-weaker c.one-in-Unlink.result _ _ (λ delta e hs ok are. e ∙ (λ i.
    (c.link_removal.ensures ∙ ap drop_link c.normal-in-Unlink.ensures) i ∷ [])) c.one-in-Unlink.ensures)

pub returns-in-Split : goal.returns-in-Split
returns-in-Split c = grind (arith, by_law_at)

pub returns-in-Post : goal.returns-in-Post
returns-in-Post c = by_law_at c.args.self.now c.args.facts.now c.in-Post.is c.changes_of_post.result
    c.changes_of_post.ensures

pub returns-in-Withdraw : goal.returns-in-Withdraw
returns-in-Withdraw c = by_law_at c.args.self.now c.args.facts.now c.in-Withdraw.is c.one-in-Withdraw.result
    (IfOk-weaker c.one-in-Withdraw.result _ _ (λ delta e hs ok are. e) c.one-in-Withdraw.ensures)
