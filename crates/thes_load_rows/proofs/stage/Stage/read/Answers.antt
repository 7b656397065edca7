use Rattle.std.proofs.Common.{◌≡◌, sym, subst, true, false}
use Rattle.std.specs.Prelude.{Option, None, Some}
use Rattle.std.proofs.lemmas.Result.{IfOk-weaker}
use Rattle.thes_load_rows.specs.declared.meta.MetaRow.{MetaRow}
use Rattle.thes_load_rows.specs.declared.stage.Stage.{Stage}
use Rattle.thes_load_rows.specs.declared.stage.Stage.TheVariants as stage
use Rattle.thes_load_rows.specs.Version.{SpellsMeta}
use Rattle.thes_load_rows.specs.Progress.{ReadsRow}
use Rattle.thes_load_rows.proofs.StageRowLemmas.{meta_row, meta_unread, resource_row, outside_row, label_row}
use Rattle.thes_load_rows.proofs.StageRowLemmas.{link_row, hier_row, posting_row, move_row, stopped_row}
use Rattle.thes_load_rows.proofs.stage.Stage.read.Goals as goal

pub returns-in-Some-2 : goal.returns-in-Some-2
returns-in-Some-2 c =
    let spells = subst (SpellsMeta c.args.cells.now) c.in-Some-2.is c.in_ok-new-in-None.ensures in
    let current_table : c.args.self.now ≡ stage.Meta None =
    subst (λ (row : Option MetaRow). c.args.self.now ≡ stage.Meta row) c.in-None.is c.in-Meta.is in
    subst (λ (old : Stage). ReadsRow old (stage.Meta (Some c.in-Some-2.new)) c.args.cells.now true)
    (sym current_table) (meta_row c.in-Some-2.new c.args.cells.now spells)

pub returns-in-None-2 : goal.returns-in-None-2
returns-in-None-2 c =
    let spells = subst (SpellsMeta c.args.cells.now) c.in-None-2.is c.in_ok-new-in-None.ensures in
    let current_table : c.args.self.now ≡ stage.Meta None =
    subst (λ (row : Option MetaRow). c.args.self.now ≡ stage.Meta row) c.in-None.is c.in-Meta.is in
    subst (λ (old : Stage). ReadsRow old old c.args.cells.now false) (sym current_table)
    (meta_unread c.args.cells.now spells)

pub returns-in-Resource : goal.returns-in-Resource
returns-in-Resource c = IfOk-weaker c.read.result _ _ (λ good reads.
    subst (λ (old : Stage). ReadsRow old (stage.Resource c.in-Resource.field-0 c.read.new.self) c.args.cells.now good)
    (sym c.in-Resource.is)
    (resource_row c.in-Resource.field-0 c.in-Resource.load c.read.new.self c.args.cells.now good reads)) c.read.ensures

pub returns-in-Outside : goal.returns-in-Outside
returns-in-Outside c = IfOk-weaker c.read-in-Outside.result _ _ (λ good reads.
    subst (λ (old : Stage). ReadsRow old (stage.Outside c.read-in-Outside.new.self) c.args.cells.now good)
    (sym c.in-Outside.is)
    (outside_row c.in-Outside.load c.read-in-Outside.new.self c.args.cells.now good reads)) c.read-in-Outside.ensures

pub returns-in-Label : goal.returns-in-Label
returns-in-Label c = IfOk-weaker c.read_label.result _ _ (λ good reads.
    subst (λ (old : Stage). ReadsRow old (stage.Label c.read_label.new.vocab) c.args.cells.now good) (sym c.in-Label.is)
    (label_row c.in-Label.vocab c.read_label.new.vocab c.args.cells.now good reads)) c.read_label.ensures

pub returns-in-Link : goal.returns-in-Link
returns-in-Link c = IfOk-weaker c.read_link.result _ _ (λ good reads.
    subst (λ (old : Stage). ReadsRow old (stage.Link c.read_link.new.self) c.args.cells.now good) (sym c.in-Link.is)
    (link_row c.in-Link.linked_vocab c.read_link.new.self c.args.cells.now c.read_link.ensures.same good reads))
    c.read_link.ensures.reads

pub returns-in-Hier : goal.returns-in-Hier
returns-in-Hier c = IfOk-weaker c.read_hier.result _ _ (λ good reads.
    subst (λ (old : Stage). ReadsRow old (stage.Hier c.read_hier.new.self) c.args.cells.now good) (sym c.in-Hier.is)
    (hier_row c.in-Hier.linked_vocab c.read_hier.new.self c.args.cells.now c.read_hier.ensures.same good reads))
    c.read_hier.ensures.reads

pub returns-in-Posting : goal.returns-in-Posting
returns-in-Posting c = IfOk-weaker c.read-in-Posting.result _ _ (λ good reads.
    subst (λ (old : Stage). ReadsRow old (stage.Posting c.in-Posting.linked_vocab c.read-in-Posting.new.self)
    c.args.cells.now good) (sym c.in-Posting.is)
    (posting_row c.in-Posting.linked_vocab c.resources.result.now c.resources.ensures.value c.args.cells.now
    c.in-Posting.load c.read-in-Posting.new.self good reads)) c.read-in-Posting.ensures

pub returns-in-Move : goal.returns-in-Move
returns-in-Move c =
    subst (λ (old : Stage). ReadsRow old (stage.Move c.in-Move.linked_vocab c.in-Move.field-1 c.read-in-Move.new.self)
    c.args.cells.now c.read-in-Move.result) (sym c.in-Move.is)
    (move_row c.in-Move.linked_vocab c.resources-in-Move.result.now c.resources-in-Move.ensures.value c.args.cells.now
    c.in-Move.field-1 c.in-Move.load c.read-in-Move.new.self c.read-in-Move.result c.read-in-Move.ensures)

pub returns-in-Stopped : goal.returns-in-Stopped
returns-in-Stopped c =
    subst (λ (old : Stage). ReadsRow old old c.args.cells.now true) (sym c.in-Stopped.is)
    (stopped_row c.in-Stopped.field-0 c.in-Stopped.field-1 c.args.cells.now)
