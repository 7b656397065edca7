use Rattle.std.proofs.Common.{◌∙◌, rules}
use Rattle.std.proofs.lemmas.List.Sorted.{answers_always}
use Rattle.thes_graph.specs.Mappings.{kind_name_rank}
use Rattle.thes_graph.proofs.MappingLemmas.{listed_there, listed_new}
use Rattle.thes_graph.proofs.mappings.list_mapping.Goals as goal

pub returns-in-Ok : goal.returns-in-Ok
returns-in-Ok c =
    let found = c.in-Ok.ensures.position (λ m. (kind_name_rank m.0, m.1))
    (answers_always _ _ _ (λ f a r g called. search rules)) in
    listed_there c.args.list.now.items c.in-Ok.field-0 c.args.mapping c.requires
    (rw c.deref.ensures.value at c.in-Ok.ensures.bound) (rw (c.deref.ensures.value, c.key_of.ensures) at found)

pub returns-in_ok-insert-in-Err : goal.returns-in_ok-insert-in-Err
returns-in_ok-insert-in-Err c =
    let missed = c.in-Err.ensures.position (λ m. (kind_name_rank m.0, m.1))
    (answers_always _ _ _ (λ f a r g called. search rules)) in
    c.in_ok-insert-in-Err.ensures.items
    ∙ listed_new c.args.list.now.items c.in-Err.i c.args.mapping c.requires
    (rw c.deref.ensures.value at c.in-Err.ensures.bound) (rw (c.deref.ensures.value, c.key_of.ensures) at missed)
