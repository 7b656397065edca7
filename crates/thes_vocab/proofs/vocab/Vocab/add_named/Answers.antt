use Rattle.std.proofs.Common.{rules, ◌≡◌, ◌+◌, ◌++◌, ◌∷◌, [], length, sym, subst, List, ℕ, arith}
use Rattle.std.specs.Prelude.{Option}
use Rattle.thes_base.specs.declared.data.Resource.{Resource}
use Rattle.thes_base.specs.Labels.{Labels}
use Rattle.thes_vocab.specs.ConceptLists.{ConceptListsAfterInsert}
use Rattle.thes_vocab.specs.Consistency.{IsConsistentVocabulary}
use Rattle.thes_vocab.proofs.ConsistencyLemmas.{seen_new_noted, seen_new}
use Rattle.thes_vocab.proofs.vocab.Vocab.add_named.Goals as goal

pub invariant_of-self-in_err-insert : goal.invariant_of-self-in_err-insert
invariant_of-self-in_err-insert c = grind (arith, seen_new_noted)

pub invariant_of-self-2 : goal.invariant_of-self-2
invariant_of-self-2 c =
    let inside = c.self.inside in
    let next : c.new-n.result ≡ length inside.resources.items + 1 = search rules in
    let added = subst (λ (o : Option ℕ). ConceptListsAfterInsert c.make_room.new.concepts c.insert-2.new.concepts o
    c.new-n.result) (sym c.scheme_if_concept-scheme.ensures.value) c.insert-2.ensures in
    let kept = seen_new inside.base inside.resources.items inside.iris inside.labels inside.names c.put.new.self
    inside.concepts c.self.invariant _ c.self.view_is c.put.ensures.keeps
    c.args.resource c.args.tag c.args.text _ next c.make_room.new.concepts c.make_room.ensures.same
    c.requires.named c.requires.free c.scheme_if_concept-scheme.result c.scheme_if_concept-scheme.ensures.scheme
    c.in_ok-put.ensures.ok c.requires.room c.insert-2.new.concepts added in
    let items : c.push.new.self.items ≡ inside.resources.items ++ c.args.resource ∷ [] = search rules in
    subst (λ (p : List Resource × Labels). IsConsistentVocabulary inside.base p.0 inside.iris p.1 c.put.new.self
    c.insert-2.new.concepts) (λ i. (sym items i, sym c.in_ok-insert.ensures.ok i)) kept
