use Rattle.std.proofs.Common.{◌≡◌, ◌∙◌, rules, ap, sym, subst, arith, true}
use Rattle.std.specs.List.{list_any}
use Rattle.std.specs.BTreeMap.{is_at}
use Rattle.std.specs.Map.Iter.{deref}
use Rattle.std.proofs.lemmas.Bool.{both_ways}
use Rattle.std.proofs.lemmas.Map.Iter.{iter_end}
use Rattle.std.specs.BTreeSet.{contains}
use Rattle.thes_base.specs.Forms.{IsNumber}
use Rattle.thes_base.proofs.NumberedLemmas.{numbered_bound}
use Rattle.thes_vocab.specs.Vocabulary.{IsHolder}
use Rattle.thes_vocab.specs.NameIndex.{entry_cmp, name_digest}
use Rattle.thes_vocab.proofs.NameLemmas.{same_entry, last_entry}
use Rattle.thes_vocab.proofs.names.Names.holder.Goals as goal

pub loop-entry-preserved : goal.loop-entry-preserved
loop-entry-preserved c n any holds = grind (arith, both_ways, last_entry, same_entry)

pub returns : goal.returns
returns c taken =
    let n = taken.0 in
    let digest = c.name_digest-digest.result in
    let tag = c.args.name.now.tag.now in
    let text = c.args.name.now.text.now in
    let holds : IsHolder c.args.resources.now c.args.labels.now c.args.scheme tag text n =
    ((taken.1, taken.2), taken.3) in
    let bound = numbered_bound c.args.resources.now n taken.1.0 taken.1.1 in
    let number : IsNumber n = (bound.0, omega (arith, bound.1, c.requires.few)) in
    let is : digest ≡ name_digest c.args.scheme tag text = search rules in
    let entry = subst (λ d. contains entry_cmp c.args.self.now.entries (d, n) ≡ true) (sym is)
    (c.requires.found c.args.scheme n tag text holds) in
    let all = (iter_end deref c.with_digest-entry-items.result c.loop-entry.yielded c.into_iter-entry-iterator.result
    c.loop-entry.entry-iterator c.next.new.self c.next.result c.into_iter-entry-iterator.ensures.into_iter_gives
    c.loop-entry.yielded_by c.in-None.is c.next.ensures.steps).0 in
    c.loop-entry.invariant n (ap (list_any (is_at (entry_cmp (digest, n)))) all
    ∙ c.with_digest-entry-items.ensures n number entry) holds
