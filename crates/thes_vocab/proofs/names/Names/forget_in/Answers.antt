use Rattle.std.proofs.Common.{◌≡◌, ◌∙◌, rules, ap, sym, false, ℕ}
use Rattle.std.specs.List.{list_any}
use Rattle.std.proofs.lemmas.Option.{same_Some}
use Rattle.thes_vocab.specs.NameIndex.{name_digest, has_digest}
use Rattle.thes_vocab.proofs.NameLemmas.{kept_by_remove, other_digest}
use Rattle.thes_vocab.proofs.names.Names.forget_in.Goals as goal

pub returns-then-not-is_digest_of_one-clause-keeps : goal.returns-then-not-is_digest_of_one-clause-keeps
returns-then-not-is_digest_of_one-clause-keeps c s n t x other had =
    let digest = c.name_digest-digest.result in
    let own = c.args.concept.now.labels.now in
    let none : list_any (has_digest c.args.scheme digest) own ≡ false = search rules in
    kept_by_remove c.args.self.now.entries c.remove.new.self (digest, c.args.concept.now.number) (name_digest s t x, n)
    c.remove.ensures.updates (λ same. let its = other (sym (ap (λ (e : ℕ × ℕ). e.1) same)) in
    other_digest own c.args.scheme digest t x none its.1
    (ap (λ k. name_digest k t x) (same_Some _ _ its.0) ∙ sym (ap (λ (e : ℕ × ℕ). e.0) same))) had
