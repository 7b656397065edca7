use Rattle.std.proofs.Common.{◌≡◌, ◌∙◌, rules, ap, sym, subst, arith, true, ℕ}
use Rattle.std.specs.List.{list_any}
use Rattle.std.specs.BTreeMap.{is_at}
use Rattle.std.specs.BTreeSet.{keys_between}
use Rattle.std.specs.declared.ops.Bound.TheVariants.{Included}
use Rattle.thes_vocab.specs.NameIndex.{entry_cmp}
use Rattle.thes_vocab.proofs.NameLemmas.{all_of_digest}
use Rattle.thes_vocab.proofs.names.Names.with_digest.Goals as goal

pub returns : goal.returns
returns c n number had =
    let d = c.args.digest in
    let set = c.args.self.now.entries in
    let test = is_at (entry_cmp (d, n)) in
    let first : c.new-3.result.start ≡ (d, 1) = search rules in
    let last : c.new-3.result.end ≡ (d, 4294967295) = search rules in
    ap (list_any test) (c.range.ensures.between (search rules))
    ∙ subst (λ (p : (ℕ × ℕ) × (ℕ × ℕ)). list_any test (keys_between entry_cmp (Included p.0) (Included p.1) set) ≡ true)
    (λ i. (sym first i, sym last i)) (all_of_digest set d 1 4294967295 n number.0 (omega (arith, number.1)) had)
