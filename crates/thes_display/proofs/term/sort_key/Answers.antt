use Rattle.std.proofs.Common.{◌≡◌, ◌∙◌, IfOk, List, ap, map, subst, sym, ℕ}
use Rattle.std.specs.Char.{to_ascii_lowercase}
use Rattle.thes_display.proofs.FoldLemmas.{fold_of_ascii}
use Rattle.thes_display.proofs.term.sort_key.Goals as goal

pub returns-then-is_ascii : goal.returns-then-is_ascii
returns-then-is_ascii c =
    subst (λ (k : List ℕ). IfOk c.to_ascii_lowercase.result (λ key. key.items ≡ k))
    (ap (map to_ascii_lowercase) c.as_bytes.ensures.value
    ∙ sym (fold_of_ascii c.args.text.now c.if-is_ascii.ensures.cases))
    c.to_ascii_lowercase.ensures.ok
