use Rattle.std.proofs.Common.{ℕ, nat_eq, ◌||◌, ap, ◌∙◌}
use Rattle.thes_links.specs.NodeSet.{mark_at}
use Rattle.thes_links.proofs.WordLemmas.{marked_more}
use Rattle.thes_links.proofs.marks.mark.Goals as goal

pub returns-clause-ok : goal.returns-clause-ok
returns-clause-ok c m =
    marked_more c.args.marks.now.items c.set_bits.new.words.items c.get-number.result c.in_ok-set_bits.ensures.ok m
    ∙ ap (λ (k : ℕ). nat_eq m k || mark_at c.args.marks.now.items m) c.get-number.ensures.value
