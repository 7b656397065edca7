use Rattle.std.proofs.Common.{◌≡◌, refl, sym, ap, ◌∙◌, subst, arith, ℕ, false}
use Rattle.std.specs.Option.{option_copied}
use Rattle.std.proofs.lemmas.Option.{same_Some}
use Rattle.thes_base.specs.declared.data.History.{History}
use Rattle.thes_base.specs.Postings.{place, assigned_count}
use Rattle.thes_post.specs.PostingCounts.{CountsAfterWithdrawal, HasPostingToWithdraw}
use Rattle.thes_post.proofs.ListedPostingLemmas.{passed_standing}
use Rattle.thes_post.proofs.PostingCountLemmas.{one_stands, one_stays, sums_withdrawn}
use Rattle.thes_tables.specs.declared.rows.PostingRow.{PostingRow}
use Rattle.thes_core.proofs.ApplyLemmas.{parts_become_state}
use Rattle.thes_core.proofs.FactLemmas.{row_of_one}
use Rattle.thes_core.proofs.thesaurus.Thesaurus.withdraw.Goals as goal

pub returns-clause-becomes : goal.returns-clause-becomes
returns-clause-becomes c = parts_become_state refl refl refl refl refl c.requires.outside

pub returns-clause-counts : goal.returns-clause-counts
returns-clause-counts c = λ hs meant.
    let t = c.args.self.now in
    let are = meant.posting_counts in
    let are_facts = row_of_one hs c.args.posting c.args.facts.now.named_postings.items c.in-Some.row.now
    meant.are_facts.named_postings (sym c.first.ensures ∙ ap option_copied c.in-Some.is) in
    let stood = passed_standing hs c.args.posting meant.allows.accepts.row in
    let same : stood.0 ≡ are_facts.0 = same_Some _ _ (sym stood.1 ∙ are_facts.1) in
    let stays : are_facts.0.withdrawn ≡ false = ap (λ (h : History). h.withdrawn) (sym same) ∙ stood.2 in
    let at : c.in-Some.row.now.place ≡ place are_facts.0 = ap (λ (r : PostingRow). r.place) are_facts.2 in
    let one = one_stands hs c.args.posting are_facts.0 are_facts.1 stays in
    let counted = are.standing c.in-Some.row.now.place in
    let here = ap (λ (n : ℕ). assigned_count n hs) at in
    let less = one_stays hs c.args.posting are_facts.0 are_facts.1 stays in
    let withdrawn = are.withdrawn in
    let accepted = are.accepted in
    let gives : HasPostingToWithdraw c.in-Some.row.now.place t.book =
    record { here = omega (arith, one, counted, here); accepted = omega (arith, less, withdrawn, accepted) } in
    sums_withdrawn hs c.args.posting are_facts.0 are_facts.1 stays t.book c.withdraw.new.self are
    (subst (λ (n : ℕ). CountsAfterWithdrawal n t.book c.withdraw.new.self) at (c.withdraw.ensures.counted gives))
