use Rattle.std.proofs.Common.{◌∙◌, refl, ap, map}
use Rattle.thes_core.specs.Facts.{posting_row_at}
use Rattle.thes_office.proofs.FactLemmas.{facts_of_post, facts_of_withdraw, facts_split, facts_of_merge}
use Rattle.thes_office.proofs.facts.facts_of.Goals as goal

pub returns-in_ok-known-in-Post-clause-in_tables : goal.returns-in_ok-known-in-Post-clause-in_tables
returns-in_ok-known-in-Post-clause-in_tables g c up base s x =
    facts_of_post s.histories c.args.command.now _ _ _ _ c.in-Post.is
    (c.in_ok-known-in-Post.ensures.in_tables up base s x)
    c.new.ensures.items c.new-in-Post.ensures.items

pub returns-in_ok-named_postings-in-Withdraw-clause-in_tables :
    goal.returns-in_ok-named_postings-in-Withdraw-clause-in_tables
returns-in_ok-named_postings-in-Withdraw-clause-in_tables g c up base s x =
    facts_of_withdraw s.histories c.args.command.now _ _ c.in-Withdraw.is c.named_facts.ensures.known
    (c.named_facts.ensures.named_postings ∙ c.in_ok-named_postings-in-Withdraw.ensures.in_tables up base s x)
    c.named_facts.ensures.standing

pub returns-in_ok-named_postings-in-Split-clause-in_tables : goal.returns-in_ok-named_postings-in-Split-clause-in_tables
returns-in_ok-named_postings-in-Split-clause-in_tables g c up base s x =
    facts_split s.histories c.args.command.now _ _ _ _ _ c.in-Split.is c.named_facts-in-Split.ensures.known
    (c.named_facts-in-Split.ensures.named_postings ∙ c.in_ok-named_postings-in-Split.ensures.in_tables up base s x
    ∙ ap (map (posting_row_at s.histories)) c.as_slice.ensures) c.named_facts-in-Split.ensures.standing

pub returns-in_ok-standing-in-Merge-clause-in_tables : goal.returns-in_ok-standing-in-Merge-clause-in_tables
returns-in_ok-standing-in-Merge-clause-in_tables g c up base s x =
    facts_of_merge s.histories c.args.command.now _ _ _ c.in-Merge.is refl c.new-in-Merge.ensures.items
    (c.in_ok-standing-in-Merge.ensures.in_tables up base s x)
