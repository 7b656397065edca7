use Rattle.std.proofs.Common.{sym, ◌∙◌}
use Rattle.thes_sqlite.proofs.PostingLookUpLemmas.{found_first, found_none}
use Rattle.thes_sqlite.proofs.posting_look_ups.find_posting.Goals as goal

pub returns-in_default-clause-ok : goal.returns-in_default-clause-ok
returns-in_default-clause-ok g c clean t keeps = found_none c.args.key.now t.posting c.deref.result.now
    (c.deref.ensures.value ∙ c.in_ok-rows.ensures.shows clean t keeps) (sym c.in_default.ensures.value)

pub returns-clause-ok : goal.returns-clause-ok
returns-clause-ok g c clean t keeps = found_first c.args.key.now t.posting c.deref.result.now c.in-Some.row.now
    c.in_ok-read_posting.field-0 (c.deref.ensures.value ∙ c.in_ok-rows.ensures.shows clean t keeps)
    (sym c.in-Some.ensures.value) c.in_ok-read_posting.ensures
