use Rattle.std.proofs.Common.{refl}
use Rattle.thes_requests.proofs.ChangeTextLemmas.{list_of}
use Rattle.thes_requests.proofs.plan_reply.report_in_room.Goals as goal

pub returns-in-Done : goal.returns-in-Done
returns-in-Done c = λ changes got.
    rw (
      c.in-Done.is,
      c.into_page.ensures,
      c.answers_page.ensures,
      c.new.ensures,
      list_of changes c.args.list got,
      c.deref.ensures.value,
    ) refl
