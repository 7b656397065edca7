use Rattle.std.proofs.lemmas.Grind.{common_steps}
use Rattle.std.proofs.Common.{arith, ◌≤◌, ◌+◌, ◌-◌, length, take, drop, ◌++◌, length-drop}
use borrow.Rule.Slice.PartMut.{post_of}
use Rattle.std.proofs.lemmas.List.{length-take}
use Rattle.thes_http_request.proofs.InboxLemmas.{buffer_after_read_within}
use Rattle.thes_http_request.proofs.inbox.Inbox.fill.Goals as goal

pub returns-in-Ok : goal.returns-in-Ok
returns-in-Ok g c =
    let inv = c.self.invariant in
    let len = c.deref_mut.ensures.len in
    let f = c.self.inside.filled in
    let d = c.deref_mut.result.now in
    let new = c.read.new.buf in
    let post = post_of f (length d - f) d in
    let ws = take f d ++ (new ++ post) in
    let room : f ≤ length d = omega (arith, inv.0, inv.1, len) in
    let fits : f + c.in-Ok.count ≤ c.self.inside.buffer.len =
    omega (
      arith,
      c.in-Ok.ensures.reads.size.0,
      c.read.auto.buf,
      len,
      inv.0,
      inv.1,
      room,
      length-drop f d,
      length-take (length d - f) (drop f d),
    ) in record {
      growth = record {
        more = take c.in-Ok.count new;
        taken = c.in-Ok.ensures.reads.bytes.0;
        all = buffer_after_read_within c.self.inside.buffer.items d new post
            (drop (length ws) c.self.inside.buffer.items) c.args.self.now f c.in-Ok.count c.self.inside.buffer.len
            c.deref_mut.ensures.value c.self.view_is room c.in-Ok.ensures.reads.size.0 fits;
      };
      more = grind (arith, common_steps);
      end = grind (arith, common_steps);
      stop = tt;
      calls = c.in-Ok.ensures.frame.calls;
    }
