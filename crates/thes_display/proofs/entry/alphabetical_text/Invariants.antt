use Rattle.std.proofs.Common.{take, []}
use Rattle.thes_core.specs.CoreView.{with_histories}
use Rattle.thes_display.specs.Alphabetical.{AreTexts, IsEntry}
use Rattle.thes_display.proofs.entry.alphabetical_text.Given as goal

abbrev pub invariant-loop-heading : goal.invariant-loop-heading
invariant-loop-heading l = AreTexts (IsEntry (with_histories [] l.core) l.tag) (take l.heading-index l.heading-items)
    l.text.items
