-- This many items were written, and no others were taken.
use Rattle.segment_manager.proofs.objects.constructing_from.fill_items.Given as goal
use Rattle.segment_manager.proofs.{Common.◌+◌, objects.Slices.IsFilling}

abbrev pub invariant-loop-i : goal.invariant-loop-i
invariant-loop-i g l = IsFilling g.I.Iterator.next_gives g.I.Iterator.can_next g.S.Spelling.whole l.initial.heap l.heap
    l.fn.kind (l.handle + l.at) l.i l.initial.items l.items
