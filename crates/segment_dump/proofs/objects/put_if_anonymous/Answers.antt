use Rattle.segment_dump.proofs.objects.put_if_anonymous.Goals as goal
use Rattle.segment_dump.proofs.{Common.object_at, Common.part_of, Common.ByHandle, dumping.Output.of-none}
use Rattle.segment_dump.proofs.{dumping.Output.of-same}
use Rattle.segment_dump.proofs.dumping.Sections.{anonymous-said, other-said}

pub returns-in-Anonymous : goal.returns-in-Anonymous
returns-in-Anonymous g c =
    let s = c.args.segment.now in
    let said = c.args.said in
    of-same {said = λ d. part_of (g.T.ObjectWriter.text c.args.telling.now) (object_at d (ByHandle said.handle))}
    c.tell.ensures (anonymous-said (g.T.ObjectWriter.text c.args.telling.now) s said c.requires.text c.in-Anonymous.is)

pub returns-in_default : goal.returns-in_default
returns-in_default g c =
    let s = c.args.segment.now in
    let said = c.args.said in
    of-none (other-said (g.T.ObjectWriter.text c.args.telling.now) s said c.requires.text c.in_default.not-Anonymous)
