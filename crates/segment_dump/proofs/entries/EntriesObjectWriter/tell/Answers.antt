use Rattle.segment_dump.proofs.entries.EntriesObjectWriter.tell.Goals as goal
use Rattle.segment_dump.proofs.Common.{refl, ByHandle, head_line, in_lines, laid_at}
use Rattle.segment_dump.proofs.{dumping.ObjectParts.said-here, dumping.Sections.entry-text}
use Rattle.segment_dump.proofs.dumping.Output.{of-cut, of-one, of-same, of-then}

pub object_here-object-requires : goal.object_here-object-requires
object_here-object-requires g c = said-here c.args.segment.now c.args.said c.requires.text

pub count_of-count-requires : goal.count_of-count-requires
count_of-count-requires g c = c.object_here-object.ensures.location

pub put_content-requires-clause-object : goal.put_content-requires-clause-object
put_content-requires-clause-object g c = c.object_here-object.ensures.location

pub returns-in_err-put_head : goal.returns-in_err-put_head
returns-in_err-put_head g c =
    let said = c.args.said in
    let n = c.count_of-count.result in
    of-same (of-cut (λ d. laid_at in_lines d (ByHandle said.handle)) c.from_residual.ensures.0
    (of-one {owed = λ d. head_line said.class said.name.now said.kind n} c.in_err-put_head.ensures (λ d st. refl)))
    (entry-text c.args.segment.now said n c.requires.text
    (rw c.object_here-object.ensures.handle at c.count_of-count.ensures))

pub returns : goal.returns
returns g c =
    let said = c.args.said in
    let n = c.count_of-count.result in
    of-same (of-then (of-one {owed = λ d. head_line said.class said.name.now said.kind n} c.in_ok-put_head.ensures
    (λ d st. refl)) (rw c.object_here-object.ensures.handle at c.put_content.ensures))
    (entry-text c.args.segment.now said n c.requires.text
    (rw c.object_here-object.ensures.handle at c.count_of-count.ensures))
