use Rattle.segment_dump.proofs.capacities.NotesObjectWriter.tell.Goals as goal
use Rattle.segment_dump.proofs.Common.{subst, ByHandle, AnswersWith, Holds, capacity_note, slots_at}
use Rattle.segment_dump.proofs.{dumping.ObjectParts.said-here, dumping.Output.of-none, dumping.Output.of-one}
use Rattle.segment_dump.proofs.dumping.Capacities.{none-told, note-told}

pub object_here-object-requires : goal.object_here-object-requires
object_here-object-requires g c = said-here c.args.segment.now c.args.said c.requires.text

pub slots_of-requires : goal.slots_of-requires
slots_of-requires g c = c.object_here-object.ensures.location

pub returns-in-Some : goal.returns-in-Some
returns-in-Some g c =
    let s = c.args.segment.now in
    let said = c.args.said in
    let slots = c.in-Some.slots in
    of-one {text = capacity_note (record { holder = Holds said.class said.name.now said.kind; slots = slots })}
    c.put_note.ensures (note-told s said c.requires.text slots
    (subst (AnswersWith s (λ d. slots_at d (ByHandle said.handle))) c.in-Some.is
    (rw c.object_here-object.ensures.handle at c.slots_of.ensures)))

pub returns-in-None : goal.returns-in-None
returns-in-None g c =
    let s = c.args.segment.now in
    let said = c.args.said in
    of-none (none-told s said c.requires.text
    (subst (AnswersWith s (λ d. slots_at d (ByHandle said.handle))) c.in-None.is
    (rw c.object_here-object.ensures.handle at c.slots_of.ensures)))
