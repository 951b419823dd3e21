-- The old array has the room, or is lengthened, or a new block is allocated.
use Rattle.seg_vector.proofs.{sym, subst, ◌∙◌, ◌*◌, WindowState, current, IsHeap, TakesStorage, none-left, asked-beside}
use Rattle.seg_vector.proofs.{asked-none, asked-wide, not-wide, storage-live, texts-stand, wide-longer, wide-same}
use Rattle.seg_vector.proofs.text_arrays.reserve_array.Goals.{in-Some+else-room-n+else-try_extend, in_default}
use Rattle.seg_vector.proofs.text_arrays.reserve_array.Goals as goal

pub room-requires : goal.room-requires
room-requires c = storage-live (texts-stand c.requires.texts.1.1) (sym c.link_of.ensures ∙ c.in-Some.is)

pub try_extend-requires : goal.try_extend-requires
try_extend-requires c = storage-live (texts-stand c.requires.texts.1.1) (sym c.link_of.ensures ∙ c.in-Some.is)

pub returns-then-room-n : goal.returns-then-room-n
returns-then-room-n c ps t s = asked-wide s (sym c.link_of.ensures ∙ c.in-Some.is)
    (wide-same c.args.heap.now c.in-Some.array (16 * c.args.n) _ s.heap c.room.ensures c.if-room-n.true)

pub returns-then-try_extend : goal.returns-then-try_extend
returns-then-try_extend c ps t s = asked-wide s (sym c.link_of.ensures ∙ c.in-Some.is)
    (wide-longer _ _ _ _ _ _ s.heap c.room.ensures c.if-room-n.false c.try_extend.ensures.changes c.if-try_extend.true)

pub take-requires : goal.take-requires
take-requires c =
    let heap = c.requires.texts.1.1.heap in
    elim c.match-link_of.branch [
      | in-Some+else-room-n+else-try_extend w ↦ subst (λ (k : WindowState). IsHeap current k.bytes)
          (sym (w.heap-is ∙ (not-wide _ _ _ _ _ _ w.room.ensures w.if-room-n.false w.try_extend.ensures.changes
          w.if-try_extend.false).same)) heap
      | in_default w ↦ subst (λ (k : WindowState). IsHeap current k.bytes) (sym w.heap-is) heap
    ]

pub returns : goal.returns
returns c ps t s =
    let n = 16 * c.args.n in let new = c.take.new.heap in
    elim c.match-link_of.branch [
      | in-Some+else-room-n+else-try_extend w ↦ asked-beside new c.take.result s (sym c.link_of.ensures ∙ w.in-Some.is)
          (not-wide _ _ _ _ _ _ w.room.ensures w.if-room-n.false w.try_extend.ensures.changes w.if-try_extend.false)
          (subst (λ (k : WindowState). TakesStorage k new n c.take.result) w.heap-is c.take.ensures)
      | in_default w ↦ asked-none c.args.heap.now new n c.take.result s
          (sym c.link_of.ensures ∙ none-left c.link_of.result w.in_default.not-Some)
          (subst (λ (k : WindowState). TakesStorage k new n c.take.result) w.heap-is c.take.ensures)
    ]
