-- Two words and the name, one after another, and zeros after it.
use Rattle.segment_manager.proofs.objects.head.write_head.Goals as goal
use Rattle.best_fit.proofs.Laws.{room-less}
use Rattle.segment_manager.proofs.objects.Exchanged.{head-written, name-written, zeros-taken}
use Rattle.segment_manager.proofs.Common.{ChangesBytes, IsTrue, List, WindowState, ap, arith, changed-room, current}
use Rattle.segment_manager.proofs.Common.{has_room, length, length-replicate, live_of, padded, replicate, subst, take}
use Rattle.segment_manager.proofs.Common.{two_halves, ℕ, ◌+◌, ◌-◌, ◌∙◌, ◌≡◌}

-- the room of a block stays while two words in it are written
still-room : {a b c : WindowState} (h n : ℕ) → ChangesBytes current a b (h + 0) 8 → ChangesBytes current b c (h + 8) 8
    → IsTrue (has_room (live_of a.bytes) h n) → IsTrue (has_room (live_of c.bytes) h n)
still-room {a} {b} {c} h n p q room =
    changed-room current b c (h + 8) 8 h n q (changed-room current a b (h + 0) 8 h n p room)

pub set_word-requires : goal.set_word-requires
set_word-requires c = room-less (live_of c.args.heap.now.bytes) c.args.handle (16 + padded (length c.args.name.now)) 8
    (omega arith) c.requires.room

pub set_word-requires-2 : goal.set_word-requires-2
set_word-requires-2 c = changed-room current c.args.heap.now c.set_word.new.self (c.args.handle + 0) 8 c.args.handle 16
    c.set_word.ensures.changes (room-less (live_of c.args.heap.now.bytes) c.args.handle
    (16 + padded (length c.args.name.now)) 16 (omega arith) c.requires.room)

pub write-requires : goal.write-requires
write-requires c = room-less (live_of c.set_word-2.new.self.bytes) c.args.handle
    (16 + padded (length c.args.name.now)) (16 + length c.args.name.now) (omega arith)
    (still-room c.args.handle (16 + padded (length c.args.name.now)) c.set_word.ensures.changes
    c.set_word-2.ensures.changes c.requires.room)

pub write-requires-2 : goal.write-requires-2
write-requires-2 c =
    let n = length c.args.name.now in
    let long : length (take {A = ℕ} (c.padded.result - n) (replicate 8 0)) ≡ padded n - n = ap (λ (l : List ℕ). length
    l) (zeros-taken n (ap (λ (k : ℕ). k - n) c.padded.ensures)) ∙ length-replicate (padded n - n) 0 in
    let sum : 16 + padded n ≡ 16 + n + length (take {A = ℕ} (c.padded.result - n) (replicate 8 0)) = omega arith in
    subst (λ k. IsTrue (has_room (live_of c.write.new.self.bytes) c.args.handle k)) sum
    (changed-room current c.set_word-2.new.self c.write.new.self (c.args.handle + 16) n c.args.handle (16 + padded n)
    c.write.ensures.changes (still-room c.args.handle (16 + padded n) c.set_word.ensures.changes
    c.set_word-2.ensures.changes c.requires.room))

pub returns : goal.returns
returns c =
    let n = length c.args.name.now in
    let kinds =
    c.set_word.ensures.word ∙ (λ i. two_halves ((c.from.ensures ∙ c.code.ensures) i) (c.from-2.ensures i)) in
    let w = head-written c.set_word.ensures.changes kinds c.set_word-2.ensures.changes
    (c.set_word-2.ensures.word ∙ ap (two_halves n) (c.from-3.ensures ∙ c.code_of_class.ensures))
    (name-written (zeros-taken n (ap (λ (k : ℕ). k - n) c.padded.ensures)) c.write.ensures.changes
    c.write.ensures.content c.write-2.ensures.changes c.write-2.ensures.content) in
    record { changes = w.change; head = w.head }
