-- The element is in the array, and the text is the front of its block.
use Rattle.seg_vector.proofs.texts.SegTexts.get.Goals.{After-word-len, In-Some}
use Rattle.seg_vector.proofs.{◌≡◌, sym, ap, ◌∙◌, ◌+◌, ◌*◌, ◌<◌, ◌≤◌, ℕ, IsTrue, has_room, arith, length, take, bytes_of}
use Rattle.seg_vector.proofs.{live_of, word_at, List, Some, IsTextElement, IsTexts, OwnedText, block-front, block-live}
use Rattle.seg_vector.proofs.{element-of, empty-text, has-element, option_map, room-less, slice_get, text-block}
use Rattle.best_fit.specs.Table.{BackingArray as ATable}
use Rattle.seg_vector.proofs.texts.SegTexts.get.Goals as goal

-- the text and its element
there : (c : In-Some) {ps : List OwnedText} {t : ATable} → IsTexts c.args.heap.now.bytes c.args.self.place ps t
    → (q : OwnedText) × ((slice_get ps c.args.index ≡ Some q)
    × IsTextElement c.args.heap.now.bytes c.in-Some.array (16 * c.args.index) q)
there c {ps} {t} s =
    let inside : c.args.index < length ps = omega (arith, c.if-index-len.false, c.len.ensures ps t s) in
    let q = has-element ps c.args.index inside in
    (q.0, (q.1, element-of c.args.heap.now c.args.index s (sym c.link_of.ensures ∙ c.in-Some.is) q.1))

-- words of the element have room in the array
room : (c : In-Some) (n : ℕ) → n ≤ 16 * c.args.index + 16
    → IsTrue (has_room (live_of c.args.heap.now.bytes) c.in-Some.array n)
room c n few = room-less (live_of c.args.heap.now.bytes) c.in-Some.array (16 * c.args.index + 16) n few
    (there c c.requires.1.1).1.1.room

pub link-requires-clause-room : goal.link-requires-clause-room
link-requires-clause-room c = room (goal.at.link-requires-clause-room c).In-Some _ (omega arith)

pub word-len-requires : goal.word-len-requires
word-len-requires c = room (goal.at.word-len-requires c).In-Some _ (omega arith)

pub block-requires : goal.block-requires
block-requires c = block-live (text-block (there (goal.at.block-requires c).In-Some c.requires.1.1).1.1
    (sym c.link.ensures ∙ c.in-Some-link.is))

long : (c : After-word-len) {q : OwnedText}
    → IsTextElement c.args.heap.now.bytes c.in-Some.array (16 * c.args.index) q → c.word-len.result ≡ length q.bytes
long c e =
    let at : c.in-Some.array + (16 * c.args.index + 8) ≡ c.in-Some.array + 16 * c.args.index + 8 = omega arith in
    c.word-len.ensures ∙ ap (λ k. word_at (bytes_of c.args.heap.now.bytes) k) at ∙ e.len_word

pub slice_bounds-result-end-in-Some-link : goal.slice_bounds-result-end-in-Some-link
slice_bounds-result-end-in-Some-link c =
    let v = goal.at.slice_bounds-result-end-in-Some-link c in
    let e = (there v.In-Some c.requires.1.1).1.1 in let is = long v.After-word-len e in
    sym (ap length (ap (λ n. take n c.block.result.now) is ∙ block-front c.args.heap.now c.block.result.now e.heap
    (text-block e (sym c.link.ensures ∙ c.in-Some-link.is)) c.block.ensures) ∙ sym is)

pub returns-in-None : goal.returns-in-None
returns-in-None c ps t s =
    let q = there (goal.at.returns-in-None c).In-Some s in
    ap (option_map (λ (q : OwnedText). q.bytes)) q.1.0
    ∙ ap (λ bs. Some bs) (empty-text q.1.1 (sym c.link.ensures ∙ c.in-None.is))

pub returns-in-Some-link : goal.returns-in-Some-link
returns-in-Some-link c ps t s =
    let v = goal.at.returns-in-Some-link c in let q = there v.In-Some s in
    ap (option_map (λ (q : OwnedText). q.bytes)) q.1.0 ∙ ap (λ bs. Some bs) (sym
    (ap (λ n. take n c.block.result.now) (long v.After-word-len q.1.1) ∙ block-front c.args.heap.now c.block.result.now
    q.1.1.heap (text-block q.1.1 (sym c.link.ensures ∙ c.in-Some-link.is)) c.block.ensures))
