-- The blocks of all texts of the array are freed, and then the length is written.
use Rattle.seg_vector.proofs.texts.SegTexts.clear.Goals as goal
use Rattle.seg_vector.proofs.{◌+◌, ◌∙◌, arith, sym, subst, List, WindowState, live_of, room-less, head-room, cleared}
use Rattle.seg_vector.proofs.{head-after, held-elements, none-left, released-nothing, text_blocks, FreesBlocks, IsTexts}
use Rattle.seg_vector.proofs.{OwnedText}
use Rattle.best_fit.specs.Table.{BackingArray as ATable}
use Rattle.seg_vector.proofs.texts.SegTexts.clear.Goals.{in-Some, in_default, Joined-link_of}

pub release_texts-requires : goal.release_texts-requires
release_texts-requires c =
    let s = c.requires.1.1 in (
      c.requires.0,
      held-elements c.len-len.result s (sym c.link_of.ensures ∙ c.in-Some.is)
          (c.len-len.ensures c.requires.0 c.requires.1.0 s),
    )

gone : (c : Joined-link_of) {ps : List OwnedText} {t : ATable} → IsTexts c.args.heap.now.bytes c.args.self.place ps t
    → FreesBlocks c.args.heap.now c.match-link_of.heap (text_blocks ps)
gone c {ps} {t} s = elim c.match-link_of.branch [
  | in-Some w ↦ subst (λ (d : WindowState). FreesBlocks c.args.heap.now d (text_blocks ps)) (sym w.heap-is)
      (w.release_texts.ensures ps (held-elements c.len-len.result s (sym c.link_of.ensures ∙ w.in-Some.is)
      (c.len-len.ensures ps t s)))
  | in_default w ↦ subst (λ (d : WindowState). FreesBlocks c.args.heap.now d (text_blocks ps)) (sym w.heap-is)
      (released-nothing c.args.heap.now s (sym c.link_of.ensures ∙ none-left c.link_of.result w.in_default.not-Some))
]

pub set_word-requires : goal.set_word-requires
set_word-requires c =
    let x = gone (goal.at.set_word-requires c).Joined-link_of c.requires.1.1 in
    room-less (live_of c.match-link_of.heap.bytes) c.args.self.place.handle (c.args.self.place.at + 24)
    (c.args.self.place.at + 8 + 8) (omega arith) (head-room (head-after c.requires.1.1 x.change))

pub returns : goal.returns
returns c ps t s = cleared {new = c.set_word.new.self} s (gone (goal.at.returns c).Joined-link_of s)
    c.set_word.ensures.changes c.set_word.ensures.word
