-- The block is shortened again, or freed.
use Rattle.seg_vector.proofs.{sym, ap, ◌∙◌, Some, head-room, asked-link, asked-live, asked-run, undone-none}
use Rattle.seg_vector.proofs.{undone-other, undone-same, none-left}
use Rattle.seg_vector.proofs.text_arrays.undo_reserve.Goals.{in-Some+else-old-array, in_default}
use Rattle.seg_vector.proofs.text_arrays.undo_reserve.Goals as goal

pub link_of-requires-clause-room : goal.link_of-requires-clause-room
link_of-requires-clause-room c = head-room (asked-run c.requires.n c.requires.texts c.requires.asked).run.head

pub deallocate-requires : goal.deallocate-requires
deallocate-requires c = asked-live c.requires.n c.requires.texts c.requires.asked

pub shrink_in_place-requires : goal.shrink_in_place-requires
shrink_in_place-requires c = asked-live c.requires.n c.requires.texts c.requires.asked

pub returns-then-old-array : goal.returns-then-old-array
returns-then-old-array c first ps t n s a e = undone-same s a (asked-link n s a ∙ sym c.link_of.ensures ∙ c.in-Some.is
    ∙ ap (λ k. Some k) c.if-old-array.true) e c.shrink_in_place.ensures.changes

pub returns : goal.returns
returns c first ps t n s a e = elim c.match-link_of.branch [
  | in-Some+else-old-array w ↦ undone-other s a (asked-link n s a ∙ sym c.link_of.ensures ∙ w.in-Some.is)
      w.if-old-array.false c.deallocate.ensures.released
  | in_default w ↦ undone-none s a (asked-link n s a ∙ sym c.link_of.ensures
      ∙ none-left c.link_of.result w.in_default.not-Some) c.deallocate.ensures.released
]
