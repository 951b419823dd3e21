-- The words link to the block, and the old one is freed.
use Rattle.seg_index.proofs.index.Index.install_block.Goals as goal
use Rattle.seg_index.proofs.{◌≡◌, ap, sym, subst, ◌∙◌, ◌+◌, ◌≤◌, arith, current, LiveSet, released, EncodesLiveSet}
use Rattle.seg_index.proofs.{heap_touches, live_of, KeepsOutsideIndex, without_index_block, without_link, index_at}
use Rattle.seg_index.proofs.{same_live}
use Rattle.seg_index.proofs.{in_header, leads_from, keeps_words, block_whole, gone, headed, headed_released_keeps}
use Rattle.seg_index.proofs.{settled, settled_released, ℕ, ◌<◌, Option, IfSome, none-some, refl}

pub set_header_link-requires-clause-target : goal.set_header_link-requires-clause-target
set_header_link-requires-clause-target c = block_whole c.requires.heap c.requires.block

pub returns-in-Some : goal.returns-in-Some
returns-in-Some c =
    let A = c.args.heap.now in
    let w = headed c.header_offset-place.ensures c.set_header_link.ensures.changes c.set_header_link.ensures.link_target
    c.set_header_word.ensures.changes c.set_header_word.ensures.word c.set_header_word-2.ensures.changes
    c.set_header_word-2.ensures.word in
    let leads = leads_from A c.header_offset-place.ensures c.header_link-old.ensures c.in-Some.is in
    let E = c.deallocate.new.self in let h = in_header c.args.self in
    let r = c.deallocate.ensures.released in let live = same_live w.change in let old = c.in-Some.old in
    let is : without_index_block A (index_at c.args.self) ≡ released (live_of A.bytes) old =
    ap (without_link (live_of A.bytes)) leads in
    record {
      index = λ hs links long whole. settled_released w h r (gone A old leads c.requires.released).1
          (settled hs w h c.requires.heap c.requires.block c.requires.in_bounds c.requires.non_empty links long whole);
      live = subst (λ (l : LiveSet). EncodesLiveSet current E.bytes l) (ap (λ (l : LiveSet). released l old) live
          ∙ sym is)
          r.live;
      frame = subst (λ (l : LiveSet). KeepsOutsideIndex A E (index_at c.args.self) l.extents) (sym is)
          (headed_released_keeps old w r h);
      steps_lower = omega arith;
      noop = λ none. absurd (none-some old (sym none ∙ leads));
      progress = subst (λ (l : Option ℕ). IfSome l (λ h. c.args.steps.now < c.deallocate.new.steps)) (sym leads)
          c.deallocate.ensures.steps_lower;
      steps = subst (λ (l : LiveSet). c.deallocate.new.steps ≤ c.args.steps.now + heap_touches l) live
          c.deallocate.ensures.steps;
    }

pub returns-in_default : goal.returns-in_default
returns-in_default c =
    let A = c.args.heap.now in let D = c.set_header_word-2.new.self in let h = in_header c.args.self in
    let at = index_at c.args.self in
    let w = headed c.header_offset-place.ensures
    c.set_header_link.ensures.changes c.set_header_link.ensures.link_target c.set_header_word.ensures.changes
    c.set_header_word.ensures.word c.set_header_word-2.ensures.changes c.set_header_word-2.ensures.word in
    let leads = leads_from A c.header_offset-place.ensures c.header_link-old.ensures c.in_default.is in
    let is : without_index_block A at ≡ live_of A.bytes = ap (without_link (live_of A.bytes)) leads in
    record {
      index = λ hs links long whole.
          settled hs w h c.requires.heap c.requires.block c.requires.in_bounds c.requires.non_empty links long whole;
      live = subst (λ (l : LiveSet). EncodesLiveSet current D.bytes l) (sym is) w.change.live;
      frame = subst (λ (l : LiveSet). KeepsOutsideIndex A D at l.extents) (sym is)
          (keeps_words at w.change h (omega arith) (omega arith));
      steps_lower = omega arith;
      noop = λ none. refl;
      progress = subst (λ (l : Option ℕ). IfSome l (λ h. c.args.steps.now < c.args.steps.now)) (sym leads) tt;
      steps = omega arith;
    }
