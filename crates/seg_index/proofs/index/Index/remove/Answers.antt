-- The links after the place close up.
use Rattle.seg_index.proofs.{◌≡◌, ◌+◌, ◌-◌, ◌*◌, subst, arith, current, bytes_of, AllLinksLead, LiveSet, EncodesLiveSet}
use Rattle.seg_index.proofs.{same_live}
use Rattle.seg_index.proofs.{ℕ, List, IsIndexOf, index_at, has_slots, in_header, links_lead, block_and_count}
use Rattle.seg_index.proofs.{gaps_kept, removed, ap, ◌∙◌, remove, extent_at, beside-stays, keeps-sorted, one-less}
use Rattle.seg_index.specs.Sorted.{KeepsSorted}
use Rattle.best_fit.specs.Table.{BackingArray as ATable}
use Rattle.seg_index.proofs.index.Index.remove.Goals as goal

pub shift_non_null_links-requires-clause-links : goal.shift_non_null_links-requires-clause-links
shift_non_null_links-requires-clause-links c =
    let q = c.requires.index in let block = c.unwrap_or-block.result in let place = c.args.place in
    let rest = c.len-count.result - place - 1 in
    let p = has_slots q.index (omega arith) c.header_offset.ensures c.header_link.ensures c.unwrap_or-block.ensures in
    let lead = links_lead block (place + 1) rest q.handles p.links q.index.whole (omega arith) in
    let e : block + 8 * (place + 1) ≡ block + (8 * place + 8) = omega arith in
    subst (λ k. AllLinksLead (bytes_of c.args.heap.now.bytes) k rest) e lead

pub returns : goal.returns
returns c =
    let D = c.set_header_word.new.self in let w = in_header c.args.self in let moved = c.shift_non_null_links.ensures in
    let counted = c.set_header_word.ensures in
    let p = λ (t : ATable) (hs : List ℕ) (i : IsIndexOf c.args.heap.now (index_at c.args.self) t hs).
    has_slots i (omega arith) c.header_offset.ensures c.header_link.ensures c.unwrap_or-block.ensures in
    let q = c.requires.index in let r = p q.table q.handles q.index in
    let keeps = block_and_count r w (8 * c.args.place) moved.changes (omega (arith, r))
    c.header_offset-2.ensures counted.changes in
    let live = same_live counted.changes ∙ same_live moved.changes in
    let order : KeepsSorted c.args.heap.now D = keeps-sorted (beside-stays q.index keeps
    (λ h x f other. ap (λ (l : LiveSet). extent_at l h) live ∙ f)) in
    record {
      index = λ t hs i. removed (p t hs i) w (c.len-count.ensures.len t hs i) (omega arith) moved.changes moved.lead
          c.header_offset-2.ensures counted.changes counted.word;
      sorted = λ t hs s.
          let long = s.index.stands.count in
          order c.args.self (remove hs c.args.place) (one-less s.sorted (omega arith));
      order = order;
      live = subst (λ (l : LiveSet). EncodesLiveSet current D.bytes l) (same_live moved.changes) counted.changes.live;
      frame = λ t hs i. block_and_count (p t hs i) w (8 * c.args.place) moved.changes (omega (arith, p t hs i))
          c.header_offset-2.ensures counted.changes;
      gaps = gaps_kept r w (8 * c.args.place) moved.changes (omega arith) c.header_offset-2.ensures
          counted.changes;
    }
