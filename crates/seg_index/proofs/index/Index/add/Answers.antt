-- In the block that the index has the links after the place make way; in that of the growth they are put round the new
-- one, and then the block is the index's.
use Rattle.seg_index.proofs.index.Index.add.Goals as goal
use Rattle.seg_index.proofs.{◌≡◌, ap, ap₂, refl, sym, subst, ◌∙◌, ℕ, ◌+◌, ◌-◌, ◌*◌, ◌%◌, ◌<◌, Option, IfSome, List}
use Rattle.seg_index.proofs.{arith, insert, length-insert, current, LiveSet, EncodesLiveSet, IsBlockFor, without_link}
use Rattle.seg_index.proofs.{IsIndexOf, block_and_count, capacity_at, filled, gaps_kept, grown_capacity, has_slots}
use Rattle.seg_index.proofs.{in_header, index_in, insert_all, inserted, links_lead, offer, index_at, same_live, source}
use Rattle.seg_index.proofs.{target, written, written_both, written_keeps, ChangesBytes, Offer, Placed, bytes_of}
use Rattle.seg_index.proofs.{link_at, added-sorted, aligned, beside-stays, extent_at, inl, inr, keeps-sorted, live_of}
use Rattle.seg_index.proofs.{moved-stays, none-some, without_index_block}
use Rattle.best_fit.proofs.Laws.{lay_out_one}
use Rattle.best_fit.specs.Table.{BackingArray as ATable}
use Rattle.seg_index.specs.{Growth.AddKeeps, Growth.AddsEntry, Growth.CanGrow, Growth.grown_live, Held.entry_count}
use Rattle.seg_index.proofs.index.Index.add.Goals.{After-unwrap_or-block, After-unwrap_or-from, After-spread-in-Some}

-- the capacity of the index's block allows one more
few : (c : After-unwrap_or-block)
    → entry_count c.args.heap.now (index_at c.args.self) < capacity_at c.args.heap.now (index_at c.args.self)
few c = subst (λ b. CanGrow c.args.heap.now (index_at c.args.self) b) c.in-None.is c.requires.growth

had : (c : After-unwrap_or-block) {t : ATable} {hs : List ℕ} → IsIndexOf c.args.heap.now (index_at c.args.self) t hs
    → Placed c.args.heap.now (index_at c.args.self) t hs c.unwrap_or-block.result
had c i =
    let left = few c in has_slots i (omega arith) c.header_offset.ensures c.header_link.ensures
    c.unwrap_or-block.ensures

pub spread-requires-clause-links : goal.spread-requires-clause-links
spread-requires-clause-links c =
    let q = c.requires.entry in
    let p = had (goal.at.spread-requires-clause-links c).After-unwrap_or-block q.index.index in
    links_lead c.unwrap_or-block.result c.args.place (c.len-count.result - c.args.place) q.handles
    p.links q.index.index.whole (omega arith)

pub spread-requires-clause-handle : goal.spread-requires-clause-handle
spread-requires-clause-handle c = aligned c.requires.entry

pub returns-in-None-clause-index : goal.returns-in-None-clause-index
returns-in-None-clause-index c = λ t hs i.
    let A = c.args.heap.now in let at = index_at c.args.self in
    let v = (goal.at.returns-in-None-clause-index c).After-unwrap_or-block in let left = few v in let p = had v i in
    subst (λ b. AddsEntry A c.set_header_word.new.self at t (insert hs c.args.place c.args.handle) b)
    (sym c.in-None.is) (inserted p (in_header c.args.self) (c.len-count.ensures.len t hs i) (omega arith) (omega arith)
    (aligned c.requires.entry)
    c.spread.ensures.changes c.spread.ensures.in_place c.spread.ensures.tail c.header_offset-in-None.ensures
    c.set_header_word.ensures.changes c.set_header_word.ensures.word)

pub returns-in-None-clause-live : goal.returns-in-None-clause-live
returns-in-None-clause-live c =
    let B = c.set_header_word.new.self in
    subst (λ b. EncodesLiveSet current B.bytes (grown_live c.args.heap.now (index_at c.args.self) b)) (sym c.in-None.is)
    (subst (λ (l : LiveSet). EncodesLiveSet current B.bytes l) (same_live c.spread.ensures.changes)
    c.set_header_word.ensures.changes.live)

pub returns-in-None-clause-frame : goal.returns-in-None-clause-frame
returns-in-None-clause-frame c = λ t hs i.
    let v = (goal.at.returns-in-None-clause-frame c).After-unwrap_or-block in let left = few v in let p = had v i in
    subst (λ b. AddKeeps c.args.heap.now c.set_header_word.new.self (index_at c.args.self) t b) (sym c.in-None.is)
    (block_and_count p (in_header c.args.self) (8 * c.args.place) c.spread.ensures.changes (omega arith)
    c.header_offset-in-None.ensures c.set_header_word.ensures.changes)

pub returns-in-None-clause-gaps : goal.returns-in-None-clause-gaps
returns-in-None-clause-gaps c = λ none.
    let v = (goal.at.returns-in-None-clause-gaps c).After-unwrap_or-block in let left = few v in
    let p = had v c.requires.entry.index.index in
    gaps_kept p (in_header c.args.self) (8 * c.args.place) c.spread.ensures.changes (omega arith)
    c.header_offset-in-None.ensures c.set_header_word.ensures.changes

-- the block of the growth, and the old place of the links
given : (c : After-unwrap_or-from) {t : ATable} {hs : List ℕ} → IsIndexOf c.args.heap.now (index_at c.args.self) t hs
    → let A = c.args.heap.now in let at = index_at c.args.self in
    Offer A (record {
      at = at;
      block = c.in-Some.block;
      slots = grown_capacity (capacity_at A at);
      from = c.unwrap_or-from.result;
      link = c.header_link-in-Some.result;
      table = t;
      handles = hs;
    })
given c i =
    let g = subst (λ b. CanGrow c.args.heap.now (index_at c.args.self) b) c.in-Some.is c.requires.growth in
    offer (in_header c.args.self) c.header_offset-in-Some.ensures c.header_link-in-Some.ensures
    c.unwrap_or-from.ensures g.0 g.1 i

-- all that is written in it
all : (c : After-spread-in-Some) → ChangesBytes current c.args.heap.now c.spread-in-Some.new.heap (c.in-Some.block + 0)
    (8 * c.len-count.result + 8)
all c = written_both c.in-Some.block c.shift_non_null_links.ensures.changes c.spread-in-Some.ensures.changes
    (omega arith)

pub shift_non_null_links-requires : goal.shift_non_null_links-requires
shift_non_null_links-requires c =
    let q = c.requires.entry in let place = c.args.place in
    let o = given (goal.at.shift_non_null_links-requires c).After-unwrap_or-from q.index.index in let s = source o in
    record {
      from_aligned = refl;
      to_aligned = refl;
      source = s.room (0 + 8 * place) (omega arith);
      target = target (0 + 8 * place) o (omega arith);
      links = links_lead c.unwrap_or-from.result 0 place q.handles s.links q.index.index.whole (omega arith);
    }

pub spread-requires-in-Some : goal.spread-requires-in-Some
spread-requires-in-Some c =
    let q = c.requires.entry in let place = c.args.place in let count = c.len-count.result in
    let o = given (goal.at.spread-requires-in-Some c).After-unwrap_or-from q.index.index in
    let p = written o c.shift_non_null_links.ensures.changes (omega arith) in let s = source p in
    record {
      heap = p.index.heap;
      in_bounds = omega arith;
      source = s.room (8 * count) (omega arith);
      target = target (8 * count + 8) p (omega arith);
      links = links_lead c.unwrap_or-from.result place (count - place) q.handles s.links q.index.index.whole
          (omega arith);
      handle = (aligned c.requires.entry);
    }

pub install_block-requires : goal.install_block-requires
install_block-requires c =
    let at = goal.at.install_block-requires c in
    let cap = c.grown_capacity-capacity.ensures ∙ ap grown_capacity c.capacity.ensures.word in
    let p = written (given at.After-unwrap_or-from c.requires.entry.index.index) (all at.After-spread-in-Some)
    (omega arith) in
    record {
      heap = p.index.heap;
      block = subst (λ k. IsBlockFor c.spread-in-Some.new.heap c.in-Some.block k) (sym cap) p.offered;
      released = (source p).left;
      non_empty = omega arith;
      in_bounds = omega arith;
    }

pub returns-in-Some-clause-index : goal.returns-in-Some-clause-index
returns-in-Some-clause-index c = λ t hs i.
    let A = c.args.heap.now in let at = goal.at.returns-in-Some-clause-index c in let place = c.args.place in
    let cap = c.grown_capacity-capacity.ensures ∙ ap grown_capacity c.capacity.ensures.word in
    let before = given at.After-unwrap_or-from i in
    let behind = written before c.shift_non_null_links.ensures.changes (omega arith) in
    let long = c.len-count.ensures.len t hs i in let more = length-insert hs place c.args.handle (omega arith) in
    let links = filled c.unwrap_or-from.result c.in-Some.block hs (source before).links (source behind).links
    long (omega arith) c.shift_non_null_links.ensures.lead c.spread-in-Some.ensures.changes
    c.spread-in-Some.ensures.in_place c.spread-in-Some.ensures.tail in
    let whole = insert_all (λ k. k % 16 ≡ 0) hs place c.args.handle (omega arith) i.whole (aligned c.requires.entry) in
    subst (λ b. AddsEntry A c.install_block.new.heap (index_at c.args.self) t (insert hs place c.args.handle) b)
    (sym c.in-Some.is)
    (index_in A c.spread-in-Some.new.heap c.install_block.new.heap c.in-Some.block
    (same_live (all at.After-spread-in-Some))
    cap (c.install_block.ensures.index (insert hs place c.args.handle) links (omega arith) whole))

pub returns-in-Some-clause-live : goal.returns-in-Some-clause-live
returns-in-Some-clause-live c =
    let at = goal.at.returns-in-Some-clause-live c in let d = all at.After-spread-in-Some in
    let o = given at.After-unwrap_or-from c.requires.entry.index.index in let E = c.install_block.new.heap in
    subst (λ b. EncodesLiveSet current E.bytes (grown_live c.args.heap.now (index_at c.args.self) b)) (sym c.in-Some.is)
    (subst (λ (l : LiveSet). EncodesLiveSet current E.bytes l)
    (ap₂ without_link (same_live d) ((written o d (omega arith)).leads ∙ sym o.leads)) c.install_block.ensures.live)

pub returns-in-Some-clause-frame : goal.returns-in-Some-clause-frame
returns-in-Some-clause-frame c = λ t hs i.
    let at = goal.at.returns-in-Some-clause-frame c in let o =
    given at.After-unwrap_or-from c.requires.entry.index.index in
    subst (λ b. AddKeeps c.args.heap.now c.install_block.new.heap (index_at c.args.self) t b) (sym c.in-Some.is)
    (written_keeps o (all at.After-spread-in-Some) (omega arith) c.install_block.ensures.frame)

pub returns-in-Some-clause-progress : goal.returns-in-Some-clause-progress
returns-in-Some-clause-progress c =
    let at = goal.at.returns-in-Some-clause-progress c in let o =
    given at.After-unwrap_or-from c.requires.entry.index.index in
    let more = λ (l : Option ℕ). IfSome l (λ old. c.args.steps.now < c.install_block.new.steps) in
    subst (λ (b : Option ℕ). IfSome b (λ block. more (link_at (bytes_of c.args.heap.now.bytes) (index_at c.args.self))))
    (sym c.in-Some.is)
    (subst more ((written o (all at.After-spread-in-Some) (omega arith)).leads
    ∙ sym o.leads) c.install_block.ensures.progress)

-- ---- the order

pub returns-in-None-clause-order : goal.returns-in-None-clause-order
returns-in-None-clause-order c =
    let v = (goal.at.returns-in-None-clause-order c).After-unwrap_or-block in let left = few v in
    let q = c.requires.entry.index.index in let p = had v q in
    let live = same_live c.set_header_word.ensures.changes ∙ same_live c.spread.ensures.changes in
    keeps-sorted (beside-stays q (block_and_count p (in_header c.args.self) (8 * c.args.place)
    c.spread.ensures.changes (omega arith) c.header_offset-in-None.ensures c.set_header_word.ensures.changes)
    (λ h x f other. ap (λ (l : LiveSet). extent_at l h) live ∙ f))

pub returns-in-None-clause-sorted : goal.returns-in-None-clause-sorted
returns-in-None-clause-sorted c = λ t hs i. returns-in-None-clause-order c c.args.self
    (insert hs c.args.place c.args.handle) (added-sorted c.requires.entry i)

pub returns-in-Some-clause-order : goal.returns-in-Some-clause-order
returns-in-Some-clause-order c =
    let at = goal.at.returns-in-Some-clause-order c in let d = all at.After-spread-in-Some in
    let q = c.requires.entry.index.index in let o = given at.After-unwrap_or-from q in
    let A = c.args.heap.now in let E = c.install_block.new.heap in
    let live : live_of E.bytes ≡ without_index_block A (index_at c.args.self) =
    lay_out_one current E.bytes (without_index_block c.spread-in-Some.new.heap (index_at c.args.self))
    c.install_block.ensures.live
    ∙ ap₂ without_link (same_live d) ((written o d (omega arith)).leads ∙ sym o.leads) in
    keeps-sorted (moved-stays q o.offered live (written_keeps o d (omega arith) c.install_block.ensures.frame))

pub returns-in-Some-clause-sorted : goal.returns-in-Some-clause-sorted
returns-in-Some-clause-sorted c = λ t hs i. returns-in-Some-clause-order c c.args.self
    (insert hs c.args.place c.args.handle) (added-sorted c.requires.entry i)

pub returns-in-Some-clause-noop : goal.returns-in-Some-clause-noop
returns-in-Some-clause-noop c =
    let at = goal.at.returns-in-Some-clause-noop c in
    let o = given at.After-unwrap_or-from c.requires.entry.index.index in
    let leads = (written o (all at.After-spread-in-Some) (omega arith)).leads ∙ sym o.leads in λ either. elim either [
      | inl none ↦ absurd (none-some c.in-Some.block (sym none ∙ c.in-Some.is))
      | inr none ↦ c.install_block.ensures.noop (leads ∙ none)
    ]
