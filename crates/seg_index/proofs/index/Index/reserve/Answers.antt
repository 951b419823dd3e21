-- A new block is allocated, and then the links are copied to it.
use Rattle.seg_index.proofs.{◌≡◌, ap, ap₂, refl, sym, subst, ◌∙◌, ◌+◌, ◌*◌, ◌<◌, ◌≤◌, arith, None, Option, Some}
use Rattle.seg_index.proofs.{current, Extent, LiveSet, added, place, EncodesLiveSet, extent_at, heap_touches, live_of}
use Rattle.seg_index.proofs.{allocated-live, without_link, IsIndexOf, capacity_at, index_at, same_live, in_header}
use Rattle.seg_index.proofs.{links_lead, asked, is_found, meant, moved, source, taken_keeps, taken_offer, target}
use Rattle.seg_index.proofs.{written, written_keeps, IndexRole, bytes_of, link_at, without_index_block, found_still}
use Rattle.seg_index.proofs.{in-kept}
use Rattle.seg_index.proofs.{keeps-sorted, unlinked-found}
use Rattle.best_fit.proofs.Laws.{lay_out_one}
use Rattle.seg_index.specs.Capacities.{KeepsRoomyIndex}
use Rattle.std.proofs.lemmas.Result.{MatchResult-from_err}
use Rattle.best_fit.specs.Heap.{AllocatesNoSpace}
use Rattle.seg_index.proofs.index.Index.reserve.Goals as goal

pub returns-in_err-block-clause-capacity : goal.returns-in_err-block-clause-capacity
returns-in_err-block-clause-capacity c =
    let A = c.args.heap.now in let B = c.allocate.new.self in let at = index_at c.args.self in let n = c.args.n in
    let r = c.in_err-block.ensures.answer in let few : capacity_at A at < n = omega arith in
    let none = asked A n c.saturating_mul.result IndexRole c.requires.index.index.heap c.saturating_mul.ensures in
    let refused : AllocatesNoSpace A B (8 * n) IndexRole = record { none = none ∙ r.none; same = r.same } in
    MatchResult-from_err c.from_residual.result (λ v. KeepsRoomyIndex A B at n)
    (λ e. (capacity_at A at < n) × AllocatesNoSpace A B (8 * n) IndexRole) c.from_residual.ensures.0 (λ y.
    (few, refused))

pub shift_non_null_links-requires : goal.shift_non_null_links-requires
shift_non_null_links-requires c =
    let q = c.requires.index in let count = c.len-count.result in
    let o = taken_offer (in_header c.args.self) c.in_ok-block.ensures.answer c.saturating_mul.ensures
    c.header_offset.ensures c.header_link.ensures c.unwrap_or-from.ensures q.index in
    let s = source o in
    record {
      from_aligned = refl;
      to_aligned = refl;
      source = s.room (0 + 8 * count) (omega arith);
      target = target (0 + 8 * count) o (omega arith);
      links = links_lead c.unwrap_or-from.result 0 count q.handles s.links q.index.whole (omega arith);
    }

pub install_block-requires : goal.install_block-requires
install_block-requires c =
    let q = c.requires.index in
    let o = taken_offer (in_header c.args.self) c.in_ok-block.ensures.answer c.saturating_mul.ensures
    c.header_offset.ensures c.header_link.ensures c.unwrap_or-from.ensures q.index in
    let p = written o c.shift_non_null_links.ensures.changes (omega arith) in
    record {
      heap = p.index.heap;
      block = p.offered;
      released = (source p).left;
      non_empty = omega arith;
      in_bounds = omega arith;
    }

pub returns : goal.returns
returns c =
    let A = c.args.heap.now in let B = c.allocate.new.self in let E = c.install_block.new.heap in
    let at = index_at c.args.self in let q = c.requires.index in let n = c.args.n in let h = c.in_ok-block.block in
    let al = c.in_ok-block.ensures.answer in let w = in_header c.args.self in
    let one = c.shift_non_null_links.ensures.changes in let k = meant n q.index.heap al c.saturating_mul.ensures in
    let o = taken_offer w al c.saturating_mul.ensures c.header_offset.ensures c.header_link.ensures
    c.unwrap_or-from.ensures q.index in
    let long = c.len-count.ensures.len q.table q.handles o.index in
    let few : 8 * c.len-count.result ≤ 8 * n = omega arith in
    let p = written o one few in let same = o.index.stands.link ∙ sym q.index.stands.link in
    let live : live_of c.shift_non_null_links.new.self.bytes ≡ added (live_of A.bytes) al.extent =
    same_live one ∙ allocated-live current A B c.saturating_mul.result IndexRole h al in
    let keeps = taken_keeps w al same (written_keeps o one few c.install_block.ensures.frame) in
    let laid = subst (λ (l : LiveSet).
    EncodesLiveSet current E.bytes l) (ap₂ without_link live (p.leads ∙ sym o.leads ∙ same))
    c.install_block.ensures.live in
    let before_live = allocated-live current A B c.saturating_mul.result IndexRole h al in
    let now = lay_out_one current E.bytes (without_link (added (live_of A.bytes) al.extent)
    (link_at (bytes_of A.bytes) at)) laid in
    let there : place (live_of A.bytes) (8 * n) IndexRole ≡ Some al.extent =
    subst (λ j. place (live_of A.bytes) j IndexRole ≡ Some al.extent) k al.placed in
    record {
      capacity = record {
        same = λ f. absurd (omega arith);
        reserved = λ f. record {
          extent = al.extent;
          placed = there;
          index = λ t hs i.
              let before = taken_offer w al c.saturating_mul.ensures c.header_offset.ensures c.header_link.ensures
              c.unwrap_or-from.ensures i in
              let many = c.len-count.ensures.len t hs before.index in
              let links = moved c.unwrap_or-from.result h hs (source before).links many
              c.shift_non_null_links.ensures.lead in
              subst (λ (x : Option Extent). IsIndexOf E at (record { capacity = n; extent = x }) hs)
              (ap (λ (l : LiveSet). extent_at l h) (same_live one) ∙ is_found al)
              (c.install_block.ensures.index hs links many i.whole);
          live = laid;
          keeps = keeps;
          order = keeps-sorted (λ g. record {
            each = λ x f role. (
              ap (λ (l : LiveSet). extent_at l g) now ∙ unlinked-found q.index g x f role (added (live_of A.bytes)
                  al.extent) (sym (ap (λ (l : LiveSet). extent_at l g) before_live) ∙ found_still g x al f),
              in-kept (without_index_block A at).extents g x keeps
                  (unlinked-found q.index g x f role (live_of A.bytes) f),
            );
          });
        };
      };
      noop = λ f. absurd (omega arith);
      steps_lower = let second = c.install_block.ensures.steps_lower in omega arith;
      progress = λ differ. omega (arith, c.in_ok-block.ensures.progress refl, c.install_block.ensures.steps_lower);
      steps = subst (λ (x : Option Extent).
          c.install_block.new.steps ≤ c.args.steps.now + (heap_touches (live_of A.bytes)
          + elim x [ None ↦ 0 | Some y ↦ heap_touches (added (live_of A.bytes) y) ])) (sym there)
          (let second : c.install_block.new.steps ≤ c.allocate.new.steps
          + heap_touches (added (live_of A.bytes) al.extent) = subst (λ (l : LiveSet).
          c.install_block.new.steps ≤ c.allocate.new.steps + heap_touches l) live c.install_block.ensures.steps
          in omega arith);
    }
