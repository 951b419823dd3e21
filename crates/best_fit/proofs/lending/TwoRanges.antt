-- Two ranges lent together, of which the first stays as it is.
use Rattle.best_fit.proofs.Common.{◌≡◌, refl, sym, ap, subst, ◌∙◌, ℕ, ◌+◌, ◌-◌, ◌≤◌, inl, inr, List, ◌++◌, length}
use Rattle.best_fit.proofs.Common.{take, drop, zero-add, arith, length_refill, refill, slice_index, WindowState, part}
use Rattle.best_fit.proofs.Common.{patched, length-part, length-patched, part-at, refill-all, whole-cut_at, Tile}
use Rattle.best_fit.proofs.Common.{current, IsHeap, live_of, payload_at, tiles_in}
use Rattle.std.specs.Fn.{Once}
use denote.Ref.{Bor, MutBor}
use Rattle.raw_region.specs.Regions.{AreDisjoint}
use Rattle.raw_region.specs.LentTwo.{with_two}
use Rattle.raw_region.proofs.Laws.{patched-all, same_bytes}
use Rattle.best_fit.specs.Pairs.{CallsOnTwo}
use Rattle.best_fit.proofs.gaps.Nodes.{Disjoint, in_around, row_disjoint}
use Rattle.best_fit.proofs.tags.TagsAndLiveSet.{heap-says, said_row}
use Rattle.best_fit.proofs.tags.UnchangedTags.{In}
use Rattle.best_fit.proofs.tags.Writes.{Block, block_payload}

-- writing back the same bytes changes nothing
patched_same : (b : List ℕ) (from n : ℕ) → from + n ≤ length b → patched b from (part b from n) ≡ b
patched_same b from n h = ap (λ (k : ℕ). take from b ++ part b from n ++ drop (from + k) b) (length-part b from n h)
    ∙ whole-cut_at b from n

-- the first range stays, so the second alone is written
pub second_written : (b : List ℕ) (from n from' n' : ℕ) (ws us : List ℕ) → from + n ≤ length b → ws ≡ part b from n
    → with_two b from n from' n' ws us ≡ patched b from' (refill n' (part b from' n') us)
second_written b from n from' n' ws us h e =
    let all : refill n (part b from n) ws ≡ part b from n = ap (refill n (part b from n)) e
    ∙ refill-all n (part b from n) (part b from n) (length-part b from n h) in
    ap (λ (vs : List ℕ). patched vs from' (refill n' (part b from' n') us)) (ap (patched b from) all
    ∙ patched_same b from n h)

-- the arguments and the result of a call, for both ranges
pub called : {F : Type 0} (g : Once F (Bor (List ℕ) × (MutBor (List ℕ) × Unit {0}))
    (Unit {0} × (MutBor (List ℕ) × Unit {0}))) (f : F) (x y : List ℕ) {p : Bor (List ℕ)} {q q' : MutBor (List ℕ)}
    → g.post f (p, (q, tt)) (tt, (q', tt)) → p.now ≡ x → q.now ≡ y → CallsOnTwo g f x y q'.now
called g f x y {p} {q} {q'} met reads shows = record {
  read = p;
  reads = reads;
  shown = q;
  shows = shows;
  kept = q';
  met = met;
  leaves = refl;
}

-- the same, where the bytes are known by other words
pub called_at : {F : Type 0} (g : Once F (Bor (List ℕ) × (MutBor (List ℕ) × Unit {0}))
    (Unit {0} × (MutBor (List ℕ) × Unit {0}))) (f : F) (x y x' y' left : List ℕ)
    → CallsOnTwo g f x y left → x ≡ x' → y ≡ y' → CallsOnTwo g f x' y' left
called_at g f x y x' y' left c e d = record {
  read = c.read;
  reads = c.reads ∙ e;
  shown = c.shown;
  shows = c.shows
      ∙ d;
  kept = c.kept;
  met = c.met;
  leaves = c.leaves;
}

-- a part that is all
pub whole_part : (b : List ℕ) (n : ℕ) → n ≡ length b → part b 0 n ≡ b
whole_part b n e =
    let len = length-part b 0 n (omega arith) in
    same_bytes (part b 0 n) b (len ∙ e) (λ k l. part-at b 0 n k (omega arith) ∙ ap (slice_index b) (zero-add k))

-- all of the bytes lent, of which a part is written
pub all_lent : (b B N : List ℕ) (size from n : ℕ) (us : List ℕ) → size ≡ length b → B ≡ part b 0 size
    → from + n ≤ length b → N ≡ patched B from (refill n (part B from n) us)
    → patched b 0 (refill size (part b 0 size) N) ≡ patched b from (refill n (part b from n) us)
all_lent b B N size from n us s e h is =
    let B_is : B ≡ b = e ∙ whole_part b size s in
    let N_is : N ≡ patched b from (refill n (part b from n) us) = is
    ∙ ap (λ (v : List ℕ). patched v from (refill n (part v from n) us)) B_is in
    let filled = length_refill n (part b from n) us (sym (length-part b from n h)) in
    let len : length N ≡ length b = ap (λ (v : List ℕ). length v) N_is
    ∙ length-patched b from (refill n (part b from n) us) (omega arith) in
    ap (λ (v : List ℕ). patched b 0 v) (refill-all size (part b 0 size) N (len ∙ sym s)) ∙ patched-all b N len ∙ N_is

-- two blocks have no byte in common
pub blocks_apart : (w : WindowState) (h g n m : ℕ) → IsHeap current w.bytes → (b : Block w h) → (d : Block w g)
    → (h ≡ g → ⊥)
    → n ≡ b.tile.len - 16 → m ≡ d.tile.len - 16 → AreDisjoint h n g m
blocks_apart w h g n m heap b d other e f =
    let row = said_row w (tiles_in w) (heap-says w heap).said in
    let i : In b.tile (tiles_in w) = subst (λ (ts : List Tile). In b.tile ts) (sym b.list)
    (in_around b.front b.tile b.back) in
    let j : In d.tile (tiles_in w) = subst (λ (ts : List Tile). In d.tile ts) (sym d.list)
    (in_around d.front d.tile d.back) in
    by_case (row_disjoint 128 (tiles_in w) (length w.bytes - 16) b.tile d.tile row i j)
  where
    by_case : Disjoint b.tile d.tile → AreDisjoint h n g m
    by_case (inl same) = let o = b.at in let p = d.at in let q : b.tile.offset ≡ d.tile.offset =
        ap (λ (t : Tile). t.offset) same in absurd (other (omega arith))
    by_case (inr (inl l)) = let o = b.at in let p = d.at in let long = b.long in inr (inr (inl (omega arith)))
    by_case (inr (inr l)) = let o = b.at in let p = d.at in let long = d.long in inr (inr (inr (omega arith)))

-- a part of all bytes is the payload of a block
pub payload_lent : (v w : WindowState) (B : List ℕ) (size h n : ℕ) → v ≡ w → size ≡ length w.bytes
    → B ≡ part w.bytes 0 size
    → (b : Block w h) → n ≡ b.tile.len - 16 → part B h n ≡ payload_at v.bytes (live_of v.bytes) h
payload_lent v w B size h n e s lent b len =
    ap (λ (x : List ℕ). part x h n) (lent ∙ whole_part w.bytes size s) ∙ ap (part w.bytes h) len
    ∙ sym (block_payload w h b) ∙ ap (λ (u : WindowState). payload_at u.bytes (live_of u.bytes) h) (sym e)
