-- The extents of a directory, which are proper at its size, are so at larger sizes, and at the least one that is not
-- before their end.
use Rattle.std.proofs.Common.{◌≡◌, ◌∙◌, subst, length, ℕ, ◌+◌, ◌-◌, ◌%◌, ◌≤◌, ◌⊎◌, inl, inr, ◌&&◌, List, [], ◌∷◌, arith}
use Rattle.std.proofs.Common.{nat_le, ◌==◌, IsTrue}
use Rattle.std.proofs.lemmas.Bool.{and_parts, and_from, or_left, or_right, eq-eqb, le-leb}
use Rattle.block_tags.specs.Format.{is_legal_size}
use Rattle.best_fit.specs.Extents.{Extent, end_of, is_proper, proper_from}
use Rattle.best_fit.proofs.Laws.{IsBlock, IsFirst, IsFirst-proper_from, IsHole, IsLegal, is_hole-IsHole, legal_size}
use Rattle.best_fit.proofs.Laws.{proper_from-IsFirst}
use Rattle.segment_manager.specs.Directory.{Directory, live}
use Rattle.segment_manager.specs.State.{IsSegment}
use Rattle.segment_manager.proofs.Laws.{live-size}
use Rattle.best_fit.specs.Ends.{last_end}
use Rattle.grow_shrink.specs.Resized.{GrownIsDirectory, ShrunkIsDirectory, ShrunkIsLeast}

-- ---- legal sizes

-- the test of a size with room for a block
larger-is_legal : (size : ℕ) → size % 16 ≡ 0 → 176 ≤ size → size ≤ 1073741824 → IsTrue (is_legal_size size)
larger-is_legal size whole low high =
    or_right (size == 144) ((size % 16 == 0) && nat_le 176 size && nat_le size 1073741824)
    (and_from ((size % 16 == 0) && nat_le 176 size) (nat_le size 1073741824)
    (and_from (size % 16 == 0) (nat_le 176 size) (eq-eqb (size % 16) 0 whole) (le-leb 176 size low))
    (le-leb size 1073741824 high))

-- ---- holes and blocks

-- the same extent, and others after it
with_rest : (from : ℕ) (x : Extent) (xs : List Extent) (to to' : ℕ) → IsFirst from x xs to
    → IsTrue (proper_from (end_of x) xs to') → IsTrue (proper_from from (x ∷ xs) to')
with_rest from x xs to to' f rest =
    IsFirst-proper_from from x xs to' (record { hole = f.hole; block = f.block; rest = rest })

-- a hole ends where it begins or later
hole-reaches : (a b : ℕ) → IsHole a b → a ≤ b
hole-reaches a b (inl e) = omega arith
hole-reaches a b (inr l) = omega arith

-- a block ends at a multiple of 16, at least 32 bytes on
record Ends (x : Extent) : Type 0 where
  whole : end_of x % 16 ≡ 0
  long : x.offset + 32 ≤ end_of x

block-ends : (x : Extent) → IsBlock x → Ends x
block-ends x b =
    let at = b.offset in let len = b.len in let long = b.long in
    record { whole = omega arith; long = omega arith }

-- ---- proper lists up to another end

-- up to a later one, if enough for a free block lies between
proper-farther : (from : ℕ) (xs : List Extent) (to to' : ℕ) → IsTrue (proper_from from xs to) → to + 32 ≤ to'
    → IsTrue (proper_from from xs to')
proper-farther from [] to to' h l =
    let reaches = hole-reaches from to (is_hole-IsHole from to h) in
    or_right (from == to') (nat_le (from + 32) to') (le-leb (from + 32) to' (omega arith))
proper-farther from (x ∷ xs) to to' h l =
    let f = proper_from-IsFirst from x xs to h
    in with_rest from x xs to to' f (proper-farther (end_of x) xs to to' f.rest l)

-- up to where the last extent ends
proper-to_last : (from : ℕ) (xs : List Extent) (to : ℕ) → IsTrue (proper_from from xs to)
    → IsTrue (proper_from from xs (last_end from xs))
proper-to_last from [] to h = or_left (from == from) (nat_le (from + 32) from) (eq-eqb from from (λ i. from))
proper-to_last from (x ∷ xs) to h =
    let f = proper_from-IsFirst from x xs to h
    in with_rest from x xs to (last_end (end_of x) xs) f (proper-to_last (end_of x) xs to f.rest)

-- where that is
record IsEnd (from to end : ℕ) : Type 0 where
  whole : end % 16 ≡ 0
  within : end ≤ to
  least : (end ≡ from) ⊎ (from + 32 ≤ end)

end-behind : (from at mid to end : ℕ) → from ≤ at → at + 32 ≤ mid → IsEnd mid to end → IsEnd from to end
end-behind from at mid to end a b e =
    record { whole = e.whole; within = e.within; least = inr (let least = e.least in omega arith) }

last-end : (from : ℕ) (xs : List Extent) (to : ℕ) → from % 16 ≡ 0 → IsTrue (proper_from from xs to)
    → IsEnd from to (last_end from xs)
last-end from [] to whole h = record {
  whole = whole;
  within = hole-reaches from to (is_hole-IsHole from to h);
  least = inl (λ i. from);
}
last-end from (x ∷ xs) to whole h =
    let f = proper_from-IsFirst from x xs to h in
    let ends = block-ends x f.block in
    end-behind from x.offset (end_of x) to (last_end (end_of x) xs) (hole-reaches from x.offset f.hole) ends.long
    (last-end (end_of x) xs to ends.whole f.rest)

-- ---- directories

-- what a proper live set says
record IsProper (size : ℕ) (xs : List Extent) : Type 0 where
  whole_size : IsLegal size
  list : IsTrue (proper_from 128 xs (size - 16))

proper : (d : Directory) → IsTrue (is_proper (live d)) → IsProper d.size (live d).extents
unfolding is_proper live
proper d h =
    let parts = and_parts (is_legal_size d.size) (proper_from 128 (live d).extents (d.size - 16)) h in
    record { whole_size = legal_size d.size parts.0; list = parts.1 }

-- the bytes that denote a directory are no more than those of the largest segment
pub segment-most : (b : List ℕ) → IsSegment b → length b ≤ 1073741824
segment-most b (d, h) =
    let p = proper d h.denotes.directory.proper in
    let high = p.whole_size.high in
    let same = h.denotes.heap.size ∙ live-size d in
    omega (arith, high, same)

-- the directory at another size where its live set is proper
at_size : (d : Directory) (size : ℕ) → IsTrue (is_legal_size size)
    → IsTrue (proper_from 128 (live d).extents (size - 16)) → IsTrue (is_proper (live (record d { size = size })))
unfolding is_proper live
at_size d size h list = and_from (is_legal_size size) (proper_from 128 (live d).extents (size - 16)) h list

-- law: a grown directory is one
pub grown-directory : GrownIsDirectory
grown-directory format d extra is more whole most =
    let p = proper d is.proper in
    let low = p.whole_size.low in let even = p.whole_size.whole in
    record {
      proper = at_size d (d.size + extra) (larger-is_legal (d.size + extra) (omega arith) (omega arith) most)
          (proper-farther 128 (live d).extents (d.size - 16) (d.size + extra - 16) p.list (omega arith));
      objects = is.objects;
      by_offset = is.by_offset;
      named = is.named;
      unique = is.unique;
    }

-- the size that ends after the last extent
least-is_legal : (end : ℕ) → end % 16 ≡ 0 → (end ≡ 128) ⊎ (160 ≤ end) → end + 16 ≤ 1073741824
    → IsTrue (is_legal_size (end + 16))
least-is_legal end whole (inl e) most =
    or_left (end + 16 == 144) (((end + 16) % 16 == 0) && nat_le 176 (end + 16) && nat_le (end + 16) 1073741824)
    (eq-eqb (end + 16) 144 (omega arith))
least-is_legal end whole (inr l) most = larger-is_legal (end + 16) (omega arith) (omega arith) most

-- law: a shrunk directory is one
pub shrunk-directory : ShrunkIsDirectory
shrunk-directory format d is =
    let p = proper d is.proper in
    let e = last-end 128 (live d).extents (d.size - 16) (λ i. 0) p.list in
    let low = p.whole_size.low in let most = p.whole_size.high in let within = e.within in
    let back : last_end 128 (live d).extents ≡ last_end 128 (live d).extents + 16 - 16 = omega arith in
    record {
      proper = at_size d (last_end 128 (live d).extents + 16)
          (least-is_legal (last_end 128 (live d).extents) e.whole e.least (omega arith))
          (subst (λ n. IsTrue (proper_from 128 (live d).extents n)) back
          (proper-to_last 128 (live d).extents (d.size - 16) p.list));
      objects = is.objects;
      by_offset = is.by_offset;
      named = is.named;
      unique = is.unique;
    }

-- the extents are those of the directory at the other size
same-extents : (d : Directory) (size : ℕ) → (live (record d { size = size })).extents ≡ (live d).extents
unfolding live
same-extents d size = λ i. (live d).extents

-- law: a shrunk directory has the least size
pub shrunk-least : ShrunkIsLeast
shrunk-least format d size is other =
    let p = proper (record d { size = size }) other.proper in
    let low = p.whole_size.low in
    let e = last-end 128 (live d).extents (size - 16) (λ i.
    0) (subst (λ xs. IsTrue (proper_from 128 xs (size - 16))) (same-extents d size) p.list) in
    let within = e.within in omega arith
