-- The links of an index that passes its test, by their numbers.
use Rattle.image_check.proofs.Common.{Index, IsSome, List, Memory, None, Option, Some, Tile, and_parts, ap, arith}
use Rattle.image_check.proofs.Common.{entries, good_for, has_index, index_capacity, is_among, is_some, is_table_link}
use Rattle.image_check.proofs.Common.{link_at, links_in, list_all, list_all-append, nat_le, refl, sym, targets, true, ℕ}
use Rattle.image_check.proofs.Common.{◌&&◌, ◌*◌, ◌++◌, ◌+◌, ◌<◌, ◌∙◌, ◌∷◌, ◌≡◌}
use Rattle.std.proofs.Common.{Bool}
use Rattle.raw_region.specs.Memory.{word_at}
use Rattle.block_tags.specs.declared.tile.Role.TheVariants.{Object}
use Rattle.image_check.proofs.indexes.AllEntries.{targets-split, targets_of}
use Rattle.image_check.proofs.indexes.Entries.{entries_in}
use Rattle.image_check.proofs.indexes.Places.{IsIndexRoom, room-of}
use Rattle.image_check.proofs.read_off.Numbers.{unguarded}
use Rattle.image_check.proofs.bytes.Members.{Mem-is_among, mem_right}
use Rattle.image_check.proofs.bytes.Ranges.{split}
use mathlib.Core.Logic.{inl}

good-some : (ts : List Tile) (link : Option ℕ) → is_some (good_for ts Object link) ≡ true → IsSome link
good-some ts None h = h
good-some ts (Some n) h = refl

module _ (m : Memory) (ts : List Tile) (at block : ℕ) (h : has_index m ts at ≡ true) (e : link_at m at
    ≡ Some block) where
  abbrev count : ℕ
  count = word_at m (at + 8)

  abbrev link : ℕ → Option ℕ
  link i = link_at m (block + 8 * i)

  tests : ((nat_le (word_at m (at + 8)) (index_capacity m at)
      && is_table_link ts Index (link_at m at) 8 (index_capacity m at)) ≡ true)
      × (list_all (λ link. is_some (good_for ts Object link)) (entries m at) ≡ true)
  tests = unguarded (nat_le (word_at m (at + 8)) (index_capacity m at)
      && is_table_link ts Index (link_at m at) 8 (index_capacity m at))
      (list_all (λ link. is_some (good_for ts Object link)) (entries m at)) h

  -- its block has room for its entries
  pub index-room : IsIndexRoom ts block (word_at m (at + 8))
  index-room = room-of m ts at block tests.0 e

  entries-there : entries m at ≡ links_in m block (word_at m (at + 8))
  entries-there = ap (entries_in m (word_at m (at + 8))) e

  -- no entry is null
  pub entry-some : (i : ℕ) → i < word_at m (at + 8) → IsSome (link_at m (block + 8 * i))
  entry-some i l =
      let good : Option ℕ → Bool = λ link. is_some (good_for ts Object link) in
      let s = split link 0 i count i (omega arith) l in
      let all : list_all good (links_in m block i ++ link i ∷ s.back) ≡ true =
      ap (list_all good) (sym s.all ∙ sym entries-there) ∙ tests.1 in
      let p = and_parts (list_all good (links_in m block i)) (list_all good (link i ∷ s.back))
      (sym (list_all-append good (links_in m block i) (link i ∷ s.back)) ∙ all) in
      good-some ts (link i) (and_parts (good (link i)) (list_all good s.back) p.1).0

  -- and each entry leads to one of the targets
  pub entry-among : (i n : ℕ) → i < word_at m (at + 8) → link_at m (block + 8 * i) ≡ Some n
      → is_among (targets m at) n ≡ true
  entry-among i n l f =
      let s = split link 0 i count i (omega arith) l in
      let front = targets_of (links_in m block i) in
      let all : targets m at ≡ front ++ n ∷ targets_of s.back =
      ap targets_of (entries-there ∙ s.all) ∙ targets-split (links_in m block i) s.back (link i) n f in
      ap (λ xs. is_among xs n) all ∙ Mem-is_among (front ++ n ∷ targets_of s.back) n
      (mem_right n front (n ∷ targets_of s.back) (inl refl))
