-- Changes of a live set, as the calls of a heap make them, and directories in other sizes.
use Rattle.std.proofs.Common.{◌≡◌, refl, ℕ, pos, [], ◌∷◌, Some, None, false, map, find, option_map, codes}
use Rattle.std.specs.Prelude.{◌==◌}
use Rattle.block_tags.specs.declared.tile.Role.TheVariants.{Object, Index}
use Rattle.block_tags.specs.Tiles.{tiles_of}
use Rattle.block_tags.specs.declared.tile.Tile.{Tile}
use Rattle.raw_region.specs.Memory.{bytes_of, word_at, word_bytes, zeros}
use Rattle.best_fit.specs.Extents.{Extent, LiveSet, handle, gaps, free_bytes}
use Rattle.best_fit.specs.Fit.{place, longer, shorter, added, released, resized}
use Rattle.best_fit.specs.FreeTree.{sorted_gaps, payloads}
use Rattle.seg_types.specs.declared.kinds.ScalarKind.TheVariants.{I64}
use Rattle.seg_types.specs.declared.refusals.Refusal.TheVariants.{OutOfRange}
use Rattle.seg_types.specs.Names.{ByName}
use Rattle.seg_types.specs.Commands as asked
use Rattle.segment_manager.specs.declared.modes.Mode.TheVariants.{Write, ReadOnly}
use Rattle.segment_manager.specs.Directory.{empty, live}
use Rattle.segment_manager.specs.Answers.{Made, Refused}
use Rattle.segment_manager.specs.Step.{step}
use Rattle.grow_shrink.specs.declared.refusals.GrowError.TheVariants.{ReadOnly as ReadOnlyError, BadGrow, TooLarge}
use Rattle.grow_shrink.specs.declared.refusals.GrowError.TheVariants.{RegionTooSmall}
use Rattle.grow_shrink.specs.Resized.{grown, shrunk, growth_refusal}
use Rattle.rows.proofs.Images.{named_image, with_number}

-- ---- a heap in a window of 1024

abbrev allocated : LiveSet → ℕ → LiveSet
allocated live n = elim (place live n Object) [ None ↦ live | Some x ↦ added live x ]

abbrev block : LiveSet → ℕ → Extent
block live h = elim (find (λ (x : Extent). handle x == h) live.extents) [
  | None ↦ record {
    offset = 0;
    len = 0;
    role = Object;
  }
  | Some x ↦ x
]

abbrev lengthened : LiveSet → Extent → ℕ → LiveSet
lengthened live x n = elim (longer live x n) [ None ↦ live | Some y ↦ resized live y ]

abbrev four : LiveSet
four = allocated (allocated (allocated (allocated (record { size = 1024; extents = [] }) 64) 16) 32) 16

abbrev two : LiveSet
two = released (released four 144) 256

abbrev three : LiveSet
three = allocated two 32

abbrev longer_last : LiveSet
longer_last = lengthened three (block three 304) 40

four_blocks : map handle four.extents ≡ 144 ∷ 224 ∷ 256 ∷ 304 ∷ []
unfolding place
four_blocks = refl

-- the first gap that is long enough would be the one at 128
best_not_first : option_map handle (place two 32 Object) ≡ Some 256
unfolding place
best_not_first = refl

free_of_three : free_bytes three ≡ 768
unfolding place free_bytes
free_of_three = refl

free_when_longer : free_bytes longer_last ≡ 736
unfolding place longer free_bytes
free_when_longer = refl

no_gap_behind : longer longer_last (block longer_last 224) 40 ≡ None
unfolding place longer
no_gap_behind = refl

rest_too_short : (shorter longer_last (block longer_last 256) 16).len ≡ 48
unfolding place longer shorter
rest_too_short = refl

free_when_shorter : free_bytes (resized longer_last (shorter longer_last (block longer_last 304) 16)) ≡ 768
unfolding place longer shorter free_bytes
free_when_shorter = refl

too_much : place three 2000 Object ≡ None
unfolding place
too_much = refl

above_the_limit : place three 1073741825 Object ≡ None
unfolding place
above_the_limit = refl

-- the free tree lists the gaps by length, and then by offset
abbrev four_small : LiveSet
four_small = allocated (allocated (allocated (allocated (record { size = 1024; extents = [] }) 24) 24) 24) 24

tree_order : payloads (sorted_gaps (gaps (released (released four_small 144) 240))) ≡ 144 ∷ 240 ∷ 336 ∷ []
unfolding place gaps
tree_order = refl

-- ---- tiles

abbrev tile : ℕ → ℕ → Tile
tile offset len = record { offset = offset; len = len; use_of = None; red = false }

named_tiles : tiles_of (bytes_of named_image) 1024
    ≡ record (tile 128 48) { use_of = Some Index } ∷ record (tile 176 48) { use_of = Some Object } ∷ tile 224 784 ∷ []
unfolding word_at word_bytes zeros
named_tiles = refl

-- ---- an iterator that ends too early, after all requests were met: nothing changes

too_few_items : step Write (empty 1024) (asked.ConstructIt (ByName (codes "v")) I64 3 (pos 1 ∷ pos 2 ∷ []))
    ≡ (Refused OutOfRange, empty 1024)
unfolding step
too_few_items = refl

enough_items : (step Write (empty 1024)
    (asked.ConstructIt (ByName (codes "v")) I64 3 (pos 1 ∷ pos 2 ∷ pos 3 ∷ []))).0 ≡ Made 192
unfolding step
enough_items = refl

-- ---- other sizes

shrunk_size : (shrunk with_number).size ≡ 240
unfolding live
shrunk_size = refl

shrunk_free : free_bytes (live (shrunk with_number)) ≡ 0
unfolding live free_bytes
shrunk_free = refl

grown_free : free_bytes (live (grown (shrunk with_number) 32)) ≡ 32
unfolding live free_bytes
grown_free = refl

shrunk_empty : (shrunk (empty 1024)).size ≡ 144
unfolding live
shrunk_empty = refl

growth_of_16 : growth_refusal Write 1024 16 4096 ≡ Some BadGrow
growth_of_16 = refl

growth_to_the_sky : growth_refusal Write 1024 1073741824 4096 ≡ Some TooLarge
growth_to_the_sky = refl

growth_past_the_region : growth_refusal Write 1024 32 1024 ≡ Some RegionTooSmall
growth_past_the_region = refl

growth_for_reading : growth_refusal ReadOnly 1024 16 1024 ≡ Some ReadOnlyError
growth_for_reading = refl

growth : growth_refusal Write 1024 32 1056 ≡ None
growth = refl
