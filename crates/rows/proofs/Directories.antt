-- What is nearly a directory, and what nearly stands in memory, and is none and does not.
use Rattle.std.proofs.Common.{◌≡◌, refl, ap, ℕ, pos, List, [], ◌∷◌, Some, None, true, false, length, arith}
use Rattle.raw_region.specs.Memory.{Memory, bytes_of, word_at, word_bytes}
use Rattle.offset_link.specs.Link.{link_at}
use Rattle.block_tags.specs.declared.tile.Role.TheVariants.{Object, Storage}
use Rattle.best_fit.specs.Table.{no_backing}
use Rattle.seg_types.specs.declared.kinds.ScalarKind.TheVariants.{I64}
use Rattle.seg_types.specs.declared.kinds.Class.TheVariants.{Anonymous}
use Rattle.seg_vector.specs.Vector.{IsVectorAt, IsTextAt, IsTextsAt}
use Rattle.seg_index.specs.Index.{IsIndexAt}
use Rattle.segment_manager.specs.Directory.{Object as SomeObject, Texts, has_own_block, is_object}
use Rattle.rows.proofs.Images.{words, extent, table}

-- ---- a vector of one text of one byte, in a block of its own

abbrev one_text : ℕ → SomeObject
one_text byte = record {
  class = Anonymous;
  name = [];
  value = Texts (record { bytes = byte ∷ []; extent = Some (extent 224 32 Storage) } ∷ [])
      (table 1 (extent 192 32 Storage));
  extent = extent 128 64 Object;
}

text : is_object 2 (one_text 255) ≡ true
text = refl

-- 256 is no byte, though the blocks are right
right_block : has_own_block (record { bytes = 256 ∷ []; extent = Some (extent 224 32 Storage) }) ≡ true
right_block = refl

no_byte : is_object 2 (one_text 256) ≡ false
no_byte = refl

-- ---- without a block there is no element, whatever the words say

not_empty : {A : Type 0} (x : A) (xs : List A) → x ∷ xs ≡ [] → ⊥
not_empty x xs e = let n = ap length e in omega arith

-- the three words: the null link, the length 1 and the capacity 0
abbrev null_words : Memory
null_words = bytes_of (words (1 ∷ 1 ∷ 0 ∷ []))

null_link : link_at null_words 0 ≡ None
unfolding word_at word_bytes
null_link = refl

len_word : word_at null_words 8 ≡ 1
unfolding word_at word_bytes
len_word = refl

capacity_word : word_at null_words 16 ≡ 0
unfolding word_at word_bytes
capacity_word = refl

no_vector : (m : Memory) → IsVectorAt m 0 I64 (pos 5 ∷ []) no_backing → ⊥
no_vector m h = not_empty 5 _ h.storage

no_text : (m : Memory) → IsTextAt m 0 (5 ∷ []) no_backing → ⊥
no_text m h = not_empty 5 [] h.storage

-- an array with an empty text, and a text of one byte in no block
no_array : (m : Memory) → IsTextsAt m 0 (record { bytes = []; extent = None } ∷ []) no_backing → ⊥
no_array m h = not_empty _ [] h.array

no_bytes : (m : Memory) → IsTextsAt m 0 (record { bytes = 5 ∷ []; extent = None } ∷ [])
    (table 1 (extent 192 32 Storage)) → ⊥
no_bytes m h = not_empty 5 [] h.texts.0

no_entry : (m : Memory) → IsIndexAt m 32 no_backing (144 ∷ []) → ⊥
no_entry m h = not_empty 144 [] h.entries
