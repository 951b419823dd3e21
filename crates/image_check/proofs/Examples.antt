-- Six small images, as their words: their class, and the words of their object. And the counts of three tiles.
use Rattle.image_check.proofs.Common.{Anonymous, AreCounted, BadObject, Bytes, List, None, Numbers, Pairs, Some}
use Rattle.image_check.proofs.Common.{Storage, Texts, Tile, [], class_of, false, flat_map, refl, true, ℕ, ◌++◌, ◌∷◌}
use Rattle.image_check.proofs.Common.{◌≡◌}
use Rattle.std.proofs.Common.{negsuc}
use Rattle.raw_region.specs.Memory.{half_word_at, word_at, word_bytes, zeros}
use Rattle.raw_region.specs.Format.{current}
use Rattle.best_fit.specs.Table.{no_backing}
use Rattle.block_tags.specs.declared.tile.Role.TheVariants.{Object as ObjectRole}
use Rattle.seg_types.specs.declared.kinds.ScalarKind.TheVariants.{I64}
use Rattle.image_check.proofs.read_off.Directory.{read_off}

-- bytes from words
abbrev words : List ℕ → List ℕ
words = flat_map word_bytes

-- nothing in 176 bytes: one free tile
abbrev fresh : List ℕ
fresh = words (4993446653039301453 ∷ 2 ∷ 176 ∷ 120 ∷ 1 ∷ 0 ∷ 0 ∷ 1 ∷ 0 ∷ 0 ∷ []) ++ zeros 48
    ++ words (0 ∷ 32 ∷ 1 ∷ 1 ∷ 32 ∷ 1 ∷ [])

-- the image has no class
fresh_accepted : class_of current fresh ≡ None
unfolding word_at word_bytes half_word_at zeros current
fresh_accepted = refl

-- the number -2 in 48 bytes, and a free tile after it
abbrev one : List ℕ
one = words (4993446653039301453 ∷ 2 ∷ 224 ∷ 168 ∷ 1 ∷ 0 ∷ 0 ∷ 1 ∷ 0 ∷ 0 ∷ []) ++ zeros 48
    ++ words (0 ∷ 49 ∷ 4294967300 ∷ 0 ∷ 18446744073709551614 ∷ 77 ∷ 48 ∷ 32 ∷ 1 ∷ 1 ∷ 32 ∷ 1 ∷ [])

-- the image has no class
one_accepted : class_of current one ≡ None
unfolding word_at word_bytes half_word_at zeros current
one_accepted = refl

-- and denotes an anonymous object with -2
one_says : read_off current one
    ≡ record {
      size = 224;
      objects = record {
        class = Anonymous;
        name = [];
        value = Numbers I64 (negsuc 1 ∷ []);
        extent = record { offset = 128; len = 48; role = ObjectRole };
      } ∷ [];
      named = no_backing;
      unique = no_backing;
    }
unfolding read_off word_at word_bytes half_word_at zeros current
one_says = refl

-- an empty text in 64 bytes, and a free tile after it
abbrev text : List ℕ
text = words (4993446653039301453 ∷ 2 ∷ 240 ∷ 184 ∷ 1 ∷ 0 ∷ 0 ∷ 1 ∷ 0 ∷ 0 ∷ []) ++ zeros 48
    ++ words (0 ∷ 65 ∷ 4295032832 ∷ 0 ∷ 1 ∷ 0 ∷ 0 ∷ 77 ∷ 64 ∷ 32 ∷ 1 ∷ 1 ∷ 32 ∷ 1 ∷ [])

-- the image has no class
text_accepted : class_of current text ≡ None
unfolding word_at word_bytes half_word_at zeros current
text_accepted = refl

-- and denotes this text
text_says : read_off current text
    ≡ record {
      size = 240;
      objects = record {
        class = Anonymous;
        name = [];
        value = Bytes [] no_backing;
        extent = record { offset = 128; len = 64; role = ObjectRole };
      } ∷ [];
      named = no_backing;
      unique = no_backing;
    }
unfolding read_off word_at word_bytes half_word_at zeros current
text_says = refl

-- an empty vector of texts in such a tile
abbrev texts : List ℕ
texts = words (4993446653039301453 ∷ 2 ∷ 240 ∷ 184 ∷ 1 ∷ 0 ∷ 0 ∷ 1 ∷ 0 ∷ 0 ∷ []) ++ zeros 48
    ++ words (0 ∷ 65 ∷ 4295229440 ∷ 0 ∷ 1 ∷ 0 ∷ 0 ∷ 77 ∷ 64 ∷ 32 ∷ 1 ∷ 1 ∷ 32 ∷ 1 ∷ [])

-- the image has no class
texts_accepted : class_of current texts ≡ None
unfolding word_at word_bytes half_word_at zeros current
texts_accepted = refl

-- and denotes this vector
texts_says : read_off current texts
    ≡ record {
      size = 240;
      objects = record {
        class = Anonymous;
        name = [];
        value = Texts [] no_backing;
        extent = record { offset = 128; len = 64; role = ObjectRole };
      } ∷ [];
      named = no_backing;
      unique = no_backing;
    }
unfolding read_off word_at word_bytes half_word_at zeros current
texts_says = refl

-- an empty map from numbers to numbers, in such a tile
abbrev map : List ℕ
map = words (4993446653039301453 ∷ 2 ∷ 240 ∷ 184 ∷ 1 ∷ 0 ∷ 0 ∷ 1 ∷ 0 ∷ 0 ∷ []) ++ zeros 48
    ++ words (0 ∷ 65 ∷ 4295164932 ∷ 0 ∷ 1 ∷ 0 ∷ 0 ∷ 77 ∷ 64 ∷ 32 ∷ 1 ∷ 1 ∷ 32 ∷ 1 ∷ [])

-- the image has no class
map_accepted : class_of current map ≡ None
unfolding word_at word_bytes half_word_at zeros current
map_accepted = refl

-- and denotes this map
map_says : read_off current map
    ≡ record {
      size = 240;
      objects = record {
        class = Anonymous;
        name = [];
        value = Pairs I64 I64 [];
        extent = record { offset = 128; len = 64; role = ObjectRole };
      } ∷ [];
      named = no_backing;
      unique = no_backing;
    }
unfolding read_off word_at word_bytes half_word_at zeros current
map_says = refl

-- a number after its right kind, with a count of 0
abbrev wrong : List ℕ
wrong = words (4993446653039301453 ∷ 2 ∷ 224 ∷ 168 ∷ 1 ∷ 0 ∷ 0 ∷ 1 ∷ 0 ∷ 0 ∷ []) ++ zeros 48
    ++ words (0 ∷ 49 ∷ 4 ∷ 0 ∷ 18446744073709551614 ∷ 77 ∷ 48 ∷ 32 ∷ 1 ∷ 1 ∷ 32 ∷ 1 ∷ [])

-- the image has the class `BadObject`
wrong_class : class_of current wrong ≡ Some BadObject
unfolding word_at word_bytes half_word_at zeros current
wrong_class = refl

-- a number, a free tile and storage: one tile is free, two are in use
abbrev three : List Tile
three =
    record { offset = 128; len = 48; use_of = Some ObjectRole; red = false } ∷ record
    { offset = 176; len = 32; use_of = None; red = true }
    ∷ record { offset = 208; len = 64; use_of = Some Storage; red = false } ∷ []

three_counted : AreCounted three (record { free = 1; used = 2 })
three_counted = record { free = refl; used = refl }

-- without tiles both counts are 0
none_counted : AreCounted [] (record { free = 0; used = 0 })
none_counted = record { free = refl; used = refl }
