-- Images in format 2, and the directories that they denote.
use Rattle.std.proofs.Common.{◌≡◌, refl, ℕ, pos, List, [], ◌∷◌, ◌++◌, Some, codes, true, false}
use Rattle.std.specs.Prelude.{flat_map, ◌*◌}
use Rattle.raw_region.specs.Memory.{word_bytes, word_at, half_word_at, zeros}
use Rattle.link_tree.specs.Tree.{Tree, leaf, fork}
use Rattle.block_tags.specs.declared.tile.Role.{Role}
use Rattle.block_tags.specs.declared.tile.Role.TheVariants.{Object, Index, Storage, Node}
use Rattle.best_fit.specs.Extents.{Extent, gaps, is_proper}
use Rattle.best_fit.specs.Table.{BackingArray, no_backing}
use Rattle.seg_types.specs.declared.kinds.ScalarKind.TheVariants.{I64}
use Rattle.seg_types.specs.declared.kinds.Class.TheVariants.{Named}
use Rattle.seg_types.specs.Names.{is_text_name}
use Rattle.seg_map.specs.Numbers.{NumberPair}
use Rattle.segment_manager.specs.declared.modes.Mode.TheVariants.{Write}
use Rattle.segment_manager.specs.Directory.{Directory, Object as SomeObject, Value, Numbers, Elements, Pairs, empty}
use Rattle.segment_manager.specs.Directory.{live}
use Rattle.segment_manager.specs.Denotes.{Denotes}
use Rattle.segment_lang.specs.Language.{whole_language}
use Rattle.segment_cli.specs.Run.{run}
use Rattle.rows.proofs.OneGap.{denotes, one_node}

-- the bytes of words
abbrev pub words : List ℕ → List ℕ
words = flat_map word_bytes

-- `MSEGFILE` as a word
abbrev pub magic_word : ℕ
magic_word = 4993446653039301453

-- an extent of an object's block
abbrev pub extent : ℕ → ℕ → Role → Extent
extent offset len role = record { offset = offset; len = len; role = role }

-- the storage in a block
abbrev pub table : ℕ → Extent → BackingArray
table capacity x = record { capacity = capacity; extent = Some x }

abbrev named : List ℕ → Value → Extent → SomeObject
named name value x = record { class = Named; name = name; value = value; extent = x }

abbrev directory : List SomeObject → Directory
directory os = record { size = 1024; objects = os; named = table 4 (extent 128 48 Index); unique = no_backing }

-- ---- a fresh segment of 176 bytes

-- the image of an empty segment
abbrev pub fresh_image : List ℕ
fresh_image =
    words (magic_word ∷ 2 ∷ 176 ∷ 120 ∷ 1 ∷ 0 ∷ 0 ∷ 1 ∷ []) ++ zeros 72 ++ words (32 ∷ 1 ∷ 1 ∷ 32 ∷ 1 ∷ [])

fresh_denotes : Denotes 2 fresh_image (empty 176)
unfolding live gaps is_proper word_at word_bytes half_word_at zeros is_text_name
fresh_denotes = denotes fresh_image (empty 176) 144 (record {
  size = refl;
  tests = refl;
  numbers = refl;
  links = refl;
  tiles = refl;
  node = refl;
  listed = refl;
}) refl refl tt

-- ---- the segment of 1024 bytes with the number 5 under the name a

-- an image with one named object
abbrev pub named_image : List ℕ
named_image =
    words (magic_word ∷ 2 ∷ 1024 ∷ 216 ∷ 112 ∷ 1 ∷ 4 ∷ 1 ∷ []) ++ zeros 72
    ++ words (53 ∷ 48 ∷ 0 ∷ 0 ∷ 0 ∷ 48 ∷ 49 ∷ 4294967300 ∷ 4294967297 ∷ 97 ∷ 5 ∷ 48 ∷ 784 ∷ 1 ∷ 1 ∷ [])
    ++ zeros 752 ++ words (784 ∷ 1 ∷ [])

-- the directory with one number
abbrev pub with_number : Directory
with_number = directory (named (97 ∷ []) (Numbers I64 (pos 5 ∷ [])) (extent 176 48 Object) ∷ [])

number_made : (run (whole_language 2) Write (empty 1024) (codes "construct i64 a 5\n")).1 ≡ with_number
unfolding run
number_made = refl

named_denotes : Denotes 2 named_image with_number
unfolding live gaps is_proper word_at word_bytes half_word_at zeros is_text_name
named_denotes = denotes named_image with_number 240 (record {
  size = refl;
  tests = refl;
  numbers = refl;
  links = refl;
  tiles = refl;
  node = refl;
  listed = refl;
}) (refl, tt) refl (record { kind_count = refl; name_class = refl; name = refl; value = refl }, tt)

-- ---- two names

-- an image with two names
abbrev pub two_names_image : List ℕ
two_names_image =
    words (magic_word ∷ 2 ∷ 1024 ∷ 264 ∷ 112 ∷ 2 ∷ 4 ∷ 1 ∷ []) ++ zeros 72
    ++ words (53 ∷ 48 ∷ 88 ∷ 0 ∷ 0 ∷ 48 ∷ 49 ∷ 4294967300 ∷ 4294967297 ∷ 97 ∷ 5 ∷ 48 ∷ 49 ∷ 4294967300 ∷ 4294967297
    ∷ 98 ∷ 6 ∷ 48 ∷ 736 ∷ 1 ∷ 1 ∷ [])
    ++ zeros 704 ++ words (736 ∷ 1 ∷ [])

-- ---- two vectors

-- an image with two vectors
abbrev pub vectors_image : List ℕ
vectors_image =
    words (magic_word ∷ 2 ∷ 1024 ∷ 360 ∷ 112 ∷ 2 ∷ 4 ∷ 1 ∷ []) ++ zeros 72
    ++ words (53 ∷ 48 ∷ 136 ∷ 0 ∷ 0 ∷ 48 ∷ 65 ∷ 4295098372 ∷ 4294967297 ∷ 118 ∷ 40 ∷ 1 ∷ 1 ∷ 64 ∷ 41 ∷ 1 ∷ 0 ∷ 32
    ∷ 65 ∷ 4295098372 ∷ 4294967297 ∷ 119 ∷ 40 ∷ 1 ∷ 1 ∷ 64 ∷ 41 ∷ 2 ∷ 0 ∷ 32 ∷ 640 ∷ 1 ∷ 1 ∷ [])
    ++ zeros 608 ++ words (640 ∷ 1 ∷ [])

abbrev vector : ℕ → ℕ → Value
vector x storage = Elements I64 (pos x ∷ []) (table 1 (extent storage 32 Storage))

abbrev with_vectors : Directory
with_vectors = directory (named (118 ∷ []) (vector 1 240) (extent 176 64 Object)
    ∷ named (119 ∷ []) (vector 2 336) (extent 272 64 Object) ∷ [])

vectors_made : (run (whole_language 2) Write (empty 1024) (codes "construct vec<i64> v 1\nconstruct vec<i64> w 2\n")).1
    ≡ with_vectors
unfolding run
vectors_made = refl

vectors_denote : Denotes 2 vectors_image with_vectors
unfolding live gaps is_proper word_at word_bytes half_word_at zeros is_text_name
vectors_denote = denotes vectors_image with_vectors 384 (record {
  size = refl;
  tests = refl;
  numbers = refl;
  links = refl;
  tiles = refl;
  node = refl;
  listed = refl;
}) (refl, (refl, tt)) refl (
  record {
    kind_count = refl;
    name_class = refl;
    name = refl;
    value =
        record { link = refl; len_word = refl; capacity = refl; storage = refl };
  },
  (
    record {
      kind_count = refl;
      name_class = refl;
      name = refl;
      value = record { link = refl; len_word = refl; capacity = refl; storage = refl };
    },
    tt,
  ),
)

-- ---- a map of one pair, and one of seven

-- an image with a pair
abbrev pub pair_image : List ℕ
pair_image =
    words (magic_word ∷ 2 ∷ 1024 ∷ 280 ∷ 112 ∷ 1 ∷ 4 ∷ 1 ∷ []) ++ zeros 72
    ++ words (53 ∷ 48 ∷ 0 ∷ 0 ∷ 0 ∷ 48 ∷ 65 ∷ 4295164932 ∷ 4294967297 ∷ 109 ∷ 40 ∷ 1 ∷ 0 ∷ 64 ∷ 61 ∷ 1 ∷ 1 ∷ 1 ∷ 10
    ∷ 48 ∷ 720 ∷ 1 ∷ 1 ∷ [])
    ++ zeros 688 ++ words (720 ∷ 1 ∷ [])

abbrev pair : ℕ → ℕ → NumberPair
pair key node = record { key = pos key; value = pos (10 * key); node = extent node 48 Node }

abbrev map_of : List NumberPair → Directory
map_of ps = directory (named (109 ∷ []) (Pairs I64 I64 ps) (extent 176 64 Object) ∷ [])

abbrev with_pair : Directory
with_pair = map_of (pair 1 240 ∷ [])

pair_made : (run (whole_language 2) Write (empty 1024) (codes "construct map<i64,i64> m\nput m 1 10\n")).1 ≡ with_pair
unfolding run
pair_made = refl

pair_denotes : Denotes 2 pair_image with_pair
unfolding live gaps is_proper word_at word_bytes half_word_at zeros is_text_name
pair_denotes = denotes pair_image with_pair 304 (record {
  size = refl;
  tests = refl;
  numbers = refl;
  links = refl;
  tiles = refl;
  node = refl;
  listed = refl;
}) (refl, tt) refl (
  record {
    kind_count = refl;
    name_class = refl;
    name = refl;
    value =
        record { count = refl; third = refl; tree = one_node _ _ 256 refl refl; pairs = ((refl, refl), tt) };
  },
  tt,
)

-- an image with a map
abbrev pub map_image : List ℕ
map_image =
    words (magic_word ∷ 2 ∷ 1024 ∷ 568 ∷ 112 ∷ 1 ∷ 4 ∷ 1 ∷ []) ++ zeros 72
    ++ words (53 ∷ 48 ∷ 0 ∷ 0 ∷ 0 ∷ 48 ∷ 65 ∷ 4295164932 ∷ 4294967297 ∷ 109 ∷ 40 ∷ 7 ∷ 0 ∷ 64 ∷ 61 ∷ 48 ∷ 88 ∷ 4
    ∷ 40 ∷ 48 ∷ 61 ∷ 96 ∷ 136 ∷ 2 ∷ 20 ∷ 48 ∷ 61 ∷ 144 ∷ 184 ∷ 6 ∷ 60
    ∷ 48 ∷ 63 ∷ 1 ∷ 1 ∷ 1 ∷ 10 ∷ 48 ∷ 63 ∷ 1 ∷ 1 ∷ 3 ∷ 30 ∷ 48 ∷ 63 ∷ 1 ∷ 1 ∷ 5 ∷ 50 ∷ 48 ∷ 63 ∷ 1 ∷ 1 ∷ 7 ∷ 70 ∷ 48
    ∷ 432 ∷ 1 ∷ 1 ∷ [])
    ++ zeros 400 ++ words (432 ∷ 1 ∷ [])

abbrev with_map : Directory
with_map = map_of (pair 1 384 ∷ pair 2 288 ∷ pair 3 432 ∷ pair 4 240 ∷ pair 5 480 ∷ pair 6 336 ∷ pair 7 528 ∷ [])

map_made : (run (whole_language 2) Write (empty 1024)
    (codes
    "construct map<i64,i64> m\nput m 4 40\nput m 2 20\nput m 6 60\nput m 1 10\nput m 3 30\nput m 5 50\nput m 7 70\n")).1 ≡ with_map
unfolding run
map_made = refl

abbrev red_leaf : ℕ → Tree
red_leaf n = fork true leaf n leaf

map_denotes : Denotes 2 map_image with_map
unfolding live gaps is_proper word_at word_bytes half_word_at zeros is_text_name
map_denotes = denotes map_image with_map 592 (record {
  size = refl;
  tests = refl;
  numbers = refl;
  links = refl;
  tiles = refl;
  node = refl;
  listed = refl;
}) (refl, tt) refl (
  record {
    kind_count = refl;
    name_class = refl;
    name = refl;
    value = record {
      count = refl;
      third = refl;
      tree = record {
        tree = fork false (fork false (red_leaf 400) 304 (red_leaf 448)) 256
            (fork false (red_leaf 496) 352 (red_leaf 544));
        linked = record {
          root = refl;
          holds = (refl, (refl, (refl, tt, tt), (refl, tt, tt)), (refl, (refl, tt, tt), (refl, tt, tt)));
        };
        red_black = record { root = refl; no_red_pair = refl; black = (2, refl) };
        lists = refl;
      };
      pairs = (
        (refl, refl),
        (
          (refl, refl),
          ((refl, refl), ((refl, refl), ((refl, refl), ((refl, refl), ((refl, refl), tt))))),
        ),
      );
    };
  },
  tt,
)
