-- What the words of an index entry are of the objects in an image, and that they are its half words.
use Rattle.std.proofs.Common.{◌≡◌, refl, [], ◌∷◌, map, true, false}
use Rattle.raw_region.specs.Memory.{Memory, bytes_of, word_at, half_word_at, word_bytes, zeros}
use Rattle.seg_index.specs.Keys.{code_at, count_at, name_len_at, class_at, name_at, name_before, code_before}
use Rattle.rows.proofs.Images.{two_names_image, vectors_image}

-- the numbers `a` and `b`, whose handles are 192 and 240
abbrev numbers : Memory
numbers = bytes_of two_names_image

names : map (name_at numbers) (192 ∷ 240 ∷ []) ≡ (97 ∷ []) ∷ (98 ∷ []) ∷ []
unfolding word_at word_bytes zeros
names = refl

-- the names rise, and the kinds, which are one, do not
orders : name_before numbers 192 240 ∷ code_before numbers 192 240 ∷ [] ≡ true ∷ false ∷ []
unfolding word_at word_bytes zeros
orders = refl

-- a vector of `i64`, under a name of one byte: kind, count, length of the name, and class
abbrev vectors : Memory
vectors = bytes_of vectors_image

entry : code_at vectors 192 ∷ count_at vectors 192 ∷ name_len_at vectors 192 ∷ class_at vectors 192 ∷ []
    ≡ 131076 ∷ 1 ∷ 1 ∷ 1 ∷ []
unfolding word_at word_bytes zeros
entry = refl

half_words : map (half_word_at vectors) (192 ∷ 196 ∷ 200 ∷ 204 ∷ []) ≡ 131076 ∷ 1 ∷ 1 ∷ 1 ∷ []
unfolding half_word_at word_bytes zeros
half_words = refl
