-- The tags describe one list of tiles: the list that is read.
use Rattle.std.proofs.Common.{◌≡◌, refl, sym, ap, ◌∙◌, ℕ, zero, suc, ◌+◌, ◌-◌, ◌*◌, ◌/◌, ◌%◌, ◌<◌, ◌≤◌, Some, None}
use Rattle.std.proofs.Common.{Bool, true, false, List, [], ◌∷◌, arith, nat_le, cond, ◌&&◌, ◌||◌, not, IsTrue, ◌==◌}
use Rattle.std.proofs.Common.{lit<}
use Rattle.std.specs.Prelude.{Option}
use Rattle.std.proofs.lemmas.Bool.{and_parts, and_from, eq-eqb, eqb-true, leb-true, lt-ltb, le-ltb}
use Rattle.raw_region.specs.Memory.{Memory, word_at}
use Rattle.block_tags.specs.declared.tile.Role.{Role}
use Rattle.block_tags.specs.declared.tile.Role.TheVariants.{Object, Index, Storage, Node}
use Rattle.block_tags.specs.declared.tile.Tile.{Tile}
use Rattle.block_tags.specs.Tiles.{AreTilesOf, AreTags, are_tags, has_tags, is_merged, is_tile, may_be_red, SayOneList}
use Rattle.block_tags.specs.Tiles.{tag_word, use_bits, red_bit, tile_at, tiles_from, tiles_of, role_of_bits}

-- the use in a second word
abbrev use_in : ℕ → Option Role
use_in w = cond (w % 2 == 0) None (Some (role_of_bits (w % 16 / 4 * 4)))

-- a tile's second word has its use
same_use : (n : ℕ) (u : Option Role) (r : Bool) → n % 16 ≡ 0 → use_in (n + use_bits u + red_bit r) ≡ u
same_use n None true e = grind arith
same_use n None false e = grind arith
same_use n (Some Object) true e = grind arith
same_use n (Some Object) false e = grind arith
same_use n (Some Index) true e = grind arith
same_use n (Some Index) false e = grind arith
same_use n (Some Storage) true e = grind arith
same_use n (Some Storage) false e = grind arith
same_use n (Some Node) true e = grind arith
same_use n (Some Node) false e = grind arith

-- use and colour take the lowest four bits
bits_small : (u : Option Role) (r : Bool) → use_bits u + red_bit r < 16
bits_small None true = lit< tt
bits_small None false = lit< tt
bits_small (Some Object) true = lit< tt
bits_small (Some Object) false = lit< tt
bits_small (Some Index) true = lit< tt
bits_small (Some Index) false = lit< tt
bits_small (Some Storage) true = lit< tt
bits_small (Some Storage) false = lit< tt
bits_small (Some Node) true = lit< tt
bits_small (Some Node) false = lit< tt

-- a tile's second word has its length
same_len : (n : ℕ) (u : Option Role) (r : Bool) → n % 16 ≡ 0 → (n + use_bits u + red_bit r) / 16 * 16 ≡ n
same_len n u r e = let small = bits_small u r in omega arith

-- a tile's second word has its colour
same_red : (n : ℕ) (u : Option Role) (r : Bool) → n % 16 ≡ 0 → ((n + use_bits u + red_bit r) / 2 % 2 == 1) ≡ r
same_red n None true e = grind arith
same_red n None false e = grind arith
same_red n (Some Object) true e = grind arith
same_red n (Some Object) false e = grind arith
same_red n (Some Index) true e = grind arith
same_red n (Some Index) false e = grind arith
same_red n (Some Storage) true e = grind arith
same_red n (Some Storage) false e = grind arith
same_red n (Some Node) true e = grind arith
same_red n (Some Node) false e = grind arith

-- the length of a tile that passes the test
pub record IsWhole (t : Tile) : Type 0 where
  pub long : 32 ≤ t.len
  pub whole : t.len % 16 ≡ 0

-- a tile that passes the test is whole
pub is_tile-IsWhole : (format : ℕ) (t : Tile) → IsTrue (is_tile format t) → IsWhole t
is_tile-IsWhole format t h =
    let len = (and_parts (nat_le 32 t.len && (t.len % 16 == 0)) (not t.red || may_be_red format t.use_of) h).0 in
    let both = and_parts (nat_le 32 t.len) (t.len % 16 == 0) len in
    record { long = leb-true 32 t.len both.0; whole = eqb-true (t.len % 16) 0 both.1 }

-- the tile of a tile's second word is this tile
pub tile_at-tag_word : (m : Memory) (at : ℕ) (t : Tile) → t.offset ≡ at → t.len % 16 ≡ 0
    → word_at m (at + 8) ≡ tag_word t → tile_at m at ≡ t
tile_at-tag_word m at t o e w = λ i. record {
  offset = sym o i;
  len = (ap (λ x. x / 16 * 16) w ∙ same_len t.len t.use_of t.red e) i;
  use_of = (ap use_in w ∙ same_use t.len t.use_of t.red e) i;
  red = (ap (λ x. x / 2 % 2 == 1) w ∙ same_red t.len t.use_of t.red e) i;
}

-- tags end where they begin or later
pub AreTags-reaches : (format : ℕ) (m : Memory) (at before : ℕ) (ts : List Tile) (end : ℕ)
    → AreTags format m at before ts end → at ≤ end
AreTags-reaches format m at before [] end h = let e = h.0 in omega arith
AreTags-reaches format m at before (t ∷ ts) end h = let on = AreTags-reaches format m (at + t.len) t.len ts end h.4
    in omega arith

-- the tiles that are read from an offset on, by whether the end is reached
abbrev next : ℕ → Memory → ℕ → ℕ → Bool → List Tile
next more m at end b = elim b [
  | false ↦ []
  | true ↦ let t : Tile = tile_at m at
      in t ∷ tiles_from more m (at + t.len) end
]

-- the tiles of the tags are read, if the bound allows this many
pub tiles_from-AreTags : (format : ℕ) (m : Memory) (more at before : ℕ) (ts : List Tile) (end : ℕ)
    → AreTags format m at before ts end → end < at + 32 * more + 32 → tiles_from more m at end ≡ ts
tiles_from-AreTags format m zero at before [] end h few = refl
tiles_from-AreTags format m (suc more) at before [] end h few =
    ap (next more m at end) (le-ltb at end (omega (arith, h.0)))
tiles_from-AreTags format m zero at before (t ∷ ts) end h few =
    let on = AreTags-reaches format m (at + t.len) t.len ts end h.4 in let tile = is_tile-IsWhole format t h.1
    in let long = tile.long in absurd (omega arith)
tiles_from-AreTags format m (suc more) at before (t ∷ ts) end h few =
    let on = AreTags-reaches format m (at + t.len) t.len ts end h.4 in
    let tile = is_tile-IsWhole format t h.1 in let long = tile.long in
    let same = tile_at-tag_word m at t h.0 tile.whole h.3 in
    let rest = tiles_from-AreTags format m more (at + t.len) t.len ts end h.4 (omega arith) in
    ap (next more m at end) (lt-ltb at end (omega arith))
    ∙ ap (λ (u : Tile). u ∷ tiles_from more m (at + u.len) end) same ∙ ap (λ us. t ∷ us) rest

-- the tiles of a segment's tags are the tiles that are read
pub tiles_of-AreTilesOf : (format : ℕ) (m : Memory) (size : ℕ) (ts : List Tile) → AreTilesOf format m size ts
    → tiles_of m size ≡ ts
tiles_of-AreTilesOf format m size ts h =
    let on = AreTags-reaches format m 128 0 ts (size - 16) h in
    tiles_from-AreTags format m (size / 32) 128 0 ts (size - 16) h (omega arith)

-- the tags of a segment describe one list of tiles
pub say_one_list : SayOneList
say_one_list format size m ts small h = tiles_of-AreTilesOf format m size ts h

-- ---- the test and the relation

-- the test passes if the tags describe the tiles
pub AreTags-are_tags : (format : ℕ) (m : Memory) (at before : ℕ) (ts : List Tile) (end : ℕ)
    → AreTags format m at before ts end → IsTrue (are_tags format m at before ts end)
AreTags-are_tags format m at before [] end h =
    and_from ((at == end) && (word_at m at == before)) (word_at m (at + 8) == 1)
    (and_from (at == end) (word_at m at == before) (eq-eqb at end h.0) (eq-eqb (word_at m at) before h.1))
    (eq-eqb (word_at m (at + 8)) 1 h.2)
AreTags-are_tags format m at before (t ∷ ts) end h =
    let here = t.offset == at in
    let tile = is_tile format t in
    let first = word_at m at == before in
    let second = word_at m (at + 8) == tag_word t in
    and_from (here && tile && first && second) (are_tags format m (at + t.len) t.len ts end)
    (and_from (here && tile && first) second
    (and_from (here && tile) first (and_from here tile (eq-eqb t.offset at h.0) h.1) (eq-eqb (word_at m at) before h.2))
    (eq-eqb (word_at m (at + 8)) (tag_word t) h.3))
    (AreTags-are_tags format m (at + t.len) t.len ts end h.4)

-- and the tags describe the tiles if the test passes
pub are_tags-AreTags : (format : ℕ) (m : Memory) (at before : ℕ) (ts : List Tile) (end : ℕ)
    → IsTrue (are_tags format m at before ts end) → AreTags format m at before ts end
are_tags-AreTags format m at before [] end h =
    let two = and_parts ((at == end) && (word_at m at == before)) (word_at m (at + 8) == 1) h in
    let one = and_parts (at == end) (word_at m at == before) two.0 in
    (eqb-true at end one.0, eqb-true (word_at m at) before one.1, eqb-true (word_at m (at + 8)) 1 two.1)
are_tags-AreTags format m at before (t ∷ ts) end h =
    let here = t.offset == at in
    let tile = is_tile format t in
    let first = word_at m at == before in
    let second = word_at m (at + 8) == tag_word t in
    let four = and_parts (here && tile && first && second) (are_tags format m (at + t.len) t.len ts end) h in
    let three = and_parts (here && tile && first) second four.0 in
    let two = and_parts (here && tile) first three.0 in
    let one = and_parts here tile two.0 in (
      eqb-true t.offset at one.0,
      one.1,
      eqb-true (word_at m at) before two.1,
      eqb-true (word_at m (at + 8)) (tag_word t) three.1,
      are_tags-AreTags format m (at + t.len) t.len ts end four.1,
    )

-- good tags describe the tiles that are read
pub has_tags-AreTilesOf : (format : ℕ) (m : Memory) (size : ℕ) → IsTrue (has_tags format m size)
    → AreTilesOf format m size (tiles_of m size)
has_tags-AreTilesOf format m size h =
    are_tags-AreTags format m 128 0 (tiles_of m size) (size - 16)
    (and_parts (are_tags format m 128 0 (tiles_of m size) (size - 16)) (is_merged (tiles_of m size)) h).0

-- no two free tiles of good tags are neighbours
pub has_tags-is_merged : (format : ℕ) (m : Memory) (size : ℕ) → IsTrue (has_tags format m size)
    → IsTrue (is_merged (tiles_of m size))
has_tags-is_merged format m size h =
    (and_parts (are_tags format m 128 0 (tiles_of m size) (size - 16)) (is_merged (tiles_of m size)) h).1

-- tags are good if they describe tiles of which no two free ones are neighbours
pub AreTilesOf-has_tags : (format : ℕ) (m : Memory) (size : ℕ) (ts : List Tile) → AreTilesOf format m size ts
    → IsTrue (is_merged ts) → IsTrue (has_tags format m size)
AreTilesOf-has_tags format m size ts h merged =
    rw (tiles_of-AreTilesOf format m size ts h)
    (and_from (are_tags format m 128 0 ts (size - 16)) (is_merged ts)
    (AreTags-are_tags format m 128 0 ts (size - 16) h) merged)
