-- Good tags in each format: good tags of format 0 are good tags of the others without a red free tile.
use Rattle.image_check.proofs.Common.{Index, List, Memory, Node, None, Option, Role, Some, Storage, Tile, [], and_parts}
use Rattle.image_check.proofs.Common.{ap, arith, false, has_free_tree, has_tags, is_none, list_all, nat_le, not, refl}
use Rattle.image_check.proofs.Common.{suc, sym, tiles_of, true, zero, ℕ, ◌%◌, ◌&&◌, ◌+◌, ◌-◌, ◌<◌, ◌==◌, ◌||◌, ◌∙◌, ◌∷◌}
use Rattle.image_check.proofs.Common.{◌≡◌}
use Rattle.std.proofs.Common.{Bool}
use Rattle.raw_region.specs.Memory.{word_at}
use Rattle.raw_region.specs.Format.{current}
use Rattle.block_tags.specs.declared.tile.Role.TheVariants.{Object}
use Rattle.block_tags.specs.Tiles.{are_tags, is_merged, is_tile, may_be_red, tag_word}

-- ---- a tile

-- a tile is in use, or is free and not red
abbrev is_plain : Tile → Bool
is_plain t = not (is_none t.use_of && t.red)

red-tile : (f : ℕ) (u : Option Role) (r : Bool)
    → (not r || may_be_red 0 u) ≡ ((not r || may_be_red (suc f) u) && not (is_none u && r))
red-tile f None true = refl
red-tile f None false = refl
red-tile f (Some Object) true = refl
red-tile f (Some Object) false = refl
red-tile f (Some Index) true = refl
red-tile f (Some Index) false = refl
red-tile f (Some Storage) true = refl
red-tile f (Some Storage) false = refl
red-tile f (Some Node) true = refl
red-tile f (Some Node) false = refl

and-last : (p q r : Bool) → (p && (q && r)) ≡ ((p && q) && r)
and-last true q r = refl
and-last false q r = refl

plain-tile : (f : ℕ) (t : Tile) → is_tile 0 t ≡ (is_tile (suc f) t && is_plain t)
plain-tile f t =
    ap (λ x. nat_le 32 t.len && (t.len % 16 == 0) && x) (red-tile f t.use_of t.red)
    ∙ and-last (nat_le 32 t.len && (t.len % 16 == 0)) (not t.red || may_be_red (suc f) t.use_of) (is_plain t)

-- tiles in use can have the same colours in each format
later-red : (f g : ℕ) (u : Option Role) → may_be_red (suc f) u ≡ may_be_red (suc g) u
later-red f g (Some Object) = refl
later-red f g other = refl

later-tile : (f g : ℕ) (t : Tile) → is_tile (suc f) t ≡ is_tile (suc g) t
later-tile f g t = ap (λ x. nat_le 32 t.len && (t.len % 16 == 0) && (not t.red || x)) (later-red f g t.use_of)

-- ---- all tags

shuffle : (o t z w v a p : Bool) → (o && (t && z) && w && v && (a && p)) ≡ ((o && t && w && v && a) && (z && p))
shuffle false t z w v a p = refl
shuffle true false z w v a p = refl
shuffle true true true w v a p = and-last (w && v) a p
shuffle true true false true true true p = refl
shuffle true true false false v a p = refl
shuffle true true false true false a p = refl
shuffle true true false true true false p = refl

plain-tags : (f : ℕ) (m : Memory) (at before : ℕ) (ts : List Tile) (end : ℕ)
    → are_tags 0 m at before ts end ≡ (are_tags (suc f) m at before ts end && list_all is_plain ts)
plain-tags f m at before [] end = sym (and-true (are_tags (suc f) m at before [] end))
  where
    and-true : (p : Bool) → (p && true) ≡ p
    and-true true = refl
    and-true false = refl
plain-tags f m at before (t ∷ ts) end =
    (λ k. (t.offset == at) && plain-tile f t k && (word_at m at == before) && (word_at m (at + 8) == tag_word t)
    && plain-tags f m (at + t.len) t.len ts end k)
    ∙ shuffle (t.offset == at) (is_tile (suc f) t) (is_plain t) (word_at m at == before)
    (word_at m (at + 8) == tag_word t) (are_tags (suc f) m (at + t.len) t.len ts end) (list_all is_plain ts)

later-tags : (f g : ℕ) (m : Memory) (at before : ℕ) (ts : List Tile) (end : ℕ)
    → are_tags (suc f) m at before ts end ≡ are_tags (suc g) m at before ts end
later-tags f g m at before [] end = refl
later-tags f g m at before (t ∷ ts) end =
    λ k. (t.offset == at) && later-tile f g t k && (word_at m at == before) && (word_at m (at + 8) == tag_word t)
    && later-tags f g m (at + t.len) t.len ts end k

-- ---- of a segment

shuffle-merged : (a p s : Bool) → ((a && p) && s) ≡ ((a && s) && p)
shuffle-merged false p s = refl
shuffle-merged true true true = refl
shuffle-merged true true false = refl
shuffle-merged true false true = refl
shuffle-merged true false false = refl

plain-has_tags : (f : ℕ) (m : Memory) (size : ℕ)
    → has_tags 0 m size ≡ (has_tags (suc f) m size && list_all is_plain (tiles_of m size))
plain-has_tags f m size =
    ap (λ x. x && is_merged (tiles_of m size)) (plain-tags f m 128 0 (tiles_of m size) (size - 16))
    ∙ shuffle-merged (are_tags (suc f) m 128 0 (tiles_of m size) (size - 16)) (list_all is_plain (tiles_of m size))
    (is_merged (tiles_of m size))

-- from format 1 on the tags are judged alike
pub later-has_tags : (format : ℕ) (m : Memory) (size : ℕ) → 0 < format
    → has_tags format m size ≡ has_tags current m size
unfolding current
later-has_tags zero m size l = absurd (omega arith)
later-has_tags (suc f) m size l =
    ap (λ x. x && is_merged (tiles_of m size)) (later-tags f 1 m 128 0 (tiles_of m size) (size - 16))

-- good tags of each format are good by the current one
pub good-has_tags : (format : ℕ) (m : Memory) (size : ℕ) → has_tags format m size ≡ true
    → has_tags current m size ≡ true
unfolding current
good-has_tags zero m size e = (and_parts (has_tags 2 m size) (list_all is_plain (tiles_of m size))
    (sym (plain-has_tags 1 m size) ∙ e)).0
good-has_tags (suc f) m size e = sym (later-has_tags (suc f) m size (omega arith)) ∙ e

-- from format 1 on the free tree is judged as in the current format
pub later-free_tree : (format : ℕ) (m : Memory) (ts : List Tile) → 0 < format
    → has_free_tree format m ts ≡ has_free_tree current m ts
unfolding current
later-free_tree zero m ts l = absurd (omega arith)
later-free_tree (suc f) m ts l = refl
