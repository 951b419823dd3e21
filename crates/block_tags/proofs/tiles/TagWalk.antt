-- The tags of a window, tested one tile after the other.
use Rattle.std.proofs.Common.{Some, None, is_some, is_none, ◌≡◌, refl, sym, ap, subst, ◌∙◌, ℕ, zero, suc, ◌+◌, ◌-◌, ◌*◌}
use Rattle.std.proofs.Common.{◌/◌, ◌<◌, ◌≤◌, Bool, true, false, List, [], ◌∷◌, length, arith, nat_lt, nat_le, ◌&&◌, not}
use Rattle.std.proofs.Common.{IsTrue, ◌==◌}
use Rattle.std.specs.Prelude.{Option}
use mathlib.Core.Bool.{true≢false}
use Rattle.std.proofs.lemmas.Bool.{cond-false, cond-true, eq-eqb, le-ltb, lt-ltb}
use Rattle.raw_region.specs.Memory.{Memory, word_at}
use Rattle.block_tags.specs.declared.tile.Role.{Role}
use Rattle.block_tags.specs.declared.tile.Tile.{Tile}
use Rattle.block_tags.specs.Format.{is_legal_size}
use Rattle.block_tags.specs.Tiles.{is_tile, is_free, is_merged, tag_word, tile_at, tiles_from, tiles_of, are_tags}
use Rattle.block_tags.specs.Tiles.{has_tags}
use Rattle.block_tags.specs.Checks.{Leads, StopsAt, begins, follows, good_tiles_from, good_tiles_of, is_end}
use Rattle.block_tags.specs.Checks.{is_good_there, is_good_tile, is_tagged}
use Rattle.std.proofs.lemmas.Bool.{and_parts}
use Rattle.block_tags.proofs.tiles.ReadOff.{is_tile-IsWhole}
use Rattle.block_tags.proofs.tiles.TagsSayTiles.{legal}

-- no two free tiles are side by side, after a tile that is free or not
merged_after : Bool → List Tile → Bool
merged_after free [] = true
merged_after free (t ∷ ts) = not (free && is_free t) && merged_after (is_free t) ts

merged_behind : (t : Tile) (ts : List Tile) → is_merged (t ∷ ts) ≡ merged_after (is_free t) ts
unfolding merged_after
merged_behind t [] = refl
merged_behind t (u ∷ ts) = ap (λ (b : Bool). not (is_free t && is_free u) && b) (merged_behind u ts)

is_merged-after : (ts : List Tile) → is_merged ts ≡ merged_after false ts
unfolding merged_after
is_merged-after [] = refl
is_merged-after (t ∷ ts) = merged_behind t ts

-- the test of all tiles from an offset on, at most this many
from_here : ℕ → ℕ → Memory → ℕ → ℕ → Bool → ℕ → Bool
from_here format more m at before free end =
    are_tags format m at before (tiles_from more m at end) end && merged_after free (tiles_from more m at end)

regrouped : (i w g l n r k : Bool) → (l ≡ false → r ≡ false)
    → (i && w && g && r) && (n && k) ≡ (w && l && (i && g) && n) && (r && k)
regrouped false false g l n r k h = refl
regrouped false true g false n r k h = refl
regrouped false true g true n r k h = refl
regrouped true false g l n r k h = refl
regrouped true true false false n r k h = refl
regrouped true true false true n r k h = refl
regrouped true true true false n false k h = refl
regrouped true true true false n true k h = absurd (true≢false (h refl))
regrouped true true true true true r k h = refl
regrouped true true true true false false k h = refl
regrouped true true true true false true k h = refl

-- tiles end at the end of the tags, and not beyond
not_beyond : (format more : ℕ) (m : Memory) (at before end : ℕ) → end < at
    → are_tags format m at before (tiles_from more m at end) end ≡ false
not_beyond format zero m at before end h = let e : (at == end) ≡ false = grind arith
    in ap (λ (b : Bool). b && (word_at m at == before) && (word_at m (at + 8) == 1)) e
not_beyond format (suc more) m at before end h =
    let l : nat_lt at end ≡ false = grind arith in
    let e : (at == end) ≡ false = grind arith in
    ap (λ (b : Bool). are_tags format m at before (elim b [
      | false ↦ []
      | true ↦ let t : Tile = tile_at m at
          in t ∷ tiles_from more m (at + t.len) end
    ]) end) l
    ∙ ap (λ (b : Bool). b && (word_at m at == before) && (word_at m (at + 8) == 1)) e

-- one tile is tested, and then the others
one_more : (format more : ℕ) (m : Memory) (at before : ℕ) (free : Bool) (end : ℕ) → at < end
    → from_here format (suc more) m at before free end
    ≡ (is_good_tile format m at before free end
    && from_here format more m (at + (tile_at m at).len) (tile_at m at).len (is_free (tile_at m at)) end)
unfolding from_here merged_after is_good_tile
one_more format more m at before free end h =
    let t : Tile = tile_at m at in
    let l : nat_lt at end ≡ true = grind arith in
    let o : (at == at) ≡ true = eq-eqb at at refl in
    let rest : List Tile = tiles_from more m (at + (tile_at m at).len) end in
    let late : nat_le (tile_at m at).len (end - at) ≡ false → end < at + (tile_at m at).len = λ e. grind arith in
    ap (λ (b : Bool). let ts : List Tile = elim b [
      | false ↦ []
      | true ↦ let t : Tile = tile_at m at
          in t ∷ tiles_from more m (at + t.len) end
    ] in are_tags format m at before ts end && merged_after free ts) l
    ∙ ap (λ (b : Bool). (b && is_tile format t && (word_at m at == before) && (word_at m (at + 8) == tag_word t)
    && are_tags format m (at + t.len) t.len rest end)
    && (not (free && is_free t) && merged_after (is_free t) rest)) o
    ∙ regrouped (is_tile format t) (word_at m at == before) (word_at m (at + 8) == tag_word t)
    (nat_le t.len (end - at)) (not (free && is_free t))
    (are_tags format m (at + t.len) t.len rest end) (merged_after (is_free t) rest) (λ e.
    not_beyond format more m (at + t.len) t.len end (late e))

-- ---- how many tiles are read off, and how many of them are good

none_at_end : (more : ℕ) (m : Memory) (end : ℕ) → tiles_from more m end end ≡ []
none_at_end zero m end = refl
none_at_end (suc more) m end =
    let l : nat_lt end end ≡ false = grind arith in
    ap (λ (b : Bool). elim b [
      | false ↦ []
      | true ↦ let t : Tile = tile_at m end in t ∷ tiles_from more m (end + t.len)
          end
    ]) l

one_more_tile : (more : ℕ) (m : Memory) (at end : ℕ) → at < end
    → length (tiles_from (suc more) m at end) ≡ suc (length (tiles_from more m (at + (tile_at m at).len) end))
one_more_tile more m at end h =
    let l : nat_lt at end ≡ true = grind arith in
    ap (λ (b : Bool). let ts : List Tile = elim b [
      | false ↦ []
      | true ↦ let t : Tile = tile_at m at in t ∷ tiles_from
          more m (at + t.len) end
    ] in length ts) l

-- the count after one test, as `good_tiles_from` has it
abbrev counted_if : ℕ → ℕ → Memory → ℕ → ℕ → Bool → ℕ
counted_if format more m at end b =
    elim b [
      | false ↦ 0
      | true ↦ let t : Tile = tile_at m at in 1 + good_tiles_from format more m (at + t.len) t.len (is_free t) end
    ]

none_good_behind : (format more : ℕ) (m : Memory) (at before : ℕ) (free : Bool) (end : ℕ) → end ≤ at
    → good_tiles_from format more m at before free end ≡ 0
none_good_behind format zero m at before free end h = refl
none_good_behind format (suc more) m at before free end h =
    let l : nat_lt at end ≡ false = grind arith in
    ap (λ (b : Bool). counted_if format more m at end (b && is_good_tile format m at before free end)) l

none_good_here : (format more : ℕ) (m : Memory) (at before : ℕ) (free : Bool) (end : ℕ) → at < end
    → is_good_tile format m at before free end ≡ false
    → good_tiles_from format more m at before free end ≡ 0
none_good_here format zero m at before free end h g = refl
none_good_here format (suc more) m at before free end h g =
    let l : nat_lt at end ≡ true = grind arith in
    ap (λ (b : Bool). counted_if format more m at end (b && is_good_tile format m at before free end)) l
    ∙ ap (counted_if format more m at end) g

one_more_good : (format more : ℕ) (m : Memory) (at before : ℕ) (free : Bool) (end : ℕ) → at < end
    → is_good_tile format m at before free end ≡ true
    → good_tiles_from format (suc more) m at before free end
    ≡ 1 + good_tiles_from format more m (at + (tile_at m at).len) (tile_at m at).len (is_free (tile_at m at)) end
one_more_good format more m at before free end h g =
    let l : nat_lt at end ≡ true = grind arith in
    ap (λ (b : Bool). counted_if format more m at end (b && is_good_tile format m at before free end)) l
    ∙ ap (counted_if format more m at end) g

-- ---- where the loop stands, with this many tags read or to be read next
pub record Walking (format : ℕ) (m : Memory) (size end at before : ℕ) (free : Bool) (tags : ℕ) : Type 0 where
  pub is : end ≡ size - 16
  pub reach : at ≤ end
  more : ℕ
  enough : end < at + 32 * more + 32
  leads : Leads format m end at before free
  same : has_tags format m size ≡ from_here format more m at before free end
  tiles : length (tiles_of m size) + 1 ≡ tags + length (tiles_from more m at end)
  good : good_tiles_of format m size + 1 ≡ tags + good_tiles_from format more m at before free end

-- the test of all tags begins at the first tile
pub starts : (format : ℕ) (m : Memory) (size end : ℕ) → IsTrue (is_legal_size size) → end ≡ size - 16
    → Walking format m size end 128 0 false 1
unfolding from_here
starts format m size end h e =
    let g = legal size h in let low = g.low in
    let P : ℕ → Type 0 = λ (k : ℕ). Walking format m size k 128 0 false 1 in
    subst P (sym e) (record {
      is = refl;
      reach = omega arith;
      more = size / 32;
      enough = omega arith;
      leads = begins;
      same = ap (λ (b : Bool). are_tags format m 128 0 (tiles_of m size) (size - 16)
          && b) (is_merged-after (tiles_of m size));
      tiles = omega arith;
      good = omega arith;
    })

bad_here : (format more : ℕ) (m : Memory) (at before : ℕ) (free : Bool) (end : ℕ) → at < end
    → is_good_tile format m at before free end ≡ false → from_here format more m at before free end ≡ false
unfolding from_here
bad_here format zero m at before free end h b =
    let e : (at == end) ≡ false = grind arith
    in ap (λ (b : Bool). (b && (word_at m at == before) && (word_at m (at + 8) == 1)) && merged_after free []) e
bad_here format (suc more) m at before free end h b =
    one_more format more m at before free end h
    ∙ ap (λ (c : Bool). c && from_here format more m (at + (tile_at m at).len) (tile_at m at).len
    (is_free (tile_at m at)) end) b

-- if good tags lead to a bad tag, they stop there
stops_there : (format : ℕ) (m : Memory) (size end at before : ℕ) (free : Bool) → end ≡ size - 16
    → Leads format m end at before free → is_good_there format m end at before free ≡ false → StopsAt format m size at
stops_there format m size end at before free e l h =
    let P : ℕ → Type 0 = λ (k : ℕ). Leads format m k at before free
    × (is_good_there format m k at before free ≡ false) in
    let both : P (size - 16) = subst P e (l, h)
    in record { before = before; free = free; leads = both.0; wrong = both.1 }

-- a bad tag
pub stops : (format : ℕ) (m : Memory) (size end at before : ℕ) (free : Bool) (tags : ℕ)
    → Walking format m size end at before free tags
    → at < end → is_good_tile format m at before free end ≡ false
    → (has_tags format m size ≡ false) × (tags ≡ good_tiles_of format m size + 1) × StopsAt format m size at
stops format m size end at before free tags w h b =
    let good = w.good in let none = none_good_here format w.more m at before free end h b in (
      w.same ∙ bad_here format w.more m at before free end h b,
      omega arith,
      stops_there format m size end at before free w.is w.leads
          (cond-true (nat_lt at end) (is_good_tile format m at before free end) (is_end m at before)
          (lt-ltb at end h) ∙ b),
    )

-- a good one
pub record GoesOn (format : ℕ) (m : Memory) (size end at : ℕ) (t : Tile) (tags : ℕ) : Type 0 where
  pub long : 32 ≤ t.len
  pub inside : t.len ≤ end - at
  pub next : Walking format m size end (at + t.len) t.len (is_free t) (tags + 1)

is_long : (format : ℕ) (m : Memory) (at before : ℕ) (free : Bool) (end : ℕ)
    → is_good_tile format m at before free end ≡ true → 32 ≤ (tile_at m at).len
unfolding is_good_tile
is_long format m at before free end g =
    let t : Tile = tile_at m at in
    let most : IsTrue ((word_at m at == before) && nat_le t.len (end - at)
    && is_tagged format t (word_at m (at + 8))) =
    (and_parts ((word_at m at == before) && nat_le t.len (end - at) && is_tagged format t (word_at m (at + 8)))
    (not (free && is_free t)) g).0 in
    let tagged : IsTrue (is_tagged format t (word_at m (at + 8))) =
    (and_parts ((word_at m at == before) && nat_le t.len (end - at)) (is_tagged format t (word_at m (at + 8)))
    most).1 in
    (is_tile-IsWhole format t (and_parts (is_tile format t) (word_at m (at + 8) == tag_word t) tagged).0).long

is_inside : (format : ℕ) (m : Memory) (at before : ℕ) (free : Bool) (end : ℕ)
    → is_good_tile format m at before free end ≡ true → (tile_at m at).len ≤ end - at
unfolding is_good_tile
is_inside format m at before free end g =
    let t : Tile = tile_at m at in
    let most : IsTrue ((word_at m at == before) && nat_le t.len (end - at)
    && is_tagged format t (word_at m (at + 8))) =
    (and_parts ((word_at m at == before) && nat_le t.len (end - at) && is_tagged format t (word_at m (at + 8)))
    (not (free && is_free t)) g).0 in
    let prefix : IsTrue ((word_at m at == before) && nat_le t.len (end - at)) =
    (and_parts ((word_at m at == before) && nat_le t.len (end - at)) (is_tagged format t (word_at m (at + 8)))
    most).0 in
    let fits : IsTrue (nat_le t.len (end - at)) =
    (and_parts (word_at m at == before) (nat_le t.len (end - at)) prefix).1 in
    grind arith

onward : (format more : ℕ) (m : Memory) (size end at before : ℕ) (free : Bool) (tags : ℕ) → end ≡ size - 16
    → end < at + 32 * more + 32 → Leads format m end at before free
    → has_tags format m size ≡ from_here format more m at before free end
    → length (tiles_of m size) + 1 ≡ tags + length (tiles_from more m at end)
    → good_tiles_of format m size + 1 ≡ tags + good_tiles_from format more m at before free end
    → at < end → is_good_tile format m at before free end ≡ true
    → Walking format m size end (at + (tile_at m at).len) (tile_at m at).len (is_free (tile_at m at)) (tags + 1)
onward format zero m size end at before free tags is enough leads same tiles good h g =
    let long = is_long format m at before free end g in let inside = is_inside format m at before free end g
    in absurd (omega arith)
onward format (suc more) m size end at before free tags is enough leads same tiles good h g =
    let long = is_long format m at before free end g in let inside = is_inside format m at before free end g in
    let one = one_more_tile more m at end h in let other = one_more_good format more m at before free end h g in
    record {
      is = is;
      reach = omega arith;
      more = more;
      enough = omega arith;
      leads = follows leads h g;
      same = same ∙ one_more format more m at before free end h
          ∙ ap (λ (c : Bool). c && from_here format more m (at + (tile_at m at).len) (tile_at m at).len
          (is_free (tile_at m at)) end) g;
      tiles = omega arith;
      good = omega arith;
    }

-- a tile that passes its test: the test goes on after it
pub goes_on : (format : ℕ) (m : Memory) (size end at before : ℕ) (free : Bool) (tags : ℕ)
    → Walking format m size end at before free tags → at < end → is_good_tile format m at before free end ≡ true
    → (t : Tile) → t ≡ tile_at m at → GoesOn format m size end at t tags
goes_on format m size end at before free tags w h g t e =
    let P : Tile → Type 0 = λ (u : Tile). GoesOn format m size end at u tags in
    subst P (sym e) (record {
      long = is_long format m at before free end g;
      inside = is_inside format m at before free end g;
      next = onward format w.more m size end at before free tags w.is w.enough w.leads w.same w.tiles w.good h g;
    })

and_true : (b : Bool) → (b && true) ≡ b
and_true true = refl
and_true false = refl

end_here : (format more : ℕ) (m : Memory) (at before : ℕ) (free : Bool)
    → from_here format more m at before free at ≡ ((word_at m at == before) && (word_at m (at + 8) == 1))
unfolding from_here merged_after
end_here format zero m at before free =
    ap (λ (b : Bool). (b && (word_at m at == before) && (word_at m (at + 8) == 1)) && true) (eq-eqb at at refl)
    ∙ and_true ((word_at m at == before) && (word_at m (at + 8) == 1))
end_here format (suc more) m at before free =
    let l : nat_lt at at ≡ false = grind arith in
    ap (λ (b : Bool). let ts : List Tile = elim b [
      | false ↦ []
      | true ↦ let t : Tile = tile_at m at
          in t ∷ tiles_from more m (at + t.len) at
    ] in are_tags format m at before ts at && merged_after free ts) l
    ∙ ap (λ (b : Bool). (b && (word_at m at == before) && (word_at m (at + 8) == 1)) && true) (eq-eqb at at refl)
    ∙ and_true ((word_at m at == before) && (word_at m (at + 8) == 1))

-- the end tag
pub record Ends (format : ℕ) (m : Memory) (size end at before tags : ℕ) : Type 0 where
  pub said : has_tags format m size ≡ ((word_at m end == before) && (word_at m (end + 8) == 1))
  pub tiles : tags ≡ length (tiles_of m size) + 1
  pub good : tags ≡ good_tiles_of format m size + 1
  pub stops : ((word_at m end == before) && (word_at m (end + 8) == 1)) ≡ false → StopsAt format m size at

-- the test ends at the end tag
pub ends : (format : ℕ) (m : Memory) (size end at before : ℕ) (free : Bool) (tags : ℕ)
    → Walking format m size end at before free tags
    → end ≤ at → Ends format m size end at before tags
ends format m size end at before free tags w h =
    let reach = w.reach in let e : at ≡ end = omega arith in
    let tiles = w.tiles ∙ ap (λ (k : ℕ). tags + length (tiles_from w.more m k end)) e
    ∙ ap (λ (us : List Tile). tags + length us) (none_at_end w.more m end) in
    let good = w.good in let none = none_good_behind format w.more m at before free end h in
    record {
      said = w.same ∙ ap (λ (k : ℕ). from_here format w.more m k before free end) e
          ∙ end_here format w.more m end before free;
      tiles = omega arith;
      good = omega arith;
      stops =
          λ f. stops_there format m size end at before free w.is w.leads
          (cond-false (nat_lt at end) (is_good_tile format m at before free end) (is_end m at before) (le-ltb at end h)
          ∙ ap (λ (k : ℕ). is_end m k before) e ∙ f);
    }

-- nothing is there exactly where something is not
pub none_of : (o : Option Role) (b : Bool) → is_some o ≡ not b → is_none o ≡ b
none_of None true e = refl
none_of None false e = sym e
none_of (Some r) true e = sym e
none_of (Some r) false e = refl
