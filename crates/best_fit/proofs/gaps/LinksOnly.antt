-- What stays where only links and colours of gaps, and word 24, change.
use Rattle.best_fit.proofs.Common.{if◌then◌else◌, SameBytes, ◌≡◌, refl, sym, ap, subst, ◌∙◌, ℕ, ◌+◌, ◌-◌, ◌%◌, ◌<◌, ◌≤◌}
use Rattle.best_fit.proofs.Common.{◌⊎◌, inl, inr, Bool, true, false, ◌&&◌, not, List, [], ◌∷◌, ◌++◌, length, arith}
use Rattle.best_fit.proofs.Common.{nat_lt, nat_le, Some, map, cons_option, and_from, or_left, or_right, le-leb, lt-ltb}
use Rattle.best_fit.proofs.Common.{WindowState, bytes_of, word_at, Role, Tile, current, is_free, EncodesTiles, Gap}
use Rattle.best_fit.proofs.Common.{lies_behind, own_from, plain, tiles_in, is_good-IsGoodHeap, HasGapTree}
use Rattle.best_fit.proofs.Common.{ChangesGapTree, KeepsBlocks, SameBlock, as_extent, live_of}
use Rattle.best_fit.proofs.gaps.Nodes.{apart_of, said_of}
use Rattle.best_fit.proofs.tags.TagsAndLiveSet.{SaysHeap, said_row}
use Rattle.best_fit.proofs.tags.TileRows.{Row, extents_of, extent_of, used-not_free}
use Rattle.best_fit.proofs.tags.UnchangedTags.{In, all_used, inside, tag_in}

-- the tags of a window with a tree describe its tiles
pub tree_says : (c : WindowState) (hs : List Gap) → HasGapTree c hs → SaysHeap c (tiles_in c)
tree_says c hs h = let g = is_good-IsGoodHeap c h.good in record { said = said_of c g; apart = apart_of c g }

extents-plain : (ts : List Tile) → extents_of (map plain ts) ≡ extents_of ts
extents-plain [] = refl
extents-plain (t ∷ ts) = ap (cons_option (as_extent t)) (extents-plain ts)

pub same_extents : (ts us : List Tile) → map plain us ≡ map plain ts → extents_of us ≡ extents_of ts
same_extents ts us e = sym (extents-plain us) ∙ ap extents_of e ∙ extents-plain ts

-- the live set stays
pub regrown_live : (c d : WindowState) → ChangesGapTree c d → live_of d.bytes ≡ live_of c.bytes
unfolding live_of
regrown_live c d r = let e = same_extents (tiles_in c) (tiles_in d) r.tiles in
    λ i. record { size = r.size i; extents = e i }

-- ---- the blocks stay

-- a tile in use is as it was
pub plain_used : (t : Tile) → is_free t ≡ false → plain t ≡ t
plain_used t e = let red : (not (is_free t) && t.red) ≡ t.red = ap (λ (b : Bool). not b && t.red) e in
    λ i. record t { red = red i }

in_plain : (t : Tile) (ts : List Tile) → In t ts → In (plain t) (map plain ts)
in_plain t [] h = absurd h
in_plain t (u ∷ us) (inl e) = inl (ap plain e)
in_plain t (u ∷ us) (inr h) = inr (in_plain t us h)

from_plain : (v : Tile) (ts : List Tile) → In v (map plain ts) → is_free v ≡ false → In v ts
from_plain v [] h e = absurd h
from_plain v (u ∷ us) (inl p) e = inl (sym (plain_used u (ap is_free p ∙ e)) ∙ p)
from_plain v (u ∷ us) (inr h) e = inr (from_plain v us h e)

-- a tile in use stays in a list that differs in colours alone
pub used_stays : (t : Tile) (ts us : List Tile) → map plain us ≡ map plain ts → is_free t ≡ false → In t ts → In t us
used_stays t ts us e taken h =
    let plainly = subst (λ (v : Tile). In v (map plain ts)) (plain_used t taken) (in_plain t ts h) in
    from_plain t us (subst (λ (vs : List Tile). In t vs) (sym e) plainly) taken

in_any : (t : Tile) (ts : List Tile) (k : ℕ) → In t ts → own_from t ≤ k → k < t.offset + t.len
    → lies_behind ts k ≡ true
in_any t [] k h low high = absurd h
in_any t (u ∷ us) k (inl p) low high =
    let P : Tile → Type 0 = λ (v : Tile). (nat_le (own_from v) k && nat_lt k (v.offset + v.len)) ≡ true in
    or_left (nat_le (own_from u) k && nat_lt k (u.offset + u.len)) (lies_behind us k)
    (subst P (sym p) (and_from (nat_le (own_from t) k) (nat_lt k (t.offset + t.len)) (le-leb (own_from t) k low)
    (lt-ltb k (t.offset + t.len) high)))
in_any t (u ∷ us) k (inr h) low high =
    or_right (nat_le (own_from u) k && nat_lt k (u.offset + u.len)) (lies_behind us k) (in_any t us k h low high)

-- the offset of a tile's own bytes
own_at : (t : Tile) (b : Bool) (k : ℕ) → is_free t ≡ b → t.offset + (if b then 32 else 16) ≤ k → own_from t ≤ k
own_at t b k e l = subst (λ (c : Bool). t.offset + (if c then 32 else 16) ≤ k) (sym e) l

module _ (c d : WindowState) (said : EncodesTiles c (tiles_in c)) (says : EncodesTiles d (tiles_in d))
    (r : ChangesGapTree c d) where
  row : Row 128 (tiles_in c) (length c.bytes - 16)
  row = said_row c (tiles_in c) said

  tag : (t : Tile) (role : Role) → In t (tiles_in c) → t.use_of ≡ Some role
      → word_at (bytes_of d.bytes) (t.offset + 8) ≡ word_at (bytes_of c.bytes) (t.offset + 8)
  tag t role i e =
      let used = used-not_free t role e in
      let j = used_stays t (tiles_in c) (tiles_in d) r.tiles used i in
      let one = tag_in current (bytes_of c.bytes) 128 0 (tiles_in c) (length c.bytes - 16) t said.tags row i in
      let two = tag_in current (bytes_of d.bytes) 128 0 (tiles_in d) (length d.bytes - 16) t says.tags
      (said_row d (tiles_in d) says) j in
      two.word ∙ sym one.word

  -- a block stays where only links and colours of gaps change
  pub regrown_block : (t : Tile) → In t (tiles_in c) → (role : Role) → t.use_of ≡ Some role
      → SameBlock (bytes_of c.bytes) (bytes_of d.bytes) (extent_of t role)
  regrown_block t i role e =
      let used = used-not_free t role e in
      record {
        payload = record {
          at = λ k low high.
              let j = inside 128 t (tiles_in c) (length c.bytes - 16) k row i low high in let a = j.low in
              let kept = or_right (nat_lt k 128) (lies_behind (tiles_in c) k)
              (in_any t (tiles_in c) k i (own_at t false k used low) high) in
              r.bytes k kept (inr (omega arith));
        };
        colour = ap (λ w. w % 16) (tag t role i e);
      }

  -- and the free bytes of a gap
  pub regrown_gap : (t : Tile) → In t (tiles_in c) → is_free t ≡ true
      → SameBytes (bytes_of c.bytes) (bytes_of d.bytes) (t.offset + 32) (t.offset + t.len)
  regrown_gap t i free = record {
    at = λ k low high.
        let j = inside 128 t (tiles_in c) (length c.bytes - 16) k row i (omega arith) high in let a = j.low in
        let kept = or_right (nat_lt k 128) (lies_behind (tiles_in c) k)
        (in_any t (tiles_in c) k i (own_at t true k free low) high) in
        r.bytes k kept (inr (omega arith));
  }

  header : (k : ℕ) → k < 128 → (k < 24) ⊎ (32 ≤ k) → bytes_of d.bytes k ≡ bytes_of c.bytes k
  header k l away = r.bytes k (or_left (nat_lt k 128) (lies_behind (tiles_in c) k) (lt-ltb k 128 l)) away

  -- all blocks stay where only links and colours of gaps change
  pub regrown_keeps : KeepsBlocks c d (live_of c.bytes).extents
  unfolding live_of
  regrown_keeps =
      record {
        place = r.place;
        front = record { at = λ k low high. header k (omega arith) (inl high) };
        behind = record { at = λ k low high. header k high (inr low) };
        blocks = all_used (SameBlock (bytes_of c.bytes) (bytes_of d.bytes)) (tiles_in c) regrown_block;
      }

-- ---- a list that is split where another is

-- a list that splits as another that differs in colours alone
pub record SplitsAlike (us front : List Tile) (t : Tile) (back : List Tile) : Type 0 where
  pub front' : List Tile
  pub tile' : Tile
  pub back' : List Tile
  pub list : us ≡ front' ++ (tile' ∷ back')
  pub fronts : map plain front' ≡ map plain front
  pub tiles : plain tile' ≡ plain t
  pub backs : map plain back' ≡ map plain back

-- an empty list is not a longer one
pub empty_not : (x : Tile) (xs : List Tile) → [] ≡ x ∷ xs → ⊥
empty_not x xs e = let ys : List Tile = [] in let f : ys ≡ x ∷ xs = e in cc

-- equal lists have equal heads
pub head_same : (x y : Tile) (xs ys : List Tile) → x ∷ xs ≡ y ∷ ys → x ≡ y
head_same x y xs ys e = cc

-- equal lists have equal rests
pub tail_same : (x y : Tile) (xs ys : List Tile) → x ∷ xs ≡ y ∷ ys → xs ≡ ys
tail_same x y xs ys e = cc

-- lists that differ in colours alone split alike
pub splits_alike : (us front : List Tile) (t : Tile) (back : List Tile)
    → map plain us ≡ map plain (front ++ (t ∷ back)) → SplitsAlike us front t back
splits_alike [] [] t back e = absurd (empty_not (plain t) (map plain back) e)
splits_alike [] (f ∷ fs) t back e = absurd (empty_not (plain f) (map plain (fs ++ (t ∷ back))) e)
splits_alike (u ∷ us) [] t back e =
    record {
      front' = [];
      tile' = u;
      back' = us;
      list = refl;
      fronts = refl;
      tiles = head_same (plain u) (plain t) (map plain us) (map plain back) e;
      backs = tail_same (plain u) (plain t) (map plain us) (map plain back) e;
    }
splits_alike (u ∷ us) (f ∷ fs) t back e =
    let head = head_same (plain u) (plain f) (map plain us) (map plain (fs ++ (t ∷ back))) e in
    let r = splits_alike us fs t back (tail_same (plain u) (plain f) (map plain us) (map plain (fs ++ (t ∷ back))) e) in
    let fronts = r.fronts in
    record {
      front' = u ∷ r.front';
      tile' = r.tile';
      back' = r.back';
      list = ap (λ (vs : List Tile). u ∷ vs) r.list;
      fronts = λ i. head i ∷ fronts i;
      tiles = r.tiles;
      backs = r.backs;
    }
