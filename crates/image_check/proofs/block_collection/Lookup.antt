-- The blocks of contiguous tiles are looked up by payload.
use Rattle.image_check.proofs.Common.{AreBelow, AreBlocks, Block, Blocks, HasTiles, IsBlockAt, IsMarkingOf}
use Rattle.image_check.proofs.Common.{IsTileAt, IsTrue, IsUnmarked, List, Node, None, Option, Owner, Role, Row, Some}
use Rattle.image_check.proofs.Common.{Tile, WindowState, [], and_from, and_parts, ap, arith, block_at}
use Rattle.image_check.proofs.Common.{bytes_of, cond, cond-false, cond-true, cons_option, debts, entries_of, entry_of}
use Rattle.image_check.proofs.Common.{eq-eqb, eqb-true, false, false≢true, frame_of, frames, is_some, is_use, length}
use Rattle.image_check.proofs.Common.{nat_eq, ne_eqb, new_block, option_to_list, owner_at, owner_in, refl}
use Rattle.image_check.proofs.Common.{said_row, same_role, slice_get, subst, suc, sym, tile_of, tiles_are_read_off}
use Rattle.image_check.proofs.Common.{true, unspent_budget, visit_budget, weigh, zero, ℕ, ◌&&◌, ◌*◌, ◌++◌, ◌+◌, ◌-◌}
use Rattle.image_check.proofs.Common.{◌<◌, ◌==◌, ◌∙◌, ◌∷◌, ◌≡◌, ◌≢◌, ◌≤◌}
use Rattle.std.proofs.Common.{Bool}
use Rattle.raw_region.specs.Format.{current}
use Rattle.block_tags.specs.declared.tile.Role.TheVariants.{Object}
use Rattle.image_check.specs.Passes.{tiles_in}
use Rattle.image_check.specs.Owners.{AreAligned, due_of}
use Rattle.std.proofs.lemmas.List.{length-append}
use Rattle.image_check.proofs.walks.Tiles.{WalksAt}
use Rattle.image_check.specs.Visits.{tag_rates}
use Rattle.image_check.proofs.budget.Passes.{costs-each, costs-weigh}
use Rattle.image_check.proofs.frame.Tags.{image-row}
use Rattle.image_check.proofs.bytes.Members.{find_mem, mem_right}
use Rattle.image_check.proofs.block_collection.Places.{in_row, payload-inside}
use Rattle.image_check.proofs.block_collection.UsedTile.{from-there, same_role-is, same_role-refl}
use Rattle.image_check.proofs.budget.Visits.{two-for-tile}
use mathlib.Core.Logic.{inl}
use Rattle.image_check.specs.Owners.{OwnerState}

-- a tile that is found is at its offset, and not before the first
found-far : (at : ℕ) (ts : List Tile) (end : ℕ) (role : Role) (n : ℕ) (t : Tile) → Row at ts end
    → tile_of ts role n ≡ Some t → at + 16 ≤ n
found-far at ts end role n t a e =
    let k = find_mem (λ (u : Tile). is_use role u && (u.offset + 16 == n)) t ts e in
    let there = eqb-true (t.offset + 16) n (and_parts (is_use role t) (t.offset + 16 == n) k.is).1 in
    let l = from-there at ts end t a k.mem in
    omega arith

-- a tile in use is one block of its role
pub use-of : (o : Option Role) (r : Role) → IsTrue (elim o [ None ↦ false | Some x ↦ same_role r x ]) → o ≡ Some r
use-of None r h = absurd (false≢true h)
use-of (Some x) r h = ap Some (sym (same_role-is r x h))

-- ---- tiles are found as blocks

block-behind : (o : Option (ℕ × Block)) (es : Blocks) (n : ℕ) (role : Role) (t : Tile)
    → ((k : ℕ) (b : Block) → o ≡ Some (k, b) → n ≢ k) → IsBlockAt es n role t → IsBlockAt (cons_option o es) n role t
block-behind None es n role t d w = w
block-behind (Some (k, b)) es n role t d w =
    record {
      block = w.block;
      is = cond-false (nat_eq n k) (Some b) (block_at es n) (ne_eqb n k (d k b refl))
          ∙ w.is;
      role_is = w.role_is;
      len = w.len;
    }

entry-key : (offset len : ℕ) (use_of : Option Role) (red : Bool) (k : ℕ) (b : Block)
    → entry_of (record { offset = offset; len = len; use_of = use_of; red = red }) ≡ Some (k, b) → k ≡ offset + 16
entry-key offset len None red k b e = absurd (cc)
entry-key offset len (Some r) red k b e = let f : (offset + 16, new_block r len) ≡ (k, b) = cc
    in sym (ap (λ (p : ℕ × Block). p.0) f)

block-here : (offset len : ℕ) (use_of : Option Role) (red : Bool) (es : Blocks) (n : ℕ) (role : Role)
    → use_of ≡ Some role → offset + 16 ≡ n
    → IsBlockAt (cons_option (entry_of (record { offset = offset; len = len; use_of = use_of; red = red })) es) n
    role (record { offset = offset; len = len; use_of = use_of; red = red })
block-here offset len None red es n role e f = absurd (cc)
block-here offset len (Some r) red es n role e f =
    let same : r ≡ role = cc in
    record {
      block = new_block r len;
      is = cond-true (nat_eq n (offset + 16)) (Some (new_block r len)) (block_at es n) (eq-eqb n (offset + 16) (sym f));
      role_is = same;
      len = refl;
    }

blocks-if : (t : Tile) (es : Blocks) (n : ℕ) (role : Role) (u : Tile) (o : Option Tile) (b : Bool)
    → (is_use role t && (t.offset + 16 == n)) ≡ b
    → (o ≡ Some u → IsBlockAt es n role u × (t.offset + 16 < n)) → cond b (Some t) o ≡ Some u
    → IsBlockAt (cons_option (entry_of t) es) n role u
blocks-if t es n role u o true e ih h =
    let p = and_parts (is_use role t) (t.offset + 16 == n) e in
    let same : t ≡ u = cc in
    subst (λ (x : Tile). IsBlockAt (cons_option (entry_of t) es) n role x) same
    (block-here t.offset t.len t.use_of t.red es n role (use-of t.use_of role p.0) (eqb-true (t.offset + 16) n p.1))
blocks-if t es n role u o false e ih h =
    let w = ih h in
    let far = w.1 in
    block-behind (entry_of t) es n role u (λ k b f g. let key = entry-key t.offset t.len t.use_of t.red k b f
    in absurd (omega arith)) w.0

pub gathered-blocks : (at : ℕ) (ts : List Tile) (end : ℕ) → Row at ts end → (n : ℕ) (role : Role) (t : Tile)
    → tile_of ts role n ≡ Some t → IsBlockAt (entries_of ts) n role t
gathered-blocks at [] end a n role t e = absurd (cc)
gathered-blocks at (u ∷ ts) end a n role t e =
    let here = a.0 in
    let long = a.1 in
    blocks-if u (entries_of ts) n role t (tile_of ts role n) (is_use role u && (u.offset + 16 == n)) refl
    (λ f. let far = found-far (at + u.len) ts end role n t a.3 f
    in (gathered-blocks (at + u.len) ts end a.3 n role t f, omega arith)) e

-- ---- and blocks are tiles

tile-behind : (t : Tile) (ts : List Tile) (n : ℕ) (b : Block) → (is_use b.role t && (t.offset + 16 == n)) ≡ false
    → IsTileAt ts n b → IsTileAt (t ∷ ts) n b
tile-behind t ts n b d w = record {
  tile = w.tile;
  is = cond-false (is_use b.role t && (t.offset + 16 == n)) (Some t) (tile_of ts b.role n) d ∙ w.is;
  len = w.len;
}

and-false : (a b : Bool) → b ≡ false → (a && b) ≡ false
and-false true b e = e
and-false false b e = refl

tiles-if : (offset len : ℕ) (r : Role) (red : Bool) (ts : List Tile) (es : Blocks) (n : ℕ) (b : Block) (x : Bool)
    → nat_eq n (offset + 16) ≡ x → (block_at es n ≡ Some b → IsTileAt ts n b)
    → cond x (Some (new_block r len)) (block_at es n) ≡ Some b
    → IsTileAt (record { offset = offset; len = len; use_of = Some r; red = red } ∷ ts) n b
tiles-if offset len r red ts es n b true e ih h =
    let same : new_block r len ≡ b = cc in
    let there = eqb-true n (offset + 16) e in
    let t : Tile = record { offset = offset; len = len; use_of = Some r; red = red } in
    subst (IsTileAt (t ∷ ts) n) same
    (record {
      tile = t;
      is = cond-true (same_role r r && (offset + 16 == n)) (Some t) (tile_of ts r n)
          (and_from (same_role r r) (offset + 16 == n) (same_role-refl r) (eq-eqb (offset + 16) n (sym there)));
      len = refl;
    })
tiles-if offset len r red ts es n b false e ih h =
    tile-behind (record { offset = offset; len = len; use_of = Some r; red = red }) ts n b
    (and-false (same_role b.role r) (offset + 16 == n) (ne_eqb (offset + 16) n (λ f.
    false≢true (sym e ∙ eq-eqb n (offset + 16) (sym f))))) (ih h)

tiles-step : (offset len : ℕ) (use_of : Option Role) (red : Bool) (ts : List Tile) (es : Blocks) (n : ℕ) (b : Block)
    → (block_at es n ≡ Some b → IsTileAt ts n b)
    → block_at (cons_option (entry_of (record { offset = offset; len = len; use_of = use_of; red = red })) es) n
    ≡ Some b → IsTileAt (record { offset = offset; len = len; use_of = use_of; red = red } ∷ ts) n b
tiles-step offset len None red ts es n b ih h =
    tile-behind (record { offset = offset; len = len; use_of = None; red = red }) ts n b refl (ih h)
tiles-step offset len (Some r) red ts es n b ih h =
    tiles-if offset len r red ts es n b (nat_eq n (offset + 16)) refl ih h

pub gathered-tiles : (ts : List Tile) (n : ℕ) (b : Block) → block_at (entries_of ts) n ≡ Some b → IsTileAt ts n b
gathered-tiles [] n b e = absurd (cc)
gathered-tiles (t ∷ ts) n b e =
    tiles-step t.offset t.len t.use_of t.red ts (entries_of ts) n b (gathered-tiles ts n b) e

-- the blocks of the tiles are the tiles in use
pub gathered : (at : ℕ) (ts : List Tile) (end : ℕ) → Row at ts end → AreBlocks ts (entries_of ts)
gathered at ts end a = record { tiles = gathered-tiles ts; blocks = gathered-blocks at ts end a }

-- ---- no block has an owner

free-in : (b : Block) → b.owner ≡ None → owner_in (Some b) ≡ None
free-in b e = by (same_role b.role Object)
  where
    by : (x : Bool) → cond x None b.owner ≡ None
    by true = refl
    by false = e

first-owner : (o : Option (ℕ × Block)) (es : Blocks) (n : ℕ)
    → ((k : ℕ) (b : Block) → o ≡ Some (k, b) → b.owner ≡ None) → owner_at es n ≡ None
    → owner_at (cons_option o es) n ≡ None
first-owner None es n f h = h
first-owner (Some (k, b)) es n f h = by (nat_eq n k)
  where
    by : (x : Bool) → owner_in (cond x (Some b) (block_at es n)) ≡ None
    by true = free-in b (f k b refl)
    by false = h

entry-free : (offset len : ℕ) (use_of : Option Role) (red : Bool) (k : ℕ) (b : Block)
    → entry_of (record { offset = offset; len = len; use_of = use_of; red = red }) ≡ Some (k, b) → b.owner ≡ None
entry-free offset len None red k b e = absurd (cc)
entry-free offset len (Some r) red k b e = let f : (offset + 16, new_block r len) ≡ (k, b) = cc
    in sym (ap (λ (p : ℕ × Block). p.1.owner) f)

pub none-owned : (ts : List Tile) (n : ℕ) → owner_at (entries_of ts) n ≡ None
none-owned [] n = refl
none-owned (t ∷ ts) n = first-owner (entry_of t) (entries_of ts) n (entry-free t.offset t.len t.use_of t.red)
    (none-owned ts n)

-- ---- blocks of the same frame

-- the list has a block of the same role and length
pub record SameBlock (fs : Blocks) (n : ℕ) (b : Block) : Type 0 where
  pub block : Block
  pub is : block_at fs n ≡ Some block
  pub role_is : block.role ≡ b.role
  pub len : block.len ≡ b.len

same-if : (n k j : ℕ) (c d b : Block) (es fs : Blocks) (x : Bool) → nat_eq n k ≡ x
    → frame_of (k, c) ≡ frame_of (j, d) → (block_at es n ≡ Some b → SameBlock fs n b)
    → cond x (Some c) (block_at es n) ≡ Some b → SameBlock ((j, d) ∷ fs) n b
same-if n k j c d b es fs true e f ih h =
    let same : c ≡ b = cc in
    let key : j ≡ k = ap (λ (p : ℕ × Role × ℕ). p.0) (sym f) in
    let kind : d.role ≡ c.role = ap (λ (p : ℕ × Role × ℕ). p.1) (sym f) in
    let long : d.len ≡ c.len = ap (λ (p : ℕ × Role × ℕ). p.2) (sym f) in
    record {
      block = d;
      is = cond-true (nat_eq n j) (Some d) (block_at fs n) (ap (nat_eq n) key ∙ e);
      role_is = kind ∙ ap (λ (x : Block). x.role) same;
      len = long ∙ ap (λ (x : Block). x.len) same;
    }
same-if n k j c d b es fs false e f ih h =
    let w = ih h in
    let key : j ≡ k = ap (λ (p : ℕ × Role × ℕ). p.0) (sym f) in
    record {
      block = w.block;
      is = cond-false (nat_eq n j) (Some d) (block_at fs n) (ap (nat_eq n) key ∙ e) ∙ w.is;
      role_is = w.role_is;
      len = w.len;
    }

pub same_frame : (es fs : Blocks) (n : ℕ) (b : Block) → frames es ≡ frames fs → block_at es n ≡ Some b
    → SameBlock fs n b
same_frame [] fs n b f h = absurd (cc)
same_frame (e ∷ es) [] n b f h = absurd (cc)
same_frame (e ∷ es) (g ∷ fs) n b f h =
    let first : frame_of e ≡ frame_of g = cc in
    let rest : frames es ≡ frames fs = cc in
    same-if n e.0 g.0 e.1 g.1 b es fs (nat_eq n e.0) refl first (same_frame es fs n b rest) h

-- blocks with the roles and lengths of tiles are the blocks of these tiles
pub frame-AreBlocks : (ts : List Tile) (es fs : Blocks) → frames es ≡ frames fs → AreBlocks ts fs → AreBlocks ts es
frame-AreBlocks ts es fs f a = record {
  tiles = λ n b e.
      let s = same_frame es fs n b f e in
      let w = a.tiles n s.block s.is in
      record { tile = w.tile; is = ap (λ r. tile_of ts r n) (sym s.role_is) ∙ w.is; len = w.len ∙ s.len };
  blocks = λ n role t e.
      let w = a.blocks n role t e in
      let s = same_frame fs es n w.block (sym f) w.is in
      record { block = s.block; is = s.is; role_is = s.role_is ∙ w.role_is; len = s.len ∙ w.len };
}

-- ---- the visits that are due

abbrev entry_for : ℕ → ℕ → Option Role → Option (ℕ × Block)
entry_for offset len o = elim o [ None ↦ None | Some role ↦ Some (offset + 16, new_block role len) ]

-- the visits that are due for blocks with these roles and lengths
abbrev framed_due : List (ℕ × Role × ℕ) → ℕ
framed_due [] = 0
framed_due (f ∷ fs) = visit_budget f.1 f.2 + framed_due fs

visit_budget-most : (o : Option Owner) (n : ℕ) → elim o [ None ↦ n | Some x ↦ 0 ] ≤ n
visit_budget-most None n = omega arith
visit_budget-most (Some x) n = omega arith

unspent_budget-framed : (es : Blocks) → unspent_budget es ≤ framed_due (frames es)
unspent_budget-framed [] = omega arith
unspent_budget-framed (e ∷ es) =
    let d : due_of e.1 ≤ visit_budget e.1.role e.1.len = visit_budget-most e.1.owner (visit_budget e.1.role e.1.len) in
    let l = unspent_budget-framed es in
    let all : framed_due (frames (e ∷ es)) ≡ visit_budget e.1.role e.1.len + framed_due (frames es) = refl in
    omega arith

framed-debts : (ts : List Tile) → framed_due (frames (entries_of ts)) ≡ debts ts
framed-debts [] = refl
framed-debts (t ∷ ts) = by t.use_of (framed-debts ts)
  where
    by : (o : Option Role) → framed_due (frames (entries_of ts)) ≡ debts ts
        → framed_due (frames (cons_option (entry_for t.offset t.len o) (entries_of ts)))
        ≡ elim o [ None ↦ 0 | Some role ↦ visit_budget role t.len ] + debts ts
    by None ih = omega arith
    by (Some r) ih = ap (λ x. visit_budget r t.len + x) ih

pub unspent_budget-most : (ts : List Tile) (es : Blocks) → frames es ≡ frames (entries_of ts)
    → unspent_budget es ≤ debts ts
unspent_budget-most ts es f =
    let l = unspent_budget-framed es in
    let e = ap framed_due f ∙ framed-debts ts in
    omega arith

-- ---- so the marking begins

-- blocks that were gathered have no marks
pub gathered-unmarked : (ts : List Tile) → IsUnmarked ts (entries_of ts)
gathered-unmarked ts = record { frame = refl; none = none-owned ts }

-- the collected blocks are the blocks of the tags
pub tags-blocks : (b : List ℕ) → HasTiles b → AreBlocks (tiles_in b) (entries_of (tiles_in b))
tags-blocks b h = gathered 128 (tiles_in b) (length b - 16)
    (image-row b h)

pub unmarked-blocks : (b : List ℕ) (es : Blocks) → HasTiles b → IsUnmarked (tiles_in b) es → AreBlocks (tiles_in b) es
unmarked-blocks b es h u = frame-AreBlocks (tiles_in b) es (entries_of (tiles_in b)) u.frame (tags-blocks b h)

pub tags-aligned : (b : List ℕ) → HasTiles b → AreAligned (tiles_in b)
tags-aligned b h n t e = (payload-inside current (bytes_of b) (length b) Node n t h.tags e).aligned

-- no mark and no debt: the marking before the first link
pub unmarked-marking : (format : ℕ) (b : List ℕ) (s : OwnerState) → HasTiles b → IsUnmarked (tiles_in b) s.entries
    → s.pending ≡ None → s.waiting ≡ 0 → IsMarkingOf format b s
unmarked-marking format b s h u p w = record {
  blocks = unmarked-blocks b s.entries h u;
  frame = u.frame;
  aligned = tags-aligned b h;
  counts = λ n o e. let f = u.none n in absurd (cc);
  rooted = λ n o e. let f = u.none n in absurd (cc);
  chain = [];
  linked = p;
  count = sym w;
  room = let l = unspent_budget-most (tiles_in b) s.entries u.frame in omega arith;
  followed = λ n o t f e. let g = u.none n in absurd (cc);
}

-- ---- the walk that collects the blocks

-- a block before a place has only earlier blocks before it
below-first : (o : Option (ℕ × Block)) (es : Blocks) (n : ℕ) → ((k : ℕ) (b : Block) → o ≡ Some (k, b) → k < n)
    → AreBelow es n → AreBelow (cons_option o es) n
below-first None es n f h = h
below-first (Some (k, b)) es n f h = λ i x g. by i x g
  where
    by : (i : ℕ) (x : ℕ × Block) → slice_get ((k, b) ∷ es) i ≡ Some x → x.0 < n
    by zero x g = let same : (k, b) ≡ x = cc in subst (λ (y : ℕ × Block). y.0 < n) same (f k b refl)
    by (suc i) x g = h i x g

below-here : (from : ℕ) (front : List Tile) (here : Tile) (back : List Tile) (to : ℕ)
    → Row from (front ++ here ∷ back) to → AreBelow (entries_of front) (here.offset + 16)
below-here from [] here back to h = λ i x g. absurd (cc)
below-here from (f ∷ front) here back to h =
    let low =
    (in_row (from + f.len) (front ++ here ∷ back) to here h.3 (mem_right here front (here ∷ back) (inl refl))).low in
    let there = h.0 in
    let long = h.1 in
    below-first (entry_of f) (entries_of front) (here.offset + 16) (λ k b e.
    let key = entry-key f.offset f.len f.use_of f.red k b e
    in omega arith) (below-here (from + f.len) front here back to h.3)

pub entries-push : (front : List Tile) (t : Tile)
    → entries_of (front ++ t ∷ []) ≡ entries_of front ++ option_to_list (entry_of t)
entries-push [] t = last (entry_of t)
  where
    last : (o : Option (ℕ × Block)) → cons_option o [] ≡ option_to_list o
    last None = refl
    last (Some e) = refl
entries-push (f ∷ front) t = ap (cons_option (entry_of f)) (entries-push front t)
    ∙ sym (onto (entry_of f) (entries_of front) (option_to_list (entry_of t)))
  where
    onto : (o : Option (ℕ × Block)) (es fs : Blocks) → cons_option o es ++ fs ≡ cons_option o (es ++ fs)
    onto None es fs = refl
    onto (Some e) es fs = refl

-- the block of a tile in use
pub entry-is : (t : Tile) (role : Role) → t.use_of ≡ Some role → entry_of t ≡ Some (t.offset + 16, new_block role t.len)
entry-is t role e = ap (λ (o : Option Role).
    elim o [ None ↦ None | Some r ↦ Some (t.offset + 16, new_block r t.len) ]) e

-- the count is the number of blocks
pub count-push : (front : List Tile) (here : Tile)
    → length (entries_of (front ++ here ∷ [])) ≡ length (entries_of front) + length (option_to_list (entry_of here))
count-push front here = ap (λ (es : Blocks). length es) (entries-push front here)
    ∙ length-append (entries_of front) (option_to_list (entry_of here))

-- a tile in use is one block
pub count-used : (here : Tile) → is_some here.use_of ≡ true → length (option_to_list (entry_of here)) ≡ 1
count-used here = by here.use_of
  where
    by : (o : Option Role) → is_some o ≡ true → length (option_to_list (entry_for here.offset here.len o)) ≡ 1
    by None e = absurd (false≢true e)
    by (Some r) e = refl

-- a free tile is no block
pub count-free : (here : Tile) → is_some here.use_of ≡ false → length (option_to_list (entry_of here)) ≡ 0
count-free here = by here.use_of
  where
    by : (o : Option Role) → is_some o ≡ false → length (option_to_list (entry_for here.offset here.len o)) ≡ 0
    by None e = refl
    by (Some r) e = absurd (false≢true (sym e))

-- at most as many blocks as tiles
pub count-most : (ts : List Tile) → length (entries_of ts) ≤ length ts
count-most [] = omega arith
count-most (t ∷ ts) = by t.use_of (count-most ts)
  where
    by : (o : Option Role) → length (entries_of ts) ≤ length ts
        → length (cons_option (entry_for t.offset t.len o) (entries_of ts)) ≤ suc (length ts)
    by None h = omega arith
    by (Some r) h = omega arith

-- the blocks of the tiles passed are gathered, in a map with room for the others
pub record Gathering (seen visits room spared : ℕ) (es : Blocks) (front : List Tile) : Type 0 where
  pub entries : es ≡ entries_of front
  pub spare : room ≤ spared + length (entries_of front)
  pub more : seen + length front ≤ visits
  pub most : visits ≤ seen + (length front + length front)

-- the tiles are the passed ones, this one and the later ones
pub at-all : (c : WindowState) (Kept : List Tile → Type 0) (here : Tile) → (a : WalksAt c Kept here)
    → tiles_in c.bytes ≡ a.front ++ here ∷ a.back
at-all c Kept here a = tiles_are_read_off c (a.front ++ here ∷ a.back) a.said

count-behind : (front : List Tile) (here : Tile) (back : List Tile)
    → length (entries_of front) + length (option_to_list (entry_of here)) ≤ length (entries_of (front ++ here ∷ back))
count-behind [] here back = let l = by (entry_of here) in omega arith
  where
    by : (o : Option (ℕ × Block)) → length (option_to_list o) ≤ length (cons_option o (entries_of back))
    by None = omega arith
    by (Some e) = omega arith
count-behind (f ∷ front) here back = by (entry_of f) (count-behind front here back)
  where
    by : (o : Option (ℕ × Block)) → length (entries_of front) + length (option_to_list (entry_of here))
        ≤ length (entries_of (front ++ here ∷ back))
        → length (cons_option o (entries_of front)) + length (option_to_list (entry_of here))
        ≤ length (cons_option o (entries_of (front ++ here ∷ back)))
    by None h = h
    by (Some e) h = omega arith

-- there is room for one more block
pub gathering-room : (c : WindowState) (seen visits room spared : ℕ) (es : Blocks) (here : Tile)
    → WalksAt c (Gathering seen visits room spared es) here → length (entries_of (tiles_in c.bytes)) ≤ room
    → length (option_to_list (entry_of here)) ≤ spared
gathering-room c seen visits room spared es here a h =
    let all = ap (λ (ts : List Tile).
    length (entries_of ts)) (at-all c (Gathering seen visits room spared es) here a) in
    let part = count-behind a.front here a.back in
    let left = a.kept.spare in
    omega arith

-- the blocks so far are below the tile
pub gathering-below : (c : WindowState) (seen visits room spared : ℕ) (es : Blocks) (here : Tile)
    → WalksAt c (Gathering seen visits room spared es) here → AreBelow es (here.offset + 16)
gathering-below c seen visits room spared es here a =
    subst (λ (fs : Blocks). AreBelow fs (here.offset + 16)) (sym a.kept.entries)
    (below-here 128 a.front here a.back (length c.bytes - 16) (said_row c (a.front ++ here ∷ a.back) a.said))

-- one more tile is collected
pub gathering-more : (seen visits room spared : ℕ) (es : Blocks) (front : List Tile) (here : Tile) (v2 s2 : ℕ)
    (fs : Blocks) → Gathering seen visits room spared es front
    → visits + 1 ≤ v2 → v2 ≤ visits + 2 → fs ≡ es ++ option_to_list (entry_of here)
    → spared ≤ s2 + length (option_to_list (entry_of here)) → Gathering seen v2 room s2 fs (front ++ here ∷ [])
gathering-more seen visits room spared es front here v2 s2 fs g lo hi e s =
    let left = g.spare in
    let more = g.more in
    let most = g.most in
    let push = count-push front here in
    let len = length-append front (here ∷ []) in
    record {
      entries = e ∙ ap (λ (xs : Blocks). xs ++ option_to_list (entry_of here)) g.entries
          ∙ sym (entries-push front here);
      spare = omega arith;
      more = omega arith;
      most = omega arith;
    }

-- two visits for each tile are within the rate
pub gathering-weigh : (b : List ℕ) → HasTiles b → 2 * length (tiles_in b) ≤ weigh tag_rates (tiles_in b)
gathering-weigh b h =
    let l = costs-weigh tag_rates (λ t. 2) 128 (tiles_in b) (length b - 16)
    (image-row b h) (λ t k. two-for-tile t.use_of t.len k) in
    let e = costs-each 2 (tiles_in b) in
    omega arith
