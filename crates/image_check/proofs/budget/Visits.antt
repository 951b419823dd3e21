-- Counts of visits: the rates of tiles, and the bound of all passes together: 64 for each 16 bytes of the size, and 64.
use Rattle.image_check.proofs.Common.{EncodesTiles, HasTiles, IsLinkClosed, IsTrue, List, None, Option}
use Rattle.image_check.proofs.Common.{Rates, Role, Row, Some, Spends, Tile, WindowState, [], ap, arith}
use Rattle.image_check.proofs.Common.{bytes_of, is_in, is_legal_size, is_target, is_target-PayloadBounds, leads}
use Rattle.image_check.proofs.Common.{legal_size, length, link_at, planting_rates, rate_of, refl, said_row, tag_rates}
use Rattle.image_check.proofs.Common.{tiles_are_read_off, tree_rates, true, weigh, ℕ, ◌%◌, ◌*◌, ◌++◌, ◌+◌, ◌-◌, ◌/◌}
use Rattle.image_check.proofs.Common.{◌<◌, ◌^◌, ◌∙◌, ◌∷◌, ◌≡◌, ◌≤◌}
use Rattle.std.proofs.Math.Nat.{add-mul, mul-le-mul_right}
use Rattle.block_tags.specs.declared.tile.Role.TheVariants.{Object}
use Rattle.link_tree.specs.Tree.{bits}
use Rattle.std.proofs.lemmas.Int.Digits.{length-digits_of-le}
use Rattle.image_check.specs.Opening.{IsRaisedFor}
use Rattle.image_check.specs.Passes.{tiles_in}
use Rattle.image_check.specs.Visits.{all_rates, block_rates, both, frame_rates, tag_rates, used_rates}
use Rattle.image_check.specs.Visits.{planting_visits, step_rates}
use Rattle.image_check.specs.FreeNodes.{target_cells, good_target}
use Rattle.image_check.specs.FreeLaws.{length-multiples, multiples, target_listed, target_leads}
use Rattle.image_check.proofs.walks.Tiles.{tags-IsTiledWindow}
use Rattle.image_check.proofs.walks.Weights.{weigh-append}

-- ---- sums of plain numbers

on : (a b c : ℕ) → a ≤ b → b ≤ c → a ≤ c
on a b c l m = omega arith

-- a tile more of a row
row-step : (p u from len to : ℕ) → p ≡ 1 * (len / 16) → len % 16 ≡ 0 → 16 * u + (from + len) ≡ to
    → 16 * (p + u) + from ≡ to
row-step p u from len to e even more = omega arith

row-size : (u v n : ℕ) → 16 * v + 128 ≡ n - 16 → u ≡ v → 144 ≤ n → 16 * u + 144 ≡ n
row-size u v n row same least = omega arith

five-step : (p f q u w : ℕ) → p ≡ 1 * q → f ≡ 5 * q → w ≡ 5 * u → f + w ≡ 5 * (p + u)
five-step p f q u w e g more = omega arith

most-step : (p l q u w : ℕ) → p ≡ 1 * q → l ≤ 64 * q → w ≤ 64 * u → l + w ≤ 64 * (p + u)
most-step p l q u w e less more = omega arith

more-paid : (old now next p w all : ℕ) → now ≤ old + w → next ≤ now + p → all ≡ w + (p + 0) → next ≤ old + all
more-paid old now next p w all high m e = omega arith

stop-paid : (old now next p q w v all : ℕ) → now ≤ old + w → next ≤ now + p → v ≡ w + (p + q) → all ≡ v
    → next ≤ old + (0 + all)
stop-paid old now next p q w v all high m e same = omega arith

tags-paid : (old tags new u n : ℕ) → 16 * u + 144 ≡ n → 32 * tags + 112 ≤ n → new ≡ old + tags
    → (old ≤ new) × (new ≤ old + (1 + u))
tags-paid old tags new u n size few e = (omega arith, omega arith)

steps-paid : (old steps new u w n : ℕ) → 16 * u + 144 ≡ n → w ≡ 5 * u → steps ≤ 5 * (n / 16) + 5 → new ≡ old + steps
    → (old ≤ new) × (new ≤ old + (50 + w))
steps-paid old steps new u w n size five few e = (omega arith, omega arith)

both-paid : (old mid new m n r s w : ℕ) → mid ≤ old + (m + r) → new ≤ mid + (n + s) → w ≡ r + s
    → new ≤ old + (m + n + w)
both-paid old mid new m n r s w a b e = omega arith

less-paid : (old new m n r s w : ℕ) → new ≤ old + (m + r) → w ≡ r + s → new ≤ old + (m + n + w)
less-paid old new m n r s w a e = omega arith

part-paid : (old new m u w n : ℕ) → new ≤ old + (m + w) → m ≤ 640 → 16 * u + 144 ≡ n → w ≤ 64 * u
    → new ≤ old + 64 * (n / 16 + 1)
part-paid old new m u w n a few size weight = omega arith

-- ---- the weight of tiles

-- two rates together
rate-both : (r s : Rates) (u : Option Role) → rate_of (both r s) u ≡ rate_of r u + rate_of s u
rate-both r s (Some Object) = refl
rate-both r s other = refl

spread : (a b x n : ℕ) → x ≡ a + b → x * n ≡ a * n + b * n
spread a b x n e = ap (λ k. k * n) e ∙ add-mul a b n

regroup : (a b c d x y : ℕ) → x ≡ a + b → y ≡ c + d → x + y ≡ (a + c) + (b + d)
regroup a b c d x y e f = omega arith

pub weigh-both : (r s : Rates) (ts : List Tile) → weigh (both r s) ts ≡ weigh r ts + weigh s ts
weigh-both r s [] = refl
weigh-both r s (t ∷ ts) =
    regroup (rate_of r t.use_of * (t.len / 16)) (rate_of s t.use_of * (t.len / 16)) (weigh r ts) (weigh s ts)
    (rate_of (both r s) t.use_of * (t.len / 16)) (weigh (both r s) ts)
    (spread (rate_of r t.use_of) (rate_of s t.use_of) (rate_of (both r s) t.use_of) (t.len / 16)
    (rate-both r s t.use_of)) (weigh-both r s ts)

-- ---- the size in units of 16 bytes

-- one for each 16 bytes
abbrev pub units : List Tile → ℕ
units = weigh tag_rates

one-each : (u : Option Role) → rate_of tag_rates u ≡ 1
one-each (Some Object) = refl
one-each other = refl

five-each : (u : Option Role) → rate_of step_rates u ≡ 5
five-each (Some Object) = refl
five-each other = refl

by-rate : (a b n : ℕ) → a ≡ b → a * n ≡ b * n
by-rate a b n e = ap (λ k. k * n) e

row-units : (from : ℕ) (ts : List Tile) (to : ℕ) → Row from ts to → 16 * units ts + from ≡ to
row-units from [] to row = let e = row in omega arith
row-units from (t ∷ ts) to row =
    row-step (rate_of tag_rates t.use_of * (t.len / 16)) (units ts) from t.len to
    (by-rate (rate_of tag_rates t.use_of) 1 (t.len / 16) (one-each t.use_of)) row.2
    (row-units (from + t.len) ts to row.3)

pub size-units : (c : WindowState) → HasTiles c.bytes → 16 * units (tiles_in c.bytes) + 144 ≡ length c.bytes
size-units c h =
    let tiled = tags-IsTiledWindow c h.size h.tags in
    row-size (units (tiles_in c.bytes)) (units tiled.tiles) (length c.bytes)
    (row-units 128 tiled.tiles (length c.bytes - 16) (said_row c tiled.tiles tiled.said))
    (ap units (tiles_are_read_off c tiled.tiles tiled.said)) (legal_size (length c.bytes) h.size).low

weigh-five : (ts : List Tile) → weigh step_rates ts ≡ 5 * units ts
weigh-five [] = refl
weigh-five (t ∷ ts) =
    five-step (rate_of tag_rates t.use_of * (t.len / 16)) (rate_of step_rates t.use_of * (t.len / 16)) (t.len / 16)
    (units ts) (weigh step_rates ts)
    (by-rate (rate_of tag_rates t.use_of) 1 (t.len / 16) (one-each t.use_of))
    (by-rate (rate_of step_rates t.use_of) 5 (t.len / 16) (five-each t.use_of)) (weigh-five ts)

-- ---- rates up to 64

weigh-less : (r s : Rates) → ((u : Option Role) → rate_of r u ≤ rate_of s u) → (ts : List Tile)
    → weigh r ts ≤ weigh s ts
weigh-less r s less [] = omega arith
weigh-less r s less (t ∷ ts) =
    let here = mul-le-mul_right (t.len / 16) (less t.use_of) in
    let rest = weigh-less r s less ts in
    omega arith

weigh-most : (r : Rates) → ((u : Option Role) → rate_of r u ≤ 64) → (ts : List Tile) → weigh r ts ≤ 64 * units ts
weigh-most r most [] = omega arith
weigh-most r most (t ∷ ts) =
    most-step (rate_of tag_rates t.use_of * (t.len / 16)) (rate_of r t.use_of * (t.len / 16)) (t.len / 16)
    (units ts) (weigh r ts)
    (by-rate (rate_of tag_rates t.use_of) 1 (t.len / 16) (one-each t.use_of))
    (mul-le-mul_right (t.len / 16) (most t.use_of)) (weigh-most r most ts)

-- ---- a count over the tiles that a walk has passed

-- the count rose by no more than the tiles weigh
abbrev pub Within : Rates → ℕ → ℕ → List Tile → Type 0
Within r old now ts = (old ≤ now) × (now ≤ old + weigh r ts)

-- before the first tile nothing was counted
pub within-none : (r : Rates) (old : ℕ) → Within r old old []
within-none r old = (omega arith, omega arith)

-- one more tile: the count stays within the bound
pub within-more : (r : Rates) (old now next : ℕ) (front : List Tile) (here : Tile) → Within r old now front
    → now ≤ next → next ≤ now + rate_of r here.use_of * (here.len / 16)
    → Within r old next (front ++ here ∷ [])
within-more r old now next front here w l m = (
  on old now next w.0 l,
  more-paid old now next (rate_of r here.use_of * (here.len / 16)) (weigh r front)
      (weigh r (front ++ here ∷ [])) w.1 m (weigh-append r front (here ∷ [])),
)

-- the walk stops at a tile
pub within-stop : (c : WindowState) (r : Rates) (old now next : ℕ) (front : List Tile) (here : Tile)
    (back : List Tile) → EncodesTiles c (front ++ here ∷ back) → Within r old now front
    → now ≤ next → next ≤ now + rate_of r here.use_of * (here.len / 16) → Spends r 0 c.bytes old next
within-stop c r old now next front here back said w l m =
    let paid =
    stop-paid old now next (rate_of r here.use_of * (here.len / 16)) (weigh r back) (weigh r front)
    (weigh r (front ++ here ∷ back)) (weigh r (tiles_in c.bytes)) w.1 m
    (weigh-append r front (here ∷ back)) (ap (weigh r) (tiles_are_read_off c (front ++ here ∷ back) said)) in
    (on old now next w.0 l, paid)

-- or the walk has passed all tiles
pub within-all : (b : List ℕ) (r : Rates) (old now : ℕ) → Within r old now (tiles_in b) → Spends r 0 b old now
within-all b r old now w = let low = w.0 in let high = w.1 in (low, omega arith)

-- ---- the rate of a tile

-- two visits for each tile are within the rate of tags
pub two-for-tile : (u : Option Role) (n : ℕ) → 32 ≤ n → 2 ≤ rate_of tag_rates u * (n / 16)
two-for-tile (Some Object) n l = omega arith
two-for-tile other n l = omega arith

-- the visits of a search are within the rate of planting
pub search-for-tile : (u : Option Role) (n : ℕ) → 32 ≤ n → 1 + planting_visits u ≤ rate_of planting_rates u * (n / 16)
search-for-tile (Some Object) n l = omega arith
search-for-tile other n l = omega arith

-- ---- the sums

-- the tags, one for each 32 bytes and the end tag
pub tags-spend : (c : WindowState) (old tags new : ℕ) → HasTiles c.bytes → 32 * tags + 112 ≤ length c.bytes
    → new ≡ old + tags → Spends tag_rates 1 c.bytes old new
tags-spend c old tags new h few e =
    tags-paid old tags new (units (tiles_in c.bytes)) (length c.bytes) (size-units c h) few e

-- the tree: its check, and a walk that looks for the gaps in it
pub steps-spend : (c : WindowState) (old steps new : ℕ) → HasTiles c.bytes → steps ≤ 5 * (length c.bytes / 16) + 5
    → new ≡ old + steps → Spends step_rates 50 c.bytes old new
steps-spend c old steps new h few e =
    steps-paid old steps new (units (tiles_in c.bytes)) (weigh step_rates (tiles_in c.bytes)) (length c.bytes)
    (size-units c h) (weigh-five (tiles_in c.bytes)) few e

-- the sum of what two passes spend
pub spend-both : (b : List ℕ) (r s : Rates) (m n old mid new : ℕ) → Spends r m b old mid → Spends s n b mid new
    → Spends (both r s) (m + n) b old new
spend-both b r s m n old mid new x y =
    let ts = tiles_in b in (
      on old mid new x.0 y.0,
      both-paid old mid new m n (weigh r ts) (weigh s ts) (weigh (both r s) ts) x.1 y.1
          (weigh-both r s ts),
    )

-- less was spent
pub spend-less : (b : List ℕ) (r s : Rates) (m n old new : ℕ) → Spends r m b old new
    → Spends (both r s) (m + n) b old new
spend-less b r s m n old new x =
    let ts = tiles_in b in
    (x.0, less-paid old new m n (weigh r ts) (weigh s ts) (weigh (both r s) ts) x.1 (weigh-both r s ts))

-- lower rates spend less than higher ones
pub spend-within : (b : List ℕ) (r s : Rates) (m old new : ℕ) → ((u : Option Role) → rate_of r u ≤ rate_of s u)
    → Spends r m b old new → Spends s m b old new
spend-within b r s m old new less x =
    let weight = weigh-less r s less (tiles_in b) in
    let high = x.1 in
    (x.0, omega arith)

-- ---- the check of the free tree

-- so a search is short
pub search-short : (n steps : ℕ) → n < 2 ^ 26 - 1 → steps ≤ 2 * bits (n + 1) → steps ≤ 52
search-short n steps l s = let short = length-digits_of-le 2 26 (n + 1) (omega arith) (omega arith) in omega arith

-- the offsets at which a payload can begin are closed under links, and there is at most one for each 16 bytes
listed-link : (c : WindowState) (o : Option ℕ) → leads (is_target c) o ≡ true
    → leads (λ n. is_in n (multiples (length c.bytes / 16))) o ≡ true
listed-link c None h = refl
listed-link c (Some n) h = target_listed c n (is_target-PayloadBounds c n h)

places-closed : (c : WindowState) → IsTrue (is_legal_size (length c.bytes))
    → IsLinkClosed (target_cells c) (multiples (length c.bytes / 16))
unfolding target_cells
places-closed c h = record {
  left = λ n i. listed-link c (good_target (length c.bytes) (link_at (bytes_of c.bytes) n))
      (target_leads c (link_at (bytes_of c.bytes) n) h);
  right = λ n i. listed-link c (good_target (length c.bytes) (link_at (bytes_of c.bytes) (n + 8)))
      (target_leads c (link_at (bytes_of c.bytes) (n + 8)) h);
}

-- the check of the tree visits at most as many nodes as there are gaps
pub check-short : (c : WindowState) (root : Option ℕ) (old steps new : ℕ) → HasTiles c.bytes
    → leads (is_target c) root ≡ true
    → ((ns : List ℕ) → IsLinkClosed (target_cells c) ns → leads (λ n. is_in n ns) root ≡ true
    → steps ≤ 5 * length ns + 5) → new ≡ old + steps
    → Spends step_rates 50 c.bytes old new
check-short c root old steps new h good most e =
    let few = most (multiples (length c.bytes / 16)) (places-closed c h.size) (listed-link c root good) in
    let count = length-multiples (length c.bytes / 16) in
    steps-spend c old steps new h (omega arith) e

-- the parts of the check of the free tree
pub tree-steps : (c : WindowState) (old stepped : ℕ) → Spends step_rates 50 c.bytes old stepped
    → Spends tree_rates 50 c.bytes old stepped
tree-steps c old stepped x = spend-less c.bytes step_rates planting_rates 50 0 old stepped x

-- both passes over the free tree together
pub tree-planted : (c : WindowState) (old stepped planted : ℕ) → Spends step_rates 50 c.bytes old stepped
    → Spends planting_rates 0 c.bytes stepped planted → Spends tree_rates 50 c.bytes old planted
tree-planted c old stepped planted x y = spend-both c.bytes step_rates planting_rates 50 0 old stepped planted x y

-- in place of the tree a walk over the tiles
planted-more : (u : Option Role) → rate_of tag_rates u ≤ rate_of planting_rates u
planted-more (Some Object) = omega arith
planted-more other = omega arith

steps-none : (b : List ℕ) (old : ℕ) → Spends step_rates 50 b old old
steps-none b old = (omega arith, omega arith)

-- an older format has no free tree to visit
pub treeless-spend : (c : WindowState) (old new : ℕ) → Spends tag_rates 0 c.bytes old new
    → Spends tree_rates 50 c.bytes old new
treeless-spend c old new x =
    tree-planted c old old new (steps-none c.bytes old)
    (spend-within c.bytes tag_rates planting_rates 0 old new planted-more x)

-- ---- the whole

-- a part of all passes
pub all-part : (c : WindowState) (r : Rates) (m old new : ℕ) → HasTiles c.bytes
    → ((u : Option Role) → rate_of r u ≤ 64) → m ≤ 640 → Spends r m c.bytes old new
    → IsRaisedFor (length c.bytes) old new
all-part c r m old new h most few x =
    let ts = tiles_in c.bytes in
    (x.0, part-paid old new m (units ts) (weigh r ts) (length c.bytes) x.1 few (size-units c h) (weigh-most r most ts))

frame-most : (u : Option Role) → rate_of frame_rates u ≤ 64
frame-most (Some Object) = omega arith
frame-most other = omega arith

all-most : (u : Option Role) → rate_of all_rates u ≤ 64
all-most (Some Object) = omega arith
all-most other = omega arith

-- the visits of the frame are within the bound
pub frame-raised : (c : WindowState) (old new : ℕ) → HasTiles c.bytes → Spends frame_rates 51 c.bytes old new
    → IsRaisedFor (length c.bytes) old new
frame-raised c old new h x = all-part c frame_rates 51 old new h frame-most (omega arith) x

-- after each pass
module _ (c : WindowState) (old framed gathered : ℕ) (h : HasTiles c.bytes)
    (x : Spends frame_rates 51 c.bytes old framed) (y : Spends tag_rates 2 c.bytes framed gathered) where
  -- the visits up to the map of blocks are within the bound
  pub gathered-raised : IsRaisedFor (length c.bytes) old gathered
  gathered-raised =
      all-part c all_rates 115 old gathered h all-most (omega arith)
      (spend-both c.bytes frame_rates (both tag_rates block_rates) 51 64 old framed gathered x
      (spend-less c.bytes tag_rates block_rates 2 62 framed gathered y))

  -- the visits of the blocks, together with those before
  pub blocks-spent : (new : ℕ) → Spends block_rates 62 c.bytes gathered new → Spends all_rates 115 c.bytes old new
  blocks-spent new z = spend-both c.bytes frame_rates (both tag_rates block_rates) 51 64 old framed new x
      (spend-both c.bytes tag_rates block_rates 2 62 framed gathered new y z)

  -- the visits of the blocks are within the bound
  pub blocks-raised : (new : ℕ) → Spends block_rates 62 c.bytes gathered new → IsRaisedFor (length c.bytes) old new
  blocks-raised new z = all-part c all_rates 115 old new h all-most (omega arith) (blocks-spent new z)

-- and after the noting of the blocks
noted-most : (u : Option Role) → rate_of (both all_rates used_rates) u ≤ 64
noted-most (Some Object) = omega arith
noted-most other = omega arith

-- the visits of the notes are within the bound
pub noted-raised : (c : WindowState) (old passed new count : ℕ) → HasTiles c.bytes
    → Spends all_rates 115 c.bytes old passed
    → count ≤ weigh used_rates (tiles_in c.bytes) → new ≡ passed + count → IsRaisedFor (length c.bytes) old new
noted-raised c old passed new count h x few e =
    all-part c (both all_rates used_rates) 115 old new h noted-most (omega arith)
    (spend-both c.bytes all_rates used_rates 115 0 old passed new x (omega arith, omega arith))

-- if the tags are wrong, only they were read
pub tags-raised : (b : List ℕ) (old tags new : ℕ) → 32 * tags + 112 ≤ length b → new ≡ old + tags
    → IsRaisedFor (length b) old new
tags-raised b old tags new few e = (omega arith, omega arith)
