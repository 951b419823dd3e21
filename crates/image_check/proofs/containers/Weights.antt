-- What is counted for the blocks of containers, all together.
use Rattle.image_check.proofs.Common.{Block, Blocks, HasTiles, List, None, Option, Owner, Role, Row, Some}
use Rattle.image_check.proofs.Common.{Tile, [], ap, arith, block_weight, cons_option, container_block_rates}
use Rattle.image_check.proofs.Common.{container_walk_rates, entries_of, entry_of, false, frames, if◌then◌else◌}
use Rattle.image_check.proofs.Common.{is_rooted, legal_size, length, nat_lt, new_block, rate_of, refl, rooted_weight}
use Rattle.image_check.proofs.Common.{small_size, sym, true, weigh, ℕ, ◌*◌, ◌+◌, ◌-◌, ◌/◌, ◌<◌, ◌==◌, ◌∙◌, ◌∷◌, ◌≡◌}
use Rattle.image_check.proofs.Common.{◌≤◌}
use Rattle.std.proofs.Common.{Bool}
use Rattle.std.proofs.Math.Nat.{add-mul, mul-le-mul_right}
use Rattle.std.proofs.lemmas.Bool.Decides.{nat_tests}
use Rattle.block_tags.specs.declared.tile.Role.TheVariants.{Object}
use Rattle.image_check.specs.Passes.{tiles_in}
use Rattle.image_check.specs.Containers.{is_rooted_below, weigh_blocks, weight_below}
use Rattle.image_check.specs.Visits.{container_rates}
use Rattle.image_check.proofs.frame.Tags.{image-row}

-- ---- the blocks whose first link is in one tile

one-step : (r a at b w : ℕ) → a ≤ at → at < b
    → (if nat_lt r a then w else 0) + (if r == at then w else 0) ≤ (if nat_lt r b then w else 0)
one-step r a at b w l h = grind (arith, nat_tests)

owner-step : (o : Option Owner) (a at b w : ℕ) → a ≤ at → at < b
    → (if is_rooted_below a o then w else 0) + (if is_rooted at o then w else 0)
    ≤ (if is_rooted_below b o then w else 0)
owner-step None a at b w l h = omega arith
owner-step (Some o) a at b w l h = one-step o.root a at b w l h

-- one more block below an offset adds its weight
pub below-step : (a at b : ℕ) (es : Blocks) → a ≤ at → at < b
    → weight_below a es + rooted_weight at es ≤ weight_below b es
below-step a at b [] l h = omega arith
below-step a at b (e ∷ es) l h =
    let here = owner-step e.1.owner a at b (block_weight e.1) l h in
    let rest = below-step a at b es l h in
    omega arith

one-more : (r a b w : ℕ) → a ≤ b → (if nat_lt r a then w else 0) ≤ (if nat_lt r b then w else 0)
one-more r a b w l = grind (arith, nat_tests)

owner-more : (o : Option Owner) (a b w : ℕ) → a ≤ b
    → (if is_rooted_below a o then w else 0) ≤ (if is_rooted_below b o then w else 0)
owner-more None a b w l = omega arith
owner-more (Some o) a b w l = one-more o.root a b w l

-- more blocks are below a later offset
pub below-more : (a b : ℕ) (es : Blocks) → a ≤ b → weight_below a es ≤ weight_below b es
below-more a b [] l = omega arith
below-more a b (e ∷ es) l =
    let here = owner-more e.1.owner a b (block_weight e.1) l in
    let rest = below-more a b es l in
    omega arith

-- ---- no more than all blocks

part-most : (t : Bool) (w : ℕ) → (if t then w else 0) ≤ w
part-most true w = omega arith
part-most false w = omega arith

-- the weight below an offset is at most the weight of all
pub below-all : (a : ℕ) (es : Blocks) → weight_below a es ≤ weigh_blocks es
below-all a [] = omega arith
below-all a (e ∷ es) =
    let here = part-most (is_rooted_below a e.1.owner) (block_weight e.1) in
    let rest = below-all a es in
    omega arith

-- the nodes of one map weigh no more than all blocks
pub rooted-all : (at : ℕ) (es : Blocks) → rooted_weight at es ≤ weigh_blocks es
rooted-all at [] = omega arith
rooted-all at (e ∷ es) =
    let here = part-most (is_rooted at e.1.owner) (block_weight e.1) in
    let rest = rooted-all at es in
    omega arith

-- ---- and these blocks are the tiles in use

frame-weight : ℕ × Role × ℕ → ℕ
frame-weight f = rate_of container_block_rates (Some f.1) * (f.2 / 16)

weigh-frames : List (ℕ × Role × ℕ) → ℕ
weigh-frames [] = 0
weigh-frames (f ∷ fs) = frame-weight f + weigh-frames fs

by-frames : (es : Blocks) → weigh_blocks es ≡ weigh-frames (frames es)
unfolding frame-weight weigh-frames
by-frames [] = refl
by-frames (e ∷ es) = ap (λ n. block_weight e.1 + n) (by-frames es)

maybe-weight : Option (ℕ × Block) → ℕ
maybe-weight None = 0
maybe-weight (Some e) = block_weight e.1

cons-weigh : (o : Option (ℕ × Block)) (es : Blocks) → weigh_blocks (cons_option o es) ≡ maybe-weight o + weigh_blocks es
unfolding maybe-weight
cons-weigh None es = omega arith
cons-weigh (Some e) es = refl

entry-weighs : (offset len : ℕ) (u : Option Role)
    → maybe-weight (elim u [ None ↦ None | Some role ↦ Some (offset + 16, new_block role len) ])
    ≤ rate_of container_block_rates u * (len / 16)
unfolding maybe-weight
entry-weighs offset len None = omega arith
entry-weighs offset len (Some role) = omega arith

entries-weigh : (ts : List Tile) → weigh_blocks (entries_of ts) ≤ weigh container_block_rates ts
entries-weigh [] = omega arith
entries-weigh (t ∷ ts) =
    let rest = entries-weigh ts in
    let here = entry-weighs t.offset t.len t.use_of in
    let both = cons-weigh (entry_of t) (entries_of ts) in
    omega arith

-- all blocks weigh no more than the tiles at their rate
pub blocks-weigh : (ts : List Tile) (es : Blocks) → frames es ≡ frames (entries_of ts)
    → weigh_blocks es ≤ weigh container_block_rates ts
blocks-weigh ts es e =
    let same : weigh_blocks es ≡ weigh_blocks (entries_of ts) =
    by-frames es ∙ (ap weigh-frames e ∙ sym (by-frames (entries_of ts))) in
    let all = entries-weigh ts in
    omega arith

-- ---- which are no more than the image

rate-most : (u : Option Role) → rate_of container_block_rates u ≤ 16
rate-most (Some Object) = omega arith
rate-most other = omega arith

rate-sum : (u : Option Role) → rate_of container_walk_rates u + rate_of container_block_rates u
    ≤ rate_of container_rates u
rate-sum (Some Object) = omega arith
rate-sum other = omega arith

times-sum : (r s t n : ℕ) → r + s ≤ t → r * n + s * n ≤ t * n
times-sum r s t n l =
    let parts = add-mul r s n in
    let most = mul-le-mul_right n l in
    omega arith

row-weigh : (from : ℕ) (ts : List Tile) (to : ℕ) → Row from ts to → from + weigh container_block_rates ts ≤ to
row-weigh from [] to row = omega arith
row-weigh from (t ∷ ts) to row =
    let rest = row-weigh (from + t.len) ts to row.3 in
    let here = mul-le-mul_right (t.len / 16) (rate-most t.use_of) in
    omega arith

-- all blocks weigh at most 2^30
pub few-blocks : (b : List ℕ) (es : Blocks) → HasTiles b → frames es ≡ frames (entries_of (tiles_in b))
    → weigh_blocks es ≤ 1073741824
few-blocks b es h e =
    let all = blocks-weigh (tiles_in b) es e in
    let fit = row-weigh 128 (tiles_in b) (length b - 16) (image-row b h) in
    let small = small_size (length b) h.size in
    let least = (legal_size (length b) h.size).low in
    omega arith

-- the rates of walk and blocks together are the rates of containers
pub both-weigh : (ts : List Tile)
    → weigh container_walk_rates ts + weigh container_block_rates ts ≤ weigh container_rates ts
both-weigh [] = omega arith
both-weigh (t ∷ ts) =
    let rest = both-weigh ts in
    let here = times-sum (rate_of container_walk_rates t.use_of) (rate_of container_block_rates t.use_of)
    (rate_of container_rates t.use_of) (t.len / 16) (rate-sum t.use_of) in
    omega arith
