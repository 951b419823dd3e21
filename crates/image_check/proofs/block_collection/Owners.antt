-- The owners in the rows of the map are the owners of the tiles.
use Rattle.image_check.proofs.Common.{Block, Blocks, HasTiles, Index, List, Node, None, Option, Owner, Role, Row, Some}
use Rattle.image_check.proofs.Common.{Storage, Tile, [], ap, arith, block_at, cond, cons_option, entries_of}
use Rattle.image_check.proofs.Common.{false, filter_map, frames, has_owner, is_some, length, new_block, not, owner_at}
use Rattle.image_check.proofs.Common.{owner_in, payload, rate_of, refl, same_role, true, weigh, ℕ, ◌*◌, ◌+◌, ◌-◌, ◌/◌}
use Rattle.image_check.proofs.Common.{◌||◌, ◌∙◌, ◌∷◌, ◌≡◌, ◌≤◌}
use Rattle.std.proofs.Common.{Bool}
use Rattle.block_tags.specs.declared.tile.Role.TheVariants.{Object}
use Rattle.image_check.specs.Owners.{is_owned}
use Rattle.image_check.specs.Passes.{blocks_in, tiles_in}
use Rattle.image_check.specs.Visits.{used_rates}
use Rattle.image_check.proofs.walks.Rows.{few-rows}
use Rattle.image_check.proofs.frame.Tags.{image-row}

-- ---- a tile and its block

-- the test by the use of a tile and the owner entered at its payload
abbrev tested : Option Role → Option Owner → Bool
tested u o = not (elim u [ None ↦ false | Some r ↦ same_role Index r ] || elim u
    [ None ↦ false | Some r ↦ same_role Storage r ] || elim u [ None ↦ false | Some r ↦ same_role Node r ]) || is_some o

-- a block passes the test exactly if its tile does
same-test : (role : Role) (o : Option Owner) → tested (Some role) (cond (same_role role Object) None o) ≡
    (same_role role Object || is_some o)
same-test Object o = refl
same-test other o = refl

-- a tile in use has an owner if its row has one
pub tile-tests : (es : Blocks) (t : Tile) (b : Block) → t.use_of ≡ Some b.role → block_at es (payload t) ≡ Some b
    → has_owner es t ≡ is_owned b
tile-tests es t b e f =
    ap (λ (u : Option Role). tested u (owner_at es (payload t))) e
    ∙ ap (λ (x : Option Block). tested (Some b.role) (owner_in x)) f ∙ same-test b.role b.owner

-- a free tile needs no owner
pub free-tests : (es : Blocks) (t : Tile) → t.use_of ≡ None → has_owner es t ≡ true
free-tests es t e = ap (λ (u : Option Role). tested u (owner_at es (payload t))) e

-- ---- visits

used-few : (offset len : ℕ) (u : Option Role) (es : Blocks) (n : ℕ) → 32 ≤ len → length es ≤ n
    → length (cons_option (elim u [ None ↦ None | Some role ↦ Some (offset + 16, new_block role len) ]) es) ≤ rate_of
    used_rates u * (len / 16) + n
used-few offset len (Some Object) es n long l = omega arith
used-few offset len other es n long l = omega arith

entries-few : (at : ℕ) (ts : List Tile) (end : ℕ) → Row at ts end → length (entries_of ts) ≤ weigh used_rates ts
entries-few at [] end a = omega arith
entries-few at (t ∷ ts) end a = used-few t.offset t.len t.use_of (entries_of ts) (weigh used_rates ts) a.1
    (entries-few (at + t.len) ts end a.3)

-- a visit for each row is within the rate
pub rows-weigh : (b : List ℕ) (es : Blocks) → HasTiles b → frames es ≡ frames (entries_of (tiles_in b))
    → length es ≤ weigh used_rates (tiles_in b)
rows-weigh b es h f =
    let few = entries-few 128 (tiles_in b) (length b - 16) (image-row b h) in
    let same = few-rows b es f in
    omega arith

-- there is one row for each tile in use
used-count : (o : Option Role) (offset len : ℕ) (es : Blocks) (rs : List Role) → length es ≡ length rs
    → length (cons_option (elim o [ None ↦ None | Some role ↦ Some (offset + 16, new_block role len) ]) es)
    ≡ length (cons_option o rs)
used-count None offset len es rs e = e
used-count (Some role) offset len es rs e = omega arith

-- as many rows as tiles with a role
pub entries-count : (ts : List Tile) → length (entries_of ts) ≡ length (filter_map (λ (t : Tile). t.use_of) ts)
entries-count [] = refl
entries-count (t ∷ ts) = used-count t.use_of t.offset t.len (entries_of ts) (filter_map (λ (u : Tile). u.use_of) ts)
    (entries-count ts)

-- as many rows as blocks
pub rows-count : (b : List ℕ) (es : Blocks) → frames es ≡ frames (entries_of (tiles_in b)) → length es ≡ blocks_in b
rows-count b es f = few-rows b es f ∙ entries-count (tiles_in b)
