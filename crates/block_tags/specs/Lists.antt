-- Lists of tiles: the tile at an offset and its neighbours, and the list after a change of one tile.
use Rattle.std.specs.Prelude.{◌≡◌, IsTrue, ℕ, ◌+◌, ◌-◌, ◌<◌, ◌≤◌, ◌⊎◌, Bool, false, Option, Some, None, List, [], ◌∷◌}
use Rattle.std.specs.Prelude.{◌++◌, ◌==◌, if◌then◌else◌}
use Rattle.block_tags.specs.declared.tile.Role.{Role}
use Rattle.block_tags.specs.declared.tile.Tile.{Tile}
use Rattle.block_tags.specs.Tiles.{is_tile}

-- tiles of one format that fill the bytes from an offset up to another, without a space
abbrev pub AreContiguous : ℕ → ℕ → List Tile → ℕ → Type 0
AreContiguous format from [] to = from ≡ to
AreContiguous format from (t ∷ ts) to = (t.offset ≡ from) × IsTrue (is_tile format t)
    × AreContiguous format (from + t.len) ts to

-- ---- tiles of a list

-- the tile that begins at an offset
abbrev pub tile_in : List Tile → ℕ → Option Tile
tile_in [] at = None
tile_in (t ∷ ts) at = if t.offset == at then Some t else tile_in ts at

-- the first tile of a list
abbrev pub first_in : List Tile → Option Tile
first_in [] = None
first_in (t ∷ ts) = Some t

-- the tile after the one at an offset
abbrev pub next_in : List Tile → ℕ → Option Tile
next_in [] at = None
next_in (t ∷ ts) at = if t.offset == at then first_in ts else next_in ts at

-- the tile before the one at an offset, if `before` is the tile before the list
abbrev pub previous_from : Option Tile → List Tile → ℕ → Option Tile
previous_from before [] at = None
previous_from before (t ∷ ts) at = if t.offset == at then before else previous_from (Some t) ts at

-- the tile before the one at an offset, in a list
abbrev pub previous_in : List Tile → ℕ → Option Tile
previous_in ts at = previous_from None ts at

-- the last tile of a list
abbrev pub last_in : List Tile → Option Tile
last_in [] = None
last_in (t ∷ []) = Some t
last_in (t ∷ u ∷ ts) = last_in (u ∷ ts)

-- ---- lists with tiles changed

-- a free tile with this offset and length
abbrev pub free_tile : ℕ → ℕ → Tile
free_tile offset len = record { offset = offset; len = len; use_of = None; red = false }

-- the list after a change of the tile at an offset, and of the tiles after it
abbrev pub changed_at : ℕ → (Tile → List Tile → List Tile) → List Tile → List Tile
changed_at at change [] = []
changed_at at change (t ∷ ts) = if t.offset == at then change t ts else t ∷ changed_at at change ts

-- a tile in two parts: the first has this length, and the second is free
abbrev pub in_two : ℕ → Tile → List Tile → List Tile
in_two len t ts = record t { len = len } ∷ free_tile (t.offset + len) (t.len - len) ∷ ts

-- a tile joined with the next one
abbrev pub in_one : Tile → List Tile → List Tile
in_one t [] = t ∷ []
in_one t (u ∷ ts) = record t { len = t.len + u.len } ∷ ts

abbrev pub used_for : Option Role → Tile → List Tile → List Tile
used_for use_of t ts = record t { use_of = use_of } ∷ ts

abbrev pub of_colour : Bool → Tile → List Tile → List Tile
of_colour red t ts = record t { red = red } ∷ ts

-- the list with the tile at an offset split
abbrev pub split_at : ℕ → ℕ → List Tile → List Tile
split_at at len ts = changed_at at (in_two len) ts

-- the list with the tile at an offset joined with the next one
abbrev pub joined_at : ℕ → List Tile → List Tile
joined_at at ts = changed_at at in_one ts

-- the list with the use of one tile changed
abbrev pub with_use_at : ℕ → Option Role → List Tile → List Tile
with_use_at at use_of ts = changed_at at (used_for use_of) ts

-- the list with the colour of one tile changed
abbrev pub with_red_at : ℕ → Bool → List Tile → List Tile
with_red_at at red ts = changed_at at (of_colour red) ts

-- a list with a free tile appended, from an offset up to another
abbrev pub with_free : List Tile → ℕ → ℕ → List Tile
with_free ts from to = ts ++ free_tile from (to - from) ∷ []

-- the list without its last tile
abbrev pub without_last : List Tile → List Tile
without_last [] = []
without_last (t ∷ []) = []
without_last (t ∷ u ∷ ts) = t ∷ without_last (u ∷ ts)

-- one free tile, or none if there is no room
abbrev pub laid : ℕ → List Tile
laid size = if size == 144 then [] else free_tile 128 (size - 144) ∷ []

-- ---- tags

-- a byte lies in no tag of these tiles
abbrev pub IsBesideTags : List Tile → ℕ → Type 0
IsBesideTags [] k = Unit {0}
IsBesideTags (t ∷ ts) k = ((k < t.offset) ⊎ (t.offset + 16 ≤ k)) × IsBesideTags ts k
