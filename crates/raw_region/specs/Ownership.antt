-- What the parts of a block of memory own and lend. p is the address of the block.
use Rattle.std.specs.Prelude.{◌≡◌, ℕ, List}
use base.Fraction.{full_share}
use base.Fml.{Lft, Fml}
use mir.Syntax.{Ty, w8, ty_int, ty_array}
use denote.Builtin.{u8}
use denote.RawPtr.{Ptr, block_ptr, block_of, count_of, room_for}
use denote.RawPtr.Bytes.{bytes}
use denote.Slice.{elements_shared}

-- the type of a block of n bytes
abbrev pub bytes_type : ℕ → Ty
bytes_type n = ty_array (ty_int w8) n

-- p is not null
abbrev pub IsNonNull : Ptr → Type 0
IsNonNull p = p ≡ block_ptr (block_of p) (count_of p)

-- p owns n bytes with any values
abbrev pub space_owns : Ptr → ℕ → Fml
space_owns p n = room_for (bytes_type n) p

-- p owns bytes with these values
abbrev pub block_owns : Ptr → List ℕ → Fml
block_owns p xs = bytes full_share xs (block_of p) (count_of p)

-- the bytes with these values, shared for reading
abbrev pub block_shares : Ptr → List ℕ → Lft → Fml
block_shares p xs κ = elements_shared u8 xs (block_of p) (count_of p) κ
