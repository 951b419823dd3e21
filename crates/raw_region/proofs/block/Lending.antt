-- A `&` to bytes is made of a borrow of them, byte by byte. Assumes `Logic`.
use Rattle.std.proofs.Common.{ℕ, ◌+◌, List, [], ◌∷◌}
use seplogic.Ra.Ura.{Ura}
use base.Fraction.{full_share}
use base.Fml.{Lft, ftrue}
use mir.Syntax.{w8}
use types.Logic.{Logic}
use denote.Builtin.{u8}
use denote.Copied.{uint_Copied}
use denote.Memory.{part_at, shared_of}
use denote.RawPtr.Bytes.{bytes}
use denote.Slice.{elements_shared}
use denote.Struct.Lending.{Lends, Lends-both, Lends-nothing}

module _ {M : Type 1} {𝓤 : Ura M} (𝓛 : Logic 𝓤) (l : Lft) (b : ℕ) where
  one : (x o : ℕ) → Lends 𝓛 (part_at u8 full_share x b o) (shared_of u8 x b o) l
  one x o = λ κ ts inc within. (uint_Copied 𝓛 w8).shares full_share l x κ ts b o inc within

  -- bytes that are owned in full are lent as shared bytes, one by one
  pub Lends-bytes : (xs : List ℕ) (o : ℕ) → Lends 𝓛 (bytes full_share xs b o) (elements_shared u8 xs b o) l
  Lends-bytes [] o = Lends-nothing 𝓛 ftrue l
  Lends-bytes (x ∷ xs) o = Lends-both 𝓛 (part_at u8 full_share x b o) (bytes full_share xs b (o + 1))
      (shared_of u8 x b o) (elements_shared u8 xs b (o + 1)) l (one x o) (Lends-bytes xs (o + 1))
