-- An object with another value: the offset of the value, and its head and name, which stay.
use Rattle.segment_manager.proofs.Common.{◌≡◌, sym, ◌∙◌, ℕ, ◌+◌, length, arith, Memory, SameBytes, handle, code_of}
use Rattle.segment_manager.proofs.Common.{Value, Object, count_of, kind_of, padded, IsObjectAt, IsValueAt, padded_name}
use Rattle.segment_manager.proofs.Common.{two_halves, HasBytesAt-same, SameBytes-word}
use Rattle.segment_manager.proofs.directory.Frame.{padded_name-length}

-- the offset of an object's value
abbrev pub value_start : Object → ℕ
value_start o = handle o.extent + 16 + padded (length o.name)

-- the object with another value
abbrev pub with_value : Object → Value → Object
with_value o v = record o { value = v }

-- ---- the object

-- its head and name stay, and the value is another, of the same kind and count
pub object-held : (m m' : Memory) (o : Object) (v : Value) → IsObjectAt m o → kind_of v ≡ kind_of o.value
    → count_of v ≡ count_of o.value → SameBytes m m' (handle o.extent) (value_start o) → IsValueAt m' (value_start o) v
    → IsObjectAt m' (with_value o v)
object-held m m' o v h kind count s w = record {
  kind_count = SameBytes-word m m' (handle o.extent) (value_start o) (handle o.extent) s (omega arith) (omega arith)
      ∙ h.kind_count ∙ (λ i. two_halves (code_of (sym kind i)) (sym count i));
  name_class = SameBytes-word m m' (handle o.extent) (value_start o) (handle o.extent + 8) s (omega arith) (omega arith)
      ∙ h.name_class;
  name = HasBytesAt-same m m' (handle o.extent) (value_start o) (handle o.extent + 16) (padded_name o.name) s
      (omega arith)
      (omega (arith, padded_name-length o.name)) h.name;
  value = w;
}
