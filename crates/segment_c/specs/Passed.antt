-- What the keys and the values that C passes stand for, and by which code they are refused that stand for nothing.
use Rattle.std.specs.Prelude.{ℕ, ℤ, pos, ◌&&◌, ◌==◌, nat_le, List, length, map, Option, Some, None, if◌then◌else◌}
use Rattle.seg_types.specs.{declared.kinds.Kind.Kind, declared.kinds.Kind.TheVariants.String}
use Rattle.seg_types.specs.declared.kinds.ScalarKind.{ScalarKind}
use Rattle.seg_types.specs.Commands.{Literal, Integer, literal_of}
use Rattle.seg_types.specs.declared.kinds.ScalarKind.TheVariants.{Bool as BoolKind, U8, I32, I64, U64}
use Rattle.segment_manager.specs.Answers.{Answer, Done, Element}
use Rattle.seg_types.specs.Kinds.{code_of, is_value, kind_of_code, scalar_of_code, truth_number}
use Rattle.seg_types.specs.Names.{Key, ByName, ByKind, ByHandle, NoKey, is_text_name}
use Rattle.segment_c.specs.declared.keys.CKey.{CKey}
use Rattle.segment_c.specs.{declared.values.CScalar.CScalar, declared.slices.CScalars.CScalars}

-- ---- the first code of some that is not 0

-- the first of two codes that is not 0
abbrev pub or_else : ℕ → ℕ → ℕ
or_else code other = if code == 0 then other else code

-- ---- keys

abbrev pub name_wrong : List ℕ → ℕ
name_wrong name = if is_text_name name then 0 else 18

-- the code of a wrong kind
unfoldable pub kind_wrong : ℕ → ℕ
kind_wrong code = elim (kind_of_code code) [ None ↦ 19 | Some kind ↦ 0 ]

abbrev pub kind_key : Option Kind → Key
kind_key None = NoKey
kind_key (Some kind) = ByKind kind

-- the code that refuses the key of an object that must be there, or 0
unfoldable pub key_wrong : CKey → ℕ
key_wrong k =
    if k.how == 0 then name_wrong k.name.now
    else if k.how == 1 then kind_wrong k.kind
    else if k.how == 2 then 0
    else if k.how == 4 then 25
    else 17

-- the key that a key of C stands for
unfoldable pub key_of : CKey → Key
key_of k =
    if k.how == 0 then ByName k.name.now
    else if k.how == 1 then kind_key (kind_of_code k.kind)
    else ByHandle k.handle

-- the key of an entry under which an object of a kind is found or made
unfoldable pub entry_wrong : CKey → Kind → ℕ
entry_wrong k kind =
    if k.how == 0 then name_wrong k.name.now
    else if k.how == 1 then (if k.kind == code_of kind then 0 else 19)
    else if k.how == 4 then 25
    else 17

-- the key under which an object of a kind is found or made
unfoldable pub entry_of : CKey → Kind → Key
entry_of k kind = if k.how == 0 then ByName k.name.now else ByKind kind

-- the key under which a new object of a kind is made
abbrev pub new_wrong : CKey → Kind → ℕ
new_wrong k kind = if k.how == 3 then 0 else entry_wrong k kind

-- the key under which an object of a kind is made
abbrev pub new_of : CKey → Kind → Key
new_of k kind = if k.how == 3 then NoKey else entry_of k kind

-- ---- values

-- the code of a wrong scalar kind
abbrev pub scalar_kind_wrong : ℕ → ℕ
scalar_kind_wrong code = elim (scalar_of_code code) [ None ↦ 19 | Some k ↦ 0 ]

-- the number of a value of a kind: the signed ones have a field of their own
abbrev pub number_in : CScalar → ScalarKind → ℤ
number_in v BoolKind = pos v.natural
number_in v U8 = pos v.natural
number_in v I32 = v.number
number_in v I64 = v.number
number_in v U64 = pos v.natural

-- a kind and a number in its range, if it is one
unfoldable pub scalar_in : CScalar → Option (ScalarKind × ℤ)
scalar_in v = elim (scalar_of_code v.kind) as (λ _. Option (ScalarKind × ℤ)) [
  | None ↦ None
  | Some k ↦ if is_value k (number_in v k) then Some (k, number_in v k) else None
]

-- the code of a wrong value
abbrev pub value_wrong : CScalar → ℕ
value_wrong v = elim (scalar_in v) [ None ↦ 20 | Some s ↦ 0 ]

-- a value that is passed is the literal that a script writes for it
abbrev pub literal_in : CScalar → Literal
literal_in v = elim (scalar_in v) as (λ _. Literal) [ None ↦ Integer (pos 0) | Some s ↦ literal_of s.0 s.1 ]

-- a value that is given is an element; one that is no scalar is what no element is answered by
abbrev pub element_in : CScalar → Answer
element_in v = elim (scalar_in v) as (λ _. Answer) [ None ↦ Done | Some s ↦ Element s.0 s.1 ]

-- the kind of scalars of a value that is passed
abbrev pub kind_in : CScalar → ScalarKind
kind_in v = elim (scalar_in v) as (λ _. ScalarKind) [ None ↦ BoolKind | Some s ↦ s.0 ]

-- the whole number that a value passes
abbrev pub whole_in : CScalar → ℤ
whole_in v = elim (scalar_in v) as (λ _. ℤ) [ None ↦ pos 0 | Some s ↦ s.1 ]

-- how many scalars an object has
abbrev pub count_wrong : ℕ → ℕ
count_wrong n = if nat_le 1 n && nat_le n 1048576 then 0 else 21

-- ---- rows of values

abbrev pub slice_kind_wrong : ℕ → ℕ
slice_kind_wrong code = if code == 0 then 25 else scalar_kind_wrong code

-- the code of a wrong row
abbrev pub slice_wrong : CScalars → ℕ
slice_wrong v = slice_kind_wrong v.kind

-- the kind of scalars that a code says, if it says one
abbrev pub scalar_kind_in : ℕ → ScalarKind
scalar_kind_in code = elim (scalar_of_code code) as (λ _. ScalarKind) [ None ↦ BoolKind | Some k ↦ k ]

-- the whole numbers of the slice of a kind
abbrev pub numbers_of : CScalars → ScalarKind → List ℤ
numbers_of v BoolKind = map truth_number v.truths.now
numbers_of v U8 = map pos v.bytes.now
numbers_of v I32 = map (λ x. x) v.i32s.now
numbers_of v I64 = map (λ x. x) v.i64s.now
numbers_of v U64 = map pos v.u64s.now

-- the numbers of a row
abbrev pub slice_of : CScalars → List ℤ
slice_of v = numbers_of v (scalar_kind_in v.kind)

-- how many they are
abbrev pub many_of : CScalars → ScalarKind → ℕ
many_of v BoolKind = length v.truths.now
many_of v U8 = length v.bytes.now
many_of v I32 = length v.i32s.now
many_of v I64 = length v.i64s.now
many_of v U64 = length v.u64s.now

-- how many numbers a row has
abbrev pub slice_count : CScalars → ℕ
slice_count v = many_of v (scalar_kind_in v.kind)

-- the kind of objects that a code says, if it says one
unfoldable pub object_kind_in : ℕ → Kind
object_kind_in code = elim (kind_of_code code) as (λ _. Kind) [ None ↦ String | Some k ↦ k ]
