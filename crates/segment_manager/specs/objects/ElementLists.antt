-- The elements of a key's object, one after another: all of them if it has the kind, and otherwise none.
use Rattle.std.specs.Prelude.{ℕ, ℤ, Some, None, Result, Ok, Err, List, [], map, slice_get, if◌then◌else◌}
use Rattle.std.specs.Option.{ok_or}
use Rattle.seg_types.specs.{declared.kinds.Kind.Kind, declared.refusals.Refusal.Refusal, Kinds.same_kind, Names.Key}
use Rattle.seg_types.specs.declared.kinds.Kind.TheVariants.{Strings as StringsKind}
use Rattle.seg_types.specs.declared.refusals.Refusal.TheVariants.{OutOfRange}
use Rattle.seg_vector.specs.Vector.{OwnedText}
use Rattle.segment_manager.specs.{containers.Contents.sizes_at_kind, Directory.object_at}
use Rattle.segment_manager.specs.Directory.{Value, Numbers, Elements, Bytes, Pairs, Texts, Directory, kind_of}

-- the numbers of a value that is an array or a vector of scalars
abbrev pub numbers_in : Value → List ℤ
numbers_in (Numbers k zs) = zs
numbers_in (Elements k zs t) = zs
numbers_in (Bytes bs t) = []
numbers_in (Pairs k v ps) = []
numbers_in (Texts ps t) = []

-- the texts of a value that is a vector of strings
abbrev pub texts_in : Value → List (List ℕ)
texts_in (Numbers k zs) = []
texts_in (Elements k zs t) = []
texts_in (Bytes bs t) = []
texts_in (Pairs k v ps) = []
texts_in (Texts ps t) = map (λ (p : OwnedText). p.bytes) ps

-- the list of a key's object of a kind; empty for any other object
abbrev pub list_at : {A : Type 0} → (Value → List A) → Directory → Key → Kind → List A
list_at items d key kind = elim
    (object_at d key) [ None ↦ [] | Some o ↦ if same_kind kind (kind_of o.value) then items o.value else [] ]

-- the scalars of a key's array or vector, by the object's kind
abbrev pub numbers_at : Directory → Key → Kind → List ℤ
numbers_at d key kind = list_at numbers_in d key kind

-- the element of a list at an index, if it has one
abbrev pub element_of : List ℤ → ℕ → Result ℤ Refusal
element_of zs i = ok_or (slice_get zs i) OutOfRange

-- the value that a call returned, as a whole number
abbrev pub whole_of : {A : Type 0} → (A → ℤ) → Result A Refusal → Result ℤ Refusal
whole_of whole (Ok a) = Ok (whole a)
whole_of whole (Err why) = Err why

-- the texts of a key's vector of strings
abbrev pub texts_at : Directory → Key → List (List ℕ)
texts_at d key = list_at texts_in d key StringsKind

-- ---- their number

-- the length of a container, from its length and capacity
abbrev pub first_size : Result (ℕ × ℕ) Refusal → Result ℕ Refusal
first_size (Ok (n, capacity)) = Ok n
first_size (Err why) = Err why

-- the length of a key's object of a kind
abbrev pub length_at_kind : Directory → Key → Kind → Result ℕ Refusal
length_at_kind d key kind = first_size (sizes_at_kind d key kind)

-- a number, or 0 after an error
abbrev pub number_or_none : Result ℕ Refusal → ℕ
number_or_none (Ok n) = n
number_or_none (Err why) = 0
