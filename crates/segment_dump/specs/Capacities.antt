-- The capacities of a segment, and the notes after its dump that state them.
use Rattle.std.specs.Prelude.{ℕ, List, [], ◌∷◌, ◌++◌, Option, Some, None, Result, Ok, Err, codes, map, option_to_list}
use Rattle.std.specs.List.{flat_map}
use Rattle.seg_types.specs.{declared.kinds.Class.Class, declared.kinds.Kind.Kind, Names.Key}
use Rattle.seg_types.specs.declared.refusals.Refusal.{Refusal}
use Rattle.segment_lang.specs.Texts.{kind_text, number_text}
use Rattle.segment_manager.specs.Directory.{Value, Numbers, Elements, Bytes, Pairs, Texts, Directory, Object, kind_of}
use Rattle.segment_manager.specs.{Directory.named_objects, Directory.object_at, Directory.unique_objects, Parts.part_of}
use Rattle.segment_dump.specs.{Building.class_tokens, Items.anonymous_objects}

-- ---- the capacities

-- the holder of a capacity: the index of names, the index of kinds, or an object, by its class, its name and its kind
pub data CapacityHolder : Type 0 where
  Names : CapacityHolder
  Kinds : CapacityHolder
  Holds : Class → List ℕ → Kind → CapacityHolder

-- a capacity, in entries, elements or bytes
pub record Capacity : Type 0 where
  pub holder : CapacityHolder
  pub slots : ℕ

-- the capacity of a vector, of a string or of a vector of strings
abbrev pub slots_of : Value → Option ℕ
slots_of (Numbers k zs) = None
slots_of (Elements k zs t) = Some t.capacity
slots_of (Bytes bs t) = Some t.capacity
slots_of (Pairs k v ps) = None
slots_of (Texts ps t) = Some t.capacity

abbrev pub holder_of : Object → CapacityHolder
holder_of o = Holds o.class o.name (kind_of o.value)

-- the capacity of an object, if it has one
abbrev pub object_capacities : Object → List Capacity
object_capacities o = map (λ n. record { holder = holder_of o; slots = n }) (option_to_list (slots_of o.value))

-- the capacities of the indexes, and then of the objects in the order of the dump
abbrev pub capacities : Directory → List Capacity
capacities d =
    record { holder = Names; slots = d.named.capacity } ∷ record { holder = Kinds; slots = d.unique.capacity }
    ∷ (flat_map object_capacities (named_objects d)
    ++ (flat_map object_capacities (unique_objects d) ++ flat_map object_capacities (anonymous_objects d)))

-- ---- the notes

-- the text of a holder: `names`, `kinds`, or the start of the object's line in the dump
abbrev pub holder_text : CapacityHolder → List ℕ
holder_text Names = codes "names"
holder_text Kinds = codes "kinds"
holder_text (Holds class name kind) = class_tokens class name ++ kind_text kind

abbrev pub capacity_tokens : Capacity → List ℕ
capacity_tokens c = codes "# capacity of " ++ (holder_text c.holder ++ (codes ": " ++ number_text c.slots))

-- the note of a capacity
abbrev pub capacity_note : Capacity → List ℕ
capacity_note c = capacity_tokens c ++ 0x0A ∷ []

-- a note for each capacity
abbrev pub capacities_text : List Capacity → List ℕ
capacities_text = flat_map capacity_note

-- ---- parts of the notes

-- the note of an object, if it has a capacity
abbrev pub object_notes : Object → List ℕ
object_notes o = capacities_text (object_capacities o)

-- the notes of a key's object
abbrev pub notes_at : Directory → Key → List ℕ
notes_at d key = part_of object_notes (object_at d key)

-- the capacity of an object, if there is an object and it has one
abbrev pub slots_in : Option Object → Option ℕ
slots_in None = None
slots_in (Some o) = slots_of o.value

-- the capacity of a key's object
abbrev pub slots_at : Directory → Key → Option ℕ
slots_at d key = slots_in (object_at d key)

-- the capacity in a result of `sizes_at`: a length and a capacity, or a refusal
abbrev pub measured_slots : Result (ℕ × ℕ) Refusal → Option ℕ
measured_slots (Ok (len, slots)) = Some slots
measured_slots (Err r) = None

-- the notes of some objects
abbrev pub notes_of : List Object → List ℕ
notes_of = flat_map object_notes

abbrev pub all_notes : Directory → List ℕ
all_notes d = notes_of (named_objects d) ++ (notes_of (unique_objects d) ++ notes_of (anonymous_objects d))

-- the notes of the capacities of the indexes
abbrev pub index_notes : ℕ → ℕ → List ℕ
index_notes named unique = capacity_note (record { holder = Names; slots = named })
    ++ capacity_note (record { holder = Kinds; slots = unique })
