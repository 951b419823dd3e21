-- The plan of a command that is not refused: the blocks that it allocates, in order, and its effect after that.
use Rattle.seg_types.specs.Commands as asked
use Rattle.std.specs.Prelude.{ℕ, ◌*◌, Option, Some, None, Result, Ok, Err, List, [], ◌∷◌, length, ◌==◌, nat_lt, nat_le}
use Rattle.std.specs.Prelude.{if◌then◌else◌}
use Rattle.block_tags.specs.declared.tile.Role.{Role}
use Rattle.block_tags.specs.declared.tile.Role.TheVariants.{Object as ObjectRole, Index, Storage}
use Rattle.best_fit.specs.{Extents.Extent, Extents.LiveSet, Fit.place, Fit.resized, Fit.regrow}
use Rattle.best_fit.specs.Table.{BackingArray, no_backing}
use Rattle.seg_types.specs.{declared.kinds.Class.Class, declared.refusals.Refusal.Refusal}
use Rattle.seg_types.specs.{declared.refusals.Refusal.TheVariants.NoSpace, Kinds.size_of, Names.Key, Names.ByName}
use Rattle.seg_types.specs.{Names.ByKind, Names.ByHandle, Names.NoKey, Commands.Content}
use Rattle.seg_types.specs.declared.kinds.Class.TheVariants.{Anonymous, Named, Unique}
use Rattle.seg_vector.specs.Vector.{OwnedText}
use Rattle.seg_index.specs.Index.{grown_capacity}
use Rattle.segment_manager.specs.Directory.{Value, Numbers, Elements, Bytes, Pairs, Texts, Object, Directory}
use Rattle.segment_manager.specs.Directory.{object_len, with_object, named_objects, unique_objects}
use Rattle.segment_manager.specs.Answers.{Answer, Refused}

-- an allocation: of a new block, or of one that replaces an old one
pub data Need : Type 0 where
  New : Role → ℕ → Need
  Regrown : Option Extent → ℕ → Need

-- The plan of a command: it allocates its blocks in order, and then has an answer and a directory.
pub data Plan : Type 0 where
  Refuse : Refusal → Plan
  Request : Need → (Extent → Plan) → Plan
  Reply : Answer → Directory → Plan

-- the extent that an allocation gets
abbrev pub met : LiveSet → Need → Option Extent
met l (New role n) = place l n role
met l (Regrown old n) = regrow l old n

-- Blocks are allocated in order. If one has no fit, nothing changes.
abbrev pub perform : Directory → LiveSet → Plan → Answer × Directory
perform d l (Refuse r) = (Refused r, d)
perform d l (Reply answer after) = (answer, after)
perform d l (Request need next) = elim
    (met l need) [ None ↦ (Refused NoSpace, d) | Some x ↦ perform d (resized l x) (next x) ]

-- continue with the result, or fail
abbrev pub with : {A : Type 0} → Result A Refusal → (A → Plan) → Plan
with (Ok a) next = next a
with (Err r) next = Refuse r

-- ---- the blocks that commands allocate

-- an index with this capacity in a new block
abbrev pub with_new_index : ℕ → (BackingArray → Plan) → Plan
with_new_index capacity next = Request (New Index (8 * capacity))
    (λ x. next (record { capacity = capacity; extent = Some x }))

-- an index with this many entries whose capacity allows one more
abbrev pub with_spare_entry : BackingArray → ℕ → (BackingArray → Plan) → Plan
with_spare_entry t count next = if nat_lt count t.capacity then next t else with_new_index (grown_capacity
    t.capacity) next

-- the directory whose index of the class has capacity for one more entry
abbrev pub with_entry : Directory → Class → (Directory → Plan) → Plan
with_entry d Anonymous next = next d
with_entry d Named next = with_spare_entry d.named (length (named_objects d)) (λ t. next (record d { named = t }))
with_entry d Unique next = with_spare_entry d.unique (length (unique_objects d)) (λ t. next (record d { unique = t }))

-- storage for n elements, if n is not 0
abbrev pub with_storage : ℕ → ℕ → (BackingArray → Plan) → Plan
with_storage each n next = if n == 0 then next no_backing else Request (New Storage (each * n))
    (λ x. next (record { capacity = n; extent = Some x }))

-- storage with at least this capacity: unchanged if the capacity suffices, otherwise regrown
abbrev pub with_capacity : ℕ → ℕ → BackingArray → (BackingArray → Plan) → Plan
with_capacity each capacity t next =
    if nat_le capacity t.capacity then next t
    else Request (Regrown t.extent (each * capacity)) (λ x. next (record { capacity = capacity; extent = Some x }))

-- ---- construction

abbrev pub class_of : Key → Class
class_of (ByName name) = Named
class_of (ByKind kind) = Unique
class_of (ByHandle h) = Anonymous
class_of NoKey = Anonymous

abbrev pub name_of : Key → List ℕ
name_of (ByName name) = name
name_of (ByKind kind) = []
name_of (ByHandle h) = []
name_of NoKey = []

-- the value, without its storage
abbrev pub bare : Content → Value
bare (asked.Numbers k zs) = Numbers k zs
bare (asked.Elements k zs) = Elements k zs no_backing
bare (asked.Bytes bs) = Bytes bs no_backing
bare (asked.NoPairs k v) = Pairs k v []
bare (asked.Strings bss) = Texts [] no_backing

-- a text in a block of its own, if it is not empty
abbrev pub with_owned_text : List ℕ → (OwnedText → Plan) → Plan
with_owned_text bs next =
    if length bs == 0 then next (record { bytes = bs; extent = None })
    else Request (New Storage (length bs)) (λ x. next (record { bytes = bs; extent = Some x }))

abbrev pub with_owned_texts : List (List ℕ) → (List OwnedText → Plan) → Plan
with_owned_texts [] next = next []
with_owned_texts (bs ∷ bss) next = with_owned_text bs (λ p. with_owned_texts bss (λ ps. next (p ∷ ps)))

abbrev pub with_value : Content → (Value → Plan) → Plan
with_value (asked.Numbers k zs) next = next (Numbers k zs)
with_value (asked.Elements k zs) next = with_storage (size_of k) (length zs) (λ t. next (Elements k zs t))
with_value (asked.Bytes bs) next = with_storage 1 (length bs) (λ t. next (Bytes bs t))
with_value (asked.NoPairs k v) next = next (Pairs k v [])
with_value (asked.Strings bss) next = with_storage 16 (length bss) (λ t. with_owned_texts bss (λ ps. next (Texts ps t)))

-- the blocks for the index, the object and its storage
abbrev pub with_new_object : Directory → Key → Content → (Object → Directory → Plan) → Plan
with_new_object d key content next =
    with_entry d (class_of key) (λ e.
    Request (New ObjectRole (object_len (name_of key) (bare content))) (λ x.
    with_value content (λ v.
    let o : Object = record { class = class_of key; name = name_of key; value = v; extent = x } in
    next o (with_object e o))))
