-- What the calls read of containers.
use Rattle.std.specs.Prelude.{◌≡◌, ℕ, ◌≤◌, ℤ, List, length, map, Option, Some, None, Result, Ok, Err, option_map}
use Rattle.seg_types.specs.{declared.kinds.Kind.Kind, declared.kinds.ScalarKind.ScalarKind}
use Rattle.seg_types.specs.{declared.kinds.ScalarKind.TheVariants.U8, declared.refusals.Refusal.Refusal}
use Rattle.seg_types.specs.{declared.refusals.Refusal.TheVariants.WrongKind, declared.values.ScalarValue.ScalarValue}
use Rattle.seg_types.specs.{Commands.Get, Commands.Literal, Commands.value_of_literal, Names.Key}
use Rattle.seg_types.specs.Refusals.{refusal_number}
use Rattle.seg_types.specs.declared.kinds.Kind.TheVariants.{Map, Scalar, String, Strings, Vector}
use Rattle.seg_map.specs.{Numbers.NumberPair, Places.item_of}
use Rattle.segment_manager.specs.{Calls.kind_at, Calls.scalar_reply, Directory.Directory, State.AnswersWith}
use Rattle.segment_manager.specs.containers.Maps.{pair_above}
use Rattle.segment_manager.specs.Answers.{Answer, TextElement, Refused}
use Rattle.segment_manager.specs.containers.Walks.{KindedPair, first_of, item_of_kinds, item_seen, pairs_at}
use Rattle.segment_values.specs.Ranges.{range_at}
use Rattle.segment_c.specs.{declared.keys.CKey.CKey, declared.values.CScalar.CScalar, Images.CopiesOut}
use Rattle.segment_c.specs.{Codes.answer_for, Handles.AsksHandle, Handles.ReadsDirectory}
use Rattle.segment_c.specs.declared.slot.Slot.{Slot}
use Rattle.segment_c.specs.Passed.{element_in, key_of, key_wrong, scalar_in}

-- the code is 0 and this holds, or it is that of the refusal
abbrev pub IsCoded : {A : Type 0} → (A → Type 0) → ℕ → Result A Refusal → Type 0
IsCoded P code (Ok a) = (code ≡ 0) × P a
IsCoded P code (Err why) = code ≡ refusal_number why

-- how many elements, and how many places
abbrev pub AreSizes : ℕ → ℕ → ℕ × ℕ → Type 0
AreSizes len slots sizes = (len ≡ sizes.0) × (slots ≡ sizes.1)

-- bytes stand at the front of a buffer, if it has room for them, and how many they are goes out in any case
pub record CopiesBytes (bytes old new : List ℕ) (len code : ℕ) : Type 0 where
  pub len_is : len ≡ length bytes
  pub saves : CopiesOut bytes old new code

-- bytes that may not be there are copied out
abbrev pub Copies : List ℕ → List ℕ → ℕ → ℕ → Result (List ℕ) Refusal → Type 0
Copies old new len code (Ok bytes) = CopiesBytes bytes old new len code
Copies old new len code (Err why) = code ≡ refusal_number why

-- an answer, a text or a refusal, is copied out
abbrev pub CopiesAnswer : List ℕ → List ℕ → ℕ → ℕ → Answer → Type 0
CopiesAnswer old new len code (TextElement bytes) = CopiesBytes bytes old new len code
CopiesAnswer old new len code (Refused why) = code ≡ refusal_number why
CopiesAnswer old new len code answer = ⊥

-- a call reads elements of the array or vector of a key from a place on, as many as a row has: a key that is wrong and
-- a closed handle are codes; the row has the numbers of those elements then, as they are seen, or the call is refused;
-- and no more changes
pub record ReadsRange {X : Type 0} (seen : X
    → ℤ) (kind : ScalarKind) (key : CKey) (first : ℕ) (old new : List X) (code : ℕ)
    (before after : Slot) : Type 0 where
  pub read : ReadsDirectory (key_wrong key) code before after (λ d.
      IsCoded (λ zs. map seen new ≡ zs) code (range_at d (key_of key) kind first (length old)))
  pub results : 1 ≤ code → new ≡ old

-- ---- the last element

-- the kind of scalars of a vector; of another object any
abbrev pub vector_kind : Kind → ScalarKind
vector_kind (Vector k) = k
vector_kind (Scalar k) = U8
vector_kind String = U8
vector_kind (Map k v) = U8
vector_kind Strings = U8

-- the scalar kind of a key's vector
abbrev pub vector_kind_at : Directory → Key → ScalarKind
vector_kind_at d key = elim (kind_at d key) as (λ _. ScalarKind) [ Err r ↦ U8 | Ok kind ↦ vector_kind kind ]

-- ---- neighbours in a map

-- a pair of a map of two kinds, or none
abbrev pub item_in : ScalarKind → ScalarKind → Option (ℤ × ℤ) → Option KindedPair
item_in k v p = option_map (item_of_kinds k v) p

-- the kinds of the keys and of the values of a map
abbrev pub map_kinds : Kind → Result (ScalarKind × ScalarKind) Refusal
map_kinds (Map k v) = Ok (k, v)
map_kinds (Scalar k) = Err WrongKind
map_kinds (Vector k) = Err WrongKind
map_kinds String = Err WrongKind
map_kinds Strings = Err WrongKind

-- the kinds of the map of a key
abbrev pub map_kinds_at : Directory → Key → Result (ScalarKind × ScalarKind) Refusal
map_kinds_at d key = elim (kind_at d key) as (λ _. Result (ScalarKind × ScalarKind) Refusal) [
  | Err why ↦ Err why
  | Ok kind ↦ map_kinds kind
]

-- the result for a map of two kinds, or the error
abbrev pub by_kinds : {A : Type 0} → (ScalarKind → ScalarKind → Result A Refusal)
    → Result (ScalarKind × ScalarKind) Refusal → Result A Refusal
by_kinds say (Ok (k, v)) = say k v
by_kinds say (Err why) = Err why

-- the first pair of a map
abbrev pub first_in : List NumberPair → ScalarKind → ScalarKind → Result (Option KindedPair) Refusal
first_in ps k v = Ok (item_in k v (option_map item_of (first_of ps)))

-- the pair with the least key of the map of a key
abbrev pub first_at : Directory → Key → Result (Option KindedPair) Refusal
first_at d key = by_kinds (first_in (pairs_at d key)) (map_kinds_at d key)

abbrev pub above_in : List NumberPair → ScalarKind → ScalarKind → Result ℤ Refusal → Result (Option KindedPair) Refusal
above_in ps k v (Ok z) = Ok (item_in k v (pair_above z ps))
above_in ps k v (Err why) = Err why

-- the pair above the key that a literal is, in a map
abbrev pub next_in : List NumberPair → Literal → ScalarKind → ScalarKind → Result (Option KindedPair) Refusal
next_in ps l k v = above_in ps k v (value_of_literal k l)

-- the pair with the least key above the one that a literal is
abbrev pub next_at : Directory → Key → Literal → Result (Option KindedPair) Refusal
next_at d key l = by_kinds (next_in (pairs_at d key) l) (map_kinds_at d key)

-- a pair goes out, or none is there
abbrev pub TellsPair : CScalar → CScalar → ℕ → Result (Option KindedPair) Refusal → Type 0
TellsPair at value code (Ok None) = code ≡ 10
TellsPair at value code (Ok (Some (x, y))) = (code ≡ 0) × (scalar_in at ≡ Some x) × (scalar_in value ≡ Some y)
TellsPair at value code (Err why) = code ≡ refusal_number why

-- a call reads the pair that the directory says, which goes out, and changes nothing
pub record AsksPair (wrong : ℕ) (pair : Directory → Result (Option KindedPair) Refusal) (code : ℕ)
    (before after : Slot) (at at' value value' : CScalar) : Type 0
  where
    pub read : ReadsDirectory wrong code before after (λ d. TellsPair at' value' code (pair d))
    pub outputs_on_error : 1 ≤ code → (at' ≡ at) × (value' ≡ value)

-- a pair goes out, as the code has it
abbrev pub TellsPairOf : CScalar → CScalar → ℕ → Option (ScalarValue × ScalarValue) → Type 0
TellsPairOf at value code pair = TellsPair at value code (Ok (option_map item_seen pair))

-- a call reads the element at an index of the object of a key, and says it if the code is 0
pub record TellsElement (key : CKey) (index code : ℕ) (before after : Slot) (old new : CScalar) : Type 0
  where
    pub call : AsksHandle (key_wrong key) code before after (λ s t. AnswersWith s (λ d.
        scalar_reply s.mode d (key_of key) (Get (key_of key) index)) (answer_for code (element_in new)))
    pub outputs_on_error : 1 ≤ code → new ≡ old
