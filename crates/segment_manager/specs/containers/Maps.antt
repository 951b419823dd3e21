-- Maps of numbers as values of objects: their places, reads and changes.
use Rattle.seg_map.specs.Changing as maps
use Rattle.std.specs.Prelude.{ℕ, ℤ, int_lt, true, false, Option, Some, None, Result, Ok, Err, List, option_map}
use Rattle.std.specs.Prelude.{Bool, if◌then◌else◌, length, min, take}
use Rattle.raw_region.specs.Memory.{WindowState}
use Rattle.byteorder.specs.Endian.{little_number}
use Rattle.seg_types.specs.{Names.Key, declared.refusals.Refusal.Refusal, declared.kinds.Kind.TheVariants.Map}
use Rattle.seg_types.specs.{declared.kinds.ScalarKind.ScalarKind, declared.plain.Plain.Ghosts as Plain}
use Rattle.seg_types.specs.{Values.kind_of_scalar, Values.value_of_scalar, declared.values.ScalarValue.ScalarValue}
use Rattle.seg_types.specs.declared.refusals.Refusal.TheVariants.{NotFound, WrongKind}
use Rattle.seg_types.specs.Kinds.{is_value, same_kind, scalar_code, size_of, spelling, value_of}
use Rattle.best_fit.specs.declared.places.Place.{Place}
use Rattle.seg_map.specs.Numbers.{NumberPair}
use Rattle.seg_map.specs.Listing.{pairs_past, with_nodes}
use Rattle.seg_map.specs.Places.{HoldsMap, final_pair, first_pair, item_of, last_pair}
use Rattle.segment_manager.specs.{Answers.Answer, Answers.Absent, Answers.Element, Directory.object_at, State.answer_of}
use Rattle.segment_manager.specs.Directory.{Value, Numbers, Elements, Bytes, Pairs, Texts, Directory, kind_of}

-- ---- their places

-- the numbers of a kind, as a type whose values have encodings and an order
abbrev pub numbers_of : ScalarKind → Plain ℤ
numbers_of k = record {
  SIZE = size_of k;
  CODE = scalar_code k;
  is_value = is_value k;
  spelling = spelling k;
  order = int_lt;
  reading = λ bytes. Some (value_of k (little_number (size_of k) bytes));
}

-- the map at a place has these pairs
abbrev pub IsPairs : ScalarKind → ScalarKind → List ℕ → Place → List NumberPair → Type 0
IsPairs k v b p ps = HoldsMap (numbers_of k) (numbers_of v) b p.handle p.at ps

-- a map of the kinds is at a place
abbrev pub HasPairs : ScalarKind → ScalarKind → List ℕ → Place → Type 0
HasPairs k v b p = (ps : List NumberPair) × IsPairs k v b p ps

-- the map is empty, and the blocks of its pairs are freed
pub record ReleasesPairs (k v : ScalarKind) (old new : WindowState) (p : Place) : Type 0 where
  pub each : maps.ReleasesMap (numbers_of k) (numbers_of v) old new p.handle p.at

-- ---- reads

-- a function of the pairs of a map, or `WrongKind`
abbrev pub told_of : {A : Type 0} → (List NumberPair → A) → Value → Result A Refusal
told_of say (Numbers k zs) = Err WrongKind
told_of say (Elements k zs t) = Err WrongKind
told_of say (Bytes bs t) = Err WrongKind
told_of say (Pairs k v ps) = Ok (say ps)
told_of say (Texts ps t) = Err WrongKind

-- a function of the pairs of a key's map of the kinds, or an error
abbrev pub answer_of_map : {A : Type 0} → Directory → Key → ScalarKind → ScalarKind → (List NumberPair → A)
    → Result A Refusal
answer_of_map d key k v say = elim (object_at d key) [
  | None ↦ Err NotFound
  | Some o ↦ if same_kind (Map k v) (kind_of o.value) then told_of say o.value else Err WrongKind
]

-- The first pair whose map key is not below a number. Pairs are in order of rising map keys.
abbrev pub pair_from : ℤ → List NumberPair → Option (ℤ × ℤ)
pair_from from ps = option_map item_of (first_pair int_lt false from ps)

-- the first pair whose map key is above a number
abbrev pub pair_above : ℤ → List NumberPair → Option (ℤ × ℤ)
pair_above key ps = option_map item_of (first_pair int_lt true key ps)

-- the last pair whose map key is not above a number
abbrev pub pair_up_to : ℤ → List NumberPair → Option (ℤ × ℤ)
pair_up_to to ps = option_map item_of (last_pair int_lt true to ps)

-- the last pair whose map key is below a number
abbrev pub pair_below : ℤ → List NumberPair → Option (ℤ × ℤ)
pair_below key ps = option_map item_of (last_pair int_lt false key ps)

-- the last pair
abbrev pub pair_at_end : List NumberPair → Option (ℤ × ℤ)
pair_at_end ps = option_map item_of (final_pair ps)

-- how many of the pairs from a number on, or above it, are listed in this many places
abbrev pub count_read : Bool → ℤ → ℕ → List NumberPair → ℕ
count_read past from places ps = min places (length (pairs_past int_lt past from ps))

-- the list with the nodes of these pairs in its first places, as many as `places`
abbrev pub nodes_read : Bool → ℤ → ℕ → List ℕ → List NumberPair → List ℕ
nodes_read past from places list ps = with_nodes (take places (pairs_past int_lt past from ps)) list

-- a key and a value, or none, as numbers
abbrev pub numbers_in : {K V : Type 0} → (K → ℤ) → (V → ℤ) → Option (K × V) → Option (ℤ × ℤ)
numbers_in k v = option_map (λ (x, y). (k x, v y))

-- a pair as numbers
abbrev pub pair_result : {K V : Type 0} → (K → ℤ) → (V → ℤ) → Result (Option (K × V)) Refusal
    → Result (Option (ℤ × ℤ)) Refusal
pair_result k v (Ok r) = Ok (numbers_in k v r)
pair_result k v (Err e) = Err e

-- the value of a key, or none, as an answer
abbrev pub value_or_absent : ScalarKind → Option ℤ → Answer
value_or_absent k None = Absent
value_or_absent k (Some z) = Element k z

-- a value that was found, or none, as an answer
abbrev pub value_answer : {T : Type 0} → ScalarKind → (T → ℤ) → Result (Option T) Refusal → Answer
value_answer k w = answer_of (λ r. value_or_absent k (option_map w r))

-- the answer of a value with its kind, or of none
abbrev pub any_or_absent : Option ScalarValue → Answer
any_or_absent None = Absent
any_or_absent (Some v) = Element (kind_of_scalar v) (value_of_scalar v)

-- a value of any kind that was found, or none, as an answer
abbrev pub any_value_answer : Result (Option ScalarValue) Refusal → Answer
any_value_answer = answer_of any_or_absent
