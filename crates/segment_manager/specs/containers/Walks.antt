-- The pairs of a map, one after another by rising map keys.
use Rattle.std.specs.Prelude.{◌≡◌, ℕ, ℤ, Bool, true, Option, Some, None, Result, Ok, Err, List, [], ◌∷◌, int_lt}
use Rattle.std.specs.{List.AllByRecursion, Prelude.option_map}
use Rattle.link_tree.specs.Nodes.{is_in}
use Rattle.seg_types.specs.{declared.kinds.Kind.TheVariants.Map, declared.kinds.ScalarKind.ScalarKind}
use Rattle.seg_types.specs.{declared.refusals.Refusal.Refusal, Names.Key, Values.kind_of_scalar, Values.value_of_scalar}
use Rattle.seg_types.specs.declared.values.ScalarValue.{ScalarValue}
use Rattle.seg_map.specs.{Numbers.NumberPair, Places.first_pair, Places.item_of, Places.nodes_of_pairs}
use Rattle.seg_map.specs.Places.{pair_node}
use Rattle.segment_manager.specs.{Calls.kind_at, objects.ElementLists.list_at, State.AnswersWith, State.SegmentState}
use Rattle.segment_manager.specs.State.{DenotesCurrent}
use Rattle.segment_manager.specs.Directory.{Value, Numbers, Elements, Bytes, Pairs, Texts, Directory, object_at}

-- ---- the map

-- the object of a key is a map of the kinds
abbrev pub IsMap : SegmentState → Key → ScalarKind → ScalarKind → Type 0
IsMap s key k v = AnswersWith s (λ d. kind_at d key) (Ok (Map k v))

-- the pairs of a value; none if it is no map
abbrev pub pairs_of : Value → List NumberPair
pairs_of (Numbers k zs) = []
pairs_of (Elements k zs t) = []
pairs_of (Bytes bs t) = []
pairs_of (Pairs k v ps) = ps
pairs_of (Texts ps t) = []

-- the pairs of a key's map
abbrev pub pairs_at : Directory → Key → List NumberPair
pairs_at d key = elim (object_at d key) [ None ↦ [] | Some o ↦ pairs_of o.value ]

-- the pairs of a key's map of the kinds; none for any other object
abbrev pub pairs_at_kinds : Directory → Key → ScalarKind → ScalarKind → List NumberPair
pairs_at_kinds d key k v = list_at pairs_of d key (Map k v)

-- a pair of the key's map has the node
abbrev pub HasPairNode : SegmentState → Key → ScalarKind → ScalarKind → ℕ → Type 0
HasPairNode s key k v node = AnswersWith s (λ d. is_in node (nodes_of_pairs (pairs_at_kinds d key k v))) true

-- the result is the pair of the key's map that has the node
pub record ReadsPairNode (s : SegmentState) (key : Key) (k v : ScalarKind) (node : ℕ) (item : Option (ℤ × ℤ)) : Type 0
  where
    pub pairs : (d : Directory) → DenotesCurrent s.cut.bytes d
        → AllByRecursion (λ p. pair_node p ≡ node → item ≡ Some (item_of p)) (pairs_at_kinds d key k v)

-- the first pair of the list
abbrev pub first_of : List NumberPair → Option NumberPair
first_of [] = None
first_of (p ∷ ps) = Some p

-- the first pair whose map key is above a number, or not below it
abbrev pub pair_past : Bool → ℤ → List NumberPair → Option (ℤ × ℤ)
pair_past above z ps = option_map item_of (first_pair int_lt above z ps)

-- ---- one pair

-- a key and a value, each with its kind
abbrev pub KindedPair : Type 0
KindedPair = (ScalarKind × ℤ) × (ScalarKind × ℤ)

-- a pair with its kinds
abbrev pub item_of_kinds : ScalarKind → ScalarKind → ℤ × ℤ → KindedPair
item_of_kinds k v (x, y) = ((k, x), (v, y))

-- key and value of a pair, each with its kind
abbrev pub item_seen : ScalarValue × ScalarValue → KindedPair
item_seen (x, y) = ((kind_of_scalar x, value_of_scalar x), (kind_of_scalar y, value_of_scalar y))

-- the pair that a call read from a map of the kinds, with its kinds; none after an error
abbrev pub items_read : ScalarKind → ScalarKind → Result (Option (ℤ × ℤ)) Refusal → Option KindedPair
items_read k v (Ok pair) = option_map (item_of_kinds k v) pair
items_read k v (Err why) = None
