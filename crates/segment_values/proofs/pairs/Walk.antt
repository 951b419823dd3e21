-- The pairs of a map: all their texts together are the texts of its value.
use Rattle.std.proofs.Common.{◌≡◌, ℕ, ◌+◌, Bool, Option, Some, None, slice_get, sym, ◌∙◌, false}
use Rattle.std.proofs.{lemmas.List.length-map}
use Rattle.std.specs.Prelude.{Result, option_map, true}
use Rattle.raw_region.specs.Device.{WriterHistory, Writes}
use Rattle.seg_types.specs.{declared.values.ScalarValue.ScalarValue, Kinds.lowest, Values.kind_of_scalar}
use Rattle.seg_types.specs.{Values.value_of_scalar, declared.kinds.Kind.TheVariants.Map, Names.ByHandle}
use Rattle.seg_types.specs.declared.kinds.ScalarKind.{ScalarKind}
use Rattle.seg_map.specs.{Places.item_of}
use Rattle.segment_manager.specs.containers.Walks.{KindedPair, first_of, item_of_kinds, item_seen, pair_past, pairs_at}
use Rattle.segment_manager.specs.containers.Walks.{pairs_of}
use Rattle.segment_manager.specs.Directory.{Value, Pairs, Directory, kind_of}
use Rattle.segment_manager.specs.State.{AnswersWith, SegmentState, DenotesCurrent}
use Rattle.segment_manager.specs.{declared.objects.object_ref.Object.Object as Located, objects.BoundObjects.IsBound}
use Rattle.segment_manager.specs.{objects.Located.IsLocated, Parts.part_of, Parts.parts_until}
use Rattle.segment_manager.proofs.{PartLaws.well}
use Rattle.segment_manager.proofs.NextPairs.{IsNext, first-walked, next-behind, next-first, next-none, none-text}
use Rattle.segment_manager.proofs.NextPairs.{pair-said}
use Rattle.segment_values.specs.{Asked.pair_part, Asked.pair_text, Asked.walked_text, Writing.WritesFor}
use Rattle.segment_values.specs.Contents.{content_of, count_of_content}
use Rattle.segment_values.specs.Layouts.{Spelling, count_at, laid_at, laid_out}
use Rattle.segment_values.proofs.{Laid.laid-made, Laid.parts-laid, LaidElements.here, LaidElements.kind-here}
use Rattle.segment_values.proofs.Located.{bound-map}
use Rattle.segment_values.proofs.{Owed.of-none, Owed.of-one}

-- the texts of the pairs of a value are the texts of the value
pairs-laid : (sp : Spelling) (k v : ScalarKind) (w : Value) → kind_of w ≡ Map k v
    → parts_until (λ j. part_of (pair_text sp k v j) (slice_get (pairs_of w) j)) (count_of_content (content_of w))
    ≡ laid_out sp (content_of w)
pairs-laid sp k v (Pairs l m ps) e =
    let keys : k ≡ l = cc in let values : v ≡ m = cc in
    rw (keys, values, length-map ps item_of)
    (parts-laid (pair_text sp l m) ps ∙ sym (laid-made (λ j p. sp.pair j l m p) item_of 0 ps))
pairs-laid sp k v w e = absurd (cc)

-- the texts that are written of a map are the texts of its value
pub map-said : (s : SegmentState) (o : Located) (l : IsLocated s (ByHandle o.handle) o) (k v : ScalarKind)
    → o.kind ≡ Map k v → (sp : Spelling) (n : ℕ) → AnswersWith s (λ d. count_at d (ByHandle o.handle)) n
    → (d : Directory) → DenotesCurrent s.cut.bytes d
    → parts_until (pair_part sp k v d (ByHandle o.handle)) n ≡ laid_at sp d (ByHandle o.handle)
map-said s o l k v e sp n a d st =
    let f = here s o l d st in let many = rw (f.is, count_at) at (a.answers d st) in
    let said : parts_until (λ j. part_of (pair_text sp k v j) (slice_get (pairs_at d (ByHandle o.handle)) j)) n
    ≡ laid_at sp d (ByHandle o.handle) =
    rw (f.is, pairs_at, many) (pairs-laid sp k v f.object.value (sym (kind-here s o l d st) ∙ e)) in said

-- the first pair is the one from the least map key on
pub first-of-kinds : {s : SegmentState} {o : Located} {k v : ScalarKind} → IsBound (Map k v) o s → (x : ScalarValue)
    → kind_of_scalar x ≡ k → value_of_scalar x ≡ lowest k → (p : Option KindedPair)
    → AnswersWith s (λ d. option_map (item_of_kinds (kind_of_scalar x) v)
    (pair_past false (value_of_scalar x) (pairs_at d (ByHandle o.handle)))) p
    → AnswersWith s (λ d. option_map (item_of_kinds k v)
    (option_map item_of (first_of (pairs_at d (ByHandle o.handle))))) p
first-of-kinds {s} {o} {k} {v} b x kind_is value_is p a =
    first-walked s (ByHandle o.handle) k v (bound-map b) p (rw (kind_is, value_is) at a)

-- ---- a walk from pair to pair

-- what is read from a bound on is the pair with an index
abbrev pub LeadsTo : SegmentState → ℕ → ScalarKind → ScalarKind → Bool → ScalarValue → ℕ → Type 0
LeadsTo s h k v above x i = (r : Option (ScalarValue × ScalarValue))
    → AnswersWith s (λ d. option_map (item_of_kinds (kind_of_scalar x) v)
    (pair_past above (value_of_scalar x) (pairs_at d (ByHandle h)))) (option_map item_seen r) → IsNext s h k v r i

-- the least map key leads to the first pair
pub leads-first : {s : SegmentState} {o : Located} {k v : ScalarKind} → IsBound (Map k v) o s → (x : ScalarValue)
    → kind_of_scalar x ≡ k → value_of_scalar x ≡ lowest k → LeadsTo s o.handle k v false x 0
leads-first {s} {o} {k} {v} b x kind_is value_is = λ r a.
    next-first s o.handle k v r (first-of-kinds b x kind_is value_is (option_map item_seen r) a)

module _ (s : SegmentState) (h : ℕ) (k v : ScalarKind) (i : ℕ) where
  -- the pair that is read is the pair with the index
  pub led : (above : Bool) (x : ScalarValue) (r p : Option (ScalarValue × ScalarValue)) → LeadsTo s h k v above x i
      → AnswersWith s (λ d. option_map (item_of_kinds (kind_of_scalar x) v)
      (pair_past above (value_of_scalar x) (pairs_at d (ByHandle h)))) (option_map item_seen r) → r ≡ p
      → IsNext s h k v p i
  led above x r p to a is = rw is at (to r a)

  -- the map key of a pair leads to the next one
  pub leads-next : (x y : ScalarValue) → IsNext s h k v (Some (x, y)) i → LeadsTo s h k v true x (i + 1)
  leads-next x y n = λ r a. next-behind s h k v i x y n r a

  -- behind the last pair a bound leads to none
  pub leads-none : (above : Bool) (x : ScalarValue) → LeadsTo s h k v above x i → IsNext s h k v None i
      → LeadsTo s h k v above x (i + 1)
  leads-none above x to n = λ r a d l. to r a d l ∙ sym (n d l) ∙ next-none s h k v i n d l

  module _ (sp : Spelling) where
    -- the text of the pair is the part with the index
    pub pair-owed : {A E : Type 0} {old new : WriterHistory} {result : Result A E} (x y : ScalarValue)
        → IsNext s h k v (Some (x, y)) i → Writes old new result (walked_text sp i (item_seen (x, y)))
        → WritesFor old new result (DenotesCurrent s.cut.bytes) (λ d. pair_part sp k v d (ByHandle h) i)
    pair-owed x y n w = of-one w (pair-said s h k v i x y n (walked_text sp i))

    -- without a pair the part is empty
    pub none-owed : {old : WriterHistory} → IsNext s h k v None i
        → WritesFor old old well (DenotesCurrent s.cut.bytes) (λ d. pair_part sp k v d (ByHandle h) i)
    none-owed n = of-none (λ d l. sym (none-text s h k v i n (walked_text sp i) d l))
