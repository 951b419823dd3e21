-- A map as the value of an object: its place for the calls of seg_map, and the effect of these calls on the object.
use Rattle.segment_manager.proofs.Common as common
use Rattle.std.proofs.lemmas.{List.nil_from_length, Result.IfErr-weaker}
use Rattle.raw_region.proofs.Facts.{AllByRecursion-append, AllByRecursion-behind, AllByRecursion-front, first, no_more}
use Rattle.raw_region.proofs.Facts.{second}
use Rattle.best_fit.proofs.Laws.{all-found-in, spread-refl}
use Rattle.best_fit.specs.{Exchange.KeepsLiveSet, Requests.all_added, Requests.place_all}
use Rattle.seg_vector.specs.{TextsCalls.ErasesTextOk, TextsCalls.IsHeldText, TextsCalls.IsTexts, Vector.IsTextsAt}
use Rattle.segment_manager.proofs.{containers.Safely.seen-refused, objects.Constructed.restored-denotes}
use Rattle.segment_manager.proofs.{directory.IndexedParts.IsLike, objects.Destroys.standing}
use Rattle.segment_manager.proofs.containers.{ItemSteps.start-place, MapBlocks.put-parted, MapBlocks.removed-parted}
use Rattle.segment_manager.proofs.containers.ItemSteps.{HoldsAt, good-with, holds-at, kind-told, of_kind-same, one-kind}
use Rattle.segment_manager.proofs.containers.MapBlocks.{BlocksInUse, PartedNodes, no-node, nodes, one-by_handle}
use Rattle.segment_manager.proofs.containers.TextBlocks.{IsPartOther, others-apart, part-exchange}
use Rattle.segment_manager.proofs.containers.TextLists.{part-all, part-none, part-removed}
use Rattle.segment_manager.proofs.directory.AnyDirectory.{IsMove, IsOpenFor, by_no_change_of_kind, by_step_of_kind}
use Rattle.segment_manager.proofs.directory.AnyDirectory.{denotes-heap, denotes-live, object-at, open-writing}
use Rattle.segment_manager.proofs.directory.AnyDirectory.{step_of_kind-found, step_of_kind-segment}
use Rattle.segment_manager.proofs.directory.Frame.{IsRoomy, denotes-replaced, object-roomy}
use Rattle.segment_manager.proofs.directory.LiveSet.{Apart, Differs, IsFoundIn, IsIn, Rising, inserted, live-rises}
use Rattle.segment_manager.proofs.directory.LiveSet.{live-split, resized-fresh, rising-insert}
use Rattle.segment_manager.proofs.objects.{Exchanged.live-exchanged, Exchanged.others-beside, RankedPairs.key-found}
use Rattle.segment_manager.proofs.objects.{Regrown.InPlace, Regrown.rest, Regrown.with_extents, Standings.standing-room}
use Rattle.segment_manager.proofs.objects.Exchanged.{Exchange, all-but-beside, between, denotes-container}
use Rattle.segment_manager.proofs.objects.Rewritten.{object-held, value_start, with_value}
use Rattle.segment_manager.specs.containers.OwnedTexts.{TextsArePlaced, owned_texts, text_needs, with_blocks}
use common.{AllByRecursion, Answer, AnswersWith, AreDistinct, BackingArray, Bool, Command, Denotes, DenotesCurrent}
use common.{Directory, EncodesLiveSet, ErasesPair, ExchangesBlocks, Extent, HoldsMap, IfErr, IsObjectInBlock, IsPairIn}
use common.{IsSegment, IsStorageBlock, IsTextsContainer, IsTrue, IsValueAt, KeepsBlocks, KeepsOutsideMap, Key, Kind}
use common.{LeadsOnOfKind, List, LiveSet, Map, Memory, New, NoSpace, None, NumberPair, Object, Ok, OnErr, Option}
use common.{OverwritesPair, OwnedText, Pairs, Place, Plan, PutsNewPair, Refusal, Refused, ReplacesTexts, Request}
use common.{Result, Role, SameBlockExcept, SameBytes, SameSpread, ScalarKind, SegmentState, Some, StepsWithoutAnswer}
use common.{Storage, StringsKind, TakesStepOfKind, Texts, Value, WindowState, [], added, and_from, ap, append-nil}
use common.{are_bytes, arith, bytes_of, changed, cond-false, cond-true, container_at, container_place, count_of}
use common.{current, done_answer, effect, eq-eqb, eqb-true, exchanged, extent_at, extents_of, false, handle}
use common.{has_backing, has_own_block, head_len, if◌then◌else◌, inl, int_lt, is_good_value, is_number_pair, is_object}
use common.{is_owned_text, is_proper, is_read_only, is_rising, is_untouched, kind_at, kind_of, lay_out_one, le-leb}
use common.{length, list_all, live, live_of, lt-ltb, ltb-true, map, nat_le, nat_lt, nodes_of_pairs, numbers_of}
use common.{object_at, option_map, option_to_list, padded, pair_at, perform, place, place_at, placed_is_proper}
use common.{placed_text, placed_texts, put_pair, refl, refusal_of, remove, remove_pair, resized, same_Some, same_kind}
use common.{serves, step_of_kind, subst, sym, text_blocks, true, value_extents, value_len, with_owned_texts, with_text}
use common.{ℕ, ℤ, ◌&&◌, ◌++◌, ◌+◌, ◌==◌, ◌∙◌, ◌∷◌, ◌≡◌, ◌≢◌, ◌≤◌}

-- ---- values of the kind of a map

map-if : (k v : ScalarKind) (w : Value) → Map k v ≡ kind_of w → (ps : List NumberPair) × (w ≡ Pairs k v ps)
map-if k v (Pairs l m ps) e =
    let keys : l ≡ k = cc in let values : m ≡ v = cc in (ps, λ i. Pairs (keys i) (values i) ps)
map-if k v w e = absurd (cc)

-- a value of a map's kind is a list of pairs
pub map-only : (k v : ScalarKind) (w : Value) → same_kind (Map k v) (kind_of w) ≡ true
    → (ps : List NumberPair) × (w ≡ Pairs k v ps)
map-only k v w e = map-if k v w (one-kind (Map k v) (kind_of w) e)

each-good : (k v : ScalarKind) (l : LiveSet) (h : ℕ) (ps : List NumberPair) → IsTrue (list_all (is_number_pair k v) ps)
    → AllByRecursion (λ x. extent_at l (handle x) ≡ Some x) (nodes ps) → AllByRecursion (λ (p : NumberPair). handle
    p.node ≢ h) ps → AllByRecursion (IsPairIn (numbers_of k) (numbers_of v) l h) ps
each-good k v l h [] g a n = tt
each-good k v l h (p ∷ ps) g a n = (
  record { good = first (is_number_pair k v p) (list_all (is_number_pair k v) ps) g; listed = a.0; apart = n.0 },
  each-good k v l h ps (second (is_number_pair k v p) (list_all (is_number_pair k v) ps) g) a.1 n.1,
)

other-handles : (x : Extent) (ps : List NumberPair) → Differs x (nodes ps)
    → AllByRecursion (λ (p : NumberPair). handle p.node ≢ handle x) ps
other-handles x [] n = tt
other-handles x (p ∷ ps) n = ((λ e. n.0 (omega (arith, e))), other-handles x ps n.1)

all-good : (k v : ScalarKind) (l : LiveSet) (h : ℕ) (ps : List NumberPair)
    → AllByRecursion (IsPairIn (numbers_of k) (numbers_of v) l h) ps → IsTrue (list_all (is_number_pair k v) ps)
all-good k v l h [] a = refl
all-good k v l h (p ∷ ps) a =
    and_from (is_number_pair k v p) (list_all (is_number_pair k v) ps) a.0.good (all-good k v l h ps a.1)

listed-nodes : (k v : ScalarKind) (l : LiveSet) (h : ℕ) (ps : List NumberPair)
    → AllByRecursion (IsPairIn (numbers_of k) (numbers_of v) l h) ps → AllByRecursion (IsFoundIn l.extents) (nodes ps)
listed-nodes k v l h [] a = tt
listed-nodes k v l h (p ∷ ps) a = (a.0.listed, listed-nodes k v l h ps a.1)

same-handles : (ps : List NumberPair) → map handle (nodes ps) ≡ nodes_of_pairs ps
same-handles [] = refl
same-handles (p ∷ ps) = ap (λ (ns : List ℕ). handle p.node ∷ ns) (same-handles ps)

-- ---- an object that is a map

-- the object is in its block, is found, and has these pairs
pub record IsMapObject (b : List ℕ) (d : Directory) (o : Object) (k v : ScalarKind)
    (ps : List NumberPair) : Type 0 where
  pub stands : IsObjectInBlock b (handle o.extent) o
  pub found : IsIn d o
  pub value : o.value ≡ Pairs k v ps
  pub in_use : BlocksInUse d o

module _ {b : List ℕ} {d : Directory} {o : Object} {k v : ScalarKind} {ps : List NumberPair} (den : Denotes current b d)
    (x : IsMapObject b d o k v ps) where
  -- its map is at its place
  pub object-map : HoldsMap (numbers_of k) (numbers_of v) b (handle o.extent) (head_len + padded (length o.name)) ps
  object-map =
      let good : IsTrue (is_rising int_lt ps && list_all (is_number_pair k v) ps) =
      subst (λ w. IsTrue (is_good_value w)) x.value (object-roomy current o x.stands.good).value in
      let len : value_len o.value ≡ 24 = ap value_len x.value in
      let l : live d ≡ live_of b = sym (denotes-live current b d den) in
      record {
        heap = denotes-heap current b d den;
        map = subst (λ at. IsValueAt (bytes_of b) at (Pairs k v ps)) (start-place o)
            (subst (λ w. IsValueAt (bytes_of b) (value_start o) w) x.value x.stands.said.value);
        aligned = omega arith;
        room = standing-room b (handle o.extent) (16 + padded (length o.name) + 24) o x.stands (omega (arith, len));
        rising = first (is_rising int_lt ps) (list_all (is_number_pair k v) ps) good;
        pairs = each-good k v (live_of b) (handle o.extent) ps (second (is_rising int_lt ps) (list_all (is_number_pair k
            v) ps) good) (subst (λ (l : LiveSet). AllByRecursion (IsFoundIn l.extents) (nodes ps)) l
            (subst (λ w. AllByRecursion (IsFoundIn (live d).extents) (value_extents w)) x.value x.in_use.value))
            (other-handles o.extent ps (subst (λ w. Differs o.extent (value_extents w)) x.value x.in_use.own_apart));
      }

-- ---- the effect of calls

module _ (old new : WindowState) {d : Directory} {o : Object} {k v : ScalarKind} {ps : List NumberPair}
    (qs : List NumberPair) (den : Denotes current old.bytes d) (x : IsMapObject old.bytes d o k v ps) where
  abbrev renewed : Value
  renewed = Pairs k v qs

  in_place : InPlace d o (with_value o renewed)
  in_place = record { found = x.found; extent = refl; proper = den.directory.proper }

  -- a block that is not a pair's
  module _ (b : KeepsOutsideMap old new (handle o.extent + (head_len + padded (length o.name)))
      (nodes_of_pairs ps)) where
    stays-beside : (y : Extent) → IsFoundIn (live d).extents y → Differs y (value_extents o.value)
        → SameBlockExcept (bytes_of old.bytes) (bytes_of new.bytes) (value_start o) 24 y
    stays-beside y f n = subst (λ at. SameBlockExcept (bytes_of old.bytes) (bytes_of new.bytes) at 24 y)
        (sym (start-place o)) (b.blocks y (ap (λ (l : LiveSet). extent_at l (handle y)) (denotes-live current old.bytes
        d den) ∙ f) (no-node y ps (subst (λ w. Differs y (value_extents w)) x.value n)))

    all-beside : (ys : List Extent) → AllByRecursion (IsFoundIn (live d).extents) ys → Apart ys (value_extents o.value)
        → AllByRecursion (SameBlockExcept (bytes_of old.bytes) (bytes_of new.bytes) (value_start o) 24) ys
    all-beside [] f n = tt
    all-beside (y ∷ ys) f n = (stays-beside y f.0 n.0, all-beside ys f.1 n.1)

    -- the map has other pairs: some blocks were freed, and others allocated
    pub pairs-changed : HoldsMap (numbers_of k) (numbers_of v) new.bytes (handle o.extent)
        (head_len + padded (length o.name)) qs → (gone come : List Extent) → Exchange o (with_value o renewed) gone come
        → EncodesLiveSet current new.bytes (exchanged (live_of old.bytes) gone come)
        → Denotes current new.bytes (changed d o renewed)
    pairs-changed s gone come e laid =
        let m : Memory = bytes_of old.bytes in let m' : Memory = bytes_of new.bytes in
        let from : ℕ = value_start o in
        let l : EncodesLiveSet current new.bytes (exchanged (live d) gone come) =
        subst (λ (l : LiveSet). EncodesLiveSet current
        new.bytes (exchanged l gone come)) (denotes-live current old.bytes d den) laid in
        let like : IsLike o (with_value o renewed) =
        record { extent = refl; name = refl; class = refl; kind = sym (ap kind_of x.value) } in
        let roomy : IsRoomy o = object-roomy current o x.stands.good in
        let len : value_len o.value ≡ 24 = ap value_len x.value in
        let fits : 16 + padded (length o.name) + value_len o.value + 16 ≤ o.extent.len = roomy.room in
        let own : SameBlockExcept m m' (value_start o) 24 o.extent =
        stays-beside o.extent x.in_use.own x.in_use.own_apart in
        let front : SameBytes m m' (handle o.extent) (value_start o) =
        record { at = λ i a c. own.payload i a (omega (arith, len)) (inl c) } in
        let keeps : KeepsBlocks old new (rest d (with_value o renewed)) = record {
          place = b.place;
          front = b.front;
          behind = b.behind;
          blocks = all-but-beside m m' from 24 o.extent (rest d o) (omega arith) (omega (arith, len)) (others-beside d o
              (with_value o renewed) in_place) (all-beside (rest d o) x.in_use.beside x.in_use.beside_apart);
        } in
        denotes-replaced current old new d o (with_value o renewed) den x.found like (good-with current o renewed
        x.stands.good (sym (ap kind_of x.value)) (sym (ap value_len x.value)) (and_from (is_rising int_lt qs) (list_all
        (is_number_pair k v) qs) s.rising (all-good k v (live_of new.bytes) (handle o.extent) qs s.pairs)))
        (subst (EncodesLiveSet current new.bytes) (sym (live-exchanged d o (with_value o renewed) gone come in_place e
        l.proper)) l) keeps (object-held m m' o renewed (object-at current old.bytes d (handle o.extent) o den x.found)
        (sym (ap kind_of x.value)) (sym (ap count_of x.value)) front (subst (λ at. IsValueAt m' at renewed)
        (sym (start-place o)) s.map))

  -- the nodes of the new map are the nodes of the old one, with one more or one less
  pub came : (n : Extent) → PartedNodes (nodes ps) (nodes qs) n → Exchange o (with_value o renewed) [] (n ∷ [])
  came n r = between o (with_value o renewed) r.front [] (n ∷ []) r.back (ap value_extents x.value ∙ r.others) r.whole

  pub went : (n : Extent) → PartedNodes (nodes qs) (nodes ps) n → Exchange o (with_value o renewed) (n ∷ []) []
  went n r = between o (with_value o renewed) r.front (n ∷ []) [] r.back (ap value_extents x.value ∙ r.whole) r.others

  -- or they are the same
  pub all-same : nodes qs ≡ nodes ps → Exchange o (with_value o renewed) [] []
  all-same e = record {
    same = nodes ps;
    was = subst (λ xs. SameSpread xs (nodes ps)) (sym (ap value_extents x.value)) (spread-refl (nodes ps));
    is = subst (SameSpread (nodes ps)) (sym e) (spread-refl (nodes ps));
  }

-- ---- the calls of seg_map

module _ (old new : WindowState) {d : Directory} {o : Object} {k v : ScalarKind} {ps : List NumberPair}
    (den : Denotes current old.bytes d) (x : IsMapObject old.bytes d o k v ps) where
  -- a pair more
  pub put-denotes : (key value : ℤ) → pair_at int_lt ps key ≡ None
      → (r : PutsNewPair (numbers_of k) (numbers_of v) old new
      (handle o.extent) (head_len + padded (length o.name)) ps key value) → Denotes current new.bytes
      (changed d o (Pairs k v (put_pair int_lt (record { key = key; value = value; node = r.extent }) ps)))
  put-denotes key value none r = pairs-changed old new _ den x r.beside r.map [] (r.extent ∷ [])
      (came old new _ den x r.extent (put-parted _ ps none)) r.live

  -- another value in the block of a pair
  pub again-denotes : (key value : ℤ) (p : NumberPair) → OverwritesPair (numbers_of k) (numbers_of v) old new
      (handle o.extent) (head_len + padded (length o.name)) ps p key value → nodes_of_pairs (put_pair int_lt
      (record { key = key; value = value; node = p.node }) ps) ≡ nodes_of_pairs ps → Denotes current new.bytes
      (changed d o (Pairs k v (put_pair int_lt (record { key = key; value = value; node = p.node }) ps)))
  again-denotes key value p r same =
      let q : NumberPair = record { key = key; value = value; node = p.node } in
      let qs : List NumberPair = put_pair int_lt q ps in
      let l : live_of new.bytes ≡ live_of old.bytes = lay_out_one current new.bytes (live_of old.bytes) r.change.live in
      let s = object-map den x in
      let one : nodes qs ≡ nodes ps = one-by_handle (live_of old.bytes).extents (nodes qs) (nodes ps) (same-handles qs
      ∙ same ∙ sym (same-handles ps)) (subst (λ (l : LiveSet). AllByRecursion (IsFoundIn l.extents) (nodes qs)) l
      (listed-nodes k v (live_of new.bytes) (handle o.extent) qs r.map.pairs)) (listed-nodes k v (live_of old.bytes)
      (handle o.extent) ps s.pairs) in
      pairs-changed old new _ den x r.beside r.map [] [] (all-same old new qs den x one) r.change.live

  -- a pair less
  pub erased-denotes : (key : ℤ) (p : NumberPair) → pair_at int_lt ps key ≡ Some p
      → ErasesPair (numbers_of k) (numbers_of v) old new (handle o.extent) (head_len + padded (length o.name)) ps p key
      → Denotes current new.bytes (changed d o (Pairs k v (remove_pair int_lt ps key)))
  erased-denotes key p e r = pairs-changed old new _ den x r.beside r.map (p.node ∷ []) []
      (went old new _ den x p.node (removed-parted key p ps e)) r.live

-- A vector of texts as the value of an object: its place for the calls of seg_vector, and the effect of these calls on
-- the object.

-- ---- texts

-- the bytes of a text are bytes
abbrev pub HasBytes : OwnedText → Type 0
HasBytes q = IsTrue (are_bytes q.bytes)

-- a block is in use, and is not the one with a handle
abbrev InUse : LiveSet → Extent → Type 0
InUse l x = extent_at l (handle x) ≡ Some x

abbrev Beside : ℕ → Extent → Type 0
Beside h x = h ≢ handle x

-- the text's block is in use, if it has one
held-one : (l : LiveSet) (bytes : List ℕ) (r : Option Extent)
    → IsTrue (has_own_block (record { bytes = bytes; extent = r }))
    → AllByRecursion (InUse l) (option_to_list r) → IsHeldText l (record { bytes = bytes; extent = r })
held-one l bytes None h f = nil_from_length bytes (eqb-true (length bytes) 0 h)
held-one l bytes (Some x) h f = (
  f.0,
  ltb-true 0 (length bytes) (first (nat_lt 0 (length bytes)) (serves x Storage (length bytes)) h),
  second (nat_lt 0 (length bytes)) (serves x Storage (length bytes)) h,
)

held-each : (l : LiveSet) (ps : List OwnedText) → IsTrue (list_all is_owned_text ps)
    → AllByRecursion (InUse l) (text_blocks ps) → AllByRecursion (IsHeldText l) ps
held-each l [] h f = tt
held-each l (p ∷ ps) h f = (
  held-one l p.bytes p.extent
      (first (has_own_block p) (are_bytes p.bytes) (first (is_owned_text p) (list_all is_owned_text ps) h))
      (AllByRecursion-front (InUse l) (option_to_list p.extent) (text_blocks ps) f),
  held-each l ps (second (is_owned_text p) (list_all is_owned_text ps) h)
      (AllByRecursion-behind (InUse l) (option_to_list p.extent) (text_blocks ps) f),
)

bytes-each : (ps : List OwnedText) → IsTrue (list_all is_owned_text ps) → AllByRecursion HasBytes ps
bytes-each [] h = tt
bytes-each (p ∷ ps) h = (
  second (has_own_block p) (are_bytes p.bytes) (first (is_owned_text p) (list_all is_owned_text ps) h),
  bytes-each ps (second (is_owned_text p) (list_all is_owned_text ps) h),
)

-- and back
block-one : (l : LiveSet) (bytes : List ℕ) (r : Option Extent) → IsHeldText l (record { bytes = bytes; extent = r })
    → IsTrue (has_own_block (record { bytes = bytes; extent = r }))
block-one l bytes None h = eq-eqb (length bytes) 0 (ap (λ (bs : List ℕ). length bs) h)
block-one l bytes (Some x) h =
    and_from (nat_lt 0 (length bytes)) (serves x Storage (length bytes)) (lt-ltb 0 (length bytes) h.1) h.2

owned-each : (l : LiveSet) (ps : List OwnedText) → AllByRecursion (IsHeldText l) ps → AllByRecursion HasBytes ps
    → IsTrue (list_all is_owned_text ps)
owned-each l [] h s = refl
owned-each l (p ∷ ps) h s = and_from (is_owned_text p) (list_all is_owned_text ps)
    (and_from (has_own_block p) (are_bytes p.bytes) (block-one l p.bytes p.extent h.0) s.0) (owned-each l ps h.1 s.1)

-- ---- the value

-- the properties of a good vector of texts
record FitsTexts (ps : List OwnedText) (t : BackingArray) : Type 0 where
  table : IsTrue (has_backing Storage 16 t)
  fits : length ps ≤ t.capacity
  owned : IsTrue (list_all is_owned_text ps)

fits-texts : (ps : List OwnedText) (t : BackingArray) → IsTrue (is_good_value (Texts ps t)) → FitsTexts ps t
fits-texts ps t h =
    let front : IsTrue (nat_le (length ps) t.capacity && has_backing Storage 16 t) =
    first (nat_le (length ps) t.capacity && has_backing Storage 16 t) (list_all is_owned_text ps) h in
    record {
      table = second (nat_le (length ps) t.capacity) (has_backing Storage 16 t) front;
      fits = no_more (length ps) t.capacity (first (nat_le (length ps) t.capacity) (has_backing Storage 16 t) front);
      owned = second (nat_le (length ps) t.capacity && has_backing Storage 16 t) (list_all is_owned_text ps) h;
    }

-- texts at a place form a good value
pub good-texts : (b : List ℕ) (p : Place) (ps : List OwnedText) (t : BackingArray) → IsTexts b p ps t
    → AllByRecursion HasBytes ps → IsTrue (is_good_value (Texts ps t))
good-texts b p ps t h s = and_from (nat_le (length ps) t.capacity
    && has_backing Storage 16 t) (list_all is_owned_text ps)
    (and_from (nat_le (length ps) t.capacity) (has_backing Storage 16 t) (le-leb (length ps) t.capacity h.fits) h.table)
    (owned-each (live_of b) ps h.held s)

-- ---- the object

texts-if : (v : Value) → StringsKind ≡ kind_of v → (ps : List OwnedText) × ((t : BackingArray) × (v ≡ Texts ps t))
texts-if (Texts ps t) e = (ps, (t, refl))
texts-if v e = absurd (cc)

-- a value of this kind is a list of strings
pub texts-only : (v : Value) → same_kind StringsKind (kind_of v) ≡ true
    → (ps : List OwnedText) × ((t : BackingArray) × (v ≡ Texts ps t))
texts-only v e = texts-if v (one-kind StringsKind (kind_of v) e)

-- the vector's blocks are in use, and differ from each other and from the object's own
its-blocks : (d : Directory) (o : Object) (ps : List OwnedText) (t : BackingArray) → IsIn d o
    → IsTrue (is_proper (live d))
    → o.value ≡ Texts ps t → AllByRecursion (InUse (live d)) (option_to_list t.extent ++ text_blocks ps) × AreDistinct
    (o.extent ∷ (option_to_list t.extent ++ text_blocks ps))
its-blocks d o ps t f proper e =
    let all : List Extent = o.extent ∷ (option_to_list t.extent ++ text_blocks ps) in
    let is : live d ≡ with_extents d o all =
    live-split d o f proper ∙ ap (λ (v : Value). with_extents d o (extents_of (with_value o v))) e in
    let up : Rising 128 (inserted all (rest d o)) =
    live-rises (with_extents d o all) (subst (λ (l : LiveSet). IsTrue (is_proper l)) is proper) in
    let found : AllByRecursion (InUse (live d)) all =
    subst (λ (l : LiveSet). AllByRecursion (InUse l) all) (sym is) (all-found-in all (rest d o) up) in
    (found.1, others-apart 128 all (rest d o) up)

own-array : (l : LiveSet) (h : ℕ) (r : Option Extent) → AllByRecursion (InUse l) (option_to_list r)
    → AllByRecursion (Beside h) (option_to_list r) → IsStorageBlock l h r
own-array l h None f g = tt
own-array l h (Some x) f g = (f.0, (λ e. g.0 (sym e)))

other-way : (h : ℕ) (xs : List Extent) → AllByRecursion (Beside h) xs → AllByRecursion (λ (x : Extent). handle x ≢ h) xs
other-way h [] n = tt
other-way h (x ∷ xs) n = ((λ e. n.0 (sym e)), other-way h xs n.1)

-- ---- the object of a key

-- the object is a vector of texts, at the place
pub record HoldsTexts (b : List ℕ) (d : Directory) (key : Key) (p : Place) : Type 0 where
  pub object : Object
  pub is : object_at d key ≡ Some object
  pub texts : List OwnedText
  pub table : BackingArray
  pub value : object.value ≡ Texts texts table
  pub at : container_place object ≡ p
  pub stand : IsTexts b p texts table
  pub bytes : AllByRecursion HasBytes texts

-- the object that the search found
pub holds-texts : (b : List ℕ) (d : Directory) (key : Key) (p : Place) → Denotes current b d
    → Ok p ≡ container_at d key StringsKind → HoldsTexts b d key p
holds-texts b d key p k e =
    let h : HoldsAt d key StringsKind p = holds-at d key StringsKind p e in let o : Object = h.object in
    let v : (ps : List OwnedText) × ((t : BackingArray) × (o.value ≡ Texts ps t)) = texts-only o.value h.same in
    let ps : List OwnedText = v.0 in let t : BackingArray = v.1.0 in
    let s : IsObjectInBlock b (handle o.extent) o = standing b d key o k h.is in
    let good : FitsTexts ps t =
    fits-texts ps t (subst (λ (w : Value). IsTrue (is_good_value w)) v.1.1 (object-roomy current o s.good).value) in
    let array : List Extent = option_to_list t.extent in
    let blocks = its-blocks d o ps t (key-found current d key o k.directory h.is) k.directory.proper v.1.1 in
    let held : AllByRecursion (InUse (live_of b)) (array ++ text_blocks ps) = subst (λ (l : LiveSet). AllByRecursion
    (InUse l) (array ++ text_blocks ps)) (sym (denotes-live current b d k)) blocks.0 in
    let len : value_len o.value ≡ 24 = ap value_len v.1.1 in
    record {
      object = o;
      is = h.is;
      texts = ps;
      table = t;
      value = v.1.1;
      at = h.at;
      stand = subst (λ (q : Place). IsTexts b q ps t) h.at (record {
        heap = denotes-heap current b d k;
        words = subst (λ at. IsTextsAt (bytes_of b) at ps t) (start-place o)
            (subst (IsValueAt (bytes_of b) (value_start o)) v.1.1 s.said.value);
        aligned = omega arith;
        room = standing-room b (handle o.extent) (16 + padded (length o.name) + 24) o s (omega (arith, len));
        table = good.table;
        fits = good.fits;
        own = own-array (live_of b) (handle o.extent) t.extent (AllByRecursion-front (InUse (live_of b)) array
            (text_blocks ps) held) (AllByRecursion-front (Beside (handle o.extent)) array (text_blocks ps) blocks.1.0);
        held = held-each (live_of b) ps good.owned
            (AllByRecursion-behind (InUse (live_of b)) array (text_blocks ps) held);
        apart = other-way (handle o.extent) (text_blocks ps)
            (AllByRecursion-behind (Beside (handle o.extent)) array (text_blocks ps) blocks.1.0);
        others = blocks.1.1;
      });
      bytes = bytes-each ps good.owned;
    }

-- so there are texts at the place
pub some-texts : (s : SegmentState) (key : Key) (p : Place) → IsSegment s.cut.bytes
    → AnswersWith s (λ d. container_at d key StringsKind) (Ok p) → IsTextsContainer s.cut.bytes p
some-texts s key p b a =
    let h : HoldsTexts s.cut.bytes b.0 key p = holds-texts s.cut.bytes b.0 key p b.1.denotes (a.answers b.0 b.1) in
    (h.texts, (h.table, h.stand))

-- ---- the effect on the object

-- the effect of a call on the vector: its texts, its array, and the part of the texts that is replaced
pub record IsTextsMove (old new : WindowState) (p : Place) (ps : List OwnedText) (t : BackingArray)
    (qs : List OwnedText) (u : BackingArray) : Type 0 where
  pub out : List OwnedText
  pub in_place : List OwnedText
  pub part : IsPartOther ps qs out in_place
  pub bytes : AllByRecursion HasBytes in_place
  pub gone : List Extent
  pub come : List Extent
  pub gone_is : gone ≡ option_to_list t.extent ++ text_blocks out
  pub come_is : come ≡ option_to_list u.extent ++ text_blocks in_place
  pub now : ReplacesTexts old new p gone come qs u

-- then the bytes denote the directory with the others
module _ {old new : WindowState} {d : Directory} {key : Key} {p : Place} (k : Denotes current old.bytes d)
    (h : HoldsTexts old.bytes d key p) {qs : List OwnedText} {u : BackingArray}
    (m : IsTextsMove old new p h.texts h.table qs u) where
  bytes-other : AllByRecursion HasBytes qs
  bytes-other =
      let front : List OwnedText = m.part.front in let back : List OwnedText = m.part.back in
      let all : AllByRecursion HasBytes (front ++ (m.out ++ back)) =
      subst (AllByRecursion HasBytes) m.part.was h.bytes in
      let behind : AllByRecursion HasBytes back =
      AllByRecursion-behind HasBytes m.out back (AllByRecursion-behind HasBytes front (m.out ++ back) all) in
      subst (AllByRecursion HasBytes) (sym m.part.is) (AllByRecursion-append HasBytes front (m.in_place ++ back)
      (AllByRecursion-front HasBytes front (m.out ++ back) all)
      (AllByRecursion-append HasBytes m.in_place back m.bytes behind))

  -- the bytes denote the directory with other strings
  pub texts-changed : Denotes current new.bytes (changed d h.object (Texts qs u))
  texts-changed =
      let o : Object = h.object in let w : Value = Texts qs u in
      let stands : IsObjectInBlock old.bytes (handle o.extent) o = standing old.bytes d key o k h.is in
      let found : IsIn d o = key-found current d key o k.directory h.is in
      let kind : kind_of w ≡ kind_of o.value = sym (ap kind_of h.value) in
      let len : value_len o.value ≡ 24 = ap value_len h.value in
      let good : IsTrue (is_object current (with_value o w)) =
      good-with current o w stands.good kind (sym len) (good-texts new.bytes p qs u m.now.texts bytes-other) in
      let at : place_at p ≡ value_start o = sym (ap place_at h.at) ∙ sym (start-place o) in
      denotes-container current old new d o w m.gone m.come k found (part-exchange o h.texts qs m.out m.in_place h.table
      u m.gone m.come h.value m.part m.gone_is m.come_is) kind (sym (ap count_of h.value)) len stands.good good
      (subst (λ n. ExchangesBlocks current old new n 24 m.gone m.come) at m.now.change)
      (subst (λ n. IsTextsAt (bytes_of new.bytes) n qs u) at m.now.texts.words)

-- A call on a vector of texts is one step: the contracts of seg_vector for the texts at its place give the next
-- directory.

-- ---- one directory

-- one more block, or none, at the end of a list
pub one-block : (xs : List Extent) (r : Option Extent) → xs ++ option_to_list r ≡ xs ++ (option_to_list r ++ [])
one-block xs r = ap (λ (ys : List Extent). xs ++ ys) (sym (append-nil (option_to_list r)))

-- the step takes place if a part of the texts is replaced
pub moved : {old new : WindowState} {p : Place} {ps qs out in_place : List OwnedText} {t u : BackingArray}
    {gone come : List Extent} → IsPartOther ps qs out in_place → AllByRecursion HasBytes in_place
    → gone ≡ option_to_list t.extent ++ text_blocks out → come ≡ option_to_list u.extent ++ text_blocks in_place
    → ReplacesTexts old new p gone come qs u → IsTextsMove old new p ps t qs u
moved part bytes e f now = record {
  out = _;
  in_place = _;
  part = part;
  bytes = bytes;
  gone = _;
  come = _;
  gone_is = e;
  come_is = f;
  now = now;
}

-- the array is another
pub in-array : {old new : WindowState} {p : Place} {ps : List OwnedText} {t u : BackingArray}
    → ReplacesTexts old new p (option_to_list t.extent) (option_to_list u.extent) ps u → IsTextsMove old new p ps t ps u
in-array {ps = ps} {t = t} {u = u} now = moved (part-none ps) tt (sym (append-nil (option_to_list t.extent)))
    (sym (append-nil (option_to_list u.extent))) now

-- they all are others
pub all-other : {old new : WindowState} {p : Place} {ps qs : List OwnedText} {t u : BackingArray} {come : List Extent}
    → AllByRecursion HasBytes qs → come ≡ option_to_list u.extent ++ text_blocks qs
    → ReplacesTexts old new p (option_to_list t.extent ++ text_blocks ps) come qs u → IsTextsMove old new p ps t qs u
all-other {ps = ps} {qs = qs} small e now = moved (part-all ps qs) small refl e now

-- one text is removed
pub left-out : {old new : WindowState} {p : Place} {i : ℕ} {ps : List OwnedText} {t : BackingArray}
    → (r : ErasesTextOk old new p ps t i) → IsTextsMove old new p ps t (remove ps i) t
left-out {i = i} {ps = ps} {t = t} r = moved (part-removed ps i r.before r.found) tt
    (one-block (option_to_list t.extent) r.before.extent) (sym (append-nil (option_to_list t.extent))) r.now

-- and the result of the command's plan
pub record TextsMove (old new : WindowState) (d : Directory) (key : Key) (p : Place) (h : HoldsTexts old.bytes d key p)
    (c : Command) (answer : Answer) : Type 0 where
  pub texts : List OwnedText
  pub table : BackingArray
  pub move : IsTextsMove old new p h.texts h.table texts table
  pub outcome : perform d (live_of old.bytes) (effect d c) ≡ (answer, changed d h.object (Texts texts table))

module _ (s : SegmentState) (key : Key) (p : Place) (b : IsSegment s.cut.bytes)
    (found : AnswersWith s (λ d. container_at d key StringsKind) (Ok p)) where
  abbrev Holds : Directory → Type 0
  Holds d = HoldsTexts s.cut.bytes d key p

  -- the strings of the object are the strings in the bytes
  abbrev pub texts_in : (d : Directory) → DenotesCurrent s.cut.bytes d → Holds d
  texts_in d l = holds-texts s.cut.bytes d key p l.denotes (found.answers d l)

  -- the result of the step of a call
  abbrev outcome-of : Command → Directory → Answer × Directory
  outcome-of c d = step_of_kind s.mode d key StringsKind c

  -- the command's plan, performed
  texts-plan : (d : Directory) (l : DenotesCurrent s.cut.bytes d) (c : Command) → IsOpenFor s.mode c
      → outcome-of c d ≡ perform d (live_of s.cut.bytes) (effect d c)
  texts-plan d l c may = step_of_kind-found s.mode d key StringsKind c (texts_in d l).object may (texts_in d l).is
      (ap (λ (v : Value). same_kind StringsKind (kind_of v)) (texts_in d l).value)
      ∙ ap (λ (m : LiveSet). perform d m (effect d c)) (sym (denotes-live current s.cut.bytes d l.denotes))

  -- the new bytes denote the directory with the other texts
  texts-move : (new : WindowState) (d : Directory) (l : DenotesCurrent s.cut.bytes d) (c : Command) (answer : Answer)
      → is_read_only s.mode ≡ false → TextsMove s.cut new d key p (texts_in d l) c answer
      → IsMove (record s { cut = new }) answer (outcome-of c d)
  texts-move new d l c answer writing r = record {
    after = changed d (texts_in d l).object (Texts r.texts r.table);
    is = texts-plan d l c (open-writing s.mode c writing) ∙ r.outcome;
    stands = record { denotes = texts-changed l.denotes (texts_in d l) r.move };
  }

  -- ---- all directories

  -- the call is the step
  pub texts-steps : (new : WindowState) (c : Command) (answer : Answer) → is_read_only s.mode ≡ false
      → ((d : Directory) (l : DenotesCurrent s.cut.bytes d) (h : Holds d) → TextsMove s.cut new d key p h c answer)
      → TakesStepOfKind s (record s { cut = new }) key StringsKind c answer
  texts-steps new c answer writing each = by_step_of_kind s (record s { cut = new }) key StringsKind c answer
      (record { mode = refl; place = (each b.0 b.1 (texts_in b.0 b.1)).move.now.change.place })
      (λ d l. texts-move new d l c answer writing (each d l (texts_in d l)))

  -- the same for a call that does not return the text that it removed
  pub texts-lead-on : (new : WindowState) (c : Command) (answer : (d : Directory) → DenotesCurrent s.cut.bytes d
      → Answer) → is_read_only s.mode ≡ false
      → ((d : Directory) (l : DenotesCurrent s.cut.bytes d) → refusal_of (answer d l) ≡ None)
      → ((d : Directory) (l : DenotesCurrent s.cut.bytes d) → TextsMove s.cut new d key p (texts_in d l) c (answer d l))
      → LeadsOnOfKind s (record s { cut = new }) key StringsKind c None
  texts-lead-on new c answer writing done each = record {
    stays = record { mode = refl; place = (each b.0 b.1).move.now.change.place };
    answers = λ d l. sym (ap (λ (r : Answer × Directory). refusal_of r.0) (moves d l).is ∙ done d l);
    denotes = λ d l. subst (DenotesCurrent new.bytes) (sym (ap (λ (r : Answer × Directory). r.1) (moves d l).is))
        (moves d l).stands;
  }
    where
      moves : (d : Directory) (l : DenotesCurrent s.cut.bytes d)
          → IsMove (record s { cut = new }) (answer d l) (outcome-of c d)
      moves d l = texts-move new d l c (answer d l) writing (each d l)

  -- the call has this answer, and nothing changes
  pub texts-stay : (c : Command) (answer : Answer) → IsOpenFor s.mode c → ((d : Directory) (h : Holds d)
      → perform d (live_of s.cut.bytes) (effect d c) ≡ (answer, d)) → TakesStepOfKind s s key StringsKind c answer
  texts-stay c answer may each =
      by_no_change_of_kind s key StringsKind c answer (λ d l. texts-plan d l c may ∙ each d (texts_in d l))

  -- the call has this answer, and all blocks are unchanged
  pub texts-restored : (new : WindowState) (c : Command) (answer : Answer) → IsOpenFor s.mode c
      → KeepsLiveSet current s.cut new
      → ((d : Directory) (h : Holds d) → perform d (live_of s.cut.bytes) (effect d c) ≡ (answer, d))
      → TakesStepOfKind s (record s { cut = new }) key StringsKind c answer
  texts-restored new c answer may back each = by_step_of_kind s (record s { cut = new }) key StringsKind c answer
      (record { mode = refl; place = back.keeps.place }) (λ d l. record {
        after = d;
        is = texts-plan d l c may ∙ each d (texts_in d l);
        stands = record {
          denotes = restored-denotes s.cut new d l.denotes (record { laid = back.laid; keeps = back.keeps });
        };
      })

-- ---- a call that can allocate several blocks

-- its step; it changes nothing if it fails before it allocates a block
pub record StepsKeeping (s : SegmentState) (new : WindowState) (key : Key) (c : Command)
    (r : Result (Unit {0}) Refusal) : Type 0 where
  pub step : TakesStepOfKind s (record s { cut = new }) key StringsKind c (done_answer r)
  pub refused : IfErr r (λ why. is_untouched (Refused why) ≡ true → new ≡ s.cut)

-- as the view before the call names the segment
pub record Kept (s t : SegmentState) (new : WindowState) (key : Key) (c : Command) (r : Result (Unit {0}) Refusal) :
    Type 0 where
  pub step : TakesStepOfKind t (record s { cut = new }) key StringsKind c (done_answer r)
  pub refused : IfErr r (λ why. is_untouched (Refused why) ≡ true → (record s { cut = new }) ≡ t)
  pub segment : IsSegment new.bytes

-- a call that changes nothing on a refusal is the step of the directory
pub kept : (s t : SegmentState) (view : s ≡ t) (b : IsSegment s.cut.bytes) (new : WindowState) (key : Key) (c : Command)
    (r : Result (Unit {0}) Refusal) → StepsKeeping s new key c r → Kept s t new key c r
kept s t view b new key c r done = record {
  step = subst (λ (u : SegmentState). TakesStepOfKind u (record s { cut = new }) key StringsKind c (done_answer r)) view
      done.step;
  refused = IfErr-weaker r (λ why. is_untouched (Refused why) ≡ true → new ≡ s.cut) (λ why. is_untouched (Refused why)
      ≡ true → (record s { cut = new }) ≡ t) (λ why same h. (λ i. record s { cut = same h i }) ∙ view) done.refused;
  segment = step_of_kind-segment s (record s { cut = new }) key StringsKind c (done_answer r) done.step b;
}

-- ---- a call that answers nothing

-- the call takes its step without the answer, changes nothing if it fails, and leaves a segment
pub record Led (s t : SegmentState) (new : WindowState) (key : Key) (c : Command) (r : Result (Unit {0}) Refusal)
    (why : Option Refusal) : Type 0 where
  pub step : LeadsOnOfKind t (record s { cut = new }) key StringsKind c why
  pub refused : OnErr r ((record s { cut = new }) ≡ t)
  pub segment : IsSegment new.bytes

-- a call with the directory's answer is its step
pub led : (s t : SegmentState) (view : s ≡ t) (b : IsSegment s.cut.bytes) (new : WindowState) (key : Key) (c : Command)
    (r : Result (Unit {0}) Refusal) (why : Option Refusal)
    → LeadsOnOfKind s (record s { cut = new }) key StringsKind c why → OnErr r (new ≡ s.cut) → Led s t new key c r why
led s t view b new key c r why step same = record {
  step = subst (λ (u : SegmentState). LeadsOnOfKind u (record s { cut = new }) key StringsKind c why) view step;
  refused = seen-refused s t view new r same;
  segment = ((step_of_kind s.mode b.0 key StringsKind c).1, step.denotes b.0 b.1);
}

-- a step also takes place without its answer, with the answer's error
pub step-leads-on : (old new : SegmentState) (key : Key) (c : Command) (answer : Answer)
    → TakesStepOfKind old new key StringsKind c answer → LeadsOnOfKind old new key StringsKind c (refusal_of answer)
step-leads-on old new key c answer r =
    record { stays = r.stays; answers = λ d l. ap refusal_of (r.answers d l); denotes = r.denotes }

-- if the key's object has the kind, the step for the kind is the command's
pub of_kind-leads_on : (old new : SegmentState) (key : Key) (kind : Kind) (c : Command) (why : Option Refusal)
    → AnswersWith old (λ d. kind_at d key) (Ok kind) → LeadsOnOfKind old new key kind c why
    → StepsWithoutAnswer old new c why
of_kind-leads_on old new key kind c why a r = record {
  stays = r.stays;
  answers = λ d l. r.answers d l ∙ ap (λ (n : Answer × Directory). refusal_of n.0)
      (of_kind-same old.mode d key kind c (kind-told d key kind (a.answers d l)));
  denotes = λ d l. subst (λ (n : Answer × Directory). DenotesCurrent new.cut.bytes n.1)
      (of_kind-same old.mode d key kind c (kind-told d key kind (a.answers d l))) (r.denotes d l);
}

-- Texts whose blocks are allocated one after another get the blocks of `place_all`, and keep their bytes.

-- a text without a block, and in one
abbrev pub unplaced : List ℕ → OwnedText
unplaced bs = record { bytes = bs; extent = None }

-- a string in the block of an extent
abbrev pub in_block : List ℕ → Extent → OwnedText
in_block bs x = record { bytes = bs; extent = Some x }

-- an empty text takes no block
owned-empty : (bs : List ℕ) (bss : List (List ℕ)) (xs : List Extent) → (length bs == 0) ≡ true
    → owned_texts (bs ∷ bss) xs ≡ unplaced bs ∷ owned_texts bss xs
owned-empty bs bss [] e = refl
owned-empty bs bss (x ∷ xs) e =
    cond-true (length bs == 0) (unplaced bs ∷ owned_texts bss (x ∷ xs)) (in_block bs x ∷ owned_texts bss xs) e

empty-blocks : (d : Directory) (l : LiveSet) (bs : List ℕ) (bss : List (List ℕ)) (next : List OwnedText → Plan)
    (o : Option (List Extent)) → (length bs == 0) ≡ true
    → with_blocks d l bss (λ ps. next (unplaced bs ∷ ps)) o ≡ with_blocks d l (bs ∷ bss) next o
empty-blocks d l bs bss next None e = refl
empty-blocks d l bs bss next (Some xs) e =
    ap (λ ps. perform d (all_added l xs) (next ps)) (sym (owned-empty bs bss xs e))

-- any other takes the first
first-block : (d : Directory) (l : LiveSet) (x : Extent) (bs : List ℕ) (bss : List (List ℕ)) (next : List OwnedText
    → Plan) (o : Option (List Extent)) → (length bs == 0) ≡ false → with_blocks d (added l x) bss
    (λ ps. next (in_block bs x ∷ ps)) o ≡ with_blocks d l (bs ∷ bss) next (option_map (λ xs. x ∷ xs) o)
first-block d l x bs bss next None e = refl
first-block d l x bs bss next (Some xs) e = ap (λ ps. perform d (all_added (added l x) xs) (next ps))
    (sym (cond-false (length bs == 0) (unplaced bs ∷ owned_texts bss (x ∷ xs)) (in_block bs x ∷ owned_texts bss xs) e))

-- the result of one allocation
abbrev requested : Directory → LiveSet → (Extent → Plan) → Option Extent → Answer × Directory
requested d l next o = elim o [ None ↦ (Refused NoSpace, d) | Some x ↦ perform d (resized l x) (next x) ]

abbrev placed_then : LiveSet → List (ℕ × Role) → Option Extent → Option (List Extent)
placed_then l needs o = elim o [ None ↦ None | Some x ↦ option_map (λ xs. x ∷ xs) (place_all (added l x) needs) ]

abbrev Placed : Directory → List (List ℕ) → Type 0
Placed d bss = (l : LiveSet) (next : List OwnedText → Plan) → IsTrue (is_proper l)
    → perform d l (with_owned_texts bss next) ≡ with_blocks d l bss next (place_all l (text_needs bss))

request-placed : (d : Directory) (l : LiveSet) (bs : List ℕ) (bss : List (List ℕ)) (next : List OwnedText → Plan)
    (o : Option Extent) → Placed d bss → IsTrue (is_proper l) → (length bs == 0) ≡ false
    → place l (length bs) Storage ≡ o → requested d l (λ x. with_owned_texts bss (λ ps. next (in_block bs x ∷ ps)))
    o ≡ with_blocks d l (bs ∷ bss) next (placed_then l (text_needs bss) o)
request-placed d l bs bss next None more p e f = refl
request-placed d l bs bss next (Some x) more p e f =
    let q = placed_is_proper l (length bs) Storage x p f in
    ap (λ k. perform d k (with_owned_texts bss (λ ps. next (in_block bs x ∷ ps)))) (resized-fresh l x (rising-insert 128
    x l.extents (live-rises (added l x) q)).differs) ∙ more (added l x) (λ ps. next (in_block bs x ∷ ps)) q
    ∙ first-block d l x bs bss next (place_all (added l x) (text_needs bss)) e

-- one more text
one-more : (d : Directory) (l : LiveSet) (bs : List ℕ) (bss : List (List ℕ)) (next : List OwnedText → Plan) (b : Bool)
    → Placed d bss → IsTrue (is_proper l) → (length bs == 0) ≡ b → perform d l (with_owned_texts (bs ∷ bss) next)
    ≡ with_blocks d l (bs ∷ bss) next (place_all l (text_needs (bs ∷ bss)))
one-more d l bs bss next true more p e =
    let after : OwnedText → Plan = λ p. with_owned_texts bss (λ ps. next (p ∷ ps)) in
    ap (perform d l) (cond-true (length bs == 0) (after (unplaced bs)) (Request (New Storage (length bs))
    (λ x. after (in_block bs x))) e) ∙ more l (λ ps. next (unplaced bs ∷ ps)) p ∙ empty-blocks d l bs bss next
    (place_all l (text_needs bss)) e ∙ ap (λ needs. with_blocks d l (bs ∷ bss) next (place_all l needs))
    (sym (cond-true (length bs == 0) (text_needs bss) ((length bs, Storage) ∷ text_needs bss) e))
one-more d l bs bss next false more p e =
    let after : OwnedText → Plan = λ p. with_owned_texts bss (λ ps. next (p ∷ ps)) in
    ap (perform d l) (cond-false (length bs == 0) (after (unplaced bs)) (Request (New Storage (length bs))
    (λ x. after (in_block bs x))) e) ∙ request-placed d l bs bss next (place l (length bs) Storage) more p e refl
    ∙ ap (λ needs. with_blocks d l (bs ∷ bss) next (place_all l needs)) (sym (cond-false (length bs == 0)
    (text_needs bss) ((length bs, Storage) ∷ text_needs bss) e))

all-placed : (d : Directory) (bss : List (List ℕ)) → Placed d bss
all-placed d [] l next p = refl
all-placed d (bs ∷ bss) l next p = one-more d l bs bss next (length bs == 0) (all-placed d bss) p refl

-- the law
pub texts_are_placed : TextsArePlaced
texts_are_placed d l bss next p = all-placed d bss l next p

-- ---- the bytes of placed texts

text_bytes-if : (bs : List ℕ) (q : OwnedText) (b : Bool) (r : Option Extent)
    → (if b then Some (unplaced bs) else option_map (in_block bs) r) ≡ Some q → bs ≡ q.bytes
text_bytes-if bs q true r e = ap (λ (p : OwnedText). p.bytes) (same_Some (unplaced bs) q e)
text_bytes-if bs q false None e = absurd (cc)
text_bytes-if bs q false (Some x) e = ap (λ (p : OwnedText). p.bytes) (same_Some (in_block bs x) q e)

-- a text that takes a block has its bytes
pub text-bytes : (l : LiveSet) (bs : List ℕ) (q : OwnedText) → IsTrue (are_bytes bs) → placed_text l bs ≡ Some q
    → HasBytes q
text-bytes l bs q h e = subst (λ (cs : List ℕ). IsTrue (are_bytes cs))
    (text_bytes-if bs q (length bs == 0) (place l (length bs) Storage) e) h

texts_bytes-if : (l : LiveSet) (bs : List ℕ) (bss : List (List ℕ)) (qs : List OwnedText) (r : Option OwnedText)
    → placed_text l bs ≡ r → IsTrue (are_bytes bs) → ((m : LiveSet) (ps : List OwnedText) → placed_texts m bss ≡ Some ps
    → AllByRecursion HasBytes ps) → elim r as (λ _. Option (List OwnedText))
    [ None ↦ None | Some q ↦ option_map (λ ps. q ∷ ps) (placed_texts (with_text l q) bss) ] ≡ Some qs
    → AllByRecursion HasBytes qs
texts_bytes-if l bs bss qs None f h more e = absurd (cc)
texts_bytes-if l bs bss qs (Some q) f h more e = behind (placed_texts (with_text l q) bss) refl e
  where
    behind : (r : Option (List OwnedText)) → placed_texts (with_text l q) bss ≡ r
        → option_map (λ ps. q ∷ ps) r ≡ Some qs → AllByRecursion HasBytes qs
    behind None g e = absurd (cc)
    behind (Some ps) g e =
        subst (AllByRecursion HasBytes) (same_Some (q ∷ ps) qs e) (text-bytes l bs q h f, more (with_text l q) ps g)

-- the same for several texts
pub texts-bytes : (l : LiveSet) (bss : List (List ℕ)) (qs : List OwnedText) → IsTrue (list_all are_bytes bss)
    → placed_texts l bss ≡ Some qs → AllByRecursion HasBytes qs
texts-bytes l [] qs h e = subst (AllByRecursion HasBytes) (same_Some [] qs e) tt
texts-bytes l (bs ∷ bss) qs h e = texts_bytes-if l bs bss qs (placed_text l bs) refl (first (are_bytes bs)
    (list_all are_bytes bss) h) (λ m ps g. texts-bytes m bss ps (second (are_bytes bs) (list_all are_bytes bss) h) g) e
