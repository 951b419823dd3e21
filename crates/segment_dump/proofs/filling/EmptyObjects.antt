-- An object with nothing in it is ready to be filled, and is filled element by element.
use Rattle.seg_types.specs.declared.kinds.Kind.TheVariants as kinds
use Rattle.seg_types.specs.Commands as asked
use Rattle.segment_dump.proofs.Common.{◌≡◌, ℕ, ◌+◌, ◌*◌, ◌<◌, ◌≤◌, pos, List, [], ◌++◌, length, replicate, Result, Ok}
use Rattle.segment_dump.proofs.Common.{Err, refl, sym, ap, subst, ◌∙◌, arith, zero-add, flat_map, no_backing, Kind}
use Rattle.segment_dump.proofs.Common.{ScalarKind, Refusal, size_of, ByHandle, Done, Elements, Numbers, Pairs, Texts}
use Rattle.segment_dump.proofs.Common.{Value, bare, TakesStep, SegmentState, done_answer, AddsElement, FillsNew}
use Rattle.segment_dump.proofs.Common.{IsEmptyObject, IsFillable, IsVectorKind, content_need, first_content, IsFilling}
use Rattle.segment_dump.proofs.Common.{FillState, FillsAt, IsPartialValue, StandsFilling, head_of, ValueContent, Map}
use Rattle.segment_dump.proofs.Common.{Scalars, String, Strings, Vector, count_of_content, kind_of_content, all_needs}
use Rattle.segment_dump.proofs.Common.{block_room, text_needs, content_text, BackingArray}
use Rattle.seg_types.specs.declared.kinds.ScalarKind.TheVariants.{Bool as BoolKind}
use Rattle.segment_manager.specs.Step.{with_table}
use Rattle.segment_dump.specs.{Builders.FillsElements, Filling.map_course, Filling.strings_course}
use Rattle.segment_dump.specs.Filling.{vector_course, FillCourse, HasFirstElements, HasReservedSlots, array_course}
use Rattle.segment_dump.proofs.{filling.Addition.string-of, filling.Addition.was-done, space.OneGap.IsRest}
use Rattle.segment_dump.proofs.{space.OneGap.rest-both}
use Rattle.segment_dump.proofs.filling.OneElement.{filled, led, stands-filling, texts-rest}
use Rattle.segment_dump.proofs.filling.FillSteps.{HasTable, IsStored, none, reserved, some, table_of, texts-stored}
use Rattle.segment_dump.proofs.filling.FillSteps.{vector-stored}

-- ---- one element after another

-- the elements filled so far, and the text that is left
pub record InElements (old now : SegmentState) (h : ℕ) (kind : Kind) (text rest : List ℕ) (room counter : ℕ) : Type
    0 where
  pub at : (p : FillState) → IsFillable p kind room → FillsAt old text p h 0 → counter ≤ count_of_content p.content
      → FillsAt now rest p h counter

-- before the first element the whole text is left
pub elements-start : (s : SegmentState) (h : ℕ) (kind : Kind) (text : List ℕ) (room : ℕ)
    → InElements s s h kind text text room 0
elements-start s h kind text room = record { at = λ p f a l. a }

-- one element more is filled
pub elements-more : {E : Type 0} (old now new : SegmentState) (h : ℕ) (kind : Kind) (text rest rest' : List ℕ)
    (room counter : ℕ) (u : Unit {0}) → InElements old now h kind text rest room counter
    → AddsElement {E = E} now new h kind counter rest rest' room (Ok u)
    → InElements old new h kind text rest' room (counter + 1)
elements-more old now new h kind text rest rest' room counter u i a =
    record { at = λ p f s l. (a.adds p f (omega (arith, l)) (i.at p f s (omega (arith, l)))).1 }

-- an element that was not filled: the filling fails
pub elements-cut : {E F : Type 0} (old now new last : SegmentState) (h : ℕ) (kind : Kind) (count : ℕ)
    (text rest rest' final : List ℕ) (room counter : ℕ) (e : E) (result : Result (Unit {0}) F) → counter < count
    → InElements old now h kind text rest room counter → AddsElement now new h kind counter rest rest' room (Err e)
    → FillsElements old last h kind count text final room result
elements-cut old now new last h kind count text rest rest' final room counter e result l i a = record {
  fills = λ p f c s.
      let never : Err e ≡ Ok tt = (a.adds p f (omega (arith, l, c)) (i.at p f s (omega (arith, l, c)))).0 in
      absurd (cc);
}

-- all elements are filled
pub elements-end : {F : Type 0} (old now : SegmentState) (h : ℕ) (kind : Kind) (count : ℕ) (text rest : List ℕ)
    (room counter : ℕ) → counter ≡ count → InElements old now h kind text rest room counter
    → FillsElements {E = F} old now h kind count text rest room (Ok tt)
elements-end old now h kind count text rest room counter e i = record {
  fills = λ p f c s. (refl, filled now rest p h counter (omega (arith, e, c)) (i.at p f s (omega (arith, e, c))));
}

-- ---- without places to reserve

-- nothing is there yet
first-part : {X Y : Type 0} (way : FillCourse X Y) (all : List Y) (v : Value) (need : ℕ) → way.items [] ≡ []
    → v ≡ way.value [] all → need ≡ way.need all → HasFirstElements way all 0 v (flat_map way.line all) need
first-part way all v need i e f = record {
  prefix = [];
  back = all;
  all_are = ap (λ l. l ++ all) (sym i);
  many = refl;
  value_is = e;
  text_is = refl;
  need_is = f;
}

at-prefix : (s : SegmentState) (text : List ℕ) (p : FillState) (h : ℕ) (c : ValueContent) → c ≡ p.content → (v : Value)
    (need : ℕ) → IsPartialValue c 0 v (content_text c) need
    → StandsFilling s p.site p.done (head_of p h) v (need + p.more) → text ≡ content_text c ++ p.after
    → FillsAt s text p h 0
at-prefix s text p h c e v need part st t = record {
  value = v;
  left = content_text c;
  need = need;
  part = subst (λ (b : ValueContent). IsPartialValue b 0 v (content_text c) need) e part;
  stands = st;
  text_is = t;
}

begun-by : (c : ValueContent) (p : FillState) (kind : Kind) → c ≡ p.content → kind_of_content c ≡ kind
    → (kind ≡ kinds.String → ⊥) → (IsVectorKind kind → ⊥) → (s : SegmentState) (text : List ℕ) (h : ℕ)
    → StandsFilling s p.site p.done (head_of p h) (bare (first_content (kind_of_content c) (count_of_content c)))
    (content_need c + p.more) → text ≡ content_text c ++ p.after → FillsAt s text p h 0
begun-by (Scalars k zs) p kind e q n v s text h st t =
    at-prefix s text p h (Scalars k zs) e (Numbers k (replicate (length zs) (pos 0))) _
    (first-part (array_course k) zs (Numbers k (replicate (length zs) (pos 0))) (content_need (Scalars k zs)) refl refl
    refl) st t
begun-by (Vector k zs) p kind e q n v s text h st t = absurd (v (subst IsVectorKind q tt))
begun-by (String bs) p kind e q n v s text h st t = absurd (n (sym q))
begun-by (Map k w ps) p kind e q n v s text h st t = at-prefix s text p h (Map k w ps) e (Pairs k w []) _
    (first-part (map_course k w) ps (Pairs k w []) (content_need (Map k w ps)) refl refl (omega arith)) st t
begun-by (Strings ts) p kind e q n v s text h st t = absurd (v (subst IsVectorKind q tt))

-- an object without storage is filled element by element
pub fills-plain : {E : Type 0} (old new : SegmentState) (h : ℕ) (kind : Kind) (count : ℕ) (text rest : List ℕ)
    (room : ℕ) (result : Result (Unit {0}) E) → (kind ≡ kinds.String → ⊥) → (IsVectorKind kind → ⊥)
    → FillsElements old new h kind count text rest room result → FillsNew old new h kind count text rest room result
fills-plain old new h kind count text rest room result n v f = record {
  fills = λ p g c b. f.fills p g c (begun-by p.content p kind refl g.kind_is n v old text h b.stands b.text_is);
}

-- ---- with places

size-long : (k : ScalarKind) → 0 < size_of k
size-long BoolKind = omega arith
size-long k = omega arith

with-slots : {X Y : Type 0} (way : BackingArray → FillCourse X Y) (first : Value) (all : List Y) (text : List ℕ)
    (need : ℕ) → ((t : BackingArray) → HasFirstElements (way t) all 0 (with_table first t) text need) → (w : Value)
    → HasTable first (length all) w → HasReservedSlots way all 0 w text need
with-slots way first all text need part w (none e) =
    record { table = no_backing; slots = sym e; part = part no_backing }
with-slots way first all text need part w (some x) =
    let t = table_of (length all) x in record { table = t; slots = refl; part = part t }

reserved-for : (c : ValueContent) (p : FillState) → c ≡ p.content → (first : Value) (each n more : ℕ)
    → IsStored first each → 0 < each → content_need c + p.more ≡ block_room (each * n) + (more + p.more)
    → IsRest (more + p.more) → ((w : Value) → HasTable first n w → IsPartialValue c 0 w (content_text c) more)
    → (s new : SegmentState) (text : List ℕ) (h : ℕ) (called : Result (Unit {0}) Refusal)
    → StandsFilling s p.site p.done (head_of p h) first (content_need c + p.more) → text ≡ content_text c ++ p.after
    → TakesStep s new (asked.Reserve (ByHandle h) n) (done_answer called)
    → (done_answer called ≡ Done) × FillsAt new text p h 0
reserved-for c p e first each n more stored long needs rest part s new text h called st t moved =
    let f = subst (IsFilling st.directory p.site p.done (head_of p h) first) needs st.filling in
    let done = reserved st.directory p.site p.done (head_of p h) first each n (more + p.more)
    st.stands.denotes.directory stored long f rest in
    let u = led st.stands st.mode _ moved done in (
      u.given_is,
      at-prefix new text p h c e u.holds.value more (part u.holds.value u.holds.table)
          (stands-filling u.stands u.mode u.holds.filling) t,
    )

reserved-by : (c : ValueContent) (p : FillState) (kind : Kind) → c ≡ p.content → kind_of_content c ≡ kind
    → IsVectorKind kind → IsRest p.more
    → (s new : SegmentState) (text : List ℕ) (h : ℕ) (called : Result (Unit {0}) Refusal)
    → StandsFilling s p.site p.done (head_of p h) (bare (first_content (kind_of_content c) (count_of_content c)))
    (content_need c + p.more) → text ≡ content_text c ++ p.after
    → TakesStep s new (asked.Reserve (ByHandle h) (count_of_content c)) (done_answer called)
    → (done_answer called ≡ Done) × FillsAt new text p h 0
reserved-by (Vector k zs) p kind e q v r s new text h called st t moved =
    reserved-for (Vector k zs) p e (Elements k [] no_backing) (size_of k) (length zs) 0 (vector-stored k) (size-long k)
    (omega arith) (subst IsRest (sym (zero-add p.more)) r)
    (with-slots (vector_course k) (Elements k [] no_backing) zs (content_text (Vector k zs)) 0
    (λ t. first-part (vector_course k t) zs (Elements k [] t) 0 refl refl refl)) s new text h called st t moved
reserved-by (Strings ts) p kind e q v r s new text h called st t moved =
    let texts : ℕ = (all_needs text_needs ts).room in
    reserved-for (Strings ts) p e (Texts [] no_backing) 16 (length ts) texts texts-stored (omega arith) (omega arith)
    (rest-both texts p.more (texts-rest ts) r)
    (with-slots strings_course (Texts [] no_backing) ts (content_text (Strings ts)) texts
    (λ t. first-part (strings_course t) ts (Texts [] t) texts refl refl refl)) s new text h called st t moved
reserved-by (Scalars k zs) p kind e q v r s new text h called st t moved = absurd (subst IsVectorKind (sym q) v)
reserved-by (String bs) p kind e q v r s new text h called st t moved = absurd (subst IsVectorKind (sym q) v)
reserved-by (Map k w ps) p kind e q v r s new text h called st t moved = absurd (subst IsVectorKind (sym q) v)

module _ (old mid : SegmentState) (h : ℕ) (kind : Kind) (count : ℕ) (text : List ℕ) (room : ℕ)
    (called : Result (Unit {0}) Refusal) (v : IsVectorKind kind)
    (moved : TakesStep old mid (asked.Reserve (ByHandle h) count) (done_answer called)) where
  reserved-at : (p : FillState) → IsFillable p kind room → count ≡ count_of_content p.content
      → IsEmptyObject old text p h → (done_answer called ≡ Done) × FillsAt mid text p h 0
  reserved-at p g c b =
      reserved-by p.content p kind refl g.kind_is v g.rest old mid text h called b.stands b.text_is
      (subst (λ n. TakesStep old mid (asked.Reserve (ByHandle h) n) (done_answer called)) c moved)

module _ {E : Type 0} (old mid : SegmentState) (h : ℕ) (kind : Kind) (count : ℕ) (text : List ℕ) (room : ℕ)
    (called : Result (Unit {0}) Refusal) (v : IsVectorKind kind)
    (moved : TakesStep old mid (asked.Reserve (ByHandle h) count) (done_answer called)) where
  -- an object with reserved storage is filled element by element
  pub fills-reserved : (new : SegmentState) (rest : List ℕ) (result : Result (Unit {0}) E)
      → FillsElements mid new h kind count text rest room result → FillsNew old new h kind count text rest room result
  fills-reserved new rest result f =
      record { fills = λ p g c b. f.fills p g c (reserved-at old mid h kind count text room called v moved p g c b).1 }

  -- no storage: the filling fails
  pub fills-refused : (new : SegmentState) (rest : List ℕ) (why : Refusal) (result : Result (Unit {0}) E)
      → called ≡ Err why → FillsNew old new h kind count text rest room result
  fills-refused new rest why result e =
      record {
        fills = λ p g c b. let ok : called ≡ Ok tt =
            was-done called (reserved-at old mid h kind count text room called v moved p g c b).0 in absurd (cc);
      }

-- a string has no elements to add
pub no-element : {E : Type 0} (old new : SegmentState) (h : ℕ) (kind : Kind) (n : ℕ) (text rest : List ℕ) (room : ℕ)
    (result : Result (Unit {0}) E) → kind ≡ kinds.String → AddsElement old new h kind n text rest room result
no-element old new h kind n text rest room result e = record {
  adds = λ p f l a. let q = string-of p.content (f.kind_is ∙ e)
      in absurd (subst (λ (c : ValueContent). IsPartialValue c n a.value a.left a.need) q.1 a.part);
}

-- an addition with as much room is the same
pub as-room : {E : Type 0} (old new : SegmentState) (h : ℕ) (kind : Kind) (n : ℕ) (text rest : List ℕ)
    (room room' : ℕ) (result : Result (Unit {0}) E) → room ≡ room'
    → AddsElement old new h kind n text rest room result → AddsElement old new h kind n text rest room' result
as-room {E} old new h kind n text rest room room' result e a =
    subst (λ m. AddsElement {E = E} old new h kind n text rest m result) e a

-- ---- by kind

-- a string is filled piece by piece
pub fills-text : {E : Type 0} (old new : SegmentState) (h : ℕ) (kind : Kind) (count : ℕ) (text rest : List ℕ)
    (room : ℕ) (result : Result (Unit {0}) E) → kind ≡ kinds.String
    → FillsNew old new h kinds.String 1 text rest room result → FillsNew old new h kind count text rest room result
fills-text old new h kind count text rest room result e f = record {
  fills = λ p g c b.
      let q = string-of p.content (g.kind_is ∙ e) in
      f.fills p (record { kind_is = g.kind_is ∙ e; good = g.good; rest = g.rest; longest = g.longest })
      (sym (ap count_of_content q.1)) b;
}

-- an object that is no vector reserves nothing
pub not-vector : (kind : Kind) → ((k : ScalarKind) → kind ≡ kinds.Vector k → ⊥) → (kind ≡ kinds.Strings → ⊥)
    → IsVectorKind kind → ⊥
not-vector (kinds.Vector k) n m v = n k refl
not-vector kinds.Strings n m v = m refl
not-vector kind n m v = v
