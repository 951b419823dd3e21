-- The contracts of seg_vector on a text at its place, as steps of the calls on the object's string.
use Rattle.segment_manager.proofs.Common as common
use Rattle.std.proofs.Common.{Fits, w8}
use Rattle.raw_region.proofs.{Bytes.fits-are_bytes, Facts.first, Facts.second}
use Rattle.best_fit.specs.Heap.{KeepsGaps}
use Rattle.seg_types.specs.Commands.{Append, Assign}
use Rattle.seg_vector.proofs.Laws.{same-extents}
use Rattle.seg_vector.specs.TextCalls.{AppendsText, AssignsText, GrowsTextOk, ReadsText, ReplacesText, SetsByte}
use Rattle.segment_manager.proofs.{containers.ToChange.seen-found, objects.Stored.literal-read}
use Rattle.segment_manager.proofs.containers.ContentPlans.{append-plan, set_byte-plan, text-plan}
use Rattle.segment_manager.proofs.containers.ItemSteps.{HoldsItems, ListedGrown, ListedNow, Listing, changes-safely}
use Rattle.segment_manager.proofs.containers.ItemSteps.{grows-safely, holds-items, one-kind, so-too, some-items}
use Rattle.segment_manager.proofs.containers.Safely.{Answered, answered, kept-gaps, same-live}
use Rattle.segment_manager.specs.containers.{Contents.text_bytes, ToChange.IsChangeableContainer}
use common.{AnswersWith, BackingArray, Bytes, Command, Done, Err, IsSegment, IsSomeText, IsTrue, Key, List, None}
use common.{NotFound, Object, Ok, Option, Place, Quoted, Refusal, Reply, Result, SegmentState, Set, Some, StepsSafely}
use common.{String, U8, Value, WindowState, [], and_from, ap, are_bytes, arith, bytes_at, capacity_for_text, changed}
use common.{container_at, done_answer, false, get_or, is_read_only, is_value, kind_of, le-leb, length, literal_of}
use common.{live_of, map, nat_abs, nat_le, nat_lt, option_map, pos, refl, slice_get, slice_get-get_or, slice_get-map}
use common.{slice_get_past, slice_set, subst, suc, sym, true, zero, ℕ, ◌++◌, ◌<◌, ◌∙◌, ◌∷◌, ◌≡◌}

-- ---- bytes

-- the elements of a slice of type `u8` are bytes
pub fits-bytes : (bs : List ℕ) → ((k : ℕ) → Fits w8 (get_or bs k 0)) → IsTrue (are_bytes bs)
fits-bytes bs h = fits-are_bytes bs (λ k. omega (arith, h k))

are_bytes-append : (bs cs : List ℕ) → IsTrue (are_bytes bs) → IsTrue (are_bytes cs) → IsTrue (are_bytes (bs ++ cs))
are_bytes-append [] cs h g = g
are_bytes-append (b ∷ bs) cs h g = and_from (nat_lt b 256) (are_bytes (bs ++ cs))
    (first (nat_lt b 256) (are_bytes bs) h) (are_bytes-append bs cs (second (nat_lt b 256) (are_bytes bs) h) g)

are_bytes-set : (bs : List ℕ) (i x : ℕ) → IsTrue (are_bytes bs) → IsTrue (nat_lt x 256)
    → IsTrue (are_bytes (slice_set bs i x))
are_bytes-set [] i x h g = refl
are_bytes-set (b ∷ bs) zero x h g = and_from (nat_lt x 256) (are_bytes bs) g (second (nat_lt b 256) (are_bytes bs) h)
are_bytes-set (b ∷ bs) (suc i) x h g = and_from (nat_lt b 256) (are_bytes (slice_set bs i x))
    (first (nat_lt b 256) (are_bytes bs) h) (are_bytes-set bs i x (second (nat_lt b 256) (are_bytes bs) h) g)

-- a byte is a value of the kind `u8`
pub byte-value : (x : ℕ) → x < 256 → is_value U8 (pos x) ≡ true
byte-value x h = and_from (nat_le 0 x) (nat_le x 255) (le-leb 0 x (omega arith)) (le-leb x 255 (omega arith))

-- the numbers of bytes, with one byte replaced
bytes-set : (bs : List ℕ) (i x : ℕ) → map nat_abs (slice_set (map pos bs) i (pos x)) ≡ slice_set bs i x
bytes-set [] i x = refl
bytes-set (b ∷ bs) zero x = ap (λ ys. x ∷ ys) (bytes-back bs)
  where
    bytes-back : (bs : List ℕ) → map nat_abs (map pos bs) ≡ bs
    bytes-back [] = refl
    bytes-back (b ∷ bs) = ap (λ ys. b ∷ ys) (bytes-back bs)
bytes-set (b ∷ bs) (suc i) x = ap (λ ys. b ∷ ys) (bytes-set bs i x)

byte-got : (bs : List ℕ) (i : ℕ) (r : Option ℕ) → slice_get bs i ≡ r → slice_get (map pos bs) i ≡ option_map pos r
byte-got bs i r e = slice_get-map pos bs i ∙ ap (option_map pos) e

-- ---- texts

pub text-if : (v : Value) → String ≡ kind_of v → (bs : List ℕ) × ((t : BackingArray) × (v ≡ Bytes bs t))
text-if (Bytes bs t) e = (bs, (t, refl))
text-if v e = absurd (cc)

abbrev pub texts : Listing ℕ
texts = record {
  kind = String;
  each = 1;
  spell = λ bs. bs;
  good = are_bytes;
  value = λ bs t. Bytes bs t;
  only = λ v e g. text-if v (one-kind String (kind_of v) e);
  of_kind = λ bs t. refl;
  held = λ bs t. refl;
  values = λ bs t. refl;
}

-- a text after a change, with elements that are bytes
bytes-now : {old new : WindowState} {p : Place} {t u : BackingArray} {bs : List ℕ}
    → IsTrue (are_bytes bs) → ReplacesText old new p t bs u → ListedNow texts old new p t bs u
bytes-now small r = record { change = r.change; stands = r.text; values = small }

bytes-grown : {old new : WindowState} {p : Place} {t : BackingArray} {n : ℕ} {bs : List ℕ} → IsTrue (are_bytes bs)
    → GrowsTextOk old new p t n bs → ListedGrown texts old new p t n bs
bytes-grown small r = record { table = r.table; grown = r.grown; now = bytes-now small r.now }

-- ---- the calls

-- the call returns the bytes of the key's text
pub reads-bytes : (s : SegmentState) (key : Key) (p : Place) (out : List ℕ)
    → AnswersWith s (λ d. container_at d key String) (Ok p)
    → ReadsText s.cut.bytes p out → AnswersWith s (λ d. bytes_at d key) (Ok out)
reads-bytes s key p out found reads = record {
  answers = λ d l.
      let h : HoldsItems texts s.cut.bytes d key p =
      holds-items texts s.cut.bytes d key p l.denotes (found.answers d l) in
      ap Ok (reads h.items h.table h.stands) ∙ sym (ap text_bytes h.value) ∙ sym (ap
      (λ (r : Option Object). elim r as (λ _. Result (List ℕ) Refusal)
      [ None ↦ Err NotFound | Some o ↦ text_bytes o.value ]) h.is);
}

-- for a segment that is the same as the one before the call
module _ {s t : SegmentState} (view : s ≡ t) (key : Key) (p : Place) (b : IsSegment s.cut.bytes)
    (there : AnswersWith t (λ d. container_at d key String) (Ok p)) where
  there-too : AnswersWith s (λ d. container_at d key String) (Ok p)
  there-too = seen-found s t view key String p there

  abbrev some : HoldsItems texts s.cut.bytes b.0 key p
  some = some-items texts s key p b there-too

  -- there is a text at the place
  pub text-standing : IsSomeText s.cut.bytes p
  text-standing = (some.items, (some.table, some.stands))

-- for a segment that is open for writing
module _ {s t : SegmentState} (view : s ≡ t) (b : IsSegment s.cut.bytes) {key : Key} {p : Place}
    (to : IsChangeableContainer t key String p) (new : WindowState) where
  found : AnswersWith s (λ d. container_at d key String) (Ok p)
  found = seen-found s t view key String p to.at

  writing : is_read_only s.mode ≡ false
  writing = subst (λ (u : SegmentState). is_read_only u.mode ≡ false) (sym view) to.writing

  seen : {c : Command} {r : Result (Unit {0}) Refusal} → StepsSafely s new key String c r
      → Answered done_answer s t new key String c r
  seen done = answered s t view b new key String _ _ done

  -- ---- the gaps

  here-texts : HoldsItems texts s.cut.bytes b.0 key p
  here-texts = some-items texts s key p b found

  grown-gaps : {n : ℕ} {ys : List ℕ} → GrowsTextOk s.cut new p here-texts.table n ys
      → live_of new.bytes ≡ live_of s.cut.bytes → KeepsGaps s.cut new
  grown-gaps g e = g.now.gaps (same-extents p.handle here-texts.table.extent g.table.extent here-texts.stands.heap
      here-texts.stands.own g.now.change e)

  -- setting a byte leaves the gaps
  pub set_byte-gaps : (i x : ℕ) (r : Result (Unit {0}) Refusal) → SetsByte s.cut new p i x r → KeepsGaps t.cut new
  set_byte-gaps i x r a = kept-gaps view r (a here-texts.items here-texts.table here-texts.stands)
      (λ u m. m.1.gaps refl) (λ e m. m.same)

  -- appending bytes in place leaves the gaps
  pub append-gaps : (more : List ℕ) (r : Result (Unit {0}) Refusal) → AppendsText s.cut new p more r
      → live_of new.bytes ≡ live_of t.cut.bytes → KeepsGaps t.cut new
  append-gaps more r a e = kept-gaps view r (a here-texts.items here-texts.table here-texts.stands)
      (λ u g. grown-gaps g (same-live view new e)) (λ e m. m.same)

  -- assigning bytes in place leaves the gaps
  pub assign_text-gaps : (more : List ℕ) (r : Result (Unit {0}) Refusal) → AssignsText s.cut new p more r
      → live_of new.bytes ≡ live_of t.cut.bytes → KeepsGaps t.cut new
  assign_text-gaps more r a e = kept-gaps view r (a here-texts.items here-texts.table here-texts.stands)
      (λ u g. grown-gaps g (same-live view new e)) (λ e m. m.same)

  -- ---- the steps

  -- appended bytes are the step of the directory
  pub text-appended : (more : List ℕ) (r : Result (Unit {0}) Refusal) → ((k : ℕ) → Fits w8 (get_or more k 0))
      → AppendsText s.cut new p more r → Answered done_answer s t new key String (Append key more) r
  text-appended more r small a = seen (grows-safely texts s key p b found new writing (Append key more)
      (λ bs t. capacity_for_text (length (bs ++ more)) t.capacity) (λ bs. bs ++ more) r (λ d h. append-plan d key
      h.object h.items h.table h.is h.value more) (λ d h. so-too _ _ _ r (a h.items h.table h.stands) (λ g. bytes-grown
      (are_bytes-append h.items more h.values (fits-bytes more small)) g)))

  -- assigned bytes are the step of the directory
  pub text-assigned : (bytes : List ℕ) (r : Result (Unit {0}) Refusal) → ((k : ℕ) → Fits w8 (get_or bytes k 0))
      → AssignsText s.cut new p bytes r → Answered done_answer s t new key String (Assign key (Quoted bytes ∷ [])) r
  text-assigned bytes r small a =
      seen (grows-safely texts s key p b found new writing (Assign key (Quoted bytes ∷ [])) (λ bs t. length bytes)
      (λ bs. bytes) r (λ d h. text-plan d key h.object h.items h.table h.is h.value (Quoted bytes ∷ []) bytes refl)
      (λ d h. so-too _ _ _ r (a h.items h.table h.stands) (λ g. bytes-grown (fits-bytes bytes small) g)))

  -- a byte that was set is the step of the directory
  pub text-set : (i x : ℕ) (r : Result (Unit {0}) Refusal) → IsTrue (nat_lt x 256) → is_value U8 (pos x) ≡ true
      → SetsByte s.cut new p i x r → Answered done_answer s t new key String (Set key i (literal_of U8 (pos x))) r
  text-set i x r small v a = seen (changes-safely texts s key p b found new writing (Set key i (literal_of U8 (pos x)))
      i (λ bs. slice_set bs i x) r (λ d h within. set_byte-plan d key h.object h.items h.table h.is h.value i
      (literal_of U8 (pos x)) (pos x) (Some (pos (get_or h.items i 0))) (literal-read U8 (pos x) v) (byte-got h.items i
      (Some (get_or h.items i 0)) (slice_get-get_or h.items i 0 within))
      ∙ ap (λ bs. Reply Done (changed d h.object (Bytes bs h.table))) (bytes-set h.items i x))
      (λ d h past. set_byte-plan d key h.object h.items h.table h.is h.value i (literal_of U8 (pos x)) (pos x) None
      (literal-read U8 (pos x) v) (byte-got h.items i None (slice_get_past h.items i past))) (λ d h. so-too _ _ _ r
      (a h.items h.table h.stands) (λ q. (q.0, bytes-now (are_bytes-set h.items i x h.values small) q.1))))
