-- A vector of numbers or a text as the value of a new object, with its elements in storage for just this many.
use Rattle.segment_manager.proofs.Common as common
use Rattle.seg_types.specs.Commands as asked
use Rattle.seg_vector.specs.{TextCalls.MakesText, VectorCalls.InitsVector}
use Rattle.segment_manager.proofs.containers.ItemSteps.{contents-good, value-said}
use Rattle.segment_manager.proofs.objects.Exchanged.{storage-met, storage-none, stored}
use Rattle.segment_manager.proofs.objects.Stored.{IsOfKind, whole-spelled, whole-values}
use common.{Assigns, BackingArray, Bool, Bytes, ChangesBytes, Content, Contents, Elements, Err, ExchangesBlocks}
use common.{GrowsVectorOk, IsContainer, IsHeap, IsTrue, LacksSpace, List, MakesValue, MakesValueErr, MakesValueOk}
use common.{MatchResult, NoSpace, None, Ok, Place, Plan, Refusal, Result, ScalarKind, Some, Value, WindowState, [], ap}
use common.{are_bytes, bare, bytes_of, contents_of, count_of, current, flat_map, grown_backing, has_values, keeps-refl}
use common.{kind_of, laid-heap, length, length-map, live_of, map, no_backing, option_to_list, perform, place_at, refl}
use common.{subst, sym, value_extents, value_len, with_storage, with_value, ℕ, ℤ, ◌∙◌, ◌≡◌}

abbrev contents : ℕ → ℕ → List ℕ → BackingArray → Contents
contents each len bytes t = record { each = each; len = len; table = t; bytes = bytes }

-- the blocks of such contents, and their storage
record IsContainerOf (content : Content) (each len : ℕ) (bytes : List ℕ) (v : BackingArray → Value) : Type 0 where
  asks : (next : Value → Plan) → with_value content next ≡ with_storage each len (λ t. next (v t))
  is_kind : (t : BackingArray) → kind_of (v t) ≡ kind_of (bare content)
  long : (t : BackingArray) → value_len (v t) ≡ value_len (bare content)
  count : (t : BackingArray) → count_of (v t) ≡ count_of (bare content)
  extents : (t : BackingArray) → value_extents (v t) ≡ option_to_list t.extent
  holds : (t : BackingArray) → contents_of (v t) ≡ Some (contents each len bytes t)

bytes-content : (bs : List ℕ) → IsContainerOf (asked.Bytes bs) 1 (length bs) bs (Bytes bs)
bytes-content bs = record {
  asks = λ next. refl;
  is_kind = λ t. refl;
  long = λ t. refl;
  count = λ t. refl;
  extents = λ t. refl;
  holds = λ t. refl;
}

module _ {content : Content} {each len : ℕ} {bytes : List ℕ} {v : BackingArray → Value}
    (is : IsContainerOf content each len bytes v) (old mid new : WindowState) (p : Place)
    (change : ChangesBytes current old mid (place_at p) (value_len (bare content))) where
  -- its elements are in their storage
  stored-value : (t : BackingArray) → grown_backing (live_of mid.bytes) each len no_backing ≡ Some t
      → ExchangesBlocks current mid new (place_at p) (value_len (bare content)) [] (option_to_list t.extent)
      → IsContainer new.bytes p each len t bytes → IsTrue (has_values (v t)) → MakesValueOk content old new p
  stored-value t grown storage stands values = record {
    empty = mid;
    change = change;
    value = v t;
    is_kind = is.is_kind t;
    len = is.long t;
    count = is.count t;
    good = contents-good (v t) (contents each len bytes t) (is.holds t) stands.fits stands.table values;
    left = stored (live_of mid.bytes) t;
    given = λ d. record {
      met = λ next. ap (perform d (live_of mid.bytes)) (is.asks next)
          ∙ storage-met d (live_of mid.bytes) each len t (λ t. next (v t)) grown;
    };
    storage = subst (ExchangesBlocks current mid new (place_at p) (value_len (bare content)) [])
        (sym (is.extents t)) storage;
    said = value-said (bytes_of new.bytes) (place_at p) (v t) (contents each len bytes t) (is.holds t) stands.words;
  }

  -- there is no space for their storage
  unstored-value : (why : Refusal) → new ≡ mid → grown_backing (live_of mid.bytes) each len no_backing ≡ None
      → why ≡ NoSpace → MakesValueErr content old new p why
  unstored-value why same none refusal =
      subst (λ (c : WindowState). MakesValueErr content old c p why) (sym same) (record {
        empty = mid;
        change = change;
        restored = record {
          laid = laid-heap mid.bytes (live_of old.bytes) change.live;
          keeps = keeps-refl mid (live_of mid.bytes).extents;
        };
        denied = λ d next. ap (perform d (live_of mid.bytes)) (is.asks next)
            ∙ storage-none d (live_of mid.bytes) each len (λ t. next (v t)) none;
        refusal = refusal;
      })

-- ---- a vector of numbers

module _ {T : Type 0} (k : ScalarKind) (w : T → ℤ) (size : ℕ) (test : T → Bool) (sp : T → List ℕ)
    (law : IsOfKind k w size test sp) where
  elements-content : (ys : List T)
      → IsContainerOf (asked.Elements k (map w ys)) size (length ys) (flat_map sp ys) (Elements k (map w ys))
  elements-content ys = record {
    asks = λ next. λ i. with_storage (sym law.long i) (length-map ys w i) (λ t. next (Elements k (map w ys) t));
    is_kind = λ t. refl;
    long = λ t. refl;
    count = λ t. refl;
    extents = λ t. refl;
    holds = λ t. λ i. Some
        (contents (sym law.long i) (length-map ys w i) (sym (whole-spelled k w size test sp law ys) i) t);
  }

  -- the vector is made, and then its values are written
  pub vector-made : (old mid new : WindowState) (p q : Place) (ys : List T) (r : Result (Unit {0}) Refusal) → q ≡ p
      → ChangesBytes current old mid (place_at p) 24 → InitsVector size test sp old mid p
      → Assigns size test sp mid new q ys r → MakesValue (asked.Elements k (map w ys)) old new p r
  vector-made old mid new p q ys r e change begun a =
      made r (subst (λ (x : Place). Assigns size test sp mid new x ys r) e a [] no_backing begun.vector)
    where
      made : (r : Result (Unit {0}) Refusal)
          → MatchResult r (λ u. GrowsVectorOk size test sp mid new p no_backing (length ys) ys)
          (LacksSpace mid new size (length ys) no_backing) → MakesValue (asked.Elements k (map w ys)) old new p r
      made (Ok u) g = stored-value (elements-content ys) old mid new p change g.table g.grown g.now.change
          g.now.vector.stands (sym (whole-values k w size test sp law ys) ∙ g.now.vector.values)
      made (Err why) g = unstored-value (elements-content ys) old mid new p change why g.same g.none g.refusal

-- ---- a text

-- a heap of which no byte was written yet
pub unwritten : (c : WindowState) (from n : ℕ) → IsHeap current c.bytes → ChangesBytes current c c from n
unwritten c from n heap =
    record { place = record { before = refl; after = refl }; live = heap; rest = record { at = λ k f. refl } }

-- a new string with its bytes
pub string-made : (old new : WindowState) (p : Place) (bs : List ℕ) (r : Result (Unit {0}) Refusal)
    → IsHeap current old.bytes → IsTrue (are_bytes bs) → MakesText old new p bs r
    → MakesValue (asked.Bytes bs) old new p r
string-made old new p bs (Ok u) heap small g = stored-value (bytes-content bs) old old new p
    (unwritten old (place_at p) 24 heap) g.table g.grown g.now.change g.now.text small
string-made old new p bs (Err why) heap small g = unstored-value (bytes-content bs) old old new p
    (unwritten old (place_at p) 24 heap) why g.same g.none g.refusal
