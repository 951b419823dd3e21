-- Where a loaded segment lies in the region that it was made in.
use Rattle.segment_dump.proofs.Common.{◌≡◌, ◌+◌, ◌-◌, ◌≤◌, ℕ, List, Option, Result, Ok, Err, refl, sym, ap}
use Rattle.segment_dump.proofs.Common.{subst, ◌∙◌, arith, length, drop, ◌++◌, IfOk, length-append, length-drop}
use Rattle.segment_dump.proofs.Common.{length-take, SegmentState, Count, LoadRefused, CountsDump}
use Rattle.segment_dump.proofs.Common.{IsExact, cause_in, live-size, StandsBuilt, DumpItem, Site}
use Rattle.best_fit.specs.Ends.{EndsAt}
use Rattle.raw_region.specs.Memory.{SameSurroundings, WindowState, cut_at, part, whole}
use Rattle.segment_dump.specs.{Items.portable, Loading.HasExactIndexes, Loading.LiesIn, Succeeding.IndexesOf}
use Rattle.segment_dump.specs.{Loading.HasExactCapacities, Succeeding.CapacitiesOf, Succeeding.LiesOf}
use Rattle.segment_dump.proofs.loading.Judgement.{portable-countable}

long-whole : (c : WindowState) → length (whole c) ≡ length c.before + length c.bytes + length c.after
long-whole c =
    length-append (c.before ++ c.bytes) c.after ∙ ap (λ n. n + length c.after) (length-append c.before c.bytes)

long-part : (b : List ℕ) (base size : ℕ) → base + size ≤ length b → length (part b base size) ≡ size
long-part b base size l = omega (arith, length-take size (drop base b), length-drop base b, l)

-- what ends elsewhere in a window that was filled ends there in the region
pub ends-in : (region : List ℕ) (base size : ℕ) (c e : WindowState) → base + size ≤ length region
    → SameSurroundings (cut_at region base size) c → length c.bytes ≡ size → EndsAt c e (length e.bytes)
    → EndsAt (cut_at region base size) e (length e.bytes)
ends-in region base size c e l a k h =
    let given = cut_at region base size in
    let same : length given.bytes ≡ length c.bytes = long-part region base size l ∙ sym k in
    record {
      before = h.before ∙ a.before;
      bytes = refl;
      capacity = omega (
        arith,
        h.capacity,
        long-whole c,
        long-whole given,
        ap length a.before,
        ap length a.after,
        same,
      );
      after = subst (λ n. drop (n - length e.bytes) e.after ≡ drop (length e.bytes - n) given.after) (sym same)
          (h.after ∙ ap (drop (length e.bytes - length c.bytes)) a.after);
    }

-- a segment that was built has the bytes of its size
pub built-long : {s : SegmentState} {site : Site} {items : List DumpItem} → StandsBuilt s site items 0
    → length s.cut.bytes ≡ site.size
built-long b = b.stands.denotes.heap.size ∙ live-size b.directory ∙ b.built.size_is

-- of a load that was made, the text tells the size that it was given
pub lies-made : (text region : List ℕ) (base : ℕ) (size : Option ℕ) (room : ℕ) (counted : Result Count ℕ)
    (result : Result SegmentState LoadRefused) → CountsDump text counted
    → IsExact text (length region) base size room (cause_in result)
    → LiesOf text region base size room counted result → IfOk result (LiesIn text region base size)
lies-made text region base size room counted (Ok s) h x o = record {
  lies = λ b d n st l t.
      o.lies b d n st l t (h.counts n (portable d) l (portable-countable b d st) t) (sym (x.exact b d n st l t));
}
lies-made text region base size room counted (Err why) h x o = tt

-- of a load that was made, the indexes have the places that the text tells
pub indexes-made : (text : List ℕ) (capacity base : ℕ) (size : Option ℕ) (room : ℕ) (counted : Result Count ℕ)
    (result : Result SegmentState LoadRefused) → CountsDump text counted
    → IsExact text capacity base size room (cause_in result)
    → IndexesOf text capacity base size room counted result → IfOk result (HasExactIndexes text)
indexes-made text capacity base size room counted (Ok s) h x o = record {
  exact = λ b d n st l t.
      o.indexes b d n st l t (h.counts n (portable d) l (portable-countable b d st) t) (sym (x.exact b d n st l t));
}
indexes-made text capacity base size room counted (Err why) h x o = tt

-- of a load that was made, the segment has no spare slots
pub exact-made : (text : List ℕ) (capacity base : ℕ) (size : Option ℕ) (room : ℕ) (counted : Result Count ℕ)
    (result : Result SegmentState LoadRefused) → CountsDump text counted
    → IsExact text capacity base size room (cause_in result)
    → CapacitiesOf text capacity base size room counted result → IfOk result (HasExactCapacities text)
exact-made text capacity base size room counted (Ok s) h x o = record {
  exact = λ b d n st l t.
      o.exact b d n st l t (h.counts n (portable d) l (portable-countable b d st) t) (sym (x.exact b d n st l t));
}
exact-made text capacity base size room counted (Err why) h x o = tt
