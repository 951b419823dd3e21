-- What calls write of a segment, one after another.
use Rattle.std.proofs.Common.{◌≡◌, ◌++◌, ◌∙◌, ℕ, ◌+◌, ◌<◌, ◌≤◌, List, [], ◌∷◌, length, take, Some, slice_get, refl, sym}
use Rattle.std.proofs.Common.{ap, subst, append_assoc, arith}
use Rattle.std.specs.Prelude.{Result, Ok, Err}
use Rattle.std.specs.List.{flat_map}
use Rattle.std.specs.Result.{IsErr}
use Rattle.std.proofs.lemmas.Grind.{flat_map-append}
use Rattle.std.proofs.lemmas.List.{append-nil, take_all, take_more}
use Rattle.std.proofs.lemmas.Option.{get_or_from_slice_get, slice_get_within}
use Rattle.raw_region.specs.Answers.{failures_in}
use Rattle.raw_region.specs.Device.{WriterHistory, Writes}
use Rattle.raw_region.proofs.Laws.{writes-cut, writes-element, writes-then}
use Rattle.segment_manager.specs.Directory.{Directory}
use Rattle.segment_manager.specs.State.{SegmentState, DenotesCurrent}
use Rattle.segment_report.specs.Telling.{WritesReport}

-- an error is one failure
pub failures_in-err : {A E : Type 0} (result : Result A E) → IsErr result → failures_in result ≡ 1
failures_in-err (Ok x) h = absurd (cc h)
failures_in-err (Err e) h = refl

module _ {A E : Type 0} (s : SegmentState) (old new : WriterHistory) (result : Result A E) where
  -- a text that is the same of each directory
  pub tells-text : (text : List ℕ) (said : Directory → List ℕ) → Writes old new result text
      → ((d : Directory) → DenotesCurrent s.cut.bytes d → text ≡ said d) → WritesReport s old new result said
  tells-text text said w same = record {
    writes = λ d k. subst (λ t. Writes old new result t) (same d k) w;
    counted = w.counted;
  }

  pub tells-same : (text said : Directory → List ℕ) → WritesReport s old new result text
      → ((d : Directory) → DenotesCurrent s.cut.bytes d → text d ≡ said d) → WritesReport s old new result said
  tells-same text said w same = record {
    writes = λ d k.
        subst (λ t. Writes old new result t) (same d k) (w.writes d k);
    counted = w.counted;
  }

-- one text, and then another
pub tells-then : {A B E F : Type 0} (s : SegmentState) (old mid new : WriterHistory) (x : A) (result : Result B F)
    (a b : Directory → List ℕ) → WritesReport {E = E} s old mid (Ok x) a → WritesReport s mid new result b
    → WritesReport s old new result (λ d. a d ++ b d)
tells-then s old mid new x result a b first more = record {
  writes = λ d k. writes-then old mid new x result (a d) (b d) (first.writes d k) (more.writes d k);
  counted = omega (arith, first.counted, more.counted);
}

-- what is cut is so whatever was to be written after it
pub tells-cut : {A B E F : Type 0} (s : SegmentState) (old new : WriterHistory) (x : E) (result : Result B F)
    (a b : Directory → List ℕ) → IsErr result → WritesReport {A = A} s old new (Err x) a
    → WritesReport s old new result (λ d. a d ++ b d)
tells-cut s old new x result a b h w = record {
  writes = λ d k. writes-cut old new x result (a d) (b d) h (w.writes d k);
  counted = omega (arith, w.counted, failures_in-err result h);
}

-- ---- a text for each element of a list

module _ {X : Type 0} (f : X → List ℕ) where
  taken : (xs : List X) (i : ℕ) (x : X) → Some x ≡ slice_get xs i → take (i + 1) xs ≡ take i xs ++ x ∷ []
  taken xs i x e =
      let within : i < length xs = slice_get_within xs i x (sym e) in
      take_more xs i x within ∙ ap (λ t. take i xs ++ t ∷ []) (get_or_from_slice_get xs i x x (sym e))

  text-more : (xs : List X) (i : ℕ) (x : X) → Some x ≡ slice_get xs i
      → flat_map f (take (i + 1) xs) ≡ flat_map f (take i xs) ++ f x
  text-more xs i x e =
      ap (flat_map f) (taken xs i x e) ∙ flat_map-append f (take i xs) (x ∷ [])
      ∙ ap (λ l. flat_map f (take i xs) ++ l) (append-nil (f x))

-- what has gone out before the element at a place: the texts of those before it
pub record IsTold {X : Type 0} (b : List ℕ) (xs : Directory → List X) (f : Directory → X
    → List ℕ) (old mid : WriterHistory) (i : ℕ) : Type 0 where
  pub told : (d : Directory) → DenotesCurrent b d → mid.bytes ≡ old.bytes ++ flat_map (f d) (take i (xs d))
  pub failures : mid.failures ≡ old.failures

-- before the first part nothing is told
pub none_told : {X : Type 0} (b : List ℕ) (xs : Directory → List X) (f : Directory → X
    → List ℕ) (old : WriterHistory) → IsTold b xs f old old 0
none_told b xs f old = record { told = λ d k. sym (append-nil old.bytes); failures = refl }

module _ {X : Type 0} (s : SegmentState) (xs : Directory → List X) (f : Directory → X
    → List ℕ) (old mid new : WriterHistory) (i : ℕ) (was : IsTold s.cut.bytes xs f old mid i) where
  -- the text of the next element, which is said by some words
  module _ (text : Directory → List ℕ) (next : (d : Directory) → DenotesCurrent s.cut.bytes d
      → (x : X) × (Some x ≡ slice_get (xs d) i) × (f d x ≡ text d)) where
    -- one part more is told
    pub told-more : {A E : Type 0} (a : A) → WritesReport {E = E} s mid new (Ok a) text
        → IsTold s.cut.bytes xs f old new (i + 1)
    told-more a w = record {
      told = λ d k.
          let x = next d k in
          (w.writes d k).ok ∙ ap (λ l. l ++ text d) (was.told d k)
          ∙ append_assoc old.bytes (flat_map (f d) (take i (xs d))) (text d)
          ∙ ap (λ l. old.bytes ++ l) (ap (λ l. flat_map (f d) (take i (xs d)) ++ l) (sym x.2)
          ∙ sym (text-more (f d) (xs d) i x.0 x.1));
      failures = omega (arith, w.counted, was.failures);
    }

    -- a part that was not written cuts the text
    pub told-cut : {A B E F : Type 0} (x : E) (result : Result B F) → IsErr result
        → WritesReport {A = A} s mid new (Err x) text → WritesReport s old new result (λ d. flat_map (f d) (xs d))
    told-cut {A} x result h w = record {
      writes = λ d k.
          let y = next d k in
          let within : i < length (xs d) = slice_get_within (xs d) i y.0 (sym y.1) in
          let here = subst (λ (t : List ℕ). Writes {A = A} mid new (Err x) t) (sym y.2
          ∙ ap (f d) (sym (get_or_from_slice_get (xs d) i y.0 y.0 (sym y.1)))) (w.writes d k) in
          writes-element (f d) (xs d) i y.0 old mid new x result within (was.told d k) was.failures h here;
      counted = omega (arith, w.counted, failures_in-err result h, was.failures);
    }

-- all of them
pub told-all : {X A E : Type 0} (s : SegmentState) (xs : Directory → List X) (f : Directory → X
    → List ℕ) (old mid : WriterHistory) (i : ℕ) (a : A) → IsTold s.cut.bytes xs f old mid i
    → ((d : Directory) → DenotesCurrent s.cut.bytes d → length (xs d) ≤ i)
    → WritesReport {E = E} s old mid (Ok a) (λ d. flat_map (f d) (xs d))
told-all s xs f old mid i a was end = record {
  writes = λ d k. record {
    ok = was.told d k ∙ ap (λ l. old.bytes ++ flat_map (f d) l) (take_all i (xs d) (end d k));
    err = tt;
    counted = omega (arith, was.failures);
  };
  counted = omega (arith, was.failures);
}

-- where there is nothing to be written
pub tells-none : {A E : Type 0} (s : SegmentState) (old : WriterHistory) (a : A) (text : Directory → List ℕ)
    → ((d : Directory) → DenotesCurrent s.cut.bytes d → [] ≡ text d) → WritesReport {E = E} s old old (Ok a) text
tells-none s old a text same = record {
  writes = λ d k. record {
    ok = sym (append-nil old.bytes) ∙ ap (λ t. old.bytes ++ t) (same d k);
    err = tt;
    counted = omega arith;
  };
  counted = omega arith;
}
