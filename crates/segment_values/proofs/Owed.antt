-- The texts that a call writes, one after another, for the places at which it stands.
use Rattle.std.proofs.Common.{◌≡◌, ℕ, ◌+◌, ◌<◌, List, [], ◌++◌, refl, sym, ap, subst, ◌∙◌, arith, Result, Ok, Err}
use Rattle.std.proofs.lemmas.List.{append-nil}
use Rattle.std.specs.Result.{IsErr}
use Rattle.raw_region.specs.{Answers.failures_in, Device.WriterHistory, Device.Writes}
use Rattle.raw_region.proofs.Laws.{writes-cut, writes-then}
use Rattle.segment_manager.specs.Parts.{parts_until}
use Rattle.segment_manager.proofs.PartLaws.{part-cut, part-told, well}
use Rattle.segment_values.specs.Writing.{WritesFor}

-- an error is one failure
pub failures_in-err : {A E : Type 0} (result : Result A E) → IsErr result → failures_in result ≡ 1
failures_in-err (Ok x) h = absurd (cc h)
failures_in-err (Err e) h = refl

-- if the text is empty nothing is written
pub writes_none : {A E : Type 0} (old : WriterHistory) (a : A) (text : List ℕ) → text ≡ []
    → Writes {E = E} old old (Ok a) text
writes_none old a text e = record {
  ok = sym (append-nil old.bytes) ∙ ap (λ t. old.bytes ++ t) (sym e);
  err = tt;
  counted = omega arith;
}

module _ {P : Type 0} {Stands : P → Type 0} where
  -- one text is owed of each directory
  pub of-one : {A E : Type 0} {old new : WriterHistory} {result : Result A E} {text : List ℕ} {owed : P → List ℕ}
      → Writes old new result text
      → ((d : P) → Stands d → text ≡ owed d) → WritesFor old new result Stands owed
  of-one {old} {new} {result} w same = record {
    writes = λ d st. subst (Writes old new result) (same d st) w;
    counted
        = w.counted;
  }

  -- an equal text
  pub of-same : {A E : Type 0} {old new : WriterHistory} {result : Result A E} {said owed : P → List ℕ}
      → WritesFor old new result Stands said
      → ((d : P) → Stands d → said d ≡ owed d) → WritesFor old new result Stands owed
  of-same {old} {new} {result} w same = record {
    writes = λ d st. subst (Writes old new result) (same d st)
        (w.writes d st);
    counted = w.counted;
  }

  -- nothing is owed
  pub of-none : {A E : Type 0} {old : WriterHistory} {x : A} {owed : P → List ℕ}
      → ((d : P) → Stands d → owed d ≡ [])
      → WritesFor {E = E} old old (Ok x) Stands owed
  of-none {old} {x} {owed} none = record {
    writes = λ d st. writes_none old x (owed d) (none d st);
    counted = omega
        arith;
  }

  -- one after another
  pub of-then : {A B E F : Type 0} {old mid new : WriterHistory} {x : A} {result : Result B F} {a b : P → List ℕ}
      → WritesFor {E = E} old mid (Ok x) Stands a
      → WritesFor mid new result Stands b → WritesFor old new result Stands (λ d. a d ++ b d)
  of-then {old} {mid} {new} {x} {result} {a} {b} first more = record {
    writes = λ d st. writes-then old mid new x result (a d) (b d) (first.writes d st) (more.writes d st);
    counted = omega (arith, first.counted, more.counted);
  }

  -- the writer failed, for any text that was to follow
  pub of-cut : {A B E F : Type 0} {old new : WriterHistory} {x : E} {result : Result B F} {a : P → List ℕ}
      (b : P → List ℕ) → IsErr result
      → WritesFor {A = A} old new (Err x) Stands a → WritesFor old new result Stands (λ d. a d ++ b d)
  of-cut {old} {new} {x} {result} {a} b is_err w = record {
    writes = λ d st. writes-cut old new x result (a d) (b d) is_err (w.writes d st);
    counted = omega (arith, w.counted, failures_in-err result is_err);
  }

  -- one part more
  pub of-more : {B F : Type 0} (part : P → ℕ → List ℕ) {old mid new : WriterHistory} {i : ℕ} {y : B}
      → WritesFor old mid well Stands (λ d. parts_until (part d) i)
      → WritesFor {E = F} mid new (Ok y) Stands (λ d. part d i)
      → WritesFor old new well Stands (λ d. parts_until (part d) (i + 1))
  of-more part {old} {mid} {new} {i} {y} before w = record {
    writes = λ d st. part-told (part d) old mid new i (before.writes d st) y (w.writes d st);
    counted = omega (arith, before.counted, w.counted);
  }

  -- the writer failed in a part
  pub of-cut_in : {B C F G : Type 0} (part : P → ℕ → List ℕ) (n : P → ℕ) {old mid new : WriterHistory} {i : ℕ}
      {y : F} {result : Result C G}
      → WritesFor old mid well Stands (λ d. parts_until (part d) i) → ((d : P) → Stands d → i < n d)
      → WritesFor {A = B} mid new (Err y) Stands (λ d. part d i) → IsErr result
      → WritesFor old new result Stands (λ d. parts_until (part d) (n d))
  of-cut_in part n {old} {mid} {new} {i} {y} {result} before within w is_err = record {
    writes = λ d st. part-cut (part d) old mid new i (before.writes d st) (n d) (within d st) y (w.writes d st) result
        is_err;
    counted = omega (arith, before.counted, w.counted, failures_in-err result is_err);
  }

  -- nothing has gone out before the first part
  pub of-start : (part : P → ℕ → List ℕ) {old : WriterHistory}
      → WritesFor old old well Stands (λ d. parts_until (part d) 0)
  of-start part = of-none (λ d st. refl)

  -- this many parts are all
  pub of-all : {B F : Type 0} (part : P → ℕ → List ℕ) (i n : ℕ) {old new : WriterHistory} {y : B}
      → WritesFor old new well Stands (λ d. parts_until (part d) i) → i ≡ n
      → WritesFor {E = F} old new (Ok y) Stands (λ d. parts_until (part d) n)
  of-all part i n {old} w e = record {
    writes = λ d st. let v = w.writes d st
        in record {
          ok = v.ok ∙ ap (λ m. old.bytes ++ parts_until (part d) m) e;
          err = tt;
          counted = omega (arith, v.counted);
        };
    counted = omega (arith, w.counted);
  }
