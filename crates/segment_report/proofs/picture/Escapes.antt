-- Bytes of a text as XML spells them, one after another.
use Rattle.std.proofs.Common.{◌≡◌, ℕ, suc, ◌+◌, ◌<◌, List, [], ◌∷◌, ◌++◌, length, drop, get_or, refl, sym, ap, subst}
use Rattle.std.proofs.Common.{◌∙◌, append_assoc, arith, drop-cons}
use Rattle.std.proofs.lemmas.List.{append-nil, drop_all}
use Rattle.std.specs.Prelude.{Result, Ok, Err}
use Rattle.std.specs.Result.{IsErr}
use Rattle.raw_region.specs.Device.{WriterHistory, Writes}
use Rattle.raw_region.proofs.Laws.{writes-behind, writes-cut}
use Rattle.segment_report.specs.Parts.{xml_byte, xml_from, xml_text}

-- what went out is a front of the text, and the rest of the bytes make the rest of it
pub record IsWritten (old mid : WriterHistory) (before last : ℕ) (rest text : List ℕ) : Type 0 where
  pub prefix : List ℕ
  pub split : text ≡ prefix ++ xml_from before last rest
  pub bytes : mid.bytes ≡ old.bytes ++ prefix
  pub failures : mid.failures ≡ old.failures

pub none-written : (old : WriterHistory) (bs : List ℕ) → IsWritten old old 0 0 bs (xml_text bs)
none-written old bs = record { prefix = []; split = refl; bytes = sym (append-nil old.bytes); failures = refl }

rest-is : (bs : List ℕ) (i : ℕ) → i < length bs → drop i bs ≡ get_or bs i 0 ∷ drop (i + 1) bs
rest-is bs i h = drop-cons bs i 0 h ∙ ap (λ n. get_or bs i 0 ∷ drop n bs) (let same : suc i ≡ i + 1 = omega arith
    in same)

module _ (old mid new : WriterHistory) (before last i : ℕ) (bs text : List ℕ)
    (was : IsWritten old mid before last (drop i bs) text) (within : i < length bs) where
  -- one byte more, b
  split-more : text ≡ was.prefix ++ (xml_byte before last (get_or bs i 0)
      ++ xml_from last (get_or bs i 0) (drop (i + 1) bs))
  split-more = was.split ∙ ap (λ l. was.prefix ++ xml_from before last l) (rest-is bs i within)

  pub more-written : {A E : Type 0} (a : A) → Writes {E = E} mid new (Ok a) (xml_byte before last (get_or bs i 0))
      → IsWritten old new last (get_or bs i 0) (drop (i + 1) bs) text
  more-written a w =
      let here = xml_byte before last (get_or bs i 0) in
      record {
        prefix = was.prefix ++ here;
        split = split-more ∙ sym (append_assoc was.prefix here (xml_from last (get_or bs i 0) (drop (i + 1) bs)));
        bytes = w.ok ∙ ap (λ l. l ++ here) was.bytes ∙ append_assoc old.bytes was.prefix here;
        failures = omega (arith, w.counted, was.failures);
      }

  -- a byte that was not written cuts the text
  pub cut-written : {A B E F : Type 0} (x : E) (result : Result B F) → IsErr result
      → Writes {A = A} mid new (Err x) (xml_byte before last (get_or bs i 0)) → Writes old new result text
  cut-written x result is_err w =
      subst (λ t. Writes old new result t) (sym split-more)
      (writes-behind old mid new result was.prefix _ was.bytes was.failures
      (writes-cut mid new x result (xml_byte before last (get_or bs i 0))
      (xml_from last (get_or bs i 0) (drop (i + 1) bs)) is_err w))

pub all-written : {A E : Type 0} (old new : WriterHistory) (before last i : ℕ) (bs text : List ℕ) (a : A)
    → IsWritten old new before last (drop i bs) text → length bs ≡ i → Writes {E = E} old new (Ok a) text
all-written old new before last i bs text a was e =
    let none : drop i bs ≡ [] = drop_all i bs (omega arith) in
    record {
      ok = was.bytes ∙ ap (λ l. old.bytes ++ l) (sym (was.split ∙ ap (λ l. was.prefix ++ xml_from before last l) none
          ∙ append-nil was.prefix));
      err = tt;
      counted = omega (arith, was.failures);
    }
