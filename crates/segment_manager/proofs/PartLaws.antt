-- Texts of numbered parts, for the crates that write a segment's contents: the text of this many parts, and the text
-- written so far.
use Rattle.segment_manager.proofs.Common.{◌≡◌, ℕ, zero, suc, ◌+◌, ◌<◌, Bool, true, false, List, [], ◌∷◌, ◌++◌, length}
use Rattle.segment_manager.proofs.Common.{take, nat_lt, Option, Some, None, Result, Ok, Err, slice_get, refl, sym, ap}
use Rattle.segment_manager.proofs.Common.{subst, ◌∙◌, append_assoc, arith, flat_map, ltb-true, ltb-false, take_all}
use Rattle.segment_manager.proofs.{Common.slice_get_within}
use Rattle.raw_region.proofs.Facts.{none_more}
use Rattle.std.specs.Result.{IsErr}
use Rattle.std.proofs.lemmas.{Grind.flat_map-append, Option.get_or_from_slice_get, List.append-nil, List.take_more}
use Rattle.raw_region.specs.Device.{WriterHistory, Writes}
use Rattle.raw_region.proofs.Laws.{writes-cut, writes-then}
pub use Rattle.segment_manager.specs.Parts.{part_of, parts_until}

-- ---- the text

-- one part among the others
pub record IsSplit (part : ℕ → List ℕ) (i n : ℕ) : Type 0 where
  pub more : List ℕ
  pub parts : parts_until part n ≡ parts_until part i ++ (part i ++ more)

split-if : {part : ℕ → List ℕ} {i n : ℕ} (b : Bool) → nat_lt i n ≡ b → i < suc n → (i < n → IsSplit part i n)
    → IsSplit part i (suc n)
split-if {part} {i} {n} true e h k =
    let s = k (ltb-true i n e) in
    record {
      more = s.more ++ part n;
      parts = ap (λ l. l ++ part n) s.parts ∙ append_assoc (parts_until part i) (part i ++ s.more) (part n)
          ∙ ap (λ l. parts_until part i ++ l) (append_assoc (part i) s.more (part n));
    }
split-if {part} {i} {n} false e h k =
    let below = ltb-false i n e in let same : n ≡ i = omega arith in
    record {
      more = [];
      parts =
          ap (λ x. parts_until part x ++ part x) same ∙ ap (λ l. parts_until part i ++ l) (sym (append-nil (part i)));
    }

-- the text of this many parts is one part and the others
pub split : (part : ℕ → List ℕ) (i n : ℕ) → i < n → IsSplit part i n
split part i zero h = absurd (omega arith)
split part i (suc n) h = split-if (nat_lt i n) refl h (split part i n)

-- equal parts make equal texts
pub parts-same : (f g : ℕ → List ℕ) (n : ℕ) → ((i : ℕ) → f i ≡ g i) → parts_until f n ≡ parts_until g n
parts-same f g zero h = refl
parts-same f g (suc n) h = ap (λ l. l ++ f n) (parts-same f g n h) ∙ ap (λ l. parts_until g n ++ l) (h n)

-- one more element, if there is one
taken : {X : Type 0} (f : X → List ℕ) (xs : List X) (i : ℕ) (r : Option X) → slice_get xs i ≡ r
    → flat_map f (take (i + 1) xs) ≡ flat_map f (take i xs) ++ part_of f r
taken f xs i None e =
    let h = none_more xs i e in
    ap (flat_map f) (take_all (i + 1) xs (omega arith) ∙ sym (take_all i xs h))
    ∙ sym (append-nil (flat_map f (take i xs)))
taken f xs i (Some x) e =
    let within = slice_get_within xs i x e in
    let one = take_more xs i x within ∙ ap (λ t. take i xs ++ t ∷ []) (get_or_from_slice_get xs i x x e) in
    ap (flat_map f) one ∙ flat_map-append f (take i xs) (x ∷ [])
    ∙ ap (λ l. flat_map f (take i xs) ++ l) (append-nil (f x))

-- a part for each element of a list
pub parts-taken : {X : Type 0} (f : X → List ℕ) (xs : List X) (n : ℕ)
    → parts_until (λ i. part_of f (slice_get xs i)) n ≡ flat_map f (take n xs)
parts-taken f xs zero = refl
parts-taken f xs (suc n) =
    ap (λ l. l ++ part_of f (slice_get xs n)) (parts-taken f xs n) ∙ sym (taken f xs n (slice_get xs n) refl)
    ∙ ap (λ m. flat_map f (take m xs)) (let same : n + 1 ≡ suc n = omega arith in same)

-- the text of all parts is that of the whole list
pub parts-all : {X : Type 0} (f : X → List ℕ) (xs : List X)
    → parts_until (λ i. part_of f (slice_get xs i)) (length xs) ≡ flat_map f xs
parts-all f xs = parts-taken f xs (length xs) ∙ ap (flat_map f) (take_all (length xs) xs (omega arith))

-- ---- the text written so far

-- all has gone out so far
abbrev pub well : Result ℕ ℕ
well = Ok 0

module _ (part : ℕ → List ℕ) (old mid new : WriterHistory) (i : ℕ)
    (before : Writes old mid well (parts_until part i)) where
  -- one more part is written
  pub part-told : {B F : Type 0} (y : B) → Writes {E = F} mid new (Ok y) (part i)
      → Writes old new well (parts_until part (i + 1))
  part-told {B} {F} y w =
      let more : suc i ≡ i + 1 = omega arith in let one = Ok y in
      subst (λ m. Writes old new well (parts_until part m)) more (record {
        ok = (writes-then old mid new 0 one (parts_until part i) (part i) before w).ok;
        err = tt;
        counted = omega (arith, before.counted, w.counted);
      })

  -- the writer failed in a part
  pub part-cut : {B C F G : Type 0} (n : ℕ) → i < n → (y : F) → Writes {A = B} mid new (Err y) (part i)
      → (result : Result C G) → IsErr result → Writes old new result (parts_until part n)
  part-cut n within y w result is_err =
      let s = split part i n within in
      subst (λ text. Writes old new result text) (sym s.parts) (writes-then old mid new 0 result (parts_until part i)
      (part i ++ s.more) before (writes-cut mid new y result (part i) s.more is_err w))
