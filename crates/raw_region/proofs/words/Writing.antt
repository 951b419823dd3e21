-- Texts written piece by piece: if all pieces are written, the whole text is; otherwise a front of it is.
use Rattle.std.proofs.Common.{◌≡◌, ℕ, ◌+◌, ◌≤◌, ◌<◌, List, [], ◌∷◌, ◌++◌, length, take, drop, get_or, zero, suc, refl}
use Rattle.std.proofs.Common.{arith, sym, ap, subst, ◌∙◌, append_assoc, length-append}
use Rattle.std.specs.Prelude.{Result, Ok, Err}
use Rattle.std.specs.Result.{IsErr}
use Rattle.std.specs.List.{flat_map}
use Rattle.std.proofs.lemmas.List.{take-append-le, take-append-drop}
use Rattle.std.proofs.lemmas.Grind.{flat_map-append}
use Rattle.std.proofs.Math.Seq.{take-append-add, drop-cons}
use Rattle.raw_region.specs.Answers.{AppendsProperPrefix}
use Rattle.raw_region.specs.Device.{WriterHistory, Writes}

-- a front of a text is a front of a longer one
front_of_longer : (old new a b : List ℕ) → AppendsProperPrefix old new a → AppendsProperPrefix old new (a ++ b)
front_of_longer old new a b h =
    let n = h.count in
    let fits : n ≤ length a = omega (arith, h.fewer) in
    record {
      count = n;
      fewer = omega (arith, h.fewer, length-append a b);
      added = h.added ∙ ap (λ l. old ++ l) (sym (take-append-le n a b fits));
    }

-- a front of a text that is written after another text is a front of the two together
front_behind : (old mid new a b : List ℕ) → mid ≡ old ++ a → AppendsProperPrefix mid new b
    → AppendsProperPrefix old new (a ++ b)
front_behind old mid new a b e h =
    record {
      count = length a + h.count;
      fewer = omega (arith, h.fewer, length-append a b);
      added = h.added ∙ ap (λ l. l ++ take h.count b) e ∙ append_assoc old a (take h.count b)
          ∙ ap (λ l. old ++ l) (sym (take-append-add a b h.count));
    }

-- if a text is written whole, a write after it is a write of both texts
pub writes-behind : {A E : Type 0} (old mid new : WriterHistory) (result : Result A E) (a b : List ℕ)
    → mid.bytes ≡ old.bytes ++ a → mid.failures ≡ old.failures
    → Writes mid new result b → Writes old new result (a ++ b)
writes-behind old mid new (Ok x) a b e f w = record {
  ok = w.ok ∙ ap (λ l. l ++ b) e ∙ append_assoc old.bytes a b;
  err = tt;
  counted = omega (arith, w.counted);
}
writes-behind old mid new (Err x) a b e f w = record {
  ok = tt;
  err = front_behind old.bytes mid.bytes new.bytes a b e w.err;
  counted = omega (arith, w.counted);
}

-- one text is written, and then another
pub writes-then : {A B E F : Type 0} (old mid new : WriterHistory) (x : A) (result : Result B F) (a b : List ℕ)
    → Writes {E = E} old mid (Ok x) a → Writes mid new result b
    → Writes old new result (a ++ b)
writes-then old mid new x result a b first more =
    writes-behind old mid new result a b first.ok (omega (arith, first.counted)) more

-- a text that was cut is also cut if more was to follow
pub writes-cut : {A B E F : Type 0} (old new : WriterHistory) (x : E) (result : Result B F) (a b : List ℕ)
    → IsErr result → Writes {A = A} old new (Err x) a → Writes old new result (a ++ b)
writes-cut old new x (Ok y) a b h w = absurd (cc h)
writes-cut old new x (Err y) a b h w = record {
  ok = tt;
  err = front_of_longer old.bytes new.bytes a b w.err;
  counted = w.counted;
}

-- ---- a text for each element

get_or_within : {X : Type 0} → (xs : List X) (i : ℕ) (d e : X) → i < length xs → get_or xs i d ≡ get_or xs i e
get_or_within [] i d e h = absurd (omega arith)
get_or_within (x ∷ xs) zero d e h = refl
get_or_within (x ∷ xs) (suc i) d e h = get_or_within xs i d e (omega arith)

element_at : {X : Type 0} → (f : X → List ℕ) (xs : List X) (i : ℕ) (x : X) → i < length xs → x ≡ get_or xs i x
    → flat_map f xs ≡ flat_map f (take i xs) ++ (f x ++ flat_map f (drop (suc i) xs))
element_at f xs i x h k =
    let here : drop i xs ≡ x ∷ drop (suc i) xs = drop-cons xs i x h ∙ ap (λ y. y ∷ drop (suc i) xs) (sym k) in
    sym (ap (flat_map f) (take-append-drop i xs)) ∙ flat_map-append f (take i xs) (drop i xs)
    ∙ ap (λ l. flat_map f (take i xs) ++ flat_map f l) here

-- the text of an element was cut, after the texts of all elements before it were written
pub writes-element : {A B E F X : Type 0} (f : X
    → List ℕ) (xs : List X) (i : ℕ) (d : X) (old mid new : WriterHistory) (x : E) (result : Result B F) → i < length xs
    → mid.bytes ≡ old.bytes ++ flat_map f (take i xs) → mid.failures ≡ old.failures → IsErr result
    → Writes {A = A} mid new (Err x) (f (get_or xs i d)) → Writes old new result (flat_map f xs)
writes-element f xs i d old mid new x result h e g is_err w =
    subst (λ text. Writes old new result text)
    (sym (element_at f xs i (get_or xs i d) h (get_or_within xs i d (get_or xs i d) h)))
    (writes-behind old mid new result (flat_map f (take i xs)) _ e g
    (writes-cut mid new x result (f (get_or xs i d)) (flat_map f (drop (suc i) xs)) is_err w))
