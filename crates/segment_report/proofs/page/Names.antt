-- The names that go out one by one are those that begin with the text.
use Rattle.std.proofs.Common.{◌≡◌, ◌++◌, ◌∙◌, ◌==◌, ℕ, ◌+◌, ◌-◌, Bool, true, false, List, [], ◌∷◌, suc, zero, Some}
use Rattle.std.proofs.Common.{None, slice_get, take, drop, refl, sym, ap, subst, append_assoc, arith}
use Rattle.std.specs.Prelude.{Result, Ok, Err, filter}
use Rattle.std.specs.List.{flat_map}
use Rattle.std.specs.Result.{IsErr}
use Rattle.std.proofs.lemmas.Bool.Decides.{nat_tests}
use Rattle.std.proofs.lemmas.List.{append-nil, drop_more}
use Rattle.std.proofs.lemmas.Option.{get_or_from_slice_get, slice_get_within}
use Rattle.raw_region.specs.Device.{WriterHistory, Writes}
use Rattle.raw_region.proofs.Laws.{writes-cut, writes-then}
use Rattle.segment_manager.specs.Directory.{Directory}
use Rattle.segment_manager.specs.indexes.Iterating.{names_of}
use Rattle.segment_manager.specs.State.{SegmentState, DenotesCurrent}
use Rattle.segment_report.specs.Names.{begins_with, left_after, listed_line, name_line, names_text}
use Rattle.segment_report.specs.Telling.{WritesReport}
use Rattle.segment_report.proofs.page.Output.{failures_in-err}

-- ---- the lines of the rest of the names

abbrev pub listed : List ℕ → ℕ → List (List ℕ) → List ℕ
listed prefix left [] = []
listed prefix left (x ∷ xs) = listed_line prefix left x ++ listed prefix (left_after prefix left x) xs

abbrev first_lines : List ℕ → ℕ → List (List ℕ) → List ℕ
first_lines prefix left xs = flat_map name_line (take left (filter (λ name. begins_with name prefix) xs))

one-less : (n : ℕ) → suc n - 1 ≡ n
one-less n = omega arith

some-left : (n : ℕ) → (suc n == 0) ≡ false
some-left n = grind (arith, nat_tests)

listed-none : (prefix : List ℕ) (xs : List (List ℕ)) → listed prefix 0 xs ≡ []
listed-none prefix [] = refl
listed-none prefix (x ∷ xs) = listed-none prefix xs

-- they are the first names that begin so
listed-first : (prefix : List ℕ) (left : ℕ) (xs : List (List ℕ)) → listed prefix left xs ≡ first_lines prefix left xs
listed-first prefix zero xs = listed-none prefix xs
listed-first prefix (suc n) [] = refl
listed-first prefix (suc n) (x ∷ xs) =
    go (begins_with x prefix) refl (listed-first prefix n xs) (listed-first prefix (suc n) xs)
  where
    go : (b : Bool) → begins_with x prefix ≡ b → listed prefix n xs ≡ first_lines prefix n xs
        → listed prefix (suc n) xs ≡ first_lines prefix (suc n) xs
        → listed prefix (suc n) (x ∷ xs) ≡ first_lines prefix (suc n) (x ∷ xs)
    go true e less same = rw (some-left n, e, one-less n) (ap (λ l. name_line x ++ l) less)
    go false e less same = rw (some-left n, e) same

drop-here : (xs : List (List ℕ)) (i : ℕ) (x : List ℕ) → slice_get xs i ≡ Some x → drop i xs ≡ x ∷ drop (i + 1) xs
drop-here xs i x e = drop_more xs i x (slice_get_within xs i x e)
    ∙ ap (λ y. y ∷ drop (i + 1) xs) (get_or_from_slice_get xs i x x e)

drop-none : (xs : List (List ℕ)) (i : ℕ) → slice_get xs i ≡ None → drop i xs ≡ []
drop-none [] zero e = refl
drop-none [] (suc i) e = refl
drop-none (x ∷ xs) zero e = absurd (cc)
drop-none (x ∷ xs) (suc i) e = drop-none xs i e

-- ---- what has gone out before the name at a place

pub record SaysFirstNames (old mid : WriterHistory) (prefix : List ℕ) (most left at : ℕ) (xs : List (List ℕ)) : Type
    0 where
  pub said : List ℕ
  pub bytes : mid.bytes ≡ old.bytes ++ said
  pub rest : said ++ listed prefix left (drop at xs) ≡ listed prefix most xs

-- the names listed so far begin with the prefix, and none is left out
pub record ListsFirstNames (b : List ℕ) (old mid : WriterHistory) (prefix : List ℕ) (most left at : ℕ) : Type 0 where
  pub told : (d : Directory) → DenotesCurrent b d → SaysFirstNames old mid prefix most left at (names_of d)
  pub failures : mid.failures ≡ old.failures

-- before the first name nothing is listed
pub none_listed : (b : List ℕ) (old : WriterHistory) (prefix : List ℕ) (most : ℕ)
    → ListsFirstNames b old old prefix most most 0
none_listed b old prefix most = record {
  told = λ d k. record { said = []; bytes = sym (append-nil old.bytes); rest = refl };
  failures = refl;
}

module _ (s : SegmentState) (old mid new : WriterHistory) (prefix : List ℕ) (most left at : ℕ)
    (was : ListsFirstNames s.cut.bytes old mid prefix most left at) where
  module _ (name : List ℕ) (next : (d : Directory) → DenotesCurrent s.cut.bytes d
      → Some name ≡ slice_get (names_of d) at) where
    -- the line of the next name, and those after it
    rest-here : (d : Directory) → DenotesCurrent s.cut.bytes d
        → listed prefix left (drop at (names_of d)) ≡ listed_line prefix left name
        ++ listed prefix (left_after prefix left name) (drop (at + 1) (names_of d))
    rest-here d k = ap (listed prefix left) (drop-here (names_of d) at name (sym (next d k)))

    -- one name more is listed
    pub listed-more : {A E : Type 0} (a : A) (behind : ℕ) → behind ≡ left_after prefix left name
        → Writes {E = E} mid new (Ok a) (listed_line prefix left name)
        → ListsFirstNames s.cut.bytes old new prefix most behind (at + 1)
    listed-more a behind e w = record {
      told = λ d k.
          let t = was.told d k in
          record {
            said = t.said ++ listed_line prefix left name;
            bytes = w.ok ∙ ap (λ l. l ++ listed_line prefix left name) t.bytes
                ∙ append_assoc old.bytes t.said (listed_line prefix left name);
            rest = ap (λ n. (t.said ++ listed_line prefix left name) ++ listed prefix n (drop (at + 1) (names_of d))) e
                ∙ (append_assoc t.said (listed_line prefix left name)
                (listed prefix (left_after prefix left name) (drop (at + 1) (names_of d)))
                ∙ (ap (λ l. t.said ++ l) (sym (rest-here d k)) ∙ t.rest));
          };
      failures = omega (arith, w.counted, was.failures);
    }

    -- a name that was not written cuts the list
    pub listed-cut : {A B E F : Type 0} (x : E) (result : Result B F) → IsErr result
        → Writes {A = A} mid new (Err x) (listed_line prefix left name)
        → WritesReport s old new result (names_text prefix most)
    listed-cut {A} {B} {E} {F} x result h w = record {
      writes = λ d k.
          let t = was.told d k in
          let line = listed_line prefix left name in
          let rest = listed prefix (left_after prefix left name) (drop (at + 1) (names_of d)) in
          let before : Writes {A = Unit {0}} {E = E} old mid (Ok tt) t.said =
          record { ok = t.bytes; err = tt; counted = omega (arith, was.failures) } in
          subst (λ text. Writes old new result text)
          (ap (λ l. t.said ++ l) (sym (rest-here d k)) ∙ (t.rest ∙ listed-first prefix most (names_of d)))
          (writes-then old mid new tt result t.said (line ++ rest) before (writes-cut mid new x result line rest h w));
      counted = omega (arith, w.counted, failures_in-err result h, was.failures);
    }

  -- all names are listed
  pub listed-all : {A E : Type 0} (a : A)
      → ((d : Directory) → DenotesCurrent s.cut.bytes d → None ≡ slice_get (names_of d) at)
      → WritesReport {E = E} s old mid (Ok a) (names_text prefix most)
  listed-all a end = record {
    writes = λ d k.
        let t = was.told d k in
        let rest : t.said ≡ listed prefix most (names_of d) =
        sym (append-nil t.said) ∙ (ap (λ l.
        t.said ++ listed prefix left l) (sym (drop-none (names_of d) at (sym (end d k)))) ∙ t.rest) in
        record {
          ok = t.bytes ∙ ap (λ l. old.bytes ++ l) (rest ∙ listed-first prefix most (names_of d));
          err = tt;
          counted = omega (arith, was.failures);
        };
    counted = omega (arith, was.failures);
  }
