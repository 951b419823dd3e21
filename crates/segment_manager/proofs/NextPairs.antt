-- The pairs of a map one after another, for the crates that write them: the walk is at the pair with an index.
use Rattle.segment_manager.proofs.Common.{AnswersWith, ByHandle, DenotesCurrent, Directory, List, None, NumberPair}
use Rattle.segment_manager.proofs.Common.{Option, ScalarKind, ScalarValue, SegmentState, Some, [], ap, arith, first_of}
use Rattle.segment_manager.proofs.Common.{item_of, item_of_kinds, kind_of_scalar, option_map, pair_above, pairs_at}
use Rattle.segment_manager.proofs.Common.{refl, slice_get, suc, sym, value_of_scalar, zero, ℕ, ◌+◌, ◌∙◌, ◌∷◌, ◌≡◌}
use Rattle.segment_manager.proofs.containers.PairNumbers.{first-at, walk-next}
use Rattle.segment_manager.specs.{Parts.part_of, containers.Walks.KindedPair, containers.Walks.item_seen}
-- what is read of a map is read of its pairs, and its first pair is the one from the least key on
pub use Rattle.segment_manager.proofs.containers.PairNumbers.{first-walked, pair-walked}

-- the next pair is the one at a place
abbrev pub IsNext : SegmentState → ℕ → ScalarKind → ScalarKind → Option (ScalarValue × ScalarValue) → ℕ → Type 0
IsNext s h k v o i = (d : Directory) → DenotesCurrent s.cut.bytes d → option_map item_seen o
    ≡ option_map (item_of_kinds k v) (option_map item_of (slice_get (pairs_at d (ByHandle h)) i))

-- there is a pair
record IsPair (k v : ScalarKind) (x y : ScalarValue) (r : Option NumberPair) : Type 0 where
  pair : NumberPair
  is : r ≡ Some pair
  same : item_seen (x, y) ≡ item_of_kinds k v (item_of pair)

pair-if : {k v : ScalarKind} {x y : ScalarValue} (r : Option NumberPair)
    → Some (item_seen (x, y)) ≡ option_map (item_of_kinds k v) (option_map item_of r) → IsPair k v x y r
pair-if None e = absurd (cc)
pair-if {k} {v} {x} {y} (Some p) e =
    let same : item_seen (x, y) ≡ item_of_kinds k v (item_of p) = cc in record { pair = p; is = refl; same = same }

-- there is no pair
none-if : (k v : ScalarKind) (r : Option NumberPair) → None ≡ option_map (item_of_kinds k v) (option_map item_of r)
    → r ≡ None
none-if k v None e = refl
none-if k v (Some p) e = absurd (cc)

-- an option that is never some is none
pub no-pair : {X : Type 0} (o : Option X) → ((x : X) → o ≡ Some x → ⊥) → o ≡ None
no-pair None n = refl
no-pair (Some x) n = absurd (n x refl)

-- nor after that place
none-behind : (ps : List NumberPair) (i : ℕ) → slice_get ps i ≡ None → slice_get ps (suc i) ≡ None
none-behind [] i e = refl
none-behind (p ∷ ps) zero e = absurd (cc)
none-behind (p ∷ ps) (suc i) e = none-behind ps i e

-- the first pair has the first index
pub next-first : (s : SegmentState) (h : ℕ) (k v : ScalarKind) (o : Option (ScalarValue × ScalarValue))
    → AnswersWith s (λ d. option_map (item_of_kinds k v) (option_map item_of (first_of (pairs_at d (ByHandle h)))))
    (option_map item_seen o) → IsNext s h k v o 0
next-first s h k v o a d l = a.answers d l ∙ ap (λ (r : Option NumberPair). option_map (item_of_kinds k v)
    (option_map item_of r)) (sym (first-at (pairs_at d (ByHandle h))))

module _ (s : SegmentState) (h : ℕ) (k v : ScalarKind) (i : ℕ) where
  abbrev part : (KindedPair → List ℕ) → Directory → List ℕ
  part text d = part_of (λ p. text (item_of_kinds k v (item_of p))) (slice_get (pairs_at d (ByHandle h)) i)

  -- nothing is written without a pair, and no pair follows
  pub none-text : IsNext s h k v None i → (text : KindedPair → List ℕ) (d : Directory) → DenotesCurrent s.cut.bytes d
      → [] ≡ part text d
  none-text n text d l = ap (part_of (λ p. text (item_of_kinds k v (item_of p))))
      (sym (none-if k v (slice_get (pairs_at d (ByHandle h)) i) (n d l)))

  -- after the last pair none follows
  pub next-none : IsNext s h k v None i → IsNext s h k v None (i + 1)
  next-none n d l =
      let ps = pairs_at d (ByHandle h) in let more : suc i ≡ i + 1 = omega arith in
      ap (λ (r : Option NumberPair). option_map (item_of_kinds k v) (option_map item_of r))
      (sym (none-behind ps i (none-if k v (slice_get ps i) (n d l))))
      ∙ ap (λ (m : ℕ). option_map (item_of_kinds k v) (option_map item_of (slice_get ps m))) more

  module _ (x y : ScalarValue) (n : IsNext s h k v (Some (x, y)) i) where
    pair-there : {d : Directory} → DenotesCurrent s.cut.bytes d → IsPair k v x y (slice_get (pairs_at d (ByHandle h)) i)
    pair-there {d} l = pair-if (slice_get (pairs_at d (ByHandle h)) i) (n d l)

    -- the text of the pair
    pub pair-said : (text : KindedPair → List ℕ) (d : Directory) → DenotesCurrent s.cut.bytes d
        → text (item_seen (x, y)) ≡ part text d
    pair-said text d l =
        let p = pair-there l in ap text p.same ∙ sym (ap (part_of (λ q. text (item_of_kinds k v (item_of q)))) p.is)

    -- the pair after a map key has the next index
    pub next-behind : (o : Option (ScalarValue × ScalarValue))
        → AnswersWith s (λ d. option_map (item_of_kinds (kind_of_scalar x) v)
        (pair_above (value_of_scalar x) (pairs_at d (ByHandle h)))) (option_map item_seen o) → IsNext s h k v o (i + 1)
    next-behind o a d l =
        let p = pair-there l in let kinds : kind_of_scalar x ≡ k = ap (λ t. t.0.0) p.same in
        let keys : value_of_scalar x ≡ p.pair.key = ap (λ t. t.0.1) p.same in
        a.answers d l ∙ (λ j. option_map (item_of_kinds (kinds j) v) (pair_above (keys j) (pairs_at d (ByHandle h))))
        ∙ ap (option_map (item_of_kinds k v)) (walk-next s.cut.bytes d (ByHandle h) i p.pair l.denotes p.is)
