-- More bytes of a front that is given again.
use Rattle.std.proofs.Common.{◌≡◌, ◌<◌, ◌≤◌, ◌+◌, ◌-◌, ℕ, inl, inr, List, ◌++◌, drop, length, take, refl, sym, ap}
use Rattle.std.proofs.Common.{◌∙◌, arith}
use Rattle.std.proofs.lemmas.Bool.{cases_lt, le-ltb, lt-ltb}
use Rattle.std.proofs.lemmas.List.{append_assoc, drop-take, take-append-drop, take-take, take_all, take_at}
use Rattle.segment_file.specs.ReadingOn.{replayed}

module _ (front bytes copied rest : List ℕ) (given count : ℕ) (long : length front ≡ 24) (few : given < 24) (fit : given
    + count ≤ 24) (read : bytes ≡ front) (same : copied
    ≡ take (given + count - given) (drop given front)) (as_long : length copied ≡ count) where
  part : copied ≡ take count (drop given front)
  part = let e : given + count - given ≡ count = omega arith in rw e at same

  joined : take given front ++ take count (copied ++ rest) ≡ take (given + count) front
  joined =
      let here : take count (copied ++ rest) ≡ drop given (take (given + count) front) =
      take_at copied rest count as_long ∙ (part ∙ sym (drop-take given count front)) in
      let there : take given (take (given + count) front) ≡ take given front =
      take-take given (given + count) front (omega arith) in
      ap (λ (b : List ℕ). take given front ++ b) here
      ∙ (ap (λ (b : List ℕ). b ++ drop given (take (given + count) front)) (sym there)
      ∙ take-append-drop given (take (given + count) front))

  before : replayed given front bytes ≡ front ++ take given front
  before = rw lt-ltb refl

  after-few : given + count < 24 → replayed (given + count) front bytes ≡ front ++ take (given + count) front
  after-few less = rw lt-ltb refl

  after-all : 24 ≤ given + count → replayed (given + count) front bytes ≡ front ++ take (given + count) front
  after-all all =
      let whole : take (given + count) front ≡ front = take_all (given + count) front (omega (arith, all, long)) in
      rw (le-ltb, whole, read) refl

  after : replayed (given + count) front bytes ≡ front ++ take (given + count) front
  after = elim (cases_lt (given + count) 24) [ inl less ↦ after-few less | inr all ↦ after-all all ]

  -- the bytes that were given again follow those that were
  pub replayed-more : replayed (given + count) front bytes ≡ replayed given front bytes ++ take count (copied ++ rest)
  replayed-more = after ∙ (ap (λ (b : List ℕ). front ++ b) (sym joined)
      ∙ (sym (append_assoc front (take given front) (take count (copied ++ rest)))
      ∙ ap (λ (b : List ℕ). b ++ take count (copied ++ rest)) (sym before)))
