-- Blocks in the order of their offsets: look-ups by number and by payload.
use Rattle.image_check.proofs.Common.{AreBelow, Block, Blocks, Err, IsRow, None, Ok, Option, Result, Some, [], ap}
use Rattle.image_check.proofs.Common.{arith, block_at, cond-false, cond-true, eq-eqb, eqb-true, false≢true, inl, inr}
use Rattle.image_check.proofs.Common.{length, nat_eq, ne_eqb, refl, set_value, slice_get, subst, suc, sym, zero, ℕ}
use Rattle.image_check.proofs.Common.{◌++◌, ◌+◌, ◌<◌, ◌^◌, ◌∙◌, ◌∷◌, ◌≡◌, ◌≢◌, ◌≤◌, ◌⊎◌}
use Rattle.std.proofs.Common.{⊎_elim}
use Rattle.std.specs.Prelude.{IfSome, IsOk, OnOk, position, true, ◌==◌}
use Rattle.std.specs.Map.{keys_of}
use Rattle.std.specs.Map.Iter.{deref_pair}
use Rattle.std.specs.Option.{option_map}
use Rattle.std.specs.Borrow.{Bor}
use Rattle.std.proofs.lemmas.List.Quantifiers.{position-Some}
use Rattle.std.proofs.lemmas.Option.{slice_get-get_or, slice_get_within}
use Rattle.indexmap.specs.IndexMap.{set_value_at}
use Rattle.image_check.specs.Rows.{AreSortedBlocks, HasSortedPayloads}

-- ---- a block of a number

rises-behind : (e : ℕ × Block) (es : Blocks) → HasSortedPayloads (e ∷ es) → HasSortedPayloads es
rises-behind e es r i j x y h f g = r (suc i) (suc j) x y (omega arith) f g

-- the first block that has the payload is this one
pub row-found : (es : Blocks) (n i : ℕ) → HasSortedPayloads es → (w : IsRow es n i) → block_at es n ≡ Some w.block
row-found [] n i r w = let h = w.is in absurd (cc)
row-found (e ∷ es) n zero r w =
    let h = w.is in
    let same : e ≡ (n, w.block) = cc in
    cond-true (nat_eq n e.0) (Some e.1) (block_at es n) (eq-eqb n e.0 (sym (ap (λ (p : ℕ × Block). p.0) same)))
    ∙ ap (λ (p : ℕ × Block). Some p.1) same
row-found (e ∷ es) n (suc i) r w =
    let low = r 0 (suc i) e (n, w.block) (omega arith) refl w.is in
    cond-false (nat_eq n e.0) (Some e.1) (block_at es n) (ne_eqb n e.0 (λ f. absurd (omega arith)))
    ∙ row-found es n i (rises-behind e es r) (record { block = w.block; is = w.is })

-- the block with a number is found by its payload
pub entry-found : (es : Blocks) (i : ℕ) (x : ℕ × Block) → HasSortedPayloads es → slice_get es i ≡ Some x
    → block_at es x.0 ≡ Some x.1
entry-found es i x r g = row-found es x.0 i r (record { block = x.1; is = g })

-- ---- searching for a payload

-- the key at a number is the row's
pub key-row : (es : Blocks) (n i : ℕ) → slice_get (keys_of es) i ≡ Some n → IsRow es n i
key-row [] n i h = absurd (cc)
key-row (e ∷ es) n zero h = let same : e.0 ≡ n = cc in record { block = e.1; is = ap (λ (k : ℕ). Some (k, e.1)) same }
key-row (e ∷ es) n (suc i) h = let w = key-row es n i h in record { block = w.block; is = w.is }

-- the position of a key is its row
pub position-row : (es : Blocks) (n : ℕ) (r : Option ℕ) → r ≡ position (nat_eq n) (keys_of es) → IfSome r (IsRow es n)
position-row es n None e = tt
position-row es n (Some i) e =
    let p = position-Some (nat_eq n) (keys_of es) i 0 (sym e) in
    key-row es n i (slice_get-get_or (keys_of es) i 0 p.0 ∙ ap Some (sym (eqb-true n _ p.1)))

-- the entry at a number, with this key, is the key's row
pub row-here : (es : Blocks) (i n : ℕ) (r : Option (Bor ℕ × Bor Block)) (x : Bor ℕ × Bor Block)
    → option_map deref_pair r ≡ slice_get es i → r ≡ Some x → (x.0.now == n) ≡ true → IsRow es n i
row-here es i n r x e f h = record {
  block = x.1.now;
  is = sym e ∙ ap (option_map deref_pair) f ∙ ap (λ (k : ℕ). Some (k, x.1.now)) (eqb-true x.0.now n h);
}

row-absent : (es : Blocks) (n : ℕ) → ((i : ℕ) (x : ℕ × Block) → slice_get es i ≡ Some x → x.0 ≢ n)
    → block_at es n ≡ None
row-absent [] n h = refl
row-absent (e ∷ es) n h =
    cond-false (nat_eq n e.0) (Some e.1) (block_at es n) (ne_eqb n e.0 (λ f. h 0 e refl (sym f)))
    ∙ row-absent es n (λ i x g. h (suc i) x g)

-- no payload is as large as a bound of all
pub bound-absent : (es : Blocks) (m n : ℕ) → AreBelow es m → m ≤ n → block_at es n ≡ None
bound-absent es m n below h = row-absent es n (λ i x g f. let z = below i x g in absurd (omega arith))

-- ---- one more, and another in the place of one

-- an element of a list with one more is the new one, or was there before
pushed : (es : Blocks) (e : ℕ × Block) (i : ℕ) (x : ℕ × Block) → slice_get (es ++ e ∷ []) i ≡ Some x
    → (slice_get es i ≡ Some x) ⊎ ((i ≡ length es) × (e ≡ x))
pushed [] e zero x g = inr (refl, cc)
pushed [] e (suc i) x g = absurd (cc)
pushed (d ∷ es) e zero x g = inl g
pushed (d ∷ es) e (suc i) x g = ⊎_elim (λ p. inl p) (λ p. inr (omega (arith, p.0), p.1)) (pushed es e i x g)

rises-push : (es : Blocks) (n : ℕ) (b : Block) → HasSortedPayloads es → AreBelow es n
    → HasSortedPayloads (es ++ (n, b) ∷ [])
rises-push es n b r h i j x y l f g =
    ⊎_elim
    (λ p. ⊎_elim (λ q. r i j x y l q p) (λ q. let k = slice_get_within es j y p in let k2 = q.0
    in absurd (omega arith)) (pushed es (n, b) i x f))
    (λ p. ⊎_elim (λ q. subst (λ (z : ℕ × Block). x.0 < z.0) p.1 (h i x q)) (λ q. let a = p.0 in let c = q.0
    in absurd (omega arith)) (pushed es (n, b) i x f))
    (pushed es (n, b) j y g)

-- blocks stay sorted if a later one is appended
pub order-push : (es : Blocks) (n : ℕ) (b : Block) → n < 2 ^ 32 → AreSortedBlocks es → AreBelow es n
    → AreSortedBlocks (es ++ (n, b) ∷ [])
order-push es n b s o h = record {
  rises = rises-push es n b o.rises h;
  small = λ i x g. ⊎_elim (λ p. o.small i x p) (λ p. subst (λ (z : ℕ × Block). z.0 < 2 ^ 32) p.1 s) (pushed es (
    n,
    b,
  ) i x g);
}

-- a payload that all are below is a new one
pub below-new : (es : Blocks) (n : ℕ) → AreBelow es n → block_at es n ≡ None
below-new es n h = bound-absent es n n h (omega arith)

-- another block at a number: payloads stay
pub record Stays (es : Blocks) (j : ℕ) (x : ℕ × Block) : Type 0 where
  pub was : ℕ × Block
  pub is : slice_get es j ≡ Some was
  pub payload : x.0 ≡ was.0

put-stays : (es : Blocks) (i : ℕ) (b : Block) (j : ℕ) (x : ℕ × Block) → slice_get (set_value_at es i b) j ≡ Some x
    → Stays es j x
put-stays [] i b j x g = absurd (cc)
put-stays (e ∷ es) zero b zero x g = let same : (e.0, b) ≡ x = cc
    in record { was = e; is = refl; payload = sym (ap (λ (p : ℕ × Block). p.0) same) }
put-stays (e ∷ es) zero b (suc j) x g = record { was = x; is = g; payload = refl }
put-stays (e ∷ es) (suc i) b zero x g = let same : e ≡ x = cc
    in record { was = e; is = refl; payload = sym (ap (λ (p : ℕ × Block). p.0) same) }
put-stays (e ∷ es) (suc i) b (suc j) x g = let w = put-stays es i b j x g
    in record { was = w.was; is = w.is; payload = w.payload }

-- blocks stay sorted with another value at a number
pub order-put : (es : Blocks) (i : ℕ) (b : Block) → AreSortedBlocks es → AreSortedBlocks (set_value_at es i b)
order-put es i b o = record {
  rises = λ j k x y l f g.
      let u = put-stays es i b j x f in
      let v = put-stays es i b k y g in
      let p = u.payload in
      let q = v.payload in
      let r = o.rises j k u.was v.was l u.is v.is in
      omega arith;
  small = λ j x g. let u = put-stays es i b j x g in let p = u.payload in let r = o.small j u.was u.is in omega arith;
}

-- a value put at a number is put at its key
pub put-row : (es : Blocks) (n i : ℕ) (b : Block) → HasSortedPayloads es → IsRow es n i
    → set_value_at es i b ≡ set_value (nat_eq n) es b
put-row [] n i b r w = let h = w.is in absurd (cc)
put-row (e ∷ es) n zero b r w =
    let h = w.is in
    let same : e ≡ (n, w.block) = cc in
    sym (cond-true (nat_eq n e.0) ((e.0, b) ∷ es) (e ∷ set_value (nat_eq n) es b)
    (eq-eqb n e.0 (sym (ap (λ (p : ℕ × Block). p.0) same))))
put-row (e ∷ es) n (suc i) b r w =
    let low = r 0 (suc i) e (n, w.block) (omega arith) refl w.is in
    ap (λ (fs : Blocks). e ∷ fs) (put-row es n i b (rises-behind e es r) (record { block = w.block; is = w.is }))
    ∙ sym (cond-false (nat_eq n e.0) ((e.0, b) ∷ es) (e ∷ set_value (nat_eq n) es b)
    (ne_eqb n e.0 (λ f. absurd (omega arith))))

-- a number below the next is below or equal
pub one-more : (j i : ℕ) → j < i + 1 → (j < i) ⊎ (j ≡ i)
one-more j zero h = inr (omega arith)
one-more zero (suc i) h = inl (omega arith)
one-more (suc j) (suc i) h = ⊎_elim (λ k. inl (omega (arith, k))) (λ k.
    inr (omega (arith, k))) (one-more j i (omega arith))

-- a property after an insertion that succeeds
pub ok-then : {A E : Type 0} (r : Result A E) (P : Type 0) → IsOk r → OnOk r P → P
ok-then (Ok x) P i p = p
ok-then (Err e) P i p = absurd (false≢true i)
