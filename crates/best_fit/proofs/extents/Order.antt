-- Extents that are inserted and removed: the list after it, and the order of two changes, which does not matter.
use Rattle.best_fit.proofs.Common.{◌≡◌, refl, sym, ap, subst, ◌∙◌, ℕ, ◌<◌, ◌≤◌, ◌⊎◌, Bool, true, false, List, [], ◌∷◌}
use Rattle.best_fit.proofs.Common.{arith, nat_lt, ◌==◌, IsTrue, ◌≢◌, list_any, AllByRecursion, both_ways, cond_both}
use Rattle.best_fit.proofs.Common.{cases_lt, cases_eq, or_cases, or_left, or_right, inl, inr, Extent, handle, end_of}
use Rattle.best_fit.proofs.Common.{proper_from, insert, others}
use Rattle.best_fit.proofs.extents.Proper.{IsFirst, proper_from-IsFirst, proper_from-hole, others-here, others-past}
use Rattle.best_fit.proofs.extents.Proper.{insert-here, insert-past, insert-front}

-- ---- membership in a list with one more extent

-- two extents at different offsets can be inserted in either order
pub insert-comm : (x y : Extent) (zs : List Extent) → x.offset ≢ y.offset
    → insert x (insert y zs) ≡ insert y (insert x zs)
insert-comm x y [] n = grind arith
insert-comm x y (z ∷ zs) n = let ih = insert-comm x y zs n in grind (arith, ih)

-- the new extent passes a test that it passes
pub list_any-insert : (test : Extent → Bool) (x : Extent) (ys : List Extent) → IsTrue (test x)
    → IsTrue (list_any test (insert x ys))
list_any-insert test x [] t = or_left (test x) false t
list_any-insert test x (y ∷ ys) t =
    cond_both (nat_lt x.offset y.offset) (x ∷ y ∷ ys) (y ∷ insert x ys) (λ zs. IsTrue (list_any test zs))
    (λ _. or_left (test x) (list_any test (y ∷ ys)) t)
    (λ _. or_right (test y) (list_any test (insert x ys)) (list_any-insert test x ys t))

-- by whether the first extent passes the test
any_step : (test : Extent → Bool) (x y : Extent) (ys : List Extent) → (test y ≡ true) ⊎ (list_any test ys ≡ true)
    → (IsTrue (list_any test ys) → IsTrue (list_any test (insert x ys)))
    → IsTrue (list_any test (insert x (y ∷ ys)))
any_step test x y ys (inl t) rest =
    cond_both (nat_lt x.offset y.offset) (x ∷ y ∷ ys) (y ∷ insert x ys) (λ zs. IsTrue (list_any test zs))
    (λ _. or_right (test x) (list_any test (y ∷ ys)) (or_left (test y) (list_any test ys) t))
    (λ _. or_left (test y) (list_any test (insert x ys)) t)
any_step test x y ys (inr t) rest =
    cond_both (nat_lt x.offset y.offset) (x ∷ y ∷ ys) (y ∷ insert x ys) (λ zs. IsTrue (list_any test zs))
    (λ _. or_right (test x) (list_any test (y ∷ ys)) (or_right (test y) (list_any test ys) t))
    (λ _. or_right (test y) (list_any test (insert x ys)) (rest t))

-- and the others still pass it
pub list_any-insert_others : (test : Extent → Bool) (x : Extent) (ys : List Extent) → IsTrue (list_any test ys)
    → IsTrue (list_any test (insert x ys))
list_any-insert_others test x [] t = or_right (test x) false t
list_any-insert_others test x (y ∷ ys) t = any_step test x y ys (or_cases (test y) (list_any test ys) t)
    (list_any-insert_others test x ys)

-- by whether the new extent is put first
insert_step : (P : Extent → Type 0) (x y : Extent) (ys : List Extent)
    → (AllByRecursion P (insert x ys) → AllByRecursion P ys)
    → (x.offset < y.offset) ⊎ (y.offset ≤ x.offset) → AllByRecursion P (insert x (y ∷ ys)) → AllByRecursion P (y ∷ ys)
insert_step P x y ys rest (inl l) all = (subst (AllByRecursion P) (insert-here x y ys l) all).1
insert_step P x y ys rest (inr l) all =
    let both = subst (AllByRecursion P) (insert-past x y ys l) all in (both.0, rest both.1)

-- a property of each extent of a list with a new one holds for each without it
pub AllByRecursion-insert : (P : Extent → Type 0) (x : Extent) (ys : List Extent)
    → AllByRecursion P (insert x ys) → AllByRecursion P ys
AllByRecursion-insert P x [] all = tt
AllByRecursion-insert P x (y ∷ ys) all = insert_step P x y ys (AllByRecursion-insert P x ys)
    (cases_lt x.offset y.offset) all

-- a property of a new extent and of each other holds for all
pub AllByRecursion-insert_from : (P : Extent → Type 0) (x : Extent) (ys : List Extent) → P x → AllByRecursion P ys
    → AllByRecursion P (insert x ys)
AllByRecursion-insert_from P x [] here all = (here, tt)
AllByRecursion-insert_from P x (y ∷ ys) here all =
    cond_both (nat_lt x.offset y.offset) (x ∷ y ∷ ys) (y ∷ insert x ys) (AllByRecursion P) (λ _. (here, all))
    (λ _. (all.0, AllByRecursion-insert_from P x ys here all.1))

-- a property of each extent holds for each but one
pub AllByRecursion-others : (P : Extent → Type 0) (h : ℕ) (ys : List Extent) → AllByRecursion P ys
    → AllByRecursion P (others h ys)
AllByRecursion-others P h [] all = tt
AllByRecursion-others P h (y ∷ ys) all =
    cond_both (handle y == h) ys (y ∷ others h ys) (AllByRecursion P) (λ _. all.1)
    (λ _. (all.0, AllByRecursion-others P h ys all.1))

-- by whether the first extent is removed, and whether it passes the test
past_step : (test : Extent → Bool) (h : ℕ) (y : Extent) (ys : List Extent) → (handle y ≡ h → test y ≡ false)
    → (IsTrue (list_any test ys) → IsTrue (list_any test (others h ys)))
    → (handle y ≡ h) ⊎ (handle y ≡ h → ⊥) → (test y ≡ true) ⊎ (list_any test ys ≡ true)
    → IsTrue (list_any test (others h (y ∷ ys)))
past_step test h y ys fails rest (inl e) (inl t) = absurd (both_ways (test y) (fails e) t)
past_step test h y ys fails rest (inl e) (inr t) = rw (others-here h y ys e) t
past_step test h y ys fails rest (inr n) (inl t) = rw (others-past h y ys n)
    (or_left (test y) (list_any test (others h ys)) t)
past_step test h y ys fails rest (inr n) (inr t) = rw (others-past h y ys n)
    (or_right (test y) (list_any test (others h ys)) (rest t))

-- a test that some extent passes, and none with this handle, passes for another
pub list_any-others : (test : Extent → Bool) (h : ℕ) (ys : List Extent)
    → ((y : Extent) → handle y ≡ h → test y ≡ false) → IsTrue (list_any test ys) → IsTrue (list_any test (others h ys))
list_any-others test h [] fails t = t
list_any-others test h (y ∷ ys) fails t =
    past_step test h y ys (fails y) (list_any-others test h ys fails) (cases_eq (handle y) h)
    (or_cases (test y) (list_any test ys) t)

-- ---- one in and one out

-- by whether the new extent is put first
begins_step : (from : ℕ) (x y : Extent) (ys : List Extent) (to : ℕ)
    → (IsTrue (proper_from (end_of y) (insert x ys) to) → end_of y ≤ x.offset)
    → (x.offset < y.offset) ⊎ (y.offset ≤ x.offset) → IsTrue (proper_from from (insert x (y ∷ ys)) to) → from ≤ x.offset
begins_step from x y ys to rest (inl l) p =
    let f = proper_from-IsFirst from x (y ∷ ys) to (rw (insert-here x y ys l) at p) in
    let hole = f.hole in omega arith
begins_step from x y ys to rest (inr l) p =
    let f = proper_from-IsFirst from y (insert x ys) to (rw (insert-past x y ys l) at p) in
    let hole = f.hole in
    let on = rest f.rest in omega arith

-- an extent of a proper list begins where the list begins or later
pub proper_from-insert_begins : (from : ℕ) (x : Extent) (ys : List Extent) (to : ℕ)
    → IsTrue (proper_from from (insert x ys) to) → from ≤ x.offset
proper_from-insert_begins from x [] to p =
    let f = proper_from-IsFirst from x [] to p in
    let hole = f.hole in omega arith
proper_from-insert_begins from x (y ∷ ys) to p =
    begins_step from x y ys to (proper_from-insert_begins (end_of y) x ys to) (cases_lt x.offset y.offset) p

-- by whether the new extent is put first
out_step : (from : ℕ) (x y : Extent) (ys : List Extent) (to : ℕ)
    → (IsTrue (proper_from (end_of y) (insert x ys) to) → others (handle x) (insert x ys) ≡ ys)
    → (x.offset < y.offset) ⊎ (y.offset ≤ x.offset) → IsTrue (proper_from from (insert x (y ∷ ys)) to)
    → others (handle x) (insert x (y ∷ ys)) ≡ y ∷ ys
out_step from x y ys to rest (inl l) p = rw (insert-here x y ys l) (others-here (handle x) x (y ∷ ys) refl)
out_step from x y ys to rest (inr l) p =
    let f = proper_from-IsFirst from y (insert x ys) to (rw (insert-past x y ys l) at p) in
    let begins = proper_from-insert_begins (end_of y) x ys to f.rest in
    let long = f.block.long in
    rw (insert-past x y ys l) (others-past (handle x) y (insert x ys) (λ e. omega arith)
    ∙ ap (λ zs. y ∷ zs) (rest f.rest))

-- inserting an extent and removing it restores the list
pub others-insert_same : (from : ℕ) (x : Extent) (ys : List Extent) (to : ℕ)
    → IsTrue (proper_from from (insert x ys) to) → others (handle x) (insert x ys) ≡ ys
others-insert_same from x [] to p = others-here (handle x) x [] refl
others-insert_same from x (y ∷ ys) to p =
    out_step from x y ys to (others-insert_same (end_of y) x ys to) (cases_lt x.offset y.offset) p

-- by whether the new extent is inserted first, and whether the first one is removed
swap_step : (from : ℕ) (x y : Extent) (ys : List Extent) (to h : ℕ) → IsFirst from y ys to → (handle x ≡ h → ⊥)
    → others h (insert x ys) ≡ insert x (others h ys)
    → (x.offset < y.offset) ⊎ (y.offset ≤ x.offset) → (handle y ≡ h) ⊎ (handle y ≡ h → ⊥)
    → others h (insert x (y ∷ ys)) ≡ insert x (others h (y ∷ ys))
swap_step from x y ys to h f other rest (inl l) (inl e) =
    let long = f.block.long in
    let next = proper_from-hole (end_of y) ys to f.rest in
    rw (insert-here x y ys l, others-past h x (y ∷ ys) other, others-here h y ys e)
    (sym (insert-front x ys to (omega arith)))
swap_step from x y ys to h f other rest (inl l) (inr n) =
    rw (insert-here x y ys l, others-past h x (y ∷ ys) other, others-past h y ys n)
    (sym (insert-here x y (others h ys) l))
swap_step from x y ys to h f other rest (inr l) (inl e) =
    rw (insert-past x y ys l, others-here h y (insert x ys) e, others-here h y ys e)
swap_step from x y ys to h f other rest (inr l) (inr n) =
    rw (insert-past x y ys l, others-past h y (insert x ys) n, others-past h y ys n, insert-past x y (others h ys) l)
    (ap (λ zs. y ∷ zs) rest)

-- inserting one extent and removing another of a proper list can be done in either order
pub others-insert : (from : ℕ) (x : Extent) (ys : List Extent) (to h : ℕ) → IsTrue (proper_from from ys to)
    → (handle x ≡ h → ⊥) → others h (insert x ys) ≡ insert x (others h ys)
others-insert from x [] to h p other = others-past h x [] other
others-insert from x (y ∷ ys) to h p other =
    let f = proper_from-IsFirst from y ys to p in
    swap_step from x y ys to h f other (others-insert (end_of y) x ys to h f.rest other)
    (cases_lt x.offset y.offset) (cases_eq (handle y) h)

-- two extents can be removed in either order
pub others-comm : (g h : ℕ) (xs : List Extent) → others g (others h xs) ≡ others h (others g xs)
others-comm g h [] = refl
others-comm g h (y ∷ ys) = by_case (cases_eq (handle y) g) (cases_eq (handle y) h) (others-comm g h ys)
  where
    by_case : (handle y ≡ g) ⊎ (handle y ≡ g → ⊥) → (handle y ≡ h) ⊎ (handle y ≡ h → ⊥)
        → others g (others h ys) ≡ others h (others g ys)
        → others g (others h (y ∷ ys)) ≡ others h (others g (y ∷ ys))
    by_case (inl q) (inl r) rest =
        ap (λ k. others k (others h (y ∷ ys))) (sym q ∙ r) ∙ ap (λ k. others h (others k (y ∷ ys))) (sym r ∙ q)
    by_case (inl q) (inr r) rest =
        ap (others g) (others-past h y ys r) ∙ others-here g y (others h ys) q
        ∙ ap (others h) (sym (others-here g y ys q))
    by_case (inr q) (inl r) rest =
        ap (others g) (others-here h y ys r) ∙ sym (others-here h y (others g ys) r)
        ∙ ap (others h) (sym (others-past g y ys q))
    by_case (inr q) (inr r) rest =
        ap (others g) (others-past h y ys r) ∙ others-past g y (others h ys) q ∙ ap (λ (zs : List Extent). y ∷ zs) rest
        ∙ sym (others-past h y (others g ys) r) ∙ ap (others h) (sym (others-past g y ys q))
