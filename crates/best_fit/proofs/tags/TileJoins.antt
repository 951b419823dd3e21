-- Tiles that are joined, cut and given another use: their extents, and that no two free tiles are neighbours.
use Rattle.best_fit.proofs.Common.{◌≡◌, refl, sym, ap, subst, ◌∙◌, ℕ, ◌+◌, ◌-◌, ◌<◌, ◌≤◌, inl, inr, Bool, true, false}
use Rattle.best_fit.proofs.Common.{List, [], ◌∷◌, ◌++◌, arith, nat_lt, nat_le, IsTrue, Some, None, false≢true}
use Rattle.best_fit.proofs.Common.{both_ways, cases_lt, cond-true, cond-false, le-ltb, lt-ltb, le-leb, leb-true}
use Rattle.best_fit.proofs.Common.{filter_map-append, Role, Tile, first_in, free_tile, in_two, is_free, Extent, handle}
use Rattle.best_fit.proofs.Common.{insert, others, share, as_extent, cut_to, free_len, with_free_behind, gaps_of}
use Rattle.best_fit.proofs.extents.Proper.{insert-here, insert-past, others-here, others-past}
use Rattle.best_fit.proofs.tags.TileRows.{Row, Apart, Apart-weaker, unused, used, use_cases, unused-free, used-not_free}
use Rattle.best_fit.proofs.tags.TileRows.{extents_of, extent_of, extents_of-free, extents_of-used, gaps_of-used}
use Rattle.best_fit.proofs.tags.UnchangedTags.{In}

-- a tile of a row begins after the tiles before it
pub row_before : (at : ℕ) (u : Tile) (front : List Tile) (t : Tile) (back : List Tile) (end : ℕ)
    → Row at (u ∷ (front ++ (t ∷ back))) end → u.offset + u.len ≤ t.offset
row_before at u [] t back end r = let o = r.0 in let o' = r.3.0 in omega arith
row_before at u (v ∷ front) t back end r =
    let on = row_before (at + u.len) v front t back end r.3 in let o = r.0 in let o' = r.3.0 in omega arith

-- ---- a tile and the free one after it

-- the tiles after the first
abbrev pub rest_of : List Tile → List Tile
rest_of [] = []
rest_of (t ∷ ts) = ts

-- a tile joined with the free one after it, and the tiles after both
pub record JoinsTo (t : Tile) (back : List Tile) : Type 0 where
  pub gone : List Tile
  pub left : List Tile
  pub gap : ℕ
  pub list : back ≡ gone ++ left
  pub is : with_free_behind t back ≡ record t { len = t.len + gap } ∷ left
  pub len : free_len (first_in back) ≡ gap
  pub extents : extents_of back ≡ extents_of left
  pub apart : (b : Bool) → Apart b back → Apart true left
  pub row : (at end : ℕ) → Row at back end → Row (at + gap) left end
  pub gaps : gaps_of left ≡ gaps_of (rest_of back)
  pub rest_in : (u : Tile) → In u (rest_of back) → In u left

same_len : (t : Tile) → t ≡ record t { len = t.len + 0 }
same_len t = let e : t.len ≡ t.len + 0 = omega arith in λ i. record t { len = e i }

same_row : (at : ℕ) (ts : List Tile) (end : ℕ) → Row at ts end → Row (at + 0) ts end
same_row at ts end r = let e : at ≡ at + 0 = omega arith in subst (λ k. Row k ts end) e r

true_is_used : (u : Tile) (role : Role) → u.use_of ≡ Some role → IsTrue true → IsTrue (is_free u) → ⊥
true_is_used u role e behind free = both_ways (is_free u) (used-not_free u role e) free

-- the tile joined with the free one after it
pub joins_to : (t : Tile) (back : List Tile) → JoinsTo t back
joins_to t [] =
    record {
      gone = [];
      left = [];
      gap = 0;
      list = refl;
      is = ap (λ (u : Tile). u ∷ []) (same_len t);
      len = refl;
      extents = refl;
      apart = λ b a. tt;
      row = λ at end r. same_row at [] end r;
      gaps = refl;
      rest_in = λ u i. i;
    }
joins_to t (u ∷ back) =
    elim (use_cases u) [
      | unused e ↦
          let free = unused-free u e in
          record {
            gone = u ∷ [];
            left = back;
            gap = u.len;
            list = refl;
            is = cond-true (is_free u) (record t { len = t.len + u.len } ∷ back) (t ∷ u ∷ back) free;
            len = cond-true (is_free u) u.len 0 free;
            extents = extents_of-free u back e;
            apart = λ b a. subst (λ (v : Bool). Apart v back) free a.1;
            row = λ at end r. r.3;
            gaps = refl;
            rest_in = λ v i. i;
          }
      | used role e ↦
          let not_free = used-not_free u role e in
          record {
            gone = [];
            left = u ∷ back;
            gap = 0;
            list = refl;
            is = cond-false (is_free u) (record t { len = t.len + u.len } ∷ back) (t ∷ u ∷ back) not_free
                ∙ ap (λ (v : Tile). v ∷ u ∷ back) (same_len t);
            len = cond-false (is_free u) u.len 0 not_free;
            extents = refl;
            apart = λ b a. (true_is_used u role e, a.1);
            row = λ at end r. same_row at (u ∷ back) end r;
            gaps = gaps_of-used u back role e;
            rest_in = λ v i. inr i;
          }
    ]

-- ---- a tile that is cut

-- a tile that is cut, and the free tile after it
pub record CutsTo (len : ℕ) (t : Tile) (back : List Tile) : Type 0 where
  pub left : List Tile
  pub is : cut_to len t back ≡ record t { len = share t.len len } ∷ (left ++ back)
  pub extents : extents_of (left ++ back) ≡ extents_of back
  pub apart : Apart true back → Apart false (left ++ back)
  pub splits : nat_le (len + 32) t.len ≡ true → left ≡ free_tile (t.offset + len) (t.len - len) ∷ []
  pub keeps : nat_le (len + 32) t.len ≡ false → left ≡ []

-- the tile that is cut
pub cuts_to : (len : ℕ) (t : Tile) (back : List Tile) → CutsTo len t back
cuts_to len t back =
    let rest = free_tile (t.offset + len) (t.len - len) in
    elim (cases_lt t.len (len + 32)) [
      | inl l ↦
          let all : t.len ≡ share t.len len =
          sym (cond-true (nat_lt t.len (len + 32)) t.len len (lt-ltb t.len (len + 32) l)) in
          record {
            left = [];
            is = cond-true (nat_lt t.len (len + 32)) (t ∷ back) (in_two len t back) (lt-ltb t.len (len + 32) l)
                ∙ (λ i. record t { len = all i } ∷ back);
            extents = refl;
            apart = Apart-weaker true back;
            splits = λ e. absurd (let m = leb-true (len + 32) t.len e in omega arith);
            keeps = λ e. refl;
          }
      | inr l ↦
          let some : len ≡ share t.len len =
          sym (cond-false (nat_lt t.len (len + 32)) t.len len (le-ltb t.len (len + 32) l)) in
          record {
            left = rest ∷ [];
            is = cond-false (nat_lt t.len (len + 32)) (t ∷ back) (in_two len t back) (le-ltb t.len (len + 32) l)
                ∙ (λ i. record t { len = some i } ∷ rest ∷ back);
            extents = extents_of-free rest back refl;
            apart = λ a. (λ no_one. absurd (false≢true no_one), a);
            splits = λ e. refl;
            keeps = λ e. absurd (both_ways (nat_le (len + 32) t.len) e (le-leb (len + 32) t.len l));
          }
    ]

-- ---- the extents

-- the extents of two lists of tiles
pub extents_of-append : (ts us : List Tile) → extents_of (ts ++ us) ≡ extents_of ts ++ extents_of us
extents_of-append ts us = filter_map-append as_extent ts us

-- an extent before a row is put first
insert_before : (at : ℕ) (ts : List Tile) (end : ℕ) (x : Extent) → Row at ts end → x.offset < at
    → insert x (extents_of ts) ≡ x ∷ extents_of ts
insert_before at [] end x r l = refl
insert_before at (t ∷ ts) end x r l =
    let o = r.0 in
    elim (use_cases t) [
      | unused e ↦ ap (insert x) (extents_of-free t ts e) ∙ insert_before (at + t.len) ts end x r.3 (omega arith)
          ∙ ap (λ xs. x ∷ xs) (sym (extents_of-free t ts e))
      | used role e ↦ ap (insert x) (extents_of-used t ts role e) ∙ insert-here x (extent_of t role) (extents_of ts)
          (omega arith) ∙ ap (λ xs. x ∷ xs) (sym (extents_of-used t ts role e))
    ]

-- an extent at the offset of a tile is inserted between the extents before the tile and after it
pub insert_between : (at : ℕ) (front : List Tile) (t : Tile) (back : List Tile) (end : ℕ) (x : Extent)
    → Row at (front ++ (t ∷ back)) end → x.offset ≡ t.offset
    → insert x (extents_of front ++ extents_of back) ≡ extents_of front ++ (x ∷ extents_of back)
insert_between at [] t back end x r e = let o = r.0 in let long = r.1 in
    insert_before (at + t.len) back end x r.3 (omega arith)
insert_between at (u ∷ front) t back end x r e =
    let ends = row_before at u front t back end r in
    let rest = insert_between (at + u.len) front t back end x r.3 e in
    elim (use_cases u) [
      | unused f ↦
          ap (λ xs. insert x (xs ++ extents_of back)) (extents_of-free u front f) ∙ rest
          ∙ ap (λ xs. xs ++ (x ∷ extents_of back)) (sym (extents_of-free u front f))
      | used q f ↦
          ap (λ xs. insert x (xs ++ extents_of back)) (extents_of-used u front q f)
          ∙ insert-past x (extent_of u q) (extents_of front ++ extents_of back) (omega arith)
          ∙ ap (λ xs. extent_of u q ∷ xs) rest ∙ ap (λ xs. xs ++ (x ∷ extents_of back))
          (sym (extents_of-used u front q f))
    ]

-- the extent of a handle is removed from between the others
pub others_between : (at : ℕ) (front : List Tile) (t : Tile) (back : List Tile) (end : ℕ) (x : Extent) (h : ℕ)
    → Row at (front ++ (t ∷ back)) end → x.offset ≡ t.offset → handle x ≡ h
    → others h (extents_of front ++ (x ∷ extents_of back)) ≡ extents_of front ++ extents_of back
others_between at [] t back end x h r e same = others-here h x (extents_of back) same
others_between at (u ∷ front) t back end x h r e same =
    let ends = row_before at u front t back end r in let long = r.1 in
    let rest = others_between (at + u.len) front t back end x h r.3 e same in
    elim (use_cases u) [
      | unused f ↦
          ap (λ xs. others h (xs ++ (x ∷ extents_of back))) (extents_of-free u front f) ∙ rest
          ∙ ap (λ xs. xs ++ extents_of back) (sym (extents_of-free u front f))
      | used q f ↦
          ap (λ xs. others h (xs ++ (x ∷ extents_of back))) (extents_of-used u front q f)
          ∙ others-past h (extent_of u q) (extents_of front ++ (x ∷ extents_of back)) (λ g. omega arith)
          ∙ ap (λ xs. extent_of u q ∷ xs) rest ∙ ap (λ xs. xs ++ extents_of back) (sym (extents_of-used u front q f))
    ]

-- the extents around a tile in use
pub extents_of-around : (front : List Tile) (t : Tile) (back : List Tile) (role : Role) → t.use_of ≡ Some role
    → extents_of (front ++ (t ∷ back)) ≡ extents_of front ++ (extent_of t role ∷ extents_of back)
extents_of-around front t back role e = extents_of-append front (t ∷ back)
    ∙ ap (λ xs. extents_of front ++ xs) (extents_of-used t back role e)

-- and around a free tile
pub extents_of-around_free : (front : List Tile) (t : Tile) (back : List Tile) → t.use_of ≡ None
    → extents_of (front ++ (t ∷ back)) ≡ extents_of front ++ extents_of back
extents_of-around_free front t back e = extents_of-append front (t ∷ back)
    ∙ ap (λ xs. extents_of front ++ xs) (extents_of-free t back e)
