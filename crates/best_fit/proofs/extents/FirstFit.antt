-- What a request takes: the front of a gap that is long enough.
use Rattle.best_fit.proofs.Common.{◌≡◌, ◌∙◌, ap, refl, subst, sym, ℕ, ◌+◌, ◌-◌, ◌%◌, ◌<◌, ◌≤◌, ◌⊎◌, true, false, ◌&&◌}
use Rattle.best_fit.proofs.Common.{◌||◌, List, [], ◌∷◌, arith, nat_lt, nat_le, if◌then◌else◌, IsTrue, Option, Some}
use Rattle.best_fit.proofs.Common.{None, All, filter, option_map, IfSome, leb-true, le-leb, ltb-true, lt-ltb, le-ltb}
use Rattle.best_fit.proofs.Common.{and_parts, cond-true, cond-false, cond_both, cases_Bool, cases_lt, none-some}
use Rattle.best_fit.proofs.Common.{same_Some, All-head, All-tail, inl, inr, Role, Extent, LiveSet, Gap, gaps_from}
use Rattle.best_fit.proofs.Common.{gaps, holds, room, share, precedes, least, fit, place, gap_after, longer, shorter}
use Rattle.std.proofs.lemmas.List.Elements.{All-filter, filter_passes}
use Rattle.best_fit.proofs.extents.Gaps.{LiesIn, gaps_from-LiesIn}

-- ---- lengths

-- the length of a block is whole and long enough for n bytes of payload
pub record IsRoom (n r : ℕ) : Type 0 where
  pub long : 32 ≤ r
  pub len : r % 16 ≡ 0
  pub holds : n + 16 ≤ r

-- and `room n` is such a room
pub room-IsRoom : (n : ℕ) → IsRoom n (room n)
room-IsRoom n = record { long = omega arith; len = omega arith; holds = omega arith }

-- the number of available bytes that are used: all of them, or the requested number if enough for a free block remains
pub record IsShare (available wanted s : ℕ) : Type 0 where
  pub enough : wanted ≤ s
  pub within : s ≤ available
  pub left : (s ≡ available) ⊎ ((s ≡ wanted) × (wanted + 32 ≤ available))

-- by whether enough for a free block is left
share_cases : (available wanted : ℕ) → wanted ≤ available → (available < wanted + 32) ⊎ (wanted + 32 ≤ available)
    → IsShare available wanted (share available wanted)
share_cases available wanted fits (inl l) =
    rw (cond-true (nat_lt available (wanted + 32)) available wanted (lt-ltb available (wanted + 32) l))
    (record { enough = fits; within = omega arith; left = inl refl })
share_cases available wanted fits (inr l) =
    rw (cond-false (nat_lt available (wanted + 32)) available wanted (le-ltb available (wanted + 32) l))
    (record { enough = omega arith; within = fits; left = inr (refl, l) })

-- the share of a request is such a number
pub share-IsShare : (available wanted : ℕ) → wanted ≤ available → IsShare available wanted (share available wanted)
share-IsShare available wanted fits = share_cases available wanted fits (cases_lt available (wanted + 32))

-- ---- the least gap is in the list

-- by whether the rest of the list has a least
least_step : (P : Gap → Type 0) (g : Gap) (o : Option Gap) → P g → IfSome o P
    → IfSome (elim o as (λ _. Option Gap) [ None ↦ Some g | Some h ↦ Some (if precedes g h then g else h) ]) P
least_step P g None here rest = here
least_step P g (Some h) here rest = cond_both (precedes g h) g h P (λ _. here) (λ _. rest)

-- a property of each gap holds for the least
pub least-All : (P : Gap → Type 0) (gs : List Gap) → All P gs → IfSome (least gs) P
least-All P [] all = tt
least-All P (g ∷ gs) all = least_step P g (least gs) (All-head P g gs all) (least-All P gs (All-tail P g gs all))

-- a property of the value of a result
pub IfSome_is : {A : Type 0} (P : A → Type 0) (o : Option A) (x : A) → o ≡ Some x → IfSome o P → P x
IfSome_is P o x e h = subst (λ r. IfSome r P) e h

-- ---- the fit of a request and its place

-- a gap of the live set that has room for n bytes
pub record IsFit (live : LiveSet) (n : ℕ) (g : Gap) : Type 0 where
  pub lies : LiesIn 128 live.extents (live.size - 16) g
  pub room : IsTrue (nat_le (room n) g.len)

-- the fit of a request is a fit
pub fit-IsFit : (live : LiveSet) (n : ℕ) → IfSome (fit live n) (IsFit live n)
unfolding fit gaps
fit-IsFit live n =
    let gs = gaps_from 128 live.extents (live.size - 16) in
    let long = λ (g : Gap). nat_le (room n) g.len in
    least-All (IsFit live n) (filter long gs)
    (λ k d l. record {
      lies = All-filter long (LiesIn 128 live.extents (live.size - 16)) gs
          (gaps_from-LiesIn 128 live.extents (live.size - 16)) k d l;
      room = filter_passes long gs k d l;
    })

-- the front of a fit, as long as the request's share
pub record IsPlaced (live : LiveSet) (n : ℕ) (x : Extent) : Type 0 where
  pub gap : Gap
  pub fits : IsFit live n gap
  pub offset : x.offset ≡ gap.offset
  pub len : IsShare gap.len (room n) x.len

-- by whether there is a fit
place_step : (live : LiveSet) (n : ℕ) (role : Role) (o : Option Gap) → IfSome o (IsFit live n)
    → IfSome (option_map (λ (g : Gap). let x : Extent = record {
      offset = g.offset;
      len = share g.len (room n);
      role = role;
    } in x) o) (IsPlaced live n)
place_step live n role None fits = tt
place_step live n role (Some g) fits =
    record {
      gap = g;
      fits = fits;
      offset = refl;
      len = share-IsShare g.len (room n) (leb-true (room n) g.len fits.room);
    }

-- an allocation uses the front of a fit
pub place-IsPlaced : (live : LiveSet) (n : ℕ) (role : Role) → IfSome (place live n role) (IsPlaced live n)
unfolding place
place-IsPlaced live n role = place_step live n role (fit live n) (fit-IsFit live n)

-- an allocation holds the requested bytes
pub IsPlaced-holds : (live : LiveSet) (n : ℕ) (x : Extent) → IsPlaced live n x → IsTrue (holds x n)
IsPlaced-holds live n x placed =
    let enough = placed.len.enough in
    let fits = (room-IsRoom n).holds in
    le-leb (n + 16) x.len (omega arith)

-- and the result of `place` holds the bytes
pub place-holds : (live : LiveSet) (n : ℕ) (role : Role) (x : Extent) → place live n role ≡ Some x → IsTrue (holds x n)
place-holds live n role x e = IsPlaced-holds live n x
    (IfSome_is (IsPlaced live n) (place live n role) x e (place-IsPlaced live n role))

-- ---- lengths in place

-- the result of `longer`: the extent with a share of the available bytes, which holds n bytes
pub record IsLonger (live : LiveSet) (x : Extent) (n : ℕ) (y : Extent) : Type 0 where
  pub same : record x { len = share (x.len + gap_after live x) (room n) } ≡ y
  pub short : x.len < room n
  pub fits : room n ≤ x.len + gap_after live x
  pub begins : y.offset ≡ x.offset
  pub role : y.role ≡ x.role
  pub more : x.len < y.len
  pub holds : n + 16 ≤ y.len

-- a block that can be longer, as a test and as a property
pub longer-IsLonger : (live : LiveSet) (x y : Extent) (n : ℕ) → longer live x n ≡ Some y → IsLonger live x n y
unfolding longer
longer-IsLonger live x y n e =
    by_test (cases_Bool (nat_lt x.len (room n) && nat_le (room n) (x.len + gap_after live x)))
  where
    by_test : ((nat_lt x.len (room n) && nat_le (room n) (x.len + gap_after live x)) ≡ true)
        ⊎ ((nat_lt x.len (room n) && nat_le (room n) (x.len + gap_after live x)) ≡ false) → IsLonger live x n y
    by_test (inr f) = absurd (none-some _ (sym (cond-false _ _ _ f) ∙ e))
    by_test (inl t) =
        let two = and_parts (nat_lt x.len (room n)) (nat_le (room n) (x.len + gap_after live x)) t in
        let short = ltb-true x.len (room n) two.0 in let fits = leb-true (room n) (x.len + gap_after live x) two.1 in
        let enough = (share-IsShare (x.len + gap_after live x) (room n) fits).enough in
        let holds = (room-IsRoom n).holds in
        let same = same_Some _ _ (sym (cond-true _ _ _ t) ∙ e) in
        record {
          same = same;
          short = short;
          fits = fits;
          begins = ap (λ (z : Extent). z.offset) (sym same);
          role = ap (λ (z : Extent). z.role) (sym same);
          more = subst (λ (z : Extent). x.len < z.len) same (omega arith);
          holds = subst (λ (z : Extent). n + 16 ≤ z.len) same (omega arith);
        }

-- a number is at most itself
at_most_itself : (a : ℕ) → a ≤ a
at_most_itself a = omega arith

-- and below means at most
below_is_at_most : (a b : ℕ) → a < b → a ≤ b
below_is_at_most a b l = omega arith

-- an extent shortened to hold n bytes holds them if it did before, and only its length differs
pub record IsShorter (x : Extent) (n : ℕ) (y : Extent) : Type 0 where
  pub same : y ≡ record x { len = y.len }
  pub less : y.len ≤ x.len
  pub holds : IsTrue (holds x n) → IsTrue (holds y n)

-- the shorter extent, if x is cut
shorter_step : (live : LiveSet) (x : Extent) (n : ℕ)
    → (nat_lt (room n) x.len && (nat_lt 0 (gap_after live x) || nat_le (room n + 32) x.len)) ≡ true
    → IsShorter x n (record x { len = room n })
shorter_step live x n t =
    let cut = ltb-true (room n) x.len
    (and_parts (nat_lt (room n) x.len) (nat_lt 0 (gap_after live x) || nat_le (room n + 32) x.len) t).0 in
    record {
      same = refl;
      less = below_is_at_most (room n) x.len cut;
      holds = λ _. le-leb (n + 16) (room n) (room-IsRoom n).holds;
    }

-- the result of `shorter` has these properties
pub shorter-IsShorter : (live : LiveSet) (x : Extent) (n : ℕ) → IsShorter x n (shorter live x n)
unfolding shorter
shorter-IsShorter live x n =
    cond_both (nat_lt (room n) x.len && (nat_lt 0 (gap_after live x) || nat_le (room n + 32) x.len))
    (record x { len = room n }) x (IsShorter x n)
    (λ t. shorter_step live x n t) (λ _. record { same = refl; less = at_most_itself x.len; holds = λ h. h })

-- ---- a block in the place of another
