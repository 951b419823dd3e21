-- Links of indexes, of storage and of elements, entered one by one.
use Rattle.image_check.proofs.Common.{AreElementsNoted, HasTiles, Index, IsCountedLink, IsIndexNoted}
use Rattle.image_check.proofs.Common.{IsMarkedLink, IsMarkingOf, IsRooted, IsStorageNoted, List, MarksLink}
use Rattle.image_check.proofs.Common.{MayCount, Memory, Node, None, Option, Owner, Result, Role, Storage}
use Rattle.image_check.proofs.Common.{Tile, ap, arith, bytes_of, cases_eq, index_capacity, length, link_at, owner, refl}
use Rattle.image_check.proofs.Common.{subst, sym, ℕ, ◌*◌, ◌+◌, ◌<◌, ◌^◌, ◌≡◌, ◌≤◌}
use Rattle.raw_region.specs.Format.{current}
use Rattle.image_check.specs.Owners.{IsIndexOffset, IsStart}
use Rattle.image_check.specs.Passes.{tiles_in}
use Rattle.image_check.specs.Sharing.{IsElementOffset, MarksLinks}
use Rattle.image_check.specs.Visits.{AddsVisits}
use Rattle.image_check.proofs.shared_blocks.Worklist.{debts-small}
use Rattle.image_check.proofs.block_collection.Places.{payload-inside}
use mathlib.Core.Logic.{inl, inr}
use Rattle.image_check.specs.Owners.{MarksUnlessShared}
use Rattle.image_check.specs.Owners.{OwnerState}

-- the effect of entering a link at an offset, if no other link leads to its block
abbrev pub Marks : ℕ → List ℕ → Role → Option ℕ → OwnerState → OwnerState → Result (Unit {0}) ℕ → ℕ → Type 0
Marks format b role target old s r at =
    target ≡ link_at (bytes_of b) at → MayCount format (bytes_of b) (tiles_in b) role at
    → IsRooted (tiles_in b) old.entries (owner at at)
    → MarksUnlessShared format b (MarksLink format (bytes_of b) (tiles_in b) None role (owner at at) old s) r

-- few nodes wait
pub few-wait : (format : ℕ) (b : List ℕ) (st : OwnerState) → HasTiles b → IsMarkingOf format b st
    → st.waiting + 1 < 2 ^ 64
few-wait format b st h k =
    let room = k.room in
    let small = debts-small b h in
    omega arith

-- the links of the indexes are before all tiles
pub index-start : (b : List ℕ) (at : ℕ) → HasTiles b → IsIndexOffset at → IsStart (tiles_in b) at
index-start b at h p n t e =
    let low = (payload-inside current (bytes_of b) (length b) Node n t h.tags e).low in
    let small : at ≤ 56 = below p in
    (λ f. absurd (omega arith), λ f. absurd (omega arith))
  where
    below : IsIndexOffset at → at ≤ 56
    below (inl e) = omega arith
    below (inr e) = omega arith

-- the link of an index with capacity can count
pub index-may : (format : ℕ) (m : Memory) (ts : List Tile) (at : ℕ) → IsIndexOffset at → 0 < index_capacity m at
    → MayCount format m ts Index at
index-may format m ts at (inl e) =
    subst (λ (x : ℕ). 0 < index_capacity m x
    → MayCount format m ts Index x) (sym e) (λ p target l. IsCountedLink.named p l)
index-may format m ts at (inr e) =
    subst (λ (x : ℕ). 0 < index_capacity m x
    → MayCount format m ts Index x) (sym e) (λ p target l. IsCountedLink.unique p l)

-- ---- the set of entered links grows

-- no more links are entered
pub grown-none : (format : ℕ) (b : List ℕ) (At : ℕ → Type 0) (st : OwnerState)
    → IsMarkingOf format b st → MarksLinks format b At st st
grown-none format b At st k =
    record { marking = k; keeps = λ n o e. e; only = λ n o e. inl e; less = omega arith }

-- links entered in two steps are entered in both together
pub grown-on : (format : ℕ) (b : List ℕ) (At Be In : ℕ
    → Type 0) (old st fs : OwnerState)
    → ((p : ℕ) → At p → In p) → ((p : ℕ) → Be p → In p) → MarksLinks format b At old st
    → MarksLinks format b Be st fs → MarksLinks format b In old fs
grown-on format b At Be In old st fs f g x y =
    let l = x.less in
    let k = y.less in
    record {
      marking = y.marking;
      keeps = λ n o e. y.keeps n o (x.keeps n o e);
      only = λ n o e. elim (y.only n o e) [
        | inl h ↦ elim (x.only n o h) [ inl i ↦ inl i | inr i ↦ inr (f o.at i) ]
        | inr h ↦ inr (g o.at h)
      ];
      less = omega arith;
    }

-- links that were entered are among more
pub grown-in : (format : ℕ) (b : List ℕ) (At In : ℕ
    → Type 0) (old st : OwnerState)
    → ((p : ℕ) → At p → In p) → MarksLinks format b At old st
    → MarksLinks format b In old st
grown-in format b At In old st f x = record {
  marking = x.marking;
  keeps = x.keeps;
  only = λ n o e. elim (x.only n o e) [ inl i ↦ inl i | inr i ↦ inr (f o.at i) ];
  less = x.less;
}

module _ (format : ℕ) (b : List ℕ) (old st : OwnerState) where
  -- one more link is entered
  pub marked-grown : (role : Role) (at : ℕ)
      → MarksLink format (bytes_of b) (tiles_in b) None role (owner at at) old st
      → MarksLinks format b (λ p. p ≡ at) old st
  marked-grown role at d = record {
    marking = d.marking;
    keeps = d.keeps;
    only = λ n o e. elim (d.only n o e) [ inl f ↦ inl f | inr f ↦ inr (ap (λ (x : Owner). x.at) f) ];
    less = d.less;
  }

  -- the link of an index is entered
  pub marked-index : (at : ℕ) → MarksLink format (bytes_of b) (tiles_in b) None Index (owner at at) old st
      → IsIndexNoted format b at old st
  marked-index at d = record { grown = marked-grown Index at d; noted = λ p. d.noted }

  -- the link of storage is entered
  pub marked-storage : (at : ℕ) → MarksLink format (bytes_of b) (tiles_in b) None Storage (owner at at) old
      st → IsStorageNoted format b at old st
  marked-storage at d = record { grown = marked-grown Storage at d; noted = λ p. d.noted; paid = λ p. d.paid refl }

-- ---- elements

-- the elements before the i-th are entered
pub record NotedElements (format : ℕ) (b : List ℕ) (array : ℕ) (old : OwnerState) (seen i count : ℕ)
    (st : OwnerState) (visits : ℕ) : Type 0 where
  pub done : AreElementsNoted format b array i old st
  pub below : i ≤ count
  pub more : seen ≤ visits
  pub most : visits ≤ seen + 3 * i

pub elements-start : (format : ℕ) (b : List ℕ) (array count seen : ℕ) (st : OwnerState) → IsMarkingOf format b st
    → NotedElements format b array st seen 0 count st seen
elements-start format b array count seen st k = record {
  done = record {
    grown = grown-none format b (IsElementOffset array 0) st k;
    noted = λ i l. absurd (omega arith);
  };
  below = omega arith;
  more = omega arith;
  most = omega arith;
}

-- the links of elements, entered in two steps
pub elements-on : (format : ℕ) (b : List ℕ) (array : ℕ) (old : OwnerState) (seen i count : ℕ) (st : OwnerState) (visits
    : ℕ) (fs : OwnerState) (v2 : ℕ)
    → NotedElements format b array old seen i count st visits → i < count
    → MarksLink format (bytes_of b) (tiles_in b) None Storage (owner (array + 16 * i) (array + 16 * i)) st
    fs → AddsVisits 3 visits v2
    → NotedElements format b array old seen (i + 1) count fs v2
elements-on format b array old seen i count st visits fs v2 k below d v =
    let x = k.more in
    let y = k.most in
    let lo = v.0 in
    let hi = v.1 in
    record {
      done = record {
        grown = grown-on format b (IsElementOffset array i) (λ p.
            p ≡ array + 16 * i) (IsElementOffset array (i + 1)) old st fs
            (λ p h. let l = h.1 in (h.0, omega arith, h.2)) (λ p h.
            (i, omega arith, h)) k.done.grown (marked-grown format b st fs Storage (array + 16 * i) d);
        noted = λ j l. elim (cases_eq j i) [
          | inl e ↦ subst (λ x. IsMarkedLink (bytes_of b) (tiles_in b) fs.entries Storage (array + 16 * x) (array + 16
              * x))
              (sym e) d.noted
          | inr f ↦ (λ n h. d.keeps n _ (k.done.noted j (omega (arith, l, f)) n h))
        ];
      };
      below = omega arith;
      more = omega arith;
      most = omega arith;
    }
