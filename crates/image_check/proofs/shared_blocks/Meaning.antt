-- The links entered in the end decide which blocks are shared and which have no owner.
use Rattle.image_check.proofs.Common.{ChecksClass, Err, Field, HasTiles, IsFirstWrongTile}
use Rattle.image_check.proofs.Common.{IsSharedAt, IsTrue, IsWholeMarking, IsWholeMarkingOf, List, Memory, None, Ok}
use Rattle.image_check.proofs.Common.{Option, Owner, Result, Row, Some, Tile, [], ap, bytes_of, counted_fields, eq-eqb}
use Rattle.image_check.proofs.Common.{eqb-true, false, false≢true, has_owner, is_orphaned, is_shared, is_some}
use Rattle.image_check.proofs.Common.{leads_there, length, list_all, list_any, needs_owner, not, owner, owner_at}
use Rattle.image_check.proofs.Common.{payload, refl, subst, sym, true, ℕ, ◌&&◌, ◌-◌, ◌==◌, ◌||◌, ◌∙◌, ◌∷◌, ◌≡◌}
use Rattle.std.proofs.Common.{Bool}
use Rattle.std.specs.Prelude.{find}
use Rattle.image_check.specs.Fields.{is_left, leave_some}
use Rattle.image_check.specs.Meaning.{IsShared}
use Rattle.image_check.specs.ObjectOffsets.{IsFirstTile}
use Rattle.image_check.specs.Passes.{tiles_in}
use Rattle.image_check.proofs.bytes.Members.{list_any_from, list_any_of}
use Rattle.image_check.proofs.frame.Tags.{image-row}
use Rattle.image_check.proofs.claims.CountedFields.{Contains-Mem, Mem-Contains, counted-means}
use Rattle.image_check.proofs.containers.Meaning.{shared-means}
use Rattle.image_check.proofs.claims.ReachedLinks.{field}
use Rattle.image_check.proofs.shared_blocks.Roots.{covers}
use Rattle.image_check.specs.Owners.{OwnerState}

same-bool : (a b : Bool) → (IsTrue a → IsTrue b) → (IsTrue b → IsTrue a) → a ≡ b
same-bool true b f g = sym (f refl)
same-bool false true f g = g refl
same-bool false false f g = refl

module _ (format : ℕ) (m : Memory) (ts : List Tile) (st : OwnerState)
    (w : IsWholeMarking format m ts st) where
  -- no two links lead to one block
  pub none-shared : IsShared format m ts → ⊥
  none-shared s =
      let a = (covers format m ts st w s.first s.target s.from_first).1 in
      let b = (covers format m ts st w s.second s.target s.from_second).1 in
      let x : Some (owner s.first (covers format m ts st w s.first s.target s.from_first).0)
      ≡ Some (owner s.second (covers format m ts st w s.second s.target s.from_second).0) = sym a ∙ b in
      s.two (place-of x)
    where
      place-of : {p q : Owner} → Some p ≡ Some q → p.at ≡ q.at
      place-of {p} {q} e = let f : p ≡ q = cc in ap (λ (o : Owner). o.at) f

  module _ (end : ℕ) (a : Row 128 ts end) where
    pub not-shared : is_shared format m ts ≡ false
    not-shared = not-true (is_shared format m ts) (λ h. none-shared ((shared-means format m ts end a).0 h))
      where
        not-true : (b : Bool) → (IsTrue b → ⊥) → b ≡ false
        not-true true h = absurd (h refl)
        not-true false h = refl

    found-owner : (n : ℕ) → IsTrue (list_any (λ (f : Field). f.target == n) (counted_fields format m ts))
        → IsTrue (is_some (owner_at st.entries n))
    found-owner n h =
        let s = list_any_of (λ (f : Field). f.target == n) (counted_fields format m ts) h in
        let f : Field = s.one in
        let c = (counted-means format m ts end a f.at f.target).0 (Mem-Contains (counted_fields format m ts) f s.mem) in
        subst (λ x. IsTrue (is_some (owner_at st.entries x))) (eqb-true f.target n s.is)
        (ap is_some (covers format m ts st w f.at f.target c).1)

    some-field : (n : ℕ) (o : Option Owner) → owner_at st.entries n ≡ o → IsTrue (is_some o)
        → IsTrue (list_any (λ (f : Field). f.target == n) (counted_fields format m ts))
    some-field n None e h = absurd (false≢true h)
    some-field n (Some o) e h =
        let c = (counted-means format m ts end a o.at n).1 (w.marking.counts n o e) in
        list_any_from (λ (f : Field). f.target == n) (counted_fields format m ts) (field o.at n)
        (Contains-Mem (counted_fields format m ts) (field o.at n) c) (eq-eqb n n refl)

    pub same-owner : (n : ℕ) → list_any (λ (f : Field). f.target == n) (counted_fields format m ts)
        ≡ is_some (owner_at st.entries n)
    same-owner n = same-bool (list_any (λ (f : Field). f.target == n) (counted_fields format m ts))
        (is_some (owner_at st.entries n)) (found-owner n) (λ h. some-field n (owner_at st.entries n) refl h)

    flipped : (a b c : Bool) → b ≡ c → (a && not b) ≡ not (not a || c)
    flipped true true c e = ap not e
    flipped true false c e = ap not e
    flipped false b c e = refl

    not-and : (a b : Bool) → (not a || not b) ≡ not (a && b)
    not-and true b = refl
    not-and false b = refl

    -- a tile to which no field leads has no owner
    pub left-owner : (t : Tile) → is_left (counted_fields format m ts) t ≡ not (has_owner st.entries t)
    left-owner t = flipped (needs_owner t) (list_any (leads_there t) (counted_fields format m ts))
        (is_some (owner_at st.entries (payload t))) (same-owner (payload t))

    left-some : (us : List Tile) → leave_some us (counted_fields format m ts) ≡ not (list_all (has_owner st.entries) us)
    left-some [] = refl
    left-some (t ∷ us) =
        (λ i. left-owner t i || left-some us i)
        ∙ not-and (has_owner st.entries t) (list_all (has_owner st.entries) us)

    -- the test of orphans looks each tile up
    pub orphaned : is_orphaned format m ts ≡ not (list_all (has_owner st.entries) ts)
    orphaned = left-some ts

-- ---- of an image with good tags

-- all links are entered: no block is shared
pub none-shared-in : (format : ℕ) (b : List ℕ) (st : OwnerState) → HasTiles b
    → IsWholeMarkingOf format b st → not (is_shared format (bytes_of b) (tiles_in b)) ≡ true
none-shared-in format b st h w =
    ap not (not-shared format (bytes_of b) (tiles_in b) st w (length b - 16)
    (image-row b h))

-- a shared block fails the test
pub some-shared-in : (format : ℕ) (b : List ℕ) (at : ℕ) → HasTiles b
    → IsSharedAt format (bytes_of b) (tiles_in b) at → not (is_shared format (bytes_of b) (tiles_in b)) ≡ false
some-shared-in format b at h s =
    ap not ((shared-means format (bytes_of b) (tiles_in b) (length b - 16)
    (image-row b h)).1
    (record {
      first = at;
      second = s.other;
      target = s.target;
      two = s.apart;
      from_first = s.here;
      from_second = s.there;
    }))

owned-in : (format : ℕ) (b : List ℕ) (st : OwnerState) → HasTiles b → IsWholeMarkingOf format b st
    → not (is_orphaned format (bytes_of b) (tiles_in b)) ≡ list_all (has_owner st.entries) (tiles_in b)
owned-in format b st h w =
    ap not (orphaned format (bytes_of b) (tiles_in b) st w (length b - 16)
    (image-row b h))
    ∙ twice (list_all (has_owner st.entries) (tiles_in b))
  where
    twice : (x : Bool) → not (not x) ≡ x
    twice true = refl
    twice false = refl

-- a look at the owners finds the first block without one
pub orphan-found : (format : ℕ) (b : List ℕ) (st : OwnerState) → HasTiles b
    → IsWholeMarkingOf format b st → (k : Result (Unit {0}) ℕ)
    → ChecksClass (list_all (has_owner st.entries) (tiles_in b)) (IsFirstWrongTile (has_owner st.entries) (tiles_in b))
    k
    → ChecksClass (not (is_orphaned format (bytes_of b) (tiles_in b)))
    (IsFirstTile (is_left (counted_fields format (bytes_of b) (tiles_in b))) (tiles_in b)) k
orphan-found format b st h w (Ok done) f = owned-in format b st h w ∙ f
orphan-found format b st h w (Err place) f =
    let m = bytes_of b in
    let ts = tiles_in b in
    let row = image-row b h in (
      owned-in format b st h w ∙ f.0,
      record {
        tile = f.1.tile;
        is = (λ i. find (λ t. left-owner format m ts st w (length b - 16) row t i) ts) ∙ f.1.is;
        at = f.1.at;
      },
    )
