-- The links behind a value, entered one after another.
use Rattle.image_check.proofs.Common.{AreElementsNoted, AreTextsNoted, Blocks, Err, HasTiles, IsCountedLink}
use Rattle.image_check.proofs.Common.{IsMarkedLink, IsStorageNoted, IsTrue, IsValueGrown, IsValueReady}
use Rattle.image_check.proofs.Common.{Kind, List, Map, MarksLink, MayCount, Node, None, Ok, Option, Result}
use Rattle.image_check.proofs.Common.{ScalarKind, Some, Storage, String, Tile, Vector, ap, arith, bytes_of}
use Rattle.image_check.proofs.Common.{false≢true, good_for, has_link, has_storage, length, link_at, owner, payload}
use Rattle.image_check.proofs.Common.{refl, subst, sym, tile_of, ℕ, ◌%◌, ◌*◌, ◌+◌, ◌<◌, ◌∙◌, ◌≡◌, ◌≤◌, ◌⊎◌}
use Rattle.std.specs.Prelude.{option_map}
use Rattle.raw_region.specs.Memory.{word_at}
use Rattle.raw_region.specs.Format.{current}
use Rattle.seg_types.specs.declared.kinds.Kind.TheVariants.{Strings}
use Rattle.image_check.specs.Passes.{tiles_in}
use Rattle.image_check.specs.Sharing.{AllElements, IsElementOffset, IsInStorage, IsStorageStart, Pays}
use Rattle.image_check.proofs.block_collection.Places.{Found, found}
use Rattle.image_check.proofs.shared_blocks.Links.{grown-in, grown-on, marked-grown}
use Rattle.image_check.proofs.claims.ReachedLinks.{good_for-IsGood}
use mathlib.Core.Logic.{inl, inr}
use Rattle.image_check.specs.Owners.{MarksUnlessShared}
use Rattle.image_check.specs.Owners.{visits_due}
use Rattle.image_check.specs.Owners.{OwnerState}

-- ---- the array of a vector of texts

-- the array behind a link to storage
pub record IsArrayAt (b : List ℕ) (at array len : ℕ) : Type 0 where
  pub tile : Tile
  pub good : good_for (tiles_in b) Storage (link_at (bytes_of b) at) ≡ Some tile
  pub there : payload tile ≡ array
  pub long : tile.len ≡ len
  pub found : tile_of (tiles_in b) Storage array ≡ Some tile

array-if : (b : List ℕ) (at array len : ℕ) (o : Option Tile)
    → good_for (tiles_in b) Storage (link_at (bytes_of b) at) ≡ o → Some len ≡ option_map (λ (t : Tile). t.len) o
    → Some array ≡ link_at (bytes_of b) at → IsArrayAt b at array len
array-if b at array len None e l k = absurd (cc)
array-if b at array len (Some t) e l k =
    let g = good_for-IsGood (tiles_in b) Storage (link_at (bytes_of b) at) t e in
    let f : Some array ≡ Some (payload t) = k ∙ g.leads in
    record {
      tile = t;
      good = e;
      there = sym (some-is f);
      long = sym (some-is l);
      found = ap (good_for (tiles_in b) Storage) k ∙ e;
    }
  where
    some-is : {x y : ℕ} → Some x ≡ Some y → x ≡ y
    some-is {x} {y} e = cc

-- an array behind a link
pub array-at : (b : List ℕ) (at array len : ℕ)
    → Some len ≡ option_map (λ (t : Tile). t.len) (good_for (tiles_in b) Storage (Some array))
    → Some array ≡ link_at (bytes_of b) at → IsArrayAt b at array len
array-at b at array len l k =
    array-if b at array len (good_for (tiles_in b) Storage (link_at (bytes_of b) at)) refl (l
    ∙ ap (λ x. option_map (λ (t : Tile). t.len) (good_for (tiles_in b) Storage x)) k) k

module _ (b : List ℕ) (at array len : ℕ) (h : HasTiles b) (w : IsArrayAt b at array len) where
  place : Found (tiles_in b) Storage array (length b) w.tile
  place = found current (bytes_of b) (length b) Storage array w.tile h.tags w.found

  -- an array has at least 32 bytes
  pub array-long : 32 ≤ len
  array-long = let l = place.lies.long in let e = w.long in omega arith

  -- an array begins at a multiple of 16
  pub array-aligned : array % 16 ≡ 0
  array-aligned = let a = place.lies.whole refl in let t = place.there in omega arith

  -- the elements of an array lie in the window
  pub array-inside : (count : ℕ) → 16 * count + 16 ≤ len → array + 16 * count ≤ length b
  array-inside count r =
      let hi = place.lies.high in
      let t = place.there in
      let e = w.long in
      let l = place.lies.long in
      omega arith

  element-in : (i count p : ℕ) → i < count → 16 * count + 16 ≤ len → p ≡ array + 16 * i → IsInStorage (tiles_in b) p
  element-in i count p l r e = let n = w.long
      in record { start = array; tile = w.tile; is = w.found; from = omega arith; to = omega arith }

  same-tile : (t : Tile) → good_for (tiles_in b) Storage (link_at (bytes_of b) at) ≡ Some t → t ≡ w.tile
  same-tile t e = let g = w.good in cc

  -- before the first string nothing is entered
  pub texts-starts : (format length count : ℕ) → count ≤ length → length ≡ word_at (bytes_of b) (at + 8)
      → 16 * count + 16 ≤ len → 0 < word_at (bytes_of b) (at + 16)
      → AllElements (bytes_of b) (tiles_in b) at (IsStorageStart format b) → (i : ℕ) → i < count
      → IsStorageStart format b (array + 16 * i)
  texts-starts format n count l e r p all i k =
      let long = w.long in
      subst (λ x. IsStorageStart format b (x + 16 * i)) w.there (all w.tile i p w.good (omega arith) (omega arith))

  -- all strings of the array are entered
  pub texts-noted : (format n count : ℕ) → n ≡ word_at (bytes_of b) (at + 8) → 16 * count + 16 ≤ len
      → ((i : ℕ) → i < n → 16 * i + 32 ≤ len → i < count)
      → (old st : OwnerState)
      → AreElementsNoted format b array count old st
      → AreTextsNoted format b at old st
  texts-noted format n count e r fits old st d = record {
    grown = grown-in format b (IsElementOffset array count) (IsInStorage (tiles_in b)) old st
        (λ p k. element-in k.0 count p k.1 r k.2) d.grown;
    noted = λ t i p g l k.
        let same = same-tile t g in
        let long : t.len ≡ len = ap (λ (x : Tile). x.len) same ∙ w.long in
        let there : payload t ≡ array = ap payload same ∙ w.there in
        subst (λ x. IsMarkedLink (bytes_of b) (tiles_in b) st.entries Storage (x + 16 * i) (x + 16 * i)) (sym there)
        (d.noted i (fits i (omega arith) (omega arith)));
  }

-- ---- values

module _ (format : ℕ) (b : List ℕ) (at : ℕ) (old st : OwnerState) where
  -- the root of a map is entered
  pub map-value : (k v : ScalarKind)
      → MarksLink format (bytes_of b) (tiles_in b) None Node (owner at at) old st
      → IsValueGrown format b (Map k v) at old st
  map-value k v d = record {
    grown = grown-in format b (λ p. p ≡ at) (λ p. (IsTrue (has_link (Map k v)) × (p ≡ at))
        ⊎ IsInStorage (tiles_in b) p) old st (λ p e.
        inl (refl, e)) (marked-grown format b old st Node at d);
    noted = record { storage = λ h. absurd (false≢true h); element = λ e. absurd (cc); root = λ x y e. d.noted };
  }

  -- the storage of a string is entered
  pub text-value : IsStorageNoted format b at old st
      → IsValueGrown format b String at old st
  text-value d = record {
    grown = grown-in format b (λ p. p ≡ at) (λ p. (IsTrue (has_link String) × (p ≡ at))
        ⊎ IsInStorage (tiles_in b) p) old st (λ p e. inl (refl, e)) d.grown;
    noted = record { storage = λ h. d.noted; element = λ e. absurd (cc); root = λ x y e. absurd (cc) };
  }

  -- the storage of a vector is entered
  pub vector-value : (k : ScalarKind) → IsStorageNoted format b at old st
      → IsValueGrown format b (Vector k) at old st
  vector-value k d = record {
    grown = grown-in format b (λ p. p ≡ at) (λ p. (IsTrue (has_link (Vector k)) × (p ≡ at))
        ⊎ IsInStorage (tiles_in b) p) old st (λ p e. inl (refl, e)) d.grown;
    noted = record { storage = λ h. d.noted; element = λ e. absurd (cc); root = λ x y e. absurd (cc) };
  }

  module _ (d : IsStorageNoted format b at old st) (fs : OwnerState)
      (t : AreTextsNoted format b at st fs) where
    -- the array of a vector of strings is entered
    pub array-value : IsValueGrown format b Strings at old fs
    array-value = record {
      grown = grown-on format b (λ p. p ≡ at) (IsInStorage (tiles_in b)) (λ p.
          (IsTrue (has_link Strings) × (p ≡ at)) ⊎ IsInStorage (tiles_in b) p) old st fs
          (λ p e. inl (refl, e)) (λ p h. inr h) d.grown t.grown;
      noted = record {
        storage = λ h p n l. t.grown.keeps n _ (d.noted p n l);
        element = λ e. t.noted;
        root = λ x y e. absurd (cc);
      };
    }

-- ---- links of values count

-- the link of storage can count
pub storage-may : (format : ℕ) (b : List ℕ) (kind : Kind) (at : ℕ) (es : Blocks) → IsValueReady format b kind at es
    → IsTrue (has_storage kind) → IsTrue (has_link kind) → 0 < word_at (bytes_of b) (at + 16)
    → IsStorageStart format b at
storage-may format b kind at es r s l p = (r.start l, λ target k. IsCountedLink.storage r.value s p k)

-- the root of a map can count
pub root-may : (format : ℕ) (b : List ℕ) (k v : ScalarKind) (at : ℕ) (es : Blocks)
    → IsValueReady format b (Map k v) at es → MayCount format (bytes_of b) (tiles_in b) Node at
root-may format b k v at es r = λ target l. IsCountedLink.root r.value l

-- a call that adds few visits, and nothing to the due ones
pub pays-from : {A : Type 0} (P : Type 0) (format : ℕ) (b : List ℕ) (n : ℕ) (r : Result A ℕ) (old : ℕ)
    (was : OwnerState) (new : ℕ) (s : OwnerState) → MarksUnlessShared format b P r → old ≤ new → new ≤ old + n
    → (P → visits_due s ≤ visits_due was) → Pays n r old was new s
pays-from P format b n (Ok x) old was new s h lo hi f = let l = f h in (lo, omega arith)
pays-from P format b n (Err x) old was new s h lo hi f = (lo, omega arith)
