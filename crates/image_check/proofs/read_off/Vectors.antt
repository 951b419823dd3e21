-- Scalars, vectors and texts that pass their tests are good values: they are read, and memory has them.
use Rattle.image_check.proofs.Common.{AllByRecursion, AreTextLinks, Bytes, Elements, Extent, HasBytesAt, IsTrue}
use Rattle.image_check.proofs.Common.{IsValueAt, Kind, List, Memory, None, Numbers, Option, OwnedText, Scalar}
use Rattle.image_check.proofs.Common.{ScalarKind, Some, Storage, String, Texts, Tile, U8, Value, Vector, [], and_from}
use Rattle.image_check.proofs.Common.{and_parts, ap, are_spellings, arith, count_of, element_offsets, eqb-true}
use Rattle.image_check.proofs.Common.{flat_map, handle, has_backing, has_own_block, is_element_at, is_good_value}
use Rattle.image_check.proofs.Common.{is_owned_text, is_table_link, is_value, is_value_in, kind_of, le-leb, leb-true}
use Rattle.image_check.proofs.Common.{length, link_at, list_all, lt-ltb, map, nat_le, nat_lt, option_to_list}
use Rattle.image_check.proofs.Common.{range_with_len, read, refl, serves, size_of, spelled, subst, suc, sym, true}
use Rattle.image_check.proofs.Common.{value_extents, value_len, zero, ℕ, ◌&&◌, ◌*◌, ◌+◌, ◌==◌, ◌∙◌, ◌≡◌, ◌≤◌}
use Rattle.std.specs.Prelude.{option_map}
use Rattle.raw_region.specs.Memory.{word_at}
use Rattle.best_fit.proofs.Laws.{extents_of as used}
use Rattle.seg_types.specs.declared.kinds.Kind.TheVariants.{Strings as StringsKind}
use Rattle.seg_vector.specs.Vector.{IsOwnedText}
use Rattle.segment_manager.proofs.Laws.{AllByRecursion-append}
use Rattle.image_check.specs.Fields.{is_array_at, is_storage_at}
use Rattle.image_check.proofs.bytes.Numbers.{AreSmall, read-length}
use Rattle.image_check.proofs.bytes.Members.{Mem}
use Rattle.image_check.proofs.read_off.Directory.{block_for, bytes_at, elements_at, numbers_from, table_at, texts_at}
use Rattle.image_check.proofs.read_off.Directory.{texts_from}
use Rattle.image_check.proofs.read_off.Values.{no-places, text_extents}
use Rattle.image_check.proofs.claims.Fields.{IsTreeRead}
use Rattle.image_check.proofs.read_off.Numbers.{HasBytesAt-read, arrays-if, content-none, content-some, held}
use Rattle.image_check.proofs.read_off.Numbers.{held-length, length-if, link-to, link-to_none, linked, numbers-good}
use Rattle.image_check.proofs.read_off.Numbers.{numbers-length, numbers-stand, stored-if, unguarded}

-- ---- a good value

-- the properties of a value that is read
pub record IsBack (ts : List Tile) (m : Memory) (at end : ℕ) (k : Kind) (count : ℕ) (v : Value) : Type 0 where
  pub kind : kind_of v ≡ k
  pub count_is : count_of v ≡ count
  pub good : IsTrue (is_good_value v)
  pub stands : IsValueAt m at v
  pub mem : AllByRecursion (λ x. Mem x (used ts)) (value_extents v)
  pub tree : IsTreeRead m ts v at
  pub room : at + value_len v ≤ end

-- the count of a container, and its room
pub container-room : (m : Memory) (count at end : ℕ) → IsTrue ((count == 1) && nat_le (at + 24) end)
    → (count ≡ 1) × (at + 24 ≤ end)
container-room m count at end h =
    let p = and_parts (count == 1) (nat_le (at + 24) end) h in
    (eqb-true count 1 p.0, leb-true (at + 24) end p.1)

-- a scalar or an array that passes is read off
pub scalar-back : (ts : List Tile) (m : Memory) (k : ScalarKind) (count at end : ℕ) → AreSmall m
    → IsTrue (is_value_in m (Scalar k) count at end)
    → IsBack ts m at end (Scalar k) count (Numbers k (numbers_from m k at count))
scalar-back ts m k count at end s h =
    let u = unguarded (nat_le 1 count && nat_le count 1048576 && nat_le (at + size_of k * count) end)
    (are_spellings m k at count) h in
    let p = and_parts (nat_le 1 count && nat_le count 1048576) (nat_le (at + size_of k * count) end) u.0 in
    let n = numbers-length m k at count in
    let room = leb-true (at + size_of k * count) end p.1 in
    record {
      kind = refl;
      count_is = n;
      good = and_from (nat_le 1 (length (numbers_from m k at count))
          && nat_le (length (numbers_from m k at count)) 1048576) (list_all (is_value k) (numbers_from m k at count))
          (subst (λ l. IsTrue (nat_le 1 l && nat_le l 1048576)) (sym n) p.0) (numbers-good m k at count u.1);
      stands = numbers-stand m k at count s;
      mem = tt;
      tree = tt;
      room = subst (λ l. at + size_of k * l ≤ end) (sym n) room;
    }

-- the property of all elements, if there is a block
elements-good : (m : Memory) (k : ScalarKind) (at : ℕ) (link : Option ℕ) (n : ℕ)
    → IsTrue (elim link [ None ↦ true | Some block ↦ are_spellings m k block n ])
    → IsTrue (list_all (is_value k) (elim link [ None ↦ [] | Some block ↦ numbers_from m k block n ]))
elements-good m k at None n h = refl
elements-good m k at (Some block) n h = numbers-good m k block n h

-- a vector that passes is read off
pub vector-back : (ts : List Tile) (m : Memory) (k : ScalarKind) (count at end : ℕ) → AreSmall m
    → IsTrue (is_value_in m (Vector k) count at end) → IsTrue (is_storage_at m ts k at)
    → IsBack ts m at end (Vector k) count (Elements k (elements_at m k at) (table_at m ts Storage at))
vector-back ts m k count at end s h c =
    let r = container-room m count at end h in
    let u = unguarded (nat_le (word_at m (at + 8)) (word_at m (at + 16))
    && is_table_link ts Storage (link_at m at) (size_of k) (word_at m (at + 16)))
    (elim (link_at m at) [ None ↦ true | Some block ↦ are_spellings m k block (word_at m (at + 8)) ]) c in
    let d = held ts m (size_of k) at u.0 in
    let n : length (elements_at m k at) ≡ word_at m (at + 8) =
    held-length (numbers_from m k) (numbers-length m k) ts m (size_of k) at d in
    let few = d.few in
    record {
      kind = refl;
      count_is = sym r.0;
      good = and_from (nat_le (length (elements_at m k at)) (word_at m (at + 16))
          && has_backing Storage (size_of k) (table_at m ts Storage at)) (list_all (is_value k) (elements_at m k at))
          (and_from (nat_le (length (elements_at m k at)) (word_at m (at + 16)))
          (has_backing Storage (size_of k) (table_at m ts Storage at))
          (le-leb (length (elements_at m k at)) (word_at m (at + 16)) (omega arith)) d.link.table)
          (elements-good m k at (link_at m at) (word_at m (at + 8)) u.1);
      stands = record {
        link = d.link.leads;
        len_word = sym n;
        capacity = refl;
        storage = stored-if m (spelled k (elements_at m k at)) (block_for ts Storage (link_at m at))
            (λ e. ap (spelled k) (content-none (numbers_from m k) m at
            (link-to_none ts Storage (size_of k) (word_at m (at + 16)) (link_at m at) d.link e))) (λ x e.
            subst (λ zs. HasBytesAt m (handle x) (spelled k zs))
            (sym (content-some (numbers_from m k) m at x
            (link-to ts Storage (size_of k) (word_at m (at + 16)) (link_at m at) x d.link e)))
            (numbers-stand m k (handle x) (word_at m (at + 8)) s));
      };
      mem = d.link.mem;
      tree = tt;
      room = r.1;
    }

bytes-small : (m : Memory) (at n : ℕ) → AreSmall m → IsTrue (list_all (λ b. nat_lt b 256) (read m at n))
bytes-small m at zero s = refl
bytes-small m at (suc n) s = and_from (nat_lt (m at) 256) (list_all (λ b. nat_lt b 256) (read m (at + 1) n))
    (lt-ltb (m at) 256 (s.at at)) (bytes-small m (at + 1) n s)

all-bytes : (m : Memory) (link : Option ℕ) (n : ℕ) → AreSmall m
    → IsTrue (list_all (λ b. nat_lt b 256) (elim link [ None ↦ [] | Some block ↦ read m block n ]))
all-bytes m None n s = refl
all-bytes m (Some block) n s = bytes-small m block n s

-- a string that passes is read off
pub text-back : (ts : List Tile) (m : Memory) (count at end : ℕ) → AreSmall m
    → IsTrue (is_value_in m String count at end) → IsTrue (is_storage_at m ts U8 at)
    → IsBack ts m at end String count (Bytes (bytes_at m at) (table_at m ts Storage at))
text-back ts m count at end s h c =
    let r = container-room m count at end h in
    let u = unguarded (nat_le (word_at m (at + 8)) (word_at m (at + 16))
    && is_table_link ts Storage (link_at m at) (size_of U8) (word_at m (at + 16)))
    (elim (link_at m at) [ None ↦ true | Some block ↦ are_spellings m U8 block (word_at m (at + 8)) ]) c in
    let d = held ts m 1 at u.0 in
    let n : length (bytes_at m at) ≡ word_at m (at + 8) = held-length (read m) (read-length m) ts m 1 at d in
    let few = d.few in
    record {
      kind = refl;
      count_is = sym r.0;
      good = and_from (nat_le (length (bytes_at m at)) (word_at m (at + 16))
          && has_backing Storage 1 (table_at m ts Storage at)) (list_all (λ b. nat_lt b 256) (bytes_at m at))
          (and_from (nat_le (length (bytes_at m at)) (word_at m (at + 16)))
          (has_backing Storage 1 (table_at m ts Storage at))
          (le-leb (length (bytes_at m at)) (word_at m (at + 16)) (omega arith)) d.link.table)
          (all-bytes m (link_at m at) (word_at m (at + 8)) s);
      stands = record {
        link = d.link.leads;
        len_word = sym n;
        capacity = refl;
        storage = stored-if m (bytes_at m at) (block_for ts Storage (link_at m at))
            (λ e. content-none (read m) m at
            (link-to_none ts Storage 1 (word_at m (at + 16)) (link_at m at) d.link e)) (λ x e.
            subst (HasBytesAt m (handle x))
            (sym (content-some (read m) m at x (link-to ts Storage 1 (word_at m (at + 16)) (link_at m at) x d.link e)))
            (HasBytesAt-read m (handle x) (word_at m (at + 8))));
      };
      mem = d.link.mem;
      tree = tt;
      room = r.1;
    }

-- ---- vectors of texts

record IsElement (ts : List Tile) (m : Memory) (at : ℕ) (p : OwnedText) : Type 0 where
  good : IsTrue (is_owned_text p)
  link : link_at m at ≡ option_map handle p.extent
  len : word_at m (at + 8) ≡ length p.bytes
  owned : IsOwnedText m p
  mem : AllByRecursion (λ x. Mem x (used ts)) (text_extents p)

owned-if : (len : ℕ) (bytes : List ℕ) (e : Option Extent) → length bytes ≡ len
    → IsTrue (has_backing Storage 1 (record { capacity = len; extent = e }))
    → IsTrue (has_own_block (record { bytes = bytes; extent = e }))
owned-if len bytes None n h = ap (λ l. l == 0) n ∙ h
owned-if len bytes (Some x) n h =
    let p = and_parts (nat_lt 0 len) (serves x Storage (1 * len)) h in
    let one : 1 * len ≡ length bytes = omega arith in
    and_from (nat_lt 0 (length bytes)) (serves x Storage (length bytes)) (ap (nat_lt 0) n
    ∙ p.0) (subst (λ l. IsTrue (serves x Storage l)) one p.1)

element-back : (ts : List Tile) (m : Memory) (at : ℕ) → AreSmall m → IsTrue (is_element_at m ts at)
    → IsElement ts m at (record { bytes = bytes_at m at; extent = block_for ts Storage (link_at m at) })
element-back ts m at s h =
    let l = linked ts Storage 1 (word_at m (at + 8)) (link_at m at) h in
    let e : Option Extent = block_for ts Storage (link_at m at) in
    let n : length (bytes_at m at) ≡ word_at m (at + 8) =
    length-if (read m) (read-length m) m at e l.leads (no-places Storage 1 (word_at m (at + 8)) e l.table) in
    record {
      good = and_from (has_own_block (record { bytes = bytes_at m at; extent = e }))
          (list_all (λ b. nat_lt b 256) (bytes_at m at))
          (owned-if (word_at m (at + 8)) (bytes_at m at) e n l.table)
          (all-bytes m (link_at m at) (word_at m (at + 8)) s);
      link = l.leads;
      len = sym n;
      owned = stored-if m (bytes_at m at) e
          (λ f. content-none (read m) m at (link-to_none ts Storage 1 (word_at m (at + 8)) (link_at m at) l f)) (λ x f.
          subst (HasBytesAt m (handle x))
          (sym (content-some (read m) m at x (link-to ts Storage 1 (word_at m (at + 8)) (link_at m at) x l f)))
          (HasBytesAt-read m (handle x) (word_at m (at + 8))));
      mem = l.mem;
    }

-- as many texts are read as requested
pub texts-length : (m : Memory) (ts : List Tile) (at n : ℕ) → length (texts_from m ts at n) ≡ n
texts-length m ts at zero = refl
texts-length m ts at (suc n) = ap suc (texts-length m ts (at + 16) n)

record AreElements (ts : List Tile) (m : Memory) (at : ℕ) (ps : List OwnedText) : Type 0 where
  good : IsTrue (list_all is_owned_text ps)
  links : AreTextLinks m at ps
  owned : AllByRecursion (IsOwnedText m) ps
  mem : AllByRecursion (λ x. Mem x (used ts)) (flat_map text_extents ps)

elements-range : (ts : List Tile) (m : Memory) (at j n : ℕ) → AreSmall m
    → IsTrue (list_all (is_element_at m ts) (map (λ i. at + 16 * i) (range_with_len j n)))
    → AreElements ts m (at + 16 * j) (texts_from m ts (at + 16 * j) n)
elements-range ts m at j zero s h = record { good = refl; links = tt; owned = tt; mem = tt }
elements-range ts m at j (suc n) s h =
    let there : ℕ = at + 16 * j in
    let p = and_parts (is_element_at m ts there)
    (list_all (is_element_at m ts) (map (λ i. at + 16 * i) (range_with_len (j + 1) n))) h in
    let first = element-back ts m there s p.0 in
    let place : at + 16 * (j + 1) ≡ there + 16 = omega arith in
    let rest : AreElements ts m (there + 16) (texts_from m ts (there + 16) n) =
    subst (λ a. AreElements ts m a (texts_from m ts a n)) place (elements-range ts m at (j + 1) n s p.1) in
    let o : OwnedText = record { bytes = bytes_at m there; extent = block_for ts Storage (link_at m there) } in
    record {
      good = and_from (is_owned_text o) (list_all is_owned_text (texts_from m ts (there + 16) n)) first.good rest.good;
      links = (first.link, first.len, rest.links);
      owned = (first.owned, rest.owned);
      mem = AllByRecursion-append (λ x.
          Mem x (used ts)) (text_extents o) (flat_map text_extents (texts_from m ts (there + 16) n)) first.mem rest.mem;
    }

elements-all : (ts : List Tile) (m : Memory) (at n : ℕ) → AreSmall m
    → IsTrue (list_all (is_element_at m ts) (element_offsets at n)) → AreElements ts m at (texts_from m ts at n)
elements-all ts m at n s h =
    let place : at + 16 * 0 ≡ at = omega arith in
    subst (λ a. AreElements ts m a (texts_from m ts a n)) place (elements-range ts m at 0 n s h)

record AreAll (ts : List Tile) (m : Memory) (ps : List OwnedText) : Type 0 where
  good : IsTrue (list_all is_owned_text ps)
  owned : AllByRecursion (IsOwnedText m) ps
  mem : AllByRecursion (λ x. Mem x (used ts)) (flat_map text_extents ps)

array-if : (ts : List Tile) (m : Memory) (link : Option ℕ) (n : ℕ) → AreSmall m
    → IsTrue (elim link [ None ↦ true | Some block ↦ list_all (is_element_at m ts) (element_offsets block n) ])
    → AreAll ts m (elim link [ None ↦ [] | Some block ↦ texts_from m ts block n ])
array-if ts m None n s h = record { good = refl; owned = tt; mem = tt }
array-if ts m (Some block) n s h = let a = elements-all ts m block n s h
    in record { good = a.good; owned = a.owned; mem = a.mem }

links-if : (ts : List Tile) (m : Memory) (link : Option ℕ) (n : ℕ) (x : Extent) → AreSmall m
    → link ≡ Some (handle x) → IsTrue (elim link [
      | None ↦ true
      | Some block ↦ list_all (is_element_at m ts) (element_offsets block n)
    ])
    → AreTextLinks m (handle x) (texts_from m ts (handle x) n)
links-if ts m None n x s e h = absurd (cc)
links-if ts m (Some block) n x s e h =
    let f : block ≡ handle x = cc in
    (elements-all ts m (handle x) n s
    (subst (λ a. IsTrue (list_all (is_element_at m ts) (element_offsets a n))) f h)).links

-- a vector of strings that passes is read off
pub texts-back : (ts : List Tile) (m : Memory) (count at end : ℕ) → AreSmall m
    → IsTrue (is_value_in m StringsKind count at end) → IsTrue (is_array_at m ts at)
    → IsBack ts m at end StringsKind count (Texts (texts_at m ts at) (table_at m ts Storage at))
texts-back ts m count at end s h c =
    let r = container-room m count at end h in
    let u = unguarded (nat_le (word_at m (at + 8)) (word_at m (at + 16))
    && is_table_link ts Storage (link_at m at) 16 (word_at m (at + 16)))
    (elim (link_at m at) [
      | None ↦ true
      | Some block ↦ list_all (is_element_at m ts) (element_offsets block (word_at m (at + 8)))
    ]) c in
    let d = held ts m 16 at u.0 in
    let n : length (texts_at m ts at) ≡ word_at m (at + 8) =
    held-length (texts_from m ts) (texts-length m ts) ts m 16 at d in
    let all : AreAll ts m (texts_at m ts at) = array-if ts m (link_at m at) (word_at m (at + 8)) s u.1 in
    let few = d.few in
    record {
      kind = refl;
      count_is = sym r.0;
      good = and_from (nat_le (length (texts_at m ts at)) (word_at m (at + 16))
          && has_backing Storage 16 (table_at m ts Storage at)) (list_all is_owned_text (texts_at m ts at))
          (and_from (nat_le (length (texts_at m ts at)) (word_at m (at + 16)))
          (has_backing Storage 16 (table_at m ts Storage at))
          (le-leb (length (texts_at m ts at)) (word_at m (at + 16)) (omega arith)) d.link.table)
          all.good;
      stands = record {
        link = d.link.leads;
        len_word = sym n;
        capacity = refl;
        array = arrays-if m (texts_at m ts at) (block_for ts Storage (link_at m at))
            (λ e. content-none (texts_from m ts) m at
            (link-to_none ts Storage 16 (word_at m (at + 16)) (link_at m at) d.link e)) (λ x e.
            let l = link-to ts Storage 16 (word_at m (at + 16)) (link_at m at) x d.link e in
            subst (AreTextLinks m (handle x)) (sym (content-some (texts_from m ts) m at x l))
            (links-if ts m (link_at m at) (word_at m (at + 8)) x s l u.1));
        texts = all.owned;
      };
      mem = AllByRecursion-append (λ x. Mem x (used ts)) (option_to_list (block_for ts Storage (link_at m at)))
          (flat_map text_extents (texts_at m ts at)) d.link.mem all.mem;
      tree = tt;
      room = r.1;
    }
