-- Bytes and numbers that are read are in memory, and links that pass their tests lead to blocks.
use Rattle.image_check.proofs.Common.{AllByRecursion, AreTextLinks, Extent, HasBytesAt, IsTrue, List, Memory, None}
use Rattle.image_check.proofs.Common.{Option, OwnedText, Role, ScalarKind, Some, Storage, Tile, [], and_from, and_parts}
use Rattle.image_check.proofs.Common.{ap, are_spellings, arith, as_extent, false, false≢true, good_for, handle}
use Rattle.image_check.proofs.Common.{has_backing, if◌then◌else◌, is_none, is_spelling, is_table_link, is_use, is_value}
use Rattle.image_check.proofs.Common.{leads_to, leb-true, length, link_at, list_all, lt-ltb, nat_le, nat_lt}
use Rattle.image_check.proofs.Common.{option_to_list, range_with_len, read, refl, same_role, serves, size_of, spelled}
use Rattle.image_check.proofs.Common.{spelling, spelling-length, subst, suc, sym, true, zero, ℕ, ℤ, ◌&&◌, ◌*◌, ◌++◌}
use Rattle.image_check.proofs.Common.{◌+◌, ◌<◌, ◌==◌, ◌∙◌, ◌∷◌, ◌≡◌, ◌≤◌}
use Rattle.std.proofs.Common.{Bool}
use Rattle.std.specs.Prelude.{option_map}
use Rattle.std.specs.Int.{bytes_low_first}
use Rattle.raw_region.specs.Memory.{word_at}
use Rattle.best_fit.specs.Extents.{holds}
use Rattle.best_fit.proofs.Laws.{extents_of as used}
use Rattle.seg_types.proofs.Laws.{number-back}
use Rattle.image_check.proofs.bytes.Numbers.{AreSmall, bytes_low_first-number_at, number_at, number_at-small}
use Rattle.image_check.proofs.bytes.Numbers.{read-length}
use Rattle.image_check.proofs.bytes.Members.{Mem, mem_filter_map}
use Rattle.image_check.proofs.block_collection.UsedTile.{same_role-is, same_role-refl}
use Rattle.image_check.proofs.read_off.Directory.{block_for, number_from, numbers_from}
use Rattle.image_check.proofs.claims.ReachedLinks.{good_for-IsGood}
use Rattle.image_check.proofs.read_off.Values.{AreStored, IsStored, content, no-places}
use Rattle.image_check.proofs.read_off.GoodValues.{mul-next, mul-none}

-- ---- bytes that are read

-- memory has the bytes that are read
pub HasBytesAt-read : (m : Memory) (at n : ℕ) → HasBytesAt m at (read m at n)
HasBytesAt-read m at n = ap (read m at) (read-length m at n)

-- two lists that follow each other in memory are there as one
pub HasBytesAt-append : (m : Memory) (at : ℕ) (xs ys : List ℕ) → HasBytesAt m at xs
    → HasBytesAt m (at + length xs) ys → HasBytesAt m at (xs ++ ys)
HasBytesAt-append m at [] ys h k = let here : at + 0 ≡ at = omega arith in subst (λ a. HasBytesAt m a ys) here k
HasBytesAt-append m at (x ∷ xs) ys h k =
    let g : m at ∷ read m (at + 1) (length xs) ≡ x ∷ xs = h in
    let first : m at ≡ x = cc in
    let rest : read m (at + 1) (length xs) ≡ xs = cc in
    let here : at + suc (length xs) ≡ at + 1 + length xs = omega arith in
    let both : read m (at + 1) (length (xs ++ ys)) ≡ xs ++ ys =
    HasBytesAt-append m (at + 1) xs ys rest (subst (λ a. HasBytesAt m a ys) here k) in
    λ i. first i ∷ both i

-- ---- numbers

-- the encoding of the number that is read is the bytes that were read
pub spelling-back : (m : Memory) (k : ScalarKind) (at : ℕ) → AreSmall m
    → spelling k (number_from m k at) ≡ read m at (size_of k)
spelling-back m k at s =
    ap (bytes_low_first 0 (size_of k))
    (number-back k (number_at m at (size_of k)) (number_at-small m at (size_of k) s))
    ∙ bytes_low_first-number_at m at (size_of k) s

-- so memory has the number that is read
pub number-stands : (m : Memory) (k : ScalarKind) (at : ℕ) → AreSmall m
    → HasBytesAt m at (spelling k (number_from m k at))
number-stands m k at s = subst (HasBytesAt m at) (sym (spelling-back m k at s)) (HasBytesAt-read m at (size_of k))

-- as many numbers are read as requested
pub numbers-length : (m : Memory) (k : ScalarKind) (at n : ℕ) → length (numbers_from m k at n) ≡ n
numbers-length m k at zero = refl
numbers-length m k at (suc n) = ap suc (numbers-length m k (at + size_of k) n)

-- and memory has them
pub numbers-stand : (m : Memory) (k : ScalarKind) (at n : ℕ) → AreSmall m
    → HasBytesAt m at (spelled k (numbers_from m k at n))
numbers-stand m k at zero s = refl
numbers-stand m k at (suc n) s =
    let z : ℤ = number_from m k at in
    let place : at + size_of k ≡ at + length (spelling k z) = ap (λ l. at + l) (sym (spelling-length k z)) in
    HasBytesAt-append m at (spelling k z) (spelled k (numbers_from m k (at + size_of k) n)) (number-stands m k at s)
    (subst (λ a. HasBytesAt m a (spelled k (numbers_from m k (at + size_of k) n))) place
    (numbers-stand m k (at + size_of k) n s))

numbers-range : (m : Memory) (k : ScalarKind) (at j n : ℕ)
    → IsTrue (list_all (λ i. is_spelling k (read m (at + size_of k * i) (size_of k))) (range_with_len j n))
    → IsTrue (list_all (is_value k) (numbers_from m k (at + size_of k * j) n))
numbers-range m k at j zero h = refl
numbers-range m k at j (suc n) h =
    let there : ℕ = at + size_of k * j in
    let parts = and_parts (is_spelling k (read m there (size_of k)))
    (list_all (λ i. is_spelling k (read m (at + size_of k * i) (size_of k))) (range_with_len (j + 1) n)) h in
    let next = mul-next (size_of k) j in
    let place : at + size_of k * (j + 1) ≡ there + size_of k = omega arith in
    and_from (is_value k (number_from m k there)) (list_all (is_value k) (numbers_from m k (there + size_of k) n))
    parts.0
    (subst (λ a. IsTrue (list_all (is_value k) (numbers_from m k a n))) place (numbers-range m k at (j + 1) n parts.1))

-- numbers read off spellings are values of the kind
pub numbers-good : (m : Memory) (k : ScalarKind) (at n : ℕ) → IsTrue (are_spellings m k at n)
    → IsTrue (list_all (is_value k) (numbers_from m k at n))
numbers-good m k at n h =
    let none = mul-none (size_of k) in
    let place : at + size_of k * 0 ≡ at = omega arith in
    subst (λ a. IsTrue (list_all (is_value k) (numbers_from m k a n))) place (numbers-range m k at 0 n h)

-- and so is a single number
pub one-good : (m : Memory) (k : ScalarKind) (at : ℕ) → IsTrue (are_spellings m k at 1)
    → IsTrue (is_value k (number_from m k at))
one-good m k at h = (and_parts (is_value k (number_from m k at)) true (numbers-good m k at 1 h)).0

-- ---- tests that guard one another

-- both parts of a test that is made only after another
pub unguarded : (p q : Bool) → IsTrue (if p then q else false) → IsTrue p × IsTrue q
unguarded true q h = (refl, h)
unguarded false q h = absurd (false≢true h)

-- ---- links to tiles

used-parts : (offset len : ℕ) (use_of : Option Role) (red : Bool) (role : Role)
    → IsTrue (is_use role (record { offset = offset; len = len; use_of = use_of; red = red }))
    → as_extent (record { offset = offset; len = len; use_of = use_of; red = red })
    ≡ Some (record { offset = offset; len = len; role = role })
used-parts offset len None red role h = absurd (false≢true h)
used-parts offset len (Some r) red role h =
    let e : role ≡ r = same_role-is role r h in
    λ i. Some (record { offset = offset; len = len; role = sym e i })

-- the extent of a tile that is used for a role
pub extent_of_tile : Role → Tile → Extent
extent_of_tile role t = record { offset = t.offset; len = t.len; role = role }

-- a tile of a role is the extent of that role
pub tile-extent : (t : Tile) (role : Role) → IsTrue (is_use role t) → as_extent t ≡ Some (extent_of_tile role t)
unfolding extent_of_tile
tile-extent t role h = used-parts t.offset t.len t.use_of t.red role h

-- the block behind a link
pub record IsLed (ts : List Tile) (role : Role) (link : Option ℕ) (n : ℕ) : Type 0 where
  pub extent : Extent
  pub mem : Mem extent (used ts)
  pub serves : IsTrue (serves extent role n)
  pub leads : link ≡ Some (handle extent)
  pub block : block_for ts role link ≡ Some extent

led-if : (ts : List Tile) (role : Role) (link : Option ℕ) (n : ℕ) (o : Option Tile) → good_for ts role link ≡ o
    → IsTrue (elim o [ None ↦ false | Some t ↦ nat_le (n + 16) t.len ]) → IsLed ts role link n
unfolding extent_of_tile
led-if ts role link n None e h = absurd (false≢true h)
led-if ts role link n (Some t) e h =
    let g = good_for-IsGood ts role link t e in
    let x : Extent = extent_of_tile role t in
    let is = tile-extent t role g.use_of in
    record {
      extent = x;
      mem = mem_filter_map as_extent t x ts g.mem is;
      serves = and_from (same_role x.role role) (holds x n) (same_role-refl role) h;
      leads = g.leads;
      block = ap (λ (o : Option Tile). elim o [ None ↦ None | Some t ↦ as_extent t ]) e ∙ is;
    }

-- a link to a tile that is long enough leads to its extent
pub leads-back : (ts : List Tile) (role : Role) (link : Option ℕ) (n : ℕ) → IsTrue (leads_to ts role link n)
    → IsLed ts role link n
leads-back ts role link n h = led-if ts role link n (good_for ts role link) refl h

-- the block behind the link of a table
pub record IsLinked (ts : List Tile) (role : Role) (each capacity : ℕ) (link : Option ℕ) : Type 0 where
  pub table : IsTrue (has_backing role each (record { capacity = capacity; extent = block_for ts role link }))
  pub leads : link ≡ option_map handle (block_for ts role link)
  pub mem : AllByRecursion (λ x. Mem x (used ts)) (option_to_list (block_for ts role link))

no-link : (link : Option ℕ) → IsTrue (is_none link) → link ≡ None
no-link None h = refl
no-link (Some x) h = absurd (false≢true h)

abbrev said : List Tile → Role → ℕ → ℕ → Option ℕ → Option Extent → Type 0
said ts role each capacity link e =
    IsTrue (has_backing role each (record { capacity = capacity; extent = e })) × (link ≡ option_map handle e)
    × AllByRecursion (λ x. Mem x (used ts)) (option_to_list e)

linked-if : (ts : List Tile) (role : Role) (each capacity : ℕ) (link : Option ℕ) (b : Bool) → (capacity == 0) ≡ b
    → IsTrue (if b then is_none link else leads_to ts role link (each * capacity))
    → said ts role each capacity link (block_for ts role link)
linked-if ts role each capacity link true e h =
    let n = no-link link h in
    subst (λ l. said ts role each capacity l (block_for ts role l)) (sym n) (e, refl, tt)
linked-if ts role each capacity link false e h =
    let l = leads-back ts role link (each * capacity) h in
    let some : 0 < capacity = not-none capacity e in
    subst (λ x. said ts role each capacity link x) (sym l.block) (
      and_from (nat_lt 0 capacity) (serves l.extent role (each * capacity)) (lt-ltb 0 capacity some) l.serves,
      l.leads,
      (l.mem, tt),
    )
  where
    not-none : (n : ℕ) → (n == 0) ≡ false → 0 < n
    not-none zero e = absurd (false≢true (sym e))
    not-none (suc n) e = omega arith

-- a link to a block with this capacity is null if the capacity is 0, and otherwise leads to its extent
pub linked : (ts : List Tile) (role : Role) (each capacity : ℕ) (link : Option ℕ)
    → IsTrue (is_table_link ts role link each capacity) → IsLinked ts role each capacity link
linked ts role each capacity link h =
    let s = linked-if ts role each capacity link (capacity == 0) refl h in
    record { table = s.0; leads = s.1; mem = s.2 }

-- ---- the contents of the block of a link

-- the contents behind a link that is not null
pub content-some : {A : Type 0} (f : ℕ → ℕ → List A) (m : Memory) (at : ℕ) (x : Extent)
    → link_at m at ≡ Some (handle x) → content f m at ≡ f (handle x) (word_at m (at + 8))
content-some f m at x e = ap (λ l. elim l [ None ↦ [] | Some block ↦ f block (word_at m (at + 8)) ]) e

-- no link: no content
pub content-none : {A : Type 0} (f : ℕ → ℕ → List A) (m : Memory) (at : ℕ) → link_at m at ≡ None → content f m at ≡ []
content-none f m at e = ap (λ l. elim l [ None ↦ [] | Some block ↦ f block (word_at m (at + 8)) ]) e

-- the content has the length that was read
pub length-if : {A : Type 0} (f : ℕ → ℕ → List A) → ((a n : ℕ) → length (f a n) ≡ n)
    → (m : Memory) (at : ℕ) (e : Option Extent) → link_at m at ≡ option_map handle e
    → (e ≡ None → word_at m (at + 8) ≡ 0)
    → length (content f m at) ≡ word_at m (at + 8)
length-if f g m at None e none = ap length (content-none f m at e) ∙ sym (none refl)
length-if f g m at (Some x) e none = ap length (content-some f m at x e) ∙ g (handle x) (word_at m (at + 8))

-- a container's words, after the tests have passed
pub record IsHeld (ts : List Tile) (m : Memory) (each at : ℕ) : Type 0 where
  pub few : word_at m (at + 8) ≤ word_at m (at + 16)
  pub link : IsLinked ts Storage each (word_at m (at + 16)) (link_at m at)

-- the content of a container that is held has its length
pub held-length : {A : Type 0} (f : ℕ → ℕ → List A) → ((a n : ℕ) → length (f a n) ≡ n)
    → (ts : List Tile) (m : Memory) (each at : ℕ) → IsHeld ts m each at → length (content f m at) ≡ word_at m (at + 8)
held-length f g ts m each at h =
    length-if f g m at (block_for ts Storage (link_at m at)) h.link.leads
    (λ e. let none = no-places Storage each (word_at m (at + 16)) (block_for ts Storage (link_at m at)) h.link.table
    e in let few = h.few in omega arith)

-- a container that passes its test is held
pub held : (ts : List Tile) (m : Memory) (each at : ℕ)
    → IsTrue (nat_le (word_at m (at + 8)) (word_at m (at + 16))
    && is_table_link ts Storage (link_at m at) each (word_at m (at + 16))) → IsHeld ts m each at
held ts m each at h =
    let p = and_parts (nat_le (word_at m (at + 8)) (word_at m (at + 16)))
    (is_table_link ts Storage (link_at m at) each (word_at m (at + 16))) h in
    record {
      few = leb-true (word_at m (at + 8)) (word_at m (at + 16)) p.0;
      link = linked ts Storage each (word_at m (at + 16)) (link_at m at) p.1;
    }

-- bytes that are read from a block are there
pub stored-if : (m : Memory) (bytes : List ℕ) (e : Option Extent) → (e ≡ None → bytes ≡ [])
    → ((x : Extent) → e ≡ Some x → HasBytesAt m (handle x) bytes) → IsStored m bytes e
stored-if m bytes None n f = n refl
stored-if m bytes (Some x) n f = f x refl

-- an array holds the links of its strings
pub arrays-if : (m : Memory) (ps : List OwnedText) (e : Option Extent) → (e ≡ None → ps ≡ [])
    → ((x : Extent) → e ≡ Some x → AreTextLinks m (handle x) ps) → AreStored m ps e
arrays-if m ps None n f = n refl
arrays-if m ps (Some x) n f = f x refl

-- the link where the block is this
pub link-to : (ts : List Tile) (role : Role) (each capacity : ℕ) (link : Option ℕ) (x : Extent)
    → IsLinked ts role each capacity link → block_for ts role link ≡ Some x → link ≡ Some (handle x)
link-to ts role each capacity link x l e = l.leads ∙ ap (option_map handle) e

-- and without a block
pub link-to_none : (ts : List Tile) (role : Role) (each capacity : ℕ) (link : Option ℕ)
    → IsLinked ts role each capacity link → block_for ts role link ≡ None → link ≡ None
link-to_none ts role each capacity link l e = l.leads ∙ ap (option_map handle) e
