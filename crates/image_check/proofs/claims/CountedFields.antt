-- The list of the fields that count has each link that counts, and no other.
use Rattle.image_check.proofs.Common.{Contains, Field, Index, IsCountedLink, IsTrue, Kind, LeadsTo, List, Map, Memory}
use Rattle.image_check.proofs.Common.{Node, None, Option, Role, Row, Scalar, ScalarKind, Some, Storage, Tile}
use Rattle.image_check.proofs.Common.{[], and_from, and_parts, ap, arith, cases_eq, cond-false, cond-true}
use Rattle.image_check.proofs.Common.{counted_fields, element_fields, element_offsets, false, false≢true, flat_map}
use Rattle.image_check.proofs.Common.{good_for, has_storage, if◌then◌else◌, index_capacity, index_field, is_use, length}
use Rattle.image_check.proofs.Common.{link_at, lt-ltb, ltb-true, nat_lt, ne_eqb, node_fields, payload, range_with_len}
use Rattle.image_check.proofs.Common.{refl, root_link, same_role, some_same, storage_field, subst, suc, sym, true}
use Rattle.image_check.proofs.Common.{true≢false, values, zero, ℕ, ◌&&◌, ◌*◌, ◌++◌, ◌+◌, ◌-◌, ◌/◌, ◌<◌, ◌==◌, ◌∙◌, ◌∷◌}
use Rattle.image_check.proofs.Common.{◌≡◌, ◌≤◌}
use Rattle.std.proofs.Common.{Bool, min}
use Rattle.std.specs.Prelude.{◌↔◌}
use Rattle.std.proofs.lemmas.List.Elements.{All-contains, All-contains_itself, All-from_recursion, recursion_from_All}
use Rattle.raw_region.specs.Memory.{word_at}
use Rattle.seg_types.specs.declared.kinds.Kind.TheVariants.{Strings}
use Rattle.image_check.specs.Fields.{field_at}
use Rattle.image_check.proofs.bytes.Members.{Mem, all_mem, mem_all, mem_flat_map, mem_left, mem_map, mem_of_flat_map}
use Rattle.image_check.proofs.bytes.Members.{mem_of_map, mem_parts, mem_right}
use Rattle.image_check.proofs.block_collection.UsedTile.{one_tile}
use Rattle.image_check.proofs.claims.ReachedLinks.{AreClosed, field, good_for-IsGood, reached-sound, roots-covered}
use Rattle.image_check.proofs.claims.FieldPlaces.{one-use}
use mathlib.Core.Logic.{◌⊎◌, inl, inr}

-- ---- membership and `Contains`

-- a list that contains x has it as a member
pub Contains-Mem : {X : Type 0} (xs : List X) (x : X) → Contains xs x → Mem x xs
Contains-Mem xs x c = All-contains (λ y.
    Mem y xs) xs x (All-from_recursion (λ y. Mem y xs) xs (all_mem (λ y. Mem y xs) xs (λ y h. h))) c

-- and a member is contained
pub Mem-Contains : {X : Type 0} (xs : List X) (x : X) → Mem x xs → Contains xs x
Mem-Contains xs x h = mem_all (Contains xs) xs x (recursion_from_All (Contains xs) xs (All-contains_itself xs)) h

-- ---- links that lead to tiles

leads-if : (m : Memory) (ts : List Tile) (role : Role) (at : ℕ) (t : Tile)
    → good_for ts role (link_at m at) ≡ Some t → LeadsTo m ts role at (payload t)
leads-if m ts role at t e =
    let g = good_for-IsGood ts role (link_at m at) t e in
    (g.leads, (t, ap (good_for ts role) (sym g.leads) ∙ e))

good-from : (m : Memory) (ts : List Tile) (role : Role) (at n : ℕ) (l : LeadsTo m ts role at n)
    → good_for ts role (link_at m at) ≡ Some (l.1.0)
good-from m ts role at n l = ap (good_for ts role) l.0 ∙ l.1.1

leads-payload : (m : Memory) (ts : List Tile) (role : Role) (at n : ℕ) (l : LeadsTo m ts role at n) → payload l.1.0 ≡ n
leads-payload m ts role at n l =
    let g = good_for-IsGood ts role (link_at m at) l.1.0 (good-from m ts role at n l) in
    some_same (payload l.1.0) n (sym g.leads ∙ l.0)

record IsFieldOf (m : Memory) (ts : List Tile) (role : Role) (at : ℕ) (f : Field) : Type 0 where
  place : f.at ≡ at
  leads : LeadsTo m ts role f.at f.target

field-if : (m : Memory) (ts : List Tile) (role : Role) (at : ℕ) (o : Option Tile)
    → good_for ts role (link_at m at) ≡ o → (f : Field)
    → Mem f (elim o [ None ↦ [] | Some t ↦ field at (payload t) ∷ [] ]) → IsFieldOf m ts role at f
field-if m ts role at None e f h = absurd h
field-if m ts role at (Some t) e f (inr h) = absurd h
field-if m ts role at (Some t) e f (inl g) =
    subst (IsFieldOf m ts role at) (sym g) (record { place = refl; leads = leads-if m ts role at t e })

of-field : (m : Memory) (ts : List Tile) (role : Role) (at : ℕ) (f : Field) → Mem f (field_at m ts role at)
    → IsFieldOf m ts role at f
of-field m ts role at f h = field-if m ts role at (good_for ts role (link_at m at)) refl f h

to-field : (m : Memory) (ts : List Tile) (role : Role) (at n : ℕ) → LeadsTo m ts role at n
    → Mem (field at n) (field_at m ts role at)
to-field m ts role at n l =
    subst (λ o. Mem (field at n) (elim o [ None ↦ [] | Some t ↦ field at (payload t) ∷ [] ]))
    (sym (good-from m ts role at n l)) (inl (ap (field at) (sym (leads-payload m ts role at n l))))

module _ (format : ℕ) (m : Memory) (ts : List Tile) where
  abbrev Count : Field → Type 0
  Count f = IsCountedLink format m ts f.at f.target

  -- ---- the fields that count are such

  index-if : (at : ℕ) (b : Bool) → (index_capacity m at == 0) ≡ b → (f : Field)
      → Mem f (if b then [] else field_at m ts Index at) → (0 < index_capacity m at) × IsFieldOf m ts Index at f
  index-if at true e f h = absurd h
  index-if at false e f h = (not-none (index_capacity m at) e, of-field m ts Index at f h)
    where
      not-none : (n : ℕ) → (n == 0) ≡ false → 0 < n
      not-none zero e = absurd (true≢false e)
      not-none (suc n) e = omega arith

  moved : (role : Role) (a b n : ℕ) → a ≡ b → LeadsTo m ts role a n → LeadsTo m ts role b n
  moved role a b n e l = subst (λ x. LeadsTo m ts role x n) e l

  named-counts : (f : Field) → Mem f (index_field m ts 32) → Count f
  named-counts f h =
      let w = index-if 32 (index_capacity m 32 == 0) refl f h in
      subst (λ x. IsCountedLink format m ts x f.target) (sym w.1.place)
      (IsCountedLink.named w.0 (moved Index f.at 32 f.target w.1.place w.1.leads))

  unique-counts : (f : Field) → Mem f (index_field m ts 56) → Count f
  unique-counts f h =
      let w = index-if 56 (index_capacity m 56 == 0) refl f h in
      subst (λ x. IsCountedLink format m ts x f.target) (sym w.1.place)
      (IsCountedLink.unique w.0 (moved Index f.at 56 f.target w.1.place w.1.leads))

  storage-if : (k : Kind) (at : ℕ) (b : Bool) → (has_storage k && nat_lt 0 (word_at m (at + 16))) ≡ b → (f : Field)
      → Mem f (if b then field_at m ts Storage at else [])
      → IsTrue (has_storage k) × (0 < word_at m (at + 16)) × IsFieldOf m ts Storage at f
  storage-if k at true e f h = let p = and_parts (has_storage k) (nat_lt 0 (word_at m (at + 16))) e
      in (p.0, ltb-true 0 (word_at m (at + 16)) p.1, of-field m ts Storage at f h)
  storage-if k at false e f h = absurd h

  storage-counts : (k : Kind) (at : ℕ) → Mem (k, at) (values format m ts) → (f : Field)
      → Mem f (storage_field m ts (k, at)) → Count f
  storage-counts k at v f h =
      let w = storage-if k at (has_storage k && nat_lt 0 (word_at m (at + 16))) refl f h in
      subst (λ x. IsCountedLink format m ts x f.target) (sym w.2.place)
      (IsCountedLink.storage (Mem-Contains (values format m ts) (k, at) v) w.0 w.1
      (moved Storage f.at at f.target w.2.place w.2.leads))

  range-at : (n a i : ℕ) → Mem i (range_with_len a n) → (a ≤ i) × (i < a + n)
  range-at zero a i h = absurd h
  range-at (suc n) a i (inl e) = (omega arith, omega arith)
  range-at (suc n) a i (inr h) = let l = range-at n (a + 1) i h in (omega (arith, l.0), omega (arith, l.1))

  to-range : (n a i : ℕ) → a ≤ i → i < a + n → Mem i (range_with_len a n)
  to-range zero a i l k = absurd (omega arith)
  to-range (suc n) a i l k = elim (cases_eq i a) [
    | inl e ↦ inl e
    | inr d ↦ inr (to-range n (a + 1) i (omega (arith, l, d)) (omega (arith, k)))
  ]

  -- the fields of the elements of an array
  abbrev fields_in : ℕ → Option Tile → List Field
  fields_in n o = elim o [
    | None ↦ []
    | Some t ↦ flat_map (field_at m ts Storage) (element_offsets (payload t) (min n ((t.len - 16) / 16)))
  ]

  elements-if : (at : ℕ) → Mem (Strings, at) (values format m ts) → (b : Bool) → (word_at m (at + 16) == 0) ≡ b
      → (o : Option Tile) → (if b then None else good_for ts Storage (link_at m at)) ≡ o
      → (f : Field) → Mem f (fields_in (word_at m (at + 8)) o) → Count f
  elements-if at v b e None g f h = absurd h
  elements-if at v true e (Some t) g f h = absurd (cc)
  elements-if at v false e (Some t) g f h =
      let n : ℕ = min (word_at m (at + 8)) ((t.len - 16) / 16) in
      let p = mem_of_flat_map (field_at m ts Storage) f (element_offsets (payload t) n) h in
      let i = mem_of_map (λ i. payload t + 16 * i) p.one (range_with_len 0 n) p.mem in
      let r = range-at n 0 i.one i.mem in
      let low = r.1 in
      let w = of-field m ts Storage p.one f p.is in
      let place : f.at ≡ payload t + 16 * i.one = w.place ∙ i.is in
      let some : 0 < word_at m (at + 16) = not-none (word_at m (at + 16)) e in
      subst (λ x. IsCountedLink format m ts x f.target) (sym place)
      (IsCountedLink.element t i.one (Mem-Contains (values format m ts) (Strings, at) v) some g (omega arith)
      (room-of t.len (word_at m (at + 8)) i.one low)
      (moved Storage f.at (payload t + 16 * i.one) f.target place w.leads))
    where
      not-none : (n : ℕ) → (n == 0) ≡ false → 0 < n
      not-none zero e = absurd (true≢false e)
      not-none (suc n) e = omega arith

      room-of : (len n i : ℕ) → i < 0 + min n ((len - 16) / 16) → 16 * i + 32 ≤ len
      room-of len n i l = omega arith

  elements-count : (k : Kind) (at : ℕ) → Mem (k, at) (values format m ts) → (f : Field)
      → Mem f (element_fields m ts (k, at)) → Count f
  elements-count Strings at v f h =
      elements-if at v (word_at m (at + 16) == 0) refl
      (if word_at m (at + 16) == 0 then None else good_for ts Storage (link_at m at)) refl f h
  elements-count (Scalar k) at v f h = absurd h
  elements-count other at v f h = absurd h

  -- a place whose link to a node counts
  abbrev Linked : ℕ → Type 0
  Linked at = (n : ℕ) → LeadsTo m ts Node at n → IsCountedLink format m ts at n

  -- a field that counts and leads to a node
  abbrev NodeField : Field → Type 0
  NodeField f = IsCountedLink format m ts f.at f.target × LeadsTo m ts Node f.at f.target

  linked-closed : AreClosed Linked NodeField m ts
  linked-closed = record {
    step = λ at t h e.
        let l = leads-if m ts Node at t e in
        let k = h (payload t) l in
        ((k, l), (λ n q. IsCountedLink.left k l q), (λ n q. IsCountedLink.right k l q));
  }

  roots-linked : (k : Kind) (at : ℕ) → Mem (k, at) (values format m ts) → (x : ℕ) → Mem x (root_link (k, at)) → Linked x
  roots-linked (Map k q) at v x (inl e) =
      λ n l. subst (λ y. IsCountedLink format m ts y n) (sym e)
      (IsCountedLink.root (Mem-Contains (values format m ts) (Map k q, at) v) (moved Node x at n e l))
  roots-linked (Map k q) at v x (inr h) = absurd h
  roots-linked (Scalar k) at v x h = absurd h
  roots-linked other at v x h = absurd h

  abbrev roots : List ℕ
  roots = flat_map root_link (values format m ts)

  abbrev nodes : List Field
  nodes = node_fields (2 * length ts) m ts [] roots

  nodes-count : (f : Field) → Mem f nodes → NodeField f
  nodes-count f h =
      mem_all NodeField nodes f
      (reached-sound Linked NodeField m ts linked-closed (2 * length ts) [] roots
      (all_mem Linked roots (λ x k. (let p = mem_of_flat_map root_link x (values format m ts) k
      in roots-linked p.one.0 p.one.1 p.mem x p.is)))) h

  abbrev two : List Field
  two = index_field m ts 32 ++ index_field m ts 56

  abbrev three : List Field
  three = two ++ flat_map (storage_field m ts) (values format m ts)

  abbrev four : List Field
  four = three ++ flat_map (element_fields m ts) (values format m ts)

  -- each field of the list counts
  pub listed-counts : (f : Field) → Mem f (counted_fields format m ts) → IsCountedLink format m ts f.at f.target
  listed-counts f k = elim (mem_parts f four nodes k) [
    | inr a ↦ (nodes-count f a).0
    | inl w ↦ elim (mem_parts f three (flat_map (element_fields m ts) (values format m ts)) w) [
      | inr a ↦ (let p = mem_of_flat_map (element_fields m ts) f (values format m ts) a
          in elements-count p.one.0 p.one.1 p.mem f p.is)
      | inl x ↦ elim (mem_parts f two (flat_map (storage_field m ts) (values format m ts)) x) [
        | inr a ↦ (let p = mem_of_flat_map (storage_field m ts) f (values format m ts) a
            in storage-counts p.one.0 p.one.1 p.mem f p.is)
        | inl y ↦ elim (mem_parts f (index_field m ts 32) (index_field m ts 56) y) [
          | inl a ↦ named-counts f a
          | inr a ↦ unique-counts f a
        ]
      ]
    ]
  ]

  -- ---- each field that counts is in the list

  of-four : (f : Field) → Mem f four → Mem f (counted_fields format m ts)
  of-four f k = mem_left f four nodes k

  of-three : (f : Field) → Mem f three → Mem f (counted_fields format m ts)
  of-three f k = of-four f (mem_left f three (flat_map (element_fields m ts) (values format m ts)) k)

  of-two : (f : Field) → Mem f two → Mem f (counted_fields format m ts)
  of-two f k = of-three f (mem_left f two (flat_map (storage_field m ts) (values format m ts)) k)

  -- in which part of the list, and of which role
  data Part (at n : ℕ) : Type 0 where
    of_node : Mem (field at n) nodes → Part at n
    of_other : (role : Role) → same_role Node role ≡ false → LeadsTo m ts role at n → Mem (field at n) four → Part at n

  part-listed : (at n : ℕ) → Part at n → Mem (field at n) (counted_fields format m ts)
  part-listed at n (of_node h) = mem_right (field at n) four nodes h
  part-listed at n (of_other role e l h) = of-four (field at n) h

  index-in : (at n : ℕ) → 0 < index_capacity m at → LeadsTo m ts Index at n → Mem (field at n) (index_field m ts at)
  index-in at n l k =
      subst (λ fs. Mem (field at n) fs)
      (sym (cond-false (index_capacity m at == 0) [] (field_at m ts Index at) (ne_eqb (index_capacity m at) 0 (λ e.
      omega arith)))) (to-field m ts Index at n k)

  storage-in : (k : Kind) (at n : ℕ) → IsTrue (has_storage k) → 0 < word_at m (at + 16) → LeadsTo m ts Storage at n
      → Mem (field at n) (storage_field m ts (k, at))
  storage-in k at n h l q =
      subst (λ fs. Mem (field at n) fs)
      (sym (cond-true (has_storage k && nat_lt 0 (word_at m (at + 16))) (field_at m ts Storage at) []
      (and_from (has_storage k) (nat_lt 0 (word_at m (at + 16))) h (lt-ltb 0 (word_at m (at + 16)) l))))
      (to-field m ts Storage at n q)

  element-in : (at n : ℕ) (t : Tile) (i : ℕ) → 0 < word_at m (at + 16) → good_for ts Storage (link_at m at) ≡ Some t
      → i < word_at m (at + 8) → 16 * i + 32 ≤ t.len
      → LeadsTo m ts Storage (payload t + 16 * i) n
      → Mem (field (payload t + 16 * i) n) (element_fields m ts (Strings, at))
  element-in at n t i l g a r q =
      let k : ℕ = min (word_at m (at + 8)) ((t.len - 16) / 16) in
      let there : (if word_at m (at + 16) == 0 then None else good_for ts Storage (link_at m at)) ≡ Some t =
      cond-false (word_at m (at + 16) == 0) None (good_for ts Storage (link_at m at))
      (ne_eqb (word_at m (at + 16)) 0 (λ e. omega arith)) ∙ g in
      let f : Field = field (payload t + 16 * i) n in
      let long = t.len in
      let count = word_at m (at + 8) in
      subst (λ o. Mem f (fields_in (word_at m (at + 8)) o)) (sym there)
      (mem_flat_map (field_at m ts Storage) (payload t + 16 * i) f (element_offsets (payload t) k)
      (mem_map (λ j. payload t + 16 * j) i (range_with_len 0 k)
      (to-range k 0 i (omega arith) (below t.len (word_at m (at + 8)) i a r)))
      (to-field m ts Storage (payload t + 16 * i) n q))
    where
      below : (len n i : ℕ) → i < n → 16 * i + 32 ≤ len → i < 0 + min n ((len - 16) / 16)
      below len n i a r = omega arith

  root-in : (k q : ScalarKind) (at n : ℕ) → Contains (values format m ts) (Map k q, at) → LeadsTo m ts Node at n
      → Mem (field at n) nodes
  root-in k q at n c l =
      let v = Contains-Mem (values format m ts) (Map k q, at) c in
      let h = (roots-covered format m ts).starts at l.1.0 (mem_flat_map root_link (
        Map k q,
        at,
      ) at (values format m ts) v (inl refl)) (good-from m ts Node at n l) in
      subst (λ x. Mem (field at x) nodes) (leads-payload m ts Node at n l) h

  -- a link of a node that is in the list
  next-in : (at n x y : ℕ) → (x ≡ n) ⊎ (x ≡ n + 8) → LeadsTo m ts Node x y → Mem (field at n) nodes
      → Mem (field x y) nodes
  next-in at n x y e l h = elim ((roots-covered format m ts).nodes (field at n) h) [
    | inl a ↦ absurd a
    | inr a ↦ subst (λ z. Mem (field x z) nodes) (leads-payload m ts Node x y l)
        (a x l.1.0 e (good-from m ts Node x y l))
  ]

  module _ (end : ℕ) (a : Row 128 ts end) where
    -- no tile has two uses
    two-uses : (at n : ℕ) (role : Role) → same_role Node role ≡ false → LeadsTo m ts Node at n
        → LeadsTo m ts role at n → ⊥
    two-uses at n role e l q =
        let g = good_for-IsGood ts Node (link_at m at) l.1.0 (good-from m ts Node at n l) in
        let h = good_for-IsGood ts role (link_at m at) q.1.0 (good-from m ts role at n q) in
        let x = leads-payload m ts Node at n l in
        let y = leads-payload m ts role at n q in
        let same = one_tile 128 ts end l.1.0 q.1.0 a g.mem h.mem (offsets l.1.0 q.1.0 (x ∙ sym y)) in
        let one = one-use l.1.0 Node role g.use_of (ap (is_use role) same ∙ h.use_of) in
        false≢true (sym e ∙ ap (same_role Node) (sym one))
      where
        offsets : (t u : Tile) → payload t ≡ payload u → t.offset ≡ u.offset
        offsets t u e = omega arith

    follow : (at n x y : ℕ) → (x ≡ n) ⊎ (x ≡ n + 8) → LeadsTo m ts Node at n → LeadsTo m ts Node x y → Part at n
        → Part x y
    follow at n x y e l q (of_node h) = of_node (next-in at n x y e q h)
    follow at n x y e l q (of_other role f k h) = absurd (two-uses at n role f l k)

    parts : {at n : ℕ} → IsCountedLink format m ts at n → Part at n
    parts (IsCountedLink.named {target = n} l q) =
        of_other Index refl q (mem_left (field 32 n) three (flat_map (element_fields m ts) (values format m ts))
        (mem_left (field 32 n) two (flat_map (storage_field m ts) (values format m ts))
        (mem_left (field 32 n) (index_field m ts 32) (index_field m ts 56) (index-in 32 n l q))))
    parts (IsCountedLink.unique {target = n} l q) =
        of_other Index refl q (mem_left (field 56 n) three (flat_map (element_fields m ts) (values format m ts))
        (mem_left (field 56 n) two (flat_map (storage_field m ts) (values format m ts))
        (mem_right (field 56 n) (index_field m ts 32) (index_field m ts 56) (index-in 56 n l q))))
    parts (IsCountedLink.storage {k = k} {at = x} {target = n} c h l q) =
        of_other Storage refl q (mem_left (field x n) three (flat_map (element_fields m ts) (values format m ts))
        (mem_right (field x n) two (flat_map (storage_field m ts) (values format m ts))
        (mem_flat_map (storage_field m ts) (
          k,
          x,
        ) (field x n) (values format m ts) (Contains-Mem (values format m ts) (k, x) c) (storage-in k x n h l q))))
    parts (IsCountedLink.element {at = x} {target = n} t i c l g j r q) =
        of_other Storage refl q (mem_right (field (payload t + 16 * i) n) three
        (flat_map (element_fields m ts) (values format m ts))
        (mem_flat_map (element_fields m ts) (
          Strings,
          x,
        ) (field (payload t + 16 * i) n) (values format m ts) (Contains-Mem (values format m ts) (Strings, x) c)
        (element-in x n t i l g j r q)))
    parts (IsCountedLink.root {k = k} {v = v} {at = x} {target = n} c l) = of_node (root-in k v x n c l)
    parts (IsCountedLink.left {at = x} {n = n} {target = y} c l q) = follow x n n y (inl refl) l q (parts c)
    parts (IsCountedLink.right {at = x} {n = n} {target = y} c l q) = follow x n (n + 8) y (inr refl) l q (parts c)

    -- the list has the fields that count
    pub counted-means : (at n : ℕ) → Contains (counted_fields format m ts) (field at n) ↔ IsCountedLink format m ts at n
    counted-means at n = (
      λ c. listed-counts (field at n) (Contains-Mem (counted_fields format m ts) (field at n) c),
      λ c. Mem-Contains (counted_fields format m ts) (field at n) (part-listed at n (parts c)),
    )

    -- a field that counts is in the list
    pub is-listed : (at n : ℕ) → IsCountedLink format m ts at n → Mem (field at n) (counted_fields format m ts)
    is-listed at n c = part-listed at n (parts c)
