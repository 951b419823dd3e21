-- Where no two fields share a target, two objects name different blocks, and one object names a block once.
use Rattle.image_check.proofs.Common.{BackingArray, Bytes, Elements, Extent, Field, IsTrue, List, Memory, Node, None}
use Rattle.image_check.proofs.Common.{Numbers, Option, OwnedText, Pairs, Role, Row, Some, Storage, Texts, Tile, Tree}
use Rattle.image_check.proofs.Common.{Value, [], ap, arith, false, false≢true, flat_map, fork, handle, is_use, leaf}
use Rattle.image_check.proofs.Common.{map, map-append, nodes_of, payload, refl, same_role, subst, sym, value_extents}
use Rattle.image_check.proofs.Common.{value_len, ℕ, ◌++◌, ◌+◌, ◌∙◌, ◌∷◌, ◌≡◌, ◌≤◌}
use Rattle.block_tags.specs.declared.tile.Role.TheVariants.{Object as ObjectRole}
use Rattle.segment_manager.specs.Directory.{Object}
use Rattle.image_check.proofs.bytes.Members.{Mem, mem_flat_map, mem_left, mem_map, mem_of_map, mem_parts, mem_right}
use Rattle.image_check.proofs.block_collection.UsedTile.{from-there, same_role-refl}
use Rattle.image_check.proofs.claims.ReachedLinks.{field}
use Rattle.image_check.proofs.indexes.Entries.{Distinct, distinct-append}
use Rattle.image_check.proofs.claims.Fields.{array_claims, element_claims, node_claims, storage_claims, target_in}
use Rattle.image_check.proofs.claims.Fields.{tree-targets, tree_claims, value-targets}
use Rattle.image_check.proofs.claims.CountedClaims.{all_claims, claims_of, index_at, tables_claims}
use Rattle.image_check.proofs.claims.Forests.{AreAligned, NotBelow, one-tree, targets-distinct, tree-at, two-trees}
use Rattle.image_check.proofs.claims.FieldPlaces.{ArePlaced, IsForest, Lies, at_of, element-array, elements-len, forest}
use Rattle.image_check.proofs.claims.FieldPlaces.{in-one, node-aligned, node-lies, nodes-len, one-use, option-once}
use Rattle.image_check.proofs.claims.FieldPlaces.{storage-at, text-ats}
use mathlib.Core.Logic.{inl, inr}

module _ (ts : List Tile) (end : ℕ) (a : Row 128 ts end) (m : Memory) (os : List Object)
    (named unique : BackingArray) (r : ArePlaced m ts os named unique) where
  abbrev K : Field → Type 0
  K f = Mem f (all_claims m ts os named unique)

  -- a field of an object counts
  pub claimed : (o : Object) → Mem o os → (f : Field) → Mem f (claims_of m ts o) → K f
  claimed o k f h = mem_left f (flat_map (claims_of m ts) os) (tables_claims named unique)
      (mem_flat_map (claims_of m ts) o f os k h)

  in-storage : (o : Object) (f : Field) → Mem f (storage_claims o.value (index_at o)) → Mem f (claims_of m ts o)
  in-storage o f h = mem_left f (storage_claims o.value (index_at o)) (element_claims o.value (index_at o)
      ++ node_claims m ts o.value (index_at o)) h

  in-nodes : (o : Object) (f : Field) → Mem f (node_claims m ts o.value (index_at o)) → Mem f (claims_of m ts o)
  in-nodes o f h =
      mem_right f (storage_claims o.value (index_at o)) (element_claims o.value (index_at o)
      ++ node_claims m ts o.value (index_at o))
      (mem_right f (element_claims o.value (index_at o)) (node_claims m ts o.value (index_at o)) h)

  -- the value of a container lies in its object's tile
  place-lies : (o : Object) (k : Mem o os) → value_len o.value ≡ 24 → Lies (index_at o) (r.objects o k).tile
  place-lies o k e =
      let p = r.objects o k in
      let room = p.room in
      let off = p.offset in
      record { from = omega arith; to = omega arith }

  -- a claim at this offset is a word of the object or of its array; links of map nodes are excluded
  data Home (o : Object) (x : ℕ) : Type 0 where
    at_place : value_len o.value ≡ 24 → x ≡ index_at o → Home o x
    in_array : (t : Tile) → Mem t ts → IsTrue (is_use Storage t) → Lies x t → value_len o.value ≡ 24
        → Mem (field (index_at o) (payload t)) (storage_claims o.value (index_at o)) → Home o x

  -- the offset of a link of a tree
  data NodeHome (o : Object) (x : ℕ) : Type 0 where
    at_root : value_len o.value ≡ 24 → x ≡ index_at o → NodeHome o x
    in_node : (t : Tile) → Mem t ts → IsTrue (is_use Node t) → Lies x t → NodeHome o x

  storage-home : (o : Object) (f : Field) → Mem f (storage_claims o.value (index_at o)) → Home o f.at
  storage-home o f h = let s = storage-at o.value (index_at o) f h in at_place s.1 s.0

  element-home : (o : Object) → Mem o os → (f : Field) → Mem f (element_claims o.value (index_at o)) → Home o f.at
  element-home o k f h =
      let p = r.objects o k in
      let w = element-array ts end a o.value (index_at o) p.good p.extents f h in
      in_array w.0 w.1 w.2 w.3 (elements-len o.value (index_at o) f h) w.4

  node-home : (o : Object) → Mem o os → (f : Field) → Mem f (node_claims m ts o.value (index_at o)) → NodeHome o f.at
  node-home o k f h =
      let p = r.objects o k in
      let w = forest ts end a m o.value (index_at o) p.good p.extents p.tree in
      elim (tree-at (index_at o) w.tree f (subst (Mem f) w.claims h)) [
        | inl e ↦ at_root (nodes-len m ts o.value (index_at o) f h) e
        | inr b ↦ (let t = w.tiles b.node b.mem in in_node t.0 t.1 t.2 (node-lies ts end a b.node t f.at b.is))
      ]

  two-roles : (t u : Tile) (q s : Role) → Mem t ts → Mem u ts → IsTrue (is_use q t) → IsTrue (is_use s u) → (x : ℕ)
      → Lies x t → Lies x u → same_role q s ≡ false → ⊥
  two-roles t u q s h k i j x l n e =
      let same = in-one 128 ts end x t u a h k l n in
      let role = one-use t q s i (ap (is_use s) same ∙ j) in
      false≢true (sym e ∙ ap (λ z. same_role z s) role ∙ same_role-refl s)

  move : (x y : ℕ) (t : Tile) → x ≡ y → Lies y t → Lies x t
  move x y t e l = subst (λ z. Lies z t) (sym e) l

  -- the place of an object's value in a tile of another use
  place-alone : (o : Object) (k : Mem o os) → value_len o.value ≡ 24 → (t : Tile) (q : Role) → Mem t ts
      → IsTrue (is_use q t) → same_role ObjectRole q ≡ false → Lies (index_at o) t → ⊥
  place-alone o k e t q h i n l =
      let p = r.objects o k in
      two-roles p.tile t ObjectRole q p.mem h p.use_of i (index_at o) (place-lies o k e) l n

  -- the values of two objects are at two offsets
  places-differ : (o p : Object) (k : Mem o os) (l : Mem p os) → value_len o.value ≡ 24 → value_len p.value ≡ 24
      → (o.extent.offset ≡ p.extent.offset → ⊥) → index_at o ≡ index_at p → ⊥
  places-differ o p k l e f n g =
      let x = r.objects o k in
      let y = r.objects p l in
      let same = in-one 128 ts end (index_at o) x.tile y.tile a x.mem y.mem (place-lies o k e)
      (move (index_at o) (index_at p) y.tile g (place-lies p l f)) in
      n (sym x.offset ∙ ap (λ (t : Tile). t.offset) same ∙ y.offset)

  homes : (o p : Object) (k : Mem o os) (l : Mem p os) (x : ℕ) → (o.extent.offset ≡ p.extent.offset → ⊥) → Home o x
      → Home p x → ⊥
  homes o p k l x n (at_place e f) (at_place g h) = places-differ o p k l e g n (sym f ∙ h)
  homes o p k l x n (at_place e f) (in_array t h i j g c) =
      place-alone o k e t Storage h i refl (move (index_at o) x t (sym f) j)
  homes o p k l x n (in_array t h i j g c) (at_place e f) =
      place-alone p l e t Storage h i refl (move (index_at p) x t (sym f) j)
  homes o p k l x n (in_array t h i j e c) (in_array u h2 i2 j2 e2 c2) =
      let same = in-one 128 ts end x t u a h h2 j j2 in
      let there : K (field (index_at o) (payload t)) =
      claimed o k (field (index_at o) (payload t)) (in-storage o (field (index_at o) (payload t)) c) in
      let there2 : K (field (index_at p) (payload u)) =
      claimed p l (field (index_at p) (payload u)) (in-storage p (field (index_at p) (payload u)) c2) in
      places-differ o p k l e e2 n (r.unshared.one (field (index_at o) (payload t)) (field (index_at p) (payload u))
      there there2 (ap payload same))

  home-node : (o p : Object) (k : Mem o os) (l : Mem p os) (x : ℕ) → (o.extent.offset ≡ p.extent.offset → ⊥)
      → Home o x → NodeHome p x → ⊥
  home-node o p k l x n (at_place e f) (at_root g h) = places-differ o p k l e g n (sym f ∙ h)
  home-node o p k l x n (at_place e f) (in_node t h i j) =
      place-alone o k e t Node h i refl (move (index_at o) x t (sym f) j)
  home-node o p k l x n (in_array t h i j g c) (at_root e f) =
      place-alone p l e t Storage h i refl (move (index_at p) x t (sym f) j)
  home-node o p k l x n (in_array t h i j g c) (in_node u h2 i2 j2) = two-roles t u Storage Node h h2 i i2 x j j2 refl

  -- ---- maps

  forest-of : (o : Object) → Mem o os → IsForest ts end a m o.value (index_at o)
  forest-of o k = let p = r.objects o k in forest ts end a m o.value (index_at o) p.good p.extents p.tree

  forest-aligned : (o : Object) (k : Mem o os) → AreAligned (nodes_of (forest-of o k).tree)
  forest-aligned o k = record { at = λ n h. node-aligned ts end a n ((forest-of o k).tiles n h) }

  forest-claimed : (o : Object) (k : Mem o os) (f : Field) → Mem f (tree_claims (index_at o) (forest-of o k).tree) → K f
  forest-claimed o k f h = claimed o k f (in-nodes o f (subst (Mem f) (sym (forest-of o k).claims) h))

  not-in-node : (o : Object) (k : Mem o os) → value_len o.value ≡ 24 → (p : Object) (l : Mem p os)
      → NotBelow (index_at o) (nodes_of (forest-of p l).tree)
  not-in-node o k e p l = record {
    first = λ n h f. (let t = (forest-of p l).tiles n h
        in place-alone o k e t.0 Node t.1 t.2 refl (node-lies ts end a n t (index_at o) (inl f)));
    second = λ n h f. (let t = (forest-of p l).tiles n h
        in place-alone o k e t.0 Node t.1 t.2 refl (node-lies ts end a n t (index_at o) (inr f)));
  }

  nodes-apart : (o p : Object) (k : Mem o os) (l : Mem p os) → (o.extent.offset ≡ p.extent.offset → ⊥)
      → (f g : Field) → Mem f (node_claims m ts o.value (index_at o)) → Mem g (node_claims m ts p.value (index_at p))
      → f.target ≡ g.target → ⊥
  nodes-apart o p k l n f g h i e =
      let lo = nodes-len m ts o.value (index_at o) f h in
      let lp = nodes-len m ts p.value (index_at p) g i in
      let s : Tree = (forest-of o k).tree in
      let t : Tree = (forest-of p l).tree in
      let x : Mem f.target (nodes_of s) =
      subst (Mem f.target) (tree-targets (index_at o) s)
      (mem_map target_in f (tree_claims (index_at o) s) (subst (Mem f) (forest-of o k).claims h)) in
      let y : Mem g.target (nodes_of t) =
      subst (Mem g.target) (tree-targets (index_at p) t)
      (mem_map target_in g (tree_claims (index_at p) t) (subst (Mem g) (forest-of p l).claims i)) in
      two-trees K r.unshared (index_at o) s (index_at p) t (forest-claimed o k) (forest-claimed p l)
      (forest-aligned o k) (forest-aligned p l) (places-differ o p k l lo lp n)
      (not-in-node o k lo p l) (not-in-node p l lp o k) f.target x (subst (λ z. Mem z (nodes_of t)) (sym e) y)

  -- ---- two objects name different blocks

  data Part_of (o : Object) (f : Field) : Type 0 where
    home : Home o f.at → Part_of o f
    node : Mem f (node_claims m ts o.value (index_at o)) → Part_of o f

  part-of : (o : Object) (k : Mem o os) (f : Field) → Mem f (claims_of m ts o) → Part_of o f
  part-of o k f h = elim (mem_parts f (storage_claims o.value (index_at o)) (element_claims o.value (index_at o)
      ++ node_claims m ts o.value (index_at o)) h) [
        | inl x ↦ home (storage-home o f x)
        | inr y ↦ elim (mem_parts f (element_claims o.value (index_at o)) (node_claims m ts o.value (index_at o)) y)
            [ inl x ↦ home (element-home o k f x) | inr x ↦ node x ]
      ]

  parts-apart : (o p : Object) (k : Mem o os) (l : Mem p os) → (o.extent.offset ≡ p.extent.offset → ⊥)
      → (f g : Field) → f.at ≡ g.at → f.target ≡ g.target → Part_of o f → Part_of p g → ⊥
  parts-apart o p k l n f g e t (home x) (home y) = homes o p k l f.at n x (subst (Home p) (sym e) y)
  parts-apart o p k l n f g e t (home x) (node y) =
      home-node o p k l f.at n x (subst (NodeHome p) (sym e) (node-home p l g y))
  parts-apart o p k l n f g e t (node x) (home y) =
      home-node p o l k g.at (λ z. n (sym z)) y (subst (NodeHome o) e (node-home o k f x))
  parts-apart o p k l n f g e t (node x) (node y) = nodes-apart o p k l n f g x y t

  -- two objects name different blocks
  pub objects-apart : (o p : Object) (k : Mem o os) (l : Mem p os) → (o.extent.offset ≡ p.extent.offset → ⊥)
      → (x y : Extent) → Mem x (value_extents o.value) → Mem y (value_extents p.value) → handle x ≡ handle y → ⊥
  objects-apart o p k l n x y h i e =
      let c = r.objects o k in
      let d = r.objects p l in
      let f = mem_of_map target_in (handle x) (claims_of m ts o)
      (subst (Mem (handle x)) (sym (value-targets m ts o.value (index_at o) c.good c.tree))
      (mem_map handle x (value_extents o.value) h)) in
      let g = mem_of_map target_in (handle y) (claims_of m ts p)
      (subst (Mem (handle y)) (sym (value-targets m ts p.value (index_at p) d.good d.tree))
      (mem_map handle y (value_extents p.value) i)) in
      let t : (f.one).target ≡ (g.one).target = sym f.is ∙ e ∙ g.is in
      parts-apart o p k l n f.one g.one
      (r.unshared.one f.one g.one (claimed o k f.one f.mem) (claimed p l g.one g.mem) t) t (part-of o k f.one f.mem)
      (part-of p l g.one g.mem)

  -- ---- one object names a block once

  own-elements : (o : Object) (k : Mem o os) (v : Value) → v ≡ o.value
      → Distinct (map at_of (element_claims v (index_at o)))
  own-elements o k (Numbers q zs) e = tt
  own-elements o k (Elements q zs t) e = tt
  own-elements o k (Bytes bs t) e = tt
  own-elements o k (Pairs q v ps) e = tt
  own-elements o k (Texts ps t) e = array-ats t.extent ps
    where
      array-ats : (e : Option Extent) (ps : List OwnedText) → Distinct (map at_of (array_claims e ps))
      array-ats None ps = tt
      array-ats (Some x) ps = text-ats (handle x) ps

  storage-once : (v : Value) (at : ℕ) → Distinct (map target_in (storage_claims v at))
  storage-once (Numbers q zs) at = tt
  storage-once (Elements q zs t) at = option-once t.extent at
  storage-once (Bytes bs t) at = option-once t.extent at
  storage-once (Pairs q v ps) at = tt
  storage-once (Texts ps t) at = option-once t.extent at

  nodes-once : (o : Object) (k : Mem o os) → Distinct (map target_in (node_claims m ts o.value (index_at o)))
  nodes-once o k = nodes-once-if o k (forest-of o k).tree refl
    where
      nodes-once-if : (o : Object) (k : Mem o os) (t : Tree) → t ≡ (forest-of o k).tree
          → Distinct (map target_in (node_claims m ts o.value (index_at o)))
      nodes-once-if o k leaf e =
          let c : node_claims m ts o.value (index_at o) ≡ [] =
          (forest-of o k).claims ∙ ap (tree_claims (index_at o)) (sym e) in
          subst (λ fs. Distinct (map target_in fs)) (sym c) tt
      nodes-once-if o k (fork red l n q) e =
          let t : Tree = (forest-of o k).tree in
          let c : node_claims m ts o.value (index_at o) ≡ tree_claims (index_at o) t = (forest-of o k).claims in
          let root : Mem (field (index_at o) n) (node_claims m ts o.value (index_at o)) =
          subst (Mem (field (index_at o) n)) (sym (c ∙ ap (tree_claims (index_at o)) (sym e)))
          (mem_right (field (index_at o) n) (tree_claims n l) (field (index_at o) n ∷ tree_claims (n + 8) q)
          (inl refl)) in
          subst Distinct (sym (ap (map target_in) c ∙ tree-targets (index_at o) t))
          (one-tree K r.unshared (index_at o) t (forest-claimed o k) (forest-aligned o k)
          (not-in-node o k (nodes-len m ts o.value (index_at o) (field (index_at o) n) root) o k))

  -- a storage link and an element of one value
  storage-element : (o : Object) (k : Mem o os) (f g : Field) → Mem f (storage_claims o.value (index_at o))
      → Mem g (element_claims o.value (index_at o)) → f.at ≡ g.at → ⊥
  storage-element o k f g h i e =
      let p = r.objects o k in
      let s = storage-at o.value (index_at o) f h in
      let w = element-array ts end a o.value (index_at o) p.good p.extents g i in
      place-alone o k s.1 w.0 Storage w.1 w.2 refl (move (index_at o) g.at w.0 (sym s.0 ∙ e) w.3)

  -- a value has tree nodes or the others
  no-nodes : (v : Value) (at : ℕ) (f g : Field) → Mem f (storage_claims v at ++ element_claims v at)
      → Mem g (node_claims m ts v at) → ⊥
  no-nodes (Numbers q zs) at f g h i = i
  no-nodes (Elements q zs t) at f g h i = i
  no-nodes (Bytes bs t) at f g h i = i
  no-nodes (Pairs q v ps) at f g h i = h
  no-nodes (Texts ps t) at f g h i = i

  -- one object names a block once
  pub value-once : (o : Object) (k : Mem o os) → Distinct (map handle (value_extents o.value))
  value-once o k =
      let p = r.objects o k in
      let at : ℕ = index_at o in
      let ss : List Field = storage_claims o.value at in
      let es : List Field = element_claims o.value at in
      let ns : List Field = node_claims m ts o.value at in
      let elements : Distinct (map target_in es) =
      targets-distinct K r.unshared es (λ f h. claimed o k f (mem_right f ss (es ++ ns) (mem_left f es ns h)))
      (own-elements o k o.value refl) in
      let behind : Distinct (map target_in es ++ map target_in ns) =
      distinct-append (map target_in es) (map target_in ns) elements (nodes-once o k)
      (λ x y h i e.
      let f = mem_of_map target_in x es h in
      let g = mem_of_map target_in y ns i in
      no-nodes o.value at f.one g.one (mem_right f.one ss es f.mem) g.mem) in
      let behind2 : Distinct (map target_in (es ++ ns)) = subst Distinct (sym (map-append target_in es ns)) behind in
      let all : Distinct (map target_in ss ++ map target_in (es ++ ns)) =
      distinct-append (map target_in ss) (map target_in (es ++ ns)) (storage-once o.value at) behind2
      (λ x y h i e.
      let f = mem_of_map target_in x ss h in
      let g = mem_of_map target_in y (es ++ ns) i in
      elim (mem_parts g.one es ns g.mem) [
        | inl z ↦
            storage-element o k f.one g.one f.mem z
            (r.unshared.one f.one g.one (claimed o k f.one (mem_left f.one ss (es ++ ns) f.mem))
            (claimed o k g.one (mem_right g.one ss (es ++ ns) g.mem)) (sym f.is ∙ e ∙ g.is))
        | inr z ↦ no-nodes o.value at f.one g.one (mem_left f.one ss es f.mem) z
      ]) in
      subst Distinct (value-targets m ts o.value at p.good p.tree)
      (subst Distinct (sym (map-append target_in ss (es ++ ns))) all)

  -- ---- the claims of an object are after the header

  home-tile : (o : Object) (k : Mem o os) (x : ℕ) → Home o x → 128 ≤ x
  home-tile o k x (at_place e f) =
      let p = r.objects o k in
      let l = from-there 128 ts end p.tile a p.mem in
      let g = (place-lies o k e).from in
      omega arith
  home-tile o k x (in_array t h i j g c) = let l = from-there 128 ts end t a h in let b = j.from in omega arith

  node-tile-home : (o : Object) (k : Mem o os) (x : ℕ) → NodeHome o x → 128 ≤ x
  node-tile-home o k x (at_root e f) =
      let p = r.objects o k in
      let l = from-there 128 ts end p.tile a p.mem in
      let g = (place-lies o k e).from in
      omega arith
  node-tile-home o k x (in_node t h i j) = let l = from-there 128 ts end t a h in let b = j.from in omega arith

  part-high : (o : Object) (k : Mem o os) (f : Field) → Part_of o f → 128 ≤ f.at
  part-high o k f (home x) = home-tile o k f.at x
  part-high o k f (node x) = node-tile-home o k f.at (node-home o k f x)

  -- a field of an object is after the header
  pub claim-high : (o : Object) (k : Mem o os) (f : Field) → Mem f (claims_of m ts o) → 128 ≤ f.at
  claim-high o k f h = part-high o k f (part-of o k f h)
