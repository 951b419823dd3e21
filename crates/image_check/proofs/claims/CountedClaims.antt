-- The fields that count are the claims of a list of objects and of two tables: each field is a claim, and each claim
-- counts.
use Rattle.image_check.proofs.Common.{BackingArray, Bytes, Elements, Field, IsTree, IsTrue, Kind, List, Memory, Node}
use Rattle.image_check.proofs.Common.{Numbers, Pairs, Some, Texts, Tile, Tree, Value, [], ap, cells_of, counted_fields}
use Rattle.image_check.proofs.Common.{element_fields, flat_map, handle, index_field, is_some, kind_of, length, link_at}
use Rattle.image_check.proofs.Common.{list_all, node_fields, nodes_of, padded, reads_off, refl, root_link}
use Rattle.image_check.proofs.Common.{storage_field, subst, sym, tile_of, values, ℕ, ◌*◌, ◌++◌, ◌+◌, ◌∙◌, ◌≡◌}
use Rattle.segment_manager.specs.Directory.{Object}
use Rattle.image_check.proofs.bytes.Members.{Mem, all_mem, mem_all, mem_flat_map, mem_left, mem_of_flat_map, mem_parts}
use Rattle.image_check.proofs.bytes.Members.{mem_right}
use Rattle.image_check.proofs.read_off.Directory.{tree_at}
use Rattle.image_check.proofs.claims.ReachedLinks.{Covers, reached-sound, roots-covered}
use Rattle.image_check.proofs.claims.Fields.{IsTreeRead, element_claims, node_claims, option_tree_claims}
use Rattle.image_check.proofs.claims.Fields.{storage_claims, table_claims, value_claims}
use Rattle.image_check.proofs.claims.TreeClaims.{IsLinkOf, links-closed, tree-covered}
use mathlib.Core.Logic.{inl, inr}

-- the offset of an object's value
abbrev pub index_at : Object → ℕ
index_at o = handle o.extent + 16 + padded (length o.name)

-- a kind and an offset of one of the objects
pub record IsAmong (os : List Object) (p : Kind × ℕ) : Type 0 where
  pub object : Object
  pub mem : Mem object os
  pub is : p ≡ (kind_of object.value, index_at object)

-- the objects' values are the values of the tiles, and their fields the fields of the values
pub record IsClaimed (format : ℕ) (m : Memory) (ts : List Tile) (os : List Object) (named unique : BackingArray) :
    Type 0 where
  pub of : (p : Kind × ℕ) → Mem p (values format m ts) → IsAmong os p
  pub has : (o : Object) → Mem o os → Mem (kind_of o.value, index_at o) (values format m ts)
  pub storage : (o : Object) → Mem o os
      → storage_field m ts (kind_of o.value, index_at o) ≡ storage_claims o.value (index_at o)
  pub elements : (o : Object) → Mem o os
      → element_fields m ts (kind_of o.value, index_at o) ≡ element_claims o.value (index_at o)
  pub tree : (o : Object) → Mem o os → IsTreeRead m ts o.value (index_at o)
  pub named_field : index_field m ts 32 ≡ table_claims 32 named
  pub unique_field : index_field m ts 56 ≡ table_claims 56 unique

-- the fields of an object
abbrev pub claims_of : Memory → List Tile → Object → List Field
claims_of m ts o = value_claims m ts o.value (index_at o)

-- the fields of the two indexes
abbrev pub tables_claims : BackingArray → BackingArray → List Field
tables_claims named unique = table_claims 32 named ++ table_claims 56 unique

-- the fields of objects and indexes, in the order in which they are counted
abbrev pub all_claims : Memory → List Tile → List Object → BackingArray → BackingArray → List Field
all_claims m ts os named unique = flat_map (claims_of m ts) os ++ tables_claims named unique

-- the tree of a map that is read is the tree there, and its nodes are tiles
record IsThere (m : Memory) (ts : List Tile) (at : ℕ) (t : Tree) : Type 0 where
  linked : IsTree (cells_of m) (link_at m at) t
  nodes : IsTrue (list_all (λ n. is_some (tile_of ts Node n)) (nodes_of t))

there : (m : Memory) (ts : List Tile) (at : ℕ) (t : Tree) → tree_at m ts at ≡ Some t → IsThere m ts at t
there m ts at t e =
    let s = reads_off.sound (length ts) (λ n. is_some (tile_of ts Node n)) (cells_of m) (link_at m at) t e in
    record { linked = s.0; nodes = s.1 }

-- the root link of a map whose links are among the fields
root-link : (m : Memory) (ts : List Tile) (K : Field → Type 0) (v : Value) (at : ℕ) → IsTreeRead m ts v at
    → ((f : Field) → Mem f (node_claims m ts v at) → K f)
    → (x : ℕ) → Mem x (root_link (kind_of v, at)) → IsLinkOf m K x
root-link m ts K (Numbers k zs) at r c x h = absurd h
root-link m ts K (Elements k zs t) at r c x h = absurd h
root-link m ts K (Bytes bs t) at r c x h = absurd h
root-link m ts K (Texts ps t) at r c x h = absurd h
root-link m ts K (Pairs k v ps) at r c x (inr h) = absurd h
root-link m ts K (Pairs k v ps) at r c x (inl e) =
    subst (IsLinkOf m K) (sym e)
    (record {
      tree = r.0;
      linked = (there m ts at r.0 r.1).linked;
      claimed = λ f k. c f (subst (λ o. Mem f (option_tree_claims at o)) (sym r.1) k);
    })

-- the links of a map are followed
node-counted : (m : Memory) (ts : List Tile) (links : List ℕ) (fields : List Field) → Covers m ts [] links fields
    → (v : Value) (at : ℕ) → IsTreeRead m ts v at
    → ((x : ℕ) → Mem x (root_link (kind_of v, at)) → Mem x links) → (f : Field) → Mem f (node_claims m ts v at)
    → Mem f fields
node-counted m ts links fields c (Numbers k zs) at r i f h = absurd h
node-counted m ts links fields c (Elements k zs t) at r i f h = absurd h
node-counted m ts links fields c (Bytes bs t) at r i f h = absurd h
node-counted m ts links fields c (Texts ps t) at r i f h = absurd h
node-counted m ts links fields c (Pairs k v ps) at r i f h =
    let w = there m ts at r.0 r.1 in
    tree-covered m ts links fields c at r.0 w.linked w.nodes (λ u g.
    c.starts at u (i at (inl refl)) g) f (subst (λ o. Mem f (option_tree_claims at o)) r.1 h)

module _ (format : ℕ) (m : Memory) (ts : List Tile) (os : List Object) (named unique : BackingArray)
    (r : IsClaimed format m ts os named unique) where
  vs : List (Kind × ℕ)
  vs = values format m ts

  abbrev all : List Field
  all = all_claims m ts os named unique

  -- ---- each field that counts is a claim

  of-object : (o : Object) (f : Field) → Mem o os → Mem f (claims_of m ts o) → Mem f all
  of-object o f k l = mem_left f (flat_map (claims_of m ts) os) (tables_claims named unique)
      (mem_flat_map (claims_of m ts) o f os k l)

  of-tables : (f : Field) → Mem f (tables_claims named unique) → Mem f all
  of-tables f k = mem_right f (flat_map (claims_of m ts) os) (tables_claims named unique) k

  of-nodes : (o : Object) (f : Field) → Mem o os → Mem f (node_claims m ts o.value (index_at o)) → Mem f all
  of-nodes o f k l =
      of-object o f k (mem_right f (storage_claims o.value (index_at o)) (element_claims o.value (index_at o)
      ++ node_claims m ts o.value (index_at o))
      (mem_right f (element_claims o.value (index_at o)) (node_claims m ts o.value (index_at o)) l))

  index-claimed : (f : Field) → Mem f (index_field m ts 32) → Mem f all
  index-claimed f k = of-tables f
      (mem_left f (table_claims 32 named) (table_claims 56 unique) (subst (Mem f) r.named_field k))

  unique-claimed : (f : Field) → Mem f (index_field m ts 56) → Mem f all
  unique-claimed f k = of-tables f
      (mem_right f (table_claims 32 named) (table_claims 56 unique) (subst (Mem f) r.unique_field k))

  storage-claimed : (f : Field) → Mem f (flat_map (storage_field m ts) (values format m ts)) → Mem f all
  storage-claimed f k =
      let p = mem_of_flat_map (storage_field m ts) f (values format m ts) k in
      let v = r.of p.one p.mem in
      let o = v.object in
      let there : Mem f (storage_claims o.value (index_at o)) =
      subst (Mem f) (ap (storage_field m ts) v.is ∙ r.storage o v.mem) p.is in
      of-object o f v.mem (mem_left f (storage_claims o.value (index_at o)) (element_claims o.value (index_at o)
      ++ node_claims m ts o.value (index_at o)) there)

  elements-claimed : (f : Field) → Mem f (flat_map (element_fields m ts) (values format m ts)) → Mem f all
  elements-claimed f k =
      let p = mem_of_flat_map (element_fields m ts) f (values format m ts) k in
      let v = r.of p.one p.mem in
      let o = v.object in
      let there : Mem f (element_claims o.value (index_at o)) =
      subst (Mem f) (ap (element_fields m ts) v.is ∙ r.elements o v.mem) p.is in
      of-object o f v.mem
      (mem_right f (storage_claims o.value (index_at o)) (element_claims o.value (index_at o)
      ++ node_claims m ts o.value (index_at o))
      (mem_left f (element_claims o.value (index_at o)) (node_claims m ts o.value (index_at o)) there))

  root-claimed : (x : ℕ) → Mem x (flat_map root_link (values format m ts)) → IsLinkOf m (λ f. Mem f all) x
  root-claimed x k =
      let p = mem_of_flat_map root_link x (values format m ts) k in
      let v = r.of p.one p.mem in
      let o = v.object in
      root-link m ts (λ f. Mem f all) o.value (index_at o) (r.tree o v.mem) (λ f l.
      of-nodes o f v.mem l) x (subst (λ q. Mem x (root_link q)) v.is p.is)

  nodes-claimed : (f : Field) → Mem f
      (node_fields (2 * length ts) m ts [] (flat_map root_link (values format m ts))) → Mem f all
  nodes-claimed f k =
      mem_all (λ g. Mem g all) (node_fields (2 * length ts) m ts [] (flat_map root_link (values format m ts))) f
      (reached-sound (IsLinkOf m (λ g. Mem g all)) (λ g.
      Mem g all) m ts (links-closed m ts (λ g. Mem g all)) (2 * length ts) [] (flat_map root_link (values format m ts))
      (all_mem (IsLinkOf m (λ g. Mem g all)) (flat_map root_link (values format m ts)) root-claimed)) k

  abbrev two : List Field
  two = index_field m ts 32 ++ index_field m ts 56

  abbrev three : List Field
  three = two ++ flat_map (storage_field m ts) (values format m ts)

  abbrev four : List Field
  four = three ++ flat_map (element_fields m ts) (values format m ts)

  abbrev nodes : List Field
  nodes = node_fields (2 * length ts) m ts [] (flat_map root_link (values format m ts))

  -- a field that counts is a claim
  pub counted-claimed : (f : Field) → Mem f (counted_fields format m ts) → Mem f (all_claims m ts os named unique)
  counted-claimed f k =
      elim (mem_parts f four nodes k) [
        | inr a ↦ nodes-claimed f a
        | inl w ↦ elim (mem_parts f three (flat_map (element_fields m ts) (values format m ts)) w) [
          | inr a ↦ elements-claimed f a
          | inl x ↦ elim (mem_parts f two (flat_map (storage_field m ts) (values format m ts)) x) [
            | inr a ↦ storage-claimed f a
            | inl y ↦ elim (mem_parts f (index_field m ts 32) (index_field m ts 56) y) [
              | inl a ↦ index-claimed f a
              | inr a ↦ unique-claimed f a
            ]
          ]
        ]
      ]

  -- ---- and each claim counts

  of-four : (f : Field) → Mem f four → Mem f (counted_fields format m ts)
  of-four f k = mem_left f four nodes k

  of-three : (f : Field) → Mem f three → Mem f (counted_fields format m ts)
  of-three f k = of-four f (mem_left f three (flat_map (element_fields m ts) (values format m ts)) k)

  of-two : (f : Field) → Mem f two → Mem f (counted_fields format m ts)
  of-two f k = of-three f (mem_left f two (flat_map (storage_field m ts) (values format m ts)) k)

  value-counted : (o : Object) → Mem o os → (f : Field) → Mem f (claims_of m ts o) → Mem f (counted_fields format m ts)
  value-counted o k f h =
      elim (mem_parts f (storage_claims o.value (index_at o)) (element_claims o.value (index_at o)
      ++ node_claims m ts o.value (index_at o)) h) [
        | inl a ↦
            of-three f (mem_right f two (flat_map (storage_field m ts) (values format m ts))
            (mem_flat_map (storage_field m ts) (
              kind_of o.value,
              index_at o,
            ) f (values format m ts) (r.has o k) (subst (Mem f) (sym (r.storage o k)) a)))
        | inr w ↦ elim (mem_parts f (element_claims o.value (index_at o)) (node_claims m ts o.value (index_at o)) w) [
          | inl a ↦
              of-four f (mem_right f three (flat_map (element_fields m ts) (values format m ts))
              (mem_flat_map (element_fields m ts) (
                kind_of o.value,
                index_at o,
              ) f (values format m ts) (r.has o k) (subst (Mem f) (sym (r.elements o k)) a)))
          | inr a ↦
              mem_right f four nodes
              (node-counted m ts (flat_map root_link (values format m ts)) nodes (roots-covered format m ts) o.value
              (index_at o) (r.tree o k)
              (λ x l. mem_flat_map root_link (kind_of o.value, index_at o) x (values format m ts) (r.has o k) l) f a)
        ]
      ]

  tables-counted : (f : Field) → Mem f (tables_claims named unique) → Mem f (counted_fields format m ts)
  tables-counted f k = elim (mem_parts f (table_claims 32 named) (table_claims 56 unique) k) [
    | inl a ↦ of-two f (mem_left f (index_field m ts 32) (index_field m ts 56) (subst (Mem f) (sym r.named_field) a))
    | inr a ↦ of-two f (mem_right f (index_field m ts 32) (index_field m ts 56) (subst (Mem f) (sym r.unique_field) a))
  ]

  -- a claim is a field that counts
  pub claimed-counted : (f : Field) → Mem f (all_claims m ts os named unique) → Mem f (counted_fields format m ts)
  claimed-counted f k = elim (mem_parts f (flat_map (claims_of m ts) os) (tables_claims named unique) k) [
    | inl a ↦ (let p = mem_of_flat_map (claims_of m ts) f os a in value-counted p.one p.mem f p.is)
    | inr a ↦ tables-counted f a
  ]
