-- Where no two fields share a target, the blocks that objects and tables name are different blocks.
use Rattle.image_check.proofs.Common.{BackingArray, Extent, Field, IsTrue, List, Memory, Row, Tile, [], and_parts, ap}
use Rattle.image_check.proofs.Common.{arith, false≢true, flat_map, handle, map, map-append, nat_le, refl, rises_from}
use Rattle.image_check.proofs.Common.{subst, sym, table_extents, value_extents, ℕ, ◌++◌, ◌+◌, ◌<◌, ◌∙◌, ◌∷◌, ◌≡◌}
use Rattle.std.proofs.Common.{append_assoc}
use Rattle.best_fit.proofs.Laws.{extents_of as used}
use Rattle.segment_manager.specs.Directory.{Object, extents_of}
use Rattle.image_check.proofs.bytes.Members.{Image, Mem, mem_all, mem_left, mem_map, mem_of_flat_map, mem_of_map}
use Rattle.image_check.proofs.bytes.Members.{mem_parts, mem_right}
use Rattle.image_check.proofs.read_off.OwnBlocks.{IsOther, is_object_extent, value-other}
use Rattle.image_check.proofs.indexes.Entries.{Distinct, distinct-append, object-from}
use Rattle.image_check.proofs.claims.Fields.{table_claims, target_in, value-targets}
use Rattle.image_check.proofs.claims.CountedClaims.{all_claims, claims_of, index_at, tables_claims}
use Rattle.image_check.proofs.law.DenotedHasNoClass.{both-targets}
use Rattle.image_check.proofs.claims.FieldPlaces.{ArePlaced, option-at, option-once, same-handle}
use Rattle.image_check.proofs.claims.DisjointObjects.{claim-high, claimed, objects-apart, value-once}
use mathlib.Core.Logic.{inl, inr}

module _ (ts : List Tile) (end : ℕ) (a : Row 128 ts end) (m : Memory) (os : List Object)
    (named unique : BackingArray) (r : ArePlaced m ts os named unique) where
  abbrev K : Field → Type 0
  K f = Mem f (all_claims m ts os named unique)

  -- ---- tables

  table-low : (f : Field) → Mem f (tables_claims named unique) → f.at < 128
  table-low f h = elim (mem_parts f (table_claims 32 named) (table_claims 56 unique) h) [
    | inl x ↦ (let e = option-at named.extent 32 f x in omega arith)
    | inr x ↦ (let e = option-at unique.extent 56 f x in omega arith)
  ]

  table-claim : (x : Extent) → Mem x (table_extents named ++ table_extents unique)
      → Image target_in (tables_claims named unique) (handle x)
  table-claim x h = mem_of_map target_in (handle x) (tables_claims named unique)
      (subst (Mem (handle x)) (sym (both-targets named unique))
      (mem_map handle x (table_extents named ++ table_extents unique) h))

  of-table : (f : Field) → Mem f (tables_claims named unique) → K f
  of-table f h = mem_right f (flat_map (claims_of m ts) os) (tables_claims named unique) h

  table-apart : (o : Object) (k : Mem o os) (x y : Extent) → Mem x (value_extents o.value)
      → Mem y (table_extents named ++ table_extents unique) → handle x ≡ handle y → ⊥
  table-apart o k x y h i e =
      let c = r.objects o k in
      let f = mem_of_map target_in (handle x) (claims_of m ts o)
      (subst (Mem (handle x)) (sym (value-targets m ts o.value (index_at o) c.good c.tree))
      (mem_map handle x (value_extents o.value) h)) in
      let g = table-claim y i in
      let same = r.unshared.one f.one g.one (claimed ts end a m os named unique r o k f.one f.mem)
      (of-table g.one g.mem) (sym f.is ∙ e ∙ g.is) in
      let high = claim-high ts end a m os named unique r o k f.one f.mem in
      let low = table-low g.one g.mem in
      absurd (omega arith)

  tables-once : Distinct (map handle (table_extents named ++ table_extents unique))
  tables-once =
      subst Distinct (both-targets named unique)
      (subst Distinct (sym (map-append target_in (table_claims 32 named) (table_claims 56 unique)))
      (distinct-append (map target_in (table_claims 32 named)) (map target_in (table_claims 56 unique))
      (option-once named.extent 32) (option-once unique.extent 56)
      (λ x y h i e.
      let f = mem_of_map target_in x (table_claims 32 named) h in
      let g = mem_of_map target_in y (table_claims 56 unique) i in
      let l = option-at named.extent 32 f.one f.mem in
      let k = option-at unique.extent 56 g.one g.mem in
      let same = r.unshared.one f.one g.one
      (of-table f.one (mem_left f.one (table_claims 32 named) (table_claims 56 unique) f.mem))
      (of-table g.one (mem_right g.one (table_claims 32 named) (table_claims 56 unique) g.mem)) (sym f.is ∙ e ∙ g.is) in
      absurd (omega arith))))

  -- ---- all claims together

  own-apart : (o : Object) (k : Mem o os) (x : Extent) → Mem x (used ts) → IsOther x → handle o.extent ≡ handle x → ⊥
  own-apart o k x h n e =
      let p = r.objects o k in
      let same = same-handle ts end a o.extent x p.own h e in
      false≢true (sym n ∙ ap is_object_extent (sym same) ∙ p.own_role)

  value-member : (o : Object) (k : Mem o os) (x : Extent) → Mem x (value_extents o.value) → Mem x (used ts) × IsOther x
  value-member o k x h =
      let p = r.objects o k in (
        mem_all (λ y. Mem y (used ts)) (value_extents o.value) x p.extents h,
        mem_all IsOther (value_extents o.value) x (value-other o.value p.good) h,
      )

  abbrev tb : List Extent
  tb = table_extents named ++ table_extents unique

  all-once : (n : ℕ) (qs : List Object) → ((o : Object) → Mem o qs → Mem o os) → IsTrue (rises_from n qs)
      → Distinct (map handle (flat_map extents_of qs ++ tb))
  all-once n [] f h = tables-once
  all-once n (o ∷ qs) f h =
      let k = f o (inl refl) in
      let parts = and_parts (nat_le n o.extent.offset) (rises_from (o.extent.offset + 1) qs) h in
      let ve : List Extent = value_extents o.value in
      let rest : List Extent = flat_map extents_of qs ++ tb in
      let ih : Distinct (map handle rest) = all-once (o.extent.offset + 1) qs (λ p l. f p (inr l)) parts.1 in
      let later : (p : Object) → Mem p qs → (o.extent.offset ≡ p.extent.offset → ⊥) =
      λ p l e. (let g = object-from (o.extent.offset + 1) qs p parts.1 l in omega arith) in
      let tail : Distinct (map handle ve ++ map handle rest) =
      distinct-append (map handle ve) (map handle rest) (value-once ts end a m os named unique r o k) ih
      (λ x y i j e.
      let u = mem_of_map handle x ve i in
      let w = mem_of_map handle y rest j in
      let same : handle u.one ≡ handle w.one = sym u.is ∙ e ∙ w.is in
      elim (mem_parts w.one (flat_map extents_of qs) tb w.mem) [
        | inl z ↦
            (let q = mem_of_flat_map extents_of w.one qs z in
            value-against o k q.one (f q.one (inr q.mem)) (later q.one q.mem) u.one w.one u.mem q.is same)
        | inr z ↦ table-apart o k u.one w.one u.mem z same
      ]) in
      let both : map handle ((ve ++ flat_map extents_of qs) ++ tb) ≡ map handle ve ++ map handle rest =
      ap (map handle) (append_assoc ve (flat_map extents_of qs) tb) ∙ map-append handle ve rest in (
        λ y j e.
            let w = mem_of_map handle y ((ve ++ flat_map extents_of qs) ++ tb) j in
            let same : handle o.extent ≡ handle w.one = e ∙ w.is in
            elim (mem_parts w.one (ve ++ flat_map extents_of qs) tb w.mem) [
              | inr z ↦ (let t = r.tables w.one z in own-apart o k w.one t.0 t.1 same)
              | inl z ↦ elim (mem_parts w.one ve (flat_map extents_of qs) z) [
                | inl q ↦ (let t = value-member o k w.one q in own-apart o k w.one t.0 t.1 same)
                | inr q ↦
                    (let p = mem_of_flat_map extents_of w.one qs q in
                    own-against o k p.one (f p.one (inr p.mem)) (later p.one p.mem) w.one p.is same)
              ]
            ],
        subst Distinct (sym both) tail,
      )
    where
      value-against : (o : Object) (k : Mem o os) (p : Object) (l : Mem p os)
          → (o.extent.offset ≡ p.extent.offset → ⊥) → (x y : Extent) → Mem x (value_extents o.value)
          → Mem y (extents_of p) → handle x ≡ handle y → ⊥
      value-against o k p l n x y h (inl e) g = let t = value-member o k x h
          in own-apart p l x t.0 t.1 (ap handle (sym e) ∙ sym g)
      value-against o k p l n x y h (inr i) g = objects-apart ts end a m os named unique r o p k l n x y h i g

      own-against : (o : Object) (k : Mem o os) (p : Object) (l : Mem p os)
          → (o.extent.offset ≡ p.extent.offset → ⊥) → (y : Extent) → Mem y (extents_of p)
          → handle o.extent ≡ handle y → ⊥
      own-against o k p l n y (inl e) g = n (let f = ap (λ (x : Extent). x.offset) e in omega arith)
      own-against o k p l n y (inr i) g = let t = value-member p l y i in own-apart o k y t.0 t.1 g

  -- no block is named twice
  pub extents-once : Distinct (map handle (flat_map extents_of os ++ (table_extents named ++ table_extents unique)))
  extents-once = all-once 0 os (λ o k. k) r.by_offset
