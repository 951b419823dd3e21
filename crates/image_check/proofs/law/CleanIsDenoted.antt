-- Bytes of which no class holds denote the directory that is read off.
use Rattle.image_check.proofs.Common.{AreIndexEntries, BackingArray, Denotes, Directory, EncodesLiveSet, Extent, Field}
use Rattle.image_check.proofs.Common.{Index, IsObjectAt, IsTrue, List, LiveSet, Memory, Named, None, Rising, Some, Tile}
use Rattle.image_check.proofs.Common.{Unique, [], and_from, ap, arith, as_extent, by_kind, by_name, bytes_of, cases_eq}
use Rattle.image_check.proofs.Common.{class_of, counted_fields, eqb-true, false, flat_map, handle, has_backing}
use Rattle.image_check.proofs.Common.{if◌then◌else◌, is_object, is_use, le-leb, leads_there, length, length-map}
use Rattle.image_check.proofs.Common.{list_any, ltb-false, ltb-true, map, named_objects, nat_le, nat_lt, needs_owner}
use Rattle.image_check.proofs.Common.{not, not-false, object_tiles, ordered, payload, refl, rises, sorted, subst, sym}
use Rattle.image_check.proofs.Common.{table_extents, true, unique_objects, value_extents, ℕ, ◌&&◌, ◌++◌, ◌+◌, ◌-◌, ◌∙◌}
use Rattle.image_check.proofs.Common.{◌∷◌, ◌≡◌, ◌≤◌}
use Rattle.std.proofs.Common.{Bool}
use Rattle.raw_region.specs.Memory.{word_at}
use Rattle.block_tags.specs.declared.tile.Role.TheVariants.{Object as ObjectRole}
use Rattle.best_fit.specs.Extents.{is_proper}
use Rattle.best_fit.specs.Fit.{insert}
use Rattle.best_fit.proofs.Laws.{extents_of as used}
use Rattle.segment_manager.specs.Directory.{IsDirectory, Object, extents_of, live}
use Rattle.image_check.proofs.bytes.Numbers.{AreSmall}
use Rattle.image_check.proofs.bytes.Members.{Mem, all_mem, list_all_from, list_any_none, list_any_of, mem_all}
use Rattle.image_check.proofs.bytes.Members.{mem_filter, mem_flat_map, mem_left, mem_map, mem_of_filter_map}
use Rattle.image_check.proofs.bytes.Members.{mem_of_flat_map, mem_of_map, mem_parts, mem_right}
use Rattle.image_check.proofs.block_collection.UsedTile.{as_extent-IsTileOf, mem-of-sorted, mem-sorted, rising-same}
use Rattle.image_check.proofs.read_off.Directory.{directory_from, object_block, object_from, read_off, table_at}
use Rattle.image_check.proofs.law.Uniqueness.{tiles_in}
use Rattle.image_check.proofs.frame.Formats.{IsFramed, framed-heap, framed-proper, framed-rising, live_in, second-fails}
use Rattle.image_check.proofs.indexes.Entries.{Distinct}
use Rattle.image_check.proofs.claims.Fields.{target_in, value-targets}
use Rattle.image_check.proofs.claims.CountedClaims.{claims_of, counted-claimed, index_at, tables_claims}
use Rattle.image_check.proofs.law.DenotedHasNoClass.{both-targets}
use Rattle.image_check.proofs.claims.FieldPlaces.{same-handle}
use Rattle.image_check.proofs.law.CleanTests.{IsLateClean, classes-clean}
use Rattle.image_check.proofs.law.ReadObjects.{by_offset, claimed, first_index, named_list, object-tile, of-object}
use Rattle.image_check.proofs.law.ReadObjects.{once, said, second_index, table-member, tiles, unique_list}
use mathlib.Core.Logic.{inl, inr}

-- ---- lists of extents

insert-rises-if : (n : ℕ) (x y : Extent) (ys zs : List Extent) → (b : Bool) → nat_lt x.offset y.offset ≡ b
    → n ≤ x.offset → n ≤ y.offset → Rising (y.offset + 1) ys → (x.offset ≡ y.offset → ⊥)
    → (y.offset + 1 ≤ x.offset → Rising (y.offset + 1) zs) → Rising n (if b then x ∷ y ∷ ys else y ∷ zs)
insert-rises-if n x y ys zs true e l k r d f = let g = ltb-true x.offset y.offset e in (l, (omega arith, r))
insert-rises-if n x y ys zs false e l k r d f = let g = ltb-false x.offset y.offset e
    in (k, f (strictly x.offset y.offset g d))
  where
    strictly : (a b : ℕ) → b ≤ a → (a ≡ b → ⊥) → b + 1 ≤ a
    strictly a b l d = elim (cases_eq a b) [ inl e ↦ absurd (d e) | inr n ↦ omega (arith, l, n) ]

insert-rises : (n : ℕ) (x : Extent) (ys : List Extent) → n ≤ x.offset → Rising n ys
    → ((y : Extent) → Mem y ys → x.offset ≡ y.offset → ⊥) → Rising n (insert x ys)
insert-rises n x [] l r d = (l, tt)
insert-rises n x (y ∷ ys) l r d =
    insert-rises-if n x y ys (insert x ys) (nat_lt x.offset y.offset) refl l r.0 r.1 (d y (inl refl)) (λ k.
    insert-rises (y.offset + 1) x ys k r.1 (λ z h. d z (inr h)))

sorted-rises : (xs : List Extent) → Distinct (map handle xs) → Rising 0 (sorted xs)
sorted-rises [] d = tt
sorted-rises (x ∷ xs) d =
    insert-rises 0 x (sorted xs) (omega arith) (sorted-rises xs d.1)
    (λ y h e. d.0 (handle y) (mem_map handle y xs (mem-of-sorted y xs h)) (ap (λ o. o + 16) e))

module _ (format : ℕ) (b : List ℕ) (s : AreSmall (bytes_of b)) (fr : IsFramed format b)
    (c : IsLateClean format (bytes_of b) (tiles_in b)) where
  abbrev m : Memory
  m = bytes_of b

  abbrev ts : List Tile
  ts = tiles_in b

  abbrev os : List Object
  os = map (object_from format m ts) (map object_block (object_tiles ts))

  abbrev named : BackingArray
  named = table_at m ts Index 32

  abbrev unique : BackingArray
  unique = table_at m ts Index 56

  abbrev extents : List Extent
  extents = flat_map extents_of os ++ (table_extents named ++ table_extents unique)

  -- ---- the blocks that are named are the tiles in use

  object-used : (o : Object) → Mem o os → (x : Extent) → Mem x (extents_of o) → Mem x (used ts)
  object-used o k x (inl e) = subst (λ y. Mem y (used ts)) (sym e) (said format b s fr c o k).placed.own
  object-used o k x (inr h) = mem_all (λ y.
      Mem y (used ts)) (value_extents o.value) x (said format b s fr c o k).placed.extents h

  extent-used : (x : Extent) → Mem x extents → Mem x (used ts)
  extent-used x k = elim (mem_parts x (flat_map extents_of os) (table_extents named ++ table_extents unique) k) [
    | inl h ↦ (let p = mem_of_flat_map extents_of x os h in object-used p.one p.mem x p.is)
    | inr h ↦ (table-member format b s fr c x h).0
  ]

  of-extents : (o : Object) → Mem o os → (x : Extent) → Mem x (extents_of o) → Mem x extents
  of-extents o k x h = mem_left x (flat_map extents_of os) (table_extents named ++ table_extents unique)
      (mem_flat_map extents_of o x os k h)

  -- an extent behind a field is named by an object
  led-value : (x : Extent) → Mem x (used ts) → (o : Object) → Mem o os → (f : Field) → Mem f (claims_of m ts o)
      → f.target ≡ handle x → Mem x extents
  led-value x h o k f l e =
      let p = (said format b s fr c o k).placed in
      let i = mem_of_map handle f.target (value_extents o.value)
      (subst (Mem f.target) (value-targets m ts o.value (index_at o) p.good p.tree)
      (mem_map target_in f (claims_of m ts o) l)) in
      let y : Extent = i.one in
      let same : x ≡ y = same-handle ts (length b - 16) (tiles format b s fr c) x y h
      (object-used o k y (inr i.mem)) (sym e ∙ i.is) in
      of-extents o k x (inr (subst (λ z. Mem z (value_extents o.value)) (sym same) i.mem))

  led-table : (x : Extent) → Mem x (used ts) → (f : Field) → Mem f (tables_claims named unique)
      → f.target ≡ handle x → Mem x extents
  led-table x h f l e =
      let i = mem_of_map handle f.target (table_extents named ++ table_extents unique)
      (subst (Mem f.target) (both-targets named unique) (mem_map target_in f (tables_claims named unique) l)) in
      let y : Extent = i.one in
      let same : x ≡ y = same-handle ts (length b - 16) (tiles format b s fr c) x y h
      (table-member format b s fr c y i.mem).0 (sym e ∙ i.is) in
      mem_right x (flat_map extents_of os) (table_extents named ++ table_extents unique)
      (subst (λ z. Mem z (table_extents named ++ table_extents unique)) (sym same) i.mem)

  led : (x : Extent) → Mem x (used ts) → (f : Field) → Mem f (counted_fields format m ts) → f.target ≡ handle x
      → Mem x extents
  led x h f k e = elim (mem_parts f (flat_map (claims_of m ts) os) (tables_claims named unique)
      (counted-claimed format m ts os named unique (claimed format b s fr c) f k)) [
        | inl l ↦ (let p = mem_of_flat_map (claims_of m ts) f os l in led-value x h p.one p.mem f p.is e)
        | inr l ↦ led-table x h f l e
      ]

  named-if : (x : Extent) → Mem x (used ts) → (t : Tile) → Mem t ts → as_extent t ≡ Some x → (q : Bool)
      → needs_owner t ≡ q → Mem x extents
  named-if x h t k e false n =
      let w = object-tile t.offset t.len t.use_of t.red x e n in
      let l = mem_filter (is_use ObjectRole) t ts k w.0 in
      of-extents (object_from format m ts (object_block t)) (of-object format b s fr c t l) x (inl (sym w.1))
  named-if x h t k e true n =
      let free = list_any_none (λ u. needs_owner u && not (list_any (leads_there u) (counted_fields format m ts)))
      ts t c.owned k in
      let led_to = not-false (list_any (leads_there t) (counted_fields format m ts))
      (second-fails (needs_owner t) (not (list_any (leads_there t) (counted_fields format m ts))) n free) in
      let f = list_any_of (leads_there t) (counted_fields format m ts) led_to in
      let i = as_extent-IsTileOf t x e in
      led x h f.one f.mem (eqb-true (f.one).target (payload t) f.is ∙ ap (λ o. o + 16) i.offset)

  used-extent : (x : Extent) → Mem x (used ts) → Mem x extents
  used-extent x h = let w = mem_of_filter_map as_extent x ts h in named-if x h w.one w.mem w.is (needs_owner w.one) refl

  sorted-is : sorted (flat_map extents_of os ++ (table_extents named ++ table_extents unique)) ≡ used (tiles_in b)
  sorted-is =
      rising-same 0 (sorted extents) (used ts) (sorted-rises extents (once format b s fr c)) (framed-rising format b fr)
      (λ x h. extent-used x (mem-of-sorted x extents h)) (λ x h. mem-sorted x extents (used-extent x h))

  -- ---- the directory

  abbrev d : Directory
  d = directory_from format m ts (length b)

  live-is : live (directory_from format (bytes_of b) (tiles_in b) (length b)) ≡ live_in b
  unfolding live
  live-is = ap (λ (xs : List Extent). let l : LiveSet = record { size = length b; extents = xs } in l) sorted-is

  named-length : length (named_objects d) ≤ word_at m (32 + 16)
  named-length =
      let e = ap length (named_list format b s fr c).is in
      let l = length-map (ordered Named by_name os) (λ (o : Object). handle o.extent) in
      let n = (first_index format b s fr c).count in
      let few = (first_index format b s fr c).few in
      omega arith

  unique-length : length (unique_objects d) ≤ word_at m (56 + 16)
  unique-length =
      let e = ap length (unique_list format b s fr c).is in
      let l = length-map (ordered Unique by_kind os) (λ (o : Object). handle o.extent) in
      let n = (second_index format b s fr c).count in
      let few = (second_index format b s fr c).few in
      omega arith

  directory : IsDirectory format (directory_from format (bytes_of b) (tiles_in b) (length b))
  directory = record {
    proper = subst (λ l. IsTrue (is_proper l)) (sym live-is) (framed-proper format b fr);
    objects = list_all_from (is_object format) os (λ o k. (said format b s fr c o k).is_object);
    by_offset = by_offset format b s fr c;
    named =
        and_from (has_backing Index 8 named && nat_le (length (named_objects d)) named.capacity)
        (rises by_name (named_objects d))
        (and_from (has_backing Index 8 named) (nat_le (length (named_objects d)) named.capacity)
        (first_index format b s fr c).linked.table (le-leb (length (named_objects d)) named.capacity named-length))
        (named_list format b s fr c).rising;
    unique =
        and_from (has_backing Index 8 unique && nat_le (length (unique_objects d)) unique.capacity)
        (rises by_kind (unique_objects d))
        (and_from (has_backing Index 8 unique) (nat_le (length (unique_objects d)) unique.capacity)
        (second_index format b s fr c).linked.table
        (le-leb (length (unique_objects d)) unique.capacity unique-length)) (unique_list format b s fr c).rising;
  }

  pub clean-denotes : Denotes format b (directory_from format (bytes_of b) (tiles_in b) (length b))
  clean-denotes = record {
    directory = directory;
    header = fr.header;
    heap = subst (EncodesLiveSet format b) (sym live-is) (framed-heap format b fr);
    named = record {
      link = (first_index format b s fr c).linked.leads;
      count = (first_index format b s fr c).count ∙ ap length (sym (named_list format b s fr c).is);
      capacity = refl;
      entries = subst (AreIndexEntries m named) (sym (named_list format b s fr c).is)
          (first_index format b s fr c).entered;
    };
    unique = record {
      link = (second_index format b s fr c).linked.leads;
      count = (second_index format b s fr c).count ∙ ap length (sym (unique_list format b s fr c).is);
      capacity = refl;
      entries = subst (AreIndexEntries m unique) (sym (unique_list format b s fr c).is)
          (second_index format b s fr c).entered;
    };
    objects = all_mem (IsObjectAt m) os (λ o k. (said format b s fr c o k).stands);
  }

-- bytes of which no class holds denote the directory that is read off
pub reads_back : (format : ℕ) (b : List ℕ) → AreSmall (bytes_of b) → class_of format b ≡ None
    → Denotes format b (read_off format b)
unfolding read_off
reads_back format b s h = let w = classes-clean format b s h in clean-denotes format b s w.0 w.1
