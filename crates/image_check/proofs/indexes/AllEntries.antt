-- The entries of an index, one after another: whether each leads to an object without an earlier entry.
use Rattle.image_check.proofs.Common.{Block, Blocks, EntersLink, IsTrue, List, None, EntersEntries, Option, Owner, Some}
use Rattle.image_check.proofs.Common.{Tile, [], and_from, and_parts, ap, are_distinct, are_enterable, are_new}
use Rattle.image_check.proofs.Common.{both_ways, can_enter, cases_Bool, cond-false, cond-true, entry_in, false}
use Rattle.image_check.proofs.Common.{false≢true, flat_map, good_for, index_of, is_among, is_none, is_some, list_all}
use Rattle.image_check.proofs.Common.{list_all-append, not, option_to_list, refl, same_role, subst, sym, tile_of, true}
use Rattle.image_check.proofs.Common.{ℕ, ◌++◌, ◌∙◌, ◌∷◌, ◌≡◌}
use Rattle.std.proofs.Common.{Bool}
use Rattle.std.proofs.lemmas.Grind.{flat_map-append}
use Rattle.block_tags.specs.declared.tile.Role.TheVariants.{Object}
use Rattle.image_check.specs.Entered.{is_new_in, root_in}
use Rattle.image_check.proofs.indexes.Entries.{Distinct, distinct-append, distinct-passes}
use Rattle.image_check.proofs.bytes.Members.{Mem, Mem-is_among, is_among-Mem, list_all_from, list_all_mem, mem_left}
use Rattle.image_check.proofs.bytes.Members.{mem_parts, mem_right}
use Rattle.image_check.proofs.block_collection.UsedTile.{same_role-refl}
use Rattle.image_check.proofs.indexes.OneEntry.{added-more, good, new-before, not-before}
use mathlib.Core.Logic.{inl, inr}

-- ---- numbers that differ

not-among : (b : Bool) → not b ≡ true → b ≡ true → ⊥
not-among true h e = false≢true h
not-among false h e = false≢true e

-- a list that passes the test has no number twice
pub passes-distinct : (xs : List ℕ) → IsTrue (are_distinct xs) → Distinct xs
passes-distinct [] h = tt
passes-distinct (x ∷ xs) h =
    let p = and_parts (not (is_among xs x)) (are_distinct xs) h in (
      λ y k e. not-among (is_among xs x) p.0 (Mem-is_among xs x (subst (λ z. Mem z xs) (sym e) k)),
      passes-distinct xs p.1,
    )

-- if a joined list has no number twice, its two parts have none in common
pub distinct-parts : (xs ys : List ℕ) → Distinct (xs ++ ys)
    → Distinct xs × Distinct ys × ((x : ℕ) → Mem x xs → Mem x ys → ⊥)
distinct-parts [] ys d = (tt, d, λ x k l. k)
distinct-parts (x ∷ xs) ys d =
    let r = distinct-parts xs ys d.1 in (
      (λ y k e. d.0 y (mem_left y xs ys k) e, r.0),
      r.1,
      λ y k l. elim k [ inl f ↦ d.0 y (mem_right y xs ys l) (sym f) | inr h ↦ r.2 y h l ],
    )

-- ---- objects without an entry

none-is : (o : Option ℕ) → is_none o ≡ true → o ≡ None
none-is None h = refl
none-is (Some n) h = absurd (false≢true h)

-- no object is in the list twice, and none has an entry
pub record AreNew (es : Blocks) (xs : List ℕ) : Type 0 where
  pub distinct : Distinct xs
  pub free : (x : ℕ) → Mem x xs → index_of es x ≡ None

-- entries that are new as a property are new as a test
pub new-from : (es : Blocks) (xs : List ℕ) → AreNew es xs → are_new es xs ≡ true
new-from es xs a = and_from (are_distinct xs) (list_all (λ n. is_none (index_of es n)) xs)
    (distinct-passes xs a.distinct) (list_all_from (λ n. is_none (index_of es n)) xs (λ x k. ap is_none (a.free x k)))

-- entries that are new as a test are new as a property
pub new-parts : (es : Blocks) (xs : List ℕ) → are_new es xs ≡ true → AreNew es xs
new-parts es xs h =
    let p = and_parts (are_distinct xs) (list_all (λ n. is_none (index_of es n)) xs) h in
    record {
      distinct = passes-distinct xs p.0;
      free = λ x k. none-is (index_of es x) (list_all_mem (λ n. is_none (index_of es n)) xs x p.1 k);
    }

abbrev is_good : List Tile → Option ℕ → Bool
is_good ts link = is_some (good_for ts Object link)

-- the targets of links that are not null
abbrev pub targets_of : List (Option ℕ) → List ℕ
targets_of links = flat_map option_to_list links

-- ---- one entry more

-- the objects before and after one link
pub targets-split : (front back : List (Option ℕ)) (link : Option ℕ) (n : ℕ) → link ≡ Some n
    → targets_of (front ++ link ∷ back) ≡ targets_of front ++ n ∷ targets_of back
targets-split front back link n e =
    ap (λ l. targets_of (front ++ l ∷ back)) e ∙ flat_map-append option_to_list front (Some n ∷ back)

module _ (ts : List Tile) (old es : Blocks) (root place : ℕ) (front : List (Option ℕ)) (link : Option ℕ)
    (a : EntersEntries ts old es root (targets_of front)) (r : are_enterable ts old front ≡ true) where
  parts : (list_all (is_good ts) front ≡ true) × (are_new old (targets_of front) ≡ true)
  parts = and_parts (list_all (is_good ts) front) (are_new old (targets_of front)) r

  module _ (new : Blocks) (e : EntersLink es new link place root) where
    xs : List ℕ
    xs = targets_of front

    new-more : AreNew old (targets_of front ++ e.target ∷ [])
    new-more =
        let w = new-parts old (targets_of front) parts.1 in
        record {
          distinct =
              distinct-append (targets_of front) (e.target ∷ []) w.distinct ((λ y k f. k), tt)
              (λ x y k l f. elim l [
                | inl g ↦ both_ways (is_among (targets_of front) e.target)
                    (not-before ts old es new root place (targets_of front) link a e)
                    (Mem-is_among (targets_of front) e.target (subst (λ z. Mem z (targets_of front)) (f ∙ g) k))
                | inr g ↦ g
              ]);
          free = λ x k. elim (mem_parts x (targets_of front) (e.target ∷ []) k) [
            | inl h ↦ w.free x h
            | inr (inl f) ↦ ap (index_of old) f ∙ new-before ts old es new root place (targets_of front) link a e
            | inr (inr f) ↦ absurd f
          ];
        }

    -- one more entry is entered
    pub one-entered : (are_enterable ts old (front ++ link ∷ []) ≡ true)
        × EntersEntries ts old new root (targets_of (front ++ link ∷ []))
    one-entered =
        let same = targets-split front [] link e.target e.leads in (
          and_from (list_all (is_good ts) (front ++ link ∷ [])) (are_new old (targets_of (front ++ link ∷ [])))
              (list_all-append (is_good ts) front (link ∷ [])
              ∙ and_from (list_all (is_good ts) front) (list_all (is_good ts) (link ∷ [])) parts.0
              (and_from (is_good ts link) true (good ts old es new root place (targets_of front) link a e) refl))
              (ap (are_new old) same ∙ new-from old (targets_of front ++ e.target ∷ []) new-more),
          subst (EntersEntries ts old new root) (sym same)
              (added-more ts old es new root place (targets_of front) link a e),
        )

-- ---- an entry that is wrong

free-block : (b : Block) → same_role b.role Object ≡ true → root_in (entry_in (Some b)) ≡ None → is_none b.owner ≡ true
free-block b o e = no-owner b.owner (sym (ap root_in (cond-true (same_role b.role Object) b.owner None o)) ∙ e)
  where
    no-owner : (o : Option Owner) → root_in o ≡ None → is_none o ≡ true
    no-owner None h = refl
    no-owner (Some o) h = absurd (cc)

module _ (ts : List Tile) (old es : Blocks) (root : ℕ) (front : List (Option ℕ))
    (a : EntersEntries ts old es root (targets_of front)) where
  -- an object that is not among the earlier ones and has no entry can be entered
  pub can : (n : ℕ) → is_some (tile_of ts Object n) ≡ true → is_among (targets_of front) n ≡ false
      → index_of old n ≡ None → can_enter es (Some n) ≡ true
  can n g d f = can-if (tile_of ts Object n) refl g
    where
      can-if : (o : Option Tile) → tile_of ts Object n ≡ o → is_some o ≡ true → can_enter es (Some n) ≡ true
      can-if None e h = absurd (false≢true h)
      can-if (Some t) e h =
          let b = a.blocks.blocks n Object t e in
          let object : same_role b.block.role Object ≡ true =
          ap (λ r. same_role r Object) b.role_is ∙ same_role-refl Object in
          let none : index_of es n ≡ None =
          a.entered n ∙ cond-false (is_among (targets_of front) n) (Some root) (index_of old n) d ∙ f in
          ap is_new_in b.is ∙ and_from (same_role b.block.role Object) (is_none b.block.owner) object
          (free-block b.block object (sym (ap (λ o. root_in (entry_in o)) b.is) ∙ none))

  can-behind : (link : Option ℕ) (back : List (Option ℕ)) → are_enterable ts old (front ++ link ∷ back) ≡ true
      → can_enter es link ≡ true
  can-behind link back h =
      let p = and_parts (list_all (is_good ts) (front ++ link ∷ back))
      (are_new old (targets_of (front ++ link ∷ back))) h in
      let g = and_parts (list_all (is_good ts) front) (list_all (is_good ts) (link ∷ back))
      (sym (list_all-append (is_good ts) front (link ∷ back)) ∙ p.0) in
      let g2 = and_parts (is_good ts link) (list_all (is_good ts) back) g.1 in
      let w = new-parts old (targets_of front ++ targets_of (link ∷ back))
      (sym (ap (are_new old) (flat_map-append option_to_list front (link ∷ back))) ∙ p.1) in
      behind link g2.0 w
    where
      behind : (link : Option ℕ) → is_good ts link ≡ true
          → AreNew old (targets_of front ++ targets_of (link ∷ back)) → can_enter es link ≡ true
      behind None g w = absurd (false≢true g)
      behind (Some n) g w =
          let d = distinct-parts (targets_of front) (n ∷ targets_of back) w.distinct in
          can n g
          (elim (cases_Bool (is_among (targets_of front) n)) [
            | inl k ↦ absurd (d.2 n (is_among-Mem (targets_of front) n k) (inl refl))
            | inr k ↦ k
          ])
          (w.free n (mem_right n (targets_of front) (n ∷ targets_of back) (inl refl)))

  -- an entry that cannot be entered fails the index
  pub wrong-entry : (link : Option ℕ) (back : List (Option ℕ)) → can_enter es link ≡ false
      → are_enterable ts old (front ++ link ∷ back) ≡ false
  wrong-entry link back f = elim (cases_Bool (are_enterable ts old (front ++ link ∷ back))) [
    | inl h ↦ absurd (both_ways (can_enter es link) f (can-behind link back h))
    | inr h ↦ h
  ]
