-- One more index entry: the check enters its link at the object to which the link leads.
use Rattle.image_check.proofs.Common.{AreBlocks, Block, Blocks, EntersLink, List, None, EntersEntries, Option}
use Rattle.image_check.proofs.Common.{Owner, Some, Tile, [], and_parts, ap, block_at, cases_Bool, cases_eq, cond}
use Rattle.image_check.proofs.Common.{cond-false, cond-true, entry_in, false, false≢true, frames, good_for}
use Rattle.image_check.proofs.Common.{index_of, is_among, is_none, is_some, ne_eqb, owner_at, owner_in, refl}
use Rattle.image_check.proofs.Common.{same_role, subst, sym, tile_of, true, ℕ, ◌++◌, ◌==◌, ◌||◌, ◌∙◌, ◌∷◌}
use Rattle.image_check.proofs.Common.{◌≡◌, ◌≢◌}
use Rattle.std.proofs.Common.{Bool}
use Rattle.std.proofs.lemmas.List.Folds.{list_any-append}
use Rattle.block_tags.specs.declared.tile.Role.TheVariants.{Object}
use Rattle.image_check.specs.Entered.{is_new_block, root_in, with_entry}
use Rattle.image_check.proofs.bytes.Members.{Mem-is_among, mem_right}
use Rattle.image_check.proofs.shared_blocks.OneLink.{frames-put, put-blocks, put-other, put-same}
use Rattle.image_check.proofs.block_collection.UsedTile.{same_role-is}
use mathlib.Core.Logic.{inl, inr}

-- ---- an object without an entry

new-object : (b : Block) → is_new_block b ≡ true → (same_role b.role Object ≡ true) × (b.owner ≡ None)
new-object b h = let p = and_parts (same_role b.role Object) (is_none b.owner) h in (p.0, no-owner b.owner p.1)
  where
    no-owner : (o : Option Owner) → is_none o ≡ true → o ≡ None
    no-owner None e = refl
    no-owner (Some o) e = absurd (false≢true e)

owner-of-object : (b : Block) → same_role b.role Object ≡ true → owner_in (Some b) ≡ None
owner-of-object b h = cond-true (same_role b.role Object) None b.owner h

entry-of-object : (b : Block) → same_role b.role Object ≡ true → entry_in (Some b) ≡ b.owner
entry-of-object b h = cond-true (same_role b.role Object) b.owner None h

-- ---- one entry more

module _ (ts : List Tile) (old es new : Blocks) (root place : ℕ) (xs : List ℕ) (link : Option ℕ)
    (a : EntersEntries ts old es root xs) (e : EntersLink es new link place root) where
  abbrev n : ℕ
  n = e.target

  abbrev w : Block
  w = with_entry e.block place root

  object : same_role e.block.role Object ≡ true
  object = (new-object e.block e.new_block).0

  here : block_at new n ≡ Some w
  here = ap (λ (es : Blocks). block_at es n) e.after ∙ put-same n w es (ap is_some e.is)

  there : (q : ℕ) → q ≢ n → block_at new q ≡ block_at es q
  there q d = ap (λ (es : Blocks). block_at es q) e.after ∙ put-other n q w es d

  owner-stays : (q : ℕ) → owner_at new q ≡ owner_at es q
  owner-stays q = elim (cases_eq q n) [
    | inl f ↦
        ap (owner_at new) f ∙ ap owner_in here ∙ owner-of-object w object ∙ sym (owner-of-object e.block object)
        ∙ sym (ap owner_in e.is) ∙ sym (ap (owner_at es) f)
    | inr d ↦ ap owner_in (there q d)
  ]

  index-here : index_of new n ≡ Some root
  index-here = ap (λ o. root_in (entry_in o)) here ∙ ap root_in (entry-of-object w object)

  index-there : (q : ℕ) → q ≢ n → index_of new q ≡ index_of es q
  index-there q d = ap (λ o. root_in (entry_in o)) (there q d)

  -- the object had no entry in `es`, just before this entry
  index-before : index_of es n ≡ None
  index-before = ap (λ o. root_in (entry_in o)) e.is
      ∙ ap root_in (entry-of-object e.block object ∙ (new-object e.block e.new_block).1)

  among-more : (q : ℕ) → is_among (xs ++ n ∷ []) q ≡ (is_among xs q || (q == n || false))
  among-more q = list_any-append (λ y. q == y) xs (n ∷ [])

  entered-after : (q : ℕ) → index_of new q ≡ cond (is_among (xs ++ n ∷ []) q) (Some root) (index_of old q)
  entered-after q = elim (cases_eq q n) [
    | inl f ↦
        let yes : is_among (xs ++ n ∷ []) q ≡ true = Mem-is_among (xs ++ n ∷ []) q (mem_right q xs (n ∷ []) (inl f)) in
        ap (index_of new) f ∙ index-here ∙ sym (cond-true (is_among (xs ++ n ∷ []) q) (Some root) (index_of old q) yes)
    | inr d ↦ index-there q d ∙ a.entered q
        ∙ ap (λ b. cond b (Some root) (index_of old q))
        (sym (among-more q ∙ only-one (is_among xs q) (q == n) (ne_eqb q n d)))
  ]
    where
      only-one : (x y : Bool) → y ≡ false → (x || (y || false)) ≡ x
      only-one true y h = refl
      only-one false y h = ap (λ z. z || false) h

  -- the object is entered, and all others stay
  pub added-more : EntersEntries ts old new root (xs ++ n ∷ [])
  added-more = record {
    blocks = subst (AreBlocks ts) (sym e.after) (put-blocks ts es n e.block w e.is refl refl a.blocks);
    frame = ap frames e.after ∙ frames-put n e.block w es e.is refl refl ∙ a.frame;
    owners = λ q. owner-stays q ∙ a.owners q;
    entered = entered-after;
  }

  -- the object is not among the earlier ones
  pub not-before : is_among xs n ≡ false
  not-before = elim (cases_Bool (is_among xs n)) [
    | inl h ↦ (let k : Some root ≡ None = sym (cond-true (is_among xs n) (Some root) (index_of old n) h)
        ∙ sym (a.entered n) ∙ index-before in absurd (cc))
    | inr h ↦ h
  ]

  -- the object had no entry in `old`, before the first entry
  pub new-before : index_of old n ≡ None
  new-before = sym (cond-false (is_among xs n) (Some root) (index_of old n) not-before) ∙ sym (a.entered n)
      ∙ index-before

  -- the link leads to an object
  pub good : is_some (good_for ts Object link) ≡ true
  good =
      let t = a.blocks.tiles n e.block e.is in
      ap (λ l. is_some (good_for ts Object l)) e.leads
      ∙ ap (λ r. is_some (tile_of ts r n)) (sym (same_role-is e.block.role Object object)) ∙ ap is_some t.is
