-- Both indexes, one after the other: whether they pass their test, and the entries that are entered.
use Rattle.image_check.proofs.Common.{Block, Blocks, HaveEntries, IsUnmarked, List, Memory, None}
use Rattle.image_check.proofs.Common.{EntersEntries, Option, Owner, Role, Some, Tile, [], and_from, and_parts, ap}
use Rattle.image_check.proofs.Common.{are_distinct, are_new, block_at, both_ways, cases_Bool, cond}
use Rattle.image_check.proofs.Common.{cond-false, cond-true, cons_option, entries_of, entry_in, entry_of, false, frames}
use Rattle.image_check.proofs.Common.{has_index, has_indexes, index_of, is_among, is_some, nat_eq, new_block, owner_at}
use Rattle.image_check.proofs.Common.{refl, same_role, subst, sym, targets, true, ℕ, ◌&&◌, ◌++◌, ◌+◌, ◌∙◌, ◌∷◌, ◌≡◌}
use Rattle.std.proofs.Common.{Bool}
use Rattle.block_tags.specs.declared.tile.Role.TheVariants.{Object}
use Rattle.link_tree.proofs.Laws.{none_some}
use Rattle.image_check.specs.Entered.{AreEntered, is_enterable, listed, root_in}
use Rattle.image_check.proofs.indexes.Entries.{Distinct, distinct-append, distinct-passes}
use Rattle.image_check.proofs.bytes.Members.{Mem, Mem-is_among, is_among-Mem}
use Rattle.image_check.proofs.indexes.AllEntries.{distinct-parts, new-from, new-parts, passes-distinct}
use Rattle.image_check.proofs.block_collection.Lookup.{gathered-unmarked}
use mathlib.Core.Logic.{inl, inr}

-- ---- nothing is entered at first

free-if : (o : Option (ℕ × Block)) (es : Blocks) (n : ℕ) (b : Block)
    → ((e : ℕ × Block) → o ≡ Some e → e.1.owner ≡ None) → (block_at es n ≡ Some b → b.owner ≡ None)
    → block_at (cons_option o es) n ≡ Some b → b.owner ≡ None
free-if None es n b f r h = r h
free-if (Some e) es n b f r h = elim (cases_Bool (nat_eq n e.0)) [
  | inl k ↦ (let g : Some e.1 ≡ Some b = sym (cond-true (nat_eq n e.0) (Some e.1) (block_at es n) k) ∙ h
      in let same : e.1 ≡ b = cc in ap (λ (x : Block). x.owner) (sym same) ∙ f e refl)
  | inr k ↦ r (sym (cond-false (nat_eq n e.0) (Some e.1) (block_at es n) k) ∙ h)
]

entry-free : (t : Tile) (e : ℕ × Block) → entry_of t ≡ Some e → e.1.owner ≡ None
entry-free t e h = by-use t.use_of h
  where
    by-use : (o : Option Role) → elim o [ None ↦ None | Some role ↦ Some (t.offset + 16, new_block role t.len) ]
        ≡ Some e → e.1.owner ≡ None
    by-use None h = absurd (cc)
    by-use (Some role) h = let same : (t.offset + 16, new_block role t.len) ≡ e =
        some-pair (t.offset + 16, new_block role t.len) e h in ap (λ (x : ℕ × Block). x.1.owner) (sym same)
      where
        some-pair : (x y : ℕ × Block) → Some x ≡ Some y → x ≡ y
        some-pair x y e = cc

blocks-free : (ts : List Tile) (n : ℕ) (b : Block) → block_at (entries_of ts) n ≡ Some b → b.owner ≡ None
blocks-free [] n b h = absurd (cc)
blocks-free (t ∷ ts) n b h = free-if (entry_of t) (entries_of ts) n b (entry-free t) (λ k. blocks-free ts n b k) h

none-if-not : (b : Bool) (o : Option Owner) → o ≡ None → cond b o None ≡ None
none-if-not true o h = h
none-if-not false o h = refl

module _ (ts : List Tile) where
  no-index : (n : ℕ) → index_of (entries_of ts) n ≡ None
  no-index n = by-block (block_at (entries_of ts) n) refl
    where
      by-block : (o : Option Block) → block_at (entries_of ts) n ≡ o → root_in (entry_in o) ≡ None
      by-block None e = refl
      by-block (Some b) e = ap root_in (none-if-not (same_role b.role Object) b.owner (blocks-free ts n b e))

-- so no object has an entry
pub none-entered : (ts : List Tile) (es : Blocks) → es ≡ entries_of ts → HaveEntries es []
none-entered ts es gathered n = ap is_some (ap (λ (es : Blocks). index_of es n) gathered ∙ no-index ts n)

-- ---- both tests

module _ (m : Memory) (ts : List Tile) (es0 es1 : Blocks) (gathered : es0
    ≡ entries_of ts) (a : EntersEntries ts es0 es1 32 (targets m 32)) where
  abbrev xs : List ℕ
  xs = targets m 32

  abbrev ys : List ℕ
  ys = targets m 56

  index-none : (n : ℕ) → index_of es0 n ≡ None
  index-none n = ap (λ (es : Blocks). index_of es n) gathered ∙ no-index ts n

  -- the targets of the first index have an entry
  pub first-entered : HaveEntries es1 (targets m 32)
  first-entered n = ap is_some (a.entered n) ∙ by (is_among xs n)
    where
      by : (x : Bool) → is_some (cond x (Some 32) (index_of es0 n)) ≡ x
      by true = refl
      by false = ap is_some (index-none n)

  -- an object in the first index has its entry entered
  was-entered : (n : ℕ) → Mem n (targets m 32) → index_of es1 n ≡ None → ⊥
  was-entered n h e =
      none_some 32 (sym e ∙ a.entered n ∙ cond-true (is_among xs n) (Some 32) (index_of es0 n) (Mem-is_among xs n h))

  new-there : (n : ℕ) → (Mem n (targets m 32) → ⊥) → index_of es1 n ≡ None
  new-there n f = a.entered n ∙ elim (cases_Bool (is_among xs n)) [
    | inl h ↦ absurd (f (is_among-Mem xs n h))
    | inr h ↦ cond-false (is_among xs n) (Some 32) (index_of es0 n) h ∙ index-none n
  ]

  index-parts : has_indexes m ts ≡ true → (has_index m ts 32 ≡ true) × (has_index m ts 56 ≡ true)
      × Distinct (targets m 32 ++ targets m 56)
  index-parts h =
      let p = and_parts (has_index m ts 32 && has_index m ts 56) (are_distinct (xs ++ ys)) h in
      let q = and_parts (has_index m ts 32) (has_index m ts 56) p.0 in
      (q.0, q.1, passes-distinct (xs ++ ys) p.1)

  second-enterable : has_indexes m ts ≡ true → is_enterable m ts es1 56 ≡ true
  second-enterable h =
      let p = index-parts h in
      let d = distinct-parts xs ys p.2 in
      and_from (has_index m ts 56) (are_new es1 ys) p.1
      (new-from es1 ys (record { distinct = d.1; free = λ x k. new-there x (λ l. d.2 x l k) }))

  -- the second index is wrong: both fail
  pub second-wrong : is_enterable m ts es1 56 ≡ false → has_indexes m ts ≡ false
  second-wrong f = elim (cases_Bool (has_indexes m ts)) [
    | inl h ↦ absurd (both_ways (is_enterable m ts es1 56) f (second-enterable h))
    | inr h ↦ h
  ]

  module _ (r : is_enterable m ts es0 32 ≡ true) (s : is_enterable m ts es1 56 ≡ true) where
    first : (has_index m ts 32 ≡ true) × (are_new es0 (targets m 32) ≡ true)
    first = and_parts (has_index m ts 32) (are_new es0 xs) r

    second : (has_index m ts 56 ≡ true) × (are_new es1 (targets m 56) ≡ true)
    second = and_parts (has_index m ts 56) (are_new es1 ys) s

    apart : (x : ℕ) → Mem x (targets m 32) → Mem x (targets m 56) → ⊥
    apart x h k = was-entered x h ((new-parts es1 ys second.1).free x k)

    -- both indexes are right
    pub both-right : has_indexes m ts ≡ true
    both-right =
        and_from (has_index m ts 32 && has_index m ts 56) (are_distinct (xs ++ ys))
        (and_from (has_index m ts 32) (has_index m ts 56) first.0 second.0)
        (distinct-passes (xs ++ ys) (distinct-append xs ys (new-parts es0 xs first.1).distinct
        (new-parts es1 ys second.1).distinct (λ x y h k e. apart x h (subst (λ z. Mem z ys) (sym e) k))))

    -- both indexes are entered
    pub both-entered : (es2 : Blocks) → EntersEntries ts es1 es2 56 (targets m 56) → AreEntered m es2
    both-entered es2 b = record {
      apart = apart_tests;
      at = λ n. b.entered n ∙ ap (λ (o : Option ℕ). cond (is_among ys n) (Some 56) o) (a.entered n
          ∙ ap (λ (o : Option ℕ). cond (is_among xs n) (Some 32) o) (index-none n)) ∙ other-way n;
    }
      where
        apart_tests : (n : ℕ) → is_among (targets m 32) n ≡ true → is_among (targets m 56) n ≡ false
        apart_tests n h = elim (cases_Bool (is_among (targets m 56) n))
            [ inl k ↦ absurd (apart n (is_among-Mem xs n h) (is_among-Mem ys n k)) | inr k ↦ k ]

        swapped : (p q : Bool) → (p ≡ true → q ≡ true → ⊥)
            → cond {A = Option ℕ} q (Some 56) (cond p (Some 32) None) ≡ cond p (Some 32) (cond q (Some 56) None)
        swapped true true f = absurd (f refl refl)
        swapped true false f = refl
        swapped false true f = refl
        swapped false false f = refl

        other-way : (n : ℕ) → cond {A = Option ℕ} (is_among ys n) (Some 56) (cond (is_among xs n) (Some 32) None)
            ≡ listed xs ys n
        other-way n = swapped (is_among xs n) (is_among ys n) (λ p q.
            apart n (is_among-Mem xs n p) (is_among-Mem ys n q))

-- the first index is wrong: both fail
pub first-wrong : (m : Memory) (ts : List Tile) (es0 : Blocks) → es0 ≡ entries_of ts
    → is_enterable m ts es0 32 ≡ false → has_indexes m ts ≡ false
first-wrong m ts es0 gathered f = elim (cases_Bool (has_indexes m ts)) [
  | inl h ↦ (
      let p = and_parts (has_index m ts 32 && has_index m ts 56) (are_distinct (targets m 32 ++ targets m 56)) h in
      let q = and_parts (has_index m ts 32) (has_index m ts 56) p.0 in
      let d = distinct-parts (targets m 32) (targets m 56) (passes-distinct (targets m 32 ++ targets m 56) p.1) in
      absurd (both_ways (is_enterable m ts es0 32) f
      (and_from (has_index m ts 32) (are_new es0 (targets m 32)) q.0
      (new-from es0 (targets m 32) (record {
        distinct = d.0;
        free = λ x k. ap (λ (es : Blocks). index_of es x) gathered ∙ no-index ts x;
      })))))
  | inr h ↦ h
]

-- ---- the marking

-- if only entries of objects are entered, no link of another block is
pub entries-unmarked : (ts : List Tile) (es0 es1 es2 : Blocks) (xs ys : List ℕ) → es0 ≡ entries_of ts
    → EntersEntries ts es0 es1 32 xs → EntersEntries ts es1 es2 56 ys → IsUnmarked ts es2
entries-unmarked ts es0 es1 es2 xs ys g a b = record {
  frame = b.frame ∙ a.frame ∙ ap frames g;
  none = λ n. b.owners n ∙ a.owners n ∙ ap (λ (es : Blocks). owner_at es n) g ∙ (gathered-unmarked ts).none n;
}
