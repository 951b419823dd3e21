-- The first entry of an index that is wrong.
use Rattle.image_check.proofs.Common.{Blocks, ChecksClass, EntersLink, Err, HaveEntries, List, MatchResult, Memory}
use Rattle.image_check.proofs.Common.{None, EntersEntries, Ok, Option, Result, Some, Tile, and_from, and_parts, ap}
use Rattle.image_check.proofs.Common.{are_distinct, are_enterable, are_new, are_ranked, can_enter, cond, entries, false}
use Rattle.image_check.proofs.Common.{first_targets, good_for, has_index, index_of, inr, is_among, is_new, is_none}
use Rattle.image_check.proofs.Common.{is_some, link_at, links_in, list_all, not, not-true, or_parts, refl, subst, sym}
use Rattle.image_check.proofs.Common.{targets, tile_of, true, true≢false, ℕ, ◌&&◌, ◌++◌, ◌+◌, ◌==◌, ◌||◌, ◌∙◌, ◌≡◌}
use Rattle.std.proofs.Common.{Bool}
use Rattle.std.proofs.lemmas.Bool.{false_from_ne_true}
use Rattle.std.proofs.lemmas.List.Folds.{list_any-append}
use Rattle.raw_region.specs.Memory.{word_at}
use Rattle.block_tags.specs.declared.tile.Role.TheVariants.{Object}
use Rattle.image_check.specs.Entered.{is_enterable}
use Rattle.image_check.specs.IndexOffsets.{IsFirstWrong, IsWrongAt, earlier_targets, is_head}
use Rattle.image_check.specs.ObjectOffsets.{IsMisplaced, IsOutOfOrder}
use Rattle.image_check.proofs.indexes.AllEntries.{can, targets_of}
use Rattle.image_check.proofs.indexes.OneEntry.{good, new-before, not-before}
use Rattle.image_check.proofs.indexes.Entries.{entries_in}

-- ---- one entry

none-noted : (o : Option ℕ) → is_some o ≡ false → o ≡ None
none-noted None e = refl
none-noted (Some n) e = absurd (true≢false e)

module _ (ts : List Tile) (old es : Blocks) (root : ℕ) (front : List (Option ℕ))
    (a : EntersEntries ts old es root (targets_of front)) (earlier : List ℕ) (have : HaveEntries old earlier) where
  among-both : (n : ℕ) → is_among (earlier ++ targets_of front) n
      ≡ (is_among earlier n || is_among (targets_of front) n)
  among-both n = list_any-append (λ y. n == y) earlier (targets_of front)

  -- an entry that cannot be entered leads to no object of its own
  pub not-new : (link : Option ℕ) → can_enter es link ≡ false → is_new ts (earlier ++ targets_of front) link ≡ false
  not-new None f = refl
  not-new (Some n) f = false_from_ne_true (is_new ts (earlier ++ targets_of front) (Some n)) (λ h.
      let p = and_parts (is_some (tile_of ts Object n)) (not (is_among (earlier ++ targets_of front) n)) h in
      let q = or_parts (is_among earlier n) (is_among (targets_of front) n) (sym (among-both n)
      ∙ not-true (is_among (earlier ++ targets_of front) n) p.1) in
      true≢false (sym (can ts old es root front a n p.0 q.1 (none-noted (index_of old n) (have n ∙ q.0))) ∙ f))

  -- an entry that is entered leads to an object of its own
  pub entered-new : (new : Blocks) (place : ℕ) (link : Option ℕ) → EntersLink es new link place root
      → is_new ts (earlier ++ targets_of front) link ≡ true
  entered-new new place link e =
      let n = e.target in
      let tile = sym (ap (λ l. is_some (good_for ts Object l)) e.leads)
      ∙ good ts old es new root place (targets_of front) link a e in
      let first = sym (have n) ∙ ap is_some (new-before ts old es new root place (targets_of front) link a e) in
      let last = not-before ts old es new root place (targets_of front) link a e in
      ap (is_new ts (earlier ++ targets_of front)) e.leads
      ∙ and_from (is_some (tile_of ts Object n)) (not (is_among (earlier ++ targets_of front) n)) tile
      (ap not (among-both n ∙ ap (λ x. x || is_among (targets_of front) n) first ∙ last))

-- ---- an index

-- the targets of its entries
some-targets : (m : Memory) (at block : ℕ) → link_at m at ≡ Some block
    → targets m at ≡ first_targets m block (word_at m (at + 8))
some-targets m at block link = ap (λ o. targets_of (entries_in m (word_at m (at + 8)) o)) link

-- they are in order, or one is the first that is not
pub order-found : (m : Memory) (class at block n : ℕ) (k : Result (Unit {0}) ℕ) → link_at m at ≡ Some block
    → n ≡ word_at m (at + 8)
    → ChecksClass (are_ranked class m (first_targets m block n)) (IsOutOfOrder class m block n) k
    → ChecksClass (are_ranked class m (targets m at)) (IsMisplaced class m at) k
order-found m class at block n (Ok done) link e h =
    ap (are_ranked class m) (some-targets m at block link ∙ ap (first_targets m block) (sym e)) ∙ h
order-found m class at block n (Err place) link e h = (
  ap (are_ranked class m) (some-targets m at block link ∙ ap (first_targets m block) (sym e)) ∙ h.0,
  record { block = block; link = link; entry = subst (λ c. IsOutOfOrder class m block c place) e h.1 },
)

module _ (m : Memory) (ts : List Tile) (es : Blocks) (at : ℕ) where
  -- no entry can be entered if the index's words are wrong
  pub wrong-head : is_head m ts at ≡ false → is_enterable m ts es at ≡ false
  wrong-head e =
      ap (λ (h : Bool). cond h (list_all (λ link. is_some (good_for ts Object link)) (entries m at)) false
      && are_new es (targets m at)) e

  -- if the words are valid, the test is about the entries in the block
  some-entries : (block : ℕ) → is_head m ts at ≡ true → link_at m at ≡ Some block
      → is_enterable m ts es at ≡ are_enterable ts es (links_in m block (word_at m (at + 8)))
  some-entries block head link =
      ap (λ (h : Bool). cond h (list_all (λ link. is_some (good_for ts Object link)) (entries m at)) false
      && are_new es (targets m at)) head
      ∙ ap (λ o. are_enterable ts es (entries_in m (word_at m (at + 8)) o)) link

  -- all entries were entered, or one is the first wrong one
  pub index-entered : {A : Type 0} (new : Blocks) (block n : ℕ) (k : Result A ℕ) → is_head m ts at ≡ true
      → link_at m at ≡ Some block → n ≡ word_at m (at + 8) → HaveEntries es (earlier_targets m at)
      → MatchResult k (λ done. (are_enterable ts es (links_in m block n) ≡ true)
      × EntersEntries ts es new at (first_targets m block n)) (λ place.
      (are_enterable ts es (links_in m block n) ≡ false)
      × ((earlier : List ℕ) → HaveEntries es earlier → IsFirstWrong m ts earlier block n place))
      → MatchResult k (λ done. (is_enterable m ts es at ≡ true) × EntersEntries ts es new at (targets m at))
      (λ place. (is_enterable m ts es at ≡ false) × IsWrongAt m ts at place)
  index-entered new block n (Ok done) head link e have h = (
    some-entries block head link ∙ ap (λ c. are_enterable ts es (links_in m block c)) (sym e) ∙ h.0,
    subst (EntersEntries ts es new at) (ap (first_targets m block) e ∙ sym (some-targets m at block link)) h.1,
  )
  index-entered new block n (Err place) head link e have h = (
    some-entries block head link ∙ ap (λ c. are_enterable ts es (links_in m block c)) (sym e) ∙ h.0,
    inr (
      head,
      record {
        block = block;
        link = link;
        entry =
            subst (λ c. IsFirstWrong m ts (earlier_targets m at) block c place) e (h.1 (earlier_targets m at) have);
      },
    ),
  )

  -- an index whose entries were entered is valid
  pub entered-right : is_enterable m ts es at ≡ true → (has_index m ts at && are_distinct (targets m at)) ≡ true
  entered-right h =
      let p = and_parts (has_index m ts at) (are_new es (targets m at)) h in
      and_from (has_index m ts at) (are_distinct (targets m at)) p.0
      (and_parts (are_distinct (targets m at)) (list_all (λ n. is_none (index_of es n)) (targets m at)) p.1).0
