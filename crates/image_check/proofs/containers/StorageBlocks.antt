-- The storage block of a container: its bounds and its rate.
use Rattle.image_check.proofs.Common.{AreBlocks, Block, Blocks, HasTiles, IsMarkedLink, List, None, Option, Some}
use Rattle.image_check.proofs.Common.{Storage, Tile, [], ap, arith, block_at, block_weight, bytes_of, cases_Bool}
use Rattle.image_check.proofs.Common.{cond-false, cond-true, container_block_rates, eq-eqb, false, false≢true}
use Rattle.image_check.proofs.Common.{if◌then◌else◌, inl, inr, is_none, is_rooted, is_table_link, leads_to, leb-true}
use Rattle.image_check.proofs.Common.{length, link_at, nat_eq, nat_le, owner_at, owner_in, rate_of, refl, rooted_weight}
use Rattle.image_check.proofs.Common.{same_role, subst, sym, tile_of, true, ℕ, ◌%◌, ◌*◌, ◌+◌, ◌/◌, ◌<◌, ◌==◌, ◌∙◌, ◌∷◌}
use Rattle.image_check.proofs.Common.{◌≡◌, ◌≤◌}
use Rattle.std.proofs.Common.{Bool}
use Rattle.std.specs.Map.{lookup}
use Rattle.raw_region.specs.Memory.{word_at}
use Rattle.block_tags.specs.declared.tile.Role.TheVariants.{Object}
use Rattle.image_check.specs.Passes.{tiles_in}
use Rattle.raw_region.specs.Format.{current}
use Rattle.image_check.proofs.block_collection.Places.{found}
use Rattle.image_check.specs.Owners as owners

-- one of the blocks whose first link is at an offset
pub one-weight : (root n : ℕ) (b : Block) (es : Blocks) → block_at es n ≡ Some b → is_rooted root b.owner ≡ true
    → block_weight b ≤ rooted_weight root es
one-weight root n b [] e r = absurd (cc)
one-weight root n b (x ∷ es) e r = elim (cases_Bool (nat_eq n x.0)) [
  | inl s ↦
      let found : Some x.1 ≡ Some b = sym (cond-true (nat_eq n x.0) (Some x.1) (lookup (nat_eq n) es) s) ∙ e in
      let same : x.1 ≡ b = cc in
      let counted : (if is_rooted root x.1.owner then block_weight x.1 else 0) ≡ block_weight b =
      ap (λ (y : Block). if is_rooted root y.owner then block_weight y else 0) same
      ∙ cond-true (is_rooted root b.owner) (block_weight b) 0 r in
      omega arith
  | inr s ↦
      let rest = one-weight root n b es (sym (cond-false (nat_eq n x.0) (Some x.1) (lookup (nat_eq n) es) s) ∙ e) r in
      omega arith
]

-- a block with capacity behind the link of a container
pub record StorageThere (b : List ℕ) (es : Blocks) (at each capacity block : ℕ) : Type 0 where
  pub whole : block % 16 ≡ 0
  pub inside : block + each * capacity ≤ length b
  pub paid : each * capacity ≤ rooted_weight at es

storage-tile : (b : List ℕ) (es : Blocks) (at each capacity block : ℕ) (o : Option Tile) → HasTiles b
    → AreBlocks (tiles_in b) es → IsMarkedLink (bytes_of b) (tiles_in b) es Storage at at
    → link_at (bytes_of b) at ≡ Some block → tile_of (tiles_in b) Storage block ≡ o
    → elim o [ None ↦ false | Some t ↦ nat_le (each * capacity + 16) t.len ] ≡ true
    → StorageThere b es at each capacity block
storage-tile b es at each capacity block None tiles a noted leads e h = absurd (false≢true h)
storage-tile b es at each capacity block (Some t) tiles a noted leads e h =
    let n = found current (bytes_of b) (length b) Storage block t tiles.tags e in
    let w = a.blocks block Storage t e in
    let met : owner_at es block ≡ Some (owners.owner at at) = noted block (leads, (t, e)) in
    let owned : w.block.owner ≡ Some (owners.owner at at) =
    sym (cond-false (same_role w.block.role Object) None w.block.owner (ap (λ r. same_role r Object) w.role_is))
    ∙ (sym (ap owner_in w.is) ∙ met) in
    let rooted : is_rooted at w.block.owner ≡ true = ap (is_rooted at) owned ∙ eq-eqb at at refl in
    let most = one-weight at block w.block es w.is rooted in
    let weight : block_weight w.block ≡ 16 * (w.block.len / 16) =
    ap (λ r. rate_of container_block_rates (Some r) * (w.block.len / 16)) w.role_is in
    let len = w.len in
    let long = leb-true (each * capacity + 16) t.len h in
    let place = n.there in
    let whole = n.lies.whole refl in
    let high = n.lies.high in
    record { whole = omega arith; inside = omega arith; paid = omega arith }

pub storage-there : (b : List ℕ) (es : Blocks) (at each capacity block : ℕ) → HasTiles b → AreBlocks (tiles_in b) es
    → (0 < capacity → IsMarkedLink (bytes_of b) (tiles_in b) es Storage at at)
    → link_at (bytes_of b) at ≡ Some block → is_table_link (tiles_in b) Storage (Some block) each capacity ≡ true
    → StorageThere b es at each capacity block
storage-there b es at each capacity block tiles a noted leads h = elim (cases_Bool (capacity == 0)) [
  | inl e ↦ absurd (false≢true (sym
      (cond-true (capacity == 0) (is_none (Some block))
      (leads_to (tiles_in b) Storage (Some block) (each * capacity)) e) ∙ h))
  | inr e ↦
      let some : 0 < capacity = positive capacity e in
      storage-tile b es at each capacity block (tile_of (tiles_in b) Storage block) tiles a (noted some) leads refl
      (sym (cond-false (capacity == 0) (is_none (Some block))
      (leads_to (tiles_in b) Storage (Some block) (each * capacity)) e) ∙ h)
]
  where
    positive : (n : ℕ) → (n == 0) ≡ false → 0 < n
    positive n h = grind arith

-- the same for the words of a container that were read
pub storage-read : (b : List ℕ) (es : Blocks) (at each capacity block : ℕ) (link : Option ℕ) (is : Bool)
    → HasTiles b → AreBlocks (tiles_in b) es
    → (0 < word_at (bytes_of b) (at + 16) → IsMarkedLink (bytes_of b) (tiles_in b) es Storage at at)
    → capacity ≡ word_at (bytes_of b) (at + 16)
    → link ≡ link_at (bytes_of b) at → link ≡ Some block
    → is ≡ is_table_link (tiles_in b) Storage link each capacity → is ≡ true → StorageThere b es at each capacity block
storage-read b es at each capacity block link is tiles a noted read leads some value met =
    storage-there b es at each capacity block tiles a (λ h. noted (subst (λ n. 0 < n) read h)) (sym leads ∙ some)
    (ap (λ o. is_table_link (tiles_in b) Storage o each capacity) (sym some) ∙ (sym value ∙ met))
