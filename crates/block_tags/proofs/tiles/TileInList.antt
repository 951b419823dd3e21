-- A tile in the list of the tags: its tags, its neighbours, and the list after a change of it.
use Rattle.std.proofs.Common.{◌≡◌, refl, sym, ap, subst, ◌∙◌, ℕ, ◌+◌, ◌%◌, ◌<◌, ◌≤◌, ◌⊎◌, inl, inr, Some, None, Bool}
use Rattle.std.proofs.Common.{true, false, List, [], ◌∷◌, arith, nat_le, cond, ◌&&◌, ◌||◌, not, IsTrue, ◌==◌}
use Rattle.std.specs.Prelude.{Option}
use Rattle.std.proofs.lemmas.Bool.{eq-eqb, eqb-true}
use Rattle.raw_region.specs.Memory.{Memory, SameBytes, word_at}
use Rattle.block_tags.specs.declared.tile.Role.{Role}
use Rattle.block_tags.specs.declared.tile.Tile.{Tile}
use Rattle.block_tags.specs.Tiles.{AreTags, is_tile, may_be_red, tile_at}
use Rattle.block_tags.specs.Lists.{tile_in, first_in, next_in, previous_from, changed_at, IsBesideTags}
use Rattle.std.proofs.lemmas.Bool.{and_parts, and_from}
use Rattle.std.proofs.lemmas.Option.{same_Some, none-some}
use Rattle.block_tags.proofs.tiles.ReadOff.{is_tile-IsWhole, tile_at-tag_word, AreTags-reaches}
use Rattle.raw_region.proofs.Laws.{SameBytes-word}

-- ---- the fields of a test of a tile
pub is_tile-made : (format offset len : ℕ) (use_of : Option Role) (red : Bool) → 32 ≤ len → len % 16 ≡ 0
    → IsTrue (not red || may_be_red format use_of)
    → IsTrue (is_tile format (record { offset = offset; len = len; use_of = use_of; red = red }))
is_tile-made format offset len use_of red long whole colour =
    and_from (nat_le 32 len && (len % 16 == 0)) (not red
    || may_be_red format use_of) (and_from (nat_le 32 len) (len % 16 == 0) (grind arith)
    (eq-eqb (len % 16) 0 whole)) colour

-- a tile that passes the test is red only if its use may be
pub colour_of : (format : ℕ) (t : Tile) → IsTrue (is_tile format t) → IsTrue (not t.red || may_be_red format t.use_of)
colour_of format t h = (and_parts (nat_le 32 t.len && (t.len % 16 == 0)) (not t.red || may_be_red format t.use_of) h).1

-- ---- tags whose bytes stay
pub head_word : (format : ℕ) (m : Memory) (at before : ℕ) (ts : List Tile) (end : ℕ)
    → AreTags format m at before ts end → word_at m at ≡ before
head_word format m at before [] end h = h.1
head_word format m at before (t ∷ ts) end h = h.2

-- the length before a list of tiles changes, and the other bytes stay
pub retag : (format : ℕ) (m m' : Memory) (at before before' : ℕ) (ts : List Tile) (end : ℕ)
    → AreTags format m at before ts end
    → SameBytes m m' (at + 8) (end + 16) → word_at m' at ≡ before' → AreTags format m' at before' ts end
retag format m m' at before before' [] end h same w =
    let e = h.0 in
    (h.0, w, SameBytes-word m m' (at + 8) (end + 16) (at + 8) same (omega arith) (omega arith) ∙ h.2)
retag format m m' at before before' (t ∷ ts) end h same w =
    let on = AreTags-reaches format m (at + t.len) t.len ts end h.4 in let long = (is_tile-IsWhole format t h.1).long in
    let word = SameBytes-word m m' (at + 8) (end + 16) (at + 8) same (omega arith) (omega arith) in
    let next = SameBytes-word m m' (at + 8) (end + 16) (at + t.len) same (omega arith) (omega arith) in
    let rest = retag format m m' (at + t.len) t.len t.len ts end h.4
    (record { at = λ k a b. same.at k (omega arith) b }) (next ∙ head_word format m (at + t.len) t.len ts end h.4) in
    (h.0, h.1, w, word ∙ h.3, rest)

-- a byte beside the tags is beside the first of them, or beside the end tag
pub beside_head : (format : ℕ) (m : Memory) (at before : ℕ) (ts : List Tile) (end : ℕ)
    → AreTags format m at before ts end → (k : ℕ) → IsBesideTags ts k → k < end → (k < at) ⊎ (at + 16 ≤ k)
beside_head format m at before [] end h k o l = let e = h.0 in inl (omega arith)
beside_head format m at before (t ∷ ts) end h k o l = let e = h.0
    in elim o.0 [ inl a ↦ inl (omega arith) | inr a ↦ inr (omega arith) ]

-- ---- a tile that stands in the list

-- the tile before an offset, where the length before is this
abbrev pub IsBefore : Memory → ℕ → ℕ → Option Tile → Type 0
IsBefore m at before None = before ≡ 0
IsBefore m at before (Some p) = (before ≡ p.len) × (p.offset + p.len ≡ at) × (32 ≤ p.len) × (tile_at m p.offset ≡ p)

-- a tile in the list of the tags: the tiles before and after it, and its tags
pub record Standing (format : ℕ) (m : Memory) (from first : ℕ) (last : Option Tile) (ts : List Tile) (end at : ℕ)
    (tile : Tile) : Type 0 where
  pub before : ℕ
  pub behind : List Tile
  pub tags : AreTags format m at before (tile ∷ behind) end
  pub low : from ≤ at
  pub is_before : IsBefore m at before (previous_from last ts at)
  pub next : next_in ts at ≡ first_in behind
  pub old_tags : (k : ℕ) → IsBesideTags ts k → IsBesideTags (tile ∷ behind) k
  pub new_tags : (change : Tile → List Tile → List Tile) (k : ℕ) → IsBesideTags (changed_at at change ts) k
      → IsBesideTags (change tile behind) k
  pub changed : (change : Tile → List Tile → List Tile) (m' : Memory) → SameBytes m m' from at
      → AreTags format m' at before (change tile behind) end
      → AreTags format m' from first (changed_at at change ts) end

module _ (format : ℕ) (m : Memory) (from first : ℕ) (last : Option Tile) (t : Tile) (ts : List Tile) (end at : ℕ)
    (tile : Tile)
    (h : AreTags format m from first (t ∷ ts) end) (b : IsBefore m from first last) (stands : tile_in (t ∷ ts) at
    ≡ Some tile) where
  here : (t.offset == at) ≡ true → Standing format m from first last (t ∷ ts) end at tile
  here e =
      let same : t ≡ tile = same_Some t tile (sym (ap (λ (v : Bool). cond v (Some t) (tile_in ts at)) e) ∙ stands) in
      let there : from ≡ at = sym h.0 ∙ eqb-true t.offset at e in
      let P : Tile → Type 0 = λ (u : Tile). Standing format m from first last (t ∷ ts) end at u in
      subst P same (record {
        before = first;
        behind = ts;
        tags = subst (λ (x : ℕ). AreTags format m x first (t ∷ ts) end) there h;
        low = omega arith;
        is_before = subst (λ (v : Bool). IsBefore m at first (cond v last (previous_from (Some t) ts at))) (sym e)
            (subst (λ (x : ℕ). IsBefore m x first last) there b);
        next = ap (λ (v : Bool). cond v (first_in ts) (next_in ts at)) e;
        old_tags = λ k o. o;
        new_tags = λ change k o. subst (λ (v : Bool).
            IsBesideTags (cond v (change t ts) (t ∷ changed_at at change ts)) k) e o;
        changed = λ change m' s g. subst (λ (v : Bool).
            AreTags format m' from first (cond v (change t ts) (t ∷ changed_at at change ts)) end) (sym e)
            (subst (λ (x : ℕ). AreTags format m' x first (change t ts) end) (sym there) g);
      })

  further : (t.offset == at) ≡ false → tile_in ts at ≡ Some tile
  further e = sym (ap (λ (v : Bool). cond v (Some t) (tile_in ts at)) e) ∙ stands

  is_before_rest : IsBefore m (from + t.len) t.len (Some t)
  is_before_rest =
      let o = h.0 in
      let P : ℕ → Type 0 = λ (x : ℕ). tile_at m x ≡ t in (
        refl,
        omega arith,
        (is_tile-IsWhole format t h.1).long,
        subst P (sym h.0) (tile_at-tag_word m from t h.0 ((is_tile-IsWhole format t h.1).whole) h.3),
      )

  there : (t.offset == at) ≡ false → Standing format m (from + t.len) t.len (Some t) ts end at tile
      → Standing format m from first last (t ∷ ts) end at tile
  there e s =
      let long = (is_tile-IsWhole format t h.1).long in
      let low = s.low in
      record {
        before = s.before;
        behind = s.behind;
        tags = s.tags;
        low = omega arith;
        is_before = subst (λ (v : Bool). IsBefore m at s.before (cond v last (previous_from (Some t) ts at)))
            (sym e) s.is_before;
        next = ap (λ (v : Bool). cond v (first_in ts) (next_in ts at)) e ∙ s.next;
        old_tags = λ k o. s.old_tags k o.1;
        new_tags = λ change k o. let p : IsBesideTags (t ∷ changed_at at change ts) k =
            subst (λ (v : Bool). IsBesideTags (cond v (change t ts) (t ∷ changed_at at change ts)) k) e o
            in s.new_tags change k p.1;
        changed = λ change m' same g. subst (λ (v : Bool).
            AreTags format m' from first (cond v (change t ts) (t ∷ changed_at at change ts)) end) (sym e) (
              h.0,
              h.1,
              SameBytes-word m m' from at from same (omega arith) (omega arith) ∙ h.2,
              SameBytes-word m m' from at (from + 8) same (omega arith) (omega arith) ∙ h.3,
              s.changed change m' (record { at = λ k a b. same.at k (omega arith) b }) g,
            );
      }

-- a proof by the two values of a test
pub by_test : (b : Bool) (P : Type 0) → (b ≡ true → P) → (b ≡ false → P) → P
by_test true P f g = f refl
by_test false P f g = g refl

-- a tile that is found in the list stands in it
pub standing : (format : ℕ) (m : Memory) (from first : ℕ) (last : Option Tile) (ts : List Tile) (end at : ℕ)
    (tile : Tile)
    → AreTags format m from first ts end → IsBefore m from first last → tile_in ts at ≡ Some tile
    → Standing format m from first last ts end at tile
standing format m from first last [] end at tile h b e = absurd (none-some tile e)
standing format m from first last (t ∷ ts) end at tile h b e =
    by_test (t.offset == at) (Standing format m from first last (t ∷ ts) end at tile)
    (here format m from first last t ts end at tile h b e)
    (λ f. there format m from first last t ts end at tile h b e f
    (standing format m (from + t.len) t.len (Some t) ts end at tile h.4
    (is_before_rest format m from first last t ts end at tile h b e)
    (further format m from first last t ts end at tile h b e f)))
