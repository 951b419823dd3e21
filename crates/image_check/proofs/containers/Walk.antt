-- The walk over the containers: what it keeps for the tiles that it has passed, and the meaning of its result.
use Rattle.image_check.proofs.Common.{AreFollowed, Blocks, Contains, HasTiles, IsWholeMarking, Kind, List, Memory, None}
use Rattle.image_check.proofs.Common.{Option, Row, Some, Tile, WindowState, [], ap, arith, bytes_of}
use Rattle.image_check.proofs.Common.{cases_Bool, cond-false, cond-true, cons_option}
use Rattle.image_check.proofs.Common.{container_walk_rates, filter, filter_map, has_container, has_containers}
use Rattle.image_check.proofs.Common.{has_objects, inl, inr, is_container, is_use, kind_at, length}
use Rattle.image_check.proofs.Common.{list_all, payload, rate_of, refl, said_row}
use Rattle.image_check.proofs.Common.{subst, sym, tiles_are_read_off, true, value_offset, values, weigh, ℕ}
use Rattle.image_check.proofs.Common.{◌&&◌, ◌*◌, ◌++◌, ◌+◌, ◌-◌, ◌/◌, ◌∙◌, ◌∷◌, ◌≡◌, ◌≤◌}
use Rattle.std.proofs.Common.{Bool}
use Rattle.std.specs.Prelude.{option_map}
use Rattle.block_tags.specs.declared.tile.Role.TheVariants.{Object}
use Rattle.image_check.specs.Passes.{tiles_in}
use Rattle.image_check.specs.Containers.{IsCheckedTile, LiesInWindow, PaysFor, weigh_blocks, weight_below}
use Rattle.image_check.proofs.containers.Objects.{object-good, value-mem}
use Rattle.image_check.proofs.containers.Weights.{below-all, below-more}
use Rattle.image_check.proofs.bytes.Members.{Mem, mem_right}
use Rattle.image_check.proofs.shared_blocks.Roots.{node-followed}
use Rattle.image_check.proofs.walks.Rows.{PassesGaps, free-object, recoloured}
use Rattle.image_check.proofs.block_collection.Places.{in_row}
use Rattle.image_check.proofs.frame.Tags.{image-row}
use Rattle.image_check.proofs.walks.Tiles.{WalksAt, all-more}
use Rattle.image_check.proofs.walks.Weights.{weigh-front}
use Rattle.image_check.specs.Owners.{OwnerState}

-- ---- the test of all tiles is that of all values

step-same : (m : Memory) (ts : List Tile) (at : ℕ) (o : Option Kind) (rest : List (Kind × ℕ))
    → list_all (is_container m ts) (cons_option (option_map (λ k. (k, at)) o) rest)
    ≡ (elim o [ None ↦ true | Some k ↦ is_container m ts (k, at) ]) && list_all (is_container m ts) rest
step-same m ts at None rest = refl
step-same m ts at (Some k) rest = refl

values-of : ℕ → Memory → List Tile → List (Kind × ℕ)
values-of format m us = filter_map (λ t.
    option_map (λ k. (k, value_offset m (payload t))) (kind_at format m (payload t))) us

each-same : (format : ℕ) (m : Memory) (ts us : List Tile)
    → list_all (is_container m ts) (values-of format m (filter (is_use Object) us))
    ≡ list_all (has_container format m ts) us
unfolding values-of
each-same format m ts [] = refl
each-same format m ts (u ∷ us) =
    let rest = each-same format m ts us in
    let test : Bool = elim (kind_at format m (payload u)) [
      | None ↦ true
      | Some k ↦ is_container m ts (k, value_offset m (payload u))
    ] in
    elim (cases_Bool (is_use Object u)) [
      | inl e ↦
          ap (λ vs. list_all (is_container m ts) (values-of format m vs))
          (cond-true (is_use Object u) (u ∷ filter (is_use Object) us) (filter (is_use Object) us) e)
          ∙ (step-same m ts (value_offset m (payload u)) (kind_at format m (payload u))
          (values-of format m (filter (is_use Object) us))
          ∙ (ap (λ b. test && b) rest ∙ sym
          (ap (λ b. b && list_all (has_container format m ts) us) (cond-true (is_use Object u) test true e))))
      | inr e ↦
          ap (λ vs. list_all (is_container m ts) (values-of format m vs))
          (cond-false (is_use Object u) (u ∷ filter (is_use Object) us) (filter (is_use Object) us) e)
          ∙ (rest ∙ sym (ap (λ b. b && list_all (has_container format m ts) us)
          (cond-false (is_use Object u) test true e)))
    ]

-- the test of all containers is that of each tile
pub containers-same : (format : ℕ) (m : Memory) (ts : List Tile)
    → has_containers format m ts ≡ list_all (has_container format m ts) ts
unfolding values-of
containers-same format m ts = each-same format m ts ts

-- ---- the meaning of the marking

-- after all links are entered each owned node is followed
pub marked-followed : (format : ℕ) (m : Memory) (ts : List Tile) (st : OwnerState)
    → IsWholeMarking format m ts st → AreFollowed m ts st.entries
marked-followed format m ts st w =
    record { blocks = w.marking.blocks; followed = node-followed format m ts st w }

-- after all links are entered each object's tile can be tested
pub marked-ready : (format : ℕ) (m : Memory) (ts : List Tile) (st : OwnerState)
    → IsWholeMarking format m ts st → has_objects format m ts ≡ true
    → (t : Tile) → Mem t ts → IsCheckedTile format m ts st.entries t
marked-ready format m ts st w h t k = record {
  object = object-good format m ts t h k;
  noted = λ kind u e.
      let among = value-mem format m ts t kind k u e in
      record {
        storage = λ s some. w.storage kind (value_offset m (payload t)) among s some;
        root = λ a b same. w.root a b (value_offset m (payload t))
            (subst (λ j. Contains (values format m ts) (j, value_offset m (payload t))) same among);
      };
}

-- ---- a tile of the walk

-- the walk is at this tile of the window
pub record IsHere (c : WindowState) (here : Tile) : Type 0 where
  pub mem : Mem here (tiles_in c.bytes)
  pub lies : LiesInWindow (length c.bytes) here

-- a walk at a tile is at its offset
pub is-here : (c : WindowState) (Kept : List Tile → Type 0) (here : Tile) → HasTiles c.bytes → WalksAt c Kept here
    → IsHere c here
is-here c Kept here h a =
    let all : tiles_in c.bytes ≡ a.front ++ here ∷ a.back = tiles_are_read_off c (a.front ++ here ∷ a.back) a.said in
    let mem : Mem here (tiles_in c.bytes) =
    subst (Mem here) (sym all) (mem_right here a.front (here ∷ a.back) (inl refl)) in
    let lies = in_row 128 (tiles_in c.bytes) (length c.bytes - 16) here (image-row c.bytes h) mem in
    let long = lies.long in
    let high = lies.high in
    record { mem = mem; lies = record { low = lies.low; whole = lies.whole refl; long = long; high = omega arith } }

-- ---- the visits so far

free-passes : (format : ℕ) (m : Memory) (ts : List Tile) (t : Tile) → t.use_of ≡ None
    → has_container format m ts t ≡ true
free-passes format m ts t e =
    cond-false (is_use Object t) (elim (kind_at format m (payload t))
    [ None ↦ true | Some k ↦ is_container m ts (k, value_offset m (payload t)) ]) true (free-object t e)

-- the end of tiles that begin at an offset
abbrev end_of : ℕ → List Tile → ℕ
end_of at [] = at
end_of at (t ∷ ts) = end_of (t.offset + t.len) ts

end-more : (at : ℕ) (front : List Tile) (here : Tile) → end_of at (front ++ here ∷ []) ≡ here.offset + here.len
end-more at [] here = refl
end-more at (t ∷ front) here = end-more (t.offset + t.len) front here

end-there : (at : ℕ) (front : List Tile) (here : Tile) (back : List Tile) (to : ℕ)
    → Row at (front ++ here ∷ back) to → end_of at front ≡ here.offset
end-there at [] here back to row = sym row.0
end-there at (t ∷ front) here back to row =
    let from : at + t.len ≡ t.offset + t.len = ap (λ n. n + t.len) (sym row.0) in
    end-there (t.offset + t.len) front here back to (subst (λ n. Row n (front ++ here ∷ back) to) from row.3)

-- the tiles that the walk has passed are right, and paid for
pub record IsPaid (format : ℕ) (c : WindowState) (es : Blocks) (old now : ℕ) (front : List Tile) : Type 0 where
  pub right : list_all (has_container format (bytes_of c.bytes) (tiles_in c.bytes)) front ≡ true
  pub least : old ≤ now
  pub most : now ≤ old + (weigh container_walk_rates front + weight_below (end_of 128 front) es)

-- before the first tile nothing was spent
pub paid-start : (format : ℕ) (c : WindowState) (es : Blocks) (old : ℕ) → IsPaid format c es old old []
paid-start format c es old = record { right = refl; least = omega arith; most = omega arith }

module _ (format : ℕ) (c : WindowState) (es : Blocks) (old now new : ℕ) (here : Tile)
    (a : WalksAt c (IsPaid format c es old now) here) (p : PaysFor es here now new) where
  here-paid : new ≤ old + (weigh container_walk_rates a.front + rate_of container_walk_rates here.use_of
      * (here.len / 16) + weight_below (here.offset + here.len) es)
  here-paid =
      let most = a.kept.most in
      let at : end_of 128 a.front ≡ here.offset =
      end-there 128 a.front here a.back (length c.bytes - 16) (said_row c (a.front ++ here ∷ a.back) a.said) in
      let same : weight_below (end_of 128 a.front) es ≡ weight_below here.offset es = ap (λ n. weight_below n es) at in
      let paid = p.1 in
      omega arith

  -- the visits after a tile that passed its test
  pub paid-more : has_container format (bytes_of c.bytes) (tiles_in c.bytes) here ≡ true
      → IsPaid format c es old new (a.front ++ here ∷ [])
  paid-more h =
      let least = a.kept.least in
      let raised = p.0 in
      let paid = here-paid in
      let more = weigh-front container_walk_rates a.front here [] in
      let same : weight_below (end_of 128 (a.front ++ here ∷ [])) es ≡ weight_below (here.offset + here.len) es =
      ap (λ n. weight_below n es) (end-more 128 a.front here) in
      record {
        right = all-more (has_container format (bytes_of c.bytes) (tiles_in c.bytes)) a.front here
            a.kept.right h;
        least = omega arith;
        most = omega arith;
      }

  -- the visits after a tile that failed its test
  pub paid-stop : (old ≤ new) × (new ≤ old + (weigh container_walk_rates (tiles_in c.bytes) + weigh_blocks es))
  paid-stop =
      let least = a.kept.least in
      let raised = p.0 in
      let paid = here-paid in
      let all : weigh container_walk_rates (tiles_in c.bytes)
      ≡ weigh container_walk_rates (a.front ++ here ∷ a.back) =
      ap (weigh container_walk_rates) (tiles_are_read_off c (a.front ++ here ∷ a.back) a.said) in
      let more = weigh-front container_walk_rates a.front here a.back in
      let most = below-all (here.offset + here.len) es in
      (omega arith, omega arith)

-- a free tile is passed over
pub paid-gap : (format : ℕ) (c : WindowState) (es : Blocks) (old now : ℕ) → PassesGaps c (IsPaid format c es old now)
paid-gap format c es old now g u a =
    let more = below-more g.offset (g.offset + g.len) es (omega arith) in
    paid-more format c es old now now g a (omega arith, omega arith)
    (free-passes format (bytes_of c.bytes) (tiles_in c.bytes) g u)

-- ---- a tile but for its colour

module _ (t u : Tile) (e : t.offset ≡ u.offset) (f : t.len ≡ u.len) (g : t.use_of ≡ u.use_of) where
  -- tiles that differ only in colour have the same bounds
  pub lies-same : (size : ℕ) → LiesInWindow size t → LiesInWindow size u
  lies-same size l =
      let low = l.low in
      let whole = l.whole in
      let long = l.long in
      let high = l.high in
      record { low = omega arith; whole = omega arith; long = omega arith; high = omega arith }

  -- tiles that differ in colour can be tested alike
  pub ready-same : (format : ℕ) (m : Memory) (ts : List Tile) (es : Blocks) → IsCheckedTile format m ts es t
      → IsCheckedTile format m ts es u
  ready-same format m ts es k =
      let x = subst (IsCheckedTile format m ts es) (recoloured t u e f g) k in
      record { object = x.object; noted = x.noted }

  -- tiles that differ in colour pass the same test
  pub test-same : (format : ℕ) (m : Memory) (ts : List Tile) → has_container format m ts t ≡ has_container format m ts u
  test-same format m ts = ap (has_container format m ts) (recoloured t u e f g)

  -- tiles that differ in colour pay alike
  pub pays-same : (es : Blocks) (before after : ℕ) → PaysFor es t before after → PaysFor es u before after
  pays-same es before after p = subst (λ (x : Tile). PaysFor es x before after) (recoloured t u e f g) p

-- the visits after the last tile
pub paid-end : (format : ℕ) (c : WindowState) (es : Blocks) (old now : ℕ)
    → IsPaid format c es old now (tiles_in c.bytes)
    → (old ≤ now) × (now ≤ old + (weigh container_walk_rates (tiles_in c.bytes) + weigh_blocks es))
paid-end format c es old now p =
    let least = p.least in
    let most = p.most in
    let all = below-all (end_of 128 (tiles_in c.bytes)) es in
    (least, omega arith)
