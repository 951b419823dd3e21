-- The links behind all values, entered in a walk over the tiles.
use Rattle.image_check.proofs.Common.{Contains, HasTiles, IsCountedLink, IsMarkingOf, IsTileGrown}
use Rattle.image_check.proofs.Common.{IsTrue, IsValueGrown, IsValueReady, Kind, List, Memory, Node, None}
use Rattle.image_check.proofs.Common.{EntersValues, Option, Owner, Role, Row, Some, Storage}
use Rattle.image_check.proofs.Common.{Tile}
use Rattle.image_check.proofs.Common.{WindowState, [], ap, arith, bytes_of}
use Rattle.image_check.proofs.Common.{debts, false, false≢true, has_link, has_objects}
use Rattle.image_check.proofs.Common.{if◌then◌else◌, is_use}
use Rattle.image_check.proofs.Common.{kind_at, length, object_tiles, owner_at}
use Rattle.image_check.proofs.Common.{payload, rate_of, refl, said_row, same_role, subst, suc, sym}
use Rattle.image_check.proofs.Common.{true, value_offset, values, visit_budget, weigh, ℕ, ◌*◌}
use Rattle.image_check.proofs.Common.{◌++◌, ◌+◌, ◌-◌, ◌/◌, ◌<◌, ◌∙◌, ◌∷◌, ◌≡◌, ◌≢◌, ◌≤◌, ◌⊎◌}
use Rattle.std.specs.Prelude.{option_map}
use Rattle.raw_region.specs.Format.{current}
use Rattle.block_tags.specs.declared.tile.Role.TheVariants.{Object}
use Rattle.image_check.specs.Owners.{IsStart, KeepsMarks}
use Rattle.image_check.specs.Passes.{tiles_in}
use Rattle.image_check.specs.Sharing.{AllElements, IsInStorage, IsLinkOffset, IsValueNoted, OfObject, object_cost}
use Rattle.image_check.specs.Sharing.{value_rates}
use Rattle.image_check.specs.Visits.{sharing_rates}
use Rattle.image_check.proofs.claims.CountedFields.{Contains-Mem}
use Rattle.image_check.proofs.containers.Objects.{container-room, object-good, value-mem}
use Rattle.image_check.proofs.claims.FieldPlaces.{Lies, in-one, one-use}
use Rattle.image_check.proofs.block_collection.Lookup.{at-all}
use Rattle.image_check.proofs.block_collection.Places.{InRow, found, in_row}
use Rattle.image_check.proofs.shared_blocks.Links.{grown-in}
use Rattle.image_check.proofs.bytes.Members.{Mem, mem_left, mem_of_filter}
use Rattle.image_check.proofs.bytes.Members.{mem_of_filter_map, mem_parts, mem_right}
use Rattle.image_check.proofs.claims.ReachedLinks.{good_for-IsGood}
use Rattle.image_check.proofs.walks.Rows.{PassesGaps, free-object, recoloured}
use Rattle.image_check.proofs.frame.Tags.{image-row}
use Rattle.image_check.proofs.walks.Tiles.{WalksAt}
use Rattle.image_check.proofs.walks.Weights.{weigh-front, weigh-more}
use mathlib.Core.Logic.{inl, inr}
use Rattle.image_check.specs.Owners.{visits_due}
use Rattle.image_check.specs.Owners.{OwnerState}

-- ---- places in tiles

-- a place in a tile that is no node is no link of a node
pub start-in : (b : List ℕ) → HasTiles b → (u : Tile) (r : Role) (at : ℕ) → Mem u (tiles_in b) → IsTrue (is_use r u)
    → r ≢ Node → Lies at u → IsStart (tiles_in b) at
start-in b h u r at k uses d l n t e =
    let f = found current (bytes_of b) (length b) Node n t h.tags e in
    let there = f.there in
    let long = f.lies.long in
    let row = image-row b h in
    let apart : Lies at t → ⊥ = λ x.
    d (one-use u r Node uses (subst (λ y.
    IsTrue (is_use Node y)) (in-one 128 (tiles_in b) (length b - 16) at t u row f.mem k x l) f.use_of)) in (
      λ g. apart (record { from = omega arith; to = omega arith }),
      λ g. apart (record { from = omega arith; to = omega arith }),
    )

-- a tile before another ends before it
tile-before : (at : ℕ) (front : List Tile) (here : Tile) (back : List Tile) (end : ℕ) (t : Tile)
    → Row at (front ++ here ∷ back) end → Mem t front → t.offset + t.len ≤ here.offset
tile-before at [] here back end t a h = absurd h
tile-before at (f ∷ front) here back end t a (inl e) =
    let low =
    (in_row (at + f.len) (front ++ here ∷ back) end here a.3 (mem_right here front (here ∷ back) (inl refl))).low in
    let x = ap (λ (y : Tile). y.offset) e in
    let y = ap (λ (y : Tile). y.len) e in
    let there = a.0 in
    omega arith
tile-before at (f ∷ front) here back end t a (inr h) = tile-before (at + f.len) front here back end t a.3 h

-- ---- visits

each-use : (o : Option Role) (len : ℕ) → 32 ≤ len
    → suc (if elim o [ None ↦ false | Some r ↦ same_role Object r ] then 4 else 0) ≤ rate_of value_rates o * (len / 16)
each-use (Some Object) len h = omega arith
each-use other len h = omega arith

each-value : (t : Tile) → 32 ≤ t.len → suc (object_cost t) ≤ rate_of value_rates t.use_of * (t.len / 16)
each-value t h = each-use t.use_of t.len h

each-visit_budget : (o : Option Role) (len : ℕ) → 32 ≤ len
    → rate_of value_rates o * (len / 16) + elim o [ None ↦ 0 | Some role ↦ visit_budget role len ]
    ≤ rate_of sharing_rates o * (len / 16)
each-visit_budget (Some Object) len h = omega arith
each-visit_budget other len h = omega arith

row-dues : (at : ℕ) (ts : List Tile) (end : ℕ) → Row at ts end
    → weigh value_rates ts + debts ts ≤ weigh sharing_rates ts
row-dues at [] end a = omega arith
row-dues at (t ∷ ts) end a =
    let l = row-dues (at + t.len) ts end a.3 in
    let d = each-visit_budget t.use_of t.len a.1 in
    omega arith

-- the rates of values and of due visits together are the rates of sharing
pub sharing-weigh : (b : List ℕ) → HasTiles b
    → weigh value_rates (tiles_in b) + debts (tiles_in b) ≤ weigh sharing_rates (tiles_in b)
sharing-weigh b h = row-dues 128 (tiles_in b) (length b - 16)
    (image-row b h)

-- the entered links of a value stay entered
pub value-keeps : (m : Memory) (ts : List Tile) (kind : Kind) (at : ℕ) (old st : OwnerState) → KeepsMarks old st
    → IsValueNoted m ts kind at old.entries → IsValueNoted m ts kind at st.entries
value-keeps m ts kind at old st k d = record {
  storage = λ h p n l. k n _ (d.storage h p n l);
  element = λ e array i p g l r n x. k n _ (d.element e array i p g l r n x);
  root = λ x v e n l. k n _ (d.root x v e n l);
}

-- ---- a tile but for its colour

module _ (t u : Tile) (e : t.offset ≡ u.offset) (f : t.len ≡ u.len) (g : t.use_of ≡ u.use_of) where
  -- tiles that differ in colour hold the same object
  pub object-same : (format : ℕ) (m : Memory) (Is : Kind → ℕ → Type 0) → OfObject format m t Is → OfObject format m u Is
  object-same format m Is k = subst (λ (x : Tile). OfObject format m x Is) (recoloured t u e f g) k

  -- tiles that differ in colour cost the same
  pub cost-same : object_cost t ≡ object_cost u
  cost-same = ap object_cost (recoloured t u e f g)

  -- tiles that differ only in colour have the same links
  pub grown-same : (format : ℕ) (b : List ℕ) (old st : OwnerState) → IsTileGrown format b t old st
      → IsTileGrown format b u old st
  grown-same format b old st d =
      let black : Tile = record { offset = u.offset; len = u.len; use_of = u.use_of; red = t.red } in
      let x = subst (λ (y : Tile). IsTileGrown format b y old st) (recoloured t u e f g) d in
      record {
        grown = grown-in format b (IsLinkOffset format (bytes_of b) (tiles_in b) black)
            (IsLinkOffset format (bytes_of b) (tiles_in b) u) old st place x.grown;
        noted = x.noted;
      }
    where
      place : (p : ℕ) → IsLinkOffset format (bytes_of b) (tiles_in b)
          (record { offset = u.offset; len = u.len; use_of = u.use_of; red = t.red }) p
          → IsLinkOffset format (bytes_of b) (tiles_in b) u p
      place p (inl l) = inl (record { kind = l.kind; object = l.object; is = l.is; link = l.link; place = l.place })
      place p (inr s) = inr s

-- ---- the walk

-- the offset is before all tiles, in a tile that was passed, or in storage
abbrev pub IsPassed : List Tile → List Tile → ℕ → Type 0
IsPassed ts front p = (p < 128) ⊎ (((t : Tile) × Mem t front × Lies p t) ⊎ IsInStorage ts p)

still-passed : (ts front : List Tile) (here : Tile) (p : ℕ) → IsPassed ts front p → IsPassed ts (front ++ here ∷ []) p
still-passed ts front here p (inl l) = inl l
still-passed ts front here p (inr (inl w)) = inr (inl (w.0, mem_left w.0 front (here ∷ []) w.1, w.2))
still-passed ts front here p (inr (inr w)) = inr (inr w)

-- the values in the passed tiles are entered
pub record Noting (format : ℕ) (b : List ℕ) (old : OwnerState) (seen : ℕ) (st : OwnerState) (visits : ℕ) (front : List
    Tile) : Type 0 where
  pub marking : IsMarkingOf format b st
  pub keeps : KeepsMarks old st
  pub passed : (n : ℕ) (o : Owner) → owner_at st.entries n ≡ Some o → IsPassed (tiles_in b) front o.at
  pub noted : (t : Tile) → Mem t front
      → OfObject format (bytes_of b) t (λ kind at. IsValueNoted (bytes_of b) (tiles_in b) kind at st.entries)
  pub more : seen ≤ visits
  pub most : visits + (visits_due st) ≤ seen + (visits_due old + weigh value_rates front)

-- before the first tile nothing is entered
pub noting-start : (format : ℕ) (b : List ℕ) (st : OwnerState) (seen : ℕ)
    → IsMarkingOf format b st → ((n : ℕ) (o : Owner) → owner_at st.entries n ≡ Some o → o.at < 128)
    → Noting format b st seen st seen []
noting-start format b st seen k f = record {
  marking = k;
  keeps = λ n o e. e;
  passed = λ n o e. inl (f n o e);
  noted = λ t h. absurd h;
  more = omega arith;
  most = omega arith;
}

-- a free tile is passed over
pub noting-gap : (format : ℕ) (c : WindowState) (old : OwnerState) (seen : ℕ) (st : OwnerState) (visits : ℕ)
    → PassesGaps c (Noting format c.bytes old seen st visits)
noting-gap format c old seen st visits g u a =
    let push = weigh-more value_rates a.front g in
    let most = a.kept.most in
    record {
      marking = a.kept.marking;
      keeps = a.kept.keeps;
      passed = λ n o e. still-passed (tiles_in c.bytes) a.front g o.at (a.kept.passed n o e);
      noted = λ t k kind v e. elim (mem_parts t a.front (g ∷ []) k) [
        | inl x ↦ a.kept.noted t x kind v e
        | inr (inl x) ↦ absurd (false≢true (sym (free-object g u) ∙ sym (ap (is_use Object) x) ∙ v))
        | inr (inr x) ↦ absurd x
      ];
      more = a.kept.more;
      most = omega arith;
    }

-- a place of the value of this object
record IsHere (format : ℕ) (b : List ℕ) (here : Tile) (at : ℕ) : Type 0 where
  lies : Lies at here
  inside : at + 24 ≤ length b
  start : IsStart (tiles_in b) at

module _ (format : ℕ) (c : WindowState) (here : Tile) (h : HasTiles c.bytes)
    (good : has_objects format (bytes_of c.bytes) (tiles_in c.bytes) ≡ true)
    (old : OwnerState) (seen : ℕ) (st : OwnerState) (visits : ℕ)
    (a : WalksAt c (Noting format c.bytes old seen st visits) here) where
  abbrev b : List ℕ
  b = c.bytes

  row-of : Row 128 (tiles_in b) (length b - 16)
  row-of = image-row b h

  mem-here : Mem here (tiles_in b)
  mem-here =
      subst (Mem here) (sym (at-all c (Noting format c.bytes old seen st visits) here a))
      (mem_right here a.front (here ∷ a.back) (inl refl))

  lies-here : InRow 128 (length b - 16) here
  lies-here = in_row 128 (tiles_in b) (length b - 16) here row-of mem-here

  at-here : (kind : Kind) → IsTrue (is_use Object here) → kind_at format (bytes_of b) (payload here) ≡ Some kind
      → IsTrue (has_link kind) → IsHere format b here (value_offset (bytes_of b) (payload here))
  at-here kind u e l =
      let at : ℕ = value_offset (bytes_of b) (payload here) in
      let room = container-room format (bytes_of b) here kind
      (object-good format (bytes_of b) (tiles_in b) here good mem-here u) e l in
      let high = lies-here.high in
      let long = lies-here.long in
      let there : Lies at here = record { from = omega arith; to = omega arith } in
      record {
        lies = there;
        inside = omega arith;
        start = start-in b h here Object at mem-here u (λ x. absurd (cc)) there;
      }

  not-passed : (kind : Kind) → IsTrue (is_use Object here) → kind_at format (bytes_of b) (payload here) ≡ Some kind
      → IsTrue (has_link kind) → IsPassed (tiles_in b) a.front (value_offset (bytes_of b) (payload here)) → ⊥
  not-passed kind u e l (inl x) = let low = lies-here.low in let f = (at-here kind u e l).lies.from
      in absurd (omega arith)
  not-passed kind u e l (inr (inl x)) =
      let f = (at-here kind u e l).lies.from in
      let to = x.2.to in
      let before = tile-before 128 a.front here a.back (length b - 16) x.0
      (said_row c (a.front ++ here ∷ a.back) a.said) x.1 in
      absurd (omega arith)
  not-passed kind u e l (inr (inr x)) =
      let at : ℕ = value_offset (bytes_of b) (payload here) in
      let s = found current (bytes_of b) (length b) Storage x.start x.tile h.tags x.is in
      let there = s.there in
      let from = x.from in
      let to = x.to in
      let lies : Lies at x.tile = record { from = omega arith; to = omega arith } in
      let same = in-one 128 (tiles_in b) (length b - 16) at here x.tile row-of mem-here s.mem
      (at-here kind u e l).lies lies in
      let other = one-use x.tile Storage Object s.use_of (subst (λ y. IsTrue (is_use Object y)) same u) in
      absurd (cc)

  elements-start : AllElements (bytes_of b) (tiles_in b) (value_offset (bytes_of b) (payload here))
      (IsStart (tiles_in b))
  elements-start array i p g l r =
      let k = good_for-IsGood (tiles_in b) Storage _ array g in
      start-in b h array Storage (payload array + 16 * i) k.mem k.use_of (λ x.
      absurd (cc)) (record { from = omega arith; to = omega arith })

  -- the value of the object here was not met before
  pub ready-here : OfObject format (bytes_of b) here (λ kind at. IsValueReady format b kind at st.entries)
  ready-here kind u e =
      let even = lies-here.whole refl in
      record {
        value = value-mem format (bytes_of b) (tiles_in b) here kind mem-here u e;
        inside = λ l. (at-here kind u e l).inside;
        aligned = omega arith;
        start = λ l. (at-here kind u e l).start;
        fresh = λ l n o f g. not-passed kind u e l (subst (IsPassed (tiles_in b) a.front) g (a.kept.passed n o f));
        elements = λ t array i p g l r. (
          elements-start array i p g l r,
          λ target k. IsCountedLink.element array i
              (subst (λ x. Contains (values format (bytes_of b) (tiles_in b)) (
                x,
                value_offset (bytes_of b) (payload here),
              )) t (value-mem format (bytes_of b) (tiles_in b) here kind mem-here u e)) p g l r k,
        );
      }

  -- the tile has room in the window
  pub room-here : here.offset + 32 ≤ length b
  room-here = let high = lies-here.high in let long = lies-here.long in omega arith

  module _ (fs : OwnerState) (v2 : ℕ) (d : IsTileGrown format b here st fs)
      (lo : visits ≤ v2) (hi : v2 + (visits_due fs)
      ≤ visits + (visits_due st + suc (object_cost here))) where
    place-passed : (p : ℕ) → IsLinkOffset format (bytes_of b) (tiles_in b) here p
        → IsPassed (tiles_in b) (a.front ++ here ∷ []) p
    place-passed p (inl w) =
        inr (inl (
          here,
          mem_right here a.front (here ∷ []) (inl refl),
          subst (λ x. Lies x here) (sym w.place) (at-here w.kind w.object w.is w.link).lies,
        ))
    place-passed p (inr w) = inr (inr w)

    noted-here : (t : Tile) → Mem t (a.front ++ here ∷ [])
        → OfObject format (bytes_of b) t (λ kind at. IsValueNoted (bytes_of b) (tiles_in b) kind at fs.entries)
    noted-here t k kind u e = elim (mem_parts t a.front (here ∷ []) k) [
      | inl x ↦ value-keeps (bytes_of b) (tiles_in b) kind (value_offset (bytes_of b) (payload t)) st fs
          d.grown.keeps (a.kept.noted t x kind u e)
      | inr (inl x) ↦ (subst (λ y. OfObject format (bytes_of b) y (λ kind at.
          IsValueNoted (bytes_of b) (tiles_in b) kind at fs.entries)) (sym x) d.noted) kind u e
      | inr (inr x) ↦ absurd x
    ]

    -- one more tile is entered
    pub noting-on : Noting format b old seen fs v2 (a.front ++ here ∷ [])
    noting-on =
        let push = weigh-more value_rates a.front here in
        let cost = each-value here lies-here.long in
        let m1 = a.kept.more in
        let m2 = a.kept.most in
        record {
          marking = d.grown.marking;
          keeps = λ n o e. d.grown.keeps n o (a.kept.keeps n o e);
          passed = λ n o e. elim (d.grown.only n o e) [
            | inl f ↦ still-passed (tiles_in b) a.front here o.at
                (a.kept.passed n o f)
            | inr f ↦ place-passed o.at f
          ];
          noted = noted-here;
          more = omega arith;
          most = omega arith;
        }

  -- also where it was refused
  pub noting-refused : (v2 : ℕ) → visits ≤ v2
      → v2 ≤ visits + (visits_due st + suc (object_cost here))
      → (seen ≤ v2) × (v2 ≤ seen + (visits_due old + weigh value_rates (tiles_in b)))
  noting-refused v2 lo hi =
      let behind = weigh-front value_rates a.front here a.back in
      let all = ap (weigh value_rates)
      (at-all c (Noting format c.bytes old seen st visits) here a) in
      let cost = each-value here lies-here.long in
      let m1 = a.kept.more in
      let m2 = a.kept.most in
      (omega arith, omega arith)

-- ---- the end

abbrev paired : Memory → Tile → Kind → Kind × ℕ
paired m t k = (k, value_offset m (payload t))

value-if : (m : Memory) (t : Tile) (kind : Kind) (at : ℕ) (o : Option Kind)
    → option_map (paired m t) o ≡ Some (kind, at) → (o ≡ Some kind) × (value_offset m (payload t) ≡ at)
value-if m t kind at None e = absurd (cc)
value-if m t kind at (Some k) e =
    let f : (k, value_offset m (payload t)) ≡ (kind, at) = cc in
    (ap (λ (p : Kind × ℕ). Some p.0) f, ap (λ (p : Kind × ℕ). p.1) f)

-- after the last tile all values are entered
pub noting-end : (format : ℕ) (b : List ℕ) (old : OwnerState) (seen : ℕ) (st : OwnerState) (visits : ℕ)
    → Noting format b old seen st visits (tiles_in b)
    → EntersValues format b old st
noting-end format b old seen st visits n = record {
  marking = n.marking;
  keeps = n.keeps;
  noted = λ kind at v.
      let w = mem_of_filter_map (λ t.
      option_map (λ k. (k, value_offset (bytes_of b) (payload t))) (kind_at format (bytes_of b) (payload t))) (
        kind,
        at,
      ) (object_tiles (tiles_in b)) (Contains-Mem (values format (bytes_of b) (tiles_in b)) (kind, at) v) in
      let k = mem_of_filter (is_use Object) w.one (tiles_in b) w.mem in
      let e = value-if (bytes_of b) w.one kind at (kind_at format (bytes_of b) (payload w.one)) w.is in
      subst (λ x. IsValueNoted (bytes_of b) (tiles_in b) kind x st.entries) e.1 (n.noted w.one k.mem kind k.is e.0);
}

-- ---- one object

-- a tile with an object: its value is entered
pub tile-grown : (format : ℕ) (b : List ℕ) (t : Tile) (kind : Kind) (at : ℕ) → IsTrue (is_use Object t)
    → kind_at format (bytes_of b) (payload t) ≡ Some kind → at ≡ value_offset (bytes_of b) (payload t)
    → (old st : OwnerState)
    → IsValueGrown format b kind at old st → IsTileGrown format b t old st
tile-grown format b t kind at u e there old st d = record {
  grown = grown-in format b (λ p. (IsTrue (has_link kind) × (p ≡ at))
      ⊎ IsInStorage (tiles_in b) p) (IsLinkOffset format (bytes_of b) (tiles_in b) t) old st
      place d.grown;
  noted = λ k v f. subst (λ x. IsValueNoted (bytes_of b) (tiles_in b) k x st.entries) there
      (subst (λ x. IsValueNoted (bytes_of b) (tiles_in b) x at st.entries) (same k f) d.noted);
}
  where
    place : (p : ℕ) → (IsTrue (has_link kind) × (p ≡ at)) ⊎ IsInStorage (tiles_in b) p
        → IsLinkOffset format (bytes_of b) (tiles_in b) t p
    place p (inl w) = inl (record { kind = kind; object = u; is = e; link = w.0; place = w.1 ∙ there })
    place p (inr w) = inr w

    same : (k : Kind) → kind_at format (bytes_of b) (payload t) ≡ Some k → kind ≡ k
    same k f = cc
