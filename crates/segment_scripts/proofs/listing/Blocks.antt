-- The listing of the blocks and gaps of a segment: which is next, and that there are fewer than the segment has bytes.
use Rattle.std.proofs.Common.{◌≡◌, ℕ, zero, suc, ◌+◌, ◌-◌, ◌<◌, ◌≤◌, Bool, true, false, List, [], ◌∷◌, length, nat_lt}
use Rattle.std.proofs.Common.{inl, inr, if◌then◌else◌, Some, None, slice_get, refl, sym, ap, subst, ◌∙◌, length-append}
use Rattle.std.proofs.Common.{arith}
use Rattle.std.specs.Prelude.{IsTrue, Option, option_map}
use Rattle.std.proofs.lemmas.Bool.{and_parts, ltb-true}
use Rattle.std.proofs.lemmas.Option.{slice_get_within}
use Rattle.block_tags.specs.declared.tile.Tile.{Tile}
use Rattle.block_tags.specs.Format.{is_legal_size}
use Rattle.best_fit.specs.Extents.{Extent, LiveSet, Span, end_of, is_proper, proper_from, span_between, spans}
use Rattle.best_fit.specs.Extents.{spans_from}
use Rattle.best_fit.specs.FreeTree.{span}
use Rattle.best_fit.specs.Heap.{IsTileOf}
use Rattle.best_fit.proofs.Laws.{IsHole, is_hole-IsHole, proper_from-IsFirst}
use Rattle.seg_types.specs.Commands.{Size}
use Rattle.segment_manager.specs.declared.modes.Mode.{Mode}
use Rattle.segment_manager.specs.Directory.{Directory, live}
use Rattle.segment_manager.specs.Answers.{Number}
use Rattle.segment_manager.specs.Calls.{IsTileOfIndex}
use Rattle.segment_manager.specs.State.{SegmentState, DenotesCurrent}
use Rattle.segment_manager.specs.Step.{step}
use Rattle.segment_manager.proofs.Laws.{live-size}
use Rattle.segment_scripts.specs.Answer.{block_tokens, line}
use Rattle.segment_scripts.specs.Parts.{part_of}
use Rattle.segment_scripts.proofs.listing.Lines.{line_part}
use Rattle.segment_scripts.proofs.segments.CommandSteps.{size_is}

none_more : (ss : List Span) (i : ℕ) → None ≡ slice_get ss i → length ss ≤ i
none_more [] i e = omega arith
none_more (s ∷ ss) zero e = absurd (cc)
none_more (s ∷ ss) (suc i) e = let h = none_more ss i e in omega arith

-- ---- how many there are

few_if : (a b : ℕ) (t : Bool) (s : Span) → a ≤ b → (t ≡ true → a < b) → length (if t then s ∷ [] else []) + a ≤ b
few_if a b true s h k = let l = k refl in omega arith
few_if a b false s h k = omega arith

few_between : (a b : ℕ) → IsHole a b → length (span_between a b) + a ≤ b
few_between a b h =
    let rises : a ≤ b = elim h [ inl e ↦ omega arith | inr l ↦ omega arith ] in
    few_if a b (nat_lt a b) (record { offset = a; len = b - a; use_of = None }) rises (ltb-true a b)

few_spans : (from : ℕ) (xs : List Extent) (to : ℕ) → IsTrue (proper_from from xs to)
    → length (spans_from from xs to) + from ≤ to
few_spans from [] to h = few_between from to (is_hole-IsHole from to h)
few_spans from (x ∷ xs) to h =
    let f = proper_from-IsFirst from x xs to h in
    let long = f.block.long in
    let hole = few_between from x.offset f.hole in
    let rest = few_spans (end_of x) xs to f.rest in
    omega (
      arith,
      length-append (span_between from x.offset) (record {
        offset = x.offset;
        len = x.len;
        use_of = Some x.role;
      } ∷ spans_from (end_of x) xs to),
    )

few_live : (l : LiveSet) → IsTrue (is_proper l) → length (spans l) ≤ l.size
unfolding is_proper
few_live l h =
    let few = few_spans 128 l.extents (l.size - 16)
    (and_parts (is_legal_size l.size) (proper_from 128 l.extents (l.size - 16)) h).1 in
    omega arith

-- fewer than the segment has bytes
pub few_blocks : (d : Directory) → IsTrue (is_proper (live d)) → length (spans (live d)) ≤ d.size
few_blocks d h = subst (λ n. length (spans (live d)) ≤ n) (live-size d) (few_live (live d) h)

-- ---- which is next

-- the tile at hand is one of the segment's
pub tile_stands : (s : SegmentState) (i : ℕ) (t : Tile) (ahead : Option Tile) → IsTileOfIndex s i ahead
    → ahead ≡ Some t → IsTileOf s.cut.bytes t
tile_stands s i t ahead h e = record { index = i; stands = sym h.tile ∙ e }

-- it is the next span, and its line the next one
module _ (s : SegmentState) (i : ℕ) (t : Tile) (ahead : Option Tile) (h : IsTileOfIndex s i ahead) (e : ahead
    ≡ Some t) where
  next : (d : Directory) → DenotesCurrent s.cut.bytes d → Some (span t) ≡ slice_get (spans (live d)) i
  next d k = ap (option_map span) (sym e) ∙ h.span.answers d k

  -- the next line of the listing is the directory's
  pub next_line : (d : Directory) → DenotesCurrent s.cut.bytes d
      → line (block_tokens (span t)) ≡ line_part block_tokens (spans (live d)) i
  next_line d k = ap (part_of (λ (x : Span). line (block_tokens x))) (next d k)

  -- the next line is one of the directory's
  pub next_within : (d : Directory) → DenotesCurrent s.cut.bytes d → i < length (spans (live d))
  next_within d k = slice_get_within (spans (live d)) i (span t) (sym (next d k))

-- the listing is at its end
abbrev pub IsEnd : List ℕ → ℕ → Type 0
IsEnd b i = (d : Directory) → DenotesCurrent b d → length (spans (live d)) ≤ i

-- there is none
pub end_is : (s : SegmentState) (i : ℕ) (ahead : Option Tile) → IsTileOfIndex s i ahead → ahead ≡ None
    → IsEnd s.cut.bytes i
end_is s i ahead h e d k = none_more (spans (live d)) i (ap (option_map span) (sym e) ∙ h.span.answers d k)

-- there are no more spans than bytes
pub ends_by_size : (b : List ℕ) (mode : Mode) (n i : ℕ)
    → ((d : Directory) → DenotesCurrent b d → Number n ≡ (step mode d Size).0) → n ≤ i → IsEnd b i
ends_by_size b mode n i size h d k =
    let few = few_blocks d k.denotes.directory.proper in
    let same = size_is mode d n (size d k) in
    omega arith
