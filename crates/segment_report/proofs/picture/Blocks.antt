-- The blocks and gaps of a segment lie in it, and what is written of each in its picture.
use Rattle.std.proofs.Common.{◌≡◌, ℕ, zero, suc, ◌+◌, ◌-◌, ◌^◌, ◌<◌, ◌≤◌, Bool, true, false, List, [], ◌∷◌, ◌++◌}
use Rattle.std.proofs.Common.{nat_lt, if◌then◌else◌, Some, None, slice_get, refl, sym, ap, subst, ◌∙◌, arith}
use Rattle.std.specs.Prelude.{IsTrue, Option, codes}
use Rattle.std.specs.List.{AllByRecursion}
use Rattle.std.proofs.lemmas.Bool.{and_parts, ltb-true}
use Rattle.block_tags.specs.declared.tile.Role.{Role}
use Rattle.block_tags.specs.declared.tile.Role.TheVariants.{Object as ObjectRole, Index, Storage, Node}
use Rattle.block_tags.specs.Format.{is_legal_size}
use Rattle.best_fit.specs.Extents.{Extent, LiveSet, Span, end_of, free_bytes, is_proper, proper_from, span_between}
use Rattle.best_fit.specs.Extents.{spans, spans_from}
use Rattle.best_fit.proofs.Laws.{legal_size, proper_from-IsFirst, proper_from-reaches}
use Rattle.seg_types.specs.Commands.{Free, Size}
use Rattle.seg_types.specs.Names.{ByHandle}
use Rattle.segment_manager.specs.declared.objects.instance_info.Instance.{Instance}
use Rattle.segment_manager.specs.Answers.{Number}
use Rattle.segment_manager.specs.Directory.{Directory, live, object_at}
use Rattle.segment_manager.specs.objects.Instances.{SaysOf}
use Rattle.segment_manager.specs.State.{AnswersQuery, IsSegment, SegmentState, DenotesCurrent}
use Rattle.segment_manager.proofs.Laws.{AllByRecursion-append, live-size, tile-here}
use Rattle.segment_report.specs.Picture.{HasOwner, HasScale, bytes_in_row, called, head_text, label_text, object_in}
use Rattle.segment_report.specs.Picture.{object_label}
use Rattle.segment_report.specs.Picture.{shape_text, sort_of, span_text}
use Rattle.segment_report.proofs.figures.Replies.{free_is, size_is}

-- ---- where they lie

abbrev LiesBelow : ℕ → Span → Type 0
LiesBelow to s = (0 < s.len) × (s.offset + s.len ≤ to)

hole-if : (a b to : ℕ) (c : Bool) → nat_lt a b ≡ c → b ≤ to
    → AllByRecursion (LiesBelow to) (if c then record { offset = a; len = b - a; use_of = None } ∷ [] else [])
hole-if a b to true e h = let l = ltb-true a b e in ((omega arith, omega arith), tt)
hole-if a b to false e h = tt

lie-below : (from : ℕ) (xs : List Extent) (to : ℕ) → IsTrue (proper_from from xs to)
    → AllByRecursion (LiesBelow to) (spans_from from xs to)
lie-below from [] to h = hole-if from to to (nat_lt from to) refl (omega arith)
lie-below from (x ∷ xs) to h =
    let f = proper_from-IsFirst from x xs to h in
    let reaches = proper_from-reaches (end_of x) xs to f.rest in
    let long = f.block.long in
    AllByRecursion-append (LiesBelow to) (span_between from x.offset) (record {
      offset = x.offset;
      len = x.len;
      use_of = Some x.role;
    } ∷ spans_from (end_of x) xs to)
    (hole-if from x.offset to (nat_lt from x.offset) refl (omega arith)) (
      (omega arith, omega arith),
      lie-below (end_of x) xs to f.rest,
    )

one-of : {X : Type 0} (P : X → Type 0) (xs : List X) (i : ℕ) (x : X) → AllByRecursion P xs → Some x ≡ slice_get xs i
    → P x
one-of P [] i x h e = absurd (cc)
one-of P (y ∷ ys) zero x h e = let same : y ≡ x = cc in subst P same h.0
one-of P (y ∷ ys) (suc i) x h e = one-of P ys i x h.1 e

pub record LiesIn (s : Span) : Type 0 where
  pub some : 0 < s.len
  pub inside : s.offset + s.len ≤ 2 ^ 30

live-lies : (l : LiveSet) → IsTrue (is_proper l) → (i : ℕ) (s : Span) → Some s ≡ slice_get (spans l) i → LiesIn s
unfolding is_proper
live-lies l h i s e =
    let parts = and_parts (is_legal_size l.size) (proper_from 128 l.extents (l.size - 16)) h in
    let legal = legal_size l.size parts.0 in
    let one = one-of (LiesBelow (l.size - 16)) (spans l) i s (lie-below 128 l.extents (l.size - 16) parts.1) e in
    record { some = one.0; inside = omega (arith, one.1, legal.high) }

-- a block or gap of the segment lies in it
pub lies-in : (b : List ℕ) (i : ℕ) (s : Span) → IsSegment b
    → ((d : Directory) → DenotesCurrent b d → Some s ≡ slice_get (spans (live d)) i) → LiesIn s
lies-in b i s (d, k) next = live-lies (live d) k.denotes.directory.proper i s (next d k)

-- ---- how long the segment is

pub record HasSize (size : ℕ) : Type 0 where
  pub low : 144 ≤ size
  pub high : size ≤ 2 ^ 30

live-legal : (l : LiveSet) → IsTrue (is_proper l) → HasSize l.size
unfolding is_proper
live-legal l h =
    let parts = and_parts (is_legal_size l.size) (proper_from 128 l.extents (l.size - 16)) h in
    let legal = legal_size l.size parts.0 in
    record { low = legal.low; high = omega (arith, legal.high) }

-- a proper live set has a legal size
pub legal-size : (d : Directory) → IsTrue (is_proper (live d)) → HasSize (live d).size
legal-size d h = live-legal (live d) h

-- the size that was answered is legal
pub has_size : (s : SegmentState) (n : ℕ) → IsSegment s.cut.bytes → AnswersQuery s Size (Number n) → HasSize n
has_size s n (d, k) h =
    subst HasSize (sym (size_is s.mode d n (h.answers d k) ∙ sym (live-size d)))
    (live-legal (live d) k.denotes.directory.proper)

-- the head of the picture is the directory's
pub head-same : (s : SegmentState) (size free : ℕ) → AnswersQuery s Size (Number size)
    → AnswersQuery s Free (Number free) → (d : Directory) → DenotesCurrent s.cut.bytes d
    → head_text size free ≡ head_text d.size (free_bytes (live d))
head-same s size free h f d k =
    λ i. head_text (size_is s.mode d size (h.answers d k) i) (free_is s.mode d free (f.answers d k) i)

-- ---- what an object is called

-- the label of an object is the directory's
pub label-said : (s : SegmentState) (per from len h : ℕ) (said : Instance) → SaysOf s (ByHandle h) said
    → (d : Directory) → DenotesCurrent s.cut.bytes d
    → label_text per from len (called said.class said.name.now said.handle) said.kind
    ≡ object_label per from len (object_at d (ByHandle h))
label-said s per from len h said says d k =
    let o = says.says d k in
    (λ i. label_text per from len (called (o.2.class i) (o.2.name i) (o.2.at i)) (o.2.kind i))
    ∙ ap (object_label per from len) (sym o.1)

-- an object's block has an object
owner-of : (s : SegmentState) (i offset len : ℕ) (u : Option Role) → ((d : Directory) → DenotesCurrent s.cut.bytes d
    → Some (record { offset = offset; len = len; use_of = u }) ≡ slice_get (spans (live d)) i) → HasOwner s u offset
owner-of s i offset len (Some ObjectRole) next =
    tile-here i (record { offset = offset; len = len; use_of = Some ObjectRole }) next refl
owner-of s i offset len (Some Index) next = tt
owner-of s i offset len (Some Storage) next = tt
owner-of s i offset len (Some Node) next = tt
owner-of s i offset len None next = tt

-- an owner of a block is an object
pub has-owner : (s : SegmentState) (i : ℕ) (x : Span) → ((d : Directory) → DenotesCurrent s.cut.bytes d
    → Some x ≡ slice_get (spans (live d)) i) → HasOwner s x.use_of x.offset
has-owner s i x next = owner-of s i x.offset x.len x.use_of next

-- the end of the picture is the directory's
pub end-same : (s : SegmentState) (per size : ℕ) → HasScale s per → AnswersQuery s Size (Number size)
    → (d : Directory) → DenotesCurrent s.cut.bytes d
    → shape_text per (size - 16) 16 (codes "end") ≡ shape_text (bytes_in_row d.size) (d.size - 16) 16 (codes "end")
end-same s per size h a d k = λ i.
    shape_text (h.scale d k i) (size_is s.mode d size (a.answers d k) i - 16) 16 (codes "end")

-- the next block or gap
pub next-text : (s : SegmentState) (per : ℕ) → HasScale s per → (i : ℕ) (x : Span)
    → ((d : Directory) → DenotesCurrent s.cut.bytes d → Some x ≡ slice_get (spans (live d)) i) → (d : Directory)
    → DenotesCurrent s.cut.bytes d
    → (y : Span) × (Some y ≡ slice_get (spans (live d)) i)
    × (span_text d y ≡ shape_text per x.offset x.len (sort_of x.use_of)
    ++ object_label per x.offset x.len (object_in d x.use_of x.offset))
next-text s per h i x next d k = (
  x,
  next d k,
  ap (λ (n : ℕ). shape_text n x.offset x.len (sort_of x.use_of)
      ++ object_label n x.offset x.len (object_in d x.use_of x.offset)) (sym (h.scale d k)),
)
