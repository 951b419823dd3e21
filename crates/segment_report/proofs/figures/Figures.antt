-- The figures of a segment are its directory's.
use Rattle.std.proofs.Common.{◌≡◌, ℕ, ◌<◌, ◌≤◌, List, [], ◌∷◌, ◌++◌, length, take, get_or, refl, ap, subst, ◌∙◌, arith}
use Rattle.std.specs.Prelude.{Result, Err, flat_map, slice_index}
use Rattle.std.specs.Result.{IsErr}
use Rattle.raw_region.specs.Device.{WriterHistory, Writes}
use Rattle.raw_region.proofs.Laws.{writes-element}
use Rattle.seg_types.specs.declared.kinds.Kind.{Kind}
use Rattle.seg_types.specs.Kinds.{kinds}
use Rattle.seg_types.specs.Commands.{Size}
use Rattle.raw_region.specs.Memory.{bytes_of, word_at}
use Rattle.segment_manager.specs.Answers.{Number}
use Rattle.segment_manager.specs.Directory.{Directory}
use Rattle.segment_manager.specs.State.{AnswersWith, AnswersQuery, IsSegment, SegmentState, DenotesCurrent}
use Rattle.segment_manager.proofs.Laws.{live-size}
use Rattle.segment_report.specs.declared.objects.ObjectTally.{ObjectTally}
use Rattle.segment_report.specs.declared.tallies.Tally.{Tally}
use Rattle.segment_report.specs.Objects.{count_of_kind, kind_index, object_tally_of}
use Rattle.segment_report.specs.Stat.{counted_line, figures_text, kind_line, kinds_text}
use Rattle.segment_report.specs.Usages.{tally_of}
use Rattle.segment_report.proofs.figures.Objects.{kind-there}
use Rattle.segment_report.proofs.picture.Blocks.{legal-size}
use Rattle.segment_report.proofs.figures.Replies.{size_is}

-- the header has the words of both indexes
pub header-inside : (b : List ℕ) → IsSegment b → 144 ≤ length b
header-inside b (d, k) = let h = legal-size d k.denotes.directory.proper
    in omega (arith, h.low, k.denotes.heap.size, live-size d)

-- the capacity of the index of names is the directory's
pub named-places : (b : List ℕ) (d : Directory) → DenotesCurrent b d → word_at (bytes_of b) 48 ≡ d.named.capacity
named-places b d k = k.denotes.named.capacity

-- the capacity of the index of kinds is the directory's
pub unique-places : (b : List ℕ) (d : Directory) → DenotesCurrent b d → word_at (bytes_of b) 72 ≡ d.unique.capacity
unique-places b d k = k.denotes.unique.capacity

kinds-same : (f g : Kind → ℕ) (ks : List Kind) → ((k : Kind) → f k ≡ g k)
    → flat_map (λ k. kind_line k (f k)) ks ≡ flat_map (λ k. kind_line k (g k)) ks
kinds-same f g [] h = refl
kinds-same f g (k ∷ ks) h = λ i. kind_line k (h k i) ++ kinds-same f g ks h i

-- the counts of kinds are the directory's
pub kinds-are : (s : SegmentState) (t : ObjectTally) → AnswersWith s object_tally_of t → (d : Directory)
    → DenotesCurrent s.cut.bytes d
    → flat_map (counted_line t.kinds) kinds ≡ kinds_text (count_of_kind d.objects)
kinds-are s t h d k =
    kinds-same (λ l. slice_index t.kinds (kind_index l)) (count_of_kind d.objects) kinds
    (λ l. ap (λ (u : ObjectTally). slice_index u.kinds (kind_index l)) (h.answers d k)
    ∙ kind-there (count_of_kind d.objects) l)

-- the figures are the directory's
pub figures-are : (s : SegmentState) (size : ℕ) (t : Tally) (o : ObjectTally) (named unique : ℕ)
    → AnswersQuery s Size (Number size) → AnswersWith s tally_of t → AnswersWith s object_tally_of o
    → AnswersWith s (λ d. d.named.capacity) named → AnswersWith s (λ d. d.unique.capacity) unique → (d : Directory)
    → DenotesCurrent s.cut.bytes d
    → figures_text size t o named unique
    ≡ figures_text d.size (tally_of d) (object_tally_of d) d.named.capacity d.unique.capacity
figures-are s size t o named unique a b c e f d k = λ i.
    figures_text (size_is s.mode d size (a.answers d k) i) (b.answers d k i) (c.answers d k i) (e.answers d k i)
    (f.answers d k i)

-- the line of a kind is cut, after those of the kinds before it
pub kind-cut : {A B E F : Type 0} (counts : List ℕ) (ks : List Kind) (i : ℕ) (d : Kind) (n : ℕ)
    (old mid new : WriterHistory) (x : E) (result : Result B F) → i < length ks
    → mid.bytes ≡ old.bytes ++ flat_map (counted_line counts) (take i ks) → mid.failures ≡ old.failures
    → IsErr result → n ≡ slice_index counts (kind_index (get_or ks i d))
    → Writes {A = A} mid new (Err x) (kind_line (get_or ks i d) n)
    → Writes old new result (flat_map (counted_line counts) ks)
kind-cut {A} counts ks i d n old mid new x result within before failures failed same w =
    writes-element (counted_line counts) ks i d old mid new x result within before failures failed
    (subst (λ (m : ℕ). Writes {A = A} mid new (Err x) (kind_line (get_or ks i d) m)) same w)
