-- All objects are those of the dump.
use Rattle.segment_dump.proofs.Common.{◌≡◌, ℕ, ◌≤◌, Bool, true, false, List, [], ◌∷◌, ◌++◌, length, map, slice_get}
use Rattle.segment_dump.proofs.Common.{refl, sym, ap, ◌∙◌, cond, ◌==◌, if◌then◌else◌, ◌+◌, Result, Ok, Err, filter}
use Rattle.segment_dump.proofs.Common.{flat_map, AllByRecursion, take_all, Class, Anonymous, Named, Unique, class_code}
use Rattle.segment_dump.proofs.Common.{ByHandle, Instance, Directory, Object, is_class, named_objects, object_at}
use Rattle.segment_dump.proofs.Common.{unique_objects, SaysOf, SaysAt, AnswersWith, SegmentState, DenotesCurrent}
use Rattle.segment_dump.proofs.Common.{anonymous_objects, content_of, item_of_object, kind_of_content, portable}
use Rattle.segment_dump.proofs.Common.{all_text, count_at, object_count, where_anonymous, WritesOf, part_of, in_lines}
use Rattle.segment_dump.proofs.Common.{laid_at, laid_object, parts_until, dump_text, end_text, prefix_text, head_line}
use Rattle.segment_dump.proofs.Common.{item_text, items_text, IsErr, WriterHistory}
use Rattle.segment_dump.specs.DumpWrites.{object_text, objects_text, text_at}
use Rattle.std.proofs.lemmas.Option.{slice_get_within}
use Rattle.segment_dump.proofs.dumping.ObjectParts.{flat_map-made, length-made, count_of_object}
use Rattle.segment_dump.proofs.{dumping.LaidOut.laid-lines, building.ObjectOrder.kind-made, building.Members.IsFoundIn}
use Rattle.segment_dump.proofs.{building.Members.text-of}
use Rattle.segment_dump.proofs.texts.Parts.{parts-all, parts-taken, well}
use Rattle.segment_dump.proofs.dumping.Output.{of-all, of-cut_in, of-more, of-same}

abbrev made : List Object → List ℕ
made os = items_text (map item_of_object os)

objects-made : (os : List Object) → objects_text os ≡ made os
objects-made os = sym (flat_map-made item_text item_of_object os)

-- the front and all objects are the dump
pub dump-parts : (size : ℕ) (d : Directory)
    → prefix_text size (length (named_objects d)) (length (unique_objects d)) ++ all_text d ≡ dump_text size
    (portable d)
dump-parts size d =
    (λ i. prefix_text size (sym (length-made item_of_object (named_objects d)) i)
    (sym (length-made item_of_object (unique_objects d)) i) ++ (objects-made (named_objects d) i
    ++ (objects-made (unique_objects d) i ++ (objects-made (anonymous_objects d) i ++ end_text))))

-- ---- the objects of a list, one after another

-- a text of the object at a place of a list
abbrev pub object_at_place : (Object → List ℕ) → (Directory → List Object) → Directory → ℕ → List ℕ
object_at_place text objects d i = part_of text (slice_get (objects d) i)

-- what was said of an object at a place is told there, and then this many
module _ {s : SegmentState} {objects : Directory → List Object} {text : Object
    → List ℕ} {old mid new : WriterHistory} {i : ℕ}
    {said : Instance} (at : SaysAt s objects i said)
    (each : (d : Directory) → DenotesCurrent s.cut.bytes d → AllByRecursion (IsFoundIn d) (objects d))
    (before : WritesOf s old mid well (λ d. parts_until (object_at_place text objects d) i)) where
  place-said : {A E : Type 0} {r : Result A E} → WritesOf s mid new r
      (λ d. part_of text (object_at d (ByHandle said.handle)))
      → WritesOf s mid new r (λ d. object_at_place text objects d i)
  place-said w = of-same w (text-of s objects i said at each text)

  -- one object more goes out
  pub slots-more : {B F : Type 0} {y : B} → WritesOf {E = F} s mid new (Ok y)
      (λ d. part_of text (object_at d (ByHandle said.handle)))
      → WritesOf s old new well (λ d. parts_until (object_at_place text objects d) (i + 1))
  slots-more w = of-more (object_at_place text objects) before (place-said w)

  -- an object that did not go out
  pub slots-cut : {B C F G : Type 0} {y : F} {result : Result C G}
      → WritesOf {A = B} s mid new (Err y) (λ d. part_of text (object_at d (ByHandle said.handle))) → IsErr result
      → WritesOf s old new result (λ d. flat_map text (objects d))
  slots-cut w is_err =
      of-same (of-cut_in (object_at_place text objects) (λ d. length (objects d)) before
      (λ d st. let o = at.says d st in slice_get_within (objects d) i o.0 o.1) (place-said w) is_err)
      (λ d st. parts-all text (objects d))

-- no object has a later place
pub slots-all : {B F : Type 0} (s : SegmentState) (objects : Directory → List Object) (text : Object → List ℕ) (i : ℕ)
    {old new : WriterHistory} {y : B} → WritesOf s old new well (λ d. parts_until (object_at_place text objects d) i)
    → ((d : Directory) → DenotesCurrent s.cut.bytes d → length (objects d) ≤ i)
    → WritesOf {E = F} s old new (Ok y) (λ d. flat_map text (objects d))
slots-all s objects text i w all = of-same (of-all (object_at_place text objects) i i w refl)
    (λ d st. parts-taken text (objects d) i ∙ ap (flat_map text) (take_all i (objects d) (all d st)))

-- ---- the line of an object

-- the line that is made of what is said, and the lines of the elements, are the text of the object
pub entry-text : (s : SegmentState) (said : Instance) (n : ℕ) → SaysOf s (ByHandle said.handle) said
    → AnswersWith s (λ d. count_at d (ByHandle said.handle)) n → (d : Directory) → DenotesCurrent s.cut.bytes d
    → head_line said.class said.name.now said.kind n ++ laid_at in_lines d (ByHandle said.handle)
    ≡ text_at d (ByHandle said.handle)
entry-text s said n h a d st =
    let f = h.says d st in
    let count : n ≡ object_count f.0 = a.answers d st ∙ ap count_of_object f.1 in
    let kind : said.kind ≡ kind_of_content (content_of f.0.value) = f.2.kind ∙ sym (kind-made f.0.value) in
    (λ i. head_line (f.2.class i) (f.2.name i) (kind i) (count i) ++ part_of (laid_object in_lines) (f.1 i))
    ∙ ap (λ l. head_line f.0.class f.0.name (kind_of_content (content_of f.0.value)) (object_count f.0) ++ l)
    (laid-lines (content_of f.0.value)) ∙ sym (ap (part_of object_text) f.1)

-- ---- the anonymous objects among all, in a text of each

module _ (text : Object → List ℕ) where
  one-filtered : (b : Bool) (o : Object) (os : List Object)
      → (if b then text o else []) ++ flat_map text os ≡ flat_map text (cond b (o ∷ os) os)
  one-filtered true o os = refl
  one-filtered false o os = refl

  -- the anonymous objects are those of the class
  pub anonymous-filtered : (os : List Object) → flat_map (where_anonymous text) os ≡ flat_map text
      (filter (is_class Anonymous) os)
  anonymous-filtered [] = refl
  anonymous-filtered (o ∷ os) = ap (λ l. where_anonymous text o ++ l) (anonymous-filtered os)
      ∙ one-filtered (is_class Anonymous o) o (filter (is_class Anonymous) os)

  -- what is said of an object says whether it is anonymous
  class-if : (o : Object) (c : Class) → c ≡ o.class → (c ≡ Anonymous → ⊥) → where_anonymous text o ≡ []
  class-if o Named e n = ap (λ x. if class_code Anonymous == class_code x then text o else []) (sym e)
  class-if o Unique e n = ap (λ x. if class_code Anonymous == class_code x then text o else []) (sym e)
  class-if o Anonymous e n = absurd (n refl)

  -- an anonymous object goes out
  pub anonymous-said : (s : SegmentState) (said : Instance) → SaysOf s (ByHandle said.handle) said → said.class
      ≡ Anonymous → (d : Directory) → DenotesCurrent s.cut.bytes d → part_of text (object_at d (ByHandle said.handle))
      ≡ part_of (where_anonymous text) (object_at d (ByHandle said.handle))
  anonymous-said s said h e d st =
      let f = h.says d st in
      let class : f.0.class ≡ Anonymous = sym f.2.class ∙ e in
      let same : text f.0 ≡ where_anonymous text f.0 =
      sym (ap (λ x. if class_code Anonymous == class_code x then text f.0 else []) class) in
      ap (part_of text) f.1 ∙ same ∙ sym (ap (part_of (where_anonymous text)) f.1)

  -- another object does not go out among the anonymous ones
  pub other-said : (s : SegmentState) (said : Instance) → SaysOf s (ByHandle said.handle) said
      → (said.class ≡ Anonymous → ⊥) → (d : Directory) → DenotesCurrent s.cut.bytes d
      → part_of (where_anonymous text) (object_at d (ByHandle said.handle)) ≡ []
  other-said s said h n d st =
      let f = h.says d st in
      ap (part_of (where_anonymous text)) f.1 ∙ class-if f.0 said.class f.2.class n
