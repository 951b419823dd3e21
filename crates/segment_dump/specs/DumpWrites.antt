-- The output of a call about a segment, for each directory that its bytes denote.
use Rattle.std.specs.Prelude.{◌++◌, List, [], ℕ, Result, if◌then◌else◌}
use Rattle.std.specs.List.{flat_map}
use Rattle.raw_region.specs.Device.{WriterHistory}
use Rattle.seg_types.specs.{declared.kinds.Class.TheVariants.Anonymous, Names.Key}
use Rattle.segment_manager.specs.Directory.{Directory, Object, is_class, named_objects, object_at, unique_objects}
use Rattle.segment_manager.specs.{State.SegmentState, State.DenotesCurrent, Parts.part_of}
use Rattle.segment_values.specs.Writing.{WritesFor}
use Rattle.segment_dump.specs.{Items.anonymous_objects, Items.item_of_object, Texts.end_text, Texts.item_text}

-- the text that is owed of each directory
abbrev pub WritesOf : {A E : Type 0} → SegmentState → WriterHistory → WriterHistory → Result A E
    → (Directory → List ℕ) → Type 0
WritesOf s old new result owed = WritesFor old new result (DenotesCurrent s.cut.bytes) owed

-- all lines of an object
abbrev pub object_text : Object → List ℕ
object_text o = item_text (item_of_object o)

-- the lines of a key's object
abbrev pub text_at : Directory → Key → List ℕ
text_at d key = part_of object_text (object_at d key)

-- a text of those objects that are anonymous
abbrev pub where_anonymous : (Object → List ℕ) → Object → List ℕ
where_anonymous text o = if is_class Anonymous o then text o else []

-- all lines of some objects
abbrev pub objects_text : List Object → List ℕ
objects_text = flat_map object_text

-- what comes after the first lines
abbrev pub all_text : Directory → List ℕ
all_text d =
    objects_text (named_objects d)
    ++ (objects_text (unique_objects d) ++ (objects_text (anonymous_objects d) ++ end_text))
