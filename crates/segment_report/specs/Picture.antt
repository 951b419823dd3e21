-- The picture of a segment, a text of SVG. Its bytes go through 16 rows from left to right, to scale: each block, each
-- gap, the header and the end tag is a shape of its own, over several rows if it is longer than one. An object has
-- its name and kind in it.
use Rattle.std.specs.Prelude.{◌≡◌, ℕ, ◌+◌, ◌-◌, ◌*◌, ◌/◌, ◌%◌, max, true, Option, Some, None, List, [], ◌++◌, codes}
use Rattle.std.specs.Prelude.{decimal, flat_map, ◌==◌, if◌then◌else◌}
use Rattle.block_tags.specs.declared.tile.Role.{Role}
use Rattle.block_tags.specs.declared.tile.Role.TheVariants.{Object as ObjectRole, Index, Storage, Node}
use Rattle.best_fit.specs.Extents.{Span, free_bytes, handle, spans}
use Rattle.seg_types.specs.declared.kinds.Class.{Class}
use Rattle.seg_types.specs.declared.kinds.Class.TheVariants.{Anonymous, Named, Unique}
use Rattle.seg_types.specs.declared.kinds.Kind.{Kind}
use Rattle.seg_types.specs.Names.{ByHandle}
use Rattle.seg_types.specs.Texts.{kind_text}
use Rattle.segment_manager.specs.Directory.{Directory, Object, kind_of, live, object_at}
use Rattle.segment_manager.specs.objects.Found.{is_object_at}
use Rattle.segment_manager.specs.State.{AnswersWith, SegmentState, DenotesCurrent}
use Rattle.segment_report.specs.Parts.{xml_text}

-- ---- where a byte stands, in pixels

-- the bytes of a row: a multiple of 16, at least 64, so that 16 rows hold all
abbrev pub bytes_in_row : ℕ → ℕ
bytes_in_row size = max 64 ((size + 255) / 256 * 16)

-- the left and the right edge of a byte, and the top of its row; a row is 1024 wide and 32 high
abbrev pub left_of : ℕ → ℕ → ℕ
left_of per at = 28 + at % per * 1024 / per

-- the right edge of a byte
abbrev pub right_of : ℕ → ℕ → ℕ
right_of per at = 28 + (at % per + 1) * 1024 / per

-- the top of a byte's row
abbrev pub top_of : ℕ → ℕ → ℕ
top_of per at = 72 + at / per * 32

-- ---- shapes

-- a run of bytes within one row: its outline; then its offset, its length, and its sort
abbrev pub box_text : ℕ → ℕ → ℕ → ℕ → ℕ → List ℕ → List ℕ
box_text left right top from len sort =
    codes "<path class='" ++ (sort
    ++ (codes "' d='M" ++ (decimal left ++ (codes " " ++ (decimal top ++ (codes "H" ++ (decimal right ++ (
    codes "V" ++ (decimal (top + 32)
    ++ (codes "H" ++ (decimal left ++ (codes "Z'><title>" ++ (decimal from ++ (codes " " ++ (decimal len ++ (
    codes " " ++ (sort ++ codes "</title></path>\n")))))))))))))))))

-- the shape of bytes that lie in several rows, the first at one height and the last at another
abbrev pub rows_text : ℕ → ℕ → ℕ → ℕ → ℕ → ℕ → List ℕ → List ℕ
rows_text left right top last from len sort =
    codes "<path class='" ++ (sort
    ++ (codes "' d='M" ++ (decimal left ++ (codes " " ++ (decimal top ++ (codes "H1052V" ++ (decimal last ++ (
    codes "H" ++ (decimal right ++ (codes "V"
    ++ (decimal (last + 32) ++ (codes "H28V" ++ (decimal (top + 32) ++ (codes "H" ++ (decimal left ++ (
    codes "Z'><title>" ++ (decimal from
    ++ (codes " " ++ (decimal len ++ (codes " " ++ (sort ++ codes "</title></path>\n")))))))))))))))))))))

abbrev pub outline_text : ℕ → ℕ → ℕ → ℕ → ℕ → ℕ → List ℕ → List ℕ
outline_text left right top last from len sort =
    if top == last then box_text left right top from len sort else rows_text left right top last from len sort

-- the shape of this many bytes from an offset on, of a sort that has a style
abbrev pub shape_text : ℕ → ℕ → ℕ → List ℕ → List ℕ
shape_text per from len sort =
    outline_text (left_of per from) (right_of per (from + len - 1)) (top_of per from) (top_of per (from + len - 1))
    from len sort

-- the style of a use
abbrev pub sort_of : Option Role → List ℕ
sort_of None = codes "free"
sort_of (Some ObjectRole) = codes "object"
sort_of (Some Index) = codes "index"
sort_of (Some Storage) = codes "storage"
sort_of (Some Node) = codes "node"

-- ---- labels of objects

-- the label of an object
abbrev pub called : Class → List ℕ → ℕ → List ℕ
called Named name handle = xml_text name ++ codes ": "
called Unique name handle = codes "@"
called Anonymous name handle = codes "#" ++ (decimal handle ++ codes ": ")

-- the width for the text in a shape, which is the width of the shape's first row
abbrev pub width_in : ℕ → ℕ → ℕ → ℕ → ℕ
width_in left right top last = (if top == last then right else 1052) - left

abbrev pub frame_at : ℕ → ℕ → ℕ → List ℕ
frame_at left width top =
    codes "<svg x='" ++ (decimal left ++ (codes "' y='" ++ (decimal top ++ (codes "' width='" ++ (decimal width ++
    codes "' height='32'><text x='4' y='21'>")))))

-- the frame of a label
abbrev pub frame_text : ℕ → ℕ → ℕ → List ℕ
frame_text per from len =
    frame_at (left_of per from) (width_in (left_of per from) (right_of per (from + len - 1)) (top_of per from)
    (top_of per (from + len - 1))) (top_of per from)

-- the label of a block
abbrev pub label_text : ℕ → ℕ → ℕ → List ℕ → Kind → List ℕ
label_text per from len name kind =
    frame_text per from len ++ (name ++ (xml_text (kind_text kind) ++ codes "</text></svg>\n"))

-- the name and the kind of an object, in its shape
abbrev pub object_label : ℕ → ℕ → ℕ → Option Object → List ℕ
object_label per from len None = []
object_label per from len (Some o) = label_text per from len (called o.class o.name (handle o.extent)) (kind_of o.value)

-- the object that stands in a block, if it is an object's
abbrev pub object_in : Directory → Option Role → ℕ → Option Object
object_in d (Some ObjectRole) from = object_at d (ByHandle (from + 16))
object_in d (Some Index) from = None
object_in d (Some Storage) from = None
object_in d (Some Node) from = None
object_in d None from = None

-- ---- the whole picture

-- a block or gap, with its text
abbrev pub span_text : Directory → Span → List ℕ
span_text d s =
    shape_text (bytes_in_row d.size) s.offset s.len (sort_of s.use_of)
    ++ object_label (bytes_in_row d.size) s.offset s.len (object_in d s.use_of s.offset)

-- how the picture begins, with the colour of each sort
abbrev pub begin_text : List ℕ
begin_text =
    codes "<svg xmlns='http://www.w3.org/2000/svg' viewBox='0 0 1080 600' font-family='sans-serif' font-size='13'>\n"
    ++ codes
    "<style>path{stroke:#456}.header,.end{fill:#bcc3ca}.free{fill:#fff}.object{fill:#9cc9ea}.index{fill:#f5c883}"
    ++ codes
    ".storage{fill:#a9d8a2}.node{fill:#cdb9e6}</style>\n<rect width='1080' height='600' fill='#f2f4f6'/>\n<text x='28' y='26' font-size='16'>"

-- what its colours mean
abbrev pub legend_text : List ℕ
legend_text =
    codes "</text>\n<path class='object' d='M28 40H44V56H28Z'/><text x='50' y='53'>object</text>"
    ++ codes "<path class='index' d='M128 40H144V56H128Z'/><text x='150' y='53'>index</text>"
    ++ codes "<path class='storage' d='M228 40H244V56H228Z'/><text x='250' y='53'>storage</text>"
    ++ codes "<path class='node' d='M328 40H344V56H328Z'/><text x='350' y='53'>node</text>"
    ++ codes "<path class='free' d='M428 40H444V56H428Z'/><text x='450' y='53'>free</text>"
    ++ codes "<path class='end' d='M528 40H544V56H528Z'/><text x='550' y='53'>header and end tag</text>\n"

-- the size and the free bytes, and the legend of the colours
abbrev pub head_text : ℕ → ℕ → List ℕ
head_text size free = begin_text
    ++ (decimal size ++ (codes " bytes, " ++ (decimal free ++ (codes " free" ++ legend_text))))

-- these, and the header
abbrev pub prefix_text : Directory → List ℕ
prefix_text d = head_text d.size (free_bytes (live d)) ++ shape_text (bytes_in_row d.size) 0 128 (codes "header")

-- the shapes of the blocks and gaps
abbrev pub spans_text : Directory → List ℕ
spans_text d = flat_map (span_text d) (spans (live d))

abbrev pub close_text : List ℕ
close_text = codes "</svg>\n"

-- the end tag, and how the picture ends
abbrev pub end_text : Directory → List ℕ
end_text d = shape_text (bytes_in_row d.size) (d.size - 16) 16 (codes "end") ++ close_text

-- an SVG of 16 rows, with each block and gap to scale
abbrev pub picture_of : Directory → List ℕ
picture_of d = prefix_text d ++ (spans_text d ++ end_text d)

-- the scale of a segment's picture
pub record HasScale (s : SegmentState) (per : ℕ) : Type 0 where
  pub scale : (d : Directory) → DenotesCurrent s.cut.bytes d → per ≡ bytes_in_row d.size

-- an object has the handle of an object's block
abbrev pub HasOwner : SegmentState → Option Role → ℕ → Type 0
HasOwner s (Some ObjectRole) from = AnswersWith s (λ d. is_object_at d (from + 16)) true
HasOwner s (Some Index) from = Unit {0}
HasOwner s (Some Storage) from = Unit {0}
HasOwner s (Some Node) from = Unit {0}
HasOwner s None from = Unit {0}
