-- The needs of a dump's objects: bytes of blocks in a segment, and of the buffer for a text during the build.
use Rattle.seg_types.specs.declared.kinds.Kind.TheVariants as kinds
use Rattle.std.specs.Prelude.{ℕ, ◌+◌, ◌*◌, max, List, [], ◌∷◌, length, ◌==◌, if◌then◌else◌}
use Rattle.best_fit.specs.Fit.{room}
use Rattle.seg_types.specs.{declared.kinds.Kind.Kind, Kinds.size_of}
use Rattle.seg_map.specs.Map.{node_len}
use Rattle.segment_manager.specs.{Layout.head_len, Directory.padded}
use Rattle.segment_dump.specs.{declared.needs.Needs.Needs, Items.kind_of_content, Items.count_of_content}
use Rattle.segment_dump.specs.Items.{ValueContent, Scalars, Vector, String, Map, Strings, DumpItem, Items}

-- ---- blocks

-- the bytes of a block for this many, and none if there are none
unfoldable pub block_room : ℕ → ℕ
block_room n = if n == 0 then 0 else room n

-- the length of the value of an object of a kind: this many scalars, or the three words of a container
abbrev pub body_len : Kind → ℕ → ℕ
body_len (kinds.Scalar k) n = size_of k * n
body_len kinds.String n = 24
body_len (kinds.Vector k) n = 24
body_len (kinds.Map k v) n = 24
body_len kinds.Strings n = 24

-- the bytes of its storage or of its nodes, for this many elements
abbrev pub elements_room : Kind → ℕ → ℕ
elements_room (kinds.Scalar k) n = 0
elements_room kinds.String n = 0
elements_room (kinds.Vector k) n = block_room (size_of k * n)
elements_room (kinds.Map k v) n = n * block_room (node_len (size_of k) (size_of v))
elements_room kinds.Strings n = block_room (16 * n)

-- the bytes of an object's block, with its head, its name and its value, and of the blocks of its elements
unfoldable pub object_room : ℕ → Kind → ℕ → ℕ
object_room name_len kind n = block_room (head_len + padded name_len + body_len kind n) + elements_room kind n

-- ---- needs

-- no need
abbrev pub nothing : Needs
nothing = record { room = 0; longest = 0 }

-- a need of bytes alone
abbrev pub only_room : ℕ → Needs
only_room n = record { room = n; longest = 0 }

-- two needs as one
abbrev pub both : Needs → Needs → Needs
both a b = record { room = a.room + b.room; longest = max a.longest b.longest }

-- the sum of needs
abbrev pub all_needs : {X : Type 0} → (X → Needs) → List X → Needs
all_needs needs [] = nothing
all_needs needs (x ∷ xs) = both (needs x) (all_needs needs xs)

-- a text in a vector of strings: a block of its own, and room for it
abbrev pub text_needs : List ℕ → Needs
text_needs bs = record { room = block_room (length bs); longest = length bs }

-- the texts of an object; a string is made from its lines, without room for all of it
abbrev pub texts_needs : ValueContent → Needs
texts_needs (Scalars k zs) = nothing
texts_needs (Vector k zs) = nothing
texts_needs (String bs) = only_room (block_room (length bs))
texts_needs (Map k v ps) = nothing
texts_needs (Strings ts) = all_needs text_needs ts

-- the bytes of an object with all its texts, and its longest text
abbrev pub item_needs : DumpItem → Needs
item_needs i =
    both (only_room (object_room (length i.name) (kind_of_content i.content) (count_of_content i.content)))
    (texts_needs i.content)

-- the header and the end tag, and the blocks of the two indexes, of this many entries
unfoldable pub prefix_room : ℕ → ℕ → ℕ
prefix_room named unique = 144 + block_room (8 * named) + block_room (8 * unique)

-- all objects, in a segment of their own
abbrev pub items_needs : Items → Needs
items_needs items =
    both (only_room (prefix_room (length items.named) (length items.unique))) (both (all_needs item_needs items.named)
    (both (all_needs item_needs items.unique) (all_needs item_needs items.anonymous)))
