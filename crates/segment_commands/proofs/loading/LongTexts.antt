-- A dump has as many bytes as the longest text of its vectors of strings, and a segment of it has room for as many.
use Rattle.std.proofs.Common.{◌≡◌, ℕ, zero, suc, ◌+◌, ◌-◌, ◌*◌, ◌/◌, ◌≤◌, Bool, true, false, ◌==◌, ◌||◌, List, [], ◌∷◌}
use Rattle.std.proofs.Common.{◌++◌, length, drop, refl, ap, arith, if◌then◌else◌}
use Rattle.std.specs.Prelude.{codes, max, min}
use Rattle.std.specs.List.{flat_map}
use Rattle.std.proofs.lemmas.List.{length-append, length-drop, length-take}
use Rattle.seg_types.specs.Texts.{between, escape_text, item_text, quoted_text}
use Rattle.segment_dump.specs.Items.{ValueContent, Scalars, Vector, String, Map, Strings, DumpItem, Items}
use Rattle.segment_dump.specs.Items.{kind_of_content, count_of_content}
use Rattle.segment_dump.specs.declared.needs.Needs.{Needs}
use Rattle.segment_dump.specs.Need.{all_needs, block_room, both, item_needs, items_needs, text_needs, texts_needs}
use Rattle.segment_dump.specs.Notes.{are_notes, before_notes, without_notes}
use Rattle.segment_manager.specs.Parts.{parts_until}
use Rattle.segment_dump.specs.Texts.{content_text, dump_text, end_text, prefix_text, head_line}
use Rattle.segment_dump.specs.Texts.{item_text as object_text}
use Rattle.segment_dump.specs.Texts.{items_text, length_text, piece_lead, piece_line, piece_of, pieces_in, pieces_text}
use Rattle.segment_dump.specs.Texts.{text_lines}

-- ---- a text in a dump

item-if : (c : ℕ) (q p : Bool) → 1 ≤ length (if q then 0x5C ∷ c ∷ [] else if p then c ∷ [] else escape_text c)
item-if c true p = omega arith
item-if c false true = omega arith
item-if c false false = omega arith

bytes-long : (bs : List ℕ) → length bs ≤ length (flat_map item_text bs)
bytes-long [] = omega arith
bytes-long (b ∷ bs) =
    omega (
      arith,
      item-if b ((b == 0x22) || (b == 0x5C)) (between 0x20 0x7E b),
      bytes-long bs,
      length-append (item_text b) (flat_map item_text bs),
    )

quoted-long : (bs : List ℕ) → length bs ≤ length (quoted_text bs)
quoted-long bs = omega (arith, bytes-long bs, length-append (flat_map item_text bs) (0x22 ∷ []))

piece-long : (bs : List ℕ) (i : ℕ) → min 1000 (length bs - i * 1000) ≤ length (piece_line bs i)
piece-long bs i =
    omega (
      arith,
      length-take 1000 (drop (i * 1000) bs),
      length-drop (i * 1000) bs,
      quoted-long (piece_of bs i),
      length-append (piece_lead i) (quoted_text (piece_of bs i) ++ 0x0A ∷ []),
      length-append (quoted_text (piece_of bs i)) (0x0A ∷ []),
    )

pieces-long : (bs : List ℕ) (n : ℕ) → min (n * 1000) (length bs) ≤ length (parts_until (piece_line bs) n)
pieces-long bs zero = omega arith
pieces-long bs (suc n) =
    omega (arith, pieces-long bs n, piece-long bs n, length-append (parts_until (piece_line bs) n) (piece_line bs n))

text-long : (bs : List ℕ) → length bs ≤ length (text_lines bs)
text-long bs =
    omega (arith, pieces-long bs (pieces_in (length bs)), length-append (length_text (length bs)) (pieces_text bs))

-- ---- all of them

all-long : {X : Type 0} (needs : X → Needs) (text : X → List ℕ) → ((x : X) → (needs x).longest ≤ length (text x))
    → (xs : List X) → (all_needs needs xs).longest ≤ length (flat_map text xs)
all-long needs text each [] = omega arith
all-long needs text each (x ∷ xs) =
    omega (arith, each x, all-long needs text each xs, length-append (text x) (flat_map text xs))

content-long : (c : ValueContent) → (texts_needs c).longest ≤ length (content_text c)
content-long (Scalars k zs) = omega arith
content-long (Vector k zs) = omega arith
content-long (String bs) = omega arith
content-long (Map k v ps) = omega arith
content-long (Strings ts) = all-long text_needs text_lines text-long ts

item-long : (i : DumpItem) → (item_needs i).longest ≤ length (object_text i)
item-long i = long (head_line i.class i.name (kind_of_content i.content) (count_of_content i.content))
    (content_text i.content) (content-long i.content)
  where
    long : (head content : List ℕ) → (texts_needs i.content).longest ≤ length content
        → max 0 (texts_needs i.content).longest ≤ length (head ++ content)
    long head content h = omega (arith, h, length-append head content)

dump-long : (n : ℕ) (items : Items) → (items_needs items).longest ≤ length (dump_text n items)
dump-long n items =
    let named = items_text items.named in
    let unique = items_text items.unique in
    let anonymous = items_text items.anonymous in
    omega (
      arith,
      all-long item_needs object_text item-long items.named,
      all-long item_needs object_text item-long items.unique,
      all-long item_needs object_text item-long items.anonymous,
      length-append (prefix_text n (length items.named) (length items.unique)) (named
          ++ (unique ++ (anonymous ++ end_text))),
      length-append named (unique ++ (anonymous ++ end_text)),
      length-append unique (anonymous ++ end_text),
      length-append anonymous end_text,
    )

-- ---- room for it

block-if : (n : ℕ) (b : Bool) → (n == 0) ≡ b → n ≤ (if b then 0 else max 32 ((n + 31) / 16 * 16))
block-if n true e = grind arith
block-if n false e = omega arith

block-long : (n : ℕ) → n ≤ block_room n
unfolding block_room
block-long n = block-if n (n == 0) refl

all-roomy : {X : Type 0} (needs : X → Needs) → ((x : X) → (needs x).longest ≤ (needs x).room) → (xs : List X)
    → (all_needs needs xs).longest ≤ (all_needs needs xs).room
all-roomy needs each [] = omega arith
all-roomy needs each (x ∷ xs) = omega (arith, each x, all-roomy needs each xs)

content-roomy : (c : ValueContent) → (texts_needs c).longest ≤ (texts_needs c).room
content-roomy (Scalars k zs) = omega arith
content-roomy (Vector k zs) = omega arith
content-roomy (String bs) = omega arith
content-roomy (Map k v ps) = omega arith
content-roomy (Strings ts) = all-roomy text_needs (λ bs. block-long (length bs)) ts

item-roomy : (i : DumpItem) → (item_needs i).longest ≤ (item_needs i).room
item-roomy i = omega (arith, content-roomy i.content)

items-roomy : (items : Items) → (items_needs items).longest ≤ (items_needs items).room
items-roomy items =
    omega (
      arith,
      all-roomy item_needs item-roomy items.named,
      all-roomy item_needs item-roomy items.unique,
      all-roomy item_needs item-roomy items.anonymous,
    )

-- ---- a text without its notes is no longer

kept-by : (b : Bool) (c : ℕ) (kept cs : List ℕ) → length kept ≤ length cs
    → length (if b then [] else c ∷ kept) ≤ suc (length cs)
kept-by true c kept cs h = omega arith
kept-by false c kept cs h = omega (arith, h)

kept-short : (start : Bool) (cs : List ℕ) → length (before_notes start cs) ≤ length cs
kept-short start [] = omega arith
kept-short false (c ∷ cs) = omega (arith, kept-short (c == 0x0A) cs)
kept-short true (c ∷ cs) = kept-by (are_notes true (c ∷ cs)) c (before_notes (c == 0x0A) cs) cs
    (kept-short (c == 0x0A) cs)

-- so a room of as many bytes as the text has, or as the largest segment, is one for each text of its vectors of strings
pub fits-room : (text : List ℕ) (n asked room : ℕ) (items : Items) → without_notes text ≡ dump_text n items
    → (items_needs items).room ≤ asked → asked ≤ 1073741824 → min (length text) 1073741824 ≤ room
    → (items_needs items).longest ≤ room
fits-room text n asked room items e fits most wide =
    let same : length (without_notes text) ≡ length (dump_text n items) = ap length e in
    omega (arith, same, dump-long n items, items-roomy items, kept-short true text, fits, most, wide)
