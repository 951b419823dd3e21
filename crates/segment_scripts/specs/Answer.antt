-- The lines that an answer is printed as.
use Rattle.std.specs.Prelude.{ℕ, Option, Some, None, List, [], ◌∷◌, ◌++◌, length, map, if◌then◌else◌, ◌==◌, codes, Bool}
use Rattle.std.specs.Prelude.{true, false}
use Rattle.block_tags.specs.declared.tile.Role.{Role}
use Rattle.block_tags.specs.declared.tile.Role.TheVariants.{Object as ObjectRole, Index, Storage, Node}
use Rattle.best_fit.specs.Extents.{Span, handle}
use Rattle.seg_types.specs.declared.kinds.ScalarKind.{ScalarKind}
use Rattle.seg_types.specs.declared.kinds.Class.{Class}
use Rattle.seg_types.specs.declared.kinds.Class.TheVariants.{Anonymous, Named, Unique}
use Rattle.seg_map.specs.Numbers.{NumberPair}
use Rattle.seg_vector.specs.Vector.{OwnedText}
use Rattle.segment_lang.specs.Texts.{number_text, quoted_text, name_text, value_text, kind_text, refusal_text}
use Rattle.segment_manager.specs.Directory.{Value, Numbers, Elements, Bytes, Pairs, Texts, Object, kind_of, count_of}
use Rattle.segment_manager.specs.Answers.{Answer, Done, Absent, Boolean, Number, Made, Found, Element, TextElement}
use Rattle.segment_manager.specs.Answers.{Shown, Told, Names, Kinds, Blocks, Refused}

-- the text of a line: its words with one blank between two words, and then a newline
abbrev pub line : List (List ℕ) → List ℕ
line [] = 0x0A ∷ []
line (w ∷ []) = w ++ 0x0A ∷ []
line (w ∷ v ∷ ws) = w ++ 0x20 ∷ line (v ∷ ws)

abbrev pub handle_text : ℕ → List ℕ
handle_text h = 0x23 ∷ number_text h

abbrev pub object_handle : Object → List ℕ
object_handle o = handle_text (handle o.extent)

abbrev pub pair_text : ScalarKind → ScalarKind → NumberPair → List ℕ
pair_text k v p = value_text k p.key ++ 0x3D ∷ value_text v p.value

abbrev pub shown_tokens : Value → List (List ℕ)
shown_tokens (Numbers k zs) =
    (kind_text (kind_of (Numbers k zs))
    ++ (if length zs == 1 then [] else 0x5B ∷ number_text (length zs) ++ 0x5D ∷ [])) ∷ map (value_text k) zs
shown_tokens (Elements k zs t) = kind_text (kind_of (Elements k zs t)) ∷ map (value_text k) zs
shown_tokens (Bytes bs t) = kind_text (kind_of (Bytes bs t)) ∷ quoted_text bs ∷ []
shown_tokens (Texts ps t) = kind_text (kind_of (Texts ps t)) ∷ map (λ (p : OwnedText). quoted_text p.bytes) ps
shown_tokens (Pairs k v ps) = kind_text (kind_of (Pairs k v ps)) ∷ map (pair_text k v) ps

-- length and capacity of a vector or text, length of a map
abbrev pub measure_tokens : Value → List (List ℕ)
measure_tokens (Numbers k zs) = []
measure_tokens (Elements k zs t) = number_text (length zs) ∷ number_text t.capacity ∷ []
measure_tokens (Bytes bs t) = number_text (length bs) ∷ number_text t.capacity ∷ []
measure_tokens (Texts ps t) = number_text (length ps) ∷ number_text t.capacity ∷ []
measure_tokens (Pairs k v ps) = number_text (length ps) ∷ []

-- the words of a class and a name
abbrev pub class_tokens : Class → List ℕ → List (List ℕ)
class_tokens Named name = codes "named" ∷ name_text name ∷ []
class_tokens Unique name = codes "unique" ∷ codes "-" ∷ []
class_tokens Anonymous name = codes "anonymous" ∷ codes "-" ∷ []

-- kind, count and handle
abbrev pub entry_tokens : Object → List (List ℕ)
entry_tokens o = kind_text (kind_of o.value) ∷ number_text (count_of o.value) ∷ object_handle o ∷ []

-- the word of a role
abbrev pub role_token : Option Role → List ℕ
role_token None = codes "free"
role_token (Some ObjectRole) = codes "object"
role_token (Some Index) = codes "index"
role_token (Some Storage) = codes "storage"
role_token (Some Node) = codes "node"

-- the offset of a block or gap, its length, and its use
abbrev pub block_tokens : Span → List (List ℕ)
block_tokens s = number_text s.offset ∷ number_text s.len ∷ role_token s.use_of ∷ []

abbrev pub truth_token : Bool → List ℕ
truth_token true = codes "true"
truth_token false = codes "false"

-- a line for each element of the list, and then the line `end`
abbrev pub listing : {A : Type 0} → (A → List (List ℕ)) → List A → List ℕ
listing tokens [] = line (codes "end" ∷ [])
listing tokens (x ∷ xs) = line (tokens x) ++ listing tokens xs

-- the text of an answer
abbrev pub answer_text : Answer → List ℕ
answer_text Done = line (codes "ok" ∷ [])
answer_text Absent = line (codes "none" ∷ [])
answer_text (Boolean b) = line (truth_token b ∷ [])
answer_text (Number n) = line (number_text n ∷ [])
answer_text (Made h) = line (handle_text h ∷ [])
answer_text (Found h n) = line (handle_text h ∷ number_text n ∷ [])
answer_text (Element k z) = line (value_text k z ∷ [])
answer_text (TextElement bs) = line (quoted_text bs ∷ [])
answer_text (Shown v) = line (shown_tokens v)
answer_text (Told o) = line (class_tokens o.class o.name ++ entry_tokens o ++ measure_tokens o.value)
answer_text (Names os) = listing (λ (o : Object). name_text o.name ∷ entry_tokens o) os
answer_text (Kinds os) = listing entry_tokens os
answer_text (Blocks ss) = listing block_tokens ss
answer_text (Refused r) = line (refusal_text r ∷ [])
