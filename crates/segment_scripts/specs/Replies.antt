-- The answer of a command by a call, and the step of the directory machine.
use Rattle.std.specs.Prelude.{◌≡◌, ◌≤◌, ℕ, ◌+◌, true, false, Option, Some, None, List, [], ◌∷◌, length, slice_get, ⊤}
use Rattle.std.specs.Prelude.{IsTrue}
use Rattle.best_fit.specs.Extents.{spans}
use Rattle.seg_types.specs.declared.kinds.Kind.TheVariants.{Map, Scalar, String, Strings as StringsKind, Vector}
use Rattle.seg_types.specs.declared.refusals.Refusal.TheVariants.{NotFound, OutOfRange, WrongKind}
use Rattle.seg_types.specs.Names.{Key}
use Rattle.seg_types.specs.Commands as asked
use Rattle.seg_types.specs.Commands.{Command, Content, Literal, ZeroFree, is_changing}
use Rattle.seg_types.specs.Keys.{key_seen}
use Rattle.seg_types.specs.Values.{kind_of_scalar, value_of_scalar}
use Rattle.segment_lang.specs.Reading.{agrees}
use Rattle.segment_manager.specs.Answers.{Answer, Done, Absent, Boolean, Number, Made, Found, Element, TextElement}
use Rattle.segment_manager.specs.Answers.{Shown, Told, Names, Kinds, Blocks, Refused}
use Rattle.segment_manager.specs.Directory.{Value, Texts, Directory, Object, live, named_objects, object_at}
use Rattle.segment_manager.specs.Directory.{unique_objects}
use Rattle.segment_manager.specs.State.{SegmentState, DenotesCurrent, KeepsModeAndPlace}
use Rattle.segment_manager.specs.Step.{step}
use Rattle.segment_manager.specs.Calls.{HasZeroGaps}
use Rattle.segment_scripts.specs.ZeroGaps.{changes_nothing}
use Rattle.segment_scripts.specs.declared.replies.CommandAnswer.{CommandAnswer as Reply}
use Rattle.segment_scripts.specs.declared.replies.CommandAnswer.TheVariants as said

-- the answer of `show` for an object, or that there is none
abbrev pub shown_of : Option Object → Answer
shown_of None = Refused NotFound
shown_of (Some o) = Shown o.value

-- the answer of show for a key
abbrev pub shown_at : Directory → Key → Answer
shown_at d key = shown_of (object_at d key)

-- the answer of `info` for an object, or that there is none
abbrev pub told_of : Option Object → Answer
told_of None = Refused NotFound
told_of (Some o) = Told o

-- the answer of info for a key
abbrev pub told_at : Directory → Key → Answer
told_at d key = told_of (object_at d key)

-- the text at an index of a vector of strings, or the refusal
abbrev pub text_of : Value → ℕ → Answer
text_of (Texts ps t) i = elim (slice_get ps i) [ None ↦ Refused OutOfRange | Some p ↦ TextElement p.bytes ]
text_of v i = Refused WrongKind

abbrev pub text_in : Option Object → ℕ → Answer
text_in None i = Refused NotFound
text_in (Some o) i = text_of o.value i

-- the answer of get for a text
abbrev pub text_at : Directory → Key → ℕ → Answer
text_at d key i = text_in (object_at d key) i

-- The answer of a reply: a short reply is the answer; for a long one the directory has it.
abbrev pub answer_seen : Directory → Reply → Answer
answer_seen d said.Done = Done
answer_seen d said.Absent = Absent
answer_seen d (said.Boolean b) = Boolean b
answer_seen d (said.Number n) = Number n
answer_seen d (said.Made h) = Made h
answer_seen d (said.Found h n) = Found h n
answer_seen d (said.Element v) = Element (kind_of_scalar v) (value_of_scalar v)
answer_seen d (said.Shown key) = shown_at d (key_seen key)
answer_seen d (said.Told key) = told_at d (key_seen key)
answer_seen d said.Names = Names (named_objects d)
answer_seen d said.Kinds = Kinds (unique_objects d)
answer_seen d said.Blocks = Blocks (spans (live d))
answer_seen d (said.Refused r) = Refused r

-- ---- bounds on the arguments of a line

-- the least number of bytes that texts take in a line, with one byte after each
abbrev pub texts_taken : List (List ℕ) → ℕ
texts_taken [] = 0
texts_taken (bs ∷ bss) = 1 + length bs + texts_taken bss

-- from 1 to 1048576 numbers, or as many elements, bytes or texts as a line has, under a key that is for their kind
abbrev pub IsLineContent : Key → Content → Type 0
IsLineContent key (asked.Numbers k zs) = (1 ≤ length zs) × (length zs ≤ 1048576) × IsTrue (agrees (Scalar k) key)
IsLineContent key (asked.Elements k zs) = (length zs ≤ 2048) × IsTrue (agrees (Vector k) key)
IsLineContent key (asked.Bytes bs) = (length bs ≤ 4096) × IsTrue (agrees String key)
IsLineContent key (asked.NoPairs k v) = IsTrue (agrees (Map k v) key)
IsLineContent key (asked.Strings bss) = (texts_taken bss ≤ 4097) × IsTrue (agrees StringsKind key)

-- the least number of bytes that values take in a line, with one byte after each
abbrev pub bytes_taken : List Literal → ℕ
bytes_taken [] = 0
bytes_taken (asked.Integer z ∷ ls) = 2 + bytes_taken ls
bytes_taken (asked.Boolean b ∷ ls) = 2 + bytes_taken ls
bytes_taken (asked.Quoted bs ∷ ls) = 1 + length bs + bytes_taken ls

-- a line can ask for the command with these arguments
abbrev pub IsMeant : Command → Type 0
IsMeant (asked.Construct key c) = IsLineContent key c
IsMeant (asked.ConstructIt key k n zs) = (1 ≤ n) × (n ≤ 1048576) × (length zs ≡ n) × IsTrue (agrees (Scalar k) key)
IsMeant (asked.FindOrConstruct key c) = IsLineContent key c
IsMeant (asked.Set key i l) = bytes_taken (l ∷ []) ≤ 4097
IsMeant (asked.Push key l) = bytes_taken (l ∷ []) ≤ 4097
IsMeant (asked.Insert key i l) = bytes_taken (l ∷ []) ≤ 4097
IsMeant (asked.Assign key ls) = bytes_taken ls ≤ 4097
IsMeant (asked.Append key bs) = length bs ≤ 4096
IsMeant c = ⊤

-- The call is one step of the directory machine, and the reply stands for its answer in the directory after it.
-- Nothing changes if the command only reads, finds that there is nothing to do or is refused before it asks for a
-- block, and gaps that were made zero are.
pub record Replies (old new : SegmentState) (c : Command) (reply : Reply) : Type 0 where
  pub stays : KeepsModeAndPlace old new
  pub answers : (d : Directory) → DenotesCurrent old.cut.bytes d
      → answer_seen (step old.mode d c).1 reply ≡ (step old.mode d c).0
  pub denotes : (d : Directory) → DenotesCurrent old.cut.bytes d → DenotesCurrent new.cut.bytes (step old.mode d c).1
  pub reads : is_changing c ≡ false → new ≡ old
  pub kept : (d : Directory) → DenotesCurrent old.cut.bytes d → changes_nothing old.mode d c ≡ true → new ≡ old
  pub zeros : (d : Directory) → DenotesCurrent old.cut.bytes d → c ≡ ZeroFree → (step old.mode d c).0 ≡ Done
      → HasZeroGaps new
