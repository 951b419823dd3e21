-- One value of a segment, as it is printed for other programs: without quotes.
use Rattle.std.specs.Prelude.{◌≡◌, ◌⊎◌, ℕ, Bool, List, [], ◌∷◌, ◌++◌, Option, Some, None, Result, Ok, Err}
use Rattle.std.specs.Prelude.{option_and_then, option_map}
use Rattle.raw_region.specs.Device.{WriterHistory}
use Rattle.raw_region.specs.Format.{current}
use Rattle.seg_types.specs.Commands.{Get, Literal, Lookup}
use Rattle.seg_types.specs.Names.{Key}
use Rattle.seg_types.specs.declared.kinds.Kind.TheVariants.{Strings}
use Rattle.seg_types.specs.declared.refusals.Refusal.{Refusal}
use Rattle.segment_lang.specs.Language.{whole_language}
use Rattle.segment_lang.specs.Reading.{key_of}
use Rattle.segment_lang.specs.Texts.{value_text}
use Rattle.segment_lang.specs.Tokens.{only_token}
use Rattle.segment_lang.specs.Lexing.{literal_of_token, number_of}
use Rattle.segment_manager.specs.Answers.{Answer, Element, TextElement}
use Rattle.segment_manager.specs.Calls.{scalar_reply}
use Rattle.segment_manager.specs.containers.Contents.{bytes_at}
use Rattle.segment_manager.specs.declared.modes.Mode.{Mode}
use Rattle.segment_manager.specs.declared.modes.Mode.TheVariants.{ReadOnly}
use Rattle.segment_manager.specs.Directory.{Directory}
use Rattle.segment_manager.specs.State.{SegmentState, DenotesCurrent}
use Rattle.segment_manager.specs.Step.{step, step_of_kind}
use Rattle.segment_cli.specs.declared.faults.SessionFault.TheVariants.{WriteFault}
use Rattle.segment_commands.specs.declared.command_faults.CommandFault.{CommandFault}
use Rattle.segment_commands.specs.declared.command_faults.CommandFault.TheVariants.{NoValue, Session}
use Rattle.segment_commands.specs.Commands.{RefusesUnopened}
use Rattle.segment_commands.specs.Opening.{OpensFile}
use Rattle.segment_commands.specs.Telling.{WritesAndFlushes}
use Rattle.segment_disk.specs.Events.{Event}

-- the first of two options if it has a value, or else the second
abbrev pub or_else : {A : Type 0} → Option A → Option A → Option A
or_else (Some a) other = Some a
or_else None other = other

-- the value that an answer has: a scalar as a script spells it, or the bytes of a text
abbrev pub raw_of : Answer → Option (List ℕ)
raw_of (Element k z) = Some (value_text k z)
raw_of (TextElement bytes) = Some bytes
raw_of _ = None

-- what `get` answers for an object that has scalars, or else for a vector of strings
abbrev pub element_of : Mode → Directory → Key → ℕ → Option (List ℕ)
element_of mode d key index = or_else (raw_of (scalar_reply mode d key (Get key index)))
    (raw_of (step_of_kind mode d key Strings (Get key index)).0)

-- the same, if the index is a number
abbrev pub got : Mode → Directory → Key → Option ℕ → Option (List ℕ)
got mode d key None = None
got mode d key (Some index) = element_of mode d key index

-- what `lookup` answers for the map with this key, if there is a literal to look up
abbrev pub looked_up : Mode → Directory → Key → Option Literal → Option (List ℕ)
looked_up mode d key None = None
looked_up mode d key (Some at) = raw_of (step mode d (Lookup key at)).0

-- the value that bytes spell
abbrev pub literal_in : List ℕ → Option Literal
literal_in bytes = option_and_then literal_of_token (only_token bytes)

-- the key that bytes spell
abbrev pub key_in : List ℕ → Option Key
key_in bytes = option_and_then (key_of (whole_language current)) (only_token bytes)

-- the value at an index, or at a key of a map
abbrev pub value_at : Mode → Directory → Key → List ℕ → Option (List ℕ)
value_at mode d key index = or_else (got mode d key (number_of index)) (looked_up mode d key (literal_in index))

-- the bytes of a string
abbrev pub text_in : Result (List ℕ) Refusal → Option (List ℕ)
text_in (Ok bytes) = Some bytes
text_in (Err why) = None

-- the first value of an object, or the whole string
abbrev pub first_value : Mode → Directory → Key → Option (List ℕ)
first_value mode d key = or_else (text_in (bytes_at d key)) (element_of mode d key 0)

abbrev pub value_of_key : Mode → Directory → Option (List ℕ) → Key → Option (List ℕ)
value_of_key mode d None key = first_value mode d key
value_of_key mode d (Some index) key = value_at mode d key index

-- the value of the object that the word `key` names: at `index` if there is one, or else the first
abbrev pub value_for : Mode → Directory → List ℕ → Option (List ℕ) → Option (List ℕ)
value_for mode d key index = option_and_then (value_of_key mode d index) (key_in key)

-- a value, and the end of its line
abbrev pub value_line : List ℕ → List ℕ
value_line value = value ++ 0x0A ∷ []

-- if there is a value, the command writes it, and can fail only at this; if there is none, it writes nothing and fails
abbrev pub TellsValue : {O : Type 0} → (O → WriterHistory) → (O → Bool → O → Type 0) → O → O → Option (List ℕ)
    → Result (Unit {0}) CommandFault → Type 0
TellsValue history flushes out out' (Some value) result =
    WritesAndFlushes history flushes out out' (value_line value) result
    × ((fault : CommandFault) → result ≡ Err fault → fault ≡ Session WriteFault)
TellsValue history flushes out out' None result = (out' ≡ out) × (result ≡ Err NoValue)

module _ {D O : Type 0} (step : D → Event → D → Type 0) (old new : D) (path : List ℕ) (history : O
    → WriterHistory) (flushes : O → Bool → O → Type 0) (out out' : O)
    (key : List ℕ) (index : Option (List ℕ)) (result : Result (Unit {0}) CommandFault) where
  -- the file has a segment, and the command writes the value that its directory has, if there is one
  pub record GetsOk : Type 0 where
    pub segment : SegmentState
    pub opens : OpensFile step old new path ReadOnly (Ok segment)
    pub tells : (d : Directory) → DenotesCurrent segment.cut.bytes d
        → TellsValue history flushes out out' (value_for segment.mode d key index) result

  -- `get`: nothing is opened for writing
  abbrev pub RunsGet : Type 0
  RunsGet = RefusesUnopened step old new path out out' result ⊎ GetsOk
