-- What a reader asks for in each state, and where each answer leads.
use Rattle.std.specs.Prelude.{ℕ, cond, ◌==◌}
use Rattle.file_protocol.specs.declared.reader.FileReader.{FileReader}
use Rattle.file_protocol.specs.declared.reader.FileReader.TheVariants.{Idle, Seeking, HasFile, HasBoth, HasNoLog}
use Rattle.file_protocol.specs.declared.reader.FileReader.TheVariants.{HasRead, Returned}
use Rattle.file_protocol.specs.declared.reader.ReadCall.{ReadCall}
use Rattle.file_protocol.specs.declared.reader.ReadCall.TheVariants.{OpenFile, OpenLog, ReadBoth, ReadFile, LookFile}
use Rattle.file_protocol.specs.declared.reader.ReadCall.TheVariants.{Nothing}
use Rattle.file_protocol.specs.declared.reader.ReadAnswer.{ReadAnswer}
use Rattle.file_protocol.specs.declared.reader.ReadAnswer.TheVariants.{Missing, Found, Failed}

-- the call of a reader
abbrev pub read_call_of : FileReader → ReadCall
read_call_of Idle = Nothing
read_call_of Seeking = OpenFile
read_call_of (HasFile f) = OpenLog
read_call_of (HasBoth f l) = ReadBoth f l
read_call_of (HasNoLog f) = ReadFile f
read_call_of (HasRead f v) = LookFile
read_call_of (Returned v) = Nothing

-- a state for each answer
abbrev pub by_answer : (ℕ → FileReader) → FileReader → ReadAnswer → FileReader
by_answer found missing (Found x) = found x
by_answer found missing Missing = missing
by_answer found missing Failed = Idle

-- it read an image, or begins again
abbrev pub read_or_again : ℕ → ReadAnswer → FileReader
read_or_again f a = by_answer (λ v. HasRead f v) Seeking a

-- the reader after an answer
abbrev pub read_after : FileReader → ReadAnswer → FileReader
read_after Idle a = Idle
read_after Seeking a = by_answer HasFile Idle a
read_after (HasFile f) a = by_answer (λ l. HasBoth f l) (HasNoLog f) a
read_after (HasBoth f l) a = read_or_again f a
read_after (HasNoLog f) a = read_or_again f a
read_after (HasRead f v) a = by_answer (λ now. cond (now == f) (Returned v) Seeking) Seeking a
read_after (Returned v) a = Returned v
