-- What the program says of a fault, and the status that it ends with.
use Rattle.std.specs.Prelude.{◌≡◌, ◌⊎◌, ◌∷◌, ◌+◌, ◌++◌, ℕ, List, [], codes, decimal}
use Rattle.raw_region.specs.Answers.{AppendsProperPrefix}
use Rattle.raw_region.specs.Device.{WriterHistory}
use Rattle.image_check.specs.declared.classes.ImageClass.{ImageClass}
use Rattle.image_check.specs.Classes.{name_of, number_of}
use Rattle.grow_shrink.specs.declared.refusals.GrowError.{GrowError}
use Rattle.grow_shrink.specs.declared.refusals.GrowError.TheVariants as growth
use Rattle.segment_cli.specs.declared.faults.SessionFault.{SessionFault}
use Rattle.segment_cli.specs.declared.faults.SessionFault.TheVariants as session
use Rattle.segment_cli.specs.declared.faults.ProgramFault.{ProgramFault}
use Rattle.segment_cli.specs.declared.faults.ProgramFault.TheVariants.{Usage, Exists, Growth, Session}

-- ---- the line of a fault

-- a class by its number and its name
abbrev pub class_message : ImageClass → List ℕ
class_message class = decimal (number_of class) ++ codes " " ++ name_of class

-- the name of a growth error
abbrev pub growth_name : GrowError → List ℕ
growth_name growth.ReadOnly = codes "ReadOnly"
growth_name growth.BadGrow = codes "BadGrow"
growth_name growth.TooLarge = codes "TooLarge"
growth_name growth.RegionTooSmall = codes "RegionTooSmall"

-- what stands after `segment: `
abbrev pub session_message : SessionFault → List ℕ
session_message (session.Image c) = codes "image refused: " ++ class_message c
session_message session.BadSize = codes "size refused"
session_message session.RegionTooSmall = codes "size refused"
session_message (session.OutOfMemory refusal) = codes "out of memory"
session_message session.ReadFault = codes "read fault"
session_message session.WriteFault = codes "write fault"
session_message session.ScriptTooLong = codes "script too long"

-- a line of the program, which ends with a line end
abbrev pub line : List ℕ → List ℕ
line message = codes "segment: " ++ message ++ 0x0A ∷ []

-- a wrong command line has been told of by whoever read it
abbrev pub fault_text : ProgramFault → List ℕ
fault_text Usage = []
fault_text Exists = line (codes "file exists")
fault_text (Growth e) = line (codes "growth refused: " ++ growth_name e)
fault_text (Session f) = line (session_message f)

-- ---- its status

-- the status of a session's fault
abbrev pub session_status : SessionFault → ℕ
session_status (session.Image c) = 1
session_status session.BadSize = 1
session_status session.RegionTooSmall = 1
session_status (session.OutOfMemory refusal) = 4
session_status session.ReadFault = 3
session_status session.WriteFault = 3
session_status session.ScriptTooLong = 3

-- the status of a fault
abbrev pub status_of : ProgramFault → ℕ
status_of Usage = 2
status_of Exists = 3
status_of (Growth e) = 1
status_of (Session f) = session_status f

-- ---- what goes out

-- all of the text went out and no write failed, or one failed and some of the text went out, from the first byte on,
-- but not all
abbrev pub WritesText : WriterHistory → WriterHistory → List ℕ → Type 0
WritesText old new text = ((new.failures ≡ old.failures) × (new.bytes ≡ old.bytes ++ text))
    ⊎ ((new.failures ≡ old.failures + 1) × AppendsProperPrefix old.bytes new.bytes text)
