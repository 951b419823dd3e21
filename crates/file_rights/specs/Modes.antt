-- The mode of a file: three bits for each of owner, group and others, and above them set-user-ID, set-group-ID, sticky.
use Rattle.std.specs.Prelude.{ℕ, ◌+◌, ◌*◌, ◌/◌}
use Rattle.file_rights.specs.declared.classes.Classes.{Classes}
use Rattle.file_rights.specs.Rights.{rights_of, bits_of}

-- what the three classes of a mode may do
abbrev pub classes_of : ℕ → Classes
classes_of mode = record { owner = rights_of (mode / 64); group = rights_of (mode / 8); other = rights_of mode }

-- the mode with these classes, without the bits above
abbrev pub mode_of : Classes → ℕ
mode_of classes = bits_of classes.owner * 64 + bits_of classes.group * 8 + bits_of classes.other
