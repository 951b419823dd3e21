-- What one class of users may do with a file: read, write and execute.
use Rattle.std.specs.Prelude.{ℕ, ◌+◌, ◌*◌, ◌/◌, ◌%◌, Bool, true, false, ◌&&◌, ◌||◌, not, ◌==◌, if◌then◌else◌}
use Rattle.file_rights.specs.declared.rights.Rights.{Rights}

-- nothing
abbrev pub no_rights : Rights
no_rights = record { read = false; write = false; execute = false }

-- all three
abbrev pub all_rights : Rights
all_rights = record { read = true; write = true; execute = true }

-- to read
abbrev pub to_read : Rights
to_read = record { read = true; write = false; execute = false }

-- to write
abbrev pub to_write : Rights
to_write = record { read = false; write = true; execute = false }

-- to execute
abbrev pub to_execute : Rights
to_execute = record { read = false; write = false; execute = true }

-- the lowest three bits: 4 is to read, 2 to write, 1 to execute
abbrev pub rights_of : ℕ → Rights
rights_of bits = record { read = bits / 4 % 2 == 1; write = bits / 2 % 2 == 1; execute = bits % 2 == 1 }

-- a bit as a number
abbrev pub bit : Bool → ℕ
bit set = if set then 1 else 0

-- rights as three bits
abbrev pub bits_of : Rights → ℕ
bits_of rights = bit rights.read * 4 + bit rights.write * 2 + bit rights.execute

-- what both grant
abbrev pub common : Rights → Rights → Rights
common a b = record { read = a.read && b.read; write = a.write && b.write; execute = a.execute && b.execute }

-- rights grant all that is wanted
abbrev pub covers : Rights → Rights → Bool
covers rights want =
    (not want.read || rights.read) && ((not want.write || rights.write) && (not want.execute || rights.execute))
