-- The version, and the words for the codes.
use Rattle.std.specs.Prelude.{ℕ, List, [], codes, ◌==◌, if◌then◌else◌}
use Rattle.image_check.specs.Classes.{message_of}
use Rattle.image_check.specs.declared.classes.ImageClass.TheVariants as class
use Rattle.seg_types.specs.{Refusals.refusal_message, declared.refusals.Refusal.TheVariants.NoSpace}
use Rattle.seg_types.specs.declared.refusals.Refusal.TheVariants.{ReadOnly, Exists, NotFound, WrongKind, OutOfRange}

-- 10000 for each major version, 100 for each minor one, and 1 for each patch: 0.9.0
abbrev pub version : ℕ
version = 900

-- the words of the codes of a segment, of what is passed, and of images that are none
abbrev pub code_message : ℕ → List ℕ
code_message code =
    if code == 0 then codes "done"
    else if code == 4 then refusal_message ReadOnly
    else if code == 5 then refusal_message Exists
    else if code == 6 then refusal_message NotFound
    else if code == 7 then refusal_message WrongKind
    else if code == 8 then refusal_message OutOfRange
    else if code == 9 then refusal_message NoSpace
    else if code == 10 then codes "nothing is there"
    else if code == 16 then codes "the handle is closed"
    else if code == 17 then codes "no such key"
    else if code == 18 then codes "no name"
    else if code == 19 then codes "no such kind"
    else if code == 20 then codes "no such value"
    else if code == 21 then codes "no such count"
    else if code == 22 then codes "no such size"
    else if code == 23 then codes "no such mode"
    else if code == 24 then codes "the buffer is too short"
    else if code == 25 then codes "a slice is null"
    else if code == 26 then codes "out of memory"
    else if code == 27 then codes "region too small"
    else if code == 28 then codes "growth is no multiple of 16 from 32 on"
    else if code == 29 then codes "too large"
    else if code == 101 then message_of class.Truncated
    else if code == 102 then message_of class.BadMagic
    else if code == 103 then message_of class.UnsupportedVersion
    else if code == 104 then message_of class.BadSize
    else if code == 105 then message_of class.BadReserved
    else if code == 106 then message_of class.BadTag
    else if code == 107 then message_of class.BadFreeTree
    else if code == 108 then message_of class.BadIndex
    else if code == 109 then message_of class.BadObject
    else if code == 110 then message_of class.SharedBlock
    else if code == 111 then message_of class.BadContainer
    else if code == 112 then message_of class.OrphanBlock
    else []
