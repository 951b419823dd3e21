-- Objects destroyed.
use Rattle.seg_types.specs.Commands.{Command, Destroy, DestroyPtr}
use Rattle.seg_types.specs.Names.{Key, ByName, ByKind, ByHandle, NoKey}

-- how the object of a key is destroyed: by its entry, or by its handle
abbrev pub destroy_command : Key → Command
destroy_command (ByName name) = Destroy (ByName name)
destroy_command (ByKind kind) = Destroy (ByKind kind)
destroy_command (ByHandle handle) = DestroyPtr handle
destroy_command NoKey = Destroy NoKey
