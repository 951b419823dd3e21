-- The laws of commands by literals, for the crates that learn the kind of an object at run time: which call is the step
-- of a command, by the kind of the object and by its literals.

-- the facts about the object to change, and about the literals
pub use Rattle.segment_manager.specs.containers.Changeable.{IsChangeable, IsChangeableObject}
pub use Rattle.segment_manager.proofs.containers.Changeable.{changeable, reading-unchangeable, says-kind, to-change}
-- a command by its plan: one that fails, and one that changes nothing
pub use Rattle.segment_manager.proofs.containers.Changeable.{answered-reads, refuses}
pub use Rattle.segment_manager.proofs.directory.AnyDirectory.{open-writing, step-effect}
-- a value by the kind of its object
pub use Rattle.segment_manager.proofs.objects.AnyKind.{IsElements, IsTexts, texts-if, told, vector-if}
-- elements inserted, removed and set
pub use Rattle.segment_manager.proofs.objects.AnyKind.{element-read, insert-element, no_value-element}
pub use Rattle.segment_manager.proofs.objects.AnyKind.{no_vector-element, push-element, unchangeable-element}
pub use Rattle.segment_manager.proofs.objects.AnyKind.{assign-unchangeable, erase-no_vector, erase-unchangeable}
pub use Rattle.segment_manager.proofs.objects.AnyKind.{pop-no_vector, pop-unchangeable}
pub use Rattle.segment_manager.proofs.objects.AnyKind.{elements-told, no_text-element, set-map, set-no_text}
pub use Rattle.segment_manager.proofs.objects.AnyKind.{set-step, set-unchangeable}
-- pairs put, looked up and erased
pub use Rattle.segment_manager.proofs.containers.Changeable.{put-no_map, put-no_pair, put-unchangeable, puts-pair}
pub use Rattle.segment_manager.proofs.containers.Changeable.{lookup-no_map, lookup-no_value, lookup-nowhere}
pub use Rattle.segment_manager.proofs.containers.Changeable.{looks-up-key, remove-no_map, remove-no_value}
pub use Rattle.segment_manager.proofs.containers.Changeable.{remove-unchangeable, removes-key}
-- arrays made of items
pub use Rattle.segment_manager.proofs.objects.ArrayItems.{array-refused, array-step, taken-front}
