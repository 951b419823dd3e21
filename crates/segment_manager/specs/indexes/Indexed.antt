-- The two indexes of a directory, by `Index`.
use Rattle.seg_index.specs.declared.index.Index.TheVariants as index
use Rattle.std.specs.Prelude.{◌≡◌, ℕ, Bool, List, [], filter, fold}
use Rattle.best_fit.specs.Table.{BackingArray}
use Rattle.seg_types.specs.{declared.kinds.Class.Class, Kinds.code_of, Names.Key, Names.ByName, Names.ByKind}
use Rattle.seg_types.specs.declared.kinds.Class.TheVariants.{Named, Unique}
use Rattle.seg_index.specs.{declared.index.Index.Index, declared.keys.Entry.Entry}
use Rattle.seg_index.specs.declared.keys.Entry.TheVariants.{Name, Code}
use Rattle.seg_types.specs.Commands.{Command, ReserveNamed, ReserveUnique}
use Rattle.segment_manager.specs.Directory.{Object, Directory, by_kind, by_name, insert_by, is_class}
use Rattle.segment_manager.specs.Denotes.{handles}

-- the class of the objects in an index
abbrev pub class_of_index : Index → Class
class_of_index index.Named = Named
class_of_index index.Unique = Unique

-- the capacity and the block of an index
abbrev pub table_of : Index → Directory → BackingArray
table_of index.Named d = d.named
table_of index.Unique d = d.unique

-- the directory with the capacity and the block of an index replaced
abbrev pub with_table_of : Index → Directory → BackingArray → Directory
with_table_of index.Named d t = record d { named = t }
with_table_of index.Unique d t = record d { unique = t }

-- the order of an index's objects
abbrev pub order_of : Index → Object → Object → Bool
order_of index.Named = by_name
order_of index.Unique = by_kind

-- the objects of an index in its order: `named_objects` or `unique_objects`
abbrev pub objects_of : Index → Directory → List Object
objects_of i d = fold (λ os o. insert_by (order_of i) o os) [] (filter (is_class (class_of_index i)) d.objects)

-- the handles of an index's objects, in its order
abbrev pub entries_of : Index → Directory → List ℕ
entries_of i d = handles (objects_of i d)

-- what an index is searched for if the key is this one: a name, or the code of a kind
abbrev pub Seeks : Index → Entry → Key → Type 0
Seeks index.Named (Name s) (ByName name) = s.now ≡ name
Seeks index.Unique (Code n) (ByKind k) = n ≡ code_of k
Seeks i entry key = ⊥

-- the command that reserves capacity in an index
abbrev pub reserve_of : Index → ℕ → Command
reserve_of index.Named n = ReserveNamed n
reserve_of index.Unique n = ReserveUnique n
