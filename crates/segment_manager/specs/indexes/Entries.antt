-- The change of the two indexes when an object is constructed or destroyed, or its value changes.
use Rattle.std.specs.Prelude.{◌≡◌, ℕ, true, false, Some, None}
use Rattle.best_fit.specs.Extents.{handle}
use Rattle.seg_types.specs.declared.kinds.Class.TheVariants.{Named, Unique}
use Rattle.seg_types.specs.Names.{ByName, ByKind, ByHandle}
use Rattle.segment_manager.specs.Directory.{Object, Directory, IsDirectory, by_kind, by_name, insert_by, is_class}
use Rattle.segment_manager.specs.Directory.{kind_of, named_objects, object_at, remove_object, unique_objects}
use Rattle.segment_manager.specs.Directory.{with_changed, with_object, without_object}
use Rattle.segment_manager.specs.Denotes.{handles}

-- A new object gets an entry in the index of its class, at its place by order, and in no other index.
pub record PutsOneEntry (d : Directory) (o : Object) : Type 0 where
  pub named : is_class Named o ≡ true → object_at d (ByName o.name) ≡ None
      → named_objects (with_object d o) ≡ insert_by by_name o (named_objects d)
  pub not_named : is_class Named o ≡ false → named_objects (with_object d o) ≡ named_objects d
  pub unique : is_class Unique o ≡ true → object_at d (ByKind (kind_of o.value)) ≡ None
      → unique_objects (with_object d o) ≡ insert_by by_kind o (unique_objects d)
  pub not_unique : is_class Unique o ≡ false → unique_objects (with_object d o) ≡ unique_objects d

-- A destroyed object leaves the index of its class, and nothing else does: constructed again, it has the old place.
pub record RemovesOneEntry (d : Directory) (o : Object) : Type 0 where
  pub named : is_class Named o ≡ true
      → named_objects (without_object d o) ≡ remove_object (handle o.extent) (named_objects d)
  pub named_again : is_class Named o ≡ true → insert_by by_name o (named_objects (without_object d o)) ≡ named_objects d
  pub not_named : is_class Named o ≡ false → named_objects (without_object d o) ≡ named_objects d
  pub unique : is_class Unique o ≡ true
      → unique_objects (without_object d o) ≡ remove_object (handle o.extent) (unique_objects d)
  pub unique_again : is_class Unique o ≡ true
      → insert_by by_kind o (unique_objects (without_object d o)) ≡ unique_objects d
  pub not_unique : is_class Unique o ≡ false → unique_objects (without_object d o) ≡ unique_objects d

-- the two objects differ only in their values, which have the same kind
pub record DiffersInValue (o p : Object) : Type 0 where
  pub class : p.class ≡ o.class
  pub name : p.name ≡ o.name
  pub kind : kind_of p.value ≡ kind_of o.value
  pub extent : p.extent ≡ o.extent

-- a change to another value of the same kind keeps the entries
pub record KeepsEntries (d : Directory) (o : Object) : Type 0 where
  pub named : handles (named_objects (with_changed d o)) ≡ handles (named_objects d)
  pub unique : handles (unique_objects (with_changed d o)) ≡ handles (unique_objects d)

-- the law: each index follows its objects
pub record IndexesFollowObjects : Type 0 where
  pub puts : (d : Directory) (o : Object) → PutsOneEntry d o
  pub removes : (format : ℕ) (d : Directory) (o : Object) → IsDirectory format d
      → object_at d (ByHandle (handle o.extent)) ≡ Some o → RemovesOneEntry d o
  pub changes : (d : Directory) (o p : Object) → object_at d (ByHandle (handle o.extent)) ≡ Some o → DiffersInValue o p
      → KeepsEntries d p
