-- The objects of a segment in a dump: class, name, kind and value of each, without blocks, handles and capacities.
use Rattle.seg_types.specs.declared.kinds.Kind.TheVariants as kinds
use Rattle.std.specs.Prelude.{ℕ, List, map, filter}
use Rattle.seg_types.specs.{declared.kinds.Class.Class, declared.kinds.Kind.Kind}
use Rattle.seg_types.specs.declared.kinds.Class.TheVariants.{Anonymous}
use Rattle.segment_manager.specs.Directory.{Directory, Object, is_class, named_objects, unique_objects}
-- the value of an object
pub use Rattle.segment_values.specs.Contents.{ValueContent, Scalars, Vector, String, Map, Strings}
pub use Rattle.segment_values.specs.Contents.{bytes_in, content_of, count_of_content}

-- an object as a dump has it
pub record DumpItem : Type 0 where
  pub class : Class
  pub name : List ℕ
  pub content : ValueContent

-- all objects: those with names by their names, the unique ones by their kinds, and the others by their handles
pub record Items : Type 0 where
  pub named : List DumpItem
  pub unique : List DumpItem
  pub anonymous : List DumpItem

abbrev pub item_of_object : Object → DumpItem
item_of_object o = record { class = o.class; name = o.name; content = content_of o.value }

-- the anonymous objects of a directory, by handle
abbrev pub anonymous_objects : Directory → List Object
anonymous_objects d = filter (is_class Anonymous) d.objects

-- what of a directory is the same in every segment that is made of its dump
abbrev pub portable : Directory → Items
portable d = record {
  named = map item_of_object (named_objects d);
  unique = map item_of_object (unique_objects d);
  anonymous = map item_of_object (anonymous_objects d);
}

abbrev pub kind_of_content : ValueContent → Kind
kind_of_content (Scalars k zs) = kinds.Scalar k
kind_of_content (Vector k zs) = kinds.Vector k
kind_of_content (String bs) = kinds.String
kind_of_content (Map k v ps) = kinds.Map k v
kind_of_content (Strings ts) = kinds.Strings
