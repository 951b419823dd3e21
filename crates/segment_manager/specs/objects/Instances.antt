-- The properties of objects.
use Rattle.std.specs.Prelude.{◌≡◌, ℕ, Option, Some, None, List, slice_get}
use Rattle.best_fit.specs.Extents.{handle}
use Rattle.seg_types.specs.{declared.kinds.Class.Class, declared.refusals.Refusal.Refusal, Names.Key}
use Rattle.seg_types.specs.declared.kinds.Class.TheVariants.{Anonymous, Named, Unique}
use Rattle.seg_types.specs.declared.refusals.Refusal.TheVariants.{NotFound}
use Rattle.segment_manager.specs.declared.objects.instance_info.Instance.{Instance}
use Rattle.segment_manager.specs.Directory.{Object, Directory, count_of, kind_of, object_at}
use Rattle.segment_manager.specs.State.{SegmentState, DenotesCurrent}

-- the name, if the class has names
abbrev pub name_in : Class → List ℕ → Option (List ℕ)
name_in Anonymous name = None
name_in Named name = Some name
name_in Unique name = None

-- the name of an object, if it has one
abbrev pub own_name : Object → Option (List ℕ)
own_name o = name_in o.class o.name

-- the instance has the properties of the object
pub record IsInstance (o : Object) (said : Instance) : Type 0 where
  pub class : said.class ≡ o.class
  pub name : said.name.now ≡ o.name
  pub kind : said.kind ≡ kind_of o.value
  pub count : said.count ≡ count_of o.value
  pub at : said.handle ≡ handle o.extent

-- the instance has the properties of the key's object
pub record SaysOf (s : SegmentState) (key : Key) (said : Instance) : Type 0 where
  pub says : (d : Directory) → DenotesCurrent s.cut.bytes d → (o : Object) × (object_at d key ≡ Some o)
      × IsInstance o said

-- the instance has the properties of the object at a place of a list
pub record SaysAt (s : SegmentState) (objects : Directory → List Object) (i : ℕ) (said : Instance) : Type 0 where
  pub says : (d : Directory) → DenotesCurrent s.cut.bytes d → (o : Object) × (slice_get (objects d) i ≡ Some o)
      × IsInstance o said

-- no object has the key
pub record IsMissing (s : SegmentState) (key : Key) (why : Refusal) : Type 0 where
  pub is : why ≡ NotFound
  pub missing : (d : Directory) → DenotesCurrent s.cut.bytes d → object_at d key ≡ None
