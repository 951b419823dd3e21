-- An object and one in its place among the others of a directory.
use Rattle.segment_manager.proofs.Common.{AllByRecursion, Directory, Extent, IsTrue, List, LiveSet, Object, [], handle}
use Rattle.segment_manager.proofs.Common.{is_proper, live, sym, without_object, ◌∷◌, ◌≡◌}
use Rattle.segment_manager.proofs.directory.LiveSet.{Differs, IsFound, adding}

-- ---- one extent among others

-- if a block differs from each of a list, each of the list differs from it
pub differs-flip : (x : Extent) (ys : List Extent) → AllByRecursion (λ y. Differs y (x ∷ [])) ys → Differs x ys
differs-flip x [] h = tt
differs-flip x (y ∷ ys) h = ((λ e. h.0.0 (sym e)), differs-flip x ys h.1)

-- ---- the extents of an object and of one in its place

-- the two objects have the same own block, and so the same others
pub record InPlace (d : Directory) (o o' : Object) : Type 0 where
  pub found : IsFound (handle o'.extent) d.objects o
  pub extent : o'.extent ≡ o.extent
  pub proper : IsTrue (is_proper (live d))

-- all extents except the object's
abbrev pub rest : Directory → Object → List Extent
rest d o = (live (without_object d o)).extents

-- the live set of these extents
abbrev pub with_extents : Directory → Object → List Extent → LiveSet
with_extents d o xs = adding (live (without_object d o)) xs
