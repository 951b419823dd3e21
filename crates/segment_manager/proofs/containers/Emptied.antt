-- The directory with an object's value emptied: the same but for that object, which has one block then.
use Rattle.segment_manager.proofs.Common.{◌≡◌, ByHandle, emptied, Numbers, count_of, has_key, kind_of, changed, by_name}
use Rattle.segment_manager.proofs.Common.{◌≢◌, refl, sym, ap, ◌∙◌, Some, List, [], ◌∷◌, cond, find, Value, subst}
use Rattle.segment_manager.proofs.Common.{eq-eqb, ne_eqb, handle, Scalar, Index, Named, Unique, Object, by_kind, IsTrue}
use Rattle.segment_manager.proofs.Common.{ScalarKind, Directory, value_len, entries_of, NamedClass, UniqueClass}
use Rattle.segment_manager.proofs.Common.{is_good_value, remove_object, replace_object, value_extents, without_object}
use Rattle.segment_manager.proofs.directory.LiveSet.{IsFound, IsIn, Place, behind, found-nothing, found-place, here}
use Rattle.segment_manager.proofs.directory.LiveSet.{remove-behind, remove-here, replace-here, replace-behind}
use Rattle.segment_manager.proofs.directory.IndexedParts.{by_name-face, by_kind-face, ordered-changed}
use Rattle.segment_manager.proofs.objects.Rewritten.{with_value}

-- ---- the value

-- the emptied value has the kind, the count and the length in its own block, and no block
pub record IsEmptied (v : Value) : Type 0 where
  pub kind : kind_of (emptied v) ≡ kind_of v
  pub count : count_of (emptied v) ≡ count_of v
  pub len : value_len (emptied v) ≡ value_len v
  pub good : IsTrue (is_good_value v) → IsTrue (is_good_value (emptied v))
  pub alone : value_extents (emptied v) ≡ []

-- the value without its elements is an emptied one
pub emptied-is : (v : Value) → IsEmptied v
emptied-is (Numbers k zs) = record { kind = refl; count = refl; len = refl; good = λ h. h; alone = refl }
emptied-is v = record { kind = refl; count = refl; len = refl; good = λ h. refl; alone = refl }

-- a value of numbers has no blocks
pub emptied-numbers : (k : ScalarKind) (v : Value) → kind_of v ≡ Scalar k → emptied v ≡ v
emptied-numbers k (Numbers l zs) e = refl
emptied-numbers k v e = absurd (cc)

-- ---- the objects, one of which has another value

-- a property that holds for the first object, and stays with one more object in front, holds for each object
by-place : (o : Object) (P : List Object → Type 0) → ((p : Object) (ps : List Object) → handle o.extent ≡ handle
    p.extent → p ≡ o → P (p ∷ ps)) → ((p : Object) (ps : List Object) → handle o.extent ≢ handle p.extent → P ps
    → P (p ∷ ps)) → (os : List Object) → IsFound (handle o.extent) os o → P os
by-place o P first more [] f = absurd (found-nothing (handle o.extent) o f)
by-place o P first more (p ∷ ps) f = placed (found-place (handle o.extent) p ps o f) (by-place o P first more ps)
  where
    placed : Place (handle o.extent) p ps o → (IsFound (handle o.extent) ps o → P ps) → P (p ∷ ps)
    placed (here e same) k = first p ps e same
    placed (behind n found) k = more p ps n (k found)

module _ (o : Object) (v : Value) where
  -- the object is in the list
  found-replaced : (os : List Object) → IsFound (handle o.extent) os o
      → IsFound (handle o.extent) (replace_object (with_value o v) os) (with_value o v)
  found-replaced = by-place o (λ os. IsFound (handle o.extent) (replace_object (with_value o v) os) (with_value o v))
      (λ p ps e same.
      subst (λ os. IsFound (handle o.extent) os (with_value o v)) (sym (replace-here (with_value o v) p ps e)) (record {
        is = ap (λ b. cond b (Some (with_value o v)) (find (has_key (ByHandle (handle o.extent))) ps))
            (eq-eqb (handle o.extent) (handle o.extent) refl);
      })) (λ p ps n k. subst (λ os. IsFound (handle o.extent) os (with_value o v))
      (sym (replace-behind (with_value o v) p ps n)) (record {
        is = ap (λ b. cond b (Some p) (find (has_key (ByHandle (handle o.extent))) (replace_object (with_value o v)
            ps))) (ne_eqb (handle o.extent) (handle p.extent) n) ∙ k.is;
      }))

  -- the others are the same
  others-replaced : (os : List Object) → IsFound (handle o.extent) os o
      → remove_object (handle o.extent) (replace_object (with_value o v) os) ≡ remove_object (handle o.extent) os
  others-replaced = by-place o (λ os. remove_object (handle o.extent) (replace_object (with_value o v) os)
      ≡ remove_object (handle o.extent) os) (λ p ps e same. ap (remove_object (handle o.extent)) (replace-here
      (with_value o v) p ps e) ∙ remove-here (handle o.extent) (with_value o v) ps refl
      ∙ sym (remove-here (handle o.extent) p ps e)) (λ p ps n k. ap (remove_object (handle o.extent)) (replace-behind
      (with_value o v) p ps n) ∙ remove-behind (handle o.extent) p (replace_object (with_value o v) ps) n
      ∙ ap (λ os. p ∷ os) k ∙ sym (remove-behind (handle o.extent) p ps n))

-- ---- the directory

module _ (d : Directory) (o : Object) (f : IsIn d o) where
  -- a changed object is in the changed directory
  pub changed-in : (v : Value) → IsIn (changed d o v) (with_value o v)
  changed-in v = found-replaced o v d.objects f

  -- the other objects stay
  pub changed-others : (v : Value) → without_object (changed d o v) (with_value o v) ≡ without_object d o
  changed-others v = ap (λ os. record d { objects = os }) (others-replaced o v d.objects f)

  -- an object that is changed to itself leaves the directory
  pub changed-itself : (v : Value) → v ≡ o.value → changed d o v ≡ d
  changed-itself v e = ap (changed d o) e ∙ ap (λ os. record d { objects = os }) ((by-place o (λ os. replace_object o
      os ≡ os) (λ p ps e same. replace-here o p ps e ∙ ap (λ q. q ∷ ps) (sym same)) (λ p ps n k. replace-behind o p ps
      n ∙ ap (λ os. p ∷ os) k)) d.objects f)

  -- the indexes are the same
  pub changed-entries : (i : Index) (v : Value) → kind_of v ≡ kind_of o.value
      → entries_of i (changed d o v) ≡ entries_of i d
  changed-entries Named v e = (ordered-changed NamedClass by_name by_name-face d o (with_value o v) f
      (record { extent = refl; name = refl; class = refl; kind = e })).entries
  changed-entries Unique v e = (ordered-changed UniqueClass by_kind by_kind-face d o (with_value o v) f
      (record { extent = refl; name = refl; class = refl; kind = e })).entries
