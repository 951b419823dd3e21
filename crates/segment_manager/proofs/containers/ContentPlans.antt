-- The plans of the commands on a vector of numbers or a text.
use Rattle.seg_types.specs.Commands as asked
use Rattle.segment_manager.specs.Step as step
use Rattle.segment_manager.proofs.Common.{BackingArray, Bool, Bytes, Directory, Done, Element, Elements, Err, Key, List}
use Rattle.segment_manager.proofs.Common.{Literal, None, Object, Ok, Option, OutOfRange, Plan, Refusal, Refuse, Reply}
use Rattle.segment_manager.proofs.Common.{Result, ScalarKind, Some, Texts, U8, Value, WrongKind, [], ap}
use Rattle.segment_manager.proofs.Common.{capacity_for_one, capacity_for_text, changed, effect, false, found_at}
use Rattle.segment_manager.proofs.Common.{if◌then◌else◌, insert, length, live, map, nat_abs, nat_lt, object_at, pos}
use Rattle.segment_manager.proofs.Common.{refl, remove, shrunk_backing, size_of, slice_get, slice_set, storage_of, take}
use Rattle.segment_manager.proofs.Common.{true, value_of_literal, values_of, with, with_capacity, with_items}
use Rattle.segment_manager.proofs.Common.{with_table, ℕ, ℤ, ◌++◌, ◌-◌, ◌∙◌, ◌∷◌, ◌≡◌}
use Rattle.segment_manager.proofs.directory.AnyDirectory.{with-found}
use step.{text_among, text_of}

-- an element that is read or removed, if the index is in range
abbrev pub of_slice : Option ℤ → Result ℤ Refusal
of_slice r = elim r as (λ _. Result ℤ Refusal) [ None ↦ Err OutOfRange | Some z ↦ Ok z ]

-- a plan by the object and its value
by-value : (d : Directory) (key : Key) (o : Object) (v : Value) (next : Object → Value → Plan)
    → object_at d key ≡ Some o → o.value ≡ v → with (found_at d key) (λ o. next o o.value) ≡ next o v
by-value d key o v next e f = with-found d key o (λ o. next o o.value) e ∙ ap (next o) f

-- ---- vectors of numbers

module _ (d : Directory) (key : Key) (o : Object) (k : ScalarKind) (zs : List ℤ) (t : BackingArray)
    (e : object_at d key ≡ Some o) (f : o.value ≡ Elements k zs t) where
  -- an element more, after the last
  abbrev pub push_with : ℤ → Plan
  push_with z = with_capacity (size_of k) (capacity_for_one (length zs) t.capacity) t
      (λ u. Reply Done (changed d o (Elements k (zs ++ z ∷ []) u)))

  -- the plan of `push`, by the value of its literal
  pub push-plan : (l : Literal) (r : Result ℤ Refusal) → value_of_literal k l ≡ r
      → effect d (asked.Push key l) ≡ with r push_with
  push-plan l r g = by-value d key o _ (λ o v. step.push d o v l) e f ∙ ap (λ r. with r push_with) g

  -- the last element is removed
  abbrev pub pop_with : ℤ → Plan
  pop_with z = Reply (Element k z) (changed d o (Elements k (take (length zs - 1) zs) t))

  -- the plan of `pop`, by the last element
  pub pop-plan : (r : Option ℤ) → slice_get zs (length zs - 1) ≡ r
      → effect d (asked.Pop key) ≡ with (of_slice r) pop_with
  pop-plan r g = by-value d key o _ (λ o v. step.pop d o v) e f ∙ ap (λ r. with (of_slice r) pop_with) g

  -- an element more, among the others
  abbrev pub insert_with : ℕ → Bool → ℤ → Plan
  insert_with i outside z = if outside then Refuse OutOfRange else with_capacity (size_of k)
      (capacity_for_one (length zs) t.capacity) t (λ u. Reply Done (changed d o (Elements k (insert zs i z) u)))

  -- the plan of `insert`, by the value and the place
  pub insert-plan : (i : ℕ) (l : Literal) (r : Result ℤ Refusal) (b : Bool) → value_of_literal k l ≡ r
      → nat_lt (length zs) i ≡ b → effect d (asked.Insert key i l) ≡ with r (insert_with i b)
  insert-plan i l r b g h =
      by-value d key o _ (λ o v. step.insert_at d o v i l) e f ∙ (λ j. with (g j) (insert_with i (h j)))

  -- one element less
  abbrev pub erase_with : ℕ → ℤ → Plan
  erase_with i z = Reply Done (changed d o (Elements k (remove zs i) t))

  -- the plan of `erase`, by the element at the index
  pub erase-plan : (i : ℕ) (r : Option ℤ) → slice_get zs i ≡ r
      → effect d (asked.Erase key i) ≡ with (of_slice r) (erase_with i)
  erase-plan i r g = by-value d key o _ (λ o v. step.erase d o v i) e f ∙ ap (λ r. with (of_slice r) (erase_with i)) g

  -- others in the place of all
  abbrev assign_with : List ℤ → Plan
  assign_with new = with_capacity (size_of k) (length new) t (λ u. Reply Done (changed d o (Elements k new u)))

  assign-literals : (ls : List Literal) → effect d (asked.Assign key ls) ≡ with (values_of k ls) assign_with
  assign-literals ls = by-value d key o _ (λ o v. step.assign d o v ls) e f

  -- the plan of `assign`, by its values
  pub assign-plan : (ls : List Literal) (new : List ℤ) → values_of k ls ≡ Ok new
      → effect d (asked.Assign key ls) ≡ assign_with new
  assign-plan ls new g = assign-literals ls ∙ ap (λ r. with r assign_with) g

  -- the plan of `assign` with a literal that is no value
  pub assign-refused : (ls : List Literal) (r : Refusal) → values_of k ls ≡ Err r
      → effect d (asked.Assign key ls) ≡ Refuse r
  assign-refused ls r g = assign-literals ls ∙ ap (λ r. with r assign_with) g

  -- one element is replaced
  abbrev pub set_with : ℕ → ℤ → ℤ → Plan
  set_with i z old = Reply Done (changed d o (Elements k (slice_set zs i z) t))

  -- the plan of `set`, by the value and the element at the index
  pub set-plan : (i : ℕ) (l : Literal) (z : ℤ) (r : Option ℤ) → value_of_literal k l ≡ Ok z → slice_get zs i ≡ r
      → effect d (asked.Set key i l) ≡ with (of_slice r) (set_with i z)
  set-plan i l z r g h =
      by-value d key o _ (λ o v. step.set d o v i l) e f ∙ (λ j. with (g j) (λ z. with (of_slice (h j)) (set_with i z)))

-- ---- texts

abbrev append_with : Directory → Object → List ℕ → List ℕ × BackingArray → Plan
append_with d o more (bs, t) = with_capacity 1 (capacity_for_text (length (bs ++ more)) t.capacity) t
    (λ u. Reply Done (changed d o (Bytes (bs ++ more) u)))

module _ (d : Directory) (key : Key) (o : Object) (bs : List ℕ) (t : BackingArray) (e : object_at d key ≡ Some o)
    (f : o.value ≡ Bytes bs t) where
  -- more bytes after the last
  pub append-plan : (more : List ℕ) → effect d (asked.Append key more) ≡ with_capacity 1
      (capacity_for_text (length (bs ++ more)) t.capacity) t (λ u. Reply Done (changed d o (Bytes (bs ++ more) u)))
  append-plan more = by-value d key o _ (λ o v. with (text_of v) (append_with d o more)) e f

  -- others in the place of all
  abbrev text_with : List ℕ → Plan
  text_with new = with_capacity 1 (length new) t (λ u. Reply Done (changed d o (Bytes new u)))

  text-literals : (ls : List Literal) → effect d (asked.Assign key ls) ≡ with (text_among ls) text_with
  text-literals ls = by-value d key o _ (λ o v. step.assign d o v ls) e f

  -- the plan of `assign` for a string
  pub text-plan : (ls : List Literal) (new : List ℕ) → text_among ls ≡ Ok new
      → effect d (asked.Assign key ls) ≡ text_with new
  text-plan ls new g = text-literals ls ∙ ap (λ r. with r text_with) g

  -- the plan of `assign` for a string with a literal that is no text
  pub text-refused : (ls : List Literal) (r : Refusal) → text_among ls ≡ Err r
      → effect d (asked.Assign key ls) ≡ Refuse r
  text-refused ls r g = text-literals ls ∙ ap (λ r. with r text_with) g

  -- one byte is replaced
  abbrev pub put_byte : ℕ → ℤ → ℤ → Plan
  put_byte i z old = Reply Done (changed d o (Bytes (map nat_abs (slice_set (map pos bs) i z)) t))

  -- the plan of `set` for a string
  pub set_byte-plan : (i : ℕ) (l : Literal) (z : ℤ) (r : Option ℤ) → value_of_literal U8 l ≡ Ok z
      → slice_get (map pos bs) i ≡ r → effect d (asked.Set key i l) ≡ with (of_slice r) (put_byte i z)
  set_byte-plan i l z r g h =
      by-value d key o _ (λ o v. step.set d o v i l) e f ∙ (λ j. with (g j) (λ z. with (of_slice (h j)) (put_byte i z)))

-- ---- any object with storage

-- the plan of a reservation, by the contents
abbrev pub reserve_with : Directory → Object → Value → ℕ → ℕ × ℕ × BackingArray → Plan
reserve_with d o v n (each, len, t) = with_capacity each n t (λ u. Reply Done (changed d o (with_table v u)))

-- the plan of shrinking the storage, by the contents
abbrev pub shrink_with : Directory → Object → Value → ℕ × ℕ × BackingArray → Plan
shrink_with d o v (each, len, t) = Reply Done (changed d o (with_table v (shrunk_backing (live d) each len t)))

module _ (d : Directory) (key : Key) (o : Object) (e : object_at d key
    ≡ Some o) (r : Result (ℕ × ℕ × BackingArray) Refusal) (f : storage_of o.value ≡ r) where
  by-storage : (next : Object → ℕ × ℕ × BackingArray → Plan)
      → with (found_at d key) (λ o. with (storage_of o.value) (next o)) ≡ with r (next o)
  by-storage next = with-found d key o (λ o. with (storage_of o.value) (next o)) e ∙ ap (λ r. with r (next o)) f

  -- the plan of `reserve`, by the contents
  pub reserve-plan : (n : ℕ) → effect d (asked.Reserve key n) ≡ with r (reserve_with d o o.value n)
  reserve-plan n = by-storage (λ o. reserve_with d o o.value n)

  -- the plan of `shrink`, by the contents
  pub shrink-plan : effect d (asked.Shrink key) ≡ with r (shrink_with d o o.value)
  shrink-plan = by-storage (λ o. shrink_with d o o.value)

  -- the plan of `clear`, by the contents
  pub clear-plan : effect d (asked.Clear key) ≡ with r (λ s. Reply Done (changed d o (with_items o.value [])))
  clear-plan = by-storage (λ o s. Reply Done (changed d o (with_items o.value [])))

-- ---- an object of another kind

-- the value is no vector
abbrev pub is_no_vector : Value → Bool
is_no_vector (Elements k zs t) = false
is_no_vector (Texts ps t) = false
is_no_vector v = true

-- no call on vectors changes it
record HasNoPlan (d : Directory) (o : Object) (v : Value) : Type 0 where
  pub push : (l : Literal) → step.push d o v l ≡ Refuse WrongKind
  pub pop : step.pop d o v ≡ Refuse WrongKind
  pub insert_at : (i : ℕ) (l : Literal) → step.insert_at d o v i l ≡ Refuse WrongKind
  pub erase : (i : ℕ) → step.erase d o v i ≡ Refuse WrongKind

no-plan : (d : Directory) (o : Object) (v : Value) → is_no_vector v ≡ true → HasNoPlan d o v
no-plan d o (Elements k zs t) h = absurd (cc)
no-plan d o (Texts ps t) h = absurd (cc)
no-plan d o v h = record { push = λ l. refl; pop = refl; insert_at = λ i l. refl; erase = λ i. refl }

module _ (d : Directory) (key : Key) (o : Object) (e : object_at d key ≡ Some o) (h : is_no_vector o.value ≡ true) where
  -- `push` to an object of another kind is refused
  pub push-other : (l : Literal) → effect d (asked.Push key l) ≡ Refuse WrongKind
  push-other l = with-found d key o (λ o. step.push d o o.value l) e ∙ (no-plan d o o.value h).push l

  -- `pop` from an object of another kind is refused
  pub pop-other : effect d (asked.Pop key) ≡ Refuse WrongKind
  pop-other = with-found d key o (λ o. step.pop d o o.value) e ∙ (no-plan d o o.value h).pop

  -- `insert` into an object of another kind is refused
  pub insert-other : (i : ℕ) (l : Literal) → effect d (asked.Insert key i l) ≡ Refuse WrongKind
  insert-other i l = with-found d key o (λ o. step.insert_at d o o.value i l) e ∙ (no-plan d o o.value h).insert_at i l

  -- `erase` from an object of another kind is refused
  pub erase-other : (i : ℕ) → effect d (asked.Erase key i) ≡ Refuse WrongKind
  erase-other i = with-found d key o (λ o. step.erase d o o.value i) e ∙ (no-plan d o o.value h).erase i

-- the object is no text
pub append-other : (d : Directory) (key : Key) (o : Object) (more : List ℕ) (r : Refusal) → object_at d key ≡ Some o
    → text_of o.value ≡ Err r → effect d (asked.Append key more) ≡ Refuse r
append-other d key o more r e f = with-found d key o (λ o. with (text_of o.value) (append_with d o more)) e
    ∙ ap (λ q. with q (append_with d o more)) f
