-- A refusal leaves the directory as it was.
use Rattle.segment_manager.proofs.Common as common
use Rattle.seg_types.specs.Commands as asked
use Rattle.std.proofs.lemmas.List.{length-set}
use Rattle.best_fit.specs.{Extents.Gap, Extents.free_bytes, FreeTree.span, Heap.ZeroesFree}
use Rattle.seg_types.specs.declared.kinds.Class.TheVariants.{Named, Unique}
use Rattle.seg_vector.specs.Vector.{capacity_for_more}
use Rattle.segment_manager.proofs.directory.Frame.{any_objects-same, denotes-without, frame-stays}
use Rattle.segment_manager.proofs.directory.LiveSet.{IsFound, IsIn, inserted, live-split, of_each, removing}
use Rattle.segment_manager.proofs.objects.RankedPairs.{all-found}
use Rattle.segment_manager.specs.{Answers.Absent, Answers.Found, Calls.HasZeroGaps, Layout.size_at}
use Rattle.segment_manager.specs.{State.KeepsModeAndPlace, containers.Ranges.extend, objects.Located.located}
use Rattle.segment_manager.specs.Step.{assign, erase, insert_at, pop, push, put, text_of}
use common.{AllByRecursion, Anonymous, Answer, AnswersWith, AreZero, BackingArray, Bool, Boolean, ByHandle, Bytes}
use common.{Class, Command, Content, Deallocates, Denotes, DenotesCurrent, Directory, Done, Element, Elements}
use common.{EncodesLiveSet, Err, Exists, Extent, IsObjectAt, IsSegment, IsTileOfIndex, IsTrue, KeepsBlocks, Key, Kind}
use common.{List, Literal, LiveSet, Made, Mode, Need, New, NoSpace, None, NotFound, Number, Numbers, Object, Ok, Option}
use common.{OutOfRange, OwnedText, Pairs, Plan, ReadOnly, Refusal, Refuse, Refused, Reply, Request, Result, Role}
use common.{SameBlock, ScalarKind, SegmentState, Some, TakesStep, TakesStepOfKind, Texts, Tile, Transitions, U8, Value}
use common.{Vector, WindowState, WrongKind, [], and_from, and_right, ap, bare, bytes_of, capacity_for_one}
use common.{capacity_for_text, changed, class_of, cons_values, count_of, current, effect, element_at, eq-eqb}
use common.{extents_of, false, found, found_at, gap_head, gaps, get, handle, has_key, has_room, holds, if◌then◌else◌}
use common.{insert, int_lt, is_changing, is_elementwise, is_live_in, is_proper, is_read_only, kind_of, lay_out_one}
use common.{length, list_any, list_any-insert, live, live_of, map, map_of, met, nat_abs, nat_le, nat_lt, not, object_at}
use common.{option_map, pair_at, pair_values, perform, place, plan, pos, refl, refusal_of, released, remove}
use common.{remove_pair, replicate, resized, same_kind, set, shrunk_backing, size_of, slice_get, slice_set, spans, step}
use common.{step_of_kind, storage_of, subst, sym, take, tiles_of, true, value_extents, value_of_literal, with}
use common.{with_capacity, with_changed, with_entry, with_items, with_new_index, with_new_object, with_owned_text}
use common.{with_owned_texts, with_spare_entry, with_storage, with_table, with_value, without_object, word_at, ℕ, ℤ}
use common.{◌&&◌, ◌++◌, ◌+◌, ◌-◌, ◌==◌, ◌∙◌, ◌∷◌, ◌≡◌}

-- the object of a key with another value of the same kind
pub record IsAnother (d : Directory) (o : Object) : Type 0 where
  pub key : Key
  pub was : Object
  pub is : object_at d key ≡ Some was
  pub same : located o ≡ located was

-- The directory after a plan. An error keeps the directory, and so can another answer. A command that can change
-- something can change the value of one object; a command that is not on elements can have any next directory.
pub data Leaves (d : Directory) : Bool → Bool → Plan → Type 0 where
  -- a plan that refuses leaves the directory
  by_refusal : {changing other : Bool} {r : Refusal} → Leaves d changing other (Refuse r)
  -- a plan that allocates blocks has this property if its continuation has it
  by_request : {changing other : Bool} {need : Need} {next : Extent → Plan}
      → ((x : Extent) → Leaves d changing other (next x)) → Leaves d changing other (Request need next)
  -- a plan that answers with the same directory leaves it
  by_answer : {changing other : Bool} {answer : Answer} → Leaves d changing other (Reply answer d)
  -- a plan that changes one object answers with no refusal
  by_change : {other : Bool} {answer : Answer} (o : Object) → IsAnother d o → refusal_of answer ≡ None
      → Leaves d true other (Reply answer (with_changed d o))
  -- a plan that changes the directory answers with no refusal
  by_other : {answer : Answer} {after : Directory} → refusal_of answer ≡ None → Leaves d true true (Reply answer after)

-- the same for the continuation of an allocation
requested : {d : Directory} (r : Refusal) (on : Extent → Answer × Directory)
    → ((x : Extent) → (on x).0 ≡ Refused r → (on x).1 ≡ d) → (o : Option Extent)
    → (elim o as (λ _. Answer × Directory) [ None ↦ (Refused NoSpace, d) | Some x ↦ on x ]).0 ≡ Refused r
    → (elim o as (λ _. Answer × Directory) [ None ↦ (Refused NoSpace, d) | Some x ↦ on x ]).1 ≡ d
requested r on each None e = refl
requested r on each (Some x) e = each x e

-- the result of such a plan
pub perform-leaves : {d : Directory} (changing other : Bool) (l : LiveSet) (p : Plan) → Leaves d changing other p
    → (r : Refusal) → (perform d l p).0 ≡ Refused r → (perform d l p).1 ≡ d
perform-leaves changing other l p by_refusal r e = refl
perform-leaves changing other l p by_answer r e = refl
perform-leaves changing other l p (by_change o a k) r e =
    let none : None ≡ Some r = sym k ∙ ap refusal_of e in absurd (cc)
perform-leaves changing other l p (by_other k) r e = let none : None ≡ Some r = sym k ∙ ap refusal_of e in absurd (cc)
perform-leaves {d} changing other l p (by_request {need = need} {next = next} k) r e = requested r (λ x. perform d
    (resized l x) (next x)) (λ x. perform-leaves changing other (resized l x) (next x) (k x) r) (met l need) e

-- ---- the parts of plans

-- the case of a test
if-leaves : (m w : Bool) (d : Directory) (b : Bool) (p q : Plan) → Leaves d m w p → Leaves d m w q
    → Leaves d m w (if b then p else q)
if-leaves m w d true p q h k = h
if-leaves m w d false p q h k = k

-- the case of a result: its value, or its error
with-leaves : {A : Type 0} (m w : Bool) (d : Directory) (a : Result A Refusal) (next : A → Plan)
    → ((x : A) → Leaves d m w (next x)) → Leaves d m w (with a next)
with-leaves m w d (Ok x) next k = k x
with-leaves m w d (Err r) next k = by_refusal

-- the object of a key, or a refusal
found-leaves : (m w : Bool) (d : Directory) (key : Key) (next : Object → Plan) → ((o : Object)
    → object_at d key ≡ Some o → Leaves d m w (next o)) → Leaves d m w (with (found_at d key) next)
found-leaves m w d key next k = found-if (object_at d key) refl
  where
    found-if : (r : Option Object) → object_at d key ≡ r → Leaves d m w
        (with (elim r as (λ _. Result Object Refusal) [ None ↦ Err NotFound | Some o ↦ Ok o ]) next)
    found-if None e = by_refusal
    found-if (Some o) e = k o e

-- the case of an option
option-leaves : {A : Type 0} (m w : Bool) (d : Directory) (o : Option A) (p : Plan) (q : A → Plan) → Leaves d m w p
    → ((x : A) → Leaves d m w (q x)) → Leaves d m w (elim o as (λ _. Plan) [ None ↦ p | Some x ↦ q x ])
option-leaves m w d None p q h k = h
option-leaves m w d (Some x) p q h k = k x

-- a reply with the directory that was
abbrev same : {m w : Bool} (d : Directory) (a : Answer) → Leaves d m w (Reply a d)
same d a = by_answer

module _ (m w : Bool) (d : Directory) where
  capacity-leaves : (each capacity : ℕ) (t : BackingArray) (next : BackingArray → Plan)
      → ((u : BackingArray) → Leaves d m w (next u)) → Leaves d m w (with_capacity each capacity t next)
  capacity-leaves each capacity t next k =
      if-leaves m w d (nat_le capacity t.capacity) _ _ (k t) (by_request (λ x. k _))

  place-leaves : (t : BackingArray) (count : ℕ) (next : BackingArray → Plan)
      → ((u : BackingArray) → Leaves d m w (next u)) → Leaves d m w (with_spare_entry t count next)
  place-leaves t count next k = if-leaves m w d (nat_lt count t.capacity) _ _ (k t) (by_request (λ x. k _))

  index-leaves : (n : ℕ) (next : BackingArray → Plan) → ((u : BackingArray) → Leaves d m w (next u))
      → Leaves d m w (with_new_index n next)
  index-leaves n next k = by_request (λ x. k _)

  entry-leaves : (e : Directory) (c : Class) (next : Directory → Plan) → ((f : Directory) → Leaves d m w (next f))
      → Leaves d m w (with_entry e c next)
  entry-leaves e Anonymous next k = k e
  entry-leaves e Named next k = place-leaves e.named _ _ (λ t. k (record e { named = t }))
  entry-leaves e Unique next k = place-leaves e.unique _ _ (λ t. k (record e { unique = t }))

  storage-leaves : (each n : ℕ) (next : BackingArray → Plan) → ((u : BackingArray) → Leaves d m w (next u))
      → Leaves d m w (with_storage each n next)
  storage-leaves each n next k = if-leaves m w d (n == 0) _ _ (k _) (by_request (λ x. k _))

  owned-leaves : (bs : List ℕ) (next : OwnedText → Plan) → ((p : OwnedText) → Leaves d m w (next p))
      → Leaves d m w (with_owned_text bs next)
  owned-leaves bs next k = if-leaves m w d (length bs == 0) _ _ (k _) (by_request (λ x. k _))

  all_owned-leaves : (bss : List (List ℕ)) (next : List OwnedText → Plan)
      → ((ps : List OwnedText) → Leaves d m w (next ps)) → Leaves d m w (with_owned_texts bss next)
  all_owned-leaves [] next k = k []
  all_owned-leaves (bs ∷ bss) next k = owned-leaves bs _ (λ p. all_owned-leaves bss _ (λ ps. k (p ∷ ps)))

  value-leaves : (c : Content) (next : Value → Plan) → ((v : Value) → Leaves d m w (next v))
      → Leaves d m w (with_value c next)
  value-leaves (asked.Elements k zs) next leaves =
      storage-leaves (size_of k) (length zs) _ (λ t. leaves (Elements k zs t))
  value-leaves (asked.Bytes bs) next leaves = storage-leaves 1 (length bs) _ (λ t. leaves (Bytes bs t))
  value-leaves (asked.Strings bss) next leaves =
      storage-leaves 16 (length bss) _ (λ t. all_owned-leaves bss _ (λ ps. leaves (Texts ps t)))
  value-leaves v next leaves = leaves _

  new-leaves : (e : Directory) (key : Key) (c : Content) (next : Object → Directory → Plan)
      → ((o : Object) (f : Directory) → Leaves d m w (next o f)) → Leaves d m w (with_new_object e key c next)
  new-leaves e key c next k = entry-leaves e (class_of key) _ (λ f. by_request (λ x. value-leaves c _ (λ v. k _ _)))

  -- two values of literals, one after another
  two-leaves : (a b : Result ℤ Refusal) (next : List ℤ → Plan) → ((x y : ℤ) → Leaves d m w (next (x ∷ y ∷ [])))
      → Leaves d m w (with (cons_values a (cons_values b (Ok []))) next)
  two-leaves (Ok x) (Ok y) next k = k x y
  two-leaves (Ok x) (Err WrongKind) next k = by_refusal
  two-leaves (Ok x) (Err r) next k = by_refusal
  two-leaves (Err WrongKind) b next k = by_refusal
  two-leaves (Err r) (Ok y) next k = by_refusal
  two-leaves (Err r) (Err WrongKind) next k = by_refusal
  two-leaves (Err r) (Err s) next k = by_refusal

ruleset parts = (
  with-leaves,
  if-leaves,
  capacity-leaves,
  storage-leaves,
  owned-leaves,
  all_owned-leaves,
  index-leaves,
  option-leaves,
  by_answer,
  by_other,
  refl,
  by_refusal,
)

-- ---- the commands on elements

get-leaves : (m w : Bool) (d : Directory) (v : Value) (i : ℕ) → Leaves d m w (get d v i)
get-leaves m w d (Texts ps t) i = search parts
get-leaves m w d v i = search parts

module _ (w : Bool) (d : Directory) (key : Key) (o : Object) (is : object_at d key ≡ Some o) where
  -- another value of the kind
  change : {answer : Answer} {v : Value} (u : Value) → o.value ≡ v → kind_of u ≡ kind_of v → count_of u ≡ count_of v
      → refusal_of answer ≡ None → Leaves d true w (Reply answer (changed d o u))
  change u e kind count = by_change (record o { value = u }) (record {
    key = key;
    was = o;
    is = is;
    same = λ i. record {
      handle = handle o.extent;
      kind = (kind ∙ ap kind_of (sym e)) i;
      name_len = length o.name;
      count = (count ∙ ap count_of (sym e)) i;
    };
  })

  assign-leaves : (v : Value) → o.value ≡ v → (ls : List Literal) → Leaves d true w (assign d o v ls)
  assign-leaves (Elements k zs t) e ls = search (parts, change)
  assign-leaves (Bytes bs t) e ls = search (parts, change)
  assign-leaves (Texts ps t) e [] = change {answer = Done} _ e refl refl refl
  assign-leaves (Texts ps t) e (l ∷ ls) = search (parts, change)
  assign-leaves v e ls = by_refusal

  set-leaves : (v : Value) → o.value ≡ v → (i : ℕ) (l : Literal) → Leaves d true w (set d o v i l)
  set-leaves (Numbers k zs) e i l = with-leaves _ _ d (value_of_literal k l) _ (λ z. with-leaves _ _ d (element_at zs i)
      _ (λ old. change {answer = Done} (Numbers k (slice_set zs i z)) e refl (length-set zs i z) refl))
  set-leaves (Elements k zs t) e i l = with-leaves _ _ d (value_of_literal k l) _
      (λ z. with-leaves _ _ d (element_at zs i) _
      (λ old. change {answer = Done} (Elements k (slice_set zs i z) t) e refl refl refl))
  set-leaves (Bytes bs t) e i l = with-leaves _ _ d (value_of_literal U8 l) _
      (λ z. with-leaves _ _ d (element_at (map pos bs) i) _
      (λ old. change {answer = Done} (Bytes (map nat_abs (slice_set (map pos bs) i z)) t) e refl refl refl))
  set-leaves (Texts ps t) e i l = search (parts, change)
  set-leaves v e i l = by_refusal

  push-leaves : (v : Value) → o.value ≡ v → (l : Literal) → Leaves d true w (push d o v l)
  push-leaves (Elements k zs t) e l = with-leaves _ _ d (value_of_literal k l) _ (λ z. capacity-leaves _ _ d (size_of k)
      (capacity_for_one (length zs) t.capacity) t _
      (λ u. change {answer = Done} (Elements k (zs ++ z ∷ []) u) e refl refl refl))
  push-leaves (Texts ps t) e l = search (parts, change) depth 7
  push-leaves v e l = by_refusal

  pop-leaves : (v : Value) → o.value ≡ v → Leaves d true w (pop d o v)
  pop-leaves (Elements k zs t) e = with-leaves _ _ d (element_at zs (length zs - 1)) _
      (λ z. change {answer = Element k z} (Elements k (take (length zs - 1) zs) t) e refl refl refl)
  pop-leaves (Texts ps t) e = search (parts, change)
  pop-leaves v e = by_refusal

  insert-leaves : (v : Value) → o.value ≡ v → (i : ℕ) (l : Literal) → Leaves d true w (insert_at d o v i l)
  insert-leaves (Elements k zs t) e i l = with-leaves _ _ d (value_of_literal k l) _ (λ z. if-leaves _ _ d
      (nat_lt (length zs) i) _ _ by_refusal (capacity-leaves _ _ d (size_of k)
      (capacity_for_one (length zs) t.capacity) t _
      (λ u. change {answer = Done} (Elements k (insert zs i z) u) e refl refl refl)))
  insert-leaves (Texts ps t) e i l = search (parts, change) depth 9
  insert-leaves v e i l = by_refusal

  erase-leaves : (v : Value) → o.value ≡ v → (i : ℕ) → Leaves d true w (erase d o v i)
  erase-leaves (Elements k zs t) e i =
      with-leaves _ _ d (element_at zs i) _ (λ z. change {answer = Done} (Elements k (remove zs i) t) e refl refl refl)
  erase-leaves (Texts ps t) e i = search (parts, change)
  erase-leaves v e i = by_refusal

  reserve-leaves : (v : Value) → o.value ≡ v → (n : ℕ) → Leaves d true w (with (storage_of v)
      (λ (each, len, t). with_capacity each n t (λ u. Reply Done (changed d o (with_table v u)))))
  reserve-leaves (Numbers k zs) e n = by_refusal
  reserve-leaves (Pairs k l ps) e n = by_refusal
  reserve-leaves v e n = search (parts, change)

  shrink-leaves : (v : Value) → o.value ≡ v → Leaves d true w (with (storage_of v)
      (λ (each, len, t). Reply Done (changed d o (with_table v (shrunk_backing (live d) each len t)))))
  shrink-leaves (Numbers k zs) e = by_refusal
  shrink-leaves (Pairs k l ps) e = by_refusal
  shrink-leaves v e = change _ e refl refl refl

  clear-leaves : (v : Value) → o.value ≡ v
      → Leaves d true w (with (storage_of v) (λ s. Reply Done (changed d o (with_items v []))))
  clear-leaves (Numbers k zs) e = by_refusal
  clear-leaves (Pairs k l ps) e = by_refusal
  clear-leaves v e = change _ e refl refl refl

  append-leaves : (v : Value) → o.value ≡ v → (more : List ℕ) → Leaves d true w (with (text_of v) (λ (bs, t).
      with_capacity 1 (capacity_for_text (length (bs ++ more)) t.capacity) t
      (λ u. Reply Done (changed d o (Bytes (bs ++ more) u)))))
  append-leaves (Bytes bs t) e more = search (parts, change)
  append-leaves v e more = by_refusal

  extend-leaves : (v : Value) → o.value ≡ v → (more : List ℤ) → Leaves d true w (extend d o v more)
  extend-leaves (Elements k zs t) e more = capacity-leaves _ _ d (size_of k)
      (capacity_for_more (length zs) (length more) t.capacity) t _
      (λ u. change {answer = Done} (Elements k (zs ++ more) u) e refl refl refl)
  extend-leaves v e more = by_refusal

  put-leaves : (v : Value) → o.value ≡ v → (l m : Literal) → Leaves d true w (with (map_of v)
      (λ (k, v, ps). with (pair_values k v l m) (λ new. put d o k v ps new)))
  put-leaves (Pairs k v ps) e l m = two-leaves _ _ d (value_of_literal k l) (value_of_literal v m) _
      (λ y z. option-leaves _ _ d (pair_at int_lt ps y) _ _
      (by_request (λ n. change {answer = Boolean true} _ e refl refl refl))
      (λ p. change {answer = Boolean false} _ e refl refl refl))
  put-leaves v e l m = by_refusal

  remove-leaves : (v : Value) → o.value ≡ v → (l : Literal) → Leaves d true w (with (map_of v)
      (λ (k, v, ps). with (value_of_literal k l) (λ x. elim (pair_at int_lt ps x) as (λ _. Plan) [
        | None ↦ Reply (Boolean false) d
        | Some p ↦ Reply (Boolean true) (changed d o (Pairs k v (remove_pair int_lt ps x)))
      ])))
  remove-leaves (Pairs k v ps) e l = with-leaves _ _ d (value_of_literal k l) _ (λ z. option-leaves _ _ d
      (pair_at int_lt ps z) _ _ (same d _) (λ p. change {answer = Boolean true} _ e refl refl refl))
  remove-leaves v e l = by_refusal

-- ---- all commands

-- each command's plan is such
effect-leaves : (d : Directory) (c : Command) → Leaves d (is_changing c) (not (is_elementwise c)) (effect d c)
effect-leaves d (asked.Construct key content) = option-leaves _ _ d (object_at d key) _ _ (new-leaves _ _ d d key
    content _ (λ o e. by_other {answer = Made (handle o.extent)} {after = e} refl)) (λ o. by_refusal {r = Exists})
effect-leaves d (asked.ConstructIt key k n zs) = option-leaves _ _ d (object_at d key) _ _ (if-leaves _ _ d
    (nat_lt (length zs) n) _ _ (new-leaves _ _ d d key (asked.Numbers k (replicate n (pos 0))) _ (λ o e. same d
    (Refused OutOfRange))) (new-leaves _ _ d d key (asked.Numbers k (take n zs)) _ (λ o e. by_other {answer = Made
    (handle o.extent)} {after = e} refl))) (λ o. by_refusal {r = Exists})
effect-leaves d (asked.Find key kind) = option-leaves _ _ d (object_at d key) _ _ (same d Absent)
    (λ o. if-leaves _ _ d (same_kind kind (kind_of o.value)) _ _ (same d (found o)) (by_refusal {r = WrongKind}))
effect-leaves d (asked.FindOrConstruct key content) = option-leaves _ _ d (object_at d key) _ _ (new-leaves _ _ d d key
    content _ (λ o e. by_other {answer = Found (handle o.extent) (count_of o.value)} {after = e} refl)) (λ o. if-leaves
    _ _ d (same_kind (kind_of (bare content)) (kind_of o.value)) _ _ (same d (found o)) (by_refusal {r = WrongKind}))
effect-leaves d (asked.Destroy key) =
    option-leaves _ _ d (object_at d key) _ _ (same d _) (λ o. by_other {answer = Boolean true} refl)
effect-leaves d (asked.DestroyPtr h) =
    with-leaves _ _ d (found_at d (ByHandle h)) _ (λ o. by_other {answer = Boolean true} refl)
effect-leaves d (asked.Show key) = with-leaves _ _ d (found_at d key) _ (λ o. same d _)
effect-leaves d (asked.Info key) = with-leaves _ _ d (found_at d key) _ (λ o. same d _)
effect-leaves d (asked.Get key i) = with-leaves _ _ d (found_at d key) _ (λ o. get-leaves _ _ d o.value i)
effect-leaves d (asked.Set key i l) = found-leaves _ _ d key _ (λ o is. set-leaves _ d key o is o.value refl i l)
effect-leaves d (asked.Push key l) = found-leaves _ _ d key _ (λ o is. push-leaves _ d key o is o.value refl l)
effect-leaves d (asked.Pop key) = found-leaves _ _ d key _ (λ o is. pop-leaves _ d key o is o.value refl)
effect-leaves d (asked.Insert key i l) = found-leaves _ _ d key _ (λ o is. insert-leaves _ d key o is o.value refl i l)
effect-leaves d (asked.Erase key i) = found-leaves _ _ d key _ (λ o is. erase-leaves _ d key o is o.value refl i)
effect-leaves d (asked.Reserve key n) = found-leaves _ _ d key _ (λ o is. reserve-leaves _ d key o is o.value refl n)
effect-leaves d (asked.Shrink key) = found-leaves _ _ d key _ (λ o is. shrink-leaves _ d key o is o.value refl)
effect-leaves d (asked.Clear key) = found-leaves _ _ d key _ (λ o is. clear-leaves _ d key o is o.value refl)
effect-leaves d (asked.Assign key ls) = found-leaves _ _ d key _ (λ o is. assign-leaves _ d key o is o.value refl ls)
effect-leaves d (asked.Append key more) = found-leaves _ _ d key _
    (λ o is. append-leaves _ d key o is o.value refl more)
effect-leaves d (asked.Put key l m) = found-leaves _ _ d key _ (λ o is. put-leaves _ d key o is o.value refl l m)
effect-leaves d (asked.Lookup key l) = with-leaves _ _ d (found_at d key) _ (λ o. with-leaves _ _ d (map_of o.value) _
    (λ x. with-leaves _ _ d (value_of_literal x.0 l) _
    (λ z. option-leaves _ _ d (pair_at int_lt x.2 z) _ _ (same d _) (λ p. same d _))))
effect-leaves d (asked.Remove key l) = found-leaves _ _ d key _ (λ o is. remove-leaves _ d key o is o.value refl l)
effect-leaves d (asked.ReserveNamed n) = search parts
effect-leaves d (asked.ReserveUnique n) = search parts
effect-leaves d asked.ShrinkIndexes = by_other {answer = Done} refl
effect-leaves d c = same d _

-- and so has a whole step, and a step for objects of a kind
pub plan-leaves : (mode : Mode) (d : Directory) (c : Command)
    → Leaves d (is_changing c) (not (is_elementwise c)) (plan mode d c)
plan-leaves mode d c = if-leaves _ _ d (is_read_only mode && is_changing c) _ _ by_refusal (effect-leaves d c)

-- a plan for a kind leaves the directory if it refuses
pub plan_of_kind-leaves : (mode : Mode) (d : Directory) (key : Key) (kind : Kind) (c : Command)
    → Leaves d (is_changing c) (not (is_elementwise c)) (if is_read_only mode && is_changing c then Refuse ReadOnly else
    with (found_at d key) (λ o. if same_kind kind (kind_of o.value) then effect d c else Refuse WrongKind))
plan_of_kind-leaves mode d key kind c =
    if-leaves _ _ d (is_read_only mode && is_changing c) _ _ by_refusal (with-leaves _ _ d (found_at d key) _
    (λ o. if-leaves _ _ d (same_kind kind (kind_of o.value)) _ _ (effect-leaves d c) (by_refusal {r = WrongKind})))

-- and that of a call that puts values after the last of a vector
pub extended-leaves : (mode : Mode) (d : Directory) (key : Key) (k : ScalarKind) (more : List ℤ)
    → Leaves d true false (if is_read_only mode then Refuse ReadOnly else
    with (found_at d key) (λ o. if same_kind (Vector k) (kind_of o.value) then extend d o o.value more
    else Refuse WrongKind))
extended-leaves mode d key k more =
    if-leaves _ _ d (is_read_only mode) _ _ by_refusal (found-leaves _ _ d key _
    (λ o is. if-leaves _ _ d (same_kind (Vector k) (kind_of o.value)) _ _
    (extend-leaves _ d key o is o.value refl more) (by_refusal {r = WrongKind})))

-- a step with an error keeps the directory
pub step-refused : (mode : Mode) {d : Directory} (c : Command) (r : Refusal) → (step mode d c).0 ≡ Refused r
    → (step mode d c).1 ≡ d
unfolding step
step-refused mode {d} c r e = perform-leaves _ _ (live d) (plan mode d c) (plan-leaves mode d c) r e

-- the same for a call for objects of one kind
pub step_of_kind-refused : (mode : Mode) {d : Directory} (key : Key) (kind : Kind) (c : Command) (r : Refusal)
    → (step_of_kind mode d key kind c).0 ≡ Refused r → (step_of_kind mode d key kind c).1 ≡ d
unfolding step_of_kind
step_of_kind-refused mode {d} key kind c r e = perform-leaves _ _ (live d) _ (plan_of_kind-leaves mode d key kind c) r e

-- a segment that is open for reading refuses each command that can change it
pub step-read_only : (mode : Mode) (d : Directory) (c : Command) → is_read_only mode ≡ true → is_changing c ≡ true
    → step mode d c ≡ (Refused ReadOnly, d)
unfolding step
step-read_only mode d c e f = λ i. perform d (live d) (if e i && f i then Refuse ReadOnly else effect d c)

-- the same for a call for objects of one kind
pub step_of_kind-read_only : (mode : Mode) (d : Directory) (key : Key) (kind : Kind) (c : Command)
    → is_read_only mode ≡ true → is_changing c ≡ true → step_of_kind mode d key kind c ≡ (Refused ReadOnly, d)
unfolding step_of_kind
step_of_kind-read_only mode d key kind c e f = λ i. perform d (live d) (if e i && f i then Refuse ReadOnly else
    with (found_at d key) (λ o. if same_kind kind (kind_of o.value) then effect d c else Refuse WrongKind))

-- Lemmas that show that a call is one step of the directory machine.

-- ---- from each directory to the next

-- for a directory, the step's answer, and the directory that it leaves, which the new bytes denote
pub record IsNext (b : List ℕ) (next : Answer × Directory) (answer : Answer) (after : Directory) : Type 0 where
  pub is : next ≡ (answer, after)
  pub denotes : Denotes current b after

-- the same for the directory of a segment's bytes
pub record IsMove (new : SegmentState) (answer : Answer) (next : Answer × Directory) : Type 0 where
  pub after : Directory
  pub is : next ≡ (answer, after)
  pub stands : DenotesCurrent new.cut.bytes after

-- the new bytes denote the next directory
pub lands : {new : SegmentState} {next : Answer × Directory} {answer : Answer} (after : Directory)
    → IsNext new.cut.bytes next answer after → IsMove new answer next
lands after n = record { after = after; is = n.is; stands = record { denotes = n.denotes } }

-- a move from each directory that the bytes denote is a transition
pub by_moves : {old new : SegmentState} {answer : Answer} {next : Directory → Answer × Directory}
    → KeepsModeAndPlace old new
    → ((d : Directory) → DenotesCurrent old.cut.bytes d → IsMove new answer (next d)) → Transitions old new answer next
by_moves {new} s each = record {
  stays = s;
  answers = λ d h. sym (ap (λ (r : Answer × Directory). r.0) (each d h).is);
  denotes = λ d h. subst (DenotesCurrent new.cut.bytes) (sym (ap (λ (r : Answer × Directory). r.1) (each d h).is))
      (each d h).stands;
}

-- the step is known for each directory of the old bytes, and the new bytes denote the next one
pub by_step : {old new : SegmentState} (c : Command) {answer : Answer} → KeepsModeAndPlace old new
    → ((d : Directory) → DenotesCurrent old.cut.bytes d → IsMove new answer (step old.mode d c))
    → TakesStep old new c answer
by_step c s each = by_moves s each

-- the same for a call for objects of one kind
pub by_step_of_kind : (old new : SegmentState) (key : Key) (kind : Kind) (c : Command) (answer : Answer)
    → KeepsModeAndPlace old new
    → ((d : Directory) → DenotesCurrent old.cut.bytes d → IsMove new answer (step_of_kind old.mode d key kind c))
    → TakesStepOfKind old new key kind c answer
by_step_of_kind old new key kind c answer s each = by_moves s each

-- after a step the bytes denote a directory again
pub step-segment : (old new : SegmentState) (c : Command) (answer : Answer)
    → TakesStep old new c answer → IsSegment old.cut.bytes → IsSegment new.cut.bytes
step-segment old new c answer m s = ((step old.mode s.0 c).1, m.denotes s.0 s.1)

-- the same for a call for objects of one kind
pub step_of_kind-segment : (old new : SegmentState) (key : Key) (kind : Kind) (c : Command) (answer : Answer)
    → TakesStepOfKind old new key kind c answer → IsSegment old.cut.bytes → IsSegment new.cut.bytes
step_of_kind-segment old new key kind c answer m s = ((step_of_kind old.mode s.0 key kind c).1, m.denotes s.0 s.1)

-- ---- calls that change nothing

-- an unchanged segment keeps mode and place
pub stays-refl : {s : SegmentState} → KeepsModeAndPlace s s
stays-refl = record { mode = refl; place = record { before = refl; after = refl } }

-- for each directory the call gives this answer and this directory
pub by_same : {s : SegmentState} {answer : Answer} (next : Directory → Answer × Directory) → ((d : Directory)
    → DenotesCurrent s.cut.bytes d → next d ≡ (answer, d)) → Transitions s s answer next
by_same next each = by_moves stays-refl (λ d h. record { after = d; is = each d h; stands = h })

-- the same for the step
pub by_no_change : (s : SegmentState) (c : Command) (answer : Answer)
    → ((d : Directory) → DenotesCurrent s.cut.bytes d → step s.mode d c ≡ (answer, d)) → TakesStep s s c answer
by_no_change s c answer each = by_same (λ d. step s.mode d c) each

-- the same for a call for objects of one kind
pub by_no_change_of_kind : (s : SegmentState) (key : Key) (kind : Kind) (c : Command) (answer : Answer)
    → ((d : Directory) → DenotesCurrent s.cut.bytes d → step_of_kind s.mode d key kind c ≡ (answer, d))
    → TakesStepOfKind s s key kind c answer
by_no_change_of_kind s key kind c answer each = by_same (λ d. step_of_kind s.mode d key kind c) each

-- ---- calls that read

-- the call answers this of each directory that the bytes denote
pub record Says {A : Type 0} (b : List ℕ) (say : Directory → A) (result : A) : Type 0 where
  pub says : (d : Directory) → Denotes current b d → result ≡ say d

-- the answer is the machine's
pub by_replies : (b : List ℕ) (mode : Mode) (c : Command) {answer : Answer} (say : Directory → Answer)
    → ((d : Directory) → step mode d c ≡ (say d, d)) → Says b say answer → Says b (λ d. (step mode d c).0) answer
by_replies b mode c say each s = record {
  says = λ d h. s.says d h ∙ sym (ap (λ (r : Answer × Directory). r.0) (each d));
}

-- the same for a segment
pub answered : {A : Type 0} {s : SegmentState} {say : Directory → A} {result : A} → Says s.cut.bytes say result
    → AnswersWith s say result
answered h = record { answers = λ d k. h.says d k.denotes }

-- ---- refusals, for all calls at once

-- the segment is open for reading
pub refuses-read_only : (s : SegmentState) (c : Command) → is_read_only s.mode ≡ true → is_changing c ≡ true
    → TakesStep s s c (Refused ReadOnly)
refuses-read_only s c e f = by_no_change s c (Refused ReadOnly) (λ d h. step-read_only s.mode d c e f)

-- the same for a call for objects of one kind
pub refuses_of_kind-read_only : (s : SegmentState) (key : Key) (kind : Kind) (c : Command) → is_read_only s.mode ≡ true
    → is_changing c ≡ true → TakesStepOfKind s s key kind c (Refused ReadOnly)
refuses_of_kind-read_only s key kind c e f =
    by_no_change_of_kind s key kind c (Refused ReadOnly) (λ d h. step_of_kind-read_only s.mode d key kind c e f)

-- ---- the step by the command's plan

-- the segment is open for writing, or the command changes nothing
abbrev pub IsOpenFor : Mode → Command → Type 0
IsOpenFor mode c = (is_read_only mode && is_changing c) ≡ false

-- the segment is open for writing
pub open-writing : (mode : Mode) (c : Command) → is_read_only mode ≡ false → IsOpenFor mode c
open-writing mode c e = ap (λ b. b && is_changing c) e

-- the command changes nothing
pub open-reading : (mode : Mode) (c : Command) → is_changing c ≡ false → IsOpenFor mode c
open-reading mode c e = and_right (is_read_only mode) (is_changing c) e

module _ (mode : Mode) (d : Directory) (c : Command) where
  -- then the step is the command's plan, performed
  pub step-effect : IsOpenFor mode c → step mode d c ≡ perform d (live d) (effect d c)
  unfolding step
  step-effect e = ap (λ b. perform d (live d) (if b then Refuse ReadOnly else effect d c)) e

  -- the plan is known
  pub step-plan : {p : Plan} → IsOpenFor mode c → effect d c ≡ p → step mode d c ≡ perform d (live d) p
  step-plan e f = step-effect e ∙ ap (perform d (live d)) f

  -- the plan is an answer
  pub step-reply : (answer : Answer) (after : Directory) → IsOpenFor mode c → effect d c ≡ Reply answer after
      → step mode d c ≡ (answer, after)
  step-reply answer after e f = step-plan e f

  -- the plan is a refusal
  pub step-refuse : (r : Refusal) → IsOpenFor mode c → effect d c ≡ Refuse r → step mode d c ≡ (Refused r, d)
  step-refuse r e f = step-plan e f

-- ---- the object of a key

-- the plan continues with the object that exists
pub with-found : (d : Directory) (key : Key) (o : Object) (next : Object → Plan) → object_at d key ≡ Some o
    → with (found_at d key) next ≡ next o
with-found d key o next e = ap (λ (r : Option Object).
    with (elim r as (λ _. Result Object Refusal) [ None ↦ Err NotFound | Some o ↦ Ok o ]) next) e

-- or it is a refusal
pub with-not_found : (d : Directory) (key : Key) (next : Object → Plan) → object_at d key ≡ None
    → with (found_at d key) next ≡ Refuse NotFound
with-not_found d key next e = ap (λ (r : Option Object).
    with (elim r as (λ _. Result Object Refusal) [ None ↦ Err NotFound | Some o ↦ Ok o ]) next) e

-- the plan of a call for objects of one kind on an object
abbrev of_kind : Directory → Kind → Command → Object → Plan
of_kind d kind c o = if same_kind kind (kind_of o.value) then effect d c else Refuse WrongKind

module _ (mode : Mode) (d : Directory) (key : Key) (kind : Kind) (c : Command) where
  step_of_kind-plan : {p : Plan} → IsOpenFor mode c → with (found_at d key) (of_kind d kind c) ≡ p
      → step_of_kind mode d key kind c ≡ perform d (live d) p
  unfolding step_of_kind
  step_of_kind-plan e f = λ i. perform d (live d) (if e i then Refuse ReadOnly else f i)

  -- the object is of the kind
  pub step_of_kind-found : (o : Object) → IsOpenFor mode c → object_at d key ≡ Some o
      → same_kind kind (kind_of o.value) ≡ true → step_of_kind mode d key kind c ≡ perform d (live d) (effect d c)
  step_of_kind-found o e f g = step_of_kind-plan e
      (with-found d key o (of_kind d kind c) f ∙ ap (λ b. if b then effect d c else Refuse WrongKind) g)

  -- then the step is that of the command
  pub step_of_kind-step : (o : Object) → object_at d key ≡ Some o → same_kind kind (kind_of o.value) ≡ true
      → step_of_kind mode d key kind c ≡ step mode d c
  unfolding step step_of_kind
  step_of_kind-step o f g = ap (λ p. perform d (live d) (if is_read_only mode && is_changing c then Refuse ReadOnly else
      p)) (with-found d key o (of_kind d kind c) f ∙ ap (λ b. if b then effect d c else Refuse WrongKind) g)

  -- the object has another kind
  pub step_of_kind-other : (o : Object) → IsOpenFor mode c → object_at d key ≡ Some o
      → same_kind kind (kind_of o.value) ≡ false → step_of_kind mode d key kind c ≡ (Refused WrongKind, d)
  step_of_kind-other o e f g = step_of_kind-plan e
      (with-found d key o (of_kind d kind c) f ∙ ap (λ b. if b then effect d c else Refuse WrongKind) g)

  -- there is no object with the key
  pub step_of_kind-not_found : IsOpenFor mode c → object_at d key ≡ None
      → step_of_kind mode d key kind c ≡ (Refused NotFound, d)
  step_of_kind-not_found e f = step_of_kind-plan e (with-not_found d key (of_kind d kind c) f)

-- ---- the requests

-- a block is allocated
pub perform-new : (d : Directory) (l : LiveSet) (role : Role) (n : ℕ) (next : Extent → Plan) (x : Extent)
    → place l n role ≡ Some x → perform d l (Request (New role n) next) ≡ perform d (resized l x) (next x)
perform-new d l role n next x e = ap (λ (o : Option Extent).
    elim o as (λ _. Answer × Directory) [ None ↦ (Refused NoSpace, d) | Some x ↦ perform d (resized l x) (next x) ]) e

-- no gap is long enough
pub perform-no_space : (d : Directory) (l : LiveSet) (role : Role) (n : ℕ) (next : Extent → Plan)
    → place l n role ≡ None → perform d l (Request (New role n) next) ≡ (Refused NoSpace, d)
perform-no_space d l role n next e = ap (λ (o : Option Extent).
    elim o as (λ _. Answer × Directory) [ None ↦ (Refused NoSpace, d) | Some x ↦ perform d (resized l x) (next x) ]) e

-- a call with an equal next directory is the same step
pub moves-same : {A : Type 0} (old new : SegmentState) (answer : A) (next other : Directory → A × Directory)
    → ((d : Directory) → DenotesCurrent old.cut.bytes d → next d ≡ other d)
    → Transitions old new answer next → Transitions old new answer other
moves-same {A} old new answer next other each m = record {
  stays = m.stays;
  answers = λ d k. m.answers d k ∙ ap (λ (n : A × Directory). n.0) (each d k);
  denotes = λ d k. subst (λ (n : A × Directory). DenotesCurrent new.cut.bytes n.1) (each d k) (m.denotes d k);
}

-- The contracts of the heap for a directory: blocks allocated, freed and written.

-- ---- objects are live blocks

-- the block of an object passes a test that its extent passes
pub any-object : (d : Directory) (o : Object) (t : Extent → Bool) → IsIn d o → IsTrue (is_proper (live d))
    → t o.extent ≡ true → list_any t (live d).extents ≡ true
any-object d o t f p h = ap (λ (l : LiveSet). list_any t l.extents) (live-split d o f p)
    ∙ list_any-insert t o.extent (inserted (value_extents o.value) (live (without_object d o)).extents) h

-- the block of an object is in use
pub object-live : (d : Directory) (o : Object) → IsIn d o → IsTrue (is_proper (live d))
    → is_live_in (live d) (handle o.extent) ≡ true
object-live d o f p =
    any-object d o (λ (x : Extent). handle x == handle o.extent) f p (eq-eqb (handle o.extent) (handle o.extent) refl)

-- the object has the room of its extent
pub object-room : (d : Directory) (o : Object) (n : ℕ) → IsIn d o → IsTrue (is_proper (live d))
    → holds o.extent n ≡ true → has_room (live d) (handle o.extent) n ≡ true
object-room d o n f p h = any-object d o (λ (x : Extent). (handle x == handle o.extent) && holds x n) f p
    (and_from (handle o.extent == handle o.extent) (holds o.extent n)
    (eq-eqb (handle o.extent) (handle o.extent) refl) h)

-- the bytes encode an object that is found
pub object-at : (format : ℕ) (b : List ℕ) (d : Directory) (h : ℕ) (o : Object) → Denotes format b d
    → IsFound h d.objects o → IsObjectAt (bytes_of b) o
object-at format b d h o k f = all-found (IsObjectAt (bytes_of b)) (has_key (ByHandle h)) d.objects o k.objects f.is

-- ---- the directory of the bytes after the heap's calls

-- the heap's live set is that of the directory
pub denotes-live : (format : ℕ) (b : List ℕ) (d : Directory) → Denotes format b d → live_of b ≡ live d
denotes-live format b d h = lay_out_one format b (live d) h.heap

-- the bytes of a directory are a heap's
pub denotes-heap : (format : ℕ) (b : List ℕ) (d : Directory) → Denotes format b d → EncodesLiveSet format b (live_of b)
denotes-heap format b d h = subst (EncodesLiveSet format b) (sym (denotes-live format b d h)) h.heap

-- without the object whose block was released, one without a key that has no other
pub denotes-released : {format : ℕ} {old new : WindowState} {d : Directory} (o : Object)
    → Denotes format old.bytes d → IsIn d o → o.class ≡ Anonymous → value_extents o.value ≡ []
    → Deallocates format old new (handle o.extent) → Denotes format new.bytes (without_object d o)
denotes-released {format} {old} {new} {d} o k f class alone r =
    let same : released (live_of old.bytes) (handle o.extent) ≡ removing (live d) (extents_of o) =
    ap (λ l. released l (handle o.extent)) (denotes-live format old.bytes d k)
    ∙ ap (λ xs. removing (live d) (o.extent ∷ xs)) (sym alone) in
    denotes-without old new o k f class (subst (EncodesLiveSet format new.bytes) same r.live)
    (subst (λ (l : LiveSet). KeepsBlocks old new l.extents) same r.keeps)

-- The calls that keep the directory, for each directory of the bytes: zeroing the gaps, and reading the segment.

-- ---- the directory of the bytes stays if the header and all blocks stay

-- for any objects
pub denotes-kept : {format : ℕ} (old new : WindowState) {d : Directory} → Denotes format old.bytes d
    → EncodesLiveSet format new.bytes (live d) → KeepsBlocks old new (live d).extents → Denotes format new.bytes d
denotes-kept {format} old new {d} h l k =
    let blocks = of_each (SameBlock (bytes_of old.bytes) (bytes_of new.bytes)) k.blocks in
    let frame = frame-stays old new (live d).extents h k blocks.named blocks.unique in
    record {
      directory = h.directory;
      header = frame.header;
      heap = l;
      named = frame.named;
      unique = frame.unique;
      objects = any_objects-same format (bytes_of old.bytes)
          (bytes_of new.bytes) d.objects h.directory.objects blocks.objects h.objects;
    }

-- ---- zeros in the gaps

-- the bytes of gaps are part of no object
pub zeroed : (mode : Mode) {old new : WindowState} {d : Directory} → Denotes current old.bytes d
    → is_read_only mode ≡ false → ZeroesFree current old new → IsNext new.bytes (step mode d asked.ZeroFree) Done d
zeroed mode {old} {new} {d} h writing z =
    let same = denotes-live current old.bytes d h in
    record {
      is = step-reply mode d asked.ZeroFree Done d (open-writing mode asked.ZeroFree writing) refl;
      denotes = denotes-kept old new h (subst (EncodesLiveSet current new.bytes) same z.live)
          (subst (λ (l : LiveSet). KeepsBlocks old new l.extents) same z.keeps);
    }

-- zeros in the gaps leave the directory
pub zeroes : {old new : SegmentState} → KeepsModeAndPlace old new
    → is_read_only old.mode ≡ false → ZeroesFree current old.cut new.cut → TakesStep old new asked.ZeroFree Done
zeroes {old} s e z = by_step asked.ZeroFree s (λ d h. lands d (zeroed old.mode h.denotes e z))

-- and then the gaps of each directory that the bytes denote are zero
pub zeroed-gaps : {old : WindowState} {new : SegmentState} → ZeroesFree current old new.cut → HasZeroGaps new
zeroed-gaps {old} {new} z = record {
  zeros = λ d h. subst (λ (l : LiveSet). AllByRecursion (λ (g : Gap). AreZero (bytes_of new.cut.bytes)
      (g.offset + gap_head current) (g.offset + g.len)) (gaps l)) (sym (lay_out_one current new.cut.bytes
      (live_of old.bytes) z.live) ∙ denotes-live current new.cut.bytes d h.denotes) z.zero;
}

-- ---- reading a segment

-- the size word
pub size-replies : (mode : Mode) (b : List ℕ)
    → Says b (λ d. (step mode d asked.Size).0) (Number (word_at (bytes_of b) size_at))
size-replies mode b = by_replies b mode asked.Size (λ d. Number d.size) (λ d. step-reply mode d asked.Size
    (Number d.size) d (open-reading mode asked.Size refl) refl) (record { says = λ d h. ap Number h.header.size_word })

-- the bytes of the gaps
pub free-replies : (mode : Mode) (b : List ℕ)
    → Says b (λ d. (step mode d asked.Free).0) (Number (free_bytes (live_of b)))
free-replies mode b = by_replies b mode asked.Free (λ d. Number (free_bytes (live d)))
    (λ d. step-reply mode d asked.Free (Number (free_bytes (live d))) d (open-reading mode asked.Free refl) refl)
    (record { says = λ d h. ap (λ l. Number (free_bytes l)) (denotes-live current b d h) })

-- each segment is whole
pub sanity-replies : (mode : Mode) (b : List ℕ) → Says b (λ d. (step mode d asked.Sanity).0) (Boolean true)
sanity-replies mode b = by_replies b mode asked.Sanity (λ d. Boolean true) (λ d. step-reply mode d asked.Sanity
    (Boolean true) d (open-reading mode asked.Sanity refl) refl) (record { says = λ d h. refl })

-- the number of blocks is that of the extents
pub all_deallocated-replies : (mode : Mode) (b : List ℕ)
    → Says b (λ d. (step mode d asked.AllDeallocated).0) (Boolean (length (live_of b).extents == 0))
all_deallocated-replies mode b = by_replies b mode asked.AllDeallocated (λ d. Boolean (length (live d).extents == 0))
    (λ d. step-reply mode d asked.AllDeallocated (Boolean (length (live d).extents == 0)) d
    (open-reading mode asked.AllDeallocated refl) refl)
    (record { says = λ d h. ap (λ (l : LiveSet). Boolean (length l.extents == 0)) (denotes-live current b d h) })

-- ---- the blocks and gaps, one after another

-- a tile of an index is the block or gap of that index
pub tile-is : {s : SegmentState} {index : ℕ} {r : Option Tile}
    → r ≡ slice_get (tiles_of (bytes_of s.cut.bytes) (length s.cut.bytes)) index
    → option_map span r ≡ slice_get (spans (live_of s.cut.bytes)) index → IsTileOfIndex s index r
tile-is {s} {index} {r} e f = record {
  tile = e;
  span = answered
      (record { says = λ d h. f ∙ ap (λ l. slice_get (spans l) index) (denotes-live current s.cut.bytes d h) });
}
