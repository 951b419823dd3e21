-- The plans of the commands on a vector of texts, and their results.
use Rattle.segment_manager.proofs.Common as common
use Rattle.seg_types.specs.Commands as asked
use Rattle.segment_manager.specs.Step as step
use Rattle.segment_manager.proofs.containers.ContentPlans.{reserve_with, shrink_with}
use Rattle.segment_manager.proofs.containers.ItemSteps.{asked-met, of_places, room-grown, then_by, then_room}
use Rattle.segment_manager.proofs.containers.MapSteps.{HoldsTexts, in_block, unplaced}
use Rattle.segment_manager.proofs.containers.TextLists.{pushed-last, removed-last}
use Rattle.segment_manager.proofs.directory.AnyDirectory.{with-found}
use common.{Answer, BackingArray, Bool, Directory, Done, Err, Key, List, Literal, LiveSet, New, NoSpace, None, Object}
use common.{Ok, Option, OutOfRange, OwnedText, Place, Plan, Refusal, Refuse, Refused, Reply, Request, Result, Some}
use common.{Storage, TextElement, Texts, Value, [], ap, capacity_for_one, changed, effect, false, found_at}
use common.{grown_backing, if◌then◌else◌, insert, length, live, nat_lt, new_array, no_backing, option_map, perform}
use common.{place, placed_text, placed_texts, refl, remove, requested_text, requested_texts, resized, shrunk_backing}
use common.{slice_get, slice_set, storage_of, sym, texts_of, true, with, with_array, with_capacity, with_items}
use common.{with_owned_text, with_owned_texts, with_storage, with_text, ℕ, ◌*◌, ◌-◌, ◌==◌, ◌∙◌, ◌∷◌, ◌≡◌}

-- ---- the results of allocations

-- the block of a text
abbrev pub then_text : Directory → LiveSet → (OwnedText → Plan) → Option OwnedText → Answer × Directory
then_text d l = then_by (with_text l) d

text-if : (d : Directory) (l : LiveSet) (bs : List ℕ) (next : OwnedText → Plan) (b : Bool)
    → perform d l (if b then next (unplaced bs) else Request (New Storage (length bs)) (λ x. next (in_block bs x)))
    ≡ then_text d l next (if b then Some (unplaced bs) else option_map (in_block bs) (place l (length bs) Storage))
text-if d l bs next true = refl
text-if d l bs next false = asked-met (with_text l) (in_block bs) d l next (λ x. refl) (place l (length bs) Storage)

-- a plan that places a string, by where it is placed
pub text-placed : (d : Directory) (l : LiveSet) (bs : List ℕ) (next : OwnedText → Plan)
    → perform d l (with_owned_text bs next) ≡ then_text d l next (placed_text l bs)
text-placed d l bs next = text-if d l bs next (length bs == 0)

-- the live set with the blocks of several texts
abbrev pub beside_texts : LiveSet → List OwnedText → LiveSet
beside_texts l [] = l
beside_texts l (q ∷ qs) = beside_texts (with_text l q) qs

abbrev pub then_texts : Directory → LiveSet → (List OwnedText → Plan) → Option (List OwnedText) → Answer × Directory
then_texts d l = then_by (beside_texts l) d

texts-mapped : (d : Directory) (l : LiveSet) (next : List OwnedText → Plan) (q : OwnedText)
    (r : Option (List OwnedText))
    → then_texts d (with_text l q) (λ qs. next (q ∷ qs)) r ≡ then_texts d l next (option_map (λ qs. q ∷ qs) r)
texts-mapped d l next q None = refl
texts-mapped d l next q (Some qs) = refl

text-then : (d : Directory) (l : LiveSet) (bss : List (List ℕ)) (next : List OwnedText → Plan) (r : Option OwnedText)
    → ((q : OwnedText) → perform d (with_text l q) (with_owned_texts bss (λ qs. next (q ∷ qs))) ≡ then_texts d
    (with_text l q) (λ qs. next (q ∷ qs)) (placed_texts (with_text l q) bss)) → then_text d l (λ q. with_owned_texts bss
    (λ qs. next (q ∷ qs))) r ≡ then_texts d l next (elim r as (λ _. Option (List OwnedText))
    [ None ↦ None | Some q ↦ option_map (λ qs. q ∷ qs) (placed_texts (with_text l q) bss) ])
text-then d l bss next None more = refl
text-then d l bss next (Some q) more = more q ∙ texts-mapped d l next q (placed_texts (with_text l q) bss)

pub texts-placed : (d : Directory) (l : LiveSet) (bss : List (List ℕ)) (next : List OwnedText → Plan)
    → perform d l (with_owned_texts bss next) ≡ then_texts d l next (placed_texts l bss)
texts-placed d l [] next = refl
texts-placed d l (bs ∷ bss) next = text-placed d l bs (λ q. with_owned_texts bss (λ qs. next (q ∷ qs)))
    ∙ text-then d l bss next (placed_text l bs) (λ q. texts-placed d (with_text l q) bss (λ qs. next (q ∷ qs)))

-- a new array
abbrev pub beside_array : LiveSet → BackingArray → LiveSet
beside_array l u = elim u.extent as (λ _. LiveSet) [ None ↦ l | Some x ↦ resized l x ]

abbrev pub then_array : Directory → LiveSet → (BackingArray → Plan) → Option BackingArray → Answer × Directory
then_array d l = then_by (beside_array l) d

array-if : (d : Directory) (l : LiveSet) (n : ℕ) (next : BackingArray → Plan) (b : Bool)
    → perform d l (if b then next no_backing else Request (New Storage (16 * n)) (λ x. next (of_places n x)))
    ≡ then_array d l next (if b then Some no_backing else option_map (of_places n) (place l (16 * n) Storage))
array-if d l n next true = refl
array-if d l n next false = asked-met (beside_array l) (of_places n) d l next (λ x. refl) (place l (16 * n) Storage)

pub array-placed : (d : Directory) (l : LiveSet) (n : ℕ) (next : BackingArray → Plan)
    → perform d l (with_storage 16 n next) ≡ then_array d l next (new_array l n)
array-placed d l n next = array-if d l n next (n == 0)

-- ---- the array, and then a text

abbrev pub one_more_plan : List OwnedText → BackingArray → List ℕ → (BackingArray → OwnedText → Plan) → Plan
one_more_plan ps t bs next =
    with_capacity 16 (capacity_for_one (length ps) t.capacity) t (λ u. with_owned_text bs (next u))

module _ (d : Directory) (l : LiveSet) (ps : List OwnedText) (t : BackingArray) (bs : List ℕ)
    (next : BackingArray → OwnedText → Plan) where
  -- a plan for one string more that is met
  pub one-more-met : (u : BackingArray) (q : OwnedText)
      → grown_backing l 16 (capacity_for_one (length ps) t.capacity) t ≡ Some u → placed_text (with_array l t u) bs
      ≡ Some q → perform d l (one_more_plan ps t bs next) ≡ perform d (with_text (with_array l t u) q) (next u q)
  one-more-met u q g h = room-grown d l 16 t (capacity_for_one (length ps) t.capacity)
      (λ u. with_owned_text bs (next u)) ∙ ap (then_room d l t (λ u. with_owned_text bs (next u))) g
      ∙ text-placed d (with_array l t u) bs (next u) ∙ ap (then_text d (with_array l t u) (next u)) h

  none-if : (r : Option BackingArray)
      → elim r as (λ _. Option OwnedText) [ None ↦ None | Some u ↦ placed_text (with_array l t u) bs ] ≡ None
      → then_room d l t (λ u. with_owned_text bs (next u)) r ≡ (Refused NoSpace, d)
  none-if None h = refl
  none-if (Some u) h = text-placed d (with_array l t u) bs (next u) ∙ ap (then_text d (with_array l t u) (next u)) h

  -- a plan for one string more that has no space
  pub one-more-unmet : requested_text l ps t bs ≡ None → perform d l (one_more_plan ps t bs next) ≡ (Refused NoSpace, d)
  one-more-unmet h = room-grown d l 16 t (capacity_for_one (length ps) t.capacity) (λ u. with_owned_text bs (next u))
      ∙ none-if (grown_backing l 16 (capacity_for_one (length ps) t.capacity) t) h

-- ---- a new array, and then texts

-- the plan that places all strings in a new array
abbrev pub all_plan : List (List ℕ) → (BackingArray → List OwnedText → Plan) → Plan
all_plan bss next = with_storage 16 (length bss) (λ u. with_owned_texts bss (next u))

module _ (d : Directory) (l : LiveSet) (bss : List (List ℕ)) (next : BackingArray → List OwnedText → Plan) where
  -- a plan for all strings that is met
  pub all-met : (u : BackingArray) (qs : List OwnedText) → new_array l (length bss) ≡ Some u
      → placed_texts (beside_array l u)
      bss ≡ Some qs → perform d l (all_plan bss next) ≡ perform d (beside_texts (beside_array l u) qs) (next u qs)
  all-met u qs g h = array-placed d l (length bss) (λ u. with_owned_texts bss (next u))
      ∙ ap (then_array d l (λ u. with_owned_texts bss (next u))) g ∙ texts-placed d (beside_array l u) bss (next u)
      ∙ ap (then_texts d (beside_array l u) (next u)) h

  all-none-if : (r : Option BackingArray)
      → elim r as (λ _. Option (List OwnedText)) [ None ↦ None | Some u ↦ placed_texts (beside_array l u) bss ] ≡ None
      → then_array d l (λ u. with_owned_texts bss (next u)) r ≡ (Refused NoSpace, d)
  all-none-if None h = refl
  all-none-if (Some u) h =
      texts-placed d (beside_array l u) bss (next u) ∙ ap (then_texts d (beside_array l u) (next u)) h

  -- a plan for all strings that has no space
  pub all-unmet : requested_texts l bss ≡ None → perform d l (all_plan bss next) ≡ (Refused NoSpace, d)
  all-unmet h =
      array-placed d l (length bss) (λ u. with_owned_texts bss (next u)) ∙ all-none-if (new_array l (length bss)) h

-- ---- the commands

-- the text that is read or removed, if the index is in range
abbrev pub text_in : Option OwnedText → Result OwnedText Refusal
text_in r = elim r as (λ _. Result OwnedText Refusal) [ None ↦ Err OutOfRange | Some p ↦ Ok p ]

-- as the calls find the vector
module _ {b : List ℕ} {d : Directory} {key : Key} {p : Place} (h : HoldsTexts b d key p) where
  -- the directory with other strings
  abbrev pub texts_after : List OwnedText → BackingArray → Directory
  texts_after qs u = changed d h.object (Texts qs u)

  -- a plan by the object and its value
  by-texts : (next : Object → Value → Plan)
      → with (found_at d key) (λ o. next o o.value) ≡ next h.object (Texts h.texts h.table)
  by-texts next = with-found d key h.object (λ o. next o o.value) h.is ∙ ap (next h.object) h.value

  -- one text is read
  pub got-text : (i : ℕ) (r : Option OwnedText) → slice_get h.texts i ≡ r
      → effect d (asked.Get key i) ≡ with (text_in r) (λ q. Reply (TextElement q.bytes) d)
  got-text i r g = by-texts (λ o v. step.get d v i) ∙ ap (λ r. with (text_in r) (λ q. Reply (TextElement q.bytes) d)) g

  -- another in the place of one
  abbrev pub set_in : ℕ → OwnedText → Plan
  set_in i q = Reply Done (texts_after (slice_set h.texts i q) h.table)

  -- the plan of `set` for a string of the vector
  pub set-text : (i : ℕ) (bs : List ℕ) (r : Option OwnedText) → slice_get h.texts i ≡ r
      → effect d (asked.Set key i (asked.Quoted bs)) ≡ with (text_in r) (λ old. with_owned_text bs (set_in i))
  set-text i bs r g = by-texts (λ o v. step.set d o v i (asked.Quoted bs))
      ∙ ap (λ r. with (text_in r) (λ old. with_owned_text bs (set_in i))) g

  -- one more text, among the others or after the last
  abbrev pub insert_in : ℕ → BackingArray → OwnedText → Plan
  insert_in i u q = Reply Done (texts_after (insert h.texts i q) u)

  -- the plan that inserts a string
  abbrev pub insert_plan : ℕ → List ℕ → Plan
  insert_plan i bs = one_more_plan h.texts h.table bs (insert_in i)

  -- the plan of `push` for a string
  pub push-text : (bs : List ℕ) → effect d (asked.Push key (asked.Quoted bs)) ≡ insert_plan (length h.texts) bs
  push-text bs = by-texts (λ o v. step.push d o v (asked.Quoted bs))
      ∙ (λ i. one_more_plan h.texts h.table bs (λ u q. Reply Done (texts_after (sym (pushed-last h.texts q) i) u)))

  -- the plan of `insert` for a string
  pub insert-text : (i : ℕ) (bs : List ℕ) (b : Bool) → nat_lt (length h.texts) i ≡ b
      → effect d (asked.Insert key i (asked.Quoted bs)) ≡ (if b then Refuse OutOfRange else insert_plan i bs)
  insert-text i bs b g = by-texts (λ o v. step.insert_at d o v i (asked.Quoted bs))
      ∙ ap (λ (b : Bool). if b then Refuse OutOfRange else insert_plan i bs) g

  -- one text less
  pub erase-text : (i : ℕ) (r : Option OwnedText) → slice_get h.texts i ≡ r
      → effect d (asked.Erase key i) ≡ with (text_in r) (λ q. Reply Done (texts_after (remove h.texts i) h.table))
  erase-text i r g = by-texts (λ o v. step.erase d o v i)
      ∙ ap (λ r. with (text_in r) (λ q. Reply Done (texts_after (remove h.texts i) h.table))) g

  -- the last
  pub pop-text : (r : Option OwnedText) → slice_get h.texts (length h.texts - 1) ≡ r → effect d (asked.Pop key)
      ≡ with (text_in r) (λ q. Reply (TextElement q.bytes) (texts_after (remove h.texts (length h.texts - 1)) h.table))
  pop-text r g = by-texts (λ o v. step.pop d o v) ∙ (λ i. with (text_in (g i)) (λ q.
      Reply (TextElement q.bytes) (texts_after (sym (removed-last h.texts) i) h.table)))

  -- all texts are replaced, by none or by others
  pub assign-none : effect d (asked.Assign key []) ≡ Reply Done (texts_after [] h.table)
  assign-none = by-texts (λ o v. step.assign d o v [])

  -- the plan that assigns strings in storage
  abbrev pub assign_in : BackingArray → List OwnedText → Plan
  assign_in u qs = Reply Done (texts_after qs u)

  -- the plan of `assign` for at least one string
  pub assign-some : (l : Literal) (ls : List Literal) (bss : List (List ℕ)) → texts_of (l ∷ ls) ≡ Ok bss
      → effect d (asked.Assign key (l ∷ ls)) ≡ all_plan bss assign_in
  assign-some l ls bss g =
      by-texts (λ o v. step.assign d o v (l ∷ ls)) ∙ ap (λ r. with r (λ bss. all_plan bss assign_in)) g

  -- places
  pub reserve-texts : (n : ℕ) → effect d (asked.Reserve key n) ≡ with_capacity 16 n h.table (λ u. assign_in u h.texts)
  reserve-texts n = by-texts (λ o v. with (storage_of v) (reserve_with d o v n))

  -- the plan of `shrink` for a vector of strings
  pub shrink-texts : effect d (asked.Shrink key)
      ≡ assign_in (shrunk_backing (live d) 16 (length h.texts) h.table) h.texts
  shrink-texts = by-texts (λ o v. with (storage_of v) (shrink_with d o v))

  -- the plan of `clear` for a vector of strings
  pub clear-texts : effect d (asked.Clear key) ≡ assign_in h.table []
  clear-texts = by-texts (λ o v. with (storage_of v) (λ s. Reply Done (changed d o (with_items v []))))
