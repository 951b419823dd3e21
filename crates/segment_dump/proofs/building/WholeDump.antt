-- What was built of a dump is what the dump says, and nothing is free after it once the end is cut off.
use Rattle.segment_dump.proofs.Common.{◌≡◌, ℕ, ◌+◌, ◌-◌, ◌≤◌, ◌==◌, true, cond, List, [], ◌∷◌, ◌++◌, length, map, refl}
use Rattle.segment_dump.proofs.Common.{sym, ap, subst, ◌∙◌, arith, IsTrue, filter, and_parts, nat_tests, append-nil}
use Rattle.segment_dump.proofs.Common.{is_legal_size, last_end, Gap, end_of, free_bytes, gap_between, is_proper}
use Rattle.segment_dump.proofs.Common.{proper_from, Class, Anonymous, Named, Unique, class_code, Directory, by_kind}
use Rattle.segment_dump.proofs.Common.{by_name, is_class, live, named_objects, sorted, unique_objects, shrunk}
use Rattle.segment_dump.proofs.Common.{DenotesCurrent, all-sorted, by_kind-strict, by_name-strict, live-extents}
use Rattle.segment_dump.proofs.Common.{live-size, EndBy, HasExactRoom, all_extents, kind_less, name_less, of_class}
use Rattle.segment_dump.proofs.Common.{total, DumpItem, Items, item_of_object, portable, all_items, AreOf, dump_text}
use Rattle.segment_dump.proofs.Common.{end_text, prefix_text, items_text}
use Rattle.std.specs.Prelude.{sum_by}
use Rattle.segment_dump.specs.Succeeding.{AreOrderedItems}
use Rattle.segment_dump.proofs.loading.Portable.{named-in_order, unique-in_order}
use Rattle.segment_dump.proofs.{counting.Dumps.all-text, space.Blocks.total-sorted, loading.DumpObjects.each-of}
use Rattle.segment_dump.proofs.{loading.DumpObjects.portable-told}
use Rattle.segment_dump.proofs.building.ObjectOrder.{class-items, class-ordered, kinds-tell, none-of, of-both}
use Rattle.segment_dump.proofs.space.OneGap.{room-gaps, last-long, last-most}

-- ---- the items of a class

class-self : (c : Class) → (class_code c == class_code c) ≡ true
class-self Named = refl
class-self Unique = refl
class-self Anonymous = refl

of-here : (c : Class) (is : List DumpItem) → AreOf c is → of_class c is ≡ is
of-here c [] a = refl
of-here c (i ∷ is) a = ap (λ b.
    cond b (i ∷ of_class c is) (of_class c is)) (ap (λ x. class_code c == class_code x) a.0 ∙ class-self c)
    ∙ ap (λ l. i ∷ l) (of-here c is a.1)

of-three : (c : Class) (xs ys zs us vs ws : List DumpItem) → of_class c xs ≡ us → of_class c ys ≡ vs
    → of_class c zs ≡ ws → of_class c (xs ++ (ys ++ zs)) ≡ us ++ (vs ++ ws)
of-three c xs ys zs us vs ws e f g = of-both c xs (ys ++ zs) ∙ ap (λ l. of_class c xs ++ l) (of-both c ys zs)
    ∙ (λ i. e i ++ (f i ++ g i))

-- ---- the objects are those of the dump

-- a segment with all objects of a dump is what the dump says
pub built-portable : (e : Directory) (items : Items) → AreOrderedItems items
    → map item_of_object e.objects ≡ all_items items → portable e ≡ items
built-portable e items s same =
    let named : map item_of_object (filter (is_class Named) e.objects) ≡ items.named =
    class-items Named e.objects ∙ ap (of_class Named) same
    ∙ of-three Named items.named items.unique items.anonymous items.named [] [] (of-here Named items.named s.named)
    (none-of Named Unique items.unique refl s.unique) (none-of Named Anonymous items.anonymous refl s.anonymous)
    ∙ append-nil items.named in
    let unique : map item_of_object (filter (is_class Unique) e.objects) ≡ items.unique =
    class-items Unique e.objects
    ∙ ap (of_class Unique) same ∙ of-three Unique items.named items.unique items.anonymous [] items.unique []
    (none-of Unique Named items.named refl s.named) (of-here Unique items.unique s.unique)
    (none-of Unique Anonymous items.anonymous refl s.anonymous) ∙ append-nil items.unique in
    let anonymous : map item_of_object (filter (is_class Anonymous) e.objects) ≡ items.anonymous =
    class-items Anonymous e.objects ∙ ap (of_class Anonymous) same
    ∙ of-three Anonymous items.named items.unique items.anonymous [] [] items.anonymous
    (none-of Anonymous Named items.named refl s.named) (none-of Anonymous Unique items.unique refl s.unique)
    (of-here Anonymous items.anonymous s.anonymous) in
    let first : map item_of_object (named_objects e) ≡ items.named =
    class-ordered name_less by_name (λ o p. refl) by_name-strict (filter (is_class Named) e.objects) items.named
    named s.by_name in
    let second : map item_of_object (unique_objects e) ≡ items.unique =
    class-ordered kind_less by_kind kinds-tell by_kind-strict (filter (is_class Unique) e.objects) items.unique
    unique s.by_kind in
    λ i. record { named = first i; unique = second i; anonymous = anonymous i }

-- the objects of a dump stand in order
pub portable-sorted : (b : List ℕ) (d : Directory) → DenotesCurrent b d → AreOrderedItems (portable d)
portable-sorted b d s =
    let t = portable-told b d s in
    record {
      named = each-of Named (portable d).named t.named;
      unique = each-of Unique (portable d).unique t.unique;
      anonymous = each-of Anonymous (portable d).anonymous t.anonymous;
      by_name = named-in_order b d s;
      by_kind = unique-in_order b d s;
    }

-- ---- the text after its first lines

-- a dump is its front and the objects after it
pub text-behind : (n : ℕ) (items : Items) → dump_text n items
    ≡ prefix_text n (length items.named) (length items.unique) ++ (items_text (all_items items) ++ end_text)
text-behind n items = ap (λ l. prefix_text n (length items.named) (length items.unique) ++ l) (all-text items)

-- ---- nothing is free

-- after the last block is the end tag
cut-room : (e : Directory) (rest : ℕ) → IsTrue (is_proper (live (shrunk e)))
    → HasExactRoom (all_extents e) e.size rest → HasExactRoom (all_extents (shrunk e)) (shrunk e).size 0
unfolding is_proper
cut-room e rest p h =
    let tiles = and_parts (is_legal_size (live (shrunk e)).size)
    (proper_from 128 (live (shrunk e)).extents ((live (shrunk e)).size - 16)) p in
    let all : (live (shrunk e)).extents ≡ sorted (all_extents e) = live-extents (shrunk e) in
    let own : (live e).extents ≡ sorted (all_extents e) = live-extents e in
    let long : 128 + total (sorted (all_extents e)) ≤ last_end 128 (sorted (all_extents e)) =
    subst (λ xs. 128 + total xs ≤ last_end 128 xs) all
    (last-long 128 (live (shrunk e)).extents ((live (shrunk e)).size - 16) tiles.1) in
    let same : last_end 128 (live e).extents ≡ last_end 128 (sorted (all_extents e)) = ap (last_end 128) own in
    record {
      end = h.end;
      start = h.start;
      below = h.below;
      full = h.full;
      room = omega (arith, long, same, h.full, total-sorted (all_extents e));
    }

gap-none : (a b : ℕ) → b ≤ a → gap_between a b ≡ []
gap-none a b l = grind (arith, nat_tests)

-- a segment that was cut after its blocks has no free byte
pub cut-free : (e : Directory) (rest : ℕ) → IsTrue (is_proper (live (shrunk e)))
    → HasExactRoom (all_extents e) e.size rest → free_bytes (live (shrunk e)) ≡ 0
unfolding free_bytes cut-room
cut-free e rest p h =
    let most : last_end 128 (live e).extents ≤ h.end =
    last-most 128 h.end (live e).extents
    (subst (EndBy h.end) (sym (live-extents e)) (all-sorted (λ x. end_of x ≤ h.end) (all_extents e) h.below)) h.start in
    let room = cut-room e rest p h in
    let none : gap_between h.end ((live (shrunk e)).size - 16) ≡ [] =
    gap-none h.end ((live (shrunk e)).size - 16) (omega (arith, most, live-size (shrunk e))) in
    ap (sum_by (λ (g : Gap). g.len)) (room-gaps (shrunk e) 0 p room ∙ none)
