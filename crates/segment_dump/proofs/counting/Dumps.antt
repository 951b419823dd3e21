-- What is counted of all objects, and of a dump.
use Rattle.segment_dump.proofs.Common.{◌≡◌, ◌≢◌, ℕ, ◌+◌, ◌*◌, ◌<◌, ◌≤◌, ◌^◌, List, [], ◌∷◌, ◌++◌, length, Option, Some}
use Rattle.segment_dump.proofs.Common.{None, Result, Ok, Err, refl, sym, ap, subst, ◌∙◌, arith, append_assoc}
use Rattle.segment_dump.proofs.Common.{append-nil, length-append, AllByRecursion, IsErr, false≢true, flat_map-append}
use Rattle.segment_dump.proofs.Common.{Class, Anonymous, Named, Unique, Count, DumpPrefix, Needs, AreCountable}
use Rattle.segment_dump.proofs.Common.{CountsDump}
use Rattle.segment_dump.proofs.Common.{IsDumpPrefix, IsNameless, DumpItem, Items, IsSmall, all_needs, both, prefix_room}
use Rattle.segment_dump.proofs.Common.{item_needs, items_needs, nothing, only_room, all_items, dump_text, end_text}
use Rattle.segment_dump.proofs.{Common.item_text, Common.items_text, texts.OneReading.heads}
use Rattle.segment_dump.proofs.{reading.PrefixLines.PrefixReads}
use Rattle.segment_dump.proofs.{counting.Objects.ObjectReads, texts.AllElements.AllByRecursion-append}
use Rattle.segment_dump.specs.Counting.{CountsObjects}
use Rattle.segment_dump.proofs.texts.Objects.{IsFirst, item-first, letter}
use Rattle.segment_dump.proofs.counting.Sums.{IsPart, all-append, block-least, part-end, part-more, part-small}
use Rattle.segment_dump.proofs.counting.Sums.{part-start}
use Rattle.segment_dump.proofs.texts.Options.{none-some, some-pair, never-ok, ok-same}

-- ---- all objects

-- what is left of the objects, and what was counted of them
pub record ObjectsLeft (rest : List ℕ) (counted whole : Needs) (counter n : ℕ) : Type 0 where
  pub items : List DumpItem
  pub nameless : AllByRecursion IsNameless items
  pub many : counter + length items ≡ n
  pub part : IsPart counted (all_needs item_needs items) whole
  pub is : rest ≡ items_text items ++ end_text

-- the objects counted so far, and the text that is left
pub record InObjects (text rest : List ℕ) (counted : Needs) (counter : ℕ) : Type 0 where
  pub left : (is : List DumpItem) → AllByRecursion IsNameless is → IsSmall (all_needs item_needs is).room
      → text ≡ items_text is ++ end_text → ObjectsLeft rest counted (all_needs item_needs is) counter (length is)

-- before the first object the whole text is left
pub objects-start : (text : List ℕ) (none : Needs) → none ≡ nothing → InObjects text text none 0
objects-start text none z = record {
  left = λ is a s e. record {
    items = is;
    nameless = a;
    many = omega arith;
    part = subst (λ n. IsPart n (all_needs item_needs is) (all_needs item_needs is)) (sym z)
        (part-start (all_needs item_needs is));
    is = e;
  };
}

letter-no_end : (c : Class) → letter c ≢ 0x65
letter-no_end Named = λ e. omega arith
letter-no_end Unique = λ e. omega arith
letter-no_end Anonymous = λ e. omega arith

item-no_end : (i : DumpItem) (a x : List ℕ) → item_text i ++ a ≡ end_text ++ x → ⊥
item-no_end i a x e =
    let f = item-first i.class i a refl in
    letter-no_end i.class (heads (sym f.is ∙ e))

no-items : (rest x : List ℕ) (counted whole : Needs) (is : List DumpItem) → rest ≡ end_text ++ x
    → rest ≡ items_text is ++ end_text → IsPart counted (all_needs item_needs is) whole → counted ≡ whole
no-items rest x counted whole [] q e p = part-end counted whole p
no-items rest x counted whole (i ∷ is) q e p =
    absurd (item-no_end i (items_text is ++ end_text) x (sym (append_assoc (item_text i) (items_text is) end_text)
    ∙ sym e ∙ q))

-- the end line: all objects are counted
pub objects-end : (text rest x : List ℕ) (counted : Needs) (counter : ℕ) → rest ≡ end_text ++ x
    → InObjects text rest counted counter → CountsObjects text (Ok counted)
objects-end text rest x counted counter q h = record {
  counts = λ is a s e. let k = h.left is a s e
      in ap Ok (no-items rest x counted (all_needs item_needs is) k.items q k.is k.part);
}

-- the first of those that are left
record FirstObject (rest : List ℕ) (counted whole : Needs) (counter n : ℕ) (o : Option (Needs × List ℕ)) : Type 0 where
  one : DumpItem
  others : List DumpItem
  nameless : AllByRecursion IsNameless others
  found : o ≡ Some (item_needs one, items_text others ++ end_text)
  many : counter + 1 + length others ≡ n
  part : IsPart counted (both (item_needs one) (all_needs item_needs others)) whole

first-small : (counted whole : Needs) (i : DumpItem) (is : List DumpItem)
    → IsPart counted (all_needs item_needs (i ∷ is)) whole → IsSmall whole.room → IsSmall (item_needs i).room
first-small counted whole i is p s = let q = part-small counted (all_needs item_needs (i ∷ is)) whole p in omega arith

first-object : (rest : List ℕ) (counted whole : Needs) (counter n : ℕ) (o : Option (Needs × List ℕ))
    (is : List DumpItem) → ((x : List ℕ) → rest ≡ end_text ++ x → ⊥) → AllByRecursion IsNameless is
    → counter + length is ≡ n → IsPart counted (all_needs item_needs is) whole → IsSmall whole.room
    → rest ≡ items_text is ++ end_text → ObjectReads rest o → FirstObject rest counted whole counter n o
first-object rest counted whole counter n o [] z a m p s e h = absurd (z [] (e ∙ sym (append-nil end_text)))
first-object rest counted whole counter n o (i ∷ is) z a m p s e h = record {
  one = i;
  others = is;
  nameless = a.1;
  found = h.reads i (items_text is ++ end_text) (record {
    nameless = a.0;
    small = first-small counted whole i is p s;
  }) tt (e ∙ append_assoc (item_text i) (items_text is) end_text);
  many = omega arith;
  part = p;
}

-- one object more is counted
pub objects-more : (text rest : List ℕ) (counted one sum : Needs) (counter : ℕ) (new : List ℕ)
    → ((x : List ℕ) → rest ≡ end_text ++ x → ⊥) → InObjects text rest counted counter
    → ObjectReads rest (Some (one, new))
    → (counted.room + one.room < 18446744073709551616 → sum ≡ both counted one) → InObjects text new sum (counter + 1)
objects-more text rest counted one sum counter new z h r f = record {
  left = λ is a s e.
      let k = h.left is a s e in
      let first = first-object rest counted (all_needs item_needs is) counter (length is) (Some (one, new)) k.items
      z k.nameless k.many k.part s k.is r in
      let same = some-pair one (item_needs first.one) new (items_text first.others ++ end_text) first.found in
      record {
        items = first.others;
        nameless = first.nameless;
        many = first.many;
        part = part-more counted (item_needs first.one) (all_needs item_needs first.others)
            (all_needs item_needs is) sum s first.part
            (subst (λ (m : Needs). counted.room + m.room < 18446744073709551616 → sum ≡ both counted m) same.0 f);
        is = same.1;
      };
}

-- an object that was not read: the count fails
pub objects-cut : (text rest : List ℕ) (counted : Needs) (counter n : ℕ) → ((x : List ℕ) → rest ≡ end_text ++ x → ⊥)
    → InObjects text rest counted counter → ObjectReads rest None → CountsObjects text (Err n)
objects-cut text rest counted counter n z h r = record {
  counts = λ is a s e.
      let k = h.left is a s e in
      let first = first-object rest counted (all_needs item_needs is) counter (length is) None k.items z k.nameless
      k.many k.part s k.is r in
      absurd (none-some (item_needs first.one, items_text first.others ++ end_text) first.found);
}

-- there are no more objects than bytes
first-long : (c : ℕ) (a : List ℕ) → IsFirst c a → 1 ≤ length a
first-long c a f = subst (λ l. 1 ≤ length l) (sym f.is) (omega arith)

item-long : (i : DumpItem) → 1 ≤ length (item_text i)
item-long i = subst (λ l. 1 ≤ length l) (append-nil (item_text i))
    (first-long (letter i.class) (item_text i ++ []) (item-first i.class i [] refl))

items-long : (is : List DumpItem) → length is ≤ length (items_text is)
items-long [] = omega arith
items-long (i ∷ is) = omega (arith, length-append (item_text i) (items_text is), item-long i, items-long is)

ends-long : (is : List DumpItem) (text : List ℕ) → text ≡ items_text is ++ end_text → length is < length text
ends-long is text e = omega (arith, ap length e, length-append (items_text is) end_text, items-long is)

-- as many objects as the text has bytes: the count ends
pub objects-long : (text rest : List ℕ) (counted : Needs) (counter n : ℕ) → length text ≤ counter
    → InObjects text rest counted counter → CountsObjects text (Err n)
objects-long text rest counted counter n l h =
    record { counts = λ is a s e. let k = h.left is a s e in absurd (omega (arith, k.many, ends-long is text e)) }

-- ---- a dump

items-apart : (xs ys : List DumpItem) (a : List ℕ) → items_text (xs ++ ys) ++ a ≡ items_text xs ++ (items_text ys ++ a)
items-apart xs ys a = ap (λ l. l ++ a) (flat_map-append item_text xs ys)
    ∙ append_assoc (items_text xs) (items_text ys) a

-- the three lists of objects are one text
pub all-text : (items : Items) → items_text items.named
    ++ (items_text items.unique ++ (items_text items.anonymous ++ end_text)) ≡ items_text (all_items items) ++ end_text
all-text items =
    ap (λ l. items_text items.named ++ l) (sym (items-apart items.unique items.anonymous end_text))
    ∙ sym (items-apart items.named (items.unique ++ items.anonymous) end_text)

all-needed : (items : Items) → all_needs item_needs (all_items items) ≡ both (all_needs item_needs items.named)
    (both (all_needs item_needs items.unique) (all_needs item_needs items.anonymous))
all-needed items =
    all-append item_needs items.named (items.unique ++ items.anonymous)
    ∙ ap (both (all_needs item_needs items.named)) (all-append item_needs items.unique items.anonymous)

prefix-least : (named unique : ℕ) → (named ≤ prefix_room named unique) × (unique ≤ prefix_room named unique)
unfolding prefix_room
prefix-least named unique = let p = block-least (8 * named) in let q = block-least (8 * unique)
    in (omega arith, omega arith)

abbrev prefix_of : ℕ → Items → DumpPrefix
prefix_of n items = record { size = n; named = length items.named; unique = length items.unique }

-- the front of a dump is one
pub is-prefix : (n : ℕ) (items : Items) → n < 2 ^ 64 → AreCountable items → IsDumpPrefix (prefix_of n items)
is-prefix n items l h =
    let p = prefix-least (length items.named) (length items.unique) in
    let s = h.small in
    record { size = l; named = omega (arith, p.0); unique = omega (arith, p.1) }

abbrev behind_prefix : Items → List ℕ
behind_prefix items = items_text items.named ++ (items_text items.unique ++ (items_text items.anonymous ++ end_text))

prefix-found : (text : List ℕ) (o : Option (DumpPrefix × List ℕ)) (n : ℕ) (items : Items) → PrefixReads text o →
    n < 2 ^ 64
    → AreCountable items → text ≡ dump_text n items → o ≡ Some (prefix_of n items, behind_prefix items)
prefix-found text o n items h l g e = h.reads (prefix_of n items) (behind_prefix items) (is-prefix n items l g) tt e

-- a text without a front is no dump
pub dump-no_prefix : (text : List ℕ) (m : ℕ) → PrefixReads text None → CountsDump text (Err m)
dump-no_prefix text m h = record {
  counts = λ n items l g e. absurd
      (none-some (prefix_of n items, behind_prefix items) (prefix-found text None n items h l g e));
}

objects-found : (text : List ℕ) (prefix : DumpPrefix) (rest : List ℕ) (r : Result Needs ℕ) (n : ℕ) (items : Items)
    → PrefixReads text (Some (prefix, rest)) → CountsObjects rest r → n < 2 ^ 64 → AreCountable items
    → text ≡ dump_text n items → (prefix ≡ prefix_of n items) × (r ≡ Ok (all_needs item_needs (all_items items)))
objects-found text prefix rest r n items h k l g e =
    let p = some-pair prefix (prefix_of n items) rest (behind_prefix items)
    (prefix-found text (Some (prefix, rest)) n items h l g e) in
    let rooms = ap (λ (x : Needs). x.room) (all-needed items) in
    let whole = g.small in
    let small : IsSmall (all_needs item_needs (all_items items)).room = omega arith in (
      p.0,
      k.counts (all_items items) (AllByRecursion-append IsNameless items.named (items.unique ++ items.anonymous)
          g.named (AllByRecursion-append IsNameless items.unique items.anonymous g.unique g.anonymous)) small
          (p.1 ∙ all-text items),
    )

dump-any : (text : List ℕ) (r : Result Count ℕ) → IsErr r → ((m : ℕ) → CountsDump text (Err m)) → CountsDump text r
dump-any text (Ok count) e h = absurd (false≢true e)
dump-any text (Err m) e h = h m

-- a text whose objects were not read is no dump
pub dump-no_objects : (text : List ℕ) (prefix : DumpPrefix) (rest : List ℕ) (j : ℕ) (r : Result Count ℕ) → IsErr r
    → PrefixReads text (Some (prefix, rest)) → CountsObjects rest (Err j) → CountsDump text r
dump-no_objects text prefix rest j r f h k =
    dump-any text r f
    (λ m. record {
      counts = λ n items l g e.
          absurd (never-ok j (all_needs item_needs (all_items items))
          (objects-found text prefix rest (Err j) n items h k l g e).1);
    })

whole-found : (indexes objects sum : Needs) (prefix : DumpPrefix) (n : ℕ) (items : Items)
    → indexes ≡ only_room (prefix_room prefix.named prefix.unique) → prefix ≡ prefix_of n items
    → objects ≡ all_needs item_needs (all_items items) → AreCountable items
    → (indexes.room + objects.room < 18446744073709551616 → sum ≡ both indexes objects) → sum ≡ items_needs items
whole-found indexes objects sum prefix n items e f o g h =
    let first : indexes ≡ only_room (prefix_room (length items.named) (length items.unique)) =
    e ∙ ap (λ (x : DumpPrefix). only_room (prefix_room x.named x.unique)) f in
    let others = o ∙ all-needed items in
    let whole = g.small in
    let small : indexes.room + objects.room < 18446744073709551616 =
    omega (arith, ap (λ (x : Needs). x.room) first, ap (λ (x : Needs). x.room) others) in
    h small ∙ ap (λ x. both x objects) first
    ∙ ap (both (only_room (prefix_room (length items.named) (length items.unique)))) others

-- a text with a front and objects is a dump
pub dump-some : (text : List ℕ) (prefix : DumpPrefix) (rest : List ℕ) (indexes objects sum : Needs)
    → PrefixReads text (Some (prefix, rest)) → CountsObjects rest (Ok objects)
    → indexes ≡ only_room (prefix_room prefix.named prefix.unique)
    → (indexes.room + objects.room < 18446744073709551616 → sum ≡ both indexes objects)
    → CountsDump text (Ok (record { size = prefix.size; needs = sum }))
dump-some text prefix rest indexes objects sum h k e f = record {
  counts = λ n items l g w.
      let p = objects-found text prefix rest (Ok objects) n items h k l g w in
      let same = whole-found indexes objects sum prefix n items e p.0
      (ok-same objects (all_needs item_needs (all_items items)) p.1) g f in
      λ i. Ok (record { size = (p.0 i).size; needs = same i });
}
