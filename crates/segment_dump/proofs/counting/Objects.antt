-- What is counted of an object, of all objects, and of a dump.
use Rattle.segment_dump.proofs.Common.{◌≡◌, ℕ, ◌+◌, ◌*◌, ◌<◌, ◌≤◌, List, [], ◌∷◌, ◌++◌, length, Option, Some, None, sym}
use Rattle.segment_dump.proofs.Common.{ap, ◌∙◌, arith, append_assoc, codes, Class, Anonymous, Named, Unique, Kind}
use Rattle.segment_dump.proofs.Common.{size_of, name_text, head_len, padded, Needs, HasContentShape, IsCountable}
use Rattle.segment_dump.proofs.Common.{ValueContent, Scalars, Vector, String, Map, Strings, DumpItem, kind_of_content}
use Rattle.segment_dump.proofs.Common.{count_of_content, IsSmall, body_len, both, item_needs, object_room, only_room}
use Rattle.segment_dump.proofs.Common.{texts_needs, Any, ParsesPrefix, itself, content_text, head_line, item_text}
use Rattle.segment_dump.proofs.{Common.kind_and_count_text, counting.Contents.ContentReads, texts.Options.none-some}
use Rattle.segment_dump.proofs.{texts.Options.some-pair}
use Rattle.segment_dump.specs.Leads.{IsLead, IsMeasure, lead_text, measured}
use Rattle.segment_dump.proofs.counting.Sums.{block-least, node-least, size-least}

-- ---- the lines of an object, part by part

abbrev kind_in : DumpItem → Kind
kind_in i = kind_of_content i.content

abbrev count_in : DumpItem → ℕ
count_in i = count_of_content i.content

named-apart : (n m t a : List ℕ) → n ++ 0x20 ∷ m ++ t ++ a ≡ (n ++ 0x20 ∷ []) ++ (m ++ (t ++ a))
named-apart n m t a = simp append_assoc

lead-apart : (n m t a : List ℕ) → n ++ m ++ t ++ a ≡ n ++ (m ++ (t ++ a))
lead-apart n m t a = simp append_assoc

parts-by : (c : Class) (name : List ℕ) (k : Kind) (n : ℕ) (t a : List ℕ)
    → head_line c name k n ++ t ++ a ≡ lead_text (c, name) ++ (kind_and_count_text k n ++ (t ++ a))
parts-by Named name k n t a = named-apart (codes "named " ++ name_text name) (kind_and_count_text k n) t a
parts-by Unique name k n t a = lead-apart (codes "unique ") (kind_and_count_text k n) t a
parts-by Anonymous name k n t a = lead-apart (codes "anonymous ") (kind_and_count_text k n) t a

item-parts : (i : DumpItem) (a : List ℕ) → item_text i
    ++ a ≡ lead_text (i.class, i.name) ++ (measured (kind_in i, count_in i) ++ (content_text i.content ++ a))
item-parts i a = parts-by i.class i.name (kind_in i) (count_in i) (content_text i.content) a

-- ---- what is small where the object is

padded-least : (n : ℕ) → n ≤ padded n
padded-least n = omega arith

name-least : (n : ℕ) (k : Kind) (m : ℕ) → n ≤ object_room n k m
unfolding object_room
name-least n k m = omega (arith, padded-least n, block-least (head_len + padded n + body_len k m))

count-small : (c : ValueContent) (n : ℕ) → IsSmall (object_room n (kind_of_content c) (count_of_content c))
    → IsSmall (count_of_content c)
unfolding object_room
count-small (Scalars k zs) n s =
    omega (arith, size-least k (length zs), block-least (head_len + padded n + size_of k * length zs))
count-small (Vector k zs) n s = omega (arith, size-least k (length zs), block-least (size_of k * length zs))
count-small (String bs) n s = omega arith
count-small (Map k v ps) n s = omega (arith, node-least k v (length ps))
count-small (Strings ts) n s = omega (arith, block-least (16 * length ts))

abbrev own_room : DumpItem → ℕ
own_room i = object_room (length i.name) (kind_in i) (count_in i)

own-small : (i : DumpItem) → IsCountable i → IsSmall (own_room i) × IsSmall (texts_needs i.content).room
own-small i h = let s = h.small in (omega arith, omega arith)

is-lead : (i : DumpItem) → IsCountable i → IsLead (i.class, i.name)
is-lead i h = (h.nameless, omega (arith, name-least (length i.name) (kind_in i) (count_in i), (own-small i h).0))

is-measure : (i : DumpItem) → IsCountable i → IsMeasure (kind_in i, count_in i)
is-measure i h = count-small i.content (length i.name) (own-small i h).0

-- ---- an object

abbrev pub LeadReads : List ℕ → Option (ℕ × List ℕ) → Type 0
LeadReads = ParsesPrefix lead_text IsLead Any (λ (lead : Class × List ℕ). length lead.1)

abbrev pub MeasureReads : List ℕ → Option ((Kind × ℕ) × List ℕ) → Type 0
MeasureReads = ParsesPrefix measured IsMeasure Any itself

-- what an object is read as
abbrev pub ObjectReads : List ℕ → Option (Needs × List ℕ) → Type 0
ObjectReads = ParsesPrefix item_text IsCountable Any item_needs

abbrev behind_lead : DumpItem → List ℕ → List ℕ
behind_lead i a = measured (kind_in i, count_in i) ++ (content_text i.content ++ a)

lead-found : (text : List ℕ) (o : Option (ℕ × List ℕ)) (i : DumpItem) (a : List ℕ) → LeadReads text o
    → IsCountable i → text ≡ item_text i ++ a → o ≡ Some (length i.name, behind_lead i a)
lead-found text o i a h g e = h.reads (i.class, i.name) (behind_lead i a) (is-lead i g) tt (e ∙ item-parts i a)

-- no lead: no object is read
pub object-no_lead : (text : List ℕ) → LeadReads text None → ObjectReads text None
object-no_lead text h = record {
  reads = λ i a g w e. absurd
      (none-some (length i.name, behind_lead i a) (lead-found text None i a h g e));
}

measure-found : (text : List ℕ) (n : ℕ) (r : List ℕ) (o : Option ((Kind × ℕ) × List ℕ)) (i : DumpItem) (a : List ℕ)
    → LeadReads text (Some (n, r)) → MeasureReads r o → IsCountable i → text ≡ item_text i ++ a
    → (n ≡ length i.name) × (o ≡ Some ((kind_in i, count_in i), content_text i.content ++ a))
measure-found text n r o i a h k g e =
    let p = some-pair n (length i.name) r (behind_lead i a) (lead-found text (Some (n, r)) i a h g e) in
    (p.0, k.reads (kind_in i, count_in i) (content_text i.content ++ a) (is-measure i g) tt p.1)

-- no measure: no object is read
pub object-no_measure : (text : List ℕ) (n : ℕ) (r : List ℕ) → LeadReads text (Some (n, r)) → MeasureReads r None
    → ObjectReads text None
object-no_measure text n r h k = record {
  reads = λ i a g w e. absurd (none-some ((kind_in i, count_in i), content_text i.content ++ a)
      (measure-found text n r None i a h k g e).1);
}

-- the needs of the object whose parts were found
record IsFound (n : ℕ) (k : Kind) (m : ℕ) (o : Option (Needs × List ℕ)) (i : DumpItem) (a : List ℕ) : Type 0 where
  name : n ≡ length i.name
  kind : k ≡ kind_in i
  count : m ≡ count_in i
  content : o ≡ Some (texts_needs i.content, a)

content-found : (text : List ℕ) (n : ℕ) (r : List ℕ) (k : Kind) (m : ℕ) (s : List ℕ) (o : Option (Needs × List ℕ))
    (i : DumpItem) (a : List ℕ) → LeadReads text (Some (n, r)) → MeasureReads r (Some ((k, m), s))
    → ContentReads k m s o → IsCountable i → text ≡ item_text i ++ a → IsFound n k m o i a
content-found text n r k m s o i a h j c g e =
    let p = measure-found text n r (Some ((k, m), s)) i a h j g e in
    let q = some-pair (k, m) (kind_in i, count_in i) s (content_text i.content ++ a) p.1 in
    let kind : k ≡ kind_in i = λ x. (q.0 x).0 in
    let count : m ≡ count_in i = λ x. (q.0 x).1 in
    let content : HasContentShape k m i.content =
    record { kind_is = sym kind; many = sym count; small = (own-small i g).1 } in
    record { name = p.0; kind = kind; count = count; content = c.reads i.content a content tt q.1 }

-- no content: no object is read
pub object-no_content : (text : List ℕ) (n : ℕ) (r : List ℕ) (k : Kind) (m : ℕ) (s : List ℕ)
    → LeadReads text (Some (n, r)) → MeasureReads r (Some ((k, m), s)) → ContentReads k m s None → ObjectReads text None
object-no_content text n r k m s h j c = record {
  reads = λ i a g w e. absurd (none-some (texts_needs i.content, a)
      (content-found text n r k m s None i a h j c g e).content);
}

own-is : (n : ℕ) (k : Kind) (m : ℕ) (i : DumpItem) → n ≡ length i.name → k ≡ kind_in i → m ≡ count_in i
    → object_room n k m ≡ own_room i
own-is n k m i e f g = λ x. object_room (e x) (f x) (g x)

needs-found : (n : ℕ) (k : Kind) (m : ℕ) (own texts sum : Needs) (i : DumpItem)
    → own ≡ only_room (object_room n k m) → object_room n k m ≡ own_room i → texts ≡ texts_needs i.content
    → IsCountable i → (own.room + texts.room < 18446744073709551616 → sum ≡ both own texts) → sum ≡ item_needs i
needs-found n k m own texts sum i e f t g h =
    let own_is : own ≡ only_room (own_room i) = e ∙ ap only_room f in
    let s = g.small in
    let small : own.room + texts.room < 18446744073709551616 =
    omega (arith, ap (λ (x : Needs). x.room) own_is, ap (λ (x : Needs). x.room) t) in
    h small ∙ ap (λ x. both x texts) own_is ∙ ap (both (only_room (own_room i))) t

-- lead, measure and content: an object is read
pub object-some : (text : List ℕ) (n : ℕ) (r : List ℕ) (k : Kind) (m : ℕ) (s : List ℕ) (own texts sum : Needs)
    (last : List ℕ) → LeadReads text (Some (n, r))
    → MeasureReads r (Some ((k, m), s)) → ContentReads k m s (Some (texts, last)) → own ≡ only_room (object_room n k m)
    → (own.room + texts.room < 18446744073709551616 → sum ≡ both own texts) → ObjectReads text (Some (sum, last))
object-some text n r k m s own texts sum last h j c e f = record {
  reads = λ i a g w t.
      let p = content-found text n r k m s (Some (texts, last)) i a h j c g t in
      let q = some-pair texts (texts_needs i.content) last a p.content in
      let same = needs-found n k m own texts sum i e (own-is n k m i p.name p.kind p.count) q.0 g f in
      λ x. Some (same x, q.1 x);
}
