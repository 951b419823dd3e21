-- An object of a line is made, with nothing in it.
use Rattle.seg_types.specs.declared.kinds.Kind.TheVariants as kinds
use Rattle.seg_types.specs.Commands as asked
use Rattle.segment_dump.proofs.Common.{◌≡◌, inl, ℕ, ◌+◌, ◌*◌, ◌^◌, ◌<◌, pos, List, length, replicate, Result, Ok, Err}
use Rattle.segment_dump.proofs.Common.{refl, sym, ap, subst, ◌∙◌, arith, Class, Anonymous, Named, Unique, Kind, Refusal}
use Rattle.segment_dump.proofs.Common.{size_of, Key, node_len, Made, Directory, object_len, padded, value_len, head_len}
use Rattle.segment_dump.proofs.Common.{bare, class_of, name_of, TakesStep, SegmentState, ObjectLine, HasIndexSlot}
use Rattle.segment_dump.proofs.Common.{CanBuildItem, ReadsKindAndCount, StartsUnder, content_need, first_content}
use Rattle.segment_dump.proofs.Common.{HasBuiltItems, IsFilling, Site, item_key, key_in, IsBuildableContent, IsNameIn}
use Rattle.segment_dump.proofs.Common.{StandsFilling, ValueContent, DumpItem, Map, Scalars, String, Strings, Vector}
use Rattle.segment_dump.proofs.Common.{count_of_content, kind_of_content, block_room, body_len, elements_room}
use Rattle.segment_dump.proofs.Common.{item_needs, object_room, texts_needs, all_needs, Write, step}
use Rattle.std.proofs.lemmas.List.{length-replicate}
use Rattle.segment_manager.specs.State.{handle_answer}
use Rattle.segment_dump.specs.{Builders.IsCountOf, Building.IsRest}
use Rattle.segment_dump.proofs.building.BuildSteps.{HasEntry, IsPlain, made, map-plain, numbers-plain, string-plain}
use Rattle.segment_dump.proofs.building.BuildSteps.{texts-plain}
use Rattle.segment_dump.proofs.{building.BuildSteps.vector-plain, texts.Options.never-ok, texts.Options.ok-same}
use Rattle.segment_dump.proofs.{filling.FillSteps.StepsTo}
use Rattle.segment_dump.proofs.filling.OneElement.{led, times-rest, texts-rest, stands-filling}
use Rattle.segment_dump.proofs.building.ObjectOrder.{named-len, new-none, unique-len}
use Rattle.segment_dump.proofs.space.OneGap.{block-rest, rest-both, needs-rest}

-- ---- the key of an item

class-key : (c : Class) (name : List ℕ) (kind : Kind) → class_of (key_in c name kind) ≡ c
class-key Named name kind = refl
class-key Unique name kind = refl
class-key Anonymous name kind = refl

name-key : (c : Class) (name : List ℕ) (kind : Kind) → IsNameIn c name → name_of (key_in c name kind) ≡ name
name-key Named name kind h = refl
name-key Unique name kind h = sym h
name-key Anonymous name kind h = sym h

-- ---- what it is made with

first-plain : (kind : Kind) (n : ℕ) → IsPlain (first_content kind n)
first-plain (kinds.Scalar k) n = numbers-plain k (replicate n (pos 0))
first-plain kinds.String n = string-plain
first-plain (kinds.Vector k) n = vector-plain k
first-plain (kinds.Map k v) n = map-plain k v
first-plain kinds.Strings n = texts-plain

first-len : (kind : Kind) (n : ℕ) → value_len (bare (first_content kind n)) ≡ body_len kind n
first-len (kinds.Scalar k) n = ap (λ m. size_of k * m) (length-replicate n (pos 0))
first-len kinds.String n = refl
first-len (kinds.Vector k) n = refl
first-len (kinds.Map k v) n = refl
first-len kinds.Strings n = refl

elements-rest : (kind : Kind) (n : ℕ) → IsRest (elements_room kind n)
elements-rest (kinds.Scalar k) n = inl refl
elements-rest kinds.String n = inl refl
elements-rest (kinds.Vector k) n = block-rest (size_of k * n)
elements-rest (kinds.Map k v) n =
    times-rest (block_room (node_len (size_of k) (size_of v))) n (block-rest (node_len (size_of k) (size_of v)))
elements-rest kinds.Strings n = block-rest (16 * n)

content-rest : (c : ValueContent) → IsRest (texts_needs c).room
content-rest (Scalars k zs) = inl refl
content-rest (Vector k zs) = inl refl
content-rest (String bs) = block-rest (length bs)
content-rest (Map k v ps) = inl refl
content-rest (Strings ts) = texts-rest ts

count-good : (c : ValueContent) → IsBuildableContent c → IsCountOf (kind_of_content c) (count_of_content c)
    × (count_of_content c < 2 ^ 64)
count-good (Scalars k zs) h = ((h.0, h.1), omega (arith, h.1))
count-good (Vector k zs) h = (tt, h.0)
count-good (String bs) h = (tt, omega arith)
count-good (Map k v ps) h = (tt, h.0)
count-good (Strings ts) h = (tt, h.0)

-- the bytes of its own block, and those of its elements
needs-apart : (i : DumpItem) (name : List ℕ) → name ≡ i.name → (item_needs i).room
    ≡ block_room (object_len name (bare (first_content (kind_of_content i.content) (count_of_content i.content))))
    + content_need i.content
unfolding object_room
needs-apart i name e =
    let kind = kind_of_content i.content in
    let n = count_of_content i.content in
    let len : object_len name (bare (first_content kind n)) ≡ head_len + padded (length i.name) + body_len kind n =
    (λ j. head_len + padded (length (e j)) + first-len kind n j) in
    omega (arith, ap block_room len)

item-rest : (i : DumpItem) → IsRest (item_needs i).room
item-rest i =
    let kind = kind_of_content i.content in
    let n = count_of_content i.content in
    let content = first_content kind n in
    let own : ℕ = object_len i.name (bare content) in
    subst IsRest (sym (needs-apart i i.name refl)) (rest-both (block_room own) (content_need i.content) (block-rest own)
    (rest-both (elements_room kind n) (texts_needs i.content).room (elements-rest kind n) (content-rest i.content)))

-- the needs of objects are a multiple of 16
pub items-rest : (is : List DumpItem) → IsRest (all_needs item_needs is).room
items-rest is = needs-rest item_needs item-rest is

-- ---- a place in the index

entry-in : (d : Directory) (site : Site) (done : List DumpItem) (rest : ℕ) (c : Class)
    → HasBuiltItems d site done rest → HasIndexSlot site done c → HasEntry d c
entry-in d site done rest Named b h = omega (arith, named-len d done b.items, b.named, h)
entry-in d site done rest Unique b h = omega (arith, unique-len d done b.items, b.unique, h)
entry-in d site done rest Anonymous b h = tt

-- ---- the object is made

made-handle : (called : Result ℕ Refusal) (h : ℕ) → handle_answer called ≡ Made h → called ≡ Ok h
made-handle (Ok g) h e = let same : g ≡ h = cc in ap Ok same
made-handle (Err why) h e = absurd (cc)

pub record IsNew (s : SegmentState) (site : Site) (done : List DumpItem) (i : DumpItem) (more : ℕ)
    (called : Result ℕ Refusal) : Type 0 where
  pub handle : ℕ
  pub is : called ≡ Ok handle
  pub stands : StandsFilling s site done (record { class = i.class; name = i.name; handle = handle })
      (bare (first_content (kind_of_content i.content) (count_of_content i.content))) (content_need i.content + more)

pub new-object : (old new : SegmentState) (site : Site) (done : List DumpItem) (i : DumpItem) (more room : ℕ)
    (called : Result ℕ Refusal) → CanBuildItem old site done i more room
    → TakesStep old new (asked.Construct (item_key i)
    (first_content (kind_of_content i.content) (count_of_content i.content))) (handle_answer called)
    → IsNew new site done i more called
new-object old new site done i more room called next moved =
    let s = next.stands in
    let d = s.directory in
    let key = item_key i in
    let kind = kind_of_content i.content in
    let n = count_of_content i.content in
    let content = first_content kind n in
    let rest : ℕ = content_need i.content + more in
    let class : class_of key ≡ i.class = class-key i.class i.name kind in
    let name : name_of key ≡ i.name = name-key i.class i.name kind next.good.name in
    let needs : (item_needs i).room + more ≡ block_room (object_len (name_of key) (bare content)) + rest =
    omega (arith, needs-apart i (name_of key) name) in
    let built : HasBuiltItems d site done (block_room (object_len (name_of key) (bare content)) + rest) =
    subst (HasBuiltItems d site done) needs s.built in
    let r : IsRest rest = rest-both (content_need i.content) more
    (rest-both (elements_room kind n) (texts_needs i.content).room (elements-rest kind n) (content-rest i.content))
    next.rest in
    let entry : HasEntry d (class_of key) =
    subst (HasEntry d) (sym class) (entry-in d site done ((item_needs i).room + more) i.class s.built next.place) in
    let m = made d site done key content rest s.stands.denotes.directory (new-none d done i s.built.items next.new)
    entry (first-plain kind n) (omega arith) built r in
    let done' : StepsTo (step Write d (asked.Construct key content)) (Made m.handle)
    (λ e. IsFilling e site done (record { class = class_of key; name = name_of key; handle = m.handle })
    (bare content) rest) =
    record { next = m.next; is = m.is; holds = m.filling } in
    let u = led s.stands s.mode _ moved done' in
    record {
      handle = m.handle;
      is = made-handle called m.handle u.given_is;
      stands = subst (λ l. StandsFilling new site done (record { class = i.class; name = l; handle = m.handle })
          (bare content) rest) name
          (subst (λ c. StandsFilling new site done (record { class = c; name = name_of key; handle = m.handle })
          (bare content) rest) class (stands-filling u.stands u.mode u.holds));
    }

-- ---- after its kind and its count

module _ {E F : Type 0} (old new : SegmentState) (key : Kind → Key) (tokens : List ℕ) where
  -- no shape: no object is started
  pub shape-unread : (e : E) (result : Result (ℕ × ObjectLine) F) → ReadsKindAndCount tokens (Err e)
      → StartsUnder old new key tokens result
  shape-unread e result r = record {
    starts = λ site done i more room next k w.
        let q = r.reads (kind_of_content i.content) (count_of_content i.content)
        (count-good i.content next.good.content).1 w in
        absurd (never-ok e (record {
          kind = kind_of_content i.content;
          count = count_of_content i.content;
          at = q.0;
        }) q.1);
  }

  -- an object of the shape is started
  pub started : (shape : ObjectLine) (called : Result ℕ Refusal) (result : Result (ℕ × ObjectLine) F)
      → ReadsKindAndCount {E = E} tokens (Ok shape) → (IsCountOf shape.kind shape.count
      → TakesStep old new (asked.Construct (key shape.kind) (first_content shape.kind shape.count))
      (handle_answer called))
      → ((h : ℕ) → called ≡ Ok h → result ≡ Ok (h, shape)) → StartsUnder old new key tokens result
  started shape called result r moved ok = record {
    starts = λ site done i more room next k w.
        let kind = kind_of_content i.content in
        let n = count_of_content i.content in
        let good = count-good i.content next.good.content in
        let q = r.reads kind n good.1 w in
        let said : ObjectLine = record { kind = kind; count = n; at = q.0 } in
        let is : shape ≡ said = ok-same {E = E} shape said q.1 in
        let step' : TakesStep old new (asked.Construct (key kind) (first_content kind n)) (handle_answer called) =
        subst (λ (s : ObjectLine). IsCountOf s.kind s.count
        → TakesStep old new (asked.Construct (key s.kind) (first_content s.kind s.count)) (handle_answer called)) is
        moved good.0 in
        let m = new-object old new site done i more room called next
        (subst (λ l. TakesStep old new (asked.Construct l (first_content kind n)) (handle_answer called)) k step') in
        record {
          handle = m.handle;
          at = q.0;
          is = ok m.handle m.is ∙ ap (λ (s : ObjectLine). Ok (m.handle, s)) is;
          stands = m.stands;
        };
  }
