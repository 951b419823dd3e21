-- An element more of an object that is being filled.
use Rattle.seg_types.specs.declared.kinds.Kind.TheVariants as kinds
use Rattle.seg_types.specs.Commands as asked
use Rattle.segment_dump.proofs.Common.{◌≡◌, inl, ℕ, zero, suc, ◌+◌, ◌*◌, ◌<◌, ◌≤◌, ℤ, pos, true, false, List, [], ◌∷◌}
use Rattle.segment_dump.proofs.Common.{◌++◌, length, map, replicate, refl, sym, ap, subst, ◌∙◌, arith, append_assoc}
use Rattle.segment_dump.proofs.Common.{append-nil, ◌^◌, flat_map, int_lt, slice_set, AllByRecursion, suc-mul, zero-mul}
use Rattle.segment_dump.proofs.Common.{ints, length-append, length-map, map-append, Kind, ScalarKind, Command}
use Rattle.segment_dump.proofs.Common.{literal_of, is_value, size_of, ByHandle, node_len, NumberPair, item_of, Write}
use Rattle.segment_dump.proofs.Common.{Answer, Done, Boolean, Directory, IsDirectory, current, Numbers, Pairs, Texts}
use Rattle.segment_dump.proofs.Common.{Value, TakesStep, TakesStepOfKind, SegmentState, DenotesCurrent, step}
use Rattle.segment_dump.proofs.Common.{step_of_kind, IsFilling, IsByteList, AreRising, AreValues, FillState, FillsAt}
use Rattle.segment_dump.proofs.Common.{Site, DumpItem, Head, StandsFilling, IsTypedPair, IsPartialValue, head_of}
use Rattle.segment_dump.proofs.Common.{ValueContent, Map, Scalars, String, Strings, Vector, bytes_in, content_of}
use Rattle.segment_dump.proofs.Common.{count_of_content, all_needs, block_room, text_needs, element_line, pair_line}
use Rattle.segment_dump.proofs.{Common.text_lines, building.BuildSteps.built}
use Rattle.segment_manager.specs.State.{Transitions}
use Rattle.segment_dump.specs.{Builders.IsFilled, Building.HasExactCapacity}
use Rattle.segment_dump.specs.Filling.{map_course, strings_course, vector_course, FillCourse, HasFirstElements}
use Rattle.segment_dump.specs.Filling.{HasReservedSlots, StandsBuilt, array_course, filled_item}
use Rattle.segment_dump.proofs.filling.FillSteps.{AreLess, StepsTo, pushed, text-pushed, was-put, was-set}
use Rattle.segment_dump.proofs.space.OneGap.{IsRest, block-rest, rest-both, needs-rest}

-- ---- a call that is a step

-- it is answered so, and leads to such a directory
pub record Led {A : Type 0} (new : SegmentState) (answer given : A) (Next : Directory → Type 0) : Type 0 where
  pub given_is : answer ≡ given
  pub directory : Directory
  pub stands : DenotesCurrent new.cut.bytes directory
  pub mode : new.mode ≡ Write
  pub holds : Next directory

module _ {old new : SegmentState} {d : Directory} {answer given : Answer} {Next : Directory → Type 0}
    (s : DenotesCurrent old.cut.bytes d) (w : old.mode ≡ Write) where
  led-by : (next : Directory → Answer × Directory) → Transitions old new answer next → StepsTo (next d) given Next
      → Led new answer given Next
  led-by next m t = record {
    given_is = m.answers d s ∙ ap (λ (o : Answer × Directory). o.0) t.is;
    directory = t.next;
    stands = subst (λ (o : Answer × Directory). DenotesCurrent new.cut.bytes o.1) t.is (m.denotes d s);
    mode = m.stays.mode ∙ w;
    holds = t.holds;
  }

  -- a step that was taken leads to the next state of the filling
  pub led : (c : Command) → TakesStep old new c answer → StepsTo (step Write d c) given Next → Led new answer given Next
  led c m t = led-by (λ d. step Write d c) (subst (λ mode. Transitions old new answer (λ d. step mode d c)) w m) t

  -- a step for a kind that was taken leads to the next state of the filling
  pub led-of_kind : (h : ℕ) (kind : Kind) (c : Command) → TakesStepOfKind old new (ByHandle h) kind c answer
      → StepsTo (step_of_kind Write d (ByHandle h) kind c) given Next → Led new answer given Next
  led-of_kind h kind c m t =
      led-by (λ d. step_of_kind Write d (ByHandle h) kind c)
      (subst (λ mode. Transitions old new answer (λ d. step_of_kind mode d (ByHandle h) kind c)) w m) t

-- it is filled so far
pub stands-filling : {s : SegmentState} {d : Directory} {site : Site} {done : List DumpItem} {head : Head} {v : Value}
    {rest : ℕ} → DenotesCurrent s.cut.bytes d → s.mode ≡ Write → IsFilling d site done head v rest
    → StandsFilling s site done head v rest
stands-filling {d = d} st mode filling = record { directory = d; stands = st; mode = mode; filling = filling }

-- ---- lists

one-behind : {X : Type 0} (xs : List X) (x : X) (ys : List X) → xs ++ x ∷ ys ≡ (xs ++ x ∷ []) ++ ys
one-behind xs x ys = sym (append_assoc xs (x ∷ []) ys)

one-longer : {X : Type 0} (xs : List X) (x : X) → length (xs ++ x ∷ []) ≡ length xs + 1
one-longer xs x = omega (arith, length-append xs (x ∷ []))

set-behind : (xs : List ℤ) (y z : ℤ) (ys : List ℤ) → slice_set (xs ++ y ∷ ys) (length xs) z ≡ (xs ++ z ∷ []) ++ ys
set-behind [] y z ys = refl
set-behind (x ∷ xs) y z ys = ap (λ l. x ∷ l) (set-behind xs y z ys)

all-last : {X : Type 0} (P : X → Type 0) (xs : List X) (x : X) (ys : List X) → AllByRecursion P (xs ++ x ∷ ys) → P x
all-last P [] x ys a = a.0
all-last P (y ∷ xs) x ys a = all-last P xs x ys a.1

-- ---- an element more

-- what the next lines have, and what the call leads to that does it
pub record NextElement {Y : Type 0} (s : SegmentState) (text : List ℕ) (p : FillState) (h n : ℕ) (line : Y → List ℕ)
    (Good : Y → Type 0) (kind : Kind) (c : Y → Command) (answer : Answer) : Type 0 where
  pub value : Y
  pub after : List ℕ
  pub text_is : text ≡ line value ++ after
  pub good : Good value
  pub leads : (new : SegmentState) (given : Answer) → TakesStepOfKind s new (ByHandle h) kind (c value) given
      → (given ≡ answer) × FillsAt new after p h (n + 1)

-- the directory has it after those before it
record HasNext {X Y : Type 0} (way : FillCourse X Y) (p : FillState) (h : ℕ) (prefix : List X) (y : Y) (back : List Y)
    (e : Directory) : Type 0 where
  one : X
  items : way.items (prefix ++ one ∷ []) ≡ way.items prefix ++ y ∷ []
  filling : IsFilling e p.site p.done (head_of p h) (way.value (prefix ++ one ∷ []) back) (way.need back + p.more)

-- what is left of a text
next-text : (text left after one rest : List ℕ) → text ≡ left ++ after → left ≡ one ++ rest
    → text ≡ one ++ (rest ++ after)
next-text text left after one rest e f = e ∙ ap (λ l. l ++ after) f ∙ append_assoc one rest after

steps-so : {o : Answer × Directory} {a : Answer} {P Q : Directory → Type 0} → StepsTo o a P
    → ((e : Directory) → P e → Q e) → StepsTo o a Q
steps-so t f = record { next = t.next; is = t.is; holds = f t.next t.holds }

module _ {X Y : Type 0} (way : FillCourse X Y) (s : SegmentState) (text : List ℕ) (p : FillState) (h n : ℕ)
    (all : List Y) (kind : Kind) (c : Y → Command) (answer : Answer) (Good : Y → Type 0) (l : n < length all)
    (g : AllByRecursion Good all) (count : (prefix : List X) → length (way.items prefix) ≡ length prefix)
    (part : (v : Value) (left : List ℕ) (need : ℕ) → HasFirstElements way all (n + 1) v left need
    → IsPartialValue p.content (n + 1) v left need)
    (steps : (prefix : List X) (y : Y) (back : List Y) → all ≡ way.items prefix ++ y ∷ back → n ≡ length prefix → Good y
    → (d : Directory) → IsDirectory current d
    → IsFilling d p.site p.done (head_of p h) (way.value prefix (y ∷ back)) (way.need (y ∷ back) + p.more)
    → StepsTo (step_of_kind Write d (ByHandle h) kind (c y)) answer (HasNext way p h prefix y back)) where
  next-behind : (f : FillsAt s text p h n) (q : HasFirstElements way all n f.value f.left f.need) (back : List Y)
      → q.back ≡ back → NextElement s text p h n way.line Good kind c answer
  next-behind f q [] b = absurd (omega (
    arith,
    l,
    q.many,
    count q.prefix,
    ap length (q.all_are ∙ ap (λ ys. way.items q.prefix ++ ys) b ∙ append-nil (way.items q.prefix)),
  ))
  next-behind f q (y ∷ back) b =
      let prefix = q.prefix in
      let st = f.stands in
      let a : all ≡ way.items prefix ++ y ∷ back = q.all_are ∙ ap (λ ys. way.items prefix ++ ys) b in
      let is : Good y = all-last Good (way.items prefix) y back (subst (AllByRecursion Good) a g) in
      let filling : IsFilling st.directory p.site p.done (head_of p h) (way.value prefix (y ∷ back))
      (way.need (y ∷ back) + p.more) =
      subst (λ m. IsFilling st.directory p.site p.done (head_of p h) (way.value prefix (y ∷ back)) (m + p.more))
      (q.need_is ∙ ap way.need b) (subst (λ v. IsFilling st.directory p.site p.done (head_of p h) v (f.need + p.more))
      (q.value_is ∙ ap (way.value prefix) b) st.filling) in
      let made = steps prefix y back a q.many is st.directory st.stands.denotes.directory filling in
      record {
        value = y;
        after = flat_map way.line back ++ p.after;
        text_is = next-text text f.left p.after (way.line y) (flat_map way.line back) f.text_is (q.text_is
            ∙ ap (flat_map way.line) b);
        good = is;
        leads = λ new given r.
            let u = led-of_kind st.stands st.mode _ _ _ r made in
            let prefix' : List X = prefix ++ u.holds.one ∷ [] in (
              u.given_is,
              record {
                value = way.value prefix' back;
                left = flat_map way.line back;
                need = way.need back;
                part = part (way.value prefix' back) (flat_map way.line back) (way.need back) (record {
                  prefix = prefix';
                  back = back;
                  all_are = a ∙ one-behind (way.items prefix) y back ∙ ap (λ ys. ys ++ back) (sym u.holds.items);
                  many = omega (arith, q.many, one-longer prefix u.holds.one);
                  value_is = refl;
                  text_is = refl;
                  need_is = refl;
                });
                stands = stands-filling u.stands u.mode u.holds.filling;
                text_is = refl;
              },
            );
      }

module _ (s : SegmentState) (text : List ℕ) (p : FillState) (h n : ℕ) (f : FillsAt s text p h n) where
  its-part : {c : ValueContent} → p.content ≡ c → IsPartialValue c n f.value f.left f.need
  its-part e = subst (λ (c : ValueContent). IsPartialValue c n f.value f.left f.need) e f.part

  as-part : {c : ValueContent} → p.content ≡ c → (v : Value) (left : List ℕ) (need : ℕ)
      → IsPartialValue c (n + 1) v left need → IsPartialValue p.content (n + 1) v left need
  as-part e v left need q = subst (λ (c : ValueContent). IsPartialValue c (n + 1) v left need) (sym e) q

  -- ---- a scalar of an array or a vector

  -- the next element of an array is set
  pub next-scalar : (k : ScalarKind) (zs : List ℤ) → p.content ≡ Scalars k zs → n < length zs → AreValues k zs
      → NextElement s text p h n (element_line k) (λ z. is_value k z ≡ true) (kinds.Scalar k)
      (λ z. asked.Set (ByHandle h) n (literal_of k z)) Done
  next-scalar k zs e l g = next-behind (array_course k) s text p h n zs (kinds.Scalar k)
      (λ z. asked.Set (ByHandle h) n (literal_of k z)) Done (λ z. is_value k z ≡ true) l g (λ prefix. refl) (as-part e)
      (λ prefix z back a m is d i filling.
      let zeros : List ℤ = replicate (length back) (pos 0) in
      let set : slice_set (prefix ++ pos 0 ∷ zeros) n z ≡ (prefix ++ z ∷ []) ++ zeros =
      ap (λ i. slice_set (prefix ++ pos 0 ∷ zeros) i z) m ∙ set-behind prefix (pos 0) z zeros in
      steps-so (was-set d p.site p.done (head_of p h) k (prefix ++ pos 0 ∷ zeros) (0 + p.more) n z i filling is
      (omega (arith, m, length-append prefix (pos 0 ∷ zeros)))) (λ e t. record {
        one = z;
        items = refl;
        filling = subst (λ ys. IsFilling e p.site p.done (head_of p h) (Numbers k ys) (0 + p.more)) set t;
      })) f (its-part e) _ refl

  -- the next element of a vector is pushed
  pub next-pushed : (k : ScalarKind) (zs : List ℤ) → p.content ≡ Vector k zs → n < length zs → AreValues k zs
      → NextElement s text p h n (element_line k) (λ z. is_value k z ≡ true) (kinds.Vector k)
      (λ z. asked.Push (ByHandle h) (literal_of k z)) Done
  next-pushed k zs e l g =
      let q : HasReservedSlots (vector_course k) zs n f.value f.left f.need = its-part e in
      next-behind (vector_course k q.table) s text p h n zs (kinds.Vector k)
      (λ z. asked.Push (ByHandle h) (literal_of k z)) Done (λ z. is_value k z ≡ true) l g (λ prefix. refl)
      (λ v left need r. as-part e v left need (record { table = q.table; slots = q.slots; part = r }))
      (λ prefix z back a m is d i filling.
      let slots = q.slots in
      steps-so (pushed d p.site p.done (head_of p h) k prefix q.table (0 + p.more) z i filling is
      (omega (arith, m, slots, l))) (λ e t. record { one = z; items = refl; filling = t })) f q.part _ refl

-- ---- a pair

int-asym : (x y : ℤ) → int_lt x y ≡ true → int_lt y x ≡ false
int-asym x y e = grind (arith, ints)

-- this many multiples of 16 are one
pub times-rest : (b n : ℕ) → IsRest b → IsRest (n * b)
times-rest b zero r = inl (zero-mul b)
times-rest b (suc n) r = subst IsRest (sym (suc-mul n b)) (rest-both (n * b) b (times-rest b n r) r)

less-all : (prefix : List NumberPair) (x y : ℤ) (back : List (ℤ × ℤ))
    → AreRising (map item_of prefix ++ (x, y) ∷ back) → AreLess x prefix
less-all [] x y back a = tt
less-all (q ∷ prefix) x y back a = (
  all-last (λ (r : ℤ × ℤ). int_lt q.key r.0 ≡ true) (map item_of prefix) (x, y) back a.0,
  less-all prefix x y
      back a.1,
)

module _ (p : FillState) (h n : ℕ) (k w : ScalarKind) (ps : List (ℤ × ℤ)) (r : AreRising ps) (m : IsRest p.more) where
  abbrev node_room : ℕ
  node_room = block_room (node_len (size_of k) (size_of w))

  pair-put : (prefix : List NumberPair) (y : ℤ × ℤ) (back : List (ℤ × ℤ)) → ps ≡ map item_of prefix ++ y ∷ back
      → n ≡ length prefix → IsTypedPair k w y → (d : Directory) → IsDirectory current d
      → IsFilling d p.site p.done (head_of p h) (Pairs k w prefix) (length (y ∷ back) * node_room + p.more)
      → StepsTo (step_of_kind Write d (ByHandle h) (kinds.Map k w)
      (asked.Put (ByHandle h) (literal_of k y.0) (literal_of w y.1))) (Boolean true)
      (HasNext (map_course k w) p h prefix y back)
  pair-put prefix (x, y) back a _ is d i filling =
      let rest : ℕ = length back * node_room + p.more in
      let needs : length ((x, y) ∷ back) * node_room + p.more ≡ node_room + rest =
      omega (arith, suc-mul (length back) node_room) in
      steps-so (was-put d p.site p.done (head_of p h) k w prefix x y rest i is.0 is.1
      (less-all prefix x y back (subst AreRising a r)) int-asym
      (subst (IsFilling d p.site p.done (head_of p h) (Pairs k w prefix)) needs filling)
      (rest-both (length back * node_room) p.more
      (times-rest node_room (length back) (block-rest (node_len (size_of k) (size_of w)))) m)) (λ e t. record {
        one = record { key = x; value = y; node = t.node };
        items = map-append item_of prefix (record { key = x; value = y; node = t.node } ∷ []);
        filling = t.filling;
      })

-- the next pair of a map is put
pub next-pair : (s : SegmentState) (text : List ℕ) (p : FillState) (h n : ℕ) (k w : ScalarKind) (ps : List (ℤ × ℤ))
    → p.content ≡ Map k w ps → n < length ps → AllByRecursion (IsTypedPair k w) ps → AreRising ps → IsRest p.more
    → FillsAt s text p h n → NextElement s text p h n (pair_line k w) (IsTypedPair k w) (kinds.Map k w)
    (λ y. asked.Put (ByHandle h) (literal_of k y.0) (literal_of w y.1)) (Boolean true)
next-pair s text p h n k w ps e l g r m f = next-behind (map_course k w) s text p h n ps (kinds.Map k w)
    (λ y. asked.Put (ByHandle h) (literal_of k y.0) (literal_of w y.1)) (Boolean true) (IsTypedPair k w) l g
    (λ prefix. length-map prefix item_of) (as-part s text p h n f e) (pair-put p h n k w ps r m) f
    (its-part s text p h n f e) _ refl

-- ---- a text

-- the needs of strings are a multiple of 16
pub texts-rest : (ts : List (List ℕ)) → IsRest (all_needs text_needs ts).room
texts-rest ts = needs-rest text_needs (λ t. block-rest (length t)) ts

-- bytes that can be collected
abbrev pub IsShortText : ℕ → List ℕ → Type 0
IsShortText longest bs = (length bs ≤ longest) × ((length bs < 2 ^ 64) × IsByteList bs)

all-short : (longest : ℕ) (ts : List (List ℕ)) → AllByRecursion (λ (bs : List ℕ). (length bs < 2 ^ 64)
    × IsByteList bs) ts → (all_needs text_needs ts).longest ≤ longest → AllByRecursion (IsShortText longest) ts
all-short longest [] g h = tt
all-short longest (t ∷ ts) g h = ((omega (arith, h), g.0), all-short longest ts g.1 (omega (arith, h)))

-- the next string of a vector is pushed
pub next-text_of : (s : SegmentState) (text : List ℕ) (p : FillState) (h n longest : ℕ) (ts : List (List ℕ))
    → p.content ≡ Strings ts → n < length ts → AllByRecursion (λ (bs : List ℕ). (length bs < 2 ^ 64) × IsByteList bs) ts
    → (all_needs text_needs ts).longest ≤ longest
    → IsRest p.more → FillsAt s text p h n → NextElement s text p h n text_lines (IsShortText longest) kinds.Strings
    (λ bs. asked.Push (ByHandle h) (asked.Quoted bs)) Done
next-text_of s text p h n longest ts e l g long m f =
    let q : HasReservedSlots strings_course ts n f.value f.left f.need = its-part s text p h n f e in
    next-behind (strings_course q.table) s text p h n ts kinds.Strings
    (λ bs. asked.Push (ByHandle h) (asked.Quoted bs)) Done (IsShortText longest) l (all-short longest ts g long)
    (λ prefix. length-map prefix bytes_in) (λ v left need r. as-part s text p h n f e v left need
    (record { table = q.table; slots = q.slots; part = r }))
    (λ prefix bs back a many is d i filling.
    let slots = q.slots in
    let rest : ℕ = (all_needs text_needs back).room + p.more in
    let needs : (all_needs text_needs (bs ∷ back)).room + p.more ≡ block_room (length bs) + rest = omega arith in
    steps-so (text-pushed d p.site p.done (head_of p h) prefix q.table bs rest i (omega (arith, many, slots, l))
    (subst (IsFilling d p.site p.done (head_of p h) (Texts prefix q.table)) needs filling)
    (rest-both (all_needs text_needs back).room p.more (texts-rest back) m)) (λ e t. record {
      one = record { bytes = bs; extent = t.block };
      items = map-append bytes_in prefix (record { bytes = bs; extent = t.block } ∷ []);
      filling = t.filling;
    })) f q.part _ refl

-- ---- all elements are there

-- what it has at the end
record IsWhole (c : ValueContent) (v : Value) (left : List ℕ) (need : ℕ) : Type 0 where
  value_is : content_of v ≡ c
  left_is : left ≡ []
  need_is : need ≡ 0
  exact : HasExactCapacity v

no-more : {X : Type 0} (all prefix back : List X) → all ≡ prefix ++ back → length all ≤ length prefix → back ≡ []
no-more all prefix [] a l = refl
no-more all prefix (x ∷ back) a l = absurd (omega (arith, l, ap length a, length-append prefix (x ∷ back)))

module _ {X Y : Type 0} (way : FillCourse X Y) (all : List Y) (n : ℕ) (v : Value) (left : List ℕ) (need : ℕ)
    (c : List Y → ValueContent) (has : (prefix : List X) → content_of (way.value prefix []) ≡ c (way.items prefix))
    (none : way.need [] ≡ 0) (count : (prefix : List X) → length (way.items prefix) ≡ length prefix)
    (l : length all ≤ n) (q : HasFirstElements way all n v left need)
    (full : (prefix : List X) → all ≡ way.items prefix → HasExactCapacity (way.value prefix [])) where
  whole-prefix : IsWhole (c all) v left need
  whole-prefix =
      let end : q.back ≡ [] = no-more all (way.items q.prefix) q.back q.all_are (omega (
        arith,
        l,
        q.many,
        count
            q.prefix,
      ))
      in
      let same : all ≡ way.items q.prefix =
      q.all_are ∙ ap (λ b. way.items q.prefix ++ b) end ∙ append-nil (way.items q.prefix) in
      record {
        value_is = ap content_of q.value_is ∙ ap (λ b. content_of (way.value q.prefix b)) end ∙ has q.prefix
            ∙ ap c (sym same);
        left_is = q.text_is ∙ ap (flat_map way.line) end;
        need_is = q.need_is ∙ ap way.need end ∙ none;
        exact = subst HasExactCapacity (sym (q.value_is ∙ ap (way.value q.prefix) end)) (full q.prefix same);
      }

whole-by : (c : ValueContent) (n : ℕ) (v : Value) (left : List ℕ) (need : ℕ) → count_of_content c ≤ n
    → IsPartialValue c n v left need → IsWhole c v left need
whole-by (Scalars k zs) n v left need l q = whole-prefix (array_course k) zs n v left need (Scalars k)
    (λ prefix. ap (Scalars k) (append-nil prefix)) refl (λ prefix. refl) l q (λ prefix e. tt)
whole-by (Vector k zs) n v left need l q =
    whole-prefix (vector_course k q.table) zs n v left need (Vector k) (λ prefix. refl) refl (λ prefix. refl) l q.part
    (λ prefix e. q.slots ∙ ap length e)
whole-by (String bs) n v left need l q = absurd q
whole-by (Map k w ps) n v left need l q = whole-prefix (map_course k w) ps n v left need (Map k w) (λ prefix. refl)
    (zero-mul (block_room (node_len (size_of k) (size_of w)))) (λ prefix. length-map prefix item_of) l q
    (λ prefix e. tt)
whole-by (Strings ts) n v left need l q = whole-prefix (strings_course q.table) ts n v left need Strings (λ
    prefix. refl)
    refl (λ prefix. length-map prefix bytes_in) l q.part
    (λ prefix e. q.slots ∙ ap length e ∙ length-map prefix bytes_in)

-- with all of its content it is built
pub filled-so : {s : SegmentState} (p : FillState) (h : ℕ) (v : Value) (rest : ℕ) → content_of v ≡ p.content
    → HasExactCapacity v → StandsFilling s p.site p.done (head_of p h) v rest
    → StandsBuilt s p.site (p.done ++ filled_item p ∷ []) rest
filled-so {s} p h v rest e x f = subst (λ (c : ValueContent).
    StandsBuilt s p.site (p.done ++ record { class = p.class; name = p.name; content = c } ∷ []) rest) e (record {
      directory = f.directory;
      stands = f.stands;
      mode = f.mode;
      built = built f.directory p.site p.done (head_of p h) v rest f.filling x;
    })

-- an object with all elements is filled
pub filled : (s : SegmentState) (text : List ℕ) (p : FillState) (h n : ℕ) → count_of_content p.content ≤ n
    → FillsAt s text p h n → IsFilled s text p
filled s text p h n l f =
    let w = whole-by p.content n f.value f.left f.need l f.part in
    let rest : f.need + p.more ≡ p.more = omega (arith, w.need_is) in
    record {
      stands = subst (StandsBuilt s p.site (p.done ++ filled_item p ∷ [])) rest
          (filled-so p h f.value (f.need + p.more) w.value_is w.exact f.stands);
      text_is = f.text_is ∙ ap (λ l. l ++ p.after) w.left_is;
    }
