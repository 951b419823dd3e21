-- What the steps lead to by which an object is filled.
use Rattle.seg_types.specs.declared.kinds.Kind.TheVariants as kinds
use Rattle.seg_types.specs.Commands as asked
use Rattle.segment_dump.proofs.Common.{◌≡◌, ◌⊎◌, inl, inr, ℕ, ◌+◌, ◌*◌, ◌<◌, ◌≤◌, ◌==◌, ◌||◌, ℤ, pos, Bool, true, false}
use Rattle.segment_dump.proofs.Common.{not, cond, List, [], ◌∷◌, ◌++◌, length, Option, Some, None, Result, Ok, Err}
use Rattle.segment_dump.proofs.Common.{if◌then◌else◌, refl, sym, ap, subst, ◌∙◌, arith, append_assoc, zero-add, find}
use Rattle.segment_dump.proofs.Common.{flat_map, max, option_to_list, slice_get, slice_set, int_lt, AllByRecursion}
use Rattle.segment_dump.proofs.Common.{mul-le-mul_left, mul-zero, nat_tests, flat_map-append, append-nil, map-append}
use Rattle.segment_dump.proofs.Common.{slice_get-get_or, Node, Storage, Extent, place, BackingArray, no_backing}
use Rattle.segment_dump.proofs.Common.{current, Kind, ScalarKind, Refusal, OutOfRange, Command, literal_of, is_value}
use Rattle.segment_dump.proofs.Common.{size_of, ByHandle, node_len, NumberPair, OwnedText, Write, Answer, Done, Boolean}
use Rattle.segment_dump.proofs.Common.{Bytes, Directory, Elements, IsDirectory, Numbers, Object, Pairs, Texts, Value}
use Rattle.segment_dump.proofs.Common.{live, object_at, value_extents, kind_of, Plan, Reply, Request, New, perform}
use Rattle.segment_dump.proofs.Common.{with, changed, step, step_of_kind, effect, found_at, Head, IsFilling, Site}
use Rattle.segment_dump.proofs.Common.{DumpItem, block_room, eq-eqb, le-leb, lt-leb, lt-ltb, ne_eqb}
use Rattle.best_fit.specs.Fit.{regrow, resized}
use Rattle.seg_types.specs.declared.kinds.ScalarKind.TheVariants.{Bool as BoolKind}
use Rattle.seg_types.specs.declared.refusals.Refusal.TheVariants.{NoSpace}
use Rattle.seg_types.specs.{Commands.value_of_literal, Literals.cons_values, Literals.pair_values}
use Rattle.seg_map.specs.Map.{is_key, pair_at, put_pair}
use Rattle.seg_vector.specs.Vector.{capacity_for_one, capacity_for_text}
use Rattle.segment_manager.specs.{Answers.Refused, Plan.Regrown, Plan.with_capacity, Plan.with_owned_text}
use Rattle.segment_manager.specs.Step.{map_of, push, put, set, storage_of, text_of, with_table}
use Rattle.segment_dump.proofs.{space.OneGap.IsRest, space.OneGap.block-some, building.MachineSteps.writes}
use Rattle.segment_dump.proofs.{texts.LineTokens.bool-near}
use Rattle.segment_dump.proofs.building.MachineSteps.{at-object, block-more, filled-at, filled-kind, of-kind, requested}
use Rattle.segment_dump.proofs.building.MachineSteps.{same-blocks}

-- it is answered, and leads to such a directory
pub record StepsTo (outcome : Answer × Directory) (answer : Answer) (Next : Directory → Type 0) : Type 0 where
  pub next : Directory
  pub is : outcome ≡ (answer, next)
  pub holds : Next next

-- ---- values

truth-back : (z : ℤ) → (z ≡ pos 0) ⊎ (z ≡ pos 1) → value_of_literal BoolKind (literal_of BoolKind z) ≡ Ok z
truth-back z (inl e) = subst (λ y. value_of_literal BoolKind (literal_of BoolKind y) ≡ Ok y) (sym e) refl
truth-back z (inr e) = subst (λ y. value_of_literal BoolKind (literal_of BoolKind y) ≡ Ok y) (sym e) refl

abbrev in_range : Bool → ℤ → Result ℤ Refusal
in_range b z = if b then Ok z else Err OutOfRange

pub literal-back : (k : ScalarKind) (z : ℤ) → is_value k z ≡ true → value_of_literal k (literal_of k z) ≡ Ok z
literal-back BoolKind z e = truth-back z (bool-near z e)
literal-back k z e = ap (λ b. in_range b z) e

-- ---- places that are there

slots-there : (each n : ℕ) (t : BackingArray) (next : BackingArray → Plan) → n ≤ t.capacity
    → with_capacity each n t next ≡ next t
slots-there each n t next h =
    ap (λ b. if b then next t else Request (Regrown t.extent (each * n))
    (λ x. next (record { capacity = n; extent = Some x }))) (le-leb n t.capacity h)

place-there : (each len : ℕ) (t : BackingArray) (next : BackingArray → Plan) → len < t.capacity
    → with_capacity each (capacity_for_one len t.capacity) t next ≡ next t
place-there each len t next h =
    let same : capacity_for_one len t.capacity ≡ t.capacity = ap (λ b. if b then t.capacity else max 4 (2 * t.capacity))
    (lt-ltb len t.capacity h) in
    slots-there each (capacity_for_one len t.capacity) t next (omega (arith, same))

text-there : (len : ℕ) (t : BackingArray) (next : BackingArray → Plan) → len ≤ t.capacity
    → with_capacity 1 (capacity_for_text len t.capacity) t next ≡ next t
text-there len t next h =
    let same : capacity_for_text len t.capacity ≡ t.capacity = ap
    (λ b. if b then t.capacity else max (max 16 (2 * t.capacity)) len) (le-leb len t.capacity h) in
    slots-there 1 (capacity_for_text len t.capacity) t next (omega (arith, same))

-- ---- the calls that ask for no block

abbrev steps : (d : Directory) (kind : Kind) (c : Command) (h : ℕ) → Answer × Directory
steps d kind c h = step_of_kind Write d (ByHandle h) kind c

module _ {d : Directory} {site : Site} {done : List DumpItem} {head : Head} {v : Value} {rest : ℕ}
    (i : IsDirectory current d) (f : IsFilling d site done head v rest) where
  stepped : (kind : Kind) (c : Command) (plan : Object → Value → Plan) (w : Value) → kind_of v ≡ kind
      → effect d c ≡ with (found_at d (ByHandle head.handle)) (λ o. plan o o.value)
      → plan f.object v ≡ Reply Done (changed d f.object w) → value_extents w ≡ value_extents v
      → StepsTo (step_of_kind Write d (ByHandle head.handle) kind c) Done (λ e. IsFilling e site done head w rest)
  stepped kind c plan w k asks replies same =
      let key = ByHandle head.handle in
      let here : object_at d key ≡ Some f.object = filled-at d site done head v rest i f in
      record {
        next = changed d f.object w;
        is = of-kind d key kind c f.object here (filled-kind d site done head v rest i f kind k)
            ∙ ap (perform d (live d)) (asks ∙ at-object d key f.object (λ o. plan o o.value) here ∙ ap (plan f.object)
            f.value_is ∙ replies);
        holds = same-blocks d site done head v rest i f w same;
      }

push-reply : (d : Directory) (o : Object) (k : ScalarKind) (zs : List ℤ) (t : BackingArray) (z : ℤ)
    → is_value k z ≡ true → length zs < t.capacity
    → push d o (Elements k zs t) (literal_of k z) ≡ Reply Done (changed d o (Elements k (zs ++ z ∷ []) t))
push-reply d o k zs t z g h =
    ap (λ r. with r (λ z. with_capacity (size_of k) (capacity_for_one (length zs) t.capacity) t (λ u.
    Reply Done (changed d o (Elements k (zs ++ z ∷ []) u))))) (literal-back k z g)
    ∙ place-there (size_of k) (length zs) t (λ u. Reply Done (changed d o (Elements k (zs ++ z ∷ []) u))) h

-- a pushed element leads to the object with it
pub pushed : (d : Directory) (site : Site) (done : List DumpItem) (head : Head) (k : ScalarKind) (zs : List ℤ)
    (t : BackingArray) (rest : ℕ) (z : ℤ) → IsDirectory current d → IsFilling d site done head (Elements k zs t) rest
    → is_value k z ≡ true → length zs < t.capacity
    → StepsTo (step_of_kind Write d (ByHandle head.handle) (kinds.Vector k)
    (asked.Push (ByHandle head.handle) (literal_of k z))) Done (λ e.
    IsFilling e site done head (Elements k (zs ++ z ∷ []) t) rest)
pushed d site done head k zs t rest z i f g h =
    stepped i f (kinds.Vector k) (asked.Push (ByHandle head.handle) (literal_of k z))
    (λ o v. push d o v (literal_of k z)) (Elements k (zs ++ z ∷ []) t) refl refl
    (push-reply d f.object k zs t z g h) refl

set-reply : (d : Directory) (o : Object) (k : ScalarKind) (zs : List ℤ) (n : ℕ) (z : ℤ) → is_value k z ≡ true → n
    < length zs → set d o (Numbers k zs) n (literal_of k z) ≡ Reply Done (changed d o (Numbers k (slice_set zs n z)))
set-reply d o k zs n z g h =
    ap (λ r. with r (λ z. with (elim (slice_get zs n) as (λ _. Result ℤ Refusal) [
      | None ↦ Err OutOfRange
      | Some y ↦ Ok y
    ]) (λ old. Reply Done (changed d o (Numbers k (slice_set zs n z)))))) (literal-back k z g)
    ∙ ap (λ (r : Option ℤ). with (elim r as (λ _. Result ℤ Refusal) [ None ↦ Err OutOfRange | Some y ↦ Ok y ])
    (λ old. Reply Done (changed d o (Numbers k (slice_set zs n z))))) (slice_get-get_or zs n z h)

-- an element that was set leads to the object with it
pub was-set : (d : Directory) (site : Site) (done : List DumpItem) (head : Head) (k : ScalarKind) (zs : List ℤ)
    (rest n : ℕ) (z : ℤ) → IsDirectory current d → IsFilling d site done head (Numbers k zs) rest
    → is_value k z ≡ true → n < length zs → StepsTo (step_of_kind Write d (ByHandle head.handle) (kinds.Scalar k)
    (asked.Set (ByHandle head.handle) n (literal_of k z))) Done (λ e.
    IsFilling e site done head (Numbers k (slice_set zs n z)) rest)
was-set d site done head k zs rest n z i f g h =
    stepped i f (kinds.Scalar k) (asked.Set (ByHandle head.handle) n (literal_of k z))
    (λ o v. set d o v n (literal_of k z)) (Numbers k (slice_set zs n z)) refl refl
    (set-reply d f.object k zs n z g h) refl

abbrev append_plan : Directory → List ℕ → Object → Value → Plan
append_plan d more o v = with (text_of v) (λ (bs, t).
    with_capacity 1 (capacity_for_text (length (bs ++ more)) t.capacity) t (λ u.
    Reply Done (changed d o (Bytes (bs ++ more) u))))

-- appended bytes lead to the object with them
pub appended : (d : Directory) (site : Site) (done : List DumpItem) (head : Head) (bs : List ℕ) (t : BackingArray)
    (rest : ℕ) (more : List ℕ) → IsDirectory current d → IsFilling d site done head (Bytes bs t) rest
    → length (bs ++ more) ≤ t.capacity
    → StepsTo (step_of_kind Write d (ByHandle head.handle) kinds.String (asked.Append (ByHandle head.handle) more))
    Done (λ e. IsFilling e site done head (Bytes (bs ++ more) t) rest)
appended d site done head bs t rest more i f h =
    stepped i f kinds.String (asked.Append (ByHandle head.handle) more) (append_plan d more) (Bytes (bs ++ more) t) refl
    refl (text-there (length (bs ++ more)) t (λ u. Reply Done (changed d f.object (Bytes (bs ++ more) u))) h) refl

-- ---- the calls that ask for a block

-- a request that is met goes on
pub met-perform : (d : Directory) (n : ℕ) (role : _) (x : Extent) (next : Extent
    → Plan) (answer : Answer) (after : Directory) → place (live d) n role ≡ Some x → next x ≡ Reply answer after
    → perform d (live d) (Request (New role n) next) ≡ (answer, after)
met-perform d n role x next answer after e r =
    ap (λ (o : Option Extent). elim o as (λ _. Answer × Directory) [
      | None ↦ (Refused NoSpace, d)
      | Some x ↦ perform d (resized (live d) x) (next x)
    ]) e ∙ ap (perform d (resized (live d) x)) r

grown-perform : (d : Directory) (n : ℕ) (x : Extent) (next : Extent → Plan) (answer : Answer) (after : Directory)
    → place (live d) n Storage ≡ Some x → next x ≡ Reply answer after
    → perform d (live d) (Request (Regrown None n) next) ≡ (answer, after)
unfolding regrow
grown-perform d n x next answer after e r =
    ap (λ (o : Option Extent). elim o as (λ _. Answer × Directory) [
      | None ↦ (Refused NoSpace, d)
      | Some x ↦ perform d (resized (live d) x) (next x)
    ]) e ∙ ap (perform d (resized (live d) x)) r

-- no bytes need no room
pub no-bytes : (n rest : ℕ) → n ≡ 0 → block_room n + rest ≡ rest
unfolding block_room
no-bytes n rest e = ap (λ m. block_room m + rest) e ∙ zero-add rest

product-long : (m n : ℕ) → 0 < m → 0 < n → 0 < m * n
product-long m n h l = let g : m * 1 ≤ m * n = mul-le-mul_left m l in omega (arith, g)

none-more : (each n rest : ℕ) → n ≡ 0 → block_room (each * n) + rest ≡ rest
none-more each n rest e = no-bytes (each * n) rest (ap (λ k. each * k) e ∙ mul-zero each)

-- storage for this many
abbrev pub table_of : ℕ → Extent → BackingArray
table_of n x = record { capacity = n; extent = Some x }

-- a value that can have storage, and has none
pub record IsStored (v : Value) (each : ℕ) : Type 0 where
  pub storage : storage_of v ≡ Ok (each, 0, no_backing)
  pub alone : value_extents v ≡ []
  pub more : (n : ℕ) (x : Extent) → value_extents (with_table v (table_of n x)) ≡ x ∷ []
  -- a value with no storage
  pub none : with_table v no_backing ≡ v

-- a vector has storage of this many bytes an element
pub vector-stored : (k : ScalarKind) → IsStored (Elements k [] no_backing) (size_of k)
vector-stored k = record { storage = refl; alone = refl; more = λ n x. refl; none = refl }

-- a string has storage of a byte each
pub string-stored : IsStored (Bytes [] no_backing) 1
string-stored = record { storage = refl; alone = refl; more = λ n x. refl; none = refl }

-- a vector of strings has storage of 16 bytes each
pub texts-stored : IsStored (Texts [] no_backing) 16
texts-stored = record { storage = refl; alone = refl; more = λ n x. refl; none = refl }

abbrev reserve_plan : Directory → ℕ → Object → Value → Plan
reserve_plan d n o v = with (storage_of v) (λ (each, len, t).
    with_capacity each n t (λ u. Reply Done (changed d o (with_table v u))))

abbrev grow_plan : Directory → ℕ → ℕ → Object → Value → Plan
grow_plan d n each o v = with_capacity each n no_backing (λ u. Reply Done (changed d o (with_table v u)))

-- there are this many places in the value's table
pub data HasTable (v : Value) (n : ℕ) : Value → Type 0 where
  none : n ≡ 0 → HasTable v n (with_table v no_backing)
  -- a value with storage
  some : (x : Extent) → HasTable v n (with_table v (table_of n x))

pub record IsReserved (site : Site) (done : List DumpItem) (head : Head) (v : Value) (n rest : ℕ) (e : Directory) :
    Type 0 where
  pub value : Value
  pub table : HasTable v n value
  pub filling : IsFilling e site done head value rest

module _ (d : Directory) (site : Site) (done : List DumpItem) (head : Head) (v : Value) (each n rest : ℕ)
    (i : IsDirectory current d) (s : IsStored v each) where
  abbrev Reserved : Type 0
  Reserved = StepsTo (step Write d (asked.Reserve (ByHandle head.handle) n)) Done (IsReserved site done head v n rest)

  reserve-plan : (more : ℕ) (f : IsFilling d site done head v more)
      → step Write d (asked.Reserve (ByHandle head.handle) n) ≡ perform d (live d) (grow_plan d n each f.object v)
  reserve-plan more f =
      let key = ByHandle head.handle in
      let here : object_at d key ≡ Some f.object = filled-at d site done head v more i f in
      writes d (asked.Reserve key n)
      ∙ ap (perform d (live d)) (at-object d key f.object (λ o. reserve_plan d n o o.value) here
      ∙ ap (reserve_plan d n f.object) f.value_is ∙ ap (λ r. with r (λ (each, len, t).
      with_capacity each n t (λ u. Reply Done (changed d f.object (with_table v u))))) s.storage)

  reserve-none : n ≡ 0 → IsFilling d site done head v rest → Reserved
  reserve-none e f =
      let w = with_table v no_backing in
      record {
        next = changed d f.object w;
        is = reserve-plan rest f ∙ ap (perform d (live d)) (slots-there each n no_backing (λ u.
            Reply Done (changed d f.object (with_table v u))) (omega (arith, e)));
        holds = record {
          value = w;
          table = none e;
          filling = same-blocks d site done head v rest i f w (ap value_extents s.none);
        };
      }

  reserve-some : 0 < n → 0 < each * n → IsFilling d site done head v (block_room (each * n) + rest) → IsRest rest
      → Reserved
  reserve-some p q f r =
      let all = block_room (each * n) + rest in
      let taken = requested d site done head v all i f (each * n) Storage rest
      (ap (λ m. m + rest) (block-some (each * n) q)) r in
      let w = with_table v (table_of n taken.extent) in
      let one : value_extents w ≡ value_extents v ++ taken.extent ∷ [] =
      s.more n taken.extent ∙ ap (λ l. l ++ taken.extent ∷ []) (sym s.alone) in
      let grows : grow_plan d n each f.object v
      ≡ Request (Regrown None (each * n)) (λ x. Reply Done (changed d f.object (with_table v (table_of n x)))) =
      ap (λ b. if b then Reply Done (changed d f.object (with_table v no_backing)) else Request
      (Regrown None (each * n)) (λ x. Reply Done (changed d f.object (with_table v (table_of n x))))) (lt-leb n 0 p) in
      record {
        next = changed d f.object w;
        is = reserve-plan all f ∙ ap (perform d (live d)) grows ∙ grown-perform d (each * n) taken.extent (λ x.
            Reply Done (changed d f.object (with_table v (table_of n x)))) Done (changed d f.object w) taken.is refl;
        holds = record {
          value = w;
          table = some taken.extent;
          filling = block-more d site done head v all i f w taken.extent rest one taken.prefix taken.fits;
        };
      }

  reserve-by : (b : Bool) → (n == 0) ≡ b → 0 < each → IsFilling d site done head v (block_room (each * n) + rest)
      → IsRest rest → Reserved
  reserve-by true e l f r =
      let z : n ≡ 0 = grind (arith, nat_tests) in
      reserve-none z (subst (λ m. IsFilling d site done head v m) (none-more each n rest z) f)
  reserve-by false e l f r =
      let p : 0 < n = grind (arith, nat_tests) in
      reserve-some p (product-long each n l p) f r

  -- storage that was reserved leads to the object with it
  pub reserved : 0 < each → IsFilling d site done head v (block_room (each * n) + rest) → IsRest rest → Reserved
  reserved l f r = reserve-by (n == 0) refl l f r

-- a text in a block of its own
abbrev text_plan : Directory → Object → List ℕ → Value → Plan
text_plan d o bs v = push d o v (asked.Quoted bs)

abbrev owned_texts : List OwnedText → BackingArray → Value
owned_texts ps t = Texts ps t

last-owned : (ps : List OwnedText) (p : OwnedText) (t : BackingArray)
    → value_extents (Texts (ps ++ p ∷ []) t) ≡ value_extents (Texts ps t) ++ option_to_list p.extent
last-owned ps p t =
    let owned : OwnedText → List Extent = λ q. option_to_list q.extent in
    ap (λ l. option_to_list t.extent ++ l) (flat_map-append owned ps (p ∷ [])
    ∙ ap (λ l. flat_map owned ps ++ l) (append-nil (owned p)))
    ∙ sym (append_assoc (option_to_list t.extent) (flat_map owned ps) (owned p))

abbrev own : List ℕ → Option Extent → OwnedText
own bs o = record { bytes = bs; extent = o }

pub record IsPushed (site : Site) (done : List DumpItem) (head : Head) (ps : List OwnedText) (t : BackingArray)
    (bs : List ℕ) (rest : ℕ) (e : Directory) : Type 0 where
  pub block : Option Extent
  pub filling : IsFilling e site done head (Texts (ps ++ own bs block ∷ []) t) rest

module _ (d : Directory) (site : Site) (done : List DumpItem) (head : Head) (ps : List OwnedText) (t : BackingArray)
    (bs : List ℕ) (rest : ℕ) (i : IsDirectory current d) (h : length ps < t.capacity) where
  abbrev TextPushed : Type 0
  TextPushed = StepsTo (step_of_kind Write d (ByHandle head.handle) kinds.Strings
      (asked.Push (ByHandle head.handle) (asked.Quoted bs))) Done (IsPushed site done head ps t bs rest)

  push-plan : (more : ℕ) (f : IsFilling d site done head (Texts ps t) more)
      → step_of_kind Write d (ByHandle head.handle) kinds.Strings (asked.Push (ByHandle head.handle) (asked.Quoted bs))
      ≡ perform d (live d) (with_owned_text bs (λ p. Reply Done (changed d f.object (Texts (ps ++ p ∷ []) t))))
  push-plan more f =
      let key = ByHandle head.handle in
      let c = asked.Push key (asked.Quoted bs) in
      let here : object_at d key ≡ Some f.object = filled-at d site done head (Texts ps t) more i f in
      of-kind d key kinds.Strings c f.object here
      (filled-kind d site done head (Texts ps t) more i f kinds.Strings refl) ∙ ap (perform d (live d))
      (at-object d key f.object (λ o. push d o o.value (asked.Quoted bs)) here ∙ ap (text_plan d f.object bs) f.value_is
      ∙ place-there 16 (length ps) t (λ u.
      with_owned_text bs (λ p. Reply Done (changed d f.object (Texts (ps ++ p ∷ []) u)))) h)

  push-none : length bs ≡ 0 → IsFilling d site done head (Texts ps t) rest → TextPushed
  push-none e f =
      let w : Value = Texts (ps ++ own bs None ∷ []) t in
      let next : OwnedText → Plan = λ p. Reply Done (changed d f.object (Texts (ps ++ p ∷ []) t)) in
      let zero : (length bs == 0) ≡ true = eq-eqb (length bs) 0 e in
      record {
        next = changed d f.object w;
        is = push-plan rest f ∙ ap (λ b.
            perform d (live d) (if b then next (own bs None) else Request (New Storage (length bs)) (λ x.
            next (own bs (Some x))))) zero;
        holds = record {
          block = None;
          filling = same-blocks d site done head (Texts ps t) rest i f w (last-owned ps (own bs None) t
              ∙ append-nil (value_extents (Texts ps t)));
        };
      }

  push-some : 0 < length bs → IsFilling d site done head (Texts ps t) (block_room (length bs) + rest) → IsRest rest
      → TextPushed
  push-some p f r =
      let all = block_room (length bs) + rest in
      let taken = requested d site done head (Texts ps t) all i f (length bs) Storage rest
      (ap (λ m. m + rest) (block-some (length bs) p)) r in
      let w : Value = Texts (ps ++ own bs (Some taken.extent) ∷ []) t in
      let next : OwnedText → Plan = λ p. Reply Done (changed d f.object (Texts (ps ++ p ∷ []) t)) in
      let some : (length bs == 0) ≡ false = ne_eqb (length bs) 0 (λ e. omega (arith, p, e)) in
      record {
        next = changed d f.object w;
        is = push-plan all f ∙ ap (λ b.
            perform d (live d) (if b then next (own bs None) else Request (New Storage (length bs)) (λ x.
            next (own bs (Some x))))) some ∙ met-perform d (length bs) Storage taken.extent (λ x.
            next (own bs (Some x))) Done (changed d f.object w) taken.is refl;
        holds = record {
          block = Some taken.extent;
          filling = block-more d site done head (Texts ps t) all i f w taken.extent rest
              (last-owned ps (own bs (Some taken.extent)) t) taken.prefix taken.fits;
        };
      }

  push-by : (b : Bool) → (length bs == 0) ≡ b
      → IsFilling d site done head (Texts ps t) (block_room (length bs) + rest) → IsRest rest → TextPushed
  push-by true e f r =
      let z : length bs ≡ 0 = grind (arith, nat_tests) in
      push-none z (subst (λ m. IsFilling d site done head (Texts ps t) m) (no-bytes (length bs) rest z) f)
  push-by false e f r = push-some (let p : 0 < length bs = grind (arith, nat_tests) in p) f r

  -- a pushed string leads to the object with it
  pub text-pushed : IsFilling d site done head (Texts ps t) (block_room (length bs) + rest) → IsRest rest → TextPushed
  text-pushed f r = push-by (length bs == 0) refl f r

-- ---- a pair after all others

-- all keys are less
abbrev pub AreLess : ℤ → List NumberPair → Type 0
AreLess x = AllByRecursion (λ (p : NumberPair). int_lt p.key x ≡ true)

key-test : (a b : Bool) → b ≡ true → not (a || b) ≡ false
key-test true b e = refl
key-test false b e = ap (λ c. not c) e

no-key : (x : ℤ) (ps : List NumberPair) → AreLess x ps → pair_at int_lt ps x ≡ None
no-key x [] a = refl
no-key x (p ∷ ps) a = ap (λ b.
    cond b (Some p) (find (is_key int_lt x) ps)) (key-test (int_lt x p.key) (int_lt p.key x) a.0) ∙ no-key x ps a.1

put-behind : (p : NumberPair) (ps : List NumberPair) → AreLess p.key ps
    → ((q : NumberPair) → int_lt q.key p.key ≡ true → int_lt p.key q.key ≡ false) → put_pair int_lt p ps ≡ ps ++ p ∷ []
put-behind p [] a n = refl
put-behind p (q ∷ ps) a n =
    ap (λ b. if b then p ∷ q ∷ ps else if int_lt q.key p.key then q ∷ put_pair int_lt p ps else p ∷ ps) (n q a.0)
    ∙ ap (λ b. if b then q ∷ put_pair int_lt p ps else p ∷ ps) a.0 ∙ ap (λ l. q ∷ l) (put-behind p ps a.1 n)

abbrev pair_with : ℤ → ℤ → Extent → NumberPair
pair_with x y n = record { key = x; value = y; node = n }

node-last : (ps : List NumberPair) (p : NumberPair) (k v : ScalarKind)
    → value_extents (Pairs k v (ps ++ p ∷ [])) ≡ value_extents (Pairs k v ps) ++ p.node ∷ []
node-last ps p k v = map-append (λ (p : NumberPair). p.node) ps (p ∷ [])

pair-read : (k v : ScalarKind) (x y : ℤ) → is_value k x ≡ true → is_value v y ≡ true
    → pair_values k v (literal_of k x) (literal_of v y) ≡ Ok (x ∷ y ∷ [])
pair-read k v x y g h = (λ i. cons_values (literal-back k x g i) (cons_values (literal-back v y h i) (Ok [])))

abbrev put_plan : Directory → Object → ScalarKind → ScalarKind → ℤ → ℤ → Value → Plan
put_plan d o k v x y w = with (map_of w) (λ (k', v', ps).
    with (pair_values k' v' (literal_of k x) (literal_of v y)) (λ new. put d o k' v' ps new))

pub record IsPut (site : Site) (done : List DumpItem) (head : Head) (k v : ScalarKind) (ps : List NumberPair)
    (x y : ℤ) (rest : ℕ) (e : Directory) : Type 0 where
  pub node : Extent
  pub filling : IsFilling e site done head (Pairs k v (ps ++ pair_with x y node ∷ [])) rest

module _ (d : Directory) (site : Site) (done : List DumpItem) (head : Head) (k v : ScalarKind)
    (ps : List NumberPair) (x y : ℤ) (rest : ℕ) (i : IsDirectory current d) (g : is_value k x
    ≡ true) (h : is_value v y ≡ true) (a : AreLess x ps) where
  abbrev node_bytes : ℕ
  node_bytes = node_len (size_of k) (size_of v)

  -- a put pair leads to the object with it
  pub was-put : ((p q : ℤ) → int_lt p q ≡ true → int_lt q p ≡ false)
      → IsFilling d site done head (Pairs k v ps) (block_room node_bytes + rest) → IsRest rest
      → StepsTo (step_of_kind Write d (ByHandle head.handle) (kinds.Map k v)
      (asked.Put (ByHandle head.handle) (literal_of k x) (literal_of v y))) (Boolean true)
      (IsPut site done head k v ps x y rest)
  was-put order f r =
      let key = ByHandle head.handle in
      let c = asked.Put key (literal_of k x) (literal_of v y) in
      let all = block_room node_bytes + rest in
      let here : object_at d key ≡ Some f.object = filled-at d site done head (Pairs k v ps) all i f in
      let taken = requested d site done head (Pairs k v ps) all i f node_bytes Node rest
      (ap (λ m. m + rest) (block-some node_bytes (omega arith))) r in
      let p = pair_with x y taken.extent in
      let w : Value = Pairs k v (ps ++ p ∷ []) in
      let next : Extent → Plan = λ n.
      Reply (Boolean true) (changed d f.object (Pairs k v (put_pair int_lt (pair_with x y n) ps))) in
      let behind : next taken.extent ≡ Reply (Boolean true) (changed d f.object w) =
      ap (λ l. Reply (Boolean true) (changed d f.object (Pairs k v l))) (put-behind p ps a (λ q e. order q.key x e)) in
      let asks : put_plan d f.object k v x y f.object.value ≡ Request (New Node node_bytes) next =
      ap (put_plan d f.object k v x y) f.value_is
      ∙ ap (λ r. with r (λ new. put d f.object k v ps new)) (pair-read k v x y g h) ∙ ap (λ (o : Option NumberPair).
      elim o as (λ _. Plan) [
        | Some q ↦ Reply (Boolean false)
            (changed d f.object (Pairs k v (put_pair int_lt (record q { value = y }) ps)))
        | None ↦ Request (New Node node_bytes) next
      ]) (no-key x ps a) in
      record {
        next = changed d f.object w;
        is = of-kind d key (kinds.Map k v) c f.object here
            (filled-kind d site done head (Pairs k v ps) all i f (kinds.Map k v) refl)
            ∙ ap (perform d (live d)) (at-object d key f.object (λ o. put_plan d o k v x y o.value) here ∙ asks)
            ∙ met-perform d node_bytes Node taken.extent next (Boolean true) (changed d f.object w) taken.is behind;
        holds = record {
          node = taken.extent;
          filling = block-more d site done head (Pairs k v ps) all i f w taken.extent rest (node-last ps p k v)
              taken.prefix taken.fits;
        };
      }
