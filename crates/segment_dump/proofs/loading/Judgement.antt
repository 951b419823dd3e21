-- The size that was asked for, and the objects that a text is the dump of.
use Rattle.seg_types.specs.Commands as asked
use Rattle.segment_dump.proofs.Common.{◌≡◌, ◌<◌, ◌^◌, ℕ, Bool, true, false, nat_eq, List, Option, None, Some, Result}
use Rattle.segment_dump.proofs.Common.{Ok, Err, refl, sym, ap, subst, ◌∙◌, arith, ◌+◌, nat_lt, length, if◌then◌else◌}
use Rattle.segment_dump.proofs.Common.{IfOk, MatchResult, not, OnTrue, AllByRecursion, eqb-true, ltb-true}
use Rattle.segment_dump.proofs.Common.{is_legal_size, Class, Anonymous, Named, Unique, Number, Directory, SegmentState}
use Rattle.segment_dump.proofs.Common.{DenotesCurrent, step, Count, LoadError, BadSize, RegionTooSmall, NoSpace}
use Rattle.segment_dump.proofs.Common.{LongText, LoadRefused, AreCountable, CountsDump, IsNameless, DumpItem, portable}
use Rattle.segment_dump.proofs.Common.{items_needs, dump_text, IsRequestedSize, IsExact, IsLoaded, IsNotLoaded}
use Rattle.segment_dump.proofs.Common.{IsRefusalOf, IsWrong, asked_of, refusal_for}
use Rattle.std.specs.Prelude.{IfSome}
use Rattle.segment_dump.specs.declared.faults.LoadError.TheVariants.{BadDump as Bad}
use Rattle.segment_dump.specs.{Comparing.IsDumpOf, Counting.IsCounted}
use Rattle.segment_dump.specs.Loading.{HasLongText, HasNoSpace, HasObjectsOf, HasSize, IsBack, IsJudged, IsLetGo}
use Rattle.segment_dump.specs.Loading.{IsLacking, LoadsUnlessLacking, IsLoadCause, cause_but_bad}
use Rattle.segment_dump.proofs.{texts.AllElements.all-by, texts.Objects.IsGoodItem, dumping.ObjectParts.free-is}
use Rattle.segment_dump.proofs.{dumping.ObjectParts.size-is}
use Rattle.segment_dump.proofs.{space.Objects.segments-have-room, texts.Options.none-some, texts.Options.same_Some}
use Rattle.segment_dump.proofs.{texts.Options.ok-same}
use Rattle.segment_dump.proofs.loading.DumpObjects.{dumps-tell-objects, portable-told, size-most}

module _ (s : SegmentState) (n m : ℕ) (says : (d : Directory) → DenotesCurrent s.cut.bytes d
    → Number n ≡ (step s.mode d asked.Size).0) where
  size-if : (b : Bool) → nat_eq n m ≡ b → OnTrue b (HasSize s (Some m))
  size-if true e = λ d st. sym (size-is s.mode d n (says d st)) ∙ eqb-true n m e
  size-if false e = tt

  -- a size that was found is the one that was asked for
  pub has-size : (o : Option ℕ) → o ≡ Some m → OnTrue (nat_eq n m) (HasSize s o)
  has-size o e = subst (λ p. OnTrue (nat_eq n m) (HasSize s p)) (sym e) (size-if (nat_eq n m) refl)

-- nothing is free, where no size was asked for
module _ (s : SegmentState) (n : ℕ) (says : (d : Directory) → DenotesCurrent s.cut.bytes d
    → Number n ≡ (step s.mode d asked.Free).0) where
  full-if : (b : Bool) → nat_eq n 0 ≡ b → OnTrue b (HasSize s None)
  full-if true e = λ d st. sym (free-is s.mode d n (says d st)) ∙ eqb-true n 0 e
  full-if false e = tt

  -- a segment with no free byte is full
  pub is-full : (o : Option ℕ) → o ≡ None → OnTrue (nat_eq n 0) (HasSize s o)
  is-full o e = subst (λ p. OnTrue (nat_eq n 0) (HasSize s p)) (sym e) (full-if (nat_eq n 0) refl)

-- ---- the objects are those of each directory that the text is the dump of

objects-of : (text : List ℕ) (n : ℕ) (s : SegmentState) → IsDumpOf s n text → HasObjectsOf text s
objects-of text n s h = record {
  same = λ b d m st is e te.
      dumps-tell-objects s.cut.bytes b e d n m te st (sym (h.is e te) ∙ is);
}

loaded : (text : List ℕ) (size : Option ℕ) (s : SegmentState) → IsJudged text size s → IsLoaded text size s
loaded text size s h = record { judged = h; objects = objects-of text h.said s h.is }

-- ---- no segment is made

-- the text is wrong, and so it is that
pub wrong-why : (text region : List ℕ) (base : ℕ) (size : Option ℕ) (room : ℕ) (cause : LoadError)
    → IsWrong text cause → IsLoadCause text region base size room cause
wrong-why text region base size room (Bad bad) h = h
wrong-why text region base size room cause h = absurd h

-- the region comes back, or is let go
pub back-some : (region : List ℕ) (cause : LoadError) → IsBack cause region (Some region)
back-some region (Bad bad) = refl
back-some region cause = refl

back-wrong : (text region : List ℕ) (cause : LoadError) → IsWrong text cause → (back : Option (List ℕ)) → back ≡ None
    → IsBack cause region back
back-wrong text region (Bad bad) h back e = subst (IsBack (Bad bad) region) (sym e) tt
back-wrong text region cause h back e = absurd h

-- one that was begun is let go
pub let-go : (text region : List ℕ) (base : ℕ) (size : Option ℕ) (room : ℕ) (refused : LoadRefused)
    → IsLetGo text refused → IsNotLoaded text region base size room refused
let-go text region base size room refused h = record {
  why = wrong-why text region base size room refused.cause h.why;
  back = back-wrong text region refused.cause h.why refused.region h.gone;
}

-- what a judged load answers
pub judged : (text region : List ℕ) (base : ℕ) (size : Option ℕ) (room : ℕ) (r : Result SegmentState LoadRefused)
    → MatchResult r (IsJudged text size) (IsLetGo text)
    → MatchResult r (IsLoaded text size) (IsNotLoaded text region base size room)
judged text region base size room (Ok s) h = loaded text size s h
judged text region base size room (Err refused) h = let-go text region base size room refused h

-- ---- too little of something for the objects of a segment

nameless-items : (c : Class) (is : List DumpItem) → AllByRecursion (IsGoodItem c) is → AllByRecursion IsNameless is
nameless-items c is a = all-by (IsGoodItem c) IsNameless is a (λ i h n. h.nameless (λ e. n (h.class ∙ e)))

-- what is portable of a directory can be counted
pub portable-countable : (b : List ℕ) (d : Directory) → DenotesCurrent b d → AreCountable (portable d)
portable-countable b d s =
    let told = portable-told b d s in
    record {
      named = nameless-items Named (portable d).named told.named;
      unique = nameless-items Unique (portable d).unique told.unique;
      anonymous = nameless-items Anonymous (portable d).anonymous told.anonymous;
      small = omega (arith, segments-have-room b d s, size-most b d s);
    }

-- what was counted is what the directory needs
counted-is : (text : List ℕ) (count : Count) (b : List ℕ) (d : Directory) (n : ℕ) → CountsDump text (Ok count)
    → DenotesCurrent b d → n < 2 ^ 64 → text ≡ dump_text n (portable d)
    → count ≡ record { size = n; needs = items_needs (portable d) }
counted-is text count b d n h s l e =
    ok-same count (record { size = n; needs = items_needs (portable d) })
    (h.counts n (portable d) l (portable-countable b d s) e)

no-space : (text : List ℕ) (size : Option ℕ) (count : Count) → CountsDump text (Ok count)
    → asked_of size count.size < count.needs.room → HasNoSpace text size
no-space text size count h lack =
    let needed : (b : List ℕ) (d : Directory) (n : ℕ) → DenotesCurrent b d → n < 2 ^ 64
    → text ≡ dump_text n (portable d) → asked_of size n < (items_needs (portable d)).room =
    λ b d n s l e. subst (λ (c : Count). asked_of size c.size < c.needs.room) (counted-is text count b d n h s l e)
    lack in
    record { needed = needed; longer = λ b d n s l e. omega (arith, needed b d n s l e, segments-have-room b d s) }

long-text : (text : List ℕ) (room : ℕ) (count : Count) → CountsDump text (Ok count) → room < count.needs.longest
    → HasLongText text room
long-text text room count h lack =
    record {
      longer = λ b d n s l e.
          subst (λ (c : Count). room < c.needs.longest) (counted-is text count b d n h s l e) lack;
    }

asked-is : (size : Option ℕ) (said : ℕ) → IsRequestedSize size (asked_of size said)
asked-is None said = tt
asked-is (Some size) said = refl

-- a size of segments, and a region that is long enough
abbrev Lacks : List ℕ → List ℕ → ℕ → Option ℕ → ℕ → Count → Bool → Bool → Bool → Bool → LoadError → Type 0
Lacks text region base size room count legal short full long cause =
    (if not legal then Some BadSize else if short then Some RegionTooSmall else if full then Some NoSpace else if
    long then Some LongText else None) ≡ Some cause

lacks-by : (text region : List ℕ) (base : ℕ) (size : Option ℕ) (room : ℕ) (count : Count)
    (legal short full long : Bool) (cause : LoadError) → CountsDump text (Ok count)
    → is_legal_size (asked_of size count.size) ≡ legal → nat_lt (length region) (base + asked_of size count.size)
    ≡ short → nat_lt (asked_of size count.size) count.needs.room ≡ full → nat_lt room count.needs.longest ≡ long
    → Lacks text region base size room count legal short full long cause → IsLoadCause text region base size room cause
lacks-by text region base size room count false short full long cause h e f g k l =
    subst (IsLoadCause text region base size room) (same_Some BadSize cause l)
    (asked_of size count.size, asked-is size count.size, e)
lacks-by text region base size room count true true full long cause h e f g k l =
    subst (IsLoadCause text region base size room) (same_Some RegionTooSmall cause l) (
      asked_of size count.size,
      asked-is size count.size,
      e,
      ltb-true (length region)
          (base + asked_of size count.size) f,
    )
lacks-by text region base size room count true false true long cause h e f g k l =
    subst (IsLoadCause text region base size room) (same_Some NoSpace cause l)
    (no-space text size count h (ltb-true (asked_of size count.size) count.needs.room g))
lacks-by text region base size room count true false false true cause h e f g k l =
    subst (IsLoadCause text region base size room) (same_Some LongText cause l)
    (long-text text room count h (ltb-true room count.needs.longest k))
lacks-by text region base size room count true false false false cause h e f g k l = absurd (none-some cause l)

lacks-count : (text region : List ℕ) (base : ℕ) (size : Option ℕ) (room : ℕ) (count : Count) (cause : LoadError)
    → CountsDump text (Ok count) → refusal_for (length region) base size room count ≡ Some cause
    → IsLoadCause text region base size room cause
lacks-count text region base size room count cause h e =
    let wanted = asked_of size count.size in
    lacks-by text region base size room count (is_legal_size wanted) (nat_lt (length region) (base + wanted))
    (nat_lt wanted count.needs.room) (nat_lt room count.needs.longest) cause h refl refl refl refl e

-- a load that lacks something is refused
pub lacks : (text region : List ℕ) (base : ℕ) (size : Option ℕ) (room : ℕ) (counted : Result Count ℕ)
    (o : Option LoadError) (cause : LoadError) → CountsDump text counted
    → IsRefusalOf (length region) base size room counted o → o ≡ Some cause
    → IsLoadCause text region base size room cause
lacks text region base size room (Ok count) o cause h r e =
    lacks-count text region base size room count cause h (sym r ∙ e)
lacks text region base size room (Err left) o cause h r e = absurd (none-some cause (sym r ∙ e))

-- ---- exactly

-- a reason that is none of the text
but-bad : (legal short full long : Bool) (cause : LoadError)
    → (if not legal then Some BadSize else if short then Some RegionTooSmall else if full then Some NoSpace else if
    long then Some LongText else None) ≡ Some cause → cause_but_bad cause ≡ Some cause
but-bad false short full long cause e = subst (λ c. cause_but_bad c ≡ Some c) (same_Some BadSize cause e) refl
but-bad true true full long cause e = subst (λ c. cause_but_bad c ≡ Some c) (same_Some RegionTooSmall cause e) refl
but-bad true false true long cause e = subst (λ c. cause_but_bad c ≡ Some c) (same_Some NoSpace cause e) refl
but-bad true false false true cause e = subst (λ c. cause_but_bad c ≡ Some c) (same_Some LongText cause e) refl
but-bad true false false false cause e = absurd (none-some cause e)

never-counted : (left : ℕ) (count : Count) → ◌≡◌ {A = Result Count ℕ} (Err left) (Ok count) → ⊥
never-counted left count e = cc

exact-count : (text : List ℕ) (capacity base : ℕ) (size : Option ℕ) (room : ℕ) (count : Count) (cause : LoadError)
    → CountsDump text (Ok count) → refusal_for capacity base size room count ≡ Some cause
    → IsExact text capacity base size room (cause_but_bad cause)
exact-count text capacity base size room count cause h e = record {
  exact = λ b d n s l w.
      let wanted = asked_of size count.size in
      but-bad (is_legal_size wanted) (nat_lt capacity (base + wanted)) (nat_lt wanted count.needs.room)
      (nat_lt room count.needs.longest) cause e ∙ sym e
      ∙ ap (refusal_for capacity base size room) (counted-is text count b d n h s l w);
}

exact-counted : (text : List ℕ) (capacity base : ℕ) (size : Option ℕ) (room : ℕ) (counted : Result Count ℕ)
    (cause : Option LoadError) → CountsDump text counted
    → IfOk counted (λ (count : Count). refusal_for capacity base size room count ≡ None)
    → LoadsUnlessLacking capacity base size room counted cause → (b : List ℕ) (d : Directory) (n : ℕ)
    → DenotesCurrent b d → n < 2 ^ 64 → text ≡ dump_text n (portable d)
    → cause ≡ refusal_for capacity base size room (record { size = n; needs = items_needs (portable d) })
exact-counted text capacity base size room (Ok count) cause h z m b d n s l w =
    m z ∙ sym z ∙ ap (refusal_for capacity base size room) (counted-is text count b d n h s l w)
exact-counted text capacity base size room (Err left) cause h z m b d n s l w =
    absurd (never-counted left _ (h.counts n (portable d) l (portable-countable b d s) w))

exact-made : (text : List ℕ) (capacity base : ℕ) (size : Option ℕ) (room : ℕ) (counted : Result Count ℕ)
    (cause : Option LoadError) → CountsDump text counted
    → IfOk counted (λ (count : Count). refusal_for capacity base size room count ≡ None)
    → LoadsUnlessLacking capacity base size room counted cause → IsExact text capacity base size room cause
exact-made text capacity base size room counted cause h z m =
    record { exact = exact-counted text capacity base size room counted cause h z m }

-- an exact load that is refused
pub exact-refused : (text : List ℕ) (capacity base : ℕ) (size : Option ℕ) (room : ℕ) (counted : Result Count ℕ)
    (o : Option LoadError) (cause : LoadError) → CountsDump text counted → IsRefusalOf capacity base size room counted o
    → o ≡ Some cause → IsExact text capacity base size room (cause_but_bad cause)
exact-refused text capacity base size room (Ok count) o cause h r e =
    exact-count text capacity base size room count cause h (sym r ∙ e)
exact-refused text capacity base size room (Err left) o cause h r e = absurd (none-some cause (sym r ∙ e))

none-lacking : (capacity base : ℕ) (size : Option ℕ) (room : ℕ) (counted : Result Count ℕ) (o : Option LoadError)
    → IsRefusalOf capacity base size room counted o → o ≡ None
    → IfOk counted (λ (count : Count). refusal_for capacity base size room count ≡ None)
none-lacking capacity base size room (Ok count) o r e = sym r ∙ e
none-lacking capacity base size room (Err left) o r e = tt

-- an exact load that goes on
pub exact-done : (text : List ℕ) (capacity base : ℕ) (size : Option ℕ) (room : ℕ) (counted : Result Count ℕ)
    (o cause : Option LoadError) → CountsDump text counted → IsRefusalOf capacity base size room counted o → o ≡ None
    → LoadsUnlessLacking capacity base size room counted cause → IsExact text capacity base size room cause
exact-done text capacity base size room counted o cause h r e m =
    exact-made text capacity base size room counted cause h (none-lacking capacity base size room counted o r e) m

-- ---- of any text

module _ (text : List ℕ) (capacity base : ℕ) (size : Option ℕ) (room : ℕ) where
  lacking-by : (cause : LoadError) → IsLacking text capacity base size room cause
      → IfSome (cause_but_bad cause) (IsLacking text capacity base size room)
  lacking-by (Bad bad) h = tt
  lacking-by cause h = h

  -- a load whose needs are not met is refused
  pub lacking-refused : (counted : Result Count ℕ) (o : Option LoadError) (cause : LoadError)
      → IfOk counted (IsCounted text) → CountsDump text counted → IsRefusalOf capacity base size room counted o
      → o ≡ Some cause → IfSome (cause_but_bad cause) (IsLacking text capacity base size room)
  lacking-refused (Ok count) o cause c h r e =
      lacking-by cause (record { count = count; counted = c; counts = h; lacks = sym r ∙ e })
  lacking-refused (Err left) o cause c h r e = absurd (none-some cause (sym r ∙ e))

  made-none : (counted : Result Count ℕ) (cause : Option LoadError)
      → IfOk counted (λ (count : Count). refusal_for capacity base size room count ≡ None)
      → LoadsUnlessLacking capacity base size room counted cause → cause ≡ None
  made-none (Ok count) cause z m = m z
  made-none (Err left) cause z m = m

  -- a load whose needs are met goes on
  pub lacking-made : (counted : Result Count ℕ) (o cause : Option LoadError)
      → IsRefusalOf capacity base size room counted o → o ≡ None
      → LoadsUnlessLacking capacity base size room counted cause → IfSome cause (IsLacking text capacity base size room)
  lacking-made counted o cause r e m =
      let none = made-none counted cause (none-lacking capacity base size room counted o r e) m in
      subst (λ p. IfSome p (IsLacking text capacity base size room)) (sym none) tt

-- of a text that is wrong no want is said, whatever was counted
pub unlacking : (text : List ℕ) (capacity base : ℕ) (size : Option ℕ) (room : ℕ) (counted : Result Count ℕ)
    (cause : LoadError) → IsWrong text cause
    → LoadsUnlessLacking capacity base size room counted (cause_but_bad cause)
unlacking text capacity base size room (Ok count) (Bad bad) w = λ e. refl
unlacking text capacity base size room (Err left) (Bad bad) w = refl
unlacking text capacity base size room counted BadSize w = absurd w
unlacking text capacity base size room counted RegionTooSmall w = absurd w
unlacking text capacity base size room counted NoSpace w = absurd w
unlacking text capacity base size room counted LongText w = absurd w
