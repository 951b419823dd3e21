-- A call of the segment is the step of its command.
use Rattle.std.proofs.lemmas.Bool.{false≢true, leb-true}
use Rattle.std.specs.Prelude.{◌||◌, not, is_some}
use Rattle.segment_manager.specs.Keeping.{IsBoundKey, HasCapacity, UnchangedWhere, LacksKey}
use Rattle.segment_manager.specs.containers.Contents.{sizes_at}
use Rattle.std.proofs.Common.{◌≡◌, ◌≤◌, Bool, refl, sym, ap, subst, ◌∙◌, ℕ, true, false, Result, Ok, Err, Option, Some}
use Rattle.std.proofs.Common.{None, length}
use Rattle.std.specs.Prelude.{OnOk, OnErr}
use Rattle.best_fit.specs.Extents.{LiveSet}
use Rattle.seg_types.specs.declared.refusals.Refusal.{Refusal}
use Rattle.seg_types.specs.Names.{Key}
use Rattle.seg_types.specs.Commands as asked
use Rattle.seg_types.specs.Commands.{Command, is_changing}
use Rattle.seg_types.specs.declared.keys.Key.{Key as CodeKey}
use Rattle.seg_types.specs.Keys.{key_seen}
use Rattle.segment_manager.specs.declared.modes.Mode.{Mode}
use Rattle.segment_manager.specs.Directory.{Directory, Object, live, named_objects, object_at, unique_objects}
use Rattle.segment_manager.specs.Answers.{Answer, Done, Number, is_untouched}
use Rattle.segment_manager.specs.Calls.{HasZeroGaps}
use Rattle.segment_manager.specs.State.{UnchangedIfRefused, SegmentState, DenotesCurrent, AnswersQuery, TakesStep}
use Rattle.segment_manager.specs.State.{answer_of}
use Rattle.segment_manager.specs.Plan.{perform}
use Rattle.segment_manager.specs.Step.{effect, step}
use Rattle.segment_manager.proofs.CommandLaws.{answered-reads}
use Rattle.segment_manager.proofs.Laws.{step-reads}
use Rattle.segment_lang.specs.declared.commands.Operation.{Operation}
use Rattle.segment_lang.specs.Seen.{operation_of}
use Rattle.segment_scripts.specs.declared.replies.CommandAnswer.{CommandAnswer as Reply}
use Rattle.segment_scripts.specs.declared.replies.CommandAnswer.TheVariants as said
use Rattle.segment_scripts.specs.Replies.{Replies, answer_seen, shown_at, shown_of, told_at, told_of}
use Rattle.segment_scripts.specs.ZeroGaps.{has_nothing_to_do, has_capacity, is_zero_free}

-- ---- what only reads

-- the size that is answered is the directory's
pub size_is : (mode : Mode) (d : Directory) (n : ℕ) → Number n ≡ (step mode d asked.Size).0 → n ≡ d.size
size_is mode d n e =
    let same : Number n ≡ Number d.size = e ∙ answered-reads mode d asked.Size refl in
    cc

-- how many entries the indexes have
pub named_is : (mode : Mode) (d : Directory) (n : ℕ) → Number n ≡ (step mode d asked.NumNamed).0
    → n ≡ length (named_objects d)
named_is mode d n e =
    let same : Number n ≡ Number (length (named_objects d)) = e ∙ answered-reads mode d asked.NumNamed refl in
    cc

-- the number of unique objects that is answered is the directory's
pub unique_is : (mode : Mode) (d : Directory) (n : ℕ) → Number n ≡ (step mode d asked.NumUnique).0
    → n ≡ length (unique_objects d)
unique_is mode d n e =
    let same : Number n ≡ Number (length (unique_objects d)) = e ∙ answered-reads mode d asked.NumUnique refl in
    cc

shown-found : (d : Directory) (l : LiveSet) (key : Key) (r : Option Object) → object_at d key ≡ r
    → shown_of r ≡ (perform d l (effect d (asked.Show key))).0
shown-found d l key None e = rw (e, perform) refl
shown-found d l key (Some o) e = rw (e, perform) refl

-- what is shown of an object
pub show-is : (mode : Mode) (d : Directory) (key : Key) → shown_at d key ≡ (step mode d (asked.Show key)).0
show-is mode d key = shown-found d (live d) key (object_at d key) refl
    ∙ sym (answered-reads mode d (asked.Show key) refl)

told-found : (d : Directory) (l : LiveSet) (key : Key) (r : Option Object) → object_at d key ≡ r
    → told_of r ≡ (perform d l (effect d (asked.Info key))).0
told-found d l key None e = rw (e, perform) refl
told-found d l key (Some o) e = rw (e, perform) refl

-- what is told of an object
told-is : (mode : Mode) (d : Directory) (key : Key) → told_at d key ≡ (step mode d (asked.Info key)).0
told-is mode d key = told-found d (live d) key (object_at d key) refl
    ∙ sym (answered-reads mode d (asked.Info key) refl)

module _ (s : SegmentState) where
  -- the directory stays, and the segment
  pub reads : (c : Command) (reply : Reply) → is_changing c ≡ false
      → ((d : Directory) → DenotesCurrent s.cut.bytes d → answer_seen d reply ≡ (step s.mode d c).0)
      → Replies s s c reply
  reads c reply e says =
      let same = λ (d : Directory). step-reads s.mode d c e in
      record {
        stays = record { mode = refl; place = record { before = refl; after = refl } };
        answers = λ d h. ap (λ (x : Directory). answer_seen x reply) (same d) ∙ says d h;
        denotes = λ d h. subst (DenotesCurrent s.cut.bytes) (sym (same d)) h;
        reads = λ _. refl;
        kept = λ _ _ _. refl;
        zeros = λ _ _ is _. absurd (cc (ap is_changing is));
      }

  -- a call that only reads, and answers as the machine does
  pub replies-read : (c : Command) (reply : Reply) (answer : Answer) → is_changing c ≡ false
      → ((d : Directory) → answer_seen d reply ≡ answer) → AnswersQuery s c answer → Replies s s c reply
  replies-read c reply answer e same h = reads c reply e (λ d stands. same d ∙ h.answers d stands)

  -- what is long is read later
  pub replies-show : (key : CodeKey) → Replies s s (asked.Show (key_seen key)) (said.Shown key)
  replies-show key = reads (asked.Show (key_seen key)) (said.Shown key) refl (λ d h. show-is s.mode d (key_seen key))

  -- what is told of an object changes nothing
  pub replies-info : (key : CodeKey) → Replies s s (asked.Info (key_seen key)) (said.Told key)
  replies-info key = reads (asked.Info (key_seen key)) (said.Told key) refl (λ d h. told-is s.mode d (key_seen key))

  -- the listing of names changes nothing
  pub replies-names : Replies s s asked.ListNames said.Names
  replies-names = reads asked.ListNames said.Names refl (λ d h. sym (answered-reads s.mode d asked.ListNames refl))

  -- the listing of kinds changes nothing
  pub replies-kinds : Replies s s asked.ListKinds said.Kinds
  replies-kinds = reads asked.ListKinds said.Kinds refl (λ d h. sym (answered-reads s.mode d asked.ListKinds refl))

  -- the listing of blocks changes nothing
  pub replies-blocks : Replies s s asked.ListBlocks said.Blocks
  replies-blocks = reads asked.ListBlocks said.Blocks refl (λ d h. sym (answered-reads s.mode d asked.ListBlocks refl))

-- ---- what may change the segment

-- a refused call leaves what was found
pub kept-refused : {A : Type 0} (f : A → Answer) → ((a : A) → is_untouched (f a) ≡ false)
    → (result : Result A Refusal) (old new : SegmentState) → UnchangedIfRefused old new result
    → is_untouched (answer_of f result) ≡ true → new ≡ old
kept-refused f plain (Ok a) old new h e = absurd (cc (plain a))
kept-refused f plain (Err r) old new h e = h e

-- a call that changes nothing where it is refused
pub keeps-refused : {A : Type 0} (old new : SegmentState) (result : Result A Refusal) → OnErr result (new ≡ old)
    → UnchangedIfRefused old new result
keeps-refused old new (Ok a) h = tt
keeps-refused old new (Err r) h = λ _. h

done-zeros : {A : Type 0} (f : A → Answer) (result : Result A Refusal) (new : SegmentState)
    → OnOk result (HasZeroGaps new) → answer_of f result ≡ Done → HasZeroGaps new
done-zeros f (Ok a) new h e = h
done-zeros f (Err r) new h e = absurd (cc)

-- one of two holds
either-kept : {P : Type 0} (a b : Bool) → (a ≡ true → P) → (b ≡ true → P) → (a || b) ≡ true → P
either-kept true b h k e = h refl
either-kept false b h k e = k e

-- what a call finds to have nothing to do for it changes nothing
abbrev pub KeepsFound : SegmentState → SegmentState → Command → Type 0
KeepsFound old new c = (d : Directory) → DenotesCurrent old.cut.bytes d → has_nothing_to_do d c ≡ true → new ≡ old

pub finds-none : (old new : SegmentState) (c : Command) → ((d : Directory) → has_nothing_to_do d c ≡ false)
    → KeepsFound old new c
finds-none old new c none d s e = absurd (false≢true (sym (none d) ∙ e))

-- a call that is a step, and where it finds nothing to do or is refused before it asks for a block changes nothing
pub replies-step : {A : Type 0} (f : A → Answer) → ((a : A) → is_untouched (f a) ≡ false)
    → (old new : SegmentState) (c : Command) (result : Result A Refusal) (reply : Reply)
    → is_changing c ≡ true → ((d : Directory) → answer_seen d reply ≡ answer_of f result)
    → TakesStep old new c (answer_of f result) → UnchangedIfRefused old new result
    → KeepsFound old new c → (c ≡ asked.ZeroFree → OnOk result (HasZeroGaps new)) → Replies old new c reply
replies-step f plain old new c result reply e same h refused found zeros = record {
  stays = h.stays;
  answers = λ d s. same (step old.mode d c).1 ∙ h.answers d s;
  denotes = h.denotes;
  reads = λ n. absurd (cc);
  kept = λ d s. either-kept (is_untouched (step old.mode d c).0) (has_nothing_to_do d c)
      (λ r. kept-refused f plain result old new refused (ap is_untouched (h.answers d s) ∙ r)) (found d s);
  zeros = λ d s is done. done-zeros f result new (zeros is) (h.answers d s ∙ done);
}

-- the same of any command but the one that clears gaps
pub replies-call : {A : Type 0} (f : A → Answer) → ((a : A) → is_untouched (f a) ≡ false)
    → {old new : SegmentState} {c : Command} {reply : Reply} (result : Result A Refusal)
    → is_changing c ≡ true → is_zero_free c ≡ false → ((d : Directory) → answer_seen d reply ≡ answer_of f result)
    → TakesStep old new c (answer_of f result) → UnchangedIfRefused old new result
    → KeepsFound old new c → Replies old new c reply
replies-call f plain {old} {new} {c} {reply} result e other same h refused found =
    replies-step f plain old new c result reply e same h refused found (λ is.
    absurd (let clears : is_zero_free c ≡ true = ap is_zero_free is in cc))

-- and of one that always finds something to do
pub replies-plain : {A : Type 0} (f : A → Answer) → ((a : A) → is_untouched (f a) ≡ false)
    → {old new : SegmentState} {c : Command} {reply : Reply} (result : Result A Refusal)
    → is_changing c ≡ true → is_zero_free c ≡ false → ((d : Directory) → answer_seen d reply ≡ answer_of f result)
    → TakesStep old new c (answer_of f result) → UnchangedIfRefused old new result
    → ((d : Directory) → has_nothing_to_do d c ≡ false) → Replies old new c reply
replies-plain f plain {old} {new} {c} {reply} result e other same h refused none =
    replies-call f plain result e other same h refused (finds-none old new c none)

-- ---- an operation as the line that was read has it

module _ {old new : SegmentState} {operation x : Operation} {reply : Reply} (is : operation ≡ x) where
  -- a reply to an operation is one to the same operation, however it is written
  pub replies-as : Replies old new (operation_of x) reply → Replies old new (operation_of operation) reply
  replies-as = subst (λ y. Replies old new (operation_of y) reply) (sym is)

  -- the result of a call replies to the operation of its command
  pub replies-command : {A : Type 0} (f : A → Answer) → ((a : A) → is_untouched (f a) ≡ false)
      → (result : Result A Refusal)
      → is_changing (operation_of x) ≡ true → is_zero_free (operation_of x) ≡ false
      → ((d : Directory) → answer_seen d reply ≡ answer_of f result)
      → TakesStep old new (operation_of x) (answer_of f result) → UnchangedIfRefused old new result
      → ((d : Directory) → has_nothing_to_do d (operation_of x) ≡ false)
      → Replies old new (operation_of operation) reply
  replies-command f plain result e other same h refused none =
      replies-as (replies-plain f plain result e other same h refused none)

  -- one that may find nothing to do
  pub replies-found : {A : Type 0} (f : A → Answer) → ((a : A) → is_untouched (f a) ≡ false)
      → (result : Result A Refusal)
      → is_changing (operation_of x) ≡ true → is_zero_free (operation_of x) ≡ false
      → ((d : Directory) → answer_seen d reply ≡ answer_of f result)
      → TakesStep old new (operation_of x) (answer_of f result) → UnchangedIfRefused old new result
      → KeepsFound old new (operation_of x) → Replies old new (operation_of operation) reply
  replies-found f plain result e other same h refused found =
      replies-as (replies-call f plain result e other same h refused found)

-- ---- what is found

not-some : (o : Option Object) → not (is_some o) ≡ true → o ≡ None
not-some None e = refl
not-some (Some o) e = absurd (cc)

is-some : (o : Option Object) → is_some o ≡ true → (p : Object) × (o ≡ Some p)
is-some None e = absurd (cc)
is-some (Some o) e = (o, refl)

has-places : (key : Key) (n : ℕ) (d : Directory) (r : Result (ℕ × ℕ) Refusal) → sizes_at d key ≡ r
    → has_capacity r n ≡ true → HasCapacity key n d
has-places key n d (Ok (len, capacity)) e h =
    record { len = len; capacity = capacity; says = e; enough = leb-true n capacity h }
has-places key n d (Err why) e h = absurd (false≢true h)

module _ {old new : SegmentState} (key : Key) where
  -- the key was lacking: what was found stays
  pub lacks-found : UnchangedWhere old new (LacksKey key) → KeepsFound old new (asked.Destroy key)
  lacks-found k d s e = k d s (not-some (object_at d key) e)

  -- the key was bound: what was found stays
  pub has-found : (c : asked.Content) → UnchangedWhere old new (IsBoundKey key)
      → KeepsFound old new (asked.FindOrConstruct key c)
  has-found c k d s e = k d s (is-some (object_at d key) e)

  -- the places sufficed: what was found stays
  pub places-found : (n : ℕ) → UnchangedWhere old new (HasCapacity key n) → KeepsFound old new (asked.Reserve key n)
  places-found n k d s e = k d s (has-places key n d (sizes_at d key) refl e)

module _ {old new : SegmentState} (n : ℕ) where
  -- the index of names sufficed: what was found stays
  pub named-found : UnchangedWhere old new (λ d. n ≤ d.named.capacity) → KeepsFound old new (asked.ReserveNamed n)
  named-found k d s e = k d s (leb-true n d.named.capacity e)

  -- the index of kinds sufficed: what was found stays
  pub unique-found : UnchangedWhere old new (λ d. n ≤ d.unique.capacity) → KeepsFound old new (asked.ReserveUnique n)
  unique-found k d s e = k d s (leb-true n d.unique.capacity e)
