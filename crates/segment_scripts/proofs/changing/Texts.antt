-- Commands on the texts of a vector of strings as a line writes them.
use Rattle.std.proofs.Common.{◌≡◌, refl, sym, ap, subst, ◌∙◌, ℕ, ◌-◌, ◌≤◌, Bool, true, false, ◌&&◌, if◌then◌else◌}
use Rattle.std.proofs.Common.{Option, Some, None, Result, Ok, Err, List, ◌∷◌, [], length, map, take, arith}
use Rattle.std.proofs.lemmas.List.{length-map}
use Rattle.std.specs.Prelude.{OnErr, slice_get}
use Rattle.best_fit.specs.Table.{BackingArray}
use Rattle.seg_types.specs.declared.kinds.Kind.TheVariants.{Map as MapKind, Scalar, String, Strings as StringsKind}
use Rattle.seg_types.specs.declared.kinds.Kind.TheVariants.{Vector}
use Rattle.seg_types.specs.declared.refusals.Refusal.{Refusal}
use Rattle.seg_types.specs.declared.refusals.Refusal.TheVariants as refusal
use Rattle.seg_types.specs.declared.refusals.Refusal.TheVariants.{NotFound, OutOfRange, WrongKind}
use Rattle.seg_types.specs.Kinds.{same_kind}
use Rattle.seg_types.specs.Names.{Key, ByHandle}
use Rattle.seg_types.specs.Commands as asked
use Rattle.seg_types.specs.Commands.{Command, Literal, Quoted, Boolean, Integer}
use Rattle.seg_vector.specs.Vector.{OwnedText}
use Rattle.segment_lang.specs.Seen.{HasLineBuffer}
use Rattle.segment_manager.specs.declared.modes.Mode.{Mode}
use Rattle.segment_manager.specs.declared.objects.object_ref.Object.{Object as Located}
use Rattle.segment_manager.specs.Answers.{Answer, Done, Refused, TextElement, is_untouched, refusal_of}
use Rattle.segment_manager.specs.Calls.{kind_at}
use Rattle.segment_manager.specs.Directory.{Value, Numbers, Elements, Bytes, Pairs, Texts, Object, Directory, kind_of}
use Rattle.segment_manager.specs.Directory.{live, object_at}
use Rattle.segment_manager.specs.objects.Instances.{IsMissing}
use Rattle.segment_manager.specs.Laws.{at_key}
use Rattle.segment_manager.specs.objects.Located.{IsLocated}
use Rattle.segment_manager.specs.Plan.{Plan, Refuse, Reply, perform, with, with_owned_texts, with_storage}
use Rattle.segment_manager.specs.State.{AnswersWith, AnswersQueryOfKind, TakesStep, TakesStepOfKind, StepsWithoutAnswer}
use Rattle.segment_manager.specs.State.{SegmentState, DenotesCurrent}
use Rattle.segment_manager.specs.State.{refusal_in}
use Rattle.segment_manager.specs.Step as step
use Rattle.segment_manager.specs.Step.{changed, effect, is_read_only, step_of_kind, texts_of}
use Rattle.segment_manager.proofs.ElementLaws.{IsOfKindAt, of_kind-steps, with-found, with-not_found}
use Rattle.segment_manager.proofs.Laws.{step-same}
use Rattle.segment_scripts.specs.Changes.{Executes}
use Rattle.segment_scripts.specs.declared.replies.CommandAnswer.{CommandAnswer as Said}
use Rattle.segment_scripts.specs.Replies.{answer_seen, bytes_taken, text_at, text_in, text_of}
use Rattle.segment_scripts.specs.declared.answered.Answered.{Answered}
use Rattle.segment_scripts.specs.Refusing.{AnswersFor}
use Rattle.raw_region.specs.Device.{WriterHistory}
use Rattle.segment_manager.proofs.CommandLaws.{IsTexts, answered-reads, open-writing, refuses, step-effect}
use Rattle.segment_manager.proofs.CommandLaws.{texts-if, told}
use Rattle.segment_scripts.proofs.values.Keys.{kind-same}
use Rattle.segment_values.specs.{Contents.bytes_in, Contents.content_of, Contents.count_of_content, Layouts.count_at}
use Rattle.segment_values.proofs.LaidElements.{count_of_object}
use Rattle.segment_scripts.proofs.segments.Refusals.{answers-before}

-- ---- literals that are texts

-- texts of literals are those of the texts' own, and where a literal is none there are none
quoted-back : (ls : List Literal) (r : Result (List (List ℕ)) Refusal) → texts_of ls ≡ r → (bss : List (List ℕ))
    → r ≡ Ok bss → ls ≡ map Quoted bss
quoted-back ls r e bss f = back ls bss (e ∙ f)
  where
    more : (bs : List ℕ) (ls : List Literal) (r : Result (List (List ℕ)) Refusal) (bss : List (List ℕ))
        → ((css : List (List ℕ)) → r ≡ Ok css → ls ≡ map Quoted css)
        → (elim r as (λ _. Result (List (List ℕ)) Refusal) [ Ok css ↦ Ok (bs ∷ css) | Err w ↦ Err w ]) ≡ Ok bss
        → Quoted bs ∷ ls ≡ map Quoted bss
    more bs ls (Ok css) bss h e = let same : bs ∷ css ≡ bss = cc
        in ap (λ l. Quoted bs ∷ l) (h css refl) ∙ ap (map Quoted) same
    more bs ls (Err w) bss h e = absurd (cc)

    back : (ls : List Literal) (bss : List (List ℕ)) → texts_of ls ≡ Ok bss → ls ≡ map Quoted bss
    back [] bss e = let none : [] ≡ bss = cc in ap (map Quoted) none
    back (Integer z ∷ ls) bss e = absurd (cc)
    back (Boolean b ∷ ls) bss e = absurd (cc)
    back (Quoted bs ∷ ls) bss e = more bs ls (texts_of ls) bss (λ css f. back ls css f) e

pub texts-back : (ls : List Literal) (bss : List (List ℕ)) → texts_of ls ≡ Ok bss → ls ≡ map Quoted bss
texts-back ls bss e = quoted-back ls (texts_of ls) refl bss e

not_assigned : (d : Directory) (o : Object) (ps : List OwnedText) (t : BackingArray) (ls : List Literal)
    (why : Refusal) → texts_of ls ≡ Err why → step.assign d o (Texts ps t) ls ≡ Refuse why
not_assigned d o ps t [] why e = absurd (cc)
not_assigned d o ps t (l ∷ ls) why e =
    ap (λ r. with r (λ bss. with_storage 16 (length bss) (λ u.
    with_owned_texts bss (λ qs. Reply Done (changed d o (Texts qs u)))))) e

text-read : (d : Directory) (r : Option OwnedText)
    → elim r as (λ _. Answer) [ None ↦ Refused OutOfRange | Some p ↦ TextElement p.bytes ]
    ≡ (perform d (live d) (with (elim r as (λ _. Result OwnedText Refusal) [
      | None ↦ Err OutOfRange
      | Some p ↦ Ok p
    ]) (λ p. Reply (TextElement p.bytes) d))).0
text-read d None = refl
text-read d (Some p) = refl

text-taken : (d : Directory) (r : Option OwnedText) (f : OwnedText → Directory)
    → elim r as (λ _. Answer) [ None ↦ Refused OutOfRange | Some p ↦ TextElement p.bytes ]
    ≡ (perform d (live d) (with (elim r as (λ _. Result OwnedText Refusal) [
      | None ↦ Err OutOfRange
      | Some p ↦ Ok p
    ]) (λ p. Reply (TextElement p.bytes) (f p)))).0
text-taken d None f = refl
text-taken d (Some p) f = refl

-- ---- the vector of strings of a key

module _ (s : SegmentState) (key : Key) (a : AnswersWith s (λ d. kind_at d key) (Ok StringsKind)) where
  abbrev found : (d : Directory) → DenotesCurrent s.cut.bytes d → IsOfKindAt d key StringsKind
  found d st = told a d st

  held : (d : Directory) (st : DenotesCurrent s.cut.bytes d) → IsTexts (found d st).object.value
  held d st = texts-if (found d st).object.value (found d st).kind_is

  -- `assign` with a literal that is no text is refused
  pub assign-no_texts : is_read_only s.mode ≡ false → (ls : List Literal) (why : Refusal) → texts_of ls ≡ Err why
      → TakesStep s s (asked.Assign key ls) (Refused why)
  assign-no_texts writing ls why e =
      refuses s (asked.Assign key ls) why writing
      (λ d st.
      let o : Object = (found d st).object in
      with-found d key o (λ o. step.assign d o o.value ls) (found d st).is
      ∙ ap (λ v. step.assign d o v ls) (held d st).is ∙ not_assigned d o (held d st).texts (held d st).table ls why e)

  -- `assign` with texts is the step of the command
  pub assign-texts : (new : SegmentState) (ls : List Literal) (bss : List (List ℕ)) (answer : Answer)
      → texts_of ls ≡ Ok bss → TakesStepOfKind s new key StringsKind (asked.Assign key (map Quoted bss)) answer
      → TakesStep s new (asked.Assign key ls) answer
  assign-texts new ls bss answer e r =
      subst (λ ms. TakesStep s new (asked.Assign key ms) answer) (sym (texts-back ls bss e))
      (of_kind-steps s new key StringsKind (asked.Assign key (map Quoted bss)) answer a r)

  -- ---- a text that is read

  -- what the directory says of it is what is answered
  pub get-text : (i : ℕ) (d : Directory) → DenotesCurrent s.cut.bytes d
      → text_at d key i ≡ (step.step s.mode d (asked.Get key i)).0
  get-text i d st =
      let o : Object = (found d st).object in
      let h : IsTexts o.value = held d st in
      ap (λ r. text_in r i) (found d st).is ∙ ap (λ v. text_of v i) h.is ∙ text-read d (slice_get h.texts i)
      ∙ sym (answered-reads s.mode d (asked.Get key i) refl
      ∙ ap (λ p. (perform d (live d) p).0) (with-found d key o (λ o. step.get d o.value i) (found d st).is
      ∙ ap (λ v. step.get d v i) h.is))

  -- ---- the last one

  -- the text before the length of the vector is what is taken out
  pub pop-text : (n : ℕ) → is_read_only s.mode ≡ false → AnswersWith s (λ d. count_at d key) n
      → (d : Directory) → DenotesCurrent s.cut.bytes d → text_at d key (n - 1) ≡ (step.step s.mode d (asked.Pop key)).0
  pop-text n writing long d st =
      let o : Object = (found d st).object in
      let h : IsTexts o.value = held d st in
      let len : n ≡ length h.texts =
      long.answers d st ∙ ap count_of_object (found d st).is
      ∙ ap (λ v. count_of_content (content_of v)) h.is ∙ length-map h.texts bytes_in in
      ap (λ m. text_at d key (m - 1)) len
      ∙ ap (λ r. text_in r (length h.texts - 1)) (found d st).is ∙ ap (λ v. text_of v (length h.texts - 1)) h.is
      ∙ text-taken d (slice_get h.texts (length h.texts - 1)) (λ p.
      changed d o (Texts (take (length h.texts - 1) h.texts) h.table))
      ∙ sym (ap (λ (n : Answer × Directory).
      n.0) (step-effect s.mode d (asked.Pop key) (open-writing s.mode (asked.Pop key) writing))
      ∙ ap (λ p. (perform d (live d) p).0) (with-found d key o (λ o. step.pop d o o.value) (found d st).is
      ∙ ap (λ v. step.pop d o v) h.is))

-- ---- the text of a key, whatever the kind of its object is

with-if : (d : Directory) (key : Key) (i : ℕ) (o : Object) (v : Value) (b : Bool)
    → same_kind StringsKind (kind_of v) ≡ b → object_at d key ≡ Some o → o.value ≡ v
    → (perform d (live d) (if b then effect d (asked.Get key i) else Refuse WrongKind)).0 ≡ text_of v i
with-if d key i o (Numbers k zs) true e f g = let same : Scalar k ≡ StringsKind = kind-same StringsKind (Scalar k) e
    in absurd (cc)
with-if d key i o (Numbers k zs) false e f g = refl
with-if d key i o (Elements k zs t) true e f g = let same : Vector k ≡ StringsKind =
    kind-same StringsKind (Vector k) e in absurd (cc)
with-if d key i o (Elements k zs t) false e f g = refl
with-if d key i o (Bytes bs t) true e f g = let same : String ≡ StringsKind = kind-same StringsKind (String) e
    in absurd (cc)
with-if d key i o (Bytes bs t) false e f g = refl
with-if d key i o (Pairs k v ps) true e f g = let same : MapKind k v ≡ StringsKind =
    kind-same StringsKind (MapKind k v) e in absurd (cc)
with-if d key i o (Pairs k v ps) false e f g = refl
with-if d key i o (Texts ps t) true e f g =
    ap (λ p. (perform d (live d) p).0) (with-found d key o (λ o. step.get d o.value i) f
    ∙ ap (λ v. step.get d v i) g) ∙ sym (text-read d (slice_get ps i))
with-if d key i o (Texts ps t) false e f g = absurd (cc)

abbrev for_texts : Directory → Key → ℕ → Object → Plan
for_texts d key i o = if same_kind StringsKind (kind_of o.value) then effect d (asked.Get key i) else Refuse WrongKind

asked-if : (d : Directory) (key : Key) (i : ℕ) (r : Option Object) → object_at d key ≡ r
    → (perform d (live d) (with (step.found_at d key) (for_texts d key i))).0 ≡ text_in r i
asked-if d key i None e = ap (λ p. (perform d (live d) p).0) (with-not_found d key (for_texts d key i) e)
asked-if d key i (Some o) e = ap (λ p. (perform d (live d) p).0) (with-found d key o (for_texts d key i) e)
    ∙ with-if d key i o o.value (same_kind StringsKind (kind_of o.value)) refl e refl

read-only : (mode : Mode) (b : Bool) (p : Plan) → b ≡ false → (if b then Refuse refusal.ReadOnly else p) ≡ p
read-only mode true p e = absurd (cc)
read-only mode false p e = refl

never : (b : Bool) → (b && false) ≡ false
never true = refl
never false = refl

asked-step : (mode : Mode) (d : Directory) (key : Key) (i : ℕ)
    → (step_of_kind mode d key StringsKind (asked.Get key i)).0
    ≡ (perform d (live d) (with (step.found_at d key) (for_texts d key i))).0
unfolding step_of_kind
asked-step mode d key i = ap (λ p.
    (perform d (live d) p).0) (read-only mode (is_read_only mode
    && false) (with (step.found_at d key) (for_texts d key i)) (never (is_read_only mode)))

-- a string that is asked for is answered
pub text-asked : (s : SegmentState) (key : Key) (i : ℕ) (answer : Answer)
    → AnswersQueryOfKind s key StringsKind (asked.Get key i) answer → (d : Directory) → DenotesCurrent s.cut.bytes d
    → answer ≡ text_at d key i
text-asked s key i answer r d st = r.answers d st ∙ asked-step s.mode d key i ∙ asked-if d key i (object_at d key) refl

-- a literal that takes no more bytes than a line has
pub has-room : (l : Literal) → bytes_taken (l ∷ []) ≤ 4097 → HasLineBuffer l
has-room (Integer z) few = tt
has-room (Boolean b) few = tt
has-room (Quoted bs) few = omega arith

-- no object has the key
pub get-missing : (s : SegmentState) (key : Key) (why : Refusal) → IsMissing s key why → (i : ℕ) (d : Directory)
    → DenotesCurrent s.cut.bytes d → Refused why ≡ (step.step s.mode d (asked.Get key i)).0
get-missing s key why m i d st =
    ap Refused m.is ∙ sym (answered-reads s.mode d (asked.Get key i) refl
    ∙ ap (λ (p : Plan). (perform d (live d) p).0) (with-not_found d key (λ o. step.get d o.value i) (m.missing d st)))

-- ---- a command that is executed

-- a step is what the command executes
pub executes-step : (old new : SegmentState) (c : Command) (answer : Answer) → TakesStep old new c answer
    → (is_untouched answer ≡ true → new ≡ old) → Executes old new c
executes-step old new c answer r same =
    record { stays = r.stays; denotes = r.denotes; refused = λ d st e. same (ap is_untouched (r.answers d st) ∙ e) }

untouched-refused : (answer : Answer) → is_untouched answer ≡ true → (w : Refusal) × (refusal_of answer ≡ Some w)
untouched-refused (Refused w) e = (w, refl)
untouched-refused answer e = absurd (cc)

same-if : (old new : SegmentState) (r : Result (Unit {0}) Refusal) (w : Refusal) → OnErr r (new ≡ old)
    → refusal_in r ≡ Some w → new ≡ old
same-if old new (Ok u) w h e = absurd (cc)
same-if old new (Err v) w h e = h

-- a step without an answer is what the command executes
pub executes-leading : (old new : SegmentState) (c : Command) (r : Result (Unit {0}) Refusal)
    → StepsWithoutAnswer old new c (refusal_in r) → OnErr r (new ≡ old) → Executes old new c
executes-leading old new c r h same = record {
  stays = h.stays;
  denotes = h.denotes;
  refused = λ d st e. let w = untouched-refused (step.step old.mode d c).0 e
      in same-if old new r w.0 same (h.answers d st ∙ w.1);
}

-- under the handle of an object that was located
pub executes-by_key : (old : SegmentState) (key : Key) (o : Located) (l : IsLocated old key o) (new : SegmentState)
    (c : Command) → Executes old new (at_key (ByHandle o.handle) c) → Executes old new (at_key key c)
executes-by_key old key o l new c h = record {
  stays = h.stays;
  denotes = λ d st. subst (λ (n : Answer × Directory).
      DenotesCurrent new.cut.bytes n.1) (step-same old key o l c d st) (h.denotes d st);
  refused = λ d st e. h.refused d st (ap (λ (n : Answer × Directory).
      is_untouched n.0) (step-same old key o l c d st) ∙ e);
}

-- what is answered after a step
pub step-answers : {E : Type 0} (old new : SegmentState) (c : Command) (answer : Answer) (reply : Said)
    (was now : WriterHistory) (result : Result Answered E) → TakesStep old new c answer
    → ((d : Directory) → answer_seen d reply ≡ answer)
    → AnswersFor was now result (DenotesCurrent new.cut.bytes) (λ d. answer_seen d reply)
    → AnswersFor was now result (DenotesCurrent old.cut.bytes) (λ d. (step.step old.mode d c).0)
step-answers old new c answer reply was now result r same w =
    answers-before {said = λ d. answer_seen d reply} (λ d. (step.step old.mode d c).1) w r.denotes (λ d k.
    same (step.step old.mode d c).1 ∙ r.answers d k)
