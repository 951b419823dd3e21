-- The lines of objects in a listing.
use Rattle.std.proofs.Common.{◌≡◌, ℕ, List, [], ◌∷◌, ◌++◌, length, Option, Some, None, Result, Ok, Err, refl, sym, ap}
use Rattle.std.proofs.Common.{◌∙◌, false, true}
use Rattle.std.specs.Option.{is_some}
use Rattle.seg_types.specs.declared.kinds.Kind.TheVariants.{Map}
use Rattle.seg_types.specs.declared.kinds.ScalarKind.{ScalarKind}
use Rattle.seg_types.specs.declared.refusals.Refusal.{Refusal}
use Rattle.seg_types.specs.Names.{Key}
use Rattle.segment_lang.specs.Texts.{kind_text, name_text, number_text}
use Rattle.segment_manager.specs.declared.objects.instance_info.Instance.{Instance}
use Rattle.segment_manager.specs.declared.objects.object_ref.Object.{Object as Located}
use Rattle.segment_manager.specs.Answers.{Refused}
use Rattle.segment_manager.specs.Directory.{Value, Numbers, Elements, Bytes, Pairs, Texts, Object, Directory, kind_of}
use Rattle.segment_manager.specs.objects.{Found.is_object_at, Located.IsLocated}
use Rattle.segment_manager.specs.objects.Instances.{IsInstance, IsMissing, SaysAt, SaysOf}
use Rattle.segment_manager.specs.State.{AnswersWith, SegmentState, DenotesCurrent}
use Rattle.segment_manager.specs.containers.Contents.{sizes_at, sizes_of}
use Rattle.segment_manager.proofs.Laws.{said-at, same-object}
use Rattle.segment_scripts.specs.Answer.{answer_text, class_tokens, entry_tokens, handle_text, line, measure_tokens}
use Rattle.segment_scripts.specs.Refusing.{is_refusal}
use Rattle.segment_scripts.specs.Replies.{told_at, told_of}
use Rattle.segment_scripts.specs.Parts.{part_of, said_tokens}
use Rattle.segment_scripts.specs.Shown.{length_in, number_tokens}
use Rattle.segment_scripts.proofs.listing.Lines.{line_part}
use Rattle.segment_values.proofs.LaidElements.{sizes_of_object}

-- what is said of an object is printed as the object's words
pub entry-said : (o : Object) (said : Instance) → IsInstance o said → said_tokens said ≡ entry_tokens o
entry-said o said h = λ j. kind_text (h.kind j) ∷ number_text (h.count j) ∷ handle_text (h.at j) ∷ []

-- the line of a named object is the directory's
pub named-said : (o : Object) (said : Instance) → IsInstance o said
    → line (name_text said.name.now ∷ said_tokens said) ≡ line (name_text o.name ∷ entry_tokens o)
named-said o said h = λ j. line (name_text (h.name j) ∷ entry-said o said h j)

-- the line of a unique object is the directory's
pub unique-said : (o : Object) (said : Instance) → IsInstance o said → line (said_tokens said) ≡ line (entry_tokens o)
unique-said o said h = ap line (entry-said o said h)

-- the line of an object at a place of an index is the part of the listing
pub said-part : (s : SegmentState) (tokens : Object → List (List ℕ)) (objects : Directory
    → List Object) (i : ℕ) (said : Instance) (text : List ℕ) → SaysAt s objects i said
    → ((o : Object) → IsInstance o said → text ≡ line (tokens o)) → (d : Directory) → DenotesCurrent s.cut.bytes d
    → text ≡ line_part tokens (objects d) i
said-part s tokens objects i said text h same d k =
    let o = h.says d k in
    same o.0 o.2 ∙ sym (ap (part_of (λ p. line (tokens p))) o.1)

-- ---- one object

abbrev capacity_in : Result (ℕ × ℕ) Refusal → ℕ
capacity_in (Ok (len, capacity)) = capacity
capacity_in (Err r) = 0

-- what is measured of an object is said after the others: length and capacity
measure-said : (v : Value) → ((k w : ScalarKind) → kind_of v ≡ Map k w → ⊥) → (len capacity : ℕ)
    → Ok (len, capacity) ≡ sizes_of v → number_tokens (Some len) ++ number_tokens (Some capacity) ≡ measure_tokens v
measure-said (Numbers k zs) n len capacity e = absurd (cc)
measure-said (Elements k zs t) n len capacity e = let one : len ≡ length zs = ap length_in e
    in let two : capacity ≡ t.capacity = ap capacity_in e in λ i. number_text (one i) ∷ number_text (two i) ∷ []
measure-said (Bytes bs t) n len capacity e = let one : len ≡ length bs = ap length_in e
    in let two : capacity ≡ t.capacity = ap capacity_in e in λ i. number_text (one i) ∷ number_text (two i) ∷ []
measure-said (Pairs k w ps) n len capacity e = absurd (n k w refl)
measure-said (Texts ps t) n len capacity e = let one : len ≡ length ps = ap length_in e
    in let two : capacity ≡ t.capacity = ap capacity_in e in λ i. number_text (one i) ∷ number_text (two i) ∷ []

-- of a map the length alone
measure-map : (v : Value) (k w : ScalarKind) → kind_of v ≡ Map k w → (len capacity : ℕ)
    → Ok (len, capacity) ≡ sizes_of v → number_tokens (Some len) ++ [] ≡ measure_tokens v
measure-map (Numbers l zs) k w f len capacity e = absurd (cc)
measure-map (Elements l zs t) k w f len capacity e = absurd (cc)
measure-map (Bytes bs t) k w f len capacity e = absurd (cc)
measure-map (Pairs l m ps) k w f len capacity e = let one : len ≡ length ps = ap length_in e
    in λ i. number_text (one i) ∷ []
measure-map (Texts ps t) k w f len capacity e = absurd (cc)

-- and of numbers nothing
measure-none : (v : Value) (why : Refusal) → Err why ≡ sizes_of v → [] ≡ measure_tokens v
measure-none (Numbers k zs) why e = refl
measure-none (Elements k zs t) why e = absurd (cc)
measure-none (Bytes bs t) why e = absurd (cc)
measure-none (Pairs k w ps) why e = absurd (cc)
measure-none (Texts ps t) why e = absurd (cc)

-- all that is told of an object
module _ (s : SegmentState) (key : Key) (said : Instance) (h : SaysOf s key said) where
  tokens-said : (d : Directory) (st : DenotesCurrent s.cut.bytes d) (tokens : List (List ℕ))
      → tokens ≡ measure_tokens (h.says d st).0.value
      → line (class_tokens said.class said.name.now ++ said_tokens said ++ tokens) ≡ answer_text (told_at d key)
  tokens-said d st tokens e =
      let f = h.says d st in
      (λ j. line (class_tokens (f.2.class j) (f.2.name j) ++ entry-said f.0 said f.2 j ++ e j))
      ∙ ap (λ (q : Option Object). answer_text (told_of q)) (sym f.1)

  measured : (r : Result (ℕ × ℕ) Refusal) → AnswersWith s (λ d. sizes_at d key) r
      → (d : Directory) (st : DenotesCurrent s.cut.bytes d) → r ≡ sizes_of (h.says d st).0.value
  measured r a d st = a.answers d st ∙ ap sizes_of_object (h.says d st).1

  -- what is told of an object with storage is the directory's
  pub told-said : (len capacity : ℕ) → ((k w : ScalarKind) → said.kind ≡ Map k w → ⊥)
      → AnswersWith s (λ d. sizes_at d key) (Ok (len, capacity)) → (d : Directory) → DenotesCurrent s.cut.bytes d
      → line (class_tokens said.class said.name.now ++ said_tokens said
      ++ (number_tokens (Some len) ++ number_tokens (Some capacity))) ≡ answer_text (told_at d key)
  told-said len capacity n a d st =
      let f = h.says d st in
      tokens-said d st (number_tokens (Some len) ++ number_tokens (Some capacity)) (measure-said f.0.value (λ k w e.
      n k w (f.2.kind ∙ e)) len capacity (measured (Ok (len, capacity)) a d st))

  -- what is told of a map is the directory's
  pub told-map : (k w : ScalarKind) (len capacity : ℕ) → said.kind ≡ Map k w
      → AnswersWith s (λ d. sizes_at d key) (Ok (len, capacity)) → (d : Directory) → DenotesCurrent s.cut.bytes d
      → line (class_tokens said.class said.name.now ++ said_tokens said
      ++ (number_tokens (Some len) ++ number_tokens None)) ≡ answer_text (told_at d key)
  told-map k w len capacity e a d st =
      let f = h.says d st in
      tokens-said d st (number_tokens (Some len) ++ []) (measure-map f.0.value k w (sym f.2.kind
      ∙ e) len capacity (measured (Ok (len, capacity)) a d st))

  -- what is told of an array is the directory's
  pub told-numbers : (why : Refusal) → AnswersWith s (λ d. sizes_at d key) (Err why) → (d : Directory)
      → DenotesCurrent s.cut.bytes d
      → line (class_tokens said.class said.name.now ++ said_tokens said ++ (number_tokens None ++ number_tokens None))
      ≡ answer_text (told_at d key)
  told-numbers why a d st = tokens-said d st [] (measure-none (h.says d st).0.value why (measured (Err why) a d st))

module _ (s : SegmentState) (key : Key) (o : Located) (l : IsLocated s key o) where
  -- a located object is there
  pub object-here : AnswersWith s (λ d. is_object_at d o.handle) true
  object-here = record {
    answers = λ d st. sym (ap (λ (q : Option Object). is_some q)
        (sym (same-object s key o l d st) ∙ (said-at s key o l d st).is));
  }

  -- it is told
  pub told-here : (d : Directory) → DenotesCurrent s.cut.bytes d → false ≡ is_refusal (told_at d key)
  told-here d st = ap (λ (q : Option Object). is_refusal (told_of q)) (sym (said-at s key o l d st).is)

-- there is none
pub told-missing : (s : SegmentState) (key : Key) (r : Refusal) → IsMissing s key r → (d : Directory)
    → DenotesCurrent s.cut.bytes d → Refused r ≡ told_at d key
told-missing s key r h d k = ap Refused h.is ∙ ap told_of (sym (h.missing d k))
