-- What is shown of an object: its kind, and its numbers, texts or pairs one after another, or its bytes.
use Rattle.std.proofs.Common.{◌≡◌, ℕ, false, List, [], ◌∷◌, ◌++◌, length, map, Option, refl, sym, ap, ◌∙◌, append_assoc}
use Rattle.std.specs.List.{flat_map}
use Rattle.seg_types.specs.declared.kinds.Kind.TheVariants.{Map, Scalar, Strings as StringsKind, Vector}
use Rattle.seg_types.specs.declared.refusals.Refusal.{Refusal}
use Rattle.seg_types.specs.Names.{ByHandle, Key}
use Rattle.seg_map.specs.Places.{item_of}
use Rattle.seg_vector.specs.Vector.{OwnedText}
use Rattle.segment_lang.specs.Texts.{kind_text, quoted_text, value_text}
use Rattle.segment_manager.specs.declared.objects.object_ref.Object.{Object as Located}
use Rattle.segment_manager.specs.Answers.{Refused, Shown}
use Rattle.segment_manager.specs.Directory.{Value, Numbers, Elements, Bytes, Pairs, Texts, Object, Directory, kind_of}
use Rattle.segment_manager.specs.objects.Instances.{IsMissing}
use Rattle.segment_manager.specs.objects.Located.{IsLocated}
use Rattle.segment_manager.specs.State.{AnswersWith, SegmentState, DenotesCurrent}
use Rattle.segment_manager.proofs.Laws.{said-at, same-object}
use Rattle.segment_values.specs.Contents.{bytes_in, content_of, count_of_content}
use Rattle.segment_values.specs.Layouts.{count_at, laid_at, laid_from, laid_object, laid_out, object_count}
use Rattle.segment_values.proofs.Laid.{laid-flat, laid-made}
use Rattle.segment_values.proofs.LaidElements.{count_of_object}
use Rattle.segment_scripts.specs.Answer.{answer_text, line, pair_text}
use Rattle.segment_scripts.specs.Parts.{part_of}
use Rattle.segment_scripts.specs.Refusing.{is_refusal}
use Rattle.segment_scripts.specs.Replies.{shown_at, shown_of}
use Rattle.segment_scripts.specs.Shown.{prefix_text, in_line}

-- ---- all elements

line-tokens : {X : Type 0} (text : X → List ℕ) (w : List ℕ) (xs : List X)
    → line (w ∷ map text xs) ≡ w ++ (flat_map (λ x. 0x20 ∷ text x) xs ++ 0x0A ∷ [])
line-tokens text w [] = refl
line-tokens text w (x ∷ xs) =
    ap (λ l. w ++ 0x20 ∷ l) (line-tokens text (text x) xs)
    ∙ ap (λ l. w ++ 0x20 ∷ l) (sym (append_assoc (text x) (flat_map (λ x. 0x20 ∷ text x) xs) (0x0A ∷ [])))

-- elements that are laid out after a word are the words after it
laid-line : {X : Type 0} (text : X → List ℕ) (w : List ℕ) (xs : List X)
    → w ++ (laid_from (λ i x. 0x20 ∷ text x) 0 xs ++ 0x0A ∷ []) ≡ line (w ∷ map text xs)
laid-line text w xs = ap (λ l. w ++ (l ++ 0x0A ∷ [])) (laid-flat (λ x. 0x20 ∷ text x) 0 xs) ∙ sym (line-tokens
    text w xs)

-- what is written of a value is what is shown of it
shown-laid : (v : Value) → prefix_text (kind_of v) (count_of_content (content_of v))
    ++ (laid_out in_line (content_of v) ++ 0x0A ∷ []) ≡ answer_text (Shown v)
shown-laid (Numbers k zs) = laid-line (value_text k) (prefix_text (Scalar k) (length zs)) zs
shown-laid (Elements k zs t) = laid-line (value_text k) (kind_text (Vector k)) zs
shown-laid (Bytes bs t) = refl
shown-laid (Pairs k v ps) =
    ap (λ l. kind_text (Map k v) ++ (l ++ 0x0A ∷ [])) (laid-made (λ i p. in_line.pair i k v p) item_of 0 ps)
    ∙ laid-line (pair_text k v) (kind_text (Map k v)) ps
shown-laid (Texts ps t) =
    ap (λ l. kind_text StringsKind ++ (l ++ 0x0A ∷ [])) (laid-made (λ i bs. in_line.text i bs) bytes_in 0 ps)
    ∙ laid-line (λ (p : OwnedText). quoted_text p.bytes) (kind_text StringsKind) ps

-- ---- the object of a handle, and of a key

-- what is shown of an object is the directory's
pub shown-said : (s : SegmentState) (o : Located) → IsLocated s (ByHandle o.handle) o → (n : ℕ)
    → AnswersWith s (λ d. count_at d (ByHandle o.handle)) n → (d : Directory) → DenotesCurrent s.cut.bytes d
    → prefix_text o.kind n ++ (laid_at in_line d (ByHandle o.handle) ++ 0x0A ∷ [])
    ≡ answer_text (shown_at d (ByHandle o.handle))
shown-said s o l n counted d st =
    let f = said-at s (ByHandle o.handle) o l d st in
    let kind : o.kind ≡ kind_of f.object.value = ap (λ (q : Located). q.kind) f.said in
    let long : n ≡ object_count f.object = counted.answers d st ∙ ap count_of_object f.is in
    (λ j. prefix_text (kind j) (long j) ++ (part_of (laid_object in_line) (f.is j) ++ 0x0A ∷ []))
    ∙ shown-laid f.object.value
    ∙ ap (λ (r : Option Object). answer_text (shown_of r)) (sym f.is)

-- what is shown under a key is the object's
pub shown-by_key : (s : SegmentState) (key : Key) (o : Located) → IsLocated s key o → (d : Directory)
    → DenotesCurrent s.cut.bytes d → answer_text (shown_at d (ByHandle o.handle)) ≡ answer_text (shown_at d key)
shown-by_key s key o l d st = ap (λ (r : Option Object). answer_text (shown_of r)) (sym (same-object s key o l d st))

-- it is shown
pub shown-here : (s : SegmentState) (key : Key) (o : Located) → IsLocated s key o → (d : Directory)
    → DenotesCurrent s.cut.bytes d → false ≡ is_refusal (shown_at d key)
shown-here s key o l d st = ap (λ (r : Option Object). is_refusal (shown_of r)) (sym (said-at s key o l d st).is)

-- there is none
pub shown-missing : (s : SegmentState) (key : Key) (r : Refusal) → IsMissing s key r → (d : Directory)
    → DenotesCurrent s.cut.bytes d → Refused r ≡ shown_at d key
shown-missing s key r h d k = ap Refused h.is ∙ ap shown_of (sym (h.missing d k))
