-- The edits of a payload, one after the other.
use Rattle.std.proofs.Common.{◌≡◌, ℕ, zero, suc, ◌+◌, ◌<◌, ◌≤◌, List, [], ◌∷◌, ◌++◌, length, take, drop, refl, sym, ◌∙◌}
use Rattle.std.proofs.Common.{ap, arith, length-drop}
use Rattle.std.proofs.Common.{Bool, Option, Some, None, cond, nat_lt, true, false}
use Rattle.std.proofs.lemmas.Bool.{ltb-false}
use Rattle.segment_log.specs.Records.{number_of}
use Rattle.segment_log.specs.Edits.{put, next_edit, edit_on, edited_by, edited, applied, applied_all}

last_part : (at : ℕ) (bytes rest : List ℕ) (e : ℕ × List ℕ × List ℕ) → Some (at, bytes, rest) ≡ Some e → rest ≡ e.2
last_part at bytes rest e is =
    let p : (at, bytes, rest) ≡ e = cc in
    ap (λ (q : ℕ × List ℕ × List ℕ). q.2) p

shorter_if : (short : Bool) (n : ℕ) (text : List ℕ) (e : ℕ × List ℕ × List ℕ) → (short ≡ false → 16 + n ≤ length text)
    → cond {A = Option (ℕ × List ℕ × List ℕ)} short None
    (Some (number_of text, take n (drop 16 text), drop n (drop 16 text))) ≡ Some e → length e.2 + 16 ≤ length text
shorter_if true n text e long is = absurd (cc (is))
shorter_if false n text e long is =
    let back = last_part (number_of text) (take n (drop 16 text)) (drop n (drop 16 text)) e is in
    let room = long refl in
    omega (arith, ap length back, length-drop n (drop 16 text), length-drop 16 text)

pub shorter_edit : (text : List ℕ) (e : ℕ × List ℕ × List ℕ) → next_edit text ≡ Some e → length e.2 < length text
shorter_edit text e is =
    let h =
    shorter_if (nat_lt (length text) (16 + number_of (drop 8 text))) (number_of (drop 8 text)) text e
    (λ no. ltb-false _ _ no) is in
    omega arith

same_edit_on : (f g : List ℕ → List ℕ → List ℕ) (o : Option (ℕ × List ℕ × List ℕ)) (image : List ℕ)
    → ((e : ℕ × List ℕ × List ℕ) (i : List ℕ) → o ≡ Some e → f e.2 i ≡ g e.2 i) → edit_on f o image ≡ edit_on g o image
same_edit_on f g None image h = refl
same_edit_on f g (Some e) image h = h e (put e.0 e.1 image) refl

no_edit : (o : Option (ℕ × List ℕ × List ℕ)) (f : List ℕ → List ℕ → List ℕ) (image : List ℕ)
    → ((e : ℕ × List ℕ × List ℕ) → o ≡ Some e → ⊥) → edit_on f o image ≡ image
no_edit None f image h = refl
no_edit (Some e) f image h = absurd (h e refl)

pub enough_edits : (n m : ℕ) (text image : List ℕ) → length text ≤ n → length text ≤ m
    → edited_by n text image ≡ edited_by m text image
enough_edits zero zero text image a b = refl
enough_edits zero (suc m) text image a b =
    sym (no_edit (next_edit text) (λ rest. edited_by m rest) image
    (λ e is. absurd (omega (arith, shorter_edit text e is))))
enough_edits (suc n) zero text image a b =
    no_edit (next_edit text) (λ rest. edited_by n rest) image (λ e is. absurd (omega (arith, shorter_edit text e is)))
enough_edits (suc n) (suc m) text image a b =
    same_edit_on (λ rest. edited_by n rest) (λ rest. edited_by m rest) (next_edit text) image
    (λ e i is. enough_edits n m e.2 i (omega (arith, shorter_edit text e is)) (omega (arith, shorter_edit text e is)))

-- the first edit, and those behind it
pub edited_step : (text image : List ℕ) → edited text image ≡ edit_on (λ rest. edited rest) (next_edit text) image
unfolding edited
edited_step text image =
    enough_edits (length text) (suc (length text)) text image (omega arith) (omega arith)
    ∙ same_edit_on (λ rest. edited_by (length text) rest) (λ rest. edited_by (length rest) rest) (next_edit text) image
    (λ e i is. enough_edits (length text) (length e.2) e.2 i (omega (arith, shorter_edit text e is)) (omega arith))

-- a text without an edit changes nothing
pub edited_none : (text image : List ℕ) → next_edit text ≡ None → edited text image ≡ image
edited_none text image is = edited_step text image
    ∙ ap (λ (o : Option (ℕ × List ℕ × List ℕ)). edit_on (λ rest. edited rest) o image) is

-- the first edit of a text is made first
pub edited_some : (text image : List ℕ) (at : ℕ) (bytes rest : List ℕ) → next_edit text ≡ Some (at, bytes, rest)
    → edited text image ≡ edited rest (put at bytes image)
edited_some text image at bytes rest is = edited_step text image
    ∙ ap (λ (o : Option (ℕ × List ℕ × List ℕ)). edit_on (λ rest. edited rest) o image) is

-- the last payload is applied last
pub applied_last : (payloads : List (List ℕ)) (payload image : List ℕ)
    → applied_all (payloads ++ payload ∷ []) image ≡ applied payload (applied_all payloads image)
applied_last [] payload image = refl
applied_last (p ∷ payloads) payload image = applied_last payloads payload (applied p image)
