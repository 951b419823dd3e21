-- Lists of texts with one more, one less, or one replaced.
use Rattle.segment_manager.proofs.Common.{◌≡◌, refl, sym, ap, ◌∙◌, ℕ, zero, suc, ◌-◌, Some, List, [], ◌∷◌, ◌++◌, length}
use Rattle.segment_manager.proofs.Common.{take, drop, append-nil, arith, insert, remove, slice_get, slice_set}
use Rattle.segment_manager.proofs.{Common.OwnedText, containers.TextBlocks.IsPartOther}
use Rattle.std.proofs.{Math.Seq.take-length, Math.Seq.drop-length, lemmas.List.drop_all, lemmas.List.take-append-drop}

-- the text at index i, among the others
split-at : (ps : List OwnedText) (i : ℕ) (q : OwnedText) → slice_get ps i ≡ Some q
    → ps ≡ take i ps ++ q ∷ drop (suc i) ps
split-at [] i q e = absurd (cc)
split-at (p ∷ ps) zero q e = let same : p ≡ q = cc in ap (λ (r : OwnedText). r ∷ ps) same
split-at (p ∷ ps) (suc i) q e = ap (λ (qs : List OwnedText). p ∷ qs) (split-at ps i q e)

set-at : (ps : List OwnedText) (i : ℕ) (q r : OwnedText) → slice_get ps i ≡ Some q
    → slice_set ps i r ≡ take i ps ++ r ∷ drop (suc i) ps
set-at [] i q r e = absurd (cc)
set-at (p ∷ ps) zero q r e = refl
set-at (p ∷ ps) (suc i) q r e = ap (λ (qs : List OwnedText). p ∷ qs) (set-at ps i q r e)

-- one more text
pub part-inserted : (ps : List OwnedText) (i : ℕ) (q : OwnedText) → IsPartOther ps (insert ps i q) [] (q ∷ [])
part-inserted ps i q = record { front = take i ps; back = drop i ps; was = sym (take-append-drop i ps); is = refl }

-- another
pub part-set : (ps : List OwnedText) (i : ℕ) (q r : OwnedText) → slice_get ps i ≡ Some q
    → IsPartOther ps (slice_set ps i r) (q ∷ []) (r ∷ [])
part-set ps i q r e = record
    { front = take i ps; back = drop (suc i) ps; was = split-at ps i q e; is = set-at ps i q r e }

-- one text less
pub part-removed : (ps : List OwnedText) (i : ℕ) (q : OwnedText) → slice_get ps i ≡ Some q
    → IsPartOther ps (remove ps i) (q ∷ []) []
part-removed ps i q e = record { front = take i ps; back = drop (suc i) ps; was = split-at ps i q e; is = refl }

-- all texts are replaced, and none
pub part-all : (ps qs : List OwnedText) → IsPartOther ps qs ps qs
part-all ps qs = record { front = []; back = []; was = sym (append-nil ps); is = sym (append-nil qs) }

-- no string is exchanged: the list stays
pub part-none : (ps : List OwnedText) → IsPartOther ps ps [] []
part-none ps = record { front = []; back = ps; was = refl; is = refl }

-- ---- at the end

-- a string inserted at the end is the last
pub pushed-last : (ps : List OwnedText) (q : OwnedText) → insert ps (length ps) q ≡ ps ++ q ∷ []
pushed-last ps q = λ i. take-length ps i ++ q ∷ drop-length ps i

-- the last is left out
pub removed-last : (ps : List OwnedText) → remove ps (length ps - 1) ≡ take (length ps - 1) ps
removed-last ps = ap (λ (qs : List OwnedText). take (length ps - 1) ps ++ qs)
    (drop_all (suc (length ps - 1)) ps (omega arith)) ∙ append-nil (take (length ps - 1) ps)
