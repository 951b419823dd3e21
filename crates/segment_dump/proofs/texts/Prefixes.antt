-- A text that goes on with some bytes.
use Rattle.segment_dump.proofs.Common.{◌≡◌, ℕ, ◌+◌, Bool, true, false, List, ◌++◌, length, ap, sym, ◌∙◌, drop, take}
use Rattle.segment_dump.proofs.Common.{OnTrue, take-add, IsTrue, refl}

-- a text that goes on with the bytes
pub goes-on : (b : Bool) (text : List ℕ) (at : ℕ) (bytes prefix behind : List ℕ) → behind ≡ drop at text
    → prefix ≡ take (length bytes) behind → (IsTrue b → prefix ≡ bytes)
    → OnTrue b (take (at + length bytes) text ≡ take at text ++ bytes)
goes-on true text at bytes prefix behind e f same =
    take-add at (length bytes) text ∙ ap (λ l. take at text ++ take (length bytes) l) (sym e)
    ∙ ap (λ l. take at text ++ l) (sym f ∙ same refl)
goes-on false text at bytes prefix behind e f same = tt
