-- Base64 that is written a group after another.
use Rattle.segment_dump.proofs.Common.{◌≡◌, ℕ, List, [], ◌∷◌, ◌++◌, Result, Ok, Err, IsErr, sym, ap, subst, ◌∙◌, ◌≤◌}
use Rattle.segment_dump.proofs.Common.{◌-◌, arith, drop, get_or, length, take, take_all, append_assoc, WriterHistory}
use Rattle.segment_dump.proofs.{Common.Writes, Common.writes-cut, Common.writes-then, texts.Parts.well}
use Rattle.segment_dump.specs.Json.{base64_text}

-- the first three bytes
pub group-prefix : (bs : List ℕ) → 3 ≤ length bs
    → bs ≡ get_or bs 0 0 ∷ get_or bs 1 0 ∷ get_or bs 2 0 ∷ take (length bs - 3) (drop 3 bs)
group-prefix [] h = absurd (omega (arith, h))
group-prefix (a ∷ []) h = absurd (omega (arith, h))
group-prefix (a ∷ b ∷ []) h = absurd (omega (arith, h))
group-prefix (a ∷ b ∷ c ∷ bs) h =
    ap (λ l. a ∷ b ∷ c ∷ l) (sym (take_all (length (a ∷ b ∷ c ∷ bs) - 3) bs (omega arith)))

-- so much has gone out, and this is left
pub record IsLeft (old new : WriterHistory) (bytes rest : List ℕ) : Type 0 where
  pub taken : List ℕ
  pub told : Writes old new well taken
  pub all : base64_text bytes ≡ taken ++ base64_text rest

-- a group more
pub left-more : {B F : Type 0} (old mid new : WriterHistory) (bytes rest behind : List ℕ) (a b c : ℕ) (y : B)
    → IsLeft old mid bytes rest → rest ≡ a ∷ b ∷ c ∷ behind
    → Writes {E = F} mid new (Ok y) (base64_text (a ∷ b ∷ c ∷ [])) → IsLeft old new bytes behind
left-more old mid new bytes rest behind a b c y was e w = record {
  taken = was.taken ++ base64_text (a ∷ b ∷ c ∷ []);
  told = let both = writes-then old mid new 0 well was.taken (base64_text (a ∷ b ∷ c ∷ [])) was.told
      (record { ok = w.ok; err = tt; counted = w.counted }) in both;
  all = was.all ∙ ap (λ r. was.taken ++ base64_text r) e
      ∙ sym (append_assoc was.taken (base64_text (a ∷ b ∷ c ∷ [])) (base64_text behind));
}

-- the writer failed in a group
pub left-cut : {A B E F : Type 0} (old mid new : WriterHistory) (bytes rest behind : List ℕ) (a b c : ℕ) (x : E)
    (result : Result B F) → IsLeft old mid bytes rest → rest ≡ a ∷ b ∷ c ∷ behind → IsErr result
    → Writes {A = A} mid new (Err x) (base64_text (a ∷ b ∷ c ∷ [])) → Writes old new result (base64_text bytes)
left-cut old mid new bytes rest behind a b c x result was e is_err w =
    subst (Writes old new result) (sym (was.all ∙ ap (λ r. was.taken ++ base64_text r) e))
    (writes-then old mid new 0 result was.taken (base64_text (a ∷ b ∷ c ∷ []) ++ base64_text behind) was.told
    (writes-cut mid new x result (base64_text (a ∷ b ∷ c ∷ [])) (base64_text behind) is_err w))

-- and what is left
pub left-last : {B F : Type 0} (old mid new : WriterHistory) (bytes rest : List ℕ) (result : Result B F)
    → IsLeft old mid bytes rest → Writes mid new result (base64_text rest) → Writes old new result (base64_text bytes)
left-last old mid new bytes rest result was w =
    subst (Writes old new result) (sym was.all)
    (writes-then old mid new 0 result was.taken (base64_text rest) was.told w)
