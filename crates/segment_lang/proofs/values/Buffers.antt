-- Values in place, to which more are added.
use Rattle.std.proofs.Common.{◌≡◌, ℕ, ◌+◌, ◌-◌, ◌≤◌, min, List, ◌++◌, length, take, sym, ap, ◌∙◌, arith}
use Rattle.std.proofs.lemmas.List.{take_min, length-take-le}
use Rattle.std.proofs.lemmas.Slice.{take-put_mid}
use Rattle.std.proofs.Math.Seq.{take-append-add}
use borrow.Rule.Slice.PartMut.{put_mid}

-- of more values those are kept for which there is room
pub room_filled : {A : Type 0} (n i k count : ℕ) (values line more part : List A) → take i values ≡ line → i ≤ n
    → length values ≡ n → count ≡ min (n - i) (length more) → part ≡ take count more
    → take (i + count) (put_mid i k values part) ≡ take n (line ++ more)
room_filled {A} n i k count values line more part e h size is from =
    let long : length line ≡ i = sym (ap length e) ∙ length-take-le i values (omega arith) in
    let fits : length part ≡ count = ap length from ∙ length-take-le count more (omega arith) in
    let room : length line + (n - i) ≡ n = omega arith in
    take-put_mid i k values part (i + count) (omega arith) (omega arith) ∙ ap (λ (l : List A). l ++ part) e
    ∙ ap (λ (l : List A). line ++ l) (from ∙ ap (λ (c : ℕ). take c more) is ∙ take_min (n - i) more)
    ∙ sym (take-append-add line more (n - i)) ∙ ap (λ (m : ℕ). take m (line ++ more)) room
