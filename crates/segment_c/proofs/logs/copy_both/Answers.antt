use borrow.Rule.Slice.PartMut.{put_mid}
use Rattle.segment_c.proofs.logs.copy_both.Goals as goal
use Rattle.std.proofs.Common.{◌≡◌, ◌≤◌, ◌∙◌, ℕ, ◌+◌, ◌-◌, List, [], ◌++◌, length, take, drop, ap, sym, arith}
use Rattle.std.proofs.lemmas.List.{append-nil, append_assoc, drop_all, drop-drop, take_all}
use Rattle.std.proofs.{Common.length-append, Common.length-drop, Math.Seq.drop-append_seam, Math.Seq.take-append_seam}
use Rattle.segment_c.specs.{Images.CopiesOut, Logs.WritesOut}

-- one text at the front of a buffer, and another copied behind it
both : (first second old put new : List ℕ) (code : ℕ) → put ≡ first → length first ≤ length old
    → length second ≤ length old - length first
    → CopiesOut second
    (take (length (put ++ drop (length first) old) - length first)
    (drop (length first) (put ++ drop (length first) old))) new code
    → WritesOut (first ++ second) old
    (put_mid (length first) (length (put ++ drop (length first) old) - length first)
    (put ++ drop (length first) old) new) code
both first second old put new code is fits more copied =
    let n : ℕ = length first in
    let behind : List ℕ = drop n old in
    let filled : List ℕ = put ++ behind in
    let same : filled ≡ first ++ behind = ap (λ l. l ++ behind) is in
    let size : length filled ≡ length old =
    omega (arith, ap length same, length-append first behind, length-drop n old) in
    let mid : drop n filled ≡ behind = ap (drop n) same ∙ drop-append_seam first behind in
    let all : take (length filled - n) (drop n filled) ≡ behind =
    ap (take (length filled - n)) mid
    ∙ take_all (length filled - n) behind (omega (arith, size, length-drop n old)) in
    let room : length second ≤ length (take (length filled - n) (drop n filled)) =
    omega (arith, ap length all, length-drop n old) in
    let done = copied.0 room in
    let front : take n filled ≡ first = ap (take n) same ∙ take-append_seam first behind in
    let none : drop (length filled - n) (drop n filled) ≡ [] =
    drop_all (length filled - n) (drop n filled) (omega (arith, size, ap length mid, length-drop n old)) in
    let end : n + length second ≡ length (first ++ second) = omega (arith, length-append first second) in
    let tail : drop (length second) behind ≡ drop (length (first ++ second)) old =
    drop-drop (length second) n old ∙ ap (λ m. drop m old) end in
    let new_is : new ++ [] ≡ second ++ drop (length second) behind =
    append-nil new ∙ done.1 ∙ (λ i. second ++ drop (length second) (all i)) in
    let whole : put_mid n (length filled - n) filled new
    ≡ (first ++ second) ++ drop (length (first ++ second)) old =
    (λ i. front i ++ (new ++ none i)) ∙ ap (λ l. first ++ l) new_is
    ∙ sym (append_assoc first second (drop (length second) behind))
    ∙ ap (λ l. (first ++ second) ++ l) tail in
    record {
      written = λ _. ((λ _. (done.0, whole)), (λ short. absurd (omega (arith, length-append first second))));
      unchanged_on_error = λ refused. absurd (omega (arith, done.0));
    }

pub returns : goal.returns
returns c =
    both c.args.first.now c.args.second.now c.args.out.now c.copy_from_slice.new.self c.copy_out.new.buffer
    c.copy_out.result c.copy_from_slice.ensures.after (omega (arith, c.if-out-first.false))
    (omega (arith, c.if-out-first-2.false)) c.copy_out.ensures.saved
