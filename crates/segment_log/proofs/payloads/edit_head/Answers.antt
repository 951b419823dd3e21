use Rattle.std.proofs.Common.{◌≡◌, ◌∙◌, ℕ, List, [], ◌∷◌, ◌++◌, refl, length, take, drop, ap, sym, arith}
use Rattle.std.proofs.Common.{length-append, length-drop}
use Rattle.std.proofs.lemmas.List.{append-nil, drop_all}
use Rattle.std.proofs.Math.Seq.{take-append_seam}
use borrow.Rule.Slice.PartMut.{put_mid}
use Rattle.segment_log.specs.Records.{number_bytes}
use Rattle.segment_log.proofs.records.Reading.{length-number}
use Rattle.segment_log.proofs.payloads.edit_head.Goals as goal

-- eight bytes put behind eight others
put_behind : (xs zs ys : List ℕ) → length xs ≡ 8 → length zs ≡ 8 → put_mid 8 8 (xs ++ zs) ys ≡ xs ++ ys
put_behind xs zs ys a b =
    let front : take 8 (xs ++ zs) ≡ xs = ap (λ n. take n (xs ++ zs)) (sym a) ∙ take-append_seam xs zs in
    let none : drop 8 (drop 8 (xs ++ zs)) ≡ [] =
    drop_all 8 (drop 8 (xs ++ zs))
    (omega (arith, a, b, length-drop 8 (xs ++ zs), length-append xs zs)) in
    (λ i. front i ++ (ys ++ none i)) ∙ ap (λ l. xs ++ l) (append-nil ys)

pub returns : goal.returns
returns c =
    let first : c.copy_from_slice.new.self ≡ number_bytes c.args.at =
    c.copy_from_slice.ensures.after ∙ c.number_bytes.ensures in
    let second : c.copy_from_slice-2.new.self ≡ number_bytes c.args.len =
    c.copy_from_slice-2.ensures.after ∙ c.number_bytes-2.ensures in
    put_behind c.copy_from_slice.new.self (0 ∷ 0 ∷ 0 ∷ 0 ∷ 0 ∷ 0 ∷ 0 ∷ 0 ∷ []) c.copy_from_slice-2.new.self
    (ap length first ∙ length-number c.args.at) refl
    ∙ (λ i. first i ++ second i)
