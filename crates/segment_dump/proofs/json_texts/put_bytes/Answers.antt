use Rattle.segment_dump.proofs.json_texts.put_bytes.Goals as goal
use Rattle.segment_dump.proofs.Common.{◌≡◌, Bool, true, false, List, ℕ, if◌then◌else◌, refl, sym, ap, subst, Writes}
use Rattle.std.specs.Str.{IsUtf8, is_utf8}
use Rattle.std.proofs.lemmas.Str.{IsUtf8-from_is_utf8, is_utf8-from_IsUtf8}
use Rattle.segment_dump.specs.Json.{json_bytes, json_coded, json_string}

text-if : (b : Bool) (bs : List ℕ) → is_utf8 bs ≡ b → json_bytes bs ≡ (if b then json_string bs else json_coded bs)
text-if b bs e = ap (λ x. if x then json_string bs else json_coded bs) e

not-true : (b : Bool) → (b ≡ true → ⊥) → b ≡ false
not-true true h = absurd (h refl)
not-true false h = refl

as_string : (bs : List ℕ) → IsUtf8 bs → json_bytes bs ≡ json_string bs
as_string bs u = text-if true bs (is_utf8-from_IsUtf8 bs u)

as_base64 : (bs : List ℕ) → (IsUtf8 bs → ⊥) → json_bytes bs ≡ json_coded bs
as_base64 bs n = text-if false bs (not-true (is_utf8 bs) (λ e. n (IsUtf8-from_is_utf8 bs e)))

pub returns-in-Ok : goal.returns-in-Ok
returns-in-Ok g c =
    subst (Writes (g.W.Sink.history c.args.out.now) (g.W.Sink.history c.put_string.new.out) c.put_string.result)
    (sym (as_string c.args.text.now c.in-Ok.ensures.cases.1)) c.put_string.ensures

pub returns-in-Err : goal.returns-in-Err
returns-in-Err g c =
    subst (Writes (g.W.Sink.history c.args.out.now) (g.W.Sink.history c.put_coded.new.out) c.put_coded.result)
    (sym (as_base64 c.args.text.now c.in-Err.ensures.cases.0)) c.put_coded.ensures
