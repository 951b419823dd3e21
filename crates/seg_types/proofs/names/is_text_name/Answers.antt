use Rattle.std.proofs.Common.{◌≡◌, ℕ, Bool, true, false, ◌&&◌, List, length, nat_le, arith, ap, sym, ◌∙◌, refl}
use Rattle.std.proofs.lemmas.{Bool.false_from_ne_true, Grind.common_steps}
use Rattle.std.specs.Str.{IsUtf8, chars, is_utf8}
use Rattle.std.specs.List.{list_all}
use Rattle.std.specs.Prelude.{not}
use Rattle.std.proofs.lemmas.Str.{IsUtf8-from_is_utf8}
use Rattle.seg_types.specs.Names.{is_control, is_text_name}
use Rattle.seg_types.proofs.names.Texts.{printable_name, text_name}
use Rattle.seg_types.proofs.names.is_text_name.Goals as goal

none_of : (b c d : Bool) → c ≡ false → false ≡ (b && c && d)
none_of true false d p = refl
none_of false c d p = refl
none_of true true d p = cc

no_text : (name : List ℕ) → (IsUtf8 name → ⊥) → false ≡ is_text_name name
unfolding is_text_name
no_text name none =
    none_of (nat_le 1 (length name) && nat_le (length name) 255) (is_utf8 name)
    (list_all (λ c. not (is_control c)) (chars name)) (false_from_ne_true (is_utf8 name) (λ e.
    none (IsUtf8-from_is_utf8 name e)))

pub returns-then-is_empty : goal.returns-then-is_empty
unfolding is_text_name
returns-then-is_empty c = grind (arith, common_steps)

pub returns-in-Ok : goal.returns-in-Ok
returns-in-Ok c =
    let cases = c.in-Ok.ensures.cases in
    c.is_without_control.ensures ∙ ap (λ text. list_all (λ c. not (is_control c)) (chars text)) cases.0
    ∙ text_name c.args.bytes.now (grind arith) (omega arith) cases.1

pub returns-in-Err : goal.returns-in-Err
returns-in-Err c = no_text c.args.bytes.now c.in-Err.ensures.cases.0

pub returns-then-are_printable : goal.returns-then-are_printable
returns-then-are_printable c =
    printable_name c.args.bytes.now (grind arith) (omega arith) (sym c.are_printable.ensures
    ∙ c.if-are_printable.true)
