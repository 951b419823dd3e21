use Rattle.std.proofs.Common.{◌∷◌, ◌++◌, [], sym, ◌∙◌, ap, arith, length, subst, take}
use Rattle.std.proofs.lemmas.List.{length-take}
use Rattle.std.specs.Option.{IfSome, IsSome}
use Rattle.segment_lang.specs.Tokens.{text_at}
use Rattle.segment_lang.proofs.texts.Items.{text_in-item, text_in-end, moved_byte, last_byte, spelled_text}
use Rattle.segment_lang.proofs.tokens.Quoted.append_to.Goals as goal

pub items-init : goal.items-init
items-init c = record {
  text = subst (λ text. IfSome text (λ text. IsSome (text_at text))) (sym c.in-Some.ensures.value) c.self.invariant;
  copied = ap (λ bytes. take 4096 (c.args.text.now ++ bytes))
      (sym (spelled_text c.self.inside.spelled.now _ c.in-Some.ensures.value) ∙ c.self.view_is);
  room = c.requires;
}

pub items-preserved : goal.items-preserved
items-preserved c =
    let p = text_in-item _ _ _ (sym c.in-Some-read_item.ensures.value) c.items.invariant.text in
    record {
      text = p.0;
      copied = moved_byte _ _ _ _ _ c.extend-in-Some-read_item.ensures p.1 ∙ c.items.invariant.copied;
      room = omega (
        arith,
        ap length c.extend-in-Some-read_item.ensures,
        length-take 4096 (c.items.text ++ c.in-Some-read_item.byte ∷ []),
      );
    }

pub returns : goal.returns
returns c = last_byte _ _ _ c.items.invariant.room (text_in-end _ (sym c.in_default-read_item.ensures.value))
    c.items.invariant.copied
