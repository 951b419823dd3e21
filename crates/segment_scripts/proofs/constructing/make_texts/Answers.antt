use Rattle.std.proofs.Common.{◌∙◌, ap, map, subst, sym}
use Rattle.seg_types.specs.Commands.{Strings}
use Rattle.segment_scripts.specs.Replies.{IsLineContent, Replies}
use Rattle.segment_scripts.proofs.constructing.make_texts.Goals as goal

pub make-requires : goal.make-requires
make-requires g c = record {
  object = tt;
  content = subst (λ bss. IsLineContent (g.K.LineKey.key c.args.key.now) (Strings bss))
      (sym (ap (map (λ t. t.now)) c.as_slice-texts.ensures.value ∙ c.few-few.ensures ∙ c.copy_texts.ensures))
      c.requires;
}

pub returns : goal.returns
returns g c =
    subst (λ bss. Replies c.args.segment.now c.make.new.segment (g.K.LineKey.command c.args.key.now (Strings bss))
    c.make.result)
    (ap (map (λ t. t.now)) c.as_slice-texts.ensures.value ∙ c.few-few.ensures ∙ c.copy_texts.ensures) c.make.ensures

pub returns-then-len-gt-FEW : goal.returns-then-len-gt-FEW
returns-then-len-gt-FEW g c =
    subst (λ bss. Replies c.args.segment.now c.make_many.new.segment (g.K.LineKey.command c.args.key.now (Strings bss))
    c.make_many.result) c.copy_texts.ensures c.make_many.ensures
