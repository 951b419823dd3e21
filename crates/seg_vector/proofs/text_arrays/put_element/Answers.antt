-- A link, and a word after it.
use Rattle.seg_vector.proofs.{◌≡◌, subst, ◌∙◌, inl, ◌+◌, arith, bytes_of, word_at, SameBytesExcept-link, changed-both}
use Rattle.seg_vector.proofs.text_arrays.put_element.Goals as goal

pub returns : goal.returns
returns c =
    let at = c.args.array + c.args.at in let one = c.set_link.ensures in let two = c.set_word.ensures in
    let word : c.args.array + (c.args.at + 8) ≡ at + 8 = omega arith in
    record {
      change = changed-both at 16 one.changes two.changes (omega arith) (omega arith) (omega arith) (omega arith);
      link = SameBytesExcept-link _ _ _ 8 at two.changes.rest (inl (omega arith)) ∙ one.link_target;
      len_word = subst (λ k. word_at (bytes_of c.set_word.new.self.bytes) k ≡ c.args.len) word two.word;
    }
