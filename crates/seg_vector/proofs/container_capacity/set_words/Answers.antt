-- Three words are written one after another.
use Rattle.seg_vector.proofs.container_capacity.set_words.Goals as goal
use Rattle.seg_vector.proofs.{◌≡◌, subst, ◌∙◌, inl, ◌+◌, arith, bytes_of, word_at, SameBytesExcept-word}
use Rattle.seg_vector.proofs.{SameBytesExcept-link, changed-both}

pub returns : goal.returns
returns c =
    let at = c.args.place.handle + c.args.place.at in let a = c.set_link.ensures in let b = c.set_word.ensures in
    let d = c.set_word-2.ensures in
    let first : c.args.place.handle + (c.args.place.at + 8) ≡ at + 8 = omega arith in
    let second : c.args.place.handle + (c.args.place.at + 16) ≡ at + 16 = omega arith in
    let both = changed-both at 24 a.changes b.changes (omega arith) (omega arith) (omega arith) (omega arith) in
    record {
      change = changed-both at 24 both d.changes (omega arith) (omega arith) (omega arith) (omega arith);
      link = SameBytesExcept-link _ _ _ 8 at d.changes.rest (inl (omega arith))
          ∙ SameBytesExcept-link _ _ _ 8 at b.changes.rest (inl (omega arith)) ∙ a.link_target;
      len_word = SameBytesExcept-word _ _ _ 8 (at + 8) d.changes.rest (inl (omega arith))
          ∙ subst (λ k. word_at (bytes_of c.set_word.new.self.bytes) k ≡ c.args.count) first b.word;
      capacity = subst (λ k. word_at (bytes_of c.set_word-2.new.self.bytes) k ≡ c.args.count) second d.word;
    }
