-- A link, and the word of the capacity.
use Rattle.seg_vector.proofs.container_capacity.set_storage.Goals as goal
use Rattle.seg_vector.proofs.{◌≡◌, subst, ◌∙◌, inl, inr, ◌+◌, arith, bytes_of, word_at, SameBytesExcept-word}
use Rattle.seg_vector.proofs.{SameBytesExcept-link, changed-both}

pub returns : goal.returns
returns c =
    let at = c.args.place.handle + c.args.place.at in let one = c.set_link.ensures in let two = c.set_word.ensures in
    let word : c.args.place.handle + (c.args.place.at + 16) ≡ at + 16 = omega arith in
    record {
      change = changed-both at 24 one.changes two.changes (omega arith) (omega arith) (omega arith) (omega arith);
      link = SameBytesExcept-link _ _ _ 8 at two.changes.rest (inl (omega arith)) ∙ one.link_target;
      len_word = SameBytesExcept-word _ _ _ 8 (at + 8) two.changes.rest (inl (omega arith))
          ∙ SameBytesExcept-word _ _ _ 8 (at + 8) one.changes.rest (inr (omega arith));
      capacity = subst (λ k. word_at (bytes_of c.set_word.new.self.bytes) k ≡ c.args.n) word two.word;
    }
