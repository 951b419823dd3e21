-- The halves of two words.
use Rattle.segment_manager.proofs.Common.{◌≡◌, ap, ◌∙◌, ◌+◌, ◌/◌, ◌%◌, ℕ, arith, bytes_of, word_at, kind_of}
use Rattle.segment_manager.proofs.objects.Standings.{head-words, standing-room, standing-short}
use Rattle.segment_manager.proofs.objects.head.read_head.Goals as goal

pub word-first-requires : goal.word-first-requires
word-first-requires c = standing-room c.args.heap.now.bytes c.args.handle 8 c.requires.0 c.requires.1 (omega arith)

pub word-second-requires : goal.word-second-requires
word-second-requires c = standing-room c.args.heap.now.bytes c.args.handle 16 c.requires.0 c.requires.1 (omega arith)

pub overflow_cast-name_len : goal.overflow_cast-name_len
overflow_cast-name_len c =
    let short = standing-short _ _ c.requires.0 c.requires.1 in let words = head-words c.requires.1 in
    let len = words.name_len in let second = c.word-second.ensures in omega (arith, short, len, second)

pub returns : goal.returns
returns c = λ o s.
    let w = head-words s in let at : c.args.handle + 0 ≡ c.args.handle = omega arith in
    let first = c.word-first.ensures ∙ ap (word_at (bytes_of c.args.heap.now.bytes)) at in
    record {
      kind = c.kind_of_code.ensures (kind_of o.value) (ap (λ (x : ℕ). x % 4294967296) first ∙ w.code);
      count = ap (λ (x : ℕ). x / 4294967296) first ∙ w.count;
      name_len = ap (λ (x : ℕ). x % 4294967296) c.word-second.ensures ∙ w.name_len;
      class = c.class_of_code.ensures o.class (ap (λ (x : ℕ). x / 4294967296) c.word-second.ensures ∙ w.class);
    }
