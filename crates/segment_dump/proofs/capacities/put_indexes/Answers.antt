use Rattle.segment_dump.proofs.Common.{◌∷◌, ◌++◌, [], sym, subst, append_assoc, codes, decimal, index_notes, Writes}
use Rattle.segment_dump.proofs.dumping.Output.{of-one}
use Rattle.segment_dump.proofs.capacities.put_indexes.Goals as goal

pub returns : goal.returns
returns g c =
    let named = c.named_capacity.result in
    let unique = c.unique_capacity.result in
    of-one {text = index_notes named unique}
    (subst (λ text. Writes (g.W.Sink.history c.args.out.now) (g.W.Sink.history c.put_pieces.new.out)
    c.put_pieces.result (codes "# capacity of names: " ++ text))
    (sym (append_assoc (decimal named) (0x0A ∷ []) (codes "# capacity of kinds: "
    ++ (decimal unique ++ 0x0A ∷ [])))) c.put_pieces.ensures)
    (λ d k. λ i. index_notes (c.named_capacity.ensures.answers d k i) (c.unique_capacity.ensures.answers d k i))
