use Rattle.segment_dump.proofs.capacities.put_note.Goals as goal
use Rattle.segment_dump.proofs.Common.{◌≡◌, ℕ, List, [], ◌∷◌, ◌++◌, ap, sym, subst, append_assoc, codes, Anonymous}
use Rattle.segment_dump.proofs.Common.{Unique, Kind, kind_text, number_text, Writes}
use Rattle.segment_dump.specs.{Capacities.Holds, Capacities.capacity_note, Texts.info_line}

unique-note : (name : List ℕ) (kind : Kind) (n : ℕ)
    → info_line (codes "# capacity of unique ") Unique name kind (codes ": ") n
    ≡ capacity_note (record { holder = Holds Unique name kind; slots = n })
unique-note name kind n = ap (λ l.
    codes "# capacity of unique " ++ l) (sym (append_assoc (kind_text kind) (codes ": " ++ number_text n) (0x0A ∷ [])))

anonymous-note : (name : List ℕ) (kind : Kind) (n : ℕ)
    → info_line (codes "# capacity of anonymous ") Anonymous name kind (codes ": ") n
    ≡ capacity_note (record { holder = Holds Anonymous name kind; slots = n })
anonymous-note name kind n = ap (λ l.
    codes "# capacity of anonymous " ++ l)
    (sym (append_assoc (kind_text kind) (codes ": " ++ number_text n) (0x0A ∷ [])))

pub returns-in-Unique : goal.returns-in-Unique
returns-in-Unique g c =
    let e = c.in-Unique.is in
    let w = rw e at c.put_line-in-Unique.ensures in
    rw e (subst (λ t. Writes (g.W.Sink.history c.args.out.now) (g.W.Sink.history c.put_line-in-Unique.new.out)
    c.put_line-in-Unique.result t) (unique-note c.args.said.name.now c.args.said.kind c.args.slots) w)

pub returns-in-Anonymous : goal.returns-in-Anonymous
returns-in-Anonymous g c =
    let e = c.in-Anonymous.is in
    let w = rw e at c.put_line-in-Anonymous.ensures in
    rw e (subst (λ t. Writes (g.W.Sink.history c.args.out.now) (g.W.Sink.history c.put_line-in-Anonymous.new.out)
    c.put_line-in-Anonymous.result t) (anonymous-note c.args.said.name.now c.args.said.kind c.args.slots) w)
