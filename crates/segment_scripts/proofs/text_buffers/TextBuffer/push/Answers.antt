use Rattle.std.proofs.Common.{◌≡◌, ◌≤◌, ◌+◌, ◌-◌, ◌∷◌, [], ◌++◌, List, ℕ, ap, ◌∙◌, length, set, take, arith}
use Rattle.std.proofs.lemmas.List.{length-append, take_all, take_more_set}
use Rattle.segment_scripts.specs.TextBuffers.{parts, total}
use Rattle.segment_scripts.proofs.values.Texts.{parts-more, buffer-slot, buffer-taken, total-more}
use Rattle.segment_scripts.proofs.text_buffers.TextBuffer.push.Goals as goal

-- a text that has room is appended whole
appended : (bytes text all : List ℕ) → all ≡ take 4096 (bytes ++ text) → length bytes + length text ≤ 4096
    → all ≡ bytes ++ text
appended bytes text all e h = e ∙ take_all 4096 (bytes ++ text) (omega (arith, length-append bytes text))

pub append_to-requires : goal.append_to-requires
append_to-requires c = omega (
  arith,
  c.requires,
  buffer-taken c.self.inside.len c.self.inside.lengths c.self.inside.bytes c.self.view_is c.self.invariant.1,
)

pub overflow_sub-self : goal.overflow_sub-self
overflow_sub-self c =
    let whole = appended c.self.inside.bytes c.args.text.now c.append_to.new.text c.append_to.ensures
    (omega (
      arith,
      c.requires,
      buffer-taken c.self.inside.len c.self.inside.lengths c.self.inside.bytes c.self.view_is c.self.invariant.1,
    )) in
    omega (
      arith,
      ap length whole,
      length-append c.self.inside.bytes c.args.text.now,
      c.len.ensures,
      c.len-before.ensures,
    )

pub bounds-self-inside-self-inside : goal.bounds-self-inside-self-inside
bounds-self-inside-self-inside c =
    let slot = buffer-slot c.self.inside.len c.self.inside.lengths c.self.inside.bytes c.self.view_is c.self.invariant.1
    (length c.args.text.now) c.self.invariant.0 c.self.told c.requires in
    omega (arith, slot, c.self.told)

pub invariant_of-self : goal.invariant_of-self
invariant_of-self c =
    let slot = buffer-slot c.self.inside.len c.self.inside.lengths c.self.inside.bytes c.self.view_is c.self.invariant.1
    (length c.args.text.now) c.self.invariant.0 c.self.told c.requires in
    let m = c.len.result - c.len-before.result in
    let more : total (take (c.self.inside.len + 1) (set c.self.inside.lengths c.self.inside.len m))
    ≡ total (take c.self.inside.len c.self.inside.lengths) + m =
    ap total (take_more_set c.self.inside.lengths c.self.inside.len m slot)
    ∙ total-more (take c.self.inside.len c.self.inside.lengths) m in
    let whole = appended c.self.inside.bytes c.args.text.now c.append_to.new.text c.append_to.ensures
    (omega (
      arith,
      c.requires,
      buffer-taken c.self.inside.len c.self.inside.lengths c.self.inside.bytes c.self.view_is c.self.invariant.1,
    )) in
    let grown : length c.append_to.new.text ≡ length c.self.inside.bytes + length c.args.text.now =
    ap length whole ∙ length-append c.self.inside.bytes c.args.text.now in
    (omega (arith, slot, c.self.told), omega (arith, c.self.invariant.1, c.len.ensures, c.len-before.ensures))

pub returns : goal.returns
returns c =
    let slot = buffer-slot c.self.inside.len c.self.inside.lengths c.self.inside.bytes c.self.view_is c.self.invariant.1
    (length c.args.text.now) c.self.invariant.0 c.self.told c.requires in
    let whole = appended c.self.inside.bytes c.args.text.now c.append_to.new.text c.append_to.ensures
    (omega (
      arith,
      c.requires,
      buffer-taken c.self.inside.len c.self.inside.lengths c.self.inside.bytes c.self.view_is c.self.invariant.1,
    )) in
    let grown : length c.append_to.new.text ≡ length c.self.inside.bytes + length c.args.text.now =
    ap length whole ∙ length-append c.self.inside.bytes c.args.text.now in
    let m : c.len.result - c.len-before.result ≡ length c.args.text.now =
    omega (arith, c.len.ensures, c.len-before.ensures) in
    let more = take_more_set c.self.inside.lengths c.self.inside.len (c.len.result - c.len-before.result) slot in
    (λ i. parts (more i) (whole i))
    ∙ ap (λ n. parts (take c.self.inside.len c.self.inside.lengths ++ n ∷ []) (c.self.inside.bytes
    ++ c.args.text.now)) m
    ∙ parts-more (take c.self.inside.len c.self.inside.lengths) c.self.inside.bytes c.args.text.now c.self.invariant.1
    ∙ ap (λ l. l ++ c.args.text.now ∷ []) c.self.view_is
