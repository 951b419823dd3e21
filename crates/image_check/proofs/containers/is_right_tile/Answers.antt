use Rattle.image_check.proofs.Common.{ap, arith, bytes_of, cases_Bool, has_link, inl, inr, is_use, kind_at, sym, true}
use Rattle.image_check.proofs.Common.{value_offset, ◌+◌, ◌/◌, ◌∙◌, ◌≡◌}
use Rattle.block_tags.specs.declared.tile.Role.TheVariants.{Object}
use Rattle.image_check.proofs.containers.Weights.{below-more, below-step, rooted-all}
use Rattle.image_check.proofs.containers.Objects.{container-room, value-behind, walk-least, walk-object}
use Rattle.image_check.proofs.containers.is_right_tile.Goals as goal

pub returns-then-not-is_object-clause-visits : goal.returns-then-not-is_object-clause-visits
returns-then-not-is_object-clause-visits c before one =
    let t = c.args.tile in
    let long = c.requires.position.long in
    let more = below-more t.offset (t.offset + t.len) c.args.blocks.now.entries (omega arith) in
    let least = walk-least t.use_of (t.len / 16) (omega arith) in
    (omega arith, omega arith)

pub is_right-requires-clause-in_bounds : goal.is_right-requires-clause-in_bounds
is_right-requires-clause-in_bounds c s =
    let t = c.args.tile in
    let m = bytes_of c.args.window.now.bytes in
    let object : is_use Object t ≡ true = sym c.is_object.ensures ∙ c.if-not-is_object.false in
    let room = container-room c.args.format m t c.in-Some.kind (c.requires.well_formed.object object)
    (ap (kind_at c.args.format m) (sym c.visit-object.ensures.position) ∙ sym c.kind_of.ensures ∙ c.in-Some.is) s in
    let place : c.value.result.at ≡ value_offset m (t.offset + 16) =
    c.value.ensures ∙ ap (value_offset m) c.visit-object.ensures.position in
    let high = c.requires.position.high in
    omega arith

pub is_right-requires-clause-max_count : goal.is_right-requires-clause-max_count
is_right-requires-clause-max_count c =
    let all = rooted-all c.value.result.at c.args.blocks.now.entries in
    let few = c.requires.max_count in
    omega arith

pub returns-in-Some-clause-visits : goal.returns-in-Some-clause-visits
returns-in-Some-clause-visits c before one =
    let t = c.args.tile in
    let es = c.args.blocks.now.entries in
    let m = bytes_of c.args.window.now.bytes in
    let object : is_use Object t ≡ true = sym c.is_object.ensures ∙ c.if-not-is_object.false in
    let walk = walk-object t object in
    let two = c.visit-object.ensures.visits in
    let long = c.requires.position.long in
    let spent = c.is_right.ensures.visits in
    elim (cases_Bool (has_link c.in-Some.kind)) [
      | inl s ↦
          let room = container-room c.args.format m t c.in-Some.kind (c.requires.well_formed.object object)
          (ap (kind_at c.args.format m) (sym c.visit-object.ensures.position) ∙ sym c.kind_of.ensures
          ∙ c.in-Some.is) s in
          let behind = value-behind m (t.offset + 16) in
          let place : c.value.result.at ≡ value_offset m (t.offset + 16) =
          c.value.ensures ∙ ap (value_offset m) c.visit-object.ensures.position in
          let step = below-step t.offset c.value.result.at (t.offset + t.len) es (omega arith) (omega arith) in
          (omega arith, omega arith)
      | inr s ↦
          let none = c.is_right.ensures.scalar s in
          let more = below-more t.offset (t.offset + t.len) es (omega arith) in
          (omega arith, omega arith)
    ]
