use Rattle.image_check.proofs.Common.{IsTileGrown, IsValueGrown, IsValueReady, ap, bytes_of, kind_at, payload, subst}
use Rattle.image_check.proofs.Common.{sym, value_offset, ◌∙◌}
use Rattle.image_check.specs.Sharing.{state_of}
use Rattle.image_check.proofs.shared_blocks.Worklist.{map-marked}
use Rattle.image_check.proofs.shared_blocks.Tiles.{tile-grown}
use Rattle.image_check.proofs.shared_blocks.mark_object.Goals as goal

pub mark_value-requires : goal.mark_value-requires
mark_value-requires g c =
    let b = c.args.window.now.bytes in
    let here = c.visit-object.ensures.position in
    let uses = sym c.is_object.ensures ∙ c.if-not-is_object.false in
    let kind = ap (λ f. kind_at f (bytes_of b) (payload c.args.tile)) c.requires.1.0
    ∙ ap (kind_at c.args.format (bytes_of b)) (sym here) ∙ sym c.kind_of.ensures ∙ c.in-Some.is in
    let at = c.value.ensures ∙ ap (value_offset (bytes_of b)) here in (
      c.requires.0,
      (
        c.requires.1.1.1.0,
        subst (λ x. IsValueReady g.said b c.in-Some.kind x c.args.owners.now.blocks.entries) (sym at)
            (c.requires.1.1.1.1 c.in-Some.kind uses kind),
      ),
    )

pub returns-in-Some-clause-mark : goal.returns-in-Some-clause-mark
returns-in-Some-clause-mark g c =
    let b = c.args.window.now.bytes in
    let o = state_of c.args.owners.now in
    let m = state_of c.mark_value.new.owners in
    let here = c.visit-object.ensures.position in
    let uses = sym c.is_object.ensures ∙ c.if-not-is_object.false in
    let kind = ap (λ f. kind_at f (bytes_of b) (payload c.args.tile)) c.requires.1.0
    ∙ ap (kind_at c.args.format (bytes_of b)) (sym here) ∙ sym c.kind_of.ensures ∙ c.in-Some.is in
    let at = c.value.result.at in
    let place = c.value.ensures ∙ ap (value_offset (bytes_of b)) here in
    map-marked (IsValueGrown g.said b c.in-Some.kind at o m) (IsTileGrown g.said b c.args.tile o m) g.said b
    c.mark_value.result (tile-grown g.said b c.args.tile c.in-Some.kind at uses kind place o m)
    c.mark_value.ensures.mark
