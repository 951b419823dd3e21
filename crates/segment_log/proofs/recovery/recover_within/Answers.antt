use Rattle.std.proofs.Common.{◌≡◌, ℕ, ◌-◌, List, ◌++◌, length, arith, ap, sym, ◌∙◌, refl}
use Rattle.std.proofs.lemmas.List.{length-take-le}
use Rattle.segment_log.specs.Edits.{applied_all, Holds}
use Rattle.segment_log.specs.Fingerprints.{fingerprint}
use Rattle.segment_log.specs.Records.{recovered, zeros}
use Rattle.segment_log.specs.Tags.{belongs, fits}
use Rattle.segment_log.proofs.edits.Within.{held_front, length-applied_all, most_first, most_last}
use Rattle.segment_log.proofs.tags.Owned.{named_of_fits, no_fit}
use Rattle.segment_log.proofs.recovery.recover_within.Goals as goal

pub slice_bounds-fingerprint-end : goal.slice_bounds-fingerprint-end
slice_bounds-fingerprint-end c =
    omega (arith, most_first (recovered c.args.log.now) (length c.args.file.now), c.requires.room)

pub slice_bounds-fingerprint-end-2 : goal.slice_bounds-fingerprint-end-2
slice_bounds-fingerprint-end-2 c =
    sym (length-take-le (length c.args.file.now) c.args.buffer.now
    (omega (arith, most_first (recovered c.args.log.now) (length c.args.file.now), c.requires.room)))

pub slice_bounds-fingerprint-end-3 : goal.slice_bounds-fingerprint-end-3
slice_bounds-fingerprint-end-3 c =
    omega (
      arith,
      most_last (recovered c.args.log.now) (length c.args.file.now),
      c.requires.room,
      c.replay_within-made.ensures.len,
      c.replay_within-made.auto.buffer,
    )

pub slice_bounds-fingerprint-end-4 : goal.slice_bounds-fingerprint-end-4
slice_bounds-fingerprint-end-4 c =
    sym (length-take-le c.replay_within-made.result.len c.replay_within-made.new.buffer
    (omega (
      arith,
      most_last (recovered c.args.log.now) (length c.args.file.now),
      c.requires.room,
      c.replay_within-made.ensures.len,
      c.replay_within-made.auto.buffer,
    )))

pub returns-then-not-fits-clause-refused : goal.returns-then-not-fits-clause-refused
returns-then-not-fits-clause-refused c =
    let payloads : List (List ℕ) = recovered c.args.log.now in
    let image : List ℕ = applied_all payloads c.args.file.now in λ held.
    let len : length image ≡ c.replay_within-made.result.len =
    length-applied_all payloads c.args.file.now ∙ sym c.replay_within-made.ensures.len in
    let front = held_front c.replay_within-made.new.buffer image
    (c.replay_within-made.ensures.image c.args.file.now refl held) c.replay_within-made.result.len len in
    let lens : length c.put_back.new.buffer ≡ length c.args.buffer.now =
    omega (arith, c.put_back.ensures.len, c.put_back.auto.buffer, c.replay_within-made.auto.buffer) in (
      refl,
      record {
        cause = λ together. no_fit (fingerprint image) c.fingerprint-after.result payloads
            (c.fingerprint-after.ensures ∙ ap fingerprint front) (sym c.fits.ensures ∙ c.if-not-fits.true)
            together.image;
        unchanged = c.put_back.ensures.image
            ∙ ap (λ (n : ℕ). c.args.file.now ++ zeros (n - length c.args.file.now)) lens ∙ sym held;
      },
    )

pub returns-clause-opening : goal.returns-clause-opening
returns-clause-opening c =
    let payloads : List (List ℕ) = recovered c.args.log.now in
    let image : List ℕ = applied_all payloads c.args.file.now in λ held.
    let made : Holds c.replay_within-made.new.buffer image =
    c.replay_within-made.ensures.image c.args.file.now refl held in
    let len : length image ≡ c.replay_within-made.result.len =
    length-applied_all payloads c.args.file.now ∙ sym c.replay_within-made.ensures.len in
    let base : c.fingerprint-base.result ≡ fingerprint c.args.file.now = c.fingerprint-base.ensures
    ∙ ap fingerprint (held_front c.args.buffer.now c.args.file.now held (length c.args.file.now) refl) in
    let after : c.fingerprint-after.result ≡ fingerprint image = c.fingerprint-after.ensures
    ∙ ap fingerprint (held_front c.replay_within-made.new.buffer image made c.replay_within-made.result.len len) in
    record {
      image = made;
      len_is = sym len;
      end_is = c.replay_within-made.ensures.end;
      base_is = base;
      after_is = after;
      tags = record {
        own = ap (λ (n : ℕ). belongs n payloads) (sym base) ∙ sym c.belongs.ensures ∙ c.if-not-belongs.false;
        image = named_of_fits (fingerprint image) payloads
            (ap (λ (n : ℕ). fits n payloads) (sym after) ∙ sym c.fits.ensures ∙ c.if-not-fits.false);
      };
    }
