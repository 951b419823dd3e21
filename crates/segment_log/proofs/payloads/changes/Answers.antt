use Rattle.std.proofs.Common.{◌≡◌, ◌+◌, ◌^◌, ◌%◌, ◌<◌, ◌≤◌, ◌++◌, ℕ, length, sym, ap, ◌∙◌, arith}
use Rattle.std.proofs.lemmas.List.{length-append}
use Rattle.std.proofs.lemmas.Slice.Eq.{bytes_eq-Decides}
use Rattle.std.proofs.lemmas.Bool.{not-false}
use Rattle.segment_log.specs.Edits.{filling}
use Rattle.segment_log.specs.Records.{number_bytes, zeros}
use Rattle.segment_log.specs.Fingerprints.{fingerprint}
use Rattle.segment_log.specs.Tags.{tag_text}
use Rattle.segment_log.proofs.payloads.Writing.{writes_first, writes_part, writes_same, writes_last, same_part}
use Rattle.segment_log.proofs.payloads.Writing.{tagged_first, tagged_more, few_first, few_more}
use Rattle.segment_log.proofs.payloads.Writing.{names_its_base, names_its_image}
use Rattle.segment_log.proofs.records.Pieces.{length-zeros}
use Rattle.segment_log.proofs.payloads.changes.Goals as goal

filled_up : (n all : ℕ) → all ≡ n + filling n → (8 + all) % 4096 ≡ 0
filled_up n all is = omega (arith, is)

filled_max : (n all : ℕ) → all ≡ n + filling n → all ≤ n + 4095
filled_max n all is = omega (arith, is)

pub pages-init : goal.pages-init
pages-init c =
    let few : length c.args.new.now < 256 ^ 8 = omega arith in
    let begun : c.in_ok-payload.payload.items ≡ number_bytes (length c.args.new.now) ++ tag_text c.args.base
    (fingerprint c.args.new.now) = c.in_ok-payload.ensures
    ∙ ap (λ (n : ℕ). number_bytes (length c.args.new.now) ++ tag_text c.args.base n) c.fingerprint.ensures in
    record {
      within = omega arith;
      so_far =
          writes_first c.args.old.now c.args.new.now c.in_ok-payload.payload.items c.args.base
          (fingerprint c.args.new.now) few begun;
      tagged =
          tagged_first (length c.args.new.now) c.args.base
          (fingerprint c.args.new.now) c.in_ok-payload.payload.items begun;
      few = omega (
        arith,
        few_first (length c.args.new.now) c.args.base (fingerprint c.args.new.now) c.in_ok-payload.payload.items begun,
      );
    }

pub pages-preserved-in_ok-push_edit : goal.pages-preserved-in_ok-push_edit
pages-preserved-in_ok-push_edit c =
    let few : length c.args.new.now < 256 ^ 8 = omega arith in
    let within : c.pages.at + c.min.result ≤ length c.args.new.now = omega (arith, c.min.ensures) in
    record {
      within = within;
      so_far =
          writes_part c.args.old.now c.args.new.now c.pages.payload.items c.push_edit.new.payload.items c.pages.at
          (c.pages.at + c.min.result) (omega arith) within few c.pages.invariant.so_far c.in_ok-push_edit.ensures;
      tagged =
          tagged_more (length c.args.new.now) c.args.base
          (fingerprint c.args.new.now) c.pages.payload.items c.push_edit.new.payload.items _ c.pages.invariant.tagged
          c.in_ok-push_edit.ensures;
      few = omega (
        arith,
        c.min.ensures,
        c.pages.invariant.few,
        c.pages-test.true,
        few_more c.args.new.now c.pages.payload.items c.push_edit.new.payload.items c.pages.at
            (c.pages.at + c.min.result) (omega arith) within c.in_ok-push_edit.ensures,
      );
    }

pub pages-preserved : goal.pages-preserved
pages-preserved c =
    let within : c.pages.at + c.min.result ≤ length c.args.new.now = omega (arith, c.min.ensures) in
    record {
      within = within;
      so_far = writes_same c.args.old.now c.args.new.now c.pages.payload.items c.pages.at (c.pages.at + c.min.result)
          (same_part c.args.old.now c.args.new.now c.pages.at (c.pages.at + c.min.result)
          (omega arith) within c.if-end-old.false
          ((bytes_eq-Decides _ _).0 (not-false _ (sym c.if-ne.ensures)))) c.pages.invariant.so_far;
      tagged = c.pages.invariant.tagged;
      few = omega (arith, c.pages.invariant.few);
    }

pub returns : goal.returns
returns c =
    let n = length c.args.new.now in
    let mark = fingerprint c.args.new.now in
    let known : mark < 256 ^ 8 = omega (arith, c.fingerprint.ensures) in
    let payload = c.pages.payload.items in
    let filled = c.fill.new.payload.items in
    let zeros_len = filling (length payload) in
    let is : filled ≡ payload ++ zeros zeros_len = c.in_ok-fill.ensures in
    let tagged = tagged_more n c.args.base mark payload filled (zeros zeros_len) c.pages.invariant.tagged is in
    let len : length filled ≡ length payload + filling (length payload) =
    ap length is ∙ length-append payload (zeros zeros_len)
    ∙ ap (λ k. length payload + k) (length-zeros zeros_len) in
    record {
      changes =
          writes_last c.args.old.now c.args.new.now payload filled c.pages.at zeros_len c.pages-test.false
          (omega arith) is c.pages.invariant.so_far;
      base = names_its_base n c.args.base mark filled tagged (omega arith);
      after = names_its_image n c.args.base mark filled tagged known;
      multiple = filled_up (length payload) (length filled) len;
      max_len = omega (
        arith,
        filled_max (length payload) (length filled) len,
        c.pages.invariant.few,
        c.pages.invariant.within,
      );
    }
