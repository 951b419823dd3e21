-- The links that make way, and then the new one.
use Rattle.seg_index.proofs.{◌≡◌, ◌+◌, ◌-◌, ◌*◌, ◌∙◌, ap, arith, inr, bytes_of, link_at, SameBytesExcept-link}
use Rattle.seg_index.proofs.{changed_trans}
use Rattle.seg_index.proofs.adding.spread.Goals as goal

pub returns-clause-changes : goal.returns-clause-changes
returns-clause-changes c =
    let a = c.args in
    changed_trans (a.to + 8 * a.place) (8 * (a.count - a.place) + 8) c.shift_non_null_links.ensures.changes
    c.set_link.ensures.changes (omega arith) (omega arith) (omega arith) (omega arith)

pub returns-clause-tail : goal.returns-clause-tail
returns-clause-tail c =
    let a = c.args in let B = bytes_of c.shift_non_null_links.new.self.bytes in let at = a.to + 8 * a.place in
    record {
      each = λ k l.
          let e : at + 8 + 8 * k ≡ a.to + (8 * a.place + 8) + 8 * k = omega arith in
          SameBytesExcept-link B (bytes_of c.set_link.new.self.bytes) at 8 (at + 8 + 8 * k)
          c.set_link.ensures.changes.rest
          (inr (omega arith)) ∙ ap (λ q. link_at B q) e ∙ c.shift_non_null_links.ensures.lead.each k l;
    }
