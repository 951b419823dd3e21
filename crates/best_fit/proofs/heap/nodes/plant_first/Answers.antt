-- A tree of one node, or of none.
use Rattle.best_fit.proofs.Common.{◌<◌, ◌≤◌, length, arith}
use Rattle.best_fit.proofs.heap.EmptyHeap.{none_links, planted_links, planted_none, planted_one}
use Rattle.best_fit.proofs.heap.nodes.plant_first.Goals as goal

pub returns-then-size-gt-FIRST_GAP-clause-live : goal.returns-then-size-gt-FIRST_GAP-clause-live
returns-then-size-gt-FIRST_GAP-clause-live c =
    let w = c.args.window.now in
    let l : 144 < length w.bytes = let e = c.size.ensures in let t = c.if-size-gt-FIRST_GAP.true in omega arith in
    let a = c.set_link.ensures in let b = c.set_link-then-size-gt-FIRST_GAP.ensures in
    let d = c.set_link-then-size-gt-FIRST_GAP-2.ensures in
    planted_one w c.set_link.new.window c.set_link-then-size-gt-FIRST_GAP.new.window
    c.set_link-then-size-gt-FIRST_GAP-2.new.window c.requires.layout l
    a.link_target a.len a.frame b.link_target b.len b.frame d.link_target d.len d.frame

pub returns-then-size-gt-FIRST_GAP-clause-links : goal.returns-then-size-gt-FIRST_GAP-clause-links
returns-then-size-gt-FIRST_GAP-clause-links c =
    let w = c.args.window.now in
    let l : 144 < length w.bytes = let e = c.size.ensures in let t = c.if-size-gt-FIRST_GAP.true in omega arith in
    let a = c.set_link.ensures in let b = c.set_link-then-size-gt-FIRST_GAP.ensures in
    let d = c.set_link-then-size-gt-FIRST_GAP-2.ensures in
    planted_links w c.set_link.new.window c.set_link-then-size-gt-FIRST_GAP.new.window
    c.set_link-then-size-gt-FIRST_GAP-2.new.window c.requires.layout l
    a.link_target a.len a.frame b.link_target b.len b.frame d.link_target d.len d.frame

pub returns-else-size-gt-FIRST_GAP-clause-live : goal.returns-else-size-gt-FIRST_GAP-clause-live
returns-else-size-gt-FIRST_GAP-clause-live c =
    let w = c.args.window.now in
    let l : length w.bytes ≤ 144 = let e = c.size.ensures in let t = c.if-size-gt-FIRST_GAP.false in omega arith in
    let a = c.set_link-else-size-gt-FIRST_GAP.ensures in
    planted_none w c.set_link-else-size-gt-FIRST_GAP.new.window c.requires.layout l a.link_target a.len a.frame

pub returns-else-size-gt-FIRST_GAP-clause-links : goal.returns-else-size-gt-FIRST_GAP-clause-links
returns-else-size-gt-FIRST_GAP-clause-links c =
    let w = c.args.window.now in
    let l : length w.bytes ≤ 144 = let e = c.size.ensures in let t = c.if-size-gt-FIRST_GAP.false in omega arith in
    let a = c.set_link-else-size-gt-FIRST_GAP.ensures in
    none_links w c.set_link-else-size-gt-FIRST_GAP.new.window c.requires.layout l a.link_target a.len a.frame
