use Rattle.image_check.proofs.Common.{arith}
use Rattle.image_check.proofs.containers.MapPairs.{pair-lies, parts-before}
use Rattle.image_check.proofs.image_window.pairs.CheckedPairTreeNodes.precedes.Goals as goal

pub overflow_add-a : goal.overflow_add-a
overflow_add-a c =
    let s = c.args.self.now in
    let lies = pair-lies s.window.now s.blocks.now.entries s.root s.key s.value c.args.a c.requires.first in
    let high = lies.high in
    let small = lies.small in
    omega arith

pub overflow_add-b : goal.overflow_add-b
overflow_add-b c =
    let s = c.args.self.now in
    let lies = pair-lies s.window.now s.blocks.now.entries s.root s.key s.value c.args.b c.requires.second in
    let high = lies.high in
    let small = lies.small in
    omega arith

pub bytes-requires : goal.bytes-requires
bytes-requires c =
    let s = c.args.self.now in
    let fields = (pair-lies s.window.now s.blocks.now.entries s.root s.key s.value c.args.a c.requires.first).fields in
    let len = c.size-len.ensures in
    omega arith

pub bytes-requires-2 : goal.bytes-requires-2
bytes-requires-2 c =
    let s = c.args.self.now in
    let fields = (pair-lies s.window.now s.blocks.now.entries s.root s.key s.value c.args.b c.requires.second).fields in
    let len = c.size-len.ensures in
    omega arith

pub returns : goal.returns
returns c =
    let s = c.args.self.now in
    let a = (pair-lies s.window.now s.blocks.now.entries s.root s.key s.value c.args.a c.requires.first).fields in
    let b = (pair-lies s.window.now s.blocks.now.entries s.root s.key s.value c.args.b c.requires.second).fields in
    let e = parts-before s.window.now s.key c.args.a c.args.b (omega arith) (omega arith) in
    cc
