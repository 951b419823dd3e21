use Rattle.image_check.proofs.Common.{ap, arith, before_irreflexive, bytes_of, length, nodes_of, stands_before, sym}
use Rattle.image_check.proofs.Common.{◌∙◌}
use Rattle.best_fit.specs.GapLaws.{comes}
use Rattle.image_check.specs.FreeNodes.{is_before, len_at}
use Rattle.image_check.proofs.free_tree.Places.{found-tells, nothing-tells}
use Rattle.image_check.proofs.budget.Visits.{search-short}
use Rattle.image_check.proofs.free_tree.is_reached.Goals as goal

pub returns-in-Some-clause-value : goal.returns-in-Some-clause-value
returns-in-Some-clause-value c t s =
    let m = bytes_of c.args.window.now.bytes in
    let n = c.args.sought.node in
    found-tells (stands_before m) (is_before m c.args.sought.len n) n c.in-Some.found (nodes_of t)
    (λ k. ap (λ l. comes (len_at m k) k l n) (sym c.requires.len)) (before_irreflexive m n) s.ordered
    (sym c.in-Some.is ∙ c.find_tile.ensures.first t s)

pub returns-in-None-clause-value : goal.returns-in-None-clause-value
returns-in-None-clause-value c t s =
    let m = bytes_of c.args.window.now.bytes in
    let n = c.args.sought.node in
    nothing-tells (stands_before m) (is_before m c.args.sought.len n) n (nodes_of t)
    (λ k. ap (λ l. comes (len_at m k) k l n) (sym c.requires.len)) (before_irreflexive m n) s.ordered
    (sym c.in-None.is ∙ c.find_tile.ensures.first t s)

pub returns-in-Some-clause-visits_on_error : goal.returns-in-Some-clause-visits_on_error
returns-in-Some-clause-visits_on_error c =
    let t = c.requires.tree in
    let few = search-short (length (nodes_of t.0)) c.find_tile.result.steps t.2 (c.find_tile.ensures.steps t.0 t.1) in
    let more = c.find_tile.ensures.visits in
    omega arith

pub returns-in-None-clause-visits_on_error : goal.returns-in-None-clause-visits_on_error
returns-in-None-clause-visits_on_error c =
    let t = c.requires.tree in
    let few = search-short (length (nodes_of t.0)) c.find_tile.result.steps t.2 (c.find_tile.ensures.steps t.0 t.1) in
    let more = c.find_tile.ensures.visits in
    omega arith
