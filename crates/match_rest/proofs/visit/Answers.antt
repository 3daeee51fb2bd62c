-- `match_rest::visit` meets its contract: the part of the table that starts at nine times the rule's number is the rule's entry.
use Rattle.match_rest.proofs.RoundLaws.{visited}
use lib.Seq.{drop-drop, length-take-le}
use lib.ListN.{take, drop, length-drop}
use native.Mathlib.Omega.{arith}
use mathlib.Core.List.{List, ◌++◌}
use mathlib.Core.Path.{◌≡◌, ap, ◌∙◌}
use Prim.Native.Nat.{ℕ, ◌-◌, ◌+◌, ◌*◌}
use Rattle.match_rest.proofs.visit.Goals as goal

pub returns : goal.returns
returns c =
    let args = c.args in
    let nine : 9 * args.k + 9 - 9 * args.k ≡ 9 = omega arith in
    let table = args.table.now in
    let long = c.try_into-tried.auto.nine ∙ length-take-le (9 * args.k + 9 - 9 * args.k) (drop (9 * args.k) table) (omega (arith, length-drop (9 * args.k) table, c.requires.0.entry)) ∙ nine in
    visited args.heads.now args.words.now args.order.now args.state.now args.k table c.try_into-tried.new.nine args.sets.now c.settle.new.sets long c.requires.0.entry c.try_into-tried.result _
    (ap (λ (zs : List ℕ). take (9 * args.k) table ++ (c.try_into-tried.new.nine ++ zs)) (ap (λ (j : ℕ). drop j (drop (9 * args.k) table)) nine ∙ drop-drop 9 (9 * args.k) table))
    (rw c.new-rule.ensures at c.try_into-tried.ensures) c.settle.ensures
