-- `actr_lines::put_number` meets its contract: the digits are as few as the definition says.
use Prim.Native.Nat.{ℕ}
use native.Mathlib.Omega.{arith}
use Rattle.actr_lines.proofs.DecimalLaws.{few-digits, decimal-put}
use mathlib.Core.Path.{subst}
use Rattle.actr_lines.specs.Text.{decimal}
use Rattle.actr_lines.specs.Written.{Written}
use Rattle.actr_lines.proofs.put_number.Goals as goal
use Rattle.actr_lines.proofs.put_number.Goals.{After-decimal-k}

-- the number, where its digits have been made
abbrev number : (c : After-decimal-k) → ℕ
number c = c.from.result

pub put-requires : goal.put-requires
put-requires c =
    omega (arith, c.decimal-k.ensures.in_bounds.1, few-digits (number (goal.at.put-requires c).After-decimal-k) c.decimal-k.result (omega arith) c.decimal-k.ensures.len)

pub returns : goal.returns
returns c =
    subst (λ (n : ℕ). Written c.args.text.now c.args.at c.put.new.text c.put.result 10 (decimal n)) c.from.ensures
    (decimal-put c.decimal-k.new.out (number (goal.at.returns c).After-decimal-k) c.decimal-k.result (omega arith) c.decimal-k.ensures.in_bounds.1 c.decimal-k.ensures.len c.decimal-k.ensures.digits c.put.ensures)
