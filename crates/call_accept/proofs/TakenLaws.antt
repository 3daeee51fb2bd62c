-- What is taken, by how the image was laid out and how long the table is; and what that says of a call.
use Prim.Native.Nat.{ℕ, ◌*◌}
use mathlib.Core.Path.{◌≡◌, refl, sym, ap, ◌∙◌}
use mathlib.Core.Bool.{Bool, true, false}
use mathlib.Core.List.{List}
use native.Mathlib.Omega.{arith}
use borrow.Author.Tests.{eq-eqb, ne_eqb, eqb-true, eqb-false}
use lib.Dec.{eqb}
use lib.ListN.{length}
use Rattle.meaning.specs.Model.{Model}
use Rattle.meaning.specs.Read.{Read, read_refused, read_got}
use Rattle.meaning.specs.Image.{decode}
use Rattle.meaning.specs.Calls.{accepted, place_of}
use Rattle.layout.specs.declared.Plan.{Plan}
use Rattle.layout.specs.Rows.{rule_in}
use Rattle.layout.specs.Plans.{heads_on, rows_on, model_on, Planned}
use Rattle.layout.proofs.RowLaws.{rows-length}
use Rattle.std.specs.Prelude.{Result, Ok, Err, IfErr}
use Rattle.meaning.specs.declared.reasons.Refusal.{Refusal}
use Rattle.meaning.specs.declared.reasons.Reason.TheVariants.{WrongTable}
use Rattle.meaning.specs.Reasons.{number_of}
use Rattle.read_image.specs.Whole.{header_of, RefusedOf}
use Rattle.read_image.proofs.WholeLaws.{decode-refused}
use Rattle.call_accept.specs.Acceptance.{settled, taken_by, TakenMet}

-- ---- the definition, by what is decoded

module _ (image table : List ℕ) where
  accepted-bad : (n at : ℕ) → read_refused n at ≡ decode image → read_refused n at ≡ settled (accepted image table)
  unfolding accepted
  accepted-bad n at e = rw (← e)

  accepted-other : (m : Model) (at : ℕ) → read_got m at ≡ decode image → (length table ≡ 9 * length m.rules → ⊥) → read_refused 5 0 ≡ settled (accepted image table)
  unfolding accepted
  accepted-other m at e z = rw (← e, ne_eqb (length table) (9 * length m.rules) z)

  accepted-right : (m : Model) (at : ℕ) → read_got m at ≡ decode image → length table ≡ 9 * length m.rules → read_got m 0 ≡ settled (accepted image table)
  unfolding accepted
  accepted-right m at e l = rw (← e, eq-eqb (length table) (9 * length m.rules) l)

-- ---- what is taken

module _ (p : Plan) (image tape : List ℕ) (lent : ℕ) where
  -- refused, by what is decoded
  pub taken-bad : (f : Refusal) → read_refused (number_of f.reason) f.at ≡ decode image → (r : Result (Unit {0}) Refusal) → r ≡ Err f → TakenMet r p image lent tape
  taken-bad f e r is = rw is record { is_taken = λ table l. accepted-bad image table (number_of f.reason) f.at e; planned = tt; right_length = tt }

  rules-many : length (model_on p tape).rules ≡ p.rules
  unfolding model_on
  rules-many = rows-length (rule_in (heads_on p tape) (rows_on p tape)) 0 p.rules

  module _ (q : ℕ) (laid : read_got (model_on p tape) q ≡ decode image) (right : Bool) (judged : right ≡ eqb lent (9 * p.rules)) where
    pub taken-other : right ≡ false → (r : Result (Unit {0}) Refusal) → r ≡ Err (record { reason = WrongTable; at = 0 }) → TakenMet r p image lent tape
    taken-other g r is =
        let z : lent ≡ 9 * p.rules → ⊥ = eqb-false lent (9 * p.rules) (sym judged ∙ g) in
        rw is record { is_taken = λ table l. accepted-other image table (model_on p tape) q laid (λ g. z (omega (arith, rules-many))); planned = tt; right_length = tt }

    pub taken-right : right ≡ true → Planned p tape → TakenMet (Ok tt) p image lent tape
    taken-right h planned =
        let g : lent ≡ 9 * p.rules = eqb-true lent (9 * p.rules) (sym judged ∙ h) in
        record { is_taken = λ table l. accepted-right image table (model_on p tape) q laid (omega (arith, rules-many)); planned = planned; right_length = g }

-- a header that was refused, whatever value is begun
pub refused-taken : {A : Type 0} (b : Result A Refusal) (f : Refusal) (r : Result (Unit {0}) Refusal) (lent : ℕ) (tape : List ℕ) → b ≡ Err f → r ≡ Err f
    → IfErr b (λ why. (p : Plan) (image : List ℕ) → RefusedOf why image → TakenMet r p image lent tape)
refused-taken (Err g) f r lent tape is same = λ p image e.
    let one : r ≡ Err g = cc in
    taken-bad p image tape lent g (decode-refused image _ _ e) r one
refused-taken (Ok x) f r lent tape is same = tt

-- an accepted image has no place
pub place-settled : (a : Read Model) → place_of a ≡ place_of (settled a)
place-settled (read_refused n at) = refl
place-settled (read_got m at) = refl

-- ---- a call by what is taken: f is what it gives, in which the place where an image ends plays no part

module _ {B : Type 0} (f : Read Model → B) (same : (a : Read Model) → f a ≡ f (settled a)) (image table : List ℕ) where
  pub by-taken : (r : Result (Unit {0}) Refusal) (p : Plan) (tape : List ℕ) → TakenMet r p image (length table) tape → f (taken_by r (model_on p tape)) ≡ f (accepted image table)
  by-taken r p tape met = ap f (met.is_taken table refl) ∙ sym (same (accepted image table))

  -- an image whose header is refused
  pub by-header : (n at : ℕ) → read_refused n at ≡ header_of image → f (read_refused n at) ≡ f (accepted image table)
  by-header n at e = ap f (accepted-bad image table n at (decode-refused image n at e)) ∙ sym (same (accepted image table))
