-- An opening by what was accepted.
use Prim.Native.Nat.{ℕ}
use mathlib.Core.Path.{◌≡◌, refl}
use mathlib.Core.List.{List}
use lib.ListN.{length, drop}
use Rattle.meaning.specs.declared.State.{State}
use Rattle.meaning.specs.Model.{Model}
use Rattle.meaning.specs.Read.{Read, read_refused, read_got}
use Rattle.meaning.specs.Match.{fresh_table}
use Rattle.meaning.specs.Calls.{Opened, opened_by, open_of}
use Rattle.layout.specs.declared.Plan.{Plan}
use Rattle.layout.specs.StateWords.{state_in}
use Rattle.layout.specs.Plans.{rules_on, model_on}
use Rattle.std.specs.Prelude.{Result, Ok, Err}
use Rattle.meaning.specs.declared.reasons.Refusal.{Refusal}
use Rattle.meaning.specs.Reasons.{number_of}
use Rattle.read_image.specs.Whole.{header_of}
use Rattle.call_accept.specs.Acceptance.{settled, TakenMet}
use Rattle.call_accept.proofs.TakenLaws.{by-taken, by-header}
use Rattle.call_open.specs.Answers.{answered, opened_in, given_with}

opened-settled : (table : List ℕ) (a : Read Model) → opened_by table a ≡ opened_by table (settled a)
opened-settled table (read_refused n at) = refl
opened-settled table (read_got m at) = refl

abbrev opened : ℕ → State → List ℕ → Opened
opened number s table = record { number = number; position = 0; state = s; table = table }

module _ (image table : List ℕ) where
  -- refused, by its header or later: nothing is done
  pub open-header : (f : Refusal) → read_refused (number_of f.reason) f.at ≡ header_of image → (r : Result (Unit {0}) Refusal) (s : State) → r ≡ Err f → opened_in (answered (given_with r s)) table ≡ open_of image table
  unfolding open_of
  open-header f e r s is = rw is (by-header (opened_by table) (opened-settled table) image table (number_of f.reason) f.at e)

  module _ (p : Plan) (tape : List ℕ) where
    pub open-refused : (f : Refusal) → TakenMet (Err f) p image (length table) tape → (r : Result (Unit {0}) Refusal) (s : State) → r ≡ Err f → opened_in (answered (given_with r s)) table ≡ open_of image table
    unfolding open_of
    open-refused f met r s is = rw is (by-taken (opened_by table) (opened-settled table) image table (Err f) p tape met)

    -- accepted: the fresh table in the state that stands on the tape, which is the opening one
    pub open-accepted : (u : Unit {0}) → TakenMet (Ok u) p image (length table) tape → (s : State) (table' : List ℕ) → s ≡ state_in (drop 64 tape) 0
        → table' ≡ fresh_table (rules_on p tape) (state_in (drop 64 tape) 0) → opened 0 s table' ≡ open_of image table
    unfolding open_of model_on
    open-accepted u met s table' es et =
        rw (es, et, met.planned.opens) (by-taken (opened_by table) (opened-settled table) image table (Ok u) p tape met)
