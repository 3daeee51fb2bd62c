-- A state and a store that a run is handed: refused by number, or taken.
use Rattle.std.specs.Prelude.{if◌then◌else◌}
use Prim.Native.Nat.{ℕ}
use mathlib.Core.Path.{◌≡◌, refl, sym, ◌∙◌, subst}
use mathlib.Core.Bool.{Bool, true, false, not}
use mathlib.Core.List.{List}
use mathlib.Core.Option.{Option}
use native.Mathlib.Omega.{arith}
use Rattle.meaning.specs.declared.State.{State}
use Rattle.meaning.specs.Numbers.{all_done, ill_formed, bad_store}
use Rattle.meaning.specs.Model.{Model}
use Rattle.meaning.specs.State.{well_formed}
use Rattle.meaning.specs.Store.{store_fits}
use Rattle.layout.specs.declared.Plan.{Plan}
use Rattle.layout.specs.Plans.{types_on, model_on}
use Rattle.layout.specs.StateWords.{buffers_in}
use Rattle.layout_state.specs.Words.{well_in}
use Rattle.layout_state.proofs.ValueLaws.{well-by}
use Rattle.std.specs.Prelude.{Result, Ok, Err}
use Rattle.meaning.specs.declared.reasons.Reason.{Reason}
use Rattle.meaning.specs.declared.reasons.Reason.TheVariants.{TooLong, NotThere, BadNumber, BadEnd, WrongTable, IllFormed, NotFresh, ClockFull, Halted, BadMark, BadMask, BadVariable, BadBuffer, StoreFull, BadStore}
use Rattle.meaning.specs.Reasons.{number_of}
use Rattle.call_store.specs.Lending.{TakenIn, verdict, Admits}

-- ---- what is judged

module _ (p : Plan) (tape : List ℕ) (s : State) (w : List ℕ) (well : Bool) (judged : well ≡ well_in (types_on p tape) p.buffers w) (stands : buffers_in w ≡ s.buffers) (store : List ℕ) where
  formed : (x : Bool) → well ≡ x → well_formed (model_on p tape) s ≡ x
  unfolding model_on
  formed x g = well-by (model_on p tape) (types_on p tape) p.buffers w s refl refl stands well x judged g

  pub not-formed : well ≡ false → Admits (Err IllFormed) p tape tape s w store
  not-formed g = record { judged = rw (formed false g) refl; stands = stands; planned = tt; rules = tt; knows = tt }

  pub formed-taken : well ≡ true → (r : Result Plan Reason) (tape' : List ℕ) → TakenIn r p tape tape' store → Admits r p tape tape' s w store
  unfolding model_on
  formed-taken g (Ok known) tape' met =
      record { judged = rw (formed true g, ← met.judged) refl; stands = stands; planned = met.planned; rules = met.rules; knows = met.knows }
  formed-taken g (Err why) tape' met =
      record { judged = rw (formed true g, ← met.judged, met.refused) refl; stands = stands; planned = tt; rules = tt; knows = tt }

-- ---- what a number tells

-- no reason has the number 0
pub no-zero : (why : Reason) → number_of why ≡ all_done → ⊥
no-zero TooLong e = omega arith
no-zero NotThere e = omega arith
no-zero BadNumber e = omega arith
no-zero BadEnd e = omega arith
no-zero WrongTable e = omega arith
no-zero IllFormed e = omega arith
no-zero NotFresh e = omega arith
no-zero ClockFull e = omega arith
no-zero Halted e = omega arith
no-zero BadMark e = omega arith
no-zero BadMask e = omega arith
no-zero BadVariable e = omega arith
no-zero BadBuffer e = omega arith
no-zero StoreFull e = omega arith
no-zero BadStore e = omega arith

-- why a run is refused before its first step
pub data Unfit (m : Model) (s : State) (lent : Option (List ℕ)) : ℕ → Type 0 where
  ill : well_formed m s ≡ false → Unfit m s lent ill_formed
  misfit : well_formed m s ≡ true → store_fits m.types lent ≡ false → Unfit m s lent bad_store

module _ (m : Model) (s : State) (lent : Option (List ℕ)) where
  abbrev told : Bool → Bool → ℕ
  told well fits = if not well then ill_formed else (if not fits then bad_store else all_done)

  -- the number is 0 exactly if both are taken, and else it says why
  pub taken-by : {n : ℕ} → n ≡ verdict m s lent → n ≡ all_done → (well_formed m s ≡ true) × (store_fits m.types lent ≡ true)
  taken-by e z = by (well_formed m s) (store_fits m.types lent) refl refl (sym e ∙ z)
    where
      by : (well fits : Bool) → well_formed m s ≡ well → store_fits m.types lent ≡ fits → told well fits ≡ all_done → (well_formed m s ≡ true) × (store_fits m.types lent ≡ true)
      by true true p q h = (p, q)
      by true false p q h = absurd (omega arith)
      by false fits p q h = absurd (omega arith)

  pub refused-by : {n : ℕ} → n ≡ verdict m s lent → (n ≡ all_done → ⊥) → Unfit m s lent n
  refused-by e off = subst (Unfit m s lent) (sym e) (by (well_formed m s) (store_fits m.types lent) refl refl (λ z. off (e ∙ z)))
    where
      by : (well fits : Bool) → well_formed m s ≡ well → store_fits m.types lent ≡ fits → (told well fits ≡ all_done → ⊥) → Unfit m s lent (told well fits)
      by true true p q h = absurd (h refl)
      by true false p q h = misfit p q
      by false fits p q h = ill p
