-- What a run is handed besides its image: which state and store it is refused for, what is known once they are taken, and what must be known to give a store back.
use Rattle.std.specs.Prelude.{if◌then◌else◌, ℕ, ◌+◌, ◌≤◌, ◌≡◌, Bool, not, List, length, get_or, take, Result, Ok, Err, is_ok, IfOk, IfErr}
use Rattle.std.proofs.Math.Option.{Option, none, some}
use Rattle.meaning.specs.declared.State.{State}
use Rattle.meaning.specs.declared.reasons.Reason.{Reason}
use Rattle.meaning.specs.declared.reasons.Reason.TheVariants.{BadStore}
use Rattle.meaning.specs.Reasons.{number_of}
use Rattle.meaning.specs.Numbers.{all_done, ill_formed, bad_store}
use Rattle.meaning.specs.Model.{Model}
use Rattle.meaning.specs.State.{well_formed}
use Rattle.meaning.specs.Store.{store_in, store_fits, store_of}
use Rattle.layout.specs.declared.Plan.{Plan}
use Rattle.layout.specs.Plans.{types_on, model_on, Planned}
use Rattle.layout.specs.StateWords.{buffers_in}
use Rattle.step_learn.specs.Knows.{Knows}
use Rattle.store_words.specs.Loads.{learned_on}

-- the words, if they are lent
abbrev pub lent_if : Bool → List ℕ → Option (List ℕ)
lent_if learns words = if learns then some words else none

-- whether it is one that the image can have; and then plan and tape know what it knows, or it is refused as one that the image cannot have
pub record TakenIn (r : Result Plan Reason) (p : Plan) (tape tape' store : List ℕ) : Type 0 where
  pub judged : is_ok r ≡ store_fits (types_on p tape) (lent_if p.learns store)
  pub planned : IfOk r (λ known. Planned known tape')
  pub rules : IfOk r (λ known. known.rules ≡ p.rules)
  pub knows : IfOk r (λ known. Knows known tape' (model_on p tape) (store_of (lent_if p.learns store)))
  pub refused : IfErr r (λ why. why ≡ BadStore)

-- the number by which a run of an accepted image is refused before its first step: "6", then 15 "after 6", if words are lent; else 0
abbrev pub verdict : Model → State → Option (List ℕ) → ℕ
verdict m s lent = if not (well_formed m s) then ill_formed else (if not (store_fits m.types lent) then bad_store else all_done)

-- the number of an answer: 0 if nothing is refused
abbrev pub number_in : {A : Type 0} → Result A Reason → ℕ
number_in (Ok x) = all_done
number_in (Err why) = number_of why

-- that number, and the state in words; and if it is 0, plan and tape know what the store knows
pub record Admits (r : Result Plan Reason) (p : Plan) (tape tape' : List ℕ) (s : State) (words store : List ℕ) : Type 0 where
  pub judged : number_in r ≡ verdict (model_on p tape) s (lent_if p.learns store)
  pub stands : buffers_in words ≡ s.buffers
  pub planned : IfOk r (λ known. Planned known tape')
  pub rules : IfOk r (λ known. known.rules ≡ p.rules)
  pub knows : IfOk r (λ known. Knows known tape' (model_on p tape) (store_of (lent_if p.learns store)))

-- the words of a store whose chunks stand on the tape after `own` facts, and perhaps more after them
pub record Backing (p : Plan) (tape store : List ℕ) (own : ℕ) : Type 0 where
  pub long : length store ≡ 2305
  pub first : own + get_or store 0 0 ≤ p.facts
  pub last : p.facts ≤ own + 256
  pub begins : store_in store ≡ take (get_or store 0 0) (learned_on p tape own)
