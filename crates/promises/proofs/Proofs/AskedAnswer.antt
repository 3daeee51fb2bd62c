-- Whatever a query can tell between the states before and after a step, its buffer is marked; and what sets and clears an error flag.
use Rattle.std.specs.Prelude.{◌≡◌, Bool, false, List, ℕ, ℤ}
use Rattle.std.proofs.Math.Path.{refl, ap}
use Rattle.std.proofs.Common.{sym}
use Rattle.std.proofs.Math.Bool.{true}
use Rattle.meaning.specs.declared.Buffer.{Buffer}
use Rattle.meaning.specs.declared.State.{State}
use Rattle.meaning.specs.Base.{bit}
use Rattle.meaning.specs.Model.{Model, Ask, Fact}
use Rattle.meaning.specs.State.{buffer_of}
use Rattle.meaning.specs.Match.{answers}
use Rattle.meaning.specs.Step.{Event, step_made, step}
use Rattle.laws.specs.MatchLaws.{answers-alike}
use Rattle.promises.proofs.Proofs.Marks.{made-leaves, made-marks}

-- ---- what a query can tell of a buffer:
-- whether it is pending,
-- and of a visible one its flag;
-- a buffer that is not marked answers as it did

abbrev pub flag_of : Buffer → Bool
flag_of b = b.error

module _ (m : Model) (memory : List Fact) (us : List ℤ) (s : State) (table : List ℕ) (e : Event) (s' : State) (mark : ℕ) (made : step m memory us s table ≡ step_made e s' mark) where
  -- a buffer that cannot be left out of the mark is in it
  pub unless-marked : (b : ℕ) → (bit mark b ≡ false → ⊥) → bit mark b ≡ true
  unless-marked b off = (elim (bit mark b) as (λ t. bit mark b ≡ t → t ≡ true) [ true ↦ λ t. refl | false ↦ λ t. absurd (off t) ]) refl

  pub answer-marked : (b : ℕ) (a : Ask) → (answers a (buffer_of s b) ≡ answers a (buffer_of s' b) → ⊥) → bit mark b ≡ true
  answer-marked b a differs = unless-marked b (λ off. differs (answers-alike a (buffer_of s b) (buffer_of s' b) (made-marks m memory us s table e s' mark made b off)))

  pub flag-marked : (b : ℕ) → ((buffer_of s b).error ≡ (buffer_of s' b).error → ⊥) → bit mark b ≡ true
  flag-marked b differs = unless-marked b (λ off. differs (ap flag_of (sym (made-leaves m memory us s table e s' mark made b off).is)))
