-- What `retrieve` gives: the fitting fact of highest activation, the first among equals; nothing exactly if no fact fits.
use Rattle.std.specs.Prelude.{◌≡◌, ◌↔◌, true, not, List, ℕ}
use Rattle.std.proofs.Math.Path.{refl}
use Rattle.std.proofs.Math.Option.{none, some}
use Rattle.std.proofs.Common.{arith}
use borrow.Author.Tests.{ltb-true, ltb-false, lt-ltb}
use Rattle.meaning.specs.Base.{every, keep}
use Rattle.meaning.specs.Model.{Fact, Named}
use Rattle.meaning.specs.Retrieval.{fits, weaker, retrieve}
use Rattle.laws.specs.BaseLaws.{keep-none, none-keep}
use Rattle.laws.specs.HighestLaws.{Best, highest-best, highest-none}

module _ (memory : List Fact) (isa : ℕ) (ns : List Named) (entry : List ℕ) where
  -- nothing is found exactly if no fact fits
  pub retrieve-none : (retrieve memory isa ns entry ≡ none) ↔ (every (λ f. not (fits isa ns entry f)) memory ≡ true)
  unfolding retrieve
  retrieve-none = (
    λ e. keep-none (fits isa ns entry) memory (highest-none weaker (keep (fits isa ns entry) memory) e),
    λ h. rw (none-keep (fits isa ns entry) memory h) refl,
  )

  -- what is found is the best of the fitting memory
  pub retrieve-best : (f : Fact) → retrieve memory isa ns entry ≡ some f → Best weaker (keep (fits isa ns entry) memory) f
  unfolding retrieve
  retrieve-best f e =
      highest-best weaker (λ x y z h k. lt-ltb x.activation z.activation (omega (arith, ltb-true))) (λ x y z h k. lt-ltb x.activation z.activation (omega (arith, ltb-true, ltb-false)))
      (keep (fits isa ns entry) memory) f e
