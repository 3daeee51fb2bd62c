-- One turn of the retrieval: the best so far, and then the facts that are left, give what all the facts give.
use Prim.Native.Nat.{ℕ, ◌+◌, ◌*◌, ◌≤◌, ◌<◌}
use mathlib.Core.Path.{◌≡◌, refl, ap, ◌∙◌}
use mathlib.Core.Bool.{Bool, true, false}
use mathlib.Core.List.{List}
use mathlib.Core.Option.{Option}
use Rattle.std.specs.Prelude.{if◌then◌else◌, Some, None}
use Rattle.std.specs.Prelude as std
use Rattle.meaning.specs.Highest.{better}
use Rattle.meaning.specs.Model.{Fact, Named}
use Rattle.meaning.specs.Retrieval.{fits, weaker, retrieve}
use Rattle.layout.specs.Rows.{fact_in, facts_in}
use Rattle.layout.proofs.BestLaws.{best_from, best-start, best-end, best-skip, best-turn}
use Rattle.step_retrieve.specs.Found.{fact_of}

abbrev fact_at : List ℕ → ℕ → Fact
fact_at facts k = fact_in facts (11 * k)

module _ (facts : List ℕ) (n isa : ℕ) (ns : List Named) (nine : List ℕ) where
  -- the best so far, and then the facts from k on
  unfoldable pub found_from : ℕ → std.Option ℕ → Option Fact
  found_from k best = best_from weaker (fits isa ns nine) (fact_at facts) n k (fact_of facts best)

  pub found-start : found_from 0 None ≡ retrieve (facts_in facts n) isa ns nine
  unfolding found_from retrieve
  found-start = best-start weaker (fits isa ns nine) (fact_at facts) n

  pub found-end : (k : ℕ) (best : std.Option ℕ) → n ≤ k → found_from k best ≡ fact_of facts best
  unfolding found_from
  found-end k best h = best-end weaker (fits isa ns nine) (fact_at facts) n k (fact_of facts best) h

  -- a fact that does not fit
  pub found-skip : (k : ℕ) (best : std.Option ℕ) → k < n → fits isa ns nine (fact_in facts (11 * k)) ≡ false → found_from (k + 1) best ≡ found_from k best
  unfolding found_from
  found-skip k best h e = best-skip weaker (fits isa ns nine) (fact_at facts) n k (fact_of facts best) h e

  turned : (k : ℕ) (best : std.Option ℕ) → k < n → (t : Bool) → fits isa ns nine (fact_in facts (11 * k)) ≡ t
      → best_from weaker (fits isa ns nine) (fact_at facts) n (k + 1) (if t then better weaker (fact_of facts best) (fact_in facts (11 * k)) else (fact_of facts best)) ≡ found_from k best
  unfolding found_from
  turned k best h true e = best-turn weaker (fits isa ns nine) (fact_at facts) n k (fact_of facts best) h e
  turned k best h false e = best-skip weaker (fits isa ns nine) (fact_at facts) n k (fact_of facts best) h e

  -- the better of the best so far and fact k
  pub found-turn : (k : ℕ) (best r : std.Option ℕ) → k < n
      → fact_of facts r ≡ (if fits isa ns nine (fact_in facts (11 * k)) then better weaker (fact_of facts best) (fact_in facts (11 * k)) else (fact_of facts best))
      → found_from (k + 1) r ≡ found_from k best
  unfolding found_from
  found-turn k best r h e = ap (best_from weaker (fits isa ns nine) (fact_at facts) n (k + 1)) e ∙ turned k best h (fits isa ns nine (fact_in facts (11 * k))) refl
