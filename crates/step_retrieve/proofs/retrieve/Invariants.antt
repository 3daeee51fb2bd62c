use Prim.Native.Nat.{◌+◌, ◌-◌, ◌<◌, ◌%◌}
use mathlib.Core.Path.{◌≡◌}
use Rattle.meaning.specs.Retrieval.{retrieve}
use Rattle.layout.specs.Rows.{masked_in, facts_in}
use lib.ListN.{get_or}
use Rattle.step_retrieve.specs.Found.{Below, Weighed}
use Rattle.step_retrieve.specs.Chains.{chain_of}
use Rattle.step_retrieve.proofs.LeapLaws.{sought_from}
use Rattle.step_retrieve.proofs.retrieve.Given as goal

abbrev pub invariant-loop-k : goal.invariant-loop-k
invariant-loop-k l = record {
  best : Below l.best.fact l.n;
  weighed : Weighed l.facts l.best.fact l.best.least;
  same : sought_from l.facts l.n l.words l.q l.nine l.k l.best.fact ≡ retrieve (facts_in l.facts l.n) (get_or l.words (l.q + 1) 0) (masked_in l.words l.q) l.nine;
}

abbrev pub invariant-loop-next : goal.invariant-loop-next
invariant-loop-next l = record {
  best : Below l.best.fact l.n;
  weighed : Weighed l.facts l.best.fact l.best.least;
  same : sought_from l.facts l.n l.words l.q l.nine l.next l.best.fact ≡ retrieve (facts_in l.facts l.n) (get_or l.words (l.q + 1) 0) (masked_in l.words l.q) l.nine;
  chained : l.next < l.n → chain_of l.facts l.next ≡ l.first % 64;
}

abbrev pub decreases-loop-next : goal.decreases-loop-next
decreases-loop-next l = l.n - l.next
