-- A sleeping rule: it does not match, and it sleeps on where its bed, its place and its entry are as they were.
use Prim.Native.Nat.{ℕ}
use mathlib.Core.Path.{◌≡◌, ◌∙◌}
use mathlib.Core.Bool.{true}
use mathlib.Core.List.{List}
use native.Mathlib.Decide.{ℕ_discrete}
use lib.ListN.{get_or, replicate}
use Rattle.meaning.specs.Match.{entry_of}
use Rattle.layout.specs.Rows.{rule_in}
use Rattle.layout.specs.StateWords.{state_in}
use Rattle.match_rule.specs.Shut.{delay_of}
use Rattle.match_beds.specs.Beds.{is_used, in_bed, bed_of}
use Rattle.match_rest.specs.Rest.{entry_at, Asleep}

module _ {heads words state table sets : List ℕ} {k : ℕ} (a : Asleep heads words state table sets k) where
  pub asleep-fails : (clock : ℕ) → entry_of (rule_in heads words k) (state_in state clock) ≡ replicate 9 0
  asleep-fails clock =
      elim (ℕ_discrete (get_or state (delay_of a.place) 0) 0) [ yes shown ↦ a.shuts state clock (a.differs shown) | no pending ↦ a.hidden state clock pending ]

  pub asleep-as : {state' table' sets' : List ℕ} → (get_or state' (delay_of a.place) 0 ≡ 0 → get_or state' a.place 0 ≡ a.value → ⊥)
      → in_bed sets' (bed_of a.place a.value) k ≡ true → is_used sets' a.place ≡ true → entry_at table' k ≡ entry_at table k → Asleep heads words state' table' sets' k
  asleep-as differs bed used same =
      record { place = a.place; value = a.value; low = a.low; flag = a.flag; shuts = a.shuts; hidden = a.hidden; differs = differs; bed = bed; used = used; zeros = same ∙ a.zeros }
