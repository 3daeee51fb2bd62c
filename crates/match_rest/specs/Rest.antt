-- What a run keeps of its rules between two steps, in words of 64 bits: which are awake, which match, which test or query a buffer,
-- and the beds in which rules sleep that were given up at a word of the state.
use Rattle.std.specs.Prelude.{ℕ, ◌*◌, ◌/◌, ◌%◌, ◌≤◌, ◌<◌, ◌≡◌, ◌⊎◌, true, false, List, eqb, length, get_or, take, drop, replicate}
use Rattle.meaning.specs.Base.{bit}
use Rattle.meaning.specs.Match.{entry_of}
use Rattle.laws.specs.MarkLaws.{Marks}
use Rattle.layout.specs.Rows.{rule_in, Laid}
use Rattle.layout.specs.StateWords.{state_in}
use Rattle.match_beds.specs.Beds.{is_awake, is_used, in_bed, is_sure, bed_of, Testing, Roomy}
use Rattle.match_rule.specs.Shut.{Shuts, delay_of}
use Rattle.match_order.specs.Order.{Ranked, Hitting}

-- ---- what holds of a rule

-- the nine words of rule k
abbrev pub entry_at : List ℕ → ℕ → List ℕ
entry_at table k = take 9 (drop (9 * k) table)

-- rule k does not match, as its entry says, and it sleeps in the bed of a word that is another than the one it wants, or whose buffer is not visible;
-- who sleeps by an error flag wants it set
pub record Asleep (heads words state table sets : List ℕ) (k : ℕ) : Type 0 where
  pub place : ℕ
  pub value : ℕ
  pub low : place < 88
  pub flag : place % 11 ≡ 10 → value ≡ 1
  pub shuts : Shuts (rule_in heads words k) place value
  pub hidden : Shuts (rule_in heads words k) (delay_of place) 0
  pub differs : get_or state (delay_of place) 0 ≡ 0 → get_or state place 0 ≡ value → ⊥
  pub bed : in_bed sets (bed_of place value) k ≡ true
  pub used : is_used sets place ≡ true
  pub zeros : entry_at table k ≡ replicate 9 0

-- each rule is awake, of which nothing is said, or asleep
abbrev pub Sleeping : List ℕ → List ℕ → ℕ → List ℕ → List ℕ → List ℕ → Type 0
Sleeping heads words n state table sets = (k : ℕ) → k < n → (is_awake sets k ≡ true) ⊎ Asleep heads words state table sets k

-- who sleeps, who matches and who tests or queries what
pub record Lying (heads words order : List ℕ) (n : ℕ) (state table sets : List ℕ) : Type 0 where
  pub roomy : Roomy n sets
  pub testing : Testing heads n sets
  pub hitting : Hitting table order sets n
  pub sleeping : Sleeping heads words n state table sets

-- an entry that is known to be fresh is
abbrev pub Sure : List ℕ → List ℕ → ℕ → List ℕ → List ℕ → List ℕ → Type 0
Sure heads words n state table sets = (k : ℕ) → k < n → is_sure sets k ≡ true → (clock : ℕ) → entry_at table k ≡ entry_of (rule_in heads words k) (state_in state clock)

-- WHAT HOLDS BETWEEN TWO STEPS
pub record Resting (heads words order : List ℕ) (n : ℕ) (state table sets : List ℕ) : Type 0 where
  pub lying : Lying heads words order n state table sets
  pub sure : Sure heads words n state table sets

-- ---- what a step leaves of the buffers that it does not mark: their type and slots, a delay above 0 stays above 0, an error flag is set, or clear, as it was,
-- and no test or query tells them from what they were
pub record Kept (before after : List ℕ) (mark : ℕ) : Type 0 where
  pub words : (p : ℕ) → p < 88 → bit mark (p / 11) ≡ false → p % 11 < 9 → get_or after p 0 ≡ get_or before p 0
  pub delays : (p : ℕ) → p < 88 → bit mark (p / 11) ≡ false → p % 11 ≡ 9 → (get_or before p 0 ≡ 0 → ⊥) → get_or after p 0 ≡ 0 → ⊥
  pub flags : (p : ℕ) → p < 88 → bit mark (p / 11) ≡ false → p % 11 ≡ 10 → eqb (get_or after p 0) 1 ≡ eqb (get_or before p 0) 1
  pub marks : (clock clock' : ℕ) → Marks (state_in before clock) (state_in after clock') mark

-- after a step with that mark, before the refresh
pub record Stepped (heads words order : List ℕ) (n : ℕ) (state : List ℕ) (mark : ℕ) (table sets : List ℕ) : Type 0 where
  pub laid : Laid heads words n
  pub ranked : Ranked heads order n
  pub entries : length table ≡ 9 * n
  pub buffers : 88 ≤ length state
  pub before : List ℕ
  pub kept : Kept before state mark
  pub resting : Resting heads words order n before table sets
