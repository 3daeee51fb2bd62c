-- "Calls and their numbers": each number of the table once, with the words that say when it is given.
use Rattle.std.specs.Prelude.{ℕ}

-- "all that was asked is done"
abbrev pub all_done : ℕ
all_done = 0

-- "image over 65,536 bytes"
abbrev pub too_long : ℕ
too_long = 1

-- "a field is not wholly there"
abbrev pub not_there : ℕ
not_there = 2

-- 01: "a field breaks its rule above"; since request 2026-03 "3 now means a version, count, type or action kind"
abbrev pub bad_number : ℕ
bad_number = 3

-- "a pad bit is 1, or a byte follows"
abbrev pub bad_end : ℕ
bad_end = 4

-- "table length is not 9 × rules"
abbrev pub wrong_table : ℕ
wrong_table = 5

-- "state not well formed"
abbrev pub ill_formed : ℕ
ill_formed = 6

-- "chosen entry is not the fresh one"
abbrev pub not_fresh : ℕ
not_fresh = 7

-- "clock would pass 4,294,967,295"
abbrev pub clock_full : ℕ
clock_full = 8

-- "halted before the steps asked were made"
abbrev pub halted : ℕ
halted = 9

-- "mark is 2 to the power of the buffer count, or more"
abbrev pub bad_mark : ℕ
bad_mark = 10

-- ---- request 2026-03: "Number 3 covers too much. We want finer numbers"

-- "11 a mask bit past the type's slots"
abbrev pub bad_mask : ℕ
bad_mask = 11

-- "12 a variable not below the count or in no test"
abbrev pub bad_variable : ℕ
bad_variable = 12

-- "13 a buffer that does not exist, does not rise, or is modified untested"
abbrev pub bad_buffer : ℕ
bad_buffer = 13

-- ---- request 2026-05: "A cleared chunk is remembered"

-- "14, a step whose new facts would make more than 256"
abbrev pub store_full : ℕ
store_full = 14

-- "15, not 256 places, a count over 256 or a fact that the image could not hold"
abbrev pub bad_store : ℕ
bad_store = 15

-- the numbers that the rules of fields go by, one for each thing that a rule is about
pub record RuleNumbers : Type 0 where
  -- a version, count, type or action kind
  pub number : ℕ
  pub mask : ℕ
  pub variable : ℕ
  pub buffer : ℕ

-- as 01 has them: whatever the rule is about, it is one number
abbrev pub coarse : RuleNumbers
coarse = record { number = bad_number; mask = bad_number; variable = bad_number; buffer = bad_number }

-- as the calls answer them
abbrev pub finer : RuleNumbers
finer = record { number = bad_number; mask = bad_mask; variable = bad_variable; buffer = bad_buffer }
