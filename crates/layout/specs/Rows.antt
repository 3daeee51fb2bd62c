-- What stands in words. Every list of words is read as something (a buffer is below 8, a variable too),
-- so that whoever reads words needs no fact that they are valid.
use Rattle.std.specs.Prelude.{if◌then◌else◌, ℕ, zero, suc, ◌+◌, ◌*◌, ◌/◌, ◌%◌, ◌≤◌, ◌<◌, List, [], ◌∷◌, map, ltb, eqb, length, get_or}
use Rattle.meaning.specs.Base.{up_from}
use Rattle.meaning.specs.Model.{Term, symbol, variable, Named, Test, Query, Deed, deed_modify, deed_request, deed_clear, Action, Fact, Rule, Sizes}
use Rattle.meaning.specs.Image.{slots_in, utility_of, ask_of}
use Rattle.laws.specs.RefreshLaws.{MaskOf}

-- n things from number i on, each as `thing` reads it
unfoldable pub rows_in : {A : Type 0} → (ℕ → A) → ℕ → ℕ → List A
rows_in thing i zero = []
rows_in thing i (suc n) = thing i ∷ rows_in thing (i + 1) n

-- what the fields of a rule are judged by, from the code's numbers
abbrev pub sizes : ℕ → List ℕ → Sizes
sizes buffers types = record { buffers = buffers; types = types }

-- ---- terms

abbrev pub word_term : ℕ → Term
word_term t = if ltb t 4096 then symbol t else (variable (t % 8))

-- the terms of the slots that a mask names, out of eight words
abbrev pub named_at : List ℕ → ℕ → Named
named_at xs b = record { slot = b; term = word_term (get_or xs b 0) }

abbrev pub named_by : ℕ → List ℕ → List Named
named_by mask xs = map (named_at xs) (slots_in mask)

-- the same out of the last eight words of the row at q, whose third word is the mask
abbrev pub named_in : List ℕ → ℕ → ℕ → Named
named_in w q b = record { slot = b; term = word_term (get_or w (q + 3 + b) 0) }

abbrev pub masked_in : List ℕ → ℕ → List Named
masked_in w q = map (named_in w q) (slots_in (get_or w (q + 2) 0))

-- ---- rows

abbrev pub fact_in : List ℕ → ℕ → Fact
fact_in w q =
    record { chunk = record { isa = get_or w q 0; slots = map (λ b. get_or w (q + 3 + b) 0) (up_from 0 8) }; activation = get_or w (q + 1) 0; latency = get_or w (q + 2) 0 }

abbrev pub test_in : List ℕ → ℕ → Test
test_in w q = record { buffer = get_or w q 0 % 8; isa = get_or w (q + 1) 0; named = masked_in w q }

abbrev pub deed_of : ℕ → List Named → Deed
deed_of d ns = if eqb d 0 then deed_modify ns else (if ltb d 64 then deed_request d ns else deed_clear)

abbrev pub action_in : List ℕ → ℕ → Action
action_in w q = record { buffer = get_or w q 0 % 8; deed = deed_of (get_or w (q + 1) 0) (masked_in w q) }

-- a query in a word: its buffer, and eight times its kind
abbrev pub query_by : ℕ → Query
query_by word = record { buffer = word % 8; asks = ask_of (word / 8) }

-- ---- rows one after the other

abbrev pub facts_in : List ℕ → ℕ → List Fact
facts_in w n = rows_in (λ k. fact_in w (11 * k)) 0 n

abbrev pub tests_in : List ℕ → ℕ → ℕ → List Test
tests_in w o n = rows_in (λ k. test_in w (o + 11 * k)) 0 n

abbrev pub actions_in : List ℕ → ℕ → ℕ → List Action
actions_in w o n = rows_in (λ k. action_in w (o + 11 * k)) 0 n

-- queries, a word each
abbrev pub queries_in : List ℕ → ℕ → ℕ → List Query
queries_in w o n = rows_in (λ k. query_by (get_or w (o + k) 0)) 0 n

-- ---- rules: a head of four words (tests, actions, utility, mask of the buffers that are tested or queried),
-- and 185 words (eight tests, how many queries, eight queries, eight actions)

-- the queries of the rule whose words start at o
abbrev pub queries_at : List ℕ → ℕ → List Query
queries_at w o = queries_in w (o + 89) (get_or w (o + 88) 0)

abbrev pub rule_in : List ℕ → List ℕ → ℕ → Rule
rule_in heads words k =
    record {
      utility = utility_of (get_or heads (4 * k + 2) 0);
      tests = tests_in words (185 * k) (get_or heads (4 * k) 0);
      queries = queries_at words (185 * k);
      actions = actions_in words (185 * k + 97) (get_or heads (4 * k + 1) 0);
    }

abbrev pub rules_in : List ℕ → List ℕ → ℕ → List Rule
rules_in heads words n = rows_in (rule_in heads words) 0 n

-- what holds of n rules that were laid out: there is room, no rule has more than eight tests, queries or actions, and the masks are those of the buffers that it looks at
pub record Laid (heads words : List ℕ) (n : ℕ) : Type 0 where
  pub at_most : n ≤ 256
  pub heads_room : 4 * n ≤ length heads
  pub words_room : 185 * n ≤ length words
  pub tests_few : (k : ℕ) → k < n → get_or heads (4 * k) 0 ≤ 8
  pub queries_few : (k : ℕ) → k < n → get_or words (185 * k + 88) 0 ≤ 8
  pub actions_few : (k : ℕ) → k < n → get_or heads (4 * k + 1) 0 ≤ 8
  pub masks : (k : ℕ) → k < n → MaskOf (rule_in heads words k) (get_or heads (4 * k + 3) 0)
