-- Chunks and facts, by what the code read of them.
use Prim.Native.Nat.{ℕ, ◌+◌, ◌-◌, ◌*◌, ◌≤◌}
use mathlib.Core.Path.{◌≡◌, sym, ap, ◌∙◌}
use mathlib.Core.List.{List, [], ◌∷◌, ◌++◌, map, map-id}
use native.Mathlib.Omega.{arith}
use lib.ListN.{length, set, take, drop, replicate}
use lib.Seq.{sets}
use Rattle.meaning.specs.Model.{Chunk, Fact}
use Rattle.meaning.specs.Image.{eight}
use Rattle.layout.specs.Rows.{rows_in, fact_in, facts_in}
use Rattle.layout.proofs.RowLaws.{rows_same, fact-like, in-more}
use Rattle.layout.proofs.WordLaws.{listed, part-put, lent-sets}
use Rattle.read_facts.specs.Made.{a_chunk}
use Rattle.read_facts.proofs.StoreLaws.{sets-fresh}

-- ---- a chunk

-- values stored in eight zeros
pub eight-fresh : (n : ℕ) → n ≤ 8 → (xs : List ℕ) → length xs ≡ n → sets (replicate 8 0) 0 (map (λ x. x) xs) ≡ eight xs
eight-fresh n h xs e = rw (map-id xs) (sets-fresh 8 0 xs (omega arith))

-- ---- a fact

-- out of its parts
abbrev pub a_fact : Chunk → ℕ → ℕ → Fact
a_fact c activation latency = record { chunk = c; activation = activation; latency = latency }

-- a row of which the last eight words were lent and came back as others, and whose first three are written
pub fact_row : (row own : List ℕ) (isa activation latency : ℕ) → length row ≡ 11 → length own ≡ 8
    → fact_in (set (set (set (take 3 row ++ (own ++ drop (length row - 3) (drop 3 row))) 0 isa) 1 activation) 2 latency) 0 ≡ a_fact (a_chunk isa own) activation latency
fact_row row own isa a l e n = ap (λ (w : List ℕ). fact_in (set (set (set w 0 isa) 1 a) 2 l) 0) (part-put 3 row own) ∙ go row e
  where
    go : (row : List ℕ) → length row ≡ 11 → fact_in (set (set (set (take 3 row ++ own) 0 isa) 1 a) 2 l) 0 ≡ a_fact (a_chunk isa own) a l
    go [] e = absurd (omega arith)
    go (x ∷ []) e = absurd (omega arith)
    go (x ∷ y ∷ []) e = absurd (omega arith)
    go (x ∷ y ∷ z ∷ row) e = ap (λ (xs : List ℕ). a_fact (a_chunk isa xs) a l) (listed 8 own n)

-- ---- rows of facts

facts-from : (w : List ℕ) (n : ℕ) → facts_in w n ≡ rows_in (λ k. fact_in w (0 + 11 * k)) 0 n
facts-from w n = rows_same (λ k. fact_in w (11 * k)) (λ k. fact_in w (0 + 11 * k)) 0 n (λ k a b. ap (fact_in w) (omega arith))

-- one fact more, after a row was lent and came back as another
pub facts_more : (w : List ℕ) (i : ℕ) (row : List ℕ) → length row ≡ 11 → 11 * i + 11 ≤ length w
    → facts_in (take (11 * i) w ++ (row ++ drop (11 * i + 11 - 11 * i) (drop (11 * i) w))) (i + 1) ≡ facts_in w i ++ (fact_in row 0 ∷ [])
facts_more w i row e h =
    let z : 0 + 11 * i ≡ 11 * i = omega arith in
    let written : take (11 * i) w ++ (row ++ drop (11 * i + 11 - 11 * i) (drop (11 * i) w)) ≡ sets w (0 + 11 * i) row = rw z (lent-sets (11 * i) 11 w row h e) in
    rw written (facts-from (sets w (0 + 11 * i) row) (i + 1) ∙ in-more fact_in fact-like w 0 i row e (omega arith) ∙ ap (λ (l : List Fact). l ++ (fact_in row 0 ∷ [])) (sym (facts-from w i)))
