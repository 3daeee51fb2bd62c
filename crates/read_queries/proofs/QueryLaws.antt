-- The word that says a query; queries one after the other in words; the number of them before.
use Rattle.std.proofs.Common.{Result, Ok, Err}
use Prim.Native.Nat.{ℕ, ◌+◌, ◌*◌, ◌/◌, ◌%◌, ◌<◌, ◌≤◌}
use mathlib.Core.Path.{◌≡◌, refl, ap, ap₂, ◌∙◌}
use mathlib.Core.Bool.{true}
use mathlib.Core.List.{List, [], ◌∷◌, ◌++◌}
use native.Mathlib.Omega.{arith}
use lib.ListN.{length, get_or, set}
use lib.Seq.{get_or-set_same, get_or-set_other}
use Rattle.meaning.specs.declared.reasons.Refusal.{Refusal}
use Rattle.meaning.specs.Model.{Query}
use Rattle.meaning.specs.Numbers.{finer, bad_number}
use Rattle.meaning.specs.Read.{read_got, field, must, rising}
use Rattle.meaning.specs.Image.{ask_of, between, has_queries, least_queries, query, queried, queries}
use Rattle.layout.specs.Rows.{query_by, queries_in, queries_at}
use Rattle.layout.proofs.RowLaws.{rows_more, rows_same}
use Rattle.read_ranges.specs.Cursors.{Cursor}
use Rattle.read_ranges.specs.Reading.{told_by}
use Rattle.read_queries.specs.Asked.{FewIf}

-- ---- one query

-- the word of a query says it
pub word_says : (b kind : ℕ) → b < 8 → query_by (b + 8 * kind) ≡ record { buffer = b; asks = ask_of kind }
word_says b kind h =
    let first : (b + 8 * kind) % 8 ≡ b = omega arith in
    let second : (b + 8 * kind) / 8 ≡ kind = omega arith in
    rw (first, second) refl

-- ---- one query more in words

pub queries_next : (w : List ℕ) (o i word : ℕ) → o + i < length w → queries_in (set w (o + i) word) o (i + 1) ≡ queries_in w o i ++ (query_by word ∷ [])
queries_next w o i word h =
    let w' : List ℕ = set w (o + i) word in
    let z : 0 + i ≡ i = omega arith in
    let same : (k : ℕ) → k < i → get_or w' (o + k) 0 ≡ get_or w (o + k) 0 = λ k l. get_or-set_other w (o + i) (o + k) word 0 (λ e. omega arith) in
    rows_more (λ k. query_by (get_or w' (o + k) 0)) 0 i
    ∙ ap₂ (λ (l : List Query) (q : Query). l ++ (q ∷ []))
    (rows_same (λ k. query_by (get_or w' (o + k) 0)) (λ k. query_by (get_or w (o + k) 0)) 0 i (λ k low high. ap query_by (same k (omega arith))))
    (ap (λ (k : ℕ). query_by (get_or w' (o + k) 0)) z ∙ ap query_by (get_or-set_same w (o + i) word 0 h))

-- ---- the queries of a rule

pub queries_on : (version buffers tests : ℕ) (s : List ℕ) (p n q : ℕ) → has_queries version ≡ true → read_got n q ≡ field 4 (must bad_number (between (least_queries tests) buffers)) s p
    → (own : List ℕ) → get_or own 88 0 ≡ n → (r : Result (Unit {0}) Refusal) (c : Cursor)
    → told_by (λ u. queries_in own 89 n) r c ≡ rising (query finer buffers) (λ q. q.buffer) n 0 s q
    → told_by (λ u. queries_at own 0) r c ≡ queries finer version buffers tests s p
unfolding queried
queries_on version buffers tests s p n q e count own is r c each = rw (e, is, ← count) each

-- a number of queries is few, however the reading ends
pub few_if : (r : Result (Unit {0}) Refusal) (own : List ℕ) → get_or own 88 0 ≤ 8 → FewIf r own
few_if (Ok u) own h = h
few_if (Err e) own h = tt
