-- What joins: chunks after others, and a search for one among rows of facts, along a chain or one by one.
use Rattle.std.specs.Prelude.{if◌then◌else◌}
use Prim.Native.Nat.{ℕ, zero, suc, ◌+◌, ◌-◌, ◌*◌, ◌%◌, ◌≤◌, ◌<◌}
use mathlib.Core.Path.{◌≡◌, refl, sym, ap, ◌∙◌}
use mathlib.Core.Bool.{Bool, true, false, ◌||◌}
use mathlib.Core.List.{List, [], ◌∷◌, ◌++◌, map, append-nil, append_assoc}
use native.Mathlib.Omega.{arith}
use lib.ListN.{get_or}
use Rattle.meaning.specs.declared.Buffer.{Buffer}
use Rattle.meaning.specs.Base.{any_of}
use Rattle.meaning.specs.Model.{Chunk, Fact}
use Rattle.meaning.specs.Learning.{learned, chunks_of, chunk_of, equal, joining}
use Rattle.layout.specs.Rows.{rows_in, fact_in, facts_in}
use Rattle.layout.specs.StateWords.{buffer_in}
use Rattle.layout.proofs.RowLaws.{rows_left}
use Rattle.laws.specs.BaseLaws.{by-lt}
use Rattle.step_retrieve.specs.Chains.{chain_of, Leap}
use Rattle.step_learn.specs.Clears.{gives, given}
use Rattle.step_learn.proofs.ChunkLaws.{same_chunk, chunk-first}

-- ---- chunks after others

pub joining-append : (known xs ys : List Chunk) → joining known (xs ++ ys) ≡ joining known xs ++ joining (known ++ joining known xs) ys
unfolding joining
joining-append known [] ys = rw (append-nil known)
joining-append known (x ∷ xs) ys =
    elim (any_of (equal x) known) as
    (λ t. (if t then joining known (xs ++ ys) else (x ∷ joining (known ++ (x ∷ [])) (xs ++ ys)))
    ≡ (if t then joining known xs else (x ∷ joining (known ++ (x ∷ [])) xs))
    ++ joining (known ++ (if t then joining known xs else (x ∷ joining (known ++ (x ∷ [])) xs))) ys) [
      | true ↦ joining-append known xs ys
      | false ↦ ap (λ (l : List Chunk). x ∷ l) (joining-append (known ++ (x ∷ [])) xs ys
          ∙ ap (λ (l : List Chunk). joining (known ++ (x ∷ [])) xs ++ joining l ys) (append_assoc known (x ∷ []) (joining (known ++ (x ∷ [])) xs)))
    ]

pub learned-chunks : (cs : List Chunk) → chunks_of (map learned cs) ≡ cs
learned-chunks [] = refl
learned-chunks (c ∷ cs) = ap (λ (l : List Chunk). c ∷ l) (learned-chunks cs)

pub learned-append : (cs ds : List Chunk) → map learned (cs ++ ds) ≡ map learned cs ++ map learned ds
learned-append [] ds = refl
learned-append (c ∷ cs) ds = ap (λ (l : List Fact). learned c ∷ l) (learned-append cs ds)

any_of-append : (p : Chunk → Bool) (xs ys : List Chunk) → any_of p (xs ++ ys) ≡ (any_of p xs || any_of p ys)
any_of-append p [] ys = refl
any_of-append p (x ∷ xs) ys =
    elim (p x) as (λ t. (t || any_of p (xs ++ ys)) ≡ ((t || any_of p xs) || any_of p ys)) [ true ↦ refl | false ↦ any_of-append p xs ys ]

-- ---- a search among rows

module _ (state : List ℕ) (b : ℕ) (facts : List ℕ) (n : ℕ) where
  abbrev own : Chunk
  own = chunk_of (buffer_in state b)

  -- one of the rows from i on has the chunk in buffer b
  unfoldable pub among_from : ℕ → Bool
  among_from i = any_of (equal own) (chunks_of (rows_in (λ k. fact_in facts (11 * k)) i (n - i)))

  pub among-start : among_from 0 ≡ any_of (equal own) (chunks_of (facts_in facts n))
  unfolding among_from
  among-start = let e : n - 0 ≡ n = omega arith in rw e

  pub among-end : (i : ℕ) → n ≤ i → among_from i ≡ false
  unfolding among_from rows_in
  among-end i h = let e : n - i ≡ 0 = omega arith in rw e

  module _ (i : ℕ) (h : i < n) where
    row_first : rows_in (λ k. fact_in facts (11 * k)) i (n - i) ≡ fact_in facts (11 * i) ∷ rows_in (λ k. fact_in facts (11 * k)) (i + 1) (n - (i + 1))
    row_first = let e : n - i + i ≡ n = omega arith in rows_left (λ k. fact_in facts (11 * k)) i n h (n - i) e

    pub among-here : same_chunk state b facts (11 * i) ≡ true → among_from i ≡ true
    unfolding among_from
    among-here e = rw (row_first, e)

    pub among-skip : same_chunk state b facts (11 * i) ≡ false → among_from (i + 1) ≡ among_from i
    unfolding among_from
    among-skip e = rw (row_first, e)

  pub ruleset searching = (among-start, among-end, among-here, among-skip)

  -- ---- along a chain: a row in another than that of the buffer's first slot has another chunk

  out : (j : ℕ) → (chain_of facts j ≡ get_or state (11 * b + 1) 0 % 64 → ⊥) → same_chunk state b facts (11 * j) ≡ false
  out j n = chunk-first state b facts (11 * j) (λ e. n (ap (λ (x : ℕ). x % 64) (sym e)))

  past : (d k : ℕ) → k + d ≤ n → ((j : ℕ) → k ≤ j → j < k + d → same_chunk state b facts (11 * j) ≡ false) → among_from (k + d) ≡ among_from k
  past zero k h none = let e : k + 0 ≡ k = omega arith in ap among_from e
  past (suc d) k h none =
      let e : k + suc d ≡ k + d + 1 = omega arith in
      ap among_from e ∙ among-skip (k + d) (omega arith) (none (k + d) (omega arith) (omega arith)) ∙ past d k (omega arith) (λ j a b. none j a (omega arith))

  pub among-leap : (k x : ℕ) → k ≤ n → Leap facts n (get_or state (11 * b + 1) 0 % 64) k x → among_from x ≡ among_from k
  among-leap k x h leap =
      by-lt x n
      (λ l. let e : k + (x - k) ≡ x = omega (arith, leap.forth) in
      ap among_from (sym e) ∙ past (x - k) k (omega (arith, leap.forth)) (λ j a g. out j (leap.between j a (omega arith) (omega arith))))
      (λ l. let e : k + (n - k) ≡ n = omega arith in
      among-end x l ∙ sym (among-end n (omega arith)) ∙ ap among_from (sym e) ∙ past (n - k) k (omega arith) (λ j a g. out j (leap.between j a (omega arith) (omega arith))))

-- ---- the chunk of one buffer, after rows that it may be among

module _ (known : List Chunk) (old : List Fact) (b : Buffer) where
  abbrev pub joined : List Fact
  joined = old ++ map learned (joining (known ++ chunks_of old) (given b))

  pub join-none : gives b ≡ false → old ≡ joined
  unfolding joining
  join-none e = rw e (sym (append-nil old))

  module _ (e : gives b ≡ true) where
    pub join-known : any_of (equal (chunk_of b)) known ≡ true → old ≡ joined
    unfolding joining
    join-known f = rw (e, any_of-append (equal (chunk_of b)) known (chunks_of old), f) (sym (append-nil old))

    module _ (f : any_of (equal (chunk_of b)) known ≡ false) where
      pub join-among : any_of (equal (chunk_of b)) (chunks_of old) ≡ true → old ≡ joined
      unfolding joining
      join-among g = rw (e, any_of-append (equal (chunk_of b)) known (chunks_of old), f, g) (sym (append-nil old))

      pub join-new : any_of (equal (chunk_of b)) (chunks_of old) ≡ false → old ++ (learned (chunk_of b) ∷ []) ≡ joined
      unfolding joining
      join-new g = rw (e, any_of-append (equal (chunk_of b)) known (chunks_of old), f, g)

-- the chunk of a buffer joins after those of others
pub joined-next : (known cs : List Chunk) (old : List Fact) (b : Buffer) → old ≡ map learned (joining known cs) → joined known old b ≡ map learned (joining known (cs ++ given b))
joined-next known cs old b e =
    rw (e, learned-chunks (joining known cs), joining-append known cs (given b), learned-append (joining known cs) (joining (known ++ joining known cs) (given b)))
