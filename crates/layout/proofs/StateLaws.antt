-- Laws of a state in words: a buffer and its slots, words that are alike, a loop that makes each buffer anew.
use Prim.Native.Nat.{ℕ, zero, suc, ◌+◌, ◌-◌, ◌*◌, ◌≤◌, ◌<◌}
use mathlib.Core.Path.{◌≡◌, refl, sym, ap, ap₂, ◌∙◌}
use mathlib.Core.List.{List, [], ◌∷◌, ◌++◌, append-nil, append_assoc}
use native.Mathlib.Omega.{arith}
use lib.Dec.{eqb}
use lib.ListN.{length, get_or}
use Rattle.meaning.specs.declared.Buffer.{Buffer}
use Rattle.meaning.specs.declared.State.{State}
use Rattle.meaning.specs.State.{nothing, buffer_of}
use Rattle.meaning.specs.Fire.{change}
use Rattle.layout.specs.Rows.{rows_in}
use Rattle.layout.specs.StateWords.{buffer_in, buffers_in, state_in}
use Rattle.layout.proofs.RowLaws.{rows_get, rows_same, rows_more, rows_left}

-- a buffer of a state in words, and the value in one of its slots
pub buffer-is : (w : List ℕ) (k : ℕ) → k < 8 → get_or (buffers_in w) k nothing ≡ buffer_in w k
buffer-is w k h = let e : 0 + k ≡ k = omega arith in rows_get (buffer_in w) 0 8 k nothing h ∙ ap (buffer_in w) e

pub slot_of : (w : List ℕ) (k b : ℕ) → b < 8 → get_or (buffer_in w k).slots b 0 ≡ get_or w (11 * k + 1 + b) 0
slot_of w k b h = let e : 0 + b ≡ b = omega arith in rows_get (λ b. get_or w (11 * k + 1 + b) 0) 0 8 b 0 h ∙ ap (λ (j : ℕ). get_or w (11 * k + 1 + j) 0) e

pub slot_is : (w : List ℕ) (k b : ℕ) → k < 8 → b < 8 → get_or (get_or (buffers_in w) k nothing).slots b 0 ≡ get_or w (11 * k + 1 + b) 0
slot_is w k b h g = rw (buffer-is w k h) (slot_of w k b g)

-- eleven words that are alike say the same buffer
pub buffer-like : (w w' : List ℕ) (k : ℕ) → ((j : ℕ) → j < 11 → get_or w (11 * k + j) 0 ≡ get_or w' (11 * k + j) 0) → buffer_in w k ≡ buffer_in w' k
buffer-like w w' k h =
    let z : 11 * k + 0 ≡ 11 * k = omega arith in
    let a : get_or w (11 * k) 0 ≡ get_or w' (11 * k) 0 = ap (λ (n : ℕ). get_or w n 0) (sym z) ∙ h 0 (omega arith) ∙ ap (λ (n : ℕ). get_or w' n 0) z in
    rw (a, h 9 (omega arith), h 10 (omega arith))
    (ap (λ (l : List ℕ). record { isa = get_or w' (11 * k) 0; slots = l; delay = get_or w' (11 * k + 9) 0; error = eqb (get_or w' (11 * k + 10) 0) 1 })
    (rows_same (λ b. get_or w (11 * k + 1 + b) 0) (λ b. get_or w' (11 * k + 1 + b) 0) 0 8 (λ b x y.
    let e : 11 * k + 1 + b ≡ 11 * k + (1 + b) = omega arith in
    rw e (h (1 + b) (omega arith)))))

-- ---- a loop that makes each buffer anew: those below i are made, those from i on are as they were

unfoldable pub anew : (ℕ → Buffer → Buffer) → List ℕ → ℕ → List Buffer
anew f w i = rows_in (buffer_in w) 0 i ++ change f i (rows_in (buffer_in w) i (8 - i))

pub anew-start : (f : ℕ → Buffer → Buffer) (w : List ℕ) → anew f w 0 ≡ change f 0 (buffers_in w)
unfolding anew rows_in
anew-start f w = refl

pub anew-end : (f : ℕ → Buffer → Buffer) (w : List ℕ) → anew f w 8 ≡ buffers_in w
unfolding anew change rows_in
anew-end f w = append-nil (rows_in (buffer_in w) 0 8)

-- one buffer more: only its own eleven words have changed
pub anew-turn : (f : ℕ → Buffer → Buffer) (w w' : List ℕ) (i : ℕ) → i < 8
    → ((j : ℕ) → (j < 11 * i) → get_or w' j 0 ≡ get_or w j 0) → ((j : ℕ) → 11 * i + 11 ≤ j → get_or w' j 0 ≡ get_or w j 0)
    → buffer_in w' i ≡ f i (buffer_in w i) → anew f w' (i + 1) ≡ anew f w i
unfolding anew change
anew-turn f w w' i h below above made =
    let n : 8 - i + i ≡ 8 = omega arith in
    let e : 8 - i ≡ suc (8 - (i + 1)) = omega arith in
    let first : rows_in (buffer_in w) i (8 - i) ≡ buffer_in w i ∷ rows_in (buffer_in w) (i + 1) (8 - (i + 1)) = rows_left (buffer_in w) i 8 h (8 - i) n in
    let z : 0 + i ≡ i = omega arith in
    let old : rows_in (buffer_in w') 0 i ≡ rows_in (buffer_in w) 0 i = rows_same (buffer_in w') (buffer_in w) 0 i (λ k a b. buffer-like w' w k (λ j l. below (11 * k + j) (omega arith))) in
    let rest : rows_in (buffer_in w') (i + 1) (8 - (i + 1)) ≡ rows_in (buffer_in w) (i + 1) (8 - (i + 1)) =
    rows_same (buffer_in w') (buffer_in w) (i + 1) (8 - (i + 1)) (λ k a b. buffer-like w' w k (λ j l. above (11 * k + j) (omega arith))) in
    rw (first, rows_more (buffer_in w') 0 i, z, old, rest, made, append_assoc) refl
