-- What is cleared of the buffers is what they are emptied of, and nothing else.
use Rattle.std.specs.Prelude.{◌≡◌, refl, Bool, true, false, ◌&&◌, not, List, [], ◌∷◌, ℕ, zero, suc, ◌+◌, ◌<◌, length, get_or}
use Rattle.std.proofs.Common.{sym, ap, subst, ◌∙◌, arith}
use Rattle.std.proofs.Math.Option.{some}
use Rattle.meaning.specs.declared.Buffer.{Buffer}
use Rattle.meaning.specs.Base.{admit}
use Rattle.meaning.specs.Model.{Action, deed_clear, Chunk}
use Rattle.meaning.specs.State.{nothing, visible, is_nil}
use Rattle.meaning.specs.Fire.{deed_on}
use Rattle.meaning.specs.Learning.{chunk_of, is_clear, cleared}
use Rattle.promises.specs.Words.{At, first, next}
use Rattle.promises.proofs.Proofs.Decoded.{and-true}
use Rattle.promises.proofs.Proofs.JoiningClears.{Head, is-first, is-next, at_head, no-at, In, Emptied, empties, emptied-next, emptied-here}

-- ---- what a rule clears:
-- in a visible buffer
-- a chunk other than nil

pub cleared-from : (as' : List Action) (i : ℕ) (bs : List Buffer) (j : ℕ) (c : Chunk) → At c j (cleared as' i bs) → Emptied as' i bs c
unfolding cleared
cleared-from as' i [] j c h = absurd (no-at h)
cleared-from as' i (b ∷ bs) j c h = by (empties as' i b) refl (λ k a. cleared-from as' (i + 1) bs k c a) h
  where
    by : (t : Bool) → empties as' i b ≡ t → ((k : ℕ) → At c k (cleared as' (i + 1) bs) → Emptied as' (i + 1) bs c) → At c j (admit t (chunk_of b) (cleared as' (i + 1) bs))
        → Emptied as' i (b ∷ bs) c
    by true q ih a = off (at_head a)
      where
        off : Head c (chunk_of b) j (cleared as' (i + 1) bs) → Emptied as' i (b ∷ bs) c
        off (is-first e z) = emptied-here as' i b bs c q (sym z)
        off (is-next k e n) = emptied-next (ih k n)
    by false q ih a = emptied-next (ih j a)

pub cleared-in : (as' : List Action) (i : ℕ) (bs : List Buffer) (b : ℕ) → b < length bs → deed_on as' (i + b) ≡ some deed_clear → visible (get_or bs b nothing) ≡ true
    → is_nil (get_or bs b nothing) ≡ false
    → In (chunk_of (get_or bs b nothing)) (cleared as' i bs)
unfolding cleared
cleared-in as' i [] b l d v n = absurd (omega arith)
cleared-in as' i (x ∷ bs) zero l d v n =
    let q : deed_on as' i ≡ some deed_clear = ap (deed_on as') (omega arith) ∙ d in
    let t : empties as' i x ≡ true = and-true (is_clear (deed_on as' i)) (visible x && not (is_nil x)) (ap is_clear q) (and-true (visible x) (not (is_nil x)) v (ap not n)) in
    subst (λ (u : Bool). In (chunk_of x) (admit u (chunk_of x) (cleared as' (i + 1) bs))) (sym t) (0, first)
cleared-in as' i (x ∷ bs) (suc b) l d v n = by (empties as' i x) (cleared-in as' (i + 1) bs b (omega arith) (ap (deed_on as') (omega arith) ∙ d) v n)
  where
    by : (t : Bool) → In (chunk_of (get_or bs b nothing)) (cleared as' (i + 1) bs) → In (chunk_of (get_or bs b nothing)) (admit t (chunk_of x) (cleared as' (i + 1) bs))
    by true h = (suc h.0, next h.1)
    by false h = h
