-- What a step adds to a store: the chunks that its rule empties, each once, by rising buffer number.
use Rattle.std.specs.Prelude.{◌≡◌, refl, ◌⊎◌, Bool, true, false, ◌&&◌, not, List, [], ◌∷◌, ◌++◌, ℕ, zero, suc, ◌+◌, ◌<◌, length, get_or}
use Rattle.std.proofs.Common.{sym, ap, ap₂, subst, ◌∙◌, inl, inr, ⊎_elim, arith, eqb-true, eq-eqb}
use Rattle.std.proofs.Math.Option.{some}
use Rattle.meaning.specs.declared.Buffer.{Buffer}
use Rattle.meaning.specs.declared.State.{State}
use Rattle.meaning.specs.Base.{any_of, admit}
use Rattle.meaning.specs.Model.{Model, Rule, Action, Deed, deed_clear, Chunk, Fact}
use Rattle.meaning.specs.State.{nothing, buffer_of, visible, is_nil}
use Rattle.meaning.specs.Fire.{deed_on}
use Rattle.meaning.specs.Step.{Event, event_fired, event_waited}
use Rattle.meaning.specs.Learning.{chunks_of, chunk_of, is_clear, cleared, equal, joining, actions_of, adds}
use Rattle.laws.specs.BaseLaws.{no_true}
use Rattle.promises.specs.Words.{At, first, next, ClearedBy, Stands}
use Rattle.promises.proofs.Proofs.Decoded.{and-true}
pub use Rattle.promises.proofs.Proofs.JoiningClears.{at_left, at_right, Split, before, after, later, at_split, Head, is-first, is-next, at_head, at_in, no-at, at_one, In, at_every, at_map, equal-true, equal-refl, known-any, any-known, not_known, joined_by, joining-new, joining-once, joining-all, joining-from, clear-is, Emptied, empties, emptied-next, not-false, emptied-here}
pub use Rattle.promises.proofs.Proofs.JoiningCleared.{cleared-from, cleared-in}

-- by rising buffer number: the first buffer, or one behind it
pub data Back {as' : List Action} {i : ℕ} {b : Buffer} {bs : List Buffer} {c : Chunk} (p : Emptied as' i (b ∷ bs) c) : Type 0 where
  at_front : empties as' i b ≡ true → chunk_of b ≡ c → Back p
  behind : (q : Emptied as' (i + 1) bs c) → p.buffer ≡ suc q.buffer → Back p

pub back : {as' : List Action} {i : ℕ} {b : Buffer} {bs : List Buffer} {c : Chunk} (p : Emptied as' i (b ∷ bs) c) → Back p
back {as'} {i} {b} {bs} {c} p = by p.buffer refl
  where
    -- what is said of the buffer, of that number
    seen_at : {n : ℕ} → p.buffer ≡ n → visible (get_or (b ∷ bs) n nothing) ≡ true
    seen_at e = ap (λ (n : ℕ). visible (get_or (b ∷ bs) n nothing)) (sym e) ∙ p.seen

    filled_at : {n : ℕ} → p.buffer ≡ n → is_nil (get_or (b ∷ bs) n nothing) ≡ false
    filled_at e = ap (λ (n : ℕ). is_nil (get_or (b ∷ bs) n nothing)) (sym e) ∙ p.filled

    held_at : {n : ℕ} → p.buffer ≡ n → chunk_of (get_or (b ∷ bs) n nothing) ≡ c
    held_at e = ap (λ (n : ℕ). chunk_of (get_or (b ∷ bs) n nothing)) (sym e) ∙ p.held

    by : (n : ℕ) → p.buffer ≡ n → Back p
    by zero e =
        let q : deed_on as' i ≡ some deed_clear = ap (deed_on as') (omega arith) ∙ p.clears in
        at_front (and-true (is_clear (deed_on as' i)) (visible b && not (is_nil b)) (ap is_clear q) (and-true (visible b) (not (is_nil b)) (seen_at e) (ap not (filled_at e)))) (held_at e)
    by (suc n) e =
        behind (record {
          buffer = n;
          there = omega (arith, p.there);
          clears = ap (deed_on as') (omega arith) ∙ p.clears;
          seen = seen_at e;
          filled = filled_at e;
          held = held_at e;
        }) e

-- c is emptied from a buffer before every one that d is emptied from
abbrev pub Rising : List Action → ℕ → List Buffer → Chunk → Chunk → Type 0
Rising as' i bs c d = (e : Emptied as' i bs c) × ((p : Emptied as' i bs d) → e.buffer < p.buffer)

pub rising-on : (as' : List Action) (i : ℕ) (b : Buffer) (bs : List Buffer) (c d : Chunk) → Rising as' (i + 1) bs c d → (empties as' i b ≡ true → chunk_of b ≡ d → ⊥)
    → Rising as' i (b ∷ bs) c d
unfolding emptied-next
rising-on as' i b bs c d h off = (emptied-next h.0, λ p. by p (back p))
  where
    by : (p : Emptied as' i (b ∷ bs) d) → Back p → suc h.0.buffer < p.buffer
    by p (at_front q z) = absurd (off q z)
    by p (behind q e) = omega (arith, e, h.1 q)

pub joining-rising : (as' : List Action) (i : ℕ) (bs : List Buffer) (known : List Chunk) (x y : ℕ) (c d : Chunk)
    → At c x (joining known (cleared as' i bs)) → At d y (joining known (cleared as' i bs)) → x < y → Rising as' i bs c d
unfolding cleared joining emptied-here
joining-rising as' i [] known x y c d a g l = absurd (no-at a)
joining-rising as' i (b ∷ bs) known x y c d a g l = by (empties as' i b) refl (λ ks v w e f n. joining-rising as' (i + 1) bs ks v w c d e f n) a g l
  where
    rest : List Chunk
    rest = cleared as' (i + 1) bs

    own : Chunk
    own = chunk_of b

    -- what joined after b's chunk is another
    other : (ks : List Chunk) {w : ℕ} → In own ks → At d w (joining ks rest) → own ≡ d → ⊥
    other ks {w} n g z = joining-new ks rest w n.0 d g (subst (λ (u : Chunk). At u n.0 ks) z n.1)

    last : In own (known ++ (own ∷ []))
    last = (length known + 0, at_right known first)

    heads : empties as' i b ≡ true
        → ((v w : ℕ) → At c v (joining (known ++ (own ∷ [])) rest) → At d w (joining (known ++ (own ∷ [])) rest) → v < w → Rising as' (i + 1) bs c d)
        → Head c own x (joining (known ++ (own ∷ [])) rest) → Head d own y (joining (known ++ (own ∷ [])) rest) → x < y → Rising as' i (b ∷ bs) c d
    heads q ih (is-first e z) (is-first f u) l = absurd (omega arith)
    heads q ih (is-next v e a) (is-first f u) l = absurd (omega arith)
    heads q ih (is-next v e a) (is-next w f g) l = rising-on as' i b bs c d (ih v w a g (omega arith)) (λ r z. other (known ++ (own ∷ [])) last g z)
    heads q ih (is-first e z) (is-next w f g) l = (emptied-here as' i b bs c q (sym z), λ p. after_first p (back p))
      where
        after_first : (p : Emptied as' i (b ∷ bs) d) → Back p → 0 < p.buffer
        after_first p (at_front r k) = absurd (other (known ++ (own ∷ [])) last g k)
        after_first p (behind r k) = omega (arith, k)

    joined : empties as' i b ≡ true → ((ks : List Chunk) (v w : ℕ) → At c v (joining ks rest) → At d w (joining ks rest) → v < w → Rising as' (i + 1) bs c d)
        → (u : Bool) → any_of (equal own) known ≡ u → At c x (joined_by known own rest u) → At d y (joined_by known own rest u) → x < y → Rising as' i (b ∷ bs) c d
    joined q ih true k a g l = rising-on as' i b bs c d (ih known x y a g l) (λ r z. other known (any-known own known k) g z)
    joined q ih false k a g l = heads q (ih (known ++ (own ∷ []))) (at_head a) (at_head g) l

    by : (t : Bool) → empties as' i b ≡ t → ((ks : List Chunk) (v w : ℕ) → At c v (joining ks rest) → At d w (joining ks rest) → v < w → Rising as' (i + 1) bs c d)
        → At c x (joining known (admit t own rest)) → At d y (joining known (admit t own rest)) → x < y → Rising as' i (b ∷ bs) c d
    by true q ih a g l = joined q ih (any_of (equal own) known) refl a g l
    by false q ih a g l = rising-on as' i b bs c d (ih known x y a g l) (λ r z. no_true (sym r ∙ q))

-- the actions of a rule that is there
pub actions-at : {r : Rule} {k : ℕ} {rules : List Rule} → At r k rules → actions_of rules k ≡ r.actions
actions-at first = refl
actions-at (next h) = actions-at h

pub record Acting (rules : List Rule) (k : ℕ) : Type 0 where
  rule : Rule
  numbered : At rule k rules
  actions_are : actions_of rules k ≡ rule.actions

pub acting : (rules : List Rule) (k b : ℕ) (d : Deed) → deed_on (actions_of rules k) b ≡ some d → Acting rules k
unfolding deed_on
acting [] k b d e = let z : ◌≡◌ {A = ℕ} 0 1 = cc in absurd (omega arith)
acting (r ∷ rules) zero b d e = record { rule = r; numbered = first; actions_are = refl }
acting (r ∷ rules) (suc k) b d e = let a : Acting rules k = acting rules k b d e in record { rule = a.rule; numbered = next a.numbered; actions_are = a.actions_are }

-- ---- what a step adds:
-- nothing that is known,
-- and each chunk once

-- a chunk of a fact
pub chunks-stand : {c : Chunk} {k : ℕ} (facts : List Fact) → At c k (chunks_of facts) → Stands facts c
chunks-stand [] h = absurd (no-at h)
chunks-stand {c} {k} (f ∷ facts) h = by (at_head h) (λ j a. chunks-stand facts a)
  where
    by : Head c f.chunk k (chunks_of facts) → ((j : ℕ) → At c j (chunks_of facts) → Stands facts c) → Stands (f ∷ facts) c
    by (is-first e z) ih = record { place = 0; fact = f; numbered = first; is = sym z }
    by (is-next j e a) ih = let s : Stands facts c = ih j a in record { place = suc s.place; fact = s.fact; numbered = next s.numbered; is = s.is }

pub stand-chunks : {c : Chunk} {facts : List Fact} → Stands facts c → In c (chunks_of facts)
stand-chunks {c} {facts} s = (s.place, subst (λ (x : Chunk). At x s.place (chunks_of facts)) s.is (at_map (λ (f : Fact). f.chunk) s.numbered))

module _ (m : Model) (s : State) where
  pub adds-new : (e : Event) (j : ℕ) (c : Chunk) → At c j (adds m s e) → Stands m.facts c → ⊥
  adds-new (event_fired k) j c h g = let i = stand-chunks g in joining-new (chunks_of m.facts) (cleared (actions_of m.rules k) 0 s.buffers) j i.0 c h i.1
  adds-new (event_waited ms) j c h g = no-at h

  pub adds-once : (e : Event) (j k : ℕ) (c : Chunk) → At c j (adds m s e) → At c k (adds m s e) → j ≡ k
  adds-once (event_fired n) j k c h g = joining-once (chunks_of m.facts) (cleared (actions_of m.rules n) 0 s.buffers) j k c h g
  adds-once (event_waited ms) j k c h g = absurd (no-at h)

  abbrev pub cleared_by : (k : ℕ) (c : Chunk) → Emptied (actions_of m.rules k) 0 s.buffers c → ClearedBy m.rules s k c
  cleared_by k c e =
      let a : Acting m.rules k = acting m.rules k (0 + e.buffer) deed_clear e.clears in
      record {
        rule = a.rule;
        numbered = a.numbered;
        buffer = e.buffer;
        there = e.there;
        clears = ap₂ deed_on (sym a.actions_are) (omega arith) ∙ e.clears;
        seen = eqb-true (buffer_of s e.buffer).delay 0 e.seen;
        filled = e.filled;
        held = e.held;
      }

  abbrev pub by-cleared : (k : ℕ) (c : Chunk) → ClearedBy m.rules s k c → Emptied (actions_of m.rules k) 0 s.buffers c
  by-cleared k c o =
      record {
        buffer = o.buffer;
        there = o.there;
        clears = ap₂ deed_on (actions-at o.numbered) (omega arith) ∙ o.clears;
        seen = eq-eqb (buffer_of s o.buffer).delay 0 o.seen;
        filled = o.filled;
        held = o.held;
      }

  pub adds-from : (k j : ℕ) (c : Chunk) → At c j (adds m s (event_fired k)) → ClearedBy m.rules s k c
  adds-from k j c h =
      let i : In c (cleared (actions_of m.rules k) 0 s.buffers) = joining-from (chunks_of m.facts) (cleared (actions_of m.rules k) 0 s.buffers) j c h in
      cleared_by k c (cleared-from (actions_of m.rules k) 0 s.buffers i.0 c i.1)

  pub adds-in : (k : ℕ) (c : Chunk) → ClearedBy m.rules s k c → Stands m.facts c ⊎ In c (adds m s (event_fired k))
  adds-in k c e =
      let q : deed_on (actions_of m.rules k) (0 + e.buffer) ≡ some deed_clear = ap₂ deed_on (actions-at e.numbered) (omega arith) ∙ e.clears in
      let i : In (chunk_of (buffer_of s e.buffer)) (cleared (actions_of m.rules k) 0 s.buffers) =
      cleared-in (actions_of m.rules k) 0 s.buffers e.buffer e.there q (eq-eqb (buffer_of s e.buffer).delay 0 e.seen) e.filled in
      let h : At c i.0 (cleared (actions_of m.rules k) 0 s.buffers) = subst (λ (x : Chunk). At x i.0 (cleared (actions_of m.rules k) 0 s.buffers)) e.held i.1 in
      ⊎_elim (λ (g : In c (chunks_of m.facts)). inl (chunks-stand m.facts g.1)) (λ (g : In c (adds m s (event_fired k))). inr g)
      (joining-all (chunks_of m.facts) (cleared (actions_of m.rules k) 0 s.buffers) i.0 c h)

  -- by rising buffer number
  pub adds-rising : (k x y : ℕ) (c d : Chunk) → At c x (adds m s (event_fired k)) → At d y (adds m s (event_fired k)) → x < y
      → (o : ClearedBy m.rules s k c) × ((p : ClearedBy m.rules s k d) → o.buffer < p.buffer)
  adds-rising k x y c d a g l =
      let r : Rising (actions_of m.rules k) 0 s.buffers c d = joining-rising (actions_of m.rules k) 0 s.buffers (chunks_of m.facts) x y c d a g l in
      (cleared_by k c r.0, λ p. r.1 (by-cleared k d p))

-- a step that clears nothing that is not known adds nothing
pub none-at : (xs : List Chunk) → ((c : Chunk) (j : ℕ) → At c j xs → ⊥) → xs ≡ []
none-at [] h = refl
none-at (x ∷ xs) h = absurd (h x 0 first)
