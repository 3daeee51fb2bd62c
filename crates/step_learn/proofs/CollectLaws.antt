-- The walk over the buffers that are cleared: the rows are what joins of those below a place.
use Prim.Native.Nat.{ℕ, ◌+◌, ◌*◌, ◌≤◌, ◌<◌}
use mathlib.Core.Path.{◌≡◌, refl, sym, ap, ◌∙◌}
use mathlib.Core.Bool.{true, false}
use mathlib.Core.List.{List, map}
use native.Mathlib.Omega.{arith}
use lib.ListN.{get_or}
use Rattle.meaning.specs.Base.{bit}
use Rattle.meaning.specs.Model.{Action, Chunk}
use Rattle.meaning.specs.Learning.{learned, chunks_of, cleared, joining}
use Rattle.layout.specs.declared.Plan.{Plan}
use Rattle.layout.specs.Rows.{rows_in, facts_in, actions_in}
use Rattle.layout.specs.StateWords.{buffer_in, buffers_in}
use Rattle.layout.specs.Plans.{facts_on, heads_on, rows_on}
use Rattle.match_sets.specs.Sets.{Dropped}
use Rattle.match_sets.proofs.BitWalk.{Walk, walk_begins, walk_ends, walk_none, walk-ahead, walk_here, walk-goes-on}
use Rattle.step_learn.specs.Joins.{joins_on, Collected}
use Rattle.step_learn.specs.Clears.{ClearMask}
use Rattle.step_learn.proofs.ClearLaws.{cleared_to, cleared-start, cleared-end, cleared-turn, cleared-past}
use Rattle.step_learn.proofs.JoinLaws.{joined, joined-next}

module _ (known : List Chunk) (as' : List Action) (state : List ℕ) where
  -- what joins of the buffers below a place
  abbrev pub joins_to : ℕ → List Chunk
  joins_to at = joining known (cleared_to as' state at)

  -- n rows are what joins of the buffers below a place
  abbrev pub Held : List ℕ → ℕ → ℕ → Type 0
  Held news n at = (n ≤ at) × (facts_in news n ≡ map learned (joins_to at))

  pub collecting-start : (news : List ℕ) (mask : ℕ) → Walk mask 8 (Held news 0) mask
  unfolding joining rows_in
  collecting-start news mask = walk_begins mask 8 (Held news 0) (omega arith, sym (ap (λ (cs : List Chunk). map learned (joining known cs)) (cleared-start as' state)))

  module _ (news : List ℕ) (n : ℕ) {mask rest : ℕ} (masked : ClearMask as' mask) (w : Walk mask 8 (Held news n) rest) where
    pub collecting-end : rest ≡ 0 → Collected news n (joining known (cleared as' 0 (buffers_in state)))
    collecting-end e =
        let none = cleared-past as' state w.at 8 w.low (λ j a l. sym (masked j) ∙ walk_ends w e j a) in
        record {
          few = omega (arith, w.so.0, w.low);
          rows = w.so.1 ∙ ap (λ (cs : List Chunk). map learned (joining known cs)) (sym none ∙ cleared-end as' state);
        }

    module _ (z : ℕ) (here : bit rest z ≡ true) where
      -- fewer rows than buffers up to here
      pub collecting-few : n ≤ z
      collecting-few = omega (arith, w.so.0, walk-ahead w z here)

      pub collecting-turn : ((j : ℕ) → j < z → bit rest j ≡ false) → z < 8 → (rest' : ℕ) → Dropped rest rest' → (news' : List ℕ) (n' : ℕ) → n' ≤ n + 1
          → facts_in news' n' ≡ joined known (facts_in news n) (buffer_in state z) → Walk mask 8 (Held news' n') rest'
      collecting-turn none low rest' dropped news' n' few e =
          let ahead = walk-ahead w z here in
          let past = cleared-past as' state w.at z ahead (λ j a l. sym (masked j) ∙ walk_none w z none j a l) in
          let held = w.so.1 ∙ ap (λ (cs : List Chunk). map learned (joining known cs)) (sym past) in
          let more = cleared-turn as' state z (sym (masked z) ∙ walk_here w z here) in
          walk-goes-on w z here none rest' dropped low
          (omega (arith, w.so.0), e ∙ joined-next known (cleared_to as' state z) (facts_in news n) (buffer_in state z) held ∙ ap (λ (cs : List Chunk). map learned (joining known cs)) (sym more))

-- ---- the actions of a rule, and whether a store is lent

module _ (p : Plan) (tape state : List ℕ) (k : ℕ) (news : List ℕ) where
  pub collected-none : p.learns ≡ false → Collected news 0 (joins_on p tape state k)
  unfolding rows_in
  collected-none e = rw e (record { few = omega arith; rows = refl })

  pub collected-so : (n m : ℕ) → p.learns ≡ true → m ≡ get_or (heads_on p tape) (4 * k + 1) 0
      → Collected news n (joining (chunks_of (facts_on p tape)) (cleared (actions_in (rows_on p tape) (185 * k + 97) m) 0 (buffers_in state)))
      → Collected news n (joins_on p tape state k)
  collected-so n m e many c = rw e (rw many at c)
