-- "A step": wait.
use Rattle.std.specs.Prelude.{if◌then◌else◌, List, [], ◌∷◌, ℕ, zero, suc, ◌+◌, ltb}
use Rattle.meaning.specs.declared.Buffer.{Buffer}
use Rattle.meaning.specs.declared.State.{State}
use Rattle.meaning.specs.Fire.{later, change}

-- the smaller of two delays, where 0 (visible) does not count
abbrev pub sooner : ℕ → ℕ → ℕ
sooner zero d = d
sooner (suc n) zero = suc n
sooner (suc n) (suc d) = if ltb n d then suc n else suc d

-- "the smallest such delay", 0 if none is above 0; `ms` is the smallest of those that went before
unfoldable pub soonest : ℕ → List Buffer → ℕ
soonest ms [] = ms
soonest ms (b ∷ bs) = soonest (sooner ms b.delay) bs

-- "is taken from every delay above 0 and added to the clock" (a delay of 0 stays 0)
unfoldable pub wait : ℕ → State → State
wait ms s = record { buffers = change (λ i b. later ms b) 0 s.buffers; clock = s.clock + ms }
