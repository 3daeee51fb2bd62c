-- A store that is lent in words, and its facts on a tape.
use Rattle.std.specs.Prelude.{ℕ, ◌+◌, ◌-◌, ◌*◌, ◌≡◌, List, map, drop, Result, is_ok, IfOk, IfErr}
use Rattle.std.proofs.Math.Option.{some}
use Rattle.meaning.specs.Model.{Chunk}
use Rattle.meaning.specs.Learning.{learned}
use Rattle.meaning.specs.Store.{store_in, store_fits}
use Rattle.layout.specs.declared.Plan.{Plan}
use Rattle.layout.specs.Rows.{rows_in, fact_in}
use Rattle.layout.specs.Plans.{types_on}
use Rattle.layout.specs.Growth.{Extended}
use Rattle.meaning.specs.declared.reasons.Reason.{Reason}
use Rattle.meaning.specs.declared.reasons.Reason.TheVariants.{BadStore}

-- a store was looked at: whether it fits the image, and then plan and tape know its facts after the image's; else it is refused as one that the image cannot have
pub record LoadMet (r : Result Plan Reason) (p : Plan) (tape tape' store : List ℕ) : Type 0 where
  pub judged : is_ok r ≡ store_fits (types_on p tape) (some store)
  pub loaded : IfOk r (λ known. Extended p tape known tape' (map learned (store_in store)))
  pub refused : IfErr r (λ why. why ≡ BadStore)

-- the chunks of the facts from number `own` on
abbrev pub learned_on : Plan → List ℕ → ℕ → List Chunk
learned_on p tape own = rows_in (λ i. (fact_in (drop 152 tape) (11 * (own + i))).chunk) 0 (p.facts - own)
