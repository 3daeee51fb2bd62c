-- A refresh by what was accepted, and of a model that stands in words.
use Prim.Native.Nat.{ℕ, ◌*◌, ◌%◌, ◌^◌, ◌≤◌, ◌<◌}
use mathlib.Core.Path.{◌≡◌, refl, sym, ap, ap₂, ◌∙◌}
use mathlib.Core.Bool.{Bool, true, false}
use mathlib.Core.List.{List}
use native.Mathlib.Omega.{arith}
use borrow.Author.Tests.{le-leb, lt-leb, ltb-true, ltb-false}
use lib.Dec.{ltb}
use lib.Pow.{pow_mono}
use lib.ListN.{length}
use Rattle.meaning.specs.declared.State.{State}
use Rattle.meaning.specs.Model.{Model, Rule}
use Rattle.meaning.specs.State.{well_formed}
use Rattle.meaning.specs.Read.{Read, read_refused, read_got}
use Rattle.meaning.specs.Refresh.{refresh, refresh_count}
use Rattle.meaning.specs.Calls.{Refreshed, refreshed_by, refresh_of}
use Rattle.layout.specs.StateWords.{buffers_in, state_in}
use Rattle.layout.specs.declared.Plan.{Plan}
use Rattle.layout.specs.Plans.{model_on}
use Rattle.layout_state.specs.Words.{well_in}
use Rattle.layout_state.proofs.ValueLaws.{state-is, well-by}
use Rattle.std.specs.Prelude.{Result, Ok, Err}
use Rattle.meaning.specs.declared.reasons.Refusal.{Refusal}
use Rattle.meaning.specs.declared.reasons.Reason.TheVariants.{IllFormed, BadMark}
use Rattle.meaning.specs.Reasons.{number_of}
use Rattle.read_image.specs.Whole.{header_of}
use Rattle.call_accept.specs.Acceptance.{settled, TakenMet}
use Rattle.call_accept.proofs.TakenLaws.{by-taken, by-header}
use Rattle.call_refresh.specs.Answers.{answered, refreshed_in}

abbrev refreshed : ℕ → ℕ → List ℕ → Refreshed
refreshed number count table = record { number = number; position = 0; count = count; table = table }

-- 1 shifted by at most 8 is a power of two, within 32 bits
pub shifted : (buffers : ℕ) → buffers ≤ 8 → 1 * 2 ^ buffers % 4294967296 ≡ 2 ^ buffers
shifted buffers few = omega (arith, pow_mono {i = buffers} {j = 8} few)

-- ---- by what was accepted

module _ (s : State) (mark : ℕ) (image table : List ℕ) where
  refreshed-settled : (a : Read Model) → refreshed_by s mark table a ≡ refreshed_by s mark table (settled a)
  refreshed-settled (read_refused n at) = refl
  refreshed-settled (read_got m at) = refl

  -- refused, by its header or later: nothing is done
  pub refresh-header : (f : Refusal) → read_refused (number_of f.reason) f.at ≡ header_of image → (r : Result ℕ Refusal) → r ≡ Err f → refreshed_in (answered r) table ≡ refresh_of image s mark table
  unfolding refresh_of
  refresh-header f e r is = rw is (by-header (refreshed_by s mark table) refreshed-settled image table (number_of f.reason) f.at e)

  module _ (p : Plan) (tape : List ℕ) where
    pub refresh-refused : (f : Refusal) → TakenMet (Err f) p image (length table) tape → (r : Result ℕ Refusal) → r ≡ Err f → refreshed_in (answered r) table ≡ refresh_of image s mark table
    unfolding refresh_of
    refresh-refused f met r is = rw is (by-taken (refreshed_by s mark table) refreshed-settled image table (Err f) p tape met)

    -- accepted: what is left, for the model that was laid out
    pub refresh-accepted : (u : Unit {0}) → TakenMet (Ok u) p image (length table) tape → (x : Refreshed) → x ≡ refreshed_by s mark table (read_got (model_on p tape) 0) → x ≡ refresh_of image s mark table
    unfolding refresh_of
    refresh-accepted u met x g = g ∙ by-taken (refreshed_by s mark table) refreshed-settled image table (Ok u) p tape met

-- ---- of a model with these buffers and types, whose state stands in the words w

module _ (s : State) (mark : ℕ) (table : List ℕ) (m : Model) (types : List ℕ) (buffers : ℕ) (w : List ℕ) (well : Bool)
    (judged : well ≡ well_in types buffers w) (stands : buffers_in w ≡ s.buffers) (eb : m.buffers ≡ buffers) (et : m.types ≡ types) where
  formed : (x : Bool) → well ≡ x → well_formed m s ≡ x
  formed x g = well-by m types buffers w s eb et stands well x judged g

  pub refresh-ill : well ≡ false → (r : Result ℕ Refusal) → r ≡ Err (record { reason = IllFormed; at = 0 }) → refreshed_in (answered r) table ≡ refreshed_by s mark table (read_got m 0)
  refresh-ill g r e = rw (e, formed false g)

  module _ (ok : well ≡ true) (allowed : Bool) (allows : allowed ≡ ltb mark (2 ^ buffers)) where
    pub refresh-mark : allowed ≡ false → (r : Result ℕ Refusal) → r ≡ Err (record { reason = BadMark; at = 0 }) → refreshed_in (answered r) table ≡ refreshed_by s mark table (read_got m 0)
    refresh-mark g r e =
        let l : 2 ^ m.buffers ≤ mark = rw eb (ltb-false mark (2 ^ buffers) (sym allows ∙ g)) in
        rw (e, formed true ok, le-leb (2 ^ m.buffers) mark l)

    pub refresh-done : allowed ≡ true → (rules : List Rule) → m.rules ≡ rules → (count : ℕ) (table' : List ℕ)
        → ((clock : ℕ) → table' ≡ refresh rules (state_in w clock) mark table) → count ≡ refresh_count rules mark
        → refreshed 0 count table' ≡ refreshed_by s mark table (read_got m 0)
    refresh-done g rules er count table' made counted =
        let l : mark < 2 ^ m.buffers = rw eb (ltb-true mark (2 ^ buffers) (sym allows ∙ g)) in
        let at : table' ≡ refresh m.rules s mark table = rw er (made s.clock ∙ ap (λ (x : State). refresh rules x mark table) (state-is w s stands)) in
        let many : count ≡ refresh_count m.rules mark = rw er counted in
        rw (formed true ok, lt-leb (2 ^ m.buffers) mark l) (ap₂ (refreshed 0) many at)
