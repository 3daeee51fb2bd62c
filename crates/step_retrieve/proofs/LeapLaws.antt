-- A leap along a chain: what is not in the chain of a named first slot is none that the request finds.
use Prim.Native.Nat.{ℕ, zero, suc, ◌+◌, ◌-◌, ◌*◌, ◌%◌, ◌≤◌, ◌<◌}
use mathlib.Core.Path.{◌≡◌, sym, ap, ◌∙◌}
use mathlib.Core.Bool.{Bool, true, false}
use mathlib.Core.List.{List}
use mathlib.Core.Option.{Option}
use native.Mathlib.Omega.{arith}
use lib.ListN.{get_or}
use Rattle.std.specs.Prelude as std
use Rattle.meaning.specs.Model.{Fact}
use Rattle.meaning.specs.Image.{names}
use Rattle.meaning.specs.Retrieval.{value_of, fits}
use Rattle.laws.specs.BaseLaws.{by-lt}
use Rattle.layout.specs.Rows.{word_term, masked_in, fact_in}
use Rattle.step_retrieve.specs.Chains.{chain_of, Leap}
use Rattle.step_retrieve.proofs.FitLaws.{fits-other, fits-start, fits_not}
use Rattle.step_retrieve.proofs.TurnLaws.{found_from, found-end, found-skip}
use Rattle.step_retrieve.proofs.ChainLaws.{by-same}

module _ (facts : List ℕ) (n : ℕ) (words : List ℕ) (q : ℕ) (nine : List ℕ) where
  -- the request at q, and then the facts from k on
  abbrev pub sought_from : ℕ → std.Option ℕ → Option Fact
  sought_from k best = found_from facts n (get_or words (q + 1) 0) (masked_in words q) nine k best

  abbrev fitting : ℕ → Bool
  fitting j = fits (get_or words (q + 1) 0) (masked_in words q) nine (fact_in facts (11 * j))

  -- facts that do not fit are passed, and so is what comes after the last fact
  past : (d k : ℕ) (best : std.Option ℕ) → ((j : ℕ) → k ≤ j → j < k + d → j < n → fitting j ≡ false) → sought_from (k + d) best ≡ sought_from k best
  past zero k best none = let e : k + 0 ≡ k = omega arith in ap (λ (i : ℕ). sought_from i best) e
  past (suc d) k best none =
      let e : k + suc d ≡ k + d + 1 = omega arith in
      let isa = get_or words (q + 1) 0 in
      let ns = masked_in words q in
      ap (λ (i : ℕ). sought_from i best) e
      ∙ by-lt (k + d) n
      (λ l. found-skip facts n isa ns nine (k + d) best l (none (k + d) (omega arith) (omega arith) l))
      (λ l. found-end facts n isa ns nine (k + d + 1) best (omega arith) ∙ sym (found-end facts n isa ns nine (k + d) best l))
      ∙ past d k best (λ j a b. none j a (omega arith))

  module _ (first : ℕ) (value : first ≡ value_of nine (word_term (get_or words (q + 3) 0))) (named : names (get_or words (q + 2) 0) 0 ≡ true) where
    -- a fact in another chain than that of the value that slot 0 must have
    no-fit : (j : ℕ) → (chain_of facts j ≡ first % 64 → ⊥) → fitting j ≡ false
    no-fit j out =
        let e : q + 3 + 0 ≡ q + 3 = omega arith in
        let f : 11 * j + 3 + 0 ≡ 11 * j + 3 = omega arith in
        let mask = get_or words (q + 2) 0 in
        let v = value ∙ ap (λ (i : ℕ). value_of nine (word_term (get_or words i 0))) (sym e) in
        by-same (get_or facts (11 * j) 0) (get_or words (q + 1) 0)
        (λ s. sym (fits-start facts (11 * j) words q nine s) ∙ sym (fits_not facts (11 * j) words q nine mask 0 (omega arith) named first v
        (λ same. out (ap (λ (x : ℕ). x % 64) (sym (ap (λ (i : ℕ). get_or facts i 0) f) ∙ same)))))
        (λ d. sym (fits-other facts (11 * j) words q nine d))

    -- from fact k on to the first fact after it in the chain, with nothing that fits between them
    pub leapt : (k r : ℕ) → Leap facts n (first % 64) k r → (best : std.Option ℕ) → sought_from r best ≡ sought_from k best
    leapt k r leap best =
        let e : k + (r - k) ≡ r = omega (arith, leap.forth) in
        ap (λ (i : ℕ). sought_from i best) (sym e) ∙ past (r - k) k best (λ j a b l. no-fit j (leap.between j a (omega arith) l))
