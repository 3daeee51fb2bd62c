-- A field that was read whatever its value, and then judged by a rule.
use Rattle.std.proofs.Common.{◌≡◌, ◌∙◌, refl, sym, ap, ℕ, zero, suc, List, length, ◌+◌, ◌*◌, ◌<◌, ◌≤◌, arith}
use Rattle.meaning.specs.Read.{read_refused, read_got, field}
use Rattle.meaning.specs.Image.{anything}
use Rattle.laws.specs.BaseLaws.{by-lt}
use Rattle.laws.specs.ReadLaws.{field-short, field-broken, field-kept, field-got, no-got}

module _ (w : ℕ) (s : List ℕ) (at : ℕ) where
  -- what was read lies in the image
  pub inside : (v next : ℕ) → read_got v next ≡ field w anything s at → at + w ≤ 8 * length s
  inside v next e = let g = field-got w anything s at v next (sym e) in omega (arith, g.there, g.after)

  module _ (rule : ℕ → ℕ) where
    -- what is not there is refused by every rule
    pub missing : (n p : ℕ) → read_refused n p ≡ field w anything s at → read_refused n p ≡ field w rule s at
    missing n p e =
        by-lt (8 * length s) (at + w)
        (λ h. e ∙ field-short w anything s at h ∙ sym (field-short w rule s at h))
        (λ h. absurd (no-got n p _ _ (e ∙ field-kept w anything s at h refl)))

    -- a value that keeps the rule
    pub kept : (v next : ℕ) → read_got v next ≡ field w anything s at → rule v ≡ 0 → read_got v next ≡ field w rule s at
    kept v next e k =
        let g = field-got w anything s at v next (sym e) in
        let there : at + w ≤ 8 * length s = inside v next e in
        let whole = field-kept w rule s at there (rw g.is at k) in
        e ∙ field-kept w anything s at there refl ∙ sym whole

    -- a value that breaks it, whatever the number of the refusal
    pub broken : (v next m : ℕ) → read_got v next ≡ field w anything s at → rule v ≡ m → 0 < m → read_refused m at ≡ field w rule s at
    broken v next zero e k h = absurd (omega arith)
    broken v next (suc m) e k h =
        let g = field-got w anything s at v next (sym e) in
        sym (field-broken w rule s at m (inside v next e) (rw g.is at k))
