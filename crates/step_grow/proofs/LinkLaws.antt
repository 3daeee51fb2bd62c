-- Links of a chain: where each leads, that one of them alone is the last, and that a new fact after it makes longer chains.
use Prim.Native.Nat.{ℕ, ◌+◌, ◌-◌, ◌*◌, ◌%◌, ◌≤◌, ◌<◌}
use mathlib.Core.Path.{◌≡◌, refl, sym, ap, ◌∙◌, subst}
use mathlib.Core.List.{List}
use native.Mathlib.Omega.{arith}
use lib.ListN.{length, get_or}
use Rattle.laws.specs.BaseLaws.{by-lt}
use Rattle.layout.proofs.KeptLaws.{SameTo}
use Rattle.step_retrieve.specs.Chains.{chain_of, Leap, Chained}
use Rattle.step_retrieve.proofs.ChainLaws.{by-same}
use Rattle.step_grow.specs.Grown.{Link, Last}

-- the start of a chain, and the word of a fact
pub link_start : (facts : List ℕ) (n h : ℕ) → h < 64 → Link facts n h h
link_start facts n h l = record { start = λ b. refl; known = λ b. absurd (omega arith); own = λ b. absurd (omega arith) }

pub link-of : (facts : List ℕ) (n h k : ℕ) → k < n → chain_of facts k ≡ h → Link facts n h (64 + k)
link-of facts n h k l e =
    let back : 64 + k - 64 ≡ k = omega arith in
    record { start = λ b. absurd (omega arith); known = λ b. omega arith; own = λ b. ap (chain_of facts) back ∙ e }

module _ (index facts : List ℕ) (n : ℕ) (chained : Chained index facts n) where
  -- a link names the first fact of its chain after its own
  pub link-leap : (h at : ℕ) → h < 64 → Link facts n h at → Leap facts n h (at + 1 - 64) (get_or index at 0)
  link-leap h at few link = by-lt at 64
      (λ l. let e = link.start l in let z : at + 1 - 64 ≡ 0 = omega arith in rw (z, e) (chained.starts h few))
      (λ l. let e = link.own l in
      let on : at + 1 - 64 ≡ at - 64 + 1 = omega arith in
      let back : 64 + (at - 64) ≡ at = omega arith in
      rw (on, ← e, ← ap (λ (i : ℕ). get_or index i 0) back) (chained.goes_on (at - 64) (link.known l)))

  -- the fact that a link names is in its chain, and so its word is a link
  pub link-next : (h at x : ℕ) → h < 64 → Link facts n h at → x ≡ get_or index at 0 → x < n → Link facts n h (64 + x)
  link-next h at x few link e l = link-of facts n h x l (ap (chain_of facts) e ∙ (link-leap h at few link).lands (omega arith))

  -- of two links of one chain the earlier one names a fact
  one_last : (h at at' : ℕ) → h < 64 → Link facts n h at → Link facts n h at' → n ≤ get_or index at 0 → at < at' → ⊥
  one_last h at at' few link link' ends l =
      by-lt at' 64
      (λ b. let s = link.start (omega arith) in let s' = link'.start b in omega arith)
      (λ b. let k = link'.known b in (link-leap h at few link).between (at' - 64) (omega arith) (omega arith) k (link'.own b))

-- every link is one of the words of the chains
pub link-within : (facts : List ℕ) (n h at : ℕ) → Link facts n h at → at < 64 + n
link-within facts n h at link = by-lt at 64 (λ l. omega arith) (λ l. omega (arith, link.known l))

-- fact n comes to its chain h: the last link names it, and its own word names none
module _ (index index' facts facts' : List ℕ) (n h at : ℕ) (chained : Chained index facts n) (last : Last index facts n h at) (few : h < 64) (most : n < 768)
    (same-facts : SameTo (11 * n) facts facts') (own : chain_of facts' n ≡ h) where
  chain-kept : (k : ℕ) → k < n → chain_of facts' k ≡ chain_of facts k
  chain-kept k l = ap (λ (x : ℕ). x % 64) (same-facts (11 * k + 3) (omega arith))

  -- the last link: fact n is the first of the chain after it
  to-new : Leap facts' (n + 1) h (at + 1 - 64) n
  to-new =
      let leap = link-leap index facts n chained h at few last.link in
      let far = last.ends in
      record {
        forth = omega (arith, link-within facts n h at last.link);
        between = λ j a b l e. leap.between j a (omega arith) b (sym (chain-kept j b) ∙ e);
        lands = λ l. own;
        ends = λ l. absurd (omega arith);
      }

  -- any other link names the fact that it named, or none still
  to-old : (h' at' : ℕ) → h' < 64 → Link facts n h' at' → (at' ≡ at → ⊥) → Leap facts' (n + 1) h' (at' + 1 - 64) (get_or index at' 0)
  to-old h' at' few' link' ne =
      let x : ℕ = get_or index at' 0 in
      let leap = link-leap index facts n chained h' at' few' link' in
      let other : n ≤ x → h' ≡ h → ⊥ = λ far e.
      by-lt at at'
      (λ l. one_last index facts n chained h at at' few last.link (subst (λ (c : ℕ). Link facts n c at') e link') last.ends l)
      (λ l. one_last index facts n chained h at' at few (subst (λ (c : ℕ). Link facts n c at') e link') last.link far (by-same at' at (λ s. absurd (ne s)) (λ d. omega arith))) in
      record {
        forth = leap.forth;
        between = λ j a b l e. by-lt j n
            (λ k. leap.between j a b k (sym (chain-kept j k) ∙ e))
            (λ k. let s : j ≡ n = omega arith in other (omega arith) (sym e ∙ ap (chain_of facts') s ∙ own));
        lands = λ l. by-lt x n (λ k. chain-kept x k ∙ leap.lands k) (λ k. absurd (omega (arith, leap.ends k)));
        ends = λ l. leap.ends (omega arith);
      }

  module _ (room : 64 + (n + 1) ≤ length index') (named : get_or index' at 0 ≡ n) (none : get_or index' (64 + n) 0 ≡ 768)
      (others : (j : ℕ) → j < 64 + n → (j ≡ at → ⊥) → get_or index' j 0 ≡ get_or index j 0) where
    -- two chains with one link are one
    same-chain : (h' : ℕ) → Link facts n h' at → h' ≡ h
    same-chain h' link' = by-lt at 64 (λ l. sym (link'.start l) ∙ last.link.start l) (λ l. sym (link'.own l) ∙ last.link.own l)

    leads : (h' at' : ℕ) → h' < 64 → Link facts n h' at' → Leap facts' (n + 1) h' (at' + 1 - 64) (get_or index' at' 0)
    leads h' at' few' link' = by-same at' at
        (λ e. let link : Link facts n h' at = subst (Link facts n h') e link' in rw (e, same-chain h' link, named) to-new)
        (λ ne. rw (others at' (link-within facts n h' at' link') ne) (to-old h' at' few' link' ne))

    pub chained_more : Chained index' facts' (n + 1)
    chained_more =
        record {
          room = room;
          starts = λ h' l. let z : h' + 1 - 64 ≡ 0 = omega arith in rw z at (leads h' h' l (link_start facts n h' l));
          goes_on = λ k l. by-same k n
              (λ e. rw (e, none) (record { forth = omega arith; between = λ j a b c s. omega arith; lands = λ b. absurd (omega arith); ends = λ b. omega arith }))
              (λ ne. let below : k < n = omega arith in
              let on : 64 + k + 1 - 64 ≡ k + 1 = omega arith in
              rw (chain-kept k below) (rw on at (leads (chain_of facts k) (64 + k) (omega arith) (link-of facts n (chain_of facts k) k below refl))));
        }
