-- A tape with one fact more: its row after the others, its number in the last link of its chain, and its own word at the chain's end. Then with all of them.
use Prim.Native.Nat.{ℕ, ◌+◌, ◌-◌, ◌*◌, ◌%◌, ◌≤◌, ◌<◌}
use mathlib.Core.Path.{◌≡◌, sym, ap, ◌∙◌, subst}
use mathlib.Core.List.{List, [], ◌∷◌, ◌++◌}
use native.Mathlib.Omega.{arith}
use lib.ListN.{length, get_or, set, take, drop, length-set, length-drop}
use lib.Seq.{sets, length-sets, get_or-set_same, get_or-set_other, get_or-take, get_or-drop, length-take-le, take-set-le, drop-set-lt}
use borrow.Rule.Slice.PartMut.{put_mid}
use Rattle.meaning.specs.Model.{Fact}
use Rattle.layout.specs.declared.Plan.{Plan}
use Rattle.layout.specs.Rows.{rows_in, fact_in, facts_in}
use Rattle.layout.specs.Plans.{Planned}
use Rattle.layout.specs.Growth.{with_facts, Extended}
use Rattle.layout.proofs.WordLaws.{lent-sets, sets-at, sets-take, sets-drop}
use Rattle.layout.proofs.RowLaws.{rows_more, rows-length, Alike}
use Rattle.layout.proofs.PlanLaws.{sections}
use Rattle.layout.proofs.KeptLaws.{same-below, follows}
use Rattle.layout.proofs.GrowthLaws.{extended-by-row, extended_none, extended-on}
use Rattle.step_retrieve.specs.Chains.{ChainsOn}
use Rattle.step_grow.specs.Grown.{Last, Grown}
use Rattle.step_grow.proofs.LinkLaws.{link-within, chained_more}

module _ (p : Plan) (tape news : List ℕ) (q : ℕ) (planned : Planned p tape) (chains : ChainsOn p tape) (fit : p.facts + 1 ≤ p.places) (room : q + 11 ≤ length news) (at : ℕ)
    (last : Last (drop p.chains tape) (drop 152 tape) p.facts (get_or news (q + 3) 0 % 64) at) where
  abbrev row : List ℕ
  row = take (q + 11 - q) (drop q news)

  whole : length row ≡ 11
  whole = let e : q + 11 - q ≡ 11 = omega arith in length-take-le (q + 11 - q) (drop q news) (omega (arith, length-drop q news)) ∙ e

  copied : (j : ℕ) → j < 11 → get_or row j 0 ≡ get_or news (q + j) 0
  copied j l = get_or-take (q + 11 - q) (drop q news) j 0 (omega arith) ∙ get_or-drop q news j 0

  -- the tape as the row is put, then the fact's own word, then the link
  abbrev put : List ℕ
  put = sets tape (152 + 11 * p.facts) row

  abbrev ended : List ℕ
  ended = set put (p.chains + 64 + p.facts) 768

  abbrev linked : List ℕ
  linked = set ended (p.chains + at) p.facts

  within : at < 64 + p.facts
  within = link-within (drop 152 tape) p.facts (get_or news (q + 3) 0 % 64) at last.link

  long : length linked ≡ length tape
  long = length-set ended (p.chains + at) p.facts ∙ length-set put (p.chains + 64 + p.facts) 768 ∙ length-sets tape (152 + 11 * p.facts) row

  begins : take (152 + 11 * p.facts) linked ≡ take (152 + 11 * p.facts) tape
  begins =
      let s = sections planned in
      let size = whole in
      take-set-le (152 + 11 * p.facts) ended (p.chains + at) p.facts (omega arith)
      ∙ take-set-le (152 + 11 * p.facts) put (p.chains + 64 + p.facts) 768 (omega arith)
      ∙ sets-take (152 + 11 * p.facts) tape (152 + 11 * p.facts) row (omega arith)

  apart : drop p.heads linked ≡ drop p.heads tape
  apart =
      let s = sections planned in
      let f = follows planned in
      let w = within in
      let size = whole in
      drop-set-lt p.heads ended (p.chains + at) p.facts (omega arith)
      ∙ drop-set-lt p.heads put (p.chains + 64 + p.facts) 768 (omega arith)
      ∙ sets-drop p.heads tape (152 + 11 * p.facts) row (omega arith)

  -- a word that is neither the link nor the fact's own is as the row left it
  other : (i : ℕ) → (i ≡ p.chains + at → ⊥) → (i ≡ p.chains + 64 + p.facts → ⊥) → get_or linked i 0 ≡ get_or put i 0
  other i a b = get_or-set_other ended (p.chains + at) i p.facts 0 a ∙ get_or-set_other put (p.chains + 64 + p.facts) i 768 0 b

  there : Alike linked (152 + 11 * p.facts) news q
  there j l =
      let s = sections planned in
      let size = whole in
      other (152 + 11 * p.facts + j) (λ e. omega arith) (λ e. omega arith)
      ∙ sets-at tape (152 + 11 * p.facts) row j (omega arith) (omega (arith, s.heads_end, (follows planned).heads_at)) ∙ copied j l

  chained : ChainsOn (with_facts p (p.facts + 1)) linked
  chained =
      let s = sections planned in
      let f = follows planned in
      let w = within in
      let n : ℕ = p.facts in
      let index : List ℕ = drop p.chains tape in
      let index' : List ℕ = drop p.chains linked in
      let size = whole in
      let as_long = long in
      let put-long : length put ≡ length tape = length-sets tape (152 + 11 * n) row in
      let ended-long : length ended ≡ length put = length-set put (p.chains + 64 + n) 768 in
      let spare : 64 + (n + 1) ≤ length index' = omega (arith, length-drop p.chains linked, s.heads_end) in
      let own : get_or (drop 152 linked) (11 * n + 3) 0 ≡ get_or news (q + 3) 0 =
      let e : 152 + (11 * n + 3) ≡ 152 + 11 * n + 3 = omega arith in get_or-drop 152 linked (11 * n + 3) 0 ∙ ap (λ (i : ℕ). get_or linked i 0) e ∙ there 3 (omega arith) in
      let named : get_or index' at 0 ≡ n = get_or-drop p.chains linked at 0 ∙ get_or-set_same ended (p.chains + at) n 0 (omega (arith, s.heads_end)) in
      let none : get_or index' (64 + n) 0 ≡ 768 =
      let e : p.chains + (64 + n) ≡ p.chains + 64 + n = omega arith in
      get_or-drop p.chains linked (64 + n) 0 ∙ ap (λ (i : ℕ). get_or linked i 0) e
      ∙ get_or-set_other ended (p.chains + at) (p.chains + 64 + n) n 0 (λ e. omega arith) ∙ get_or-set_same put (p.chains + 64 + n) 768 0 (omega (arith, s.heads_end)) in
      let others : (j : ℕ) → j < 64 + n → (j ≡ at → ⊥) → get_or index' j 0 ≡ get_or index j 0 = λ j l ne.
      get_or-drop p.chains linked j 0 ∙ other (p.chains + j) (λ e. ne (omega arith)) (λ e. omega arith) ∙ sym (get_or-drop p.chains put j 0)
      ∙ ap (λ (w : List ℕ). get_or w j 0) (sets-drop p.chains tape (152 + 11 * n) row (omega arith)) in
      chained_more index index' (drop 152 tape) (drop 152 linked) n (get_or news (q + 3) 0 % 64) at chains last (omega arith) (omega (arith, planned.most_places))
      (same-below 152 (11 * n) tape linked begins) (ap (λ (x : ℕ). x % 64) own) spare named none others

  -- the row, as it was copied to its place
  pub grown-one : (own : List ℕ) → own ≡ row
      → Grown p tape (with_facts p (p.facts + 1)) (set (set (put_mid (152 + 11 * p.facts) (152 + 11 * p.facts + 11 - (152 + 11 * p.facts)) tape own) (p.chains + 64 + p.facts) 768) (p.chains + at) p.facts) (fact_in news q ∷ [])
  grown-one own e =
      let s = sections planned in
      let f = follows planned in
      let copy : put_mid (152 + 11 * p.facts) (152 + 11 * p.facts + 11 - (152 + 11 * p.facts)) tape own ≡ put = lent-sets (152 + 11 * p.facts) 11 tape own (omega arith) (ap length e ∙ whole) ∙ ap (sets tape (152 + 11 * p.facts)) e in
      rw copy (record { extended = extended-by-row p tape linked planned fit long begins apart news q there; chains = chained })

-- ---- one after the other

pub grown-none : (p : Plan) (tape news : List ℕ) → Planned p tape → ChainsOn p tape → Grown p tape p tape (facts_in news 0)
unfolding rows_in
grown-none p tape news planned chains = record { extended = extended_none p tape planned; chains = chains }

module _ (p : Plan) (tape : List ℕ) (p' : Plan) (tape' : List ℕ) (news : List ℕ) (i : ℕ) (grown : Grown p tape p' tape' (facts_in news i)) where
  -- there is a place for fact i of n
  pub fits_one : (n : ℕ) → i < n → p.facts + n ≤ p.places → p'.facts + 1 ≤ p'.places
  fits_one n l fit =
      let e = grown.extended.plan in
      let facts = ap (λ (q : Plan). q.facts) e in
      let places = ap (λ (q : Plan). q.places) e in
      omega (arith, rows-length (λ k. fact_in news (11 * k)) 0 i)

  pub grown-on : (p'' : Plan) (tape'' : List ℕ) → Grown p' tape' p'' tape'' (fact_in news (11 * i) ∷ []) → Grown p tape p'' tape'' (facts_in news (i + 1))
  grown-on p'' tape'' one =
      let both = extended-on p tape p' tape' p'' tape'' (facts_in news i) (fact_in news (11 * i) ∷ []) grown.extended one.extended in
      let z : i ≡ 0 + i = omega arith in
      let facts = ap (λ (k : ℕ). facts_in news i ++ (fact_in news (11 * k) ∷ [])) z ∙ sym (rows_more (λ k. fact_in news (11 * k)) 0 i) in
      record { extended = subst (λ (fs : List Fact). Extended p tape p'' tape'' fs) facts both; chains = one.chains }
