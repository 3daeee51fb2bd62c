-- The beginning on a tape: its types as they are laid, and all of it kept while facts and rules are laid after it.
use Rattle.std.proofs.Common.{◌≡◌, ◌∙◌, sym, ap, ap₂, arith, ℕ, ◌+◌, ◌-◌, ◌*◌, ◌≤◌, List, ◌++◌, length, take, drop}
use lib.Seq.{take-take, take-append-le, take_at, drop_at, drop-drop}
use Rattle.meaning.specs.Model.{Chunk}
use Rattle.layout.specs.declared.Plan.{Plan}
use Rattle.layout.specs.Rows.{facts_in, rules_in}
use Rattle.layout.specs.Plans.{types_on, facts_on, heads_on, rows_on, rules_on}
use Rattle.layout.proofs.KeptLaws.{types-kept, opening-kept, facts-kept, begin-alike}
use Rattle.layout.proofs.WordLaws.{part-put, part-below, part-own}
use Rattle.read_image.specs.Whole.{beginning_on, InBounds}
use Rattle.read_image.proofs.WholeLaws.{places-most}

-- ---- while words from 152 on are written, the beginning stays

module _ (p : Plan) (tape tape' : List ℕ) (kept : take 152 tape' ≡ take 152 tape) where
  pub beginning-kept : p.declared + 1 ≤ 64 → beginning_on p tape' ≡ beginning_on p tape
  beginning-kept h =
      ap₂ (λ (ts : List ℕ) (cs : List Chunk). record { head = (beginning_on p tape).head; types = ts; opening = cs }) (types-kept p tape tape' kept h) (opening-kept p tape tape' kept)

-- ---- types at the start of a tape, and then a state after them

module _ (types rest own : List ℕ) (l : length types ≡ 64) where
  pub opening-laid : take 64 (types ++ rest) ++ (own ++ drop (length (types ++ rest) - 64) (drop 64 (types ++ rest))) ≡ types ++ own
  opening-laid = part-put 64 (types ++ rest) own ∙ ap (λ (w : List ℕ). w ++ own) (take_at types rest 64 l)

  pub types-laid : (p : Plan) → p.declared + 1 ≤ 64 → types_on p (types ++ own) ≡ take (p.declared + 1) types
  types-laid p h = take-append-le (p.declared + 1) types own (omega arith)

  pub state-laid : drop 64 (types ++ own) ≡ own
  state-laid = drop_at types own 64 l

-- ---- facts from word 152 on, and then rules from where the plan has their heads, each lent and come back

abbrev pub put_at : ℕ → List ℕ → List ℕ → List ℕ
put_at i tape own = take i tape ++ (own ++ drop (length tape - i) (drop i tape))

module _ (p : Plan) (tape facts : List ℕ) (b : InBounds p) (room : p.end ≤ length tape) (long : length (put_at 152 tape facts) ≡ length tape) where
  ends : (152 + 11 * p.facts ≤ p.heads) × (p.heads ≤ 9432) × (p.rows ≡ p.heads + 4 * p.rules) × (p.rows + 185 * p.rules ≤ length tape)
  ends =
      let heads = ap (λ (p : Plan). p.heads) b.starts in
      let rows = ap (λ (p : Plan). p.rows) b.starts in
      let end = ap (λ (p : Plan). p.end) b.starts in
      let places = places-most p.facts p.learns in
      (omega arith, omega (arith, b.bounds.most_facts), omega arith, omega arith)

  pub facts-kept-below : take 152 (put_at 152 tape facts) ≡ take 152 tape
  facts-kept-below = ap (take 152) (part-put 152 tape facts) ∙ part-below 152 tape facts (omega (arith, ends))

  pub facts-laid : facts_on p (put_at 152 tape facts) ≡ facts_in facts p.facts
  facts-laid = ap (λ (l : List ℕ). facts_in l p.facts) (ap (drop 152) (part-put 152 tape facts) ∙ part-own 152 tape facts (omega (arith, ends)))

  module _ (rules : List ℕ) where
    inside : p.heads ≤ length (put_at 152 tape facts)
    inside = omega (arith, long, ends)

    abbrev whole : List ℕ
    whole = put_at p.heads (put_at 152 tape facts) rules

    put : whole ≡ take p.heads (put_at 152 tape facts) ++ rules
    put = part-put p.heads (put_at 152 tape facts) rules

    below : take p.heads whole ≡ take p.heads (put_at 152 tape facts)
    below = ap (take p.heads) put ∙ part-below p.heads (put_at 152 tape facts) rules inside

    pub heads-laid : heads_on p whole ≡ rules
    heads-laid = ap (drop p.heads) put ∙ part-own p.heads (put_at 152 tape facts) rules inside

    pub rows-laid : rows_on p whole ≡ drop (4 * p.rules) rules
    rows-laid = ap (λ (o : ℕ). drop o whole) ends.2 ∙ sym (drop-drop (4 * p.rules) p.heads whole) ∙ ap (drop (4 * p.rules)) heads-laid

    pub rules-laid : rules_on p whole ≡ rules_in rules (drop (4 * p.rules) rules) p.rules
    rules-laid = ap₂ (λ (heads rows : List ℕ). rules_in heads rows p.rules) heads-laid rows-laid

    pub facts-still : facts_on p whole ≡ facts_in facts p.facts
    facts-still = facts-kept p (put_at 152 tape facts) whole (begin-alike (152 + 11 * p.facts) p.heads (put_at 152 tape facts) whole ends.0 below) ∙ facts-laid

    pub rules-kept-below : take 152 whole ≡ take 152 tape
    rules-kept-below =
        let h : 152 ≤ p.heads = omega (arith, ends) in
        sym (take-take 152 p.heads whole h) ∙ ap (take 152) below ∙ take-take 152 p.heads (put_at 152 tape facts) h ∙ facts-kept-below
