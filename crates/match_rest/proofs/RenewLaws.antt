-- The refresh of a run: who still sleeps after waking does not match, and who is awake and tests or queries a marked buffer is matched again.
use Rattle.std.specs.Prelude.{if◌then◌else◌}
use Prim.Native.Nat.{ℕ, zero, suc, ◌+◌, ◌-◌, ◌*◌, ◌/◌, ◌%◌, ◌^◌, ◌≤◌, ◌<◌}
use mathlib.Core.Path.{◌≡◌, refl, sym, ap, ◌∙◌}
use mathlib.Core.Logic.{◌⊎◌, inl, inr, ⊎_elim}
use mathlib.Core.Bool.{Bool, true, false, ◌&&◌, ◌||◌}
use mathlib.Core.List.{List}
use native.Mathlib.Omega.{arith}
use native.Mathlib.Decide.{ℕ_discrete}
use lib.Bits.{bit_and, bit_or}
use lib.Dec.{eqb}
use lib.ListN.{length, get_or, set}
use lib.Seq.{get_or-set_same, get_or-set_other}
use borrow.Author.Tests.{eqb-true, eq-eqb}
use Rattle.meaning.specs.Base.{bit, any_of}
use Rattle.meaning.specs.Model.{Rule}
use Rattle.meaning.specs.Image.{is_tested}
use Rattle.meaning.specs.Match.{entry_of}
use Rattle.meaning.specs.Refresh.{tests_marked}
use Rattle.laws.specs.BaseLaws.{no_true, and_left, and_right, by-lt, bit-and}
use Rattle.laws.specs.RefreshLaws.{is_queried, looks_at, sees-marked, Seen, marked-seen}
use Rattle.layout.specs.Rows.{rows_in, test_in, query_by, rule_in, Laid}
use Rattle.layout.specs.StateWords.{state_in}
use Rattle.match_sets.specs.Sets.{has}
use Rattle.match_order.specs.Order.{Ranked, Hitting, place_of}
use Rattle.match_beds.specs.Beds.{is_awake, in_bed, bed_of, tests, Testing, is_sure}
use Rattle.match_rest.specs.Rest.{entry_at, Asleep, Sleeping, Lying, Sure, Kept}
use Rattle.match_rule.specs.Shut.{delay_of}
use Rattle.match_beds.specs.Woken.{Woke, CalledBy}
use Rattle.match_beds.specs.Moves.{Touch, Touches}
use Rattle.match_rest.specs.Visits.{Visitable, Among, VisitedAll}
use Rattle.match_rest.proofs.SleepLaws.{asleep-fails, asleep-as}
use Rattle.match_beds.proofs.WakeLaws.{roomy-kept}
use Rattle.laws.specs.MarkLaws.{entry-unmarked}
use Rattle.match_sets.proofs.BitLaws.{bit-or}
use Rattle.match_beds.proofs.MoveLaws.{by-or}
use Rattle.match_sets.proofs.BitWalk.{bit_below}

-- by whether a test passes
by-test : {C : Type 0} (t : Bool) → (t ≡ true → C) → (t ≡ false → C) → C
by-test true f g = f refl
by-test false f g = g refl

-- ---- what waking keeps

module _ (heads words order : List ℕ) (n mark : ℕ) (before state table sets sets' : List ℕ) (kept : Kept before state mark) (few : n ≤ 256)
    (woke : Woke n (λ h k. CalledBy state sets mark 8 h) sets sets') where
  -- a word that differed while its buffer was visible differs still if the buffer is not marked
  unmarked-differs : (p v : ℕ) → p < 88 → bit mark (p / 11) ≡ false → (p % 11 ≡ 10 → v ≡ 1) → (get_or before (delay_of p) 0 ≡ 0 → get_or before p 0 ≡ v → ⊥)
      → get_or state (delay_of p) 0 ≡ 0 → get_or state p 0 ≡ v → ⊥
  unmarked-differs p v low off flag differs shown e =
      let b : delay_of p / 11 ≡ p / 11 = omega arith in
      elim (ℕ_discrete (get_or before (delay_of p) 0) 0) [
        | yes was ↦ elim (ℕ_discrete (p % 11) 9) [
          | yes d ↦ let q : delay_of p ≡ p = omega arith in differs was ((rw q at was) ∙ sym (rw q at shown) ∙ e)
          | no d ↦ elim (ℕ_discrete (p % 11) 10) [
            | yes f ↦
                let set : eqb (get_or before p 0) 1 ≡ true = sym (kept.flags p low off f) ∙ eq-eqb (get_or state p 0) 1 (e ∙ flag f) in
                differs was (eqb-true (get_or before p 0) 1 set ∙ sym (flag f))
            | no f ↦ differs was (sym (kept.words p low off (omega (arith, d, f))) ∙ e)
          ]
        ]
        | no was ↦ kept.delays (delay_of p) (omega arith) (rw b off) (omega arith) was shown
      ]

  -- STILL SHUT, OR WOKEN: the word of a rule that still sleeps is still another, if its buffer is visible
  still : (k : ℕ) → k < n → is_awake sets' k ≡ false → (a : Asleep heads words before table sets k)
      → get_or state (delay_of a.place) 0 ≡ 0 → get_or state a.place 0 ≡ a.value → ⊥
  still k h no_one a shown e =
      by-test (bit mark (a.place / 11))
      (λ m.
      let p : 11 * (a.place / 11) + a.place % 11 ≡ a.place = omega arith in
      let called : CalledBy state sets mark 8 (bed_of a.place a.value) =
      record {
        buffer = a.place / 11;
        below = omega (arith, a.low);
        low = omega (arith, a.low);
        marked = m;
        called = record {
          at = a.place % 11;
          below = omega arith;
          low = omega arith;
          used = rw p a.used;
          visible = shown;
          is = rw (p, e) refl;
        };
      } in
      no_true (sym (woke.wakes (bed_of a.place a.value) k (omega arith) h called a.bed) ∙ no_one))
      (λ m. unmarked-differs a.place a.value a.low m a.flag a.differs shown e)

  asleep-still : (k : ℕ) → k < n → is_awake sets' k ≡ false → Asleep heads words before table sets k → Asleep heads words state table sets' k
  asleep-still k h no_one a =
      asleep-as a (still k h no_one a)
      (⊎_elim (λ (b : in_bed sets' (bed_of a.place a.value) k ≡ true). b) (λ (w : is_awake sets' k ≡ true). absurd (no_true (sym w ∙ no_one)))
      (woke.stays (bed_of a.place a.value) k (omega arith) h a.bed))
      (woke.kept (40 + a.place / 11) (a.place % 11) (omega arith) (omega (arith, a.low)) ∙ a.used)
      refl

  sleeping-still : Sleeping heads words n before table sets → Sleeping heads words n state table sets'
  sleeping-still x k h =
      by-test (is_awake sets' k) (λ w. inl w)
      (λ no_one. ⊎_elim (λ (w : is_awake sets k ≡ true). inl (woke.grows k h w)) (λ (a : Asleep heads words before table sets k). inr (asleep-still k h no_one a)) (x k h))

  hitting-still : Ranked heads order n → Hitting table order sets n → Hitting table order sets' n
  hitting-still ranked x =
      record {
        all = λ k h m. woke.kept (4 + place_of order k / 64) (place_of order k % 64) (omega arith) (omega (arith, ranked.low k h)) ∙ x.all k h m;
        only = λ p h m. x.only p h (sym (woke.kept (4 + p / 64) (p % 64) (omega arith) (omega arith)) ∙ m);
      }

  testing-still : Testing heads n sets → Testing heads n sets'
  testing-still x =
      record {
        all = λ b k l h. woke.kept (8 + 8 * (k / 64) + b) (k % 64) (omega arith) (omega arith) ∙ x.all b k l h;
        only = λ b k l h t. x.only b k l h (sym (woke.kept (8 + 8 * (k / 64) + b) (k % 64) (omega arith) (omega arith)) ∙ t);
      }

  pub woken-rests : Ranked heads order n → Lying heads words order n before table sets → Lying heads words order n state table sets'
  woken-rests ranked x =
      record {
        roomy = roomy-kept n sets sets' woke.size x.roomy;
        testing = testing-still x.testing;
        hitting = hitting-still ranked x.hitting;
        sleeping = sleeping-still x.sleeping;
      }

-- ---- the testers of a marked buffer are the rules that test or query one

-- some row is on buffer b, which is then one of eight
rows-low : {A : Type 0} (buffer : A → ℕ) (row : ℕ → A) → ((k : ℕ) → buffer (row k) < 8) → (i n b : ℕ) → any_of (λ x. eqb (buffer x) b) (rows_in row i n) ≡ true → b < 8
unfolding rows_in
rows-low buffer row low i zero b e = absurd (no_true (sym e))
rows-low buffer row low i (suc n) b e =
    by-or (eqb (buffer (row i)) b) (any_of (λ x. eqb (buffer x) b) (rows_in row (i + 1) n)) e
    (λ is. omega (arith, low i, eqb-true (buffer (row i)) b is))
    (λ later. rows-low buffer row low (i + 1) n b later)

module _ (heads words : List ℕ) (n : ℕ) (sets : List ℕ) (laid : Laid heads words n) (testing : Testing heads n sets) (w mark : ℕ) (k : ℕ) (h : k < n) (here : k / 64 ≡ w) where
  abbrev rule : Rule
  rule = rule_in heads words k

  -- a rule looks at no buffer from 8 on
  looks-low : (b : ℕ) → looks_at (rule_in heads words k) b ≡ true → b < 8
  looks-low b e =
      by-or (is_tested rule.tests b) (is_queried rule.queries b) e
      (λ t. rows-low (λ t. t.buffer) (λ i. test_in words (185 * k + 11 * i)) (λ i. omega arith) 0 (get_or heads (4 * k) 0) b t)
      (λ q. rows-low (λ q. q.buffer) (λ i. query_by (get_or words (185 * k + 89 + i) 0)) (λ i. omega arith) 0 (get_or words (185 * k + 88) 0) b q)

  pub touch-marked : Touch sets w mark 8 (k % 64) → tests_marked mark (rule_in heads words k) ≡ true
  touch-marked t =
      let set : tests sets t.buffer k ≡ true = rw here t.tested in
      sees-marked mark t.buffer (rule_in heads words k) (sym (laid.masks k h t.buffer) ∙ sym (testing.all t.buffer k t.low h) ∙ set) t.marked

  pub marked-touch : tests_marked mark (rule_in heads words k) ≡ true → Touch sets w mark 8 (k % 64)
  marked-touch m =
      let s : Seen mark (rule_in heads words k) = marked-seen mark (rule_in heads words k) m in
      let low : s.at < 8 = looks-low s.at s.looks in
      let set : tests sets s.at k ≡ true = testing.all s.at k low h ∙ laid.masks k h s.at ∙ s.looks in
      record { buffer = s.at; below = low; low = low; marked = s.is_marked; tested = rw here at set }

-- ---- the rules of a word

-- the entries below 64 w are as the refresh makes them, the others as they were
pub record Renewed (heads words : List ℕ) (n : ℕ) (state : List ℕ) (mark w : ℕ) (table table' : List ℕ) : Type 0 where
  pub made : (k : ℕ) → k < n → k < 64 * w → (clock : ℕ)
      → entry_at table' k ≡ (if tests_marked mark (rule_in heads words k) then entry_of (rule_in heads words k) (state_in state clock) else entry_at table k)
  pub left : (k : ℕ) → 64 * w ≤ k → entry_at table' k ≡ entry_at table k

pub renewed-none : (heads words : List ℕ) (n : ℕ) (state : List ℕ) (mark : ℕ) (table : List ℕ) → Renewed heads words n state mark 0 table table
renewed-none heads words n state mark table = record { made = λ k h l clock. absurd (omega arith); left = λ k l. refl }

module _ (heads words order : List ℕ) (n : ℕ) (state : List ℕ) (mark w r : ℕ) (table sets : List ℕ)
    (laid : Laid heads words n) (ranked : Ranked heads order n) (fits : length table ≡ 9 * n)
    (rests : Lying heads words order n state table sets) (touches : Touches sets w mark 8 r) (word : 64 * w < n) (small : bit_and r (get_or sets w 0) < 2 ^ 64) where
  abbrev todo : ℕ
  todo = bit_and r (get_or sets w 0)

  both : (i : ℕ) → bit todo i ≡ true → (bit r i && has sets w i) ≡ true
  both i b = sym (bit-and r (get_or sets w 0) i) ∙ b

  number : (i : ℕ) → i < 64 → ((64 * w + i) / 64 ≡ w) × ((64 * w + i) % 64 ≡ i)
  number i l = (omega arith, omega arith)

  -- who is in the set tests or queries a marked buffer, so it is one of the rules
  one_of : (i : ℕ) → bit todo i ≡ true → 64 * w + i < n
  one_of i b =
      let low : i < 64 = bit_below 64 todo i small b in
      let t : Touch sets w mark 8 i = touches.some i (and_left (bit r i) (has sets w i) (both i b)) in
      let e : (64 * w + i) / 64 ≡ w = (number i low).0 in
      let f : (64 * w + i) % 64 ≡ i = (number i low).1 in
      rests.testing.only t.buffer (64 * w + i) t.low (omega (arith, rests.roomy.few)) (rw (e, f) t.tested)

  pub visitable : (i : ℕ) → bit todo i ≡ true → Visitable heads words order (length table) (length sets) (64 * w + i)
  visitable i b =
      let l : 64 * w + i < n = one_of i b in
      record {
        few = omega (arith, rests.roomy.few);
        head = omega (arith, laid.heads_room);
        tests = laid.tests_few (64 * w + i) l;
        queries = laid.queries_few (64 * w + i) l;
        rows = omega (arith, laid.words_room);
        entry = omega arith;
        bed = rests.roomy.beds (64 * w + i) l;
        ordered = omega (arith, ranked.room);
        place = omega (arith, ranked.low (64 * w + i) l, ranked.few);
      }

  module _ (table₀ : List ℕ) (so_far : Renewed heads words n state mark w table₀ table)
      (table' sets' : List ℕ) (v : VisitedAll heads words order state w todo 64 table table' sets sets') where
    chosen : (q : ℕ) → Among w todo 64 q → (q < n) × (is_awake sets q ≡ true)
    chosen q a =
        let i : ℕ = q - 64 * w in
        let e : 64 * w + (q - 64 * w) ≡ q = omega (arith, a.from) in
        let f : q / 64 ≡ w = omega (arith, a.from, a.below) in
        let g : q % 64 ≡ q - 64 * w = omega (arith, a.from, a.below) in
        (rw e at (one_of (q - 64 * w) a.chosen), rw (f, g) (and_right (bit r (q - 64 * w)) (has sets w (q - 64 * w)) (both (q - 64 * w) a.chosen)))

    pub rests-on : Lying heads words order n state table' sets'
    rests-on =
        let good : Hitting table' order sets' n × Sleeping heads words n state table' sets' = v.rests n fits ranked chosen (rests.hitting, rests.sleeping) in
        record {
          roomy = roomy-kept n sets sets' v.size rests.roomy;
          testing = record {
            all = λ b k l h. v.testers (8 + 8 * (k / 64) + b) (k % 64) (omega arith) (omega (arith, rests.roomy.few)) ∙ rests.testing.all b k l h;
            only = λ b k l h t. rests.testing.only b k l h (sym (v.testers (8 + 8 * (k / 64) + b) (k % 64) (omega arith) (omega arith)) ∙ t);
          };
          hitting = good.0;
          sleeping = good.1;
        }

    -- a rule of the word
    module _ (k : ℕ) (h : k < n) (from : 64 * w ≤ k) (below : k < 64 * w + 64) (clock : ℕ) where
      abbrev fresh : List ℕ
      fresh = entry_of (rule_in heads words k) (state_in state clock)

      at-word : k / 64 ≡ w
      at-word = omega arith

      at-bit : k % 64 ≡ k - 64 * w
      at-bit = omega arith

      -- it was visited
      seen : bit todo (k - 64 * w) ≡ true → entry_at table' k ≡ (if tests_marked mark (rule_in heads words k) then fresh else entry_at table₀ k)
      seen b =
          let t : Touch sets w mark 8 (k - 64 * w) = touches.some (k - 64 * w) (and_left (bit r (k - 64 * w)) (has sets w (k - 64 * w)) (both (k - 64 * w) b)) in
          let m : tests_marked mark (rule_in heads words k) ≡ true = touch-marked heads words n sets laid rests.testing w mark k h at-word (rw at-bit t) in
          rw m (v.made k (record { from = from; below = below; chosen = b }) clock)

      -- it was not: it tests and queries no marked buffer, or it sleeps, and does not match
      unseen : bit todo (k - 64 * w) ≡ false → entry_at table' k ≡ (if tests_marked mark (rule_in heads words k) then fresh else entry_at table₀ k)
      unseen b =
          let same : entry_at table' k ≡ entry_at table k = v.left k (λ a. no_true (sym a.chosen ∙ b)) in
          by-test (tests_marked mark (rule_in heads words k))
          (λ m.
          let t : Touch sets w mark 8 (k - 64 * w) = rw at-bit at (marked-touch heads words n sets laid rests.testing w mark k h at-word m) in
          let off : is_awake sets k ≡ false = rw (at-word, at-bit)
          (sym (ap (λ (x : Bool). x && has sets w (k - 64 * w)) (touches.all (k - 64 * w) t)) ∙ sym (bit-and r (get_or sets w 0) (k - 64 * w)) ∙ b) in
          rw m
          (⊎_elim (λ (s : is_awake sets k ≡ true). absurd (no_true (sym s ∙ off)))
          (λ (a : Asleep heads words state table sets k). same ∙ a.zeros ∙ sym (asleep-fails a clock)) (rests.sleeping k h)))
          (λ m. rw m (same ∙ so_far.left k from))

    pub renewed-turn : Renewed heads words n state mark (w + 1) table₀ table'
    renewed-turn =
        record {
          made = λ k h l clock. by-lt k (64 * w)
              (λ g. v.left k (λ a. omega (arith, a.from)) ∙ so_far.made k h g clock)
              (λ g. by-test (bit todo (k - 64 * w)) (seen k h g (omega arith) clock) (unseen k h g (omega arith) clock));
          left = λ k l. v.left k (λ a. omega (arith, a.below)) ∙ so_far.left k (omega arith);
        }

-- ---- the entries that are known to be fresh

-- whose entry is known to be fresh was so before, or its rule tests or queries a marked buffer
abbrev pub Surer : List ℕ → List ℕ → ℕ → ℕ → List ℕ → List ℕ → Type 0
Surer heads words n mark sets sets' = (k : ℕ) → k < n → is_sure sets' k ≡ true → (is_sure sets k ≡ true) ⊎ (tests_marked mark (rule_in heads words k) ≡ true)

-- a set of words 48 to 51 is none of what the rules rest by
pub lying-beside : (heads words order : List ℕ) (n : ℕ) (state table s s' : List ℕ) → length s' ≡ length s
    → ((j i : ℕ) → (48 ≤ j → j < 52 → ⊥) → has s' j i ≡ has s j i)
    → Ranked heads order n → Lying heads words order n state table s → Lying heads words order n state table s'
lying-beside heads words order n state table s s' size same ranked x =
    record {
      roomy = roomy-kept n s s' size x.roomy;
      testing = record {
        all = λ b k l h. same (8 + 8 * (k / 64) + b) (k % 64) (λ f g. omega (arith, x.roomy.few)) ∙ x.testing.all b k l h;
        only = λ b k l h t. x.testing.only b k l h (sym (same (8 + 8 * (k / 64) + b) (k % 64) (λ f g. omega arith)) ∙ t);
      };
      hitting = record {
        all = λ k h m. same (4 + place_of order k / 64) (place_of order k % 64) (λ f g. omega (arith, ranked.low k h, ranked.few)) ∙ x.hitting.all k h m;
        only = λ p h m. x.hitting.only p h (sym (same (4 + p / 64) (p % 64) (λ f g. omega arith)) ∙ m);
      };
      sleeping = λ k h. ⊎_elim
          (λ (w : is_awake s k ≡ true). inl (same (k / 64) (k % 64) (λ f g. omega (arith, x.roomy.few)) ∙ w))
          (λ (a : Asleep heads words state table s k). inr (asleep-as a a.differs
          (same (52 + 256 * (k / 64) + bed_of a.place a.value) (k % 64) (λ f g. omega arith) ∙ a.bed)
          (same (40 + a.place / 11) (a.place % 11) (λ f g. omega (arith, a.low)) ∙ a.used)
          refl))
          (x.sleeping k h);
    }

-- the rules of word w that test or query a marked buffer are sure from now on
module _ (heads words : List ℕ) (n : ℕ) (mark w r : ℕ) (sets₀ sets : List ℕ) (laid : Laid heads words n) (testing : Testing heads n sets) (touches : Touches sets w mark 8 r)
    (surer : Surer heads words n mark sets₀ sets) (sets' : List ℕ) (same : (j i : ℕ) → 48 ≤ j → j < 52 → has sets' j i ≡ has sets j i) (room : 48 + w < length sets') where
  abbrev pub joined : List ℕ
  joined = set sets' (48 + w) (bit_or (get_or sets' (48 + w) 0) r)

  pub joined-beside : (j i : ℕ) → (j ≡ 48 + w → ⊥) → has joined j i ≡ has sets' j i
  joined-beside j i d = ap (λ (x : ℕ). bit x i) (get_or-set_other sets' (48 + w) j _ 0 d)

  joined-own : (i : ℕ) → has joined (48 + w) i ≡ (has sets' (48 + w) i || bit r i)
  joined-own i = ap (λ (x : ℕ). bit x i) (get_or-set_same sets' (48 + w) _ 0 room) ∙ bit-or (get_or sets' (48 + w) 0) r i

  pub surer-turn : n ≤ 256 → Surer heads words n mark sets₀ joined
  surer-turn few k h is =
      elim (ℕ_discrete (k / 64) w) [
        | yes e ↦
            let both : (has sets' (48 + w) (k % 64) || bit r (k % 64)) ≡ true = sym (joined-own (k % 64)) ∙ (rw e at is) in
            by-or (has sets' (48 + w) (k % 64)) (bit r (k % 64)) both
            (λ old. surer k h (rw e (sym (same (48 + w) (k % 64) (omega arith) (omega arith)) ∙ old)))
            (λ new. inr (touch-marked heads words n sets laid testing w mark k h e (touches.some (k % 64) new)))
        | no e ↦
            surer k h (sym (same (48 + k / 64) (k % 64) (omega arith) (omega arith)) ∙ sym (joined-beside (48 + k / 64) (k % 64) (λ q. e (omega arith))) ∙ is)
      ]

-- SURE AFTER THE REFRESH
pub sure-on : (heads words : List ℕ) (n : ℕ) (before state : List ℕ) (mark : ℕ) (table table' sets sets' : List ℕ) → Kept before state mark → Sure heads words n before table sets
    → Surer heads words n mark sets sets'
    → ((k : ℕ) → k < n → (clock : ℕ) → entry_at table' k ≡ (if tests_marked mark (rule_in heads words k) then entry_of (rule_in heads words k) (state_in state clock) else entry_at table k))
    → Sure heads words n state table' sets'
sure-on heads words n before state mark table table' sets sets' kept sure surer made k h is clock =
    let r = rule_in heads words k in
    by-test (tests_marked mark r)
    (λ m. made k h clock ∙ ap (λ (t : Bool). if t then entry_of r (state_in state clock) else entry_at table k) m)
    (λ m.
    let old : is_sure sets k ≡ true = ⊎_elim (λ (o : is_sure sets k ≡ true). o) (λ (t : tests_marked mark r ≡ true). absurd (no_true (sym t ∙ m))) (surer k h is) in
    made k h clock ∙ ap (λ (t : Bool). if t then entry_of r (state_in state clock) else entry_at table k) m ∙ sure k h old clock
    ∙ entry-unmarked r (state_in before clock) (state_in state clock) mark (kept.marks clock clock) m)
