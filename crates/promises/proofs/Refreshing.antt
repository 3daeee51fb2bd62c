-- Demand 3, the refresh: it renews the entries that a mark may have made stale, and touches no other word.
use Rattle.std.specs.Prelude.{◌≡◌, ◌↔◌, true, false, List, ℕ, ◌*◌, length}
use Rattle.std.proofs.Common.{inl}
use Rattle.meaning.specs.declared.State.{State}
use Rattle.meaning.specs.Base.{bit}
use Rattle.meaning.specs.Model.{Model, Rule}
use Rattle.meaning.specs.State.{buffer_of}
use Rattle.meaning.specs.Match.{fresh_table}
use Rattle.meaning.specs.Refresh.{tests_marked, refresh, refresh_count}
use Rattle.meaning.specs.Read.{read_got}
use Rattle.meaning.specs.Image.{decode}
use Rattle.meaning.specs.Calls.{refresh_of}
use Rattle.promises.specs.Words.{RefreshedTo, SeesMarked}
use Rattle.promises.proofs.Proofs.Tables.{refresh-made, call-made}
use Rattle.promises.proofs.Proofs.Marks.{marked-sees, sees-marked, refresh-fresh}

-- The rules that a refresh renews and counts are those that test or query a marked buffer: request 2026-06's reading of "test".
pub renewed-exactly : (mark : ℕ) (r : Rule) → (tests_marked mark r ≡ true) ↔ SeesMarked mark r
renewed-exactly mark r = (marked-sees mark r, sees-marked mark r)

-- For all rules, every state, every mark and every table of nine words a rule: the entry of each rule that tests or queries a marked buffer is the fresh one,
-- every other entry is unaltered word for word, the table keeps its length, and the count is that of the first rules.
pub refresh-promise : (rules : List Rule) (s : State) (mark : ℕ) (table : List ℕ) → length table ≡ 9 * length rules
    → RefreshedTo rules s mark table (refresh rules s mark table) (refresh_count rules mark)
refresh-promise rules s mark table l = refresh-made rules s mark table l

-- The call that answers 0 does just that, with the rules of its image.
pub refresh-call : (image : List ℕ) (m : Model) (at : ℕ) → decode image ≡ read_got m at → (s : State) (mark : ℕ) (table : List ℕ) → (refresh_of image s mark table).number ≡ 0
    → RefreshedTo m.rules s mark table (refresh_of image s mark table).table (refresh_of image s mark table).count
refresh-call image m at d s mark table e = call-made image m at d s mark table e

-- What a refresh is for: a table that is fresh for one state, refreshed for another with a mark of every buffer in which the two differ, is fresh
-- for the other. So a caller may put a chunk into a buffer and keep the table.
pub refresh-renews : (rules : List Rule) (s s' : State) (mark : ℕ) → ((b : ℕ) → bit mark b ≡ false → buffer_of s b ≡ buffer_of s' b)
    → refresh rules s' mark (fresh_table rules s) ≡ fresh_table rules s'
refresh-renews rules s s' mark h = refresh-fresh rules s s' mark (λ b e. inl (h b e))
