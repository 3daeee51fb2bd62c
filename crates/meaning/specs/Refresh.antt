-- "After each step the table is refreshed with that mark."
use Rattle.std.specs.Prelude.{if◌then◌else◌, Bool, ◌||◌, List, [], ◌∷◌, ◌++◌, ℕ, length, take, drop}
use Rattle.meaning.specs.declared.State.{State}
use Rattle.meaning.specs.Base.{any_of, keep, bit}
use Rattle.meaning.specs.Model.{Rule}
use Rattle.meaning.specs.Match.{entry_of}

-- the rules that "test a marked buffer", where by request 2026-06 "tests" means "tests or queries"
abbrev pub tests_marked : ℕ → Rule → Bool
tests_marked mark r = any_of (λ t. bit mark t.buffer) r.tests || any_of (λ q. bit mark q.buffer) r.queries

-- the entries of those rules are made afresh, and all others are left word for word (01 says what is shut out: "Rebuilding the whole table at each refresh")
unfoldable pub refresh : List Rule → State → ℕ → List ℕ → List ℕ
refresh [] s mark table = []
refresh (r ∷ rs) s mark table = (if tests_marked mark r then entry_of r s else take 9 table) ++ refresh rs s mark (drop 9 table)

-- "how many rules test a marked buffer"
unfoldable pub refresh_count : List Rule → ℕ → ℕ
refresh_count rules mark = length (keep (tests_marked mark) rules)
