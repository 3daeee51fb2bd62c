use mathlib.Core.Path.{◌≡◌}
use Rattle.meaning.specs.Base.{any_of}
use Rattle.meaning.specs.Learning.{chunks_of, chunk_of, equal}
use Rattle.layout.specs.Rows.{facts_in}
use Rattle.layout.specs.StateWords.{buffer_in}
use Rattle.step_learn.proofs.JoinLaws.{among_from}
use Rattle.step_learn.proofs.among.Given as goal

abbrev pub invariant-loop-i : goal.invariant-loop-i
invariant-loop-i l = among_from l.state l.b l.rows l.n l.i ≡ any_of (equal (chunk_of (buffer_in l.state l.b))) (chunks_of (facts_in l.rows l.n))
