-- `call_run::run_in` meets its contract: sets that were just made are clear.
use Rattle.match_beds.proofs.LayLaws.{no-bit}
use Rattle.call_run.proofs.run_in.Goals as goal

pub run_on-requires-clause-cleared : goal.run_on-requires-clause-cleared
run_on-requires-clause-cleared g c = no-bit _
