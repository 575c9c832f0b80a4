use Rattle.entry.specs.NS32382.{ns32382}
use Rattle.entry.proofs.Laws.{distinct_frames, lawful}
use Rattle.laws.proofs.Runs.{run_laws}
use Rattle.laws.proofs.run_laws_stand.Goals as goal

pub returns : goal.returns
returns c = record { every = run_laws; ours = run_laws ns32382 lawful distinct_frames }
