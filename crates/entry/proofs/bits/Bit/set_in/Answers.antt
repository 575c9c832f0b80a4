use Rattle.entry.proofs.Marking.{marks}
use Rattle.entry.proofs.bits.Bit.set_in.Goals as goal

pub returns-clause-marks : goal.returns-clause-marks
returns-clause-marks c = marks c.args.self.number
