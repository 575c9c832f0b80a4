use Rattle.std.proofs.Common.{arith}
use Rattle.std.proofs.lemmas.Grind.{common_steps}
use Rattle.physical.proofs.Written.{last_write_stands}
use Rattle.physical.proofs.writes.write_all.Goals as goal

pub returns-clause-stands : goal.returns-clause-stands
returns-clause-stands g c = last_write_stands _ (g.M.Memory.writable c.args.memory.now) c.args.writes.now _ (grind (arith, common_steps))
