use Rattle.std.proofs.lemmas.Nat.{and_mask, one_shl}
use Rattle.entry.proofs.bits.Field.read_from.Goals as goal

pub returns-clause-value : goal.returns-clause-value
returns-clause-value c = rw (one_shl c.args.self.width 32 c.args.self.width_below, and_mask)
