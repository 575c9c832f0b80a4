use Rattle.std.proofs.Common.{arith}
use Rattle.std.proofs.lemmas.Grind.{common_steps}
use Rattle.entry.proofs.Laws.{lawful}
use Rattle.entry.proofs.layout_stands.Goals as goal

pub returns-clause-trips : goal.returns-clause-trips
returns-clause-trips c = record { same_bits = λ w h. grind (arith, common_steps); same_fields = λ f fits. grind (arith, common_steps) }

pub returns-clause-lawful : goal.returns-clause-lawful
returns-clause-lawful c = lawful
