use Rattle.std.proofs.Common.{◌∙◌}
use Rattle.physical_examples.specs.Machine.{exercised}
use Rattle.physical_examples.proofs.rom_below_ram.Goals as goal

-- what is seen follows from the machine's values by computation
pub returns : goal.returns
returns c = c.exercise.ensures ∙ (λ i. exercised (c.machine-memory.ensures.values i) (c.machine-memory.ensures.writable i))
