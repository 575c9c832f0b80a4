-- States of a unit over a memory, and what a call makes of one.
use Rattle.physical.specs.Stores.{Values}
use Rattle.model.specs.declared.registers.Registers.{Registers}
use Rattle.model.specs.Registers.{cleared_registers}
use Rattle.model.specs.Tlb.{Tlb, TlbAction, rest, acted, empty_tlb}

-- the registers, the kept translations, and what the memory holds
pub record State : Type 0 where
  pub registers : Registers
  pub tlb : Tlb
  pub values : Values

-- a new unit over a memory that holds these
abbrev pub new_state : Values → State
new_state m = record { registers = cleared_registers; tlb = empty_tlb; values = m }

-- what can be seen of a call: its answer, the registers and the memory after it
pub record Outcome (A : Type 0) : Type 0 where
  pub answer : A
  pub registers : Registers
  pub values : Values

-- a call of the unit: its outcome, and what it does with the kept translations
pub record Effect (A : Type 0) : Type 0 where
  pub outcome : Outcome A
  pub action : TlbAction

-- the state after a call
abbrev pub state_after : {A : Type 0} → Effect A → State → State
state_after e s = record { registers = e.outcome.registers; tlb = acted e.action s.tlb; values = e.outcome.values }

-- an outcome: the answer, with the registers and the memory after it
abbrev pub answered : {A : Type 0} → A → Registers → Values → Outcome A
answered x r m = record { answer = x; registers = r; values = m }

-- a call that answers and alters nothing
abbrev pub only_answers : {A : Type 0} → A → State → Effect A
only_answers x s = record { outcome = answered x s.registers s.values; action = rest }
