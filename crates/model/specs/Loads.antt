-- Reset, and loads and stores of registers.
use Rattle.std.specs.Prelude.{ℕ, Some, None, Ok, Err, Option, Result}
use Rattle.std.specs.Option.{ok_or}
use Rattle.entry.specs.Layout.{Layout}
use Rattle.model.specs.declared.refusal.Refusal.{Refusal}
use Rattle.model.specs.declared.refusal.Refusal.TheVariants.{UnknownRegister, WriteOnlyRegister}
use Rattle.model.specs.declared.registers.Register.{Register}
use Rattle.model.specs.declared.registers.Register.TheVariants.{Ptb0, Ptb1, Ivar0, Ivar1}
use Rattle.model.specs.declared.registers.Registers.{Registers}
use Rattle.model.specs.Registers.{held, loaded, register_of}
use Rattle.model.specs.States.{Effect, State, answered, only_answers}
use Rattle.model.specs.Tlb.{TlbAction, rest, drop, each, in_space, of_tag, tag_of}

-- MCR and MSR are cleared and every kept translation is dropped; no other register and not the next slot is touched
abbrev pub reset : State → Effect (Unit {0})
reset s = record { outcome = answered tt (record s.registers { mcr = 0; msr = 0 }) s.values; action = drop each }

-- what a load drops: a base register's all of its space, an invalidation register's the page of that address
abbrev pub load_action : Layout → Register → ℕ → Registers → TlbAction
load_action l Ptb0 v r = drop (in_space 0)
load_action l Ptb1 v r = drop (in_space 1)
load_action l Ivar0 v r = drop (of_tag (tag_of r 0 (l.page v)))
load_action l Ivar1 v r = drop (of_tag (tag_of r 1 (l.page v)))
load_action l _ v r = rest

-- a load of a register, if the code names one
abbrev pub load_named : Layout → Option Register → ℕ → State → Effect (Result (Unit {0}) Refusal)
load_named l None v s = only_answers (Err UnknownRegister) s
load_named l (Some x) v s = record { outcome = answered (Ok tt) (loaded l x v s.registers) s.values; action = load_action l x v s.registers }

abbrev pub load : Layout → ℕ → ℕ → State → Effect (Result (Unit {0}) Refusal)
load l code v s = load_named l (register_of code) v s

-- what a store answers
abbrev pub store_named : Option Register → Registers → Result ℕ Refusal
store_named None r = Err UnknownRegister
store_named (Some x) r = ok_or (held x r) WriteOnlyRegister

abbrev pub store_answer : ℕ → Registers → Result ℕ Refusal
store_answer code r = store_named (register_of code) r

abbrev pub store : ℕ → State → Effect (Result ℕ Refusal)
store code s = only_answers (store_answer code s.registers) s
