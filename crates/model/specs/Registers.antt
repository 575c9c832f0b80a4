-- The registers: which code names which, what a load leaves, what a store answers, and what the bits of MCR say.
use Rattle.std.specs.Prelude.{ℕ, Bool, Some, None, Option, if◌then◌else◌, ◌==◌, bit_and}
use Rattle.entry.specs.Bits.{flag}
use Rattle.entry.specs.Layout.{Layout}
use Rattle.model.specs.declared.registers.Registers.{Registers}
use Rattle.model.specs.declared.registers.Register.{Register}
use Rattle.model.specs.declared.registers.Register.TheVariants.{Bar, Bmr, Bdr, Bear, Mcr, Msr, Tear, Ptb0, Ptb1, Ivar0, Ivar1}

-- the registers of a new unit
abbrev pub cleared_registers : Registers
cleared_registers = record { bar = 0; bmr = 0; bdr = 0; bear = 0; mcr = 0; msr = 0; tear = 0; ptb0 = 0; ptb1 = 0 }

-- MCR: TU, TS, DS, AO, BR, BW in bits 0 to 5
abbrev pub translate_user : Registers → Bool
translate_user r = flag 0 r.mcr

abbrev pub translate_supervisor : Registers → Bool
translate_supervisor r = flag 1 r.mcr

abbrev pub dual_space : Registers → Bool
dual_space r = flag 2 r.mcr

abbrev pub access_override : Registers → Bool
access_override r = flag 3 r.mcr

abbrev pub break_on_read : Registers → Bool
break_on_read r = flag 4 r.mcr

abbrev pub break_on_write : Registers → Bool
break_on_write r = flag 5 r.mcr

-- the bits that MCR and MSR have: a load clears all others
abbrev pub mcr_bits : ℕ
mcr_bits = 0x03f

abbrev pub msr_bits : ℕ
msr_bits = 0x70f

-- the register that a code names
abbrev pub register_of : ℕ → Option Register
register_of code =
    if code == 0 then Some Bar
    else if code == 2 then Some Bmr
    else if code == 3 then Some Bdr
    else if code == 6 then Some Bear
    else if code == 9 then Some Mcr
    else if code == 10 then Some Msr
    else if code == 11 then Some Tear
    else if code == 12 then Some Ptb0
    else if code == 13 then Some Ptb1
    else if code == 14 then Some Ivar0
    else if code == 15 then Some Ivar1
    else None

-- what a load leaves in the registers
abbrev pub loaded : Layout → Register → ℕ → Registers → Registers
loaded l Bar v r = record r { bar = v }
loaded l Bmr v r = record r { bmr = v }
loaded l Bdr v r = record r { bdr = v }
loaded l Bear v r = record r { bear = v }
loaded l Mcr v r = record r { mcr = bit_and v mcr_bits }
loaded l Msr v r = record r { msr = bit_and v msr_bits }
loaded l Tear v r = record r { tear = v }
loaded l Ptb0 v r = record r { ptb0 = l.base v }
loaded l Ptb1 v r = record r { ptb1 = l.base v }
loaded l Ivar0 v r = r
loaded l Ivar1 v r = r

-- what a register holds; the two that are only written hold nothing
abbrev pub held : Register → Registers → Option ℕ
held Bar r = Some r.bar
held Bmr r = Some r.bmr
held Bdr r = Some r.bdr
held Bear r = Some r.bear
held Mcr r = Some r.mcr
held Msr r = Some r.msr
held Tear r = Some r.tear
held Ptb0 r = Some r.ptb0
held Ptb1 r = Some r.ptb1
held Ivar0 r = None
held Ivar1 r = None
