-- The calls that are refused outright, and what for.
use Rattle.std.specs.Prelude.{◌≡◌, ℕ, ◌%◌, Bool, false, not, ◌&&◌, ◌||◌, List, [], ◌∷◌, is_some, if◌then◌else◌, ◌==◌, nat_eq, nat_le, nat_lt, IsTrue}
use Rattle.std.specs.Option.{option_map_or}
use Rattle.std.specs.Set.{is_member}
use Rattle.entry.specs.Layout.{Layout}
use Rattle.physical.specs.Stores.{Values, Writable, dword}
use Rattle.model.specs.declared.call.Call.{Call}
use Rattle.model.specs.declared.call.Call.TheVariants.{Reset, Load, Store, Access, Validate, BusRead, BusWrite, Edit, Flush}
use Rattle.model.specs.declared.call.EditOperands.{EditOperands}
use Rattle.model.specs.declared.registers.Registers.{Registers}
use Rattle.model.specs.Calls.{RunState, answer_number, step}
use Rattle.model.specs.Tlb.{base_of, tag_of}

-- 4 to 8, 15 and 16: refused for the call's operands, or an edit for what the tables hold
abbrev pub is_outright : ℕ → Bool
is_outright n = (nat_le 4 n && nat_le n 8) || n == 15 || n == 16

abbrev pub outright_number : ℕ → ℕ
outright_number n = if is_outright n then n else 0

-- the codes of registers, and of those that a store answers
abbrev pub loadable_codes : List ℕ
loadable_codes = 0 ∷ 2 ∷ 3 ∷ 6 ∷ 9 ∷ 10 ∷ 11 ∷ 12 ∷ 13 ∷ 14 ∷ 15 ∷ []

abbrev pub storable_codes : List ℕ
storable_codes = 0 ∷ 2 ∷ 3 ∷ 6 ∷ 9 ∷ 10 ∷ 11 ∷ 12 ∷ 13 ∷ []

-- whether the double-word at an address is present and can be written
abbrev pub can_be_written : Values → Writable → ℕ → Bool
can_be_written m w a = is_some (m (dword a)) && w (dword a)

-- whether an entry can be written: in a first table, where it lies; in a second, if the entry that leads to it is present
-- and valid
abbrev pub entry_can_be_written : Layout → Registers → Values → Writable → EditOperands → Bool
entry_can_be_written l r m w x =
    let a = l.first_entry (base_of r (tag_of r x.space x.page)) x.page in
    if x.level == 1 then can_be_written m w a
    else option_map_or (λ e. l.valid e && can_be_written m w (l.second_entry (l.frame e) x.page)) (m (dword a)) false

-- the number among these that a call is owed, by its operands, and an edit by the tables too; 0 where it is owed none
abbrev pub owed : Layout → Writable → RunState → Call → ℕ
owed l w s Reset = 0
owed l w s (Load code v) = if is_member nat_eq loadable_codes code then 0 else 4
owed l w s (Store code) = if is_member nat_eq storable_codes code then 0 else if is_member nat_eq loadable_codes code then 5 else 4
owed l w s (Access mode kind address) = if nat_le mode 1 && nat_le kind 2 then 0 else 6
owed l w s (Validate kind address) = if nat_le kind 1 then 0 else 6
owed l w s (BusRead physical address) = if physical % 4 == 0 then 0 else 7
owed l w s (BusWrite physical address mask v) = if not (physical % 4 == 0) then 7 else if nat_le mask 15 then 0 else 8
owed l w s (Edit x) =
    if not (nat_le x.space 1 && (x.level == 1 || x.level == 2) && nat_lt x.page l.page_count) then 15
    else if entry_can_be_written l s.unit.registers s.unit.values w x then 0
    else 16
owed l w s (Flush a) = 0

-- in every state: each of these numbers is told exactly where it is owed, and then nothing is altered
pub record OutrightRefusals (l : Layout) : Type 0 where
  pub exactly_owed : (w : Writable) (s : RunState) (c : Call) → outright_number (answer_number (step l w c s).0) ≡ owed l w s c
  pub alter_nothing : (w : Writable) (s : RunState) (c : Call) → IsTrue (is_outright (answer_number (step l w c s).0)) → (step l w c s).1 ≡ s
