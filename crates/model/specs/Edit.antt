-- The host's edit of a table entry, in its pieces: the name is checked, the entry is reached, it is written, and a token
-- carries its address. And the flush of a token.
use Rattle.std.specs.Prelude.{ℕ, ◌&&◌, Some, None, Ok, Err, Option, Result, if◌then◌else◌, ◌==◌, nat_le, nat_lt}
use Rattle.std.specs.Option.{option_and_then, option_map}
use Rattle.entry.specs.Layout.{Layout}
use Rattle.entry.specs.declared.TableLevel.{TableLevel}
use Rattle.entry.specs.declared.TableLevel.TheVariants.{First, Second}
use Rattle.physical.specs.Stores.{Values, Writable, WriteOutcome, dword, write_answer, written}
use Rattle.model.specs.declared.call.EditOperands.{EditOperands}
use Rattle.model.specs.declared.call.EntryName.{EntryName}
use Rattle.model.specs.declared.refusal.Refusal.{Refusal}
use Rattle.model.specs.declared.refusal.Refusal.TheVariants.{BadEntryName, EntryNotWritten}
use Rattle.model.specs.declared.registers.Registers.{Registers}
use Rattle.model.specs.States.{Effect, State, answered, only_answers}
use Rattle.model.specs.Tlb.{base_of, drop, read_from, rest, tag_of}

-- the name of an entry: a space of two, a table level of two, a page of those there are
abbrev pub named_level : ℕ → Option TableLevel
named_level n = if n == 1 then Some First else if n == 2 then Some Second else None

abbrev pub named : Layout → EditOperands → Option EntryName
named l x =
    if nat_le x.space 1 && nat_lt x.page l.page_count then option_map (λ t. record { space = x.space; level = t; page = x.page }) (named_level x.level)
    else None

-- where the entry lies: as a walk goes, marking nothing, and asking only V of the first entry on the way to the second
abbrev pub reached_second : Layout → ℕ → ℕ → Values → Option ℕ
reached_second l a page m = option_and_then (λ e. if l.valid e then Some (l.second_entry (l.frame e) page) else None) (m (dword a))

abbrev pub reached_at : Layout → TableLevel → ℕ → ℕ → Values → Option ℕ
reached_at l First a page m = Some a
reached_at l Second a page m = reached_second l a page m

abbrev pub reached : Layout → EntryName → Registers → Values → Option ℕ
reached l n r m = reached_at l n.level (l.first_entry (base_of r (tag_of r n.space n.page)) n.page) n.page m

-- the entry at a is written, and its token carries a
abbrev pub rewritten : ℕ → ℕ → WriteOutcome → State → Writable → Effect (Result ℕ Refusal)
rewritten a v (Ok _) s w = record { outcome = answered (Ok a) s.registers (written s.values w (dword a) v); action = rest }
rewritten a v (Err _) s w = only_answers (Err EntryNotWritten) s

-- the entry is reached or not
abbrev pub edit_reached : Option ℕ → ℕ → State → Writable → Effect (Result ℕ Refusal)
edit_reached None v s w = only_answers (Err EntryNotWritten) s
edit_reached (Some a) v s w = rewritten a v (write_answer (s.values (dword a)) (w (dword a))) s w

-- it has a name or not
abbrev pub edit_named : Layout → Option EntryName → ℕ → State → Writable → Effect (Result ℕ Refusal)
edit_named l None v s w = only_answers (Err BadEntryName) s
edit_named l (Some n) v s w = edit_reached (reached l n s.registers s.values) v s w

abbrev pub edit : Layout → EditOperands → State → Writable → Effect (Result ℕ Refusal)
edit l x s w = edit_named l (named l x) x.value s w

-- the flush of a token: what was read from its address, as either entry, is dropped
abbrev pub flush : ℕ → State → Effect (Unit {0})
flush address s = record { outcome = answered tt s.registers s.values; action = drop (read_from address) }
