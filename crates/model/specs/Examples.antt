-- Two runs worked out by the definitions.
use Rattle.std.specs.Prelude.{◌≡◌, ℕ, Bool, true, false, List, [], ◌∷◌, replicate, Some, None, Ok, Err, if◌then◌else◌, nat_lt, IsTrue}
use Rattle.entry.specs.NS32382.{ns32382}
use Rattle.physical.specs.Stores.{Values, dword}
use Rattle.physical.specs.Made.{everywhere}
use Rattle.model.specs.declared.call.Call.{Call}
use Rattle.model.specs.declared.call.Call.TheVariants.{Load, Access, BusRead, BusWrite, Edit, Flush}
use Rattle.model.specs.declared.call.Reply.TheVariants.{Done, Value, Translated, Edited, Flushed}
use Rattle.model.specs.declared.refusal.Abort.TheVariants.{Protection}
use Rattle.model.specs.declared.refusal.Refusal.TheVariants.{Aborted}
use Rattle.model.specs.declared.translation.Translation.{Translation}
use Rattle.model.specs.Calls.{RunState, after, answers, start}
use Rattle.model.specs.Currency.{current}
use Rattle.model.specs.Tlb.{Holds}

-- 32,768 bytes of zeroed RAM at address 0
abbrev pub zeroed_ram : Values
zeroed_ram q = if nat_lt q 8192 then Some 0 else None

-- PTB0 and MCR are loaded and two entries written; then a user reads, a user writes, and the second entry is read
abbrev pub worked_calls : List Call
worked_calls =
    Load 12 0x1000 ∷ Load 9 3 ∷ BusWrite 0x1004 0 15 0x2007 ∷ BusWrite 0x200c 0 15 0x5005
    ∷ Access 1 0 0x00403004 ∷ Access 1 1 0x00403004 ∷ BusRead 0x200c 0 ∷ []

abbrev pub worked_end : RunState
worked_end = after ns32382 everywhere worked_calls (start zeroed_ram)

-- what the read left to be kept
abbrev pub worked_translation : Translation
worked_translation = record {
  tag = record { space = 0; page = 0x403 };
  frame = 5;
  protection = 2;
  inhibit = false;
  modified = false;
  first = 0x1004;
  second = 0x200c;
}

-- the state after one more write of its second entry
abbrev pub rewritten_to : ℕ → RunState
rewritten_to v = after ns32382 everywhere (BusWrite 0x200c 0 15 v ∷ []) worked_end

-- slot 0 holds the same translation then, and whether it is current
abbrev pub KeptThen : ℕ → Bool → Type 0
KeptThen v is_current =
    Holds (rewritten_to v).unit.tlb.slots 0 worked_translation
    × (current ns32382 (rewritten_to v).unit.registers (rewritten_to v).unit.values worked_translation ≡ is_current)

pub record WorkedRun : Type 0 where
  pub answers : answers ns32382 everywhere worked_calls (start zeroed_ram)
      ≡ Ok Done ∷ Ok Done ∷ Ok Done ∷ Ok Done ∷ Ok (Translated 0x5004 false) ∷ Err (Aborted Protection) ∷ Ok (Value 0x5085) ∷ []
  pub registers : worked_end.unit.registers
      ≡ record { bar = 0; bmr = 0; bdr = 0; bear = 0; mcr = 3; msr = 0x00f; tear = 0x00403004; ptb0 = 0x1000; ptb1 = 0 }
  pub kept : worked_end.unit.tlb.slots ≡ Some worked_translation ∷ replicate 31 None
  pub next : worked_end.unit.tlb.next ≡ 1
  pub first_entry : worked_end.unit.values (dword 0x1004) ≡ Some 0x2087
  pub second_entry : worked_end.unit.values (dword 0x200c) ≡ Some 0x5085
  pub current_at_end : IsTrue (current ns32382 worked_end.unit.registers worked_end.unit.values worked_translation)
  -- with R and a bit of the user's set it is as current as before; with R clear it is stale
  pub still_current : KeptThen 0x00005285 true
  pub stale : KeptThen 0x00005005 false

-- A write through what is kept: a user reads a page and then writes to it, twice; the host clears M by an edit and flushes;
-- the user writes once more. The second entry is read after the read, after the first write and at the end
abbrev pub write_calls : List Call
write_calls =
    Load 12 0x1000 ∷ Load 9 3 ∷ BusWrite 0x1004 0 15 0x2007 ∷ BusWrite 0x200c 0 15 0x5007
    ∷ Access 1 0 0x00403004 ∷ BusRead 0x200c 0
    ∷ Access 1 1 0x00403004 ∷ BusRead 0x200c 0 ∷ Access 1 1 0x00403008
    ∷ Edit (record { space = 0; level = 2; page = 0x403; value = 0x5087 }) ∷ Flush 0x200c
    ∷ Access 1 1 0x00403004 ∷ BusRead 0x200c 0 ∷ []

abbrev pub write_end : RunState
write_end = after ns32382 everywhere write_calls (start zeroed_ram)

pub record WriteRun : Type 0 where
  pub answers : answers ns32382 everywhere write_calls (start zeroed_ram)
      ≡ Ok Done ∷ Ok Done ∷ Ok Done ∷ Ok Done
      ∷ Ok (Translated 0x5004 false) ∷ Ok (Value 0x5087)
      ∷ Ok (Translated 0x5004 false) ∷ Ok (Value 0x5187) ∷ Ok (Translated 0x5008 false)
      ∷ Ok (Edited 0x200c) ∷ Ok Flushed
      ∷ Ok (Translated 0x5004 false) ∷ Ok (Value 0x5187) ∷ []
  -- slot 0 was filled by the read and emptied by the first write, slot 1 filled by that write and emptied by the flush
  pub kept : write_end.unit.tlb.slots
      ≡ None ∷ None
      ∷ Some (record { tag = record { space = 0; page = 0x403 }; frame = 5; protection = 3; inhibit = false; modified = true; first = 0x1004; second = 0x200c })
      ∷ replicate 29 None
  pub next : write_end.unit.tlb.next ≡ 3
  pub no_token_open : write_end.open_tokens ≡ []
  pub first_entry : write_end.unit.values (dword 0x1004) ≡ Some 0x2087
  pub registers : write_end.unit.registers ≡ record { bar = 0; bmr = 0; bdr = 0; bear = 0; mcr = 3; msr = 0; tear = 0; ptb0 = 0x1000; ptb1 = 0 }
