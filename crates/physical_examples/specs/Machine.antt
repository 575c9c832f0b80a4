-- A machine of a ROM below a RAM, and what two writes and three reads show of a memory.
use Rattle.std.specs.Prelude.{false, None}
use Rattle.physical.specs.Composed.{paired, shifted}
use Rattle.physical.specs.Made.{ram_values, ram_writable, rom_values, rom_writable}
use Rattle.physical.specs.Stores.{Values, Writable, read_answer, write_answer, written}
use Rattle.physical.specs.declared.pair.Pair.{Pair}
use Rattle.physical.specs.declared.ram.Ram.{Ram}
use Rattle.physical.specs.declared.rom.Rom.{Rom}
use Rattle.physical.specs.declared.shift.Shift.{Shift}
use Rattle.physical_examples.specs.declared.Seen.{Seen}

abbrev pub machine_values : Pair Rom (Shift Ram) → Values
machine_values p = paired p.split (rom_values p.first) (shifted p.second.distance None (ram_values p.second.inner))

abbrev pub machine_writable : Pair Rom (Shift Ram) → Writable
machine_writable p = paired p.split (rom_writable p.first) (shifted p.second.distance false (ram_writable p.second.inner))

-- 7 written to the double-word 1023 and 0x11223344 to 2049, then 1023, 2049 and 1024 read
abbrev pub exercised : Values → Writable → Seen
exercised m w =
    let after_rom = written m w 1023 7 in
    let after_ram = written after_rom w 2049 0x11223344 in
    record {
      rom = read_answer (after_ram 1023);
      rom_write = write_answer (m 1023) (w 1023);
      ram_write = write_answer (after_rom 2049) (w 2049);
      ram = read_answer (after_ram 2049);
      beyond = read_answer (after_ram 1024);
    }
