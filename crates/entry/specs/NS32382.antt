-- The layout of the NS32382: entries of 32 bits, virtual addresses of 32 bits, pages of 4,096 bytes.
use Rattle.std.specs.Prelude.{◌≡◌, ℕ, ◌+◌, ◌-◌, ◌*◌, ◌/◌, ◌%◌, ◌^◌, ◌<◌, Bool, false, bit_or}
use Rattle.entry.specs.Bits.{field, flag}
use Rattle.entry.specs.Fields.{fields_of}
use Rattle.entry.specs.Layout.{Layout}
use Rattle.entry.specs.declared.EntryFields.{EntryFields}
use Rattle.entry.specs.declared.TableLevel.{TableLevel}
use Rattle.entry.specs.declared.TableLevel.TheVariants.{First, Second}

-- a flag that only the second table has; the first ignores its bit
abbrev pub second_only : (EntryFields → Bool) → TableLevel → ℕ → Bool
second_only flag First e = false
second_only flag Second e = flag (fields_of e)

-- the same of a bit, by its number
abbrev pub second_bit : ℕ → TableLevel → ℕ → Bool
second_bit k First e = false
second_bit k Second e = flag k e

-- a mark that only the second table takes
abbrev pub mark_second : ℕ → TableLevel → ℕ → ℕ
mark_second k First e = e
mark_second k Second e = bit_or e (2 ^ k)

-- entries by their fields; R is bit 7 and M bit 8. Of an address, bits 22-31 choose the first entry, bits 12-21 the
-- second, bits 0-11 the byte (`AddressBits` says so bit by bit)
abbrev pub ns32382 : Layout
ns32382 = record {
  valid = λ e. (fields_of e).valid;
  protection = λ e. (fields_of e).protection;
  referenced = λ e. (fields_of e).referenced;
  frame = λ e. (fields_of e).frame;
  modified = second_only (λ f. f.modified);
  inhibit = second_only (λ f. f.inhibit);
  mark_referenced = λ t e. bit_or e (2 ^ 7);
  mark_modified = mark_second 8;
  page_size = 4096;
  page_count = 1048576;
  page = λ a. a / 4096;
  offset = λ a. a % 4096;
  first_index = λ p. p / 1024 % 1024;
  second_index = λ p. p % 1024;
  base = λ v. v - v % 4096;
  first_entry = λ b p. b - b % 4096 + 4 * (p / 1024 % 1024);
  second_entry = λ f p. f % 1048576 * 4096 + 4 * (p % 1024);
  physical = λ f o. f % 1048576 * 4096 + o % 4096;
}

-- the parts of an address, by its bits
pub record AddressBits : Type 0 where
  pub page : (a : ℕ) → a < 2 ^ 32 → ns32382.page a ≡ field 12 20 a
  pub first_index : (a : ℕ) → a < 2 ^ 32 → ns32382.first_index (ns32382.page a) ≡ field 22 10 a
  pub second_index : (a : ℕ) → a < 2 ^ 32 → ns32382.second_index (ns32382.page a) ≡ field 12 10 a
  pub offset : (a : ℕ) → ns32382.offset a ≡ field 0 12 a
