-- A page table entry as 32 bits, and as its eight fields.
use Rattle.std.specs.Prelude.{◌≡◌, ℕ, ◌+◌, ◌*◌, ◌^◌, ◌<◌, Bool, IsTrue, if◌then◌else◌, ◌&&◌, Some, None, Option, nat_lt}
use Rattle.entry.specs.Bits.{as_bit, field, flag}
use Rattle.entry.specs.declared.EntryFields.{EntryFields}
use Rattle.entry.specs.declared.FieldTooWide.{FieldTooWide}

-- V bit 0, PL bits 1-2, NU bits 3-5, CI bit 6, R bit 7, M bit 8, USR bits 9-11, PFN bits 12-31
abbrev pub fields_of : ℕ → EntryFields
fields_of w = record {
  valid = flag 0 w;
  protection = field 1 2 w;
  unused = field 3 3 w;
  inhibit = flag 6 w;
  referenced = flag 7 w;
  modified = flag 8 w;
  user = field 9 3 w;
  frame = field 12 20 w;
}

-- each field lies within its width
abbrev pub fit : EntryFields → Bool
fit f = nat_lt f.protection (2 ^ 2) && (nat_lt f.unused (2 ^ 3) && (nat_lt f.user (2 ^ 3) && nat_lt f.frame (2 ^ 20)))

-- the 32 bits of fields that fit
abbrev pub entry_of : EntryFields → ℕ
entry_of f =
    as_bit f.valid * 2 ^ 0 + f.protection * 2 ^ 1 + f.unused * 2 ^ 3 + as_bit f.inhibit * 2 ^ 6
    + as_bit f.referenced * 2 ^ 7 + as_bit f.modified * 2 ^ 8 + f.user * 2 ^ 9 + f.frame * 2 ^ 12

-- the one value of the error
abbrev pub too_wide : FieldTooWide
too_wide = record {}

-- putting together: refused where a field is too wide
abbrev pub encoded : EntryFields → Option ℕ
encoded f = if fit f then Some (entry_of f) else None

-- taking apart and putting together lose nothing, either way round
pub record RoundTrips : Type 0 where
  pub same_bits : (w : ℕ) → w < 2 ^ 32 → encoded (fields_of w) ≡ Some w
  pub same_fields : (f : EntryFields) → IsTrue (fit f) → (encoded f ≡ Some (entry_of f)) × (entry_of f < 2 ^ 32) × (fields_of (entry_of f) ≡ f)
