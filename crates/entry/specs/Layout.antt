-- What a page table walk asks of table entries and of addresses: a record of operations, and the laws that they
-- owe. A walk, and all that is proved of it, rests on what is asked here alone, so that another layout can be given.
use Rattle.std.specs.Prelude.{◌≡◌, ℕ, ◌+◌, ◌*◌, ◌^◌, ◌<◌, ◌≤◌, Bool, IsTrue, IsFalse}
use Rattle.entry.specs.declared.TableLevel.{TableLevel}
use Rattle.entry.specs.declared.TableLevel.TheVariants.{First, Second}

pub record Layout : Type 0 where
  -- of an entry: whether it is valid, its protection level, whether it is referenced, its frame
  pub valid : ℕ → Bool
  pub protection : ℕ → ℕ
  pub referenced : ℕ → Bool
  pub frame : ℕ → ℕ
  -- whether it is modified, and whether it inhibits the cache, in a table of that level
  pub modified : TableLevel → ℕ → Bool
  pub inhibit : TableLevel → ℕ → Bool
  -- the two marks, in a table of that level
  pub mark_referenced : TableLevel → ℕ → ℕ
  pub mark_modified : TableLevel → ℕ → ℕ
  -- how many bytes a page has, and how many pages there are
  pub page_size : ℕ
  pub page_count : ℕ
  -- the page number of an address, and the place in its page
  pub page : ℕ → ℕ
  pub offset : ℕ → ℕ
  -- which entry of the first table, and which of the second, belongs to a page number
  pub first_index : ℕ → ℕ
  pub second_index : ℕ → ℕ
  -- what a load of a base register leaves of the value
  pub base : ℕ → ℕ
  -- the address of the first entry, by base and page number, and of the second, by frame and page number
  pub first_entry : ℕ → ℕ → ℕ
  pub second_entry : ℕ → ℕ → ℕ
  -- the physical address, by frame and offset
  pub physical : ℕ → ℕ → ℕ

pub record Lawful (l : Layout) : Type 0 where
  -- marking referenced sets that flag, and leaves all else that a walk asks
  pub referenced_set : (t : TableLevel) (e : ℕ) → IsTrue (l.referenced (l.mark_referenced t e))
  pub referenced_stays : (t : TableLevel) (e : ℕ) → IsTrue (l.referenced e) → l.mark_referenced t e ≡ e
  pub referenced_valid : (t : TableLevel) (e : ℕ) → l.valid (l.mark_referenced t e) ≡ l.valid e
  pub referenced_protection : (t : TableLevel) (e : ℕ) → l.protection (l.mark_referenced t e) ≡ l.protection e
  pub referenced_frame : (t : TableLevel) (e : ℕ) → l.frame (l.mark_referenced t e) ≡ l.frame e
  pub referenced_modified : (t u : TableLevel) (e : ℕ) → l.modified u (l.mark_referenced t e) ≡ l.modified u e
  pub referenced_inhibit : (t u : TableLevel) (e : ℕ) → l.inhibit u (l.mark_referenced t e) ≡ l.inhibit u e
  -- marking modified sets that flag in the second table, and does nothing in the first
  pub modified_set : (e : ℕ) → IsTrue (l.modified Second (l.mark_modified Second e))
  pub modified_first : (e : ℕ) → l.mark_modified First e ≡ e
  pub modified_stays : (t : TableLevel) (e : ℕ) → IsTrue (l.modified t e) → l.mark_modified t e ≡ e
  pub modified_valid : (t : TableLevel) (e : ℕ) → l.valid (l.mark_modified t e) ≡ l.valid e
  pub modified_protection : (t : TableLevel) (e : ℕ) → l.protection (l.mark_modified t e) ≡ l.protection e
  pub modified_frame : (t : TableLevel) (e : ℕ) → l.frame (l.mark_modified t e) ≡ l.frame e
  pub modified_referenced : (t : TableLevel) (e : ℕ) → l.referenced (l.mark_modified t e) ≡ l.referenced e
  pub modified_inhibit : (t u : TableLevel) (e : ℕ) → l.inhibit u (l.mark_modified t e) ≡ l.inhibit u e
  -- the first table has neither of the two
  pub first_modified : (e : ℕ) → IsFalse (l.modified First e)
  pub first_inhibit : (e : ℕ) → IsFalse (l.inhibit First e)
  -- protection levels are 0 to 3
  pub protection_small : (e : ℕ) → l.protection e ≤ 3
  -- an address is its page number and its offset; each page number below the limit has an address of 32 bits
  pub address_parts : (a : ℕ) → a ≡ l.page a * l.page_size + l.offset a
  pub offset_small : (a : ℕ) → l.offset a < l.page_size
  pub page_start : (p : ℕ) → l.page (p * l.page_size) ≡ p
  pub pages_fit : l.page_count * l.page_size ≤ 2 ^ 32
  pub page_small : (a : ℕ) → a < 2 ^ 32 → l.page a < l.page_count
  -- a base register holds zero where zero is loaded, and what it holds loads as itself
  pub base_zero : l.base 0 ≡ 0
  pub base_again : (v : ℕ) → l.base (l.base v) ≡ l.base v
  -- no address of an entry, and no physical address, leaves the 32 bits
  pub first_entry_small : (v p : ℕ) → v < 2 ^ 32 → l.first_entry (l.base v) p < 2 ^ 32
  pub second_entry_small : (f p : ℕ) → l.second_entry f p < 2 ^ 32
  pub physical_small : (f a : ℕ) → l.physical f (l.offset a) < 2 ^ 32

-- what the laws of runs ask besides: the frames of two entries are told apart by where they put one and the same address
abbrev pub DistinctFrames : Layout → Type 0
DistinctFrames l = (e f a : ℕ) → l.physical (l.frame e) (l.offset a) ≡ l.physical (l.frame f) (l.offset a) → l.frame e ≡ l.frame f
