-- The walk through both tables. The unit makes it, and so does the machine that keeps nothing.
use Rattle.std.specs.Prelude.{ℕ, Bool, false, not, Some, None, Ok, Err, Option, Result, if◌then◌else◌, ◌==◌}
use Rattle.std.specs.Result.{result_map_both}
use Rattle.entry.specs.Access.{effective_protection, permits}
use Rattle.entry.specs.Layout.{Layout}
use Rattle.entry.specs.declared.TableLevel.{TableLevel}
use Rattle.entry.specs.declared.TableLevel.TheVariants.{First, Second}
use Rattle.physical.specs.Stores.{Values, Writable, dword, write_answer, written}
use Rattle.physical.specs.declared.MemoryError.TheVariants.{Absent}
use Rattle.model.specs.declared.refusal.Abort.{Abort}
use Rattle.model.specs.declared.refusal.Abort.TheVariants.{InvalidEntry, Protection, EntryRefused}
use Rattle.model.specs.declared.translation.Tag.{Tag}
use Rattle.model.specs.declared.translation.Translation.{Translation}

-- the entry at an address, once it is read, for an access of that level: V is asked, then PL
abbrev pub passed : Layout → TableLevel → ℕ → ℕ → Option ℕ → Result ℕ Abort
passed l t level a None = Err (EntryRefused t a Absent)
passed l t level a (Some e) =
    if not (l.valid e) then Err (InvalidEntry t a)
    else if not (permits (l.protection e) level) then Err Protection
    else Ok e

-- an entry as a walk leaves it
abbrev pub marked : Layout → TableLevel → Bool → ℕ → ℕ
marked l t modifies e = if modifies then l.mark_modified t (l.mark_referenced t e) else l.mark_referenced t e

-- the mark, made by one write if it alters the entry: the entry as it then stands, and the memory. A refused write leaves
-- the memory as it was (`written` says so)
abbrev pub touched : Layout → TableLevel → Bool → ℕ → ℕ → Values → Writable → Result ℕ Abort × Values
touched l t modifies a e m w =
    let mark = marked l t modifies e in
    if mark == e then (Ok e, m)
    else (result_map_both (λ _. mark) (EntryRefused t a) (write_answer (m (dword a)) (w (dword a))), written m w (dword a) mark)

-- what a walk found, of the entries as it left them
abbrev pub found : Layout → Tag → ℕ → ℕ → ℕ → ℕ → Translation
found l tag a e b f = record {
  tag = tag;
  frame = l.frame f;
  protection = effective_protection (l.protection e) (l.protection f);
  inhibit = l.inhibit Second f;
  modified = l.modified Second f;
  first = a;
  second = b;
}

-- a step that is done is followed by the next, on the memory that it left; one that stopped ends the walk
abbrev pub and_then : {A B : Type 0} → Result A Abort × Values → (A → Values → Result B Abort × Values) → Result B Abort × Values
and_then (Ok x, m) next = next x m
and_then (Err x, m) next = (Err x, m)

-- the second table: its entry lies at b; the first entry, at a, is e
abbrev pub walk_second : Layout → ℕ → Bool → Tag → ℕ → ℕ → ℕ → Values → Writable → Result Translation Abort × Values
walk_second l level modifies tag a e b m w =
    and_then (passed l Second level b (m (dword b)), m) (λ f n.
    and_then (touched l Second modifies b f n w) (λ g p.
    (Ok (found l tag a e b g), p)))

-- the walk from the first table at `base`, for an access of that level that marks the page modified or not
abbrev pub walk : Layout → ℕ → Bool → Tag → ℕ → Values → Writable → Result Translation Abort × Values
walk l level modifies tag base m w =
    let a = l.first_entry base tag.page in
    and_then (passed l First level a (m (dword a)), m) (λ e n.
    and_then (touched l First false a e n w) (λ g p.
    walk_second l level modifies tag a g (l.second_entry (l.frame g) tag.page) p w))
