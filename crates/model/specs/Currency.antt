-- Whether a kept translation still tells what the tables say.
use Rattle.std.specs.Prelude.{ℕ, Bool, false, not, ◌&&◌, ◌||◌, Some, None, Option, if◌then◌else◌, ◌==◌, nat_lt}
use Rattle.std.specs.Bool.{beq}
use Rattle.std.specs.Option.{option_and_then, option_map, option_map_or}
use Rattle.entry.specs.Layout.{Layout}
use Rattle.physical.specs.Stores.{Values, dword}
use Rattle.model.specs.declared.registers.Registers.{Registers}
use Rattle.model.specs.declared.translation.Tag.{Tag}
use Rattle.model.specs.declared.translation.Translation.{Translation}
use Rattle.model.specs.Tlb.{base_of}
use Rattle.model.specs.Walk.{found}

-- the entry at an address, if it is present with V and R set
abbrev pub used_entry : Layout → ℕ → Values → Option ℕ
used_entry l a m = option_and_then (λ e. if l.valid e && l.referenced e then Some e else None) (m (dword a))

-- what a walk of level 0 finds now in the second table, if it need not mark anything referenced; the first entry, at a, is e
abbrev pub found_second : Layout → Tag → ℕ → Values → ℕ → Option Translation
found_second l tag a m e =
    let b = l.second_entry (l.frame e) tag.page in
    option_map (found l tag a e b) (used_entry l b m)

-- what it finds from the first table on, if it need not mark anything there either
abbrev pub found_now : Layout → Tag → ℕ → Values → Option Translation
found_now l tag base m =
    let a = l.first_entry base tag.page in
    option_and_then (found_second l tag a m) (used_entry l a m)

-- the translation t says what n says: protection, frame and cache inhibit, and modified if t is and its protection lets a write pass
abbrev pub says_as : Translation → Translation → Bool
says_as t n =
    t.protection == n.protection && t.frame == n.frame && beq t.inhibit n.inhibit
    && (not (t.modified && nat_lt 0 t.protection) || n.modified)

-- current: such a walk now, from the base register of its space, finds what it says. Otherwise it is stale. Where the
-- entries lie is not compared
abbrev pub current : Layout → Registers → Values → Translation → Bool
current l r m t = option_map_or (says_as t) (found_now l t.tag (base_of r t.tag) m) false
