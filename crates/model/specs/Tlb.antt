-- Kept translations: how one is found, and what a call can do with them.
use Rattle.std.specs.Prelude.{◌≡◌, ℕ, suc, Bool, true, ◌&&◌, ◌||◌, List, [], ◌∷◌, map, replicate, Some, None, Option, if◌then◌else◌, ◌==◌, slice_index_or, slice_set}
use Rattle.model.specs.declared.registers.Registers.{Registers}
use Rattle.model.specs.declared.translation.Tag.{Tag}
use Rattle.model.specs.declared.translation.Translation.{Translation}
use Rattle.model.specs.declared.translation.Hit.{Hit}
use Rattle.model.specs.NextSlot.{first_next, next_after, slot_count}

-- the tag under which the translation of a page in a space is kept
abbrev pub tag_of : Registers → ℕ → ℕ → Tag
tag_of r space page = record { space = space; page = page }

-- the address of the first table that a tag is walked from
abbrev pub base_of : Registers → Tag → ℕ
base_of r t = if t.space == 0 then r.ptb0 else r.ptb1

abbrev pub same_tag : Tag → Tag → Bool
same_tag t u = t.space == u.space && t.page == u.page

-- a slot is empty or holds a translation
abbrev pub Slots : Type 0
Slots = List (Option Translation)

-- slot i holds the translation t
abbrev pub Holds : Slots → ℕ → Translation → Type 0
Holds xs i t = slice_index_or xs i None ≡ Some t

-- the translation kept under a tag, with its slot; slots are numbered from i
abbrev pub find_from : ℕ → Tag → Slots → Option Hit
find_from i tag [] = None
find_from i tag (None ∷ xs) = find_from (suc i) tag xs
find_from i tag (Some t ∷ xs) = if same_tag t.tag tag then Some (record { slot = i; translation = t }) else find_from (suc i) tag xs

abbrev pub find : Tag → Slots → Option Hit
find tag xs = find_from 0 tag xs

-- which translations a call drops
abbrev pub Which : Type 0
Which = Translation → Bool

abbrev pub of_tag : Tag → Which
of_tag tag t = same_tag t.tag tag

abbrev pub in_space : ℕ → Which
in_space space t = t.tag.space == space

abbrev pub read_from : ℕ → Which
read_from address t = t.first == address || t.second == address

abbrev pub each : Which
each t = true

abbrev pub dropped : Which → Option Translation → Option Translation
dropped which None = None
dropped which (Some t) = if which t then None else Some t

abbrev pub without : Which → Slots → Slots
without which xs = map (dropped which) xs

-- a slot filled, whatever it held
abbrev pub filled : ℕ → Translation → Slots → Slots
filled i t xs = slice_set xs i (Some t)

pub record Tlb : Type 0 where
  pub slots : Slots
  pub next : ℕ

abbrev pub empty_tlb : Tlb
empty_tlb = record { slots = replicate slot_count None; next = first_next }

-- what a call does with the kept translations
pub data TlbAction : Type 0 where
  -- nothing
  rest : TlbAction
  -- it is served by one of them
  hit : Hit → TlbAction
  -- it drops some
  drop : Which → TlbAction
  -- it fills a slot, the one that is next, with what its walk found, after dropping what was kept under that tag
  fill : ℕ → Translation → TlbAction

abbrev pub acted : TlbAction → Tlb → Tlb
acted rest k = k
acted (hit h) k = k
acted (drop which) k = record k { slots = without which k.slots }
acted (fill i t) k = record { slots = filled i t (without (of_tag t.tag) k.slots); next = next_after k.next }
