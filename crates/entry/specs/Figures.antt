-- Worked figures of the definitions, all in one statement.
use Rattle.std.specs.Prelude.{◌≡◌, Bool, true, false, Some}
use Rattle.entry.specs.Fields.{fields_of}
use Rattle.entry.specs.NS32382.{ns32382}
use Rattle.entry.specs.Access.{access_level, effective_protection, permits}
use Rattle.entry.specs.Bus.{breakpoint_match, merge_answer}
use Rattle.entry.specs.declared.TableLevel.TheVariants.{Second}
use Rattle.entry.specs.declared.access.Mode.TheVariants.{Supervisor, User}
use Rattle.entry.specs.declared.access.AccessKind.TheVariants.{Read, Write}

pub record Figures : Type 0 where
  -- a supervisor's read is level 0; a user's write is 1 with the override and 3 without
  pub supervisor_read : (override : Bool) → access_level Supervisor override Read ≡ 0
  pub user_write_overridden : access_level User true Write ≡ 1
  pub user_write : access_level User false Write ≡ 3
  -- 0x00403004 has the indices 1 and 3 and the offset 4
  pub first_index : ns32382.first_index (ns32382.page 0x00403004) ≡ 1
  pub second_index : ns32382.second_index (ns32382.page 0x00403004) ≡ 3
  pub offset : ns32382.offset 0x00403004 ≡ 4
  -- 0x00005005 has V 1, PL 2, PFN 5 and all else 0
  pub fields : fields_of 0x00005005 ≡ record { valid = true; protection = 2; unused = 0; inhibit = false; referenced = false; modified = false; user = 0; frame = 5 }
  -- marked referenced it is 0x00005085, then modified 0x00005185
  pub referenced : ns32382.mark_referenced Second 0x00005005 ≡ 0x00005085
  pub modified : ns32382.mark_modified Second 0x00005085 ≡ 0x00005185
  -- PL 3 over PL 2 gives 2, which level 2 passes and level 3 does not
  pub smaller : effective_protection 3 2 ≡ 2
  pub level_2_passes : permits (effective_protection 3 2) 2 ≡ true
  pub level_3_stops : permits (effective_protection 3 2) 3 ≡ false
  -- PL 0 passes level 0 and not level 1
  pub level_0_passes : permits 0 0 ≡ true
  pub level_1_stops : permits 0 1 ≡ false
  -- 0x11223344 with the mask 5 over 0xaabbccdd leaves 0xaa22cc44
  pub merge : merge_answer 0xaabbccdd 0x11223344 5 ≡ Some 0xaa22cc44
  -- a breakpoint at 0x00403000 with the mask 0xfffff000 matches 0x00403004 and not 0x00404004
  pub break_here : breakpoint_match 0x00403004 0x00403000 0xfffff000 ≡ true
  pub break_elsewhere : breakpoint_match 0x00404004 0x00403000 0xfffff000 ≡ false
