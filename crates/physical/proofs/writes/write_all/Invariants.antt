use Rattle.std.proofs.Common.{◌≡◌, ◌+◌, ◌≤◌, drop}
use Rattle.physical.specs.Writes.{accepted_count, after_writes}
use Rattle.physical.proofs.writes.write_all.Given as goal

-- the writes that are left lead from here to where all of them lead from the start
abbrev pub invariant-loop-write : goal.invariant-loop-write
invariant-loop-write g l =
    let values = g.M.ReadableStore.values in
    let writable = g.M.Memory.writable l.initial.memory in
    let left = drop l.write-index l.writes in
    (after_writes (values l.memory) writable left ≡ after_writes (values l.initial.memory) writable l.writes)
    × (l.count + accepted_count (values l.memory) writable left ≡ accepted_count (values l.initial.memory) writable l.writes)
    × (g.M.Memory.writable l.memory ≡ writable)
    × (g.M.Memory.loans l.memory ≡ g.M.Memory.loans l.initial.memory)
    × (l.count ≤ l.write-index)
