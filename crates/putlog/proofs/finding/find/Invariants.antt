use Rattle.std.proofs.Common.{◌≡◌, ◌+◌, length, take}
use Rattle.putlog.specs.Puts.{all_entries}
use Rattle.putlog.proofs.finding.find.Given as goal

abbrev pub invariant-loop-i : goal.invariant-loop-i
invariant-loop-i l = length (all_entries (take l.i-counter l.puts)) + l.left ≡ l.k
