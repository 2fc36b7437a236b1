use Rattle.std.proofs.Common.{◌≡◌, ◌%◌, length, map, take}
use Rattle.cases.proofs.case.as_bytes.Given as goal

abbrev pub invariant-loop-i : goal.invariant-loop-i
invariant-loop-i l = (length l.out ≡ length l.initial.out) × (take l.i l.out ≡ map (λ n. n % 256) (take l.i l.numbers))
