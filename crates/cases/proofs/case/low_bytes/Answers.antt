use mathlib.Core.Path.{◌≡◌, ap, ◌∙◌}
use native.Mathlib.Omega.{arith}
use Prim.Native.Nat.{min, ◌%◌}
use lib.ListN.{length}
use Rattle.std.specs.Prelude.{map}
use Rattle.std.proofs.lemmas.List.{take-append-le, take_min}
use Rattle.cases.proofs.case.low_bytes.Goals as goal

pub returns : goal.returns
returns c =
    let numbers = c.args.numbers.now in
    let n : c.in_ok-bytes.bytes.len ≡ min 4200 (length numbers) = omega (arith, c.in_ok-bytes.ensures.len, c.min.ensures) in
    let all : c.as_bytes.result ≡ c.in_ok-bytes.bytes.len = omega (arith, c.as_bytes.ensures.count, c.deref_mut.ensures.len, n) in
    take-append-le _ c.as_bytes.new.out _ (omega (arith, c.as_bytes.auto.out, c.deref_mut.ensures.len)) ∙ (rw all at c.as_bytes.ensures.bytes) ∙ ap (map (λ n. n % 256)) (rw n (take_min 4200 numbers))
