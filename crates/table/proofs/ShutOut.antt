-- No slip is in the definitions, and no fake is allowed: the right answer is, and there is only one.
use mathlib.Core.Path.{◌≡◌, sym, ap, ◌∙◌}
use mathlib.Core.List.{List}
use Prim.Native.Nat.{ℕ}
use native.Mathlib.Omega.{arith}
use lib.IntN.{ℤ, pos, nat_abs}
use lib.ListN.{get_or}
use Rattle.lists.specs.Each.{each, tab}
use Rattle.refusals.proofs.Answering.{outcome_determined}
use Rattle.pictures.proofs.SmallPuzzles as Small
use Rattle.table.specs.Fakes.{SlipsRuledOut, FakesShutOut}
use Rattle.table.proofs.Computing.{computed}

-- the i-th word, as a number
abbrev at : ℕ → List ℤ → ℕ
at i out = nat_abs (get_or out i (pos 0))

pub slips_ruled_out : SlipsRuledOut
slips_ruled_out = computed.slips

pub fakes_shut_out : FakesShutOut
unfolding tab each
fakes_shut_out = record {
  refusing = λ k p out a. absurd (omega (arith, (outcome_determined _ _ a computed.of_p8).0));
  fixed = λ n p m q out a b.
      let e : ◌≡◌ {A = ℕ} 1 2 = ap (at 4) (sym (outcome_determined _ _ a computed.of_p8).2 ∙ (outcome_determined _ _ b computed.of_p10).2) in
      absurd (omega arith);
  untouched = λ n p a. let e : ◌≡◌ {A = ℕ} 7 1 = ap (at 0) (outcome_determined _ _ a computed.of_p8).2 in absurd (omega arith);
  untouched_too = λ n p a. let e : ◌≡◌ {A = ℕ} 7 1 = ap (at 0) (outcome_determined _ _ a computed.of_p10).2 in absurd (omega arith);
  only_one = λ n p a. let e : ◌≡◌ {A = ℕ} 7 1 = ap (at 3) (outcome_determined _ _ a computed.of_p8).2 in absurd (omega arith);
  false_picture = (computed.first_section.0, computed.first_section.1, (Small.computed).level_off);
  accepting = λ n p out a. let d = outcome_determined _ _ a computed.no_model in (d.0, d.1);
  words_counted = λ n p out a. (outcome_determined _ _ a computed.of_p8).1;
  clauses_counted = λ n p out a. (outcome_determined _ _ a computed.counts_of_p10).2;
}
